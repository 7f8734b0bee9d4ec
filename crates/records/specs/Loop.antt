-- A loop, defined once for every layer: turns are taken from a state until one stops with an answer.
use Rattle.std.specs.Prelude.{ℕ, zero, suc, Bool, true, false}

-- what one turn gives: the answer, or the state that the next turn starts from
pub data Turn (S A : Type 0) : Type 0 where
  stop : A → Turn S A
  go : S → Turn S A

-- a question in a turn: no stops it with an answer, yes goes on with the rest
unfoldable pub ask : {S A : Type 0} → Bool → A → Turn S A → Turn S A
ask true refusal rest = rest
ask false refusal rest = stop refusal

-- what follows a turn: its answer, or what `next` makes of its state
unfoldable pub after : {S A : Type 0} → Turn S A → (S → A) → A
after (stop a) next = a
after (go s) next = next s

-- at most so many turns from a state; `short` is the answer where they do not suffice
unfoldable pub turns : {S A : Type 0} → (S → Turn S A) → A → ℕ → S → A
turns turn short zero s = short
turns turn short (suc n) s = after (turn s) (λ t. turns turn short n t)

-- the loop from a state, given a number that falls at each turn: one turn more than that number suffices (law `unroll`)
unfoldable pub loop : {S A : Type 0} → (S → Turn S A) → (S → ℕ) → A → S → A
loop turn measure short s = turns turn short (suc (measure s)) s
