-- What each turn of a task's reading keeps, its answer has. The property is to be shown of each kind's turn alone, with what questions 1 to
-- 3 say of a record of this kind: after which kinds it may stand, that it is all there, and how long it is. For question 3's test and the turn are
-- chosen by the same kind.
-- Assumes nothing.
use Prim.Native.Nat.{ℕ, ◌+◌, ◌%◌, ◌≤◌}
use mathlib.Core.Path.{◌≡◌, refl}
use mathlib.Core.Bool.{Bool, true, false, cond}
use mathlib.Core.List.{List}
use native.Mathlib.Omega.{arith}
use lib.Dec.{leb, eqb}
use borrow.Author.Tests.{leb-true, le-leb, eqb-true, eqb-false, eq-eqb}
use Rattle.records.specs.Loop.{Turn, ask}
use Rattle.records.specs.Record.{record_at}
use Rattle.std.specs.Prelude.{Option, Some, None}
use Rattle.records.specs.declared.record.Record.{Record}
use Rattle.records.proofs.Laws.Record.{found_record, record-ends}
use Rattle.records.proofs.Laws.Loop.{Keeps, ask-keeps, loop-keeps}
use Rattle.records.proofs.Laws.Tests.{both_true}
use Rattle.task.proofs.Laws.Bounds.{between-true}
use Rattle.task.proofs.Laws.Verdict.{refused-accepted}
use Rattle.task.specs.Bounds.{between}
use Rattle.task.specs.Questions.{WHOLE, KIND, LENGTH}
use Rattle.task.specs.Reading.{State, begin, refused, may_stand, by_kind, length_fits, header_turn, action_turn, preset_turn, case_turn, close_turn, kind_turn, on_record, turn_of, left, read_task, Reading}
use Rattle.task.specs.declared.index.Layout.{Layout}
use Rattle.task.specs.Verdict.{Accepted}

-- the least and the greatest kind that may stand after a kind, or at the start
abbrev pub least : ℕ → ℕ
least last = cond (eqb last 1) 2 (cond (eqb last 2) 2 (cond (eqb last 3) 3 (cond (eqb last 4) 4 1)))

abbrev pub greatest : ℕ → ℕ
greatest last = cond (eqb last 1) 2 (cond (eqb last 2) 4 (cond (eqb last 3) 4 (cond (eqb last 4) 5 1)))

-- a kind that may stand after a kind
pub record Follows (last kind : ℕ) : Type 0 where
  pub known : (1 ≤ kind) × (kind ≤ 5)
  pub low : least last ≤ kind
  pub high : kind ≤ greatest last

pub follows : (last kind : ℕ) → may_stand last kind ≡ true → Follows last kind
unfolding may_stand by_kind
follows last kind h =
    let k = by (eqb last 1) (eqb last 2) (eqb last 3) (eqb last 4) h in
    record { known = k.0; low = k.1; high = k.2 }
  where
    by : (a b c d : Bool)
        → cond a (eqb kind 2) (cond b (between 2 kind 4) (cond c (between 3 kind 4) (cond d (between 4 kind 5) (eqb kind 1)))) ≡ true
        → ((1 ≤ kind) × (kind ≤ 5)) × (cond a 2 (cond b 2 (cond c 3 (cond d 4 1))) ≤ kind) × (kind ≤ cond a 2 (cond b 4 (cond c 4 (cond d 5 1))))
    by true b c d t = omega (arith, eqb-true kind 2 t)
    by false true c d t = omega (arith, between-true 2 kind 4 t)
    by false false true d t = omega (arith, between-true 3 kind 4 t)
    by false false false true t = omega (arith, between-true 4 kind 5 t)
    by false false false false t = omega (arith, eqb-true kind 1 t)

-- so question 2 lets none but the five kinds pass
pub may-stand-known : (last kind : ℕ) → (kind ≡ 1 → ⊥) → (kind ≡ 2 → ⊥) → (kind ≡ 3 → ⊥) → (kind ≡ 4 → ⊥) → (kind ≡ 5 → ⊥) → may_stand last kind ≡ false
may-stand-known last kind a b c d e = by (may_stand last kind) refl
  where
    by : (t : Bool) → may_stand last kind ≡ t → t ≡ false
    by true h = let k = (follows last kind h).known in absurd (omega (arith, a, b, c, d, e))
    by false h = refl

-- conversely, question 2 lets a kind pass from the least to the greatest
pub may-stand : (last kind : ℕ) → least last ≤ kind → kind ≤ greatest last → may_stand last kind ≡ true
unfolding may_stand by_kind
may-stand last kind l g = by (eqb last 1) (eqb last 2) (eqb last 3) (eqb last 4) l g
  where
    range : (low high : ℕ) → low ≤ kind → kind ≤ high → between low kind high ≡ true
    range low high h k = simp (le-leb low kind h, le-leb kind high k)

    by : (a b c d : Bool) → cond a 2 (cond b 2 (cond c 3 (cond d 4 1))) ≤ kind → kind ≤ cond a 2 (cond b 4 (cond c 4 (cond d 5 1)))
        → cond a (eqb kind 2) (cond b (between 2 kind 4) (cond c (between 3 kind 4) (cond d (between 4 kind 5) (eqb kind 1)))) ≡ true
    by true b c d h k = eq-eqb kind 2 (omega arith)
    by false true c d h k = range 2 4 h k
    by false false true d h k = range 3 4 h k
    by false false false true h k = range 4 5 h k
    by false false false false h k = eq-eqb kind 1 (omega arith)

-- a record of a kind and a length stands, all of it, at the reading's offset
abbrev pub There : List ℕ → State → ℕ → ℕ → Type 0
There bytes s kind size = record_at bytes s.progress.at ≡ found_record kind (s.progress.at + 4) size (s.progress.at + (4 + size))

-- what is to be shown of a state: of a refusal at its offset with a task's question, and of the turn of each kind that may stand there, its record as long as
-- question 3 asks
pub record Kinds (P : State → Type 0) (Q : Reading → Type 0) (bytes : List ℕ) (s : State) : Type 0 where
  pub refusal : (question : ℕ) → question ≤ 9 → Q (refused question s.progress.at)
  pub header : Follows s.progress.last 1 → There bytes s 1 6 → Keeps P Q (header_turn bytes s (s.progress.at + 4) (s.progress.at + 10))
  pub action : (size : ℕ) → Follows s.progress.last 2 → There bytes s 2 size → size ≤ 272 → size % 32 ≡ 16
      → Keeps P Q (action_turn bytes s (s.progress.at + 4) size (s.progress.at + (4 + size)))
  pub preset : Follows s.progress.last 3 → There bytes s 3 5 → Keeps P Q (preset_turn bytes s (s.progress.at + 4) (s.progress.at + 9))
  pub case : Follows s.progress.last 4 → There bytes s 4 24 → Keeps P Q (case_turn bytes s (s.progress.at + 4) (s.progress.at + 28))
  pub close : Follows s.progress.last 5 → There bytes s 5 0 → Keeps P Q (close_turn bytes s (s.progress.at + 4))

module _ (P : State → Type 0) (Q : Reading → Type 0) where
  -- a turn and its question 3, chosen by one test
  fork-keeps : (b c d : Bool) (x y : Turn State Reading) → cond b c d ≡ true → (b ≡ true → c ≡ true → Keeps P Q x)
      → (b ≡ false → d ≡ true → Keeps P Q y) → Keeps P Q (cond b x y)
  fork-keeps true c d x y h k l = k refl h
  fork-keeps false c d x y h k l = l refl h

  -- what each kind asks, its length as question 3 has it
  kind-keeps : (kind size : ℕ) (header action preset case close : Turn State Reading) → (1 ≤ kind) × (kind ≤ 5) → length_fits kind size ≡ true
      → (kind ≡ 1 → size ≡ 6 → Keeps P Q header) → (kind ≡ 2 → size ≤ 272 → size % 32 ≡ 16 → Keeps P Q action)
      → (kind ≡ 3 → size ≡ 5 → Keeps P Q preset) → (kind ≡ 4 → size ≡ 24 → Keeps P Q case) → (kind ≡ 5 → size ≡ 0 → Keeps P Q close)
      → Keeps P Q (by_kind kind header action preset case close)
  unfolding length_fits by_kind
  kind-keeps kind size header action preset case close r h h₁ h₂ h₃ h₄ h₅ =
      fork-keeps (eqb kind 1) _ _ header _ h (λ e f. h₁ (eqb-true kind 1 e) (eqb-true size 6 f))
      λ n₁ l₁. fork-keeps (eqb kind 2) _ _ action _ l₁
      (λ e f. let t = both_true (leb size 272) _ f in h₂ (eqb-true kind 2 e) (leb-true size 272 t.0) (eqb-true (size % 32) 16 t.1))
      λ n₂ l₂. fork-keeps (eqb kind 3) _ _ preset _ l₂ (λ e f. h₃ (eqb-true kind 3 e) (eqb-true size 5 f))
      λ n₃ l₃. fork-keeps (eqb kind 4) _ _ case close l₃ (λ e f. h₄ (eqb-true kind 4 e) (eqb-true size 24 f))
      λ n₄ l₄. h₅ (omega (arith, eqb-false kind 1 n₁, eqb-false kind 2 n₂, eqb-false kind 3 n₃, eqb-false kind 4 n₄)) (eqb-true size 0 l₄)

  module _ (bytes : List ℕ) where
    -- the record that the kind's turn reads: its body begins after its head, and the next record where the body ends
    record-keeps : (s : State) → Kinds P Q bytes s → (kind body size next : ℕ) → record_at bytes s.progress.at ≡ found_record kind body size next
        → Follows s.progress.last kind → length_fits kind size ≡ true → Keeps P Q (kind_turn bytes s kind body size next)
    unfolding kind_turn
    record-keeps s k kind body size next e f l =
        let r = record-ends bytes s.progress.at kind body size next e in
        let b : body ≡ s.progress.at + 4 = r.0 in
        let n : (m : ℕ) → size ≡ m → next ≡ s.progress.at + (4 + m) = omega arith in
        let there : (j m : ℕ) → kind ≡ j → size ≡ m → There bytes s j m = λ j m i z. cc (e, b, n m z) in
        kind-keeps kind size _ _ _ _ _ f.known l
        (λ i z. rw (b, n 6 z) (k.header (rw i at f) (there 1 6 i z)))
        (λ i z m. rw (b, n size refl) (k.action size (rw i at f) (there 2 size i refl) z m))
        (λ i z. rw (b, n 5 z) (k.preset (rw i at f) (there 3 5 i z)))
        (λ i z. rw (b, n 24 z) (k.case (rw i at f) (there 4 24 i z)))
        (λ i z. rw (n 0 z) (k.close (rw i at f) (there 5 0 i z)))

    found-keeps : (s : State) → Kinds P Q bytes s → (f : Option Record) → record_at bytes s.progress.at ≡ f → Keeps P Q (on_record bytes s f)
    unfolding on_record
    found-keeps s k None e = k.refusal WHOLE (omega arith)
    found-keeps s k (Some r) e =
        ask-keeps P Q _ _ _ (k.refusal KIND (omega arith)) λ h.
        ask-keeps P Q _ _ _ (k.refusal LENGTH (omega arith)) λ l.
        record-keeps s k r.kind r.body r.length r.next e (follows s.progress.last r.kind h) l

    pub turn-keeps : (s : State) → Kinds P Q bytes s → Keeps P Q (turn_of bytes s)
    unfolding turn_of
    turn-keeps s k = found-keeps s k (record_at bytes s.progress.at) refl

    pub reading-keeps : P begin → ((s : State) → P s → Kinds P Q bytes s) → Q (read_task bytes)
    unfolding read_task begin
    reading-keeps p k =
        loop-keeps P Q (turn_of bytes) (left bytes) (refused WHOLE 0) (λ s h. turn-keeps s (k s h)) ((k begin p).refusal WHOLE (omega arith)) begin p

-- an answer has this of its layout if it accepts; a refusal has nothing to show
abbrev pub IfAccepted : (Layout → Type 0) → Reading → Type 0
IfAccepted R r = (v : ℕ) → r.verdict ≡ Accepted v → R r.layout

pub refused-vacuous : (R : Layout → Type 0) (question place : ℕ) → IfAccepted R (refused question place)
unfolding refused
refused-vacuous R question place v e = absurd (refused-accepted e)

pub ask-if-accepted : (P : State → Type 0) (R : Layout → Type 0) (answer : Bool) (question place : ℕ) (rest : Turn State Reading)
    → (answer ≡ true → Keeps P (IfAccepted R) rest) → Keeps P (IfAccepted R) (ask answer (refused question place) rest)
ask-if-accepted P R answer question place rest k = ask-keeps P (IfAccepted R) answer _ rest (refused-vacuous R question place) k
