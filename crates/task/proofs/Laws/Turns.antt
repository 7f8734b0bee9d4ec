-- The reading of a task file, turn by turn. A turn that goes on goes to the next record, which begins after this one, so the bytes left
-- grow fewer and the loop's law applies: what is read from here on is one turn, and then what is read from there on.
-- Assumes nothing.
use Prim.Native.Nat.{ℕ, ◌<◌}
use mathlib.Core.Path.{◌≡◌, refl, sym, ap, ◌∙◌}
use mathlib.Core.Bool.{Bool, true, false, cond}
use mathlib.Core.List.{List}
use native.Mathlib.Omega.{arith}
use lib.ListN.{length}
use lib.Dec.{eqb}
use borrow.Author.Tests.{eq-eqb, ne_eqb}
use Rattle.records.specs.Loop.{Turn, stop, go, ask, after, loop}
use Rattle.records.specs.Record.{record_at}
use Rattle.records.specs.declared.record.Record.{Record}
use Rattle.records.proofs.Laws.Record.{found_record, record-ends}
use Rattle.records.proofs.Laws.Loop.{stop-go, unroll, ask-yes, ask-no}
use Rattle.task.specs.Outcome.{state, with_record, part_turned, turned}
use Rattle.task.specs.Questions.{WHOLE, CLOSED}
use Rattle.task.specs.Reading.{State, begin, refused, accepted, by_kind, may_stand, length_fits, header_turn, action_turn, on_preset, preset_turn, case_turn, close_turn, kind_turn, on_record, turn_of, left, read_task, Reading, Progress}
use Rattle.task.specs.declared.instruction.Instruction.{Instruction}
use Rattle.std.specs.Prelude.{Option, Some, None, Result, Ok, Err}
use Rattle.task.specs.Verdict.{number}
use Rattle.task.specs.declared.questions.Question.{Question}
use Rattle.task.specs.declared.refusal.Refusal.{Refusal}
use Rattle.task.specs.declared.questions.Question.TheVariants.{TaskRecordKind, TaskRecordLength}
use Rattle.task.proofs.Laws.Kept.{may-stand-known}
use Rattle.task.proofs.Laws.Reading.{kind-no, length-no, kind-turn, kind-header, kind-action, kind-preset, kind-case, kind-close}
use Rattle.task.specs.declared.kind.Kind.{Kind}
use Rattle.task.specs.declared.kind.Kind.TheVariants.{Header, Action, Preset, Case, Closing}
use Rattle.task.specs.Kind.{kind_number}

-- a turn that goes on goes to the offset `next`
abbrev Goes : ℕ → Turn State Reading → Type 0
Goes next turn = (t : State) → turn ≡ go t → t.progress.at ≡ next

-- a question at which a turn goes on says yes
ask-went : (t : State) (answer : Bool) (refusal : Reading) (rest : Turn State Reading) → go t ≡ ask answer refusal rest → (answer ≡ true) × (go t ≡ rest)
unfolding ask
ask-went t true refusal rest h = (refl, h)
ask-went t false refusal rest h = absurd (stop-go (sym h))

stop_goes : (next : ℕ) (r : Reading) → Goes next (stop r)
stop_goes next r t e = cc

go-goes : (s : State) → Goes s.progress.at (go s)
go-goes s t e = cc

ask-goes : (next : ℕ) (answer : Bool) (refusal : Reading) (rest : Turn State Reading) → Goes next rest → Goes next (ask answer refusal rest)
unfolding ask
ask-goes next true refusal rest h = h
ask-goes next false refusal rest h = stop_goes next refusal

cond_goes : (next : ℕ) (b : Bool) (x y : Turn State Reading) → Goes next x → Goes next y → Goes next (cond b x y)
cond_goes next true x y h k = h
cond_goes next false x y h k = k

kind-goes : (next kind : ℕ) (header action preset case close : Turn State Reading) → Goes next header → Goes next action → Goes next preset
    → Goes next case → Goes next close → Goes next (by_kind kind header action preset case close)
unfolding by_kind
kind-goes next kind header action preset case close h₁ h₂ h₃ h₄ h₅ =
    cond_goes next (eqb kind 1) _ _ h₁
    (cond_goes next (eqb kind 2) _ _ h₂ (cond_goes next (eqb kind 3) _ _ h₃ (cond_goes next (eqb kind 4) _ _ h₄ h₅)))

module _ (bytes : List ℕ) (s : State) where
  header-goes : (body next : ℕ) → Goes next (header_turn bytes s body next)
  unfolding header_turn
  header-goes body next = ask-goes _ _ _ _ (go-goes _)

  action-goes : (body size next : ℕ) → Goes next (action_turn bytes s body size next)
  unfolding action_turn
  action-goes body size next = ask-goes _ _ _ _ (ask-goes _ _ _ _ (go-goes _))

  on-preset-goes : (body next : ℕ) (d : Option Instruction) → Goes next (on_preset bytes s body next d)
  unfolding on_preset
  on-preset-goes body next None = stop_goes next _
  on-preset-goes body next (Some w) = ask-goes _ _ _ _ (go-goes _)

  preset-goes : (body next : ℕ) → Goes next (preset_turn bytes s body next)
  unfolding preset_turn
  preset-goes body next = on-preset-goes body next _

  case_goes : (body next : ℕ) → Goes next (case_turn bytes s body next)
  unfolding case_turn
  case_goes body next = ask-goes _ _ _ _ (ask-goes _ _ _ _ (go-goes _))

  close-goes : (next : ℕ) → Goes next (close_turn bytes s next)
  unfolding close_turn
  close-goes next = ask-goes _ _ _ _ (stop_goes next _)

  record-goes : (kind body size next : ℕ) → Goes next (on_record bytes s (found_record kind body size next))
  unfolding on_record kind_turn
  record-goes kind body size next =
      ask-goes _ _ _ _
      (ask-goes _ _ _ _
      (kind-goes _ _ _ _ _ _ _ (header-goes body next) (action-goes body size next) (preset-goes body next) (case_goes body next) (close-goes next)))

  found-falls : (f : Option Record) → record_at bytes s.progress.at ≡ f → (t : State) → on_record bytes s f ≡ go t → left bytes t < left bytes s
  unfolding on_record
  found-falls None e t h = absurd (stop-go h)
  found-falls (Some r) e t h =
      omega (arith, record-ends bytes s.progress.at r.kind r.body r.length r.next e, record-goes r.kind r.body r.length r.next t h)

  pub falls : (t : State) → turn_of bytes s ≡ go t → left bytes t < left bytes s
  unfolding turn_of
  falls t h = found-falls (record_at bytes s.progress.at) refl t h

-- what is read from a state on
unfoldable pub from : List ℕ → State → Reading
from bytes = loop (turn_of bytes) (left bytes) (refused WHOLE 0)

pub from-begin : (bytes : List ℕ) → from bytes begin ≡ read_task bytes
unfolding from read_task
from-begin bytes = refl

-- one record more: its turn
module _ (bytes : List ℕ) (s : State) (r : from bytes s ≡ read_task bytes) where
  step : (t : Turn State Reading) → t ≡ turn_of bytes s → after t (from bytes) ≡ read_task bytes
  unfolding from
  step t e = ap (λ (t : Turn State Reading). after t (from bytes)) e ∙ sym (unroll (turn_of bytes) (left bytes) (refused WHOLE 0) (falls bytes) s) ∙ r

  pub from_next : (t : State) → go t ≡ turn_of bytes s → from bytes t ≡ read_task bytes
  unfolding after
  from_next t e = step (go t) e

  pub from-stop : (a : Reading) → stop a ≡ turn_of bytes s → a ≡ read_task bytes
  unfolding after
  from-stop a e = step (stop a) e

-- the record that `f` found at the reading's offset, and the answer to it, with the arrays as they are then
module _ (bytes : List ℕ) (p : Progress) (o q : List ℕ) (f : Option Record) (e : f ≡ record_at bytes p.at) where
  pub turn-missing : f ≡ None → stop (refused WHOLE p.at) ≡ turn_of bytes (state p o q)
  unfolding turn_of on_record
  turn-missing h = rw (← e, h)

  module _ (r : Record) (g : f ≡ Some r) (a : Result Kind Question) (o' q' : List ℕ)
      (t : turned bytes p r a o' q' ≡ on_record bytes (state p o q) (Some r)) where
    turn_is : turned bytes p r a o' q' ≡ turn_of bytes (state p o q)
    unfolding turn_of
    turn_is = rw (← e, g) t

    -- the question that says no, at the record
    pub turn-no : (f : Refusal) → (question : Question) × (a ≡ Err question) × (f ≡ record { question = question; place = p.at })
        → stop (refused (number f.question) f.place) ≡ turn_of bytes (state p o q)
    unfolding turned
    turn-no f h = rw h.2 (rw h.1 at turn_is)

    module _ (h : a ≡ Ok Closing) where
      pub turn-trailing : (r.next ≡ length bytes → ⊥) → stop (refused CLOSED r.next) ≡ turn_of bytes (state p o q)
      unfolding turned close_turn
      turn-trailing n = ask-no _ _ _ (ne_eqb r.next (length bytes) n) ∙ rw h at turn_is

      pub turn-closed : r.next ≡ length bytes → stop (accepted (record { index = p.index; offsets = o'; presets = q' })) ≡ turn_of bytes (state p o q)
      unfolding turned close_turn
      turn-closed y = ask-yes _ _ _ (eq-eqb r.next (length bytes) y) ∙ rw h at turn_is

    module _ (kind : Kind) (n : kind ≡ Closing → ⊥) (y : a ≡ Ok kind) where
      -- what the reading goes on with
      abbrev gone : Turn State Reading
      gone = go (state (record { at = r.next; last = kind_number kind; index = with_record bytes p.index (kind_number kind) p.at r.body }) o' q')

      goes : (k : Kind) → (k ≡ Closing → ⊥)
          → go (state (record { at = r.next; last = kind_number k; index = with_record bytes p.index (kind_number k) p.at r.body }) o' q') ≡ turned bytes p r (Ok k) o' q'
      unfolding turned part_turned
      goes Header n = refl
      goes Action n = refl
      goes Preset n = refl
      goes Case n = refl
      goes Closing n = absurd (n refl)

      pub turn-next : gone ≡ turn_of bytes (state p o q)
      turn-next = goes kind n ∙ (rw y at turn_is)

      -- a record that the reading goes on behind has the length that question 3 asks
      pub next_fits : length_fits r.kind r.length ≡ true
      unfolding on_record
      next_fits = (ask-went _ _ _ _ (ask-went _ _ _ _ (goes kind n ∙ (rw y at t))).1).0

-- the answer to what a kind asks, with the kind in it
abbrev pub with_kind : Kind → Result Unit Question → Result Kind Question
with_kind k (Ok value) = Ok k
with_kind k (Err question) = Err question

-- a record of a kind that questions 2 and 3 let pass: its turn is what its kind asks
module _ (bytes : List ℕ) (p : Progress) (r : Record) (o q : List ℕ) where
  pub unknown-kind : (r.kind ≡ 1 → ⊥) × (r.kind ≡ 2 → ⊥) × (r.kind ≡ 3 → ⊥) × (r.kind ≡ 4 → ⊥) × (r.kind ≡ 5 → ⊥)
      → turned bytes p r (Err TaskRecordKind) o q ≡ on_record bytes (state p o q) (Some r)
  unfolding turned
  unknown-kind n = kind-no bytes p r.kind r.body r.length r.next o q (may-stand-known p.last r.kind n.0 n.1 n.2 n.3 n.4)

  module _ (k : Kind) (e : r.kind ≡ kind_number k) where
    pub kind-not : false ≡ may_stand p.last (kind_number k) → turned bytes p r (Err TaskRecordKind) o q ≡ on_record bytes (state p o q) (Some r)
    unfolding turned
    kind-not h = kind-no bytes p r.kind r.body r.length r.next o q (rw e (sym h))

    module _ (stands : true ≡ may_stand p.last (kind_number k)) where
      pub length-not : false ≡ length_fits (kind_number k) r.length → turned bytes p r (Err TaskRecordLength) o q ≡ on_record bytes (state p o q) (Some r)
      unfolding turned
      length-not h = length-no bytes p r.kind r.body r.length r.next o q (rw e (sym stands)) (rw e (sym h))

      module _ (fits : true ≡ length_fits (kind_number k) r.length) where
        asks : (t : Turn State Reading) → t ≡ kind_turn bytes (state p o q) r.kind r.body r.length r.next → t ≡ on_record bytes (state p o q) (Some r)
        asks = kind-turn bytes p r.kind r.body r.length r.next o q (rw e (sym stands)) (rw e (sym fits))

        pub asks-close : k ≡ Closing → turned bytes p r (Ok k) o q ≡ on_record bytes (state p o q) (Some r)
        unfolding turned
        asks-close h =
            let five : r.kind ≡ 5 = e ∙ ap kind_number h in
            rw h
            (asks _
            (kind-close bytes p r.kind r.body r.length r.next o q _ (λ n. omega arith) (λ n. omega arith) (λ n. omega arith) (λ n. omega arith) refl))

        module _ (o' q' : List ℕ) (a : Result Unit Question) where
          part : (k : Kind) → (k ≡ Closing → ⊥) → (a : Result Unit Question)
              → turned bytes p r (with_kind k a) o' q' ≡ part_turned bytes p (kind_number k) r.body r.next a o' q'
          unfolding turned part_turned
          part k n (Err question) = refl
          part Header n (Ok value) = refl
          part Action n (Ok value) = refl
          part Preset n (Ok value) = refl
          part Case n (Ok value) = refl
          part Closing n (Ok value) = absurd (n refl)

          abbrev Asks : Type 0
          Asks = turned bytes p r (with_kind k a) o' q' ≡ on_record bytes (state p o q) (Some r)

          pub asks-header : k ≡ Header → part_turned bytes p 1 r.body r.next a o' q' ≡ header_turn bytes (state p o q) r.body r.next → Asks
          asks-header h t =
              asks _ (kind-header bytes p r.kind r.body r.length r.next o q _ (e ∙ ap kind_number h) (rw h (part Header (λ z. cc) a ∙ t)))

          pub asks-action : k ≡ Action → part_turned bytes p 2 r.body r.next a o' q' ≡ action_turn bytes (state p o q) r.body r.length r.next → Asks
          asks-action h t =
              asks _ (kind-action bytes p r.kind r.body r.length r.next o q _ (e ∙ ap kind_number h) (rw h (part Action (λ z. cc) a ∙ t)))

          pub asks-preset : k ≡ Preset → part_turned bytes p 3 r.body r.next a o' q' ≡ preset_turn bytes (state p o q) r.body r.next → Asks
          asks-preset h t =
              asks _ (kind-preset bytes p r.kind r.body r.length r.next o q _ (e ∙ ap kind_number h) (rw h (part Preset (λ z. cc) a ∙ t)))

          pub asks-case : k ≡ Case → part_turned bytes p 4 r.body r.next a o' q' ≡ case_turn bytes (state p o q) r.body r.next → Asks
          asks-case h t =
              asks _ (kind-case bytes p r.kind r.body r.length r.next o q _ (e ∙ ap kind_number h) (rw h (part Case (λ z. cc) a ∙ t)))
