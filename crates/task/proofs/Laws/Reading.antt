-- One record of a task file: what its answers lead to, kind by kind, as the reader's own answer says it.
-- Assumes nothing.
use Prim.Native.Nat.{ℕ, ◌+◌, ◌/◌, ◌≤◌, ◌<◌}
use mathlib.Core.Path.{◌≡◌, refl, sym, ◌∙◌}
use mathlib.Core.Bool.{Bool, true, false, cond}
use mathlib.Core.List.{List}
use native.Mathlib.Omega.{arith}
use lib.ListN.{length, set}
use lib.Dec.{eqb, ltb}
use borrow.Author.Tests.{lt-ltb, le-ltb, eq-eqb, ne_eqb, eqb-true}
use Rattle.records.specs.Loop.{Turn, stop}
use Rattle.records.specs.Numbers.{byte_at, u64_at}
use Rattle.records.specs.Record.{record_at}
use Rattle.std.specs.Prelude.{Ok, Err, Option, Some}
use Rattle.records.specs.declared.record.Record.{Record}
use Rattle.records.proofs.Laws.Record.{found_record, record-ends}
use Rattle.records.proofs.Laws.Loop.{ask-yes, ask-no}
use Rattle.task.specs.Bounds.{bounds_at, in_range}
use Rattle.task.specs.Facts.{literals_at, case_consistent, pairs_before_fault_at}
use Rattle.task.specs.Instruction.{decode_for, encode, triple_at, with_triple}
use Rattle.task.specs.Program.{line_offset, is_instruction}
use Rattle.task.proofs.Laws.Instruction.{not-instruction, instruction-is, decoded-for, decoded-there}
use Rattle.task.specs.Outcome.{state, with_record, part_turned}
use Rattle.task.specs.Questions.{KIND, LENGTH}
use Rattle.task.specs.Reading.{State, may_stand, by_kind, length_fits, header_turn, action_turn, on_preset, preset_turn, case_turn, close_turn, kind_turn, on_record, refused, preset_proc, preset_line, Reading, Progress}
use Rattle.task.specs.declared.bounds.Bounds.{Bounds}
use Rattle.task.specs.declared.facts.Literals.{Literals}
use Rattle.task.specs.declared.index.Index.{Index}
use Rattle.task.specs.declared.instruction.Line.{Line}
use Rattle.task.specs.declared.instruction.Proc.{Proc}
use Rattle.task.specs.declared.instruction.Triple.{Triple}
use Rattle.task.specs.declared.instruction.Instruction.{Instruction}
use Rattle.task.specs.declared.questions.Question.TheVariants.{TaskTooMany, TaskBounds, TaskFacts, TaskPreset, TaskPresetTwice}

module _ {A : Type 0} (kind : ℕ) (header action preset case close : A) where
  pub by-header : kind ≡ 1 → header ≡ by_kind kind header action preset case close
  unfolding by_kind
  by-header h = rw h

  pub by-action : kind ≡ 2 → action ≡ by_kind kind header action preset case close
  unfolding by_kind
  by-action h = rw h

  pub by-preset : kind ≡ 3 → preset ≡ by_kind kind header action preset case close
  unfolding by_kind
  by-preset h = rw h

  pub by-case : kind ≡ 4 → case ≡ by_kind kind header action preset case close
  unfolding by_kind
  by-case h = rw h

  pub by-close : (kind ≡ 1 → ⊥) → (kind ≡ 2 → ⊥) → (kind ≡ 3 → ⊥) → (kind ≡ 4 → ⊥) → close ≡ by_kind kind header action preset case close
  unfolding by_kind
  by-close h₁ h₂ h₃ h₄ = simp (ne_eqb kind 1 h₁, ne_eqb kind 2 h₂, ne_eqb kind 3 h₃, ne_eqb kind 4 h₄)

-- the index with a record, kind by kind
module _ (bytes : List ℕ) (i : Index) (kind at body : ℕ) where
  pub with-header : (b : Bounds) → b ≡ bounds_at bytes body → kind ≡ 1
      → record { bounds = b; actions = 0; cases = 0; first = 0 } ≡ with_record bytes i kind at body
  unfolding with_record
  with-header b e h = rw e (by-header kind _ _ _ _ _ h)

  pub with-action : kind ≡ 2
      → record { bounds = i.bounds; actions = i.actions + 1; cases = i.cases; first = i.first } ≡ with_record bytes i kind at body
  unfolding with_record
  with-action h = by-action kind _ _ _ _ _ h

  -- a case, the first one or a later one
  with-case : (first : ℕ) → first ≡ cond (eqb i.cases 0) at i.first → kind ≡ 4
      → record { bounds = i.bounds; actions = i.actions; cases = i.cases + 1; first = first } ≡ with_record bytes i kind at body
  unfolding with_record
  with-case first e h = rw e (by-case kind _ _ _ _ _ h)

  module _ (j : Index) (h : kind ≡ 4) where
    pub with_first : i.cases ≡ 0 → j ≡ record { bounds = i.bounds; actions = i.actions; cases = i.cases; first = at }
        → record { bounds = j.bounds; actions = j.actions; cases = j.cases + 1; first = j.first } ≡ with_record bytes i kind at body
    with_first z e = rw e (with-case at (rw (eq-eqb i.cases 0 z)) h)

    pub with-later : (i.cases ≡ 0 → ⊥) → j ≡ i
        → record { bounds = j.bounds; actions = j.actions; cases = j.cases + 1; first = j.first } ≡ with_record bytes i kind at body
    with-later n e = rw e (with-case i.first (rw (ne_eqb i.cases 0 n)) h)

  -- a preset, or the closing record
  pub with-other : (kind ≡ 1 → ⊥) → (kind ≡ 2 → ⊥) → (kind ≡ 4 → ⊥) → i ≡ with_record bytes i kind at body
  unfolding with_record by_kind
  with-other h₁ h₂ h₄ = simp (ne_eqb kind 1 h₁, ne_eqb kind 2 h₂, ne_eqb kind 4 h₄) (either (eqb kind 3))
    where
      either : (t : Bool) → i ≡ cond t i i
      either true = refl
      either false = refl

module _ (bytes : List ℕ) (p : Progress) (body next : ℕ) (o q : List ℕ) where
  module _ (b : Bounds) (r : Bool) (f : b ≡ bounds_at bytes body) (g : r ≡ in_range b) where
    pub header-no : r ≡ false → part_turned bytes p 1 body next (Err TaskBounds) o q ≡ header_turn bytes (state p o q) body next
    unfolding part_turned header_turn
    header-no h = ask-no _ _ _ (cc)

    pub header-yes : r ≡ true → part_turned bytes p 1 body next (Ok tt) o q ≡ header_turn bytes (state p o q) body next
    unfolding part_turned header_turn with_record by_kind
    header-yes h = ask-yes _ _ _ (cc)

  module _ (size : ℕ) where
    pub action-full : 64 ≤ p.index.actions → part_turned bytes p 2 body next (Err TaskTooMany) o q ≡ action_turn bytes (state p o q) body size next
    unfolding part_turned action_turn
    action-full h = ask-no _ _ _ (le-ltb p.index.actions 64 h)

    module _ (pairs : ℕ) (h : p.index.actions < 64) (g : pairs ≡ pairs_before_fault_at p.index.bounds.facts bytes body (size / 16)) where
      few-actions : ltb p.index.actions 64 ≡ true
      few-actions = lt-ltb p.index.actions 64 h

      pub action-no : (pairs ≡ size / 16 → ⊥) → part_turned bytes p 2 body next (Err TaskFacts) o q ≡ action_turn bytes (state p o q) body size next
      unfolding part_turned action_turn
      action-no k = ask-no _ _ _ (rw (← g) (ne_eqb pairs (size / 16) k)) ∙ ask-yes _ _ _ few-actions

      pub action-yes : pairs ≡ size / 16
          → part_turned bytes p 2 body next (Ok tt) (set o p.index.actions p.at) q ≡ action_turn bytes (state p o q) body size next
      unfolding part_turned action_turn with_record by_kind
      action-yes y = ask-yes _ _ _ (rw (← g) (eq-eqb pairs (size / 16) y)) ∙ ask-yes _ _ _ few-actions

  abbrev procedure : Proc
  procedure = preset_proc bytes (state p o q) body

  abbrev line : Line
  line = preset_line bytes (state p o q) body

  module _ (t : Triple) (r : Bool) (e : t ≡ triple_at bytes (body + 2))
      (g : r ≡ is_instruction (decode_for p.index.bounds p.index.actions procedure line t)) where
    on-preset : on_preset bytes (state p o q) body next (decode_for p.index.bounds p.index.actions procedure line t) ≡ preset_turn bytes (state p o q) body next
    unfolding preset_turn
    on-preset = rw e refl

    pub preset-no : r ≡ false → part_turned bytes p 3 body next (Err TaskPreset) o q ≡ preset_turn bytes (state p o q) body next
    unfolding part_turned on_preset
    preset-no h = rw (not-instruction _ (sym g ∙ h)) at on-preset

    module _ (offset : ℕ) (f : offset ≡ line_offset p.index.bounds procedure line) (y : r ≡ true) where
      some : (w : Instruction) × (decode_for p.index.bounds p.index.actions procedure line t ≡ Some w)
      some = instruction-is _ (sym g ∙ y)

      pub preset-again : (byte_at q offset ≡ 0 → ⊥) → part_turned bytes p 3 body next (Err TaskPresetTwice) o q ≡ preset_turn bytes (state p o q) body next
      unfolding part_turned on_preset
      preset-again n = ask-no _ _ _ (rw (← f) (ne_eqb (byte_at q offset) 0 n)) ∙ rw some.1 at on-preset

      pub preset-yes : (q' : List ℕ) → q' ≡ with_triple q offset t → byte_at q offset ≡ 0
          → part_turned bytes p 3 body next (Ok tt) o q' ≡ preset_turn bytes (state p o q) body next
      unfolding part_turned on_preset with_record by_kind
      preset-yes q' h z =
          let written : q' ≡ with_triple q (line_offset p.index.bounds procedure line) (encode some.0) =
          cc (decoded-for _ _ procedure line t some.0 some.1).encodes in
          rw written (ask-yes _ _ _ (rw (← f) (eq-eqb (byte_at q offset) 0 z)) ∙ rw some.1 at on-preset)

  pub case_full : 32 ≤ p.index.cases → part_turned bytes p 4 body next (Err TaskTooMany) o q ≡ case_turn bytes (state p o q) body next
  unfolding part_turned case_turn
  case_full h = ask-no _ _ _ (le-ltb p.index.cases 32 h)

  module _ (h : p.index.cases < 32) (start : ℕ) (goal : Literals) (c : Bool)
      (e₁ : start ≡ u64_at bytes body) (e₂ : goal ≡ literals_at bytes (body + 8)) (e₃ : c ≡ case_consistent p.index.bounds.facts start goal) where
    few-cases : ltb p.index.cases 32 ≡ true
    few-cases = lt-ltb p.index.cases 32 h

    sets : c ≡ case_consistent p.index.bounds.facts (u64_at bytes body) (literals_at bytes (body + 8))
    sets = cc

    pub case-no : c ≡ false → part_turned bytes p 4 body next (Err TaskFacts) o q ≡ case_turn bytes (state p o q) body next
    unfolding part_turned case_turn
    case-no k = ask-no _ _ _ (sym sets ∙ k) ∙ ask-yes _ _ _ few-cases

    pub case-yes : c ≡ true → part_turned bytes p 4 body next (Ok tt) o q ≡ case_turn bytes (state p o q) body next
    unfolding part_turned case_turn with_record by_kind
    case-yes y = ask-yes _ _ _ (sym sets ∙ y) ∙ ask-yes _ _ _ few-cases

-- the line of a preset that question 7 lets pass lies in the array
module _ (b : Bounds) (actions : ℕ) (procedure : Proc) (line : Line) (t : Triple) (r : Bool) (e : r ≡ is_instruction (decode_for b actions procedure line t))
    (y : r ≡ true) (h : in_range b ≡ true) (offset : ℕ) (f : offset ≡ line_offset b procedure line) where
  room : offset + 3 ≤ 768
  room = rw f (decoded-there b actions procedure line t (sym e ∙ y) h)

  pub preset-line : offset < 768
  preset-line = let k = room in omega arith

  pub preset-room : (q : List ℕ) → length q ≡ 768 → offset + 3 ≤ length q
  preset-room q l = rw l room

-- a body in the file, of the length that question 3 asks of its kind
module _ (kind body size end : ℕ) (there : body + size ≤ end) (fit : length_fits kind size ≡ true) where
  fits : (t : Bool) → t ≡ length_fits kind size → t ≡ true
  fits t f = f ∙ fit

  pub header-body : kind ≡ 1 → body + 6 ≤ end
  unfolding length_fits
  header-body h = omega (arith, eqb-true size 6 (fits _ (by-header _ _ _ _ _ _ h)))

  pub preset-body : kind ≡ 3 → body + 5 ≤ end
  unfolding length_fits
  preset-body h = omega (arith, eqb-true size 5 (fits _ (by-preset _ _ _ _ _ _ h)))

  pub case-body : kind ≡ 4 → body + 24 ≤ end
  unfolding length_fits
  case-body h = omega (arith, eqb-true size 24 (fits _ (by-case _ _ _ _ _ _ h)))

-- a record's body is in the file
pub body-there : (bytes : List ℕ) (at : ℕ) (f : Option Record) → f ≡ record_at bytes at → (kind body size next : ℕ) → f ≡ found_record kind body size next
    → body + size ≤ length bytes
body-there bytes at f e kind body size next r = omega (arith, record-ends bytes at kind body size next (sym e ∙ r))

-- what the kind asks, kind by kind
module _ (bytes : List ℕ) (p : Progress) (kind body size next : ℕ) (o q : List ℕ) (t : Turn State Reading) where
  pub kind-header : kind ≡ 1 → t ≡ header_turn bytes (state p o q) body next → t ≡ kind_turn bytes (state p o q) kind body size next
  unfolding kind_turn
  kind-header e f = f ∙ by-header _ _ _ _ _ _ e

  pub kind-action : kind ≡ 2 → t ≡ action_turn bytes (state p o q) body size next → t ≡ kind_turn bytes (state p o q) kind body size next
  unfolding kind_turn
  kind-action e f = f ∙ by-action _ _ _ _ _ _ e

  pub kind-preset : kind ≡ 3 → t ≡ preset_turn bytes (state p o q) body next → t ≡ kind_turn bytes (state p o q) kind body size next
  unfolding kind_turn
  kind-preset e f = f ∙ by-preset _ _ _ _ _ _ e

  pub kind-case : kind ≡ 4 → t ≡ case_turn bytes (state p o q) body next → t ≡ kind_turn bytes (state p o q) kind body size next
  unfolding kind_turn
  kind-case e f = f ∙ by-case _ _ _ _ _ _ e

  -- any other kind is the closing record; question 9 is still to ask
  pub kind-close : (kind ≡ 1 → ⊥) → (kind ≡ 2 → ⊥) → (kind ≡ 3 → ⊥) → (kind ≡ 4 → ⊥) → t ≡ close_turn bytes (state p o q) next
      → t ≡ kind_turn bytes (state p o q) kind body size next
  unfolding kind_turn
  kind-close n₁ n₂ n₃ n₄ f = f ∙ by-close _ _ _ _ _ _ n₁ n₂ n₃ n₄

-- questions 2 and 3 of a record
module _ (bytes : List ℕ) (p : Progress) (kind body size next : ℕ) (o q : List ℕ) where
  pub kind-no : may_stand p.last kind ≡ false → stop (refused KIND p.at) ≡ on_record bytes (state p o q) (found_record kind body size next)
  unfolding on_record
  kind-no h = ask-no _ _ _ h

  module _ (y : may_stand p.last kind ≡ true) where
    pub length-no : length_fits kind size ≡ false → stop (refused LENGTH p.at) ≡ on_record bytes (state p o q) (found_record kind body size next)
    unfolding on_record
    length-no h = ask-no _ _ _ h ∙ ask-yes _ _ _ y

    -- past questions 2 and 3 the turn is what the kind asks
    pub kind-turn : length_fits kind size ≡ true → (t : Turn State Reading) → t ≡ kind_turn bytes (state p o q) kind body size next
        → t ≡ on_record bytes (state p o q) (found_record kind body size next)
    unfolding on_record
    kind-turn h t d = d ∙ ask-yes _ _ _ h ∙ ask-yes _ _ _ y
