-- The checker's loop: from each record on the plan comes to what the whole plan comes to, and the head and the callers beside it stand for the
-- run's position, which stays possible.
-- Assumes nothing.
use Prim.Native.Nat.{ℕ, ◌-◌, ◌≤◌, ◌<◌}
use mathlib.Core.Path.{◌≡◌, sym, ◌∙◌}
use mathlib.Core.List.{List}
use native.Mathlib.Omega.{arith}
use lib.ListN.{length, get_or, set, length-set}
use Rattle.records.specs.Loop.{stop, go}
use Rattle.task.specs.Index.{case_at}
use Rattle.task.specs.declared.index.Index.{Index}
use Rattle.task.specs.declared.instruction.Instruction.{Instruction}
use Rattle.task.specs.declared.instruction.Triple.{Triple}
use Rattle.task.specs.declared.questions.Question.{Question}
use Rattle.task.specs.declared.refusal.Refusal.{Refusal}
use Rattle.std.specs.Prelude.{Result, Ok, Err, IfOk, OnOk}
use Rattle.task.proofs.Laws.Passed.{Passed}
use Rattle.step.specs.Head.{Stands, Fits, starting_head, caller_of, counted_head, moved_head}
use Rattle.step.specs.Moved.{moved_by, performed_as}
use Rattle.step.specs.Position.{origin, counted}
use Rattle.step.specs.declared.head.Head.{Head}
use Rattle.step.specs.Ready.{Room}
use Rattle.step.specs.declared.position.Frame.{Frame}
use Rattle.step.specs.declared.position.Position.{Position}
use Rattle.step.proofs.Laws.Head.{starting-stands}
use Rattle.step.proofs.Laws.Kept.{starting-possible}
use Rattle.step.proofs.Laws.Possible.{parts, case_open}
use Rattle.step.proofs.Laws.Ready.{passed-held, possible-depth}
use Rattle.checker.specs.Answer.{Outcome}
use Rattle.checker.specs.Check.{State, on_move, begin, close_turn, turn_of, follow}
use Rattle.checker.specs.Outcome.{StepReady, ReadyAt, state, line_turn, read_turn, followed_by}
use Rattle.checker.specs.Plan.{instruction_of}
use Rattle.checker.specs.declared.check.Read.{Read}
use Rattle.checker.specs.declared.check.Read.TheVariants.{Closing, Ready}
use Rattle.checker.specs.declared.plan.Step.{Step}
use Rattle.checker.proofs.Laws.Stepping.{head-fits, step-stands}
use Rattle.checker.proofs.Laws.Turns.{Standing, turn-stands, falls, from, from-begin, from_goes, from-stops}

-- where the loop stands; the last two, of the numbers that its indices stay below
pub record Following (bytes : List ℕ) (i : Index) (offsets plan : List ℕ) (whole : Outcome) (at : ℕ) (program : List ℕ) (h : Head)
    (callers : List Frame) : Type 0 where
  pub presets : List ℕ
  pub passed : Passed bytes (record { index = i; offsets = offsets; presets = presets })
  pub position : Position
  pub stands : Stands h callers position
  pub possible : Standing i position
  pub rest : from bytes i offsets plan (state at position program) ≡ whole
  pub room : length callers ≡ 17
  pub deep : h.depth ≤ 16
  pub above : h.case < i.cases → 0 < h.depth

-- a step that is ready, by what was read
pub ready-is : {i : Index} {h : Head} {r : Result Read Question} {step : Step} {w : Triple} {next : ℕ} → r ≡ Ok (Ready step w next)
    → IfOk r (ReadyAt i h) → StepReady i h step w
unfolding ReadyAt
ready-is k ready = rw k at ready

module _ (bytes : List ℕ) (i : Index) (offsets : List ℕ) (presets : List ℕ)
    (passed : Passed bytes (record { index = i; offsets = offsets; presets = presets })) (plan : List ℕ) where
  -- a possible position that the head and the callers stand for, from which the plan comes to the whole
  standing : (whole : Outcome) (at : ℕ) (program : List ℕ) (h : Head) (callers : List Frame) (s : Position) → Stands h callers s → Standing i s
      → from bytes i offsets plan (state at s program) ≡ whole → length callers ≡ 17
      → Following bytes i offsets plan whole at program h callers
  standing whole at program h callers s st p rest room =
      let bounded = (passed-held bytes _ passed).task in
      record {
        presets = presets;
        passed = passed;
        position = s;
        stands = st;
        possible = p;
        rest = rest;
        room = room;
        deep = omega (arith, st.depth, possible-depth i s bounded p.0);
        above = λ c. omega (arith, st.depth, case_open i s (parts i s p.0).depth (omega (arith, st.case, c)));
      }

  -- it begins at the plan's first byte
  pub follow-begins : (h : Head) → h ≡ starting_head (case_at bytes i.first 0).start → (callers : List Frame) → length callers ≡ 17
      → Following bytes i offsets plan (follow bytes (record { index = i; offsets = offsets; presets = presets }) plan) 0 presets h callers
  unfolding begin
  follow-begins h e callers size =
      rw e
      (standing _ 0 presets _ callers _ (starting-stands _ callers) (starting-possible bytes _ passed 0 passed.cases.0)
      (from-begin bytes i offsets plan presets) size)

-- one record more: `r` is what was read at the offset
module _ {bytes : List ℕ} {i : Index} {offsets plan : List ℕ} {whole : Outcome} {at : ℕ} {program : List ℕ} {h : Head} {callers : List Frame}
    (f : Following bytes i offsets plan whole at program h callers) (r : Result Read Question)
    (er : (program : List ℕ) (callers : List Frame) (s : Position) → Stands h callers s
    → read_turn bytes i offsets plan (state at s program) r ≡ turn_of bytes i offsets plan (state at s program)) where
  abbrev here : State
  here = state at f.position program

  read : read_turn bytes i offsets plan here r ≡ turn_of bytes i offsets plan here
  read = er program callers f.position f.stands

  stops : (x : Outcome) → stop x ≡ turn_of bytes i offsets plan here → x ≡ whole
  stops = from-stops bytes i offsets plan here whole f.rest

  -- the no to an answer's question, at the record
  abbrev NoHere : {A : Type 0} → Result A Question → Refusal → Type 0
  NoHere a refusal = (question : Question) × (a ≡ Err question) × (refusal ≡ record { question = question; place = at })

  pub follow-stops : (refusal : Refusal) → NoHere r refusal → (after : List ℕ) → followed_by (Err refusal) after ≡ whole
  unfolding read_turn followed_by
  follow-stops refusal k after = rw k.2 (stops _ (rw k.1 at read))

  pub follow-closes : (next : ℕ) → r ≡ Ok (Closing next) → (v : Result ℕ Refusal)
      → ((program : List ℕ) (callers : List Frame) (s : Position) → Stands h callers s
      → stop (followed_by v program) ≡ close_turn i plan (state at s program) next)
      → followed_by v program ≡ whole
  unfolding read_turn
  follow-closes next k v e = stops _ (e program callers f.position f.stands ∙ rw k at read)

  -- a step that is ready: `a` is the answer to its questions, and `after` the program then
  module _ {step : Step} {w : Triple} {next : ℕ} (k : r ≡ Ok (Ready step w next)) (a : Result ℕ Question) (after : List ℕ)
      (ea : (at next : ℕ) (callers : List Frame) (s : Position) → Stands h callers s
      → on_move at next after (performed_as bytes i s (instruction_of step) a) ≡ line_turn bytes i offsets (state at s program) next step) where
    taken : on_move at next after (performed_as bytes i f.position (instruction_of step) a) ≡ turn_of bytes i offsets plan here
    unfolding read_turn
    taken = ea at next callers f.position f.stands ∙ rw k at read

    pub follow-refused : (refusal : Refusal) → NoHere a refusal → followed_by (Err refusal) after ≡ whole
    unfolding on_move performed_as followed_by
    follow-refused refusal ka = rw ka.2 (stops _ (rw ka.1 at taken))

    module _ {facts : ℕ} (ka : a ≡ Ok facts) where
      abbrev then : Position
      then = counted (moved_by bytes i f.position facts (instruction_of step))

      goes : go (state next then after) ≡ turn_of bytes i offsets plan here
      unfolding on_move performed_as
      goes = rw ka at taken

      pub follow-falls : length plan - next < length plan - at
      follow-falls = falls bytes i offsets plan here _ (sym goes)

      pub follow-on : IfOk r (ReadyAt i h) → OnOk a (Room i h.depth (instruction_of step)) → {g : Frame} → g ≡ caller_of h
          → {below : Frame} → below ≡ get_or (set callers h.depth g) (h.depth - 1) origin
          → {v : Instruction} → v ≡ instruction_of step → {n : Head}
          → n ≡ counted_head (moved_head bytes i h below facts v) → Following bytes i offsets plan whole next after n (set callers h.depth g)
      follow-on ready room {g = g} eg {below = below} b ev {n = n} en =
          let bounded = (passed-held bytes _ f.passed).task in
          let ask = (ready-is k ready).askable in
          let case : f.position.case < i.cases = omega (arith, ask.case, f.stands.case) in
          let left : f.position.steps < i.bounds.steps = omega (arith, ask.left, f.stands.steps) in
          let stands : Stands n (set callers h.depth g) then =
          rw (en, ev, eg)
          (step-stands i bounded h callers f.position f.stands f.possible case left (instruction_of step) ask.allowed bytes below facts
          (rw ka at room) f.room (rw (← eg) b)) in
          standing bytes i offsets f.presets f.passed plan whole next after n (set callers h.depth g) then stands
          (turn-stands bytes _ f.passed plan here _ f.possible (sym goes)) (from_goes bytes i offsets plan here whole f.rest _ goes)
          (length-set callers h.depth g ∙ f.room)

-- what a step requires of a head that is ready, so that no number leaves its type
pub follow-fits : {bytes : List ℕ} {i : Index} {offsets plan : List ℕ} {whole : Outcome} {at : ℕ} {program : List ℕ} {h : Head} {callers : List Frame}
    → Following bytes i offsets plan whole at program h callers → {step : Step} {w : Triple} → StepReady i h step w → Fits h (instruction_of step)
follow-fits {i = i} {h = h} {callers = callers} f {step = step} ready =
    let ask = ready.askable in
    head-fits i (passed-held _ _ f.passed).task h callers f.position f.stands f.possible (omega (arith, ask.case, f.stands.case))
    (omega (arith, ask.left, f.stands.steps)) (instruction_of step) ask.allowed
