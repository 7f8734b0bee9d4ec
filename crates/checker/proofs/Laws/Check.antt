-- One record of a plan, answer by answer: what its tests lead to, as the functions that follow the plan find out. Each law is for every state
-- with an offset, a position and a program.
-- Assumes nothing.
use Prim.Native.Nat.{ℕ, ◌+◌, ◌≤◌, ◌<◌}
use mathlib.Core.Path.{◌≡◌, refl, sym, ap, ◌∙◌}
use mathlib.Core.Bool.{Bool, true, false, false≢true, ◌&&◌, ◌||◌, and_assoc}
use mathlib.Core.List.{List, []}
use lib.Dec.{eqb, ltb}
use lib.ListN.{length}
use native.Mathlib.Omega.{arith}
use borrow.Author.Tests.{lt-ltb, le-ltb, ltb-true, eq-eqb, ne_eqb, eqb-true}
use Rattle.records.specs.Loop.{Turn, stop}
use Rattle.records.specs.Record.{record_at}
use Rattle.std.specs.Prelude.{Option, None, Some, Result, Ok, Err, OnOk}
use Rattle.records.specs.declared.record.Record.{Record}
use Rattle.records.proofs.Laws.Record.{record-ends}
use Rattle.records.proofs.Laws.Loop.{ask-yes, ask-no}
use Rattle.records.proofs.Laws.Tests.{both_true, cond_either, cond_yes, cond_no}
use Rattle.task.specs.Bounds.{in_range}
use Rattle.task.specs.Instruction.{spelled, encode, decode_for, triple_at, with_triple}
use Rattle.task.specs.Program.{line_offset, same_triple, is_instruction}
use Rattle.task.specs.declared.bounds.Bounds.{Bounds}
use Rattle.task.specs.declared.index.Index.{Index}
use Rattle.task.specs.declared.instruction.Instruction.{Instruction}
use Rattle.task.specs.declared.instruction.Line.{Line}
use Rattle.task.specs.declared.instruction.Proc.{Proc}
use Rattle.task.specs.declared.instruction.Triple.{Triple}
use Rattle.task.specs.declared.questions.Question.{Question}
use Rattle.task.proofs.Laws.Instruction.{keep-is, not-instruction, instruction-is, decode-spelled, decoded-for, decoded-there, put-length}
use Rattle.task.proofs.Laws.Triple.{same-triple, put_same}
use Rattle.step.specs.declared.head.Head.{Head}
use Rattle.step.specs.Perform.{perform}
use Rattle.step.specs.Position.{same_frame, top}
use Rattle.step.specs.Questions.{STEPS}
use Rattle.step.specs.Head.{Stands, top_of}
use Rattle.step.specs.Moved.{performed_as}
use Rattle.step.specs.Ready.{Room}
use Rattle.step.specs.declared.position.Frame.{Frame}
use Rattle.step.specs.declared.position.Position.{Position}
use Rattle.step.proofs.Laws.Moved.{asked-room}
use Rattle.checker.specs.Answer.{Outcome, refused, accepted}
use Rattle.checker.specs.Check.{line_fits, written, on_move, on_step, on_decoded, step_turn, close_turn, on_record, turn_of}
use Rattle.checker.specs.Kind.{kind_number}
use Rattle.checker.specs.declared.kind.PlanKind.{PlanKind}
use Rattle.checker.specs.declared.kind.PlanKind.TheVariants as kind
use Rattle.checker.specs.Outcome.{StepReady, state, shape_no, line_turn}
use Rattle.checker.specs.Plan.{instruction_of, step_of, is_kind, length_fits, frame_at}
use Rattle.checker.specs.Questions.{PLAN-RECORD, ALLOWED, OPEN, TOP, LINE, FINISHED, PLAN-CLOSED}
use Rattle.checker.specs.declared.plan.Step.{Step}
use Rattle.checker.specs.declared.plan.Step.TheVariants.{Write, Repeat}

-- frames with the same procedure and the same line are the same
pub frame_is : {f g : Frame} → f.procedure.0 ≡ g.procedure.0 → f.line.0 ≡ g.line.0 → f ≡ g
frame_is p l = λ i. record { procedure = record { 0 = p i }; line = record { 0 = l i } }

-- which is what question 17 asks
pub same-frame : (f g : Frame) → same_frame f g ≡ true → f ≡ g
unfolding same_frame
same-frame f g h =
    let both = both_true (eqb f.procedure.0 g.procedure.0) _ h in
    frame_is (eqb-true _ _ both.0) (eqb-true _ _ both.1)

pub frame_same : (f : Frame) → same_frame f f ≡ true
unfolding same_frame
frame_same f = simp (eq-eqb f.procedure.0 f.procedure.0 refl, eq-eqb f.line.0 f.line.0 refl)

-- neither of two tests holds
either-false : (a b : Bool) → (a || b) ≡ false → (a ≡ false) × (b ≡ false)
either-false true b h = absurd (false≢true (sym h))
either-false false b h = (refl, h)

-- questions 12 to 14 all say yes
pub record Shaped (kind size : ℕ) (left : Bool) : Type 0 where
  pub known : is_kind kind ≡ true
  pub fits : length_fits kind size ≡ true
  pub room : (eqb kind 5 || left) ≡ true

pub shaped : (kind size : ℕ) (left : Bool) → shape_no kind size left ≡ None → Shaped kind size left
unfolding shape_no
shaped kind size left =
    let P : Option ℕ → Type 0 = λ x. x ≡ None → Shaped kind size left in
    cond_either P (is_kind kind) _ _
    (λ known. cond_either P (length_fits kind size) _ _
    (λ fits. cond_either P (eqb kind 5 || left) _ _ (λ h e. record { known = known; fits = fits; room = h }) (λ h e. cc))
    (λ h e. cc))
    (λ h e. cc)

-- so a step's record has a step left
pub shaped-left : (kind size steps most : ℕ) → Shaped kind size (ltb steps most) → (kind ≡ 5 → ⊥) → steps < most
shaped-left kind size steps most y n = ltb-true steps most (rw (ne_eqb kind 5 n) at y.room)

-- a record whose kind is another than the closing one's has another number
pub not-closing : (number : ℕ) (k : PlanKind) → number ≡ kind_number k → (k ≡ kind.Closing → ⊥) → number ≡ 5 → ⊥
not-closing number k e n h = n (is-closing k (sym e ∙ h))
  where
    is-closing : (k : PlanKind) → kind_number k ≡ 5 → k ≡ kind.Closing
    is-closing kind.Closing z = refl
    is-closing kind.Write z = absurd (omega arith)
    is-closing kind.Repeat z = absurd (omega arith)

-- the step of a record runs the record's instruction
pub step-instruction : (kind : ℕ) (w : Instruction) → instruction_of (step_of kind w) ≡ w
unfolding instruction_of step_of
step-instruction kind w = cond_either (λ (x : Step). instruction_of x ≡ w) (eqb kind 16) _ _ (λ h. refl) (λ h. refl)

-- three bytes that question 15 lets pass, as `m` says, spell an instruction, and it is the one
module _ (b : Bounds) (actions : ℕ) (j : Proc) (l : Line) (t : Triple) (m : Bool) (em : m ≡ is_instruction (decode_for b actions j l t))
    (y : m ≡ true) where
  some : (w : Instruction) × (decode_for b actions j l t ≡ Some w)
  some = instruction-is _ (sym em ∙ y)

  for-spelled : (w : Instruction) → decode_for b actions j l t ≡ Some w → spelled t ≡ Some w
  unfolding decode_for
  for-spelled w h = decode-spelled b actions l t w (keep-is _ _ w h).1

  pub for-spells : is_instruction (spelled t) ≡ true
  unfolding is_instruction
  for-spells = rw (for-spelled some.0 some.1) refl

  for-is : (w : Instruction) → spelled t ≡ Some w → decode_for b actions j l t ≡ Some w
  for-is w e = some.1 ∙ sym (for-spelled some.0 some.1) ∙ e

-- a step on its line, by the instruction's three bytes `w`
module _ (step : Step) (w : Triple) (k : w ≡ encode (instruction_of step)) where
  -- question 18 of a repeat
  pub line-repeats : (v : Instruction) → step ≡ Repeat v → (held : Triple)
      → (eqb held.op w.op && (eqb held.p w.p && eqb held.q w.q)) ≡ line_fits held step
  unfolding line_fits instruction_of same_triple
  line-repeats v e held = sym (and_assoc (eqb held.op w.op) (eqb held.p w.p) (eqb held.q w.q)) ∙ rw e (ap (same_triple held) (rw e at k))

  -- a step that fits its line leaves these three bytes there: a repeat's are there already
  pub line-filled : (program : List ℕ) (at : ℕ) → line_fits (triple_at program at) step ≡ true → with_triple program at w ≡ written program at step
  unfolding written instruction_of line_fits
  line-filled program at h = fills step k h
    where
      fills : (x : Step) → w ≡ encode (instruction_of x) → line_fits (triple_at program at) x ≡ true → with_triple program at w ≡ written program at x
      fills (Write v) e y = ap (with_triple program at) e
      fills (Repeat v) e y = rw (e, ← same-triple (triple_at program at) (encode v) y) (put_same program at)

-- a step writes in place
pub written-length : (program : List ℕ) (at : ℕ) (step : Step) → length (written program at step) ≡ length program
unfolding written
written-length program at (Write w) = put-length program at (encode w)
written-length program at (Repeat w) = refl

-- a step on the top frame's line that questions 14 to 17 let pass
pub step-is-ready : (i : Index) (h : Head) → in_range i.bounds ≡ true → h.case < i.cases → h.steps < i.bounds.steps → (f : Frame)
    → same_frame f (top_of h) ≡ true → {w : Triple} {m : Bool}
    → m ≡ is_instruction (decode_for i.bounds i.actions f.procedure f.line w) → m ≡ true
    → {x : Instruction} → spelled w ≡ Some x → (kind : ℕ) → StepReady i h (step_of kind x) w
unfolding top_of
step-is-ready i h ranges case left f same {w = w} {m = m} em y {x = x} e kind =
    let there = decoded-for i.bounds i.actions f.procedure f.line w x (for-is _ _ _ _ _ m em y x e) in
    let room = decoded-there i.bounds i.actions f.procedure f.line w (sym em ∙ y) ranges in
    let top = same-frame f (top_of h) same in
    let line : f.line ≡ h.line = ap (λ (g : Frame). g.line) top in
    let procedure : f.procedure ≡ h.procedure = ap (λ (g : Frame). g.procedure) top in
    record {
      askable = record { case = case; left = left; allowed = rw (step-instruction kind x, ← line) there.allowed };
      spells = rw (step-instruction kind x) (sym there.encodes);
      there = rw (← procedure, ← line) room;
    }

-- the closing record
module _ (i : Index) (plan : List ℕ) (at : ℕ) (p : Position) (program : List ℕ) (next : ℕ) where
  pub cases-left : (p.case ≡ i.cases → ⊥) → stop (refused FINISHED at) ≡ close_turn i plan (state at p program) next
  unfolding close_turn
  cases-left h = ask-no _ _ _ (ne_eqb p.case i.cases h)

  module _ (h : p.case ≡ i.cases) where
    pub bytes_left : (next ≡ length plan → ⊥) → stop (refused PLAN-CLOSED next) ≡ close_turn i plan (state at p program) next
    unfolding close_turn
    bytes_left n = ask-no _ _ _ (ne_eqb next (length plan) n) ∙ ask-yes _ _ _ (eq-eqb p.case i.cases h)

    pub closes : next ≡ length plan → stop (accepted p.steps program) ≡ close_turn i plan (state at p program) next
    unfolding close_turn
    closes n = ask-yes _ _ _ (eq-eqb next (length plan) n) ∙ ask-yes _ _ _ (eq-eqb p.case i.cases h)

-- the answer `r` to questions 19 to 22, of any position with these facts, this case and this depth: a call has room for its frame
module _ (bytes : List ℕ) (i : Index) (offsets : List ℕ) (h : Head) (w : Instruction) (r : Result ℕ Question)
    (e : (s : Position) → s.facts ≡ h.facts → s.case ≡ h.case → s.depth ≡ h.depth
    → performed_as bytes i s w r ≡ perform bytes i offsets s w) where
  room_for : (q : Result ℕ Question) → r ≡ q → OnOk q (Room i h.depth w)
  room_for (Err question) k = tt
  room_for (Ok after) k =
      let s : Position = record { facts = h.facts; steps = 0; case = h.case; depth = h.depth; frames = [] } in
      asked-room bytes i offsets s w r (e s refl refl refl) after k

  pub asked-room-for : OnOk r (Room i h.depth w)
  asked-room-for = room_for r refl

-- a step of the top frame's line: `held` is on the line, `l` says whether the step fits it
module _ (bytes : List ℕ) (i : Index) (offsets : List ℕ) (h : Head) (step : Step) (offset : ℕ)
    (eo : offset ≡ line_offset i.bounds h.procedure h.line) (program : List ℕ) (l : Bool)
    (el : l ≡ line_fits (triple_at program offset) step) (callers : List Frame) (p : Position) (st : Stands h callers p) (at next : ℕ) where
  on_line : offset ≡ line_offset i.bounds (top p).procedure (top p).line
  unfolding top_of
  on_line = rw st.top eo

  pub line-differs : l ≡ false → stop (refused LINE at) ≡ line_turn bytes i offsets (state at p program) next step
  unfolding line_turn
  line-differs n = ask-no _ _ _ (cc (← on_line, el, n))

  pub line_taken : l ≡ true → (after : List ℕ) → after ≡ written program offset step → (r : Result ℕ Question)
      → performed_as bytes i p (instruction_of step) r ≡ perform bytes i offsets p (instruction_of step)
      → on_move at next after (performed_as bytes i p (instruction_of step) r) ≡ line_turn bytes i offsets (state at p program) next step
  unfolding line_turn
  line_taken y after ea r er = cc (ea, er, on_line) ∙ ask-yes _ _ _ (cc (← on_line, el, y))

module _ (bytes : List ℕ) (i : Index) (offsets : List ℕ) (at : ℕ) (p : Position) (program plan : List ℕ) (kind body next : ℕ) where
  -- a step's body: its frame is `f`, `w` its three bytes, and `m` says whether they spell an instruction for its line
  abbrev f : Frame
  f = frame_at plan body

  module _ (few : p.steps < i.bounds.steps) {w : Triple} (ew : w ≡ triple_at plan (body + 2)) {m : Bool}
      (em : m ≡ is_instruction (decode_for i.bounds i.actions f.procedure f.line w)) where
    on-decoded : on_decoded bytes i offsets (state at p program) kind next f (decode_for i.bounds i.actions f.procedure f.line w)
        ≡ step_turn bytes i offsets (state at p program) plan kind body next
    unfolding step_turn
    on-decoded = rw ew (ask-yes _ _ _ (lt-ltb p.steps i.bounds.steps few))

    pub none-decoded : m ≡ false → stop (refused ALLOWED at) ≡ step_turn bytes i offsets (state at p program) plan kind body next
    unfolding on_decoded
    none-decoded h = rw (not-instruction _ (sym em ∙ h)) at on-decoded

    module _ (y : m ≡ true) where
      on-step : (x : Instruction) → spelled w ≡ Some x
          → on_step bytes i offsets (state at p program) next f (step_of kind x) ≡ step_turn bytes i offsets (state at p program) plan kind body next
      unfolding on_decoded
      on-step x h = rw (for-is _ _ _ _ _ m em y x h) at on-decoded

      -- whatever the instruction is
      some-step : {A : Type 0} → ((x : Instruction) → on_step bytes i offsets (state at p program) next f (step_of kind x)
          ≡ step_turn bytes i offsets (state at p program) plan kind body next → A) → A
      some-step k = let one = instruction-is _ (for-spells _ _ _ _ _ m em y) in k one.0 (on-step one.0 one.1)

      pub none_open : i.cases ≤ p.case → stop (refused OPEN at) ≡ step_turn bytes i offsets (state at p program) plan kind body next
      unfolding on_step
      none_open h = some-step (λ x e. ask-no _ _ _ (le-ltb p.case i.cases h) ∙ e)

      module _ (o : p.case < i.cases) where
        pub another-line : same_frame f (top p) ≡ false
            → stop (refused TOP at) ≡ step_turn bytes i offsets (state at p program) plan kind body next
        unfolding on_step
        another-line h = some-step (λ x e. ask-no _ _ _ h ∙ ask-yes _ _ _ (lt-ltb p.case i.cases o) ∙ e)

        pub step-ready : f ≡ top p → {x : Instruction} → spelled w ≡ Some x
            → line_turn bytes i offsets (state at p program) next (step_of kind x)
            ≡ step_turn bytes i offsets (state at p program) plan kind body next
        unfolding on_step line_turn
        step-ready e {x = x} h =
            rw e (ask-yes _ _ _ (frame_same (top p))) ∙ ask-yes _ _ _ (lt-ltb p.case i.cases o) ∙ on-step x h

module _ (bytes : List ℕ) (i : Index) (offsets plan : List ℕ) (at : ℕ) (p : Position) (program : List ℕ) where
  -- the record that `f` found at the offset
  module _ (f : Option Record) (e : f ≡ record_at plan at) where
    pub record-missing : f ≡ None → stop (refused PLAN-RECORD at) ≡ turn_of bytes i offsets plan (state at p program)
    unfolding turn_of on_record
    record-missing h = rw (← e, h)

    module _ (r : Record) (g : f ≡ Some r) where
      on-record : on_record bytes i offsets plan (state at p program) (Some r) ≡ turn_of bytes i offsets plan (state at p program)
      unfolding turn_of
      on-record = rw (← e, g) refl

      steps-used : ltb p.steps i.bounds.steps ≡ false
          → stop (refused STEPS at) ≡ step_turn bytes i offsets (state at p program) plan r.kind r.body r.next
      unfolding step_turn
      steps-used h = ask-no _ _ _ h

      -- a question of 12 to 14 that says no
      abbrev Refuses : Option ℕ → Type 0
      Refuses (Some question) = stop (refused question at) ≡ on_record bytes i offsets plan (state at p program) (Some r)
      Refuses None = Unit {0}

      refuses : Refuses (shape_no r.kind r.length (ltb p.steps i.bounds.steps))
      unfolding shape_no on_record
      refuses =
          cond_either Refuses (is_kind r.kind) _ _
          (λ known. cond_either Refuses (length_fits r.kind r.length) _ _
          (λ fits. cond_either Refuses (eqb r.kind 5 || ltb p.steps i.bounds.steps) _ _ (λ y. tt)
          (λ n.
          let neither = either-false (eqb r.kind 5) (ltb p.steps i.bounds.steps) n in
          steps-used neither.1 ∙ cond_no _ false _ _ (sym neither.0) refl ∙ ask-yes _ _ _ fits ∙ ask-yes _ _ _ known))
          (λ n. ask-no _ _ _ n ∙ ask-yes _ _ _ known))
          (λ n. ask-no _ _ _ n)

      pub shape-refused : (question : ℕ) → shape_no r.kind r.length (ltb p.steps i.bounds.steps) ≡ Some question
          → stop (refused question at) ≡ turn_of bytes i offsets plan (state at p program)
      shape-refused question h = rw h at refuses ∙ on-record

      -- all three say yes
      module _ (y : Shaped r.kind r.length (ltb p.steps i.bounds.steps)) where
        pub closing-record : r.kind ≡ 5 → close_turn i plan (state at p program) r.next ≡ turn_of bytes i offsets plan (state at p program)
        unfolding on_record
        closing-record h = cond_yes _ true _ _ (sym (eq-eqb r.kind 5 h)) refl ∙ ask-yes _ _ _ y.fits ∙ ask-yes _ _ _ y.known ∙ on-record

        pub step-record : (r.kind ≡ 5 → ⊥) → (t : Turn _ Outcome)
            → t ≡ step_turn bytes i offsets (state at p program) plan r.kind r.body r.next
            → t ≡ turn_of bytes i offsets plan (state at p program)
        unfolding on_record
        step-record h t d =
            d ∙ cond_no _ false _ _ (sym (ne_eqb r.kind 5 h)) refl ∙ ask-yes _ _ _ y.fits ∙ ask-yes _ _ _ y.known ∙ on-record

-- a step's body is in the plan
pub step-there : (plan : List ℕ) (at : ℕ) (f : Option Record) → f ≡ record_at plan at → (r : Record) → f ≡ Some r
    → length_fits r.kind r.length ≡ true → (r.kind ≡ 5 → ⊥) → r.body + 5 ≤ length plan
unfolding length_fits
step-there plan at f e r g l n =
    omega (arith, record-ends plan at r.kind r.body r.length r.next (sym e ∙ g), eqb-true r.length 5 (rw (ne_eqb r.kind 5 n) at l))
