-- The plan, record by record. A turn that goes on has read a step, and every question about it has said yes; one that accepts has read the
-- closing record at the end of the plan. So a turn that goes on goes to an offset behind its own, and the loop's law applies: what the plan
-- comes to from here on is one turn, and then what it comes to from there on. It keeps the position possible, and the steps within the bound.
-- Assumes nothing.
use Prim.Native.Nat.{ℕ, ◌+◌, ◌*◌, ◌≤◌, ◌<◌}
use mathlib.Core.Path.{◌≡◌, refl, sym, ap, ◌∙◌}
use mathlib.Core.Bool.{Bool, true, false}
use mathlib.Core.List.{List}
use native.Mathlib.Omega.{arith}
use lib.Dec.{eqb}
use lib.ListN.{length}
use borrow.Author.Tests.{ltb-true, eqb-true, lt-ltb, eq-eqb}
use Rattle.records.specs.Loop.{Turn, stop, go, ask, after, loop}
use Rattle.records.specs.Record.{record_at}
use Rattle.std.specs.Prelude.{Option, None, Some, Ok}
use Rattle.records.specs.declared.record.Record.{Record}
use Rattle.records.proofs.Laws.Record.{found_record, record-ends}
use Rattle.records.proofs.Laws.Loop.{Keeps, ask-keeps, unroll, loop-keeps}
use Rattle.records.proofs.Laws.Tests.{cond_either}
use Rattle.task.specs.Instruction.{decode_for, triple_at}
use Rattle.task.specs.Program.{line_offset}
use Rattle.task.specs.declared.index.Index.{Index}
use Rattle.task.specs.declared.index.Layout.{Layout}
use Rattle.task.specs.declared.instruction.Instruction.{Instruction}
use Rattle.task.proofs.Laws.Instruction.{decoded-for}
use Rattle.task.specs.Reading.{Reading, accepted as accepted_task, read_task, reading}
use Rattle.task.proofs.Laws.Passed.{Passed, passed}
use Rattle.step.specs.Perform.{perform}
use Rattle.step.specs.Position.{same_frame, starting, top}
use Rattle.step.specs.Possible.{possible}
use Rattle.step.specs.declared.position.Frame.{Frame}
use Rattle.step.specs.declared.position.Position.{Position}
use Rattle.step.proofs.Laws.Kept.{step-possible}
use Rattle.step.proofs.Laws.Perform.{RefusalNumber, steps-grow, stop-number}
use Rattle.step.proofs.Laws.Possible.{parts, case_open}
use Rattle.checker.specs.Answer.{Outcome, refused, accepted}
use Rattle.checker.specs.Check.{State, line_fits, written, on_move, on_step, on_decoded, step_turn, close_turn, on_record, turn_of, left, begin, follow}
use Rattle.checker.specs.Plan.{step_of, is_kind, length_fits, frame_at}
use Rattle.checker.specs.Questions.{PLAN-RECORD, PLAN-CLOSED}
use Rattle.checker.proofs.Laws.Check.{same-frame, step-instruction}

module _ (bytes : List ℕ) (i : Index) (offsets plan : List ℕ) (s : State) where
  -- a step's record at the offset: questions 11 to 13 say yes
  pub record StepRecord (kind body size next : ℕ) : Type 0 where
    pub found : record_at plan s.at ≡ found_record kind body size next
    pub known : is_kind kind ≡ true
    pub fits : length_fits kind size ≡ true
    pub step : eqb kind 5 ≡ false

  -- a step that is taken at frame `f`: questions 14 to 22 say yes, and the run goes on to a position
  pub record Taken (kind body : ℕ) (f : Frame) (w : Instruction) (position : Position) : Type 0 where
    pub few : s.position.steps < i.bounds.steps
    pub decoded : decode_for i.bounds i.actions f.procedure f.line (triple_at plan (body + 2)) ≡ Some w
    pub case : s.position.case < i.cases
    pub here : same_frame f (top s.position) ≡ true
    pub line : line_fits (triple_at s.program (line_offset i.bounds f.procedure f.line)) (step_of kind w) ≡ true
    pub moves : perform bytes i offsets s.position w ≡ go position

  -- the state that a taken step leads to
  abbrev pub reached : ℕ → ℕ → Frame → Instruction → Position → State
  reached kind next f w position =
      record {
        at = next;
        position = position;
        program = written s.program (line_offset i.bounds f.procedure f.line) (step_of kind w);
      }

  -- a turn that goes on: it read a step, and took it
  pub record Went (t : State) : Type 0 where
    pub kind : ℕ
    pub body : ℕ
    pub size : ℕ
    pub next : ℕ
    pub instruction : Instruction
    pub position : Position
    pub read : StepRecord kind body size next
    pub taken : Taken kind body (frame_at plan body) instruction position
    pub to : t ≡ reached kind next (frame_at plan body) instruction position

  -- a turn that accepts: it read the closing record, where the plan ends, and all cases are finished
  pub record Ends (steps : ℕ) (program : List ℕ) : Type 0 where
    pub kind : ℕ
    pub body : ℕ
    pub size : ℕ
    pub next : ℕ
    pub found : record_at plan s.at ≡ found_record kind body size next
    pub known : is_kind kind ≡ true
    pub fits : length_fits kind size ≡ true
    pub closing : eqb kind 5 ≡ true
    pub case : s.position.case ≡ i.cases
    pub end : next ≡ length plan
    pub count : steps ≡ s.position.steps
    pub same : program ≡ s.program

  -- what an answer says: a refusal has a number that one can have, and the record's offset as its place, or for 24 the offset behind the closing record
  abbrev Ended : Outcome → Type 0
  Ended (refused question place) = RefusalNumber question × (place ≤ s.at + 4)
  Ended (accepted steps program) = Ends steps program

  abbrev Says : Turn State Outcome → Type 0
  Says = Keeps Went Ended

  ask-says : (answer : Bool) (question : ℕ) (rest : Turn State Outcome) → RefusalNumber question → (answer ≡ true → Says rest)
      → Says (ask answer (refused question s.at) rest)
  ask-says answer question rest n k = ask-keeps Went Ended answer _ rest (n, omega arith) k

  module _ (kind body size next : ℕ) where
    move-says : StepRecord kind body size next → (w : Instruction)
        → ((position : Position) → perform bytes i offsets s.position w ≡ go position → Taken kind body (frame_at plan body) w position)
        → (u : Turn Position ℕ) → perform bytes i offsets s.position w ≡ u
        → Says (on_move s.at next (reached kind next (frame_at plan body) w s.position).program u)
    unfolding on_move
    move-says r w taken (stop question) e = (stop-number bytes i offsets s.position w question e, omega arith)
    move-says r w taken (go position) e =
        record {
          kind = kind;
          body = body;
          size = size;
          next = next;
          instruction = w;
          position = position;
          read = r;
          taken = taken position e;
          to = refl;
        }

    decoded-says : StepRecord kind body size next → s.position.steps < i.bounds.steps → (d : Option Instruction)
        → decode_for i.bounds i.actions (frame_at plan body).procedure (frame_at plan body).line (triple_at plan (body + 2)) ≡ d
        → Says (on_decoded bytes i offsets s kind next (frame_at plan body) d)
    unfolding on_decoded on_step
    decoded-says r few None e = omega arith
    decoded-says r few (Some w) e =
        ask-says _ _ _ (omega arith) λ case.
        ask-says _ _ _ (omega arith) λ here.
        ask-says _ _ _ (omega arith) λ line.
        rw (step-instruction kind w)
        (move-says r w (λ position m. record { few = few; decoded = e; case = ltb-true _ _ case; here = here; line = line; moves = m }) _ refl)

    step-says : StepRecord kind body size next → Says (step_turn bytes i offsets s plan kind body next)
    unfolding step_turn
    step-says r = ask-says _ _ _ (omega arith) λ few. decoded-says r (ltb-true _ _ few) _ refl

    close-says : record_at plan s.at ≡ found_record kind body size next → is_kind kind ≡ true → length_fits kind size ≡ true → eqb kind 5 ≡ true
        → Says (close_turn i plan s next)
    unfolding close_turn length_fits
    close-says found known fits closing =
        let none = eqb-true size 0 (rw closing at fits) in
        let behind : next ≤ s.at + 4 = omega (arith, record-ends plan s.at kind body size next found) in
        ask-says _ _ _ (omega arith) λ case.
        ask-keeps Went Ended _ (refused PLAN-CLOSED next) _ (omega (arith, behind)) λ end.
        record {
          kind = kind;
          body = body;
          size = size;
          next = next;
          found = found;
          known = known;
          fits = fits;
          closing = closing;
          case = eqb-true _ _ case;
          end = eqb-true _ _ end;
          count = refl;
          same = refl;
        }

  record-says : (f : Option Record) → record_at plan s.at ≡ f → Says (on_record bytes i offsets plan s f)
  unfolding on_record
  record-says None e = omega arith
  record-says (Some r) e =
      ask-says _ _ _ (omega arith) λ known.
      ask-says _ _ _ (omega arith) λ fits.
      cond_either Says (eqb r.kind 5) (close_turn i plan s r.next) (step_turn bytes i offsets s plan r.kind r.body r.next)
      (λ closing. close-says r.kind r.body r.length r.next e known fits closing)
      (λ step. step-says r.kind r.body r.length r.next (record { found = e; known = known; fits = fits; step = step }))

  turn-says : Says (turn_of bytes i offsets plan s)
  unfolding turn_of
  turn-says = record-says (record_at plan s.at) refl

  -- a turn that goes on took a step, and a step that can be taken is
  pub goes-went : (t : State) → turn_of bytes i offsets plan s ≡ go t → Went t
  goes-went t e = rw e at turn-says

  pub went-goes : (t : State) → Went t → turn_of bytes i offsets plan s ≡ go t
  unfolding turn_of on_record step_turn on_decoded on_step on_move ask
  went-goes t w =
      let r = w.read in
      let k = w.taken in
      rw r.found
      (simp (
        r.known,
        r.fits,
        r.step,
        lt-ltb _ _ k.few,
        k.decoded,
        lt-ltb _ _ k.case,
        k.here,
        k.line,
        step-instruction w.kind w.instruction,
        k.moves,
        w.to,
      ))

  -- a turn that accepts read the closing record, and the closing record at the end, with all cases finished, is accepted
  pub accepts-ends : (steps : ℕ) (program : List ℕ) → turn_of bytes i offsets plan s ≡ stop (accepted steps program) → Ends steps program
  accepts-ends steps program e = rw e at turn-says

  pub ends-accepts : (steps : ℕ) (program : List ℕ) → Ends steps program → turn_of bytes i offsets plan s ≡ stop (accepted steps program)
  unfolding turn_of on_record close_turn ask
  ends-accepts steps program e =
      rw e.found (simp (e.known, e.fits, e.closing, eq-eqb _ _ e.case, eq-eqb _ _ e.end, e.count, e.same))

  -- a turn that refuses has a number that a refusal can have, at its record or right behind a closing one
  refuses-near : (question place : ℕ) → turn_of bytes i offsets plan s ≡ stop (refused question place) → RefusalNumber question × (place ≤ s.at + 4)
  refuses-near question place e = rw e at turn-says

  -- the next record is behind this one
  pub falls : (t : State) → turn_of bytes i offsets plan s ≡ go t → left plan t < left plan s
  falls t e =
      let w = goes-went t e in
      omega (arith, record-ends plan s.at w.kind w.body w.size w.next w.read.found, ap (λ (u : State). u.at) w.to)

-- a possible position, with its 16 frames
abbrev pub Standing : Index → Position → Type 0
Standing i p = (possible i p ≡ true) × (length p.frames ≡ 16)

-- what holds of a task that passes
pub read-passed : (bytes : List ℕ) (t : Layout) → reading (Ok t) ≡ read_task bytes → Passed bytes t
unfolding reading accepted_task
read-passed bytes t e = rw (ap (λ (r : Reading). r.layout) e) (passed bytes 0 (sym (ap (λ (r : Reading). r.verdict) e)))

-- a turn that goes on leads to a possible position again
pub turn-stands : (bytes : List ℕ) (t : Layout) → Passed bytes t → (plan : List ℕ) (s u : State) → Standing t.index s.position
    → turn_of bytes t.index t.offsets plan s ≡ go u → Standing t.index u.position
turn-stands bytes t passed plan s u h e =
    let w = goes-went bytes t.index t.offsets plan s u e in
    let k = w.taken in
    let p = s.position in
    let above = case_open t.index p (parts t.index p h.0).depth (omega (arith, k.case)) in
    let line = (decoded-for _ _ _ _ _ _ k.decoded).allowed in
    let same = same-frame (frame_at plan w.body) (top p) k.here in
    rw w.to (step-possible bytes t passed p h.0 above k.few h.1 w.instruction (rw same at line) w.position k.moves)

-- what the plan comes to from a state on
unfoldable pub from : List ℕ → Index → List ℕ → List ℕ → State → Outcome
from bytes i offsets plan = loop (turn_of bytes i offsets plan) (left plan) (refused PLAN-RECORD 0)

module _ (bytes : List ℕ) (i : Index) (offsets plan : List ℕ) where
  pub from-begin : (presets : List ℕ)
      → from bytes i offsets plan (begin bytes i presets) ≡ follow bytes (record { index = i; offsets = offsets; presets = presets }) plan
  unfolding from follow
  from-begin presets = refl

  -- one turn, and then the rest
  pub from-turn : (s : State) → from bytes i offsets plan s ≡ after (turn_of bytes i offsets plan s) (from bytes i offsets plan)
  unfolding from
  from-turn s = unroll (turn_of bytes i offsets plan) (left plan) (refused PLAN-RECORD 0) (falls bytes i offsets plan) s

  -- one record more
  module _ (s : State) (whole : Outcome) (r : from bytes i offsets plan s ≡ whole) where
    rest : (t : Turn State Outcome) → t ≡ turn_of bytes i offsets plan s → after t (from bytes i offsets plan) ≡ whole
    rest t e = ap (λ (u : Turn State Outcome). after u (from bytes i offsets plan)) e ∙ sym (from-turn s) ∙ r

    pub from_goes : (t : State) → go t ≡ turn_of bytes i offsets plan s → from bytes i offsets plan t ≡ whole
    unfolding after
    from_goes t e = rest (go t) e

    pub from-stops : (x : Outcome) → stop x ≡ turn_of bytes i offsets plan s → x ≡ whole
    unfolding after
    from-stops x e = rest (stop x) e

-- a result within the step bound: no more steps than that; a refusal has a number that one can have, and a place that the records of so many steps and
-- the closing one reach
abbrev pub Within : Index → Outcome → Type 0
Within i (refused question place) = RefusalNumber question × (place ≤ 9 * i.bounds.steps + 4)
Within i (accepted steps bytes) = steps ≤ i.bounds.steps

module _ (bytes : List ℕ) (t : Layout) (plan : List ℕ) where
  -- question 13 has every step's record be nine bytes long, and question 14 has the steps be no more than the bound
  record Read (s : State) : Type 0 where
    read : s.at ≡ 9 * s.position.steps
    few : s.position.steps ≤ t.index.bounds.steps

  turn-within : (s : State) → Read s → (u : Turn State Outcome) → turn_of bytes t.index t.offsets plan s ≡ u → Keeps Read (Within t.index) u
  unfolding length_fits
  turn-within s r (go v) e =
      let w = goes-went bytes t.index t.offsets plan s v e in
      let five = eqb-true w.size 5 (rw w.read.step at w.read.fits) in
      omega (
        arith,
        record-ends plan s.at w.kind w.body w.size w.next w.read.found,
        ap (λ (x : State). x.at) w.to,
        ap (λ (x : State). x.position.steps) w.to,
        steps-grow bytes t.index t.offsets s.position w.instruction w.position w.taken.moves,
        w.taken.few,
      )
  turn-within s r (stop (refused question place)) e =
      let h = refuses-near bytes t.index t.offsets plan s question place e in (h.0, omega (arith, h.1, r.read, r.few))
  turn-within s r (stop (accepted steps program)) e =
      omega (arith, (accepts-ends bytes t.index t.offsets plan s steps program e).count, r.few)

  pub follow-within : Within t.index (follow bytes t plan)
  unfolding follow begin starting
  follow-within =
      loop-keeps Read (Within t.index) _ (left plan) _ (λ s r. turn-within s r _ refl) (omega arith) _ (omega arith)
