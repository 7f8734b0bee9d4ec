-- One instruction at a position is one of the compiled task's rules, and the other way round. A position's first frames, the top one first,
-- are the rules' stack; each of the seven moves does to that stack what one rule says, so an instruction that does not stop runs by that
-- rule, and an instruction that runs by a rule does not stop and comes to what the rule says.
-- Assumes nothing.
use Prim.Native.Nat.{ℕ, zero, suc, ◌+◌, ◌-◌, ◌≤◌, ◌<◌}
use mathlib.Core.Path.{◌≡◌, refl, sym, ap}
use mathlib.Core.List.{List, [], ◌∷◌}
use native.Mathlib.Decide.{dec_lt}
use native.Mathlib.Numerals.{unary_clauses}
use native.Mathlib.Omega.{arith}
use lib.ListN.{length, get_or, set, length-set}
use lib.Seq.{get_or-set_same, get_or-set_other}
use Rattle.records.specs.Loop.{go}
use Rattle.task.specs.Index.{case_at}
use Rattle.task.specs.declared.index.Layout.{Layout}
use Rattle.task.specs.declared.instruction.Instruction.{Instruction}
use Rattle.task.specs.declared.instruction.Line.{Line}
use Rattle.task.specs.declared.instruction.Proc.{Proc}
use Rattle.step.specs.Perform.{perform}
use Rattle.step.specs.Position.{origin, starting, top, jumped, advanced, pushed, popped, with_facts, next_case, finished, counted}
use Rattle.step.specs.declared.position.Frame.{Frame}
use Rattle.step.specs.declared.position.Position.{Position}
use Rattle.step.proofs.Laws.Perform as Made
use Rattle.step.proofs.Laws.Perform.{Move, performed, moves}
use Rattle.demands.specs.Compiled.{at, Running, started, Runs, acts, jumps, continues, calls, returns, begins, finishes}

-- the first so many frames, the highest first
unfoldable pub frames_below : List Frame → ℕ → List Frame
frames_below frames zero = []
frames_below frames (suc d) = get_or frames d origin ∷ frames_below frames d

-- the frames below the top one
abbrev below : Position → List Frame
below s = frames_below s.frames (s.depth - 1)

-- a position's stack, its top first
abbrev pub stack_of : Position → List Frame
stack_of s = frames_below s.frames s.depth

-- where a position's run is
abbrev pub running_of : Position → Running
running_of s = record { case = s.case; facts = s.facts; stack = stack_of s }

module _ (frames : List Frame) where
  frames-length : (d : ℕ) → length (frames_below frames d) ≡ d
  unfolding frames_below
  frames-length zero = refl
  frames-length (suc d) = ap suc (frames-length d)

  -- the highest of some frames, then those below it
  highest-first : (d : ℕ) → 0 < d → frames_below frames d ≡ get_or frames (d - 1) origin ∷ frames_below frames (d - 1)
  unfolding frames_below
  highest-first zero h = absurd (omega arith)
  highest-first (suc d) h = simp unary_clauses

  module _ (n : ℕ) (f : Frame) where
    -- a frame that is set changes none below it
    set-above : (d : ℕ) → d ≤ n → frames_below (set frames n f) d ≡ frames_below frames d
    unfolding frames_below
    set-above zero h = refl
    set-above (suc d) h = rw (get_or-set_other frames n d f origin (omega arith), set-above d (omega arith))

    -- and it is the highest of those up to it
    set-highest : (d : ℕ) → d ≡ n + 1 → n < length frames → frames_below (set frames n f) d ≡ f ∷ frames_below frames n
    unfolding frames_below
    set-highest zero e h = absurd (omega arith)
    set-highest (suc d) e h =
        let k : d ≡ n = omega arith in
        rw (k, get_or-set_same frames n f origin h, set-above n (omega arith))

-- what an instruction that runs at frame f by a rule, to r, does at a position: f is the top frame, and it goes to a position at r
pub record Performs (bytes : List ℕ) (t : Layout) (s : Position) (f : Frame) (w : Instruction) (r : Running) : Type 0 where
  pub here : f ≡ top s
  pub to : Position
  pub does : perform bytes t.index t.offsets s w ≡ go to
  pub running : running_of to ≡ r

-- a position with a frame, and room for 16. First what the moves make of its stack
module _ (bytes : List ℕ) (t : Layout) (bound : t.index.bounds.stack ≤ 16) (s : Position) (above : 0 < s.depth) (most : s.depth ≤ 16)
    (room : length s.frames ≡ 16) where
  top-first : stack_of s ≡ top s ∷ below s
  unfolding top
  top-first = highest-first s.frames s.depth above

  stack-jumped : (line : Line) → stack_of (jumped s line) ≡ record { procedure = (top s).procedure; line = line } ∷ below s
  unfolding jumped
  stack-jumped line = set-highest s.frames (s.depth - 1) _ s.depth (omega arith) (omega arith)

  stack-advanced : stack_of (advanced s) ≡ at (top s).procedure ((top s).line.0 + 1) ∷ below s
  unfolding advanced
  stack-advanced = stack-jumped _

  -- a call advances, then pushes
  stack-called : (procedure : Proc) → s.depth < 16
      → stack_of (pushed (advanced s) procedure) ≡ at procedure 0 ∷ at (top s).procedure ((top s).line.0 + 1) ∷ below s
  unfolding advanced jumped pushed
  stack-called procedure h =
      rw (set-highest (advanced s).frames s.depth (at procedure 0) (s.depth + 1) refl (rw length-set (omega arith)), stack-advanced)

  stack-popped : stack_of (popped s) ≡ below s
  unfolding popped
  stack-popped = set-above s.frames (s.depth - 1) origin (s.depth - 1) (omega arith)

  stack-next : (start : ℕ) → stack_of (next_case s start) ≡ at (record { 0 = 0 }) 0 ∷ []
  unfolding next_case origin frames_below
  stack-next start = set-highest s.frames 0 _ 1 refl (omega arith)

  stack-finished : stack_of (finished s) ≡ []
  unfolding finished frames_below
  stack-finished = refl

  -- the depth counts the top frame and those below it
  depth-counts : (rest : List Frame) → below s ≡ rest → s.depth ≡ suc (length rest)
  depth-counts rest e = omega (arith, frames-length s.frames (s.depth - 1), ap length e)

  none_below : s.depth ≤ 1 → below s ≡ []
  unfolding frames_below
  none_below h = let e : s.depth - 1 ≡ 0 = omega arith in rw e

  move-runs : s.case < t.index.cases → {w : Instruction} {u : Position}
      → Move bytes t.index t.offsets s w u → Runs bytes t (top s) w (running_of s) (running_of u)
  unfolding with_facts advanced jumped pushed popped next_case finished
  move-runs h (Made.acts k) = rw (top-first, stack-advanced) (acts k)
  move-runs h (Made.falls-through k) = rw (top-first, stack-advanced) (continues k)
  move-runs h (Made.jumps k) = rw (top-first, stack-jumped) (jumps k)
  move-runs h (Made.calls {procedure} k) =
      let l : length (top s ∷ below s) < t.index.bounds.stack = omega (arith, depth-counts (below s) refl) in
      rw (top-first, stack-called procedure (omega arith)) (calls l)
  move-runs h (Made.returns k) = rw (top-first, stack-popped, highest-first s.frames (s.depth - 1) (omega arith)) returns
  move-runs h (Made.begins k l m) = rw (top-first, none_below k, stack-next) (begins l m)
  move-runs h (Made.finishes k l m) = rw (top-first, none_below k, stack-finished) (finishes l (omega arith))

  -- an instruction that does not stop runs by a rule
  pub performs-runs : s.case < t.index.cases → (w : Instruction) (u : Position)
      → perform bytes t.index t.offsets s w ≡ go u → Runs bytes t (top s) w (running_of s) (running_of u)
  unfolding counted
  performs-runs h w u e = let m = performed bytes t.index t.offsets s w u e in rw m.after (move-runs h m.move)

  made : {w : Instruction} {u : Position} {r : Running} → Move bytes t.index t.offsets s w u → running_of u ≡ r → Performs bytes t s (top s) w r
  unfolding counted
  made m e = record { here = refl; to = _; does = sym (moves bytes t.index t.offsets s m); running = e }

  rule-performs : {f : Frame} {w : Instruction} {r : Running} (rest : List Frame) → below s ≡ rest
      → Runs bytes t f w (record { case = s.case; facts = s.facts; stack = top s ∷ rest }) r → Performs bytes t s f w r
  unfolding with_facts advanced jumped pushed popped next_case finished
  rule-performs rest e (acts h) = made (Made.acts h) (rw (stack-advanced, e))
  rule-performs rest e (jumps h) = made (Made.jumps h) (rw (stack-jumped, e))
  rule-performs rest e (continues h) = made (Made.falls-through h) (rw (stack-advanced, e))
  rule-performs rest e (calls h) =
      let l : s.depth < t.index.bounds.stack = omega (arith, depth-counts rest e) in
      made (Made.calls l) (rw (stack-called _ (omega arith), e))
  rule-performs rest e returns = made (Made.returns (omega (arith, depth-counts _ e))) (rw (stack-popped, e))
  rule-performs rest e (begins h k) = made (Made.begins (omega (arith, depth-counts [] e)) h k) (rw stack-next)
  rule-performs rest e (finishes h k) = made (Made.finishes (omega (arith, depth-counts [] e)) h (omega arith)) (rw stack-finished)

  -- an instruction that runs by a rule is at the top frame, does not stop, and comes to what the rule says
  pub runs-performs : {f : Frame} {w : Instruction} {r : Running} → Runs bytes t f w (running_of s) r → Performs bytes t s f w r
  runs-performs h = rule-performs (below s) refl (rw top-first at h)

module _ (bytes : List ℕ) (t : Layout) where
  -- a case's start
  pub starting-started : (c : ℕ) → running_of (starting c (case_at bytes t.index.first c).start) ≡ started bytes t c
  unfolding starting origin frames_below
  starting-started c = refl

  no-frame : {c facts : ℕ} {f : Frame} {w : Instruction} {r : Running} → Runs bytes t f w (record { case = c; facts = facts; stack = [] }) r → ⊥
  no-frame h = elim h [ ]

  -- no rule runs at a position without a frame
  pub runs-above : (s : Position) {f : Frame} {w : Instruction} {r : Running} → Runs bytes t f w (running_of s) r → 0 < s.depth
  unfolding frames_below
  runs-above s h =
      elim (dec_lt 0 s.depth) [
        | yes l ↦ l
        | no n ↦ let e : s.depth ≡ 0 = omega arith in absurd (no-frame (rw e at h))
      ]
