-- The heart of demand 3, over any positions and any step. To follow a plan fills lines and never changes one that is filled, so each line that a step visits
-- holds at the end what the step ran there: the program that was read off makes the same visits, and the plan's kinds are the ones that the visits give.
-- Conversely, a program's run on lines that it extends is followed by the plan that its visits give, and the lines come to what was there and what was visited.
-- Assumes nothing.
use Prim.Native.Nat.{suc}
use mathlib.Core.Path.{◌≡◌, refl, sym, ap, ◌∙◌}
use mathlib.Core.Bool.{Bool, true, false, cond, ◌||◌, or_comm, or_assoc, or-false}
use mathlib.Core.List.{List, [], ◌∷◌, ◌++◌, map}
use native.Mathlib.Omega.{arith}
use lib.Dec.{ltb}
use lib.ListN.{length}
use borrow.Author.Tests.{ltb-true, ltb-false, lt-ltb}
use Rattle.std.proofs.lemmas.List.{length-map}
use Rattle.records.proofs.Laws.Tests.{cond_either}
use Rattle.task.specs.Instruction.{encode}
use Rattle.task.specs.declared.instruction.Instruction.{Instruction}
use Rattle.task.specs.declared.instruction.Instruction.TheVariants.{Empty}
use Rattle.task.proofs.Laws.Instruction.{op-empty, op-above}
use Rattle.step.specs.Position.{same_frame}
use Rattle.step.specs.Run.{Visit}
use Rattle.step.specs.declared.position.Frame.{Frame}
use Rattle.checker.specs.Plan.{PlanStep, instruction_of}
use Rattle.checker.specs.declared.plan.Step.TheVariants.{Write, Repeat}
use Rattle.demands.specs.Compiled.{written_at}
use Rattle.demands.specs.Demand3.{visited, steps_of}
use Rattle.checker.proofs.Laws.Check.{same-frame}
use Rattle.demands.proofs.Laws.Program.{frame_same}

-- whether there is an instruction other than empty
unfoldable pub is_filled : Instruction → Bool
is_filled w = ltb 0 (encode w).op

-- the visits of a plan's steps
abbrev pub visits_of : List PlanStep → List Visit
visits_of = map (λ a. record { frame = a.frame; instruction = instruction_of a.step })

-- lines that a program extends: each that is filled is the program's. It is asked of the lines that there are, which `In` says
abbrev pub Extends : (Frame → Type 0) → (Frame → Instruction) → (Frame → Instruction) → Type 0
Extends In program lines = (f : Frame) → In f → (lines f ≡ Empty → ⊥) → lines f ≡ program f

-- those that are known are those that are filled
abbrev pub Knows : (Frame → Type 0) → (Frame → Bool) → (Frame → Instruction) → Type 0
Knows In known lines = (f : Frame) → In f → known f ≡ is_filled (lines f)

-- visits to lines that hold, in a program, what they ran
unfoldable pub Agrees : (Frame → Instruction) → List Visit → Type 0
Agrees program [] = Unit {0}
Agrees program (v ∷ rest) = (program v.frame ≡ v.instruction) × Agrees program rest

-- only the empty instruction is not filled
pub filled-true : (w : Instruction) → (w ≡ Empty → ⊥) → is_filled w ≡ true
unfolding is_filled
filled-true w n = lt-ltb 0 _ (op-above w n)

pub filled-not : (w : Instruction) → is_filled w ≡ true → w ≡ Empty → ⊥
unfolding is_filled encode
filled-not w h e = omega (arith, ltb-true 0 (encode w).op h, ap (λ (v : Instruction). (encode v).op) e)

filled-false : (w : Instruction) → is_filled w ≡ false → w ≡ Empty
unfolding is_filled
filled-false w h = op-empty w (omega (arith, ltb-false 0 (encode w).op h))

-- the steps of some visits make these visits, and are as many
pub visits-length : (σ : List PlanStep) → length (visits_of σ) ≡ length σ
visits-length σ = length-map σ _

pub steps-length : (known : Frame → Bool) (τ : List Visit) → length (steps_of known τ) ≡ length τ
unfolding steps_of
steps-length known [] = refl
steps-length known (v ∷ rest) = ap suc (steps-length (λ f. same_frame v.frame f || known f) rest)

pub chain-visits : (known : Frame → Bool) (τ : List Visit) → visits_of (steps_of known τ) ≡ τ
unfolding steps_of instruction_of
chain-visits known [] = refl
chain-visits known (v ∷ rest) = rw (either (known v.frame), chain-visits (λ f. same_frame v.frame f || known f) rest) refl
  where
    either : (b : Bool) → instruction_of (cond b (Repeat v.instruction) (Write v.instruction)) ≡ v.instruction
    either true = refl
    either false = refl

-- lines with instruction w written on line f
module _ (lines : Frame → Instruction) (f : Frame) (w : Instruction) where
  written-here : written_at lines f w f ≡ w
  unfolding written_at
  written-here = rw (frame_same f) refl

  -- what both the line written and the other lines have
  pub written_either : (g : Frame) (P : Instruction → Type 0) → (f ≡ g → P w) → P (lines g) → P (written_at lines f w g)
  unfolding written_at
  written_either g P h k = cond_either P (same_frame f g) w (lines g) (λ e. h (same-frame f g e)) (λ e. k)

  -- to write what is there changes nothing
  written_same : lines f ≡ w → (g : Frame) → written_at lines f w g ≡ lines g
  written_same e g = written_either g (λ (v : Instruction). v ≡ lines g) (λ k. sym e ∙ ap lines k) refl

  -- to write on an empty line keeps what is filled
  written_keeps : lines f ≡ Empty → (g : Frame) → (lines g ≡ Empty → ⊥) → written_at lines f w g ≡ lines g
  written_keeps e g n = written_either g (λ (v : Instruction). v ≡ lines g) (λ k. absurd (n (ap lines (sym k) ∙ e))) refl

-- a line is known as filled if it was before, or is the one written
module _ (In : Frame → Type 0) (lines : Frame → Instruction) (f : Frame) (w : Instruction) where
  written_known : (known : Frame → Bool) → Knows In known lines → (w ≡ Empty → ⊥)
      → Knows In (λ g. same_frame f g || known g) (written_at lines f w)
  unfolding written_at
  written_known known same n g k = by (same_frame f g)
    where
      by : (b : Bool) → (b || known g) ≡ is_filled (cond b w (lines g))
      by true = sym (filled-true w n)
      by false = same g k

  -- the same of a line that is filled already
  repeated-known : (known : Frame → Bool) → Knows In known lines → (w ≡ Empty → ⊥) → lines f ≡ w → Knows In (λ g. same_frame f g || known g) lines
  repeated-known known is n same g k = written_known known is n g k ∙ ap is_filled (written_same lines f w same g)

  -- a program that extends lines and has w on line f extends them with w written there
  pub written-extends : (program : Frame → Instruction) → Extends In program lines → program f ≡ w → Extends In program (written_at lines f w)
  written-extends program extends e g k =
      written_either lines f w g (λ (v : Instruction). (v ≡ Empty → ⊥) → v ≡ program g) (λ h n. sym e ∙ ap program h) (extends g k)

-- lines that a program extends are the program's where they are filled, and empty elsewhere
extends-are : (In : Frame → Type 0) (program lines : Frame → Instruction) → Extends In program lines
    → (g : Frame) → In g → lines g ≡ cond (is_filled (lines g)) (program g) Empty
extends-are In program lines extends g k =
    cond_either (λ (v : Instruction). lines g ≡ v) (is_filled (lines g)) (program g) Empty
    (λ h. extends g k (filled-not (lines g) h)) (filled-false (lines g))

or_swap : (a b c : Bool) → ((a || b) || c) ≡ (b || (a || c))
or_swap a b c = ap (λ (d : Bool). d || c) (or_comm a b) ∙ or_assoc b a c

-- `Step f w r r'`: at frame f instruction w runs from r to r'
module _ {R : Type 0} (Step : Frame → Instruction → R → R → Type 0) where
  -- the visits of a program's run
  pub data Chain (program : Frame → Instruction) : R → List Visit → R → Type 0 where
    none : {r : R} → Chain program r [] r
    then : {r r' last : R} {f : Frame} {w : Instruction} {rest : List Visit}
        → program f ≡ w → Step f w r r' → Chain program r' rest last → Chain program r (record { frame = f; instruction = w } ∷ rest) last

  -- a program's run visits its lines
  pub chain-agrees : {program : Frame → Instruction} {r last : R} {τ : List Visit} → Chain program r τ last → Agrees program τ
  unfolding Agrees
  chain-agrees none = tt
  chain-agrees (then same step more) = (same, chain-agrees more)

  -- one run after another
  pub chain-append : {program : Frame → Instruction} {r mid last : R} {σ τ : List Visit} → Chain program r σ mid → Chain program mid τ last
      → Chain program r (σ ++ τ) last
  chain-append none d = d
  chain-append (then same step more) d = then same step (chain-append more d)

  -- a plan's steps, from lines and a position to lines and a position
  pub data Follows : (Frame → Instruction) → R → List PlanStep → (Frame → Instruction) → R → Type 0 where
    none : {lines : Frame → Instruction} {r : R} → Follows lines r [] lines r
    writes : {lines last : Frame → Instruction} {r r' end : R} {f : Frame} {w : Instruction} {rest : List PlanStep}
        → lines f ≡ Empty → Step f w r r' → Follows (written_at lines f w) r' rest last end
        → Follows lines r (record { frame = f; step = Write w } ∷ rest) last end
    repeats : {lines last : Frame → Instruction} {r r' end : R} {f : Frame} {w : Instruction} {rest : List PlanStep}
        → lines f ≡ w → Step f w r r' → Follows lines r' rest last end
        → Follows lines r (record { frame = f; step = Repeat w } ∷ rest) last end

  -- what is filled stays
  kept : {lines last : Frame → Instruction} {r end : R} {σ : List PlanStep} → Follows lines r σ last end
      → (f : Frame) → (lines f ≡ Empty → ⊥) → last f ≡ lines f
  kept none f n = refl
  kept (writes {lines} {f = g} {w} empty step more) f n =
      let same = written_keeps lines g w empty f n in
      kept more f (λ e. n (sym same ∙ e)) ∙ same
  kept (repeats same step more) f n = kept more f n

  pub follows-extends : {lines last : Frame → Instruction} {r end : R} {σ : List PlanStep} (In : Frame → Type 0) → Follows lines r σ last end
      → Extends In last lines
  follows-extends In follows f k n = sym (kept follows f n)

-- steps at the frames that there are
module _ {R : Type 0} (In : Frame → Type 0) (Step : Frame → Instruction → R → R → Type 0) where
  -- a program's run, as a plan that is followed from lines
  pub record Followed (program lines : Frame → Instruction) (known : Frame → Bool) (r : R) (τ : List Visit) (end : R) : Type 0 where
    pub last : Frame → Instruction
    pub follows : Follows Step lines r (steps_of known τ) last end
    pub lines_are : (f : Frame) → In f → last f ≡ cond (known f || visited τ f) (program f) Empty

  -- one step more at the front: it repeats a known line, or writes a new one
  module _ {program lines : Frame → Instruction} {known : Frame → Bool} {r r' end : R} {f : Frame} {w : Instruction} {rest : List Visit} where
    known-follows : known f ≡ true → lines f ≡ w → Step f w r r' → Followed program lines (λ g. same_frame f g || known g) r' rest end
        → Followed program lines known r (record { frame = f; instruction = w } ∷ rest) end
    unfolding steps_of visited
    known-follows e held step x =
        record {
          last = x.last;
          follows = rw e (repeats held step x.follows);
          lines_are = λ g k. rw (← or_swap (same_frame f g) (known g)) (x.lines_are g k);
        }

    new-follows : known f ≡ false → lines f ≡ Empty → Step f w r r'
        → Followed program (written_at lines f w) (λ g. same_frame f g || known g) r' rest end
        → Followed program lines known r (record { frame = f; instruction = w } ∷ rest) end
    unfolding steps_of visited
    new-follows e empty step x =
        record {
          last = x.last;
          follows = rw e (writes empty step x.follows);
          lines_are = λ g k. rw (← or_swap (same_frame f g) (known g)) (x.lines_are g k);
        }

  -- a step is at a frame that there is, and none runs the empty instruction
  module _ (inside : (f : Frame) (w : Instruction) (r r' : R) → Step f w r r' → In f)
      (filled : (f : Frame) (w : Instruction) (r r' : R) → Step f w r r' → w ≡ Empty → ⊥) where
    -- the lines at the end, as a program, make the plan's visits
    pub follows-chain : {lines last : Frame → Instruction} {r end : R} {σ : List PlanStep} → Follows Step lines r σ last end
        → Chain Step last r (visits_of σ) end
    unfolding instruction_of
    follows-chain none = none
    follows-chain (writes {lines} {f = f} {w} empty step more) =
        let here = written-here lines f w in
        then (kept Step more f (λ e. filled _ _ _ _ step (sym here ∙ e)) ∙ here) step (follows-chain more)
    follows-chain (repeats same step more) =
        then (kept Step more _ (λ e. filled _ _ _ _ step (sym same ∙ e)) ∙ same) step (follows-chain more)

    -- the kinds of a plan's steps are the ones that its visits give
    pub follows-steps : {lines last : Frame → Instruction} {r end : R} {σ : List PlanStep} (known : Frame → Bool)
        → Knows In known lines → Follows Step lines r σ last end → σ ≡ steps_of known (visits_of σ)
    unfolding instruction_of steps_of is_filled encode
    follows-steps known is none = refl
    follows-steps known is (writes {lines} {f = f} {w} empty step more) =
        let no : known f ≡ false = is f (inside _ _ _ _ step) ∙ ap is_filled empty in
        let rest = follows-steps _ (written_known In lines f w known is (filled _ _ _ _ step)) more in
        rw no (ap (λ (σ : List PlanStep). record { frame = f; step = Write w } ∷ σ) rest)
    follows-steps known is (repeats {lines} {f = f} {w} same step more) =
        let yes : known f ≡ true = is f (inside _ _ _ _ step) ∙ ap is_filled same ∙ filled-true w (filled _ _ _ _ step) in
        let rest = follows-steps _ (repeated-known In lines f w known is (filled _ _ _ _ step) same) more in
        rw yes (ap (λ (σ : List PlanStep). record { frame = f; step = Repeat w } ∷ σ) rest)

    -- a step of a run is followed by one that repeats a known line or writes a new one, given how the rest is followed
    step_follows : {program : Frame → Instruction} {r r' end : R} {f : Frame} {w : Instruction} {rest : List Visit}
        → program f ≡ w → Step f w r r'
        → (known : Frame → Bool) (lines : Frame → Instruction) → Knows In known lines → Extends In program lines
        → ((later : Frame → Instruction) → Knows In (λ g. same_frame f g || known g) later → Extends In program later
        → Followed program later (λ g. same_frame f g || known g) r' rest end)
        → (b : Bool) → known f ≡ b → Followed program lines known r (record { frame = f; instruction = w } ∷ rest) end
    step_follows {f = f} {w} same step known lines is extends more true e =
        let here = inside _ _ _ _ step in
        let held : lines f ≡ w = extends f here (filled-not (lines f) (sym (is f here) ∙ e)) ∙ same in
        known-follows e held step (more lines (repeated-known In lines f w known is (filled _ _ _ _ step) held) extends)
    step_follows {program} {f = f} {w} same step known lines is extends more false e =
        let empty = filled-false (lines f) (sym (is f (inside _ _ _ _ step)) ∙ e) in
        new-follows e empty step
        (more (written_at lines f w) (written_known In lines f w known is (filled _ _ _ _ step)) (written-extends In lines f w program extends same))

    -- a run of a program that extends lines is followed from them, by the plan that its visits give
    pub chain-follows : {program : Frame → Instruction} {r end : R} {τ : List Visit} → Chain Step program r τ end
        → (known : Frame → Bool) (lines : Frame → Instruction) → Knows In known lines → Extends In program lines
        → Followed program lines known r τ end
    unfolding steps_of visited
    chain-follows {program} none known lines is extends =
        record { last = lines; follows = none; lines_are = λ g k. rw (is g k, or-false (is_filled (lines g))) (extends-are In program lines extends g k) }
    chain-follows (then same step more) known lines is extends =
        step_follows same step known lines is extends (λ later is' extends'. chain-follows more _ later is' extends') _ refl
