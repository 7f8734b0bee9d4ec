-- The head of a position: its moves are those of the position that it stands for, and those of the position that it is taken from and stored in.
-- Assumes nothing.
use Prim.Native.Nat.{ℕ, ◌+◌, ◌-◌, ◌≤◌, ◌<◌}
use mathlib.Core.Path.{◌≡◌, refl, sym, ap, subst, ◌∙◌}
use mathlib.Core.Bool.{Bool, true, false, cond}
use mathlib.Core.List.{List}
use native.Mathlib.Decide.{ℕ_discrete}
use native.Mathlib.Omega.{arith}
use lib.ListN.{get_or, set, length-set}
use lib.Seq.{get_or-set_same, get_or-set_other, set-get_or, set-set}
use lib.Dec.{ltb}
use borrow.Author.Tests.{lt-ltb, le-ltb, ltb-true, ltb-false}
use Rattle.records.proofs.Laws.Tests.{cond_either, cond_yes, cond_no}
use Rattle.task.specs.Index.{case_at}
use Rattle.task.specs.declared.index.Case.{Case}
use Rattle.task.specs.declared.index.Index.{Index}
use Rattle.task.specs.declared.instruction.Instruction.{Instruction}
use Rattle.task.specs.declared.instruction.Instruction.TheVariants.{Empty, Act, Goto, Call, End}
use Rattle.task.specs.declared.instruction.Line.{Line}
use Rattle.task.specs.declared.instruction.Proc.{Proc}
use Rattle.step.specs.Facts.{has}
use Rattle.step.specs.Head.{Stands, head_of, left_by, over, stored, case_head, starting_head, top_of, caller_of, jumped_head, advanced_head, pushed_head, popped_head, head_with, next_head, finished_head, counted_head, goto_head, ended_head, moved_head}
use Rattle.step.specs.Moved.{moved_by}
use Rattle.step.specs.Perform.{after_case}
use Rattle.step.specs.Position.{origin, starting, top, jumped, advanced, pushed, popped, with_facts, next_case, finished, counted}
use Rattle.step.specs.declared.head.Head.{Head}
use Rattle.step.specs.declared.position.Frame.{Frame}
use Rattle.step.specs.declared.position.Position.{Position}

-- an end, by the depth and the cases left
module _ (bytes : List ℕ) (i : Index) (h : Head) (below : Frame) (r : Head) where
  pub ended-pops : 1 < h.depth → r ≡ popped_head h below → r ≡ ended_head bytes i h below
  unfolding ended_head
  ended-pops l e = e ∙ cond_yes _ true _ _ (sym (lt-ltb 1 h.depth l)) refl

  -- with one frame
  module _ (l : h.depth ≤ 1) where
    pub ended-begins : h.case + 1 < i.cases → (x : Case) → x ≡ case_at bytes i.first (h.case + 1) → r ≡ case_head h (h.case + 1) 1 x.start
        → r ≡ ended_head bytes i h below
    unfolding ended_head next_head
    ended-begins m x e k =
        k ∙ ap (λ (y : Case). next_head h y.start) e
        ∙ cond_yes _ true _ _ (sym (lt-ltb (h.case + 1) i.cases m)) refl
        ∙ cond_no _ false _ _ (sym (le-ltb 1 h.depth l)) refl

    pub ended-finishes : i.cases ≤ h.case + 1 → r ≡ case_head h (h.case + 1) 0 h.facts → r ≡ ended_head bytes i h below
    unfolding ended_head finished_head
    ended-finishes m k =
        k ∙ cond_no _ false _ _ (sym (le-ltb (h.case + 1) i.cases m)) refl ∙ cond_no _ false _ _ (sym (le-ltb 1 h.depth l)) refl

-- a head with one step more done moves as it does before that
module _ (bytes : List ℕ) (i : Index) (h : Head) (below : Frame) (facts : ℕ) where
  either-counted : (b : Bool) (x y u v : Head) → x ≡ counted_head u → y ≡ counted_head v → cond b x y ≡ counted_head (cond b u v)
  either-counted true x y u v e f = e
  either-counted false x y u v e f = f

  counted-moves : (w : Instruction) → moved_head bytes i (counted_head h) below facts w ≡ counted_head (moved_head bytes i h below facts w)
  unfolding counted_head moved_head goto_head ended_head jumped_head advanced_head caller_of pushed_head popped_head head_with next_head finished_head
  counted-moves Empty = refl
  counted-moves (Act action) = refl
  counted-moves (Goto target fact) = either-counted (has h.facts fact) _ _ (advanced_head h) (jumped_head h target) refl refl
  counted-moves (Call procedure) = refl
  counted-moves End =
      let next = next_head h (case_at bytes i.first (h.case + 1)).start in
      let more = ltb (h.case + 1) i.cases in
      either-counted (ltb 1 h.depth) _ _ (popped_head h below) (cond more next (finished_head h)) refl
      (either-counted more _ _ next (finished_head h) refl refl)

  pub moves-as : (w v : Instruction) → w ≡ v → (r : Head) → r ≡ moved_head bytes i (counted_head h) below facts v
      → r ≡ counted_head (moved_head bytes i h below facts w)
  moves-as w v e r f = f ∙ rw e (counted-moves v)

-- a move leaves at most 16 frames if a call has room for its own
module _ (bytes : List ℕ) (i : Index) (h : Head) (below : Frame) (facts : ℕ) (d : h.depth ≤ 16) where
  abbrev Few : Head → Type 0
  Few m = m.depth ≤ 16

  pub moved-few : (w : Instruction) → ((procedure : Proc) → w ≡ Call procedure → h.depth < 16) → Few (counted_head (moved_head bytes i h below facts w))
  unfolding counted_head moved_head goto_head ended_head jumped_head advanced_head pushed_head popped_head head_with next_head finished_head
  moved-few Empty room = d
  moved-few (Act action) room = d
  moved-few (Goto target fact) room = cond_either Few (has h.facts fact) (advanced_head h) (jumped_head h target) (λ l. d) (λ l. d)
  moved-few (Call procedure) room = omega (arith, room procedure refl)
  moved-few End room =
      let next = next_head h (case_at bytes i.first (h.case + 1)).start in
      let more = ltb (h.case + 1) i.cases in
      cond_either Few (ltb 1 h.depth) (popped_head h below) (cond more next (finished_head h)) (λ l. omega (arith, d))
      (λ l. cond_either Few more next (finished_head h) (λ m. omega arith) (λ m. omega arith))

-- the head of a position with a frame moves as the position does, once it is stored there
module _ (s : Position) (above : 0 < s.depth) where
  abbrev StoredAs : Head → Position → Type 0
  StoredAs h u = stored (head_of s) (counted_head h) s ≡ counted u

  -- a step later, with these parts
  abbrev later : ℕ → ℕ → ℕ → List Frame → Position
  later facts case depth frames = record { facts = facts; steps = s.steps + 1; case = case; depth = depth; frames = frames }

  -- the frame below the top one
  abbrev under : Frame
  under = get_or s.frames (s.depth - 1 - 1) origin

  either-stored : (b : Bool) (x y : Head) (p q : Position) → (b ≡ true → StoredAs x p) → (b ≡ false → StoredAs y q) → StoredAs (cond b x y) (cond b p q)
  either-stored true x y p q l r = l refl
  either-stored false x y p q l r = r refl

  acted-stored : (facts : ℕ) → StoredAs (head_with (advanced_head (head_of s)) facts) (with_facts (advanced s) facts)
  unfolding stored over head_of counted_head counted head_with advanced_head caller_of top_of with_facts advanced jumped
  acted-stored facts = ap (later facts s.case s.depth) (set-set s.frames (s.depth - 1) _ _)

  jumped-stored : (line : Line) → StoredAs (jumped_head (head_of s) line) (jumped s line)
  unfolding stored over head_of counted_head counted jumped_head top_of jumped
  jumped-stored line = ap (later s.facts s.case s.depth) (set-set s.frames (s.depth - 1) _ _)

  advanced-stored : StoredAs (advanced_head (head_of s)) (advanced s)
  unfolding head_of advanced_head jumped_head caller_of advanced
  advanced-stored = jumped-stored (record { 0 = (top s).line.0 + 1 })

  pushed-stored : (procedure : Proc) → StoredAs (pushed_head (head_of s) procedure) (pushed (advanced s) procedure)
  unfolding stored over head_of left_by counted_head counted pushed_head caller_of top_of pushed advanced jumped
  pushed-stored procedure =
      let f : Frame = record { procedure = procedure; line = record { 0 = 0 } } in
      let back : s.depth + 1 - 1 ≡ s.depth = omega arith in
      simp (lt-ltb s.depth (s.depth + 1) (omega arith), back)

  popped-stored : 1 < s.depth → StoredAs (popped_head (head_of s) under) (popped s)
  unfolding stored over head_of left_by counted_head counted popped_head top_of popped
  popped-stored l =
      let n = s.depth - 1 in
      let freed = set s.frames n origin in
      let same : get_or freed (n - 1) origin ≡ under = get_or-set_other s.frames n (n - 1) origin origin (omega arith) in
      rw (le-ltb s.depth n (omega arith)) (ap (later s.facts s.case n) (ap (set freed (n - 1)) (sym same) ∙ set-get_or freed (n - 1) origin))

  -- the end of a case, with one frame
  module _ (one : s.depth ≤ 1) where
    closed : (left : Frame) → set (set s.frames (s.depth - 1) left) 0 origin ≡ set s.frames 0 origin
    closed left = let z : s.depth - 1 ≡ 0 = omega arith in rw z (set-set s.frames 0 left origin)

    next-stored : (start : ℕ) → StoredAs (next_head (head_of s) start) (next_case s start)
    unfolding stored over head_of counted_head counted next_head top_of next_case origin
    next-stored start = ap (later start (s.case + 1) 1) (closed _)

    finished-stored : StoredAs (finished_head (head_of s)) (finished s)
    unfolding stored over head_of counted_head counted finished_head top_of finished origin
    finished-stored = ap (later s.facts (s.case + 1) 0) (closed _)

  pub moved-stored : (bytes : List ℕ) (i : Index) (facts : ℕ) (w : Instruction) → StoredAs (moved_head bytes i (head_of s) under facts w) (moved_by bytes i s facts w)
  unfolding moved_head moved_by goto_head ended_head after_case head_of stored over counted_head counted top_of top
  moved-stored bytes i facts Empty =
      ap (later s.facts s.case s.depth) (set-set s.frames (s.depth - 1) _ _ ∙ set-get_or s.frames (s.depth - 1) origin)
  moved-stored bytes i facts (Act action) = acted-stored facts
  moved-stored bytes i facts (Goto target fact) =
      either-stored (has s.facts fact) (advanced_head (head_of s)) (jumped_head (head_of s) target) (advanced s) (jumped s target) (λ l. advanced-stored)
      (λ l. jumped-stored target)
  moved-stored bytes i facts (Call procedure) = pushed-stored procedure
  moved-stored bytes i facts End =
      let h = head_of s in
      let start = (case_at bytes i.first (s.case + 1)).start in
      let more = ltb (s.case + 1) i.cases in
      either-stored (ltb 1 s.depth) (popped_head h under) (cond more (next_head h start) (finished_head h)) (popped s)
      (cond more (next_case s start) (finished s)) (λ l. popped-stored (ltb-true 1 s.depth l))
      (λ l.
      let one = ltb-false 1 s.depth l in
      either-stored more (next_head h start) (finished_head h) (next_case s start) (finished s) (λ m. next-stored one start) (λ m. finished-stored one))

pub starting-stands : (start : ℕ) (callers : List Frame) → Stands (starting_head start) callers (starting 0 start)
unfolding starting_head starting top top_of origin
starting-stands start callers =
    record { facts = refl; steps = refl; case = refl; depth = refl; top = refl; below = λ k l. absurd (omega (arith, l)); size = refl }

module _ (h : Head) (callers : List Frame) (s : Position) (st : Stands h callers s) where
  pub jumped-stands : h.depth ≤ 16 → (line : Line) → Stands (jumped_head h line) callers (jumped s line)
  unfolding jumped_head jumped top top_of
  jumped-stands d line =
      record {
        facts = st.facts;
        steps = st.steps;
        case = st.case;
        depth = st.depth;
        top =
            get_or-set_same s.frames (s.depth - 1) _ origin (omega (arith, st.depth, st.size, d))
            ∙ ap (λ (f : Frame). record { procedure = f.procedure; line = line }) st.top;
        below = λ k l. get_or-set_other s.frames (s.depth - 1) k _ origin (omega (arith, st.depth, l)) ∙ st.below k l;
        size = length-set s.frames (s.depth - 1) (record { procedure = (top s).procedure; line = line }) ∙ st.size;
      }

  pub advanced-stands : h.depth ≤ 16 → Stands (advanced_head h) callers (advanced s)
  unfolding advanced advanced_head jumped_head caller_of top_of
  advanced-stands d =
      let same : (top s).line.0 ≡ h.line.0 = ap (λ (f : Frame). f.line.0) st.top in
      rw same (jumped-stands d (record { 0 = h.line.0 + 1 }))

  -- the frame to come back to, kept at the depth, changes nothing below the top frame
  pub noted-stands : (f : Frame) → Stands h (set callers h.depth f) s
  noted-stands f =
      record {
        facts = st.facts;
        steps = st.steps;
        case = st.case;
        depth = st.depth;
        top = st.top;
        below = λ k l. st.below k l ∙ sym (get_or-set_other callers h.depth (k + 1) f origin (omega (arith, l)));
        size = st.size;
      }

  pub pushed-stands : 0 < h.depth → h.depth < 16 → get_or callers h.depth origin ≡ caller_of h → (procedure : Proc)
      → Stands (pushed_head h procedure) callers (pushed (advanced s) procedure)
  unfolding pushed_head pushed top top_of advanced_head caller_of
  pushed-stands a d e procedure =
      let u = advanced-stands (omega (arith, d)) in
      let f : Frame = record { procedure = procedure; line = record { 0 = 0 } } in
      let back : (advanced s).depth + 1 - 1 ≡ (advanced s).depth = omega arith in
      let under : (k : ℕ) → k + 1 < h.depth + 1 → get_or (advanced s).frames k origin ≡ get_or callers (k + 1) origin =
      λ k l.
      elim (ℕ_discrete (k + 1) h.depth) [
        | yes m ↦
            ap (λ (n : ℕ). get_or (advanced s).frames n origin) (omega (arith, m, u.depth))
            ∙ u.top
            ∙ sym e
            ∙ ap (λ (n : ℕ). get_or callers n origin) (sym m)
        | no n ↦ u.below k (omega (arith, n, l))
      ] in
      record {
        facts = u.facts;
        steps = u.steps;
        case = u.case;
        depth = omega (arith, u.depth);
        top = rw back (get_or-set_same (advanced s).frames (advanced s).depth f origin (omega (arith, u.depth, u.size, d)));
        below = λ k l. get_or-set_other (advanced s).frames (advanced s).depth k f origin (omega (arith, u.depth, l)) ∙ under k l;
        size = length-set (advanced s).frames (advanced s).depth f ∙ u.size;
      }

  pub popped-stands : 1 < h.depth → h.depth ≤ 16 → (below : Frame) → below ≡ get_or callers (h.depth - 1) origin
      → Stands (popped_head h below) callers (popped s)
  unfolding popped_head popped top top_of
  popped-stands a d below e =
      record {
        facts = st.facts;
        steps = st.steps;
        case = st.case;
        depth = omega (arith, st.depth);
        top =
            get_or-set_other s.frames (s.depth - 1) (s.depth - 1 - 1) origin origin (omega (arith, st.depth, a))
            ∙ st.below (s.depth - 1 - 1) (omega (arith, st.depth, a))
            ∙ ap (λ (n : ℕ). get_or callers n origin) (omega (arith, st.depth, a))
            ∙ sym e;
        below = λ k l. get_or-set_other s.frames (s.depth - 1) k origin origin (omega (arith, st.depth, l)) ∙ st.below k (omega (arith, l));
        size = length-set s.frames (s.depth - 1) origin ∙ st.size;
      }

  pub facts-stand : (facts : ℕ) → Stands (head_with h facts) callers (with_facts s facts)
  unfolding head_with with_facts top top_of
  facts-stand facts =
      record { facts = refl; steps = st.steps; case = st.case; depth = st.depth; top = st.top; below = st.below; size = st.size }

  pub next-stands : (start : ℕ) → Stands (next_head h start) callers (next_case s start)
  unfolding next_head next_case top top_of origin
  next-stands start =
      record {
        facts = refl;
        steps = st.steps;
        case = ap (λ (c : ℕ). c + 1) st.case;
        depth = refl;
        top = get_or-set_same s.frames 0 origin origin (omega (arith, st.size));
        below = λ k l. absurd (omega (arith, l));
        size = length-set s.frames 0 origin ∙ st.size;
      }

  pub finished-stands : Stands (finished_head h) callers (finished s)
  unfolding finished_head finished top top_of origin
  finished-stands =
      record {
        facts = st.facts;
        steps = st.steps;
        case = ap (λ (c : ℕ). c + 1) st.case;
        depth = refl;
        top = get_or-set_same s.frames 0 origin origin (omega (arith, st.size));
        below = λ k l. absurd (omega (arith, l));
        size = length-set s.frames 0 origin ∙ st.size;
      }

  counted-stands : Stands (counted_head h) callers (counted s)
  unfolding counted_head counted top top_of
  counted-stands =
      record {
        facts = st.facts;
        steps = ap (λ (n : ℕ). n + 1) st.steps;
        case = st.case;
        depth = st.depth;
        top = st.top;
        below = st.below;
        size = st.size;
      }

-- either way of a test that the head and the position share
either-stands : (callers : List Frame) (b c : Bool) → c ≡ b → (x y : Head) (p q : Position) → (b ≡ true → Stands x callers p)
    → (b ≡ false → Stands y callers q) → Stands (cond b x y) callers (cond c p q)
either-stands callers true c e x y p q l r = rw e (l refl)
either-stands callers false c e x y p q l r = rw e (r refl)

-- the whole move: the frame to come back to is kept at the depth, `below` is the frame below the top one, and a call has room for its frame
module _ (h : Head) (callers : List Frame) (s : Position) (st : Stands h callers s) (bytes : List ℕ) (i : Index) (a : 0 < h.depth)
    (d : h.depth ≤ 16) (e : get_or callers h.depth origin ≡ caller_of h) (below : Frame) (f : below ≡ get_or callers (h.depth - 1) origin) where
  ended-stands : Stands (ended_head bytes i h below) callers (cond (ltb 1 s.depth) (popped s) (after_case bytes i s))
  unfolding ended_head after_case
  ended-stands =
      either-stands callers (ltb 1 h.depth) (ltb 1 s.depth) (ap (λ (n : ℕ). ltb 1 n) st.depth) _ _ _ _
      (λ l. popped-stands h callers s st (ltb-true 1 h.depth l) d below f)
      (λ l.
      either-stands callers _ _ (ap (λ (n : ℕ). ltb (n + 1) i.cases) st.case) _ _ _ _
      (λ m.
      subst
      (λ (c : ℕ).
      Stands (next_head h (case_at bytes i.first (h.case + 1)).start) callers (next_case s (case_at bytes i.first (c + 1)).start))
      (sym st.case)
      (next-stands h callers s st _))
      (λ m. finished-stands h callers s st))

  move-stands : (facts : ℕ) (w : Instruction) → ((procedure : Proc) → w ≡ Call procedure → h.depth < 16)
      → Stands (moved_head bytes i h below facts w) callers (moved_by bytes i s facts w)
  unfolding moved_head moved_by goto_head
  move-stands facts Empty room = st
  move-stands facts (Act action) room = facts-stand _ callers _ (advanced-stands h callers s st d) facts
  move-stands facts (Goto target fact) room =
      either-stands callers _ _ (ap (λ (x : ℕ). has x fact) st.facts) _ _ _ _ (λ l. advanced-stands h callers s st d)
      (λ l. jumped-stands h callers s st d target)
  move-stands facts (Call procedure) room = pushed-stands h callers s st a (room procedure refl) e procedure
  move-stands facts End room = ended-stands

  pub moved-stands : (facts : ℕ) (w : Instruction) → ((procedure : Proc) → w ≡ Call procedure → h.depth < 16)
      → Stands (counted_head (moved_head bytes i h below facts w)) callers (counted (moved_by bytes i s facts w))
  moved-stands facts w room = counted-stands _ callers _ (move-stands facts w room)
