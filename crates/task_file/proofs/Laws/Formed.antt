-- A task's rules as the reading asks them, part by part: they are those of a well-formed task, except that the reading may be before the first action or case.
-- Assumes nothing.
use Prim.Native.Nat.{ℕ, ◌^◌, ◌≤◌, ◌<◌}
use mathlib.Core.Path.{◌≡◌}
use mathlib.Core.Bool.{true, ◌&&◌}
use mathlib.Core.List.{[], ◌∷◌, map, flat_map}
use native.Mathlib.Nat.{lt_of_lt_of_le}
use native.Mathlib.Omega.{arith}
use lib.ListN.{length, length-append}
use lib.Bits.{bit_and}
use lib.Pow.{pow_mono}
use borrow.Author.Tests.{ltb-true, lt-ltb, eqb-true, eq-eqb}
use Rattle.records.proofs.Laws.Tests.{both_true}
use Rattle.task.specs.Bounds.{in_range}
use Rattle.task.specs.Facts.{within, consistent}
use Rattle.task.specs.Instruction.{allowed}
use Rattle.task.specs.Task.{Action, Preset, Task, with_case}
use Rattle.task.specs.declared.bounds.Bounds.{Bounds}
use Rattle.task.specs.declared.facts.Literals.{Literals}
use Rattle.task.specs.declared.index.Case.{Case}
use Rattle.task.specs.declared.instruction.Instruction.TheVariants.{Empty}
use Rattle.task.proofs.Laws.Instruction.{allowed-line}
use Rattle.task_file.specs.Bytes.{action_pairs}
use Rattle.task_file.specs.Pairs.{PairFits}
use Rattle.task_file.specs.WellFormed.{Every, none, also, Once, pairs, both_sets, sets, WellFormed}
use Rattle.task_file.proofs.Laws.Every.{every-head, every-tail, every-join, every_first, every-last, every_more, every-gives, every-both, every-mapped, mapped-every, every-flat, flat-every}

-- question 6 on a set and on a pair, as facts about numbers
module _ (facts : ℕ) where
  abbrev pub Consistent : Literals → Type 0
  Consistent l = consistent facts l ≡ true

  pub within-is : (set : ℕ) → within facts set ≡ true → set < 2 ^ facts
  unfolding within
  within-is set h = ltb-true set (2 ^ facts) h

  is_within : (set : ℕ) → set < 2 ^ facts → within facts set ≡ true
  unfolding within
  is_within set h = lt-ltb set (2 ^ facts) h

  consistent-is : (l : Literals) → Consistent l → (l.positive < 2 ^ facts) × (l.negative < 2 ^ facts) × (bit_and l.positive l.negative ≡ 0)
  unfolding consistent
  consistent-is l h =
      let k = both_true (within facts l.positive && within facts l.negative) _ h in
      let m = both_true (within facts l.positive) _ k.0 in
      (within-is _ m.0, within-is _ m.1, eqb-true _ 0 k.1)

  is-consistent : (l : Literals) → l.positive < 2 ^ facts → l.negative < 2 ^ facts → bit_and l.positive l.negative ≡ 0 → Consistent l
  unfolding consistent
  is-consistent l p n e = simp (is_within _ p, is_within _ n, eq-eqb (bit_and l.positive l.negative) 0 e)

  -- below at most 64 facts a set fits in 8 bytes, and so do both of a pair
  module _ (few : facts ≤ 64) where
    pub set-fits : (set : ℕ) → set < 2 ^ facts → set < 2 ^ 64
    set-fits set h = lt_of_lt_of_le h (pow_mono few)

    pub pair_fits : (l : Literals) → Consistent l → PairFits l
    pair_fits l h = let k = consistent-is l h in (omega (arith, set-fits l.positive k.0), omega (arith, set-fits l.negative k.1))

  -- an action and a case that pass
  abbrev pub ActionGood : Action → Type 0
  ActionGood a = (length a.effects ≤ 8) × Every Consistent (action_pairs a)

  abbrev pub CaseGood : Case → Type 0
  CaseGood c = (within facts c.start ≡ true) × Consistent c.goal

-- a preset that passes question 7
pub record PresetGood (b : Bounds) (actions : ℕ) (p : Preset) : Type 0 where
  pub procedure : p.procedure.0 < b.procedures
  pub line : allowed b actions p.line p.instruction ≡ true
  pub nonempty : p.instruction ≡ Empty → ⊥

-- its line is from 0 to n
pub line-most : (b : Bounds) (actions : ℕ) (p : Preset) → PresetGood b actions p → p.line.0 ≤ b.last
line-most b actions p good = allowed-line b actions p.line p.instruction good.line

-- a task whose parts pass
pub record Formed (t : Task) : Type 0 where
  pub bounds : in_range t.bounds ≡ true
  pub few-actions : length t.actions ≤ 64
  pub few-cases : length t.cases ≤ 32
  pub actions : Every (ActionGood t.bounds.facts) t.actions
  pub presets : Every (PresetGood t.bounds (length t.actions)) t.presets
  pub once : Once t.presets
  pub cases : Every (CaseGood t.bounds.facts) t.cases

module _ (t : Task) where
  abbrev F : ℕ
  F = t.bounds.facts

  pub parts-formed : Formed t → 1 ≤ length t.actions → 1 ≤ length t.cases → WellFormed t
  unfolding pairs sets
  parts-formed f some one =
      let good : Every (Consistent F) (pairs t) =
      every-join (every-flat action_pairs t.actions (every-gives (λ a h. h.1) f.actions))
      (every-mapped (λ (c : Case). c.goal) t.cases (every-gives (λ c h. h.1) f.cases)) in
      record {
        bounds = f.bounds;
        actions = (some, omega (arith, f.few-actions));
        effects = every-gives (λ a h. h.0) f.actions;
        cases = (one, omega (arith, f.few-cases));
        facts =
            every-join
            (every-flat both_sets (pairs t) (every-gives (λ l h. let k = consistent-is F l h in also k.0 (also k.1 none)) good))
            (every-mapped (λ (c : Case). c.start) t.cases (every-gives (λ c h. within-is F c.start h.0) f.cases));
        apart = every-gives (λ l h. omega (arith, (consistent-is F l h).2)) good;
        procedures = every-gives (λ p h. h.procedure) f.presets;
        lines = every-gives (λ p h. h.line) f.presets;
        nonempty = every-gives (λ p h. h.nonempty) f.presets;
        once = f.once;
      }

  pub formed-parts : WellFormed t → Formed t
  unfolding pairs sets
  formed-parts w =
      let goals = map (λ (c : Case). c.goal) t.cases in
      let starts = map (λ (c : Case). c.start) t.cases in
      let below = flat-every both_sets (pairs t) (every_first (flat_map both_sets (pairs t)) starts w.facts) in
      let good : Every (Consistent F) (pairs t) =
      every-gives (λ l h. is-consistent F l (every-head h.0) (every-head (every-tail h.0)) (omega (arith, h.1))) (every-both below w.apart) in
      let acts = flat-every action_pairs t.actions (every_first (flat_map action_pairs t.actions) goals good) in
      record {
        bounds = w.bounds;
        few-actions = omega (arith, w.actions.1);
        few-cases = omega (arith, w.cases.1);
        actions = every-both w.effects acts;
        presets =
            every-gives (λ p h. record { procedure = h.0; line = h.1.0; nonempty = h.1.1 })
            (every-both w.procedures (every-both w.lines w.nonempty));
        once = w.once;
        cases =
            every-both
            (every-gives (λ c h. is_within F c.start h)
            (mapped-every (λ (c : Case). c.start) t.cases (every-last (flat_map both_sets (pairs t)) starts w.facts)))
            (mapped-every (λ (c : Case). c.goal) t.cases (every-last (flat_map action_pairs t.actions) goals good));
      }

-- with a case more that passes, where there are fewer than 32
pub case-formed : (t : Task) → WellFormed t → (c : Case) → length t.cases < 32 → CaseGood t.bounds.facts c → WellFormed (with_case t c)
case-formed t w c few good =
    let f = formed-parts t w in
    let more = length-append t.cases (c ∷ []) in
    parts-formed (with_case t c)
    (record {
      bounds = f.bounds;
      few-actions = f.few-actions;
      few-cases = omega (arith, more, few);
      actions = f.actions;
      presets = f.presets;
      once = f.once;
      cases = every_more f.cases good;
    })
    w.actions.0 (omega (arith, more))
