-- The tests of each op, that what is decoded is allowed on its line, that decoding and encoding are inverse to one another where the instruction
-- is allowed, that only the empty one has 0 as its first byte, and which instructions questions 7 and 15 let pass.
-- Assumes nothing.
use Prim.Native.Nat.{ℕ, zero, suc, ◌+◌, ◌≤◌, ◌<◌}
use mathlib.Core.List.{List}
use lib.ListN.{length, length-set}
use mathlib.Core.Path.{◌≡◌, refl, sym, ap, ◌∙◌}
use mathlib.Core.Bool.{Bool, true, false, false≢true, ◌&&◌}
use lib.Dec.{leb, ltb, eqb}
use borrow.Author.Tests.{lt-ltb, ltb-true, leb-true, ne_eqb, eqb-true}
use native.Mathlib.Omega.{arith}
use Rattle.records.proofs.Laws.Tests.{both_true}
use Rattle.task.specs.Instruction.{keep, spelled, allowed, where_allowed, decode, decode_for, encode, with_triple}
use Rattle.task.proofs.Laws.Bounds.{line-within}
use Rattle.task.specs.Bounds.{in_range}
use Rattle.task.specs.Program.{line_offset, is_instruction}
use Rattle.task.specs.declared.bounds.Bounds.{Bounds}
use Rattle.task.specs.declared.instruction.Line.{Line}
use Rattle.task.specs.declared.instruction.Proc.{Proc}
use Rattle.task.specs.declared.instruction.Triple.{Triple}
use Rattle.task.specs.declared.instruction.Instruction.{Instruction}
use Rattle.task.specs.declared.instruction.Instruction.TheVariants.{Empty, Act, Goto, Call, End}
use Rattle.std.specs.Prelude.{Option, Some, None}

apart : (w : Instruction) → Some w ≡ None → ⊥
apart w h = let z : ◌≡◌ {A = ℕ} 0 1 = cc in omega arith

-- an instruction that is kept: the condition holds
pub keep-is : (t : Bool) (d : Option Instruction) (w : Instruction) → keep t d ≡ Some w → (t ≡ true) × (d ≡ Some w)
unfolding keep
keep-is true d w h = (refl, h)
keep-is false d w h = absurd (apart w (sym h))

keep-yes : (t : Bool) (d : Option Instruction) → t ≡ true → d ≡ keep t d
unfolding keep
keep-yes t d h = rw h

-- whether an instruction is kept
keep-test : (t : Bool) (d : Option Instruction) → (t && is_instruction d) ≡ is_instruction (keep t d)
unfolding keep is_instruction
keep-test true d = refl
keep-test false d = refl

keeps-test : (zeros ok : Bool) (w : Instruction) → (zeros && ok) ≡ is_instruction (keep zeros (keep ok (Some w)))
unfolding keep is_instruction
keeps-test true true w = refl
keeps-test true false w = refl
keeps-test false ok w = refl

kept-is : (t : Bool) (d : Option Instruction) → is_instruction (keep t d) ≡ true → is_instruction d ≡ true
unfolding keep is_instruction
kept-is true d h = h
kept-is false d h = absurd (false≢true h)

pub not-instruction : (d : Option Instruction) → is_instruction d ≡ false → d ≡ None
unfolding is_instruction
not-instruction (Some w) h = absurd (false≢true (sym h))
not-instruction None h = refl

pub instruction-is : (d : Option Instruction) → is_instruction d ≡ true → (w : Instruction) × (d ≡ Some w)
unfolding is_instruction
instruction-is (Some w) h = (w, refl)
instruction-is None h = absurd (false≢true h)

-- an op above 4 spells none
pub spelled-other : (w : Triple) → 5 ≤ w.op → spelled w ≡ None
unfolding spelled
spelled-other w h =
    simp (
      ne_eqb w.op 0 (omega arith),
      ne_eqb w.op 1 (omega arith),
      ne_eqb w.op 2 (omega arith),
      ne_eqb w.op 3 (omega arith),
      ne_eqb w.op 4 (omega arith),
    )

module _ (b : Bounds) (actions : ℕ) (line : Line) where
  line-keep : (t : Bool) (w : Instruction) → keep t (keep (allowed b actions line w) (Some w)) ≡ where_allowed b actions line (keep t (Some w))
  unfolding where_allowed keep
  line-keep true w = refl
  line-keep false w = refl

  -- the tests of each op
  module _ (w : Triple) where
    pub test-empty : w.op ≡ 0 → (eqb w.p 0 && eqb w.q 0 && leb line.0 b.last) ≡ is_instruction (decode b actions line w)
    unfolding decode spelled allowed
    test-empty h = rw h (keeps-test _ _ _ ∙ ap is_instruction (line-keep _ Empty))

    pub test-act : w.op ≡ 1 → (eqb w.q 0 && (ltb line.0 b.last && ltb w.p actions)) ≡ is_instruction (decode b actions line w)
    unfolding decode spelled allowed
    test-act h = rw h (keeps-test _ _ _ ∙ ap is_instruction (line-keep _ (Act w.p)))

    pub test-goto : w.op ≡ 2
        → (ltb line.0 b.last && leb w.p b.last && ltb w.q b.facts) ≡ is_instruction (decode b actions line w)
    unfolding decode spelled allowed keep
    test-goto h = rw h (keeps-test true _ _ ∙ ap is_instruction (line-keep true (Goto (record { 0 = w.p }) w.q)))

    pub test-call : w.op ≡ 3
        → (eqb w.q 0 && (ltb line.0 b.last && ltb w.p b.procedures)) ≡ is_instruction (decode b actions line w)
    unfolding decode spelled allowed
    test-call h = rw h (keeps-test _ _ _ ∙ ap is_instruction (line-keep _ (Call (record { 0 = w.p }))))

    pub test-end : w.op ≡ 4
        → (eqb w.p 0 && eqb w.q 0 && (leb 1 line.0 && leb line.0 b.last)) ≡ is_instruction (decode b actions line w)
    unfolding decode spelled allowed
    test-end h = rw h (keeps-test _ _ _ ∙ ap is_instruction (line-keep _ End))

    pub test-other : 5 ≤ w.op → false ≡ is_instruction (decode b actions line w)
    unfolding decode where_allowed is_instruction
    test-other h = rw (spelled-other w h) refl

    -- questions 7 and 15
    pub test-for : (j : Proc)
        → (ltb j.0 b.procedures && ltb 0 w.op && is_instruction (decode b actions line w))
        ≡ is_instruction (decode_for b actions j line w)
    unfolding decode_for
    test-for j = keep-test _ _

    -- what is decoded is what is spelled, kept by its own test
    pub decode-keeps : keep (is_instruction (decode b actions line w)) (spelled w) ≡ decode b actions line w
    unfolding decode where_allowed is_instruction keep
    decode-keeps = by (spelled w)
      where
        on : (v : Instruction) (t : Bool) → keep (is_instruction (keep t (Some v))) (Some v) ≡ keep t (Some v)
        on v true = refl
        on v false = refl

        by : (d : Option Instruction) → keep (is_instruction (where_allowed b actions line d)) d ≡ where_allowed b actions line d
        by (Some v) = on v (allowed b actions line v)
        by None = refl

    pub decode-spells : is_instruction (decode b actions line w) ≡ true → is_instruction (spelled w) ≡ true
    decode-spells h = kept-is _ _ (ap is_instruction decode-keeps ∙ h)

    pub decode_is : (v : Instruction) → is_instruction (decode b actions line w) ≡ true → spelled w ≡ Some v → Some v ≡ decode b actions line w
    decode_is v h e = sym e ∙ keep-yes _ _ h ∙ decode-keeps

  -- what is asked of an instruction on a line, in words
  abbrev pub Allowed : Instruction → Type 0
  Allowed Empty = line.0 ≤ b.last
  Allowed (Act action) = (line.0 < b.last) × (action < actions)
  Allowed (Goto target fact) = (line.0 < b.last) × (target.0 ≤ b.last) × (fact < b.facts)
  Allowed (Call procedure) = (line.0 < b.last) × (procedure.0 < b.procedures)
  Allowed End = (1 ≤ line.0) × (line.0 ≤ b.last)

  pub allows : (w : Instruction) → allowed b actions line w ≡ true → Allowed w
  unfolding allowed
  allows Empty h = leb-true line.0 b.last h
  allows (Act action) h =
      let k = both_true (ltb line.0 b.last) _ h in
      (ltb-true line.0 b.last k.0, ltb-true action actions k.1)
  allows (Goto target fact) h =
      let k = both_true (ltb line.0 b.last && leb target.0 b.last) _ h in
      let l = both_true (ltb line.0 b.last) _ k.0 in
      (ltb-true line.0 b.last l.0, leb-true target.0 b.last l.1, ltb-true fact b.facts k.1)
  allows (Call procedure) h =
      let k = both_true (ltb line.0 b.last) _ h in
      (ltb-true line.0 b.last k.0, ltb-true procedure.0 b.procedures k.1)
  allows End h =
      let k = both_true (leb 1 line.0) _ h in
      (leb-true 1 line.0 k.0, leb-true line.0 b.last k.1)

  where-allowed : (d : Option Instruction) (w : Instruction) → where_allowed b actions line d ≡ Some w → allowed b actions line w ≡ true
  unfolding where_allowed
  where-allowed (Some v) w h =
      let k = keep-is (allowed b actions line v) (Some v) w h in
      let e : v ≡ w = cc k.1 in
      rw e at k.0
  where-allowed None w h = absurd (apart w (sym h))

  -- an instruction that was decoded on a line is allowed there
  pub decode-allowed : (t : Triple) (w : Instruction) → decode b actions line t ≡ Some w → allowed b actions line w ≡ true
  unfolding decode
  decode-allowed t w h = where-allowed (spelled t) w h

  pub decode-encode : (w : Instruction) → allowed b actions line w ≡ true → decode b actions line (encode w) ≡ Some w
  unfolding decode spelled where_allowed encode keep
  decode-encode Empty h = simp h
  decode-encode (Act action) h = simp h
  decode-encode (Goto target fact) h = rw h
  decode-encode (Call procedure) h = rw h
  decode-encode End h = simp h

-- three bytes that are the same are one triple
pub triple-is : {v w : Triple} → v.op ≡ w.op → v.p ≡ w.p → v.q ≡ w.q → v ≡ w
triple-is e f g = λ i. record { op = e i; p = f i; q = g i }

-- the bytes of an instruction that three bytes spell are those three
module _ (t : Triple) (w : Instruction) (h : spelled t ≡ Some w) where
  spelled_by : (zeros : Bool) (v : Instruction) → spelled t ≡ keep zeros (Some v) → (zeros ≡ true) × (v ≡ w)
  spelled_by zeros v e =
      let k = keep-is zeros (Some v) w (sym e ∙ h) in
      let i : v ≡ w = cc k.1 in
      (k.0, i)

  by-op : (op : ℕ) → t.op ≡ op → encode w ≡ t
  unfolding spelled encode keep
  by-op zero e =
      let k = spelled_by (eqb t.p 0 && eqb t.q 0) Empty (rw e) in
      let z = both_true _ _ k.0 in
      ap encode (sym k.1) ∙ triple-is (sym e) (sym (eqb-true _ _ z.0)) (sym (eqb-true _ _ z.1))
  by-op (suc zero) e =
      let k = spelled_by (eqb t.q 0) (Act t.p) (rw e) in
      ap encode (sym k.1) ∙ triple-is (sym e) refl (sym (eqb-true _ _ k.0))
  by-op (suc (suc zero)) e =
      let k = spelled_by true (Goto (record { 0 = t.p }) t.q) (rw e) in
      ap encode (sym k.1) ∙ triple-is (sym e) refl refl
  by-op (suc (suc (suc zero))) e =
      let k = spelled_by (eqb t.q 0) (Call (record { 0 = t.p })) (rw e) in
      ap encode (sym k.1) ∙ triple-is (sym e) refl (sym (eqb-true _ _ k.0))
  by-op (suc (suc (suc (suc zero)))) e =
      let k = spelled_by (eqb t.p 0 && eqb t.q 0) End (rw e) in
      let z = both_true _ _ k.0 in
      ap encode (sym k.1) ∙ triple-is (sym e) (sym (eqb-true _ _ z.0)) (sym (eqb-true _ _ z.1))
  by-op (suc (suc (suc (suc (suc op))))) e = absurd (apart w (sym h ∙ spelled-other t (omega arith)))

  pub encode-spelled : encode w ≡ t
  encode-spelled = by-op t.op refl

where-spelled : (b : Bounds) (actions : ℕ) (line : Line) (d : Option Instruction) (w : Instruction) → where_allowed b actions line d ≡ Some w → d ≡ Some w
unfolding where_allowed
where-spelled b actions line (Some v) w h = (keep-is (allowed b actions line v) (Some v) w h).1
where-spelled b actions line None w h = h

-- an instruction that was decoded on a line is what the line's bytes spell, and has these bytes
module _ (b : Bounds) (actions : ℕ) (line : Line) (t : Triple) (w : Instruction) (h : decode b actions line t ≡ Some w) where
  pub decode-spelled : spelled t ≡ Some w
  unfolding decode
  decode-spelled = where-spelled b actions line (spelled t) w h

  pub encode-decode : encode w ≡ t
  encode-decode = encode-spelled t w decode-spelled

-- an instruction is allowed on no line above the last
pub allowed-line : (b : Bounds) (actions : ℕ) (line : Line) (w : Instruction) → allowed b actions line w ≡ true → line.0 ≤ b.last
allowed-line b actions line w h = on w (allows b actions line w h)
  where
    on : (v : Instruction) → Allowed b actions line v → line.0 ≤ b.last
    on Empty k = k
    on (Act action) k = omega arith
    on (Goto target fact) k = omega arith
    on (Call procedure) k = omega arith
    on End k = k.1

-- only the empty instruction's first byte is 0
pub op-empty : (w : Instruction) → (encode w).op ≡ 0 → w ≡ Empty
unfolding encode
op-empty Empty e = refl
op-empty (Act action) e = absurd (omega arith)
op-empty (Goto target fact) e = absurd (omega arith)
op-empty (Call procedure) e = absurd (omega arith)
op-empty End e = absurd (omega arith)

-- an instruction that is not empty has a first byte above 0
pub op-above : (w : Instruction) → (w ≡ Empty → ⊥) → 0 < (encode w).op
op-above w n = by (encode w).op refl
  where
    by : (op : ℕ) → (encode w).op ≡ op → 0 < (encode w).op
    by zero e = absurd (n (op-empty w e))
    by (suc op) e = omega arith

-- an instruction that questions 7 and 15 let pass for line l of procedure j
pub record DecodedFor (b : Bounds) (actions : ℕ) (j : Proc) (l : Line) (t : Triple) (w : Instruction) : Type 0 where
  pub procedure : j.0 < b.procedures
  pub line : l.0 ≤ b.last
  pub nonempty : w ≡ Empty → ⊥
  pub encodes : encode w ≡ t
  pub allowed : allowed b actions l w ≡ true

pub decoded-for : (b : Bounds) (actions : ℕ) (j : Proc) (l : Line) (t : Triple) (w : Instruction) → decode_for b actions j l t ≡ Some w
    → DecodedFor b actions j l t w
unfolding decode_for encode
decoded-for b actions j l t w h =
    let k = keep-is (ltb j.0 b.procedures && ltb 0 t.op) _ w h in
    let both = both_true (ltb j.0 b.procedures) _ k.0 in
    let there = decode-allowed b actions l t w k.1 in
    let same = encode-decode b actions l t w k.1 in
    record {
      procedure = ltb-true _ _ both.0;
      line = allowed-line b actions l w there;
      nonempty = λ z. omega (arith, ltb-true 0 t.op both.1, ap (λ (x : Triple). x.op) same, ap (λ (v : Instruction). (encode v).op) z);
      encodes = same;
      allowed = there;
    }

-- conversely, they let its bytes pass, and decode it
pub for-decoded : (b : Bounds) (actions : ℕ) (j : Proc) (l : Line) (w : Instruction) → j.0 < b.procedures → allowed b actions l w ≡ true → (w ≡ Empty → ⊥)
    → decode_for b actions j l (encode w) ≡ Some w
unfolding decode_for
for-decoded b actions j l w h k n =
    sym (keep-yes _ _ (simp (lt-ltb j.0 b.procedures h, lt-ltb 0 (encode w).op (op-above w n)))) ∙ decode-encode b actions l w k

-- the three bytes of a line for which questions 7 and 15 let an instruction pass are in a program of 768 bytes
pub decoded-there : (b : Bounds) (actions : ℕ) (j : Proc) (l : Line) (t : Triple) → is_instruction (decode_for b actions j l t) ≡ true → in_range b ≡ true
    → line_offset b j l + 3 ≤ 768
decoded-there b actions j l t h r =
    let some = instruction-is _ h in
    let d = decoded-for b actions j l t some.0 some.1 in
    line-within b j l r d.procedure d.line

pub put-length : (bytes : List ℕ) (at : ℕ) (w : Triple) → length (with_triple bytes at w) ≡ length bytes
unfolding with_triple
put-length bytes at w = simp length-set
