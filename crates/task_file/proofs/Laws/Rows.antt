-- Lists laid end to end, and rows: the elements with the numbers k, k + 1, ... How many stand before the first to which a test says no. A row that is read from
-- records that stand one behind the other has the elements whose records they are.
-- Assumes nothing.
use Prim.Native.Nat.{ℕ, zero, suc, ◌+◌, ◌*◌, ◌≤◌, ◌<◌}
use mathlib.Core.Path.{◌≡◌, refl, sym, ap, ◌∙◌}
use mathlib.Core.Bool.{Bool, true, false, cond}
use mathlib.Core.List.{List, [], ◌∷◌, ◌++◌, flat_map, append-nil, append_assoc}
use mathlib.Core.Logic.{◌↔◌}
use native.Mathlib.Nat.{add-zero, mul-suc}
use native.Mathlib.Omega.{arith}
use lib.ListN.{length, drop, get_or, length-append}
use lib.Seq.{drop-cons}
use Rattle.records.proofs.Laws.Bytes.{behind}
use Rattle.task.specs.First.{first_no_from, first_no}
use Rattle.task.specs.Index.{row_from}
use Rattle.task_file.specs.Pairs.{before_no}
use Rattle.task_file.specs.WellFormed.{Every, none, also}
use Rattle.task_file.proofs.Laws.Every.{every-head, every-tail}

module _ {A B : Type 0} (f : A → List B) where
  flat-join : (l m : List A) → flat_map f (l ++ m) ≡ flat_map f l ++ flat_map f m
  unfolding flat_map
  flat-join [] m = refl
  flat-join (x ∷ l) m = rw (flat-join l m, append_assoc (f x) (flat_map f l) (flat_map f m))

  pub flat-more : (l : List A) (x : A) → flat_map f (l ++ (x ∷ [])) ≡ flat_map f l ++ f x
  unfolding flat_map
  flat-more l x = flat-join l (x ∷ []) ∙ ap (λ r. flat_map f l ++ r) (append-nil (f x))

  pub flat-length : (width : ℕ) → ((x : A) → length (f x) ≡ width) → (l : List A) → length (flat_map f l) ≡ width * length l
  unfolding flat_map
  flat-length width h [] = omega arith
  flat-length width h (x ∷ l) = length-append (f x) (flat_map f l) ∙ omega (arith, h x, flat-length width h l, mul-suc width (length l))

pub row-length : {A : Type 0} (read : ℕ → A) (k left : ℕ) → length (row_from read k left) ≡ left
unfolding row_from
row-length read k zero = refl
row-length read k (suc left) = ap suc (row-length read (suc k) left)

row_more : {A : Type 0} (read : ℕ → A) (k left : ℕ) → row_from read k (left + 1) ≡ row_from read k left ++ (read (k + left) ∷ [])
unfolding row_from
row_more read k zero = cc (add-zero k)
row_more read k (suc left) =
    let e : k + suc left ≡ suc k + left = omega arith in
    let f : suc left + 1 ≡ suc (left + 1) = omega arith in
    rw (e, f) (ap (λ r. read k ∷ r) (row_more read (suc k) left))

-- a row that is a list, and is one element longer
pub row-grows : {A : Type 0} (read : ℕ → A) (l : List A) (x : A) → row_from read 0 (length l) ≡ l → read (length l) ≡ x
    → row_from read 0 (length (l ++ (x ∷ []))) ≡ l ++ (x ∷ [])
row-grows read l x e f =
    let n : 0 + length l ≡ length l = omega arith in
    ap (row_from read 0) (length-append l (x ∷ [])) ∙ row_more read 0 (length l) ∙ cc

-- of a row, and of a list, how many elements stand before the first to which a test says no; all exactly if it says yes to each
module _ {A : Type 0} (test : A → Bool) where
  row_before : (read : ℕ → A) (k left : ℕ) → first_no_from (λ j. test (read j)) k left ≡ k + before_no test (row_from read k left)
  unfolding first_no_from before_no row_from
  row_before read k zero = omega arith
  row_before read k (suc left) = one (test (read k)) _ _ (row_before read (suc k) left)
    where
      one : (b : Bool) (x y : ℕ) → x ≡ suc k + y → cond b x k ≡ k + cond b (suc y) 0
      one true x y h = omega arith
      one false x y h = omega arith

  pub row-found : (read : ℕ → A) (count : ℕ) → first_no (λ j. test (read j)) count ≡ before_no test (row_from read 0 count)
  unfolding first_no
  row-found read count = omega (arith, row_before read 0 count)

  before-all : (l : List A) → before_no test l ≡ length l → Every (λ x. test x ≡ true) l
  unfolding before_no
  before-all [] h = none
  before-all (x ∷ l) h = one (before-all l) (test x) refl h
    where
      one : (before_no test l ≡ length l → Every (λ x. test x ≡ true) l) → (b : Bool) → test x ≡ b → cond b (suc (before_no test l)) 0 ≡ suc (length l)
          → Every (λ x. test x ≡ true) (x ∷ l)
      one rest true e h = also e (rest (omega arith))
      one rest false e h = absurd (omega arith)

  all-before : {l : List A} → Every (λ x. test x ≡ true) l → before_no test l ≡ length l
  unfolding before_no
  all-before none = refl
  all-before (also e h) = simp e (ap suc (all-before h))

  pub before-full : (l : List A) → (before_no test l ≡ length l) ↔ Every (λ x. test x ≡ true) l
  before-full l = (before-all l, all-before)

-- a list from element k on: the next `left` elements, and what stands behind them
pub row_cut : (l : List ℕ) (left k : ℕ) → k + left ≤ length l → drop k l ≡ row_from (λ i. get_or l i 0) k left ++ drop (k + left) l
unfolding row_from
row_cut l zero k h = cc (add-zero k)
row_cut l (suc left) k h =
    let e : k + suc left ≡ suc k + left = omega arith in
    cc (drop-cons l k 0 (omega arith), row_cut l left (suc k) (omega arith))

-- records that stand one behind the other, number k at `place k`
module _ {A : Type 0} (bytes : List ℕ) (record_of : A → List ℕ) (Good : A → Type 0) (read : ℕ → A) (place : ℕ → ℕ)
    (next : (k : ℕ) (x : A) → place (suc k) ≡ place k + length (record_of x))
    (reads : (k : ℕ) (x : A) (rest : List ℕ) → Good x → drop (place k) bytes ≡ record_of x ++ rest → read k ≡ x) where
  pub row_read : (l : List A) (k : ℕ) (rest : List ℕ) → Every Good l → drop (place k) bytes ≡ flat_map record_of l ++ rest
      → row_from read k (length l) ≡ l
  unfolding row_from flat_map
  row_read [] k rest good h = refl
  row_read (x ∷ l) k rest good h =
      let here = h ∙ append_assoc (record_of x) (flat_map record_of l) rest in
      cc (
        reads k x _ (every-head good) here,
        row_read l (suc k) rest (every-tail good) (rw (next k x) (behind bytes _ (record_of x) _ here)),
      )

-- element number j of a row
pub row_at : {A : Type 0} (read : ℕ → A) (k left j : ℕ) (d : A) → j < left → get_or (row_from read k left) j d ≡ read (k + j)
unfolding row_from
row_at read k zero j d h = absurd (omega arith)
row_at read k (suc left) zero d h = ap read (sym (add-zero k))
row_at read k (suc left) (suc j) d h = row_at read (suc k) left j d (omega arith) ∙ ap read (omega arith)
