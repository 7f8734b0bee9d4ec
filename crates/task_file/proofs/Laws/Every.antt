-- Lists whose elements all have a property, joined and taken apart; and presets no two of which are on one line, with one more.
-- Assumes nothing.
use mathlib.Core.List.{List, [], ◌∷◌, ◌++◌, map, flat_map}
use Rattle.task.specs.Task.{Preset}
use Rattle.task_file.specs.WellFormed.{Every, none, also, On, Once}

module _ {A : Type 0} {P : A → Type 0} where
  pub every-head : {x : A} {l : List A} → Every P (x ∷ l) → P x
  every-head (also h k) = h

  pub every-tail : {x : A} {l : List A} → Every P (x ∷ l) → Every P l
  every-tail (also h k) = k

  pub every-join : {l m : List A} → Every P l → Every P m → Every P (l ++ m)
  every-join none k = k
  every-join (also x h) k = also x (every-join h k)

  pub every_first : (l m : List A) → Every P (l ++ m) → Every P l
  every_first [] m h = none
  every_first (x ∷ l) m (also h k) = also h (every_first l m k)

  pub every-last : (l m : List A) → Every P (l ++ m) → Every P m
  every-last [] m h = h
  every-last (x ∷ l) m (also h k) = every-last l m k

  pub every_more : {l : List A} {x : A} → Every P l → P x → Every P (l ++ (x ∷ []))
  every_more h k = every-join h (also k none)

  pub every-at : (l : List A) (x : A) (rest : List A) → Every P (l ++ (x ∷ rest)) → P x
  every-at l x rest h = every-head (every-last l (x ∷ rest) h)

pub every-gives : {A : Type 0} {P Q : A → Type 0} {l : List A} → ((x : A) → P x → Q x) → Every P l → Every Q l
every-gives f none = none
every-gives f (also {x} h k) = also (f x h) (every-gives f k)

pub every-both : {A : Type 0} {P Q : A → Type 0} {l : List A} → Every P l → Every Q l → Every (λ x. P x × Q x) l
every-both none none = none
every-both (also h k) (also h' k') = also (h, h') (every-both k k')

module _ {A B : Type 0} {P : B → Type 0} where
  pub every-mapped : (f : A → B) (l : List A) → Every (λ x. P (f x)) l → Every P (map f l)
  every-mapped f [] h = none
  every-mapped f (x ∷ l) (also h k) = also h (every-mapped f l k)

  pub mapped-every : (f : A → B) (l : List A) → Every P (map f l) → Every (λ x. P (f x)) l
  mapped-every f [] h = none
  mapped-every f (x ∷ l) (also h k) = also h (mapped-every f l k)

  pub every-flat : (f : A → List B) (l : List A) → Every (λ x. Every P (f x)) l → Every P (flat_map f l)
  unfolding flat_map
  every-flat f [] h = none
  every-flat f (x ∷ l) (also h k) = every-join h (every-flat f l k)

  pub flat-every : (f : A → List B) (l : List A) → Every P (flat_map f l) → Every (λ x. Every P (f x)) l
  unfolding flat_map
  flat-every f [] h = none
  flat-every f (x ∷ l) h = also (every_first (f x) (flat_map f l) h) (flat-every f l (every-last (f x) (flat_map f l) h))

pub every_of : {A : Type 0} {P : A → Type 0} → ((x : A) → P x) → (l : List A) → Every P l
every_of f [] = none
every_of f (x ∷ l) = also (f x) (every_of f l)

-- no two of a list's presets name one line, and a further one names no line that they do
pub once_more : (l : List Preset) (p : Preset) → Once l → Every (λ q. On p.procedure p.line q → ⊥) l → Once (l ++ (p ∷ []))
unfolding Once
once_more [] p h k = (none, tt)
once_more (q ∷ l) p h (also n k) = (every_more h.0 n, once_more l p h.1 k)

pub once-at : (l : List Preset) (p : Preset) (rest : List Preset) → Once (l ++ (p ∷ rest)) → Every (λ q. On p.procedure p.line q → ⊥) l
unfolding Once
once-at [] p rest h = none
once-at (q ∷ l) p rest h = also (every-at l p rest h.0) (once-at l p rest h.1)
