-- Filling a page. Bytes put one after the other are the bytes of both lists put together, so a report is put piece by piece. On an empty
-- page, what was put is at the start as far as it fits, and the bytes behind it keep their value.
-- Assumes nothing.
use Prim.Native.Nat.{ℕ, suc, ◌+◌, ◌≤◌, ◌<◌, min}
use mathlib.Core.Path.{◌≡◌, refl, ap, ◌∙◌}
use mathlib.Core.List.{List, [], ◌∷◌, ◌++◌, append_assoc}
use lib.ListN.{length, take, drop, get_or, length-append}
use lib.Seq.{set-append_seam, take-nil, take-suc}
use borrow.Author.Tests.{lt-ltb, le-ltb}
use native.Mathlib.Numerals.{add-one}
use native.Mathlib.Omega.{arith}
use Rattle.listing.specs.Listing.{filled}
use Rattle.listing.specs.Page.{Page, page, put, puts}

-- bytes, and then bytes
pub puts_append : (p : Page) (xs ys : List ℕ) → puts (puts p xs) ys ≡ puts p (xs ++ ys)
unfolding puts
puts_append p [] ys = refl
puts_append p (x ∷ xs) ys = puts_append (put p x) xs ys

-- nothing is put
pub puts_none : (p : Page) → puts p [] ≡ p
unfolding puts
puts_none p = refl

-- a full page stays as it is
full : (at : ℕ) (bytes text : List ℕ) → length bytes ≤ at → puts (page at bytes) text ≡ page at bytes
unfolding puts put
full at bytes [] h = refl
full at bytes (b ∷ text) h = simp (le-ltb _ _ h) (full at bytes text h)

-- what is filled already, and what a text then makes of the rest
fills : (done rest text : List ℕ) →
    puts (page (length done) (done ++ rest)) text
    ≡ page (length done + min (length text) (length rest)) (done ++ (take (length rest) text ++ drop (length text) rest))
unfolding puts put
fills done rest [] =
    let e : length done ≡ length done + min 0 (length rest) = omega arith in
    let t : take {A = ℕ} (length rest) [] ≡ [] = take-nil (length rest) in
    rw (← e, t)
fills done [] (b ∷ text) =
    let h : length (done ++ []) ≤ length done = rw length-append (omega arith) in
    let e : length done ≡ length done + min (suc (length text)) 0 = omega arith in
    rw (← e) (full _ _ (b ∷ text) h)
fills done (r ∷ rest) (b ∷ text) =
    let h : length done < length (done ++ r ∷ rest) = rw length-append (omega arith) in
    let more : length (done ++ (b ∷ [])) ≡ length done + 1 = rw length-append in
    let one : put (page (length done) (done ++ r ∷ rest)) b ≡ page (length (done ++ (b ∷ []))) ((done ++ (b ∷ [])) ++ rest)
    = simp (lt-ltb _ _ h, set-append_seam, more, append_assoc) in
    let e : length done + 1 + min (length text) (length rest) ≡ length done + min (suc (length text)) (suc (length rest)) = omega arith in
    ap (λ (p : Page). puts p text) one ∙ fills (done ++ (b ∷ [])) rest text ∙ simp (more, append_assoc, e)

-- a text put on an empty page
pub put_all : (buffer text : List ℕ) → puts (page 0 buffer) text ≡ page (min (length text) (length buffer)) (filled text buffer)
unfolding filled
put_all buffer text =
    let e : 0 + min (length text) (length buffer) ≡ min (length text) (length buffer) = omega arith in
    fills [] buffer text ∙ rw e

-- a word, byte by byte
pub puts_next : (p : Page) (word : List ℕ) (k : ℕ) → k < length word → puts (puts p (take k word)) (get_or word k 0 ∷ []) ≡ puts p (take (k + 1) word)
puts_next p word k h = puts_append p (take k word) _ ∙ rw (add-one, take-suc word k 0)

pub put_next : (p q : Page) (word : List ℕ) (k : ℕ) → q ≡ puts p (take k word)
    → (r : Page) → k < length word → r ≡ puts q (get_or word k 0 ∷ []) → r ≡ puts p (take (k + 1) word)
put_next p q word k sofar r h next = next ∙ ap (λ (s : Page). puts s (get_or word k 0 ∷ [])) sofar ∙ puts_next p word k h
