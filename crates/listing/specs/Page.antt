-- A page: a buffer that is filled from its start, and the offset where the next byte goes. Only contracts of private functions cite it.
use Rattle.std.specs.Prelude.{◌≡◌, ℕ, ◌+◌, List, [], ◌∷◌, cond, length, set, ltb}
use Rattle.listing.specs.declared.page.Page as code

pub record Page : Type 0 where
  pub at : ℕ
  pub bytes : List ℕ

abbrev pub page : ℕ → List ℕ → Page
page at bytes = record { at = at; bytes = bytes }

-- the page after one more byte; where the buffer is full, the byte is left out
unfoldable pub put : Page → ℕ → Page
put p byte = cond (ltb p.at (length p.bytes)) (page (p.at + 1) (set p.bytes p.at byte)) p

-- the page after these bytes, one after the other
unfoldable pub puts : Page → List ℕ → Page
puts p [] = p
puts p (byte ∷ rest) = puts (put p byte) rest

-- the code's page after these bytes: they were put, and it is still the same buffer
abbrev pub HasPut : code.Page → List ℕ → code.Page → Type 0
HasPut old bytes new = (page new.at new.text.now ≡ puts (page old.at old.text.now) bytes) × (new.text.ghost_name ≡ old.text.ghost_name)
