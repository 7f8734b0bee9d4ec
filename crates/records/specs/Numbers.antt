-- Numbers in a file: unsigned and little-endian, the first byte weighing least.
-- A number whose bytes are not all there reads as 0, so that every offset has an answer.
use Rattle.std.specs.Prelude.{ℕ, zero, suc, ◌+◌, ◌*◌, ◌/◌, ◌%◌, ◌^◌, ◌<◌, List, [], ◌∷◌, cond, length, get_or, leb}

-- the byte at an offset
abbrev pub byte_at : List ℕ → ℕ → ℕ
byte_at bytes at = get_or bytes at 0

-- two bytes as a number
abbrev pub two_at : List ℕ → ℕ → ℕ
two_at bytes at = byte_at bytes at + 2 ^ 8 * byte_at bytes (at + 1)

-- eight bytes as a number
abbrev pub eight_at : List ℕ → ℕ → ℕ
eight_at bytes at =
    byte_at bytes at
    + 2 ^ 8 * byte_at bytes (at + 1)
    + 2 ^ 16 * byte_at bytes (at + 2)
    + 2 ^ 24 * byte_at bytes (at + 3)
    + 2 ^ 32 * byte_at bytes (at + 4)
    + 2 ^ 40 * byte_at bytes (at + 5)
    + 2 ^ 48 * byte_at bytes (at + 6)
    + 2 ^ 56 * byte_at bytes (at + 7)

-- a value where so many bytes are there at an offset, else 0
unfoldable pub if_there : ℕ → List ℕ → ℕ → ℕ → ℕ
if_there width bytes at value = cond (leb (at + width) (length bytes)) value 0

-- the number of 2 bytes at an offset
unfoldable pub u16_at : List ℕ → ℕ → ℕ
u16_at bytes at = if_there 2 bytes at (two_at bytes at)

-- the number of 8 bytes at an offset
unfoldable pub u64_at : List ℕ → ℕ → ℕ
u64_at bytes at = if_there 8 bytes at (eight_at bytes at)

-- the bytes of a number, so many of them: all of it if it fits, else its lowest ones
unfoldable pub number_bytes : ℕ → ℕ → List ℕ
number_bytes zero n = []
number_bytes (suc width) n = n % 256 ∷ number_bytes width (n / 256)

-- the 2 bytes of a number below 2 ^ 16
abbrev pub u16_bytes : ℕ → List ℕ
u16_bytes n = number_bytes 2 n

-- the 8 bytes of a number below 2 ^ 64
abbrev pub u64_bytes : ℕ → List ℕ
u64_bytes n = number_bytes 8 n

-- a list of bytes: each is below 256
abbrev pub AreBytes : List ℕ → Type 0
AreBytes bytes = (at : ℕ) → byte_at bytes at < 256
