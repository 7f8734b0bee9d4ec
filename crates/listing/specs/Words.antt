-- The words of a report, each as its ASCII codes.
use Rattle.std.specs.Prelude.{ℕ, List, [], ◌∷◌}

-- `refused `
abbrev pub REFUSED : List ℕ
REFUSED = 114 ∷ 101 ∷ 102 ∷ 117 ∷ 115 ∷ 101 ∷ 100 ∷ 32 ∷ []

-- `accepted `
abbrev pub ACCEPTED : List ℕ
ACCEPTED = 97 ∷ 99 ∷ 99 ∷ 101 ∷ 112 ∷ 116 ∷ 101 ∷ 100 ∷ 32 ∷ []

-- `procedure `
abbrev pub PROCEDURE : List ℕ
PROCEDURE = 112 ∷ 114 ∷ 111 ∷ 99 ∷ 101 ∷ 100 ∷ 117 ∷ 114 ∷ 101 ∷ 32 ∷ []

-- ` empty`
abbrev pub EMPTY : List ℕ
EMPTY = 32 ∷ 101 ∷ 109 ∷ 112 ∷ 116 ∷ 121 ∷ []

-- ` act `
abbrev pub ACT : List ℕ
ACT = 32 ∷ 97 ∷ 99 ∷ 116 ∷ 32 ∷ []

-- ` goto `
abbrev pub GOTO : List ℕ
GOTO = 32 ∷ 103 ∷ 111 ∷ 116 ∷ 111 ∷ 32 ∷ []

-- ` call `
abbrev pub CALL : List ℕ
CALL = 32 ∷ 99 ∷ 97 ∷ 108 ∷ 108 ∷ 32 ∷ []

-- ` end`
abbrev pub END : List ℕ
END = 32 ∷ 101 ∷ 110 ∷ 100 ∷ []

-- a space
abbrev pub SPACE : List ℕ
SPACE = 32 ∷ []

-- the end of a printed line
abbrev pub NEWLINE : List ℕ
NEWLINE = 10 ∷ []
