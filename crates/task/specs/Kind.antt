-- The kinds of a task file's records.
use Rattle.std.specs.Prelude.{◌≡◌, ℕ, Option, Some, None, Result, MatchResult}
use Rattle.task.specs.declared.kind.Kind.{Kind}
use Rattle.task.specs.declared.kind.Kind.TheVariants.{Header, Action, Preset, Case, Closing}
use Rattle.records.specs.declared.record.UnknownKind.{UnknownKind}

-- a kind's number
abbrev pub kind_number : Kind → ℕ
kind_number Header = 1
kind_number Action = 2
kind_number Preset = 3
kind_number Case = 4
kind_number Closing = 5

-- the number of the kind before a record: 0 before the first one
abbrev pub number_before : Option Kind → ℕ
number_before None = 0
number_before (Some kind) = kind_number kind

-- the kind with this number, if there is one
abbrev pub Decodes : ℕ → Result Kind UnknownKind → Type 0
Decodes n r = MatchResult r (λ kind. n ≡ kind_number kind) (λ e. (n ≡ 1 → ⊥) × (n ≡ 2 → ⊥) × (n ≡ 3 → ⊥) × (n ≡ 4 → ⊥) × (n ≡ 5 → ⊥))
