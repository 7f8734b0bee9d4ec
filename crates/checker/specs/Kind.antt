-- The kinds of a plan's records.
use Rattle.std.specs.Prelude.{◌≡◌, ℕ, Result, MatchResult}
use Rattle.checker.specs.declared.kind.PlanKind.{PlanKind}
use Rattle.checker.specs.declared.kind.PlanKind.TheVariants.{Closing, Write, Repeat}
use Rattle.records.specs.declared.record.UnknownKind.{UnknownKind}

-- a kind's number
abbrev pub kind_number : PlanKind → ℕ
kind_number Closing = 5
kind_number Write = 16
kind_number Repeat = 17

-- the kind with this number, if there is one
abbrev pub Decodes : ℕ → Result PlanKind UnknownKind → Type 0
Decodes n r = MatchResult r (λ kind. n ≡ kind_number kind) (λ e. (n ≡ 5 → ⊥) × (n ≡ 16 → ⊥) × (n ≡ 17 → ⊥))
