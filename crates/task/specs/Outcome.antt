-- How the reader's own answers stand to the definition of a turn. Only contracts of private functions cite it.
use Rattle.std.specs.Prelude.{ℕ, ◌+◌, List, cond, eqb, Result, Ok, Err}
use Rattle.records.specs.Loop.{Turn, stop, go}
use Rattle.task.specs.Bounds.{bounds_at}
use Rattle.task.specs.Reading.{Progress, State, by_kind, refused, accepted, close_turn, Reading}
use Rattle.task.specs.declared.index.Index.{Index}
use Rattle.task.specs.Verdict.{number}
use Rattle.task.specs.declared.questions.Question.{Question}
use Rattle.records.specs.declared.record.Record.{Record}
use Rattle.task.specs.Kind.{number_before, kind_number}
use Rattle.task.specs.declared.kind.Kind.{Kind}
use Rattle.task.specs.declared.kind.Kind.TheVariants.{Closing}
use Rattle.task.specs.declared.reading.Progress as code
use Rattle.task.specs.declared.refusal.Refusal.{Refusal}

-- how far the code's reading is
abbrev pub progress : code.Progress → Progress
progress p = record { at = p.at; last = number_before p.last; index = p.index }

-- the reading's state, from its progress and the two arrays that the reader holds
abbrev pub state : Progress → List ℕ → List ℕ → State
state p offsets presets = record { progress = p; offsets = offsets; presets = presets }

-- the index with a record that no question turns down
unfoldable pub with_record : List ℕ → Index → ℕ → ℕ → ℕ → Index
with_record bytes i kind at body =
    by_kind kind
    (record { bounds = bounds_at bytes body; actions = 0; cases = 0; first = 0 })
    (record { bounds = i.bounds; actions = i.actions + 1; cases = i.cases; first = i.first })
    i
    (record { bounds = i.bounds; actions = i.actions; cases = i.cases + 1; first = cond (eqb i.cases 0) at i.first })
    i

module _ (bytes : List ℕ) (p : Progress) where
  -- the turn that the answer to what a kind asks stands for, given the two arrays after it: of every kind but the closing record's
  unfoldable pub part_turned : ℕ → ℕ → ℕ → Result Unit Question → List ℕ → List ℕ → Turn State Reading
  part_turned kind body next (Err question) offsets presets = stop (refused (number question) p.at)
  part_turned kind body next (Ok value) offsets presets =
      go (state (record { at = next; last = kind; index = with_record bytes p.index kind p.at body }) offsets presets)

  -- the turn that the answer to a record stands for; of the closing record, question 9 is still to ask
  unfoldable pub turned : Record → Result Kind Question → List ℕ → List ℕ → Turn State Reading
  turned r (Err question) offsets presets = stop (refused (number question) p.at)
  turned r (Ok Closing) offsets presets = close_turn bytes (state p offsets presets) r.next
  turned r (Ok kind) offsets presets = part_turned (kind_number kind) r.body r.next (Ok tt) offsets presets

-- the reading that the records come to, given the two arrays after them
unfoldable pub reading_of : Result Index Refusal → List ℕ → List ℕ → Reading
reading_of (Ok index) offsets presets = accepted (record { index = index; offsets = offsets; presets = presets })
reading_of (Err r) offsets presets = refused (number r.question) r.place
