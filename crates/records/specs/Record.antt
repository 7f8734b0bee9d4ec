-- A record of a file: body length (2 bytes), kind (2 bytes), body. Question 1, and question 11 of a plan, ask whether the four head
-- bytes and the body are all there.
use Rattle.std.specs.Prelude.{ℕ, ◌+◌, List, [], ◌++◌, Bool, cond, ◌&&◌, length, leb, Option, Some, None}
use Rattle.records.specs.Numbers.{u16_at, u16_bytes}
use Rattle.records.specs.declared.record.Record.{Record}

-- whether head and body of the record at an offset are all there
unfoldable pub whole : List ℕ → ℕ → Bool
whole bytes at = leb (at + 4) (length bytes) && leb (at + 4 + u16_at bytes at) (length bytes)

-- the record at an offset: its kind, where its body starts, how long the body is, and where the next record begins
unfoldable pub record_at : List ℕ → ℕ → Option Record
record_at bytes at =
    cond (whole bytes at)
    (Some
    (record { kind = u16_at bytes (at + 2); body = at + 4; length = u16_at bytes at; next = at + 4 + u16_at bytes at }))
    None

-- the bytes of a record, by its kind and its body
unfoldable pub record_bytes : ℕ → List ℕ → List ℕ
record_bytes kind body = u16_bytes (length body) ++ u16_bytes kind ++ body

-- the bytes of the record that closes a file, a task's as a plan's: kind 5, length 0
unfoldable pub closing : List ℕ
closing = record_bytes 5 []
