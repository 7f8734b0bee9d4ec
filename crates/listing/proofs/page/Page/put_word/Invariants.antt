-- `listing::page::Page::put_word` meets its contract. The loop's invariant: the word's first bytes were put.
-- Assumes nothing.
use lib.ListN.{take}
use Rattle.listing.specs.Page.{HasPut}
use Rattle.listing.proofs.page.Page.put_word.Given as goal

abbrev pub invariant-loop-byte : goal.invariant-loop-byte
invariant-loop-byte l = HasPut l.initial.self (take l.byte-index l.word) l.self
