-- `listing::listing::Program::put_procedure` meets its contract. The loop's invariant: the first `line` lines were put.
-- Assumes nothing.
use Rattle.listing.specs.Listing.{in_order, line_text}
use Rattle.listing.specs.Page.{HasPut}
use Rattle.listing.proofs.listing.Program.put_procedure.Given as goal

abbrev pub invariant-loop-line : goal.invariant-loop-line
invariant-loop-line l = HasPut l.initial.page (in_order (line_text l.self.index l.self.bytes.now l.procedure) l.line) l.page
