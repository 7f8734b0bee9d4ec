-- `listing::listing::Program::put_listing` meets its contract. The loop's invariant: the first `procedure` procedures were put.
-- Assumes nothing.
use Rattle.listing.specs.Listing.{in_order, procedure_text}
use Rattle.listing.specs.Page.{HasPut}
use Rattle.listing.proofs.listing.Program.put_listing.Given as goal

abbrev pub invariant-loop-procedure : goal.invariant-loop-procedure
invariant-loop-procedure l = HasPut l.initial.page (in_order (procedure_text l.self.index l.self.bytes.now) l.procedure) l.page
