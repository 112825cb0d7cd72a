use Rattle.std.proofs.Common.{sym}
use Rattle.line_reader.proofs.Cuts.{space_found, space_missing}
use Rattle.line_reader.proofs.fields.Fields.first_of.Goals as goal

pub returns-in-Some-clause-first : goal.returns-in-Some-clause-first
returns-in-Some-clause-first c = space_found c.args.rest.now c.in-Some.end (sym c.in-Some.ensures)

pub returns-in-None-clause-first : goal.returns-in-None-clause-first
returns-in-None-clause-first c = space_missing c.args.rest.now (sym c.in-None.ensures)
