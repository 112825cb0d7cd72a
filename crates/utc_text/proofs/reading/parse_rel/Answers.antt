use Rattle.std.proofs.Common.{sym, ◌∙◌, Err}
use Rattle.utc_text.proofs.ReadLaws.{relative_only, relative_found}
use Rattle.utc_text.proofs.RelativeFault.{relative_fault}
use Rattle.utc_text.proofs.OnlyFault.{relative_only_fault}
use Rattle.utc_text.proofs.reading.parse_rel.Goals as goal

pub returns-clause-spelled : goal.returns-clause-spelled
returns-clause-spelled c u = (λ e. relative_found c.args.text.now u (sym c.read_relative.ensures ∙ e), λ s. c.read_relative.ensures ∙ relative_only c.args.text.now u s)

pub returns-clause-first_wrong : goal.returns-clause-first_wrong
returns-clause-first_wrong c fault =
    (λ e. relative_fault c.args.text.now (Err fault) (sym e ∙ c.read_relative.ensures), relative_only_fault c.args.text.now c.read_relative.result c.read_relative.ensures fault)
