use Rattle.std.proofs.Common.{Some, refl}
use Rattle.dts_base.specs.declared.outcome.Failed.{Failed}
use Rattle.line_reader.proofs.Reading.{taken_none, taken_more, taken_all, taken_still}
use Rattle.line_reader.proofs.line_laws.lines_are_taken_in_order.Goals as goal

pub returns-clause-begins : goal.returns-clause-begins
returns-clause-begins c = λ octets. taken_none octets _ (Some octets) refl refl

pub returns-clause-line : goal.returns-clause-line
returns-clause-line c = λ octets taken old new left more has told. taken_more Failed octets taken old new left has more told

pub returns-clause-end : goal.returns-clause-end
returns-clause-end c = λ octets taken old new left more has told. taken_all Failed octets taken old new left has more told

pub returns-clause-failed : goal.returns-clause-failed
returns-clause-failed c = λ octets taken old new left more failed has told. taken_still Failed octets taken old new left has failed more told
