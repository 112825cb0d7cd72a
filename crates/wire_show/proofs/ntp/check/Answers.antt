use Rattle.std.proofs.Common.{ap, sym, ◌∙◌, Ok}
use Rattle.ndr.specs.Reading.{after}
use Rattle.wire_show.specs.Fields.{parts_of}
use Rattle.wire_show.specs.Output.{ntp_fields}
use Rattle.wire_show.proofs.ntp.check.Goals as goal

pub returns-in-Ok : goal.returns-in-Ok
returns-in-Ok c = ap (λ r. after r (λ said. Ok (parts_of ntp_fields 0 c.args.octets.now))) (sym c.decode.ensures.value ∙ c.in-Ok.is)

pub returns-in-Err : goal.returns-in-Err
returns-in-Err c = ap (λ r. after r (λ said. Ok (parts_of ntp_fields 0 c.args.octets.now))) (sym c.decode.ensures.value ∙ c.in-Err.is)
