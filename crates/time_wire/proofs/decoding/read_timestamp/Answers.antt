use Rattle.std.proofs.Common.{◌∙◌, refl, subst, arith}
use Rattle.utc_value.specs.Octets.{RefusesOctets}
use Rattle.time_wire.proofs.Timestamps.{timestamp_read, timestamp_wrong}
use Rattle.time_wire.proofs.decoding.read_timestamp.Goals as goal

pub returns-in-Ok : goal.returns-in-Ok
returns-in-Ok c =
    let spelled = (c.in-Ok.ensures.spelled c.in-Ok.utc).0 refl in
    let read = c.in_ok-lent.ensures.octets in
    let same = spelled.1 ∙ c.copy_from_slice.ensures.after in
    timestamp_read c.args.reader.now c.octets.new.self c.in_ok-lent.lent.now c.in-Ok.utc read spelled.0 same

pub returns-in-Err : goal.returns-in-Err
returns-in-Err c =
    let fault = c.in-Err.field-0 in
    let refused = subst (λ os. RefusesOctets os fault) c.copy_from_slice.ensures.after ((c.in-Err.ensures.refused fault).0 refl) in
    let read = c.in_ok-lent.ensures.octets in
    let os = c.in_ok-lent.lent.now in
    let reader = c.args.reader.now in
    rw c.wrong_value.ensures (timestamp_wrong reader c.octets.new.self os fault c.args.place read refused c.requires (omega arith))
