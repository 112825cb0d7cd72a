use Rattle.std.proofs.Common.{arith}
use Rattle.time_wire.specs.Layouts.{time_reply}
use Rattle.time_wire.proofs.Remaining.{Reached, stub_read, entry_read, entry_passed, number_read, number_passed, number_refused}
use Rattle.time_wire.proofs.Remaining.{all_read, octet_left}
use Rattle.time_wire.proofs.decoding.read_time_reply.Goals as goal
use Rattle.time_wire.proofs.decoding.read_time_reply.Goals.{In_ok-utc}

-- what is behind the timestamp
utc_reached : (c : In_ok-utc) → Reached time_reply.fields c.args.e c.args.b.now 3 c.read_timestamp.new.reader
utc_reached c refused left =
    stub_read time_reply.fields c.new-reader.ensures.first
    (entry_passed c.in_ok-version.ensures.read (number_passed c.in_ok-epoch.ensures.number (entry_passed c.in_ok-utc.ensures left)))

pub returns-in_err-status : goal.returns-in_err-status
returns-in_err-status c =
    let whole = utc_reached (goal.at.returns-in_err-status c).In_ok-utc _ (number_refused c.in_err-status.ensures.number.0) in
    grind (arith, whole)

pub returns-in_err-finish : goal.returns-in_err-finish
returns-in_err-finish c =
    let whole =
    utc_reached (goal.at.returns-in_err-finish c).In_ok-utc _
    (number_passed c.in_ok-status.ensures.number (octet_left c.in_err-finish.ensures.end)) in
    grind (arith, whole)

pub returns : goal.returns
returns c =
    stub_read time_reply.fields c.new-reader.ensures.first
    (entry_read c.in_ok-version.ensures.read
    (number_read c.in_ok-epoch.ensures.number
    (entry_read c.in_ok-utc.ensures
    (number_read c.in_ok-status.ensures.number
    (all_read c.in_ok-finish.ensures.end)))))
