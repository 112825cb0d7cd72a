use Rattle.std.proofs.Common.{arith}
use Rattle.time_wire.specs.Layouts.{command_reply}
use Rattle.time_wire.proofs.Remaining.{Reached, stub_read, number_read, number_passed, number_refused, string_read, string_passed}
use Rattle.time_wire.proofs.Remaining.{string_refused, all_read, octet_left}
use Rattle.time_wire.proofs.decoding.read_command_reply.Goals as goal
use Rattle.time_wire.proofs.decoding.read_command_reply.Goals.{In_ok-text}

-- what is behind the text
text_reached : (c : In_ok-text) → Reached command_reply.fields c.args.e c.args.b.now 1 c.string.new.self
text_reached c refused left = stub_read command_reply.fields c.new-reader.ensures.first (string_passed c.in_ok-text.ensures.string left)

pub returns-in_err-text : goal.returns-in_err-text
returns-in_err-text c =
    let whole = stub_read command_reply.fields c.new-reader.ensures.first (string_refused c.in_err-text.ensures.string.0) in
    grind (arith, whole)

pub returns-in_err-status : goal.returns-in_err-status
returns-in_err-status c =
    let whole = text_reached (goal.at.returns-in_err-status c).In_ok-text _ (number_refused c.in_err-status.ensures.number.0) in
    grind (arith, whole)

pub returns-in_err-finish : goal.returns-in_err-finish
returns-in_err-finish c =
    let whole =
    text_reached (goal.at.returns-in_err-finish c).In_ok-text _
    (number_passed c.in_ok-status.ensures.number (octet_left c.in_err-finish.ensures.end)) in
    grind (arith, whole)

pub returns : goal.returns
returns c =
    stub_read command_reply.fields c.new-reader.ensures.first
    (string_read c.in_ok-text.ensures.string (number_read c.in_ok-status.ensures.number (all_read c.in_ok-finish.ensures.end)))
