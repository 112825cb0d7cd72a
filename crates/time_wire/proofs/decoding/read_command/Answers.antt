use Rattle.std.proofs.Common.{arith}
use Rattle.time_wire.specs.Layouts.{command}
use Rattle.time_wire.proofs.Remaining.{stub_read, string_read, string_passed, string_refused, all_read, octet_left}
use Rattle.time_wire.proofs.decoding.read_command.Goals as goal

pub returns-in_err-text : goal.returns-in_err-text
returns-in_err-text c =
    let whole = stub_read command.fields c.new-reader.ensures.first (string_refused c.in_err-text.ensures.string.0) in
    grind (arith, whole)

pub returns-in_err-finish : goal.returns-in_err-finish
returns-in_err-finish c =
    let whole =
    stub_read command.fields c.new-reader.ensures.first
    (string_passed c.in_ok-text.ensures.string (octet_left c.in_err-finish.ensures.end)) in
    grind (arith, whole)

pub returns : goal.returns
returns c =
    stub_read command.fields c.new-reader.ensures.first
    (string_read c.in_ok-text.ensures.string (all_read c.in_ok-finish.ensures.end))
