use Rattle.std.proofs.Common.{arith}
use Rattle.time_wire.specs.Layouts.{info_reply}
use Rattle.time_wire.proofs.Remaining.{Reached, stub_read, entry_read, entry_passed, entry_refused, version_read, number_read}
use Rattle.time_wire.proofs.Remaining.{number_passed, number_refused, string_read, string_passed, string_refused, all_read, octet_left}
use Rattle.time_wire.proofs.decoding.read_info_reply.Goals as goal
use Rattle.time_wire.proofs.decoding.read_info_reply.Goals.{In_ok-read_version, In_ok-role, In_ok-courier, In_ok-epoch, In_ok-number}
use Rattle.time_wire.proofs.decoding.read_info_reply.Goals.{In_ok-step, In_ok-name}

-- the fields that were read, one behind the other
version_reached : (c : In_ok-read_version) → Reached info_reply.fields c.args.e c.args.b.now 1 c.read_version.new.reader
version_reached c refused left =
    stub_read info_reply.fields c.new-reader.ensures.first
    (entry_passed c.in_ok-read_version.ensures.read left)

role_reached : (c : In_ok-role) → Reached info_reply.fields c.args.e c.args.b.now 2 c.octet_between.new.reader
role_reached c refused left =
    version_reached (goal.at.In_ok-role c).In_ok-read_version refused (entry_passed c.in_ok-role.ensures.read left)

courier_reached : (c : In_ok-courier) → Reached info_reply.fields c.args.e c.args.b.now 3 c.octet_between-2.new.reader
courier_reached c refused left = role_reached (goal.at.In_ok-courier c).In_ok-role refused (entry_passed c.in_ok-courier.ensures.read left)

epoch_reached : (c : In_ok-epoch) → Reached info_reply.fields c.args.e c.args.b.now 4 c.u8.new.self
epoch_reached c refused left =
    courier_reached (goal.at.In_ok-epoch c).In_ok-courier refused (number_passed c.in_ok-epoch.ensures.number left)

number_reached : (c : In_ok-number) → Reached info_reply.fields c.args.e c.args.b.now 5 c.u64.new.self
number_reached c refused left =
    epoch_reached (goal.at.In_ok-number c).In_ok-epoch refused (number_passed c.in_ok-number.ensures.number left)

step_reached : (c : In_ok-step) → Reached info_reply.fields c.args.e c.args.b.now 6 c.u64-2.new.self
step_reached c refused left = number_reached (goal.at.In_ok-step c).In_ok-number refused (number_passed c.in_ok-step.ensures.number left)

name_reached : (c : In_ok-name) → Reached info_reply.fields c.args.e c.args.b.now 7 c.string.new.self
name_reached c refused left = step_reached (goal.at.In_ok-name c).In_ok-step refused (string_passed c.in_ok-name.ensures.string left)

pub returns-in_err-read_version : goal.returns-in_err-read_version
returns-in_err-read_version c =
    let whole = stub_read info_reply.fields c.new-reader.ensures.first (entry_refused c.in_err-read_version.ensures.read) in
    grind (arith, whole)

pub returns-in_err-role : goal.returns-in_err-role
returns-in_err-role c =
    let whole = version_reached (goal.at.returns-in_err-role c).In_ok-read_version _ (entry_refused c.in_err-role.ensures.read) in
    grind (arith, whole)

pub returns-in_err-courier : goal.returns-in_err-courier
returns-in_err-courier c =
    let whole = role_reached (goal.at.returns-in_err-courier c).In_ok-role _ (entry_refused c.in_err-courier.ensures.read) in
    grind (arith, whole)

pub returns-in_err-epoch : goal.returns-in_err-epoch
returns-in_err-epoch c =
    let whole = courier_reached (goal.at.returns-in_err-epoch c).In_ok-courier _ (number_refused c.in_err-epoch.ensures.number.0) in
    grind (arith, whole)

pub returns-in_err-number : goal.returns-in_err-number
returns-in_err-number c =
    let whole = epoch_reached (goal.at.returns-in_err-number c).In_ok-epoch _ (number_refused c.in_err-number.ensures.number.0) in
    grind (arith, whole)

pub returns-in_err-step : goal.returns-in_err-step
returns-in_err-step c =
    let whole = number_reached (goal.at.returns-in_err-step c).In_ok-number _ (number_refused c.in_err-step.ensures.number.0) in
    grind (arith, whole)

pub returns-in_err-name : goal.returns-in_err-name
returns-in_err-name c =
    let whole = step_reached (goal.at.returns-in_err-name c).In_ok-step _ (string_refused c.in_err-name.ensures.string.0) in
    grind (arith, whole)

pub returns-in_err-finish : goal.returns-in_err-finish
returns-in_err-finish c =
    let whole = name_reached (goal.at.returns-in_err-finish c).In_ok-name _ (octet_left c.in_err-finish.ensures.end) in
    grind (arith, whole)

pub returns : goal.returns
returns c =
    stub_read info_reply.fields c.new-reader.ensures.first
    (version_read c.in_ok-read_version.ensures.read c.in_ok-read_version.ensures.right
    (entry_read c.in_ok-role.ensures.read
    (entry_read c.in_ok-courier.ensures.read
    (number_read c.in_ok-epoch.ensures.number
    (number_read c.in_ok-number.ensures.number
    (number_read c.in_ok-step.ensures.number
    (string_read c.in_ok-name.ensures.string
    (all_read c.in_ok-finish.ensures.end))))))))
