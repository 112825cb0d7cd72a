use Rattle.std.proofs.Common.{◌≡◌, Err, sym, subst, arith}
use Rattle.ndr.specs.declared.fault.DecodeFault.TheVariants.{NoMemory}
use Rattle.time_wire.specs.declared.message.CommandReply.{CommandReply}
use Rattle.time_wire.specs.Layouts.{command_reply}
use Rattle.time_wire.specs.Spelling.{Spells, Decodes}
use Rattle.time_wire.proofs.decoding.decode_command_reply.Goals as goal

pub returns-in_err-from_slice : goal.returns-in_err-from_slice
returns-in_err-from_slice c =
    let m : CommandReply = record { text = c.in_ok-text.text.now; status = c.in_ok-text.status } in
    let spelled : Spells command_reply c.args.e c.args.b.now m = c.in_ok-text.ensures in
    let same : c.from_residual-in_err-from_slice.result ≡ Err NoMemory = grind arith in
    subst (Decodes command_reply c.args.e c.args.b.now) (sym same) (m, spelled)
