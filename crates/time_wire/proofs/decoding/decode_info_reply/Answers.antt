use Rattle.std.proofs.Common.{◌≡◌, Err, sym, subst, arith}
use Rattle.ndr.specs.declared.fault.DecodeFault.TheVariants.{NoMemory}
use Rattle.time_wire.specs.declared.message.InfoReply.{InfoReply}
use Rattle.time_wire.specs.Layouts.{info_reply}
use Rattle.time_wire.specs.Spelling.{Spells, Decodes}
use Rattle.time_wire.proofs.decoding.decode_info_reply.Goals as goal

pub returns-in_err-from_slice : goal.returns-in_err-from_slice
returns-in_err-from_slice c =
    let p = c.in_ok-parts.parts in
    let m : InfoReply =
    record { role = p.role; courier = p.courier; epoch = p.epoch; number = p.number; step = p.step; name = p.name.now } in
    let spelled : Spells info_reply c.args.e c.args.b.now m = c.in_ok-parts.ensures in
    let same : c.from_residual-in_err-from_slice.result ≡ Err NoMemory = grind arith in
    subst (Decodes info_reply c.args.e c.args.b.now) (sym same) (m, spelled)
