use Rattle.std.proofs.Common.{arith}
use Rattle.time_wire.proofs.Pieces.{none_written, one_written, one_not_written, all_written}
use Rattle.time_wire.proofs.encoding.encoded.Goals as goal

pub loop-part-init : goal.loop-part-init
loop-part-init c = none_written c.args.e c.args.parts.now c.in_ok-writer.writer c.in_ok-writer.ensures.empty

pub returns-in_err-put : goal.returns-in_err-put
returns-in_err-put c =
    let l = c.loop-part in
    let part = c.part-item in
    let fault = c.in_err-put.field-0.0 in
    let refused = one_not_written c.args.e c.args.parts.now l.part-index part.result l.writer c.put.new.writer fault l.invariant
    c.loop-part-test.true c.requires part.is c.in_err-put.ensures in
    grind (arith, refused)

pub loop-part-preserved : goal.loop-part-preserved
loop-part-preserved c =
    let l = c.loop-part in
    let part = c.part-item in
    one_written c.args.e c.args.parts.now l.part-index part.result l.writer c.put.new.writer l.invariant c.loop-part-test.true part.is
    c.in_ok-put.ensures

pub returns : goal.returns
returns c =
    let l = c.loop-part in
    all_written c.args.e c.args.parts.now l.part-index l.writer c.done.result l.invariant c.loop-part-test.false c.done.ensures.octets
