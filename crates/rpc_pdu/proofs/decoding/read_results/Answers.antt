use Rattle.std.proofs.lemmas.Result.{err_from_is_err_and}
use Rattle.pdu_fields.specs.Bodies.{result_part}
use Rattle.pdu_fields.specs.Tables.{repeated}
use Rattle.pdu_fields.proofs.Parsed.{no_memory}
use Rattle.rpc_pdu.proofs.Loops.{none_read, one_more, one_wrong, all_read}
use Rattle.rpc_pdu.proofs.decoding.read_results.Goals as goal

pub returns-in_err-items : goal.returns-in_err-items
returns-in_err-items c = let p = err_from_is_err_and c.from_residual.result c.from_residual.ensures.1 in rw (p.1, p.2) (λ more. no_memory (repeated (result_part c.args.endian) c.args.count more) c.args.cursor.now)

pub loop-done-init : goal.loop-done-init
loop-done-init c = rw c.in_ok-items.ensures.empty (none_read (result_part c.args.endian) c.args.count c.args.cursor.now)

pub returns-in_err-item : goal.returns-in_err-item
returns-in_err-item c =
    let p = err_from_is_err_and c.from_residual-in_err-item.result c.from_residual-in_err-item.ensures.1 in
    rw (p.1, p.2) (one_wrong (result_part c.args.endian) c.args.count c.loop-done._done c.loop-done.items c.args.cursor.now c.loop-done.cursor c.in_err-item.field-0.0 c.loop-done-test.true c.loop-done.invariant c.in_err-item.ensures)

pub returns-in_err-push : goal.returns-in_err-push
returns-in_err-push c = let p = err_from_is_err_and c.from_residual-in_err-push.result c.from_residual-in_err-push.ensures.1 in rw (p.1, p.2) (λ more. no_memory (repeated (result_part c.args.endian) c.args.count more) c.args.cursor.now)

pub loop-done-preserved : goal.loop-done-preserved
loop-done-preserved c = rw c.in_ok-push.ensures.pushed (one_more (result_part c.args.endian) c.args.count c.loop-done._done c.loop-done.items c.in_ok-item.item c.args.cursor.now c.loop-done.cursor c.read_result.new.cursor c.loop-done-test.true c.loop-done.invariant c.in_ok-item.ensures)

pub returns : goal.returns
returns c = all_read (result_part c.args.endian) c.args.count c.loop-done._done c.loop-done.items c.args.cursor.now c.loop-done.cursor c.loop-done-test.false c.loop-done.invariant
