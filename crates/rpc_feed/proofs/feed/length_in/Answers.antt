use Rattle.std.proofs.Common.{◌∙◌}
use Rattle.std.proofs.lemmas.Result.{err_from_is_err_and}
use Rattle.rpc_feed.proofs.Headed.{named, not_named}
use Rattle.rpc_feed.proofs.feed.length_in.Goals as goal

pub returns-in_err-header : goal.returns-in_err-header
returns-in_err-header c = let p = err_from_is_err_and c.from_residual.result c.from_residual.ensures.1 in rw (p.1, p.2) (not_named c.args.head.now c.new.result c.in_err-header.field-0.0 c.new.ensures c.in_err-header.ensures)

pub returns : goal.returns
returns c = let n = named c.args.head.now c.new.result c.read.new.cursor c.in_ok-header.header c.new.ensures c.in_ok-header.ensures in (c.from.ensures ∙ n.0, n.1)
