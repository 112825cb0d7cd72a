use Rattle.wire_show.proofs.Steps.{on_ok}
use Rattle.wire_show.proofs.Tables.{body_bind, body_alter, body_ack, body_alter_ack, body_shutdown, body_cancel, body_orphaned}
use Rattle.wire_show.proofs.lines.FieldLines.body.Goals as goal

pub returns-in-Bind : goal.returns-in-Bind
returns-in-Bind c = on_ok c.bind.result _ _ c.bind.ensures (λ walks h is. body_bind h c.args.head c.args.self.now c.bind.new.self is c.in-Bind.is walks)

pub returns-in-AlterContext : goal.returns-in-AlterContext
returns-in-AlterContext c = on_ok c.bind-in-AlterContext.result _ _ c.bind-in-AlterContext.ensures (λ walks h is. body_alter h c.args.head c.args.self.now c.bind-in-AlterContext.new.self is c.in-AlterContext.is walks)

pub returns-in-BindAck : goal.returns-in-BindAck
returns-in-BindAck c = on_ok c.ack.result _ _ c.ack.ensures (λ walks h is. body_ack h c.args.head c.args.self.now c.ack.new.self is c.in-BindAck.is walks)

pub returns-in-AlterContextResp : goal.returns-in-AlterContextResp
returns-in-AlterContextResp c = on_ok c.ack-in-AlterContextResp.result _ _ c.ack-in-AlterContextResp.ensures (λ walks h is. body_alter_ack h c.args.head c.args.self.now c.ack-in-AlterContextResp.new.self is c.in-AlterContextResp.is walks)

pub returns-in-Shutdown : goal.returns-in-Shutdown
returns-in-Shutdown c = λ h is. body_shutdown h c.args.head c.args.self.now is c.in-Shutdown.is

pub returns-in-CoCancel : goal.returns-in-CoCancel
returns-in-CoCancel c = λ h is. body_cancel h c.args.head c.args.self.now is c.in-CoCancel.is

pub returns-in-Orphaned : goal.returns-in-Orphaned
returns-in-Orphaned c = λ h is. body_orphaned h c.args.head c.args.self.now is c.in-Orphaned.is
