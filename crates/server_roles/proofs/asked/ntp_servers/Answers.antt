use Rattle.std.proofs.Common.{◌∙◌, sym, arith}
use Rattle.roster.specs.declared.entry.ServerKind.TheVariants as kind
use Rattle.roster.specs.Rosters.{is_kind}
use Rattle.server_roles.specs.Sources.{ntp_servers}
use Rattle.server_roles.proofs.Turns.{taken, passed, not_past}
use Rattle.server_roles.proofs.asked.ntp_servers.Goals as goal
use Rattle.server_roles.proofs.asked.ntp_servers.Goals.{in-Some+then-is_ntp+in_ok-push, in-Some+else-is_ntp, in_default}

pub loop-peer-preserved : goal.loop-peer-preserved
loop-peer-preserved c =
    elim c.match-server.branch [
      | in-Some+then-is_ntp+in_ok-push w ↦
          rw (w.peers-is, w.in_ok-push.ensures.items)
          (taken (λ e. is_kind kind.Ntp e.kind) (ntp_servers c.args.r.now) c.loop-peer.peers.items c.args.r.now.entries c.loop-peer.peer w.in-Some.entry.now c.loop-peer.invariant (sym w.in-Some.ensures.server) (sym w.is_ntp.ensures ∙ w.if-is_ntp.true))
      | in-Some+else-is_ntp w ↦
          rw w.peers-is
          (passed (λ e. is_kind kind.Ntp e.kind) (ntp_servers c.args.r.now) c.loop-peer.peers.items c.args.r.now.entries c.loop-peer.peer w.in-Some.entry.now c.loop-peer.invariant (sym w.in-Some.ensures.server) (sym w.is_ntp.ensures ∙ w.if-is_ntp.false))
      | in_default w ↦
          absurd (not_past c.args.r.now.entries c.loop-peer.peer (omega (arith, c.loop-peer-test.true, c.servers-peer-end.ensures.servers, c.servers-peer-end.ensures.most)) (sym w.in_default.ensures.server))
    ]
