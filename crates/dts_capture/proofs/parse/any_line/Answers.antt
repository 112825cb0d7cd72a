use Rattle.dts_capture.proofs.parse.any_line.Goals as goal

pub returns : goal.returns
returns c =
    let first = rw c.if-branch.false at c.in_ok-takes.ensures in
    let second = rw c.if-branch-2.false at c.in_ok-takes-2.ensures in
    let third = rw c.if-branch-3.false at c.in_ok-takes-3.ensures in
    let fourth = rw c.if-branch-4.false at c.in_ok-takes-4.ensures in
    first _ _ _ (second _ _ _ (third _ _ _ (fourth _ _ _ c.of_peer.ensures)))
