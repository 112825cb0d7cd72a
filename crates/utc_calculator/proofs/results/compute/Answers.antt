use Rattle.utc_calculator.proofs.results.compute.Goals as goal

pub returns-in_ok-first-in-Point-clause-ok : goal.returns-in_ok-first-in-Point-clause-ok
returns-in_ok-first-in-Point-clause-ok c =
    let ok = c.in_ok-first-in-Point in
    rw c.in-Point.is ((c.point.ensures.points ok.first ok.middle ok.last).0 ok.was)
