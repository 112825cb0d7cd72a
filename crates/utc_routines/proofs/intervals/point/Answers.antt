use Rattle.utc_routines.proofs.Points.{points_exactly, points_refused}
use Rattle.utc_routines.proofs.intervals.point.Goals as goal

pub returns-clause-points : goal.returns-clause-points
returns-clause-points c = points_exactly c.args.a c.points_of.result c.points_of.ensures.ok c.points_of.ensures.in_range c.points_of.ensures.err

pub returns-clause-refused : goal.returns-clause-refused
returns-clause-refused c = points_refused c.args.a c.points_of.result c.points_of.ensures.ok c.points_of.ensures.in_range c.points_of.ensures.err
