use Rattle.utc_calculator.proofs.Settled.{first_missing, middle_missing, last_written}
use Rattle.utc_calculator.proofs.results.are_written.Goals as goal

pub returns-then-not-x : goal.returns-then-not-x
returns-then-not-x c = first_missing c.args.first c.args.middle c.args.last c.is_time_written-x.result c.if-not-x.true c.is_time_written-x.ensures

pub returns-then-not-y : goal.returns-then-not-y
returns-then-not-y c = middle_missing c.args.first c.args.middle c.args.last c.is_time_written-y.result c.if-not-y.true c.is_time_written-y.ensures

pub returns : goal.returns
returns c =
    last_written c.args.first c.args.middle c.args.last c.is_time_written-x.result c.is_time_written-y.result c.is_time_written-z.result
    c.if-not-x.false c.if-not-y.false c.is_time_written-x.ensures c.is_time_written-y.ensures c.is_time_written-z.ensures
