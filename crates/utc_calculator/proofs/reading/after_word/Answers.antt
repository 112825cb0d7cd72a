use Rattle.std.proofs.Common.{pos, rules}
use Rattle.utc_calculator.specs.declared.operation.Operation.TheVariants as op
use Rattle.utc_calculator.proofs.Operands.{any, refused, refused_octets, mapped}
use Rattle.utc_calculator.proofs.reading.after_word.Goals as goal

pub returns-then-eq-clause-err : goal.returns-then-eq-clause-err
returns-then-eq-clause-err c = mapped c.two_times.result c.map.result _ _ _ (refused (op.Add any any) c.args.word.now c.args.fields.line c.args.fields.left (search rules)) c.map.ensures.cases c.two_times.ensures.err

pub returns-then-eq-2-clause-err : goal.returns-then-eq-2-clause-err
returns-then-eq-2-clause-err c = mapped c.two_times-then-eq-2.result c.map-then-eq-2.result _ _ _ (refused (op.Sub any any) c.args.word.now c.args.fields.line c.args.fields.left (search rules)) c.map-then-eq-2.ensures.cases c.two_times-then-eq-2.ensures.err

pub returns-then-eq-3-clause-err : goal.returns-then-eq-3-clause-err
returns-then-eq-3-clause-err c = mapped c.one_time.result c.map-then-eq-3.result _ _ _ (refused (op.Abs any) c.args.word.now c.args.fields.line c.args.fields.left (search rules)) c.map-then-eq-3.ensures.cases c.one_time.ensures.err

pub returns-then-eq-4-clause-err : goal.returns-then-eq-4-clause-err
returns-then-eq-4-clause-err c = mapped c.time_and_number.result c.map-then-eq-4.result _ _ _ (refused (op.Mul any (pos 0)) c.args.word.now c.args.fields.line c.args.fields.left (search rules)) c.map-then-eq-4.ensures.cases c.time_and_number.ensures.err

pub returns-then-eq-5-clause-err : goal.returns-then-eq-5-clause-err
returns-then-eq-5-clause-err c = mapped c.two_times-then-eq-5.result c.map-then-eq-5.result _ _ _ (refused (op.Span any any) c.args.word.now c.args.fields.line c.args.fields.left (search rules)) c.map-then-eq-5.ensures.cases c.two_times-then-eq-5.ensures.err

pub returns-then-eq-6-clause-err : goal.returns-then-eq-6-clause-err
returns-then-eq-6-clause-err c = mapped c.two_times-then-eq-6.result c.map-then-eq-6.result _ _ _ (refused (op.Bound any any) c.args.word.now c.args.fields.line c.args.fields.left (search rules)) c.map-then-eq-6.ensures.cases c.two_times-then-eq-6.ensures.err

pub returns-then-eq-7-clause-err : goal.returns-then-eq-7-clause-err
returns-then-eq-7-clause-err c = mapped c.time_and_minutes.result c.map-then-eq-7.result _ _ _ (refused (op.Tdf any (pos 0)) c.args.word.now c.args.fields.line c.args.fields.left (search rules)) c.map-then-eq-7.ensures.cases c.time_and_minutes.ensures.err

pub returns-then-eq-8-clause-err : goal.returns-then-eq-8-clause-err
returns-then-eq-8-clause-err c = mapped c.two_times-then-eq-8.result c.map-then-eq-8.result _ _ _ (refused (op.Interval any any) c.args.word.now c.args.fields.line c.args.fields.left (search rules)) c.map-then-eq-8.ensures.cases c.two_times-then-eq-8.ensures.err

pub returns-then-eq-9-clause-err : goal.returns-then-eq-9-clause-err
returns-then-eq-9-clause-err c = mapped c.two_times-then-eq-9.result c.map-then-eq-9.result _ _ _ (refused (op.Mid any any) c.args.word.now c.args.fields.line c.args.fields.left (search rules)) c.map-then-eq-9.ensures.cases c.two_times-then-eq-9.ensures.err

pub returns-then-eq-10-clause-err : goal.returns-then-eq-10-clause-err
returns-then-eq-10-clause-err c = mapped c.one_time-then-eq-10.result c.map-then-eq-10.result _ _ _ (refused (op.Point any) c.args.word.now c.args.fields.line c.args.fields.left (search rules)) c.map-then-eq-10.ensures.cases c.one_time-then-eq-10.ensures.err

pub returns-then-eq-11-clause-err : goal.returns-then-eq-11-clause-err
returns-then-eq-11-clause-err c = mapped c.one_time-then-eq-11.result c.map-then-eq-11.result _ _ _ (refused (op.Bytes any) c.args.word.now c.args.fields.line c.args.fields.left (search rules)) c.map-then-eq-11.ensures.cases c.one_time-then-eq-11.ensures.err

pub returns-then-eq-12-clause-err : goal.returns-then-eq-12-clause-err
returns-then-eq-12-clause-err c = mapped c.octets_of_time.result c.map-then-eq-12.result _ _ _ (refused_octets c.args.word.now c.args.fields.line c.args.fields.left (search rules)) c.map-then-eq-12.ensures.cases c.octets_of_time.ensures.err
