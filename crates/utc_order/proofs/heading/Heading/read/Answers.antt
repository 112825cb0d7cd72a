use Rattle.std.proofs.Common.{refl, ap, subst, length, arith}
use Rattle.utc_text.specs.Texts.{SpellsAbsolute}
use Rattle.utc_text.specs.FirstWrong.{IsAbsoluteFault}
use Rattle.utc_order.specs.Lines.{IsHost}
use Rattle.utc_order.proofs.HeadingFacts.{first_field, second_field, third_length}
use Rattle.utc_order.proofs.heading.Heading.read.Goals as goal

pub returns-in-Err-clause-refused : goal.returns-in-Err-clause-refused
returns-in-Err-clause-refused c =
    let first = first_field c.args.octets.now c.new-fields.result c.next_field.new.fields c.next_field.new.fields c.new-fields.ensures _ c.next_field.ensures.field in
    let second = second_field c.args.octets.now c.new-fields.result c.next_field.new.fields c.next_field.new.fields c.new-fields.ensures c.next_field.ensures.left _ c.next_field-2.ensures.field in
    ((c.in-Some.host, subst (λ t. IsHost t c.in-Some.host) first c.in-Some.ensures), subst (λ t. IsAbsoluteFault t c.in-Err.fault) second ((c.in-Err.ensures.first_wrong c.in-Err.fault).0 refl))

pub returns-in-Some-next-clause-line : goal.returns-in-Some-next-clause-line
returns-in-Some-next-clause-line c =
    let first = first_field c.args.octets.now c.new-fields.result c.next_field.new.fields c.next_field.new.fields c.new-fields.ensures _ c.next_field.ensures.field in
    let second = second_field c.args.octets.now c.new-fields.result c.next_field.new.fields c.next_field.new.fields c.new-fields.ensures c.next_field.ensures.left _ c.next_field-2.ensures.field in
    let third = third_length c.args.octets.now c.new-fields.result c.next_field.new.fields c.next_field-2.new.fields c.new-fields.ensures c.next_field.ensures.left c.next_field-2.ensures.left in
    record {
      host = subst (λ t. IsHost t c.in-Some.host) first c.in-Some.ensures;
      time = subst (λ t. SpellsAbsolute t c.in-Ok.time) second ((c.in-Ok.ensures.spelled c.in-Ok.time).0 refl);
      text = omega (arith, third, ap length c.in-Some-next.ensures.next);
      all = refl;
    }
