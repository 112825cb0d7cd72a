use Rattle.line_reader.proofs.Decimals.{whole_text, ok_missing, ok_found, number_read}
use Rattle.line_reader.proofs.number.value_of.Goals as goal

pub returns-in_err-ok : goal.returns-in_err-ok
returns-in_err-ok c = rw c.from_residual.ensures (λ z whole fits. ok_missing c.from_utf8.result c.ok.result _ _ c.in_err-ok.was c.ok.ensures.value c.from_utf8.ensures.cases (λ y q. q.0 (whole_text c.args.field.now z whole)))

pub returns : goal.returns
returns c =
    let same = ok_found c.from_utf8.result c.ok.result c.in_ok-ok.field-0 _ _ c.in_ok-ok.was c.ok.ensures.value c.from_utf8.ensures.cases in
    number_read c.args.field.now c.in_ok-ok.field-0.now c.parse.result c.ok-2.result same.0 c.requires c.parse.ensures.value.0 c.ok-2.ensures.value
