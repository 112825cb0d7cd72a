use Rattle.std.proofs.Common.{ap, sym, ◌∙◌}
use Rattle.dts_base.specs.declared.wire.Field.TheVariants as field
use Rattle.pdu_fields.specs.Headers.{is_length, fits}
use Rattle.pdu_fields.specs.Tables.{number}
use Rattle.pdu_fields.proofs.Parsed.{kept, not_right}
use Rattle.pdu_fields.proofs.cursor.Cursor.length.Goals as goal

pub returns-then-not-is_length : goal.returns-then-not-is_length
returns-then-not-is_length c =
    let f = c.in_ok-length.ensures.found in
    let right_length = is_length (fits c.args.known) in
    let wrong = ap right_length (sym c.from.ensures) ∙ sym c.is_length.ensures ∙ c.if-not-is_length.true in
    rw c.refused-wrong.ensures (λ more. not_right field.FragLength (number c.args.endian 2) right_length more c.args.self.now c.in_ok-length.field-0 f.0 f.1 wrong)

pub returns : goal.returns
returns c =
    let f = c.in_ok-length.ensures.found in
    let right_length = is_length (fits c.args.known) in
    let right = ap right_length (sym c.from.ensures) ∙ sym c.is_length.ensures ∙ c.if-not-is_length.false in
    λ more r parses. kept field.FragLength (number c.args.endian 2) right_length more c.args.self.now c.find_number.new.self c.in_ok-length.field-0 r f.0 f.1 f.2 right parses
