use Rattle.std.proofs.Common.{◌≡◌, false}
use Rattle.pdu_fields.specs.Headers.{between}
use Rattle.pdu_fields.specs.Tables.{number}
use Rattle.pdu_fields.proofs.Parsed.{kept, not_right, is_between, below_least, above_most}
use Rattle.pdu_fields.proofs.cursor.Cursor.u16_between.Goals as goal
use Rattle.pdu_fields.proofs.cursor.Cursor.u16_between.Goals.{then-number-least-via-then-number-least, then-number-least-via-else-number-least+then-number-most}

pub returns-then-number-least : goal.returns-then-number-least
returns-then-number-least c =
    let f = c.in_ok-number.ensures.found in
    let wrong : between c.args.least c.args.most c.in_ok-number.field-0 ≡ false = elim c.then-number-least.branch [ then-number-least-via-then-number-least w ↦ below_least _ _ _ w.if-number-least.true | then-number-least-via-else-number-least+then-number-most w ↦ above_most _ _ _ w.if-number-most.true ] in
    rw c.refused-wrong.ensures (λ more. not_right c.args.name (number c.args.endian 2) (between c.args.least c.args.most) more c.args.self.now c.in_ok-number.field-0 f.0 f.1 wrong)

pub returns : goal.returns
returns c =
    let f = c.in_ok-number.ensures.found in
    λ more r parses. kept c.args.name (number c.args.endian 2) (between c.args.least c.args.most) more c.args.self.now c.find_number.new.self c.in_ok-number.field-0 r f.0 f.1 f.2 (is_between _ _ _ c.if-number-least.false c.if-number-most.false) parses
