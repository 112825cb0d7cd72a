use Rattle.std.proofs.Common.{◌≡◌, false}
use Rattle.pdu_fields.specs.Headers.{between}
use Rattle.pdu_fields.specs.Tables.{octet}
use Rattle.pdu_fields.proofs.Parsed.{kept, not_right, is_between, below_least, above_most}
use Rattle.pdu_fields.proofs.cursor.Cursor.octet_between.Goals as goal
use Rattle.pdu_fields.proofs.cursor.Cursor.octet_between.Goals.{then-octet-least-via-then-octet-least, then-octet-least-via-else-octet-least+then-octet-most}

pub returns-then-octet-least : goal.returns-then-octet-least
returns-then-octet-least c =
    let f = c.in_ok-octet.ensures in
    let wrong : between c.args.least c.args.most c.in_ok-octet.octet ≡ false = elim c.then-octet-least.branch [ then-octet-least-via-then-octet-least w ↦ below_least _ _ _ w.if-octet-least.true | then-octet-least-via-else-octet-least+then-octet-most w ↦ above_most _ _ _ w.if-octet-most.true ] in
    record { read = rw c.refused-wrong.ensures (λ more. not_right c.args.name octet (between c.args.least c.args.most) more c.args.self.now c.in_ok-octet.octet f.0 f.1 wrong) }

pub returns : goal.returns
returns c =
    let f = c.in_ok-octet.ensures in
    record { read = λ more r parses. kept c.args.name octet (between c.args.least c.args.most) more c.args.self.now c.find_octet.new.self c.in_ok-octet.octet r f.0 f.1 f.2 (is_between _ _ _ c.if-octet-least.false c.if-octet-most.false) parses }
