use Rattle.std.proofs.Common.{◌≡◌, true, false, ap, ◌∙◌, arith}
use Rattle.std.proofs.lemmas.Bool.Decides.{nat_tests}
use Rattle.pdu_fields.specs.Bodies.{has_object}
use Rattle.wire_show.proofs.Steps.{on_ok}
use Rattle.wire_show.proofs.Tables.{object_from, none_from}
use Rattle.wire_show.proofs.lines.FieldLines.request.Goals as goal
use Rattle.wire_show.proofs.lines.FieldLines.request.Goals.{then-flags-ne0+in_ok-field, else-flags-ne0}

pub returns : goal.returns
returns c = on_ok c.rest.result _ _ c.rest.ensures (λ last h flags. elim c.if-flags-ne0.branch [
  | then-flags-ne0+in_ok-field w ↦
      let set : has_object c.args.flags ≡ true = grind (arith, nat_tests, w.if-flags-ne0.true) in
      object_from h c.args.self.now c.fields.new.self c.if-flags-ne0.self c.rest.new.self (ap has_object flags ∙ set) c.in_ok-fields.ensures (w.self-is ∙ w.in_ok-field.ensures) last
  | else-flags-ne0 w ↦
      let unset : has_object c.args.flags ≡ false = grind (arith, nat_tests, w.if-flags-ne0.false) in
      none_from h c.args.self.now c.if-flags-ne0.self c.rest.new.self (ap has_object flags ∙ unset) (w.self-is ∙ c.in_ok-fields.ensures) last
])
