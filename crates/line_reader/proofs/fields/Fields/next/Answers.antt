use Rattle.std.proofs.Common.{◌≡◌, length, ap, sym, ◌∙◌, arith}
use Rattle.std.specs.Option.{option_copied}
use Rattle.line_reader.specs.Fields.{fields_of, fields_left, text_of}
use Rattle.line_reader.proofs.FieldFacts.{text_of-fields_of}
use Rattle.line_reader.proofs.fields.Fields.next.Goals as goal

pub returns-in-Some-clause-column : goal.returns-in-Some-clause-column
returns-in-Some-clause-column c =
    let left : c.args.self.now.left ≡ fields_of c.in-Some.rest.now = sym (ap (λ f. f.left) c.self.view_is) ∙ ap (λ r. fields_left (option_copied r)) c.in-Some.is in
    omega (arith, c.first_of.ensures.column, ap (λ f. length f.line) c.self.view_is, ap (λ ls. length (text_of ls)) left, ap length (text_of-fields_of c.in-Some.rest.now))
