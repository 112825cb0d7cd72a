use Rattle.std.proofs.Common.{◌∙◌, sym, arith, rules}
use Rattle.toml.specs.View.{table_view}
use Rattle.toml.specs.Errors.{IsMemory}
use Rattle.roster.specs.declared.cause.RosterCause.TheVariants.{Long, Document}
use Rattle.roster.specs.declared.first_wrong.Section.TheVariants.{File}
use Rattle.roster.specs.Wrong.{wrong}
use Rattle.roster.specs.Seen.{seen}
use Rattle.roster.proofs.ReadIs.{refuses_by, long_is, no_document_is, document_is, document_from, no_document_from}
use Rattle.roster.proofs.roster.Roster.read.Goals as goal

pub returns-then-b-gt-MAX_OCTETS-clause-refused : goal.returns-then-b-gt-MAX_OCTETS-clause-refused
returns-then-b-gt-MAX_OCTETS-clause-refused c =
    refuses_by c.args.b.now (wrong File _ Long) c.whole.result (long_is c.args.b.now (omega (arith, c.if-b-gt-MAX_OCTETS.true))) c.whole.ensures

pub returns-in-Err-2-clause-refused : goal.returns-in-Err-2-clause-refused
returns-in-Err-2-clause-refused c =
    let other : ¬ (IsMemory c.in-Err-2.field-0) = search rules in
    let none = no_document_from c.args.b.now (c.in-Err-2.ensures.refused other) in
    refuses_by c.args.b.now (wrong File _ Document) c.whole-in-Err-2.result (no_document_is c.args.b.now (omega (arith, c.if-b-gt-MAX_OCTETS.false)) none) c.whole-in-Err-2.ensures

pub returns-in-Some-clause-refused : goal.returns-in-Some-clause-refused
returns-in-Some-clause-refused c =
    let doc = table_view c.in-Ok.document in
    let is = document_is c.args.b.now doc (omega (arith, c.if-b-gt-MAX_OCTETS.false)) (document_from c.args.b.now doc c.in-Ok.ensures.ok.0 c.in-Ok.ensures.ok.1) in
    refuses_by c.args.b.now (seen c.in-Some.found) c.refusal.result (is ∙ sym c.in-Some.ensures) c.refusal.ensures

pub returns-clause-roster : goal.returns-clause-roster
returns-clause-roster c =
    let doc = table_view c.in-Ok.document in
    let from = document_from c.args.b.now doc c.in-Ok.ensures.ok.0 c.in-Ok.ensures.ok.1 in
    let is = document_is c.args.b.now doc (omega (arith, c.if-b-gt-MAX_OCTETS.false)) from in
    record { right = is ∙ sym c.in-None.ensures; doc = doc; is_document = from; gives = c.in_ok-roster_in-in-None.ensures }
