use Rattle.std.proofs.Common.{length, List, ℕ, ap, sym, ◌∙◌}
use Rattle.std.specs.Prelude.{◌==◌, option_copied}
use Rattle.dts_capture.specs.Parsing.{Place, from_here}
use Rattle.std.proofs.lemmas.Bool.{false≢true}
use Rattle.dts_capture.proofs.cursor.Cursor.field.Goals as goal

pub returns : goal.returns
returns c = (c.self.inside.behind.left, sym (ap (λ (p : Place). p.left) c.self.view_is) ∙ ap (λ o. from_here (option_copied o) c.self.inside.behind.left) c.in-Some.is, λ e. false≢true (c.if-is_empty.ensures ∙ ap (λ (xs : List ℕ). length xs == 0) e))
