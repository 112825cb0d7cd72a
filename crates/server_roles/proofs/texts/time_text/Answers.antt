use Rattle.std.proofs.Common.{◌≡◌, ◌∙◌, ℕ, List, [], ◌∷◌, ◌++◌, true, arith, ap, subst, sym}
use Rattle.std.proofs.lemmas.Int.{to_z-of_z}
use Rattle.std.specs.Int.{w64}
use Rattle.std.specs.Prelude.{codes, decimal}
use Rattle.std.specs.Fmt.{signed_decimal}
use Rattle.dts_capture.specs.Log.{number_or_dash}
use Rattle.dts_capture.specs.Writing.{Adds, spaced}
use Rattle.ndr.specs.Strings.{is_text}
use Rattle.server_roles.specs.Answering.{time_words}
use Rattle.server_roles.proofs.Adding.{add_both}
use Rattle.server_roles.proofs.Printed.{time_is_text}
use Rattle.server_roles.proofs.texts.time_text.Goals as goal

pub returns : goal.returns
returns c =
    let value : List (List ℕ) = signed_decimal c.args.value ∷ [] in
    let inaccuracy : List (List ℕ) = number_or_dash c.args.inaccuracy ∷ [] in
    let step : List (List ℕ) = decimal c.args.step ∷ [] in
    let number : List (List ℕ) = decimal c.args.number ∷ [] in
    let last = c.number-3.new.self in
    let with_value : Adds c.in_ok-words.words c.number.new.self value =
    subst (λ v. Adds c.in_ok-words.words c.number.new.self (signed_decimal v ∷ [])) (to_z-of_z w64 c.args.value c.ranges.value) c.in_ok-number.ensures in
    let added = add_both c.in_ok-words.words c.number.new.self last value (inaccuracy ++ (step ++ number)) with_value
    (add_both c.number.new.self c.number_or_dash.new.self last inaccuracy (step ++ number) c.in_ok-number_or_dash.ensures
    (add_both c.number_or_dash.new.self c.number-2.new.self last step number c.in_ok-number-2.ensures c.in_ok-number-3.ensures)) in
    let text : c.end.result ≡ codes "time" ++ spaced (time_words c.args.value c.args.inaccuracy c.args.step c.args.number) =
    c.end.ensures ∙ added ∙ ap (λ t. t ++ spaced (time_words c.args.value c.args.inaccuracy c.args.step c.args.number)) c.in_ok-words.ensures in
    let printed = time_is_text c.args.value c.args.inaccuracy c.args.step c.args.number c.ranges.value c.requires (omega (arith, c.ranges.step)) (omega (arith, c.ranges.number)) in
    record { text = text; printed = subst (λ t. is_text t ≡ true) (sym text) printed }
