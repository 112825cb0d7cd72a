use Rattle.std.proofs.Common.{◌≡◌, ◌∙◌, ℕ, List, [], ◌∷◌, ◌++◌, true, arith, ap, subst, sym}
use Rattle.std.specs.Prelude.{codes, decimal}
use Rattle.dts_capture.specs.Writing.{Adds, spaced}
use Rattle.ndr.specs.Strings.{is_text}
use Rattle.server_roles.specs.Answering.{settings_text, settings_words, rates_words, role_name}
use Rattle.server_roles.proofs.Adding.{add_both}
use Rattle.server_roles.proofs.Printed.{settings_are_text}
use Rattle.server_roles.proofs.texts.settings_text.Goals as goal

pub returns : goal.returns
returns c =
    let s = c.args.s.now in
    let name : List (List ℕ) = s.name ∷ [] in
    let role : List (List ℕ) = role_name s.role ∷ [] in
    let epoch : List (List ℕ) = codes "epoch" ∷ decimal s.epoch ∷ [] in
    let required : List (List ℕ) = codes "required" ∷ decimal s.required ∷ [] in
    let last = c.rates_words.new.words in
    let named : Adds c.in_ok-words.words c.word.new.self name =
    subst (λ w. Adds c.in_ok-words.words c.word.new.self (w ∷ [])) c.as_slice.ensures.octets c.in_ok-word.ensures in
    let with_role : Adds c.word.new.self c.word-2.new.self role =
    subst (λ w. Adds c.word.new.self c.word-2.new.self (w ∷ [])) (c.as_bytes.ensures.value ∙ c.role_name.ensures) c.in_ok-word-2.ensures in
    let with_epoch : Adds c.word-2.new.self c.labelled.new.self epoch =
    subst (λ n. Adds c.word-2.new.self c.labelled.new.self (codes "epoch" ∷ decimal n ∷ [])) c.from.ensures c.in_ok-labelled.ensures in
    let added = add_both c.in_ok-words.words c.word.new.self last name (role ++ (epoch ++ (required ++ rates_words s))) named
    (add_both c.word.new.self c.word-2.new.self last role (epoch ++ (required ++ rates_words s)) with_role
    (add_both c.word-2.new.self c.labelled.new.self last epoch (required ++ rates_words s) with_epoch
    (add_both c.labelled.new.self c.labelled-2.new.self last required (rates_words s) c.in_ok-labelled-2.ensures c.in_ok-rates_words.ensures))) in
    let text : c.end.result ≡ settings_text s = c.end.ensures ∙ added ∙ ap (λ t. t ++ spaced (settings_words s)) c.in_ok-words.ensures in
    let printed = settings_are_text s c.requires (omega (arith, c.from.type_inv, c.from.ensures)) in
    record { text = text; printed = subst (λ t. is_text t ≡ true) (sym text) printed }
