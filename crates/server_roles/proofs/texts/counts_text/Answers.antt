use Rattle.std.proofs.Common.{◌≡◌, ◌∙◌, ℕ, List, [], ◌∷◌, ◌++◌, true, arith, ap, subst, sym}
use Rattle.std.specs.Prelude.{codes, decimal}
use Rattle.dts_capture.specs.Writing.{spaced}
use Rattle.ndr.specs.Strings.{is_text}
use Rattle.server_roles.specs.Answering.{counts_words}
use Rattle.server_roles.proofs.Adding.{add_both}
use Rattle.server_roles.proofs.Printed.{counts_are_text}
use Rattle.server_roles.proofs.texts.counts_text.Goals as goal

pub returns : goal.returns
returns c =
    let lane : List (List ℕ) = decimal c.args.lane ∷ [] in
    let asks : List (List ℕ) = codes "asks" ∷ decimal c.args.asks ∷ [] in
    let refused : List (List ℕ) = codes "refused" ∷ decimal c.args.refused ∷ [] in
    let connections : List (List ℕ) = codes "connections" ∷ decimal c.args.connections ∷ [] in
    let last = c.labelled-3.new.self in
    let added = add_both c.in_ok-words.words c.number.new.self last lane (asks ++ (refused ++ connections)) c.in_ok-number.ensures
    (add_both c.number.new.self c.labelled.new.self last asks (refused ++ connections) c.in_ok-labelled.ensures
    (add_both c.labelled.new.self c.labelled-2.new.self last refused connections c.in_ok-labelled-2.ensures c.in_ok-labelled-3.ensures)) in
    let text : c.end.result ≡ codes "counts" ++ spaced (counts_words c.args.lane c.args.asks c.args.refused c.args.connections) =
    c.end.ensures ∙ added ∙ ap (λ t. t ++ spaced (counts_words c.args.lane c.args.asks c.args.refused c.args.connections)) c.in_ok-words.ensures in
    let printed = counts_are_text c.args.lane c.args.asks c.args.refused c.args.connections (omega (arith, c.ranges.lane)) (omega (arith, c.ranges.asks)) (omega (arith, c.ranges.refused)) (omega (arith, c.ranges.connections)) in
    record { text = text; printed = subst (λ t. is_text t ≡ true) (sym text) printed }
