use Rattle.std.proofs.Common.{List, ℕ, [], ◌∷◌, ◌++◌}
use Rattle.std.specs.Prelude.{codes, decimal}
use Rattle.server_roles.proofs.Adding.{add_both}
use Rattle.server_roles.proofs.texts.rates_words.Goals as goal

pub returns : goal.returns
returns c =
    let drift : List (List ℕ) = codes "drift" ∷ decimal c.args.s.now.drift_ppm ∷ [] in
    let resolution : List (List ℕ) = codes "resolution" ∷ decimal c.args.s.now.resolution ∷ [] in
    let lease : List (List ℕ) = codes "lease" ∷ decimal c.args.s.now.lease ∷ [] in
    let slew : List (List ℕ) = codes "slew" ∷ decimal c.args.s.now.slew_ppm ∷ [] in
    let tolerance : List (List ℕ) = codes "tolerance" ∷ decimal c.args.s.now.tolerance ∷ [] in
    let last = c.labelled-5.new.self in
    add_both c.args.words.now c.labelled.new.self last drift (resolution ++ (lease ++ (slew ++ tolerance))) c.in_ok-labelled.ensures
    (add_both c.labelled.new.self c.labelled-2.new.self last resolution (lease ++ (slew ++ tolerance)) c.in_ok-labelled-2.ensures
    (add_both c.labelled-2.new.self c.labelled-3.new.self last lease (slew ++ tolerance) c.in_ok-labelled-3.ensures
    (add_both c.labelled-3.new.self c.labelled-4.new.self last slew tolerance c.in_ok-labelled-4.ensures c.in_ok-labelled-5.ensures)))
