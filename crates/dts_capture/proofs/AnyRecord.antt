-- The line of an event that names no record is in range whatever record is current.
use Rattle.std.proofs.Common.{inl, inr, ℕ, Option, Some, None}
use Rattle.dts_capture.specs.declared.event.Event.{Event}
use Rattle.dts_capture.specs.declared.line.Line.TheVariants as line
use Rattle.dts_capture.specs.Grammar.{serve_forms, direct_forms, peer_forms, line_forms}
use Rattle.dts_capture.specs.Ranges.{IsLineOf, IsLineInRange}

served_names_one : (k : ℕ) (e : Event) → IsLineOf (serve_forms (Some k)) (line.Event None e) → ⊥
served_names_one k e (inl (osc, ho, is)) = cc
served_names_one k e (inr (inl (osc, ho, (conn, hc, (b, hb, is))))) = cc
served_names_one k e (inr (inr (inl (osc, ho, (peer, hp, (client, is)))))) = cc
served_names_one k e (inr (inr (inr (inl (osc, ho, (peer, hp, (client, is))))))) = cc
served_names_one k e (inr (inr (inr (inr d)))) = d

any_direct : (current other : Option ℕ) (e : Event) → IsLineOf (direct_forms current) (line.Event None e)
    → IsLineOf (direct_forms other) (line.Event None e)
any_direct current other e (inl d) = inl d
any_direct current other e (inr (inl d)) = inr (inl d)
any_direct current other e (inr (inr (inl d))) = inr (inr (inl d))
any_direct current other e (inr (inr (inr (inl (k, hk, d))))) = absurd (served_names_one k e d)
any_direct current other e (inr (inr (inr (inr d)))) = absurd d

any_peer : (current other : Option ℕ) (e : Event) → IsLineOf (peer_forms current) (line.Event None e)
    → IsLineOf (peer_forms other) (line.Event None e)
any_peer current other e (inl d) = inl d
any_peer current other e (inr (inl d)) = inr (inl d)
any_peer current other e (inr (inr (inl d))) = inr (inr (inl d))
any_peer current other e (inr (inr (inr (inl d)))) = inr (inr (inr (inl d)))
any_peer current other e (inr (inr (inr (inr d)))) = inr (inr (inr (inr (any_direct current other e d))))

any_line : (current other : Option ℕ) (e : Event) → IsLineOf (line_forms current) (line.Event None e)
    → IsLineOf (line_forms other) (line.Event None e)
any_line current other e (inl d) = inl d
any_line current other e (inr (inl d)) = inr (inl d)
any_line current other e (inr (inr (inl d))) = inr (inr (inl d))
any_line current other e (inr (inr (inr (inl d)))) = inr (inr (inr (inl d)))
any_line current other e (inr (inr (inr (inr d)))) = inr (inr (inr (inr (any_peer current other e d))))

pub any_record : (current other : Option ℕ) (e : Event) → IsLineInRange current (line.Event None e)
    → IsLineInRange other (line.Event None e)
any_record current other e (inl blank) = absurd cc
any_record current other e (inr d) = inr (any_line current other e d)
