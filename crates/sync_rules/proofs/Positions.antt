-- Positions of a history.
use Rattle.std.proofs.Common.{◌≡◌, inl, inr, refl, sym, ap, subst}
use Rattle.sync_rules.specs.History.{History, Begun, Then, settings_of, start_of, IsPositionOf, ComesBefore}
use Rattle.sync_rules.specs.Rules.{IsRuled}
use Rattle.sync_rules.specs.Ranges.{IsInRange}

-- a history is the last of its positions
pub last_position : (h : History) → IsPositionOf h h
last_position (Begun settings start) = refl
last_position (Then before event actions) = inl refl

pub ruled_position : (p h : History) → IsRuled h → IsPositionOf p h → IsRuled p
ruled_position p (Begun settings start) ruled is = subst IsRuled (sym is) ruled
ruled_position p (Then before event actions) ruled is =
    elim is [ inl same ↦ subst IsRuled (sym same) ruled | inr earlier ↦ ruled_position p before ruled.1 earlier ]

pub same_settings : (p h : History) → IsPositionOf p h → settings_of p ≡ settings_of h
same_settings p (Begun settings start) is = ap settings_of is
same_settings p (Then before event actions) is =
    elim is [ inl same ↦ ap settings_of same | inr earlier ↦ same_settings p before earlier ]

pub same_start : (p h : History) → IsPositionOf p h → start_of p ≡ start_of h
same_start p (Begun settings start) is = ap start_of is
same_start p (Then before event actions) is =
    elim is [ inl same ↦ ap start_of same | inr earlier ↦ same_start p before earlier ]

-- the start is a position of every history
pub start_position : (h : History) → IsPositionOf (Begun (settings_of h) (start_of h)) h
start_position (Begun settings start) = refl
start_position (Then before event actions) = inr (start_position before)

-- what comes before a position of a history is a position of it
pub earlier_position : (p q h : History) → ComesBefore p q → IsPositionOf q h → IsPositionOf p h
earlier_position p q (Begun settings start) comes is = absurd (subst (ComesBefore p) is comes)
earlier_position p q (Then before event actions) comes is =
    elim is [
      | inl same ↦ inr (subst (ComesBefore p) same comes)
      | inr earlier ↦ inr (earlier_position p q before comes earlier)
    ]

pub range_position : (p h : History) → IsInRange h → IsPositionOf p h → IsInRange p
range_position p (Begun settings start) range is = subst IsInRange (sym is) range
range_position p (Then before event actions) range is =
    elim is [ inl same ↦ subst IsInRange (sym same) range | inr earlier ↦ range_position p before range.0 earlier ]
