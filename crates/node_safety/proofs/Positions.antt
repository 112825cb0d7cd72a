-- Positions of a node's history, and of the history without its findings.
use Rattle.std.proofs.Common.{◌≡◌, inl, inr, refl, sym, ap, subst, List}
use Rattle.dts_capture.specs.declared.event.Event.{Event}
use Rattle.dts_capture.specs.declared.action.Action.{Action}
use Rattle.sync_rules.specs.History.{History, IsPositionOf as IsPositionAlone}
use Rattle.sync_rules.specs.Ranges.{IsInRange as HistoryInRange}
use Rattle.node_rules.specs.History.{Finding, NodeHistory, Began, Next, bare}
use Rattle.node_rules.specs.Rules.{IsRuled}
use Rattle.node_safety.specs.World.{IsPositionOf}

-- a position of the history without its findings is one of the history
pub record IsOf (h : NodeHistory) (p : History) : Type 0 where
  pub position : NodeHistory
  pub is : IsPositionOf position h
  pub same : bare position ≡ p

pub node_position : (p : History) (h : NodeHistory) → IsPositionAlone p (bare h) → IsOf h p
node_position p (Began roster start) is = record { position = Began roster start; is = refl; same = sym is }
node_position p (Next before e findings given) is =
    elim is [
      | inl same ↦ record { position = Next before e findings given; is = inl refl; same = sym same }
      | inr earlier ↦ let found = node_position p before earlier in record { position = found.position; is = inr found.is; same = found.same }
    ]

pub bare_position : (p h : NodeHistory) → IsPositionOf p h → IsPositionAlone (bare p) (bare h)
bare_position p (Began roster start) is = ap bare is
bare_position p (Next before e findings given) is =
    elim is [ inl same ↦ inl (ap bare same) | inr earlier ↦ inr (bare_position p before earlier) ]

pub ruled_position : (p h : NodeHistory) → IsRuled h → IsPositionOf p h → IsRuled p
ruled_position p (Began roster start) ruled is = subst IsRuled (sym is) ruled
ruled_position p (Next before e findings given) ruled is =
    elim is [ inl same ↦ subst IsRuled (sym same) ruled | inr earlier ↦ ruled_position p before ruled.1 earlier ]

pub range_position : (p h : NodeHistory) → HistoryInRange (bare h) → IsPositionOf p h → HistoryInRange (bare p)
range_position p (Began roster start) range is = subst (λ q. HistoryInRange (bare q)) (sym is) range
range_position p (Next before e findings given) range is =
    elim is [ inl same ↦ subst (λ q. HistoryInRange (bare q)) (sym same) range | inr earlier ↦ range_position p before range.0 earlier ]

pub last_position : (h : NodeHistory) → IsPositionOf h h
last_position (Began roster start) = refl
last_position (Next before e findings given) = inl refl

-- what is before a position of the history is one too
pub before_position : (before h : NodeHistory) (e : Event) (findings : List Finding) (given : List Action)
    → IsPositionOf (Next before e findings given) h → IsPositionOf before h
before_position before (Began roster start) e findings given is = absurd (subst IsNext is tt)
  where
    IsNext : NodeHistory → Type 0
    IsNext (Began r s) = ⊥
    IsNext (Next b x f g) = Unit {0}
before_position before (Next earlier x f g) e findings given is =
    elim is [
      | inl same ↦ inr (subst (λ q. IsPositionOf q earlier) (sym (ap earlier_of same)) (last_position earlier))
      | inr far ↦ inr (before_position before earlier e findings given far)
    ]
  where
    earlier_of : NodeHistory → NodeHistory
    earlier_of (Began r s) = Began r s
    earlier_of (Next b y u v) = b
