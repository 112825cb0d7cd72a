-- Serving is apart from the sync part.
use Rattle.std.proofs.Common.{List, [], ◌∷◌, refl, ap}
use Rattle.std.specs.Prelude.{filter}
use Rattle.dts_capture.specs.declared.event.Event.{Event}
use Rattle.sync_rules.proofs.Choices.{both}
use Rattle.node_rules.specs.History.{NodeHistory, Began}
use Rattle.node_rules.specs.Rules.{followed_by, extended}
use Rattle.sync_apart.specs.Apart.{is_sync, AskOverConnections, ServesApart}
use Rattle.sync_apart.proofs.Steps.{Known, AreAlike}
use Rattle.sync_apart.proofs.Ticking.{followed_alike}
use Rattle.sync_apart.proofs.Lanes.{serving_alike}

together : (events : List Event) → AskOverConnections events → (h k : NodeHistory) → AreAlike h k
    → AreAlike (extended h events) (extended k (filter is_sync events))
together [] asks h k same = same
together (e ∷ events) asks h k same =
    both (is_sync e) (e ∷ filter is_sync events) (filter is_sync events)
    (λ rest. AreAlike (extended (followed_by h e) events) (extended k rest))
    (λ sync. together events asks.1 (followed_by h e) (followed_by k e) (followed_alike e h k sync same))
    (λ lane. together events asks.1 (followed_by h e) k (serving_alike e h k lane asks.0 same))

pub serves_apart : ServesApart
serves_apart = record {
  given = λ roster start events few asks.
      (together events asks (Began roster start) (Began roster start) (record { known = refl; given = refl; below = few })).given;
  clock = λ roster start events few asks. ap (λ (s : Known). s.clock)
      (together events asks (Began roster start) (Began roster start) (record { known = refl; given = refl; below = few })).known;
}
