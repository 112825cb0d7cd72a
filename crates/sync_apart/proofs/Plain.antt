-- What the sync part keeps of findings: all but those of connections, without the positions.
use Rattle.std.proofs.Common.{◌≡◌, ℕ, Bool, true, false, List, [], ◌∷◌, ◌++◌, refl, ap, ◌∙◌}
use Rattle.std.specs.Prelude.{if◌then◌else◌, map, reverse}
use Rattle.std.proofs.lemmas.List.{reverse-append, map-append, append_assoc}
use Rattle.sync_rules.specs.Rounds.{Moment}
use Rattle.sync_rules.proofs.Choices.{both}
use Rattle.node_rules.specs.History.{Finding, RoundEnded, OctetsCame, PeerRefused, PeerEnded, AskCame, ConnectionOpened, PduServed, Found, found_at}
use Rattle.node_rules.specs.Rules.{is_client}

-- the finding is of a connection that a client made
abbrev pub is_of_connection : Finding → Bool
is_of_connection (OctetsCame peer octets) = is_client peer
is_of_connection (PeerRefused peer) = is_client peer
is_of_connection (PeerEnded peer) = is_client peer
is_of_connection (AskCame peer) = is_client peer
is_of_connection (ConnectionOpened peer) = is_client peer
is_of_connection (PduServed peer p answer) = is_client peer
is_of_connection _ = false

-- a finding without the positions that it tells of: those of the answers of a round that ended
abbrev pub unplaced : Finding → Finding
unplaced (RoundEnded outcome answers own) = RoundEnded outcome [] own
unplaced finding = finding

-- a moment without its position
abbrev pub moment_at : ℕ → Moment
moment_at osc = record { position = 0; osc = osc }

abbrev pub plain_one : Found → Found
plain_one f = record { at = moment_at f.at.osc; finding = unplaced f.finding }

abbrev pub plain : List Found → List Found
plain [] = []
plain (f ∷ older) = if is_of_connection f.finding then plain older else plain_one f ∷ plain older

-- what holds of no findings, and stays so behind each, holds of all findings and the plain ones
pub by_plain : (P : List Found → List Found → Type 0) → P [] []
    → ((f : Found) (xs ys : List Found) → is_of_connection f.finding ≡ true → P xs ys → P (f ∷ xs) ys)
    → ((f : Found) (xs ys : List Found) → is_of_connection f.finding ≡ false → P xs ys → P (f ∷ xs) (plain_one f ∷ ys))
    → (found : List Found) → P found (plain found)
by_plain P none passed kept [] = none
by_plain P none passed kept (f ∷ older) =
    both (is_of_connection f.finding) (plain older) (plain_one f ∷ plain older) (P (f ∷ older))
    (λ is. passed f older (plain older) is (by_plain P none passed kept older))
    (λ is. kept f older (plain older) is (by_plain P none passed kept older))

-- ---- what a position finds
-- findings that were made at an oscillator reading, in front of what was found before
abbrev pub in_front : ℕ → List Finding → List Found → List Found
in_front osc [] older = older
in_front osc (f ∷ fs) older = in_front osc fs (if is_of_connection f then older else found_at (moment_at osc) (unplaced f) ∷ older)

pub plain_in_front : (at : Moment) (findings : List Finding) (older : List Found)
    → plain (reverse (map (found_at at) findings) ++ older) ≡ in_front at.osc findings (plain older)
plain_in_front at [] older = refl
plain_in_front at (f ∷ fs) older =
    ap (λ found. plain (found ++ older)) (reverse-append (found_at at f ∷ []) (map (found_at at) fs))
    ∙ ap plain (append_assoc (reverse (map (found_at at) fs)) (found_at at f ∷ []) older)
    ∙ plain_in_front at fs (found_at at f ∷ older)

-- what a position finds more is in front of all else
pub more_in_front : (at : Moment) (findings more : List Finding) (older : List Found)
    → reverse (map (found_at at) (findings ++ more)) ++ older
    ≡ reverse (map (found_at at) more) ++ (reverse (map (found_at at) findings) ++ older)
more_in_front at findings more older =
    rw (map-append (found_at at) findings more, reverse-append (map (found_at at) findings) (map (found_at at) more))
    (append_assoc (reverse (map (found_at at) more)) (reverse (map (found_at at) findings)) older)

-- findings of connections, which serving finds
abbrev pub AreOfConnections : List Finding → Type 0
AreOfConnections [] = Unit {0}
AreOfConnections (f ∷ fs) = (is_of_connection f ≡ true) × AreOfConnections fs

pub connections_stay_out : (osc : ℕ) (findings : List Finding) (older : List Found) → AreOfConnections findings
    → in_front osc findings older ≡ older
connections_stay_out osc [] older are = refl
connections_stay_out osc (f ∷ fs) older are =
    ap (λ b. in_front osc fs (if b then older else found_at (moment_at osc) (unplaced f) ∷ older)) are.0
    ∙ connections_stay_out osc fs older are.1
