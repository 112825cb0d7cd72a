-- Of which peers findings tell, and histories whose last positions are the same.
use Rattle.std.proofs.Common.{◌≡◌, ℕ, ◌+◌, Bool, true, false, List, [], ◌∷◌, ◌++◌, refl, sym, ap, ◌∙◌, subst}
use Rattle.std.specs.Prelude.{filter, fold, map, reverse, if◌then◌else◌}
use Rattle.std.specs.List.{AllByRecursion}
use Rattle.std.proofs.lemmas.List.{reverse-append, append_assoc}
use Rattle.dts_capture.specs.declared.event.Event.{Event}
use Rattle.dts_capture.specs.declared.action.Action.{Action}
use Rattle.sync_rules.specs.History.{Sync, peer_part, event_osc, number_of}
use Rattle.sync_rules.specs.Rounds.{Moment}
use Rattle.sync_rules.proofs.Choices.{both}
use Rattle.node_rules.specs.History.{Finding, RoundOpened, RoundEnded, SessionBegan, RequestSent, PduTaken, PacketTaken, QueryAsked, QueryAnswered, QueryGone, OctetsCame, PeerRefused, PeerEnded, AskCame, ConnectionOpened, PduServed, NodeHistory, Next, bare, gives, Found, found_at}

-- ---- peers
abbrev pub IsServer : ℕ → Type 0
IsServer peer = peer_part peer ≡ Sync

-- the peer of a finding is such; and the sources of a round are servers
abbrev pub IsOf : (ℕ → Type 0) → Finding → Type 0
IsOf P (RoundOpened number deadline sources word) = AllByRecursion IsServer sources
IsOf P (RoundEnded outcome answers own) = Unit {0}
IsOf P (SessionBegan peer first) = P peer
IsOf P (RequestSent peer operation stub) = P peer
IsOf P (PduTaken peer p answer) = P peer
IsOf P (PacketTaken peer answer) = P peer
IsOf P (QueryAsked peer) = P peer
IsOf P (QueryAnswered peer lo hi) = P peer
IsOf P (QueryGone peer) = P peer
IsOf P (OctetsCame peer octets) = P peer
IsOf P (PeerRefused peer) = P peer
IsOf P (PeerEnded peer) = P peer
IsOf P (AskCame peer) = P peer
IsOf P (ConnectionOpened peer) = P peer
IsOf P (PduServed peer p answer) = P peer

abbrev pub AreOf : (ℕ → Type 0) → List Finding → Type 0
AreOf P findings = AllByRecursion (IsOf P) findings

weaker : (P Q : ℕ → Type 0) → ((peer : ℕ) → P peer → Q peer) → (f : Finding) → IsOf P f → IsOf Q f
weaker P Q so (RoundOpened number deadline sources word) is = is
weaker P Q so (RoundEnded outcome answers own) is = is
weaker P Q so (SessionBegan peer first) is = so peer is
weaker P Q so (RequestSent peer operation stub) is = so peer is
weaker P Q so (PduTaken peer p answer) is = so peer is
weaker P Q so (PacketTaken peer answer) is = so peer is
weaker P Q so (QueryAsked peer) is = so peer is
weaker P Q so (QueryAnswered peer lo hi) is = so peer is
weaker P Q so (QueryGone peer) is = so peer is
weaker P Q so (OctetsCame peer octets) is = so peer is
weaker P Q so (PeerRefused peer) is = so peer is
weaker P Q so (PeerEnded peer) is = so peer is
weaker P Q so (AskCame peer) is = so peer is
weaker P Q so (ConnectionOpened peer) is = so peer is
weaker P Q so (PduServed peer p answer) is = so peer is

pub are_weaker : (P Q : ℕ → Type 0) → ((peer : ℕ) → P peer → Q peer) → (fs : List Finding) → AreOf P fs → AreOf Q fs
are_weaker P Q so [] are = tt
are_weaker P Q so (f ∷ fs) are = (weaker P Q so f are.0, are_weaker P Q so fs are.1)

pub each_append : {X : Type 0} (P : X → Type 0) (xs ys : List X) → AllByRecursion P xs → AllByRecursion P ys → AllByRecursion P (xs ++ ys)
each_append P [] ys each more = more
each_append P (x ∷ xs) ys each more = (each.0, each_append P xs ys each.1 more)

pub each_filter : {X : Type 0} (P : X → Type 0) (p : X → Bool) (xs : List X) → AllByRecursion P xs → AllByRecursion P (filter p xs)
each_filter P p [] each = tt
each_filter P p (x ∷ xs) each =
    both (p x) (x ∷ filter p xs) (filter p xs) (AllByRecursion P)
    (λ _. (each.0, each_filter P p xs each.1)) (λ _. each_filter P p xs each.1)

-- the ends of such peers
pub ends_are_of : (P : ℕ → Type 0) (peers : List ℕ) → AllByRecursion P peers → AreOf P (map PeerEnded peers)
ends_are_of P [] each = tt
ends_are_of P (peer ∷ peers) each = (each.0, ends_are_of P peers each.1)

-- ---- findings in front of others
-- when a position found what it did
abbrev pub moment : NodeHistory → Event → Moment
moment before e = record { position = number_of (bare before) + 1; osc = event_osc e }

-- the first finding of a position stands behind its others
pub in_front : (at : Moment) (f : Finding) (fs : List Finding) (found : List Found)
    → reverse (map (found_at at) (f ∷ fs)) ++ found ≡ reverse (map (found_at at) fs) ++ (found_at at f ∷ found)
in_front at f fs found =
    ap (λ (xs : List Found). xs ++ found) (reverse-append (found_at at f ∷ []) (map (found_at at) fs))
    ∙ append_assoc (reverse (map (found_at at) fs)) (found_at at f ∷ []) found

-- what each finding of a kind keeps, all findings of a position keep
pub kept : (Q : List Found → Type 0) (OK : Finding → Type 0)
    → ((f : Found) (found : List Found) → OK f.finding → Q found → Q (f ∷ found))
    → (at : Moment) (fs : List Finding) (found : List Found) → AllByRecursion OK fs → Q found → Q (reverse (map (found_at at) fs) ++ found)
kept Q OK each at [] found ok q = q
kept Q OK each at (f ∷ fs) found ok q =
    subst Q (sym (in_front at f fs found)) (kept Q OK each at fs (found_at at f ∷ found) ok.1 (each (found_at at f) found ok.0 q))

-- ---- positions
-- Two histories whose last positions are of one event and have the same findings and actions, behind other histories; and the findings
-- are of such peers.
pub record Alike (P : ℕ → Type 0) (one other : NodeHistory) (e : Event) (x y : NodeHistory) : Type 0 where
  pub findings : List Finding
  pub given : List Action
  pub left : x ≡ Next one e findings given
  pub right : y ≡ Next other e findings given
  pub tell : AreOf P findings

pub alike_first : {P : ℕ → Type 0} {one other : NodeHistory} {e : Event} → Alike P one other e (Next one e [] []) (Next other e [] [])
alike_first = record { findings = []; given = []; left = refl; right = refl; tell = tt }

-- both give this too
pub alike_more : {P : ℕ → Type 0} {one other : NodeHistory} {e : Event} {x y : NodeHistory} → Alike P one other e x y
    → (more : List Finding) (given : List Action) → AreOf P more → Alike P one other e (gives x more given) (gives y more given)
alike_more {P} same more given tell = record {
  findings = same.findings ++ more;
  given = same.given ++ given;
  left = ap (λ h. gives h more given) same.left;
  right = ap (λ h. gives h more given) same.right;
  tell = each_append (IsOf P) same.findings more same.tell tell;
}

-- a test chooses the same of both
pub alike_either : {P : ℕ → Type 0} {one other : NodeHistory} {e : Event} {x y v w : NodeHistory} (b c : Bool) → b ≡ c
    → Alike P one other e x y → Alike P one other e v w → Alike P one other e (if b then x else v) (if c then y else w)
alike_either {P} {one} {other} {e} {x} {y} {v} {w} b c is first second =
    subst (λ d. Alike P one other e (if b then x else v) (if d then y else w)) is (at b)
  where
    at : (d : Bool) → Alike P one other e (if d then x else v) (if d then y else w)
    at true = first
    at false = second

-- the one that is chosen
pub alike_then : {P : ℕ → Type 0} {one other : NodeHistory} {e : Event} {x y : NodeHistory} (v w : NodeHistory) (b : Bool) → b ≡ true
    → Alike P one other e x y → Alike P one other e (if b then x else v) (if b then y else w)
alike_then v w true is same = same
alike_then v w false is same = cc

pub alike_else : {P : ℕ → Type 0} {one other : NodeHistory} {e : Event} {x y : NodeHistory} (v w : NodeHistory) (b : Bool) → b ≡ false
    → Alike P one other e x y → Alike P one other e (if b then v else x) (if b then w else y)
alike_else v w false is same = same
alike_else v w true is same = cc

-- steps that keep both alike do so one behind the other
pub alike_each : {X : Type 0} {P : ℕ → Type 0} {one other : NodeHistory} {e : Event} {x y : NodeHistory}
    (f : NodeHistory → X → NodeHistory) (OK : X → Type 0)
    → ((v w : NodeHistory) (s : X) → OK s → Alike P one other e v w → Alike P one other e (f v s) (f w s))
    → (xs : List X) → AllByRecursion OK xs → Alike P one other e x y → Alike P one other e (fold f x xs) (fold f y xs)
alike_each f OK each [] ok same = same
alike_each {x = x} {y = y} f OK each (s ∷ xs) ok same = alike_each f OK each xs ok.1 (each x y s ok.0 same)
