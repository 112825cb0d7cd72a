-- A state that stands for a past, behind a further call.
use Rattle.std.proofs.Common.{◌≡◌, ◌≢◌, ℕ, Bool, true, false, ◌&&◌, ◌==◌, List, [], ◌∷◌, ◌++◌, get_or, set, map, Option, Some, None, Result, Ok, Err, refl, sym, ap, subst, ◌∙◌, eqb-true, eq-eqb, get_or-set_other}
use Rattle.std.proofs.lemmas.List.{map-append, append-nil}
use Rattle.std.proofs.lemmas.List.Quantifiers.{position-Some}
use Rattle.std.specs.Prelude.{option_and_then}
use Rattle.time_provider.specs.declared.fault.ProviderFault.{ProviderFault}
use Rattle.time_provider.specs.declared.fault.ProviderFault.TheVariants as fault
use Rattle.time_provider.specs.declared.lists.Triple.{Triple}
use Rattle.time_provider.specs.Rooms.{Room, listed}
use Rattle.time_provider.specs.Past.{Past, Told, Deed, Took, Went, and_then, closes, query_of, time_of, times_of}
use Rattle.time_provider.specs.State.{State, StandsFor, answer_told, open_at, place_in, told_of, waiting_of}
use Rattle.time_provider.specs.Settling.{Becomes, IsSettled}
use Rattle.time_provider.proofs.Counting.{closed_there}

-- a place is that of one peer
same_peer : (peers : List ℕ) (a b k : ℕ) → place_in peers a ≡ Some k → place_in peers b ≡ Some k → a ≡ b
same_peer peers a b k e f =
    let first = (position-Some (λ p. p == a) peers k 0 e).1 in
    let second = (position-Some (λ p. p == b) peers k 0 f).1 in
    sym (eqb-true (get_or peers k 0) a first) ∙ eqb-true (get_or peers k 0) b second

-- the open query of a peer whose place is known
at_place : (s : State) (peer : ℕ) (found : Option ℕ) → place_in (listed s.peers) peer ≡ found
    → waiting_of s peer ≡ option_and_then (open_at s peer) found
at_place s peer found e = rw e refl

-- two states agree at a place where both are open or both are not
same_there : (s new : State) (peer k : ℕ) → new.poll ≡ s.poll → get_or new.pending k false ≡ get_or s.pending k false
    → open_at new peer k ≡ open_at s peer k
same_there s new peer k poll e = rw (poll, e) refl

-- behind a closing, the query of that peer is not open, and every other is as it was
closed_of : (s new : State) (peer place : ℕ) → place_in (listed s.peers) peer ≡ Some place → new.peers ≡ s.peers
    → new.pending ≡ set s.pending place false → waiting_of new peer ≡ None
closed_of s new peer place at peers pending =
    let there : place_in (listed new.peers) peer ≡ Some place = ap (λ (r : Room ℕ). place_in (listed r) peer) peers ∙ at in
    let shut : get_or new.pending place false ≡ false =
    ap (λ (l : List Bool). get_or l place false) pending ∙ closed_there s.pending place in
    at_place new peer (Some place) there ∙ rw shut refl

kept_of : (s new : State) (peer place other : ℕ) → place_in (listed s.peers) peer ≡ Some place → new.peers ≡ s.peers → new.poll ≡ s.poll
    → new.pending ≡ set s.pending place false → peer ≢ other → waiting_of new other ≡ waiting_of s other
kept_of s new peer place other at peers poll pending ne = go (place_in (listed s.peers) other) refl
  where
    go : (found : Option ℕ) → place_in (listed s.peers) other ≡ found → waiting_of new other ≡ waiting_of s other
    go None e = at_place new other None (ap (λ (r : Room ℕ). place_in (listed r) other) peers ∙ e) ∙ sym (at_place s other None e)
    go (Some k) e =
        let apart : k ≢ place = λ same. ne (same_peer (listed s.peers) peer other place at (e ∙ ap (λ (n : ℕ). Some n) same)) in
        let left : get_or new.pending k false ≡ get_or s.pending k false =
        ap (λ (l : List Bool). get_or l k false) pending ∙ get_or-set_other s.pending place k false false apart in
        at_place new other (Some k) (ap (λ (r : Room ℕ). place_in (listed r) other) peers ∙ e)
        ∙ same_there s new other k poll left ∙ sym (at_place s other (Some k) e)

-- a call that closes the query of a peer, and one that does not
query_closed : (past : Past) (deed : Deed) (peer : ℕ) → closes peer deed ≡ true → query_of (and_then past deed) peer ≡ None
query_closed past deed peer e = rw e refl

query_kept : (past : Past) (deed : Deed) (peer : ℕ) → closes peer deed ≡ false → query_of (and_then past deed) peer ≡ query_of past peer
query_kept past deed peer e = rw e refl

-- the state behind a call that closed the query of one peer
closed_stands : (past : Past) (s new : State) (peer place : ℕ) (deed : Deed) → StandsFor past s
    → place_in (listed s.peers) peer ≡ Some place
    → new.peers ≡ s.peers → new.poll ≡ s.poll → new.pending ≡ set s.pending place false
    → ((other : ℕ) → closes other deed ≡ (peer == other)) → map told_of (listed new.message) ≡ times_of past.deeds ++ time_of deed
    → StandsFor (and_then past deed) new
closed_stands past s new peer place deed stands at peers poll pending closing times = record {
  peers = ap (λ (r : Room ℕ). listed r) peers ∙ stands.peers;
  waiting = λ other. go other (peer == other) refl;
  message = times;
}
  where
    go : (other : ℕ) (same : Bool) → (peer == other) ≡ same → waiting_of new other ≡ query_of (and_then past deed) other
    go other true e =
        let is : peer ≡ other = eqb-true peer other e in
        subst (λ (p : ℕ). waiting_of new p ≡ None) is (closed_of s new peer place at peers pending)
        ∙ sym (query_closed past deed other (closing other ∙ e))
    go other false e =
        let ne : peer ≢ other = λ is. let yes = eq-eqb peer other is in absurd (cc) in
        kept_of s new peer place other at peers poll pending ne ∙ stands.waiting other ∙ sym (query_kept past deed other (closing other ∙ e))

-- a call that closes nothing and gives no time
quiet_stands : (past : Past) (s : State) (deed : Deed) → StandsFor past s → ((other : ℕ) → closes other deed ≡ false) → time_of deed ≡ []
    → StandsFor (and_then past deed) s
quiet_stands past s deed stands quiet none = record {
  peers = stands.peers;
  waiting = λ other. stands.waiting other ∙ sym (query_kept past deed other (quiet other));
  message = stands.message ∙ sym (append-nil (times_of past.deeds)) ∙ ap (λ (l : List Told). times_of past.deeds ++ l) (sym none);
}

and_no : (b : Bool) → (b && false) ≡ false
and_no true = refl
and_no false = refl

and_yes : (b : Bool) → (b && true) ≡ b
and_yes true = refl
and_yes false = refl

-- nothing more came
as_before : (past : Past) (s new : State) → StandsFor past s → listed new.message ≡ listed s.message
    → map told_of (listed new.message) ≡ times_of past.deeds ++ []
as_before past s new stands same = ap (map told_of) same ∙ stands.message ∙ sym (append-nil (times_of past.deeds))

pub settled_stands : (past : Past) (s new : State) (peer place : ℕ) (r : Result Triple ProviderFault) → StandsFor past s
    → place_in (listed s.peers) peer ≡ Some place
    → IsSettled s place r new → StandsFor (and_then past (Took peer (answer_told r))) new
settled_stands past s new peer place (Ok t) stands at b =
    let more : map told_of (listed new.message) ≡ times_of past.deeds ++ told_of t ∷ [] =
    ap (map told_of) b.3 ∙ map-append told_of (listed s.message) (t ∷ []) ∙ ap (λ (l : List Told). l ++ told_of t ∷ []) stands.message in
    closed_stands past s new peer place (Took peer (Ok (told_of t))) stands at b.0 b.1 b.2 (λ other. and_yes (peer == other)) more
settled_stands past s new peer place (Err (fault.Range lo hi)) stands at b =
    closed_stands past s new peer place (Took peer (Err (fault.Range lo hi))) stands at b.0 b.1 b.2 (λ other. and_yes (peer == other))
    (as_before past s new stands b.3)
settled_stands past s new peer place (Err fault.NoQuery) stands at b =
    subst (StandsFor (and_then past (Took peer (Err fault.NoQuery)))) (sym b)
    (quiet_stands past s (Took peer (Err fault.NoQuery)) stands (λ other. and_no (peer == other)) refl)
settled_stands past s new peer place (Err (fault.Wrong x)) stands at b =
    subst (StandsFor (and_then past (Took peer (Err (fault.Wrong x))))) (sym b)
    (quiet_stands past s (Took peer (Err (fault.Wrong x))) stands (λ other. and_no (peer == other)) refl)
settled_stands past s new peer place (Err (fault.Judged x)) stands at b =
    subst (StandsFor (and_then past (Took peer (Err (fault.Judged x))))) (sym b)
    (quiet_stands past s (Took peer (Err (fault.Judged x))) stands (λ other. and_no (peer == other)) refl)

pub gone_stands : (past : Past) (s new : State) (peer place : ℕ) → StandsFor past s → place_in (listed s.peers) peer ≡ Some place
    → Becomes s new (set s.pending place false) (listed s.message) → StandsFor (and_then past (Went peer)) new
gone_stands past s new peer place stands at b =
    closed_stands past s new peer place (Went peer) stands at b.0 b.1 b.2 (λ other. refl) (as_before past s new stands b.3)
