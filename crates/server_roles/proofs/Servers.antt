-- Whom a round asks, server by server.
use Rattle.std.proofs.Common.{◌≡◌, ◌∙◌, ℕ, ◌+◌, ◌-◌, ◌%◌, ◌<◌, ◌≢◌, ◌⊎◌, inl, inr, Bool, true, false, List, [], ◌∷◌, ◌++◌, length, get_or, Some, refl, sym, ap, subst, arith, eqb}
use Rattle.std.specs.Prelude.{if◌then◌else◌, ◌&&◌, ◌||◌, not, nat_lt, bytes_eq}
use Rattle.std.specs.List.{Contains, IsDistinct, slice_get}
use Rattle.std.proofs.Math.Nat.{mod-eq_of_lt}
use Rattle.std.proofs.lemmas.Bool.Decides.{nat_tests}
use Rattle.std.proofs.lemmas.List.Elements.{Contains-append_left, Contains-append_right, Contains-append_cases}
use Rattle.std.proofs.lemmas.Map.Steps.{length-le_from_distinct_below}
use Rattle.std.proofs.lemmas.Option.{slice_get_within, get_or_from_slice_get}
use Rattle.std.proofs.lemmas.Slice.Eq.{bytes_eq-Decides}
use Rattle.time_wire.proofs.Booleans.{both, fails}
use Rattle.roster.specs.declared.entry.Entry.{Entry}
use Rattle.roster.specs.declared.entry.ServerKind.{ServerKind}
use Rattle.roster.specs.declared.entry.ServerKind.TheVariants as kind
use Rattle.roster.specs.declared.settings.Role.{Role}
use Rattle.roster.specs.declared.settings.Role.TheVariants as role
use Rattle.roster.specs.RosterData.{RosterData}
use Rattle.roster.specs.Rosters.{is_kind, is_other, others}
use Rattle.server_roles.specs.Sources.{ntp_servers, needs_globals, is_server, is_courier, in_turn, asked_globals, or_else, sources}
use Rattle.server_roles.specs.Laws.{IsServer, IsOther, HasNoNtp, AreServers, AreDistinct, NtpAlone, AsksLocals, AsksGlobals, AllOrNone, InTurn}
use Rattle.server_roles.proofs.Positions.{in_front, none_in_nothing, empty, stands, position_of, positions_distinct, distinct_together, any_contained, turn_within, turn_distinct}

-- ---- kinds and names

same_kind : (k l : ServerKind) → is_kind k l ≡ true → l ≡ k
same_kind kind.Local kind.Local e = refl
same_kind kind.Global kind.Global e = refl
same_kind kind.Ntp kind.Ntp e = refl
same_kind kind.Local kind.Global e = absurd (cc)
same_kind kind.Local kind.Ntp e = absurd (cc)
same_kind kind.Global kind.Local e = absurd (cc)
same_kind kind.Global kind.Ntp e = absurd (cc)
same_kind kind.Ntp kind.Local e = absurd (cc)
same_kind kind.Ntp kind.Global e = absurd (cc)

kind_itself : (k : ServerKind) → is_kind k k ≡ true
kind_itself kind.Local = refl
kind_itself kind.Global = refl
kind_itself kind.Ntp = refl

negated : (b : Bool) → not b ≡ true → b ≡ false
negated true e = absurd (cc)
negated false e = refl

-- ---- the lists of which the sources are made

ntp_found : (r : RosterData) (peer : ℕ) → Contains (ntp_servers r) peer → IsServer r kind.Ntp peer
ntp_found r peer c =
    let s = stands (λ (e : Entry). is_kind kind.Ntp e.kind) r.entries 0 peer c in
    let place : peer ≡ peer - 0 = omega arith in
    record { entry = s.found; at = ap (λ i. slice_get r.entries i) place ∙ s.at; kind = same_kind kind.Ntp s.found.kind s.passes }

ntp_there : (r : RosterData) (peer : ℕ) → IsServer r kind.Ntp peer → Contains (ntp_servers r) peer
ntp_there r peer s =
    let place : 0 + peer ≡ peer = omega arith in
    subst (λ i. Contains (ntp_servers r) i) place
    (position_of (λ (e : Entry). is_kind kind.Ntp e.kind) r.entries 0 peer s.entry s.at (ap (λ k. is_kind kind.Ntp k) s.kind))

other_found : (r : RosterData) (k : ServerKind) (peer : ℕ) → Contains (others k r) peer → IsOther r k peer
other_found r k peer c =
    let s = stands (is_other k r.settings.name) r.entries 0 peer c in
    let place : peer ≡ peer - 0 = omega arith in
    let passes = both (is_kind k s.found.kind) (not (bytes_eq s.found.name r.settings.name)) s.passes in
    record {
      entry = s.found;
      at = ap (λ i. slice_get r.entries i) place ∙ s.at;
      kind = same_kind k s.found.kind passes.0;
      name = λ (e : s.found.name ≡ r.settings.name).
          let same : bytes_eq s.found.name r.settings.name ≡ true = (bytes_eq-Decides s.found.name r.settings.name).1 e in
          let unlike : bytes_eq s.found.name r.settings.name ≡ false = negated (bytes_eq s.found.name r.settings.name) passes.1 in
          cc;
    }

other_there : (r : RosterData) (k : ServerKind) (peer : ℕ) → IsOther r k peer → Contains (others k r) peer
other_there r k peer s =
    let place : 0 + peer ≡ peer = omega arith in
    let unlike : bytes_eq s.entry.name r.settings.name ≡ false = fails (bytes_eq s.entry.name r.settings.name) (λ e. s.name ((bytes_eq-Decides s.entry.name r.settings.name).0 e)) in
    let kinds : is_kind k s.entry.kind ≡ true = ap (λ l. is_kind k l) s.kind ∙ kind_itself k in
    let passes : is_other k r.settings.name s.entry ≡ true = rw (kinds, unlike) refl in
    subst (λ i. Contains (others k r) i) place (position_of (is_other k r.settings.name) r.entries 0 peer s.entry s.at passes)

-- a server has one kind
one_kind : (r : RosterData) (k l : ServerKind) (peer : ℕ) → IsOther r k peer → IsOther r l peer → k ≡ l
one_kind r k l peer s t =
    let same : Some s.entry ≡ Some t.entry = sym s.at ∙ t.at in
    let entries : s.entry ≡ t.entry = cc in
    sym s.kind ∙ ap (λ (e : Entry). e.kind) entries ∙ t.kind

ntp_kind : (r : RosterData) (k : ServerKind) (peer : ℕ) → IsServer r kind.Ntp peer → IsOther r k peer → k ≡ kind.Ntp
ntp_kind r k peer s t =
    let same : Some s.entry ≡ Some t.entry = sym s.at ∙ t.at in
    let entries : s.entry ≡ t.entry = cc in
    sym t.kind ∙ ap (λ (e : Entry). e.kind) (sym entries) ∙ s.kind

-- ---- the global servers that are asked

by_tests : (needs courier : Bool) (gs : List ℕ) (round g : ℕ) → Contains (if needs then gs else if courier then in_turn round gs else []) g → Contains gs g
by_tests true courier gs round g c = c
by_tests false true gs round g c = turn_within round gs g c
by_tests false false gs round g c = absurd (none_in_nothing g c)

asked_are_globals : (r : RosterData) (round last peer : ℕ) → Contains (asked_globals r round last) peer → Contains (others kind.Global r) peer
asked_are_globals r round last peer c =
    by_tests (needs_globals r.settings round last (length (others kind.Local r))) (is_courier r.settings) (others kind.Global r) round peer c

asked_distinct : (needs courier : Bool) (gs : List ℕ) (round : ℕ) → IsDistinct eqb gs → IsDistinct eqb (if needs then gs else if courier then in_turn round gs else [])
unfolding IsDistinct
asked_distinct true courier gs round d = d
asked_distinct false true gs round d = turn_distinct round gs
asked_distinct false false gs round d = tt

-- ---- the sources

either_list : (xs ys : List ℕ) (i : ℕ) → Contains (or_else xs ys) i → Contains xs i ⊎ Contains ys i
either_list [] ys i c = inr c
either_list (x ∷ xs) ys i c = inl c

first_list : (xs ys : List ℕ) (i : ℕ) → Contains xs i → or_else xs ys ≡ xs
first_list [] ys i c = absurd (none_in_nothing i c)
first_list (x ∷ xs) ys i c = refl

without_ntp : (r : RosterData) (round last : ℕ) → HasNoNtp r → sources r round last ≡ others kind.Local r ++ asked_globals r round last
without_ntp r round last h =
    let none : ntp_servers r ≡ [] = empty (ntp_servers r) (λ i c. h i (ntp_found r i c)) in
    ap (λ xs. or_else xs (others kind.Local r ++ asked_globals r round last)) none

pub are_servers : AreServers
are_servers r round last peer c =
    elim (either_list (ntp_servers r) (others kind.Local r ++ asked_globals r round last) peer c) [
      | inl ntp ↦ inl (ntp_found r peer ntp)
      | inr rest ↦ elim (Contains-append_cases (others kind.Local r) (asked_globals r round last) peer rest) [
        | inl near ↦ inr (kind.Local, other_found r kind.Local peer near)
        | inr far ↦ inr (kind.Global, other_found r kind.Global peer (asked_are_globals r round last peer far))
      ]
    ]

either_distinct : (xs ys : List ℕ) → IsDistinct eqb xs → IsDistinct eqb ys → IsDistinct eqb (or_else xs ys)
either_distinct [] ys d e = e
either_distinct (x ∷ xs) ys d e = d

distinct : (r : RosterData) (round last : ℕ) → IsDistinct eqb (sources r round last)
distinct r round last =
    either_distinct (ntp_servers r) (others kind.Local r ++ asked_globals r round last)
    (positions_distinct (λ (e : Entry). is_kind kind.Ntp e.kind) r.entries 0)
    (distinct_together (others kind.Local r) (asked_globals r round last)
    (positions_distinct (is_other kind.Local r.settings.name) r.entries 0)
    (asked_distinct (needs_globals r.settings round last (length (others kind.Local r))) (is_courier r.settings) (others kind.Global r) round
    (positions_distinct (is_other kind.Global r.settings.name) r.entries 0))
    (λ peer near far.
    let same : kind.Local ≡ kind.Global = one_kind r kind.Local kind.Global peer (other_found r kind.Local peer near) (other_found r kind.Global peer (asked_are_globals r round last peer far)) in
    cc))

below_length : (r : RosterData) (round last peer : ℕ) → Contains (sources r round last) peer → peer < length r.entries
below_length r round last peer c =
    elim (are_servers r round last peer c) [
      | inl s ↦ slice_get_within r.entries peer s.entry s.at
      | inr s ↦ slice_get_within r.entries peer s.1.entry s.1.at
    ]

pub are_distinct : AreDistinct
are_distinct r round last = (
  distinct r round last,
  length-le_from_distinct_below (sources r round last) (length r.entries) (distinct r round last) (λ peer e. below_length r round last peer (any_contained (sources r round last) peer e)),
)

pub ntp_alone : NtpAlone
ntp_alone r round last some peer s =
    let same : sources r round last ≡ ntp_servers r = first_list (ntp_servers r) (others kind.Local r ++ asked_globals r round last) some (ntp_there r some s) in (
      (λ c. ntp_found r peer (subst (λ xs. Contains xs peer) same c)),
      (λ t. subst (λ xs. Contains xs peer) (sym same) (ntp_there r peer t)),
    )

pub asks_locals : AsksLocals
asks_locals r round last peer none s =
    subst (λ xs. Contains xs peer) (sym (without_ntp r round last none))
    (Contains-append_left (others kind.Local r) (asked_globals r round last) peer (other_there r kind.Local peer s))

-- a round needs the global servers
needed : (required round last locals : ℕ) → (locals < required) ⊎ ((1 < round) × (last < required))
    → (nat_lt locals required || (nat_lt 1 round && nat_lt last required)) ≡ true
needed required round last locals (inl few) = grind (arith, nat_tests, few)
needed required round last locals (inr used) = grind (arith, nat_tests, used.0, used.1)

asked_where_needed : (r : RosterData) (round last peer : ℕ) → needs_globals r.settings round last (length (others kind.Local r)) ≡ true → Contains (others kind.Global r) peer → Contains (asked_globals r round last) peer
asked_where_needed r round last peer e c = rw e c

pub asks_globals : AsksGlobals
asks_globals r round last peer none s need =
    subst (λ xs. Contains xs peer) (sym (without_ntp r round last none))
    (Contains-append_right (others kind.Local r) (asked_globals r round last) peer
    (asked_where_needed r round last peer (needed r.settings.required round last (length (others kind.Local r)) need) (other_there r kind.Global peer s)))

-- a clerk is no courier, nor is a server that is none
no_courier : (r : Role) (courier : Bool) → (r ≡ role.Clerk) ⊎ (courier ≢ true) → (is_server r && courier) ≡ false
no_courier role.Clerk courier h = refl
no_courier role.Server true (inl e) = absurd (cc)
no_courier role.Server true (inr h) = absurd (h refl)
no_courier role.Server false h = refl

all_or_none : (needs courier : Bool) (gs : List ℕ) (round one other : ℕ) → courier ≡ false
    → Contains (if needs then gs else if courier then in_turn round gs else []) one → Contains gs other
    → Contains (if needs then gs else if courier then in_turn round gs else []) other
all_or_none true courier gs round one other e c d = d
all_or_none false true gs round one other e c d = absurd (cc)
all_or_none false false gs round one other e c d = absurd (none_in_nothing one c)

-- what both lists have is in the one that counts, where the first has not the one
in_the_second : (xs ys : List ℕ) (one other : ℕ) → (Contains xs one → ⊥) → (Contains ys one → Contains ys other) → Contains (or_else xs ys) one → Contains (or_else xs ys) other
in_the_second [] ys one other h k c = k c
in_the_second (x ∷ xs) ys one other h k c = absurd (h c)

pub all_or_none_asked : AllOrNone
all_or_none_asked r round last one other which s t c =
    let needs = needs_globals r.settings round last (length (others kind.Local r)) in
    in_the_second (ntp_servers r) (others kind.Local r ++ asked_globals r round last) one other
    (λ ntp. let same : kind.Global ≡ kind.Ntp = ntp_kind r kind.Global one (ntp_found r one ntp) s in cc)
    (λ rest. elim (Contains-append_cases (others kind.Local r) (asked_globals r round last) one rest) [
      | inl near ↦ (let same : kind.Local ≡ kind.Global = one_kind r kind.Local kind.Global one (other_found r kind.Local one near) s in absurd (cc))
      | inr far ↦ Contains-append_right (others kind.Local r) (asked_globals r round last) other
          (all_or_none needs (is_courier r.settings) (others kind.Global r) round one other (no_courier r.settings.role r.settings.courier which) far (other_there r kind.Global other t))
    ])
    c

-- the one at a place is taken in the round after so many
turn_at : (place : ℕ) (gs : List ℕ) (g : ℕ) → slice_get gs place ≡ Some g → Contains (in_turn (place + 1) gs) g
turn_at place [] g e = absurd (cc)
turn_at place (x ∷ xs) g e =
    let within : place < length (x ∷ xs) = slice_get_within (x ∷ xs) place g e in
    let same : (place + 1) - 1 ≡ place = omega arith in
    let short : (place + 1) - 1 < length (x ∷ xs) = omega (arith, within) in
    let here : ((place + 1) - 1) % length (x ∷ xs) ≡ place = mod-eq_of_lt short ∙ same in
    let found : get_or (x ∷ xs) (((place + 1) - 1) % length (x ∷ xs)) 0 ≡ g = ap (λ k. get_or (x ∷ xs) k 0) here ∙ get_or_from_slice_get (x ∷ xs) place g 0 e in
    subst (λ z. Contains (get_or (x ∷ xs) (((place + 1) - 1) % length (x ∷ xs)) 0 ∷ []) z) found (in_front (get_or (x ∷ xs) (((place + 1) - 1) % length (x ∷ xs)) 0) [])

contained_at : (place : ℕ) (gs : List ℕ) (g : ℕ) → slice_get gs place ≡ Some g → Contains gs g
contained_at place gs g e = (place, slice_get_within gs place g e, get_or_from_slice_get gs place g g e)

turn_asked : (needs courier : Bool) (gs : List ℕ) (place g : ℕ) → courier ≡ true → slice_get gs place ≡ Some g
    → Contains (if needs then gs else if courier then in_turn (place + 1) gs else []) g
turn_asked true courier gs place g e f = contained_at place gs g f
turn_asked false true gs place g e f = turn_at place gs g f
turn_asked false false gs place g e f = absurd (cc)

is_a_courier : (r : Role) (c : Bool) → r ≡ role.Server → c ≡ true → (is_server r && c) ≡ true
is_a_courier role.Server true e f = refl
is_a_courier role.Server false e f = absurd (cc)
is_a_courier role.Clerk c e f = absurd (cc)

pub in_turn_asked : InTurn
in_turn_asked r last place peer none server flag e =
    let needs = needs_globals r.settings (place + 1) last (length (others kind.Local r)) in
    subst (λ xs. Contains xs peer) (sym (without_ntp r (place + 1) last none))
    (Contains-append_right (others kind.Local r) (asked_globals r (place + 1) last) peer
    (turn_asked needs (is_courier r.settings) (others kind.Global r) place peer (is_a_courier r.settings.role r.settings.courier server flag) e))
