-- A roster that was read, and that of a node alone, give the node a right name.
use Rattle.std.proofs.Common.{◌≡◌, ◌∙◌, ℕ, Bool, true, false, List, [], ◌∷◌, length, Option, Some, None, refl, sym, ap, subst}
use Rattle.std.specs.Prelude.{codes, nat_lt, option_and_then, if◌then◌else◌}
use Rattle.std.specs.Option.{option_map_or}
use Rattle.toml.specs.Data.{Data, Members, get_member, as_str, as_table}
use Rattle.roster.specs.declared.cause.RosterCause.TheVariants as cause
use Rattle.roster.specs.Keys.{Asked, asked_of, node_keys}
use Rattle.roster.specs.declared.limits.TheConstants.{MAX_OCTETS}
use Rattle.roster.specs.declared.settings.Settings.{Settings}
use Rattle.roster.specs.RosterData.{RosterData}
use Rattle.roster.specs.Rosters.{IsRoster, GivesSettings, alone, given, default_of, string_at}
use Rattle.roster.specs.Seen.{AreRight}
use Rattle.roster.specs.Values.{is_name, judged, fault_of}
use Rattle.roster.specs.Wrong.{Wrong, document_wrong, document_of, found_fault}
use Rattle.roster.proofs.Accepted.{node_right}

right_where_none : (b : Bool) → (if b then None else Some cause.Range) ≡ None → b ≡ true
right_where_none true e = refl
right_where_none false e = absurd (cc)

judged_right : (o : Option (List ℕ)) (name : List ℕ) → judged o is_name ≡ None → o ≡ Some name → is_name name ≡ true
judged_right None name e f = absurd (cc)
judged_right (Some x) name e f =
    let same : x ≡ name = cc in
    subst (λ t. is_name t ≡ true) same (right_where_none (is_name x) e)

-- what a key that is right as a name gives
found_right : (key : Asked) (o : Option Data) (name : List ℕ) → ((d : Data) → fault_of key.right d ≡ judged (as_str d) is_name) → found_fault key o ≡ None
    → option_and_then as_str (given o (default_of (codes "name"))) ≡ Some name → is_name name ≡ true
found_right key None name j e f = absurd (cc)
found_right key (Some d) name j e f = judged_right (as_str d) name (sym (j d) ∙ e) f

-- the first key is the name
abbrev FirstIsName : List Asked → Type 0
FirstIsName [] = ⊥
FirstIsName (key ∷ keys) = (key.name ≡ codes "name") × ((d : Data) → fault_of key.right d ≡ judged (as_str d) is_name)

first_is_name : FirstIsName (asked_of node_keys)
first_is_name = (refl, λ d. refl)

name_right : (keys : List Asked) (table : Members) (name : List ℕ) → FirstIsName keys → AreRight keys table → string_at table (codes "name") ≡ Some name → is_name name ≡ true
name_right [] table name first right e = absurd first
name_right (key ∷ keys) table name first right e =
    let fault : found_fault key (get_member (codes "name") table) ≡ None = subst (λ n. found_fault key (get_member n table) ≡ None) first.0 right.0 in
    found_right key (get_member (codes "name") table) name first.1 fault e

no_wrong : (long : Bool) (o : Option Members) (doc : Members) (w v : Wrong) → o ≡ Some doc
    → (if long then Some w else option_map_or document_wrong o (Some v)) ≡ None → document_wrong doc ≡ None
no_wrong true o doc w v e f = absurd (cc)
no_wrong false None doc w v e f = absurd (cc)
no_wrong false (Some found) doc w v e f =
    let same : found ≡ doc = cc in
    subst (λ d. document_wrong d ≡ None) same f

pub read_is_named : (octets : List ℕ) (r : RosterData) → IsRoster octets r → is_name r.settings.name ≡ true
read_is_named octets r s =
    let accepted : document_wrong s.doc ≡ None = no_wrong (nat_lt MAX_OCTETS (length octets)) (document_of octets) s.doc _ _ s.is_document s.right in
    let n = node_right s.doc accepted in
    let table : Some n.table ≡ Some s.gives.node = sym (ap (λ o. option_and_then as_table o) n.found ∙ n.is_table) ∙ s.gives.has_node in
    let same : n.table ≡ s.gives.node = cc in
    name_right (asked_of node_keys) s.gives.node r.settings.name first_is_name (subst (λ t. AreRight (asked_of node_keys) t) same n.right) s.gives.settings.name

pub alone_is_named : (s : Settings) → GivesSettings alone s → is_name s.name ≡ true
alone_is_named s g =
    let same : codes "node" ≡ s.name = cc in
    subst (λ t. is_name t ≡ true) same refl
