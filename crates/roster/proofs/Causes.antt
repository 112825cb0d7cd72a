-- A file is never refused for the role.
use Rattle.std.proofs.Common.{◌≡◌, ℕ, Bool, true, false, List, [], ◌∷◌, ◌++◌, map, length, Option, Some, None, refl, sym, ap, ◌∙◌}
use Rattle.std.specs.Prelude.{nat_lt, not, codes, bytes_eq, is_some, option_map, option_and_then, find, if◌then◌else◌, int_le, pos, ◌&&◌}
use Rattle.std.specs.List.{AllByRecursion, slice_get}
use Rattle.std.specs.Option.{option_map_or}
use Rattle.toml.specs.Data.{Data, Members, as_str, as_bool, as_integer, as_table, get_member}
use Rattle.roster.specs.declared.limits.TheConstants.{MAX_OCTETS, MAX_SERVERS, MAX_NTP}
use Rattle.roster.specs.declared.cause.RosterCause.{RosterCause}
use Rattle.roster.specs.declared.cause.RosterCause.TheVariants as cause
use Rattle.roster.specs.declared.cause.RosterFault.TheVariants as fault
use Rattle.roster.specs.declared.first_wrong.Section.{Section}
use Rattle.roster.specs.declared.first_wrong.Section.TheVariants as section
use Rattle.roster.specs.declared.keys.Right.{Right}
use Rattle.roster.specs.declared.keys.Right.TheVariants as right
use Rattle.roster.specs.Values.{is_name, role_of, kind_of, address_up_to, judged, fault_of}
use Rattle.roster.specs.Keys.{Asked, asked_of, node_keys, server_keys}
use Rattle.roster.specs.Wrong.{Wrong, wrong, first, found_fault, key_wrong, keys_wrong, unknown_key, is_known, names, is_tables, top_fault, place_wrong, places_with_node, top_wrong, node_wrong, servers_in, has_text, is_duplicate, server_wrong, each_wrong, positions_from, ntp_wrong, too_many, servers_wrong, document_wrong, document_of, first_wrong}
use Rattle.roster.specs.Rosters.{Refuses}

-- whether a cause is another than the role
abbrev is_of_file : RosterCause → Bool
is_of_file cause.Role = false
is_of_file _ = true

abbrev HasCause : Option RosterCause → Type 0
HasCause o = option_map_or is_of_file o true ≡ true

abbrev IsOfFile : Option Wrong → Type 0
IsOfFile o = option_map_or (λ w. is_of_file w.cause) o true ≡ true

first_of : (ws : List (Option Wrong)) → AllByRecursion IsOfFile ws → IsOfFile (first ws)
first_of [] all = refl
first_of (Some w ∷ ws) all = all.0
first_of (None ∷ ws) all = first_of ws all.1

with_cause : (within : Section) (key : List ℕ) (o : Option RosterCause) → HasCause o → IsOfFile (option_map (wrong within key) o)
with_cause within key None e = refl
with_cause within key (Some c) e = e

-- ---- the keys of a table

or_range : (b : Bool) → HasCause (if b then None else Some cause.Range)
or_range true = refl
or_range false = refl

judged_cause : {A : Type 0} (o : Option A) (p : A → Bool) → HasCause (judged o p)
judged_cause None p = refl
judged_cause (Some x) p = or_range (p x)

fault_cause : (r : Right) (d : Data) → HasCause (fault_of r d)
fault_cause right.Name d = judged_cause (as_str d) is_name
fault_cause right.Role d = judged_cause (as_str d) (λ text. is_some (role_of text))
fault_cause right.ServerKind d = judged_cause (as_str d) (λ text. is_some (kind_of text))
fault_cause (right.Address greatest) d = judged_cause (as_str d) (λ text. is_some (address_up_to greatest text))
fault_cause right.Flag d = judged_cause (as_bool d) (λ _. true)
fault_cause (right.Number least greatest) d = judged_cause (as_integer d) (λ z. int_le (pos least) z && int_le z (pos greatest))

or_missing : (b : Bool) → HasCause (if b then Some cause.Missing else None)
or_missing true = refl
or_missing false = refl

found_cause : (asked : Asked) (o : Option Data) → HasCause (found_fault asked o)
found_cause asked None = or_missing asked.required
found_cause asked (Some d) = fault_cause asked.right d

unknown_cause : (within : Section) (o : Option (List ℕ)) → IsOfFile (option_map (λ key. wrong within key cause.Unknown) o)
unknown_cause within None = refl
unknown_cause within (Some key) = refl

known_causes : (within : Section) (table : Members) (ks : List Asked) (rest : List (Option Wrong)) → AllByRecursion IsOfFile rest → AllByRecursion IsOfFile (map (key_wrong within table) ks ++ rest)
known_causes within table [] rest all = all
known_causes within table (k ∷ ks) rest all =
    (with_cause within k.name (found_fault k (get_member k.name table)) (found_cause k (get_member k.name table)), known_causes within table ks rest all)

keys_cause : (within : Section) (known : List Asked) (table : Members) → IsOfFile (first (keys_wrong within known table))
keys_cause within known table =
    first_of (keys_wrong within known table)
    (known_causes within table known (unknown_key within known table ∷ []) (unknown_cause within (find (λ key. not (is_known known key)) (names table)), tt))

-- ---- the top, the node and the servers

top_cause_at : (is_node is_server table tables : Bool)
    → HasCause (if is_node then (if table then None else Some cause.Kind) else if is_server then (if tables then None else Some cause.Kind) else Some cause.Unknown)
top_cause_at true s true u = refl
top_cause_at true s false u = refl
top_cause_at false true t true = refl
top_cause_at false true t false = refl
top_cause_at false false t u = refl

top_cause : (key : List ℕ) (o : Option Data) → HasCause (top_fault key o)
top_cause key None = refl
top_cause key (Some d) = top_cause_at (bytes_eq key (codes "node")) (bytes_eq key (codes "server")) (is_some (as_table d)) (is_tables d)

place_causes : (ps : List (List ℕ × Option Data)) → AllByRecursion IsOfFile (map place_wrong ps)
place_causes [] = tt
place_causes (p ∷ ps) = (with_cause section.Top p.0 (top_fault p.0 p.1) (top_cause p.0 p.1), place_causes ps)

node_cause : (o : Option Members) → IsOfFile (option_and_then (λ table. first (keys_wrong section.Node (asked_of node_keys) table)) o)
node_cause None = refl
node_cause (Some table) = keys_cause section.Node (asked_of node_keys) table

or_wrong : (b : Bool) (w : Wrong) → is_of_file w.cause ≡ true → IsOfFile (if b then Some w else None)
or_wrong true w e = e
or_wrong false w e = refl

server_cause_at : (within : Section) (dup : Bool) (o : Option Members) → IsOfFile (option_and_then (λ table. first (
    first (keys_wrong within (asked_of server_keys) table) ∷ (if dup then Some (wrong within (codes "name") cause.Duplicate) else None) ∷ [])) o)
server_cause_at within dup None = refl
server_cause_at within dup (Some table) =
    first_of (first (keys_wrong within (asked_of server_keys) table) ∷ (if dup then Some (wrong within (codes "name") cause.Duplicate) else None) ∷ [])
    (keys_cause within (asked_of server_keys) table, (or_wrong dup (wrong within (codes "name") cause.Duplicate) refl, tt))

each_cause : (earlier ds : List Data) → IsOfFile (each_wrong earlier ds)
each_cause earlier [] = refl
each_cause earlier (d ∷ ds) =
    first_of (server_wrong earlier d ∷ each_wrong (earlier ++ d ∷ []) ds ∷ [])
    (server_cause_at (section.Server (length earlier)) (is_duplicate earlier d) (as_table d), (each_cause (earlier ++ d ∷ []) ds, tt))

ntp_cause : (o : Option ℕ) → IsOfFile (option_map (λ i. wrong (section.Server i) (codes "kind") cause.TooMany) o)
ntp_cause None = refl
ntp_cause (Some i) = refl

servers_cause : (servers : List Data) → IsOfFile (servers_wrong servers)
servers_cause servers =
    first_of (too_many servers ∷ each_wrong [] servers ∷ ntp_wrong servers ∷ []) (
      or_wrong (nat_lt MAX_SERVERS (length servers)) (wrong section.Top (codes "server") cause.TooMany) refl,
      (each_cause [] servers, (ntp_cause (slice_get (positions_from 0 (has_text (codes "kind") (codes "ntp")) servers) MAX_NTP), tt)),
    )

-- ---- the whole

document_cause : (doc : Members) → IsOfFile (document_wrong doc)
document_cause doc =
    first_of (top_wrong doc ∷ node_wrong doc ∷ servers_wrong (servers_in doc) ∷ []) (
      first_of (map place_wrong (places_with_node doc)) (place_causes (places_with_node doc)),
      (node_cause (option_and_then as_table (get_member (codes "node") doc)), (servers_cause (servers_in doc), tt)),
    )

file_cause_at : (long : Bool) (o : Option Members)
    → IsOfFile (if long then Some (wrong section.File [] cause.Long) else option_map_or document_wrong o (Some (wrong section.File [] cause.Document)))
file_cause_at true o = refl
file_cause_at false None = refl
file_cause_at false (Some doc) = document_cause doc

file_cause : (octets : List ℕ) → IsOfFile (first_wrong octets)
file_cause octets = file_cause_at (nat_lt MAX_OCTETS (length octets)) (document_of octets)

role_is_not : (w : Wrong) (o : Option Wrong) → o ≡ Some w → cause.Role ≡ w.cause → IsOfFile o → ⊥
role_is_not w o e is of = let clash : false ≡ true = ap is_of_file is ∙ sym (ap (λ (v : Option Wrong). option_map_or (λ x. is_of_file x.cause) v true) e) ∙ of in cc

pub never_role : (octets path : List ℕ) → Refuses octets (fault.Wrong path cause.Role) → ⊥
never_role octets path refused = role_is_not refused.0 (first_wrong octets) refused.1 refused.3 (file_cause octets)
