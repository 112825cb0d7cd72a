-- The first key of a roster that is wrong. Our own choice; what a document is, is `toml`'s.
use Rattle.std.specs.Prelude.{ℕ, ◌+◌, Bool, false, not, nat_lt, List, [], ◌∷◌, ◌++◌, map, length, Option, Some, None, codes, bytes_eq, decimal, is_some, option_map, option_and_then, find, if◌then◌else◌}
use Rattle.std.specs.List.{list_any, list_all, slice_get}
use Rattle.std.specs.Option.{option_map_or}
use Rattle.std.specs.Ordering.{nat_cmp, match_ordering}
use Rattle.std.specs.Cmp.Lexicographic.{slice_cmp}
use Rattle.std.specs.Str.{is_utf8}
use Rattle.toml.specs.Data.{Data, Items, no_items, item, Members, no_members, member, get, get_member, as_str, as_array, as_table}
use Rattle.toml.specs.Parse.{parse_document}
use Rattle.roster.specs.declared.limits.TheConstants.{MAX_OCTETS, MAX_SERVERS, MAX_NTP}
use Rattle.roster.specs.declared.cause.RosterCause.{RosterCause}
use Rattle.roster.specs.declared.cause.RosterCause.TheVariants as cause
use Rattle.roster.specs.declared.first_wrong.Section.{Section}
use Rattle.roster.specs.declared.first_wrong.Section.TheVariants as section
use Rattle.roster.specs.Values.{fault_of}
use Rattle.roster.specs.Keys.{Asked, asked_of, node_keys, server_keys}

-- a wrong key: the table that it is or is missing in, its name, and what is wrong
pub record Wrong : Type 0 where
  pub within : Section
  pub key : List ℕ
  pub cause : RosterCause

abbrev pub wrong : Section → List ℕ → RosterCause → Wrong
wrong within key cause = record { within = within; key = key; cause = cause }

-- its path: empty for the whole file
abbrev pub path_in : Section → List ℕ → List ℕ
path_in section.File key = []
path_in section.Top key = key
path_in section.Node key = codes "node." ++ key
path_in (section.Server i) key = codes "server." ++ decimal i ++ 46 ∷ key

abbrev pub path_of : Wrong → List ℕ
path_of w = path_in w.within w.key

-- the first that there is
abbrev pub first : List (Option Wrong) → Option Wrong
first [] = None
first (Some w ∷ rest) = Some w
first (None ∷ rest) = first rest

-- ---- the keys of one table

-- what is wrong with what a key holds
abbrev pub found_fault : Asked → Option Data → Option RosterCause
found_fault asked None = if asked.required then Some cause.Missing else None
found_fault asked (Some d) = fault_of asked.right d

abbrev pub key_wrong : Section → Members → Asked → Option Wrong
key_wrong within table asked = option_map (wrong within asked.name) (found_fault asked (get_member asked.name table))

-- the keys of a table, which ascend
abbrev pub names : Members → List (List ℕ)
names no_members = []
names (member k d ms) = k ∷ names ms

abbrev pub is_known : List Asked → List ℕ → Bool
is_known known name = list_any (λ asked. bytes_eq asked.name name) known

-- the first key that is none of these
abbrev pub unknown_key : Section → List Asked → Members → Option Wrong
unknown_key within known table = option_map (λ key. wrong within key cause.Unknown) (find (λ key. not (is_known known key)) (names table))

-- the keys in the order of their table, then any other
abbrev pub keys_wrong : Section → List Asked → Members → List (Option Wrong)
keys_wrong within known table = map (key_wrong within table) known ++ unknown_key within known table ∷ []

-- ---- the top

-- every item is a table
abbrev pub items_of : Items → List Data
items_of no_items = []
items_of (item d ds) = d ∷ items_of ds

abbrev pub is_tables : Data → Bool
is_tables d = option_map_or (λ ds. list_all (λ e. is_some (as_table e)) (items_of ds)) (as_array d) false

-- what is wrong with a key of the top
abbrev pub top_fault : List ℕ → Option Data → Option RosterCause
top_fault key None = Some cause.Missing
top_fault key (Some d) = if bytes_eq key (codes "node") then (if is_some (as_table d) then None else Some cause.Kind)
    else if bytes_eq key (codes "server") then (if is_tables d then None else Some cause.Kind) else Some cause.Unknown

-- the keys with what they hold, and with `node` at its place also where it is missing
abbrev pub places : Members → List (List ℕ × Option Data)
places no_members = []
places (member k d ms) = (k, Some d) ∷ places ms

abbrev pub places_with_node : Members → List (List ℕ × Option Data)
places_with_node no_members = (codes "node", None) ∷ []
places_with_node (member k d ms) = match_ordering (slice_cmp nat_cmp k (codes "node"))
    ((k, Some d) ∷ places_with_node ms) (places (member k d ms)) ((codes "node", None) ∷ places (member k d ms))

abbrev pub place_wrong : List ℕ × Option Data → Option Wrong
place_wrong place = option_map (wrong section.Top place.0) (top_fault place.0 place.1)

abbrev pub top_wrong : Members → Option Wrong
top_wrong doc = first (map place_wrong (places_with_node doc))

-- ---- the node

abbrev pub node_wrong : Members → Option Wrong
node_wrong doc = option_and_then (λ table. first (keys_wrong section.Node (asked_of node_keys) table)) (option_and_then as_table (get_member (codes "node") doc))

-- ---- the servers

abbrev pub servers_in : Members → List Data
servers_in doc = option_map_or items_of (option_and_then as_array (get_member (codes "server") doc)) []

-- the string at a key of a server
abbrev pub text_at : List ℕ → Data → Option (List ℕ)
text_at key d = option_and_then as_str (get key d)

abbrev pub has_text : List ℕ → List ℕ → Data → Bool
has_text key text d = option_map_or (bytes_eq text) (text_at key d) false

-- an earlier server has its name
abbrev pub is_duplicate : List Data → Data → Bool
is_duplicate earlier d = option_map_or (λ name. list_any (has_text (codes "name") name) earlier) (text_at (codes "name") d) false

-- the server behind the earlier ones
abbrev pub server_wrong : List Data → Data → Option Wrong
server_wrong earlier d = let within = section.Server (length earlier) in option_and_then (λ table. first (
    first (keys_wrong within (asked_of server_keys) table)
    ∷ (if is_duplicate earlier d then Some (wrong within (codes "name") cause.Duplicate) else None)
    ∷ [])) (as_table d)

abbrev pub each_wrong : List Data → List Data → Option Wrong
each_wrong earlier [] = None
each_wrong earlier (d ∷ ds) = first (server_wrong earlier d ∷ each_wrong (earlier ++ d ∷ []) ds ∷ [])

-- the positions of those that pass, from a number on
abbrev pub positions_from : {A : Type 0} → ℕ → (A → Bool) → List A → List ℕ
positions_from n p [] = []
positions_from n p (x ∷ xs) = if p x then n ∷ positions_from (n + 1) p xs else positions_from (n + 1) p xs

-- the server past the most of the kind `ntp`
abbrev pub ntp_wrong : List Data → Option Wrong
ntp_wrong servers = option_map (λ i. wrong (section.Server i) (codes "kind") cause.TooMany) (slice_get (positions_from 0 (has_text (codes "kind") (codes "ntp")) servers) MAX_NTP)

abbrev pub too_many : List Data → Option Wrong
too_many servers = if nat_lt MAX_SERVERS (length servers) then Some (wrong section.Top (codes "server") cause.TooMany) else None

abbrev pub servers_wrong : List Data → Option Wrong
servers_wrong servers = first (too_many servers ∷ each_wrong [] servers ∷ ntp_wrong servers ∷ [])

-- ---- the whole

abbrev pub document_wrong : Members → Option Wrong
document_wrong doc = first (top_wrong doc ∷ node_wrong doc ∷ servers_wrong (servers_in doc) ∷ [])

-- the document that octets are: they are UTF-8, and `toml` parses them
abbrev pub document_of : List ℕ → Option Members
document_of octets = if is_utf8 octets then parse_document octets else None

-- the first wrong key of a file, if there is one
abbrev pub first_wrong : List ℕ → Option Wrong
first_wrong octets = if nat_lt MAX_OCTETS (length octets) then Some (wrong section.File [] cause.Long)
    else option_map_or document_wrong (document_of octets) (Some (wrong section.File [] cause.Document))
