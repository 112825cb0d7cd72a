-- What the definitions give at some documents.
use Rattle.std.proofs.Common.{◌≡◌, ℕ, zero, suc, List, [], ◌∷◌, ◌++◌, Some, None, pos, true, false, refl}
use Rattle.std.specs.Prelude.{codes, decimal}
use Rattle.toml.specs.Data.{Data, Items, Members, no_members, member, no_items, item, string, integer, boolean, table, array}
use Rattle.toml.specs.Parse.{parse_document}
use Rattle.toml.proofs.OnLiterals.{toml_on_literals}
use Rattle.roster.specs.declared.cause.RosterCause.TheVariants as cause
use Rattle.roster.specs.declared.first_wrong.Section.TheVariants as section
use Rattle.roster.specs.Keys.{asked_of, server_keys}
use Rattle.roster.specs.Wrong.{wrong, document_wrong, path_of, unknown_key, is_duplicate, server_wrong, ntp_wrong}
use Rattle.roster.specs.declared.entry.ServerKind.{ServerKind}
use Rattle.roster.specs.declared.entry.ServerKind.TheVariants as kind
use Rattle.roster.specs.declared.entry.Entry.{Entry}
use Rattle.roster.specs.Rosters.{value_at, is_other}

-- a document with this table `node` alone
abbrev node_of : Members → Members
node_of keys = member (codes "node") (table keys) no_members

-- a node's name, and one key more, which stands behind it or in front
abbrev named : Members → Members
named more = member (codes "name") (string (codes "a")) more

a_text_is_a_document : parse_document (codes "[node]\nname = \"a\"\n") ≡ Some (node_of (named no_members))
unfolding toml_on_literals
a_text_is_a_document = refl

a_name_suffices : document_wrong (node_of (named no_members)) ≡ None
a_name_suffices = refl

no_node_is_missing : document_wrong no_members ≡ Some (wrong section.Top (codes "node") cause.Missing)
no_node_is_missing = refl

a_key_in_front_of_the_missing_node_comes_first : document_wrong (member (codes "a") (boolean true) (member (codes "z") (boolean true) no_members)) ≡ Some (wrong section.Top (codes "a") cause.Unknown)
a_key_in_front_of_the_missing_node_comes_first = refl

the_missing_node_comes_in_front_of_a_later_key : document_wrong (member (codes "z") (boolean true) no_members) ≡ Some (wrong section.Top (codes "node") cause.Missing)
the_missing_node_comes_in_front_of_a_later_key = refl

a_name_is_required : document_wrong (node_of no_members) ≡ Some (wrong section.Node (codes "name") cause.Missing)
a_name_is_required = refl

no_answer_is_too_few : document_wrong (node_of (named (member (codes "required") (integer (pos 0)) no_members))) ≡ Some (wrong section.Node (codes "required") cause.Range)
no_answer_is_too_few = refl

both_ends_of_a_range_are_in_it : document_wrong (node_of (named (member (codes "required") (integer (pos 32)) (member (codes "slew_ppm") (integer (pos 1)) no_members)))) ≡ None
both_ends_of_a_range_are_in_it = refl

one_more_is_out_of_it : document_wrong (node_of (named (member (codes "required") (integer (pos 33)) no_members))) ≡ Some (wrong section.Node (codes "required") cause.Range)
one_more_is_out_of_it = refl

the_table_goes_before_the_alphabet : document_wrong (node_of (named (member (codes "epoch") (boolean true) (member (codes "role") (boolean true) no_members)))) ≡ Some (wrong section.Node (codes "role") cause.Kind)
the_table_goes_before_the_alphabet = refl

an_unknown_key_comes_after_the_known_ones : document_wrong (node_of (member (codes "a") (boolean true) (named (member (codes "role") (boolean true) no_members)))) ≡ Some (wrong section.Node (codes "role") cause.Kind)
an_unknown_key_comes_after_the_known_ones = refl

an_unknown_key_is_refused : document_wrong (node_of (member (codes "a") (boolean true) (named no_members))) ≡ Some (wrong section.Node (codes "a") cause.Unknown)
an_unknown_key_is_refused = refl

no_array_of_tables_is_of_another_kind : document_wrong (member (codes "node") (table (named no_members)) (member (codes "server") (array (item (boolean true) no_items)) no_members)) ≡ Some (wrong section.Top (codes "server") cause.Kind)
no_array_of_tables_is_of_another_kind = refl

an_array_of_no_tables_is_right : document_wrong (member (codes "node") (table (named no_members)) (member (codes "server") (array no_items) no_members)) ≡ None
an_array_of_no_tables_is_right = refl

-- a document with these servers behind a node
abbrev with_servers : Items → Members
with_servers servers = member (codes "node") (table (named no_members)) (member (codes "server") (array servers) no_members)

-- so many servers without a key
abbrev bare : ℕ → Items
bare zero = no_items
bare (suc n) = item (table no_members) (bare n)

the_name_of_a_server_is_required : document_wrong (with_servers (bare 32)) ≡ Some (wrong (section.Server 0) (codes "name") cause.Missing)
the_name_of_a_server_is_required = refl

one_server_more_is_too_many : document_wrong (with_servers (bare 33)) ≡ Some (wrong section.Top (codes "server") cause.TooMany)
one_server_more_is_too_many = refl

-- a server of a name and a kind; what its address is does not count here
abbrev server : List ℕ → List ℕ → Data
server name kind = table (member (codes "kind") (string kind) (member (codes "name") (string name) no_members))

-- six servers of NTP, and these
abbrev six_of_ntp : List Data → List Data
six_of_ntp more =
    server (codes "a") (codes "ntp") ∷ server (codes "b") (codes "ntp") ∷ server (codes "c") (codes "ntp")
    ∷ server (codes "d") (codes "ntp") ∷ server (codes "e") (codes "ntp") ∷ server (codes "f") (codes "ntp") ∷ more

six_servers_of_ntp_are_right : ntp_wrong (six_of_ntp (server (codes "s") (codes "local") ∷ [])) ≡ None
six_servers_of_ntp_are_right = refl

the_seventh_server_of_ntp_is_too_many : ntp_wrong (six_of_ntp (server (codes "s") (codes "local") ∷ server (codes "t") (codes "ntp") ∷ [])) ≡ Some (wrong (section.Server 7) (codes "kind") cause.TooMany)
the_seventh_server_of_ntp_is_too_many = refl

the_second_of_a_name_is_a_duplicate : is_duplicate (server (codes "s") (codes "local") ∷ []) (server (codes "s") (codes "ntp")) ≡ true
the_second_of_a_name_is_a_duplicate = refl

another_name_is_no_duplicate : is_duplicate (server (codes "s") (codes "local") ∷ []) (server (codes "t") (codes "local")) ≡ false
another_name_is_no_duplicate = refl

a_server_without_an_address_is_refused : server_wrong (server (codes "s") (codes "local") ∷ []) (server (codes "s") (codes "ntp")) ≡ Some (wrong (section.Server 1) (codes "address") cause.Missing)
a_server_without_an_address_is_refused = refl

an_unknown_key_of_a_server_is_refused : unknown_key (section.Server 0) (asked_of server_keys) (member (codes "address") (boolean true) (member (codes "color") (boolean true) (member (codes "kind") (boolean true) no_members))) ≡ Some (wrong (section.Server 0) (codes "color") cause.Unknown)
an_unknown_key_of_a_server_is_refused = refl

an_unknown_key_of_the_top_is_refused : document_wrong (member (codes "node") (table (named no_members)) (member (codes "z") (boolean true) no_members)) ≡ Some (wrong section.Top (codes "z") cause.Unknown)
an_unknown_key_of_the_top_is_refused = refl

-- an entry of a name and a kind
abbrev entry : List ℕ → ServerKind → Entry
entry name kind = record { name = name; kind = kind; address = record { ip = 1 ∷ 2 ∷ 3 ∷ 4 ∷ []; port = 5 } }

another_server_of_the_kind_is_a_source : is_other kind.Local (codes "a") (entry (codes "s") kind.Local) ≡ true
another_server_of_the_kind_is_a_source = refl

the_own_name_is_no_source : is_other kind.Local (codes "a") (entry (codes "a") kind.Local) ≡ false
the_own_name_is_no_source = refl

a_server_of_another_kind_is_no_source : is_other kind.Local (codes "a") (entry (codes "s") kind.Global) ≡ false
a_server_of_another_kind_is_no_source = refl

the_period_is_ten_minutes_by_default : value_at (named no_members) (codes "period") ≡ Some (integer (pos 6_000_000_000))
the_period_is_ten_minutes_by_default = refl

the_path_of_a_key_of_the_node : path_of (wrong section.Node (codes "period") cause.Range) ≡ codes "node.period"
the_path_of_a_key_of_the_node = refl

the_path_of_a_key_of_a_server : path_of (wrong (section.Server 3) (codes "name") cause.Duplicate) ≡ codes "server." ++ decimal 3 ++ codes ".name"
the_path_of_a_key_of_a_server = refl
