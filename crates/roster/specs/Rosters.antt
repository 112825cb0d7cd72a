-- What a roster says: the settings of its node and its servers, in order. Our own choice.
use Rattle.std.specs.Prelude.{◌≡◌, ℕ, Bool, true, false, ◌&&◌, not, List, pos, Option, Some, None, codes, bytes_eq, find, option_and_then}
use Rattle.std.specs.List.{AllZip}
use Rattle.toml.specs.Data.{Data, Members, no_members, member, string, get_member, as_str, as_bool, as_integer, as_table}
use Rattle.roster.specs.declared.limits.TheConstants.{GREATEST_PORT, GREATEST_LISTEN_PORT}
use Rattle.roster.specs.declared.settings.Settings.{Settings}
use Rattle.roster.specs.declared.entry.Entry.{Entry}
use Rattle.roster.specs.Values.{role_of, kind_of, address_up_to}
use Rattle.roster.specs.Keys.{node_keys}
use Rattle.roster.specs.declared.cause.RosterFault.{RosterFault}
use Rattle.roster.specs.declared.cause.RosterFault.TheVariants as fault
use Rattle.roster.specs.declared.entry.ServerKind.{ServerKind}
use Rattle.roster.specs.declared.entry.ServerKind.TheVariants as kind
use Rattle.roster.specs.Wrong.{Wrong, path_of, document_of, first_wrong, servers_in, text_at, positions_from}
use Rattle.roster.specs.RosterData.{RosterData}

-- what stands for a key of the node where it is absent
abbrev pub default_of : List ℕ → Option Data
default_of name = option_and_then (λ key. key.default) (find (λ key. bytes_eq key.name name) node_keys)

-- what the node's table gives at a key, or its default
abbrev pub given : Option Data → Option Data → Option Data
given None default = default
given (Some d) default = Some d

abbrev pub value_at : Members → List ℕ → Option Data
value_at node name = given (get_member name node) (default_of name)

abbrev pub string_at : Members → List ℕ → Option (List ℕ)
string_at node name = option_and_then as_str (value_at node name)

abbrev pub IsNumberAt : Members → List ℕ → ℕ → Type 0
IsNumberAt node name n = option_and_then as_integer (value_at node name) ≡ Some (pos n)

-- each setting but the name is what the table gives
pub record GivesOthers (node : Members) (s : Settings) : Type 0 where
  pub role : option_and_then role_of (string_at node (codes "role")) ≡ Some s.role
  pub courier : option_and_then as_bool (value_at node (codes "courier")) ≡ Some s.courier
  pub listen : option_and_then (address_up_to GREATEST_LISTEN_PORT) (string_at node (codes "listen")) ≡ Some s.listen
  pub epoch : IsNumberAt node (codes "epoch") s.epoch
  pub required : IsNumberAt node (codes "required") s.required
  pub period : IsNumberAt node (codes "period") s.period
  pub hold : IsNumberAt node (codes "hold") s.hold
  pub timeout : IsNumberAt node (codes "timeout") s.timeout
  pub max_inaccuracy : IsNumberAt node (codes "max_inaccuracy") s.max_inaccuracy
  pub drift_ppm : IsNumberAt node (codes "drift_ppm") s.drift_ppm
  pub resolution : IsNumberAt node (codes "resolution") s.resolution
  pub lease : IsNumberAt node (codes "lease") s.lease
  pub slew_ppm : IsNumberAt node (codes "slew_ppm") s.slew_ppm
  pub tolerance : IsNumberAt node (codes "tolerance") s.tolerance

-- each setting is what the table gives
pub record GivesSettings (node : Members) (s : Settings) : Type 0 where
  pub name : string_at node (codes "name") ≡ Some s.name
  pub others : GivesOthers node s

-- the server is what its table gives
pub record GivesEntry (server : Data) (e : Entry) : Type 0 where
  pub name : text_at (codes "name") server ≡ Some e.name
  pub kind : option_and_then kind_of (text_at (codes "kind") server) ≡ Some e.kind
  pub address : option_and_then (address_up_to GREATEST_PORT) (text_at (codes "address") server) ≡ Some e.address

-- the document gives the settings and the servers
pub record GivesRoster (doc : Members) (r : RosterData) : Type 0 where
  pub node : Members
  pub has_node : option_and_then as_table (get_member (codes "node") doc) ≡ Some node
  pub settings : GivesSettings node r.settings
  pub servers : AllZip GivesEntry (servers_in doc) r.entries

-- the octets are the file of the roster: they are a document of which no key is wrong, and it gives the roster
pub record IsRoster (octets : List ℕ) (r : RosterData) : Type 0 where
  pub right : first_wrong octets ≡ None
  pub doc : Members
  pub is_document : document_of octets ≡ Some doc
  pub gives : GivesRoster doc r

-- the fault is that key
abbrev pub IsFaultOf : Wrong → RosterFault → Type 0
IsFaultOf w (fault.Wrong path cause) = (path ≡ path_of w) × (cause ≡ w.cause)
IsFaultOf w fault.NoMemory = Unit {0}

-- the fault refuses the octets: it is their first wrong key. Want of memory is free.
abbrev pub Refuses : List ℕ → RosterFault → Type 0
Refuses octets (fault.Wrong path cause) = (w : Wrong) × (first_wrong octets ≡ Some w) × (path ≡ path_of w) × (cause ≡ w.cause)
Refuses octets fault.NoMemory = Unit {0}

-- the document of a node alone
abbrev pub alone : Members
alone = member (codes "name") (string (codes "node")) no_members

abbrev pub is_kind : ServerKind → ServerKind → Bool
is_kind kind.Local kind.Local = true
is_kind kind.Global kind.Global = true
is_kind kind.Ntp kind.Ntp = true
is_kind _ _ = false

-- the server is of the kind and has another name than the node
abbrev pub is_other : ServerKind → List ℕ → Entry → Bool
is_other kind own e = is_kind kind e.kind && not (bytes_eq e.name own)

-- the peer numbers of the servers of a kind, in order, without the node's own name
abbrev pub others : ServerKind → RosterData → List ℕ
others kind r = positions_from 0 (is_other kind r.settings.name) r.entries
