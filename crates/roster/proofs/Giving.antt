-- A document of which no key is wrong gives a roster.
use Rattle.std.proofs.Common.{◌≡◌, ℕ, ◌≤◌, Bool, true, false, ◌&&◌, List, [], ◌∷◌, ℤ, pos, negsuc, Option, Some, None, refl, ap, ◌∙◌, arith}
use Rattle.std.specs.Prelude.{nat_le, int_le, codes, is_some, option_and_then, if◌then◌else◌}
use Rattle.std.specs.List.{AllByRecursion, AllZip}
use Rattle.std.proofs.lemmas.Bool.{and_parts, leb-true}
use Rattle.toml.specs.Data.{Data, Members, table, string, integer, boolean, float, datetime, array, get_member, as_str, as_bool, as_integer, as_table}
use Rattle.dts_base.specs.declared.address.Address.{Address}
use Rattle.dts_base.specs.Addresses.{address_text}
use Rattle.slew_clock.specs.declared.rates.TheConstants.{GREATEST_DRIFT_PPM, GREATEST_RESOLUTION, LEAST_LEASE, GREATEST_LEASE, LEAST_SLEW_PPM, GREATEST_SLEW_PPM, LEAST_TOLERANCE, GREATEST_TOLERANCE}
use Rattle.roster.specs.declared.limits.TheConstants.{GREATEST_PORT, GREATEST_LISTEN_PORT, GREATEST_EPOCH, LEAST_REQUIRED, GREATEST_REQUIRED, LEAST_PERIOD, GREATEST_PERIOD, LEAST_HOLD, GREATEST_HOLD, LEAST_TIMEOUT, GREATEST_TIMEOUT, LEAST_MAX_INACCURACY, GREATEST_MAX_INACCURACY}
use Rattle.roster.specs.declared.limits.TheConstants.{DEFAULT_EPOCH, DEFAULT_REQUIRED, DEFAULT_PERIOD, DEFAULT_HOLD, DEFAULT_TIMEOUT, DEFAULT_MAX_INACCURACY, DEFAULT_DRIFT_PPM, DEFAULT_RESOLUTION, DEFAULT_LEASE, DEFAULT_SLEW_PPM, DEFAULT_TOLERANCE}
use Rattle.roster.specs.declared.cause.RosterCause.TheVariants as cause
use Rattle.roster.specs.declared.keys.Right.TheVariants as right
use Rattle.roster.specs.declared.settings.Role.{Role}
use Rattle.roster.specs.declared.settings.Role.TheVariants as role
use Rattle.roster.specs.declared.settings.Settings.{Settings}
use Rattle.roster.specs.declared.entry.ServerKind.{ServerKind}
use Rattle.roster.specs.declared.entry.Entry.{Entry}
use Rattle.roster.specs.Values.{is_name, role_of, kind_of, address_up_to, judged}
use Rattle.roster.specs.Keys.{asked_of, node_keys, server_keys}
use Rattle.roster.specs.Wrong.{found_fault, document_wrong, servers_in}
use Rattle.roster.specs.RosterData.{RosterData}
use Rattle.roster.specs.Rosters.{given, GivesSettings, GivesEntry, GivesRoster}
use Rattle.roster.specs.Seen.{AreRight, IsRight}
use Rattle.roster.proofs.AddressIs.{default_listen, default_is, port_within}
use Rattle.roster.proofs.Accepted.{some_is, node_right, servers_right}

range_right : (b : Bool) → (if b then None else Some cause.Range) ≡ None → b ≡ true
range_right true e = refl
range_right false e = cc

-- a value that is right is there and passes
pub judged_right : {A : Type 0} (o : Option A) (p : A → Bool) → judged o p ≡ None → (x : A) × (o ≡ Some x) × (p x ≡ true)
judged_right None p e = cc
judged_right (Some x) p e = (x, refl, range_right (p x) e)

-- where nothing stands for what is absent, what is given is what is there
pub given_alone : (o : Option Data) → given o None ≡ o
given_alone None = refl
given_alone (Some d) = refl

-- ---- what stands at one key

pub name_at : (name : List ℕ) (o : Option Data) → found_fault (record { name = name; right = right.Name; required = true }) o ≡ None
    → (text : List ℕ) × (option_and_then as_str o ≡ Some text) × (is_name text ≡ true)
name_at name None e = cc
name_at name (Some d) e = judged_right (as_str d) is_name e

kind_at : (name : List ℕ) (o : Option Data) → found_fault (record { name = name; right = right.ServerKind; required = true }) o ≡ None
    → (k : ServerKind) × (option_and_then kind_of (option_and_then as_str o) ≡ Some k)
kind_at name None e = cc
kind_at name (Some d) e =
    let (text, is, passes) = judged_right (as_str d) (λ text. is_some (kind_of text)) e in
    let (k, names) = some_is (kind_of text) passes in
    (k, ap (option_and_then kind_of) is ∙ names)

address_at : (name : List ℕ) (o : Option Data) → found_fault (record { name = name; right = right.Address GREATEST_PORT; required = true }) o ≡ None
    → (a : Address) × (option_and_then (address_up_to GREATEST_PORT) (option_and_then as_str o) ≡ Some a)
address_at name None e = cc
address_at name (Some d) e =
    let (text, is, passes) = judged_right (as_str d) (λ text. is_some (address_up_to GREATEST_PORT text)) e in
    let (a, spelled) = some_is (address_up_to GREATEST_PORT text) passes in
    (a, ap (option_and_then (address_up_to GREATEST_PORT)) is ∙ spelled)

role_at : (name : List ℕ) (o : Option Data) → found_fault (record { name = name; right = right.Role; required = false }) o ≡ None
    → (r : Role) × (option_and_then role_of (option_and_then as_str (given o (Some (string (codes "clerk"))))) ≡ Some r)
role_at name None e = (role.Clerk, refl)
role_at name (Some d) e =
    let (text, is, passes) = judged_right (as_str d) (λ text. is_some (role_of text)) e in
    let (r, names) = some_is (role_of text) passes in
    (r, ap (option_and_then role_of) is ∙ names)

flag_at : (name : List ℕ) (o : Option Data) → found_fault (record { name = name; right = right.Flag; required = false }) o ≡ None
    → (b : Bool) × (option_and_then as_bool (given o (Some (boolean false))) ≡ Some b)
flag_at name None e = (false, refl)
flag_at name (Some d) e = let (b, is, passes) = judged_right (as_bool d) (λ _. true) e in (b, is)

listen_at : (name : List ℕ) (o : Option Data) → found_fault (record { name = name; right = right.Address GREATEST_LISTEN_PORT; required = false }) o ≡ None
    → (a : Address) × (option_and_then (address_up_to GREATEST_LISTEN_PORT) (option_and_then as_str (given o (Some (string (address_text default_listen))))) ≡ Some a) × (a.port ≤ GREATEST_LISTEN_PORT)
listen_at name None e = (default_listen, default_is, omega arith)
listen_at name (Some d) e =
    let (text, is, passes) = judged_right (as_str d) (λ text. is_some (address_up_to GREATEST_LISTEN_PORT text)) e in
    let (a, spelled) = some_is (address_up_to GREATEST_LISTEN_PORT text) passes in
    (a, ap (option_and_then (address_up_to GREATEST_LISTEN_PORT)) is ∙ spelled, port_within text GREATEST_LISTEN_PORT a spelled)

number_in : (least greatest : ℕ) (z : ℤ) → (int_le (pos least) z && int_le z (pos greatest)) ≡ true → (n : ℕ) × (z ≡ pos n) × (least ≤ n) × (n ≤ greatest)
number_in least greatest (pos n) e = let (from, to) = and_parts (nat_le least n) (nat_le n greatest) e in (n, refl, leb-true least n from, leb-true n greatest to)
number_in least greatest (negsuc n) e = cc

number_at : (name : List ℕ) (least greatest default : ℕ) (o : Option Data) → least ≤ default → default ≤ greatest
    → found_fault (record { name = name; right = right.Number least greatest; required = false }) o ≡ None
    → (n : ℕ) × (option_and_then as_integer (given o (Some (integer (pos default)))) ≡ Some (pos n)) × (least ≤ n) × (n ≤ greatest)
number_at name least greatest default None from to e = (default, refl, from, to)
number_at name least greatest default (Some d) from to e =
    let (z, is, passes) = judged_right (as_integer d) (λ z. int_le (pos least) z && int_le z (pos greatest)) e in
    let (n, same, low, high) = number_in least greatest z passes in
    (n, is ∙ ap Some same, low, high)

-- ---- the settings and the servers

pub settings_of : (node : Members) → AreRight (asked_of node_keys) node → (s : Settings) × GivesSettings node s
settings_of node all =
    let at : List ℕ → Option Data = λ key. get_member key node in
    let name = name_at (codes "name") (at (codes "name")) all.0 in
    let more = all.1 in
    let role = role_at (codes "role") (at (codes "role")) more.0 in
    let courier = flag_at (codes "courier") (at (codes "courier")) more.1.0 in
    let listen = listen_at (codes "listen") (at (codes "listen")) more.1.1.0 in
    let numbers = more.1.1.1 in
    let epoch = number_at (codes "epoch") 0 GREATEST_EPOCH DEFAULT_EPOCH (at (codes "epoch")) (omega arith) (omega arith) numbers.0 in
    let required = number_at (codes "required") LEAST_REQUIRED GREATEST_REQUIRED DEFAULT_REQUIRED (at (codes "required")) (omega arith) (omega arith) numbers.1.0 in
    let period = number_at (codes "period") LEAST_PERIOD GREATEST_PERIOD DEFAULT_PERIOD (at (codes "period")) (omega arith) (omega arith) numbers.1.1.0 in
    let hold = number_at (codes "hold") LEAST_HOLD GREATEST_HOLD DEFAULT_HOLD (at (codes "hold")) (omega arith) (omega arith) numbers.1.1.1.0 in
    let timeout = number_at (codes "timeout") LEAST_TIMEOUT GREATEST_TIMEOUT DEFAULT_TIMEOUT (at (codes "timeout")) (omega arith) (omega arith) numbers.1.1.1.1.0 in
    let max_inaccuracy = number_at (codes "max_inaccuracy") LEAST_MAX_INACCURACY GREATEST_MAX_INACCURACY DEFAULT_MAX_INACCURACY (at (codes "max_inaccuracy")) (omega arith) (omega arith) numbers.1.1.1.1.1.0 in
    let rates = numbers.1.1.1.1.1.1 in
    let drift = number_at (codes "drift_ppm") 0 GREATEST_DRIFT_PPM DEFAULT_DRIFT_PPM (at (codes "drift_ppm")) (omega arith) (omega arith) rates.0 in
    let resolution = number_at (codes "resolution") 0 GREATEST_RESOLUTION DEFAULT_RESOLUTION (at (codes "resolution")) (omega arith) (omega arith) rates.1.0 in
    let lease = number_at (codes "lease") LEAST_LEASE GREATEST_LEASE DEFAULT_LEASE (at (codes "lease")) (omega arith) (omega arith) rates.1.1.0 in
    let slew = number_at (codes "slew_ppm") LEAST_SLEW_PPM GREATEST_SLEW_PPM DEFAULT_SLEW_PPM (at (codes "slew_ppm")) (omega arith) (omega arith) rates.1.1.1.0 in
    let tolerance = number_at (codes "tolerance") LEAST_TOLERANCE GREATEST_TOLERANCE DEFAULT_TOLERANCE (at (codes "tolerance")) (omega arith) (omega arith) rates.1.1.1.1.0 in (
      record {
        name = name.0;
        role = role.0;
        courier = courier.0;
        listen = listen.0;
        epoch = epoch.0;
        required = required.0;
        period = period.0;
        hold = hold.0;
        timeout = timeout.0;
        max_inaccuracy = max_inaccuracy.0;
        drift_ppm = drift.0;
        resolution = resolution.0;
        lease = lease.0;
        slew_ppm = slew.0;
        tolerance = tolerance.0;
        listen_to = listen.2;
        required_from = required.2;
        required_to = required.3;
        period_from = period.2;
        period_to = period.3;
        hold_from = hold.2;
        hold_to = hold.3;
        timeout_from = timeout.2;
        timeout_to = timeout.3;
        max_inaccuracy_from = max_inaccuracy.2;
        max_inaccuracy_to = max_inaccuracy.3;
        drift_in_range = drift.3;
        resolution_in_range = resolution.3;
        lease_from = lease.2;
        lease_to = lease.3;
        slew_from = slew.2;
        slew_to = slew.3;
        tolerance_from = tolerance.2;
        tolerance_to = tolerance.3;
      },
      record {
        name = ap (option_and_then as_str) (given_alone (at (codes "name"))) ∙ name.1;
        others = record {
          role = role.1;
          courier = courier.1;
          listen = listen.1;
          epoch = epoch.1;
          required = required.1;
          period = period.1;
          hold = hold.1;
          timeout = timeout.1;
          max_inaccuracy = max_inaccuracy.1;
          drift_ppm = drift.1;
          resolution = resolution.1;
          lease = lease.1;
          slew_ppm = slew.1;
          tolerance = tolerance.1;
        };
      },
    )

entry_of : (d : Data) → IsRight (asked_of server_keys) d → (e : Entry) × GivesEntry d e
entry_of (table ms) all =
    let name = name_at (codes "name") (get_member (codes "name") ms) all.0 in
    let kind = kind_at (codes "kind") (get_member (codes "kind") ms) all.1.0 in
    let address = address_at (codes "address") (get_member (codes "address") ms) all.1.1.0 in
    (record { name = name.0; kind = kind.0; address = address.0 }, record { name = name.1; kind = kind.1; address = address.1 })
entry_of (string s) all = absurd all
entry_of (integer z) all = absurd all
entry_of (float x) all = absurd all
entry_of (boolean b) all = absurd all
entry_of (datetime t) all = absurd all
entry_of (array ds) all = absurd all

pub entries_of : (ds : List Data) → AllByRecursion (IsRight (asked_of server_keys)) ds → (es : List Entry) × AllZip GivesEntry ds es
entries_of [] all = ([], tt)
entries_of (d ∷ ds) all =
    let (e, here) = entry_of d all.0 in
    let (es, behind) = entries_of ds all.1 in
    (e ∷ es, (here, behind))

pub roster_of : (doc : Members) → document_wrong doc ≡ None → (r : RosterData) × GivesRoster doc r
roster_of doc right =
    let node = node_right doc right in
    let (s, settings) = settings_of node.table node.right in
    let (es, servers) = entries_of (servers_in doc) (servers_right doc right).0 in
    (record { settings = s; entries = es }, record { node = node.table; has_node = ap (option_and_then as_table) node.found ∙ node.is_table; settings = settings; servers = servers })
