-- A roster that was read keeps the limits.
use Rattle.std.proofs.Common.{◌≡◌, ℕ, ◌+◌, ◌≤◌, Bool, true, false, List, [], ◌∷◌, ◌++◌, length, map, cond, inl, inr, Option, Some, None, IsSome, refl, sym, ap, subst, ◌∙◌, arith}
use Rattle.std.specs.Prelude.{codes, bytes_eq, count_by, option_and_then, if◌then◌else◌}
use Rattle.std.specs.List.{list_any, list_all, AllByRecursion, AllZip, IsDistinct, slice_get}
use Rattle.std.specs.Option.{option_map_or}
use Rattle.std.specs.Cmp.{IsEquivalence, decided}
use Rattle.std.proofs.lemmas.List.{append_assoc, append-nil, map-append}
use Rattle.std.proofs.lemmas.List.Sums.{sum_by-cons, AllPass-from_list_all}
use Rattle.std.proofs.lemmas.Map.Keys.{IsDistinct-push}
use Rattle.std.proofs.lemmas.Option.{same_Some, slice_get_cases}
use Rattle.std.proofs.lemmas.Slice.Eq.{bytes_eq-Decides}
use Rattle.std.proofs.lemmas.Slice.Zip.{AllZip-long, all_zipped_more}
use Rattle.toml.specs.Data.{Data, Members, table, string, integer, boolean, float, datetime, array, get_member, as_str, as_table}
use Rattle.roster.specs.declared.limits.TheConstants.{MAX_NTP}
use Rattle.roster.specs.declared.first_wrong.Section.{Section}
use Rattle.roster.specs.declared.keys.Right.TheVariants as right
use Rattle.roster.specs.declared.entry.ServerKind.{ServerKind}
use Rattle.roster.specs.declared.entry.ServerKind.TheVariants as kind
use Rattle.roster.specs.declared.entry.Entry.{Entry}
use Rattle.roster.specs.Values.{is_name, kind_of}
use Rattle.roster.specs.Keys.{asked_of, server_keys}
use Rattle.roster.specs.Wrong.{Wrong, first, document_wrong, found_fault, keys_wrong, text_at, has_text, is_duplicate, server_wrong, each_wrong, positions_from, ntp_wrong, too_many, servers_in}
use Rattle.roster.specs.RosterData.{RosterData}
use Rattle.roster.specs.Rosters.{IsRoster, GivesEntry, given, is_kind}
use Rattle.roster.specs.Seen.{IsRight}
use Rattle.roster.specs.Limits.{KeepsLimits}
use Rattle.roster.proofs.Accepted.{first_parts, map_none, few_at, document_parts, node_right, servers_at, servers_right}
use Rattle.roster.proofs.Giving.{given_alone, name_at}
use Rattle.roster.proofs.Settled.{right_file}

same_text : IsEquivalence bytes_eq
same_text = decided bytes_eq bytes_eq-Decides

-- ---- the names

name_passes : (name : List ℕ) (o : Option Data) (text : List ℕ) → found_fault (record { name = name; right = right.Name; required = true }) o ≡ None → option_and_then as_str o ≡ Some text → is_name text ≡ true
name_passes name o text e is =
    let (found, found_is, passes) = name_at name o e in
    subst (λ t. is_name t ≡ true) (same_Some found text (sym found_is ∙ is)) passes

entry_name : (d : Data) (e : Entry) → IsRight (asked_of server_keys) d → GivesEntry d e → is_name e.name ≡ true
entry_name (table ms) e all gives = name_passes (codes "name") (get_member (codes "name") ms) e.name all.0 gives.name
entry_name (string s) e all gives = absurd all
entry_name (integer z) e all gives = absurd all
entry_name (float x) e all gives = absurd all
entry_name (boolean b) e all gives = absurd all
entry_name (datetime t) e all gives = absurd all
entry_name (array ds) e all gives = absurd all

all_names : (ds : List Data) (es : List Entry) → AllByRecursion (IsRight (asked_of server_keys)) ds → AllZip GivesEntry ds es → list_all (λ e. is_name e.name) es ≡ true
all_names [] [] all zipped = refl
all_names [] (e ∷ es) all zipped = absurd zipped
all_names (d ∷ ds) [] all zipped = absurd zipped
all_names (d ∷ ds) (e ∷ es) all zipped = rw (entry_name d e all.0 zipped.0) (all_names ds es all.1 zipped.1)

-- ---- no two have the same

abbrev names_of : List Entry → List (List ℕ)
names_of = map (λ e. e.name)

any_names : (name : List ℕ) (ds : List Data) (es : List Entry) → AllZip GivesEntry ds es → list_any (has_text (codes "name") name) ds ≡ list_any (bytes_eq name) (names_of es)
any_names name [] [] zipped = refl
any_names name [] (e ∷ es) zipped = absurd zipped
any_names name (d ∷ ds) [] zipped = absurd zipped
any_names name (d ∷ ds) (e ∷ es) zipped =
    let here : has_text (codes "name") name d ≡ bytes_eq name e.name = ap (λ o. option_map_or (bytes_eq name) o false) zipped.0.name in
    let behind = any_names name ds es zipped.1 in
    rw (here, behind) refl

duplicate_is : (earlier : List Data) (es : List Entry) (d : Data) (e : Entry) → AllZip GivesEntry earlier es → GivesEntry d e → is_duplicate earlier d ≡ list_any (bytes_eq e.name) (names_of es)
duplicate_is earlier es d e zipped gives =
    let name : is_duplicate earlier d ≡ list_any (has_text (codes "name") e.name) earlier = ap (λ o. option_map_or (λ name. list_any (has_text (codes "name") name) earlier) o false) gives.name in
    name ∙ any_names e.name earlier es zipped

no_duplicate_at : (within : Section) (dup : Bool) (w : Wrong) (o : Option Members)
    → option_and_then (λ table. first (first (keys_wrong within (asked_of server_keys) table) ∷ (if dup then Some w else None) ∷ [])) o ≡ None → IsSome o → dup ≡ false
no_duplicate_at within dup w None e is = cc
no_duplicate_at within dup w (Some t) e is =
    let p = first_parts (first (keys_wrong within (asked_of server_keys) t)) ((if dup then Some w else None) ∷ []) e in
    few_at dup w (first_parts (if dup then Some w else None) [] p.1).0

distinct_from : (earlier ds : List Data) (es fs : List Entry) → each_wrong earlier ds ≡ None → AllByRecursion (λ d. IsSome (as_table d)) ds
    → AllZip GivesEntry earlier es → AllZip GivesEntry ds fs → IsDistinct bytes_eq (names_of es) → IsDistinct bytes_eq (names_of (es ++ fs))
distinct_from earlier [] es [] right tables so_far zipped distinct = rw (append-nil es) distinct
distinct_from earlier [] es (f ∷ fs) right tables so_far zipped distinct = absurd zipped
distinct_from earlier (d ∷ ds) es [] right tables so_far zipped distinct = absurd zipped
distinct_from earlier (d ∷ ds) es (f ∷ fs) right tables so_far zipped distinct =
    let p = first_parts (server_wrong earlier d) (each_wrong (earlier ++ d ∷ []) ds ∷ []) right in
    let q = first_parts (each_wrong (earlier ++ d ∷ []) ds) [] p.1 in
    let single = no_duplicate_at _ (is_duplicate earlier d) _ (as_table d) p.0 tables.0 in
    let fresh : list_any (bytes_eq f.name) (names_of es) ≡ false = sym (duplicate_is earlier es d f so_far zipped.0) ∙ single in
    let more : IsDistinct bytes_eq (names_of (es ++ f ∷ [])) = subst (IsDistinct bytes_eq) (sym (map-append (λ (e : Entry). e.name) es (f ∷ []))) (IsDistinct-push same_text (names_of es) f.name distinct fresh) in
    let all = distinct_from (earlier ++ d ∷ []) ds (es ++ f ∷ []) fs q.0 tables.1 (all_zipped_more GivesEntry earlier es d f so_far zipped.0) zipped.1 more in
    subst (λ l. IsDistinct bytes_eq (names_of l)) (append_assoc es (f ∷ []) fs) all

none_yet : IsDistinct bytes_eq (names_of [])
unfolding IsDistinct
none_yet = tt

-- ---- the servers of NTP

ntp_at : (text : List ℕ) (k : ServerKind) (is_local is_global is_ntp : Bool)
    → bytes_eq text (codes "local") ≡ is_local → bytes_eq text (codes "global") ≡ is_global → bytes_eq text (codes "ntp") ≡ is_ntp
    → (if is_local then Some kind.Local else if is_global then Some kind.Global else if is_ntp then Some kind.Ntp else None) ≡ Some k
    → bytes_eq (codes "ntp") text ≡ is_kind kind.Ntp k
ntp_at text k true g n l_is g_is n_is e = rw ((bytes_eq-Decides text (codes "local")).0 l_is, ← same_Some kind.Local k e) refl
ntp_at text k false true n l_is g_is n_is e = rw ((bytes_eq-Decides text (codes "global")).0 g_is, ← same_Some kind.Global k e) refl
ntp_at text k false false true l_is g_is n_is e = rw ((bytes_eq-Decides text (codes "ntp")).0 n_is, ← same_Some kind.Ntp k e) refl
ntp_at text k false false false l_is g_is n_is e = cc

ntp_of : (o : Option (List ℕ)) (k : ServerKind) → option_and_then kind_of o ≡ Some k → option_map_or (bytes_eq (codes "ntp")) o false ≡ is_kind kind.Ntp k
ntp_of None k e = cc
ntp_of (Some text) k e = ntp_at text k (bytes_eq text (codes "local")) (bytes_eq text (codes "global")) (bytes_eq text (codes "ntp")) refl refl refl e

count_step : (b : Bool) (n : ℕ) (xs : List ℕ) (count : ℕ) → length xs ≡ count → length (if b then n ∷ xs else xs) ≡ cond b 1 0 + count
count_step true n xs count e = omega (arith, e)
count_step false n xs count e = omega (arith, e)

count_is : (n : ℕ) (ds : List Data) (es : List Entry) → AllZip GivesEntry ds es
    → length (positions_from n (has_text (codes "kind") (codes "ntp")) ds) ≡ count_by (λ (e : Entry). is_kind kind.Ntp e.kind) es
count_is n [] [] zipped = refl
count_is n [] (e ∷ es) zipped = absurd zipped
count_is n (d ∷ ds) [] zipped = absurd zipped
count_is n (d ∷ ds) (e ∷ es) zipped =
    let here : has_text (codes "kind") (codes "ntp") d ≡ is_kind kind.Ntp e.kind = ntp_of (text_at (codes "kind") d) e.kind zipped.0.kind in
    let behind = count_is (n + 1) ds es zipped.1 in
    rw (here, sum_by-cons (λ (e : Entry). cond (is_kind kind.Ntp e.kind) 1 0) e es)
    (count_step (is_kind kind.Ntp e.kind) n (positions_from (n + 1) (has_text (codes "kind") (codes "ntp")) ds) _ behind)

few_from : (xs : List ℕ) (n : ℕ) → slice_get xs n ≡ None → length xs ≤ n
few_from xs n e = elim (slice_get_cases xs n).1 [ inl (x, h, is, at) ↦ (let clash : None ≡ Some x = sym e ∙ is in cc) | inr (h, none) ↦ h ]

-- ---- the whole

pub keeps : (octets : List ℕ) (r : RosterData) → IsRoster octets r → KeepsLimits octets r
keeps octets r is =
    let file = right_file octets is.right in
    let doc : file.doc ≡ is.doc = same_Some file.doc is.doc (sym file.is_document ∙ is.is_document) in
    let right = subst (λ d. document_wrong d ≡ None) doc file.right in
    let parts = document_parts is.doc right in
    let node = node_right is.doc right in
    let same : node.table ≡ is.gives.node = same_Some node.table is.gives.node (sym (ap (option_and_then as_table) node.found ∙ node.is_table) ∙ is.gives.has_node) in
    let own : option_and_then as_str (get_member (codes "name") node.table) ≡ Some r.settings.name =
    ap (option_and_then as_str) (sym (given_alone (get_member (codes "name") node.table)) ∙ ap (λ n. given (get_member (codes "name") n) None) same) ∙ is.gives.settings.name in
    let servers = servers_right is.doc right in
    let few = first_parts (too_many (servers_in is.doc)) (each_wrong [] (servers_in is.doc) ∷ ntp_wrong (servers_in is.doc) ∷ []) parts.2 in
    let each = first_parts (each_wrong [] (servers_in is.doc)) (ntp_wrong (servers_in is.doc) ∷ []) few.1 in
    let ntp = first_parts (ntp_wrong (servers_in is.doc)) [] each.1 in
    let tables = servers_at is.doc (get_member (codes "server") is.doc) refl parts.0 in
    let long = AllZip-long GivesEntry (servers_in is.doc) r.entries is.gives.servers in
    let count = count_is 0 (servers_in is.doc) r.entries is.gives.servers in
    let most = few_from (positions_from 0 (has_text (codes "kind") (codes "ntp")) (servers_in is.doc)) MAX_NTP (map_none _ (slice_get (positions_from 0 (has_text (codes "kind") (codes "ntp")) (servers_in is.doc)) MAX_NTP) ntp.0) in
    record {
      octets = file.short;
      own_name = name_passes (codes "name") (get_member (codes "name") node.table) r.settings.name node.right.0 own;
      servers = omega (arith, servers.1, long);
      ntp_servers = omega (arith, count, most);
      names = AllPass-from_list_all (λ e. is_name e.name) r.entries (all_names (servers_in is.doc) r.entries servers.0 is.gives.servers);
      distinct = distinct_from [] (servers_in is.doc) [] r.entries each.0 tables tt is.gives.servers none_yet;
    }
