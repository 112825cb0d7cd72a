-- What a document has of which no key is wrong.
use Rattle.std.proofs.Common.{◌≡◌, ℕ, ◌≤◌, Bool, true, false, List, [], ◌∷◌, ◌++◌, map, length, inl, inr, Option, Some, None, IsSome, IsSomeAnd, Ordering, Less, Equal, Greater, nat_cmp, is_eq, refl, sym, ap, ◌∙◌, arith}
use Rattle.std.specs.Prelude.{◌⊎◌, nat_lt, codes, is_some, option_map, option_and_then, if◌then◌else◌}
use Rattle.std.specs.List.{list_all, AllByRecursion}
use Rattle.std.specs.Ordering.{match_ordering, ordering_reverse}
use Rattle.std.specs.Cmp.Lexicographic.{slice_cmp}
use Rattle.std.specs.Option.{option_map_or}
use Rattle.std.proofs.lemmas.Bool.{and_parts}
use Rattle.std.proofs.lemmas.Bool.Decides.{nat_tests}
use Rattle.std.proofs.lemmas.Option.{same_Some}
use Rattle.std.proofs.lemmas.Cmp.{nat_list_cmp_total}
use Rattle.std.proofs.lemmas.Map.Text.{is_eq-slice_cmp}
use Rattle.std.proofs.lemmas.Slice.Eq.{bytes_eq-Decides}
use Rattle.toml.specs.Data.{Data, Items, Members, no_members, member, get_member, as_table, as_array}
use Rattle.roster.specs.declared.cause.RosterCause.TheVariants as cause
use Rattle.roster.specs.declared.limits.TheConstants.{MAX_SERVERS}
use Rattle.roster.specs.declared.first_wrong.Section.{Section}
use Rattle.roster.specs.declared.first_wrong.Section.TheVariants as section
use Rattle.roster.specs.Keys.{Asked, asked_of, node_keys, server_keys}
use Rattle.roster.specs.Wrong.{Wrong, wrong, first, found_fault, key_wrong, keys_wrong, top_fault, places, places_with_node, place_wrong, top_wrong, items_of, is_tables, servers_in, server_wrong, each_wrong, node_wrong, servers_wrong, document_wrong, too_many, ntp_wrong}
use Rattle.roster.specs.Seen.{AreRight, IsRight}

-- where there is no first, there is none here and none behind
pub first_parts : (o : Option Wrong) (ws : List (Option Wrong)) → first (o ∷ ws) ≡ None → (o ≡ None) × (first ws ≡ None)
first_parts None ws e = (refl, e)
first_parts (Some w) ws e = cc

pub map_none : {A B : Type 0} (f : A → B) (o : Option A) → option_map f o ≡ None → o ≡ None
map_none f None e = refl
map_none f (Some x) e = cc

-- ---- the keys of a table

pub keys_are_right : (within : Section) (t : Members) (ks : List Asked) (rest : List (Option Wrong)) → first (map (key_wrong within t) ks ++ rest) ≡ None → AreRight ks t
keys_are_right within t [] rest e = tt
keys_are_right within t (k ∷ ks) rest e =
    let (here, behind) = first_parts (key_wrong within t k) (map (key_wrong within t) ks ++ rest) e in
    (map_none (wrong within k.name) (found_fault k (get_member k.name t)) here, keys_are_right within t ks rest behind)

-- ---- the top

-- equal texts
same_text : (k l : List ℕ) → slice_cmp nat_cmp k l ≡ Equal → k ≡ l
same_text k l e = (bytes_eq-Decides k l).0 (sym (is_eq-slice_cmp k l) ∙ ap is_eq e)

turned : (k l : List ℕ) (o : Ordering) → slice_cmp nat_cmp k l ≡ o → slice_cmp nat_cmp l k ≡ ordering_reverse o
turned k l o e = nat_list_cmp_total.antisymm l k ∙ ap ordering_reverse e

place_right : (k : List ℕ) (d : Option Data) → place_wrong (k, d) ≡ None → top_fault k d ≡ None
place_right k d e = map_none (wrong _ k) (top_fault k d) e

abbrev node : List ℕ
node = codes "node"

-- what is found at a key, here or behind
found_at : (k l : List ℕ) (d x : Data) (o : Ordering) (more : Option Data) → slice_cmp nat_cmp k l ≡ o → top_fault l (Some x) ≡ None
    → (more ≡ Some d → top_fault k (Some d) ≡ None) → match_ordering o more (Some x) more ≡ Some d → top_fault k (Some d) ≡ None
found_at k l d x Less more s right ih g = ih g
found_at k l d x Equal more s right ih g = rw (same_text k l s, ← same_Some x d g) right
found_at k l d x Greater more s right ih g = ih g

places_right : (k : List ℕ) (d : Data) (ms : Members) → first (map place_wrong (places ms)) ≡ None → get_member k ms ≡ Some d → top_fault k (Some d) ≡ None
places_right k d no_members e g = cc
places_right k d (member l x ms) e g =
    let (here, behind) = first_parts (place_wrong (l, Some x)) (map place_wrong (places ms)) e in
    found_at k l d x (slice_cmp nat_cmp k l) (get_member k ms) refl (place_right l (Some x) here) (λ g'. places_right k d ms behind g') g

-- the first key is right, and so are those behind
split : (l : List ℕ) (x : Data) (ms : Members) (o : Ordering)
    → first (map place_wrong (match_ordering o ((l, Some x) ∷ places_with_node ms) (places (member l x ms)) ((node, None) ∷ places (member l x ms)))) ≡ None
    → (top_fault l (Some x) ≡ None) × ((first (map place_wrong (places_with_node ms)) ≡ None) ⊎ (first (map place_wrong (places ms)) ≡ None))
split l x ms Less e = let p = first_parts (place_wrong (l, Some x)) (map place_wrong (places_with_node ms)) e in (place_right l (Some x) p.0, inl p.1)
split l x ms Equal e = let p = first_parts (place_wrong (l, Some x)) (map place_wrong (places ms)) e in (place_right l (Some x) p.0, inr p.1)
split l x ms Greater e = cc

pub top_right : (k : List ℕ) (d : Data) (ms : Members) → first (map place_wrong (places_with_node ms)) ≡ None → get_member k ms ≡ Some d → top_fault k (Some d) ≡ None
top_right k d no_members e g = cc
top_right k d (member l x ms) e g =
    let p = split l x ms (slice_cmp nat_cmp l node) e in
    let deeper : first (map place_wrong (places_with_node ms)) ≡ None → get_member k ms ≡ Some d → top_fault k (Some d) ≡ None = top_right k d ms in
    found_at k l d x (slice_cmp nat_cmp k l) (get_member k ms) refl p.0 (λ g'. elim p.1 [ inl a ↦ deeper a g' | inr b ↦ places_right k d ms b g' ]) g

node_at : (l : List ℕ) (x : Data) (ms : Members) (o : Ordering) → slice_cmp nat_cmp l node ≡ o
    → first (map place_wrong (match_ordering o ((l, Some x) ∷ places_with_node ms) (places (member l x ms)) ((node, None) ∷ places (member l x ms)))) ≡ None
    → (first (map place_wrong (places_with_node ms)) ≡ None → IsSome (get_member node ms)) → IsSome (get_member node (member l x ms))
node_at l x ms Less s e ih = rw (turned l node Less s) (ih (first_parts (place_wrong (l, Some x)) (map place_wrong (places_with_node ms)) e).1)
node_at l x ms Equal s e ih = rw (turned l node Equal s) refl
node_at l x ms Greater s e ih = cc

has_node : (ms : Members) → first (map place_wrong (places_with_node ms)) ≡ None → IsSome (get_member node ms)
has_node no_members e = cc
has_node (member l x ms) e = node_at l x ms (slice_cmp nat_cmp l node) refl e (has_node ms)

pub some_is : {A : Type 0} (o : Option A) → IsSome o → (x : A) × (o ≡ Some x)
some_is None e = cc
some_is (Some x) e = (x, refl)

kind_right : (b : Bool) → (if b then None else Some cause.Kind) ≡ None → b ≡ true
kind_right true e = refl
kind_right false e = cc

-- ---- the whole

pub document_parts : (doc : Members) → document_wrong doc ≡ None → (top_wrong doc ≡ None) × (node_wrong doc ≡ None) × (servers_wrong (servers_in doc) ≡ None)
document_parts doc e =
    let p = first_parts (top_wrong doc) (node_wrong doc ∷ servers_wrong (servers_in doc) ∷ []) e in
    let q = first_parts (node_wrong doc) (servers_wrong (servers_in doc) ∷ []) p.1 in
    let r = first_parts (servers_wrong (servers_in doc)) [] q.1 in
    (p.0, q.0, r.0)

-- the node's table, and what is right in it
pub record NodeTable (doc : Members) : Type 0 where
  pub value : Data
  pub found : get_member (codes "node") doc ≡ Some value
  pub table : Members
  pub is_table : as_table value ≡ Some table
  pub right : AreRight (asked_of node_keys) table

pub node_right : (doc : Members) → document_wrong doc ≡ None → NodeTable doc
node_right doc e =
    let parts = document_parts doc e in
    let v = some_is (get_member node doc) (has_node doc parts.0) in
    let t = some_is (as_table v.0) (kind_right (is_some (as_table v.0)) (top_right node v.0 doc parts.0 v.1)) in
    let keys : first (keys_wrong section.Node (asked_of node_keys) t.0) ≡ None = rw (v.1, t.1) at parts.1 in
    record { value = v.0; found = v.1; table = t.0; is_table = t.1; right = keys_are_right section.Node t.0 (asked_of node_keys) _ keys }

-- ---- the servers

tables_at : (ds : List Data) → list_all (λ e. is_some (as_table e)) ds ≡ true → AllByRecursion (λ e. IsSome (as_table e)) ds
tables_at [] e = tt
tables_at (d ∷ ds) e = let p = and_parts (is_some (as_table d)) (list_all (λ e. is_some (as_table e)) ds) e in (p.0, tables_at ds p.1)

array_tables : (d : Data) (o : Option Items) → option_map_or (λ ds. list_all (λ e. is_some (as_table e)) (items_of ds)) o false ≡ true
    → AllByRecursion (λ e. IsSome (as_table e)) (option_map_or items_of o [])
array_tables d None e = tt
array_tables d (Some ds) e = tables_at (items_of ds) e

pub servers_at : (doc : Members) (o : Option Data) → get_member (codes "server") doc ≡ o → top_wrong doc ≡ None → AllByRecursion (λ e. IsSome (as_table e)) (option_map_or items_of (option_and_then as_array o) [])
servers_at doc None g e = tt
servers_at doc (Some d) g e = array_tables d (as_array d) (kind_right (is_tables d) (top_right (codes "server") d doc e g))

server_right_at : (within : Section) (dup : Option Wrong) (o : Option Members) → option_and_then (λ table. first (first (keys_wrong within (asked_of server_keys) table) ∷ dup ∷ [])) o ≡ None
    → IsSome o → IsSomeAnd o (AreRight (asked_of server_keys))
server_right_at within dup None e h = cc
server_right_at within dup (Some t) e h = keys_are_right within t (asked_of server_keys) _ (first_parts (first (keys_wrong within (asked_of server_keys) t)) (dup ∷ []) e).0

each_right : (earlier ds : List Data) → each_wrong earlier ds ≡ None → AllByRecursion (λ e. IsSome (as_table e)) ds → AllByRecursion (IsRight (asked_of server_keys)) ds
each_right earlier [] e all = tt
each_right earlier (d ∷ ds) e all =
    let p = first_parts (server_wrong earlier d) (each_wrong (earlier ++ d ∷ []) ds ∷ []) e in
    let q = first_parts (each_wrong (earlier ++ d ∷ []) ds) [] p.1 in
    (server_right_at _ _ (as_table d) p.0 all.0, each_right (earlier ++ d ∷ []) ds q.0 all.1)

pub few_at : (b : Bool) (w : Wrong) → (if b then Some w else None) ≡ None → b ≡ false
few_at true w e = cc
few_at false w e = refl

-- each server is right, and they are not too many
pub servers_right : (doc : Members) → document_wrong doc ≡ None → AllByRecursion (IsRight (asked_of server_keys)) (servers_in doc) × (length (servers_in doc) ≤ MAX_SERVERS)
servers_right doc e =
    let parts = document_parts doc e in
    let p = first_parts (too_many (servers_in doc)) (each_wrong [] (servers_in doc) ∷ ntp_wrong (servers_in doc) ∷ []) parts.2 in
    let q = first_parts (each_wrong [] (servers_in doc)) (ntp_wrong (servers_in doc) ∷ []) p.1 in
    let few = few_at (nat_lt MAX_SERVERS (length (servers_in doc))) _ p.0 in
    (each_right [] (servers_in doc) q.0 (servers_at doc (get_member (codes "server") doc) refl parts.0), grind (arith, nat_tests, few))

-- ---- values beside their data

pub some_of_map : {A B : Type 0} (f : A → B) (o : Option A) (x : B) → option_map f o ≡ Some x → IsSome o
some_of_map f None x e = cc
some_of_map f (Some y) x e = refl

pub map_at : {A B : Type 0} (f : A → B) (o : Option A) (y : A) (x : B) → option_map f o ≡ Some x → o ≡ Some y → f y ≡ x
map_at f o y x e is = same_Some (f y) x (ap (option_map f) (sym is) ∙ e)
