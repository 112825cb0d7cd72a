-- Octets are the file of one roster, or they are refused once.
use Rattle.std.proofs.Common.{◌≡◌, ℕ, ◌<◌, ◌≤◌, Bool, true, false, List, [], ◌∷◌, length, ℤ, pos, inl, inr, Option, Some, None, refl, sym, ap, subst, ◌∙◌, arith}
use Rattle.std.specs.Prelude.{◌⊎◌, nat_lt, codes, option_and_then, if◌then◌else◌}
use Rattle.std.specs.List.{AllZip}
use Rattle.std.specs.Option.{option_map_or}
use Rattle.std.proofs.lemmas.Bool.Decides.{nat_tests}
use Rattle.std.proofs.lemmas.Option.{same_Some}
use Rattle.toml.specs.Data.{Data, Members, as_table, get_member}
use Rattle.roster.specs.declared.limits.TheConstants.{MAX_OCTETS}
use Rattle.roster.specs.declared.cause.RosterCause.{RosterCause}
use Rattle.roster.specs.declared.cause.RosterCause.TheVariants as cause
use Rattle.roster.specs.declared.cause.RosterFault.TheVariants as fault
use Rattle.roster.specs.declared.first_wrong.Section.TheVariants as section
use Rattle.roster.specs.declared.settings.Settings.{Settings}
use Rattle.roster.specs.declared.entry.Entry.{Entry}
use Rattle.roster.specs.Wrong.{Wrong, wrong, path_of, document_of, document_wrong, first_wrong, servers_in}
use Rattle.roster.specs.RosterData.{RosterData}
use Rattle.roster.specs.Rosters.{IsRoster, Refuses, GivesSettings, GivesEntry}
use Rattle.roster.proofs.ReadIs.{long_is, no_document_is}
use Rattle.roster.proofs.Giving.{roster_of}
use Rattle.roster.proofs.Equal.{equal_settings, equal_entries, equal_rosters}

-- ---- one of the two

-- a file of which nothing is wrong
pub record RightFile (octets : List ℕ) : Type 0 where
  pub short : length octets ≤ MAX_OCTETS
  pub doc : Members
  pub is_document : document_of octets ≡ Some doc
  pub right : document_wrong doc ≡ None

right_at : (octets : List ℕ) (long : Bool) (o : Option Members) → nat_lt MAX_OCTETS (length octets) ≡ long → document_of octets ≡ o
    → (if long then Some (wrong section.File [] cause.Long) else option_map_or document_wrong o (Some (wrong section.File [] cause.Document))) ≡ None → RightFile octets
right_at octets true o l d e = cc
right_at octets false None l d e = cc
right_at octets false (Some doc) l d e = record { short = grind (arith, nat_tests, l); doc = doc; is_document = d; right = e }

pub right_file : (octets : List ℕ) → first_wrong octets ≡ None → RightFile octets
right_file octets e = right_at octets (nat_lt MAX_OCTETS (length octets)) (document_of octets) refl refl e

abbrev IsRefused : List ℕ → Type 0
IsRefused octets = (path : List ℕ) × (cause : RosterCause) × Refuses octets (fault.Wrong path cause)

either_at : (octets : List ℕ) (o : Option Wrong) → first_wrong octets ≡ o → ((r : RosterData) × IsRoster octets r) ⊎ IsRefused octets
either_at octets None e =
    let f = right_file octets e in
    let (r, gives) = roster_of f.doc f.right in
    inl (r, record { right = e; doc = f.doc; is_document = f.is_document; gives = gives })
either_at octets (Some w) e = inr (path_of w, w.cause, (w, e, refl, refl))

pub either : (octets : List ℕ) → ((r : RosterData) × IsRoster octets r) ⊎ ((path : List ℕ) × (cause : RosterCause) × Refuses octets (fault.Wrong path cause))
either octets = either_at octets (first_wrong octets) refl

none_is_some : {A : Type 0} (o : Option A) (x : A) → o ≡ None → o ≡ Some x → ⊥
none_is_some o x e f = let clash : None ≡ Some x = sym e ∙ f in cc

pub not_both : (octets path : List ℕ) (cause : RosterCause) (r : RosterData) → IsRoster octets r → Refuses octets (fault.Wrong path cause) → ⊥
not_both octets path cause r is refused = none_is_some (first_wrong octets) refused.0 is.right refused.1

pub one_refusal : (octets path other : List ℕ) (cause reason : RosterCause) → Refuses octets (fault.Wrong path cause) → Refuses octets (fault.Wrong other reason) → (path ≡ other) × (cause ≡ reason)
one_refusal octets path other cause reason a b =
    let same : a.0 ≡ b.0 = same_Some a.0 b.0 (sym a.1 ∙ b.1) in
    (a.2 ∙ ap path_of same ∙ sym b.2, a.3 ∙ ap (λ (w : Wrong). w.cause) same ∙ sym b.3)

-- ---- one roster

same_of : {A : Type 0} {o : Option A} (x y : A) → o ≡ Some x → o ≡ Some y → x ≡ y
same_of x y e f = same_Some x y (sym e ∙ f)

pub same_number : {o : Option ℤ} (m n : ℕ) → o ≡ Some (pos m) → o ≡ Some (pos n) → m ≡ n
same_number m n e f = let same : pos m ≡ pos n = same_of (pos m) (pos n) e f in cc

same_settings : (node : Members) (s t : Settings) → GivesSettings node s → GivesSettings node t → s ≡ t
same_settings node s t a b =
    let p = a.others in
    let q = b.others in
    equal_settings s t (same_of s.name t.name a.name b.name) (same_of s.role t.role p.role q.role) (same_of s.courier t.courier p.courier q.courier) (same_of s.listen t.listen p.listen q.listen)
    (same_number s.epoch t.epoch p.epoch q.epoch) (same_number s.required t.required p.required q.required)
    (same_number s.period t.period p.period q.period) (same_number s.hold t.hold p.hold q.hold)
    (same_number s.timeout t.timeout p.timeout q.timeout) (same_number s.max_inaccuracy t.max_inaccuracy p.max_inaccuracy q.max_inaccuracy)
    (same_number s.drift_ppm t.drift_ppm p.drift_ppm q.drift_ppm) (same_number s.resolution t.resolution p.resolution q.resolution)
    (same_number s.lease t.lease p.lease q.lease) (same_number s.slew_ppm t.slew_ppm p.slew_ppm q.slew_ppm)
    (same_number s.tolerance t.tolerance p.tolerance q.tolerance)

same_entry : (d : Data) (e f : Entry) → GivesEntry d e → GivesEntry d f → e ≡ f
same_entry d e f a b = equal_entries e f (same_of e.name f.name a.name b.name) (same_of e.kind f.kind a.kind b.kind) (same_of e.address f.address a.address b.address)

same_entries : (ds : List Data) (es fs : List Entry) → AllZip GivesEntry ds es → AllZip GivesEntry ds fs → es ≡ fs
same_entries [] [] [] a b = refl
same_entries [] [] (f ∷ fs) a b = absurd b
same_entries [] (e ∷ es) fs a b = absurd a
same_entries (d ∷ ds) [] fs a b = absurd a
same_entries (d ∷ ds) (e ∷ es) [] a b = absurd b
same_entries (d ∷ ds) (e ∷ es) (f ∷ fs) a b =
    ap (λ x. x ∷ es) (same_entry d e f a.0 b.0) ∙ ap (λ xs. f ∷ xs) (same_entries ds es fs a.1 b.1)

pub one_roster : (octets : List ℕ) (r s : RosterData) → IsRoster octets r → IsRoster octets s → r ≡ s
one_roster octets r s a b =
    let doc : a.doc ≡ b.doc = same_of a.doc b.doc a.is_document b.is_document in
    let node : a.gives.node ≡ b.gives.node = same_of a.gives.node b.gives.node a.gives.has_node (ap (λ d. option_and_then as_table (get_member (codes "node") d)) doc ∙ b.gives.has_node) in
    let settings = same_settings a.gives.node r.settings s.settings a.gives.settings (subst (λ n. GivesSettings n s.settings) (sym node) b.gives.settings) in
    let entries = same_entries (servers_in a.doc) r.entries s.entries a.gives.servers (subst (λ d. AllZip GivesEntry (servers_in d) s.entries) (sym doc) b.gives.servers) in
    equal_rosters r s settings entries

-- ---- the whole file

pub long_refused : (octets : List ℕ) → MAX_OCTETS < length octets → Refuses octets (fault.Wrong [] cause.Long)
long_refused octets h = (wrong section.File [] cause.Long, long_is octets h, refl, refl)

pub no_document_refused : (octets : List ℕ) → length octets ≤ MAX_OCTETS → document_of octets ≡ None → Refuses octets (fault.Wrong [] cause.Document)
no_document_refused octets h none = (wrong section.File [] cause.Document, no_document_is octets h none, refl, refl)
