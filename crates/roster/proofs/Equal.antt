-- Values that hold facts of their numbers are equal where their other fields are.
use Rattle.std.proofs.Common.{◌≡◌, ℕ, ◌≤◌, Bool, List, refl, ap, subst, ◌∙◌}
use Rattle.std.proofs.Math.Bridge.{le_prop}
use Rattle.slew_clock.specs.declared.rates.TheConstants.{GREATEST_DRIFT_PPM, GREATEST_RESOLUTION, LEAST_LEASE, GREATEST_LEASE, LEAST_SLEW_PPM, GREATEST_SLEW_PPM, LEAST_TOLERANCE, GREATEST_TOLERANCE}
use Rattle.dts_base.specs.declared.address.Address.{Address}
use Rattle.roster.specs.declared.limits.TheConstants.{GREATEST_LISTEN_PORT, LEAST_REQUIRED, GREATEST_REQUIRED, LEAST_PERIOD, GREATEST_PERIOD, LEAST_HOLD, GREATEST_HOLD, LEAST_TIMEOUT, GREATEST_TIMEOUT, LEAST_MAX_INACCURACY, GREATEST_MAX_INACCURACY}
use Rattle.roster.specs.declared.settings.Role.{Role}
use Rattle.roster.specs.declared.settings.Settings.{Settings}
use Rattle.roster.specs.declared.entry.ServerKind.{ServerKind}
use Rattle.roster.specs.declared.entry.Entry.{Entry}
use Rattle.roster.specs.RosterData.{RosterData}

-- equal functions give the same of a value
plain : {A B : Type 0} {f g : A → B} → f ≡ g → (x y : A) → x ≡ y → f x ≡ g y
plain {f} {g} e x y same = ap (λ h. h x) e ∙ ap g same

-- of a number at most so great
at_most : {B : Type 0} {greatest : ℕ} {f g : (n : ℕ) → n ≤ greatest → B} → f ≡ g → (m n : ℕ) → m ≡ n
    → (to : m ≤ greatest) (to' : n ≤ greatest) → f m to ≡ g n to'
at_most {B} {greatest} {f} {g} e m n same to to' =
    let P : ℕ → Type 0 = λ k. (t : k ≤ greatest) → f m to ≡ g k t in
    subst P same (λ t. ap (λ h. h m to) e ∙ ap (g m) (le_prop to t)) to'

-- of a number from the one to the other
between : {B : Type 0} {least greatest : ℕ} {f g : (n : ℕ) → least ≤ n → n ≤ greatest → B} → f ≡ g → (m n : ℕ) → m ≡ n
    → (from : least ≤ m) (to : m ≤ greatest) (from' : least ≤ n) (to' : n ≤ greatest) → f m from to ≡ g n from' to'
between {B} {least} {greatest} {f} {g} e m n same from to from' to' =
    let P : ℕ → Type 0 = λ k. (s : least ≤ k) (t : k ≤ greatest) → f m from to ≡ g k s t in
    subst P same (λ s t. ap (λ h. h m from to) e ∙ ap (λ s'. g m s' to) (le_prop from s) ∙ ap (g m s) (le_prop to t)) from' to'

-- of an address whose port is at most so great
within_port : {B : Type 0} {greatest : ℕ} {f g : (a : Address) → a.port ≤ greatest → B} → f ≡ g → (a b : Address) → a ≡ b
    → (to : a.port ≤ greatest) (to' : b.port ≤ greatest) → f a to ≡ g b to'
within_port {B} {greatest} {f} {g} e a b same to to' =
    let P : Address → Type 0 = λ c. (t : c.port ≤ greatest) → f a to ≡ g c t in
    subst P same (λ t. ap (λ h. h a to) e ∙ ap (g a) (le_prop to t)) to'

abbrev settings : List ℕ → Role → Bool → (listen : Address) → listen.port ≤ GREATEST_LISTEN_PORT → ℕ
    → (required : ℕ) → LEAST_REQUIRED ≤ required → required ≤ GREATEST_REQUIRED
    → (period : ℕ) → LEAST_PERIOD ≤ period → period ≤ GREATEST_PERIOD → (hold : ℕ) → LEAST_HOLD ≤ hold → hold ≤ GREATEST_HOLD
    → (timeout : ℕ) → LEAST_TIMEOUT ≤ timeout → timeout ≤ GREATEST_TIMEOUT
    → (max_inaccuracy : ℕ) → LEAST_MAX_INACCURACY ≤ max_inaccuracy → max_inaccuracy ≤ GREATEST_MAX_INACCURACY
    → (drift_ppm : ℕ) → drift_ppm ≤ GREATEST_DRIFT_PPM → (resolution : ℕ) → resolution ≤ GREATEST_RESOLUTION
    → (lease : ℕ) → LEAST_LEASE ≤ lease → lease ≤ GREATEST_LEASE
    → (slew_ppm : ℕ) → LEAST_SLEW_PPM ≤ slew_ppm → slew_ppm ≤ GREATEST_SLEW_PPM
    → (tolerance : ℕ) → LEAST_TOLERANCE ≤ tolerance → tolerance ≤ GREATEST_TOLERANCE → Settings
settings name role courier listen listen_to epoch required required_from required_to period period_from period_to hold hold_from hold_to timeout timeout_from timeout_to max_inaccuracy max_inaccuracy_from max_inaccuracy_to drift_ppm drift_in_range resolution resolution_in_range lease lease_from lease_to slew_ppm slew_from slew_to tolerance tolerance_from tolerance_to = record {
  name = name;
  role = role;
  courier = courier;
  listen = listen;
  epoch = epoch;
  required = required;
  period = period;
  hold = hold;
  timeout = timeout;
  max_inaccuracy = max_inaccuracy;
  drift_ppm = drift_ppm;
  resolution = resolution;
  lease = lease;
  slew_ppm = slew_ppm;
  tolerance = tolerance;
  listen_to = listen_to;
  required_from = required_from;
  required_to = required_to;
  period_from = period_from;
  period_to = period_to;
  hold_from = hold_from;
  hold_to = hold_to;
  timeout_from = timeout_from;
  timeout_to = timeout_to;
  max_inaccuracy_from = max_inaccuracy_from;
  max_inaccuracy_to = max_inaccuracy_to;
  drift_in_range = drift_in_range;
  resolution_in_range = resolution_in_range;
  lease_from = lease_from;
  lease_to = lease_to;
  slew_from = slew_from;
  slew_to = slew_to;
  tolerance_from = tolerance_from;
  tolerance_to = tolerance_to;
}

pub equal_settings : (s t : Settings) → s.name ≡ t.name → s.role ≡ t.role → s.courier ≡ t.courier → s.listen ≡ t.listen
    → s.epoch ≡ t.epoch → s.required ≡ t.required → s.period ≡ t.period → s.hold ≡ t.hold → s.timeout ≡ t.timeout
    → s.max_inaccuracy ≡ t.max_inaccuracy → s.drift_ppm ≡ t.drift_ppm → s.resolution ≡ t.resolution → s.lease ≡ t.lease
    → s.slew_ppm ≡ t.slew_ppm → s.tolerance ≡ t.tolerance → s ≡ t
equal_settings s t name role courier listen epoch required period hold timeout max_inaccuracy drift_ppm resolution lease slew_ppm tolerance =
    let start : settings ≡ settings = refl in
    let to_name = plain start s.name t.name name in
    let to_role = plain to_name s.role t.role role in
    let to_courier = plain to_role s.courier t.courier courier in
    let to_listen = within_port to_courier s.listen t.listen listen s.listen_to t.listen_to in
    let to_epoch = plain to_listen s.epoch t.epoch epoch in
    let to_required = between to_epoch s.required t.required required s.required_from s.required_to t.required_from t.required_to in
    let to_period = between to_required s.period t.period period s.period_from s.period_to t.period_from t.period_to in
    let to_hold = between to_period s.hold t.hold hold s.hold_from s.hold_to t.hold_from t.hold_to in
    let to_timeout = between to_hold s.timeout t.timeout timeout s.timeout_from s.timeout_to t.timeout_from t.timeout_to in
    let to_max_inaccuracy = between to_timeout s.max_inaccuracy t.max_inaccuracy max_inaccuracy s.max_inaccuracy_from s.max_inaccuracy_to t.max_inaccuracy_from t.max_inaccuracy_to in
    let to_drift_ppm = at_most to_max_inaccuracy s.drift_ppm t.drift_ppm drift_ppm s.drift_in_range t.drift_in_range in
    let to_resolution = at_most to_drift_ppm s.resolution t.resolution resolution s.resolution_in_range t.resolution_in_range in
    let to_lease = between to_resolution s.lease t.lease lease s.lease_from s.lease_to t.lease_from t.lease_to in
    let to_slew_ppm = between to_lease s.slew_ppm t.slew_ppm slew_ppm s.slew_from s.slew_to t.slew_from t.slew_to in
    between to_slew_ppm s.tolerance t.tolerance tolerance s.tolerance_from s.tolerance_to t.tolerance_from t.tolerance_to

abbrev entry : List ℕ → ServerKind → Address → Entry
entry name kind address = record { name = name; kind = kind; address = address }

pub equal_entries : (e f : Entry) → e.name ≡ f.name → e.kind ≡ f.kind → e.address ≡ f.address → e ≡ f
equal_entries e f name kind address =
    let start : entry ≡ entry = refl in
    let to_name = plain start e.name f.name name in
    let to_kind = plain to_name e.kind f.kind kind in
    plain to_kind e.address f.address address

abbrev roster : Settings → List Entry → RosterData
roster settings entries = record { settings = settings; entries = entries }

pub equal_rosters : (r s : RosterData) → r.settings ≡ s.settings → r.entries ≡ s.entries → r ≡ s
equal_rosters r s settings entries =
    let start : roster ≡ roster = refl in
    let to_settings = plain start r.settings s.settings settings in
    plain to_settings r.entries s.entries entries
