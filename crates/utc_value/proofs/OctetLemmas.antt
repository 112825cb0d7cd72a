-- Numbers as octets and back, and the three fields of a timestamp's octets.
use Rattle.std.proofs.Common.{◌≡◌, ◌↔◌, inl, inr, ℕ, zero, suc, ◌+◌, ◌-◌, ◌*◌, ◌/◌, ◌%◌, ◌^◌, ◌<◌, ◌≤◌, List, [], ◌∷◌, ◌++◌, length, take, drop, slice_index, refl, sym, ap, ◌∙◌, arith, append_assoc, Option, Some, None, Result, Ok, Err, ℤ, pos, negsuc, ◌-ℤ◌, w64, to_z, of_z, FitsSigned}
use Rattle.std.proofs.Math.Nat.{div-div-eq-div-mul, pow-succ'}
use Rattle.std.proofs.lemmas.List.{take-append-drop, drop-drop, length-drop, take_all, get_or-drop}
use Rattle.std.proofs.lemmas.Int.{ints, to_z-of_z}
use Rattle.std.proofs.lemmas.Bool.{lt-ltb, le-ltb, cases_lt}
use Rattle.std.specs.Int.{byte_at, bytes_low_first}
use Rattle.std.specs.Option.{unwrap_or}
use Rattle.byteorder.specs.Endian.{little_from, little_bytes, little_number}
use Rattle.byteorder.specs.Numbers.{little_from-cons, little_number-reads_back}
use Rattle.utc_value.specs.declared.Kind.{Kind}
use Rattle.utc_value.specs.declared.Kind.TheVariants.{Absolute, Relative}
use Rattle.utc_value.specs.declared.BytesFault.{BytesFault}
use Rattle.utc_value.specs.declared.BytesFault.TheVariants.{Tdf}
use Rattle.utc_value.specs.Stamp.{Stamp, IsInaccuracy, IsTdf, IsTdfOf, IsInRange}
use Rattle.utc_value.specs.Octets.{twos_complement, signed_of, octets_of, version_of, version_in, tdf_in, IsVersion, IsTdfOfVersion}

-- an octet of a number is the octet below it of the number without its lowest octet
byte_at-suc : (i x : ℕ) → byte_at (suc i) x ≡ byte_at i (x / 256)
byte_at-suc zero x = refl
byte_at-suc (suc i) x =
    ap (λ (p : ℕ). x / p % 256) (pow-succ' 256 (suc i)) ∙ ap (λ (y : ℕ). y % 256) (sym (div-div-eq-div-mul x 256 (256 ^ suc i)))

-- the same of all octets
bytes_low_first-suc : (i n x : ℕ) → bytes_low_first (suc i) n x ≡ bytes_low_first i n (x / 256)
bytes_low_first-suc i zero x = refl
bytes_low_first-suc i (suc n) x = rw (byte_at-suc i x, bytes_low_first-suc (suc i) n x) refl

-- the octets of the number that octets spell are those octets
pub little_bytes-number : (n : ℕ) (xs : List ℕ) → n ≤ length xs → ((i : ℕ) → slice_index xs i < 256)
    → bytes_low_first 0 n (little_from 0 n xs) ≡ take n xs
little_bytes-number zero xs h octets = refl
little_bytes-number (suc n) [] h octets = absurd (omega arith)
little_bytes-number (suc n) (a ∷ xs) h octets =
    let first : a < 256 = octets 0 in
    let m : ℕ = little_from 0 n xs in
    let moved = little_from-cons 0 n a xs in
    let low : (a + 256 * little_from 0 n xs) % 256 ≡ a = omega arith in
    let high : (a + 256 * little_from 0 n xs) / 256 ≡ little_from 0 n xs = omega arith in
    let rest = little_bytes-number n xs (omega arith) (λ i. octets (suc i)) in
    rw (moved, low, bytes_low_first-suc 0 n (a + 256 * little_from 0 n xs), high, rest) refl

-- sixteen octets are the octets of their three numbers
pub spelled_by_fields : (b : List ℕ) (x y z : ℕ) → length b ≡ 16 → ((i : ℕ) → slice_index b i < 256)
    → x ≡ little_number 8 b → y ≡ little_number 6 (drop 8 b) → z ≡ little_number 2 (drop 14 b)
    → (little_bytes 8 x ++ little_bytes 6 y) ++ little_bytes 2 z ≡ b
spelled_by_fields b x y z len octets ex ey ez =
    let bx = ap (bytes_low_first 0 8) ex ∙ little_bytes-number 8 b (omega arith) octets in
    let by = ap (bytes_low_first 0 6) ey ∙ little_bytes-number 6 (drop 8 b) (omega (arith, length-drop 8 b)) (λ i. rw (get_or-drop 8 b i 0) (octets (8 + i))) in
    let bz = ap (bytes_low_first 0 2) ez ∙ little_bytes-number 2 (drop 14 b) (omega (arith, length-drop 14 b)) (λ i. rw (get_or-drop 14 b i 0) (octets (14 + i))) in
    let last : take 2 (drop 14 b) ≡ drop 14 b = take_all 2 (drop 14 b) (omega (arith, length-drop 14 b)) in
    let middle : take 6 (drop 8 b) ++ drop 6 (drop 8 b) ≡ drop 8 b = take-append-drop 6 (drop 8 b) in
    let join : (take 8 b ++ take 6 (drop 8 b)) ++ take 2 (drop 14 b) ≡ b =
    rw (last, append_assoc (take 8 b) (take 6 (drop 8 b)) (drop 14 b))
    (ap (λ (l : List ℕ). take 8 b ++ (take 6 (drop 8 b) ++ l)) (sym (drop-drop 6 8 b))
    ∙ ap (λ (l : List ℕ). take 8 b ++ l) middle ∙ take-append-drop 8 b) in
    ap (λ (l : List ℕ). (l ++ little_bytes 6 y) ++ little_bytes 2 z) bx
    ∙ ap (λ (l : List ℕ). (take 8 b ++ l) ++ little_bytes 2 z) by
    ∙ ap (λ (l : List ℕ). (take 8 b ++ take 6 (drop 8 b)) ++ l) bz
    ∙ join

-- numbers are those that their octets spell
pub fields_spelled : (b : List ℕ) (x y z : ℕ) → x < 256 ^ 8 → y < 256 ^ 6 → z < 256 ^ 2
    → (little_bytes 8 x ++ little_bytes 6 y) ++ little_bytes 2 z ≡ b
    → (x ≡ little_number 8 b) × (y ≡ little_number 6 (drop 8 b)) × (z ≡ little_number 2 (drop 14 b))
fields_spelled b x y z hx hy hz e = (
  sym (little_number-reads_back 8 x (little_bytes 6 y ++ little_bytes 2 z) hx) ∙ ap (λ (l : List ℕ). little_number 8 l) e,
  sym (little_number-reads_back 6 y (little_bytes 2 z) hy) ∙ ap (λ (l : List ℕ). little_number 6 (drop 8 l)) e,
  sym (little_number-reads_back 2 z [] hz) ∙ ap (λ (l : List ℕ). little_number 2 (drop 14 l)) e,
)

-- two's complement of 64 bits is the machine's
pub twos_complement-64 : (z : ℤ) → twos_complement 64 z ≡ of_z w64 z
twos_complement-64 (pos n) = refl
twos_complement-64 (negsuc n) = refl

-- an inaccuracy is that which its 48 bits stand for
pub same_inaccuracy : (a b : Option ℕ) → IsInaccuracy a → IsInaccuracy b → unwrap_or a (2 ^ 48 - 1) ≡ unwrap_or b (2 ^ 48 - 1) → a ≡ b
same_inaccuracy None None ha hb e = refl
same_inaccuracy None (Some j) ha hb e = absurd (omega arith)
same_inaccuracy (Some i) None ha hb e = absurd (omega arith)
same_inaccuracy (Some i) (Some j) ha hb e = ap (λ (n : ℕ). Some n) e

-- twelve bits hold a time differential factor
twelve_bits : (t : ℤ) → IsTdf t → (twos_complement 12 t < 2 ^ 12) × (signed_of 12 (twos_complement 12 t) ≡ t)
twelve_bits (pos m) h =
    let small : m < 2048 = omega (arith, ints) in
    (omega arith, rw (lt-ltb m 2048 small) refl)
twelve_bits (negsuc m) h =
    let small : m < 1439 = omega (arith, ints) in
    let big : 2048 ≤ 4096 - suc m = omega arith in
    (omega arith, rw (le-ltb (4096 - suc m) 2048 big) (omega (arith, ints)))

-- and any number of twelve bits is one in two's complement
signed_twelve : (m : ℕ) → m < 4096 → twos_complement 12 (signed_of 12 m) ≡ m
signed_twelve m h = elim (cases_lt m 2048) [
  | inl low ↦ rw (lt-ltb m 2048 low) refl
  | inr high ↦
      let below : pos m -ℤ pos 4096 ≡ negsuc (4095 - m) = omega (arith, ints) in
      rw (le-ltb m 2048 high, below) (omega arith)
]

-- so does its kind allow
IsTdf-of : (k : Kind) (t : ℤ) → IsTdfOf k t → IsTdf t
IsTdf-of Absolute t h = h
IsTdf-of Relative t h = rw h (omega (arith, ints), omega (arith, ints))

pub factor_bits : (k : Kind) (t : ℤ) → IsTdfOf k t → twos_complement 12 t < 2 ^ 12
factor_bits k t h = (twelve_bits t (IsTdf-of k t h)).0

-- a kind is known by its version
same_kind : (k l : Kind) → version_of k ≡ version_of l → k ≡ l
same_kind Absolute Absolute e = refl
same_kind Relative Relative e = refl
same_kind Absolute Relative e = absurd (omega arith)
same_kind Relative Absolute e = absurd (omega arith)

-- kind and time differential factor are those that the last field stands for
pub same_last : (k l : Kind) (t : ℤ) (n : ℕ) → IsTdfOf l t → n ≡ version_of l * 2 ^ 12 + twos_complement 12 t → version_of k ≡ n / 2 ^ 12
    → (k ≡ l) × (signed_of 12 (n % 2 ^ 12) ≡ t)
same_last k l t n h e v =
    let bits = twelve_bits t (IsTdf-of l t h) in
    let low : n % 2 ^ 12 ≡ twos_complement 12 t = omega (arith, bits.0) in
    let high : n / 2 ^ 12 ≡ version_of l = omega (arith, bits.0) in
    (same_kind k l (v ∙ high), ap (λ (x : ℕ). signed_of 12 x) low ∙ bits.1)

-- the last field is made of the version and the time differential factor that were read from it
pub last_of_parts : (k : Kind) (t : ℤ) (n : ℕ) → version_of k ≡ n / 2 ^ 12 → t ≡ signed_of 12 (n % 2 ^ 12) → n ≡ version_of k * 2 ^ 12 + twos_complement 12 t
last_of_parts k t n v e =
    let low : twos_complement 12 t ≡ n % 2 ^ 12 = ap (λ (z : ℤ). twos_complement 12 z) e ∙ signed_twelve (n % 2 ^ 12) (omega arith) in
    omega arith

-- a kind allows what its version allows
pub allowed_by_version : (k : Kind) (t : ℤ) → IsTdfOf k t ↔ IsTdfOfVersion (version_of k) t
allowed_by_version Absolute t = (λ h. (h, λ e. absurd (omega arith)), λ h. h.0)
allowed_by_version Relative t = (λ h. (IsTdf-of Relative t h, λ e. h), λ h. h.1 refl)

-- a kind's version is one
pub version_is_one : (k : Kind) → IsVersion (version_of k)
version_is_one Absolute = inl refl
version_is_one Relative = inr refl

-- a refusal by the time differential factor comes exactly where the octets ask for it
pub refused_tdf : (k : Kind) (t found : ℤ) (b : List ℕ) → version_of k ≡ version_in b → t ≡ tdf_in b → ¬ IsTdfOf k t
    → ◌≡◌ {A = Result Stamp BytesFault} (Err (Tdf t)) (Err (Tdf found)) ↔ ((found ≡ tdf_in b) × IsVersion (version_in b) × (¬ IsTdfOfVersion (version_in b) found))
refused_tdf k t found b ev et refused = (
  λ e.
      let same : found ≡ t = cc in
      (same ∙ et, rw ev at (version_is_one k), λ h. refused ((allowed_by_version k t).1 (rw (ev, ← same) h))),
  λ h. ap (λ (z : ℤ). Err (Tdf z)) (et ∙ sym h.0),
)

-- and does not come where it is allowed
pub accepted_tdf : (k : Kind) (t found : ℤ) (b : List ℕ) (s : Stamp) → version_of k ≡ version_in b → t ≡ tdf_in b → IsTdfOf k t
    → ◌≡◌ {A = Result Stamp BytesFault} (Ok s) (Err (Tdf found)) ↔ ((found ≡ tdf_in b) × IsVersion (version_in b) × (¬ IsTdfOfVersion (version_in b) found))
accepted_tdf k t found b s ev et allowed = (
  λ e. (cc),
  λ h.
      let same : found ≡ t = h.0 ∙ sym et in
      absurd (h.2 (rw (← ev, same) ((allowed_by_version k t).0 allowed))),
)

machine_fits : (z : ℤ) → FitsSigned w64 z → of_z w64 z < 256 ^ 8
machine_fits (pos n) h = omega (arith, h.sfits)
machine_fits (negsuc n) h = omega (arith, h.sfits)

inaccuracy_bits : (a : Option ℕ) → IsInaccuracy a → unwrap_or a (2 ^ 48 - 1) < 256 ^ 6
inaccuracy_bits None h = omega arith
inaccuracy_bits (Some i) h = omega arith

last_bits : (k : Kind) (n : ℕ) → n < 2 ^ 12 → version_of k * 2 ^ 12 + n < 256 ^ 2
last_bits Absolute n h = omega arith
last_bits Relative n h = omega arith

-- octets are those of the timestamp that was read from them
pub read_is_spelled : (s : Stamp) (b : List ℕ) → length b ≡ 16 → ((i : ℕ) → slice_index b i < 256)
    → of_z w64 s.time ≡ little_number 8 b → unwrap_or s.inaccuracy (2 ^ 48 - 1) ≡ little_number 6 (drop 8 b)
    → version_of s.kind ≡ version_in b → s.tdf ≡ tdf_in b → octets_of s ≡ b
unfolding octets_of
read_is_spelled s b len octets time inaccuracy version tdf =
    spelled_by_fields b (twos_complement 64 s.time) (unwrap_or s.inaccuracy (2 ^ 48 - 1)) (version_of s.kind * 2 ^ 12 + twos_complement 12 s.tdf)
    len octets (twos_complement-64 s.time ∙ time) inaccuracy (sym (last_of_parts s.kind s.tdf (little_number 2 (drop 14 b)) version tdf))

-- what a timestamp's octets give
pub record Gives (s : Stamp) (b : List ℕ) : Type 0 where
  pub time : of_z w64 s.time ≡ little_number 8 b
  pub inaccuracy : unwrap_or s.inaccuracy (2 ^ 48 - 1) ≡ little_number 6 (drop 8 b)
  pub last : little_number 2 (drop 14 b) ≡ version_of s.kind * 2 ^ 12 + twos_complement 12 s.tdf

pub gives_parts : (s : Stamp) (b : List ℕ) → IsInRange s → octets_of s ≡ b → Gives s b
unfolding octets_of
gives_parts s b h e =
    let time_fits : twos_complement 64 s.time < 256 ^ 8 = rw (twos_complement-64 s.time) (machine_fits s.time h.time_fits) in
    let bits = twelve_bits s.tdf (IsTdf-of s.kind s.tdf h.tdf_fits) in
    let parts = fields_spelled b (twos_complement 64 s.time) (unwrap_or s.inaccuracy (2 ^ 48 - 1)) (version_of s.kind * 2 ^ 12 + twos_complement 12 s.tdf)
    time_fits (inaccuracy_bits s.inaccuracy h.inaccuracy_fits) (last_bits s.kind (twos_complement 12 s.tdf) bits.0) e in
    record {
      time = sym (twos_complement-64 s.time) ∙ parts.0;
      inaccuracy = parts.1;
      last = sym parts.2;
    }

-- the timestamp that was read is the one whose octets these are
pub read_is_given : (s : Stamp) (b : List ℕ) (time : ℤ) (inaccuracy : Option ℕ) (tdf : ℤ) (kind : Kind)
    → FitsSigned w64 time → of_z w64 time ≡ little_number 8 b
    → IsInaccuracy inaccuracy → unwrap_or inaccuracy (2 ^ 48 - 1) ≡ little_number 6 (drop 8 b)
    → version_of kind ≡ version_in b → tdf ≡ tdf_in b
    → IsInRange s → octets_of s ≡ b
    → ◌≡◌ {A = Stamp} (record { time = time; inaccuracy = inaccuracy; tdf = tdf; kind = kind }) s
read_is_given s b time inaccuracy tdf kind fits et hi ei ev ed h e =
    let gives = gives_parts s b h e in
    let times : time ≡ s.time =
    sym (to_z-of_z w64 time fits) ∙ ap (to_z w64) (et ∙ sym gives.time) ∙ to_z-of_z w64 s.time h.time_fits in
    let inaccuracies : inaccuracy ≡ s.inaccuracy = same_inaccuracy inaccuracy s.inaccuracy hi h.inaccuracy_fits (ei ∙ sym gives.inaccuracy) in
    let last = same_last kind s.kind s.tdf (little_number 2 (drop 14 b)) h.tdf_fits gives.last ev in
    let tdfs : tdf ≡ s.tdf = ed ∙ last.1 in
    let kinds : kind ≡ s.kind = last.0 in
    rw (times, inaccuracies, tdfs, kinds) refl
