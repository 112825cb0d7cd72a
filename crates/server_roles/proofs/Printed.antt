-- The texts of answers can be strings.
use Rattle.std.proofs.Common.{◌≡◌, ℕ, ◌+◌, ◌*◌, ◌^◌, ◌<◌, ◌≤◌, ◌%◌, Bool, true, List, [], ◌∷◌, ◌++◌, length, ℤ, pos, negsuc, Option, Some, None, suc, SFits, refl, lit≤, arith, length-append}
use Rattle.std.specs.Prelude.{◌&&◌, nat_le, decimal, codes, IfErr, Result, Ok, Err}
use Rattle.std.specs.Option.{ForSome}
use Rattle.std.specs.Fmt.{signed_decimal}
use Rattle.std.specs.Int.{w64}
use Rattle.std.specs.List.{list_all}
use Rattle.std.proofs.lemmas.Bool.Decides.{nat_tests}
use Rattle.std.proofs.lemmas.Fmt.{decimal_by_steps, length-decimal-le}
use Rattle.std.proofs.lemmas.Int.{ints}
use Rattle.std.proofs.lemmas.List.Folds.{list_all-append}
use Rattle.time_wire.proofs.Booleans.{both}
use Rattle.ndr.specs.Strings.{is_printed, is_text}
use Rattle.ndr.specs.declared.fault.WriteFault.{WriteFault}
use Rattle.ndr.specs.declared.fault.WriteFault.TheVariants as unwritten
use Rattle.slew_clock.specs.declared.limits.TheConstants.{GREATEST_INACCURACY}
use Rattle.roster.specs.Values.{is_name, is_name_octet}
use Rattle.roster.specs.declared.limits.TheConstants.{MAX_NAME}
use Rattle.roster.specs.declared.settings.Role.{Role}
use Rattle.roster.specs.declared.settings.Role.TheVariants as role
use Rattle.roster.specs.declared.settings.Settings.{Settings}
use Rattle.time_wire.specs.Spelling.{Writes}
use Rattle.dts_capture.specs.Log.{number_or_dash}
use Rattle.dts_capture.specs.Writing.{spaced}
use Rattle.server_roles.specs.Answering.{time_words, settings_words, settings_text, counts_words, role_name}

-- printed octets, at most so many
pub record IsPrinted (most : ℕ) (text : List ℕ) : Type 0 where
  pub short : length text ≤ most
  pub printed : list_all is_printed text ≡ true

pub joined : (j k : ℕ) (a b : List ℕ) → IsPrinted j a → IsPrinted k b → IsPrinted (j + k) (a ++ b)
joined j k a b f g = record {
  short = simp length-append (omega (arith, f.short, g.short));
  printed = rw (list_all-append is_printed a b, f.printed, g.printed) refl;
}

pub longer : (j k : ℕ) (a : List ℕ) → j ≤ k → IsPrinted j a → IsPrinted k a
longer j k a h f = record { short = omega (arith, f.short, h); printed = f.printed }

pub printed_is_text : (k : ℕ) (text : List ℕ) → k < 1024 → IsPrinted k text → is_text text ≡ true
printed_is_text k text h f =
    let short : nat_le (length text + 1) 1024 ≡ true = grind (arith, nat_tests, f.short, h) in
    rw (short, f.printed) refl

-- digits are printed
digit_printed : (d : ℕ) → d < 10 → is_printed (48 + d) ≡ true
digit_printed d h = grind (arith, nat_tests)

digits_printed : (n : ℕ) → n < 2 ^ 64 → list_all is_printed (decimal n) ≡ true
digits_printed n h = decimal_by_steps (λ _ ds. list_all is_printed ds ≡ true)
    (λ d small. rw (digit_printed d small) refl)
    (λ d ds _ e. rw (list_all-append is_printed ds ((48 + d % 10) ∷ []), e, digit_printed (d % 10) (omega arith)) refl)
    n h

pub number_printed : (n : ℕ) → n < 2 ^ 64 → IsPrinted 20 (decimal n)
number_printed n h = record { short = length-decimal-le 20 n (lit≤ tt) (omega arith) h; printed = digits_printed n h }

pub signed_printed : (z : ℤ) → SFits w64 z → IsPrinted 21 (signed_decimal z)
signed_printed (pos n) h = longer 20 21 (decimal n) (lit≤ tt) (number_printed n (omega (arith, ints, h)))
signed_printed (negsuc n) h =
    let digits = number_printed (suc n) (omega (arith, ints, h)) in
    record { short = omega (arith, digits.short); printed = digits.printed }

-- a word of a text
pub plain : (w : List ℕ) → length w ≤ 32 → list_all is_printed w ≡ true → IsPrinted 32 w
plain w h e = record { short = h; printed = e }

pub number_word : (n : ℕ) → n < 2 ^ 64 → IsPrinted 32 (decimal n)
number_word n h = longer 20 32 (decimal n) (lit≤ tt) (number_printed n h)

pub or_dash_word : (o : Option ℕ) → ForSome o (λ n. n ≤ GREATEST_INACCURACY) → IsPrinted 32 (number_or_dash o)
or_dash_word None h = plain (codes "-") (lit≤ tt) refl
or_dash_word (Some n) h =
    let small : n ≤ GREATEST_INACCURACY = h n refl in
    number_word n (omega (arith, small))

octet_printed : (o : ℕ) → is_name_octet o ≡ true → is_printed o ≡ true
octet_printed o e = grind (arith, nat_tests, e)

name_printed : (name : List ℕ) → list_all is_name_octet name ≡ true → list_all is_printed name ≡ true
name_printed [] e = refl
name_printed (o ∷ name) e =
    let parts = both (is_name_octet o) (list_all is_name_octet name) e in
    rw (octet_printed o parts.0, name_printed name parts.1) refl

pub name_word : (name : List ℕ) → is_name name ≡ true → IsPrinted 32 name
name_word name e =
    let parts = both (nat_le 1 (length name) && nat_le (length name) MAX_NAME) (list_all is_name_octet name) e in
    let short = (both (nat_le 1 (length name)) (nat_le (length name) MAX_NAME) parts.0).1 in
    record { short = grind (arith, nat_tests, short); printed = name_printed name parts.1 }

pub name_is_text : (name : List ℕ) → is_name name ≡ true → is_text name ≡ true
name_is_text name e = printed_is_text 32 name (lit≤ tt) (name_word name e)

-- words behind spaces
abbrev pub AreWords : List (List ℕ) → Type 0
AreWords [] = Unit {0}
AreWords (w ∷ ws) = IsPrinted 32 w × AreWords ws

spaced_printed : (ws : List (List ℕ)) → AreWords ws → IsPrinted (33 * length ws) (spaced ws)
spaced_printed [] h = record { short = lit≤ tt; printed = refl }
spaced_printed (w ∷ ws) h =
    let all = joined 32 (33 * length ws) w (spaced ws) h.0 (spaced_printed ws h.1) in
    record { short = omega (arith, all.short); printed = all.printed }

pub words_are_text : (first : List ℕ) (ws : List (List ℕ)) → IsPrinted 32 first → AreWords ws → length ws ≤ 16 → is_text (first ++ spaced ws) ≡ true
words_are_text first ws f h short =
    printed_is_text (32 + 33 * length ws) (first ++ spaced ws) (omega (arith, short)) (joined 32 (33 * length ws) first (spaced ws) f (spaced_printed ws h))

-- ---- the texts

pub time_is_text : (value : ℤ) (inaccuracy : Option ℕ) (step number : ℕ) → SFits w64 value → ForSome inaccuracy (λ n. n ≤ GREATEST_INACCURACY) → step < 2 ^ 64 → number < 2 ^ 64
    → is_text (codes "time" ++ spaced (time_words value inaccuracy step number)) ≡ true
time_is_text value inaccuracy step number f g h i =
    words_are_text (codes "time") (time_words value inaccuracy step number) (plain (codes "time") (lit≤ tt) refl) (
      longer 21 32 (signed_decimal value) (lit≤ tt) (signed_printed value f),
      (or_dash_word inaccuracy g, (number_word step h, (number_word number i, tt))),
    ) (lit≤ tt)

role_word : (r : Role) → IsPrinted 32 (role_name r)
role_word role.Clerk = plain (codes "clerk") (lit≤ tt) refl
role_word role.Server = plain (codes "server") (lit≤ tt) refl

pub settings_are_text : (s : Settings) → is_name s.name ≡ true → s.epoch < 2 ^ 64 → is_text (settings_text s) ≡ true
settings_are_text s name epoch =
    words_are_text (codes "settings") (settings_words s) (plain (codes "settings") (lit≤ tt) refl) (
      name_word s.name name,
      (
        role_word s.role,
        (
          plain (codes "epoch") (lit≤ tt) refl,
          (
            number_word s.epoch epoch,
            (
              plain (codes "required") (lit≤ tt) refl,
              (
                number_word s.required (omega (arith, s.required_to)),
                (
                  plain (codes "drift") (lit≤ tt) refl,
                  (
                    number_word s.drift_ppm (omega (arith, s.drift_in_range)),
                    (
                      plain (codes "resolution") (lit≤ tt) refl,
                      (
                        number_word s.resolution (omega (arith, s.resolution_in_range)),
                        (
                          plain (codes "lease") (lit≤ tt) refl,
                          (
                            number_word s.lease (omega (arith, s.lease_to)),
                            (
                              plain (codes "slew") (lit≤ tt) refl,
                              (
                                number_word s.slew_ppm (omega (arith, s.slew_to)),
                                (plain (codes "tolerance") (lit≤ tt) refl, (number_word s.tolerance (omega (arith, s.tolerance_to)), tt)),
                              ),
                            ),
                          ),
                        ),
                      ),
                    ),
                  ),
                ),
              ),
            ),
          ),
        ),
      ),
    ) (lit≤ tt)

pub counts_are_text : (lane asks refused connections : ℕ) → lane < 2 ^ 64 → asks < 2 ^ 64 → refused < 2 ^ 64 → connections < 2 ^ 64
    → is_text (codes "counts" ++ spaced (counts_words lane asks refused connections)) ≡ true
counts_are_text lane asks refused connections f g h i =
    words_are_text (codes "counts") (counts_words lane asks refused connections) (plain (codes "counts") (lit≤ tt) refl) (
      number_word lane f,
      (
        plain (codes "asks") (lit≤ tt) refl,
        (
          number_word asks g,
          (
            plain (codes "refused") (lit≤ tt) refl,
            (
              number_word refused h,
              (plain (codes "connections") (lit≤ tt) refl, (number_word connections i, tt)),
            ),
          ),
        ),
      ),
    ) (lit≤ tt)

-- a stub of a text is written, unless there is no memory
pub is_written : (b : Bool) (spelled : List ℕ) (outcome : Result (List ℕ) WriteFault) → b ≡ true → Writes b spelled outcome → IfErr outcome (λ f. f ≡ unwritten.NoMemory)
is_written b spelled (Ok octets) e w = tt
is_written b spelled (Err unwritten.StringValue) e w = absurd (cc)
is_written b spelled (Err (unwritten.TooLong have)) e w = absurd w
is_written b spelled (Err unwritten.NoMemory) e w = refl
