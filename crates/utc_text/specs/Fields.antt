-- What the readers of single fields answer, from the octets that stand where a field begins: its value with the octets behind it, or nothing where those octets begin with no right text of it. For the contracts of private functions and for proofs: no public clause reaches it.
use Rattle.std.specs.Prelude.{◌≡◌, ℕ, ◌+◌, ◌-◌, ◌*◌, ◌^◌, ◌==◌, nat_le, Bool, ◌&&◌, ◌||◌, if◌then◌else◌, List, [], ◌∷◌, length, take, drop, Option, Some, None, option_and_then, codes, nat_eq}
use Rattle.std.specs.List.{prefix_len, starts_with}
use Rattle.std.specs.Char.{is_ascii_digit}
use Rattle.std.specs.Str.Parse.{digits_value}
use Rattle.utc_text.specs.Grammar.{units_of}

infixl 10 ◌>>=◌
abbrev pub ◌>>=◌ : {A B : Type 0} → Option A → (A → Option B) → Option B
o >>= f = option_and_then f o

-- what stands behind an octet
unfoldable pub behind : ℕ → List ℕ → Option (List ℕ)
behind octet [] = None
behind octet (first ∷ rest) = if first == octet then Some rest else None

-- two digits
unfoldable pub two_digits : List ℕ → Option (ℕ × List ℕ)
two_digits [] = None
two_digits (tens ∷ []) = None
two_digits (tens ∷ ones ∷ rest) = if is_ascii_digit tens && is_ascii_digit ones then Some ((tens - 48) * 10 + (ones - 48), rest) else None

-- a separator and two digits, from low to high: a month, a day, an hour, a minute or a second
unfoldable pub part_at : ℕ → ℕ → ℕ → List ℕ → Option (ℕ × List ℕ)
part_at separator low high here = do
  rest ← behind separator here
  number ← two_digits rest
  if nat_le low number.0 && nat_le number.0 high then Some number else None

-- four digits, from 1582 to 9999
unfoldable pub year_at : List ℕ → Option (ℕ × List ℕ)
year_at here = do
  century ← two_digits here
  rest ← two_digits century.1
  if nat_le 1582 (century.0 * 100 + rest.0) then Some (century.0 * 100 + rest.0, rest.1) else None

-- all the digits that stand there, at most that many
unfoldable pub digits_at : ℕ → List ℕ → Option (List ℕ × List ℕ)
digits_at most here =
    if nat_le (prefix_len is_ascii_digit here) most
    then Some (take (prefix_len is_ascii_digit here) here, drop (prefix_len is_ascii_digit here) here)
    else None

-- nothing, or a point and at most seven digits
unfoldable pub fraction_at : List ℕ → Option (ℕ × List ℕ)
fraction_at [] = Some (0, [])
fraction_at (first ∷ rest) =
    if first == 46
    then (digits_at 7 rest >>= λ digits. Some (units_of digits.0, digits.1))
    else Some (0, first ∷ rest)

-- nothing, or a sign and two digits from 00 to 23: whether the sign is `-`, and the hours
unfoldable pub tdf_hour_at : List ℕ → Option (Option (Bool × ℕ) × List ℕ)
tdf_hour_at [] = Some (None, [])
tdf_hour_at (first ∷ rest) =
    if (first == 43) || (first == 45)
    then (two_digits rest >>= λ hours. if nat_le hours.0 23 then Some (Some (first == 45, hours.0), hours.1) else None)
    else Some (None, first ∷ rest)

-- one to nine digits and a fraction, at most 28147497.6710654 seconds, in units of 100 ns
unfoldable pub seconds_at : List ℕ → Option (Option ℕ × List ℕ)
seconds_at here = do
  seconds ← digits_at 9 here
  fraction ← fraction_at seconds.1
  if nat_le 1 (length seconds.0) && nat_le (digits_value 10 seconds.0 * 10_000_000 + fraction.0) (2 ^ 48 - 2)
      then Some (Some (digits_value 10 seconds.0 * 10_000_000 + fraction.0), fraction.1)
      else None

-- `-----` and `inf` are unspecified
unfoldable pub stated_at : List ℕ → Option (Option ℕ × List ℕ)
stated_at here =
    if starts_with nat_eq here (codes "-----") then Some (None, drop 5 here)
    else (if starts_with nat_eq here (codes "inf") then Some (None, drop 3 here)
    else seconds_at here)

-- nothing, or `I` and what it states; nothing is unspecified too
unfoldable pub inaccuracy_at : List ℕ → Option (Option ℕ × List ℕ)
inaccuracy_at [] = Some (None, [])
inaccuracy_at (first ∷ rest) = if first == 73 then stated_at rest else Some (None, first ∷ rest)

-- one to eight digits, at most 10675199: with more no count of 64 bits could hold them
unfoldable pub days_at : List ℕ → Option (ℕ × List ℕ)
days_at here = do
  digits ← digits_at 8 here
  if nat_le 1 (length digits.0) && nat_le (digits_value 10 digits.0) 10_675_199
      then Some (digits_value 10 digits.0, digits.1)
      else None

-- what a reader of the code answers is what the field is, with each slice seen as its octets
abbrev pub GivesField : {X Y : Type 0} → (X → Y) → Option X → Option Y → Type 0
GivesField view None field = field ≡ None
GivesField view (Some x) field = field ≡ Some (view x)
