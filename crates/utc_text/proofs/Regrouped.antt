-- The texts of fields that stand one behind the other, as one text.
use Rattle.std.proofs.Common.{◌≡◌, ℕ, Bool, true, false, cond, List, ◌∷◌, ◌++◌, Option, Some, refl, sym, append_assoc}
use Rattle.utc_text.specs.Grammar.{YearMonthDay, digits, fraction_text, ClockField, TdfField, Seconds, inaccuracy_text, SignStands}
use Rattle.utc_text.specs.Written.{date_text, clock_text, tdf_text, sign_text}

-- one octet before the others
pub cons_spelled : (first octet : ℕ) (left front middle rest : List ℕ) → first ≡ octet → left ≡ front ++ middle → middle ≡ rest
    → first ∷ left ≡ (octet ∷ front) ++ rest
cons_spelled first octet left front middle rest a b c = rw (a, b, c) refl

-- the parts of a date
pub date_spelled : (left middle end rest : List ℕ) (d : YearMonthDay) → left ≡ digits 4 d.year ++ middle
    → middle ≡ 45 ∷ digits 2 d.month ++ end → end ≡ 45 ∷ digits 2 d.day ++ rest → left ≡ date_text d ++ rest
date_spelled left middle end rest d a b c = rw (a, b, c) (simp append_assoc)

-- of a time of day
pub clock_spelled : (left behind_hour behind_minute behind_second rest : List ℕ) (c : ClockField)
    → left ≡ 45 ∷ digits 2 c.hour ++ behind_hour → behind_hour ≡ 58 ∷ digits 2 c.minute ++ behind_minute
    → behind_minute ≡ 58 ∷ digits 2 c.second ++ behind_second → behind_second ≡ fraction_text c.fraction ++ rest
    → left ≡ clock_text c ++ rest
clock_spelled left behind_hour behind_minute behind_second rest c h m s f = rw (h, m, s, f) (simp append_assoc)

-- of a time differential factor
pub tdf_spelled : (left middle end rest : List ℕ) (t : TdfField) → left ≡ cond t.west 45 43 ∷ digits 2 t.hours ++ middle
    → middle ≡ 58 ∷ digits 2 t.minutes ++ end → end ≡ rest → left ≡ tdf_text (Some t) ++ rest
tdf_spelled left middle end rest t a b c = rw (a, b, c) (simp append_assoc)

-- of an inaccuracy
pub seconds_spelled : (first : ℕ) (left ds middle end rest : List ℕ) (fraction : Option (List ℕ)) → first ≡ 73
    → left ≡ ds ++ middle → middle ≡ fraction_text fraction ++ end → end ≡ rest
    → first ∷ left ≡ inaccuracy_text (Seconds ds fraction) ++ rest
seconds_spelled first left ds middle end rest fraction a b c d =
    rw (a, b, c, d) (sym (append_assoc (73 ∷ ds) (fraction_text fraction) rest))

-- a sign that stands, as its text
pub sign_spelled : (negative : Bool) (here rest : List ℕ) → SignStands negative here rest → here ≡ sign_text negative ++ rest
sign_spelled true here rest s = s
sign_spelled false here rest s = s.1
