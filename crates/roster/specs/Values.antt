-- What values of a roster's keys are right. Our own choice.
use Rattle.std.specs.Prelude.{ℕ, Bool, ◌&&◌, ◌||◌, ◌==◌, true, nat_le, nat_lt, List, [], ◌∷◌, pos, int_le, Option, Some, None, length, codes, bytes_eq, is_some, if◌then◌else◌}
use Rattle.std.specs.List.{list_all, before_first, after_first}
use Rattle.std.specs.Char.{is_ascii_digit, is_ascii_lowercase}
use Rattle.std.specs.Str.Parse.{digits_value}
use Rattle.toml.specs.Data.{Data, as_str, as_bool, as_integer}
use Rattle.dts_base.specs.declared.address.Address.{Address}
use Rattle.dts_base.specs.Addresses.{address_text}
use Rattle.roster.specs.declared.limits.TheConstants.{MAX_NAME}
use Rattle.roster.specs.declared.settings.Role.{Role}
use Rattle.roster.specs.declared.settings.Role.TheVariants as role
use Rattle.roster.specs.declared.entry.ServerKind.{ServerKind}
use Rattle.roster.specs.declared.entry.ServerKind.TheVariants as kind
use Rattle.roster.specs.declared.cause.RosterCause.{RosterCause}
use Rattle.roster.specs.declared.cause.RosterCause.TheVariants as cause
use Rattle.roster.specs.declared.keys.Right.{Right}
use Rattle.roster.specs.declared.keys.Right.TheVariants as right

-- a to z, 0 to 9 and `-` (45)
abbrev pub is_name_octet : ℕ → Bool
is_name_octet c = is_ascii_lowercase c || is_ascii_digit c || c == 45

-- 1 to 32 of these
abbrev pub is_name : List ℕ → Bool
is_name text = (nat_le 1 (length text) && nat_le (length text) MAX_NAME) && list_all is_name_octet text

abbrev pub role_of : List ℕ → Option Role
role_of text = if bytes_eq text (codes "clerk") then Some role.Clerk else if bytes_eq text (codes "server") then Some role.Server else None

abbrev pub kind_of : List ℕ → Option ServerKind
kind_of text = if bytes_eq text (codes "local") then Some kind.Local else if bytes_eq text (codes "global") then Some kind.Global
    else if bytes_eq text (codes "ntp") then Some kind.Ntp else None

-- the numbers that stand in front of three points (46), a colon (58) and the end
abbrev pub numbers_of : List ℕ → Address
numbers_of text =
    let second = after_first (λ c. c == 46) text in
    let third = after_first (λ c. c == 46) second in
    let fourth = after_first (λ c. c == 46) third in
    record {
      ip = digits_value 10 (before_first (λ c. c == 46) text) ∷ digits_value 10 (before_first (λ c. c == 46) second) ∷ digits_value 10 (before_first (λ c. c == 46) third) ∷ digits_value 10 (before_first (λ c. c == 58) fourth) ∷ [];
      port = digits_value 10 (after_first (λ c. c == 58) fourth);
    }

-- the address with a port of at most so much that the text spells: its text is that of the numbers that stand there
abbrev pub address_up_to : ℕ → List ℕ → Option Address
address_up_to greatest text = let a = numbers_of text in
    if ((list_all (λ octet. nat_lt octet 256) a.ip && nat_lt 0 a.port) && nat_le a.port greatest) && bytes_eq (address_text a) text then Some a else None

-- a value of the kind is right or out of its range; any other is of another kind
abbrev pub judged : {A : Type 0} → Option A → (A → Bool) → Option RosterCause
judged None is_right = Some cause.Kind
judged (Some x) is_right = if is_right x then None else Some cause.Range

-- what is wrong with a value
abbrev pub fault_of : Right → Data → Option RosterCause
fault_of right.Name d = judged (as_str d) is_name
fault_of right.Role d = judged (as_str d) (λ text. is_some (role_of text))
fault_of right.ServerKind d = judged (as_str d) (λ text. is_some (kind_of text))
fault_of (right.Address greatest) d = judged (as_str d) (λ text. is_some (address_up_to greatest text))
fault_of right.Flag d = judged (as_bool d) (λ _. true)
fault_of (right.Number least greatest) d = judged (as_integer d) (λ z. int_le (pos least) z && int_le z (pos greatest))
