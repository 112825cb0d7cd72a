-- What is read of octets, in the order of the tests.
use Rattle.std.proofs.Common.{◌≡◌, ℕ, ◌<◌, ◌≤◌, Bool, true, false, List, [], length, Some, None, refl, arith}
use Rattle.std.specs.Prelude.{nat_lt, IsUtf8}
use Rattle.std.specs.Str.{is_utf8}
use Rattle.std.proofs.lemmas.Bool.{lt-ltb}
use Rattle.std.proofs.lemmas.Bool.Decides.{nat_tests}
use Rattle.std.proofs.lemmas.Str.{IsUtf8-from_is_utf8, is_utf8-from_IsUtf8}
use Rattle.toml.specs.Data.{Members}
use Rattle.toml.specs.Parse.{parse_document}
use Rattle.roster.specs.declared.limits.TheConstants.{MAX_OCTETS}
use Rattle.roster.specs.declared.cause.RosterCause.TheVariants as cause
use Rattle.roster.specs.declared.cause.RosterFault.{RosterFault}
use Rattle.roster.specs.declared.cause.RosterFault.TheVariants as fault
use Rattle.roster.specs.declared.first_wrong.Section.TheVariants as section
use Rattle.roster.specs.Wrong.{Wrong, wrong, first_wrong, document_of, document_wrong}
use Rattle.roster.specs.Rosters.{IsFaultOf, Refuses}

pub refuses_by : (b : List ℕ) (w : Wrong) (f : RosterFault) → first_wrong b ≡ Some w → IsFaultOf w f → Refuses b f
refuses_by b w (fault.Wrong path cause) e is = (w, e, is.0, is.1)
refuses_by b w fault.NoMemory e is = tt

pub long_is : (b : List ℕ) → MAX_OCTETS < length b → first_wrong b ≡ Some (wrong section.File [] cause.Long)
long_is b h = let long : nat_lt MAX_OCTETS (length b) ≡ true = lt-ltb MAX_OCTETS (length b) h in rw long refl

short_is : (b : List ℕ) → length b ≤ MAX_OCTETS → nat_lt MAX_OCTETS (length b) ≡ false
short_is b h = grind (arith, nat_tests, h)

pub no_document_is : (b : List ℕ) → length b ≤ MAX_OCTETS → document_of b ≡ None → first_wrong b ≡ Some (wrong section.File [] cause.Document)
no_document_is b h e = rw (short_is b h, e) refl

pub document_is : (b : List ℕ) (ms : Members) → length b ≤ MAX_OCTETS → document_of b ≡ Some ms → first_wrong b ≡ document_wrong ms
document_is b ms h e = rw (short_is b h, e) refl

pub document_from : (b : List ℕ) (ms : Members) → IsUtf8 b → parse_document b ≡ Some ms → document_of b ≡ Some ms
document_from b ms u e = rw (is_utf8-from_IsUtf8 b u) e

pub no_document_from : (b : List ℕ) → (IsUtf8 b → parse_document b ≡ None) → document_of b ≡ None
no_document_from b none = go (is_utf8 b) refl
  where
    go : (t : Bool) → is_utf8 b ≡ t → document_of b ≡ None
    go true e = rw e (none (IsUtf8-from_is_utf8 b e))
    go false e = rw e refl
