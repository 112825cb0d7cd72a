-- The interval of a node's own clock, case by case.
use Rattle.std.proofs.Common.{◌≡◌, ◌≤ℤ◌, ◌<ℤ◌, ℤ, true, false, None, refl, arith}
use Rattle.std.specs.Prelude.{int_le}
use Rattle.std.proofs.lemmas.Int.{ints}
use Rattle.slew_clock.specs.declared.limits.TheConstants.{GREATEST_ANCHOR}
use Rattle.roster.specs.declared.settings.Role.{Role}
use Rattle.roster.specs.declared.settings.Role.TheVariants as role
use Rattle.server_roles.specs.Own.{brought_by}
use Rattle.server_roles.specs.Laws.{ClerkBringsNone, ServerBringsItsRecord, NoneWithoutOne}

pub clerk_brings_none : ClerkBringsNone
clerk_brings_none r rec osc clerk = rw clerk refl

fits : (hi : ℤ) → hi ≤ℤ GREATEST_ANCHOR → int_le hi GREATEST_ANCHOR ≡ true
fits hi h = grind (arith, ints)

too_great : (hi : ℤ) → GREATEST_ANCHOR <ℤ hi → int_le hi GREATEST_ANCHOR ≡ false
too_great hi h = grind (arith, ints)

pub server_brings_its_record : ServerBringsItsRecord
server_brings_its_record r rec osc lo hi server there = (
  (λ h. rw (server, there, fits hi h) refl),
  (λ h. rw (server, there, too_great hi h) refl),
)

none_of_none : (r : Role) → brought_by r None ≡ None
none_of_none role.Clerk = refl
none_of_none role.Server = refl

pub none_without_one : NoneWithoutOne
none_without_one r rec osc none = rw none (none_of_none r.settings.role)
