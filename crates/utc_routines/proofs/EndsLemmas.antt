-- The ends of a timestamp's interval and its members.
use Rattle.std.proofs.Common.{◌≡◌, ℕ, is_none, false, Option, Some, None, refl, arith, ℤ, pos, ◌+ℤ◌, ◌-ℤ◌, ◌≤ℤ◌}
use Rattle.std.proofs.lemmas.Int.{ints}
use Rattle.utc_value.specs.Stamp.{Stamp}
use Rattle.utc_value.specs.Members.{IsNear, IsMember}
use Rattle.utc_routines.specs.Formula.{AreEnds}
use Rattle.utc_routines.specs.Interval.{IsEarliest, IsLatest, is_either_unspecified}

-- a time is near itself
pub near_itself : (t : ℤ) (i : Option ℕ) → IsNear t i t
near_itself t None = tt
near_itself t (Some i) = (omega (arith, ints), omega (arith, ints))

near_ends : (t : ℤ) (i : ℕ) (low high : ℤ) → low ≡ t -ℤ pos i → high ≡ t +ℤ pos i
    → IsNear t (Some i) low × IsNear t (Some i) high × ((x : ℤ) → IsNear t (Some i) x → (low ≤ℤ x) × (x ≤ℤ high))
near_ends t i low high el eh = (
  (omega (arith, ints), omega (arith, ints)),
  (omega (arith, ints), omega (arith, ints)),
  λ x h. (omega (arith, ints), omega (arith, ints)),
)

-- the members lie between the ends
pub member_within : (s : Stamp) (low high : ℤ) → AreEnds s low high → (x : ℤ) → IsMember s x → (low ≤ℤ x) × (x ≤ℤ high)
member_within s low high ends x h = (near_ends s.time ends.half low high ends.at_low ends.at_high).2 x (rw ends.specified at h)

-- and both ends are members
pub member_low : (s : Stamp) (low high : ℤ) → AreEnds s low high → IsMember s low
member_low s low high ends = rw ends.specified (near_ends s.time ends.half low high ends.at_low ends.at_high).0

pub member_high : (s : Stamp) (low high : ℤ) → AreEnds s low high → IsMember s high
member_high s low high ends = rw ends.specified (near_ends s.time ends.half low high ends.at_low ends.at_high).1

pub low_is_earliest : (s : Stamp) (low high : ℤ) → AreEnds s low high → IsEarliest s low
low_is_earliest s low high ends = record { member = member_low s low high ends; first = λ y h. (member_within s low high ends y h).0 }

pub high_is_latest : (s : Stamp) (low high : ℤ) → AreEnds s low high → IsLatest s high
high_is_latest s low high ends = record { member = member_high s low high ends; last = λ y h. (member_within s low high ends y h).1 }

pub earliest_is_low : (s : Stamp) (low high x : ℤ) → AreEnds s low high → IsEarliest s x → x ≡ low
earliest_is_low s low high x ends e =
    let above = (member_within s low high ends x e.member).0 in
    let below = e.first low (member_low s low high ends) in
    omega (arith, ints)

pub latest_is_high : (s : Stamp) (low high x : ℤ) → AreEnds s low high → IsLatest s x → x ≡ high
latest_is_high s low high x ends e =
    let below = (member_within s low high ends x e.member).1 in
    let above = e.last high (member_high s low high ends) in
    omega (arith, ints)

-- only a specified interval has an earliest or a latest
first_specified : (t : ℤ) (i : Option ℕ) (x : ℤ) → ((y : ℤ) → IsNear t i y → x ≤ℤ y) → is_none i ≡ false
first_specified t (Some i) x h = refl
first_specified t None x h = let below = h (x -ℤ pos 1) tt in absurd (omega (arith, ints))

last_specified : (t : ℤ) (i : Option ℕ) (x : ℤ) → ((y : ℤ) → IsNear t i y → y ≤ℤ x) → is_none i ≡ false
last_specified t (Some i) x h = refl
last_specified t None x h = let above = h (x +ℤ pos 1) tt in absurd (omega (arith, ints))

pub both_specified : (a b : Stamp) (x y : ℤ) → IsEarliest a x → IsLatest b y → is_either_unspecified a b ≡ false
both_specified a b x y first last =
    let one = first_specified a.time a.inaccuracy x first.first in
    let other = last_specified b.time b.inaccuracy y last.last in
    rw (one, other) refl

-- two timestamps with ends are both specified
pub ends_specified : (a b : Stamp) (al ah bl bh : ℤ) → AreEnds a al ah → AreEnds b bl bh → is_either_unspecified a b ≡ false
ends_specified a b al ah bl bh one other = rw (one.specified, other.specified) refl
