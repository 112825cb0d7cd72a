-- Tests that passed or failed.
use Rattle.std.proofs.Common.{◌≡◌, Bool, true, false, T, ◌⊎◌, inl, inr, refl}
use Rattle.std.specs.Prelude.{◌&&◌, ◌||◌}

-- a test that holds has passed, and one that has passed holds
pub passed : (b : Bool) → T b → b ≡ true
passed true h = refl
passed false h = absurd h

pub passes : (b : Bool) → b ≡ true → T b
passes true e = tt
passes false e = absurd (cc)

-- a test that cannot pass fails
pub fails : (b : Bool) → ¬ (b ≡ true) → b ≡ false
fails true h = absurd (h refl)
fails false h = refl

pub both : (a b : Bool) → (a && b) ≡ true → (a ≡ true) × (b ≡ true)
both true b e = (refl, e)
both false b e = absurd (cc)

pub either : (a b : Bool) → (a || b) ≡ true → (a ≡ true) ⊎ (b ≡ true)
either true b e = inl refl
either false b e = inr e
