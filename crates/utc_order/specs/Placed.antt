-- What is kept beside the lines. No public clause reaches it.
use Rattle.std.specs.Prelude.{◌≡◌, ℕ, ◌≤◌, length, slice_index_or, None}
use Rattle.utc_order.specs.declared.limits.TheConstants.{MAX_HOST, MAX_LINES, HOSTS}
use Rattle.utc_order.specs.declared.log.Log.TheInside.{Inside}
use Rattle.utc_order.specs.Places.{places_of, key_of}

-- the place of each line, and the greatest earliest point of each host; the lines are not too many
pub record IsPlaced (l : Inside) : Type 0 where
  pub places : l.places.items ≡ places_of l.lines
  pub highest : (host : ℕ) → host ≤ MAX_HOST → slice_index_or l.highest.items host None ≡ key_of host l.lines
  pub hosts : length l.highest.items ≡ HOSTS
  pub few : length l.lines ≤ MAX_LINES
