-- What an object outside tells of its content. Our own choice.
use Rattle.std.specs.Prelude.{◌≡◌, Option, Some, None}

-- An object that told its content tells it after the call, and the two are related so.
-- One that told nothing tells nothing.
abbrev pub Told : {A : Type 0} → Option A → Option A → (A → A → Type 0) → Type 0
Told None after R = after ≡ None
Told {A} (Some old) after R = (new : A) × (after ≡ Some new) × R old new
