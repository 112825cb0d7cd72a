-- What the calls of a provider leave of its state.
use Rattle.std.specs.Prelude.{◌≡◌, ℕ, Bool, false, List, [], ◌∷◌, ◌++◌, slice_set, Result, Ok, Err}
use Rattle.time_provider.specs.declared.fault.ProviderFault.{ProviderFault}
use Rattle.time_provider.specs.declared.fault.ProviderFault.TheVariants as fault
use Rattle.time_provider.specs.declared.lists.Triple.{Triple}
use Rattle.time_provider.specs.Rooms.{listed}
use Rattle.time_provider.specs.State.{State}

-- a state that has these open ones and these times, and is as before otherwise
abbrev pub Becomes : State → State → List Bool → List Triple → Type 0
Becomes old new pending times =
    (new.peers ≡ old.peers) × (new.poll ≡ old.poll) × (new.pending ≡ pending) × (listed new.message ≡ times)

-- the state behind an answer to the query at a place
abbrev pub IsSettled : State → ℕ → Result Triple ProviderFault → State → Type 0
IsSettled s place (Ok t) new = Becomes s new (slice_set s.pending place false) (listed s.message ++ t ∷ [])
IsSettled s place (Err (fault.Range lo hi)) new = Becomes s new (slice_set s.pending place false) (listed s.message)
IsSettled s place (Err _) new = new ≡ s
