-- Whom a round asks. Our own choice.
use Rattle.std.specs.Prelude.{ℕ, ◌-◌, ◌%◌, Bool, true, false, ◌&&◌, ◌||◌, nat_lt, List, [], ◌∷◌, ◌++◌, length, slice_index, if◌then◌else◌}
use Rattle.roster.specs.declared.settings.Settings.{Settings}
use Rattle.roster.specs.declared.settings.Role.{Role}
use Rattle.roster.specs.declared.settings.Role.TheVariants as role
use Rattle.roster.specs.declared.entry.ServerKind.TheVariants as kind
use Rattle.roster.specs.RosterData.{RosterData}
use Rattle.roster.specs.Wrong.{positions_from}
use Rattle.roster.specs.Rosters.{is_kind, others}

-- the peer numbers of the NTP servers, in order
abbrev pub ntp_servers : RosterData → List ℕ
ntp_servers r = positions_from 0 (λ e. is_kind kind.Ntp e.kind) r.entries

-- a round with so many local servers needs the global ones too: they are too few, or the round before used too few answers
abbrev pub needs_globals : Settings → (round last locals : ℕ) → Bool
needs_globals s round last locals = nat_lt locals s.required || (nat_lt 1 round && nat_lt last s.required)

abbrev pub is_server : Role → Bool
is_server role.Clerk = false
is_server role.Server = true

abbrev pub is_courier : Settings → Bool
is_courier s = is_server s.role && s.courier

-- the one whose turn it is in a round, where there is one
abbrev pub in_turn : ℕ → List ℕ → List ℕ
in_turn round [] = []
in_turn round (g ∷ gs) = slice_index (g ∷ gs) ((round - 1) % length (g ∷ gs)) ∷ []

-- the global servers that a round asks
abbrev pub asked_globals : RosterData → (round last : ℕ) → List ℕ
asked_globals r round last = let globals = others kind.Global r in
    if needs_globals r.settings round last (length (others kind.Local r)) then globals else if is_courier r.settings then in_turn round globals else []

-- the first list, or the second where that is empty
abbrev pub or_else : List ℕ → List ℕ → List ℕ
or_else [] ys = ys
or_else (x ∷ xs) ys = x ∷ xs

-- the NTP servers alone, or else the local servers and some of the global ones
abbrev pub sources : RosterData → (round last : ℕ) → List ℕ
sources r round last = or_else (ntp_servers r) (others kind.Local r ++ asked_globals r round last)
