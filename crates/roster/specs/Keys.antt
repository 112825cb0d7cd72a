-- The keys of a roster, in order, with what is right at each and what stands for it where it is absent. This one table
-- says what is refused and what the settings are. Our own choice.
use Rattle.std.specs.Prelude.{ℕ, Bool, List, [], ◌∷◌, pos, false, Option, Some, None, codes, is_none, map}
use Rattle.toml.specs.Data.{Data, string, integer, boolean}
use Rattle.slew_clock.specs.declared.rates.TheConstants.{GREATEST_DRIFT_PPM, GREATEST_RESOLUTION, LEAST_LEASE, GREATEST_LEASE, LEAST_SLEW_PPM, GREATEST_SLEW_PPM, LEAST_TOLERANCE, GREATEST_TOLERANCE}
use Rattle.roster.specs.declared.limits.TheConstants.{GREATEST_PORT, GREATEST_LISTEN_PORT, GREATEST_EPOCH, LEAST_REQUIRED, GREATEST_REQUIRED, LEAST_PERIOD, GREATEST_PERIOD, LEAST_HOLD, GREATEST_HOLD, LEAST_TIMEOUT, GREATEST_TIMEOUT, LEAST_MAX_INACCURACY, GREATEST_MAX_INACCURACY}
use Rattle.roster.specs.declared.limits.TheConstants.{DEFAULT_LISTEN_IP, DEFAULT_LISTEN_PORT, DEFAULT_EPOCH, DEFAULT_REQUIRED, DEFAULT_PERIOD, DEFAULT_HOLD, DEFAULT_TIMEOUT, DEFAULT_MAX_INACCURACY, DEFAULT_DRIFT_PPM, DEFAULT_RESOLUTION, DEFAULT_LEASE, DEFAULT_SLEW_PPM, DEFAULT_TOLERANCE}
use Rattle.dts_base.specs.Addresses.{address_text}
use Rattle.roster.specs.declared.keys.Right.{Right}
use Rattle.roster.specs.declared.keys.Right.TheVariants.{Name, Role, ServerKind, Address, Flag, Number}

-- a key; one without a default is required
pub record Key : Type 0 where
  pub name : List ℕ
  pub right : Right
  pub default : Option Data

abbrev pub required : List ℕ → Right → Key
required name right = record { name = name; right = right; default = None }

abbrev pub optional : List ℕ → Right → Data → Key
optional name right default = record { name = name; right = right; default = Some default }

abbrev pub number : List ℕ → (least greatest default : ℕ) → Key
number name least greatest default = optional name (Number least greatest) (integer (pos default))

-- the table `node`
abbrev pub node_keys : List Key
node_keys =
    required (codes "name") Name
    ∷ optional (codes "role") Role (string (codes "clerk"))
    ∷ optional (codes "courier") Flag (boolean false)
    ∷ optional (codes "listen") (Address GREATEST_LISTEN_PORT) (string (address_text (record { ip = DEFAULT_LISTEN_IP; port = DEFAULT_LISTEN_PORT })))
    ∷ number (codes "epoch") 0 GREATEST_EPOCH DEFAULT_EPOCH
    ∷ number (codes "required") LEAST_REQUIRED GREATEST_REQUIRED DEFAULT_REQUIRED
    ∷ number (codes "period") LEAST_PERIOD GREATEST_PERIOD DEFAULT_PERIOD
    ∷ number (codes "hold") LEAST_HOLD GREATEST_HOLD DEFAULT_HOLD
    ∷ number (codes "timeout") LEAST_TIMEOUT GREATEST_TIMEOUT DEFAULT_TIMEOUT
    ∷ number (codes "max_inaccuracy") LEAST_MAX_INACCURACY GREATEST_MAX_INACCURACY DEFAULT_MAX_INACCURACY
    ∷ number (codes "drift_ppm") 0 GREATEST_DRIFT_PPM DEFAULT_DRIFT_PPM
    ∷ number (codes "resolution") 0 GREATEST_RESOLUTION DEFAULT_RESOLUTION
    ∷ number (codes "lease") LEAST_LEASE GREATEST_LEASE DEFAULT_LEASE
    ∷ number (codes "slew_ppm") LEAST_SLEW_PPM GREATEST_SLEW_PPM DEFAULT_SLEW_PPM
    ∷ number (codes "tolerance") LEAST_TOLERANCE GREATEST_TOLERANCE DEFAULT_TOLERANCE
    ∷ []

-- each table `server`
abbrev pub server_keys : List Key
server_keys = required (codes "name") Name ∷ required (codes "kind") ServerKind ∷ required (codes "address") (Address GREATEST_PORT) ∷ []

-- what is asked of a key: its name, what is right, and whether it has to be there
pub record Asked : Type 0 where
  pub name : List ℕ
  pub right : Right
  pub required : Bool

abbrev pub asked_of : List Key → List Asked
asked_of = map (λ key. record { name = key.name; right = key.right; required = is_none key.default })
