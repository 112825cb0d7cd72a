-- Addresses as texts. Our own choice.
use Rattle.std.specs.Prelude.{◌≡◌, ℕ, ◌<◌, List, ◌∷◌, ◌++◌, length, map, All, decimal}
use Rattle.std.specs.List.{join_with_byte}
use Rattle.dts_base.specs.declared.address.Address.{Address}

-- the four octets in decimal, joined by points (46), a colon (58) and the port
abbrev pub address_text : Address → List ℕ
address_text a = join_with_byte 46 (map decimal a.ip) ++ 58 ∷ decimal a.port

-- there are four octets and a port that is not 0
abbrev pub IsAddress : Address → Type 0
IsAddress a = (length a.ip ≡ 4) × All (λ octet. octet < 256) a.ip × (0 < a.port) × (a.port < 65536)

-- the text spells the address
abbrev pub Spells : List ℕ → Address → Type 0
Spells text a = (text ≡ address_text a) × IsAddress a
