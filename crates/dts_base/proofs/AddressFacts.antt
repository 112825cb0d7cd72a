-- What the text of an address is, from its front.
use Rattle.std.proofs.Common.{◌≡◌, inl, inr, ℕ, ◌<◌, List, [], ◌∷◌, ◌++◌, refl, sym, ◌∙◌, arith, append_assoc}
use Rattle.std.specs.Prelude.{decimal}
use Rattle.std.specs.List.{join_with_byte}
use Rattle.std.proofs.lemmas.Fmt.{decimal_injective}
use Rattle.dts_base.specs.declared.address.Address.{Address}
use Rattle.dts_base.specs.Addresses.{Spells, IsAddress, address_text}
use Rattle.dts_base.specs.Cutting.{IsMark}
use Rattle.dts_base.proofs.Decimals.{number_cut}

-- four numbers with their marks, and the port
abbrev pub spelling : ℕ → ℕ → ℕ → ℕ → ℕ → List ℕ
spelling w x y z port = decimal w ++ 46 ∷ (decimal x ++ 46 ∷ (decimal y ++ 46 ∷ (decimal z ++ 58 ∷ decimal port)))

-- the text of an address, from its front
pub record Parts (text : List ℕ) (a : Address) : Type 0 where
  pub w : ℕ
  pub x : ℕ
  pub y : ℕ
  pub z : ℕ
  pub w_fits : w < 256
  pub x_fits : x < 256
  pub y_fits : y < 256
  pub z_fits : z < 256
  pub ip : a.ip ≡ w ∷ x ∷ y ∷ z ∷ []
  pub whole : text ≡ spelling w x y z a.port

joined : (w x y z : ℕ) (tail : List ℕ) → join_with_byte 46 (decimal w ∷ decimal x ∷ decimal y ∷ decimal z ∷ []) ++ 58 ∷ tail ≡ decimal w ++ 46 ∷ (decimal x ++ 46 ∷ (decimal y ++ 46 ∷ (decimal z ++ 58 ∷ tail)))
joined w x y z tail = simp append_assoc

parts_of : (ip text : List ℕ) (port : ℕ) → text ≡ address_text (record { ip = ip; port = port }) → IsAddress (record { ip = ip; port = port }) → Parts text (record { ip = ip; port = port })
parts_of (w ∷ x ∷ y ∷ z ∷ []) text port e is = record {
  w = w;
  x = x;
  y = y;
  z = z;
  w_fits = is.1 0 w (omega arith);
  x_fits = is.1 1 x (omega arith);
  y_fits = is.1 2 y (omega arith);
  z_fits = is.1 3 z (omega arith);
  ip = refl;
  whole = e ∙ joined w x y z (decimal port);
}
parts_of [] text port e is = absurd (omega (arith, is.0))
parts_of (w ∷ []) text port e is = absurd (omega (arith, is.0))
parts_of (w ∷ x ∷ []) text port e is = absurd (omega (arith, is.0))
parts_of (w ∷ x ∷ y ∷ []) text port e is = absurd (omega (arith, is.0))
parts_of (w ∷ x ∷ y ∷ z ∷ v ∷ vs) text port e is = absurd (omega (arith, is.0))

pub parts : (text : List ℕ) (a : Address) → Spells text a → Parts text a
parts text a s = parts_of a.ip text a.port s.0 s.1

pub point : IsMark 46
point = inl refl

pub colon : IsMark 58
colon = inr refl

-- what is behind the first number
pub behind : (m n c : ℕ) (text p q : List ℕ) → IsMark c → m < 256 → n < 256 → text ≡ decimal m ++ c ∷ p → text ≡ decimal n ++ c ∷ q → p ≡ q
behind m n c text p q mark hm hn e f = (number_cut m n c p q (omega arith) (omega arith) mark (sym e ∙ f)).1

-- the parts of one text are the same
one_spelling : (w x y z p w' x' y' z' p' : ℕ) → w < 256 → x < 256 → y < 256 → z < 256 → p < 65536 → w' < 256 → x' < 256 → y' < 256 → z' < 256 → p' < 65536 → spelling w x y z p ≡ spelling w' x' y' z' p' → (w ∷ x ∷ y ∷ z ∷ [] ≡ w' ∷ x' ∷ y' ∷ z' ∷ []) × (p ≡ p')
one_spelling w x y z p w' x' y' z' p' hw hx hy hz hp hw' hx' hy' hz' hp' e =
    let first = number_cut w w' 46 _ _ (omega arith) (omega arith) point e in
    let second = number_cut x x' 46 _ _ (omega arith) (omega arith) point first.1 in
    let third = number_cut y y' 46 _ _ (omega arith) (omega arith) point second.1 in
    let fourth = number_cut z z' 58 _ _ (omega arith) (omega arith) colon third.1 in
    (cc (first.0, second.0, third.0, fourth.0), decimal_injective p p' (omega arith) (omega arith) fourth.1)

same_address : (ip ip' : List ℕ) (port port' : ℕ) → ip ≡ ip' → port ≡ port' → let a : Address = record { ip = ip; port = port } in let b : Address = record { ip = ip'; port = port' } in a ≡ b
same_address ip ip' port port' e f = cc

-- a text spells one address at most
pub one_address_lem : (text : List ℕ) (a b : Address) → Spells text a → Spells text b → a ≡ b
one_address_lem text a b s t =
    let p = parts text a s in
    let q = parts text b t in
    let same = one_spelling p.w p.x p.y p.z a.port q.w q.x q.y q.z b.port p.w_fits p.x_fits p.y_fits p.z_fits s.1.3 q.w_fits q.x_fits q.y_fits q.z_fits t.1.3 (sym p.whole ∙ q.whole) in
    same_address a.ip b.ip a.port b.port (p.ip ∙ same.0 ∙ sym q.ip) same.1
