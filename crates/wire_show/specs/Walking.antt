-- How lines are written one behind the other. No public clause reaches it.
use Rattle.std.specs.Prelude.{◌≡◌, ℕ, zero, suc, ◌+◌, List, [], ◌∷◌, ◌++◌, length, take, drop}
use Rattle.dts_base.specs.declared.wire.Field.{Field}
use Rattle.dts_base.specs.Names.{field_name}
use Rattle.pdu_fields.specs.declared.header.Header.{Header}
use Rattle.pdu_fields.specs.Tables.{Table, repeated}
use Rattle.wire_show.specs.declared.pdu.Head.{Head}
use Rattle.wire_show.specs.Fields.{line_of, text_of, tail_at, parts_by, Sized}

-- the text of the lines that were written, and the octets that are left, from an offset on
pub record Walk : Type 0 where
  pub text : List ℕ
  pub at : ℕ
  pub left : List ℕ

-- the line of the next octets was written under a name
abbrev pub behind : List ℕ → ℕ → Walk → Walk
behind name size w =
    record {
      text = w.text ++ line_of (record { name = name; at = w.at; octets = take size w.left });
      at = w.at + length (take size w.left);
      left = drop size w.left;
    }

-- the lines of fields were written
abbrev pub behind_fields : List (Field × ℕ) → Walk → Walk
behind_fields [] w = w
behind_fields (first ∷ others) w = behind_fields others (behind (field_name first.0) first.1 w)

-- the lines of fields of fixed sizes were written
abbrev pub behind_sized : List Sized → Walk → Walk
behind_sized [] w = w
behind_sized (first ∷ others) w = behind_sized others (behind first.name first.size w)

-- the lines of fields were written so many times
abbrev pub behind_times : ℕ → List (Field × ℕ) → Walk → Walk
behind_times zero fields w = w
behind_times (suc count) fields w = behind_times count fields (behind_fields fields w)

-- the text where the octets that are left are the tail
abbrev pub ended : Walk → List ℕ
ended w = w.text ++ text_of (tail_at w.at w.left)

-- the text where the octets that are left are shown by a table
abbrev pub whole : Table → Walk → List ℕ
whole table w = w.text ++ text_of (parts_by table w.at w.left)

-- a part of a table was walked: whatever follows it, the text will be the same
abbrev pub Walks : {A : Type 0} → ((A → Table) → Table) → Walk → Walk → Type 0
Walks {A} part old new = (value : A) × ((more : A → Table) → whole (part more) old ≡ whole (more value) new)

-- a table was walked to its end
abbrev pub WalksOut : Table → Walk → Walk → Type 0
WalksOut table old new = whole table old ≡ ended new

-- what a header decides is this
pub record IsHeadOf (h : Header) (head : Head) : Type 0 where
  pub ptype : h.ptype ≡ head.ptype
  pub flags : h.flags ≡ head.flags
  pub endian : h.endian ≡ head.endian

-- a header was walked, and decides this
abbrev pub WalksHeader : ((Header → Table) → Table) → Walk → Walk → Head → Type 0
WalksHeader part old new head = (h : Header) × IsHeadOf h head × ((more : Header → Table) → whole (part more) old ≡ whole (more h) new)

-- of so many parts of a table so many were walked
abbrev pub WalkedSoFar : {A : Type 0} → ((A → Table) → Table) → ℕ → ℕ → Walk → Walk → Type 0
WalkedSoFar {A} part count left start now =
    (front : List A) × ((more : List A → Table) → whole (repeated part count more) start ≡ whole (repeated part left (λ others. more (front ++ others))) now)
