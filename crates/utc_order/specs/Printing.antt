-- How lines are printed one after the other. No public clause reaches it.
use Rattle.std.specs.Prelude.{◌≡◌, ℕ, List, ◌∷◌, ◌++◌, Option}
use Rattle.dts_base.specs.Streams.{Wrote}
use Rattle.utc_order.specs.declared.cause.OrderStatus.{OrderStatus}
use Rattle.utc_order.specs.declared.cause.OrderStatus.TheVariants as status
use Rattle.utc_order.specs.declared.place.Place.{Place}
use Rattle.utc_order.specs.declared.reach.Reach.{Reach}
use Rattle.utc_order.specs.Lines.{LogLine}
use Rattle.utc_order.specs.Places.{lines_at}
use Rattle.utc_order.specs.Marks.{text_behind}
use Rattle.utc_order.specs.Keeping.{reach_of}

-- the line at a place was put at the end of the text behind those that were printed, and the printed lines reach so far now
pub record PrintsOn (lines : List LogLine) (place : Place) (printed : List LogLine) (reach : Reach) (text more : List ℕ) : Type 0 where
  pub after : List LogLine
  pub reach_is : reach ≡ reach_of after
  pub on : (rest : List Place) → more ++ text_behind after (lines_at lines rest) ≡ text ++ text_behind printed (lines_at lines (place ∷ rest))

-- a front of the text was written, and the rest is left
pub record WritesFront (before now : Option (List ℕ)) (text rest : List ℕ) : Type 0 where
  pub front : List ℕ
  pub all : text ≡ front ++ rest
  pub wrote : Wrote before now front

-- a write failed, or memory is missing
abbrev pub IsWriteStop : OrderStatus → Type 0
IsWriteStop status.WriteFault = Unit {0}
IsWriteStop status.NoMemory = Unit {0}
IsWriteStop _ = ⊥
