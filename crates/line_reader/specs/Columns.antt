-- Where fields stand in their line.
use Rattle.std.specs.Prelude.{◌≤◌, length, IfSome}
use Rattle.line_reader.specs.declared.fields.Fields.TheInside.{Inside}

-- what is left of the line is not longer than it, and neither are the octets in front of a field
pub record IsCut (f : Inside) : Type 0 where
  pub rest : IfSome f.rest (λ rest. length rest.now ≤ length f.line.now)
  pub before : f.before ≤ length f.line.now
