-- A roster as clauses see one.
use Rattle.std.specs.Prelude.{List}
use Rattle.roster.specs.declared.settings.Settings.{Settings}
use Rattle.roster.specs.declared.entry.Entry.{Entry}

pub record RosterData : Type 0 where
  pub settings : Settings
  pub entries : List Entry
