use Rattle.std.proofs.Common.{◌≡◌, map, drop}
use Rattle.std.specs.Prelude.{codes}
use Rattle.std.specs.List.{slice_get}
use Rattle.toml.specs.View.{view}
use Rattle.roster.specs.declared.limits.TheConstants.{MAX_NTP}
use Rattle.roster.specs.Wrong.{positions_from, has_text}
use Rattle.roster.proofs.first_wrong.ntp_wrong.Given as goal

abbrev pub invariant-loop-i : goal.invariant-loop-i
invariant-loop-i l =
    let is_ntp = has_text (codes "kind") (codes "ntp") in
    slice_get (positions_from 0 is_ntp (map view l.fn.servers)) MAX_NTP ≡ slice_get (positions_from l.i is_ntp (map view (drop l.i l.fn.servers))) l.left
