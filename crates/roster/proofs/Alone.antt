-- A node alone: the file of its name, and its rates.
use Rattle.std.proofs.Common.{◌≡◌, ℕ, List, [], Some, None, refl, sym, ap, subst, ◌∙◌, arith}
use Rattle.std.specs.Prelude.{codes}
use Rattle.std.specs.List.{AllZip}
use Rattle.std.specs.Str.{is_utf8, chars}
use Rattle.toml.specs.Data.{Members, no_members, member, table}
use Rattle.toml.proofs.OnLiterals.{toml_on_literals}
use Rattle.slew_clock.specs.UsualRates.{usual_rates}
use Rattle.roster.specs.declared.settings.Settings.{Settings}
use Rattle.roster.specs.Rates.{rates_of}
use Rattle.roster.specs.Wrong.{document_of, document_wrong}
use Rattle.roster.specs.RosterData.{RosterData}
use Rattle.roster.specs.Rosters.{IsRoster, GivesSettings, GivesEntry, alone}
use Rattle.roster.proofs.ReadIs.{document_is}
use Rattle.roster.proofs.Equal.{equal_settings}
use Rattle.roster.proofs.Settled.{same_number}

abbrev file : List ℕ
file = codes "[node]\nname = \"node\"\n"

abbrev document : Members
document = member (codes "node") (table alone) no_members

file_is : document_of file ≡ Some document
unfolding toml_on_literals is_utf8 chars
file_is = refl

nothing_is_wrong : document_wrong document ≡ None
nothing_is_wrong = refl

pub file_suffices : (r : RosterData) → GivesSettings alone r.settings → r.entries ≡ [] → IsRoster (codes "[node]\nname = \"node\"\n") r
file_suffices r settings none = record {
  right = document_is file document (omega arith) file_is ∙ nothing_is_wrong;
  doc = document;
  is_document = file_is;
  gives = record { node = alone; has_node = refl; settings = settings; servers = subst (AllZip GivesEntry []) (sym none) tt };
}

-- the settings with the usual rates
abbrev with_usual_rates : Settings → Settings
with_usual_rates s = record s {
  drift_ppm = usual_rates.drift_ppm;
  resolution = usual_rates.resolution;
  lease = usual_rates.lease;
  slew_ppm = usual_rates.slew_ppm;
  tolerance = usual_rates.tolerance;
  drift_in_range = usual_rates.drift_in_range;
  resolution_in_range = usual_rates.resolution_in_range;
  lease_from = usual_rates.lease_from;
  lease_to = usual_rates.lease_to;
  slew_from = usual_rates.slew_from;
  slew_to = usual_rates.slew_to;
  tolerance_from = usual_rates.tolerance_from;
  tolerance_to = usual_rates.tolerance_to;
}

pub rates_are_usual : (s : Settings) → GivesSettings alone s → rates_of s ≡ usual_rates
rates_are_usual s gives =
    let given = gives.others in
    let drift = same_number s.drift_ppm usual_rates.drift_ppm given.drift_ppm refl in
    let resolution = same_number s.resolution usual_rates.resolution given.resolution refl in
    let lease = same_number s.lease usual_rates.lease given.lease refl in
    let slew = same_number s.slew_ppm usual_rates.slew_ppm given.slew_ppm refl in
    let tolerance = same_number s.tolerance usual_rates.tolerance given.tolerance refl in
    ap rates_of (equal_settings s (with_usual_rates s) refl refl refl refl refl refl refl refl refl refl drift resolution lease slew tolerance)
