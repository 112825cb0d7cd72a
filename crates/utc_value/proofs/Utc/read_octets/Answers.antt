use Rattle.std.proofs.Common.{rules, ◌≡◌, drop, FitsSigned, w16, w64, ap, ◌∙◌, Ok}
use Rattle.std.proofs.lemmas.Int.{to_z-of_z}
use Rattle.std.proofs.lemmas.Bool.{iff_false}
use Rattle.byteorder.specs.Endian.{little_number}
use Rattle.byteorder.specs.Numbers.{little_from-lt}
use Rattle.std.proofs.lemmas.List.{get_or-drop}
use Rattle.utc_value.specs.Octets.{version_of, version_in, tdf_in}
use Rattle.utc_value.proofs.OctetLemmas.{refused_tdf, accepted_tdf, read_is_spelled, read_is_given}
use Rattle.utc_value.proofs.Utc.read_octets.Goals as goal

pub returns-then-not-is_tdf_of-clause-tdf : goal.returns-then-not-is_tdf_of-clause-tdf
returns-then-not-is_tdf_of-clause-tdf c found =
    let fits : FitsSigned w16 c.low_12_signed-tdf.result = search rules in
    let last : c.fields_of-fields.result.last ≡ little_number 2 (drop 14 c.args.octets) = c.fields_of-fields.ensures.last in
    let version : version_of c.in_ok-kind.kind ≡ version_in c.args.octets = rw (← last) c.in_ok-kind.ensures.ok in
    let tdf : c.low_12_signed-tdf.result ≡ tdf_in c.args.octets = rw (← last) c.low_12_signed-tdf.ensures in
    simp to_z-of_z (refused_tdf c.in_ok-kind.kind c.low_12_signed-tdf.result found c.args.octets version tdf (simp to_z-of_z at (iff_false c.is_tdf_of.ensures c.if-not-is_tdf_of.true)))

pub specified-requires : goal.specified-requires
specified-requires c =
    rw c.fields_of-fields.ensures.inaccuracy
    (little_from-lt 0 6 (drop 8 c.args.octets) (λ i. rw (get_or-drop 8 c.args.octets i 0) (c.fields_of-fields.ensures.octets _)))

pub returns-clause-ok : goal.returns-clause-ok
returns-clause-ok c =
    let fits : FitsSigned w16 c.low_12_signed-tdf.result = search rules in
    let time_fits : FitsSigned w64 c.fields_of-fields.result.time = search rules in
    let last : c.fields_of-fields.result.last ≡ little_number 2 (drop 14 c.args.octets) = c.fields_of-fields.ensures.last in
    let version : version_of c.in_ok-kind.kind ≡ version_in c.args.octets = rw (← last) c.in_ok-kind.ensures.ok in
    let tdf : c.low_12_signed-tdf.result ≡ tdf_in c.args.octets = rw (← last) c.low_12_signed-tdf.ensures in
    simp to_z-of_z (read_is_spelled _ c.args.octets (search rules) c.fields_of-fields.ensures.octets c.fields_of-fields.ensures.time
    (c.specified.ensures.value ∙ c.fields_of-fields.ensures.inaccuracy) version tdf)

pub returns-clause-reads_back : goal.returns-clause-reads_back
returns-clause-reads_back c s h e =
    let fits : FitsSigned w16 c.low_12_signed-tdf.result = search rules in
    let time_fits : FitsSigned w64 c.fields_of-fields.result.time = search rules in
    let last : c.fields_of-fields.result.last ≡ little_number 2 (drop 14 c.args.octets) = c.fields_of-fields.ensures.last in
    let version : version_of c.in_ok-kind.kind ≡ version_in c.args.octets = rw (← last) c.in_ok-kind.ensures.ok in
    let tdf : c.low_12_signed-tdf.result ≡ tdf_in c.args.octets = rw (← last) c.low_12_signed-tdf.ensures in
    simp to_z-of_z (ap (λ x. Ok x) (read_is_given s c.args.octets _ _ _ _ time_fits c.fields_of-fields.ensures.time
    c.specified.ensures.in_range (c.specified.ensures.value ∙ c.fields_of-fields.ensures.inaccuracy) version tdf h e))

pub returns-clause-tdf : goal.returns-clause-tdf
returns-clause-tdf c found =
    let fits : FitsSigned w16 c.low_12_signed-tdf.result = search rules in
    let last : c.fields_of-fields.result.last ≡ little_number 2 (drop 14 c.args.octets) = c.fields_of-fields.ensures.last in
    let version : version_of c.in_ok-kind.kind ≡ version_in c.args.octets = rw (← last) c.in_ok-kind.ensures.ok in
    let tdf : c.low_12_signed-tdf.result ≡ tdf_in c.args.octets = rw (← last) c.low_12_signed-tdf.ensures in
    accepted_tdf c.in_ok-kind.kind c.low_12_signed-tdf.result found c.args.octets _ version tdf (simp to_z-of_z at (c.is_tdf_of.ensures.0 c.if-not-is_tdf_of.false))
