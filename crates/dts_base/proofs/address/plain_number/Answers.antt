use Rattle.std.proofs.Common.{refl, sym, subst, ◌∙◌}
use Rattle.std.proofs.lemmas.Bool.{false≢true}
use Rattle.dts_base.specs.Cutting.{IsPlain}
use Rattle.dts_base.proofs.Decimals.{decimal_plain, number_read}
use Rattle.dts_base.proofs.address.plain_number.Goals as goal

pub returns-then-not-is_plain : goal.returns-then-not-is_plain
returns-then-not-is_plain c = λ n h e. false≢true (c.if-not-is_plain.ensures.1 (subst IsPlain (sym (c.as_bytes.ensures.value ∙ e)) (decimal_plain n h)))

pub returns : goal.returns
returns c =
    number_read c.args.text.now c.parse.result c.ok.result (subst IsPlain c.as_bytes.ensures.value (c.if-not-is_plain.ensures.0 refl)) c.parse.ensures.value.0 c.ok.ensures.value
