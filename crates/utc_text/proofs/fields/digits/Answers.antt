use Rattle.std.proofs.Common.{◌≡◌, ◌∙◌, refl, arith}
use Rattle.std.proofs.lemmas.Bool.{le-leb, lt-leb}
use Rattle.std.proofs.lemmas.List.Folds.{length-prefix_len}
use Rattle.std.specs.List.{prefix_len}
use Rattle.std.specs.Char.{is_ascii_digit}
use Rattle.utc_text.specs.Fields.{digits_at}
use Rattle.utc_text.proofs.DigitLemmas.{AllDigits-run}
use Rattle.utc_text.proofs.fields.digits.Goals as goal

pub returns-then-most-len-clause-value : goal.returns-then-most-len-clause-value
unfolding digits_at
returns-then-most-len-clause-value c =
    let n : c.digit_count-len.result ≡ prefix_len is_ascii_digit c.args.here.now = c.digit_count-len.ensures ∙ length-prefix_len is_ascii_digit c.args.here.now in
    rw (lt-leb (prefix_len is_ascii_digit c.args.here.now) c.args.most (omega arith)) refl

pub returns-clause-value : goal.returns-clause-value
unfolding digits_at
returns-clause-value c =
    let n : c.digit_count-len.result ≡ prefix_len is_ascii_digit c.args.here.now = c.digit_count-len.ensures ∙ length-prefix_len is_ascii_digit c.args.here.now in
    rw (le-leb (prefix_len is_ascii_digit c.args.here.now) c.args.most (omega arith), c.split_at.ensures.front, c.split_at.ensures.back, n) refl

pub returns-clause-digits : goal.returns-clause-digits
returns-clause-digits c =
    let n : c.digit_count-len.result ≡ prefix_len is_ascii_digit c.args.here.now = c.digit_count-len.ensures ∙ length-prefix_len is_ascii_digit c.args.here.now in
    (rw (c.split_at.ensures.front, n) (AllDigits-run c.args.here.now), omega (arith, c.split_at.ensures.front_len))
