use Rattle.std.proofs.Common.{length, ap, sym, ◌∙◌, subst, refl, arith}
use Rattle.std.specs.Option.{unwrap_or}
use Rattle.line_reader.proofs.Taking.{IsFeed, takes_cut, takes_whole}
use Rattle.line_reader.proofs.reader.LineReader.take_line.Goals as goal

pub returns-then-count-gt-MAX_LINE : goal.returns-then-count-gt-MAX_LINE
returns-then-count-gt-MAX_LINE c =
    let feed = c.first_feed-feed.result in
    let count = c.unwrap_or-count.ensures ∙ ap (λ o. unwrap_or feed (length o)) c.ahead-2.ensures in
    takes_cut c.args.self.now c.take.new.self feed _ (subst (λ o. IsFeed o feed) c.ahead.ensures c.first_feed-feed.ensures) refl (omega (arith, count)) c.take.ensures c.requires.going

pub returns-then-is_some : goal.returns-then-is_some
returns-then-is_some c =
    let feed = c.first_feed-feed.result in
    let count = c.unwrap_or-count.ensures ∙ ap (λ o. unwrap_or feed (length o)) c.ahead-2.ensures in
    takes_whole c.args.self.now c.take-then-is_some.new.self feed c.unwrap_or-count.result (subst (λ o. IsFeed o feed) c.ahead.ensures c.first_feed-feed.ensures) count
    (sym c.is_some.ensures ∙ c.if-is_some.true) c.if-count-gt-MAX_LINE.false c.take-then-is_some.ensures c.requires.going
