use Rattle.std.proofs.Common.{rules, ◌≡◌, w64, to_z, of_z}
use Rattle.utc_routines.proofs.EndsLemmas.{low_is_earliest, high_is_latest}
use Rattle.utc_routines.proofs.intervals.points_of.Goals as goal

pub returns-clause-ok : goal.returns-clause-ok
returns-clause-ok c =
    let first : to_z w64 (of_z w64 c.in_ok-first.first) ≡ c.in-Some.ends.low = search rules in
    let last : to_z w64 (of_z w64 c.in_ok-last.last) ≡ c.in-Some.ends.high = search rules in
    rw (c.exact_at.ensures.value, c.exact_at-2.ensures.value, c.exact_at-3.ensures.value) (record {
      earliest = rw first (low_is_earliest c.args.a _ _ c.in-Some.ensures.value);
      latest = rw last (high_is_latest c.args.a _ _ c.in-Some.ensures.value);
      first_only = search rules;
      middle_only = search rules;
      last_only = search rules;
    })
