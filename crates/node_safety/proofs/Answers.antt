-- Honest servers answer right, and their rounds are honest.
use Rattle.std.proofs.Common.{◌≡◌, ℕ, ℤ, ◌*◌, ◌<◌, true, cond, List, [], ◌∷◌, length, Option, Some, None, refl, ap, ◌∙◌, arith}
use Rattle.std.specs.Prelude.{◌≤ℤ◌, int_le, ◌&&◌, not, IfSome}
use Rattle.std.specs.Int.{int_max}
use Rattle.std.specs.List.{AllPass, count_by}
use Rattle.std.specs.Option.{option_to_list}
use Rattle.std.proofs.lemmas.Int.{ints, int_max_is}
use Rattle.std.proofs.lemmas.Bool.{lt-ltb}
use Rattle.std.proofs.lemmas.List.Sums.{sum_by-cons}
use Rattle.std.proofs.lemmas.List.Elements.{All-head, All-tail}
use Rattle.intersection.specs.Adoption.{Holds, holds}
use Rattle.intersection.proofs.PointLaws.{true_holds}
use Rattle.clerk.specs.Outcome.{Adopted}
use Rattle.ntp_packet.specs.declared.codec.Packet.{Packet}
use Rattle.ntp_packet.specs.Intervals.{HeldTrueTime, sent_in, received_in}
use Rattle.ntp_packet.specs.Eras.{era_of, interval_of}
use Rattle.ntp_packet.proofs.TrueTime.{low_end, high_end}
use Rattle.sync_rules.specs.Rounds.{Answer}
use Rattle.sync_rules.specs.World.{World, is_right}
use Rattle.node_rules.specs.History.{RoundEnded}
use Rattle.node_safety.specs.World.{false_count, interval_count, is_honest_end}
use Rattle.node_safety.specs.Answers.{HonestServersAnswerRight}

le_int_le : (a b : ℤ) → a ≤ℤ b → int_le a b ≡ true
le_int_le a b h = grind (arith, ints)

is_right_by : (world : World) (a : Answer) → a.lo ≤ℤ world.time a.got.position → world.time a.asked.position ≤ℤ a.hi → is_right world a
    ≡ true
is_right_by world a low high =
    ap (λ b. b && int_le (world.time a.asked.position) a.hi) (le_int_le a.lo (world.time a.got.position) low)
    ∙ le_int_le (world.time a.asked.position) a.hi high

server_answers_right : (world : World) (a : Answer) (then : ℤ) → world.time a.asked.position ≤ℤ then → then ≤ℤ world.time a.got.position
    → a.lo ≤ℤ then → then ≤ℤ a.hi
    → is_right world a ≡ true
server_answers_right world a then after before from to =
    is_right_by world a (omega (arith, ints, before, from)) (omega (arith, ints, after, to))

ntp_answers_right : (world : World) (a : Answer) (p : Packet) (near received sent : ℤ) → a.lo ≡ (interval_of p near).0 → a.hi
    ≡ int_max (interval_of p near).0 (interval_of p near).1
    → HeldTrueTime p (received_in (era_of p.transmit near) p) received → HeldTrueTime p (sent_in (era_of p.transmit near) p) sent
    → world.time a.asked.position ≤ℤ received → sent ≤ℤ world.time a.got.position → is_right world a ≡ true
ntp_answers_right world a p near received sent low high held_received held_sent after before =
    let from : (interval_of p near).0 ≤ℤ sent = low_end p (sent_in (era_of p.transmit near) p) sent held_sent in
    let to : received ≤ℤ (interval_of p near).1 = high_end p (received_in (era_of p.transmit near) p) received held_received in
    let greater = int_max_is (interval_of p near).0 (interval_of p near).1 in
    is_right_by world a (omega (arith, ints, low, from, before)) (omega (arith, ints, high, to, after, greater))

none_is_false : (world : World) (answers : List Answer) → AllPass (is_right world) answers
    → count_by (λ a. not (is_right world a)) answers ≡ 0
none_is_false world [] all = refl
none_is_false world (a ∷ answers) all =
    let first : ◌≡◌ {A = ℕ} (cond (not (is_right world a)) 1 0) 0 =
    ap (λ b. cond (not b) 1 0) (All-head (λ x. is_right world x ≡ true) a answers all) in
    let rest = none_is_false world answers (All-tail (λ x. is_right world x ≡ true) a answers all) in
    omega (arith, sum_by-cons (λ x. cond (not (is_right world x)) 1 0) a answers, first, rest)

own_is_right : (time : ℤ) (own : Option (ℤ × ℤ)) → IfSome own (λ o. Holds o time)
    → count_by (λ i. not (holds i time)) (option_to_list own) ≡ 0
own_is_right time None held = refl
own_is_right time (Some o) held =
    let only : ◌≡◌ {A = ℕ} (cond (not (holds o time)) 1 0) 0 = ap (λ b. cond (not b) 1 0) (true_holds o time held) in
    omega (arith, sum_by-cons (λ i. cond (not (holds i time)) 1 0) o [], only)

round_is_honest : (world : World) (time : ℤ) (answers : List Answer) (own : Option (ℤ × ℤ)) (n : ℕ) (i : ℤ × ℤ) → 0 < length answers
    → AllPass (is_right world) answers
    → IfSome own (λ o. Holds o time) → is_honest_end world time (RoundEnded (Adopted n i) answers own) ≡ true
round_is_honest world time answers own n i some all held =
    lt-ltb (2 * false_count world time answers own) (interval_count answers own)
    (omega (arith, some, none_is_false world answers all, own_is_right time own held))

pub honest_servers_answer_right : HonestServersAnswerRight
honest_servers_answer_right = record { server = server_answers_right; ntp = ntp_answers_right; round = round_is_honest }
