-- What makes answers right, and with them a round honest: so honest servers meet the premise of safety.
use Rattle.std.specs.Prelude.{◌≡◌, ℕ, ℤ, ◌<◌, ◌≤ℤ◌, true, List, length, Option, IfSome}
use Rattle.std.specs.Int.{int_max}
use Rattle.std.specs.List.{AllPass}
use Rattle.intersection.specs.Adoption.{Holds}
use Rattle.clerk.specs.Outcome.{Adopted}
use Rattle.ntp_packet.specs.declared.codec.Packet.{Packet}
use Rattle.ntp_packet.specs.Intervals.{HeldTrueTime, sent_in, received_in}
use Rattle.ntp_packet.specs.Eras.{era_of, interval_of}
use Rattle.sync_rules.specs.Rounds.{Answer}
use Rattle.sync_rules.specs.World.{World, is_right}
use Rattle.node_rules.specs.History.{RoundEnded}
use Rattle.node_safety.specs.World.{is_honest_end}

pub record HonestServersAnswerRight : Type 0 where
  -- an answer is right where its server's interval held true time at some moment between its asking and its coming
  pub server : (world : World) (a : Answer) (then : ℤ) → world.time a.asked.position ≤ℤ then → then ≤ℤ world.time a.got.position
      → a.lo ≤ℤ then → then ≤ℤ a.hi → is_right world a ≡ true
  -- and that of a server of NTP (RFC 5905), where its time, widened by its error, held true time when it received the query and when it
  -- sent the reply, both between the asking and the coming
  pub ntp : (world : World) (a : Answer) (p : Packet) (near received sent : ℤ)
      → a.lo ≡ (interval_of p near).0 → a.hi ≡ int_max (interval_of p near).0 (interval_of p near).1
      → HeldTrueTime p (received_in (era_of p.transmit near) p) received → HeldTrueTime p (sent_in (era_of p.transmit near) p) sent
      → world.time a.asked.position ≤ℤ received → sent ≤ℤ world.time a.got.position → is_right world a ≡ true
  -- a round of right answers, and of an own interval that holds true time where there is one, is honest, whatever it adopts
  pub round : (world : World) (time : ℤ) (answers : List Answer) (own : Option (ℤ × ℤ)) (n : ℕ) (i : ℤ × ℤ) → 0 < length answers
      → AllPass (is_right world) answers → IfSome own (λ o. Holds o time)
      → is_honest_end world time (RoundEnded (Adopted n i) answers own) ≡ true
