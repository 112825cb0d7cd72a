use Rattle.std.proofs.Common.{◌≡◌, ◌≤◌, length}
use Rattle.pdu_fields.specs.declared.header.TheConstants.{MAX_FRAGMENT}
use Rattle.wire_show.specs.Input.{octets_from}
use Rattle.wire_show.specs.Showing.{behind_front}
use Rattle.wire_show.proofs.digits.octets_of.Given as goal

abbrev pub invariant-loop-left : goal.invariant-loop-left
invariant-loop-left l = record {
  spelled : octets_from 0 l.text ≡ behind_front l.octets.items (octets_from (length l.octets.items) l.left);
  few : length l.octets.items ≤ MAX_FRAGMENT;
}

abbrev pub decreases-loop-left : goal.decreases-loop-left
decreases-loop-left l = length l.left
