use Rattle.std.proofs.Common.{◌≡◌, ℕ, ◌+◌, ◌≤◌, List, length, Option, false}
use Rattle.ether_base.specs.Bytes.{IsBytes}
use Rattle.ether_pcap.specs.Capture.{PacketValue, CaptureRefusal, HasPackets}
use Rattle.ether_pcap.proofs.CaptureReadingLemmas.{Passed}
use Rattle.ether_pcap.proofs.capture.capture_packets.CapturePacketsIterator.next.Given as goal

abbrev pub invariant-loop-self : goal.invariant-loop-self
invariant-loop-self l = record {
  bytes : IsBytes l.self-inside.rest.now;
  going : l.self-inside.is_over ≡ false;
  shrinks : length l.self-inside.rest.now ≤ length l.initial.self-inside.rest.now;
  place : l.self-inside.offset + length l.self-inside.rest.now
      ≡ l.initial.self-inside.offset + length l.initial.self-inside.rest.now;
  left : (packets : List PacketValue) (left : List ℕ) (fault : Option CaptureRefusal)
      → HasPackets l.initial.self-inside.reader l.initial.self-inside.rest.now packets left fault
      → HasPackets l.self-inside.reader l.self-inside.rest.now packets left fault;
  passed : Passed l.initial.self-inside.reader l.initial.self-inside.rest.now l.self-inside.reader
      l.self-inside.rest.now;
}

abbrev pub decreases-loop-self : goal.decreases-loop-self
decreases-loop-self l = length l.self-inside.rest.now
