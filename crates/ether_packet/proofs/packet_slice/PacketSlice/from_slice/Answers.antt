use Rattle.std.proofs.Common.{◌≤◌, refl, sym, ap, subst, arith, rules}
use Rattle.std.specs.Prelude.{None}
use Rattle.ether_peel.specs.Walker.State.{State}
use Rattle.ether_peel.specs.declared.start.Start.{Start}
use Rattle.ether_peel.specs.declared.start.Start.TheVariants as starts
use Rattle.ether_peel.proofs.Walker.Limits.{cut_off}
use Rattle.ether_packet.specs.Gathered.{UnderWay, headers_left}
use Rattle.ether_packet.specs.Packet.{packet_start}
use Rattle.ether_packet.proofs.Gathering.{gathered_first, is_packet}
use Rattle.ether_packet.proofs.packet_slice.PacketSlice.from_slice.Goals as goal
use Rattle.ether_packet.proofs.packet_slice.PacketSlice.from_slice.Goals.{After-new}

few_left : (start : Start) → headers_left (packet_start start) ≤ 5
few_left starts.Ethernet2 = omega arith
few_left start = omega arith

-- the walk begins
begins : (c : After-new)
    → UnderWay (packet_start c.args.start) c.args.bytes.now
    (record { peel = c.with_limit.result; read = c.new.result; fault = None })
begins c =
    let made = c.with_limit.ensures in
    record {
      bytes = λ i. omega (arith, c.type_inv.bytes i);
      gathered =
          gathered_first (packet_start c.args.start) c.args.bytes.now c.with_limit.result c.new.result made.walk.headers
          made.walk.ending refl made.walk.walk made.walk.faces (ap (λ (s : State). s.over) made.state)
          (ap (λ (s : State). s.expected) made.state) c.new.ensures;
      no_fault = refl;
    }

pub read_all-requires-clause-going : goal.read_all-requires-clause-going
read_all-requires-clause-going c =
    (packet_start c.args.start, c.args.bytes.now, begins (goal.at.read_all-requires-clause-going c).After-new)

pub read_all-requires-clause-few : goal.read_all-requires-clause-few
read_all-requires-clause-few c =
    subst (λ (s : State). headers_left s.expected ≤ 5) (sym c.with_limit.ensures.state) (few_left c.args.start)

pub returns-clause-packet : goal.returns-clause-packet
returns-clause-packet c =
    let start = packet_start c.args.start in
    let w = c.read_all.ensures start c.args.bytes.now (begins (goal.at.returns-clause-packet c).After-new) in
    let e = c.ended.ensures in
    is_packet start c.args.bytes.now w.before c.read_all.new.self.peel c.read_all.new.self.read c.ended.result
    c.read_all.new.self.fault w.gathered w.gives e.read e.rest e.offset e.kind e.fault

pub returns-clause-front : goal.returns-clause-front
returns-clause-front c hs ks e f s t = search (rules, cut_off)
