use Rattle.std.proofs.Common.{◌+◌, nat_eq, ◌&&◌, ◌||◌, Bool, ap, ◌∙◌}
use Rattle.example_switch.specs.Configured.{carries, sends_untagged}
use Rattle.example_switch.proofs.Numbered.{one_more, all_so_far}
use Rattle.example_switch.proofs.port.vlan_of.Goals as goal

pub loop-i-preserved : goal.loop-i-preserved
loop-i-preserved c =
    let a = c.args in
    let i = c.loop-i.i in
    let (members, untagged, first, buckets) = c.loop-i.invariant in (
      (λ p lt.
          c.insert_if.ensures p lt
          ∙ ap (λ (b : Bool). (c.carries.result && nat_eq p (i + 1)) || b) (members p lt)
          ∙ one_more (carries a.vid) a.ports.now i p c.index-ports-i.result c.carries.result
          c.loop-i-test.true c.index-ports-i.is c.carries.ensures),
      (λ p lt.
          c.insert_if-in-loop-i.ensures p lt
          ∙ ap (λ (b : Bool). (c.sends_untagged.result && nat_eq p (i + 1)) || b) (untagged p lt)
          ∙ one_more (sends_untagged a.vid) a.ports.now i p c.index-ports-i-in-loop-i.result c.sends_untagged.result
          c.loop-i-test.true c.index-ports-i-in-loop-i.is c.sends_untagged.ensures),
      first,
      buckets,
    )

pub returns : goal.returns
returns c =
    let a = c.args in
    let i = c.loop-i.i in
    let (members, untagged, first, buckets) = c.loop-i.invariant in
    record {
      members = λ p lt. members p lt ∙ all_so_far (carries a.vid) a.ports.now i p c.loop-i-test.false;
      untagged = λ p lt. untagged p lt ∙ all_so_far (sends_untagged a.vid) a.ports.now i p c.loop-i-test.false;
      first = first;
      buckets = buckets;
    }
