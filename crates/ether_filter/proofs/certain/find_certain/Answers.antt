use Rattle.std.proofs.Common.{refl, sym, subst}
use Rattle.ether_filter.specs.declared.packet.Packet.{Packet}
use Rattle.ether_filter.specs.Certain.{AreCertain}
use Rattle.ether_filter.specs.Certain as certain
use Rattle.ether_filter.specs.CutWalks.{IsCutWalk}
use Rattle.ether_filter.proofs.CutWalks.{cuts_roomless}
use Rattle.ether_filter.proofs.WithoutFcs.{other_without, fcs_start_is}
use Rattle.ether_filter.proofs.certain.find_certain.Goals as goal

pub returns-then-not-has_fcs-clause-certain : goal.returns-then-not-has_fcs-clause-certain
returns-then-not-has_fcs-clause-certain c is none more =
    let walk = c.certain_of.ensures.walk (sym c.if-not-has_fcs.ensures) is none more in
    record {
      plain = certain.same c.certain_of.ensures.packet;
      walk = subst (λ (p : Packet). IsCutWalk p c.certain_of.new.seen c.certain_of.new.ids c.certain_of.result.end)
          (sym c.certain_of.ensures.packet) walk;
    }

pub returns-in-Some-clause-certain : goal.returns-in-Some-clause-certain
returns-in-Some-clause-certain c is none more =
    let packet = c.args.packet.now in
    let w = c.in-Some.ensures.some (sym c.if-not-has_fcs.ensures) in
    let walk = c.certain_of-in-Some.ensures.walk (other_without packet c.in-Some.plain w) is none more in
    let same = sym c.certain_of-in-Some.ensures.packet in
    subst (λ (p : Packet). AreCertain packet c.certain_of-in-Some.new.seen c.certain_of-in-Some.new.ids
    (record { packet = p; end = c.certain_of-in-Some.result.end })) same
    (record { plain = certain.without w; walk = walk })

pub returns-in-None-clause-certain : goal.returns-in-None-clause-certain
returns-in-None-clause-certain c is none more =
    let packet = c.args.packet.now in
    let has = sym c.if-not-has_fcs.ensures in
    record {
      plain = certain.same refl;
      walk = cuts_roomless packet c.args.seen.now c.args.ids.now (fcs_start_is packet.start has) is none
          (c.in-None.ensures.none has);
    }
