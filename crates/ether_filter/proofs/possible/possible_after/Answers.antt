use Rattle.std.proofs.Common.{sym, subst}
use Rattle.ether_filter.specs.declared.primitive.Primitive.{Primitive}
use Rattle.ether_filter.specs.OwnFields.{FitsOwn}
use Rattle.ether_filter.specs.Possible.{IsPossible, AreTold}
use Rattle.ether_filter.proofs.PossibleCases.{links_left, lengths_left}
use Rattle.ether_filter.proofs.ToldLemmas.{decided_possible, lengths_by}
use Rattle.ether_filter.proofs.possible.possible_after.Goals as goal

pub returns-in-Vlan : goal.returns-in-Vlan
returns-in-Vlan c free packet hs known room o fits told =
    subst (λ (q : Primitive). IsPossible packet q c.of_vlan.result) (sym c.in-Vlan.is)
    (c.of_vlan.ensures packet hs known room o
    (subst (λ (q : Primitive). AreTold packet hs q c.args.told) c.in-Vlan.is told))

pub returns-in-VlanId : goal.returns-in-VlanId
returns-in-VlanId c free packet hs known room o fits told =
    subst (λ (q : Primitive). IsPossible packet q c.of_vlan_id.result) (sym c.in-VlanId.is)
    (c.of_vlan_id.ensures packet hs known room o
    (subst (λ (q : Primitive). FitsOwn q c.args.kind known c.args.own) c.in-VlanId.is fits)
    (subst (λ (q : Primitive). AreTold packet hs q c.args.told) c.in-VlanId.is told))

pub returns-in-OuterVlan : goal.returns-in-OuterVlan
returns-in-OuterVlan c free packet hs known room o fits told =
    subst (λ (q : Primitive). IsPossible packet q c.of_outer_vlan.result) (sym c.in-OuterVlan.is)
    (c.of_outer_vlan.ensures packet hs known room o
    (subst (λ (q : Primitive). FitsOwn q c.args.kind known c.args.own) c.in-OuterVlan.is fits)
    (subst (λ (q : Primitive). AreTold packet hs q c.args.told) c.in-OuterVlan.is told))

pub returns-in-InnerVlan : goal.returns-in-InnerVlan
returns-in-InnerVlan c free packet hs known room o fits told =
    subst (λ (q : Primitive). IsPossible packet q c.of_inner_vlan.result) (sym c.in-InnerVlan.is)
    (c.of_inner_vlan.ensures packet hs known room o
    (subst (λ (q : Primitive). FitsOwn q c.args.kind known c.args.own) c.in-InnerVlan.is fits)
    (subst (λ (q : Primitive). AreTold packet hs q c.args.told) c.in-InnerVlan.is told))

pub returns-in-Macsec : goal.returns-in-Macsec
returns-in-Macsec c free packet hs known room o fits told =
    subst (λ (q : Primitive). IsPossible packet q c.of_macsec.result) (sym c.in-Macsec.is)
    (c.of_macsec.ensures packet hs known room o
    (subst (λ (q : Primitive). AreTold packet hs q c.args.told) c.in-Macsec.is told))

pub returns-in-EtherType : goal.returns-in-EtherType
returns-in-EtherType c free packet hs known room o fits told =
    subst (λ (q : Primitive). IsPossible packet q c.of_ether_type.result) (sym c.in-EtherType.is)
    (c.of_ether_type.ensures packet hs c.args.kind known room o
    (subst (λ (q : Primitive). AreTold packet hs q c.args.told) c.in-EtherType.is told))

pub returns-in-Refused : goal.returns-in-Refused
returns-in-Refused c free packet hs known room o fits told =
    subst (λ (q : Primitive). IsPossible packet q c.of_refused.result) (sym c.in-Refused.is)
    (c.of_refused.ensures packet hs c.args.kind known room o)

pub returns-in-Cut : goal.returns-in-Cut
returns-in-Cut c free packet hs known room o fits told =
    let left = lengths_left c.args.primitive free c.in-Cut.is in
    decided_possible packet hs c.args.kind known room c.args.after c.args.primitive
    c.args.told c.decided.result o
    (lengths_by packet hs c.args.kind known room c.args.after c.args.primitive o left.0)
    told left.1 c.decided.ensures.matches c.decided.ensures.fails

pub returns-in_default : goal.returns-in_default
returns-in_default c free packet hs known room o fits told =
    let never = c.in_default in
    c.of_addresses.ensures c.args.primitive
    (links_left c.args.primitive never.not-Vlan never.not-VlanId never.not-OuterVlan never.not-InnerVlan
    never.not-Macsec never.not-EtherType never.not-Refused never.not-Cut never.not-Less never.not-Greater
    never.not-Frame never.not-Field) free packet hs known room o fits told
