use Rattle.std.proofs.Common.{◌≡◌, ◌+◌, ◌*◌, ◌<◌, ◌≤◌, ℕ, List, length, sym, ap, subst, arith}
use Rattle.std.specs.Prelude.{Option, Some, None, MatchOption, slice_index}
use Rattle.etherparse.specs.Types.Layer.{Layer}
use Rattle.etherparse.specs.Types.Layer.TheVariants as layers
use Rattle.ether_peel.specs.Grammar.Completion.{CanBeCompleted, Plan as IsPlan, IsShort}
use Rattle.ether_peel.specs.Grammar.Completion as plans
use Rattle.ether_peel.specs.declared.completing.Plan.{Plan}
use Rattle.ether_peel.proofs.completing.planned.Goals as goal

-- the layer that was matched
in_layer : (begun : List ℕ) (layer was : Layer) (len total : ℕ) (place : Option ℕ) → was ≡ layer
    → CanBeCompleted layer len → IsPlan begun layer total place → CanBeCompleted was len × IsPlan begun was total place
in_layer begun layer was len total place e can plan = (
  subst (λ (l : Layer). CanBeCompleted l len) (sym e) can,
  subst (λ (l : Layer). IsPlan begun l total place) (sym e) plan,
)

few_bytes : (len : ℕ) → CanBeCompleted layers.MacsecHeader len → len < 6 → ⊥
few_bytes len (plans.CanBeCompleted.macsec n six) few = omega arith

-- of a SecTag
tag_planned : (begun : List ℕ) (layer : Layer) (result : Option Plan) → layer ≡ layers.MacsecHeader
    → MatchOption result (length begun < 6)
    (λ plan. (6 ≤ length begun) × IsPlan begun layers.MacsecHeader plan.total plan.ether_type_at)
    → MatchOption result (CanBeCompleted layer (length begun) → ⊥)
    (λ plan. CanBeCompleted layer (length begun) × IsPlan begun layer plan.total plan.ether_type_at)
tag_planned begun layer None e few =
    λ can. few_bytes (length begun) (subst (λ (l : Layer). CanBeCompleted l (length begun)) e can) few
tag_planned begun layer (Some plan) e is =
    in_layer begun layers.MacsecHeader layer (length begun) plan.total plan.ether_type_at e
    (plans.CanBeCompleted.macsec (length begun) is.0) is.1

pub returns-in-Ethernet2Header : goal.returns-in-Ethernet2Header
returns-in-Ethernet2Header c =
    in_layer c.args.begun.now layers.Ethernet2Header c.args.layer (length c.args.begun.now) 14 (Some 12)
    c.in-Ethernet2Header.is (plans.CanBeCompleted.ethernet2 (length c.args.begun.now)) plans.Plan.ethernet2

pub returns-in-VlanHeader : goal.returns-in-VlanHeader
returns-in-VlanHeader c =
    in_layer c.args.begun.now layers.VlanHeader c.args.layer (length c.args.begun.now) 4 (Some 2) c.in-VlanHeader.is
    (plans.CanBeCompleted.vlan (length c.args.begun.now)) plans.Plan.vlan

pub returns-in-Arp : goal.returns-in-Arp
returns-in-Arp c =
    let total = 8 + 2 * c.byte_at.result + 2 * c.byte_at-in-Arp.result in
    let plan : IsPlan c.args.begun.now layers.Arp total None =
    subst (λ (n : ℕ). IsPlan c.args.begun.now layers.Arp n None)
    (ap (λ (n : ℕ). 8 + 2 * n + 2 * c.byte_at-in-Arp.result) (sym c.byte_at.ensures))
    (subst (λ (n : ℕ). IsPlan c.args.begun.now layers.Arp (8 + 2 * slice_index c.args.begun.now 4 + 2 * n) None)
    (sym c.byte_at-in-Arp.ensures) plans.Plan.arp) in
    in_layer c.args.begun.now layers.Arp c.args.layer (length c.args.begun.now) total None c.in-Arp.is
    (plans.CanBeCompleted.arp (length c.args.begun.now)) plan

pub returns-in-MacsecHeader : goal.returns-in-MacsecHeader
returns-in-MacsecHeader c =
    tag_planned c.args.begun.now c.args.layer c.planned_tag.result c.in-MacsecHeader.is c.planned_tag.ensures
