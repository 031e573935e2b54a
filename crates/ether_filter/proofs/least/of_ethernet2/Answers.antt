use Rattle.std.proofs.Common.{◌≡◌, sym, ◌∙◌, arith, true, false, IsTrue}
use Rattle.etherparse.specs.Kind as kinds
use Rattle.ether_filter.proofs.LeastBytes.{never_decided}
use Rattle.ether_filter.proofs.LeastLinks.{decided_header}
use Rattle.ether_filter.proofs.LeastTypes.{never_open}
use Rattle.ether_filter.proofs.Prospects.{ethernet2_is_fixed}
use Rattle.ether_filter.proofs.least.of_ethernet2.Goals as goal

pub returns-then-room-lt14 : goal.returns-then-room-lt14
returns-then-room-lt14 c field packet hs ok o a u =
    absurd (never_open c.args.primitive packet hs kinds.Ethernet2 c.args.known.now c.args.room 14 ethernet2_is_fixed
    c.if-room-lt14.true o u)

pub returns-then-not-is_of_link : goal.returns-then-not-is_of_link
returns-then-not-is_of_link c =
    c.of_ethernet2_type.ensures (sym c.is_of_link.ensures ∙ c.if-not-is_of_link.true)

pub returns-then-is_open : goal.returns-then-is_open
returns-then-is_open c =
    c.of_addresses.ensures (sym c.is_of_link.ensures ∙ c.if-not-is_of_link.false) c.args.told c.args.room
    c.if-room-lt14.false

pub returns-else-is_open : goal.returns-else-is_open
returns-else-is_open c field packet hs ok o a u =
    let closed : IsTrue c.own_of-own.result.matches → IsTrue c.own_of-own.result.fails → ⊥ =
    λ t f. (let clash : true ≡ false = sym (c.is_open.ensures.1 (t, f)) ∙ c.if-is_open.false in cc) in
    absurd (never_decided c.args.primitive packet (decided_header c.args.primitive packet hs c.args.known.now
    c.args.room c.own_of-own.result c.requires.few (λ i. omega (arith, c.type_inv.known i)) c.if-room-lt14.false
    (sym c.is_of_link.ensures ∙ c.if-not-is_of_link.false) field closed ok o
    (c.own_of-own.ensures (sym c.is_of_link.ensures ∙ c.if-not-is_of_link.false) field)) u)

pub of_addresses-requires-clause-open : goal.of_addresses-requires-clause-open
of_addresses-requires-clause-open c =
    let both = c.is_open.ensures.0 c.if-is_open.true in
    (c.own_of-own.result, c.own_of-own.ensures, both.0, both.1)
