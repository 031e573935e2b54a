use Rattle.std.proofs.Common.{◌≡◌, sym, ◌∙◌, arith, true, false}
use Rattle.ether_filter.proofs.LeastArp.{arp_least, arp_never}
use Rattle.ether_filter.proofs.LeastBytes.{never_decided}
use Rattle.ether_filter.proofs.least.of_arp.Goals as goal

pub returns-then-known-ge6 : goal.returns-then-known-ge6
returns-then-known-ge6 c field packet hs ok o a u =
    absurd (arp_never c.args.primitive c.args.told packet hs c.args.known.now c.args.room c.if-known-ge6.true
    c.requires.inside field (λ i. omega (arith, c.type_inv.known i)) ok o a u)

pub returns-then-stays_open : goal.returns-then-stays_open
returns-then-stays_open c field packet hs ok o a u =
    arp_least c.args.primitive c.args.told c.arp_prospect-after.result packet hs c.args.known.now c.args.room
    c.with_type.result
    (λ p ks l r open_as fits b. c.stays_open.ensures.undecided field c.if-stays_open.true p ks l r open_as tt b)
    c.arp_prospect-after.ensures c.if-known-ge6.false c.requires.inside c.with_type.ensures.high
    c.with_type.ensures.low field
    (λ i. omega (arith, c.type_inv.known i)) ok o a u

pub returns-else-stays_open : goal.returns-else-stays_open
returns-else-stays_open c field packet hs ok o a u =
    absurd (never_decided c.args.primitive packet (c.stays_open.ensures.decided field
    (λ t. (let clash : true ≡ false = sym t ∙ c.if-stays_open.false in cc)) packet hs c.args.known.now c.args.room
    (record { bytes = ok; cut = tt; unit = o; prospect = c.arp_prospect-after.ensures }) tt a) u)
