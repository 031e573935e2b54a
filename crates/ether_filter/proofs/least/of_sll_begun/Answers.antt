use Rattle.std.proofs.Common.{◌≡◌, sym, ◌∙◌, arith, true, false}
use Rattle.ether_filter.proofs.LeastBytes.{never_decided}
use Rattle.ether_filter.proofs.LeastSll.{sll_next_byte}
use Rattle.ether_filter.proofs.least.of_sll_begun.Goals as goal

pub returns-then-stays_open : goal.returns-then-stays_open
returns-then-stays_open c field packet hs ok o a u =
    sll_next_byte c.args.primitive c.args.told c.sll_prospect-after.result packet hs c.args.known.now c.args.room
    (λ p ks l r open_as fits b. c.stays_open.ensures.undecided field c.if-stays_open.true p ks l r open_as tt b)
    c.sll_prospect-after.ensures c.requires.few ok o a u

pub returns-else-stays_open : goal.returns-else-stays_open
returns-else-stays_open c field packet hs ok o a u =
    absurd (never_decided c.args.primitive packet (c.stays_open.ensures.decided field
    (λ t. (let clash : true ≡ false = sym t ∙ c.if-stays_open.false in cc)) packet hs c.args.known.now c.args.room
    (record {
      bytes = ok;
      cut = (let few = c.requires.few in omega (arith, few));
      unit = o;
      prospect = c.sll_prospect-after.ensures;
    }) tt a) u)
