use Rattle.std.proofs.Common.{◌≡◌, ◌<◌, sym, ◌∙◌, arith, true, false}
use Rattle.ether_filter.specs.Prospects.{front_of}
use Rattle.ether_filter.proofs.LeastBytes.{never_decided}
use Rattle.ether_filter.proofs.LeastMacsec.{IsTypedTag, tag_here, tag_least, tag_unroomy, tag_modified}
use Rattle.ether_filter.proofs.ShortSecTags.{both_clear}
use Rattle.ether_filter.proofs.least.of_tag_front.Goals as goal

pub returns-in_default : goal.returns-in_default
returns-in_default c field packet hs ok o a u =
    let never = rw c.in_default.is at c.room_after.ensures in
    absurd (tag_unroomy c.args.primitive packet hs c.args.known.now c.args.first c.args.second c.args.room
    c.requires.begins never o u)

pub returns-then-is_modified : goal.returns-then-is_modified
returns-then-is_modified c field packet hs ok o a u =
    let small : c.args.second < 256 = omega (arith, c.ranges.second) in
    let roomy = rw c.in-Some.is at c.room_after.ensures in
    absurd (tag_modified c.args.primitive c.args.told packet hs c.args.known.now c.args.first c.args.second c.args.room
    (λ i. omega (arith, c.type_inv.known i)) c.requires.begins c.requires.few roomy.0
    ((c.is_modified.ensures c.args.second small).0 c.if-is_modified.true) field ok o a u)

pub returns-then-stays_open : goal.returns-then-stays_open
returns-then-stays_open c field packet hs ok o a u =
    let known = c.args.known.now in
    let small : c.args.second < 256 = omega (arith, c.ranges.second) in
    let roomy = rw c.in-Some.is at c.room_after.ensures in
    let clear = both_clear (front_of c.args.first c.args.second).encrypted
    (front_of c.args.first c.args.second).changed c.is_modified.result (c.is_modified.ensures c.args.second small)
    c.if-is_modified.false in
    let len_is = c.tag_len-len.ensures c.args.second small in
    let t : IsTypedTag known c.args.first c.args.second c.args.room c.tag_len-len.result c.in-Some.payload
    c.type_at.result = record {
      known_ok = λ i. omega (arith, c.type_inv.known i);
      begins = c.requires.begins;
      few = (let few = c.requires.few in omega (arith, few, len_is));
      len_is = len_is;
      roomy = roomy.0;
      payload_is = roomy.1;
      encrypted = clear.0;
      changed = clear.1;
      at = c.type_at.ensures;
    } in
    tag_least c.args.primitive c.args.told packet hs known c.args.first c.args.second c.args.room c.tag_len-len.result
    c.in-Some.payload c.with_type.result c.type_at.result t
    (λ p ks l r open_as fits b. c.stays_open.ensures.undecided field c.if-stays_open.true p ks l r open_as tt b)
    c.with_type.ensures.high c.with_type.ensures.low field ok o a u

pub returns-else-stays_open : goal.returns-else-stays_open
returns-else-stays_open c field packet hs ok o a u =
    let known = c.args.known.now in
    let small : c.args.second < 256 = omega (arith, c.ranges.second) in
    let roomy = rw c.in-Some.is at c.room_after.ensures in
    let clear = both_clear (front_of c.args.first c.args.second).encrypted
    (front_of c.args.first c.args.second).changed c.is_modified.result (c.is_modified.ensures c.args.second small)
    c.if-is_modified.false in
    let len_is = c.tag_len-len.ensures c.args.second small in
    let t : IsTypedTag known c.args.first c.args.second c.args.room c.tag_len-len.result c.in-Some.payload
    c.type_at.result = record {
      known_ok = λ i. omega (arith, c.type_inv.known i);
      begins = c.requires.begins;
      few = (let few = c.requires.few in omega (arith, few, len_is));
      len_is = len_is;
      roomy = roomy.0;
      payload_is = roomy.1;
      encrypted = clear.0;
      changed = clear.1;
      at = c.type_at.ensures;
    } in
    absurd (never_decided c.args.primitive packet (c.stays_open.ensures.decided field
    (λ s. (let clash : true ≡ false = sym s ∙ c.if-stays_open.false in cc)) packet hs known c.args.room
    (tag_here packet hs known c.args.first c.args.second c.args.room c.tag_len-len.result c.in-Some.payload
    c.type_at.result t ok o) tt a) u)
