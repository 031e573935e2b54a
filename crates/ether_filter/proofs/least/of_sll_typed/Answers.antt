use Rattle.std.proofs.Common.{◌≡◌, sym, subst, ◌∙◌, arith, true, false}
use Rattle.ether_filter.specs.declared.prospect.OpenKind.TheVariants as open_kinds
use Rattle.ether_filter.specs.declared.prospect.Prospect.{Prospect}
use Rattle.ether_filter.specs.Needed.{IsDecided}
use Rattle.ether_filter.specs.LeastBytes.{AllOpen}
use Rattle.ether_filter.proofs.LeastBytes.{AllUndecided, never_decided}
use Rattle.ether_filter.proofs.LeastTags.{either}
use Rattle.ether_filter.proofs.LeastSll.{IsTypedSll, sll_here, sll_least, sll_never, sll_room, sll_link}
use Rattle.ether_filter.proofs.least.of_sll_typed.Goals as goal

pub returns-then-room-lt16 : goal.returns-then-room-lt16
returns-then-room-lt16 c field packet hs ok o a u =
    let long = sll_room c.args.primitive packet hs c.args.known.now c.args.room o u in
    absurd (omega (arith, long, c.if-room-lt16.true))

pub returns-then-not-has_type : goal.returns-then-not-has_type
returns-then-not-has_type c field packet hs ok o a u =
    absurd (sll_never c.args.primitive c.args.told packet hs c.args.known.now c.args.room c.requires.four
    c.requires.few
    (λ below ethernet.
    (let clash : true ≡ false = sym (c.has_type.ensures.1 (below, ethernet)) ∙ c.if-not-has_type.true in cc)) field
    (λ i. omega (arith, c.type_inv.known i)) ok o a u)

pub returns-then-stays_open : goal.returns-then-stays_open
returns-then-stays_open c field packet hs ok o a u =
    let known = c.args.known.now in
    let has = c.has_type.ensures.0 c.if-not-has_type.false in
    let p = c.of_typed-after.result in
    let t : IsTypedSll known c.args.room p.next = record {
      four = c.requires.four;
      few = c.requires.few;
      long = c.if-room-lt16.false;
      packet = has.0;
      ethernet = has.1;
      at = c.of_typed-after.ensures.next;
    } in
    let all : AllUndecided c.args.primitive c.args.told open_kinds.LinuxSll (λ l. Unit {0}) p =
    λ r ks l m open_as fits b. c.stays_open.ensures.undecided field c.if-stays_open.true r ks l m open_as tt b in
    sll_least c.args.primitive c.args.told packet hs known c.args.room c.with_type.result p.next t
    (subst (λ (x : Prospect). AllUndecided c.args.primitive c.args.told open_kinds.LinuxSll (λ l. Unit {0}) x)
    c.of_typed-after.ensures.value all)
    c.with_type.ensures.high c.with_type.ensures.low
    (sll_link c.args.primitive c.args.told packet hs known c.args.room p.next t c.of_typed-after.ensures.bytes ok o a
    field u) field c.of_typed-after.ensures.bytes ok o a u

pub returns-else-stays_open : goal.returns-else-stays_open
returns-else-stays_open c field packet hs ok o a u =
    let known = c.args.known.now in
    let has = c.has_type.ensures.0 c.if-not-has_type.false in
    let p = c.of_typed-after.result in
    let t : IsTypedSll known c.args.room p.next = record {
      four = c.requires.four;
      few = c.requires.few;
      long = c.if-room-lt16.false;
      packet = has.0;
      ethernet = has.1;
      at = c.of_typed-after.ensures.next;
    } in
    let all : AllOpen (λ r. IsDecided r c.args.primitive) c.args.primitive c.args.told open_kinds.LinuxSll either p =
    c.stays_open.ensures.decided field
    (λ t. (let clash : true ≡ false = sym t ∙ c.if-stays_open.false in cc)) in
    absurd (never_decided c.args.primitive packet
    (subst (λ (x : Prospect). AllOpen (λ r. IsDecided r c.args.primitive) c.args.primitive c.args.told
    open_kinds.LinuxSll either x) c.of_typed-after.ensures.value all packet hs known c.args.room
    (sll_here packet hs known c.args.room p.next t c.of_typed-after.ensures.bytes ok o) tt a) u)
