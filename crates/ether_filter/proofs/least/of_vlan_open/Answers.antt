use Rattle.std.proofs.Common.{◌≡◌, ◌<◌, List, ℕ, length, sym, ◌∙◌, refl, arith, true, false}
use Rattle.etherparse.specs.Kind as kinds
use Rattle.ether_filter.specs.declared.prospect.OpenKind.TheVariants as open_kinds
use Rattle.ether_filter.proofs.LeastBytes.{never_decided, opens_kept}
use Rattle.ether_filter.proofs.LeastByType.{KeepsUnit, keeps_by, kept_here, vlan_type}
use Rattle.ether_filter.proofs.LeastTags.{HasOne, has_one, either_tag, met_tag}
use Rattle.ether_filter.proofs.LeastVlan.{no_link, IsTag, vlan_missed, vlan_met, all_of_three}
use Rattle.ether_filter.proofs.Prospects.{vlan_is_fixed}
use Rattle.ether_filter.proofs.least.of_vlan_open.Goals as goal

pub returns-then-not-stays_open : goal.returns-then-not-stays_open
returns-then-not-stays_open c field packet hs ok o a u =
    let q = c.args.primitive in
    let known = c.args.known.now in
    let p = c.of_typed-after.result in
    let Fits = λ (l : List ℕ). HasOne q l in
    let few : length known < 4 = omega (arith, c.requires.few) in
    let keeps : KeepsUnit open_kinds.Vlan Fits p known c.args.room 4 =
    keeps_by open_kinds.Vlan Fits p known c.args.room 4 (λ l lt. lt)
    (c.of_typed-after.ensures.prospect kinds.Vlan vlan_is_fixed)
    (λ more more_ok short. has_one q _ more_ok short) in
    let here = kept_here open_kinds.Vlan Fits p known c.args.room 4 keeps c.of_typed-after.ensures.bytes few in
    absurd (never_decided q packet (c.stays_open.ensures.decided field
    (λ t. (let clash : true ≡ false = sym t ∙ c.if-not-stays_open.true in cc)) packet hs known c.args.room
    (opens_kept open_kinds.Vlan Fits p known c.args.room packet hs here ok o)
    (either_tag q known c.requires.possible.0 c.of_typed-after.ensures.bytes c.requires.few c.requires.possible.2
    c.requires.possible.1) a)
    u)

pub returns-then-not-stays_open-2 : goal.returns-then-not-stays_open-2
returns-then-not-stays_open-2 c field packet hs ok o a u =
    let q = c.args.primitive in
    let known = c.args.known.now in
    let p = c.of_typed-after.result in
    let t : IsTag p known c.args.room = record {
      known_ok = c.of_typed-after.ensures.bytes;
      few = c.requires.few;
      long = c.requires.long;
      prospects = c.of_typed-after.ensures.prospect kinds.Vlan vlan_is_fixed;
    } in
    vlan_missed q c.args.told p packet hs known c.args.room _ t refl
    (c.stays_open.ensures.undecided field c.if-not-stays_open.false)
    (c.stays_open-2.ensures.decided field
    (λ t. (let clash : true ≡ false = sym t ∙ c.if-not-stays_open-2.true in
    cc)))
    (either_tag q known c.requires.possible.0 c.of_typed-after.ensures.bytes c.requires.few c.requires.possible.2
    c.requires.possible.1)
    ok o a u

pub returns-then-stays_open : goal.returns-then-stays_open
returns-then-stays_open c field packet hs ok o a u =
    let q = c.args.primitive in
    let known = c.args.known.now in
    let p = c.of_typed-after.result in
    let Fits = λ (l : List ℕ). HasOne q l in
    let few : length known < 4 = omega (arith, c.requires.few) in
    let keeps : KeepsUnit open_kinds.Vlan Fits p known c.args.room 4 =
    keeps_by open_kinds.Vlan Fits p known c.args.room 4 (λ l lt. lt)
    (c.of_typed-after.ensures.prospect kinds.Vlan vlan_is_fixed)
    (λ more more_ok short. has_one q _ more_ok short) in
    let here = kept_here open_kinds.Vlan Fits p known c.args.room 4 keeps c.of_typed-after.ensures.bytes few in
    let link = no_link packet hs open_kinds.Vlan known c.args.room p q c.args.told
    (opens_kept open_kinds.Vlan Fits p known c.args.room packet hs here ok o) a field refl u in
    vlan_type q c.args.told Fits p packet hs known c.args.room c.with_type.result
    (all_of_three q c.args.told p (c.stays_open.ensures.undecided field c.if-not-stays_open.false)
    (c.stays_open-2.ensures.undecided field c.if-not-stays_open-2.false)
    (c.stays_open-3.ensures.undecided field c.if-stays_open.true)) keeps c.requires.long
    few c.with_type.ensures.high c.with_type.ensures.low link field c.of_typed-after.ensures.bytes ok o a u

pub returns-else-stays_open : goal.returns-else-stays_open
returns-else-stays_open c field packet hs ok o a u =
    let q = c.args.primitive in
    let known = c.args.known.now in
    let p = c.of_typed-after.result in
    let t : IsTag p known c.args.room = record {
      known_ok = c.of_typed-after.ensures.bytes;
      few = c.requires.few;
      long = c.requires.long;
      prospects = c.of_typed-after.ensures.prospect kinds.Vlan vlan_is_fixed;
    } in
    vlan_met q c.args.told p packet hs known c.args.room t
    (c.stays_open.ensures.undecided field c.if-not-stays_open.false)
    (c.stays_open-2.ensures.undecided field c.if-not-stays_open-2.false)
    (c.stays_open-3.ensures.decided
    field
    (λ t. (let clash : true ≡ false = sym t ∙ c.if-stays_open.false in
    cc)))
    (met_tag q known c.requires.possible.0 c.of_typed-after.ensures.bytes c.requires.few c.requires.possible.2
    c.requires.possible.1)
    ok o a u
