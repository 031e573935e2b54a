use Rattle.std.proofs.Common.{◌≡◌, List, ℕ, sym, ◌∙◌, refl, true, false}
use Rattle.etherparse.specs.Kind as kinds
use Rattle.ether_filter.specs.declared.prospect.OpenKind.TheVariants as open_kinds
use Rattle.ether_filter.specs.OwnFields.{FitsTag}
use Rattle.ether_filter.proofs.LeastBytes.{never_decided, opens_kept}
use Rattle.ether_filter.proofs.LeastByType.{KeepsUnit, keeps_by, kept_here, vlan_type}
use Rattle.ether_filter.proofs.LeastTags.{tag_kept}
use Rattle.ether_filter.proofs.LeastVlan.{no_link}
use Rattle.ether_filter.proofs.Prospects.{vlan_is_fixed}
use Rattle.ether_filter.proofs.least.of_vlan_settled.Goals as goal

pub returns-then-stays_open : goal.returns-then-stays_open
returns-then-stays_open c field packet hs ok o a u =
    let q = c.args.primitive in
    let known = c.args.known.now in
    let p = c.of_typed-after.result in
    let Fits = λ (l : List ℕ). FitsTag q l c.args.own in
    let keeps : KeepsUnit open_kinds.Vlan Fits p known c.args.room 4 =
    keeps_by open_kinds.Vlan Fits p known c.args.room 4 (λ l lt. lt)
    (c.of_typed-after.ensures.prospect kinds.Vlan vlan_is_fixed)
    (λ more more_ok few. tag_kept q known more c.args.own more_ok few c.requires.settled c.requires.own) in
    let here = kept_here open_kinds.Vlan Fits p known c.args.room 4 keeps c.of_typed-after.ensures.bytes
    c.requires.few in
    let link = no_link packet hs open_kinds.Vlan known c.args.room p q c.args.told
    (opens_kept open_kinds.Vlan Fits p known c.args.room packet hs here ok o) a field refl u in
    vlan_type q c.args.told Fits p packet hs known c.args.room c.with_type.result
    (c.stays_open.ensures.undecided field c.if-stays_open.true) keeps c.requires.long
    c.requires.few c.with_type.ensures.high c.with_type.ensures.low link field c.of_typed-after.ensures.bytes ok o a u

pub returns-else-stays_open : goal.returns-else-stays_open
returns-else-stays_open c field packet hs ok o a u =
    let q = c.args.primitive in
    let known = c.args.known.now in
    let p = c.of_typed-after.result in
    let Fits = λ (l : List ℕ). FitsTag q l c.args.own in
    let keeps : KeepsUnit open_kinds.Vlan Fits p known c.args.room 4 =
    keeps_by open_kinds.Vlan Fits p known c.args.room 4 (λ l lt. lt)
    (c.of_typed-after.ensures.prospect kinds.Vlan vlan_is_fixed)
    (λ more more_ok few. tag_kept q known more c.args.own more_ok few c.requires.settled c.requires.own) in
    let here = kept_here open_kinds.Vlan Fits p known c.args.room 4 keeps c.of_typed-after.ensures.bytes
    c.requires.few in
    absurd (never_decided q packet (c.stays_open.ensures.decided field
    (λ t. (let clash : true ≡ false = sym t ∙ c.if-stays_open.false in cc)) packet hs known c.args.room
    (opens_kept open_kinds.Vlan Fits p known c.args.room packet hs here ok o) here.fits a) u)
