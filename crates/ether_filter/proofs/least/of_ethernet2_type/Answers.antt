use Rattle.std.proofs.Common.{◌≡◌, List, ℕ, sym, ◌∙◌, true, false}
use Rattle.etherparse.specs.Kind as kinds
use Rattle.ether_filter.specs.declared.prospect.OpenKind.TheVariants as open_kinds
use Rattle.ether_filter.specs.OwnFields.{FitsOwn}
use Rattle.ether_filter.proofs.LeastBytes.{never_decided, opens_kept}
use Rattle.ether_filter.proofs.LeastByType.{KeepsUnit, keeps_by, kept_here, ethernet2_type}
use Rattle.ether_filter.proofs.Prospects.{ethernet2_is_fixed}
use Rattle.ether_filter.proofs.least.of_ethernet2_type.Goals as goal

pub returns-then-stays_open : goal.returns-then-stays_open
returns-then-stays_open c link field packet hs ok o a u =
    let q = c.args.primitive in
    let known = c.args.known.now in
    let Fits = λ (l : List ℕ). FitsOwn q open_kinds.Ethernet2 l c.decided-own.result in
    let keeps : KeepsUnit open_kinds.Ethernet2 Fits c.of_typed-after.result known c.args.room 14 =
    keeps_by open_kinds.Ethernet2 Fits c.of_typed-after.result known c.args.room 14 (λ l lt. lt)
    (c.of_typed-after.ensures.prospect kinds.Ethernet2 ethernet2_is_fixed)
    (λ more more_ok few of. (let clash : true ≡ false = sym of ∙ link in absurd cc)) in
    ethernet2_type q c.args.told Fits c.of_typed-after.result packet hs known c.args.room c.with_type.result
    (c.stays_open.ensures.undecided field c.if-stays_open.true) keeps c.requires.long
    c.requires.few c.with_type.ensures.high c.with_type.ensures.low link field c.of_typed-after.ensures.bytes ok o a u

pub returns-else-stays_open : goal.returns-else-stays_open
returns-else-stays_open c link field packet hs ok o a u =
    let q = c.args.primitive in
    let known = c.args.known.now in
    let Fits = λ (l : List ℕ). FitsOwn q open_kinds.Ethernet2 l c.decided-own.result in
    let keeps : KeepsUnit open_kinds.Ethernet2 Fits c.of_typed-after.result known c.args.room 14 =
    keeps_by open_kinds.Ethernet2 Fits c.of_typed-after.result known c.args.room 14 (λ l lt. lt)
    (c.of_typed-after.ensures.prospect kinds.Ethernet2 ethernet2_is_fixed)
    (λ more more_ok few of. (let clash : true ≡ false = sym of ∙ link in absurd cc)) in
    let here = kept_here open_kinds.Ethernet2 Fits c.of_typed-after.result known c.args.room 14 keeps
    c.of_typed-after.ensures.bytes c.requires.few in
    absurd (never_decided q packet (c.stays_open.ensures.decided field
    (λ t. (let clash : true ≡ false = sym t ∙ c.if-stays_open.false in cc)) packet hs known c.args.room
    (opens_kept open_kinds.Ethernet2 Fits c.of_typed-after.result known c.args.room packet hs here ok o) here.fits a) u)
