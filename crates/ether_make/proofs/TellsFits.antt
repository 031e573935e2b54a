-- What a packet tells can be spelled as JSON, if its bytes are bytes and its numbers have 64 bits.
use Rattle.std.proofs.Common.{◌≡◌, ℕ, zero, suc, ◌-◌, ◌^◌, ◌<◌, ◌≤◌, Bool, true, false, cond, List, [], ◌∷◌, length, Some, None, ap, arith, ◌==◌}
use Rattle.std.specs.Prelude.{IfSome, unwrap_or}
use Rattle.etherparse.specs.Bytes.{IsBytes}
use Rattle.etherparse.specs.Header.{Header, FitsHeader}
use Rattle.etherparse.specs.Header as headers
use Rattle.etherparse.specs.Kind.{Kind}
use Rattle.etherparse.specs.Types.LenSource.{LenSource}
use Rattle.etherparse.specs.Types.LinuxSllProtocolType.TheVariants as protocols
use Rattle.etherparse.specs.LinuxSllProtocolType.{link_protocol_of}
use Rattle.etherparse.specs.Macsec.{PayloadType, FitsPayloadType, ether_type_len, known_len}
use Rattle.etherparse.specs.Macsec as payloads
use Rattle.etherparse.specs.Refusal.{Refusal, Refuses}
use Rattle.etherparse.specs.Refusal as rows
use Rattle.etherparse.proofs.SubLists.{IsBytes-part, length-part}
use Rattle.ether_peel.specs.Grammar.Window.{Window, IsIn, within, payload}
use Rattle.ether_peel.specs.Grammar.Expectation.{Next, EtherType, Sll, Expectation, after, after_capture, after_payload, next_after}
use Rattle.ether_peel.specs.Grammar.Stack.{Stack, Walk, whole, Ending, Accepted, IsUnit}
use Rattle.ether_peel.specs.Grammar.Stack as endings
use Rattle.ether_peel.specs.Walker.Start.{next_shown}
use Rattle.ether_peel.proofs.Grammar.HeaderBytes.{means_fits}
use Rattle.ether_peel.proofs.Grammar.Windows.{payload_in}
use Rattle.ether_format.specs.Causes.{cause_of}
use Rattle.ether_format.specs.Told.{told_in, told_stack, told_end, fcs_in}
use Rattle.ether_make.proofs.JsonFits.{Each}
use Rattle.ether_make.proofs.PacketFits.{FitsTold, FitsEnd, FitsKind, FitsCause}

-- ---- what is expected

abbrev pub FitsNext : Next → Type 0
FitsNext next = FitsKind (next_shown next)

pub choice : {X : Type 0} (P : X → Type 0) (t : Bool) (x y : X) → P x → P y → P (cond t x y)
choice P true x y h k = h
choice P false x y h k = k

sll_fits : (hardware n : ℕ) → n < 2 ^ 64 → FitsNext (Sll (link_protocol_of hardware n))
sll_fits hardware n h =
    choice (λ protocol. FitsNext (Sll protocol)) (hardware == 824) (protocols.NetlinkProtocolType n)
    (cond (hardware == 778) (protocols.GenericRoutingEncapsulationProtocolType n) (protocols.Ignored n)) h
    (choice (λ protocol. FitsNext (Sll protocol)) (hardware == 778)
    (protocols.GenericRoutingEncapsulationProtocolType n) (protocols.Ignored n) h h)

capture_fits : (hardware n : ℕ) → n < 2 ^ 64 → FitsNext (after_capture hardware n)
capture_fits hardware n h =
    choice FitsNext (hardware == 1) (EtherType n) (Sll (link_protocol_of hardware n)) h (sll_fits hardware n h)

payload_fits : (p : PayloadType) → FitsPayloadType p → FitsNext (after_payload p)
payload_fits (payloads.Unmodified ether_type) h = omega arith
payload_fits payloads.Modified h = tt
payload_fits payloads.EncryptedUnmodified h = tt
payload_fits payloads.Encrypted h = tt

after_fits : (h : Header) → FitsHeader h → FitsNext (next_after h)
after_fits (headers.Ethernet2 e) fits = omega (arith, fits.ether_type)
after_fits (headers.Ethernet2Fcs e) fits = omega (arith, fits.ether_type)
after_fits (headers.LinuxSll s) fits = capture_fits s.hardware_type s.protocol (omega (arith, fits.protocol))
after_fits (headers.Vlan v) fits = omega (arith, fits.ether_type)
after_fits (headers.Macsec t) fits = payload_fits t.payload_type fits.payload_type
after_fits (headers.Arp a) fits = tt

-- ---- refusals

type_len : (encrypted changed : ℕ) → ether_type_len encrypted changed ≤ 2
type_len zero zero = omega arith
type_len zero (suc changed) = omega arith
type_len (suc encrypted) changed = omega arith

some_le : (t : Bool) (n m p : ℕ) → n ≤ m → cond t None (Some n) ≡ Some p → p ≤ m
some_le true n m p h e = absurd (cc)
some_le false n m p h e = let same : n ≡ p = ap (λ o. unwrap_or o 0) e in omega arith

known_le : (ether_type short p : ℕ) → known_len ether_type short ≡ Some p → p ≤ short
known_le ether_type short p e = some_le _ (short - ether_type) short p (omega arith) e

cause_fits : (bound : LenSource) (bytes : List ℕ) (kind : Kind) (r : Refusal) → length bytes < 2 ^ 63
    → Refuses bound bytes kind r → FitsCause (cause_of r)
cause_fits bound bytes kind r len (rows.ethernet2 h) = (omega arith, omega arith)
cause_fits bound bytes kind r len (rows.ethernet2_fcs h) = (omega arith, omega arith)
cause_fits bound bytes kind r len (rows.linux_sll h) = (omega arith, omega arith)
cause_fits bound bytes kind r len (rows.linux_sll_packet_type s h begins high) = omega (arith, begins.fits.packet_type)
cause_fits bound bytes kind r len (rows.linux_sll_hardware_type s h begins low other) =
    omega (arith, begins.fits.hardware_type)
cause_fits bound bytes kind r len (rows.vlan h) = (omega arith, omega arith)
cause_fits bound bytes kind r len (rows.macsec h) = (omega arith, omega arith)
cause_fits bound bytes kind r len (rows.macsec_version t h begins version) = tt
cause_fits bound bytes kind r len (rows.macsec_short_len t h begins version short) = tt
cause_fits bound bytes kind r len (rows.macsec_header t h begins version long short) =
    (omega (arith, begins.fits.sci_present, type_len t.encrypted t.changed), omega arith)
cause_fits bound bytes kind r len (rows.macsec_packet t p begins version known h short) = (
  omega (
    arith,
    begins.fits.sci_present,
    begins.fits.short_len,
    type_len t.encrypted t.changed,
    known_le (ether_type_len t.encrypted t.changed) t.short_len p known,
  ),
  omega arith,
)
cause_fits bound bytes kind r len (rows.arp h) = (omega arith, omega arith)
cause_fits bound bytes kind r len (rows.arp_addresses a h begins short) =
    (omega (arith, begins.fits.hardware_size, begins.fits.protocol_size), omega arith)

-- ---- a walk

module _ (at : ℕ) (list : List ℕ) (ok : IsBytes list) (few : at ≤ 20) (len : length list < 2 ^ 63) where
  fcs_fits : (w : Window) (h : Header) → IfSome (fcs_in list w h) IsBytes
  fcs_fits w (headers.Ethernet2 e) = tt
  fcs_fits w (headers.Ethernet2Fcs e) = IsBytes-part (w.finish - 4) w.finish list ok
  fcs_fits w (headers.LinuxSll s) = tt
  fcs_fits w (headers.Vlan v) = tt
  fcs_fits w (headers.Macsec t) = tt
  fcs_fits w (headers.Arp a) = tt

  told_fits : (x : Expectation) (w : Window) (h : Header) → IsIn list w → IsUnit list x w h → FitsHeader h
      → FitsTold (told_in at list w h)
  told_fits x w h inside unit fits =
      let inner = payload_in list x w h inside unit in (
        (
          omega (arith, inside.ordered, inside.inside),
          omega (arith, inner.ordered, inner.inside),
          omega (arith, inner.inside),
        ),
        fits,
        fcs_fits w h,
      )

  pub stack_fits : (x : Expectation) (w : Window) (hs : List Header) (e : Ending) → IsIn list w → FitsNext x.next
      → Stack list x w hs e → Each FitsTold (told_stack at list w hs) × FitsEnd (told_end at e)
  stack_fits x w [] (Accepted v y) inside next s =
      (tt, rw (s.0, s.1) (omega (arith, inside.ordered, inside.inside), omega (arith, inside.inside), next))
  stack_fits x w [] (endings.Fault v y r) inside next s =
      let short : length (within list w) < 2 ^ 63 = omega (arith, length-part list w.start w.finish inside.inside) in
      (tt, rw s.0 (omega (arith, inside.ordered, inside.inside), cause_fits w.bound (within list w) s.2 r short s.4))
  stack_fits x w (h ∷ hs) e inside next s =
      let fits = means_fits (within list w) h (IsBytes-part w.start w.finish list ok) s.0.means in
      let more = stack_fits (after x h) (payload w h) hs e (payload_in list x w h inside s.0) (after_fits h fits)
      s.1 in
      ((told_fits x w h inside s.0 fits, more.0), more.1)
