-- The header of a link that a walk begins with, and the one that replaces it.
use Rattle.std.proofs.Common.{◌≡◌, ℕ, ◌≤◌, List, [], ◌∷◌, length, refl, sym, ap, subst, ◌∙◌, arith, Bool, true, false, rules}
use Rattle.std.specs.Prelude.{Option, Some, None, if◌then◌else◌}
use Rattle.etherparse.specs.Types.LenSource.TheVariants as sources
use Rattle.etherparse.specs.Types.LinuxSllProtocolType.TheVariants as protocols
use Rattle.etherparse.specs.Types.EtherType.{EtherType as EtherTypeNumber}
use Rattle.etherparse.specs.Types.ArpHardwareId.{ArpHardwareId}
use Rattle.etherparse.specs.Types.LinkHeader.{LinkHeader}
use Rattle.etherparse.specs.Types.LinkHeader.TheVariants as links
use Rattle.etherparse.specs.Bytes.{IsBytes, overwritten}
use Rattle.etherparse.specs.Ethernet2.{Ethernet2Value}
use Rattle.etherparse.specs.LinuxSll.{LinuxSllValue}
use Rattle.etherparse.specs.LinuxSllProtocolType.{protocol_number}
use Rattle.etherparse.specs.Kind.{Kind}
use Rattle.etherparse.specs.Header.{Header, kind_of, header_len, header_bytes, FitsHeader, Means}
use Rattle.etherparse.specs.Header as headers
use Rattle.etherparse.specs.Refusal.{Refuses, Accepts}
use Rattle.etherparse.proofs.ReadBack.{length-header_bytes}
use Rattle.ether_peel.specs.Grammar.Expectation.{Expectation, announced}
use Rattle.ether_peel.specs.Grammar.Stack.{Ending, Accepted, Fault, Walk}
use Rattle.ether_packet.specs.declared.difference.Difference.{Difference}
use Rattle.ether_packet.specs.declared.difference.Difference.TheVariants as differences
use Rattle.ether_packet.specs.declared.replace_error.ReplaceError.TheVariants as errors
use Rattle.ether_packet.specs.Builder.{link_header, HasPacketType}
use Rattle.ether_packet.specs.Views.{header_in}
use Rattle.ether_packet.specs.Replacing.{Agree}
use Rattle.ether_packet.specs.ReplacingLink.{is_link, in_place_of, LinkAgrees, LinksAgree, LinkDiffers, LinksDiffer, IsLinkOf, BeginsWithLink, TakesLink, ReplacesLink, RefusesLink, other_link}
use Rattle.ether_packet.proofs.HeadersIn.{header_shown}
use Rattle.ether_packet.proofs.Gathering.{whole_part}
use Rattle.ether_packet.proofs.Replaced.{IsSendable, length-overwritten, replaced_walk}

-- ---- the first header of a walk

same_announced : (k l : Kind) (o : Option Kind) → o ≡ Some k → o ≡ Some l → k ≡ l
same_announced k l o e f = let same : Some k ≡ Some l = sym e ∙ f in cc

none_announced : (k : Kind) (o : Option Kind) → o ≡ None → o ≡ Some k → ⊥
none_announced k o e f = let same : None ≡ Some k = sym e ∙ f in cc

-- if the list is accepted as what is expected, it is the header that the list begins with
pub first_header : (x : Expectation) (kind : Kind) (list : List ℕ) (hs : List Header) (e : Ending) → IsBytes list
    → announced x ≡ Some kind → Accepts sources.Slice list kind → Walk x list hs e
    → (later : List Header) × (hs ≡ header_in kind list ∷ later)
first_header x kind list [] (Accepted v y) ok a accepted s = absurd (none_announced kind (announced x) s.2 a)
first_header x kind list [] (Fault v y r) ok a accepted s =
    let same = same_announced s.2 kind (announced x) s.3 a in
    let row = subst (λ (l : List ℕ). Refuses sources.Slice l s.2 r) (whole_part list) s.4 in
    absurd (accepted r (subst (λ (k : Kind). Refuses sources.Slice list k r) same row))
first_header x kind list (h ∷ hs) e ok a accepted s =
    let same = same_announced (kind_of h) kind (announced x) s.0.announced a in
    let means = subst (λ (l : List ℕ). Means l h) (whole_part list) s.0.means in
    let is : header_in kind list ≡ h = ap (λ (k : Kind). header_in k list) (sym same) ∙ header_shown list h ok means in
    (hs, ap (λ (k : Header). k ∷ hs) (sym is))

-- ---- a header that is read

pub begins_link : (start : Expectation) (kind : Kind) (list : List ℕ) (hs : List Header) (e : Ending) (g : LinkHeader)
    → IsBytes list → announced start ≡ Some kind → Accepts sources.Slice list kind → IsLinkOf g (header_in kind list)
    → Walk start list hs e → BeginsWithLink hs g
begins_link start kind list hs e g ok a accepted is walk =
    let first = first_header start kind list hs e ok a accepted walk in
    record { header = header_in kind list; later = first.0; parts = first.1; is = is }

-- ---- what it says about what follows it

same_ether_type : (t u : EtherTypeNumber) → t.0 ≡ u.0 → t ≡ u
same_ether_type t u same = λ i. record { 0 = same i }

same_hardware : (t u : ArpHardwareId) → t.0 ≡ u.0 → t ≡ u
same_hardware t u same = λ i. record { 0 = same i }

-- and differ in the same
pub differs : (g l : LinkHeader) (h : Header) (d : Difference) → IsLinkOf l h → LinksDiffer g l d → LinkDiffers g h d
differs (links.Ethernet2 g) (links.Ethernet2 l) (headers.Ethernet2 h) differences.EtherType is other = λ same.
    other (same_ether_type g.ether_type l.ether_type (same ∙ ap (λ (v : Ethernet2Value). v.ether_type) (sym is)))
differs (links.Ethernet2 g) (links.Ethernet2 l) (headers.Ethernet2Fcs h) differences.EtherType is other = λ same.
    other (same_ether_type g.ether_type l.ether_type (same ∙ ap (λ (v : Ethernet2Value). v.ether_type) (sym is)))
differs (links.LinuxSll g) (links.LinuxSll l) (headers.LinuxSll h) differences.HardwareType is other = λ same.
    other (same_hardware g.arp_hrd_type l.arp_hrd_type (same ∙ ap (λ (s : LinuxSllValue). s.hardware_type) (sym is.0)))
differs (links.LinuxSll g) (links.LinuxSll l) (headers.LinuxSll h) differences.ProtocolType is other = (
  ap (λ (t : ArpHardwareId). t.0) other.0 ∙ ap (λ (s : LinuxSllValue). s.hardware_type) is.0,
  λ same. other.1 (same ∙ sym is.1),
)
differs (links.Ethernet2 g) (links.LinuxSll l) (headers.LinuxSll h) differences.Kind is other = tt
differs (links.LinuxSll g) (links.Ethernet2 l) (headers.Ethernet2 h) differences.Kind is other = tt
differs (links.LinuxSll g) (links.Ethernet2 l) (headers.Ethernet2Fcs h) differences.Kind is other = tt
differs g (links.Ethernet2 l) (headers.LinuxSll h) d is other = absurd is
differs g (links.Ethernet2 l) (headers.Vlan h) d is other = absurd is
differs g (links.Ethernet2 l) (headers.Macsec h) d is other = absurd is
differs g (links.Ethernet2 l) (headers.Arp h) d is other = absurd is
differs g (links.LinuxSll l) (headers.Ethernet2 h) d is other = absurd is
differs g (links.LinuxSll l) (headers.Ethernet2Fcs h) d is other = absurd is
differs g (links.LinuxSll l) (headers.Vlan h) d is other = absurd is
differs g (links.LinuxSll l) (headers.Macsec h) d is other = absurd is
differs g (links.LinuxSll l) (headers.Arp h) d is other = absurd is
differs g l h d is other = absurd other

link_kind : (l : LinkHeader) (h : Header) → IsLinkOf l h → is_link (kind_of h) ≡ true
link_kind (links.Ethernet2 l) (headers.Ethernet2 h) is = refl
link_kind (links.Ethernet2 l) (headers.Ethernet2Fcs h) is = refl
link_kind (links.LinuxSll l) (headers.LinuxSll h) is = refl
link_kind _ _ is = absurd is

pub link_len : (g l : LinkHeader) → LinksAgree g l → header_len (link_header g) ≡ header_len (link_header l)
link_len (links.Ethernet2 g) (links.Ethernet2 l) same = refl
link_len (links.LinuxSll g) (links.LinuxSll l) same = refl
link_len _ _ same = absurd same

pub takes_link : (g l : LinkHeader) (hs : List Header) → LinksAgree g l → BeginsWithLink hs l → TakesLink hs g
takes_link g l hs same b = search rules

pub refuses_link : (g l : LinkHeader) (hs : List Header) (d : Difference) → LinksDiffer g l d → BeginsWithLink hs l
    → RefusesLink hs g (errors.SaysOther d)
refuses_link g l hs d other b =
    other_link b.header b.later d b.parts (link_kind l b.header b.is) (differs g l b.header d b.is other)

-- ---- the walk with the other header

number_in : (is_nonstandard : Bool) (n : ℕ)
    → protocol_number
    (if is_nonstandard then protocols.LinuxNonstandardEtherType n else protocols.EtherType (record { 0 = n }))
    ≡ n
number_in true n = refl
number_in false n = refl

in_place_same : (g : LinkHeader) (h : Header) → LinkAgrees g h → Agree (in_place_of g h) h
in_place_same (links.Ethernet2 g) (headers.Ethernet2 h) same = same
in_place_same h k same = search rules

pub in_place_fits : (g : LinkHeader) (h : Header) → FitsHeader (link_header g) → FitsHeader (in_place_of g h)
in_place_fits (links.Ethernet2 g) (headers.Ethernet2Fcs h) fits = fits
in_place_fits _ _ fits = fits

pub in_place_sendable : (g : LinkHeader) (h : Header) → HasPacketType g → IsSendable (in_place_of g h)
in_place_sendable (links.Ethernet2 g) (headers.Ethernet2Fcs h) packet_type = tt
in_place_sendable (links.Ethernet2 g) _ packet_type = tt
in_place_sendable (links.LinuxSll g) _ packet_type = packet_type

pub in_place_bytes : (g : LinkHeader) (h : Header) → header_bytes (link_header g) ≡ header_bytes (in_place_of g h)
in_place_bytes (links.Ethernet2 g) (headers.Ethernet2Fcs h) = refl
in_place_bytes _ _ = refl

pub is_link_replaced : (start : Expectation) (old new : List ℕ) (hs : List Header) (e : Ending) (g : LinkHeader)
    → TakesLink hs g → header_len (link_header g) ≤ length old → FitsHeader (link_header g) → HasPacketType g
    → new ≡ overwritten old 0 (header_bytes (link_header g)) → Walk start old hs e → ReplacesLink start old hs e g new
is_link_replaced start old new hs e g t room fits packet_type bytes walk =
    let other = in_place_of g t.replaced in
    let split = subst (λ (l : List Header). Walk start old l e) t.parts walk in
    let len = length-header_bytes (link_header g) fits in
    let replaced =
    replaced_walk start old [] t.replaced other t.later e (in_place_same g t.replaced t.same)
    (in_place_fits g t.replaced fits) (in_place_sendable g t.replaced packet_type) split in
    let same = ap (overwritten old 0) (sym (in_place_bytes g t.replaced)) ∙ sym bytes in
    record {
      takes = t;
      fits = fits;
      bytes = bytes;
      len = ap length bytes ∙ length-overwritten old (header_bytes (link_header g)) 0 (omega arith);
      walk = subst (λ (l : List ℕ). Walk start l (other ∷ t.later) e) same replaced;
    }
