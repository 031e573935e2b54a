-- A target that is filled from the end of a packet on, header by header.
use Rattle.std.proofs.Common.{◌≡◌, ℕ, ◌+◌, ◌-◌, ◌<◌, ◌≤◌, List, [], ◌∷◌, ◌++◌, length, take, drop, slice_index_or, refl, sym, ap, subst, ◌∙◌, arith, append_assoc, rules}
use Rattle.std.specs.Prelude.{flat_map}
use Rattle.std.proofs.Math.Seq.{drop-length, take-add}
use Rattle.std.proofs.lemmas.List.{append-nil, drop_at, length-take-le, take_at}
use Rattle.etherparse.specs.Bytes.{overwritten}
use Rattle.etherparse.specs.Types.LinkHeader.{LinkHeader}
use Rattle.etherparse.specs.Types.LinkHeader.TheVariants as links
use Rattle.etherparse.specs.Types.LinkExtHeader.{LinkExtHeader}
use Rattle.etherparse.specs.Types.LinkExtHeader.TheVariants as exts
use Rattle.etherparse.specs.LinkExt.{ext_header_view}
use Rattle.etherparse.specs.Ethernet2.{ethernet2_view}
use Rattle.etherparse.specs.LinuxSll.{linux_sll_view}
use Rattle.etherparse.specs.Header.{Header, header_len, header_bytes, FitsHeader}
use Rattle.etherparse.specs.Header as headers
use Rattle.etherparse.proofs.ReadBack.{length-header_bytes}
use Rattle.ether_peel.specs.Grammar.Places.{place}
use Rattle.ether_peel.proofs.Grammar.Places.{place-append, place_least}
use Rattle.ether_packet.specs.declared.packet_builder.PacketContent.{PacketContent}
use Rattle.ether_packet.specs.declared.packet_builder.PacketContent.TheVariants as contents
use Rattle.ether_packet.specs.declared.packet_builder.PacketBuilder.{PacketBuilder}
use Rattle.ether_packet.specs.Building.{vlan_type, own_type, type_of, before, built, IsChain, AllFit}
use Rattle.ether_packet.specs.Builder.{link_header, link_start, content_headers, content_type, content_payload, content_bytes, content_len, inner_headers, built_headers, packet_len, IsEthernet, HasPacketType, IsWritten}
use Rattle.ether_packet.proofs.Written.{Fits, length-headers, place-add, place-first}
use Rattle.ether_packet.proofs.Building.{AreInner, header_len_before, place-built, ethernet2_fits, linux_sll_fits, begins_with}
use Rattle.ether_packet.proofs.Chains.{views, all_views, drop_next, content_place, packet_len_is}

-- bytes written right before those that are written already
written_before : (old rest target bytes : List ℕ) (start at : ℕ) → target ≡ take at old ++ rest
    → start + length bytes ≡ at → at ≤ length old → overwritten target start bytes ≡ take start old ++ (bytes ++ rest)
written_before old rest target bytes start at is ends le =
    search (rules, length, take, drop, take-add, append_assoc, take_at, length-take-le, drop_at)

-- one list more before three
one_more : (first second third last : List ℕ) → first ++ (second ++ third ++ last) ≡ first ++ second ++ third ++ last
one_more first second third last =
    sym (ap (λ (l : List ℕ). l ++ last) (append_assoc first second third) ∙ append_assoc first (second ++ third) last)

-- ---- header by header

-- From a place on the target holds the last headers of the packet, as they are written. One ether type announces them
-- after a header that announces no VLAN tag yet, and another one a VLAN tag before them.
pub record Filled (p : PacketBuilder) (old target : List ℕ) (hs : List Header) (at announced vlan : ℕ) : Type 0 where
  pub fit : AllFit (built hs (content_type p.content) (length (content_payload p.content)))
  pub bytes : target
      ≡ take at old
      ++ (flat_map header_bytes (built hs (content_type p.content) (length (content_payload p.content)))
      ++ content_payload p.content ++ drop (packet_len p) old)
  pub rest : at + place (length (content_payload p.content)) hs ≡ packet_len p
  pub type : announced ≡ type_of 0 hs (content_type p.content)
  pub tag : vlan ≡ vlan_type hs

-- the headers from an index on
abbrev pub later : PacketBuilder → ℕ → List Header
later p i = views (drop i p.link_exts.now) ++ content_headers p.content

pub later_none : (p : PacketBuilder) → later p (length p.link_exts.now) ≡ content_headers p.content
later_none p = ap (λ (l : List LinkExtHeader). views l ++ content_headers p.content) (drop-length p.link_exts.now)

pub later_before : (p : PacketBuilder) (i : ℕ) (x : LinkExtHeader) → 0 < i → i ≤ length p.link_exts.now
    → x ≡ slice_index_or p.link_exts.now (i - 1) x → later p (i - 1) ≡ ext_header_view x ∷ later p i
later_before p i x some le is = search (rules, drop_next)

-- ---- the content

content_built : (c : PacketContent)
    → content_bytes c
    ≡ flat_map header_bytes (built (content_headers c) (content_type c) (length (content_payload c)))
    ++ content_payload c
content_built (contents.Payload t bytes) = refl
content_built (contents.Arp packet) = sym (append-nil _ ∙ append-nil (header_bytes (headers.Arp packet.now)))

content_fits : (c : PacketContent) → AllFit (content_headers c)
    → AllFit (built (content_headers c) (content_type c) (length (content_payload c)))
content_fits (contents.Payload t bytes) fits = tt
content_fits (contents.Arp packet) fits = fits

pub content_long : (c : PacketContent) → AllFit (content_headers c) → length (content_bytes c) ≡ content_len c
content_long (contents.Payload t bytes) fits = refl
content_long (contents.Arp packet) fits = length-header_bytes (headers.Arp packet.now) fits.0

pub filled_content : (p : PacketBuilder) (old target : List ℕ) (at t v : ℕ) → at + content_len p.content ≡ packet_len p
    → target ≡ overwritten old at (content_bytes p.content) → AllFit (content_headers p.content)
    → t ≡ type_of 0 (content_headers p.content) (content_type p.content) → v ≡ vlan_type (content_headers p.content)
    → Filled p old target (content_headers p.content) at t v
filled_content p old target at t v ends bytes fits type tag =
    search (rules, content_long, content_fits, append_assoc, content_built, content_place)

-- ---- the tags

-- there is room for a header before what is written already
pub room_before : (p : PacketBuilder) (old target : List ℕ) (i : ℕ) (x : LinkExtHeader) (at announced vlan : ℕ) → 0 < i
    → i ≤ length p.link_exts.now → x ≡ slice_index_or p.link_exts.now (i - 1) x
    → Filled p old target (later p i) at announced vlan → header_len (ext_header_view x) ≤ at
room_before p old target i x at announced vlan some le is so_far =
    let m = length (content_payload p.content) in
    let front = views (take (i - 1) p.link_exts.now) in
    let zero : m ≡ m + 0 = omega arith in
    let turn : m + place 0 front ≡ place 0 front + m = omega arith in
    let long : place m front ≡ place 0 front + m = ap (λ (k : ℕ). place k front) zero ∙ place-add m 0 front ∙ turn in
    let inner : place m (inner_headers p) ≡ place 0 front + place m (later p (i - 1)) =
    ap (place m) (all_views p.link_exts.now (i - 1) (content_headers p.content))
    ∙ place-append m front (later p (i - 1)) ∙ ap (λ (k : ℕ). place k (later p (i - 1))) long
    ∙ place-add (place 0 front) m (later p (i - 1)) in
    let last = ap (place m) (later_before p i x some le is) ∙ place-first m (ext_header_view x) (later p i) in
    let whole = place-first m (link_header p.link) (inner_headers p) in
    let rest = so_far.rest in
    omega (arith, whole, inner, last, rest)

pub filled_next : (p : PacketBuilder) (old target new : List ℕ) (h : Header) (hs : List Header)
    (at announced vlan start following next tag : ℕ)
    → packet_len p ≤ length old → Filled p old target hs at announced vlan
    → start + header_len h ≡ at → following ≡ packet_len p - at
    → (let k = content_type p.content in
    new ≡ overwritten target start (header_bytes (before h (type_of (own_type h) hs k) following)))
    → FitsHeader (before h (type_of (own_type h) hs (content_type p.content)) following)
    → next ≡ type_of 0 (h ∷ hs) (content_type p.content) → tag ≡ vlan_type (h ∷ hs)
    → Filled p old new (h ∷ hs) start next tag
filled_next p old target new h hs at announced vlan start following next tag room so_far ends is bytes fits type
    vlan_is =
    let m = length (content_payload p.content) in
    let k = content_type p.content in
    let t = type_of (own_type h) hs k in
    let rest = so_far.rest in
    let long : following ≡ place m hs = omega (arith, rest, is) in
    let own : before h t following ≡ before h t (place m hs) = ap (before h t) long in
    let len = length-header_bytes (before h t following) fits ∙ header_len_before h t following in
    let end : start + length (header_bytes (before h t following)) ≡ at = omega (arith, len, ends) in
    let more = place-first m h hs in
    record {
      fit = (subst FitsHeader own fits, so_far.fit);
      bytes =
          bytes
          ∙ written_before old _ target (header_bytes (before h t following)) start at so_far.bytes end
          (omega (arith, rest, room))
          ∙ ap (λ (l : List ℕ). take start old ++ l)
          (one_more (header_bytes (before h t following)) (flat_map header_bytes (built hs k m))
          (content_payload p.content) (drop (packet_len p) old))
          ∙ ap
          (λ (g : Header).
          take start old
          ++ (header_bytes g ++ flat_map header_bytes (built hs k m) ++ content_payload p.content
          ++ drop (packet_len p) old))
          own;
      rest = omega (arith, more, rest, ends);
      type = type;
      tag = vlan_is;
    }

-- ---- the link

any_length : (link : LinkHeader) (t n m : ℕ) → before (link_header link) t n ≡ before (link_header link) t m
any_length (links.LinuxSll h) t n m = refl
any_length (links.Ethernet2 h) t n m = refl

pub room_for_content : (p : PacketBuilder) → content_len p.content ≤ packet_len p
room_for_content p = search (rules, place_least, packet_len_is)

pub room_for_link : (p : PacketBuilder) (len : ℕ) → packet_len p ≤ len → header_len (link_header p.link) ≤ len
room_for_link p len le = search (rules, place-first)

inner_views : (xs : List LinkExtHeader) (c : PacketContent) → AreInner (views xs ++ content_headers c)
inner_views [] (contents.Payload t bytes) = tt
inner_views [] (contents.Arp packet) = (tt, tt)
inner_views (exts.Vlan h ∷ xs) c = (tt, inner_views xs c)
inner_views (exts.Macsec h ∷ xs) c = (tt, inner_views xs c)

link_fits : (link : LinkHeader) (hs : List Header) (t n : ℕ) → IsEthernet link → HasPacketType link → AreInner hs
    → IsChain hs → AllFit (built (link_header link ∷ hs) t n)
    → Fits (link_start link) (built (link_header link ∷ hs) t n) n
link_fits (links.LinuxSll h) hs t n ethernet packet inner chain fit =
    linux_sll_fits (linux_sll_view h) hs t n ethernet packet inner chain fit
link_fits (links.Ethernet2 h) hs t n ethernet packet inner chain fit =
    ethernet2_fits (ethernet2_view h) hs t n inner chain fit

-- the link's header is written last
pub filled_all : (p : PacketBuilder) (old target new : List ℕ) (at announced vlan : ℕ) → IsEthernet p.link
    → HasPacketType p.link → IsChain (inner_headers p) → packet_len p ≤ length old
    → Filled p old target (inner_headers p) at announced vlan
    → (let t = type_of (own_type (link_header p.link)) (inner_headers p) (content_type p.content) in
    new ≡ overwritten target 0 (header_bytes (before (link_header p.link) t 0)))
    → FitsHeader
    (before (link_header p.link)
    (type_of (own_type (link_header p.link)) (inner_headers p) (content_type p.content)) 0)
    → IsWritten p old (packet_len p) new
filled_all p old target new at announced vlan ethernet packet chain room so_far bytes fits =
    let k = content_type p.content in
    let m = length (content_payload p.content) in
    let hs = inner_headers p in
    let end = packet_len p in
    let t = type_of (own_type (link_header p.link)) hs k in
    let h = before (link_header p.link) t 0 in
    let rest = so_far.rest in
    let first = place-first m (link_header p.link) hs in
    let own : h ≡ before (link_header p.link) t (place m hs) = any_length p.link t 0 (place m hs) in
    let len = length-header_bytes h fits ∙ header_len_before (link_header p.link) t 0 in
    let at_is : 0 + length (header_bytes h) ≡ at = omega (arith, len, rest, first) in
    let payload = content_payload p.content in
    let inner = flat_map header_bytes (built hs k m) in
    let whole : new ≡ flat_map header_bytes (built_headers p) ++ payload ++ drop end old =
    bytes ∙ written_before old _ target (header_bytes h) 0 at so_far.bytes at_is (omega (arith, rest, room))
    ∙ one_more (header_bytes h) inner payload (drop end old)
    ∙ ap (λ (g : Header). header_bytes g ++ inner ++ payload ++ drop end old) own in
    let fit : AllFit (built_headers p) = (subst FitsHeader own fits, so_far.fit) in
    let fits_all = link_fits p.link hs k m ethernet packet (inner_views p.link_exts.now p.content) chain fit in
    let long : length (flat_map header_bytes (built_headers p) ++ payload) ≡ end =
    length-headers (link_start p.link) (built_headers p) payload fits_all
    ∙ place-built m (link_header p.link ∷ hs) k m in
    let front : take end new ≡ flat_map header_bytes (built_headers p) ++ payload =
    ap (take end) whole ∙ take_at (flat_map header_bytes (built_headers p) ++ payload) (drop end old) end long in
    search (rules, begins_with)
