-- Parts that are written unchanged are the front of the frame that they were read from.
use Rattle.std.proofs.Common.{◌≡◌, ℕ, suc, ◌+◌, ◌≤◌, List, [], ◌∷◌, ◌++◌, length, take, drop, refl, sym, ap, ◌∙◌, arith, append_assoc}
use Rattle.std.specs.Prelude.{map, flat_map, Option, Some, None}
use Rattle.std.proofs.lemmas.List.{append-nil, length-append, take_at, take-take}
use Rattle.etherparse.specs.Types.EtherType.{EtherType}
use Rattle.etherparse.specs.Types.LinkHeader.{LinkHeader}
use Rattle.etherparse.specs.Types.LinkHeader.TheVariants as links
use Rattle.etherparse.specs.Ethernet2.{ethernet2_bytes}
use Rattle.etherparse.specs.LinuxSll.{linux_sll_bytes}
use Rattle.etherparse.specs.LinkExt.{ext_header_view}
use Rattle.etherparse.specs.Arp.{ArpValue}
use Rattle.etherparse.specs.Header.{Header, header_bytes, header_len}
use Rattle.etherparse.specs.Header as headers
use Rattle.ether_peel.specs.Grammar.Cleared.{cleared}
use Rattle.ether_peel.specs.Grammar.Places.{place}
use Rattle.ether_peel.specs.Grammar.Stack.{last_window}
use Rattle.ether_peel.proofs.Grammar.Cleared.{headers_go_back}
use Rattle.ether_packet.specs.declared.packet_builder.PacketContent.{PacketContent}
use Rattle.ether_packet.specs.declared.packet_builder.PacketContent.TheVariants as contents
use Rattle.ether_packet.specs.Builder.{link_header, content_headers, content_payload}
use Rattle.ether_packet.specs.Packet.{packet_headers}
use Rattle.ether_packet.specs.Parts.{arp_headers, parts_exts, HasContent, PartsGoBack}
use Rattle.ether_packet.specs.ReplacingLink.{IsLinkOf}
use Rattle.ether_packet.specs.Unchanged.{given_headers}
use Rattle.ether_packet.proofs.Written.{place-add}
use Rattle.ether_packet.proofs.Unchanged.{length-fit}

-- ---- the link

pub link_bytes : (g : LinkHeader) (h : Header) → IsLinkOf g h → header_bytes (link_header g) ≡ header_bytes h
link_bytes (links.Ethernet2 g) (headers.Ethernet2 h) is = ap ethernet2_bytes is
link_bytes (links.Ethernet2 g) (headers.Ethernet2Fcs h) is = ap ethernet2_bytes is
link_bytes (links.LinuxSll g) (headers.LinuxSll h) is = ap linux_sll_bytes is.0
link_bytes _ _ is = absurd is

link_long : (g : LinkHeader) (h : Header) → IsLinkOf g h → header_len (link_header g) ≡ header_len h
link_long (links.Ethernet2 g) (headers.Ethernet2 h) is = refl
link_long (links.Ethernet2 g) (headers.Ethernet2Fcs h) is = refl
link_long (links.LinuxSll g) (headers.LinuxSll h) is = refl
link_long _ _ is = absurd is

-- ---- the content

content_is : (arp : Option ArpValue) (t : EtherType) (bytes : List ℕ) (c : PacketContent) → HasContent arp t bytes c
    → content_headers c ≡ arp_headers arp
content_is None t bytes (contents.Payload u p) has = refl
content_is (Some a) t bytes (contents.Arp packet) has = ap (λ (v : ArpValue). headers.Arp v ∷ []) has
content_is arp t bytes c has = absurd has

-- what is left begins with the payload
rest_is : (arp : Option ArpValue) (t : EtherType) (bytes : List ℕ) (c : PacketContent) → HasContent arp t bytes c
    → (more : List ℕ) × (bytes ≡ content_payload c ++ more)
rest_is None t bytes (contents.Payload u p) has = ([], sym has.1 ∙ sym (append-nil p.now))
rest_is (Some a) t bytes (contents.Arp packet) has = (bytes, refl)
rest_is arp t bytes c has = absurd has

-- ---- the front

most : (n : ℕ) (l : List ℕ) → length (take n l) ≤ n
most (suc n) (x ∷ l) = let le = most n l in omega (arith, le)
most n l = omega arith

pub parts_go_back : PartsGoBack
parts_go_back start list packet parts b end old new ok is of builder w =
    let hs = packet_headers packet in
    let tail = map ext_header_view (parts_exts parts) ++ arp_headers parts.arp in
    let m = length (content_payload b.content) in
    let p = content_payload b.content in
    let given : given_headers b ≡ link_header parts.link ∷ tail =
    (λ i. link_header (builder.link i) ∷ map ext_header_view (builder.exts i)
    ++ content_is parts.arp parts.ether_type parts.rest.now b.content builder.content i) in
    let same : flat_map header_bytes (given_headers b) ≡ flat_map header_bytes hs =
    ap (flat_map header_bytes) given
    ∙ ap (λ (l : List ℕ). l ++ flat_map header_bytes tail) (link_bytes parts.link of.have.link of.have.is_link)
    ∙ ap (flat_map header_bytes) (sym of.have.parts) in
    let long : place 0 (given_headers b) ≡ place 0 hs =
    ap (place 0) given ∙ ap (λ (k : ℕ). place (0 + k) tail) (link_long parts.link of.have.link of.have.is_link)
    ∙ ap (place 0) (sym of.have.parts) in
    let zero_more : m ≡ m + 0 = omega arith in
    let all = w.ends ∙ ap (λ (k : ℕ). place k (given_headers b)) zero_more ∙ place-add m 0 (given_headers b) in
    let front = flat_map header_bytes hs in
    let own = length-fit (given_headers b) w.fit in
    let own_same = ap length same in
    let len : length (front ++ p) ≡ end = omega (arith, length-append front p, own, own_same, all) in
    let written : take end new ≡ front ++ p =
    ap (take end) (w.bytes ∙ ap (λ (l : List ℕ). l ++ p ++ drop end old) same)
    ∙ take_at (front ++ p) (drop end old) end len in
    let (more, rest) = rest_is parts.arp parts.ether_type parts.rest.now b.content builder.content in
    let finish = (last_window is.ending).finish in
    let list_front : front ++ p ++ more ≡ take finish (cleared list 0 hs) =
    append_assoc front p more ∙ ap (λ (l : List ℕ). front ++ l) (sym rest ∙ of.rest ∙ is.rest)
    ∙ headers_go_back start list hs is.ending ok is.walk in
    let le : end ≤ finish =
    omega (arith, len, length-append (front ++ p) more, ap length list_front, most finish (cleared list 0 hs)) in
    let read : take end (cleared list 0 hs) ≡ front ++ p =
    sym (take-take end finish (cleared list 0 hs) le) ∙ ap (take end) (sym list_front)
    ∙ take_at (front ++ p) more end len in
    (omega (arith, all, long), written ∙ sym read)
