-- Frames that are written whole, of parts that were read.
use Rattle.std.proofs.Common.{◌≡◌, ℕ, ◌+◌, ◌-◌, ◌^◌, ◌<◌, ◌≤◌, List, [], ◌∷◌, ◌++◌, length, take, drop, refl, sym, ap, subst, ◌∙◌, arith, append_assoc, rules}
use Rattle.std.specs.Prelude.{map, flat_map, Option, Some, None}
use Rattle.std.proofs.lemmas.Grind.{flat_map-append}
use Rattle.std.proofs.lemmas.List.{append-nil, drop_at, drop-drop, drop-set-lt, length-append, length-drop, length-set, take_at, take-append-drop}
use Rattle.etherparse.specs.Bytes.{overwritten}
use Rattle.etherparse.specs.Types.LinkExtHeader.{LinkExtHeader}
use Rattle.etherparse.specs.Types.LinkExtHeader.TheVariants as exts
use Rattle.etherparse.specs.LinkExt.{ext_header_view}
use Rattle.etherparse.specs.Arp.{ArpValue}
use Rattle.etherparse.specs.Header.{Header, header_bytes, header_len}
use Rattle.etherparse.specs.Header as headers
use Rattle.etherparse.proofs.SubLists.{length-part}
use Rattle.etherparse.proofs.ReadBack.{length-header_bytes}
use Rattle.ether_peel.specs.Grammar.Expectation.{Expectation}
use Rattle.ether_peel.specs.Grammar.Cleared.{cleared_at, cleared}
use Rattle.ether_peel.specs.Grammar.Places.{place}
use Rattle.ether_peel.specs.Grammar.Stack.{Ending, last_window, whole, Walk}
use Rattle.ether_peel.proofs.Grammar.Cleared.{headers_go_back, whole_in}
use Rattle.ether_peel.proofs.Grammar.Places.{place-append, place_least, last_after}
use Rattle.ether_packet.specs.declared.packet_builder.PacketBuilder.{PacketBuilder}
use Rattle.ether_packet.specs.declared.packet_builder.PacketContent.{PacketContent}
use Rattle.ether_packet.specs.declared.packet_parts.PacketParts.{PacketParts}
use Rattle.ether_packet.specs.declared.packet_slice.PacketSlice.{PacketSlice}
use Rattle.ether_packet.specs.Building.{AllFit}
use Rattle.ether_packet.specs.Builder.{link_header, content_headers, content_payload, packet_len, HasPacketType}
use Rattle.ether_packet.specs.Packet.{packet_headers, IsPacket}
use Rattle.ether_packet.specs.Parts.{arp_headers, IsBuilderOf, parts_inner, trailer_of}
use Rattle.ether_packet.specs.Unchanged.{given_headers, IsWrittenUnchanged}
use Rattle.ether_packet.specs.Frames.{parts_headers, frame_size, counted_size, IsFrameWritten, FramesGoBack, AllAgree, headers_for, ChangedFramesAreRead}
use Rattle.ether_packet.proofs.Links.{in_place_bytes, in_place_fits, in_place_sendable}
use Rattle.ether_packet.proofs.PartsBack.{link_bytes}
use Rattle.ether_packet.proofs.Replaced.{IsSendable, same_len, replaced_walk}
use Rattle.ether_packet.proofs.Unchanged.{laid, fit_append, length-fit}
use Rattle.ether_packet.proofs.Written.{place-add}

-- ---- how long a frame is

-- a builder of the parts with this content has their headers alone
pub headers_alone : (p : PacketParts) (b : PacketBuilder) (content : PacketContent) → IsBuilderOf p b
    → content_headers content ≡ arp_headers p.arp
    → given_headers (record b { content = content }) ≡ parts_headers p
headers_alone p b content is same = λ i. link_header (is.link i) ∷ map ext_header_view (is.exts i) ++ same i

pub size_is : (p : PacketParts) (b : PacketBuilder) → given_headers b ≡ parts_headers p → content_payload b.content ≡ []
    → frame_size p ≡ packet_len b + length p.rest.now + length p.trailer.now
size_is p b same empty = search (rules, place-add)

-- a number that is none of the greatest is the size
pub counted_is : (p : PacketParts) (n : ℕ) → n ≡ counted_size p → n < 2 ^ 64 - 1 → n ≡ frame_size p
counted_is p n is less = omega (arith, is, less)

-- the frame that is written
record FrameIs (p : PacketParts) (end : ℕ) (new : List ℕ) : Type 0 where
  pub bytes : take end new ≡ flat_map header_bytes (parts_headers p) ++ p.rest.now ++ p.trailer.now
  pub len : length (flat_map header_bytes (parts_headers p) ++ p.rest.now ++ p.trailer.now) ≡ end

frame_is : (p : PacketParts) (end : ℕ) (old new : List ℕ) → IsFrameWritten p old end new → FrameIs p end new
frame_is p end old new w =
    let front = flat_map header_bytes (parts_headers p) in
    let m = length p.rest.now + length p.trailer.now in
    let zero : m ≡ m + 0 = omega arith in
    let more = ap (λ (k : ℕ). place k (parts_headers p)) zero ∙ place-add m 0 (parts_headers p) in
    let own = length-fit (parts_headers p) w.fit in
    let ends = w.ends in
    let all : length (front ++ p.rest.now ++ p.trailer.now) ≡ end =
    omega
    (arith, length-append (front ++ p.rest.now) p.trailer.now, length-append front p.rest.now, own, more, ends) in
    search (rules, take, take_at, drop)

-- after the headers alone the rest and the trailer are written
pub all_written : (p : PacketParts) (b : PacketBuilder) (old first second new : List ℕ) (at next : ℕ)
    → given_headers b ≡ parts_headers p → content_payload b.content ≡ [] → b.link ≡ p.link
    → frame_size p ≤ length old → at ≡ packet_len b → IsWrittenUnchanged b old (packet_len b) first
    → HasPacketType b.link
    → second ≡ overwritten first at p.rest.now → next ≡ at + length p.rest.now
    → new ≡ overwritten second next p.trailer.now → IsFrameWritten p old (frame_size p) new
all_written p b old first second new at next same empty link room is w packet_type rest past trailer =
    let f = flat_map header_bytes (parts_headers p) in
    let fit = subst AllFit same w.fit in
    let size = size_is p b same empty in
    let front : packet_len b ≡ place 0 (parts_headers p) = (λ i. place (length (empty i)) (same i)) in
    let own : length f ≡ at = length-fit (parts_headers p) fit ∙ sym front ∙ sym is in
    let headers_only : first ≡ f ++ drop at old =
    w.bytes ∙ (λ i. flat_map header_bytes (same i) ++ empty i ++ drop (sym is i) old)
    ∙ ap (λ (l : List ℕ). l ++ drop at old) (append-nil f) in
    let with_rest : second ≡ f ++ p.rest.now ++ drop next old =
    rest ∙ laid old f first p.rest.now at headers_only own
    ∙ ap (λ (k : ℕ). f ++ p.rest.now ++ drop k old) (sym past) in
    let long : length (f ++ p.rest.now) ≡ next = omega (arith, length-append f p.rest.now, own, past) in
    let end : next + length p.trailer.now ≡ frame_size p = omega (arith, past, size, is) in
    search (rules, laid, drop)

-- ---- what is cleared

cleared_at_len : (list : List ℕ) (at : ℕ) (h : Header) → length (cleared_at list at h) ≡ length list
cleared_at_len list at (headers.Macsec t) = length-set list (at + 1) _
cleared_at_len list at h = refl

cleared_len : (list : List ℕ) (at : ℕ) (hs : List Header) → length (cleared list at hs) ≡ length list
cleared_len list at [] = refl
cleared_len list at (h ∷ hs) =
    cleared_at_len (cleared list (at + header_len h) hs) at h ∙ cleared_len list (at + header_len h) hs

cleared_at_after : (list : List ℕ) (at : ℕ) (h : Header) (n : ℕ) → at + header_len h ≤ n
    → drop n (cleared_at list at h) ≡ drop n list
cleared_at_after list at (headers.Macsec t) n le = drop-set-lt n list (at + 1) _ (omega (arith, le))
cleared_at_after list at h n le = refl

-- nothing after the headers
cleared_after : (list : List ℕ) (at : ℕ) (hs : List Header) (n : ℕ) → place at hs ≤ n
    → drop n (cleared list at hs) ≡ drop n list
cleared_after list at [] n le = refl
cleared_after list at (h ∷ hs) n le =
    let more = cleared_after list (at + header_len h) hs n le in
    search (rules, place_least, cleared_at_after)

-- ---- the rest and the trailer of a packet

record Split (list : List ℕ) (packet : PacketSlice) (finish : ℕ) : Type 0 where
  pub trailer : trailer_of packet ≡ drop finish list
  pub order : place 0 (packet_headers packet) ≤ finish
  pub inside : finish ≤ length list
  pub all : packet.rest.now ++ trailer_of packet ≡ drop (place 0 (packet_headers packet)) list

split : (start : Expectation) (list : List ℕ) (packet : PacketSlice) (is : IsPacket start list packet)
    → Split list packet (last_window is.ending).finish
split start list packet is =
    let hs = packet_headers packet in
    let v = last_window is.ending in
    let after = last_after list start (whole start list) hs is.ending (whole_in start list) is.walk in
    let starts : v.start ≡ place 0 hs = after.start in
    let ordered : v.start ≤ v.finish = after.ordered in
    let inside : v.finish ≤ length list = after.inside in
    let len = length-part list v.start v.finish inside in
    let long = ap length is.rest in
    let offset = is.offset in
    let ends : packet.rest_offset + length packet.rest.now ≡ v.finish = omega (arith, len, long, offset, ordered) in
    let n = v.finish - v.start in
    let sum : v.start + n ≡ v.finish = omega (arith, ordered) in
    let trailer : trailer_of packet ≡ drop v.finish list = (λ i. drop (ends i) (is.frame i)) in
    let past = trailer ∙ ap (λ (k : ℕ). drop k list) (sym sum) ∙ sym (drop-drop n v.start list) in
    search (rules, take-append-drop)

-- ---- the whole frame

pub frames_go_back : FramesGoBack
frames_go_back p end old new w start list packet ok is of =
    let hs = packet_headers packet in
    let finish = (last_window is.ending).finish in
    let s = split start list packet is in
    let front = flat_map header_bytes hs in
    let c = cleared list 0 hs in
    let same : flat_map header_bytes (parts_headers p) ≡ front =
    ap (λ (l : List ℕ). l ++ flat_map header_bytes (parts_inner p)) (link_bytes p.link of.have.link of.have.is_link)
    ∙ ap (flat_map header_bytes) (sym of.have.parts) in
    let first : front ++ p.rest.now ≡ take finish c =
    ap (λ (l : List ℕ). front ++ l) (of.rest ∙ is.rest) ∙ headers_go_back start list hs is.ending ok is.walk in
    let later = of.trailer ∙ s.trailer ∙ sym (cleared_after list 0 hs finish s.order) in
    let frame = frame_is p end old new w in
    let is_whole : flat_map header_bytes (parts_headers p) ++ p.rest.now ++ p.trailer.now ≡ c =
    ap (λ (l : List ℕ). l ++ p.rest.now ++ p.trailer.now) same ∙ (λ i. first i ++ later i)
    ∙ take-append-drop finish c in
    (sym frame.len ∙ ap length is_whole ∙ cleared_len list 0 hs, frame.bytes ∙ is_whole)

-- ---- changed headers

abbrev AllSendable : List Header → Type 0
AllSendable [] = Unit {0}
AllSendable (h ∷ hs) = IsSendable h × AllSendable hs

ext_sendable : (x : LinkExtHeader) → IsSendable (ext_header_view x)
ext_sendable (exts.Vlan tag) = tt
ext_sendable (exts.Macsec tag) = tt

arp_sendable : (arp : Option ArpValue) → AllSendable (arp_headers arp)
arp_sendable None = tt
arp_sendable (Some packet) = (tt, tt)

inner_sendable : (xs : List LinkExtHeader) (arp : Option ArpValue)
    → AllSendable (map ext_header_view xs ++ arp_headers arp)
inner_sendable [] arp = arp_sendable arp
inner_sendable (x ∷ xs) arp = (ext_sendable x, inner_sendable xs arp)

same_place : (at : ℕ) (gs hs : List Header) → AllAgree gs hs → place at gs ≡ place at hs
same_place at [] [] same = refl
same_place at (g ∷ gs) (h ∷ hs) same =
    ap (λ (n : ℕ). place (at + n) gs) (same_len g h same.0) ∙ same_place (at + header_len h) gs hs same.1
same_place at gs hs same = absurd same

-- the bytes of headers, and after them those of a list
abbrev laid_over : List ℕ → List Header → List ℕ
laid_over list hs = flat_map header_bytes hs ++ drop (place 0 hs) list

-- headers are replaced one by one, those of `done` before the others
agree_walk : (start : Expectation) (list : List ℕ) (done gs hs : List Header) (e : Ending) → AllFit done → AllFit gs
    → AllSendable gs → AllAgree gs hs → Walk start (laid_over list done) (done ++ hs) e
    → Walk start (laid_over list (done ++ gs)) (done ++ gs) e
agree_walk start list done [] [] e before fit sendable same walk =
    subst (λ (l : List Header). Walk start (laid_over list l) (done ++ []) e) (sym (append-nil done)) walk
agree_walk start list done (g ∷ gs) (h ∷ hs) e before fit sendable same walk =
    let at = place 0 done in
    let front = flat_map header_bytes done in
    let next = done ++ g ∷ [] in
    let len : length front ≡ at = length-fit done before in
    let own : length (header_bytes g) ≡ header_len g = length-header_bytes g fit.0 in
    let end = ap (λ (n : ℕ). at + n) own ∙ sym (place-append 0 done (g ∷ [])) in
    let all : front ++ header_bytes g ≡ flat_map header_bytes next =
    ap (λ (l : List ℕ). front ++ l) (sym (append-nil (header_bytes g)))
    ∙ sym (flat_map-append header_bytes done (g ∷ [])) in
    let bytes : overwritten (laid_over list done) at (header_bytes g) ≡ laid_over list next =
    laid list front (laid_over list done) (header_bytes g) at refl len ∙ (λ i. all i ++ drop (end i) list) in
    let step = replaced_walk start (laid_over list done) done h g hs e same.0 fit.0 sendable.0 walk in
    let moved = subst (λ (l : List ℕ). Walk start l (done ++ g ∷ hs) e) bytes step in
    let split_hs : done ++ g ∷ hs ≡ next ++ hs = sym (append_assoc done (g ∷ []) hs) in
    let split_gs : next ++ gs ≡ done ++ g ∷ gs = append_assoc done (g ∷ []) gs in
    subst (λ (l : List Header). Walk start (laid_over list l) l e) split_gs
    (agree_walk start list next gs hs e (fit_append done (g ∷ []) before (fit.0, tt)) fit.1 sendable.1 same.1
    (subst (λ (l : List Header). Walk start (laid_over list next) l e) split_hs moved))
agree_walk start list done gs hs e before fit sendable same walk = absurd same

-- the headers as a walk finds them are written as they are
record Found (p : PacketParts) (hs : List Header) : Type 0 where
  pub bytes : flat_map header_bytes (parts_headers p) ≡ flat_map header_bytes (headers_for p hs)
  pub fit : AllFit (headers_for p hs)
  pub sendable : AllSendable (headers_for p hs)

found : (p : PacketParts) (hs : List Header) → AllAgree (headers_for p hs) hs → AllFit (parts_headers p)
    → HasPacketType p.link → Found p hs
found p [] same fit packet_type = absurd same
found p (h ∷ hs) same fit packet_type = search (rules, in_place_bytes, in_place_fits, in_place_sendable, inner_sendable)

pub changed_frames_are_read : ChangedFramesAreRead
changed_frames_are_read p end old new w start list packet e is walk same rest trailer =
    let hs = packet_headers packet in
    let gs = headers_for p hs in
    let s = split start list packet is in
    let f = found p hs same w.fit w.packet_type in
    let at : place 0 gs ≡ place 0 hs = same_place 0 gs hs same in
    let own : length (flat_map header_bytes gs) ≡ place 0 gs = length-fit gs f.fit in
    let frame = frame_is p end old new w in
    let is_laid : flat_map header_bytes (parts_headers p) ++ p.rest.now ++ p.trailer.now ≡ laid_over list gs =
    append_assoc (flat_map header_bytes (parts_headers p)) p.rest.now p.trailer.now
    ∙ (λ i. f.bytes i ++ (rest i ++ trailer i))
    ∙ ap (λ (l : List ℕ). flat_map header_bytes gs ++ l)
    (s.all ∙ ap (λ (n : ℕ). drop n list) (sym at)) in
    let order = s.order in
    let inside = s.inside in
    let len : length (laid_over list gs) ≡ length list =
    omega (
      arith,
      length-append (flat_map header_bytes gs) (drop (place 0 gs) list),
      length-drop (place 0 gs) list,
      own,
      at,
      order,
      inside,
    ) in
    record {
      len = sym frame.len ∙ ap length is_laid ∙ len;
      walk =
          subst (λ (l : List ℕ). Walk start l gs e) (sym (frame.bytes ∙ is_laid))
          (agree_walk start list [] gs hs e tt f.fit f.sendable same walk);
      kept =
          ap (drop (place 0 gs)) (frame.bytes ∙ is_laid)
          ∙ drop_at (flat_map header_bytes gs) (drop (place 0 gs) list) (place 0 gs) own;
    }
