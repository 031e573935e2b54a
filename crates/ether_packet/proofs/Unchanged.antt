-- A target that is filled from its front on, header by header.
use Rattle.std.proofs.Common.{◌≡◌, ℕ, ◌+◌, ◌<◌, ◌≤◌, List, [], ◌∷◌, ◌++◌, length, take, drop, slice_index_or, refl, sym, ap, ◌∙◌, arith, append_assoc, rules}
use Rattle.std.specs.Prelude.{flat_map}
use Rattle.std.proofs.lemmas.Grind.{flat_map-append}
use Rattle.std.proofs.lemmas.List.{append-nil, drop_at, drop-drop, length-append, take_at, take_all}
use Rattle.etherparse.specs.Bytes.{overwritten}
use Rattle.etherparse.specs.Types.LinkExtHeader.{LinkExtHeader}
use Rattle.etherparse.specs.LinkExt.{ext_header_view}
use Rattle.etherparse.specs.Header.{Header, header_len, header_bytes, FitsHeader}
use Rattle.etherparse.proofs.ReadBack.{length-header_bytes}
use Rattle.ether_peel.specs.Grammar.Places.{place}
use Rattle.ether_peel.proofs.Grammar.Places.{place-append}
use Rattle.ether_packet.specs.declared.packet_builder.PacketContent.{PacketContent}
use Rattle.ether_packet.specs.declared.packet_builder.PacketContent.TheVariants as contents
use Rattle.ether_packet.specs.declared.packet_builder.PacketBuilder.{PacketBuilder}
use Rattle.ether_packet.specs.Building.{AllFit}
use Rattle.ether_packet.specs.Builder.{link_header, content_headers, content_payload, content_bytes, content_len, packet_len}
use Rattle.ether_packet.specs.Unchanged.{given_headers, IsWrittenUnchanged}
use Rattle.ether_packet.proofs.Written.{place-add, place-first}
use Rattle.ether_packet.proofs.Chains.{views, take_next, drop_next, all_views, content_place}
use Rattle.ether_packet.proofs.Filling.{later, content_long}

-- ---- bytes right after those that are written already

pub laid : (old front target bytes : List ℕ) (at : ℕ) → target ≡ front ++ drop at old → length front ≡ at
    → overwritten target at bytes ≡ front ++ bytes ++ drop (at + length bytes) old
laid old front target bytes at is len =
    let n = length bytes in
    let first : take at target ≡ front = ap (take at) is ∙ take_at front (drop at old) at len in
    let rest : drop (at + n) target ≡ drop (at + n) old =
    sym (drop-drop n at target) ∙ ap (λ (l : List ℕ). drop n (drop at l)) is
    ∙ ap (drop n) (drop_at front (drop at old) at len) ∙ drop-drop n at old in
    λ i. first i ++ bytes ++ rest i

pub fit_append : (hs ks : List Header) → AllFit hs → AllFit ks → AllFit (hs ++ ks)
fit_append [] ks fit more = more
fit_append (h ∷ hs) ks fit more = (fit.0, fit_append hs ks fit.1 more)

-- headers are as long as their bytes
pub length-fit : (hs : List Header) → AllFit hs → length (flat_map header_bytes hs) ≡ place 0 hs
length-fit [] fit = refl
length-fit (h ∷ hs) fit =
    let more = length-fit hs fit.1 in
    search (rules, length-header_bytes, length-append, place-first)

-- ---- header by header

-- the link's header and the extensions before an index
abbrev pub front : PacketBuilder → ℕ → List Header
front p i = link_header p.link ∷ views (take i p.link_exts.now)

-- these are written, and what follows them in the target is as it was
pub record Laid (p : PacketBuilder) (old target : List ℕ) (i at : ℕ) : Type 0 where
  pub bytes : target ≡ flat_map header_bytes (front p i) ++ drop at old
  pub fit : AllFit (front p i)
  pub long : at ≡ place 0 (front p i)

-- with all that is still to come they are as long as the packet
pub whole_len : (p : PacketBuilder) (i : ℕ)
    → packet_len p ≡ place 0 (front p i) + place (length (content_payload p.content)) (later p i)
whole_len p i =
    let m = length (content_payload p.content) in
    let fs = front p i in
    let zero : m ≡ m + 0 = omega arith in
    let turn : m + place 0 fs ≡ place 0 fs + m = omega arith in
    ap (λ (l : List Header). place m (link_header p.link ∷ l)) (all_views p.link_exts.now i (content_headers p.content))
    ∙ place-append m fs (later p i)
    ∙ ap (λ (k : ℕ). place k (later p i)) (ap (λ (k : ℕ). place k fs) zero ∙ place-add m 0 fs ∙ turn)
    ∙ place-add (place 0 fs) m (later p i)

pub laid_link : (p : PacketBuilder) (old target : List ℕ) (at : ℕ) → at ≡ header_len (link_header p.link)
    → target ≡ overwritten old 0 (header_bytes (link_header p.link)) → FitsHeader (link_header p.link)
    → Laid p old target 0 at
laid_link p old target at is bytes fits = search (rules, length-header_bytes, append-nil)

-- there is room for the next one
pub room_next : (p : PacketBuilder) (old target : List ℕ) (i at : ℕ) (x : LinkExtHeader) → i < length p.link_exts.now
    → x ≡ slice_index_or p.link_exts.now i x → Laid p old target i at
    → at + header_len (ext_header_view x) ≤ packet_len p
room_next p old target i at x lt is so_far = search (rules, slice_index_or, drop_next, place-first, whole_len)

pub laid_next : (p : PacketBuilder) (old target new : List ℕ) (i at next : ℕ) (x : LinkExtHeader)
    → i < length p.link_exts.now → x ≡ slice_index_or p.link_exts.now i x → Laid p old target i at
    → new ≡ overwritten target at (header_bytes (ext_header_view x)) → FitsHeader (ext_header_view x)
    → next ≡ at + header_len (ext_header_view x) → Laid p old new (i + 1) next
laid_next p old target new i at next x lt is so_far bytes fits ends =
    let h = ext_header_view x in
    let fs = front p i in
    let more : front p (i + 1) ≡ fs ++ h ∷ [] =
    ap (λ (l : List Header). link_header p.link ∷ l) (take_next p.link_exts.now i x lt)
    ∙ ap (λ (y : LinkExtHeader). fs ++ ext_header_view y ∷ []) (sym is) in
    let len : length (flat_map header_bytes fs) ≡ at = length-fit fs so_far.fit ∙ sym so_far.long in
    let own = length-header_bytes h fits in
    let end : at + length (header_bytes h) ≡ next = omega (arith, own, ends) in
    let all : flat_map header_bytes fs ++ header_bytes h ≡ flat_map header_bytes (front p (i + 1)) =
    ap (λ (l : List ℕ). flat_map header_bytes fs ++ l) (sym (append-nil (header_bytes h)))
    ∙ sym (flat_map-append header_bytes fs (h ∷ [])) ∙ ap (flat_map header_bytes) (sym more) in
    let sum : place 0 (fs ++ h ∷ []) ≡ place 0 fs + header_len h = place-append 0 fs (h ∷ []) in
    search (rules, laid, drop, fit_append)

-- ---- the content

content_parts : (c : PacketContent) → content_bytes c ≡ flat_map header_bytes (content_headers c) ++ content_payload c
content_parts (contents.Payload t bytes) = refl
content_parts (contents.Arp packet) = sym (append-nil _ ∙ append-nil _)

all_front : (p : PacketBuilder) (i : ℕ) → length p.link_exts.now ≤ i
    → front p i ++ content_headers p.content ≡ given_headers p
all_front p i over = search (rules, take_all)

last_later : (p : PacketBuilder) (i : ℕ) → length p.link_exts.now ≤ i
    → packet_len p ≡ place 0 (front p i) + content_len p.content
last_later p i over =
    let m = length (content_payload p.content) in
    let fs = front p i in
    let zero : m ≡ m + 0 = omega arith in
    let turn : m + place 0 fs ≡ place 0 fs + m = omega arith in
    ap (place m) (sym (all_front p i over)) ∙ place-append m fs (content_headers p.content)
    ∙ ap (λ (k : ℕ). place k (content_headers p.content)) (ap (λ (k : ℕ). place k fs) zero ∙ place-add m 0 fs ∙ turn)
    ∙ place-add (place 0 fs) m (content_headers p.content)
    ∙ ap (λ (k : ℕ). place 0 fs + k) (sym (content_place p.content))

pub room_content : (p : PacketBuilder) (old target : List ℕ) (i at : ℕ) → length p.link_exts.now ≤ i
    → Laid p old target i at → at + content_len p.content ≡ packet_len p
room_content p old target i at over so_far = search (rules, last_later)

pub laid_all : (p : PacketBuilder) (old target new : List ℕ) (i at : ℕ) → length p.link_exts.now ≤ i
    → packet_len p ≤ length old → Laid p old target i at
    → new ≡ overwritten target at (content_bytes p.content) → AllFit (content_headers p.content)
    → IsWrittenUnchanged p old (packet_len p) new
laid_all p old target new i at over room so_far bytes fits =
    let c = p.content in
    let fs = front p i in
    let f = flat_map header_bytes fs in
    let len : length f ≡ at = length-fit fs so_far.fit ∙ sym so_far.long in
    let end = ap (λ (k : ℕ). at + k) (content_long c fits) ∙ room_content p old target i at over so_far in
    let parts : f ++ content_bytes c ≡ flat_map header_bytes (given_headers p) ++ content_payload c =
    ap (λ (l : List ℕ). f ++ l) (content_parts c)
    ∙ sym (append_assoc f (flat_map header_bytes (content_headers c)) (content_payload c))
    ∙ ap (λ (l : List ℕ). l ++ content_payload c) (sym (flat_map-append header_bytes fs (content_headers c)))
    ∙ ap (λ (l : List Header). flat_map header_bytes l ++ content_payload c) (all_front p i over) in
    search (rules, all_front, fit_append, laid, drop)
