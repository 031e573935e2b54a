-- Which headers of a builder can be followed, and how long they are.
use Rattle.std.proofs.Common.{◌≡◌, ℕ, suc, ◌+◌, ◌-◌, ◌*◌, ◌<◌, ◌≤◌, List, [], ◌∷◌, ◌++◌, length, take, drop, drop_of_length-le, slice_index_or, refl, sym, ap, subst, ◌∙◌, arith, append_assoc, true, false, rules}
use Rattle.std.specs.Prelude.{map}
use Rattle.std.proofs.Math.Seq.{drop-cons, take-suc}
use Rattle.std.proofs.lemmas.Bool.{cases_lt}
use Rattle.std.proofs.lemmas.List.{length-append, length-take-le, map-append, take-append-drop}
use Rattle.etherparse.specs.Types.LinkExtHeader.{LinkExtHeader}
use Rattle.etherparse.specs.LinkExt.{ext_header_view}
use Rattle.etherparse.specs.Header.{Header, header_len}
use Rattle.ether_peel.specs.Grammar.Places.{place}
use Rattle.ether_peel.proofs.Grammar.Places.{place-append}
use Rattle.ether_packet.proofs.Written.{place-add}
use Rattle.ether_packet.specs.Building.{is_readable, IsChain}
use Rattle.etherparse.specs.Types.LinkHeader.{LinkHeader}
use Rattle.etherparse.specs.Types.LinkHeader.TheVariants as links
use Rattle.etherparse.specs.Link.{link_header_len}
use Rattle.ether_packet.specs.declared.packet_builder.PacketContent.{PacketContent}
use Rattle.ether_packet.specs.declared.packet_builder.PacketContent.TheVariants as contents
use Rattle.ether_packet.specs.declared.packet_builder.PacketBuilder.{PacketBuilder}
use Rattle.ether_packet.specs.Builder.{link_header, content_headers, content_payload, content_len, inner_headers, packet_len, AllReadable, IsEthernet, IsOtherLink, IsSealedAt, AcceptsPacket}
use Rattle.ether_packet.specs.Builder as rows
use Rattle.ether_packet.specs.declared.build_error.BuildError.{BuildError}

-- ---- one extension more

abbrev pub views : List LinkExtHeader → List Header
views xs = map ext_header_view xs

pub take_next : (xs : List LinkExtHeader) (i : ℕ) (d : LinkExtHeader) → i < length xs
    → views (take (i + 1) xs) ≡ views (take i xs) ++ ext_header_view (slice_index_or xs i d) ∷ []
take_next xs i d lt =
    let e : i + 1 ≡ suc i = omega arith in
    ap (λ (n : ℕ). views (take n xs)) e ∙ ap views (take-suc xs i d lt)
    ∙ map-append ext_header_view (take i xs) (slice_index_or xs i d ∷ [])

pub drop_next : (xs : List LinkExtHeader) (i : ℕ) (d : LinkExtHeader) → i < length xs
    → views (drop i xs) ≡ ext_header_view (slice_index_or xs i d) ∷ views (drop (i + 1) xs)
drop_next xs i d lt = search (rules, drop-cons, slice_index_or)

pub length-views : (xs : List LinkExtHeader) → length (views xs) ≡ length xs
length-views [] = refl
length-views (x ∷ xs) = ap suc (length-views xs)

-- ---- chains

pub readable_one_more : (hs : List Header) (h : Header) → AllReadable hs → is_readable h ≡ true
    → AllReadable (hs ++ h ∷ [])
readable_one_more [] h all is = (is, tt)
readable_one_more (g ∷ hs) h all is = (all.0, readable_one_more hs h all.1 is)

pub content_short : (c : PacketContent) → length (content_headers c) ≤ 1
content_short (contents.Payload t bytes) = omega arith
content_short (contents.Arp packet) = omega arith

-- how many extensions another header follows
abbrev pub followed : List LinkExtHeader → PacketContent → ℕ
followed xs c = length xs + length (content_headers c) - 1

-- all before an index that another header follows can be read
abbrev pub ReadTo : (xs : List LinkExtHeader) (followed i : ℕ) → Type 0
ReadTo xs followed i = (n : ℕ) → n ≤ i → n ≤ followed → AllReadable (views (take n xs))

read_up_to : (xs : List LinkExtHeader) (followed i n : ℕ) (d : LinkExtHeader) → i < length xs → ReadTo xs followed i
    → (i < followed → is_readable (ext_header_view (slice_index_or xs i d)) ≡ true) → n ≤ followed
    → n ≡ i + 1 → AllReadable (views (take n xs))
read_up_to xs followed i n d lt so_far is few e =
    subst (λ (k : ℕ). AllReadable (views (take k xs))) (sym e)
    (subst AllReadable (sym (take_next xs i d lt))
    (readable_one_more _ (ext_header_view (slice_index_or xs i d)) (so_far i (omega arith) (omega (arith, few, e)))
    (is (omega (arith, few, e)))))

pub read_next : (xs : List LinkExtHeader) (followed i : ℕ) (d : LinkExtHeader) → i < length xs → ReadTo xs followed i
    → (i < followed → is_readable (ext_header_view (slice_index_or xs i d)) ≡ true) → ReadTo xs followed (i + 1)
read_next xs followed i d lt so_far is n le few = search (rules, cases_lt, read_up_to)

-- all but the last one can be read
pub chain_from : (front back : List Header) → AllReadable front → length back ≤ 1 → IsChain (front ++ back)
chain_from [] (h ∷ g ∷ hs) all le = absurd (omega (arith, le))
chain_from (h ∷ []) (g ∷ hs) all le = (all.0, chain_from [] (g ∷ hs) tt le)
chain_from (h ∷ g ∷ front) back all le = (all.0, chain_from (g ∷ front) back all.1 le)
chain_from front back all le = tt

pub all_views : (xs : List LinkExtHeader) (i : ℕ) (content : List Header)
    → views xs ++ content ≡ views (take i xs) ++ (views (drop i xs) ++ content)
all_views xs i content =
    ap (λ (l : List LinkExtHeader). views l ++ content) (sym (take-append-drop i xs))
    ∙ ap (λ (l : List Header). l ++ content) (map-append ext_header_view (take i xs) (drop i xs))
    ∙ append_assoc (views (take i xs)) (views (drop i xs)) content

pub is_chain : (xs : List LinkExtHeader) (i : ℕ) (content : List Header) → AllReadable (views (take i xs))
    → length (drop i xs) + length content ≤ 1 → IsChain (views xs ++ content)
is_chain xs i content all le =
    let n = length-append (views (drop i xs)) content in
    let m = length-views (drop i xs) in
    subst IsChain (sym (all_views xs i content))
    (chain_from (views (take i xs)) (views (drop i xs) ++ content) all (omega (arith, n, m, le)))

sealed_before : (xs : List LinkExtHeader) (i : ℕ) (content later : List Header) (h : Header) → i ≤ length xs
    → AllReadable (views (take i xs)) → views (drop i xs) ≡ h ∷ views (drop (i + 1) xs)
    → is_readable h ≡ false → length (views (take i xs)) ≡ i → later ≡ views (drop (i + 1) xs) ++ content
    → 1 ≤ length later → IsSealedAt (views xs ++ content) i
sealed_before xs i content [] h le all split sealed len is one = absurd (omega (arith, one))
sealed_before xs i content (g ∷ later) h le all split sealed len is one = record {
  front = views (take i xs);
  sealed = h;
  follows = g;
  later = later;
  split =
      all_views xs i content ∙ ap (λ (l : List Header). views (take i xs) ++ (l ++ content)) split
      ∙ ap (λ (l : List Header). views (take i xs) ++ h ∷ l) (sym is);
  place = len;
  readable = all;
  unreadable = sealed;
}

pub is_sealed : (xs : List LinkExtHeader) (i : ℕ) (content : List Header) (d : LinkExtHeader) → i < length xs
    → AllReadable (views (take i xs)) → is_readable (ext_header_view (slice_index_or xs i d)) ≡ false
    → 1 ≤ length (drop (i + 1) xs) + length content → IsSealedAt (views xs ++ content) i
is_sealed xs i content d lt all sealed follows =
    let n = length-append (views (drop (i + 1) xs)) content in
    let m = length-views (drop (i + 1) xs) in
    let t : length (views (take i xs)) ≡ i = length-views (take i xs) ∙ length-take-le i xs (omega (arith, lt)) in
    sealed_before xs i content (views (drop (i + 1) xs) ++ content) (ext_header_view (slice_index_or xs i d))
    (omega (arith, lt)) all (drop_next xs i d lt) sealed t refl (omega (arith, n, m, follows))

-- ---- what is refused

unread_last : (front : List Header) (h g : Header) (later : List Header) → IsChain (front ++ h ∷ g ∷ later)
    → is_readable h ≡ false → ⊥
unread_last [] h g later chain sealed = let f : true ≡ false = sym chain.0 ∙ sealed in absurd cc
unread_last (x ∷ []) h g later chain sealed = unread_last [] h g later chain.1 sealed
unread_last (x ∷ y ∷ front) h g later chain sealed = unread_last (y ∷ front) h g later chain.1 sealed

-- nothing is sealed where all that others follow can be read
pub chain_unsealed : (hs : List Header) (i : ℕ) → IsChain hs → IsSealedAt hs i → ⊥
chain_unsealed hs i chain s = unread_last s.front s.sealed s.follows s.later (subst IsChain s.split chain) s.unreadable

no_other_link : (link : LinkHeader) (e : BuildError) → IsOtherLink link e → IsEthernet link → ⊥
no_other_link (links.LinuxSll h) e other ethernet = other.1 ethernet
no_other_link (links.Ethernet2 h) e other ethernet = other

-- no row holds of a packet of Ethernet whose headers can all be followed, and that fits
pub accepts_packet : (p : PacketBuilder) (target : List ℕ) → IsEthernet p.link → IsChain (inner_headers p)
    → packet_len p ≤ length target → AcceptsPacket p target
accepts_packet p target ethernet chain fits e (rows.hardware_type f other) = no_other_link p.link f other ethernet
accepts_packet p target ethernet chain fits e (rows.sealed i link s) = chain_unsealed (inner_headers p) i chain s
accepts_packet p target ethernet chain fits e (rows.space f link followed r) = let short = r.short in omega arith

-- ---- lengths

-- so long are the extensions from an index on, after those before it
pub record Counted (xs : List LinkExtHeader) (first i len : ℕ) : Type 0 where
  pub whole : place len (views (drop i xs)) ≡ place first (views xs)
  pub near : len ≤ first + 16 * i

pub counted_next : (xs : List LinkExtHeader) (first i len n : ℕ) (d : LinkExtHeader) → i < length xs
    → Counted xs first i len → n ≡ header_len (ext_header_view (slice_index_or xs i d)) → n ≤ 16
    → Counted xs first (i + 1) (len + n)
counted_next xs first i len n d lt so_far is few = search (rules, drop_next)

pub counted_all : (xs : List LinkExtHeader) (first i len : ℕ) → length xs ≤ i → Counted xs first i len
    → len ≡ place first (views xs)
counted_all xs first i len over so_far =
    sym (ap (λ (l : List LinkExtHeader). place len (views l)) (drop_of_length-le xs over)) ∙ so_far.whole

add_last : (x y : ℕ) → x + y ≡ y + x
add_last x y = omega arith

-- the header of the link and what follows the tags are as long as they would be before the tags
pub with_content : (link : Header) (xs content : List Header) (n : ℕ)
    → place (header_len link + place n content) xs ≡ place n (link ∷ xs ++ content)
with_content link xs content n =
    let a = header_len link in
    let swap : a + place n content ≡ place n content + a = omega arith in
    let turn : place n content + place a xs ≡ place a xs + place n content = omega arith in
    let turn_again : n + a ≡ a + n = omega arith in
    ap (λ (k : ℕ). place k xs) swap ∙ place-add (place n content) a xs ∙ turn ∙ sym (place-add (place a xs) n content)
    ∙ ap (λ (k : ℕ). place k content) (add_last (place a xs) n)
    ∙ ap (λ (k : ℕ). place k content) (sym (place-add n a xs)) ∙ sym (place-append (n + a) xs content)

pub link_len : (link : LinkHeader) → link_header_len link ≡ header_len (link_header link)
link_len (links.LinuxSll h) = refl
link_len (links.Ethernet2 h) = refl

pub content_place : (c : PacketContent) → content_len c ≡ place (length (content_payload c)) (content_headers c)
content_place (contents.Payload t bytes) = refl
content_place (contents.Arp packet) = omega arith

pub packet_len_is : (p : PacketBuilder)
    → place (link_header_len p.link + content_len p.content) (views p.link_exts.now) ≡ packet_len p
packet_len_is p = search (rules, link_len, content_place, with_content)
