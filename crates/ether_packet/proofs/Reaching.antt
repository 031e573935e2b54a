-- How far the headers of a packet reach, extension by extension.
use Rattle.std.proofs.Common.{◌≡◌, ℕ, suc, ◌+◌, ◌*◌, ◌<◌, ◌≤◌, List, [], ◌∷◌, ◌++◌, length, take, sym, ap, ◌∙◌, arith, append_assoc, rules}
use Rattle.std.specs.Prelude.{map, max, slice_get, Some, None, unwrap_or}
use Rattle.std.proofs.Math.Seq.{take-suc}
use Rattle.std.proofs.lemmas.List.{append-nil, map-append}
use Rattle.std.proofs.lemmas.Option.{slice_get_within, get_or_from_slice_get}
use Rattle.etherparse.specs.Arp.{ArpValue, arp_front_in, arp_len, arp_of}
use Rattle.etherparse.specs.Kind as kinds
use Rattle.etherparse.specs.Header.{Header, header_len, payload_len, unit_len}
use Rattle.etherparse.specs.Header as headers
use Rattle.etherparse.proofs.Reading.{arp_front_back}
use Rattle.ether_peel.specs.Grammar.Cuts.{reach}
use Rattle.ether_peel.specs.Grammar.Places.{place}
use Rattle.ether_peel.proofs.Grammar.Places.{place-append}
use Rattle.ether_packet.specs.declared.ext_places.FrameWindow.{FrameWindow}
use Rattle.ether_packet.specs.declared.ext_places.ExtPlace.{ExtPlace}
use Rattle.ether_packet.specs.declared.packet_units.LinkKind.{LinkKind}
use Rattle.ether_packet.specs.PacketUnit.{PacketUnit}
use Rattle.ether_packet.specs.Views.{header_of}
use Rattle.ether_packet.specs.Places.{unit_at, link_units, ext_unit, headers_at}

reach-append : (at : ℕ) (hs : List Header) (h : Header)
    → reach at (hs ++ h ∷ []) ≡ max (reach at hs) (place at hs + unit_len h)
reach-append at [] h = omega arith
reach-append at (k ∷ hs) h = let more = reach-append (at + header_len k) hs h in omega arith

-- the headers of a link and of some extensions
abbrev pub headers_so_far : List ℕ → LinkKind → List ExtPlace → List Header
headers_so_far frame link xs = map header_of (link_units frame link) ++ map header_of (map ext_unit xs)

take_next : (xs : List ExtPlace) (i : ℕ) (x : ExtPlace) → slice_get xs i ≡ Some x
    → take (i + 1) xs ≡ take i xs ++ x ∷ []
take_next xs i x at =
    let e : i + 1 ≡ suc i = omega arith in
    ap (λ (n : ℕ). take n xs) e ∙ take-suc xs i x (slice_get_within xs i x at)
    ∙ ap (λ (y : ExtPlace). take i xs ++ y ∷ []) (get_or_from_slice_get xs i x x at)

headers_next : (frame : List ℕ) (link : LinkKind) (xs : List ExtPlace) (i : ℕ) (x : ExtPlace) → slice_get xs i ≡ Some x
    → headers_so_far frame link (take (i + 1) xs) ≡ headers_so_far frame link (take i xs) ++ header_of (ext_unit x) ∷ []
headers_next frame link xs i x at =
    let first = map header_of (link_units frame link) in
    let before = map ext_unit (take i xs) in
    let u = ext_unit x in
    ap (λ (l : List ExtPlace). first ++ map header_of (map ext_unit l)) (take_next xs i x at)
    ∙ ap (λ (l : List PacketUnit). first ++ map header_of l) (map-append ext_unit (take i xs) (x ∷ []))
    ∙ ap (λ (l : List Header). first ++ l) (map-append header_of before (u ∷ []))
    ∙ sym (append_assoc first (map header_of before) (header_of u ∷ []))

-- where the headers of a link and of the first n extensions end, and how far they reach
pub record Reaches (link : LinkKind) (xs : List ExtPlace) (n at end : ℕ) : Type 0 where
  pub ends : (frame : List ℕ) → at ≡ place 0 (headers_so_far frame link (take n xs))
  pub reaches : (frame : List ℕ) → end ≡ reach 0 (headers_so_far frame link (take n xs))
  pub near : at ≤ 16 + 16 * n
  pub most : end ≤ 80 + 16 * n

-- with one header more
place_next : (hs ks : List Header) (h : Header) (at len : ℕ) → ks ≡ hs ++ h ∷ [] → at ≡ place 0 hs → len ≡ header_len h
    → at + len ≡ place 0 ks
place_next hs ks h at len next at_is len_is = let e = ap (place 0) next ∙ place-append 0 hs (h ∷ []) in omega arith

reach_next : (hs ks : List Header) (h : Header) (at end len named : ℕ) → ks ≡ hs ++ h ∷ [] → at ≡ place 0 hs
    → end ≡ reach 0 hs → len ≡ header_len h → named ≡ unwrap_or (payload_len h) 0
    → max end (at + len + named) ≡ reach 0 ks
reach_next hs ks h at end len named next at_is end_is len_is named_is =
    let e = ap (reach 0) next ∙ reach-append 0 hs h in omega arith

pub reaches_next : (link : LinkKind) (xs : List ExtPlace) (i : ℕ) (x : ExtPlace) (h : Header) (at end len named : ℕ)
    → slice_get xs i ≡ Some x → h ≡ header_of (ext_unit x) → Reaches link xs i at end
    → len ≡ header_len h → len ≤ 16 → named ≡ unwrap_or (payload_len h) 0 → named < 64
    → Reaches link xs (i + 1) (at + len) (max end (at + len + named))
reaches_next link xs i x h at end len named is value r len_is few named_is less =
    let before = λ (frame : List ℕ). headers_so_far frame link (take i xs) in
    let after = λ (frame : List ℕ). headers_so_far frame link (take (i + 1) xs) in
    let next =
    λ (frame : List ℕ).
    headers_next frame link xs i x is ∙ ap (λ (k : Header). before frame ++ k ∷ []) (sym value) in
    let near = r.near in
    let most = r.most in
    record {
      ends = λ frame. place_next (before frame) (after frame) h at len (next frame) (r.ends frame) len_is;
      reaches =
          λ frame.
          reach_next (before frame) (after frame) h at end len named (next frame) (r.ends frame) (r.reaches frame)
          len_is named_is;
      near = omega arith;
      most = omega arith;
    }

pub packet_len : (bytes packet : List ℕ) → arp_of packet ≡ arp_of bytes → length packet ≡ arp_len (arp_front_in packet)
    → header_len (headers.Arp (arp_of bytes)) ≡ length packet
packet_len bytes packet same len =
    ap (λ (a : ArpValue). header_len (headers.Arp a)) (sym same)
    ∙ ap arp_len (arp_front_back packet (arp_front_in packet) (omega arith)) ∙ sym len

-- with one
pub reach_with_arp : (frame : List ℕ) (link : LinkKind) (xs : List ExtPlace) (p : FrameWindow) (n : ℕ)
    → header_len (header_of (unit_at kinds.Arp p)) ≡ n
    → reach 0 (headers_at frame link xs (Some p))
    ≡ max (reach 0 (headers_at frame link xs None)) (place 0 (headers_at frame link xs None) + n)
reach_with_arp frame link xs p n own = search (rules, map-append, append-nil, reach-append)
