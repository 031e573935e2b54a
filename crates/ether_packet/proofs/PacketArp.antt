-- The ARP packet of a packet among its headers, and the one that replaces it.
use Rattle.std.proofs.Common.{◌≡◌, ℕ, ◌+◌, ◌≤◌, List, [], ◌∷◌, ◌++◌, length, refl, sym, ap, subst, ◌∙◌, arith, false, rules}
use Rattle.std.specs.Prelude.{map, slice_get, Option, Some, None, ◌||◌}
use Rattle.std.specs.List.{filter_map, cons_option}
use Rattle.std.proofs.lemmas.List.{map-append}
use Rattle.std.proofs.lemmas.Option.{slice_get_within}
use Rattle.etherparse.specs.Bytes.{overwritten}
use Rattle.etherparse.specs.Arp.{ArpValue, arp_bytes, arp_of}
use Rattle.etherparse.specs.Kind.{Kind}
use Rattle.etherparse.specs.Kind as kinds
use Rattle.etherparse.specs.Header.{Header, kind_of, header_len, FitsHeader}
use Rattle.etherparse.specs.Header as headers
use Rattle.etherparse.proofs.Reading.{arp_of_part}
use Rattle.etherparse.proofs.ReadBack.{length-header_bytes}
use Rattle.ether_peel.specs.Grammar.Window.{Window, payload}
use Rattle.ether_peel.specs.Grammar.Expectation.{Expectation, after}
use Rattle.ether_peel.specs.Grammar.Places.{place}
use Rattle.ether_peel.specs.Grammar.Stack.{Ending, Stack, whole, Walk}
use Rattle.ether_peel.proofs.Grammar.Places.{place-append, last_after}
use Rattle.ether_peel.proofs.Grammar.Cleared.{whole_in}
use Rattle.ether_packet.specs.declared.packet_slice.PacketSlice.{PacketSlice}
use Rattle.ether_packet.specs.declared.difference.Difference.{Difference}
use Rattle.ether_packet.specs.declared.replace_error.ReplaceError.TheVariants as errors
use Rattle.ether_packet.specs.PacketUnit.{PacketUnit}
use Rattle.ether_packet.specs.Views.{header_in, header_of, arp_in, arp_view}
use Rattle.ether_packet.specs.Packet.{packet_headers, IsPacket}
use Rattle.ether_packet.specs.Replacing.{Agree, Differs}
use Rattle.ether_packet.specs.ReplacingArp.{is_arp, has_arp, TakesArp, ReplacesArp, RefusesArp, no_arp, other_arp}
use Rattle.ether_packet.proofs.Places.{arp_of_unit}
use Rattle.ether_packet.proofs.Replaced.{same_len, length-overwritten, header_inside, replaced_walk}

-- ---- among the headers of a packet

-- an ARP packet, with those before it and after it
record ArpAmong (us : List PacketUnit) (view : List ℕ) : Type 0 where
  pub front : List PacketUnit
  pub unit : PacketUnit
  pub later : List PacketUnit
  pub parts : us ≡ front ++ unit ∷ later
  pub viewed : arp_of_unit unit ≡ Some view

among_cons : (u : PacketUnit) (us : List PacketUnit) (view : List ℕ) (o : Option (List ℕ)) → arp_of_unit u ≡ o
    → (arp_view us ≡ Some view → ArpAmong us view) → slice_get (cons_option o (filter_map arp_of_unit us)) 0 ≡ Some view
    → ArpAmong (u ∷ us) view
among_cons u us view None e more at =
    let s = more at in
    record {
      front = u ∷ s.front;
      unit = s.unit;
      later = s.later;
      parts = ap (λ (l : List PacketUnit). u ∷ l) s.parts;
      viewed = s.viewed;
    }
among_cons u us view (Some v) e more at = record { front = []; unit = u; later = us; parts = refl; viewed = e ∙ at }

among : (us : List PacketUnit) (view : List ℕ) → arp_view us ≡ Some view → ArpAmong us view
among [] view at = let none = slice_get_within [] 0 view at in absurd (omega (arith, none))
among (u ∷ us) view at = among_cons u us view (arp_of_unit u) refl (among us view) at

same_bytes : (a b : List ℕ) → Some a ≡ Some b → a ≡ b
same_bytes a b e = cc

-- the packet that a view means
arp_header : (k : Kind) (bytes view : List ℕ) → arp_in k bytes ≡ Some view
    → header_in k bytes ≡ headers.Arp (arp_of view)
arp_header kinds.Arp bytes view e = search (rules, arp_of_part, same_bytes)
arp_header k bytes view e = absurd cc

-- none

none_cons : (u : PacketUnit) (us : List PacketUnit) (o : Option (List ℕ)) → arp_of_unit u ≡ o
    → slice_get (cons_option o (filter_map arp_of_unit us)) 0 ≡ None → (arp_of_unit u ≡ None) × (arp_view us ≡ None)
none_cons u us None e none = (e, none)
none_cons u us (Some v) e none = absurd cc

other_kind : (k : Kind) (bytes : List ℕ) → arp_in k bytes ≡ None → is_arp (kind_of (header_in k bytes)) ≡ false
other_kind kinds.Arp bytes e = absurd cc
other_kind k bytes e = refl

without_arp : (us : List PacketUnit) → arp_view us ≡ None → has_arp (map header_of us) ≡ false
without_arp [] none = refl
without_arp (u ∷ us) none =
    let n = none_cons u us (arp_of_unit u) refl none in
    λ i. other_kind u.kind u.bytes n.0 i || without_arp us n.1 i

-- ---- nothing follows an ARP packet

nothing_after : (list : List ℕ) (x : Expectation) (w : Window) (a : ArpValue) (hs : List Header) (e : Ending)
    → Stack list (after x (headers.Arp a)) w hs e → hs ≡ []
nothing_after list x w a [] e s = refl
nothing_after list x w a (h ∷ hs) e s = let never : None ≡ Some (kind_of h) = s.0.announced in absurd cc

arp_last : (list : List ℕ) (x : Expectation) (w : Window) (front : List Header) (a : ArpValue) (later : List Header)
    (e : Ending)
    → Stack list x w (front ++ headers.Arp a ∷ later) e → later ≡ []
arp_last list x w [] a later e s = nothing_after list x (payload w (headers.Arp a)) a later e s.1
arp_last list x w (h ∷ front) a later e s = arp_last list (after x h) (payload w h) front a later e s.1

-- ---- the packet that is found

-- it is the last header, and the rest begins where it ends
record IsFound (p : PacketSlice) (a : ArpValue) (list : List ℕ) : Type 0 where
  pub front : List Header
  pub parts : packet_headers p ≡ front ++ headers.Arp a ∷ []
  pub ends : p.rest_offset ≡ place 0 (packet_headers p)
  pub inside : p.rest_offset ≤ length list

is_found : (start : Expectation) (list : List ℕ) (p : PacketSlice) (view : List ℕ) → IsPacket start list p
    → arp_view p.read.units ≡ Some view → IsFound p (arp_of view) list
is_found start list p view is at =
    let s = among p.read.units view at in
    let a = arp_of view in
    let front = map header_of s.front in
    let later = map header_of s.later in
    let split : packet_headers p ≡ front ++ headers.Arp a ∷ later =
    ap (map header_of) s.parts ∙ map-append header_of s.front (s.unit ∷ s.later)
    ∙ ap (λ (h : Header). front ++ h ∷ later) (arp_header s.unit.kind s.unit.bytes view s.viewed) in
    let none =
    arp_last list start (whole start list) front a later is.ending
    (subst (λ (l : List Header). Walk start list l is.ending) split is.walk) in
    let last = last_after list start (whole start list) (packet_headers p) is.ending (whole_in start list) is.walk in
    let offset = is.offset in
    let ordered = last.ordered in
    let inside = last.inside in
    search rules

pub found_takes : (start : Expectation) (list : List ℕ) (p : PacketSlice) (view : List ℕ) (g : ArpValue)
    (hs : List Header) (e : Ending)
    → IsPacket start list p → arp_view p.read.units ≡ Some view
    → Agree (headers.Arp g) (headers.Arp (arp_of view)) → Walk start list hs e → TakesArp hs g p.rest_offset
found_takes start list p view g hs e is at same walk =
    let f = is_found start list p view is at in
    let one = (is.one hs e walk).0 in
    search rules

-- the place of an ARP packet that ends at a place
arp_place : (front : List Header) (a : ArpValue)
    → place 0 (front ++ headers.Arp a ∷ []) ≡ place 0 front + header_len (headers.Arp a)
arp_place front a = place-append 0 front (headers.Arp a ∷ [])

pub found_room : (start : Expectation) (list : List ℕ) (p : PacketSlice) (view : List ℕ) (g : ArpValue)
    → IsPacket start list p → arp_view p.read.units ≡ Some view
    → Agree (headers.Arp g) (headers.Arp (arp_of view)) → header_len (headers.Arp g) ≤ p.rest_offset
found_room start list p view g is at same =
    let f = is_found start list p view is at in
    let ends = f.ends ∙ ap (place 0) f.parts ∙ arp_place f.front (arp_of view) in
    let len = same_len (headers.Arp g) (headers.Arp (arp_of view)) same in
    omega arith

pub found_inside : (start : Expectation) (list : List ℕ) (p : PacketSlice) (view : List ℕ) → IsPacket start list p
    → arp_view p.read.units ≡ Some view → p.rest_offset ≤ length list
found_inside start list p view is at = (is_found start list p view is at).inside

pub found_other : (start : Expectation) (list : List ℕ) (p : PacketSlice) (view : List ℕ) (g : ArpValue)
    (hs : List Header) (e : Ending)
    → IsPacket start list p → arp_view p.read.units ≡ Some view
    → (d : Difference) → Differs (headers.Arp g) (headers.Arp (arp_of view)) d → Walk start list hs e
    → RefusesArp hs g (errors.SaysOther d)
found_other start list p view g hs e is at d differs walk =
    let f = is_found start list p view is at in
    other_arp f.front (arp_of view) d ((is.one hs e walk).0 ∙ f.parts) differs

pub found_none : (start : Expectation) (list : List ℕ) (p : PacketSlice) (g : ArpValue) (hs : List Header) (e : Ending)
    → IsPacket start list p → arp_view p.read.units ≡ None → Walk start list hs e → RefusesArp hs g errors.NoArp
found_none start list p g hs e is none walk = no_arp (ap has_arp (is.one hs e walk).0 ∙ without_arp p.read.units none)

-- ---- the packet that replaces it

pub is_replaced : (start : Expectation) (old new : List ℕ) (hs : List Header) (e : Ending) (g : ArpValue) (at end : ℕ)
    → TakesArp hs g end → FitsHeader (headers.Arp g) → at + header_len (headers.Arp g) ≡ end
    → new ≡ overwritten old at (arp_bytes g) → Walk start old hs e → ReplacesArp start old hs e g new
is_replaced start old new hs e g at end t fits begins bytes walk =
    let as_long = same_len (headers.Arp g) (headers.Arp t.replaced) t.same in
    let ends = t.ends ∙ ap (place 0) t.parts ∙ arp_place t.front t.replaced in
    let there : at ≡ place 0 t.front = omega arith in
    let same_place = bytes ∙ ap (λ (n : ℕ). overwritten old n (arp_bytes g)) there in
    let split = subst (λ (l : List Header). Walk start old l e) t.parts walk in
    let inside = header_inside start old t.front (headers.Arp t.replaced) [] e split in
    let len = length-header_bytes (headers.Arp g) fits in
    record {
      front = t.front;
      replaced = t.replaced;
      parts = t.parts;
      same = t.same;
      fits = fits;
      bytes = same_place;
      len = ap length same_place ∙ length-overwritten old (arp_bytes g) (place 0 t.front) (omega arith);
      walk =
          subst (λ (l : List ℕ). Walk start l (t.front ++ headers.Arp g ∷ []) e) (sym same_place)
          (replaced_walk start old t.front (headers.Arp t.replaced) (headers.Arp g) [] e t.same fits tt split);
    }
