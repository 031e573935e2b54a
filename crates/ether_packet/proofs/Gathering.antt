-- A packet that has gathered the headers of a walk so far, and its end.
use Rattle.std.proofs.Common.{◌≡◌, ℕ, zero, suc, ◌+◌, ◌-◌, ◌<◌, ◌≤◌, List, [], ◌∷◌, ◌++◌, length, refl, sym, ap, subst, ◌∙◌, arith, inl, inr, Bool, true, false, cond, ◌⊎◌, rules}
use Rattle.std.specs.Prelude.{map, slice_get, slice_range, Option, Some, None, Ok}
use Rattle.std.proofs.lemmas.List.{append-nil, length-append, map-append, take_all}
use Rattle.std.proofs.lemmas.List.Elements.{filter-append, filter_map-append}
use Rattle.etherparse.specs.Types.LenSource.{LenSource}
use Rattle.etherparse.specs.Types.LinuxSllProtocolType.{LinuxSllProtocolType}
use Rattle.etherparse.specs.Bytes.{IsBytes}
use Rattle.etherparse.specs.Macsec.{PayloadType}
use Rattle.etherparse.specs.Macsec as payloads
use Rattle.etherparse.specs.Kind.{Kind}
use Rattle.etherparse.specs.Kind as kinds
use Rattle.etherparse.specs.Header.{Header, kind_of}
use Rattle.etherparse.specs.Header as headers
use Rattle.etherparse.specs.Refusal.{Accepts}
use Rattle.etherparse.proofs.SubLists.{IsBytes-part}
use Rattle.ether_peel.specs.Grammar.Window.{Window, within, payload}
use Rattle.ether_peel.specs.Grammar.Expectation.{Next, Start, EtherType, Sll, AfterArp, Expectation, is_extension, announced_next, announced, after, next_after, after_payload, lowered}
use Rattle.ether_peel.specs.Grammar.Stack.{Ending, IsUnit, whole, Walk}
use Rattle.ether_peel.specs.Walker.State.{State}
use Rattle.ether_peel.specs.Walker.Start.{kind_shown}
use Rattle.ether_peel.specs.Walker.Next.{Faces, ShowsUnit, GivesNext, Gives}
use Rattle.ether_peel.specs.Walker.UnitHeader.{unit_header}
use Rattle.ether_peel.specs.declared.peel_unit.PeelUnit.{PeelUnit}
use Rattle.ether_peel.specs.declared.peel_fault.PeelFault.{PeelFault}
use Rattle.ether_peel.proofs.Walker.UnderWay.{UnitNext, unit_next, under_way_first, under_way_next}
use Rattle.ether_peel.proofs.Grammar.Announced.{announced_is}
use Rattle.ether_peel.proofs.Grammar.Stacks.{one_stack}
use Rattle.ether_peel.proofs.Walker.Bounds.{named, bounded_row}
use Rattle.ether_peel.proofs.Walker.UnitHeaders.{unit_header-shown}
use Rattle.ether_packet.specs.declared.ext_places.FrameWindow.{FrameWindow}
use Rattle.ether_packet.specs.declared.packet_slice.PacketSlice.{PacketSlice}
use Rattle.ether_packet.specs.PacketUnit.{PacketUnit, Read}
use Rattle.ether_packet.specs.Views.{header_in, header_of, exts_of, arp_in, arp_view}
use Rattle.ether_packet.specs.Packet.{IsUnitAt, AreUnitsAt, IsPacket}
use Rattle.ether_packet.specs.Gathered.{window_after, Ready, Gathered, item_of, next_left, headers_left, IsUnderWay, GoesBy, EndsAnyhow}
use Rattle.ether_packet.specs.declared.packet_walk.PacketWalk.{PacketWalk}
use Rattle.ether_packet.specs.Places.{Reads, IsReadable, kind_read, unit_at, read_with, HasPlace}
use Rattle.ether_packet.proofs.HeadersIn.{header_shown}

-- ---- one header more

window_after-append : (w : Window) (hs : List Header) (h : Header)
    → window_after w (hs ++ h ∷ []) ≡ payload (window_after w hs) h
window_after-append w [] h = refl
window_after-append w (k ∷ hs) h = window_after-append (payload w k) hs h

units-append : (list : List ℕ) (w : Window) (hs : List Header) (us : List PacketUnit) (h : Header) (u : PacketUnit)
    → AreUnitsAt list w hs us → IsUnitAt list (window_after w hs) h u → AreUnitsAt list w (hs ++ h ∷ []) (us ++ u ∷ [])
units-append list w [] [] h u are is = (is, tt)
units-append list w (k ∷ hs) (v ∷ us) h u are is = (are.0, units-append list (payload w k) hs us h u are.1 is)
units-append list w hs us h u are is = absurd are

-- ---- what is announced

-- a header that only a frame begins with
abbrev is_first : Kind → Bool
is_first kinds.Ethernet2 = true
is_first kinds.Ethernet2Fcs = true
is_first kinds.LinuxSll = true
is_first _ = false

chosen : (a b c : Bool) (kind : Kind)
    → cond a (Some kinds.Vlan) (cond b (Some kinds.Macsec) (cond c (Some kinds.Arp) None)) ≡ Some kind
    → is_first kind ≡ false
chosen true b c kinds.Vlan e = refl
chosen false true c kinds.Macsec e = refl
chosen false false true kinds.Arp e = refl
chosen _ _ _ _ e = absurd cc

-- it is announced by the start alone
starts : (next : Next) (kind : Kind) → announced_next next ≡ Some kind → is_first kind ≡ true
    → (k : Kind) × (next ≡ Start k)
starts (Start k) kind e first = (k, refl)
starts (EtherType t) kind e first = let later = chosen _ _ _ kind e in absurd cc
starts next kind e first = absurd cc

-- an extension is announced only if one may still be read
pub may_read : (x : Expectation) (kind : Kind) (free : ℕ) → x.limit ≡ Some free → is_extension kind ≡ true
    → announced x ≡ Some kind → 0 < free
may_read x kind (suc free) limit ext e = omega arith
may_read x kind zero limit ext e = search rules

-- ---- a unit is added

no_arp : (r : Read) (x : Expectation) (kind : Kind) → (arp_view r.units ≡ None) ⊎ (x.next ≡ AfterArp)
    → announced x ≡ Some kind → arp_view r.units ≡ None
no_arp r x kind (inl none) e = none
no_arp r x kind (inr over) e = let a = announced_is x kind e in let b = ap announced_next over in absurd cc

-- a link's header is the first
place_first : (r : Read) (x : Expectation) (kind : Kind) (p : FrameWindow) (free : ℕ) → Ready r x free
    → announced x ≡ Some kind → is_first kind ≡ true → (r.units ≡ [] → (p.start ≡ 0) × (p.bytes.now ≡ r.frame))
    → (r.units ≡ []) × (p.start ≡ 0) × (p.bytes.now ≡ r.frame)
place_first r x kind p free ready e first whole_frame = search rules

pub has_place : (r : Read) (x : Expectation) (bytes rest : List ℕ) (h : Header) (u : PeelUnit) (p : FrameWindow)
    (free : ℕ)
    → Ready r x free → announced x ≡ Some (kind_of h) → ShowsUnit bytes rest h u → length (exts_of r.units) + free ≡ 3
    → (r.units ≡ [] → (p.start ≡ 0) × (p.bytes.now ≡ r.frame)) → HasPlace r u p
has_place r x bytes rest (headers.Ethernet2 e) u p free ready known shows room first =
    subst (λ (v : PeelUnit). HasPlace r v p) (sym shows) (place_first r x kinds.Ethernet2 p free ready known refl first)
has_place r x bytes rest h u p free ready known shows room first = search rules

-- one extension more takes its place
room_for : (us : List PacketUnit) (u : PacketUnit) (b : Bool) (free : ℕ) → is_extension u.kind ≡ b
    → (b ≡ true → 0 < free) → length (exts_of us) + free ≡ 3
    → length (exts_of (us ++ u ∷ [])) + cond b (free - 1) free ≡ 3
room_for us u true free is more room = search (rules, filter-append, length-append)
room_for us u false free is more room = search (rules, filter-append, length-append)

empty_if : (l : List (List ℕ)) → slice_get l 0 ≡ None → l ≡ []
empty_if [] e = refl
empty_if (x ∷ l) e = absurd cc

-- what is no ARP packet adds none
still_no_arp : (us : List PacketUnit) (u : PacketUnit) → arp_view us ≡ None → arp_in u.kind u.bytes ≡ None
    → arp_view (us ++ u ∷ []) ≡ None
still_no_arp us u none other = search (rules, filter_map-append, empty_if)

arp_or_over : (h : Header) (bytes : List ℕ) → (arp_in (kind_of h) bytes ≡ None) ⊎ (next_after h ≡ AfterArp)
arp_or_over (headers.Arp a) bytes = inr refl
arp_or_over h bytes = inl refl

-- a place is the window that is left to read
pub record IsAt (s : State) (p : FrameWindow) : Type 0 where
  pub start : p.start ≡ s.offset
  pub bytes : p.bytes.now ≡ s.rest

-- a walker that has read nothing
pub gathered_first : (start : Expectation) (list : List ℕ) (s : State) (r : Read) (hs : List Header) (e : Ending)
    → start.limit ≡ Some 3 → Walk start list hs e → Faces list (whole start list) s hs e → s.over ≡ false
    → s.expected ≡ start
    → r ≡ record { frame = list; units = [] } → Gathered start list s r
unfolding under_way_first
gathered_first start list s r hs e limit walk faces going expected is =
    let none = ap (λ (k : Read). k.units) is in
    record {
      way = under_way_first start list s hs e walk faces going;
      comes_after = refl;
      values = ap (map header_of) none;
      frame = ap (λ (k : Read). k.frame) is;
      units = subst (AreUnitsAt list (whole start list) []) (sym none) tt;
      free = 3;
      room = ap (λ (us : List PacketUnit). length (exts_of us) + 3) none;
      ready = record {
        limit = ap (λ (x : Expectation). x.limit) expected ∙ limit;
        first = λ kind start_is. none;
        arp = inl (ap arp_view none);
      };
    }

-- what is known of a unit that is given: the first of the headers that are left
pub record IsNext (list : List ℕ) (w : Window) (left : List Header) (e : Ending) (s t : State)
    (u : PeelUnit) : Type 0 where
  pub given : UnitNext list w left e s t u
  pub unit : IsUnit list s.expected w given.header
  pub shows : ShowsUnit (within list w) (within list (payload w given.header)) given.header u
  pub value : unit_header u ≡ given.header

pub is_next : (list : List ℕ) (w : Window) (left : List Header) (e : Ending) (s t : State) (u : PeelUnit) → IsBytes list
    → Faces list w s left e → GivesNext list w left e s (Some (Ok u)) t → IsNext list w left e s t u
is_next list w left e s t u ok faces g =
    let n = unit_next list w left e s t u g in
    let old = subst (λ (l : List Header). Faces list w s l e) n.parts faces in
    let unit = old.stack.0 in
    let h = n.header in
    let shows =
    subst (λ (l : List ℕ). ShowsUnit l (within list (payload w h)) h u) old.rest
    (subst (λ (l : List ℕ). ShowsUnit s.rest l h u) n.faces.rest n.shows) in
    record {
      given = n;
      unit = unit;
      shows = shows;
      value =
          unit_header-shown (within list w) (within list (payload w h)) h u (IsBytes-part w.start w.finish list ok)
          unit.means shows;
    }

abbrev pub NextOf : (start : Expectation) (list : List ℕ) (s t : State) (r : Read) (u : PeelUnit)
    → Gathered start list s r → Type 0
NextOf start list s t r u a = IsNext list a.way.window a.way.left a.way.ending s t u

pub next_of : (start : Expectation) (list : List ℕ) (s t : State) (r : Read) (u : PeelUnit) → IsBytes list
    → (a : Gathered start list s r) → Gives s (Some (Ok u)) t → NextOf start list s t r u a
next_of start list s t r u ok a gives =
    let w = a.way in
    is_next list w.window w.left w.ending s t u ok w.faces (gives.next w.going list w.window w.left w.ending w.faces)

none_done : (list : List ℕ) (w : Window) (hs : List Header) (us : List PacketUnit) → AreUnitsAt list w hs us → us ≡ []
    → hs ≡ []
none_done list w [] us are none = refl
none_done list w (h ∷ hs) [] are none = absurd are
none_done list w (h ∷ hs) (u ∷ us) are none = absurd cc

-- the window of a whole list has all its bytes
pub whole_part : (frame : List ℕ) → slice_range frame 0 (length frame) ≡ frame
whole_part frame = take_all (length frame - 0) frame (omega arith)

pub fits : (start : Expectation) (list : List ℕ) (s t : State) (r : Read) (p : FrameWindow) (u : PeelUnit)
    (a : Gathered start list s r)
    → NextOf start list s t r u a → IsAt s p → HasPlace r u p
fits start list s t r p u a n at =
    let first : (r.units ≡ []) → (p.start ≡ 0) × (p.bytes.now ≡ r.frame) = λ none.
    let window : a.way.window ≡ whole start list =
    a.comes_after
    ∙ ap (window_after (whole start list)) (none_done list (whole start list) a.way.done r.units a.units none) in (
      at.start ∙ a.way.faces.offset ∙ ap (λ (w : Window). w.start) window,
      at.bytes ∙ a.way.faces.rest
          ∙ ap (within list) window ∙ whole_part list ∙ sym a.frame,
    ) in
    let w = a.way.window in
    has_place r s.expected (within list w) (within list (payload w n.given.header)) n.given.header u p a.free a.ready
    n.unit.announced n.shows a.room first

-- no row holds of a slice that none holds of in a window with a bound
unbounded : (bound : LenSource) (bytes : List ℕ) (kind : Kind) → Accepts bound bytes kind → Reads bytes kind
unbounded bound bytes kind ok r row = ok (named bound r) (bounded_row bound bytes kind r row)

part_is : (start : Expectation) (list : List ℕ) (s : State) (r : Read) (p : FrameWindow) (a : Gathered start list s r)
    → IsAt s p → p.bytes.now ≡ within list a.way.window
part_is start list s r p a at = at.bytes ∙ a.way.faces.rest

pub readable : (start : Expectation) (list : List ℕ) (s t : State) (r : Read) (p : FrameWindow) (u : PeelUnit)
    (a : Gathered start list s r)
    → NextOf start list s t r u a → IsAt s p → IsReadable (kind_read u) p
readable start list s t r p u a n at =
    let own = unbounded a.way.window.bound (within list a.way.window) (kind_of n.given.header) n.unit.accepted in
    subst (λ (l : List ℕ). Reads l (kind_read u)) (sym (part_is start list s r p a at))
    (subst (Reads (within list a.way.window)) (sym (ap kind_of n.value)) own)

-- no start is announced by a header
no_start_capture : (b : Bool) (t : ℕ) (protocol : LinuxSllProtocolType) (kind : Kind)
    → cond b (EtherType t) (Sll protocol) ≡ Start kind → ⊥
no_start_capture true t protocol kind is = cc
no_start_capture false t protocol kind is = cc

no_start_payload : (payload : PayloadType) (kind : Kind) → after_payload payload ≡ Start kind → ⊥
no_start_payload (payloads.Unmodified t) kind is = cc
no_start_payload payload kind is = cc

no_start : (h : Header) (kind : Kind) → next_after h ≡ Start kind → ⊥
no_start (headers.LinuxSll s) kind is = no_start_capture _ _ _ kind is
no_start (headers.Macsec t) kind is = no_start_payload t.payload_type kind is
no_start h kind is = cc

pub lowered_limit : (b : Bool) (limit : Option ℕ) (free : ℕ) → limit ≡ Some free
    → lowered b limit ≡ Some (cond b (free - 1) free)
lowered_limit true limit free e = ap (lowered true) e
lowered_limit false limit free e = e

pub gathered_next : (start : Expectation) (list : List ℕ) (s t : State) (r q : Read) (p : FrameWindow) (u : PeelUnit)
    (a : Gathered start list s r)
    → IsBytes list → NextOf start list s t r u a → IsAt s p → q ≡ read_with r (kind_read u) p
    → Gathered start list t q
unfolding under_way_next
gathered_next start list s t r q p u a ok n here is =
    let h = n.given.header in
    let w = a.way.window in
    let whole_list = whole start list in
    let unit : PacketUnit = unit_at (kind_read u) p in
    let kind : kind_read u ≡ kind_of h = ap kind_of n.value in
    let bytes = part_is start list s r p a here in
    let at : IsUnitAt list w h unit = record { kind = kind; offset = here.start ∙ a.way.faces.offset; bytes = bytes } in
    let value : header_of unit ≡ h =
    (λ i. header_in (kind i) (bytes i))
    ∙ header_shown (within list w) h (IsBytes-part w.start w.finish list ok) n.unit.means in
    let units : q.units ≡ r.units ++ unit ∷ [] = ap (λ (k : Read). k.units) is in
    let extends : is_extension unit.kind ≡ is_extension (kind_of h) = ap is_extension kind in
    let more =
    λ (e : is_extension (kind_of h) ≡ true).
    may_read s.expected (kind_of h) a.free a.ready.limit e n.unit.announced in
    record {
      way = under_way_next start list s t u a.way n.given;
      comes_after = ap (λ (k : Window). payload k h) a.comes_after ∙ sym (window_after-append whole_list a.way.done h);
      values = ap (map header_of) units ∙ map-append header_of r.units (unit ∷ []) ∙ (λ i. a.values i ++ value i ∷ []);
      frame = ap (λ (k : Read). k.frame) is ∙ a.frame;
      units =
          subst (AreUnitsAt list whole_list (a.way.done ++ h ∷ [])) (sym units)
          (units-append list whole_list a.way.done r.units h unit a.units
          (subst (λ (k : Window). IsUnitAt list k h unit) a.comes_after at));
      free = cond (is_extension (kind_of h)) (a.free - 1) a.free;
      room =
          ap (λ (us : List PacketUnit). length (exts_of us) + cond (is_extension (kind_of h)) (a.free - 1) a.free) units
          ∙ room_for r.units unit (is_extension (kind_of h)) a.free extends more a.room;
      ready = record {
        limit =
            ap (λ (x : Expectation). x.limit) n.given.expects
            ∙ lowered_limit (is_extension (kind_of h)) s.expected.limit a.free a.ready.limit;
        first =
            λ k start_is. absurd (no_start h k (sym (ap (λ (x : Expectation). x.next) n.given.expects) ∙ start_is));
        arp = elim (arp_or_over h unit.bytes) [
          | inl other ↦
              let before = no_arp r s.expected (kind_of h) a.ready.arp n.unit.announced in
              inl
              (ap arp_view units
              ∙ still_no_arp r.units unit before (ap (λ (k : Kind). arp_in k unit.bytes) kind ∙ other))
          | inr over ↦ inr (ap (λ (x : Expectation). x.next) n.given.expects ∙ over)
        ];
      };
    }

-- ---- fewer come after each

-- after a header that only a frame begins with
fewer_after_first : (x : Expectation) (h : Header) → announced x ≡ Some (kind_of h) → is_first (kind_of h) ≡ true
    → next_left (next_after h) ≡ 1 → is_extension (kind_of h) ≡ false → headers_left (after x h) + 1 ≤ headers_left x
fewer_after_first x h known first one other = search rules

pub fewer_left : (x : Expectation) (h : Header) (free : ℕ) → x.limit ≡ Some free → announced x ≡ Some (kind_of h)
    → headers_left (after x h) + 1 ≤ headers_left x
fewer_left x (headers.Ethernet2 e) free limit known = fewer_after_first x (headers.Ethernet2 e) known refl refl refl
fewer_left x h free limit known = search rules

pub fewer_come : (start : Expectation) (list : List ℕ) (s t : State) (r : Read) (u : PeelUnit)
    (a : Gathered start list s r)
    → NextOf start list s t r u a → headers_left t.expected + 1 ≤ headers_left s.expected
fewer_come start list s t r u a n =
    subst (λ (x : Expectation). headers_left x + 1 ≤ headers_left s.expected) (sym n.given.expects)
    (fewer_left s.expected n.given.header a.free a.ready.limit n.unit.announced)

-- ---- the end

pub is_packet : (start : Expectation) (list : List ℕ) (s t : State) (r : Read) (packet : PacketSlice)
    (met : Option PeelFault)
    → Gathered start list s r → Gives s (item_of met) t
    → packet.read ≡ r → packet.rest.now ≡ t.rest → packet.rest_offset ≡ t.offset
    → packet.rest_kind ≡ kind_shown t.expected → packet.fault ≡ met → IsPacket start list packet
is_packet start list s t r packet met a gives read rest offset kind fault = search (rules, append-nil, one_stack)

-- ---- several headers

-- so many headers came
pub record Came (n : ℕ) (old new : PacketWalk) : Type 0 where
  goes : GoesBy n old new true

pub none_came : (w : PacketWalk) → Came 0 w w
none_came w = record { goes = λ start list under. (under, omega arith) }

pub one_more : {n : ℕ} {old mid : PacketWalk} {more : Bool} → Came n old mid → (new : PacketWalk) → more ≡ true
    → GoesBy 1 mid new more → Came (n + 1) old new
one_more {more = true} came new e goes = record {
  goes =
      λ start list w.
      let before = came.goes start list w in
      let next = goes start list before.0 in
      let few = before.1 in
      let fewer = next.1 in (next.0, omega (arith, few, fewer));
}
one_more {more = false} came new e goes = absurd cc

-- then it is still under way
pub goes_on : {n : ℕ} {old new : PacketWalk} → Came n old new → IsUnderWay old → IsUnderWay new
goes_on came (start, list, w) = (start, list, (came.goes start list w).0)

-- or ends with the next one
pub ends_there : {n : ℕ} {old mid : PacketWalk} {more : Bool} → Came n old mid → (new : PacketWalk) → more ≡ false
    → GoesBy 1 mid new more → EndsAnyhow old new
ends_there {more = true} came new e goes = absurd cc
ends_there {more = false} came new e goes = λ start list w. goes start list (came.goes start list w).0

-- .. if there are no more
pub ends_within : {n : ℕ} {old mid : PacketWalk} → Came n old mid → (new : PacketWalk) (more : Bool)
    → headers_left old.peel.expected ≤ n → GoesBy 1 mid new more → EndsAnyhow old new
ends_within came new true le goes =
    λ start list w.
    let before = came.goes start list w in
    let few = before.1 in
    let fewer = (goes start list before.0).1 in absurd (omega (arith, le, few, fewer))
ends_within came new false le goes = λ start list w. goes start list (came.goes start list w).0
