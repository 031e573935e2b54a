-- The packet of a walk, and what its units as structs of C say of it.
use Rattle.std.proofs.Common.{◌≡◌, ℕ, get_or, ◌+◌, ◌-◌, ◌<◌, ◌≤◌, List, [], ◌∷◌, ◌++◌, length, take, drop, set, append_assoc, refl, sym, ap, subst, ◌∙◌, arith, Bool, true, cond, rules}
use Rattle.std.specs.Prelude.{map, max, Option, Some, None}
use Rattle.std.specs.List.{cons_option}
use Rattle.std.proofs.Math.Seq.{drop-cons, take-append_seam}
use Rattle.std.proofs.lemmas.List.{length-append, take_all}
use Rattle.std.proofs.lemmas.Bool.{eq-eqb, ne_eqb}
use Rattle.std.specs.Borrow.{Bor}
use Rattle.etherparse.specs.Bytes.{IsBytes}
use Rattle.etherparse.specs.Header.{Header, kind_of, unit_len}
use Rattle.etherparse.specs.Header as headers
use Rattle.etherparse.proofs.SubLists.{IsBytes-part}
use Rattle.ether_peel.specs.Grammar.Window.{Window, within, payload}
use Rattle.ether_peel.specs.Grammar.Expectation.{Expectation, is_extension, after}
use Rattle.ether_peel.specs.Grammar.Stack.{Ending, Stack, last_window, last_expected, whole, Walk}
use Rattle.ether_peel.specs.Grammar.Cuts.{reach}
use Rattle.ether_peel.specs.Walker.Start.{kind_shown}
use Rattle.ether_peel.specs.Walker.Summary.{fault_of, IsSummary}
use Rattle.ether_peel.specs.declared.start.Start.{Start}
use Rattle.ether_peel.specs.declared.start.Start.TheVariants as starts
use Rattle.ether_peel.specs.declared.walk_summary.Summary.{Summary}
use Rattle.ether_packet.specs.declared.packet_slice.PacketSlice.{PacketSlice}
use Rattle.ether_packet.specs.PacketUnit.{PacketUnit}
use Rattle.ether_packet.specs.Views.{header_of}
use Rattle.ether_packet.specs.Packet.{packet_start, packet_headers, AreUnitsAt, IsPacket}
use Rattle.ether_packet.specs.Gathered.{headers_left}
use Rattle.ether_packet.specs.Getters.{vid_of, vlan_ids_of}
use Rattle.ether_packet.proofs.Gathering.{may_read, fewer_left, lowered_limit}
use Rattle.ether_packet.proofs.HeadersIn.{header_shown}
use Rattle.ether_packet.proofs.Snapping.{snaps_at}
use Rattle.ether_c.specs.declared.ether_found.EtherFound.{EtherFound}
use Rattle.ether_c.specs.declared.ether_headers.EtherHeaders.{EtherHeaders}
use Rattle.ether_c.specs.declared.ether_unit.EtherUnit.{EtherUnit}
use Rattle.ether_c.specs.Units.{c_unit, c_units}
use Rattle.ether_c.specs.Numbers.{done}
use Rattle.ether_c.specs.Found.{c_summary}
use Rattle.ether_c.specs.Walk.{GivesUnits}
use Rattle.ether_c.specs.Packet.{c_ids, unit_id, unit_ids, unit_reach, units_reach, GivesPacket}
use Rattle.ether_c.proofs.UnitsGiven.{length-given}

-- ---- identifiers

unit_id-header : (w : Window) (h : Header) → unit_id (c_unit w h) ≡ vid_of h
unit_id-header w (headers.Ethernet2 e) = refl
unit_id-header w h = search rules

pub ids_of_units : (w : Window) (hs : List Header) → unit_ids (c_units w hs) ≡ vlan_ids_of hs
ids_of_units w [] = refl
ids_of_units w (h ∷ hs) = λ i. cons_option (unit_id-header w h i) (ids_of_units (payload w h) hs i)

-- ---- ends

unit_reach-header : (w : Window) (h : Header) → unit_reach (c_unit w h) ≡ w.start + unit_len h
unit_reach-header w (headers.Ethernet2 e) = omega arith
unit_reach-header w h = search rules

pub reach_of_units : (w : Window) (hs : List Header) → units_reach (c_units w hs) ≡ reach w.start hs
reach_of_units w [] = refl
reach_of_units w (h ∷ hs) = λ i. max (unit_reach-header w h i) (reach_of_units (payload w h) hs i)

-- ---- there are few

pub record AreFew (x : Expectation) (hs : List Header) (free : ℕ) : Type 0 where
  pub headers : length hs ≤ headers_left x
  pub ids : length (vlan_ids_of hs) ≤ free

fewer_ids : (x : Expectation) (h : Header) (hs : List Header) (free : ℕ)
    (more : is_extension (kind_of h) ≡ true → 0 < free)
    → length (vlan_ids_of hs) ≤ cond (is_extension (kind_of h)) (free - 1) free → length (vlan_ids_of (h ∷ hs)) ≤ free
fewer_ids x (headers.Ethernet2 e) hs free more few = few
fewer_ids x h hs free more few = search rules

pub are_few : (list : List ℕ) (x : Expectation) (w : Window) (hs : List Header) (e : Ending) (free : ℕ)
    → x.limit ≡ Some free → Stack list x w hs e → AreFew x hs free
are_few list x w [] e free limit stack = record { headers = omega arith; ids = omega arith }
are_few list x w (h ∷ hs) e free limit stack =
    let more =
    are_few list (after x h) (payload w h) hs e (cond (is_extension (kind_of h)) (free - 1) free)
    (lowered_limit (is_extension (kind_of h)) x.limit free limit) stack.1 in
    search (rules, lowered_limit, fewer_left, fewer_ids, may_read)

-- ---- the packet

abbrev units_in : List ℕ → Window → List Header → List PacketUnit
units_in list w [] = []
units_in list w (h ∷ hs) =
    record { kind = kind_of h; offset = w.start; bytes = within list w } ∷ units_in list (payload w h) hs

units_there : (list : List ℕ) (w : Window) (hs : List Header) → AreUnitsAt list w hs (units_in list w hs)
units_there list w [] = tt
units_there list w (h ∷ hs) = (record { kind = refl; offset = refl; bytes = refl }, units_there list (payload w h) hs)

units_mean : (list : List ℕ) (x : Expectation) (w : Window) (hs : List Header) (e : Ending) → IsBytes list
    → Stack list x w hs e → map header_of (units_in list w hs) ≡ hs
units_mean list x w [] e ok stack = refl
units_mean list x w (h ∷ hs) e ok stack =
    let first = header_shown (within list w) h (IsBytes-part w.start w.finish list ok) stack.0.means in
    let later = units_mean list (after x h) (payload w h) hs e ok stack.1 in
    λ i. first i ∷ later i

-- a list has a packet with the headers of its walk
pub record HasPacket (start : Expectation) (list : List ℕ) (hs : List Header) : Type 0 where
  pub packet : PacketSlice
  pub is : IsPacket start list packet
  pub headers : packet_headers packet ≡ hs

pub has_packet : (start : Expectation) (list : List ℕ) (hs : List Header) (e : Ending) → IsBytes list
    → Walk start list hs e
    → ((ks : List Header) (f : Ending) → Walk start list ks f → (ks ≡ hs) × (f ≡ e)) → Bor (List ℕ)
    → HasPacket start list hs
has_packet start list hs e ok walk one frame =
    let w = whole start list in
    let means = units_mean list start w hs e ok walk in
    record {
      packet =
          record {
            read = record { frame = list; units = units_in list w hs };
            rest = record frame { now = within list (last_window e) };
            rest_offset = (last_window e).start;
            rest_kind = kind_shown (last_expected e);
            fault = fault_of e;
          };
      is = record {
        ending = e;
        walk = subst (λ (l : List Header). Walk start list l e) (sym means) walk;
        one = λ ks f other. ((one ks f other).0 ∙ sym means, (one ks f other).1);
        frame = refl;
        units =
            subst (λ (l : List Header). AreUnitsAt list w l (units_in list w hs)) (sym means) (units_there list w hs);
        rest = refl;
        offset = refl;
        kind = refl;
        fault = refl;
      };
      headers = means;
    }

-- ---- what is asked of its units, after so many were read

pub record FactsSoFar (us : List EtherUnit) (i : ℕ) (vids : List ℕ) (vlans most : ℕ) : Type 0 where
  pub front : List ℕ
  pub ids : vids ≡ c_ids front
  pub count : vlans ≡ length front
  pub later : front ++ unit_ids (drop i us) ≡ unit_ids us
  pub reaches : max most (units_reach (drop i us)) ≡ units_reach us

max_turned : (a b c : ℕ) → max (max a b) c ≡ max b (max a c)
max_turned a b c = grind arith

id_set : (front : List ℕ) (vid : ℕ) → length front < 3
    → set (c_ids front) (length front) vid ≡ c_ids (front ++ vid ∷ [])
id_set [] vid lt = refl
id_set (a ∷ []) vid lt = refl
id_set (a ∷ b ∷ []) vid lt = refl
id_set (a ∷ b ∷ c ∷ l) vid lt = absurd (omega (arith, lt))

-- the next one, and those after it
next_unit : (us : List EtherUnit) (i : ℕ) (d : EtherUnit) → i < length us → drop i us ≡ get_or us i d ∷ drop (i + 1) us
next_unit us i d lt = search (rules, drop-cons)

next_ids : (us : List EtherUnit) (i : ℕ) (d : EtherUnit) (o : Option ℕ) → i < length us → unit_id (get_or us i d) ≡ o
    → unit_ids (drop i us) ≡ cons_option o (unit_ids (drop (i + 1) us))
next_ids us i d o lt is = search (rules, next_unit)

next_reach : (us : List EtherUnit) (i : ℕ) (d : EtherUnit) (most end total : ℕ) → i < length us
    → end ≡ unit_reach (get_or us i d)
    → max most (units_reach (drop i us)) ≡ total → max (max end most) (units_reach (drop (i + 1) us)) ≡ total
next_reach us i d most end total lt is all = search (rules, max_turned, next_unit)

-- it is a VLAN tag
pub facts_tag : (us : List EtherUnit) (i : ℕ) (vids : List ℕ) (vlans most end : ℕ) (d : EtherUnit)
    → FactsSoFar us i vids vlans most
    → i < length us → length (unit_ids us) ≤ 3 → (get_or us i d).kind ≡ 3
    → end ≡ unit_reach (get_or us i d)
    → FactsSoFar us (i + 1) (set vids vlans (get_or us i d).vlan.vid) (vlans + 1) (max end most)
facts_tag us i vids vlans most end d a lt few tag is =
    let rest = drop (i + 1) us in
    let vid = (get_or us i d).vlan.vid in
    let more : unit_ids (drop i us) ≡ vid ∷ unit_ids rest =
    next_ids us i d (Some vid) lt (ap (λ (b : Bool). cond b (Some vid) None) (eq-eqb (get_or us i d).kind 3 tag)) in
    let all : a.front ++ vid ∷ unit_ids rest ≡ unit_ids us = ap (λ (l : List ℕ). a.front ++ l) (sym more) ∙ a.later in
    let len : length (a.front ++ vid ∷ unit_ids rest) ≡ length (unit_ids us) = ap length all in
    let two : length (a.front ++ vid ∷ unit_ids rest) ≡ length a.front + length (vid ∷ unit_ids rest) =
    length-append a.front (vid ∷ unit_ids rest) in
    let count = a.count in
    search (rules, id_set, length-append, append_assoc, next_reach)

-- it is none
pub facts_other : (us : List EtherUnit) (i : ℕ) (vids : List ℕ) (vlans most end : ℕ) (d : EtherUnit)
    → FactsSoFar us i vids vlans most
    → i < length us → ((get_or us i d).kind ≡ 3 → ⊥) → end ≡ unit_reach (get_or us i d)
    → FactsSoFar us (i + 1) vids vlans (max end most)
facts_other us i vids vlans most end d a lt other is =
    let vid = (get_or us i d).vlan.vid in
    let more : unit_ids (drop i us) ≡ unit_ids (drop (i + 1) us) =
    next_ids us i d None lt (ap (λ (b : Bool). cond b (Some vid) None) (ne_eqb (get_or us i d).kind 3 other)) in
    search (rules, next_reach)

-- ---- the units of a packet

few_left : (start : Start) → headers_left (packet_start start) ≤ 5
few_left starts.Ethernet2 = omega arith
few_left starts.Ethernet2Fcs = omega arith
few_left starts.LinuxSll = omega arith
few_left (starts.EtherType t) = omega arith

abbrev pub FewOf : Start → List Header → Type 0
FewOf start hs = AreFew (packet_start start) hs 3

pub few_of : (start : Start) (list : List ℕ) (old new : List EtherUnit) (count : ℕ)
    (g : GivesUnits (packet_start start) list old new count) → FewOf start g.headers
few_of start list old new count g = search (rules, are_few)

pub few_units : (start : Start) (list : List ℕ) (old new : List EtherUnit) (count : ℕ)
    → GivesUnits (packet_start start) list old new count → count ≤ 5
few_units start list old new count g =
    let few = (few_of start list old new count g).headers in
    let most = few_left start in
    let counted = g.counted in
    omega (arith, few, most, counted)

pub units_are : (start : Start) (list : List ℕ) (old new : List EtherUnit) (count : ℕ)
    (g : GivesUnits (packet_start start) list old new count) → length old ≡ 5
    → take count new ≡ c_units (whole (packet_start start) list) g.headers
units_are start list old new count g five =
    let all = c_units (whole (packet_start start) list) g.headers in
    let len : count ≡ length all = g.counted ∙ sym (length-given (whole (packet_start start) list) g.headers) in
    let few = few_units start list old new count g in
    let fit : take (length old) all ≡ all = take_all (length old) all (omega (arith, len, few, five)) in
    (λ i. take (len i) (g.units i)) ∙ ap (λ (l : List EtherUnit). take (length all) (l ++ drop count old)) fit
    ∙ take-append_seam all (drop count old)

pub few_ids : (start : Start) (list : List ℕ) (old new : List EtherUnit) (count : ℕ)
    (g : GivesUnits (packet_start start) list old new count) → length old ≡ 5 → length (unit_ids (take count new)) ≤ 3
few_ids start list old new count g five =
    let few = (few_of start list old new count g).ids in
    subst (λ (l : List ℕ). length l ≤ 3)
    (sym (ap unit_ids (units_are start list old new count g five) ∙ ids_of_units _ g.headers)) few

-- what the call gives
pub gives_packet : (start : Start) (list : List ℕ) (frame : Bor (List ℕ)) (old : List EtherUnit) (new : EtherHeaders)
    (found : Summary) (status : ℕ) (g : GivesUnits (packet_start start) list old new.units found.units)
    → IsBytes list → IsSummary (packet_start start) list found → length old ≡ 5
    → status ≡ done → new.found ≡ c_summary found
    → new.vlan_ids ≡ c_ids (unit_ids (take found.units new.units))
    → new.vlan_count ≡ length (unit_ids (take found.units new.units))
    → new.min_snap_len ≡ units_reach (take found.units new.units)
    → GivesPacket start list old new status
gives_packet start list frame old new found status g ok summary five status_is found_is ids count snap =
    let x = packet_start start in
    let has = has_packet x list g.headers g.ending ok g.walk g.one frame in
    let units = units_are start list old new.units found.units g five in
    let vids : unit_ids (take found.units new.units) ≡ vlan_ids_of (packet_headers has.packet) =
    ap unit_ids units ∙ ids_of_units (whole x list) g.headers ∙ ap vlan_ids_of (sym has.headers) in
    let reaches =
    snap ∙ ap units_reach units ∙ reach_of_units (whole x list) g.headers ∙ ap (reach 0) (sym has.headers) in
    record {
      packet = has.packet;
      is = has.is;
      units =
          subst (λ (f : EtherFound). GivesUnits x list old new.units f.units) (sym found_is) g;
      found = record { found = found; summary = summary; is_given = found_is; status_is = status_is };
      ids = ids ∙ ap c_ids vids;
      id_count = count ∙ ap length vids;
      snap = reaches;
      least = snaps_at has.packet new.min_snap_len reaches;
    }
