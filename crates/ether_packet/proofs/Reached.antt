-- The header that a walk reaches, by how many extensions it has passed.
use Rattle.std.proofs.Common.{◌≡◌, ℕ, ◌+◌, ◌≤◌, List, [], ◌∷◌, ◌++◌, length, arith, append-nil, true, refl, sym, ap, ◌∙◌, rules}
use Rattle.std.specs.Prelude.{Option, Some, Result, Ok}
use Rattle.etherparse.specs.LinkExt.{ext_header_view}
use Rattle.etherparse.specs.Types.LinkExtHeader.{LinkExtHeader}
use Rattle.etherparse.specs.Types.LinkExtHeader.TheVariants as values
use Rattle.etherparse.specs.Bytes.{IsBytes}
use Rattle.etherparse.specs.Header.{Header, kind_of, header_len}
use Rattle.etherparse.specs.Header as headers
use Rattle.ether_peel.specs.Grammar.Expectation.{Expectation, is_extension}
use Rattle.ether_peel.specs.Grammar.Places.{place}
use Rattle.ether_peel.specs.Grammar.Stack.{Ending, Walk}
use Rattle.ether_peel.specs.Walker.State.{State}
use Rattle.ether_peel.specs.Walker.Next.{begun, FacesWalk, Gives}
use Rattle.ether_peel.specs.Walker.UnitHeader.{unit_header}
use Rattle.ether_peel.specs.declared.peel_unit.PeelUnit.{PeelUnit}
use Rattle.ether_peel.specs.declared.peel_fault.PeelFault.{PeelFault}
use Rattle.ether_peel.proofs.Grammar.Places.{place-append}
use Rattle.ether_peel.proofs.Grammar.Windows.{header_least}
use Rattle.ether_peel.proofs.Walker.UnderWay.{UnderWay, under_way_first, passes, passes_unit, passes_header, under_way_next, only, stops, NoUnit}
use Rattle.ether_packet.specs.declared.finding.PlacedExt.{PlacedExt}
use Rattle.ether_packet.specs.Replacing.{ext_count, IsExtAt, IsPlacedExt}
use Rattle.ether_packet.proofs.PacketExts.{ext_count-append}
use Rattle.ether_packet.proofs.Replaced.{header_inside}
use Rattle.ether_packet.proofs.VlanIds.{counted}

-- a walk under way that has returned i extensions
pub record Reached (start : Expectation) (list : List ℕ) (s : State) (i : ℕ) : Type 0 where
  pub way : UnderWay start list s
  pub begins : way.window.start ≡ place 0 way.done
  pub count : ext_count way.done ≡ i

abbrev pub reached_first : (start : Expectation) (list : List ℕ) (s : State) → s ≡ begun start list
    → FacesWalk start list s → Reached start list s 0
unfolding under_way_first
reached_first start list s is w = record {
  way = under_way_first start list s w.headers w.ending w.walk w.faces (ap (λ (k : State). k.over) is);
  begins = refl;
  count = refl;
}

-- one header more
abbrev pub reached_unit : (start : Expectation) (list : List ℕ) (s t : State) (i : ℕ) (u : PeelUnit)
    → IsBytes list → Reached start list s i → Gives s (Some (Ok u)) t
    → Reached start list t (i + ext_count (unit_header u ∷ []))
unfolding under_way_next
reached_unit start list s t i u ok r gives =
    let way = r.way in
    let p = passes start list s t u way gives in
    let h = p.header in
    let count = ext_count-append way.done (h ∷ []) in
    let before = r.count in
    let same = ap (λ (k : Header). ext_count (k ∷ [])) (passes_header start list s t u way p ok) in
    record {
      way = under_way_next start list s t u way p;
      begins = ap (λ (k : ℕ). k + header_len h) r.begins ∙ sym (place-append 0 way.done (h ∷ []));
      count = omega (arith, count, before, same);
    }

-- the extension at the index
pub record IsReached (hs : List Header) (i : ℕ) (done : List Header) (h : Header) : Type 0 where
  pub later : List Header
  pub found : IsExtAt hs i done h later

pub reached_ext : (start : Expectation) (list : List ℕ) (s t : State) (hs : List Header) (e : Ending) (i : ℕ)
    (u : PeelUnit) (h : Header) → IsBytes list → (r : Reached start list s i) → Gives s (Some (Ok u)) t
    → Walk start list hs e → unit_header u ≡ h → is_extension (kind_of h) ≡ true → IsReached hs i r.way.done h
reached_ext start list s t hs e i u h ok r gives walk is extension =
    let way = r.way in
    let p = passes start list s t u way gives in
    let same : p.header ≡ h = sym (passes_header start list s t u way p ok) ∙ is in
    let parts : hs ≡ way.done ++ h ∷ p.later =
    (only start list s way hs e walk).0 ∙ ap (λ (l : List Header). way.done ++ l) p.parts
    ∙ ap (λ (k : Header). way.done ++ k ∷ p.later) same in
    record { later = p.later; found = record { parts = parts; extension = extension; before = r.count } }

pub is_ext_header : (x : LinkExtHeader) → is_extension (kind_of (ext_header_view x)) ≡ true
is_ext_header (values.Vlan h) = refl
is_ext_header (values.Macsec h) = refl

pub one_counted : (x : LinkExtHeader) (h : Header) → h ≡ ext_header_view x → ext_count (h ∷ []) ≡ 1
one_counted (values.Vlan v) h is = ap (λ (k : Header). ext_count (k ∷ [])) is
one_counted (values.Macsec m) h is = ap (λ (k : Header). ext_count (k ∷ [])) is

pub placed_ext : (start : Expectation) (list : List ℕ) (s t : State) (hs : List Header) (e : Ending) (i : ℕ)
    (u : PeelUnit) (f : PlacedExt) → IsBytes list → Reached start list s i → Gives s (Some (Ok u)) t
    → Walk start list hs e → unit_header u ≡ ext_header_view f.header → f.at ≡ s.offset → IsPlacedExt hs i f
placed_ext start list s t hs e i u f ok r gives walk is at =
    let found =
    reached_ext start list s t hs e i u (ext_header_view f.header) ok r gives walk is (is_ext_header f.header) in
    record {
      front = r.way.done;
      later = found.later;
      found = found.found;
      begins = at ∙ r.way.faces.offset ∙ r.begins;
    }

-- .. lies in the list
pub ext_room : (start : Expectation) (list : List ℕ) (hs : List Header) (e : Ending) (i : ℕ) (f : PlacedExt)
    → Walk start list hs e → IsPlacedExt hs i f → f.at + header_len (ext_header_view f.header) ≤ length list
ext_room start list hs e i f walk p = search (rules, header_inside)

-- no unit is returned
pub reached_end : (start : Expectation) (list : List ℕ) (s t : State) (o : Option (Result PeelUnit PeelFault)) (i : ℕ)
    (hs : List Header) (e : Ending) → NoUnit o → (r : Reached start list s i) → Gives s o t → Walk start list hs e
    → (hs ≡ r.way.done) × (i ≡ ext_count hs)
reached_end start list s t o i hs e none r gives walk =
    let way = r.way in
    let end = stops start list s t o way none gives in
    let is : hs ≡ way.done =
    (only start list s way hs e walk).0 ∙ ap (λ (l : List Header). way.done ++ l) end.none_left
    ∙ append-nil way.done in
    (is, sym (ap ext_count is ∙ r.count))

-- ---- the index

ext_least : (at : ℕ) (hs : List Header) → at + ext_count hs ≤ place at hs
ext_least at [] = omega arith
ext_least at (h ∷ hs) =
    let rest = ext_least (at + header_len h) hs in
    let one = counted_most h in
    let least = header_least h in
    omega (arith, rest, one, least)
  where
    counted_most : (h : Header) → counted h ≤ 1
    counted_most (headers.Ethernet2 e) = omega arith
    counted_most (headers.Ethernet2Fcs e) = omega arith
    counted_most (headers.LinuxSll s) = omega arith
    counted_most (headers.Vlan v) = omega arith
    counted_most (headers.Macsec m) = omega arith
    counted_most (headers.Arp a) = omega arith

-- there are no more extensions than bytes
pub index_inside : (start : Expectation) (list : List ℕ) (s t : State) (i : ℕ) (u : PeelUnit) → IsBytes list
    → Reached start list s i → Gives s (Some (Ok u)) t → i + ext_count (unit_header u ∷ []) ≤ s.offset + length s.rest
index_inside start list s t i u ok r gives =
    let way = r.way in
    let p = passes start list s t u way gives in
    let h = p.header in
    let same = ap (λ (k : Header). ext_count (k ∷ [])) (passes_header start list s t u way p ok) in
    let before = ext_least 0 way.done in
    let here = ext_least 0 (h ∷ []) in
    let at = way.faces.offset in
    let begins = r.begins in
    let count = r.count in
    let whole = (passes_unit start list s t u way p).means.whole in
    omega (arith, same, before, here, at, begins, count, whole, ap length way.faces.rest)
