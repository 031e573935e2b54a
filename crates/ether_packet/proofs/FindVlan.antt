-- The outermost VLAN tag with an identifier, header by header.
use Rattle.std.proofs.Common.{◌≡◌, ◌≢◌, ℕ, ◌+◌, List, [], ◌∷◌, ◌++◌, refl, sym, ap, subst, ◌∙◌, rules}
use Rattle.std.specs.Prelude.{Option, Some, Result, Ok}
use Rattle.std.specs.List.{All}
use Rattle.std.proofs.lemmas.List.Elements.{All-nil, All-cons, All-head, All-tail, All-append, filter_map-append}
use Rattle.etherparse.specs.Bytes.{IsBytes}
use Rattle.etherparse.specs.Header.{Header}
use Rattle.etherparse.specs.Header as headers
use Rattle.etherparse.specs.Vlan.{VlanValue, vlan_view}
use Rattle.ether_peel.specs.Grammar.Expectation.{Expectation}
use Rattle.ether_peel.specs.Grammar.Stack.{Ending, Walk}
use Rattle.ether_peel.specs.Walker.State.{State}
use Rattle.ether_peel.specs.Walker.Next.{begun, FacesWalk, Gives}
use Rattle.ether_peel.specs.Walker.UnitHeader.{unit_header}
use Rattle.ether_peel.specs.declared.peel_unit.PeelUnit.{PeelUnit}
use Rattle.ether_peel.specs.declared.peel_fault.PeelFault.{PeelFault}
use Rattle.ether_peel.proofs.Walker.UnderWay.{under_way_first, passes, passes_header, under_way_next, NoUnit}
use Rattle.ether_packet.specs.declared.setting.PlacedVlan.{PlacedVlan}
use Rattle.ether_packet.specs.Getters.{vid_of, vlan_ids_of}
use Rattle.ether_packet.specs.Replacing.{ext_count, IsExtAt}
use Rattle.ether_packet.specs.Setting.{IsPlacedVlan, LacksVlan, FindsVlan}
use Rattle.ether_packet.proofs.Reached.{Reached, reached_first, reached_unit, reached_ext, reached_end}
use Rattle.ether_packet.proofs.VlanIds.{one_ext, same_vlan}

-- ---- headers without the tag

abbrev ids_other : (vid : ℕ) → List ℕ → Type 0
ids_other vid ids = All (λ (id : ℕ). id ≢ vid) ids

pub lacks_append : (hs ks : List Header) (vid : ℕ) → LacksVlan hs vid → LacksVlan ks vid → LacksVlan (hs ++ ks) vid
lacks_append hs ks vid none other =
    subst (ids_other vid) (sym (filter_map-append vid_of hs ks))
    (All-append (λ (id : ℕ). id ≢ vid) (vlan_ids_of hs) (vlan_ids_of ks) none other)

-- another identifier
pub lacks_tag : (v : VlanValue) (vid : ℕ) → v.vid ≢ vid → LacksVlan (headers.Vlan v ∷ []) vid
lacks_tag v vid other = All-cons (λ (id : ℕ). id ≢ vid) v.vid [] other (All-nil (λ (id : ℕ). id ≢ vid))

-- ---- a walk

-- no header that was returned has the identifier
pub record Passed (start : Expectation) (list : List ℕ) (s : State) (vid i : ℕ) : Type 0 where
  pub reached : Reached start list s i
  pub lacks : LacksVlan reached.way.done vid

pub passed_first : (start : Expectation) (list : List ℕ) (s : State) (vid : ℕ) → s ≡ begun start list
    → FacesWalk start list s → Passed start list s vid 0
unfolding under_way_first
passed_first start list s vid is w =
    record { reached = reached_first start list s is w; lacks = All-nil (λ (id : ℕ). id ≢ vid) }

-- a header without the identifier
pub passed_unit : (start : Expectation) (list : List ℕ) (s t : State) (vid i : ℕ) (u : PeelUnit)
    → IsBytes list → Passed start list s vid i → Gives s (Some (Ok u)) t → LacksVlan (unit_header u ∷ []) vid
    → Passed start list t vid (i + ext_count (unit_header u ∷ []))
unfolding under_way_next
passed_unit start list s t vid i u ok p gives other =
    let way = p.reached.way in
    let n = passes start list s t u way gives in
    let same = passes_header start list s t u way n ok in
    record {
      reached = reached_unit start list s t i u ok p.reached gives;
      lacks =
          subst (λ (h : Header). LacksVlan (way.done ++ h ∷ []) vid) same
          (lacks_append way.done (unit_header u ∷ []) vid p.lacks other);
    }

-- the tag
pub passed_tag : (start : Expectation) (list : List ℕ) (s t : State) (hs : List Header) (e : Ending) (vid i : ℕ)
    (u : PeelUnit) (f : PlacedVlan)
    → IsBytes list → Passed start list s vid i → Gives s (Some (Ok u)) t → Walk start list hs e
    → unit_header u ≡ headers.Vlan (vlan_view f.tag) → (vlan_view f.tag).vid ≡ vid → f.at ≡ s.offset
    → FindsVlan hs vid i × IsPlacedVlan hs i f
passed_tag start list s t hs e vid i u f ok p gives walk is has at =
    let h = headers.Vlan (vlan_view f.tag) in
    let r = reached_ext start list s t hs e i u h ok p.reached gives walk is refl in
    let begins = at ∙ p.reached.way.faces.offset ∙ p.reached.begins in search rules

-- no unit is returned
pub passed_end : (start : Expectation) (list : List ℕ) (s t : State) (o : Option (Result PeelUnit PeelFault))
    (hs : List Header) (e : Ending) (vid i : ℕ) → NoUnit o → Passed start list s vid i → Gives s o t
    → Walk start list hs e → LacksVlan hs vid
passed_end start list s t o hs e vid i none p gives walk =
    subst (λ (l : List Header). LacksVlan l vid)
    (sym (reached_end start list s t o i hs e none p.reached gives walk).0) p.lacks

-- ---- there is one

lacks_tail : (h : Header) (hs : List Header) (vid : ℕ) → LacksVlan (h ∷ hs) vid → LacksVlan hs vid
lacks_tail (headers.Vlan v) hs vid none = All-tail (λ (id : ℕ). id ≢ vid) v.vid (vlan_ids_of hs) none
lacks_tail h hs vid none = none

-- a tag with the identifier is not among headers without it
tag_apart : (front : List Header) (v : VlanValue) (later : List Header) (vid : ℕ) → v.vid ≡ vid
    → LacksVlan (front ++ headers.Vlan v ∷ later) vid → ⊥
tag_apart [] v later vid has none = All-head (λ (id : ℕ). id ≢ vid) v.vid (vlan_ids_of later) none has
tag_apart (h ∷ front) v later vid has none =
    tag_apart front v later vid has (lacks_tail h (front ++ headers.Vlan v ∷ later) vid none)

pub found_or_lacking : (hs : List Header) (vid i : ℕ) → FindsVlan hs vid i → LacksVlan hs vid → ⊥
found_or_lacking hs vid i f none =
    tag_apart f.front f.tag f.later vid f.has (subst (λ (l : List Header). LacksVlan l vid) f.found.parts none)

same_front : (front other : List Header) (v w : VlanValue) (later more : List Header) (vid : ℕ)
    → front ++ headers.Vlan v ∷ later ≡ other ++ headers.Vlan w ∷ more → v.vid ≡ vid → w.vid ≡ vid
    → LacksVlan front vid → LacksVlan other vid → front ≡ other
same_front [] [] v w later more vid e has holds a b = refl
same_front [] (y ∷ ys) v w later more vid e has holds a b =
    let first : y ≡ headers.Vlan v = cc in
    absurd (tag_apart [] v ys vid has (subst (λ (h : Header). LacksVlan (h ∷ ys) vid) first b))
same_front (x ∷ xs) [] v w later more vid e has holds a b =
    let first : x ≡ headers.Vlan w = cc in
    absurd (tag_apart [] w xs vid holds (subst (λ (h : Header). LacksVlan (h ∷ xs) vid) first a))
same_front (x ∷ xs) (y ∷ ys) v w later more vid e has holds a b =
    let first : x ≡ y = cc in
    let rest : xs ++ headers.Vlan v ∷ later ≡ ys ++ headers.Vlan w ∷ more = cc in
    let same = same_front xs ys v w later more vid rest has holds (lacks_tail x xs vid a) (lacks_tail y ys vid b) in
    λ i. first i ∷ same i

pub found_once : (hs : List Header) (vid i j : ℕ) → FindsVlan hs vid i → FindsVlan hs vid j → i ≡ j
found_once hs vid i j f g =
    sym f.found.before
    ∙ ap ext_count
    (same_front f.front g.front f.tag g.tag f.later g.later vid (sym f.found.parts ∙ g.found.parts) f.has g.has
    f.outermost g.outermost)
    ∙ g.found.before

-- the VLAN tag at an index is one
pub tag_once : (hs : List Header) (i : ℕ) (front other : List Header) (v w : VlanValue) (later more : List Header)
    → IsExtAt hs i front (headers.Vlan v) later → IsExtAt hs i other (headers.Vlan w) more
    → (front ≡ other) × (v ≡ w)
tag_once hs i front other v w later more f g =
    let same = one_ext hs i front other (headers.Vlan v) (headers.Vlan w) later more f g in
    (same.0, same_vlan v w same.1)
