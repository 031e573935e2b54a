-- A VLAN tag that is changed in place.
use Rattle.std.proofs.Common.{◌≡◌, ℕ, ◌-◌, ◌<◌, ◌≤◌, List, [], ◌∷◌, ◌++◌, sym, ap, subst, ◌∙◌, arith, append_assoc, true, rules}
use Rattle.etherparse.specs.LinkExt.{ext_header_view}
use Rattle.etherparse.specs.Bytes.{IsBytes, spelled, overwritten}
use Rattle.etherparse.specs.Macsec.{SecTagValue}
use Rattle.etherparse.specs.Vlan.{VlanValue, FitsVlan, is_vlan_ether_type, vlan_bytes, vlan_view}
use Rattle.etherparse.specs.Header.{Header}
use Rattle.etherparse.specs.Header as headers
use Rattle.ether_peel.specs.Grammar.Expectation.{Expectation}
use Rattle.ether_peel.specs.Grammar.Places.{place}
use Rattle.ether_peel.specs.Grammar.Stack.{Ending, Walk}
use Rattle.ether_peel.proofs.Grammar.Places.{place-append}
use Rattle.ether_peel.proofs.Grammar.Windows.{header_least}
use Rattle.ether_packet.specs.declared.finding.PlacedExt.{PlacedExt}
use Rattle.ether_packet.specs.declared.setting.PlacedVlan.{PlacedVlan}
use Rattle.ether_packet.specs.declared.tag_error.TagError.TheVariants as errors
use Rattle.ether_packet.specs.Replacing.{ext_count, IsExtAt, IsPlacedExt}
use Rattle.ether_packet.specs.Setting.{IsPlacedVlan, SetsTag, RefusesTag, none, sec_tag, SetsTpid, RefusesTpid, unannounced}
use Rattle.ether_packet.proofs.Retyped.{retyped_walk}
use Rattle.ether_packet.proofs.Replaced.{replaced_walk}

-- ---- how it is found

-- .. a SecTag
pub is_sec_tag : (hs : List Header) (i : ℕ) (found : PlacedExt) (m : SecTagValue)
    → IsPlacedExt hs i found → headers.Macsec m ≡ ext_header_view found.header → RefusesTag hs i errors.NoVlan
is_sec_tag hs i found m p value =
    sec_tag p.front m p.later (subst (λ (h : Header). IsExtAt hs i p.front h p.later) (sym value) p.found)

pub no_ext : (hs : List Header) (i n : ℕ) → (n ≡ ext_count hs) × (n ≤ i) → RefusesTag hs i (errors.NoLinkExt n)
no_ext hs i n past =
    subst (λ (k : ℕ). RefusesTag hs i (errors.NoLinkExt k)) (sym past.0)
    (none (subst (λ (k : ℕ). k ≤ i) past.0 past.1))

-- ---- the tag

pub is_set : (start : Expectation) (old new : List ℕ) (hs : List Header) (e : Ending) (i : ℕ) (f : PlacedVlan)
    (change : VlanValue → VlanValue)
    → IsPlacedVlan hs i f → FitsVlan (change (vlan_view f.tag))
    → (change (vlan_view f.tag)).ether_type ≡ (vlan_view f.tag).ether_type
    → new ≡ overwritten old f.at (vlan_bytes (change (vlan_view f.tag))) → Walk start old hs e
    → SetsTag start old hs e i change new
is_set start old new hs e i f change p fits same bytes walk =
    let g = headers.Vlan (change (vlan_view f.tag)) in
    let same_place = bytes ∙ ap (λ (n : ℕ). overwritten old n (vlan_bytes (change (vlan_view f.tag)))) p.begins in
    let split = subst (λ (l : List Header). Walk start old l e) p.found.parts walk in
    record {
      front = p.front;
      tag = vlan_view f.tag;
      later = p.later;
      found = p.found;
      bytes = same_place;
      walk =
          subst (λ (l : List ℕ). Walk start l (p.front ++ g ∷ p.later) e) (sym same_place)
          (replaced_walk start old p.front (headers.Vlan (vlan_view f.tag)) g p.later e same fits tt split);
    }

-- ---- what announces it

-- a list of headers is empty, or has a last one
data Last : List Header → Type 0 where
  nothing : Last []
  last : (front : List Header) (h : Header) → Last (front ++ h ∷ [])

last_after : (h : Header) (hs : List Header) → Last hs → Last (h ∷ hs)
last_after h hs nothing = last [] h
last_after h hs (last front k) = last (h ∷ front) k

last_of : (hs : List Header) → Last hs
last_of [] = nothing
last_of (h ∷ hs) = last_after h hs (last_of hs)

place_past : (front : List Header) (h : Header) → 4 ≤ place 0 (front ++ h ∷ [])
place_past front h = search (rules, place-append, header_least)

none_before : (hs : List Header) (i t : ℕ) (v : VlanValue) (front later : List Header) → Last front
    → is_vlan_ether_type t ≡ true → place 0 front < 2 → IsExtAt hs i front (headers.Vlan v) later
    → RefusesTpid hs i t errors.Unannounced
none_before hs i t v front later nothing announces lt found = unannounced v later announces found
none_before hs i t v front later (last k h) announces lt found =
    let le = place_past k h in absurd (omega (arith, le, lt))

pub begins_frame : (hs : List Header) (i t : ℕ) (f : PlacedVlan) → is_vlan_ether_type t ≡ true → f.at < 2
    → IsPlacedVlan hs i f → RefusesTpid hs i t errors.Unannounced
begins_frame hs i t f announces lt p =
    none_before hs i t (vlan_view f.tag) p.front p.later (last_of p.front) announces
    (subst (λ (n : ℕ). n < 2) p.begins lt) p.found

retyped_last : (start : Expectation) (old new : List ℕ) (hs : List Header) (e : Ending) (i t at : ℕ) (v : VlanValue)
    (front later : List Header)
    → IsBytes old → Last front → is_vlan_ether_type t ≡ true → 2 ≤ at → at ≡ place 0 front
    → IsExtAt hs i front (headers.Vlan v) later
    → new ≡ overwritten old (at - 2) (spelled 2 t) → Walk start old hs e → SetsTpid start old hs e i t new
retyped_last start old new hs e i t at v front later ok nothing announces le begins found bytes walk =
    absurd (omega arith)
retyped_last start old new hs e i t at v front later ok (last k h) announces le begins found bytes walk =
    search (rules, place-append, place_past, append_assoc, retyped_walk)

pub is_retyped : (start : Expectation) (old new : List ℕ) (hs : List Header) (e : Ending) (i t : ℕ) (f : PlacedVlan)
    → IsBytes old → is_vlan_ether_type t ≡ true → 2 ≤ f.at → IsPlacedVlan hs i f
    → new ≡ overwritten old (f.at - 2) (spelled 2 t) → Walk start old hs e → SetsTpid start old hs e i t new
is_retyped start old new hs e i t f ok announces le p bytes walk = search (rules, retyped_last, last_of)
