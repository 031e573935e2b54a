-- What is found among the headers of a packet, extension by extension.
use Rattle.std.proofs.Common.{◌≡◌, ℕ, suc, ◌+◌, ◌<◌, ◌≤◌, List, [], ◌∷◌, ◌++◌, length, take, drop, refl, sym, ap, subst, ◌∙◌, arith, inl, inr, Bool, true, false, rules}
use Rattle.std.specs.Prelude.{map, slice_get, Option, Some, None}
use Rattle.std.specs.List.{filter_map, cons_option}
use Rattle.std.specs.Option.{option_and_then}
use Rattle.std.proofs.Math.Seq.{take-suc}
use Rattle.std.proofs.lemmas.List.{length-append, take-append-drop, take_all}
use Rattle.std.proofs.lemmas.List.Elements.{filter_map-append}
use Rattle.std.proofs.lemmas.Option.{slice_get_cases, slice_get_within, get_or_from_slice_get}
use Rattle.etherparse.specs.Kind.{Kind}
use Rattle.etherparse.specs.Kind as kinds
use Rattle.etherparse.specs.Types.EtherPayloadSlice.{EtherPayloadSlice}
use Rattle.etherparse.specs.Types.LinkSlice.{LinkSlice}
use Rattle.etherparse.specs.Types.MacsecSlice.{MacsecSlice}
use Rattle.etherparse.specs.Types.VlanSlice.TheVariants as tags
use Rattle.etherparse.specs.Vlan.{vlan_of}
use Rattle.ether_peel.specs.Grammar.Expectation.{is_extension}
use Rattle.ether_packet.specs.declared.packet_ext.PacketExt.{PacketExt}
use Rattle.ether_packet.specs.PacketUnit.{PacketUnit}
use Rattle.ether_packet.specs.Views.{header_in, header_of, exts_of, vlan_in, vlan_of_unit, macsec_in, macsec_of_unit, ViewsSecTagIf, ViewsExt, ViewsExtIf, ViewsExts}
use Rattle.ether_packet.specs.Getters.{vid_of, vlan_ids_of, vlans_of, first_tags, sec_tags_of, HoldsPayload}
use Rattle.ether_packet.proofs.Places.{is_ext, missing_past}

-- ---- among the extensions

pub ext_kept : (u : PacketUnit) (us : List PacketUnit) → is_ext u ≡ true → exts_of (u ∷ us) ≡ u ∷ exts_of us
ext_kept u us e = rw e refl

pub other_dropped : (u : PacketUnit) (us : List PacketUnit) → is_ext u ≡ false → exts_of (u ∷ us) ≡ exts_of us
other_dropped u us e = rw e refl

-- what is found in extensions only
abbrev pub InExts : {X : Type 0} → (PacketUnit → Option X) → Type 0
InExts f = (u : PacketUnit) → is_ext u ≡ false → f u ≡ None

found_cons : {X : Type 0} (f : PacketUnit → Option X) (u : PacketUnit) (us : List PacketUnit) (b : Bool) → InExts f
    → is_ext u ≡ b → filter_map f us ≡ filter_map f (exts_of us)
    → filter_map f (u ∷ us) ≡ filter_map f (exts_of (u ∷ us))
found_cons f u us true only e more = ap (cons_option (f u)) more ∙ ap (filter_map f) (sym (ext_kept u us e))
found_cons f u us false only e more =
    ap (λ r. cons_option r (filter_map f us)) (only u e) ∙ more ∙ ap (filter_map f) (sym (other_dropped u us e))

-- is found among these
found_in : {X : Type 0} (f : PacketUnit → Option X) (us : List PacketUnit) → InExts f
    → filter_map f us ≡ filter_map f (exts_of us)
found_in f [] only = refl
found_in f (u ∷ us) only = found_cons f u us (is_ext u) only refl (found_in f us only)

no_tag : (k : Kind) (bytes : List ℕ) → is_extension k ≡ false → (vlan_in k bytes ≡ None) × (macsec_in k bytes ≡ None)
no_tag kinds.Vlan bytes e = absurd cc
no_tag kinds.Macsec bytes e = absurd cc
no_tag k bytes e = (refl, refl)

pub vlans_found : (us : List PacketUnit) → vlans_of us ≡ vlans_of (exts_of us)
vlans_found us = found_in vlan_of_unit us (λ u e. (no_tag u.kind u.bytes e).0)

pub sec_tags_found : (us : List PacketUnit) → sec_tags_of us ≡ sec_tags_of (exts_of us)
sec_tags_found us = found_in macsec_of_unit us (λ u e. (no_tag u.kind u.bytes e).1)

-- ---- one extension more

take_next : (us : List PacketUnit) (i : ℕ) (u : PacketUnit) → slice_get us i ≡ Some u
    → take (i + 1) us ≡ take i us ++ u ∷ []
take_next us i u at =
    let e : i + 1 ≡ suc i = omega arith in
    ap (λ (n : ℕ). take n us) e ∙ take-suc us i u (slice_get_within us i u at)
    ∙ ap (λ (v : PacketUnit). take i us ++ v ∷ []) (get_or_from_slice_get us i u u at)

-- what was found so far, and what the extension at an index adds
pub found_next : {X : Type 0} (f : PacketUnit → Option X) (us : List PacketUnit) (i : ℕ) (r : Option X) → i < length us
    → r ≡ option_and_then f (slice_get us i)
    → filter_map f (take (i + 1) us) ≡ filter_map f (take i us) ++ cons_option r []
found_next f us i r lt is =
    elim ((slice_get_cases us i).1) [
      | inl w ↦
          ap (filter_map f) (take_next us i w.0 w.2) ∙ filter_map-append f (take i us) (w.0 ∷ [])
          ∙ ap (λ o. filter_map f (take i us) ++ cons_option o []) (sym (is ∙ ap (option_and_then f) w.2))
      | inr w ↦ let le = w.0 in absurd (omega (arith, lt, le))
    ]

-- and then the others
pub found_at : {X : Type 0} (f : PacketUnit → Option X) (us : List PacketUnit) (i : ℕ) (r : Option X) → i < length us
    → r ≡ option_and_then f (slice_get us i)
    → filter_map f us ≡ filter_map f (take i us) ++ cons_option r [] ++ filter_map f (drop (i + 1) us)
found_at f us i r lt is =
    ap (filter_map f) (sym (take-append-drop (i + 1) us)) ∙ filter_map-append f (take (i + 1) us) (drop (i + 1) us)
    ∙ ap (λ l. l ++ filter_map f (drop (i + 1) us)) (found_next f us i r lt is)

pub found_all : {X : Type 0} (f : PacketUnit → Option X) (us : List PacketUnit) (n : ℕ) → length us ≤ n
    → filter_map f (take n us) ≡ filter_map f us
found_all f us n past = ap (filter_map f) (take_all n us past)

-- ---- VLAN tags

-- the VLAN tags of the first n extensions
abbrev pub Tagged : List PacketUnit → ℕ → Option (List ℕ) → Type 0
Tagged us n first = cons_option first [] ≡ vlans_of (take n us)

pub tagged_twice : (us : List PacketUnit) (i : ℕ) (old r : Option (List ℕ)) (outer inner : List ℕ)
    → Tagged (exts_of us) i old → i < length (exts_of us) → r ≡ option_and_then vlan_of_unit (slice_get (exts_of us) i)
    → old ≡ Some outer → r ≡ Some inner
    → Some (tags.DoubleVlan (record { outer = outer; inner = inner })) ≡ first_tags (vlans_of us)
tagged_twice us i old r outer inner so_far lt is first second =
    let later = filter_map vlan_of_unit (drop (i + 1) (exts_of us)) in
    let front = sym so_far ∙ ap (λ (o : Option (List ℕ)). cons_option o []) first in
    let all : vlans_of us ≡ outer ∷ inner ∷ later =
    vlans_found us ∙ found_at vlan_of_unit (exts_of us) i r lt is
    ∙ (λ j. front j ++ cons_option (second j) [] ++ later) in
    ap first_tags (sym all)

pub tagged_all : (us : List PacketUnit) (n : ℕ) (old : Option (List ℕ)) → Tagged (exts_of us) n old
    → length (exts_of us) ≤ n → cons_option old [] ≡ vlans_of us
tagged_all us n old so_far past = so_far ∙ found_all vlan_of_unit (exts_of us) n past ∙ sym (vlans_found us)

-- no VLAN tag is among the first n extensions
abbrev pub Untagged : List PacketUnit → ℕ → Type 0
Untagged us n = vlans_of (take n us) ≡ []

-- ---- identifiers

abbrev pub vid_at : List ℕ → ℕ
vid_at bytes = (vlan_of bytes).vid

ids_cons : (k : Kind) (bytes : List ℕ) (ids : List ℕ) (tags : List (List ℕ)) → ids ≡ map vid_at tags
    → cons_option (vid_of (header_in k bytes)) ids ≡ map vid_at (cons_option (vlan_in k bytes) tags)
ids_cons kinds.Vlan bytes ids tags e = ap (λ (l : List ℕ). vid_at bytes ∷ l) e
ids_cons k bytes ids tags e = e

pub ids_of : (us : List PacketUnit) → vlan_ids_of (map header_of us) ≡ map vid_at (vlans_of us)
ids_of [] = refl
ids_of (u ∷ us) = ids_cons u.kind u.bytes _ _ (ids_of us)

-- none without a VLAN tag
pub no_ids : (us : List PacketUnit) (n : ℕ) → Untagged (exts_of us) n → length (exts_of us) ≤ n
    → vlan_ids_of (map header_of us) ≡ []
no_ids us n so_far past =
    ids_of us ∙ ap (map vid_at) (vlans_found us ∙ sym (found_all vlan_of_unit (exts_of us) n past) ∙ so_far)

-- the identifiers of the first n extensions
pub record Identified (us : List PacketUnit) (n : ℕ) (ids : List ℕ) : Type 0 where
  pub found : ids ≡ map vid_at (vlans_of (take n us))
  pub few : length ids ≤ n

pub identified_all : (us : List PacketUnit) (n : ℕ) (ids : List ℕ) → Identified (exts_of us) n ids
    → length (exts_of us) ≤ n → ids ≡ vlan_ids_of (map header_of us)
identified_all us n ids a past =
    a.found ∙ ap (map vid_at) (found_all vlan_of_unit (exts_of us) n past ∙ sym (vlans_found us)) ∙ sym (ids_of us)

-- ---- SecTags

-- none is among the first n extensions
abbrev pub Unsealed : List PacketUnit → ℕ → Type 0
Unsealed us n = sec_tags_of (take n us) ≡ []

first_viewed : (us : List PacketUnit) (i : ℕ) (o : Option (List ℕ)) (packet : MacsecSlice) → Unsealed (exts_of us) i
    → i < length (exts_of us) → o ≡ option_and_then macsec_of_unit (slice_get (exts_of us) i)
    → ViewsSecTagIf o (Some packet) → ViewsSecTagIf (slice_get (sec_tags_of us) 0) (Some packet)
first_viewed us i None packet so_far lt is view = absurd cc
first_viewed us i (Some bytes) packet so_far lt is view =
    let later = filter_map macsec_of_unit (drop (i + 1) (exts_of us)) in
    let all : sec_tags_of us ≡ bytes ∷ later =
    sec_tags_found us ∙ found_at macsec_of_unit (exts_of us) i (Some bytes) lt is
    ∙ ap (λ (l : List (List ℕ)). l ++ (bytes ∷ []) ++ later) so_far in
    subst (λ (l : List (List ℕ)). ViewsSecTagIf (slice_get l 0) (Some packet)) (sym all) view

pub sec_tag_first : (us : List PacketUnit) (i : ℕ) (packet : MacsecSlice) → Unsealed (exts_of us) i
    → i < length (exts_of us) → ViewsSecTagIf (option_and_then macsec_of_unit (slice_get (exts_of us) i)) (Some packet)
    → ViewsSecTagIf (slice_get (sec_tags_of us) 0) (Some packet)
sec_tag_first us i packet so_far lt view = first_viewed us i _ packet so_far lt refl view

pub sec_tag_none : (us : List PacketUnit) (n : ℕ) → Unsealed (exts_of us) n → length (exts_of us) ≤ n
    → ViewsSecTagIf (slice_get (sec_tags_of us) 0) None
sec_tag_none us n so_far past = search (rules, sec_tags_found, found_all)

-- ---- views of extensions

-- an extension that is viewed
pub viewed : (o : Option PacketUnit) (ext : PacketExt) → ViewsExtIf o (Some ext)
    → (u : PacketUnit) × (o ≡ Some u) × ViewsExt u ext
viewed None ext view = absurd cc
viewed (Some u) ext view = (u, refl, view)

pub unviewed : (o : Option PacketUnit) → ViewsExtIf o None → o ≡ None
unviewed None view = refl
unviewed (Some u) view = absurd view

-- the views of the first n
pub record Viewed (us : List PacketUnit) (n : ℕ) (exts : List PacketExt) : Type 0 where
  pub views : ViewsExts (take n us) exts
  pub few : length exts ≤ n

views_more : (us : List PacketUnit) (exts : List PacketExt) (u : PacketUnit) (ext : PacketExt) → ViewsExts us exts
    → ViewsExt u ext → ViewsExts (us ++ u ∷ []) (exts ++ ext ∷ [])
views_more [] [] u ext all view = (view, tt)
views_more (v ∷ us) (x ∷ xs) u ext all view = (all.0, views_more us xs u ext all.1 view)
views_more us exts u ext all view = absurd all

pub viewed_next : (us : List PacketUnit) (i : ℕ) (exts new : List PacketExt) (ext : PacketExt) → Viewed us i exts
    → ViewsExtIf (slice_get us i) (Some ext) → new ≡ exts ++ ext ∷ [] → Viewed us (i + 1) new
viewed_next us i exts new ext so_far view more =
    let w = viewed (slice_get us i) ext view in
    let len : length new ≡ length exts + 1 = ap length more ∙ length-append exts (ext ∷ []) in
    let few = so_far.few in
    record {
      views =
          subst (ViewsExts (take (i + 1) us)) (sym more)
          (subst (λ (l : List PacketUnit). ViewsExts l (exts ++ ext ∷ [])) (sym (take_next us i w.0 w.1))
          (views_more (take i us) exts w.0 ext so_far.views w.2));
      few = omega arith;
    }

-- none is missing
pub viewed_inside : (us : List PacketUnit) (i : ℕ) → i < length us → ViewsExtIf (slice_get us i) None → ⊥
viewed_inside us i lt view =
    let le = missing_past us i (unviewed (slice_get us i) view) in absurd (omega (arith, lt, le))

-- ---- payloads

pub link_payload : (link : Option LinkSlice) (o : Option PacketUnit) (r : Option EtherPayloadSlice) → ViewsExtIf o None
    → HoldsPayload link None r → HoldsPayload link o r
link_payload link o r view holds =
    subst (λ (p : Option PacketUnit). HoldsPayload link p r) (sym (unviewed o view)) holds
