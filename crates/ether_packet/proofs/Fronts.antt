-- How the headers of a frame begin, as it is read, and when a VLAN tag is taken off or put in.
use Rattle.std.proofs.Common.{◌≡◌, ℕ, ◌+◌, ◌≤◌, List, [], ◌∷◌, length, refl, sym, ap, subst, ◌∙◌, arith, true, false, rules}
use Rattle.std.specs.Prelude.{slice_range, Some, None}
use Rattle.std.proofs.lemmas.Bool.{ne_eqb}
use Rattle.etherparse.specs.Types.LenSource.TheVariants as sources
use Rattle.etherparse.specs.Bytes.{IsBytes}
use Rattle.etherparse.specs.Ethernet2.{ethernet2_of}
use Rattle.etherparse.specs.Vlan.{VlanValue, IsVlan, is_vlan_ether_type}
use Rattle.etherparse.specs.Kind as kinds
use Rattle.etherparse.specs.Header.{Header, kind_of, header_len}
use Rattle.etherparse.specs.Header as headers
use Rattle.etherparse.specs.Refusal.{Refuses, Accepts}
use Rattle.etherparse.proofs.Values.{vlan_unique}
use Rattle.ether_peel.specs.Grammar.Expectation.{Next, Expectation, announced, next_after, after}
use Rattle.ether_peel.specs.Grammar.Stack.{Ending, whole, Walk}
use Rattle.ether_peel.specs.Walker.Start.{start_of}
use Rattle.ether_peel.specs.declared.start.Start.{Start}
use Rattle.ether_peel.specs.declared.start.Start.TheVariants as starts
use Rattle.ether_peel.proofs.Grammar.Cleared.{whole_in}
use Rattle.ether_packet.specs.declared.tag_error.TagError.{TagError}
use Rattle.ether_packet.specs.ReplacingLink.{is_link, has_link}
use Rattle.ether_packet.specs.TypedLink.{RefusesTyped, no_link, hardware_type}
use Rattle.ether_packet.specs.Front.{link_type, outer_tag}
use Rattle.ether_packet.specs.Popping as pops
use Rattle.ether_packet.specs.Popping.{IsPopped, IsTagged, RefusesPop}
use Rattle.ether_packet.specs.Pushing as pushes
use Rattle.ether_packet.specs.Pushing.{RefusesPush}
use Rattle.ether_packet.proofs.Gathering.{whole_part}
use Rattle.ether_packet.proofs.Links.{first_header}
use Rattle.ether_packet.proofs.TypedLinks.{link_after, no_unit_there}
use Rattle.ether_packet.proofs.VlanIds.{own_bytes}

-- ---- the header of Ethernet II

pub ethernet2_first : (list : List ℕ) (hs : List Header) (e : Ending) → IsBytes list
    → Accepts sources.Slice list kinds.Ethernet2 → Walk (start_of starts.Ethernet2) list hs e
    → (later : List Header) × (hs ≡ headers.Ethernet2 (ethernet2_of list) ∷ later)
ethernet2_first list hs e ok accepted walk =
    first_header (start_of starts.Ethernet2) kinds.Ethernet2 list hs e ok refl accepted walk

pub nothing_first : (list : List ℕ) (hs : List Header) (e : Ending) (r : _)
    → Refuses sources.Slice list kinds.Ethernet2 r → Walk (start_of starts.Ethernet2) list hs e → hs ≡ []
nothing_first list hs e r row walk =
    no_unit_there list (start_of starts.Ethernet2) (whole (start_of starts.Ethernet2) list) kinds.Ethernet2 r hs e refl
    (subst (λ (l : List ℕ). Refuses sources.Slice l kinds.Ethernet2 r) (sym (whole_part list)) row) walk

-- ---- the VLAN tag after a link

tag_of_tagged : (hs : List Header) (at : ℕ) (t : IsTagged hs at) → outer_tag hs ≡ Some t.tag
tag_of_tagged hs at t = rw (t.begins.parts, t.begins.is_link) refl

pub tag_of_popped : (start : Expectation) (old : List ℕ) (hs : List Header) (e : Ending) (tag : VlanValue)
    (new : List ℕ) → IsPopped start old hs e tag new → outer_tag hs ≡ Some tag
tag_of_popped start old hs e tag new p = rw (p.begins.parts, p.begins.is_link) refl

-- the bytes where it begins mean it
pub tag_read : (start : Expectation) (list : List ℕ) (hs : List Header) (e : Ending) (at : ℕ) (v : VlanValue)
    → IsTagged hs at → IsVlan (slice_range list at (at + 4)) v → Walk start list hs e → outer_tag hs ≡ Some v
tag_read start list hs e at v t spells walk =
    let split = subst (λ (l : List Header). Walk start list l e) t.begins.parts walk in
    let own : IsVlan (slice_range list (0 + header_len t.link) (0 + header_len t.link + 4)) t.tag =
    own_bytes list start (whole start list) (t.link ∷ []) (headers.Vlan t.tag) t.later e (whole_in start list) split in
    let from : 0 + header_len t.link ≡ at = omega arith in
    let there = subst (λ (n : ℕ). IsVlan (slice_range list n (n + 4)) t.tag) from own in
    tag_of_tagged hs at t ∙ ap Some (vlan_unique t.tag v there.fits spells.fits (sym there.sum ∙ spells.sum))

-- ---- what is refused

unlinked : (hs : List Header) → has_link hs ≡ false → (link_type hs ≡ None) × (outer_tag hs ≡ None)
unlinked [] is = (refl, refl)
unlinked (h ∷ hs) is = (rw is refl, rw is refl)

pub no_type : (hs : List Header) (error : TagError) → RefusesTyped hs error → link_type hs ≡ None
no_type hs error (no_link none) = (unlinked hs none).0
no_type hs error (hardware_type s later parts other) = rw (parts, ne_eqb s.hardware_type 1 other) refl

-- what the header of a link announces
announced_after : (start : Start) (h : Header) (n : Next) → is_link (kind_of h) ≡ true → next_after h ≡ n
    → announced (after (start_of start) h) ≡ announced (record { next = n; limit = None })
announced_after start h n link next =
    ap announced (link_after start h link ∙ ap (λ (k : Next). record { next = k; limit = None }) next)

-- no VLAN tag is taken off only if none is there
pub none_popped : (start : Start) (list : List ℕ) (hs : List Header) (e : Ending) (error : TagError)
    → Walk (start_of start) list hs e → RefusesPop hs error → outer_tag hs ≡ None
none_popped start list hs e error walk (pops.link other (no_link none)) = (unlinked hs none).1
none_popped start list hs e error walk (pops.link other (hardware_type s later parts differs)) = search rules
none_popped start list hs e error walk (pops.no_vlan link later begins none) = search rules
none_popped start list hs e error walk (pops.cut_vlan link begins is) = rw (begins.parts, begins.is_link) refl

-- .. and with a TPID and room none is put in only if there is no ether type
pub none_pushed : (buffer : List ℕ) (hs : List Header) (tpid : ℕ) (error : TagError) → is_vlan_ether_type tpid ≡ true
    → 4 ≤ length buffer → RefusesPush buffer hs tpid error → link_type hs ≡ None
none_pushed buffer hs tpid error is room (pushes.other_tpid other) = absurd cc
none_pushed buffer hs tpid error is room (pushes.no_room same short) = absurd (omega arith)
none_pushed buffer hs tpid error is room (pushes.link e same long r) = no_type hs e r
