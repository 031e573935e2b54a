-- A VLAN tag that is put into a packet and taken off again leaves it as it was.
use Rattle.std.proofs.Common.{◌≡◌, ℕ, ◌+◌, ◌-◌, List, [], ◌∷◌, ◌++◌, length, drop, true, false, Some, refl, sym, ap, subst, ◌∙◌, arith, inl, inr}
use Rattle.std.proofs.Math.Seq.{drop-append_seam}
use Rattle.std.proofs.lemmas.List.{take-append-drop}
use Rattle.ether_base.specs.Bytes.{IsBytes}
use Rattle.etherparse.specs.Header.{Header, header_len, kind_of}
use Rattle.etherparse.specs.Header as headers
use Rattle.etherparse.specs.Vlan.{VlanValue, is_vlan_ether_type}
use Rattle.ether_peel.specs.Grammar.Expectation.{Next, EtherType}
use Rattle.ether_peel.specs.Grammar.Places.{moved_ending}
use Rattle.ether_peel.specs.Grammar.Stack.{Ending, Walk}
use Rattle.ether_peel.specs.Walker.Start.{start_of, next_of}
use Rattle.ether_peel.specs.declared.start.Start.{Start}
use Rattle.ether_packet.specs.declared.tag_error.TagError.{TagError}
use Rattle.ether_packet.specs.ReplacingLink.{is_link}
use Rattle.ether_packet.specs.TypedLink.{type_of_link, with_type, BeginsTyped}
use Rattle.ether_packet.specs.Popping.{IsPopped, RefusesPop, no_vlan, cut_vlan}
use Rattle.ether_packet.specs.Popping as popping
use Rattle.ether_packet.specs.Pushing.{IsPushed}
use Rattle.ether_packet.proofs.PushedPopped as packet_laws
use Rattle.ether_packet.proofs.TagChanges.{popped_or_not}
use Rattle.ether_packet.proofs.TypedLinks.{announces_kept, kind_kept}
use Rattle.ether_pcap.specs.Capture.{PacketValue}
use Rattle.ether_pcap.specs.Editing.{EditedValue, edited_packet}
use Rattle.ether_content.specs.Content.{Frame}
use Rattle.ether_content.specs.Editing.{PushVlan, Edits, PoppedAfterPushed, Pops, Pushes, frame_start, tag_with, after_free, unedited, pops, pushes}
use Rattle.ether_content.proofs.EditingLemmas.{framed, frame_front, pushed_bytes_fit}
use Rattle.ether_content.proofs.EditsOne.{same_link, typed_apart}
use Rattle.ether_content.proofs.EditsSome.{framed_or_not}

-- ---- a tag that was put in is not refused

type_set : (link : Header) (t : ℕ) → is_link (kind_of link) ≡ true → type_of_link (with_type link t) ≡ t
type_set (headers.Ethernet2 e) t linked = refl
type_set (headers.Ethernet2Fcs e) t linked = refl
type_set (headers.LinuxSll s) t linked = refl
type_set (headers.Vlan v) t linked = absurd cc
type_set (headers.Macsec m) t linked = absurd cc
type_set (headers.Arp a) t linked = absurd cc

begins_pushed : (hs : List Header) (link : Header) (later more : List Header) (t : ℕ) → BeginsTyped hs link later
    → BeginsTyped (with_type link t ∷ more) (with_type link t) more
begins_pushed hs link later more t begins = record {
  parts = refl;
  is_link = ap is_link (kind_kept link t) ∙ begins.is_link;
  typed =
      announces_kept link t begins.is_link begins.typed ∙ ap EtherType (sym (type_set link t begins.is_link));
}

not_refused : (link g : Header) (later : List Header) (error : TagError)
    → BeginsTyped (link ∷ g ∷ later) link (g ∷ later) → is_vlan_ether_type (type_of_link link) ≡ true
    → RefusesPop (link ∷ g ∷ later) error → ⊥
not_refused link g later error begins is (popping.link _ why) =
    typed_apart (link ∷ g ∷ later) link (g ∷ later) error begins why
not_refused link g later error begins is (no_vlan h more other none) =
    let same = same_link (link ∷ g ∷ later) (link ∷ g ∷ later) link h (g ∷ later) more refl refl other.parts in
    let both : true ≡ false = sym is ∙ ap (λ (x : Header). is_vlan_ether_type (type_of_link x)) same ∙ none in absurd cc
not_refused link g later error begins is (cut_vlan h other announces) =
    let both : link ∷ g ∷ later ≡ h ∷ [] = other.parts in absurd cc

-- ---- it is taken off

abbrev pushed_headers : (link : Header) (tpid : ℕ) → VlanValue → (later : List Header) → List Header
pushed_headers link tpid tag later = with_type link tpid ∷ headers.Vlan (record tag { ether_type = type_of_link link })
    ∷ later

record TakenOff (start : Start) (frame new : List ℕ) (hs : List Header) (e : Ending) : Type 0 where
  tag : VlanValue
  bytes : List ℕ
  is : IsPopped (start_of start) new hs e tag bytes
  back : drop 4 bytes ≡ frame

taken_off : (start : Start) (frame new : List ℕ) (hs : List Header) (e : Ending) (tag : VlanValue) (tpid : ℕ)
    → IsBytes frame → Walk (start_of start) frame hs e
    → (is : IsPushed (start_of start) (after_free frame) hs e tag tpid new)
    → TakenOff start frame new (pushed_headers is.link tpid tag is.later)
    (moved_ending (header_len is.link) (header_len is.link + 4) e)
taken_off start frame new hs e tag tpid ok walk is =
    let ks = pushed_headers is.link tpid tag is.later in
    let f = moved_ending (header_len is.link) (header_len is.link + 4) e in
    let begins =
    begins_pushed hs is.link is.later (headers.Vlan (record tag { ether_type = type_of_link is.link }) ∷ is.later) tpid
    is.begins in
    let announces : is_vlan_ether_type (type_of_link (with_type is.link tpid)) ≡ true =
    ap is_vlan_ether_type (type_set is.link tpid is.begins.is_link) ∙ is.announces in
    elim (popped_or_not start new ks f (pushed_bytes_fit (next_of start) frame hs e tag tpid new ok is) is.walk) [
      | inl t ↦ record {
        tag = t.tag;
        bytes = t.new;
        is = t.is;
        back =
            (packet_laws.popped_after_pushed start (after_free frame) new t.new hs ks e f tag t.tag tpid walk is is.walk
            t.is).0;
      }
      | inr r ↦ absurd (not_refused (with_type is.link tpid) _ is.later r.0 begins announces r.1)
    ]

-- ---- from the packet

pops_again : (p : PacketValue) (e : EditedValue) (tpid id : ℕ) (start : Start) → IsBytes p.packet
    → (a : Pushes tpid id p e) → next_of start ≡ a.next → IsBytes a.frame → Pops (edited_packet e p) (unedited p)
pops_again p e tpid id start all a from ok =
    let walk : Walk (start_of start) a.frame a.headers a.ending =
    subst (λ (n : Next). Walk (frame_start n) a.frame a.headers a.ending) (sym from) a.is_frame.walk in
    let pushed : IsPushed (start_of start) (after_free a.frame) a.headers a.ending (tag_with id) tpid a.new =
    subst (λ (n : Next). IsPushed (frame_start n) (after_free a.frame) a.headers a.ending (tag_with id) tpid a.new)
    (sym from) a.pushed in
    let t = taken_off start a.frame a.new a.headers a.ending (tag_with id) tpid ok walk pushed in
    let q = edited_packet e p in
    let rest = drop (length a.frame) p.packet in
    let front = frame_front p a.next a.frame a.is_frame.content in
    let packet : q.packet ≡ a.new ++ rest = ap (λ (x : EditedValue). x.packet) a.is in
    let left : drop (length a.new) q.packet ≡ rest =
    ap (drop (length a.new)) packet ∙ drop-append_seam a.new rest in
    let whole : drop 4 t.bytes ++ drop (length a.new) q.packet ≡ p.packet =
    (λ i. t.back i ++ left i) ∙ ap (λ (l : List ℕ). l ++ rest) (sym front.1)
    ∙ take-append-drop (length a.frame) p.packet in
    let len : q.original_len - 4 ≡ p.original_len =
    ap (λ (x : EditedValue). x.original_len - 4) a.is ∙ omega arith in
    record {
      next = next_of start;
      frame = a.new;
      headers = pushed_headers pushed.link tpid (tag_with id) pushed.later;
      ending = moved_ending (header_len pushed.link) (header_len pushed.link + 4) a.ending;
      tag = t.tag;
      new = t.bytes;
      is_frame = record { content = a.content ∙ ap (λ (n : Next). Frame n a.new) (sym from); walk = pushed.walk };
      popped = t.is;
      is = λ i. record { original_len = sym len i; packet = sym whole i };
      content =
          a.is_frame.content ∙ (λ i. Frame (sym from i) (sym t.back i));
    }

pushed_of : (p : PacketValue) (tpid id : ℕ) (e : EditedValue) → Edits (PushVlan tpid id) p (Some e) → Pushes tpid id p e
pushed_of p tpid id e (pushes _ _ _ _ a) = a

pub popped_after_pushed : PoppedAfterPushed
popped_after_pushed tpid id p e ok is =
    let a = pushed_of p tpid id e is in
    let again : Pops (edited_packet e p) (unedited p) =
    elim (framed_or_not p ok) [
      | inl f ↦
          let same = framed (next_of f.start) a.next f.frame a.frame (sym f.is ∙ a.is_frame.content) in
          pops_again p e tpid id f.start ok a same.0 (subst IsBytes same.1 f.ok)
      | inr none ↦ absurd (none a.next a.frame a.is_frame.content)
    ] in
    (pops (edited_packet e p) (unedited p) again, refl)
