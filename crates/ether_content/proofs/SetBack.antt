-- A VLAN tag of a packet that gets another identifier, and its own one back, is as it was.
use Rattle.std.proofs.Common.{◌≡◌, ℕ, ◌+◌, ◌≤◌, List, ◌∷◌, ◌++◌, length, take, drop, Some, refl, sym, ap, subst, ◌∙◌, arith}
use Rattle.std.specs.Prelude.{slice_range}
use Rattle.std.proofs.Math.Seq.{drop-append_seam}
use Rattle.std.proofs.lemmas.List.{length-append, length-take-le, take-append-drop}
use Rattle.std.proofs.lemmas.Slice.{between_from_start}
use Rattle.ether_base.specs.Bytes.{IsBytes}
use Rattle.ether_base.proofs.Numbers.{length-spelled}
use Rattle.ether_base.proofs.SubLists.{IsBytes-part, IsBytes-take, length-part, part_join}
use Rattle.ether_base.proofs.VlanFields.{vlan_bytes-read}
use Rattle.etherparse.specs.Bytes.{overwritten}
use Rattle.etherparse.specs.Header.{Header}
use Rattle.etherparse.specs.Header as headers
use Rattle.etherparse.specs.Vlan.{VlanValue, IsVlan, vlan_bytes, vlan_number}
use Rattle.ether_peel.specs.Grammar.Places.{place}
use Rattle.ether_peel.specs.Grammar.Stack.{Walk, whole}
use Rattle.ether_peel.proofs.Grammar.Cleared.{whole_in}
use Rattle.ether_packet.specs.Setting.{LacksVlan}
use Rattle.ether_packet.proofs.FindVlan.{tag_once}
use Rattle.ether_packet.proofs.Replaced.{header_inside, part_before}
use Rattle.ether_packet.proofs.VlanIds.{own_bytes}
use Rattle.ether_pcap.specs.Capture.{PacketValue}
use Rattle.ether_pcap.specs.Editing.{EditedValue, edited_packet}
use Rattle.ether_content.specs.Editing.{SetVlan, Edits, LacksBefore, SetBack, Sets, frame_start, unedited, sets}
use Rattle.ether_content.proofs.EditingLemmas.{frame_front}

-- ---- the bytes

-- four bytes that are written over others, and these over them
put_back : (list new old : List ℕ) (at : ℕ) → at + 4 ≤ length list → length new ≡ 4
    → old ≡ slice_range list at (at + 4)
    → overwritten (overwritten list at new) at old ≡ list
put_back list new old at fits four is =
    let between = overwritten list at new in
    let own : length old ≡ 4 = ap length is ∙ length-part list at (at + 4) fits ∙ omega arith in
    let front : take at between ≡ take at list =
    sym (between_from_start between at) ∙ part_before list new at 0 at (omega (arith, fits)) (omega arith) (omega arith)
    ∙ between_from_start list at in
    let end : at + length old ≡ length (take at list ++ new) =
    omega (arith, own, four, length-append (take at list) new, length-take-le at list (omega (arith, fits))) in
    let last : at + length new ≡ at + 4 = omega (arith, four) in
    let rest : drop (at + length old) between ≡ drop (at + 4) list =
    ap (λ (k : ℕ). drop k between) end ∙ drop-append_seam (take at list ++ new) (drop (at + length new) list)
    ∙ ap (λ (k : ℕ). drop k list) last in
    let joined : take at list ++ slice_range list at (at + 4) ≡ take (at + 4) list =
    ap (λ (l : List ℕ). l ++ slice_range list at (at + 4)) (sym (between_from_start list at))
    ∙ part_join list 0 at (at + 4) (omega arith) (omega arith) ∙ between_from_start list (at + 4) in
    (λ i. front i ++ is i ++ rest i) ∙ ap (λ (l : List ℕ). l ++ drop (at + 4) list) joined
    ∙ take-append-drop (at + 4) list

-- ---- the packet

sets_back : (p : PacketValue) (old new : ℕ) (e : EditedValue) → IsBytes p.packet → LacksBefore old new p
    → Sets old new p e → Sets new old (edited_packet e p) (unedited p)
sets_back p old new e ok lacks a =
    let start = frame_start a.next in
    let set = a.set in
    let tag = set.tag in
    let given : VlanValue = record tag { vid = new } in
    let at = place 0 set.front in
    let content = frame_front p a.next a.frame a.is_frame.content in
    let bytes : IsBytes a.frame = subst IsBytes content.1 (IsBytes-take (length a.frame) p.packet ok) in
    let same =
    tag_once a.headers a.index a.finds.front set.front a.finds.tag tag a.finds.later set.later a.finds.found
    set.found in
    let has : tag.vid ≡ old = ap (λ (v : VlanValue). v.vid) (sym same.1) ∙ a.finds.has in
    let tag_is : record tag { vid = old } ≡ tag = λ i. record tag { vid = sym has i } in
    let split = subst (λ (hs : List Header). Walk start a.frame hs a.ending) set.found.parts a.is_frame.walk in
    let room = header_inside start a.frame set.front (headers.Vlan tag) set.later a.ending split in
    let own : IsVlan (slice_range a.frame at (at + 4)) tag =
    own_bytes a.frame start (whole start a.frame) set.front (headers.Vlan tag) set.later a.ending
    (whole_in start a.frame)
    split in
    let four : length (slice_range a.frame at (at + 4)) ≡ 4 =
    length-part a.frame at (at + 4) (omega (arith, room)) ∙ omega arith in
    let spelled : vlan_bytes (record tag { vid = old }) ≡ slice_range a.frame at (at + 4) =
    ap vlan_bytes tag_is
    ∙ vlan_bytes-read (slice_range a.frame at (at + 4)) tag (IsBytes-part at (at + 4) a.frame bytes) four own in
    let back : overwritten a.changed at (vlan_bytes (record tag { vid = old })) ≡ a.frame =
    ap (λ (l : List ℕ). overwritten l at (vlan_bytes (record tag { vid = old }))) set.bytes
    ∙ put_back a.frame (vlan_bytes given) (vlan_bytes (record tag { vid = old })) at (omega (arith, room))
    (length-spelled 4 (vlan_number given)) spelled in
    let q = edited_packet e p in
    let rest = drop (length a.frame) p.packet in
    let left : drop (length a.changed) q.packet ≡ rest =
    ap (λ (x : EditedValue). drop (length a.changed) x.packet) a.is ∙ drop-append_seam a.changed rest in
    let packet : a.frame ++ drop (length a.changed) q.packet ≡ p.packet =
    ap (λ (l : List ℕ). a.frame ++ l) left ∙ ap (λ (l : List ℕ). l ++ rest) (sym content.1)
    ∙ take-append-drop (length a.frame) p.packet in
    let len : q.original_len ≡ p.original_len = ap (λ (x : EditedValue). x.original_len) a.is in
    record {
      next = a.next;
      frame = a.changed;
      headers = set.front ++ headers.Vlan given ∷ set.later;
      ending = a.ending;
      index = a.index;
      changed = a.frame;
      is_frame = record { content = a.content; walk = set.walk };
      finds =
          record {
            front = set.front;
            tag = given;
            later = set.later;
            found = record { parts = refl; extension = refl; before = set.found.before };
            has = refl;
            outermost =
                subst (λ (hs : List Header). LacksVlan hs new) same.0
                (lacks a.next a.frame a.headers a.ending a.index a.is_frame a.finds);
          };
      set =
          record {
            front = set.front;
            tag = given;
            later = set.later;
            found = record { parts = refl; extension = refl; before = set.found.before };
            bytes = sym back;
            walk =
                subst (λ (v : VlanValue). Walk start a.frame (set.front ++ headers.Vlan v ∷ set.later) a.ending)
                (sym tag_is) split;
          };
      is = λ i. record { original_len = sym len i; packet = sym packet i };
      content = a.is_frame.content;
    }

sets_of : (p : PacketValue) (old new : ℕ) (e : EditedValue) → Edits (SetVlan old new) p (Some e) → Sets old new p e
sets_of p old new e (sets _ _ _ _ a) = a

pub set_back : SetBack
set_back old new p e ok lacks is =
    (sets (edited_packet e p) new old (unedited p) (sets_back p old new e ok lacks (sets_of p old new e is)), refl)
