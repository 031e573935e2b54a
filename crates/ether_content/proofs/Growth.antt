-- A packet that is edited has four bytes more at most, and only with another VLAN tag.
use Rattle.std.proofs.Common.{◌≡◌, ℕ, ◌+◌, ◌-◌, ◌≤◌, List, ◌++◌, length, take, drop, Some, refl, sym, subst, arith}
use Rattle.std.specs.Prelude.{Option, slice_range}
use Rattle.std.proofs.lemmas.List.{length-append, length-drop, length-take}
use Rattle.ether_base.proofs.SubLists.{length-part-is}
use Rattle.ether_base.proofs.Numbers.{length-spelled}
use Rattle.etherparse.specs.Bytes.{spelled, overwritten}
use Rattle.etherparse.specs.Header.{Header, header_len}
use Rattle.etherparse.specs.Header as headers
use Rattle.etherparse.specs.Vlan.{VlanValue, vlan_bytes}
use Rattle.ether_peel.specs.Grammar.Places.{place}
use Rattle.ether_peel.specs.Grammar.Stack.{Walk}
use Rattle.ether_packet.specs.Pushing.{pushed_bytes}
use Rattle.ether_packet.proofs.Replaced.{header_inside}
use Rattle.ether_pcap.specs.Capture.{PacketValue}
use Rattle.ether_pcap.specs.Editing.{EditedValue}
use Rattle.ether_content.specs.Editing.{EditValue, with_frame, frame_start, after_free, tag_with, Pops, Pushes, Sets, Edits, cuts, pops, pushes, sets, not_cut, not_popped, not_pushed, not_set, growth}
use Rattle.ether_content.proofs.EditingLemmas.{frame_front}

-- a list with other bytes at a place ends where these end, if not where it did
overwritten_len : (list new : List ℕ) (at n : ℕ) → at + length new ≤ n → length list ≤ n
    → length (overwritten list at new) ≤ n
overwritten_len list new at n fits le =
    let front = length-append (take at list ++ new) (drop (at + length new) list) in
    let two = length-append (take at list) new in
    omega (arith, fits, le, front, two, length-take at list, length-drop (at + length new) list)

-- the bytes of a packet with another frame
framed_len : (p : PacketValue) (frame new : List ℕ) (original_len more : ℕ) → length frame ≤ length p.packet
    → length new ≤ length frame + more
    → length (with_frame p frame new original_len).packet ≤ length p.packet + more
framed_len p frame new original_len more front le =
    omega (arith, front, le, length-append new (drop (length frame) p.packet), length-drop (length frame) p.packet)

as_edited : (p : PacketValue) (e f : EditedValue) (more : ℕ) → e ≡ f → length f.packet ≤ length p.packet + more
    → length e.packet ≤ length p.packet + more
as_edited p e f more is le = subst (λ (g : EditedValue). length g.packet ≤ length p.packet + more) (sym is) le

popped_len : (p : PacketValue) (e : EditedValue) → Pops p e → length e.packet ≤ length p.packet + 0
popped_len p e is =
    let front = (frame_front p is.next is.frame is.is_frame.content).0 in
    let moved = take (header_len is.popped.link - 2) is.frame in
    let short = length-take (header_len is.popped.link - 2) is.frame in
    let whole : length (overwritten is.frame 4 moved) ≤ 4 + length is.frame =
    overwritten_len is.frame moved 4 (4 + length is.frame) (omega (arith, short)) (omega arith) in
    let new : length is.new ≤ 4 + length is.frame =
    subst (λ (l : List ℕ). length l ≤ 4 + length is.frame) (sym is.popped.bytes) whole in
    as_edited p e (with_frame p is.frame (drop 4 is.new) (p.original_len - 4)) 0 is.is
    (framed_len p is.frame (drop 4 is.new) (p.original_len - 4) 0 front (omega (arith, new, length-drop 4 is.new)))

pushed_len : (tpid id : ℕ) (p : PacketValue) (e : EditedValue) → Pushes tpid id p e
    → length e.packet ≤ length p.packet + 4
pushed_len tpid id p e is =
    let front = (frame_front p is.next is.frame is.is_frame.content).0 in
    let old = after_free is.frame in
    let moved = slice_range old 4 (header_len is.pushed.link + 2) in
    let four = pushed_bytes tpid (tag_with id) in
    let tag = slice_range (vlan_bytes (tag_with id)) 0 2 in
    let four_len : length four ≤ 4 =
    omega (
      arith,
      length-append (spelled 2 tpid) tag,
      length-spelled 2 tpid,
      length-part-is
          (vlan_bytes (tag_with id)) 0 2,
    ) in
    let fits : 0 + length (moved ++ four) ≤ 4 + length is.frame =
    omega (arith, length-append moved four, four_len, length-part-is old 4 (header_len is.pushed.link + 2)) in
    let whole = overwritten_len old (moved ++ four) 0 (4 + length is.frame) fits (omega arith) in
    let new : length is.new ≤ 4 + length is.frame =
    subst (λ (l : List ℕ). length l ≤ 4 + length is.frame) (sym is.pushed.bytes) whole in
    as_edited p e (with_frame p is.frame is.new (p.original_len + 4)) 4 is.is
    (framed_len p is.frame is.new (p.original_len + 4) 4 front (omega (arith, new)))

set_len : (old new : ℕ) (p : PacketValue) (e : EditedValue) → Sets old new p e
    → length e.packet ≤ length p.packet + 0
set_len old new p e is =
    let front = (frame_front p is.next is.frame is.is_frame.content).0 in
    let change = λ (tag : VlanValue). record tag { vid = new } in
    let found = is.set.found in
    let walk =
    subst (λ (hs : List Header). Walk (frame_start is.next) is.frame hs is.ending) found.parts is.is_frame.walk in
    let inside = header_inside (frame_start is.next) is.frame is.set.front (headers.Vlan is.set.tag) is.set.later
    is.ending walk in
    let tag = vlan_bytes (change is.set.tag) in
    let four : length tag ≡ 4 = length-spelled 4 _ in
    let whole =
    overwritten_len is.frame tag (place 0 is.set.front) (length is.frame) (omega (arith, inside, four)) (omega arith) in
    let changed : length is.changed ≤ length is.frame =
    subst (λ (l : List ℕ). length l ≤ length is.frame) (sym is.set.bytes) whole in
    as_edited p e (with_frame p is.frame is.changed p.original_len) 0 is.is
    (framed_len p is.frame is.changed p.original_len 0 front (omega (arith, changed)))

grows_if : (edit : EditValue) (p : PacketValue) (o : Option EditedValue) (e : EditedValue) → o ≡ Some e
    → Edits edit p o → length e.packet ≤ length p.packet + growth edit
grows_if edit p o e is (cuts _ n takes lt) =
    let same : take n p.packet ≡ e.packet = cc in
    subst (λ (l : List ℕ). length l ≤ length p.packet + 0) same (omega (arith, length-take n p.packet))
grows_if edit p o e is (pops _ f popped) = let same : f ≡ e =
    cc in subst (λ (g : EditedValue). length g.packet ≤ length p.packet + 0) same (popped_len p f popped)
grows_if edit p o e is (pushes _ tpid id f pushed) = let same : f ≡ e =
    cc in subst (λ (g : EditedValue). length g.packet ≤ length p.packet + 4) same (pushed_len tpid id p f pushed)
grows_if edit p o e is (sets _ old new f set) = let same : f ≡ e =
    cc in subst (λ (g : EditedValue). length g.packet ≤ length p.packet + 0) same (set_len old new p f set)
grows_if edit p o e is (not_cut _ n takes le) = absurd cc
grows_if edit p o e is (not_popped _ stays) = absurd cc
grows_if edit p o e is (not_pushed _ tpid id stays) = absurd cc
grows_if edit p o e is (not_set _ old new stays) = absurd cc

pub edits_grow : (edit : EditValue) (p : PacketValue) (e : EditedValue) → Edits edit p (Some e)
    → length e.packet ≤ length p.packet + growth edit
edits_grow edit p e is = grows_if edit p (Some e) e refl is
