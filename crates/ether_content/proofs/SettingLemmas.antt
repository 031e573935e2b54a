-- A VLAN tag of a captured packet that gets another identifier.
use Rattle.std.proofs.Common.{◌≡◌, ℕ, ◌+◌, ◌-◌, ◌≤◌, List, ◌++◌, length, drop, false, None, sym, ap, subst, ◌∙◌, arith}
use Rattle.std.specs.Prelude.{max, slice_range, nat_lt}
use borrow.Rule.Slice.PartMut.{put_mid}
use Rattle.std.proofs.lemmas.List.{length-take-le, take_all}
use Rattle.ether_base.specs.Bytes.{IsBytes}
use Rattle.ether_base.proofs.Numbers.{IsBytes-spelled}
use Rattle.etherparse.specs.Header.{Header}
use Rattle.etherparse.specs.Header as headers
use Rattle.etherparse.specs.Kind as kinds
use Rattle.etherparse.specs.Vlan.{VlanValue, vlan_bytes}
use Rattle.ether_peel.specs.Grammar.Expectation.{Next, Start}
use Rattle.ether_peel.specs.Grammar.Places.{place}
use Rattle.ether_peel.specs.Grammar.Stack.{Ending, Walk, whole}
use Rattle.ether_peel.proofs.Grammar.Stacks.{some_stack}
use Rattle.ether_peel.specs.Walker.Start.{start_of, next_of}
use Rattle.ether_peel.specs.declared.start.Start.{Start as PeelStart}
use Rattle.ether_packet.specs.Setting.{LacksVlan, FindsVlan, SetsTag}
use Rattle.ether_pcap.specs.Capture.{PacketValue}
use Rattle.ether_pcap.specs.Editing.{EditedValue, edited_packet}
use Rattle.ether_content.specs.Content.{Frame, content_of, fcs_len, has_other_hardware}
use Rattle.ether_content.specs.Editing.{SetVlan, Edits, Sets, with_frame, frame_start, refused, not_set}
use Rattle.ether_content.proofs.CookedLemmas.{walked_usual_past, written_bytes}
use Rattle.ether_content.proofs.EditingLemmas.{KeepsEnd, content_after, frame_front, front_there, replaced_front}

-- what is set
abbrev with_id : (id : ℕ) → VlanValue → VlanValue
with_id id tag = record tag { vid = id }

-- with as many bytes
pub keeps_end_same : (p : PacketValue) (frame new : List ℕ) → length new ≡ length frame
    → length frame ≤ length p.packet → KeepsEnd p frame new p.original_len
keeps_end_same p frame new same front =
    let n = length p.packet in
    let o = p.original_len in
    let t = max o n - fcs_len p in
    let len : length new + (n - length frame) ≡ n = omega (arith, same, front) in
    let most : max o (length new + (n - length frame)) ≡ max o n = ap (max o) len in
    record {
      same_cut = ap (λ (k : ℕ). nat_lt k o) len;
      exact = λ part le. let k = sym (length-take-le t p.packet le) ∙ ap length part in omega (arith, most, k, same);
      at_least = λ part le. let k = ap length (sym (take_all t p.packet le) ∙ part) in omega (arith, most, k, same, le);
    }

pub set_usual : (next : Next) (frame : List ℕ) (hs : List Header) (e : Ending) (index id : ℕ) (new : List ℕ)
    → IsBytes frame → SetsTag (frame_start next) frame hs e index (with_id id) new → Start kinds.LinuxSll ≡ next
    → has_other_hardware new ≡ false
set_usual next frame hs e index id new ok is =
    let tag = with_id id is.tag in
    let bytes =
    subst IsBytes (sym is.bytes) (written_bytes frame (vlan_bytes tag) (place 0 is.front) ok (IsBytes-spelled 4 _)) in
    walked_usual_past next new is.front (headers.Vlan tag) is.later e bytes is.walk

pub set_done : (p : PacketValue) (start : PeelStart) (frame buffer new : List ℕ) (old id index : ℕ) → IsBytes frame
    → content_of p ≡ Frame (next_of start) frame → 4 + length p.packet ≤ length buffer
    → slice_range buffer 4 (4 + length p.packet) ≡ p.packet
    → length new ≡ length (slice_range buffer 4 (4 + length frame))
    → ((hs : List Header) (e : Ending) → Walk (start_of start) (slice_range buffer 4 (4 + length frame)) hs e
    → FindsVlan hs old index
    × SetsTag (start_of start) (slice_range buffer 4 (4 + length frame)) hs e index (with_id id) new)
    → Sets old id p
    (record {
      original_len = p.original_len;
      packet = slice_range (put_mid 4 (4 + length frame - 4) buffer new) 4 (4 + length p.packet);
    })
set_done p start frame buffer new old id index ok is room there len set =
    let front = frame_front p (next_of start) frame is in
    let here = front_there buffer p.packet frame there front.0 front.1 in
    let same : length new ≡ length frame = len ∙ ap length here in
    let x = frame_start (next_of start) in
    let some = some_stack frame x (whole x frame) ok in
    let done = set some.0 some.1 (subst (λ (l : List ℕ). Walk x l some.0 some.1) (sym here) some.2) in
    let after = put_mid 4 (4 + length frame - 4) buffer new in
    let edited : EditedValue =
    record { original_len = p.original_len; packet = slice_range after 4 (4 + length p.packet) } in
    let bytes : slice_range after 4 (4 + length p.packet) ≡ new ++ drop (length frame) p.packet =
    replaced_front buffer new p.packet (length frame) 0 room there front.0 same (omega arith) in
    let sets = subst (λ (l : List ℕ). SetsTag x l some.0 some.1 index (with_id id) new) here done.1 in
    let edited_is : edited ≡ with_frame p frame new p.original_len =
    λ i. record { original_len = p.original_len; packet = bytes i } in
    record {
      next = next_of start;
      frame = frame;
      headers = some.0;
      ending = some.1;
      index = index;
      changed = new;
      is_frame = record { content = is; walk = some.2 };
      finds = done.0;
      set = sets;
      is = edited_is;
      content =
          ap (λ (e : EditedValue). content_of (edited_packet e p)) edited_is
          ∙ content_after p (next_of start) frame new p.original_len is (keeps_end_same p frame new same front.0)
          (set_usual (next_of start) frame some.0 some.1 index id new ok sets);
    }

pub set_refused : (p : PacketValue) (start : PeelStart) (frame buffer : List ℕ) (old id : ℕ) → IsBytes frame
    → content_of p ≡ Frame (next_of start) frame → slice_range buffer 4 (4 + length p.packet) ≡ p.packet
    → ((hs : List Header) (e : Ending) → Walk (start_of start) (slice_range buffer 4 (4 + length frame)) hs e
    → LacksVlan hs old)
    → Edits (SetVlan old id) p None
set_refused p start frame buffer old id ok is there lacks =
    let front = frame_front p (next_of start) frame is in
    let here = front_there buffer p.packet frame there front.0 front.1 in
    let x = frame_start (next_of start) in
    let some = some_stack frame x (whole x frame) ok in
    not_set p old id
    (refused (next_of start) frame some.0 some.1 (record { content = is; walk = some.2 })
    (lacks some.0 some.1 (subst (λ (l : List ℕ). Walk x l some.0 some.1) (sym here) some.2)))
