-- What an edit makes of the frame of a captured packet.
use Rattle.std.proofs.Common.{◌≡◌, ℕ, zero, suc, ◌+◌, ◌-◌, ◌≤◌, List, [], ◌∷◌, ◌++◌, length, take, drop, Bool, true, false, None, refl, sym, ap, subst, ◌∙◌, arith, inl, inr, append-nil, length-append, length-drop}
use Rattle.std.specs.Prelude.{◌≢◌, slice_range, max, nat_lt, nat_eq, not, ◌&&◌, if◌then◌else◌}
use borrow.Rule.Slice.PartMut.{put_mid, post_of}
use Rattle.std.proofs.lemmas.Bool.{cases_lt, lt-ltb, le-ltb}
use Rattle.std.proofs.lemmas.List.{length-take-le, take-take, take_all, take_at, drop-drop, drop-append-le}
use Rattle.std.proofs.Math.Seq.{take-append-add}
use Rattle.ether_base.specs.Bytes.{IsBytes}
use Rattle.ether_base.proofs.Numbers.{IsBytes-append, IsBytes-spelled}
use Rattle.ether_base.proofs.SubLists.{IsBytes-take, IsBytes-drop, IsBytes-part, part_join, rest_of_part}
use Rattle.etherparse.specs.Bytes.{spelled}
use Rattle.etherparse.specs.Header.{Header, header_len}
use Rattle.etherparse.specs.Header as headers
use Rattle.etherparse.specs.LinuxSll.{linux_sll_of}
use Rattle.etherparse.specs.Kind as kinds
use Rattle.etherparse.specs.Vlan.{VlanValue, vlan_bytes}
use Rattle.ether_peel.specs.Grammar.Expectation.{Next, Start}
use Rattle.ether_peel.specs.Grammar.Places.{moved_ending}
use Rattle.ether_peel.specs.Grammar.Stack.{Ending, Walk, whole}
use Rattle.ether_peel.proofs.Grammar.Stacks.{some_stack}
use Rattle.ether_peel.specs.Walker.Start.{start_of, next_of}
use Rattle.ether_peel.specs.declared.start.Start.{Start as PeelStart}
use Rattle.ether_packet.specs.TypedLink.{with_type, type_of_link}
use Rattle.ether_packet.specs.Popping.{IsPopped, RefusesPop}
use Rattle.ether_packet.specs.Pushing.{IsPushed, RefusesPush, pushed_bytes}
use Rattle.ether_packet.specs.declared.tag_error.TagError.{TagError}
use Rattle.ether_packet.proofs.TypedLinks.{means_whole_list, len_kept, link_least}
use Rattle.ether_pcap.proofs.EditUnits.{part_past}
use Rattle.ether_pcap.specs.Capture.{PacketValue}
use Rattle.ether_pcap.specs.Editing.{EditedValue, edited_packet}
use Rattle.ether_content.specs.Content.{ContentValue, Frame, LinuxSll, LinuxSll2, Unknown, content_of, is_cut, fcs_len, has_fcs, has_other_hardware, without_fcs}
use Rattle.ether_content.specs.ContentViews.{content_view}
use Rattle.ether_content.specs.Editing.{PopVlan, PushVlan, Edits, with_frame, frame_start, Pops, Pushes, tag_with, after_free, refused, not_popped, not_pushed}
use Rattle.ether_content.specs.declared.content.Content.{Content}
use Rattle.ether_content.specs.declared.content.Content.TheVariants as contents
use Rattle.ether_content.proofs.CookedLemmas.{walked_usual, written_bytes}

-- ---- the frame of a packet

-- what is walked, by the link type, whether a packet of cooked capture v1 is no frame, whether a whole check sequence
-- is there, all bytes, and those without it
abbrev pub content_by : (ethernet cooked other cooked2 fcs : Bool) → (all without : List ℕ) → ContentValue
content_by ethernet cooked other cooked2 fcs all without =
    if ethernet then (if fcs then Frame (Start kinds.Ethernet2Fcs) all else Frame (Start kinds.Ethernet2) without)
    else (if cooked
    then (if other then LinuxSll (linux_sll_of without) (slice_range without 16 (length without))
    else Frame (Start kinds.LinuxSll) without)
    else (if cooked2 then LinuxSll2 without else Unknown))

pub framed : (start next : Next) (bytes frame : List ℕ) → Frame start bytes ≡ Frame next frame
    → (start ≡ next) × (bytes ≡ frame)
framed start next bytes frame is = let a : start ≡ next = cc in let b : bytes ≡ frame = cc in (a, b)

-- what is so of all bytes, and of those without a check sequence, is so of a frame
frame_by : (a b o c d : Bool) (all without : List ℕ) (next : Next) (frame : List ℕ) (P : List ℕ → Type 0)
    → content_by a b o c d all without ≡ Frame next frame → P all → P without → P frame
frame_by true b o c true all without next frame P is p q = subst P (framed _ next all frame is).1 p
frame_by true b o c false all without next frame P is p q = subst P (framed _ next without frame is).1 q
frame_by false true true c d all without next frame P is p q = absurd cc
frame_by false true false c d all without next frame P is p q = subst P (framed _ next without frame is).1 q
frame_by false false o true d all without next frame P is p q = absurd cc
frame_by false false o false d all without next frame P is p q = absurd cc

-- another frame in its place
frame_after : (a b o o2 c d : Bool) (all without all2 without2 : List ℕ) (next : Next) (frame new : List ℕ)
    → content_by a b o c d all without ≡ Frame next frame → (all ≡ frame → all2 ≡ new)
    → (without ≡ frame → without2 ≡ new) → (without ≡ frame → Start kinds.LinuxSll ≡ next → o2 ≡ false)
    → content_by a b o2 c d all2 without2 ≡ Frame next new
frame_after true b o o2 c true all without all2 without2 next frame new is f g usual =
    let s = framed _ next all frame is in
    ap (λ (n : Next). Frame n all2) s.0 ∙ ap (Frame next) (f s.1)
frame_after true b o o2 c false all without all2 without2 next frame new is f g usual =
    let s = framed _ next without frame is in
    ap (λ (n : Next). Frame n without2) s.0 ∙ ap (Frame next) (g s.1)
frame_after false true true o2 c d all without all2 without2 next frame new is f g usual = absurd cc
frame_after false true false o2 c d all without all2 without2 next frame new is f g usual =
    let s = framed _ next without frame is in
    ap (λ (b : Bool). content_by false true b c d all2 without2) (usual s.1 s.0)
    ∙ ap (λ (n : Next). Frame n without2) s.0 ∙ ap (Frame next) (g s.1)
frame_after false false o o2 true d all without all2 without2 next frame new is f g usual = absurd cc
frame_after false false o o2 false d all without all2 without2 next frame new is f g usual = absurd cc

-- the front of a list
abbrev IsFront : (list front : List ℕ) → Type 0
IsFront list front = (length front ≤ length list) × (take (length front) list ≡ front)

front_taken : (n : ℕ) (list : List ℕ) → IsFront list (take n list)
front_taken n list =
    elim (cases_lt n (length list)) [
      | inl lt ↦ let len = length-take-le n list (omega (arith, lt)) in
          (omega (arith, len, lt), ap (λ (k : ℕ). take k list) len)
      | inr le ↦ let all = take_all n list le in
          subst (IsFront list) (sym all) (omega arith, take_all (length list) list (omega arith))
    ]

-- a frame is the front of its packet
pub frame_front : (p : PacketValue) (next : Next) (frame : List ℕ) → content_of p ≡ Frame next frame
    → (length frame ≤ length p.packet) × (take (length frame) p.packet ≡ frame)
frame_front p next frame is =
    frame_by (nat_eq p.link_type 1) (nat_eq p.link_type 113) (has_other_hardware (without_fcs p))
    (nat_eq p.link_type 276) (has_fcs p) p.packet (without_fcs p) next frame (IsFront p.packet) is
    (omega arith, take_all (length p.packet) p.packet (omega arith))
    (front_taken (max p.original_len (length p.packet) - fcs_len p) p.packet)

-- ---- the content of a packet with another frame

-- it is as long as before, but for some bytes of the frame: at its end what was cut, or follows the frame, is as before
pub record KeepsEnd (p : PacketValue) (frame new : List ℕ) (original_len : ℕ) : Type 0 where
  pub same_cut : nat_lt (length new + (length p.packet - length frame)) original_len ≡ is_cut p
  pub exact : without_fcs p ≡ frame → max p.original_len (length p.packet) - fcs_len p ≤ length p.packet
      → max original_len (length new + (length p.packet - length frame)) - fcs_len p ≡ length new
  pub at_least : without_fcs p ≡ frame → length p.packet ≤ max p.original_len (length p.packet) - fcs_len p
      → length new ≤ max original_len (length new + (length p.packet - length frame)) - fcs_len p

pub content_after : (p : PacketValue) (next : Next) (frame new : List ℕ) (original_len : ℕ)
    → content_of p ≡ Frame next frame → KeepsEnd p frame new original_len
    → (Start kinds.LinuxSll ≡ next → has_other_hardware new ≡ false)
    → content_of (edited_packet (with_frame p frame new original_len) p) ≡ Frame next new
content_after p next frame new original_len is keeps usual =
    let rest = drop (length frame) p.packet in
    let packet = new ++ rest in
    let q = edited_packet (with_frame p frame new original_len) p in
    let n = length-append new rest in
    let m = length-drop (length frame) p.packet in
    let len : length packet ≡ length new + (length p.packet - length frame) = omega (arith, n, m) in
    let cut : is_cut q ≡ is_cut p = ap (λ (k : ℕ). nat_lt k original_len) len ∙ keeps.same_cut in
    let fcs : has_fcs q ≡ has_fcs p = ap (λ (b : Bool). not b && nat_eq (fcs_len p) 4) cut in
    let t = max p.original_len (length p.packet) - fcs_len p in
    let t2 = max original_len (length packet) - fcs_len p in
    let t2_is = ap (λ (k : ℕ). max original_len k - fcs_len p) len in
    let none : length p.packet ≤ length frame → rest ≡ [] =
    λ le. no_items rest (omega (arith, m, le)) in
    let whole : p.packet ≡ frame → packet ≡ new =
    λ same. let k = ap length same in
    ap (λ (l : List ℕ). new ++ l) (none (omega (arith, k))) ∙ append-nil new in
    let part : without_fcs p ≡ frame → without_fcs q ≡ new =
    λ same. elim (cases_lt t (length p.packet)) [
      | inl lt ↦ let e = t2_is ∙ keeps.exact same (omega (arith, lt)) in
          take_at new rest t2 (sym e)
      | inr le ↦
          let k : p.packet ≡ frame = sym (take_all t p.packet le) ∙ same in
          let long = keeps.at_least same le in
          ap (take t2) (whole k) ∙ take_all t2 new (omega (arith, t2_is, long))
    ] in
    let cooked = nat_eq p.link_type 113 in
    let cooked2 = nat_eq p.link_type 276 in
    let other = has_other_hardware (without_fcs q) in
    ap (λ (b : Bool). content_by (nat_eq p.link_type 1) cooked other cooked2 b packet (without_fcs q)) fcs
    ∙ frame_after (nat_eq p.link_type 1) cooked (has_other_hardware (without_fcs p)) other cooked2 (has_fcs p) p.packet
    (without_fcs p) packet (without_fcs q) next frame new is whole part
    (λ same begins. ap has_other_hardware (part same) ∙ usual begins)
  where
    no_items : (list : List ℕ) → length list ≡ 0 → list ≡ []
    no_items [] e = refl
    no_items (x ∷ list) e = absurd cc

less_cut : (n o : ℕ) → 4 ≤ n → nat_lt (n - 4) (o - 4) ≡ nat_lt n o
less_cut n o le =
    elim (cases_lt n o) [
      | inl lt ↦ lt-ltb (n - 4) (o - 4) (omega (arith, lt, le)) ∙ sym (lt-ltb n o lt)
      | inr more ↦ le-ltb (n - 4) (o - 4) (omega (arith, more, le)) ∙ sym (le-ltb n o more)
    ]

less_max : (n o : ℕ) → max (o - 4) (n - 4) ≡ max o n - 4
less_max n o = omega arith

-- with four bytes less
pub keeps_end_less : (p : PacketValue) (frame new : List ℕ) → length new + 4 ≡ length frame
    → length frame ≤ length p.packet → KeepsEnd p frame new (p.original_len - 4)
keeps_end_less p frame new less front =
    let n = length p.packet in
    let o = p.original_len in
    let t = max o n - fcs_len p in
    let len : length new + (n - length frame) ≡ n - 4 = omega (arith, less, front) in
    let most : max (o - 4) (length new + (n - length frame)) ≡ max o n - 4 =
    ap (max (o - 4)) len ∙ less_max n o in
    record {
      same_cut = ap (λ (k : ℕ). nat_lt k (o - 4)) len ∙ less_cut n o (omega (arith, less, front));
      exact = λ part le. let k = sym (length-take-le t p.packet le) ∙ ap length part in omega (arith, most, k, less);
      at_least = λ part le. let k = ap length (sym (take_all t p.packet le) ∙ part) in omega (arith, most, k, less, le);
    }

-- ---- in a buffer

-- a packet after four bytes of a buffer, where another frame replaces the one at the front
pub replaced_front : (buffer new packet : List ℕ) (k s : ℕ) → 4 + length packet ≤ length buffer
    → slice_range buffer 4 (4 + length packet) ≡ packet → k ≤ length packet → length new ≡ k → s ≤ k
    → slice_range (put_mid 4 (4 + k - 4) buffer new) (4 + s) (4 + length packet) ≡ drop s new ++ drop k packet
replaced_front buffer new packet k s room is within len small =
    let n = length packet in
    let front = take 4 buffer in
    let kk : 4 + k - 4 ≡ k = omega arith in
    let post = post_of 4 (4 + k - 4) buffer in
    let four : length front ≡ 4 = length-take-le 4 buffer (omega (arith, room)) in
    let part : slice_range (front ++ (new ++ post)) (4 + s) (4 + n) ≡ slice_range (new ++ post) s n =
    part_past front (new ++ post) 4 (4 + s) (4 + n) s n four refl refl in
    let rest : drop s (new ++ post) ≡ drop s new ++ post = drop-append-le s new post (omega (arith, len, small)) in
    let left = length-drop s new in
    let split : n - s ≡ length (drop s new) + (n - k) = omega (arith, left, len, small, within) in
    let post_is : post ≡ drop (4 + k) buffer =
    ap (λ (j : ℕ). drop j (drop 4 buffer)) kk ∙ drop-drop k 4 buffer
    ∙ ap (λ (j : ℕ). drop j buffer) (the_sum k) in
    let tail : take (n - k) post ≡ drop k packet =
    ap (take (n - k)) post_is ∙ ap (λ (j : ℕ). take j (drop (4 + k) buffer)) (less n k)
    ∙ sym (rest_of_part buffer 4 (4 + n) k (omega (arith, within))) ∙ ap (drop k) is in
    part ∙ ap (take (n - s)) rest ∙ ap (λ (j : ℕ). take j (drop s new ++ post)) split
    ∙ take-append-add (drop s new) post (n - k) ∙ ap (λ (l : List ℕ). drop s new ++ l) tail
  where
    the_sum : (k : ℕ) → 4 + k ≡ 4 + k
    the_sum k = refl

    less : (n k : ℕ) → n - k ≡ 4 + n - (4 + k)
    less n k = omega arith

-- a part of it is there
pub front_there : (buffer packet frame : List ℕ) → slice_range buffer 4 (4 + length packet) ≡ packet
    → length frame ≤ length packet → take (length frame) packet ≡ frame
    → slice_range buffer 4 (4 + length frame) ≡ frame
front_there buffer packet frame is le front =
    let a : 4 + length frame - 4 ≡ length frame = omega arith in
    let b : 4 + length packet - 4 ≡ length packet = omega arith in
    ap (λ (k : ℕ). take k (drop 4 buffer)) a
    ∙ sym (take-take (length frame) (length packet) (drop 4 buffer) le)
    ∙ ap (λ (k : ℕ). take (length frame) (take k (drop 4 buffer))) (sym b)
    ∙ ap (take (length frame)) is ∙ front

-- ---- a VLAN tag that is taken off

-- the header of the link is in the new frame
pub popped_room : (next : Next) (frame : List ℕ) (hs : List Header) (e : Ending) (tag : VlanValue) (new : List ℕ)
    → IsPopped (frame_start next) frame hs e tag new → 14 ≤ length (drop 4 new)
popped_room next frame hs e tag new is =
    let h = with_type is.link tag.ether_type in
    let m = means_whole_list (frame_start next) (drop 4 new) h is.walk.0 in
    let len = len_kept is.link tag.ether_type is.begins.is_link in
    let least = link_least is.link is.begins.is_link in
    omega (arith, m.whole, len, least)

pub popped_usual : (next : Next) (frame : List ℕ) (hs : List Header) (e : Ending) (tag : VlanValue) (new : List ℕ)
    → IsBytes frame → IsPopped (frame_start next) frame hs e tag new → Start kinds.LinuxSll ≡ next
    → has_other_hardware (drop 4 new) ≡ false
popped_usual next frame hs e tag new ok is =
    let m = header_len is.link - 2 in
    let bytes = subst IsBytes (sym is.bytes) (written_bytes frame (take m frame) 4 ok (IsBytes-take m frame ok)) in
    walked_usual next (drop 4 new) (with_type is.link tag.ether_type) is.later
    (moved_ending (header_len is.link + 4) (header_len is.link) e) (IsBytes-drop 4 new bytes) is.walk

pub record PopDone (p : PacketValue) (after : List ℕ) : Type 0 where
  pub pops : Pops p (record { original_len = p.original_len - 4; packet = slice_range after 8 (4 + length p.packet) })
  pub least : 8 ≤ 4 + length p.packet

pub pop_done : (p : PacketValue) (start : PeelStart) (frame buffer new : List ℕ) (tag : VlanValue) → IsBytes frame
    → content_of p ≡ Frame (next_of start) frame → 4 + length p.packet ≤ length buffer
    → slice_range buffer 4 (4 + length p.packet) ≡ p.packet
    → length new ≡ length (slice_range buffer 4 (4 + length frame))
    → ((hs : List Header) (e : Ending) → Walk (start_of start) (slice_range buffer 4 (4 + length frame)) hs e
    → IsPopped (start_of start) (slice_range buffer 4 (4 + length frame)) hs e tag new)
    → PopDone p (put_mid 4 (4 + length frame - 4) buffer new)
pop_done p start frame buffer new tag ok is room there len popped =
    let front = frame_front p (next_of start) frame is in
    let here = front_there buffer p.packet frame there front.0 front.1 in
    let same : length new ≡ length frame = len ∙ ap length here in
    let x = frame_start (next_of start) in
    let some = some_stack frame x (whole x frame) ok in
    let is_popped : IsPopped x frame some.0 some.1 tag new =
    subst (λ (l : List ℕ). IsPopped x l some.0 some.1 tag new) here
    (popped some.0 some.1 (subst (λ (l : List ℕ). Walk x l some.0 some.1) (sym here) some.2)) in
    let least = popped_room (next_of start) frame some.0 some.1 tag new is_popped in
    let shorter = length-drop 4 new in
    let after = put_mid 4 (4 + length frame - 4) buffer new in
    let edited : EditedValue =
    record { original_len = p.original_len - 4; packet = slice_range after 8 (4 + length p.packet) } in
    let bytes : slice_range after 8 (4 + length p.packet) ≡ drop 4 new ++ drop (length frame) p.packet =
    replaced_front buffer new p.packet (length frame) 4 room there front.0 same (omega (arith, same, shorter, least)) in
    let edited_is : edited ≡ with_frame p frame (drop 4 new) (p.original_len - 4) =
    λ i. record { original_len = p.original_len - 4; packet = bytes i } in
    let keeps = keeps_end_less p frame (drop 4 new) (omega (arith, same, shorter, least)) front.0 in
    record {
      pops =
          record {
            next = next_of start;
            frame = frame;
            headers = some.0;
            ending = some.1;
            tag = tag;
            new = new;
            is_frame = record { content = is; walk = some.2 };
            popped = is_popped;
            is = edited_is;
            content =
                ap (λ (e : EditedValue). content_of (edited_packet e p)) edited_is
                ∙ content_after p (next_of start) frame (drop 4 new) (p.original_len - 4) is keeps
                (popped_usual (next_of start) frame some.0 some.1 tag new ok is_popped);
          };
      least = omega (arith, front.0, same, shorter, least);
    }

pub not_framed : (c : Content) → ((start : PeelStart) → (bytes : _) → c ≡ contents.Frame start bytes → ⊥)
    → (next : Next) (frame : List ℕ) → content_view c ≢ Frame next frame
not_framed (contents.Frame start bytes) not next frame is = not start bytes refl
not_framed (contents.LinuxSll2 bytes) not next frame is = absurd cc
not_framed (contents.LinuxSll header payload) not next frame is = absurd cc
not_framed contents.Unknown not next frame is = absurd cc

pub pop_refused : (p : PacketValue) (start : PeelStart) (frame buffer : List ℕ) (error : TagError) → IsBytes frame
    → content_of p ≡ Frame (next_of start) frame → slice_range buffer 4 (4 + length p.packet) ≡ p.packet
    → ((hs : List Header) (e : Ending) → Walk (start_of start) (slice_range buffer 4 (4 + length frame)) hs e
    → RefusesPop hs error)
    → Edits PopVlan p None
pop_refused p start frame buffer error ok is there refuses =
    let front = frame_front p (next_of start) frame is in
    let here = front_there buffer p.packet frame there front.0 front.1 in
    let x = frame_start (next_of start) in
    let some = some_stack frame x (whole x frame) ok in
    not_popped p
    (refused (next_of start) frame some.0 some.1 (record { content = is; walk = some.2 })
    (error, refuses some.0 some.1 (subst (λ (l : List ℕ). Walk x l some.0 some.1) (sym here) some.2)))

-- a list is as long as it was once a part of it was written
pub put_len : (a k : ℕ) (xs ys : List ℕ) → a + k ≤ length xs → length ys ≡ k → length (put_mid a k xs ys) ≡ length xs
put_len a k xs ys fits is =
    let first = length-append (take a xs) (ys ++ post_of a k xs) in
    let second = length-append ys (post_of a k xs) in
    let t = length-take-le a xs (omega (arith, fits)) in
    let d : length (post_of a k xs) ≡ length (drop a xs) - k = length-drop k (drop a xs) in
    first ∙ omega (arith, fits, is, second, t, d, length-drop a xs)

-- ---- a VLAN tag that is put in

more_cut : (n o : ℕ) → nat_lt (n + 4) (o + 4) ≡ nat_lt n o
more_cut n o =
    elim (cases_lt n o) [
      | inl lt ↦ lt-ltb (n + 4) (o + 4) (omega (arith, lt)) ∙ sym (lt-ltb n o lt)
      | inr more ↦ le-ltb (n + 4) (o + 4) (omega (arith, more)) ∙ sym (le-ltb n o more)
    ]

more_max : (n o : ℕ) → max (o + 4) (n + 4) ≡ max o n + 4
more_max n o = omega arith

-- with four bytes more
pub keeps_end_more : (p : PacketValue) (frame new : List ℕ) → length new ≡ length frame + 4 → 1 ≤ length frame
    → length frame ≤ length p.packet → KeepsEnd p frame new (p.original_len + 4)
keeps_end_more p frame new more least front =
    let n = length p.packet in
    let o = p.original_len in
    let t = max o n - fcs_len p in
    let len : length new + (n - length frame) ≡ n + 4 = omega (arith, more, front) in
    let most : max (o + 4) (length new + (n - length frame)) ≡ max o n + 4 =
    ap (max (o + 4)) len ∙ more_max n o in
    record {
      same_cut = ap (λ (k : ℕ). nat_lt k (o + 4)) len ∙ more_cut n o;
      exact = λ part le. let k = sym (length-take-le t p.packet le) ∙ ap length part in
          omega (arith, most, k, more, least);
      at_least = λ part le. let k = ap length (sym (take_all t p.packet le) ∙ part) in
          omega (arith, most, k, more, least, le);
    }

-- the packet in a buffer whose first bytes another frame replaces
replaced_whole : (buffer new packet : List ℕ) (k : ℕ) → 4 + length packet ≤ length buffer
    → slice_range buffer 4 (4 + length packet) ≡ packet → k ≤ length packet → length new ≡ k + 4
    → slice_range (new ++ drop (4 + k) buffer) 0 (4 + length packet) ≡ new ++ drop k packet
replaced_whole buffer new packet k room is within len =
    let n = length packet in
    let post = drop (4 + k) buffer in
    let whole : 4 + n - 0 ≡ length new + (n - k) = omega (arith, len, within) in
    let less : n - k ≡ 4 + n - (4 + k) = omega arith in
    let tail : take (n - k) post ≡ drop k packet =
    ap (λ (j : ℕ). take j (drop (4 + k) buffer)) less
    ∙ sym (rest_of_part buffer 4 (4 + n) k (omega (arith, within))) ∙ ap (drop k) is in
    ap (λ (j : ℕ). take j (new ++ post)) whole ∙ take-append-add new post (n - k)
    ∙ ap (λ (l : List ℕ). new ++ l) tail

-- the free bytes and the frame
pub free_there : (buffer packet frame : List ℕ) → take 4 buffer ≡ 0 ∷ 0 ∷ 0 ∷ 0 ∷ []
    → slice_range buffer 4 (4 + length packet) ≡ packet → length frame ≤ length packet
    → take (length frame) packet ≡ frame → take (4 + length frame) buffer ≡ after_free frame
free_there buffer packet frame free is le front =
    let all : 4 + length frame - 0 ≡ 4 + length frame = omega arith in
    ap (λ (k : ℕ). take k buffer) (sym all)
    ∙ sym (part_join buffer 0 4 (4 + length frame) (omega arith) (omega arith))
    ∙ ap (λ (l : List ℕ). l ++ slice_range buffer 4 (4 + length frame)) free
    ∙ ap after_free (front_there buffer packet frame is le front)

-- the header of the link is in the frame
linked_room : (next : Next) (frame : List ℕ) (hs : List Header) (e : Ending) (tag : VlanValue) (tpid : ℕ)
    (new : List ℕ)
    → Walk (frame_start next) frame hs e → IsPushed (frame_start next) (after_free frame) hs e tag tpid new
    → 14 ≤ length frame
linked_room next frame hs e tag tpid new walk is =
    let split = subst (λ (l : List Header). Walk (frame_start next) frame l e) is.begins.parts walk in
    let m = means_whole_list (frame_start next) frame is.link split.0 in
    let least = link_least is.link is.begins.is_link in
    omega (arith, m.whole, least)

free_bytes : (frame : List ℕ) → IsBytes frame → IsBytes (after_free frame)
free_bytes frame ok zero = omega arith
free_bytes frame ok (suc zero) = omega arith
free_bytes frame ok (suc (suc zero)) = omega arith
free_bytes frame ok (suc (suc (suc zero))) = omega arith
free_bytes frame ok (suc (suc (suc (suc i)))) = ok i

pub pushed_bytes_fit : (next : Next) (frame : List ℕ) (hs : List Header) (e : Ending) (tag : VlanValue) (tpid : ℕ)
    (new : List ℕ)
    → IsBytes frame → IsPushed (frame_start next) (after_free frame) hs e tag tpid new → IsBytes new
pushed_bytes_fit next frame hs e tag tpid new ok is =
    let n = header_len is.link + 2 in
    let old = free_bytes frame ok in
    let front = slice_range (after_free frame) 4 n in
    let four = pushed_bytes tpid tag in
    let four_bytes =
    IsBytes-append (spelled 2 tpid) (slice_range (vlan_bytes tag) 0 2) (IsBytes-spelled 2 tpid)
    (IsBytes-part 0 2 (vlan_bytes tag) (IsBytes-spelled 4 _)) in
    subst IsBytes (sym is.bytes)
    (written_bytes (after_free frame) (front ++ four) 0 old
    (IsBytes-append front four (IsBytes-part 4 n (after_free frame) old) four_bytes))

pub pushed_usual : (next : Next) (frame : List ℕ) (hs : List Header) (e : Ending) (tag : VlanValue) (tpid : ℕ)
    (new : List ℕ)
    → IsBytes frame → IsPushed (frame_start next) (after_free frame) hs e tag tpid new
    → Start kinds.LinuxSll ≡ next → has_other_hardware new ≡ false
pushed_usual next frame hs e tag tpid new ok is =
    let inner = headers.Vlan (record tag { ether_type = type_of_link is.link }) in
    walked_usual next new (with_type is.link tpid) (inner ∷ is.later)
    (moved_ending (header_len is.link) (header_len is.link + 4) e)
    (pushed_bytes_fit next frame hs e tag tpid new ok is) is.walk

pub record PushDone (tpid id : ℕ) (p : PacketValue) (after : List ℕ) : Type 0 where
  pub pushes : Pushes tpid id p
      (record { original_len = p.original_len + 4; packet = slice_range after 0 (4 + length p.packet) })

pub push_done : (p : PacketValue) (start : PeelStart) (frame buffer new : List ℕ) (tpid id : ℕ) → IsBytes frame
    → content_of p ≡ Frame (next_of start) frame → 4 + length p.packet ≤ length buffer
    → take 4 buffer ≡ 0 ∷ 0 ∷ 0 ∷ 0 ∷ [] → slice_range buffer 4 (4 + length p.packet) ≡ p.packet
    → length new ≡ length (take (4 + length frame) buffer)
    → ((hs : List Header) (e : Ending) → Walk (start_of start) (drop 4 (take (4 + length frame) buffer)) hs e
    → IsPushed (start_of start) (take (4 + length frame) buffer) hs e (tag_with id) tpid new)
    → PushDone tpid id p (new ++ drop (4 + length frame) buffer)
push_done p start frame buffer new tpid id ok is room free there len pushed =
    let front = frame_front p (next_of start) frame is in
    let here = free_there buffer p.packet frame free there front.0 front.1 in
    let same : length new ≡ length frame + 4 = len ∙ ap length here ∙ omega arith in
    let x = frame_start (next_of start) in
    let some = some_stack frame x (whole x frame) ok in
    let is_pushed : IsPushed x (after_free frame) some.0 some.1 (tag_with id) tpid new =
    subst (λ (l : List ℕ). IsPushed x l some.0 some.1 (tag_with id) tpid new) here
    (pushed some.0 some.1 (subst (λ (l : List ℕ). Walk x (drop 4 l) some.0 some.1) (sym here) some.2)) in
    let least = linked_room (next_of start) frame some.0 some.1 (tag_with id) tpid new some.2 is_pushed in
    let after = new ++ drop (4 + length frame) buffer in
    let bytes : slice_range after 0 (4 + length p.packet) ≡ new ++ drop (length frame) p.packet =
    replaced_whole buffer new p.packet (length frame) room there front.0 same in
    let edited : EditedValue =
    record { original_len = p.original_len + 4; packet = slice_range after 0 (4 + length p.packet) } in
    let edited_is : edited ≡ with_frame p frame new (p.original_len + 4) =
    λ i. record { original_len = p.original_len + 4; packet = bytes i } in
    let keeps = keeps_end_more p frame new same (omega (arith, least)) front.0 in
    record {
      pushes =
          record {
            next = next_of start;
            frame = frame;
            headers = some.0;
            ending = some.1;
            new = new;
            is_frame = record { content = is; walk = some.2 };
            pushed = is_pushed;
            is = edited_is;
            content =
                ap (λ (e : EditedValue). content_of (edited_packet e p)) edited_is
                ∙ content_after p (next_of start) frame new (p.original_len + 4) is keeps
                (pushed_usual (next_of start) frame some.0 some.1 (tag_with id) tpid new ok is_pushed);
          };
    }

pub push_refused : (p : PacketValue) (start : PeelStart) (frame buffer : List ℕ) (tpid id : ℕ) (error : TagError)
    → IsBytes frame → content_of p ≡ Frame (next_of start) frame → take 4 buffer ≡ 0 ∷ 0 ∷ 0 ∷ 0 ∷ []
    → slice_range buffer 4 (4 + length p.packet) ≡ p.packet
    → ((hs : List Header) (e : Ending) → Walk (start_of start) (drop 4 (take (4 + length frame) buffer)) hs e
    → RefusesPush (take (4 + length frame) buffer) hs tpid error)
    → Edits (PushVlan tpid id) p None
push_refused p start frame buffer tpid id error ok is free there refuses =
    let front = frame_front p (next_of start) frame is in
    let here = free_there buffer p.packet frame free there front.0 front.1 in
    let x = frame_start (next_of start) in
    let some = some_stack frame x (whole x frame) ok in
    not_pushed p tpid id
    (refused (next_of start) frame some.0 some.1 (record { content = is; walk = some.2 }) (
      error,
      subst (λ (l : List ℕ). RefusesPush l some.0 tpid error) here
          (refuses some.0 some.1 (subst (λ (l : List ℕ). Walk x (drop 4 l) some.0 some.1) (sym here) some.2)),
    ))
