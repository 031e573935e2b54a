-- A packet with a frame check sequence needs as many bytes as the packet without it.
use Rattle.std.proofs.Common.{◌≡◌, ℕ, ◌+◌, ◌<◌, ◌≤◌, List, ◌++◌, length, refl, sym, ap, ◌∙◌, arith, false, inl, inr}
use Rattle.std.proofs.lemmas.List.{length-append, length-take, take_all}
use Rattle.etherparse.specs.Bytes.{IsBytes}
use Rattle.ether_filter.specs.declared.packet.Packet.{Packet}
use Rattle.ether_filter.specs.declared.primitive.Primitive.{Primitive}
use Rattle.ether_filter.specs.CutWalks.{frame_total}
use Rattle.ether_filter.specs.Deciding.{is_of_lengths}
use Rattle.ether_filter.specs.Needed.{HasMore, IsUndecided, IsDecided, IsLeast}
use Rattle.ether_filter.specs.WithoutFcs.{IsWithoutFcs}
use Rattle.ether_filter.proofs.Waiting.{undecided_cut}
use Rattle.ether_filter.proofs.WithoutFcs.{some_match, some_fail}

-- a packet with these bytes more
abbrev with_more : Packet → (longer : Packet) → List ℕ → Packet
with_more packet longer more = record {
  start = packet.start;
  frame = longer.frame;
  captured_len = packet.captured_len + length more;
  original_len = packet.original_len;
  time = packet.time;
}

-- if some of the missing bytes are before the check sequence, both have the same frame
frame_is : (packet plain : Packet) → IsWithoutFcs packet plain → plain.captured_len < plain.original_len
    → plain.frame.now ≡ packet.frame.now
frame_is packet plain w cut =
    let len = ap length w.frame ∙ length-take (frame_total plain) packet.frame.now in
    let total = w.total in
    w.frame ∙ take_all (frame_total plain) packet.frame.now (omega arith)

-- .. so both go on alike
record GoOn (packet plain longer other : Packet) : Type 0 where
  without : IsWithoutFcs longer other
  longer_more : HasMore packet longer
  other_more : HasMore plain other

go_on : (packet plain longer other : Packet) (more : List ℕ) → IsWithoutFcs packet plain
    → plain.captured_len < plain.original_len → IsBytes longer.frame.now → longer.start ≡ packet.start
    → other.start ≡ plain.start → other.frame.now ≡ longer.frame.now → longer.frame.now ≡ packet.frame.now ++ more
    → longer.captured_len ≡ packet.captured_len + length more → longer.original_len ≡ packet.original_len
    → other.captured_len ≡ plain.captured_len + length more → other.original_len ≡ plain.original_len
    → longer.time ≡ packet.time → other.time ≡ plain.time
    → length longer.frame.now ≤ frame_total plain → GoOn packet plain longer other
go_on packet plain longer other more w cut ok start plain_start frame is captured original also_captured also_original
    time also_time le =
    let same = frame_is packet plain w cut in
    let len = ap length is ∙ length-append packet.frame.now more in
    let lens = ap length same in
    let frames = ap length frame in
    let total = w.total in
    let room = w.room in
    let total_is : frame_total other ≡ frame_total plain = omega arith in
    record {
      without = record {
        with_fcs = start ∙ w.with_fcs;
        without_fcs = plain_start ∙ w.without_fcs;
        total = omega arith;
        room = omega arith;
        frame = frame ∙ sym (take_all (frame_total other) longer.frame.now (omega arith));
      };
      longer_more = record {
        captures =
            record { more = more; start = start; frame = is; captured = captured; original = original; time = time };
        are_bytes = ok;
        within = omega arith;
      };
      other_more = record {
        captures = record {
          more = more;
          start = plain_start;
          frame = frame ∙ is ∙ ap (λ (l : List ℕ). l ++ more) (sym same);
          captured = also_captured;
          original = also_original;
          time = also_time;
        };
        are_bytes = λ i. rw frame (ok i);
        within = omega arith;
      };
    }

-- what is needed lies before the check sequence
pub needed_before : (plain : Packet) (p : Primitive) (n : ℕ) → IsLeast plain p n → n ≤ frame_total plain
needed_before plain p n least =
    let w = least.decides in
    let by = w.1.captures in
    let len = ap length by.frame ∙ length-append plain.frame.now by.more in
    let n_is = w.2 in
    let captured = by.captured in
    let original = by.original in
    let within = w.1.within in
    omega arith

pub least_without : (packet plain : Packet) (p : Primitive) (n : ℕ) → IsBytes packet.frame.now
    → is_of_lengths p ≡ false → IsWithoutFcs packet plain → IsUndecided plain p → IsLeast plain p n
    → IsLeast packet p n
least_without packet plain p n ok no_lengths w u least = record { stays = stays; decides = decides }
  where
    cut : plain.captured_len < plain.original_len
    cut = undecided_cut plain p u

    stays : (longer : Packet) → HasMore packet longer → length longer.frame.now < n → IsUndecided longer p
    stays longer more lt =
        let by = more.captures in
        let before = needed_before plain p n least in
        let other = with_more plain longer by.more in
        let g = go_on packet plain longer other by.more w cut more.are_bytes by.start refl refl by.frame by.captured
        by.original refl refl by.time refl (omega arith) in
        let v = least.stays other g.other_more lt in (
          (some_match longer other p more.are_bytes no_lengths g.without).1 v.0,
          (some_fail longer other p more.are_bytes no_lengths g.without).1 v.1,
        )

    decides : (longer : Packet) × HasMore packet longer × (length longer.frame.now ≡ n) × IsDecided longer p
    decides =
        let d = least.decides in
        let other = d.0 in
        let by = d.1.captures in
        let len = d.2 in
        let before = needed_before plain p n least in
        let longer = with_more packet other by.more in
        let is : longer.frame.now ≡ packet.frame.now ++ by.more =
        by.frame ∙ ap (λ (l : List ℕ). l ++ by.more) (frame_is packet plain w cut) in
        let g = go_on packet plain longer other by.more w cut d.1.are_bytes refl by.start refl is refl refl by.captured
        by.original refl by.time (omega arith) in
        let decided : IsDecided longer p = elim d.3 [
          | inl never ↦ inl (λ some. never ((some_fail longer other p d.1.are_bytes no_lengths g.without).0 some))
          | inr never ↦ inr (λ some. never ((some_match longer other p d.1.are_bytes no_lengths g.without).0 some))
        ] in
        (longer, g.longer_more, len, decided)
