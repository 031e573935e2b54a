-- A block whose packet is edited, from its parts.
use Rattle.std.proofs.Common.{◌≡◌, ℕ, ◌+◌, ◌-◌, ◌<◌, ◌≤◌, List, ◌++◌, length, drop, sym, ap, ◌∙◌, arith, append_assoc, length-append, Some, None, rules}
use Rattle.std.specs.Prelude.{Bool, slice_range, if◌then◌else◌}
use Rattle.std.proofs.lemmas.Bool.{lt-ltb, le-ltb}
use Rattle.ether_base.proofs.SubLists.{length-part, part_of_part, part_join, rest_of_part}
use Rattle.ether_pcap.specs.Numbers.{Order, number_in, field}
use Rattle.ether_pcap.specs.Block.{IsTotalLen}
use Rattle.ether_pcap.specs.Bodies.{EnhancedPacketValue, IsEnhancedPacket}
use Rattle.ether_pcap.specs.Capture.{EnhancedPacket}
use Rattle.ether_pcap.specs.Options.{padded}
use Rattle.ether_pcap.specs.Writing.{bytes_of, zeros}
use Rattle.ether_pcap.specs.Editing.{EditedValue, edited_body, block_bytes, edited_block}
use Rattle.ether_pcap.proofs.EditUnits.{length-edited_body, length-zeros}

-- the length of the parts of a block
pub length-parts : (header packet options trailer : List ℕ) (n : ℕ) → length header ≡ 28 → length trailer ≡ 4
    → length (header ++ packet ++ zeros n ++ options ++ trailer) ≡ 32 + length packet + n + length options
length-parts header packet options trailer n front back =
    let a = length-append (header ++ packet ++ zeros n ++ options) trailer in
    let b = length-append (header ++ packet ++ zeros n) options in
    let c = length-append (header ++ packet) (zeros n) in
    let d = length-append header packet in
    omega (arith, a, b, c, d, length-zeros n, front, back)

-- the parts of a body after a front
parts_joined : (front a b c w o p z d body all : List ℕ) → body ≡ (a ++ b ++ c) ++ w ++ o ++ p ++ z ++ d
    → all ≡ front ++ a ++ b ++ c ++ w ++ o → all ++ p ++ z ++ d ≡ front ++ body
parts_joined front a b c w o p z d body all is all_is = search (rules, append_assoc)

module _ (order : Order) (number_len : ℕ) (block : List ℕ) (v : EnhancedPacketValue) (e : EditedValue)
    (sound : IsTotalLen (length block))
    (is : IsEnhancedPacket number_len order (slice_range block 8 (length block - 4)) v) where
  abbrev body : List ℕ
  body = slice_range block 8 (length block - 4)

  abbrev m : ℕ
  m = length v.packet

  abbrev n : ℕ
  n = length e.packet

  length-body : length body ≡ length block - 12
  length-body = length-part block 8 (length block - 4) (omega arith) ∙ omega arith

  pub captured_at : field order block 20 24 ≡ m
  captured_at =
      let whole : 20 + m ≤ length body = is.whole in
      ap (number_in order)
      (sym (part_of_part block 8 (length block - 4) 12 16 (omega arith) (omega (arith, whole, length-body))))
      ∙ is.captured_len

  pub padded_within : 28 + padded m ≤ length block - 4
  padded_within = search rules

  pub length-new : 12 + length (edited_body order m e body) ≡ 32 + padded n + (length block - 4 - (28 + padded m))
  length-new = search (rules, length-edited_body, length-body, padded_within)

  pub too_long_block : 16777216 < 32 + padded n + (length block - 4 - (28 + padded m))
      → None ≡ edited_block (EnhancedPacket number_len) order m e block
  too_long_block long = search (rules, length-new, lt-ltb)

  pub written_block : (header options trailer : List ℕ) (padding total : ℕ)
      → header ≡ slice_range block 0 4 ++ bytes_of order 4 total ++ slice_range block 8 12 ++ slice_range block 12 16
      ++ slice_range block 16 20 ++ bytes_of order 4 n ++ bytes_of order 4 e.original_len
      → padding ≡ padded n - n → options ≡ slice_range block (28 + padded m) (length block - 4)
      → total ≡ 32 + padded n + (length block - 4 - (28 + padded m)) → total ≤ 16777216
      → trailer ≡ bytes_of order 4 total
      → Some (header ++ e.packet ++ zeros padding ++ options ++ trailer)
      ≡ edited_block (EnhancedPacket number_len) order m e block
  written_block header options trailer padding total header_is padding_is options_are total_is most trailer_is =
      let new = edited_body order m e body in
      let t = slice_range block 0 4 in
      let w = bytes_of order 4 (12 + length new) in
      let a = slice_range block 8 12 in
      let b = slice_range block 12 16 in
      let c = slice_range block 16 20 in
      let z = zeros (padded n - n) in
      let captured = bytes_of order 4 n in
      let original = bytes_of order 4 e.original_len in
      let whole : 20 + m ≤ length body = is.whole in
      let len : total ≡ 12 + length new = total_is ∙ sym length-new in
      let small : 12 + length new ≤ 16777216 = omega (arith, len, most) in
      let from : 8 + (20 + padded m) ≡ 28 + padded m = omega arith in
      let rest : options ≡ drop (20 + padded m) body =
      options_are ∙ ap (λ (k : ℕ). slice_range block k (length block - 4)) (sym from)
      ∙ sym (rest_of_part block 8 (length block - 4) (20 + padded m) (omega (arith, padded_within))) in
      let front : slice_range body 0 12 ≡ a ++ b ++ c =
      part_of_part block 8 (length block - 4) 0 12 (omega arith) (omega (arith, whole, length-body))
      ∙ sym (part_join block 8 16 20 (omega arith) (omega arith))
      ∙ ap (λ (l : List ℕ). l ++ c) (sym (part_join block 8 12 16 (omega arith) (omega arith))) in
      let new_is = ap (λ (l : List ℕ). l ++ captured ++ original ++ e.packet ++ z ++ drop (20 + padded m) body) front in
      let head = header_is ∙ ap (λ (k : ℕ). t ++ bytes_of order 4 k ++ a ++ b ++ c ++ captured ++ original) len in
      let joined : header ++ e.packet ++ z ++ drop (20 + padded m) body ≡ t ++ w ++ new =
      parts_joined (t ++ w) a b c captured original e.packet z (drop (20 + padded m) body) new header new_is head in
      let all : header ++ e.packet ++ zeros padding ++ options ++ trailer ≡ block_bytes order t new =
      ap (λ (k : ℕ). header ++ e.packet ++ zeros k ++ options ++ trailer) padding_is
      ∙ ap (λ (l : List ℕ). header ++ e.packet ++ z ++ l ++ trailer) rest
      ∙ ap (λ (l : List ℕ). l ++ trailer) joined
      ∙ ap (λ (l : List ℕ). t ++ w ++ new ++ l) (trailer_is ∙ ap (bytes_of order 4) len) in
      ap Some all
      ∙ ap (λ (b : Bool). if b then None else Some (block_bytes order t new))
      (sym (le-ltb 16777216 (12 + length new) small))
