-- Units whose packet is edited.
use Rattle.std.proofs.Common.{◌≡◌, ℕ, ◌+◌, ◌-◌, ◌*◌, ◌^◌, ◌≤◌, List, ◌++◌, length, take, drop, refl, sym, ap, ◌∙◌, arith, length-append, length-drop, rules}
use Rattle.std.specs.Prelude.{slice_range, zero, suc}
use Rattle.std.proofs.lemmas.List.{drop-drop, drop_at}
use Rattle.ether_base.proofs.SubLists.{length-part, part-append, part_of_front, part_all, part_after_front}
use Rattle.ether_pcap.specs.Numbers.{Order, number_in, field}
use Rattle.ether_pcap.specs.Record.{RecordValue, BeginsRecord}
use Rattle.ether_pcap.specs.Block.{IsTotalLen, BeginsBlock}
use Rattle.ether_pcap.specs.Options.{padded}
use Rattle.ether_pcap.specs.Bodies.{EnhancedPacketValue, IsEnhancedPacket}
use Rattle.ether_pcap.specs.Writing.{bytes_of, zeros}
use Rattle.ether_pcap.specs.Editing.{EditedValue, edited_front, edited_record, edited_body, block_bytes}
use Rattle.ether_pcap.proofs.Numbers.{length-bytes_of, number-bytes_of}

pub length-zeros : (n : ℕ) → length (zeros n) ≡ n
length-zeros zero = refl
length-zeros (suc n) = ap suc (length-zeros n)

-- ---- parts

-- a part past the front
pub part_past : (front more : List ℕ) (s i j a b : ℕ) → length front ≡ s → s + a ≡ i → s + b ≡ j
    → slice_range (front ++ more) i j ≡ slice_range more a b
part_past front more s i j a b len ia jb =
    let n : j - i ≡ b - a = omega arith in
    ap (λ (k : ℕ). take k (drop i (front ++ more))) n
    ∙ ap (λ (k : ℕ). take (b - a) (drop k (front ++ more))) (sym ia)
    ∙ ap (take (b - a)) (sym (drop-drop a s (front ++ more)) ∙ ap (drop a) (drop_at front more s len))

-- ---- the front with the captured bytes

module _ (order : Order) (place : ℕ) (e : EditedValue) (bytes : List ℕ) (room : place ≤ length bytes) where
  abbrev before : List ℕ
  before = slice_range bytes 0 place

  abbrev captured : List ℕ
  captured = bytes_of order 4 (length e.packet)

  abbrev original : List ℕ
  original = bytes_of order 4 e.original_len

  length-before : length before ≡ place
  length-before = length-part bytes 0 place room ∙ omega arith

  length-with_captured : length (before ++ captured) ≡ place + 4
  length-with_captured =
      omega (arith, length-append before captured, length-before, length-bytes_of order 4 (length e.packet))

  length-with_original : length (before ++ captured ++ original) ≡ place + 8
  length-with_original = search (rules, length-append, length-with_captured, length-bytes_of)

  pub length-edited_front : length (edited_front order place e bytes) ≡ place + 8 + length e.packet
  length-edited_front = omega (arith, length-append (before ++ captured ++ original) e.packet, length-with_original)

  pub edited_front-before : (i j : ℕ) → i ≤ j → j ≤ place
      → slice_range (edited_front order place e bytes) i j ≡ slice_range bytes i j
  edited_front-before i j ij le =
      search (rules, part-append, length-with_original, length-with_captured, length-before, part_of_front)

  pub edited_front-captured : slice_range (edited_front order place e bytes) place (place + 4) ≡ captured
  edited_front-captured =
      search (rules, part-append, length-with_original, part_after_front, length-before, length-bytes_of)

  pub edited_front-original : slice_range (edited_front order place e bytes) (place + 4) (place + 8) ≡ original
  edited_front-original = search (rules, part_after_front, length-with_captured, length-bytes_of)

  pub edited_front-packet : slice_range (edited_front order place e bytes) (place + 8) (place + 8 + length e.packet)
      ≡ e.packet
  edited_front-packet =
      part_past (before ++ captured ++ original) e.packet (place + 8) (place + 8) (place + 8 + length e.packet) 0
      (length e.packet) length-with_original (omega arith) refl
      ∙ part_all e.packet (length e.packet) (omega arith)

-- ---- records

pub record_edited : (order : Order) (e : EditedValue) (bytes : List ℕ) (r : RecordValue) → length e.packet ≤ 262144
    → e.original_len ≤ 4294967295 → BeginsRecord order bytes r
    → BeginsRecord order (edited_record order e bytes)
    (record r { original_len = e.original_len; packet = e.packet })
record_edited order e bytes r small four is =
    let whole : 16 + length r.packet ≤ length bytes = is.whole in
    let room : 8 ≤ length bytes = omega (arith, whole) in
    let long = length-edited_front order 8 e bytes room in
    record {
      seconds = ap (number_in order) (edited_front-before order 8 e bytes room 0 4 (omega arith) (omega arith))
          ∙ is.seconds;
      fraction = ap (number_in order) (edited_front-before order 8 e bytes room 4 8 (omega arith) (omega arith))
          ∙ is.fraction;
      captured_len =
          ap (number_in order) (edited_front-captured order 8 e bytes room)
          ∙ number-bytes_of order 4 (length e.packet) (omega (arith, small));
      original_len =
          ap (number_in order) (edited_front-original order 8 e bytes room)
          ∙ number-bytes_of order 4 e.original_len (omega (arith, four));
      packet = edited_front-packet order 8 e bytes room;
      whole = omega (arith, long);
      room = small;
    }

-- ---- bodies

module _ (order : Order) (m : ℕ) (e : EditedValue) (body : List ℕ) (room : 12 ≤ length body) where
  abbrev padding : List ℕ
  padding = zeros (padded (length e.packet) - length e.packet)

  pub length-before_options : length (edited_front order 12 e body ++ padding) ≡ 20 + padded (length e.packet)
  length-before_options =
      omega (
        arith,
        length-append (edited_front order 12 e body) padding,
        length-zeros (padded (length e.packet) - length e.packet),
        length-edited_front order 12 e body room,
      )

  pub length-edited_body : length (edited_body order m e body)
      ≡ 20 + padded (length e.packet) + (length body - (20 + padded m))
  length-edited_body = search (rules, length-append, length-before_options, length-drop)

  in_front : (i j : ℕ) → i ≤ j → j ≤ 20 + length e.packet
      → slice_range (edited_body order m e body) i j ≡ slice_range (edited_front order 12 e body) i j
  in_front i j ij high =
      let front = edited_front order 12 e body in
      let long = length-edited_front order 12 e body room in
      part-append (front ++ padding) (drop (20 + padded m) body) i j ij (omega (arith, high, length-before_options))
      ∙ part-append front padding i j ij (omega (arith, high, long))

pub body_edited : (number_len : ℕ) (order : Order) (e : EditedValue) (body : List ℕ) (v : EnhancedPacketValue)
    → number_len ≤ 4 → length e.packet ≤ 262144 → e.original_len ≤ 4294967295
    → IsEnhancedPacket number_len order body v
    → IsEnhancedPacket number_len order (edited_body order (length v.packet) e body)
    (record v { original_len = e.original_len; packet = e.packet })
body_edited number_len order e body v few small four is =
    let m = length v.packet in
    let whole : 20 + m ≤ length body = is.whole in
    let room : 12 ≤ length body = omega (arith, whole) in
    let new = edited_body order m e body in
    let front = in_front order m e body room in
    let same : (i j : ℕ) → i ≤ j → j ≤ 12 → field order new i j ≡ field order body i j =
    λ i j ij high.
    ap (number_in order) (front i j ij (omega (arith, high)) ∙ edited_front-before order 12 e body room i j ij high) in
    record {
      interface = same 0 number_len (omega arith) (omega (arith, few)) ∙ is.interface;
      time =
          ap (λ (k : ℕ). k * 2 ^ 32 + field order new 8 12) (same 4 8 (omega arith) (omega arith))
          ∙ ap (λ (k : ℕ). field order body 4 8 * 2 ^ 32 + k) (same 8 12 (omega arith) (omega arith)) ∙ is.time;
      captured_len =
          ap (number_in order) (front 12 16 (omega arith) (omega arith) ∙ edited_front-captured order 12 e body room)
          ∙ number-bytes_of order 4 (length e.packet) (omega (arith, small));
      original_len =
          ap (number_in order) (front 16 20 (omega arith) (omega arith) ∙ edited_front-original order 12 e body room)
          ∙ number-bytes_of order 4 e.original_len (omega (arith, four));
      packet =
          front 20 (20 + length e.packet) (omega arith) (omega arith) ∙ edited_front-packet order 12 e body room;
      options =
          drop_at (edited_front order 12 e body ++ padding order m e body room) (drop (20 + padded m) body)
          (20 + padded (length e.packet))
          (length-before_options order m e body room)
          ∙ is.options;
      whole = omega (arith, length-edited_body order m e body room);
      room = small;
    }

-- ---- blocks

module _ (order : Order) (block_type body : List ℕ) (four : length block_type ≡ 4) where
  length-head : length (block_type ++ bytes_of order 4 (12 + length body)) ≡ 8
  length-head =
      omega (
        arith,
        length-append block_type (bytes_of order 4 (12 + length body)),
        length-bytes_of order 4 (12 + length body),
        four,
      )

  length-to_trailer : length (block_type ++ bytes_of order 4 (12 + length body) ++ body) ≡ 8 + length body
  length-to_trailer = omega (arith, length-append (block_type ++ bytes_of order 4 (12 + length body)) body, length-head)

  pub length-block_bytes : length (block_bytes order block_type body) ≡ 12 + length body
  length-block_bytes = search (rules, length-append, length-to_trailer, length-bytes_of)

  pub block_bytes-type : slice_range (block_bytes order block_type body) 0 4 ≡ block_type
  block_bytes-type =
      let w = bytes_of order 4 (12 + length body) in
      part-append (block_type ++ w ++ body) w 0 4 (omega arith) (omega (arith, length-to_trailer))
      ∙ part-append (block_type ++ w) body 0 4 (omega arith) (omega (arith, length-head))
      ∙ part-append block_type w 0 4 (omega arith) (omega (arith, four)) ∙ part_all block_type 4 (omega (arith, four))

  pub block_begins : IsTotalLen (12 + length body)
      → BeginsBlock order (block_bytes order block_type body)
      (record { block_type = number_in order block_type; body = body })
  block_begins sound =
      let w = bytes_of order 4 (12 + length body) in
      let n = length body in
      let four_more = length-bytes_of order 4 (12 + n) in
      let value : number_in order w ≡ 12 + n = number-bytes_of order 4 (12 + n) (omega (arith, sound.most)) in
      record {
        block_type = ap (number_in order) block_bytes-type;
        total_len =
            ap (number_in order)
            (part-append (block_type ++ w ++ body) w 4 8 (omega arith) (omega (arith, length-to_trailer))
            ∙ part_after_front block_type w body 4 8 four (omega (arith, four_more)))
            ∙ value;
        sound = sound;
        whole = omega (arith, length-block_bytes);
        body = part_after_front (block_type ++ w) body w 8 (8 + n) length-head refl;
        trailer =
            ap (number_in order)
            (part_past (block_type ++ w ++ body) w (8 + n) (8 + n) (12 + n) 0 4 length-to_trailer (omega arith)
            (omega arith)
            ∙ part_all w 4 (omega (arith, four_more)))
            ∙ value;
      }
