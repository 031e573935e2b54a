-- What is written is read back.
use Rattle.std.proofs.Common.{◌≡◌, ℕ, ◌+◌, ◌%◌, ◌^◌, ◌<◌, ◌≤◌, List, ◌++◌, length, refl, ap, ◌∙◌, arith, rules}
use Rattle.std.specs.Prelude.{Option, Some, None}
use Rattle.std.proofs.lemmas.List.{append_assoc, length-append}
use Rattle.ether_base.proofs.SubLists.{part-append, part_after_front}
use Rattle.ether_pcap.specs.Numbers.{Order, number_in, field}
use Rattle.ether_pcap.specs.FileHeader.{fcs_len_of, FileHeaderValue, IsFileHeader}
use Rattle.ether_pcap.specs.Record.{RecordValue, BeginsRecord}
use Rattle.ether_pcap.specs.Writing.{WritesFileHeader, HasFcsLen, link_word_of, WritesRecordHeader}

link_type_back : (t : ℕ) (f : Option ℕ) → t < 65536 → link_word_of t f % 2 ^ 16 ≡ t
link_type_back t None lt = omega arith
link_type_back t (Some n) lt = omega arith

fcs_len_back : (t : ℕ) (f : Option ℕ) → t < 65536 → HasFcsLen f → fcs_len_of (link_word_of t f) ≡ f
fcs_len_back t None lt has = search rules
fcs_len_back t (Some n) lt has = search rules

pub file_header_back : (bytes rest : List ℕ) (h : FileHeaderValue) → length bytes ≡ 24 → WritesFileHeader bytes h
    → h.link_type < 65536 → HasFcsLen h.fcs_len → IsFileHeader (bytes ++ rest) h
file_header_back bytes rest h len w lt has =
    let at : (i j : ℕ) → i ≤ j → j ≤ 24 → field h.order (bytes ++ rest) i j ≡ field h.order bytes i j =
    λ i j ij le. ap (number_in h.order) (part-append bytes rest i j ij (omega (arith, len, le))) in
    let word = at 20 24 (omega arith) (omega arith) ∙ w.link in
    search (rules, length-append, link_type_back, fcs_len_back)

pub record_back : (order : Order) (bytes rest : List ℕ) (r : RecordValue) → length bytes ≡ 16
    → WritesRecordHeader order bytes r → length r.packet ≤ 262144 → BeginsRecord order (bytes ++ r.packet ++ rest) r
record_back order bytes rest r len w le =
    let more = r.packet ++ rest in
    let at : (i j : ℕ) → i ≤ j → j ≤ 16 → field order (bytes ++ r.packet ++ rest) i j ≡ field order bytes i j =
    λ i j ij jl. ap (λ (l : List ℕ). field order l i j) (append_assoc bytes r.packet rest)
    ∙ ap (number_in order) (part-append bytes more i j ij (omega (arith, len, jl))) in
    let l = length-append (bytes ++ r.packet) rest in
    let m = length-append bytes r.packet in
    record {
      seconds = at 0 4 (omega arith) (omega arith) ∙ w.seconds;
      fraction = at 4 8 (omega arith) (omega arith) ∙ w.fraction;
      captured_len = at 8 12 (omega arith) (omega arith) ∙ w.captured_len ∙ omega (arith, le);
      original_len = at 12 16 (omega arith) (omega arith) ∙ w.original_len;
      packet = part_after_front bytes r.packet rest 16 (16 + length r.packet) len refl;
      whole = omega (arith, len, l, m);
      room = le;
    }
