-- A file that is written has the packets of its records.
use Rattle.std.proofs.Common.{◌≡◌, ℕ, List, [], ◌++◌, length, refl, sym, ap, subst, ◌∙◌, arith, rules}
use Rattle.std.specs.Prelude.{map, None}
use Rattle.std.proofs.lemmas.List.{drop_at, length-append}
use Rattle.ether_base.specs.Bytes.{IsBytes, number}
use Rattle.ether_base.proofs.SubLists.{part-append}
use Rattle.ether_pcap.specs.Numbers.{Order, BigEndian, LittleEndian}
use Rattle.ether_pcap.specs.FileHeader.{Resolution, Microseconds, Nanoseconds, magic_of, HasMagic, FileHeaderValue}
use Rattle.ether_pcap.specs.Record.{RecordValue, record_len}
use Rattle.ether_pcap.specs.Section.{HasSectionType}
use Rattle.ether_pcap.specs.Capture.{packet_of_record, Beginning, Records, file_header, file_record, HasPackets, ended, unit, packet}
use Rattle.ether_pcap.specs.Writing.{WritesRecords, none, more, WrittenFilesAreRead}
use Rattle.ether_pcap.proofs.Writing.{file_header_back, record_back}

not_from_high : (n : ℕ) (r : Resolution) → n ≡ magic_of r → n ≡ 0x0A0D0D0A → ⊥
not_from_high n Microseconds p q = omega (arith, p, q)
not_from_high n Nanoseconds p q = omega (arith, p, q)

no_section : (header : List ℕ) (order : Order) (r : Resolution) → IsBytes header → length header ≡ 24
    → HasMagic header order r → HasSectionType header → ⊥
no_section header BigEndian r ok len has is = not_from_high _ r has is
no_section header LittleEndian r ok len has is = search rules

written_records : (h : FileHeaderValue) (bytes : List ℕ) (records : List RecordValue)
    → WritesRecords h.order bytes records → HasPackets (Records h) bytes (map (packet_of_record h) records) [] None
written_records h [] [] none = ended (Records h) [] (tt, refl)
written_records h _ _ (more header bytes r records len is le rest) =
    let front = header ++ r.packet in
    let end = drop_at front bytes (record_len r) (length-append header r.packet ∙ omega (arith, len)) in
    let others = written_records h bytes records rest in
    packet (Records h) (Records h) (front ++ bytes) (record_len r) (packet_of_record h r)
    (map (packet_of_record h) records) [] None
    (file_record h r (record_back h.order header bytes r len is le))
    (subst (λ (l : List ℕ). HasPackets (Records h) l (map (packet_of_record h) records) [] None) (sym end) others)

pub written_files_are_read : WrittenFilesAreRead
written_files_are_read most header bytes h records ok len lt has writes rest =
    let type_of = part-append header bytes 0 4 (omega arith) (omega (arith, len)) in
    let none = λ (t : HasSectionType (header ++ bytes)).
    no_section header h.order h.resolution ok len writes.magic (ap number (sym type_of) ∙ t) in
    let packets = map (packet_of_record h) records in
    unit (Beginning most) (Records h) (header ++ bytes) 24 packets [] None
    (file_header most h none (file_header_back header bytes h len writes lt has))
    (subst (λ (l : List ℕ). HasPackets (Records h) l packets [] None) (sym (drop_at header bytes 24 len))
    (written_records h bytes records rest))
