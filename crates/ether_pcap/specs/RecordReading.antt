-- The state of an iterator over the records of a file, and what a call of next returns, by the records that are left
-- to read.
use Rattle.std.specs.Prelude.{◌≡◌, ℕ, ◌+◌, ◌/◌, List, [], ◌∷◌, length, drop, Bool, true, false, Option, Some, None, Result, Ok, Err, if◌then◌else◌}
use Rattle.std.specs.Iterator.{Count, at_most}
use Rattle.ether_pcap.specs.Record.{RecordValue, RecordRefusal, HasRecords, record_len}
use Rattle.ether_pcap.specs.Views.{order_of, record_view, record_refusal_view}
use Rattle.ether_pcap.specs.declared.classic.file_header.FileHeader.{FileHeader}
use Rattle.ether_pcap.specs.declared.classic.pcap_record.PcapRecord.{PcapRecord}
use Rattle.ether_pcap.specs.declared.classic.record_fault.RecordFault.{RecordFault}

-- the file's header, the bytes that are left to read, their place in the file, and whether a refusal was returned
pub record RecordState : Type 0 where
  pub header : FileHeader
  pub rest : List ℕ
  pub offset : ℕ
  pub over : Bool

-- What next returns if these records and this refusal are still to be read: None, and nothing changes; the refusal
-- with the offset of its record, after which the iterator is over; the first record, and then the bytes after it are
-- left.
abbrev pub GivesNextRecord : List RecordValue → Option RecordRefusal → RecordState
    → Option (Result PcapRecord RecordFault) → RecordState → Type 0
GivesNextRecord [] None s result t = (result ≡ None) × (t ≡ s)
GivesNextRecord [] (Some refusal) s result t =
    (f : RecordFault) × (result ≡ Some (Err f)) × (f.offset ≡ s.offset) × (record_refusal_view f.error ≡ refusal)
    × (t ≡ record s { over = true })
GivesNextRecord (r ∷ records) fault s result t =
    (p : PcapRecord) × (result ≡ Some (Ok p)) × (record_view p ≡ r)
    × (t ≡ record s { rest = drop (record_len r) s.rest; offset = s.offset + record_len r })

-- a call of next
pub record RecordGives (s : RecordState) (result : Option (Result PcapRecord RecordFault))
    (t : RecordState) : Type 0 where
  pub over : s.over ≡ true → (result ≡ None) × (t ≡ s)
  pub next : s.over ≡ false → (records : List RecordValue) (rest : List ℕ) (fault : Option RecordRefusal)
      → HasRecords (order_of s.header.byte_order) s.rest records rest fault → GivesNextRecord records fault s result t

-- k bytes yield at most k / 16 records and one refusal, and nothing after the refusal
abbrev pub items_left : RecordState → Count
items_left s = at_most (if s.over then 0 else length s.rest / 16 + 1)
