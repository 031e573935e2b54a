-- What a reader of capture files knows.
use Rattle.std.proofs.Common.{◌≡◌, ℕ, zero, suc, ◌+◌, ◌<◌, ◌≤◌, List, [], ◌∷◌, length, refl, sym, ap, subst, arith, Some, None, rules}
use Rattle.std.specs.Prelude.{slice_index_or, Option, unwrap_or}
use Rattle.std.specs.Option.{option_map}
use Rattle.std.proofs.Math.Nat.{pow-le-pow_right}
use Rattle.std.proofs.lemmas.Bool.{cases_lt}
use Rattle.ether_base.specs.Bytes.{IsBytes}
use Rattle.ether_base.proofs.Numbers.{number_below}
use Rattle.ether_base.proofs.SubLists.{length-part-is}
use Rattle.ether_pcap.specs.Numbers.{Order}
use Rattle.ether_pcap.specs.Section.{HasSectionType, IsSection, SectionRefusal, RefusesSection}
use Rattle.ether_pcap.specs.Options.{OptionValue, HasOptions, value_of, byte_of, number_of}
use Rattle.ether_pcap.specs.Bodies.{IsInterface}
use Rattle.ether_pcap.specs.FileHeader.{FileHeaderValue}
use Rattle.ether_pcap.specs.Record.{RecordValue, BeginsRecord, record_len}
use Rattle.ether_pcap.specs.Capture.{PacketValue, packet_of_record, fcs_bytes, Describes, CaptureInterfaceValue, IsAt, Beginning, Records, Blocks, Begins, RefusesCapture, Section, file_record, first_section, section, first_section_refused, section_refused}
use Rattle.ether_pcap.specs.PcapngViews.{interface_view}
use Rattle.ether_pcap.specs.Block.{BlockValue}
use Rattle.ether_pcap.specs.Views.{order_of}
use Rattle.ether_pcap.specs.CaptureViews.{capture_interface_view, interfaces_view, expectation_of}
use Rattle.ether_pcap.specs.declared.byte_order.ByteOrder.{ByteOrder}
use Rattle.ether_pcap.specs.declared.classic.file_header.FileHeader.{FileHeader}
use Rattle.ether_pcap.specs.declared.capture.reader_state.ReaderState.{ReaderState}
use Rattle.ether_pcap.specs.declared.capture.reader_state.ReaderState.TheVariants as states
use Rattle.ether_pcap.specs.declared.pcapng.interface_description.InterfaceDescription.{InterfaceDescription}
use Rattle.ether_pcap.specs.declared.capture.capture_interface.CaptureInterface.{CaptureInterface}

-- bytes that begin with a section's type are at least four
pub section_len : (bytes : List ℕ) → IsBytes bytes → HasSectionType bytes → 4 ≤ length bytes
section_len bytes ok is = grind (arith, cases_lt, length, length-part-is, pow-le-pow_right, number_below)

-- the interface that an interface description describes
pub describes : (order : Order) (body : List ℕ) (d : InterfaceDescription) (fcs_len resolution : Option ℕ) (offset : ℕ)
    (options : List OptionValue)
    → IsInterface order body (interface_view d) → HasOptions order d.options.now options
    → fcs_len ≡ option_map fcs_bytes (byte_of (value_of 13 options)) → resolution ≡ byte_of (value_of 9 options)
    → offset ≡ unwrap_or (number_of order 8 (value_of 14 options)) 0
    → Describes order body
    (record {
      link_type = d.link_type.0;
      snap_len = d.snap_len;
      fcs_len = fcs_len;
      resolution = resolution;
      offset = offset;
    })
describes order body d fcs_len resolution offset options is has f r s = search rules

-- the interface at a place
pub is_at : (interfaces : List CaptureInterface) (n : ℕ) (other : CaptureInterface) → n < length interfaces
    → IsAt (interfaces_view interfaces) n (capture_interface_view (slice_index_or interfaces n other))
is_at [] n other lt = absurd (omega arith)
is_at (x ∷ xs) zero other lt = record { before = []; after = interfaces_view xs; parts = refl; number = refl }
is_at (x ∷ xs) (suc n) other lt =
    let at = is_at xs n other (omega arith) in
    record {
      before = capture_interface_view x ∷ at.before;
      after = at.after;
      parts = ap (λ (l : List CaptureInterfaceValue). capture_interface_view x ∷ l) at.parts;
      number = ap suc at.number;
    }

-- a record as a unit
pub record_unit : (bytes : List ℕ) (h : FileHeaderValue) (r : RecordValue) (len : ℕ) (p : PacketValue)
    → BeginsRecord h.order bytes r → len ≡ record_len r → p ≡ packet_of_record h r
    → Begins bytes (Records h) len (Some p) (Records h)
record_unit bytes h r len p is n e =
    subst (λ (m : ℕ). Begins bytes (Records h) m (Some p) (Records h)) (sym n)
    (subst (λ (q : PacketValue). Begins bytes (Records h) (record_len r) (Some q) (Records h)) (sym e)
    (file_record h r is))

-- ---- what is expected, by what a reader has read

pub section_unit : (most : ℕ) (p : ReaderState) (interfaces : List CaptureInterface) (bytes : List ℕ) (order : Order)
    (b : BlockValue) (len : ℕ)
    → ((h : FileHeader) → p ≡ states.Classic h → ⊥)
    → IsSection bytes order b → len ≡ 12 + length b.body
    → Begins bytes (expectation_of most p interfaces) len None (Blocks most order [])
section_unit most states.Nothing interfaces bytes order b len none is e = rw e (first_section most order b is)
section_unit most (states.Classic h) interfaces bytes order b len none is e = absurd (none h refl)
section_unit most (states.Section old) interfaces bytes order b len none is e =
    rw e (section most (order_of old) order (interfaces_view interfaces) b is)

pub section_not_read : (most : ℕ) (p : ReaderState) (interfaces : List CaptureInterface) (bytes : List ℕ)
    (r : SectionRefusal)
    → ((h : FileHeader) → p ≡ states.Classic h → ⊥)
    → HasSectionType bytes → RefusesSection bytes r → RefusesCapture bytes (expectation_of most p interfaces)
    (Section r)
section_not_read most states.Nothing interfaces bytes r none has is = first_section_refused most r has is
section_not_read most (states.Classic h) interfaces bytes r none has is = absurd (none h refl)
section_not_read most (states.Section old) interfaces bytes r none has is =
    section_refused most (order_of old) (interfaces_view interfaces) r has is

pub nothing_read : (most : ℕ) (p : ReaderState) (interfaces : List CaptureInterface)
    → ((h : FileHeader) → p ≡ states.Classic h → ⊥)
    → ((o : ByteOrder) → p ≡ states.Section o → ⊥) → expectation_of most p interfaces ≡ Beginning most
nothing_read most states.Nothing interfaces classic pcapng = refl
nothing_read most (states.Classic h) interfaces classic pcapng = absurd (classic h refl)
nothing_read most (states.Section o) interfaces classic pcapng = absurd (pcapng o refl)
