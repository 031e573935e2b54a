-- What is read of a unit, before it is kept.
use Rattle.std.proofs.Common.{◌≡◌, ℕ, ◌+◌, List, [], ◌∷◌, length, refl, sym, subst, ◌∙◌, arith, inl, inr, Some, None}
use Rattle.std.specs.Prelude.{Option, MatchOption, slice_get}
use Rattle.std.proofs.lemmas.List.{length-map, map-append}
use Rattle.std.proofs.lemmas.Option.{slice_get_cases, slice_get_within, get_or_from_slice_get}
use Rattle.ether_pcap.specs.FileHeader.{FileRefusal, IsFileHeader, RefusesFile}
use Rattle.ether_pcap.specs.Block.{BlockValue, BeginsBlock}
use Rattle.ether_pcap.specs.Section.{HasSectionType, IsSection, SectionRefusal, RefusesSection}
use Rattle.ether_pcap.specs.Capture.{BlockKind, InterfaceDescription, kind_of_block, Describes, HasNoInterface, IsAt, Begins, RefusesCapture, File, Section, block, body_refused, file_header, file_header_refused, too_many}
use Rattle.ether_pcap.specs.Views.{order_of, file_header_view}
use Rattle.ether_pcap.specs.CaptureViews.{capture_interface_view, interfaces_view, expectation_of}
use Rattle.ether_pcap.specs.ReadUnits.{packet_in, interfaces_after, IsNotClassic, ReadsUnit, ReadsBody}
use Rattle.ether_pcap.specs.declared.byte_order.ByteOrder.{ByteOrder}
use Rattle.ether_pcap.specs.declared.classic.file_header.FileHeader.{FileHeader}
use Rattle.ether_pcap.specs.declared.capture.capture_interface.CaptureInterface.{CaptureInterface}
use Rattle.ether_pcap.specs.declared.capture.read_unit.UnitContent.{UnitContent}
use Rattle.ether_pcap.specs.declared.capture.read_unit.UnitContent.TheVariants as contents
use Rattle.ether_pcap.specs.declared.capture.reader_state.ReaderState.{ReaderState}
use Rattle.ether_pcap.specs.declared.capture.reader_state.ReaderState.TheVariants as states
use Rattle.ether_pcap.proofs.Captures.{is_at, section_unit, section_not_read}

-- ---- an interface that is looked up

found_at : (interfaces : List CaptureInterface) (n : ℕ) (i : CaptureInterface) → slice_get interfaces n ≡ Some i
    → IsAt (interfaces_view interfaces) n (capture_interface_view i)
found_at interfaces n i is =
    subst (λ (j : CaptureInterface). IsAt (interfaces_view interfaces) n (capture_interface_view j))
    (get_or_from_slice_get interfaces n i i is) (is_at interfaces n i (slice_get_within interfaces n i is))

none_at : (interfaces : List CaptureInterface) (n : ℕ) → slice_get interfaces n ≡ None
    → HasNoInterface (interfaces_view interfaces) n
none_at interfaces n is =
    let same = length-map interfaces capture_interface_view in
    elim (slice_get_cases interfaces n).1 [
      | inl found ↦ let other : None ≡ Some found.0 = sym is ∙ found.2 in absurd cc
      | inr past ↦ let le = past.0 in omega (arith, le, same)
    ]

pub looked_up : (interfaces : List CaptureInterface) (n : ℕ) (found : Option CaptureInterface)
    → found ≡ slice_get interfaces n
    → MatchOption found (HasNoInterface (interfaces_view interfaces) n)
    (λ i. IsAt (interfaces_view interfaces) n (capture_interface_view i))
looked_up interfaces n None is = none_at interfaces n (sym is)
looked_up interfaces n (Some i) is = found_at interfaces n i (sym is)

-- ---- section headers

pub not_classic : (state : ReaderState) → ((h : FileHeader) → state ≡ states.Classic h → ⊥) → IsNotClassic state
not_classic states.Nothing is = tt
not_classic (states.Classic h) is = absurd (is h refl)
not_classic (states.Section order) is = tt

no_header : (state : ReaderState) → IsNotClassic state → (h : FileHeader) → state ≡ states.Classic h → ⊥
no_header state not h is = subst IsNotClassic is not

pub section_read : (bytes : List ℕ) (state : ReaderState) (interfaces : List CaptureInterface) (order : ByteOrder)
    (b : BlockValue) (len : ℕ) → IsNotClassic state → IsSection bytes (order_of order) b → len ≡ 12 + length b.body
    → ReadsUnit bytes state interfaces (record { len = len; content = contents.Section order })
section_read bytes state interfaces order b len not is e = record {
  unit = λ most room.
      section_unit most state interfaces bytes (order_of order) b len (no_header state not) is e;
  full = λ most full. absurd full;
}

pub section_refused : (most : ℕ) (bytes : List ℕ) (state : ReaderState) (interfaces : List CaptureInterface)
    (r : SectionRefusal) → IsNotClassic state → HasSectionType bytes → RefusesSection bytes r
    → RefusesCapture bytes (expectation_of most state interfaces) (Section r)
section_refused most bytes state interfaces r not has is =
    section_not_read most state interfaces bytes r (no_header state not) has is

-- ---- file headers

pub header_read : (bytes : List ℕ) (state : ReaderState) (interfaces : List CaptureInterface) (h : FileHeader)
    → state ≡ states.Nothing → (HasSectionType bytes → ⊥) → IsFileHeader bytes (file_header_view h)
    → ReadsUnit bytes state interfaces (record { len = 24; content = contents.FileHeader h })
header_read bytes state interfaces h none other is =
    subst (λ (s : ReaderState). ReadsUnit bytes s interfaces (record { len = 24; content = contents.FileHeader h }))
    (sym none)
    (record {
      unit = λ most room. file_header most (file_header_view h) other is;
      full = λ most full. absurd full;
    })

pub header_refused : (most : ℕ) (bytes : List ℕ) (state : ReaderState) (interfaces : List CaptureInterface)
    (r : FileRefusal) → state ≡ states.Nothing → (HasSectionType bytes → ⊥) → RefusesFile bytes r
    → RefusesCapture bytes (expectation_of most state interfaces) (File r)
header_refused most bytes state interfaces r none other is =
    subst (λ (s : ReaderState). RefusesCapture bytes (expectation_of most s interfaces) (File r)) (sym none)
    (file_header_refused most r other is)

pub nothing : (state : ReaderState) → ((h : FileHeader) → state ≡ states.Classic h → ⊥)
    → ((o : ByteOrder) → state ≡ states.Section o → ⊥) → state ≡ states.Nothing
nothing states.Nothing classic pcapng = refl
nothing (states.Classic h) classic pcapng = absurd (classic h refl)
nothing (states.Section o) classic pcapng = absurd (pcapng o refl)

-- ---- blocks

pub described_body : (kind : BlockKind) (order : ByteOrder) (interfaces : List CaptureInterface) (body : List ℕ)
    (i : CaptureInterface) → kind ≡ InterfaceDescription → Describes (order_of order) body (capture_interface_view i)
    → ReadsBody kind order interfaces body (contents.Interface i)
described_body kind order interfaces body i is describes =
    let same = length-map interfaces capture_interface_view in
    subst (λ (k : BlockKind). ReadsBody k order interfaces body (contents.Interface i)) (sym is)
    (record {
      is = λ most room. (
        capture_interface_view i,
        describes,
        omega (arith, room, same),
        refl,
        map-append capture_interface_view interfaces (i ∷ []),
      );
      full = λ most full. too_many (capture_interface_view i) describes (omega (arith, full, same));
      same_state = refl;
    })

pub block_read : (bytes : List ℕ) (order : ByteOrder) (interfaces : List CaptureInterface) (b : BlockValue) (len : ℕ)
    (content : UnitContent)
    → (HasSectionType bytes → ⊥) → BeginsBlock (order_of order) bytes b → len ≡ 12 + length b.body
    → ReadsBody (kind_of_block b.block_type) order interfaces b.body content
    → ReadsUnit bytes (states.Section order) interfaces (record { len = len; content = content })
block_read bytes order interfaces b len content other begins e reads = record {
  unit = λ most room.
      subst (λ (s : ReaderState). Begins bytes (expectation_of most (states.Section order) interfaces) len
      (packet_in content) (expectation_of most s (interfaces_after interfaces content)))
      (sym reads.same_state)
      (subst (λ (n : ℕ). Begins bytes (expectation_of most (states.Section order) interfaces) n
      (packet_in content) (expectation_of most (states.Section order) (interfaces_after interfaces content)))
      (sym e)
      (block most (order_of order) (interfaces_view interfaces) (interfaces_view (interfaces_after interfaces content))
      (packet_in content) b other begins (reads.is most room)));
  full = λ most full.
      body_refused most (order_of order) (interfaces_view interfaces) b _ other begins (reads.full most full);
}
