-- Why a unit is not read, by structs of C.
use Rattle.std.proofs.Common.{◌≡◌, ℕ, List, ◌≤◌, length, refl, sym, subst, ◌∙◌, Some}
use Rattle.std.specs.Prelude.{IfSome, Result, Ok, Err}
use Rattle.std.proofs.lemmas.Bool.{le-leb}
use Rattle.ether_base.specs.Bytes.{IsBytes}
use Rattle.ether_pcap.specs.Capture.{PacketValue, CaptureExpectation, Begins}
use Rattle.ether_pcap.specs.CaptureViews.{capture_refusal_view, expectation_of}
use Rattle.ether_pcap.specs.ReadUnits.{interfaces_after, packet_in, state_after}
use Rattle.ether_pcap.specs.declared.capture.read_unit.ReadUnit.{ReadUnit}
use Rattle.ether_pcap.proofs.CapturesOne.{unit_one, unit_apart}
use Rattle.ether_pcap.specs.declared.capture.capture_error.CaptureError.{CaptureError}
use Rattle.ether_pcap.specs.declared.capture.reader_state.ReaderState.{ReaderState}
use Rattle.ether_c.specs.declared.ether_interface.EtherInterface.{EtherInterface}
use Rattle.ether_c.specs.declared.ether_reader.EtherReader.{EtherReader}
use Rattle.ether_c.specs.Reading.{expected_by, interfaces_of, state_of, Reads, PutsErrorText, GivesUnitText}

-- what may follow, if the state has a number and there is room
expected_is : (r : EtherReader) (table : List EtherInterface) (state : ReaderState) → state_of r ≡ Some state
    → r.interface_count ≤ length table
    → expected_by r table ≡ Some (expectation_of (length table) state (interfaces_of r table))
expected_is r table state is le = rw (le-leb r.interface_count (length table) le, is) refl

pub refused_text : (bytes : List ℕ) (r : EtherReader) (table : List EtherInterface) (e : CaptureError)
    (old new : List ℕ) (status len : ℕ) → Reads bytes r table (Err e) → PutsErrorText e old new status len
    → IfSome (expected_by r table) (λ x. GivesUnitText bytes x old new status len)
refused_text bytes r table e old new status len reads puts =
    rw (expected_is r table reads.state reads.numbered reads.within)
    (record { error = Some e; none = tt; some = (reads.refused, puts) })

-- ---- units of packets

after_is : (r : EtherReader) (table : List EtherInterface) (state : ReaderState) (after : CaptureExpectation)
    → state_of r ≡ Some state → r.interface_count ≤ length table → expected_by r table ≡ Some after
    → after ≡ expectation_of (length table) state (interfaces_of r table)
after_is r table state after is le expected = let e = sym expected ∙ expected_is r table state is le in cc

module _ (bytes : List ℕ) (r : EtherReader) (table : List EtherInterface) (after : CaptureExpectation)
    (p : PacketValue) (are : IsBytes bytes) (expected : expected_by r table ≡ Some after)
    (begins : Begins bytes after (length bytes) (Some p) after) where
  begins_in : (read : Result ReadUnit CaptureError) (reads : Reads bytes r table read)
      → let x = expectation_of (length table) reads.state (interfaces_of r table) in
      Begins bytes x (length bytes) (Some p) x
  begins_in read reads =
      subst (λ (x : CaptureExpectation). Begins bytes x (length bytes) (Some p) x)
      (after_is r table reads.state after reads.numbered reads.within expected) begins

  pub read_packet : (u : ReadUnit) → Reads bytes r table (Ok u) → packet_in u.content ≡ Some p
  read_packet u reads =
      let x = expectation_of (length table) reads.state (interfaces_of r table) in
      let y =
      expectation_of (length table) (state_after reads.state u.content)
      (interfaces_after (interfaces_of r table) u.content) in
      (unit_one bytes x y x u.len (length bytes) (packet_in u.content) (Some p) are reads.unit
      (begins_in (Ok u) reads)).1

  pub no_refusal : (e : CaptureError) → Reads bytes r table (Err e) → ⊥
  no_refusal e reads =
      let x = expectation_of (length table) reads.state (interfaces_of r table) in
      unit_apart bytes x x (length bytes) (Some p) (capture_refusal_view e) are (begins_in (Err e) reads) reads.refused
