-- Faults, summaries and the feeding of a walk as structs of C.
use Rattle.std.specs.Prelude.{ℕ, ◌-◌, Option, Some, None, Bool, if◌then◌else◌}
use Rattle.etherparse.specs.Bytes.{bit}
use Rattle.etherparse.specs.Types.LenError.{LenError}
use Rattle.etherparse.specs.Types.LinuxSllHeaderError.TheVariants as linux_sll
use Rattle.etherparse.specs.Types.MacsecHeaderError.TheVariants as macsec
use Rattle.ether_peel.specs.declared.peel_error.PeelError.{PeelError}
use Rattle.ether_peel.specs.declared.peel_error.PeelError.TheVariants as errors
use Rattle.ether_peel.specs.declared.peel_fault.PeelFault.{PeelFault}
use Rattle.ether_peel.specs.declared.walk_summary.Summary.{Summary}
use Rattle.ether_c.specs.declared.ether_fault.EtherFault.{EtherFault}
use Rattle.ether_peel.specs.declared.walk_feed.Feed.{Feed}
use Rattle.ether_c.specs.declared.ether_fed.EtherFed.{EtherFed}
use Rattle.ether_c.specs.declared.ether_found.EtherFound.{EtherFound}
use Rattle.ether_c.specs.Numbers.{layer_number, len_source_number, rest_kind_number, rest_protocol_of}

-- no fault: each number is 0
abbrev pub no_fault : EtherFault
no_fault = record {
  offset = 0;
  required_len = 0;
  len = 0;
  missing = 0;
  kind = 0;
  layer = 0;
  len_source = 0;
  packet_type = 0;
  hardware_type = 0;
  closed = 0;
}

-- A length fault. In an open window it has the number of missing bytes.
abbrev pub c_length : (offset : ℕ) → (closed : Bool) → LenError → EtherFault
c_length offset closed e = record {
  offset = offset;
  required_len = e.required_len;
  len = e.len;
  missing = if closed then 0 else e.required_len - e.len;
  kind = 1;
  layer = layer_number e.layer;
  len_source = len_source_number e.len_source;
  packet_type = 0;
  hardware_type = 0;
  closed = bit closed;
}

-- By its error: a length; an unsupported packet type or hardware type of a cooked capture; the version of a SecTag;
-- its short length. The fields of other errors are 0.
abbrev pub c_error : (offset : ℕ) → (closed : Bool) → PeelError → EtherFault
c_error offset closed (errors.Len e) = c_length offset closed e
c_error offset closed (errors.LinuxSll (linux_sll.UnsupportedPacketTypeField n)) =
    record no_fault { offset = offset; kind = 2; packet_type = n; closed = bit closed }
c_error offset closed (errors.LinuxSll (linux_sll.UnsupportedArpHardwareId hardware)) =
    record no_fault { offset = offset; kind = 3; hardware_type = hardware.0; closed = bit closed }
c_error offset closed (errors.Macsec macsec.UnexpectedVersion) =
    record no_fault { offset = offset; kind = 4; closed = bit closed }
c_error offset closed (errors.Macsec macsec.InvalidUnmodifiedShortLen) =
    record no_fault { offset = offset; kind = 5; closed = bit closed }

abbrev pub c_fault : PeelFault → EtherFault
c_fault f = c_error f.offset f.closed f.error

abbrev pub c_end : Option PeelFault → EtherFault
c_end None = no_fault
c_end (Some f) = c_fault f

abbrev pub c_summary : Summary → EtherFound
c_summary s = record {
  units = s.units;
  rest_start = s.rest_start;
  rest_end = s.rest_end;
  fault = c_end s.fault;
  rest_kind = rest_kind_number s.kind;
  rest_protocol = rest_protocol_of s.kind;
}

abbrev pub c_feed : Feed → EtherFed
c_feed f = record { refusals = f.refusals; taken = f.taken; fault = c_end f.fault }
