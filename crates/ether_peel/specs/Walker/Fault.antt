-- The refusals of units as the faults that a walker gives.
use Rattle.std.specs.Prelude.{◌≡◌, ℕ, ◌+◌, ◌<◌, false}
use Rattle.etherparse.specs.Types.LenError.{LenError}
use Rattle.etherparse.specs.Types.LinuxSllHeaderError.TheVariants as linux_sll
use Rattle.etherparse.specs.Types.MacsecHeaderError.TheVariants as macsec
use Rattle.etherparse.specs.Refusal.{Refusal, Length, UnsupportedPacketType, UnsupportedHardwareType, UnexpectedVersion, InvalidShortLen}
use Rattle.ether_peel.specs.Grammar.Window.{Window}
use Rattle.ether_peel.specs.declared.peel_error.PeelError.{PeelError}
use Rattle.ether_peel.specs.declared.peel_error.PeelError.TheVariants as errors
use Rattle.ether_peel.specs.declared.peel_fault.PeelFault.{PeelFault}

-- the refusal of a unit that starts at a place
abbrev pub error_at : ℕ → Refusal → PeelError
error_at start (Length required len source layer) =
    errors.Len (record {
      required_len = required;
      len = len;
      len_source = source;
      layer = layer;
      layer_start_offset = start;
    })
error_at start (UnsupportedPacketType n) = errors.LinuxSll (linux_sll.UnsupportedPacketTypeField n)
error_at start (UnsupportedHardwareType n) = errors.LinuxSll (linux_sll.UnsupportedArpHardwareId (record { 0 = n }))
error_at start UnexpectedVersion = errors.Macsec macsec.UnexpectedVersion
error_at start InvalidShortLen = errors.Macsec macsec.InvalidUnmodifiedShortLen

-- the refusal of a unit in a window, with the window's start and mark
abbrev pub fault_in : Window → Refusal → PeelFault
fault_in w r = record { offset = w.start; error = error_at w.start r; closed = w.closed }

-- n bytes are missing: the fault is of a length, in an open window
pub record Misses (f : PeelFault) (n : ℕ) : Type 0 where
  pub is_open : f.closed ≡ false
  pub error : LenError
  pub of_length : f.error ≡ errors.Len error
  pub short : error.len < error.required_len
  pub missing : error.len + n ≡ error.required_len

-- the fault names m as a length that the list needs: it is of a length, in an open window
pub record Names (f : PeelFault) (m : ℕ) : Type 0 where
  pub is_open : f.closed ≡ false
  pub error : LenError
  pub of_length : f.error ≡ errors.Len error
  pub names : f.offset + error.required_len ≡ m
