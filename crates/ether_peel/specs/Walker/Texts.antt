-- The texts of errors and faults of a walk.
use Rattle.std.specs.Prelude.{ℕ, List, ◌++◌, codes}
use Rattle.std.specs.Fmt.{decimal}
use Rattle.etherparse.specs.LengthErrors.{len_error_text}
use Rattle.etherparse.specs.LinuxSllErrors as linux_sll
use Rattle.etherparse.specs.MacsecErrors as macsec
use Rattle.ether_peel.specs.declared.peel_error.PeelError.{PeelError}
use Rattle.ether_peel.specs.declared.peel_error.PeelError.TheVariants as errors
use Rattle.ether_peel.specs.declared.peel_fault.PeelFault.{PeelFault}

-- the text of the error within
abbrev pub peel_error_text : PeelError → List ℕ
peel_error_text (errors.Len error) = len_error_text error
peel_error_text (errors.LinuxSll error) = linux_sll.header_error_text error
peel_error_text (errors.Macsec error) = macsec.header_error_text error

abbrev pub peel_fault_text : PeelFault → List ℕ
peel_fault_text fault = codes "at offset " ++ (decimal fault.offset ++ (codes ": " ++ peel_error_text fault.error))
