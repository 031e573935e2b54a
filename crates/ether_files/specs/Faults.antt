-- Why a file can't be opened or written, by the kind of the system's error, and what is said of it.
use Rattle.std.specs.Prelude.{ℕ, List, [], ◌++◌}
use Rattle.std.specs.declared.io.ErrorKind.{ErrorKind}
use Rattle.std.specs.declared.io.ErrorKind.TheVariants as kinds
use Rattle.ether_files.specs.declared.messages.TheConstants.{DENIED, IS_FOLDER, IS_OUTPUT, NO_FILE, NO_FOLDER, NO_NAME, NO_SPACE, NOT_OPENED, NOT_WRITTEN}
use Rattle.ether_files.specs.declared.open_fault.OpenFault.{OpenFault}
use Rattle.ether_files.specs.declared.open_fault.OpenFault.TheVariants as open_faults
use Rattle.ether_files.specs.declared.write_fault.WriteFault.{WriteFault}
use Rattle.ether_files.specs.declared.write_fault.WriteFault.TheVariants as write_faults

abbrev pub open_fault_of : ErrorKind → OpenFault
open_fault_of kinds.NotFound = open_faults.NotFound
open_fault_of kinds.PermissionDenied = open_faults.PermissionDenied
open_fault_of kinds.IsADirectory = open_faults.IsADirectory
open_fault_of kind = open_faults.Other

abbrev pub write_fault_of : ErrorKind → WriteFault
write_fault_of kinds.NotFound = write_faults.NotFound
write_fault_of kinds.NotADirectory = write_faults.NotFound
write_fault_of kinds.PermissionDenied = write_faults.PermissionDenied
write_fault_of kinds.ReadOnlyFilesystem = write_faults.PermissionDenied
write_fault_of kinds.IsADirectory = write_faults.IsADirectory
write_fault_of kinds.StorageFull = write_faults.StorageFull
write_fault_of kinds.QuotaExceeded = write_faults.StorageFull
write_fault_of kinds.FileTooLarge = write_faults.StorageFull
write_fault_of kind = write_faults.Other

abbrev pub open_reason_text : OpenFault → List ℕ
open_reason_text open_faults.NotFound = NO_FILE.now
open_reason_text open_faults.PermissionDenied = DENIED.now
open_reason_text open_faults.IsADirectory = IS_FOLDER.now
open_reason_text open_faults.IsOutput = IS_OUTPUT.now
open_reason_text open_faults.Other = []

abbrev pub write_reason_text : WriteFault → List ℕ
write_reason_text write_faults.NoName = NO_NAME.now
write_reason_text write_faults.NotFound = NO_FOLDER.now
write_reason_text write_faults.PermissionDenied = DENIED.now
write_reason_text write_faults.IsADirectory = IS_FOLDER.now
write_reason_text write_faults.StorageFull = NO_SPACE.now
write_reason_text write_faults.Other = []

abbrev pub open_fault_text : OpenFault → List ℕ
open_fault_text fault = NOT_OPENED.now ++ open_reason_text fault

abbrev pub write_fault_text : WriteFault → List ℕ
write_fault_text fault = NOT_WRITTEN.now ++ write_reason_text fault
