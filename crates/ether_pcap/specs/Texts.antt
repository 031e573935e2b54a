-- The texts of the errors.
use Rattle.std.specs.Prelude.{ℕ, ◌/◌, ◌%◌, ◌^◌, List, ◌++◌, codes, true}
use Rattle.std.specs.Fmt.{decimal}
use Rattle.ether_base.specs.Texts.NumberText.{hex_byte}
use Rattle.ether_pcap.specs.declared.classic.file_header_error.FileHeaderError.{FileHeaderError}
use Rattle.ether_pcap.specs.declared.classic.file_header_error.FileHeaderError.TheVariants as file_errors
use Rattle.ether_pcap.specs.declared.classic.record_error.RecordError.{RecordError}
use Rattle.ether_pcap.specs.declared.classic.record_error.RecordError.TheVariants as record_errors
use Rattle.ether_pcap.specs.declared.classic.record_fault.RecordFault.{RecordFault}

-- the eight hexadecimal digits of a number of four bytes
abbrev pub eight_digits : ℕ → List ℕ
eight_digits n =
    hex_byte true (n / 2 ^ 24)
    ++ (hex_byte true (n / 2 ^ 16 % 256) ++ (hex_byte true (n / 2 ^ 8 % 256) ++ hex_byte true (n % 256)))

abbrev pub file_header_error_text : FileHeaderError → List ℕ
file_header_error_text (file_errors.Len required len) =
    codes "The header of a pcap file needs "
    ++ (decimal required ++ (codes " byte(s); only " ++ (decimal len ++ codes " are available.")))
file_header_error_text (file_errors.Magic number) =
    codes "The magic number 0x" ++ (eight_digits number ++ codes " is not that of a pcap file.")
file_header_error_text (file_errors.Version major minor) =
    codes "Version "
    ++ (decimal major ++ (codes "." ++ (decimal minor ++ codes " of the pcap format is not supported, only 2.4.")))

abbrev pub record_error_text : RecordError → List ℕ
record_error_text (record_errors.Len required len) =
    codes "A record of a pcap file needs "
    ++ (decimal required ++ (codes " byte(s); only " ++ (decimal len ++ codes " are available.")))
record_error_text (record_errors.CapturedLen len) =
    codes "A record of a pcap file cannot have " ++ (decimal len ++ codes " captured byte(s), the maximum is 262144.")

abbrev pub record_fault_text : RecordFault → List ℕ
record_fault_text fault = codes "At byte " ++ (decimal fault.offset ++ (codes ": " ++ record_error_text fault.error))
