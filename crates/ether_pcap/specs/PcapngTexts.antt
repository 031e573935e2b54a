-- The texts of the errors of pcapng files.
use Rattle.std.specs.Prelude.{ℕ, List, ◌++◌, codes}
use Rattle.std.specs.Fmt.{decimal}
use Rattle.ether_pcap.specs.Texts.{eight_digits}
use Rattle.ether_pcap.specs.declared.pcapng.block_error.BlockError.{BlockError}
use Rattle.ether_pcap.specs.declared.pcapng.block_error.BlockError.TheVariants as block_errors
use Rattle.ether_pcap.specs.declared.pcapng.body_error.BodyError.{BodyError}
use Rattle.ether_pcap.specs.declared.pcapng.body_error.BodyError.TheVariants as body_errors
use Rattle.ether_pcap.specs.declared.pcapng.section_error.SectionError.{SectionError}
use Rattle.ether_pcap.specs.declared.pcapng.section_error.SectionError.TheVariants as section_errors

abbrev pub block_error_text : BlockError → List ℕ
block_error_text (block_errors.Len required len) =
    codes "A block of a pcapng file needs "
    ++ (decimal required ++ (codes " byte(s); only " ++ (decimal len ++ codes " are available.")))
block_error_text (block_errors.TotalLen len) =
    codes "A block of a pcapng file cannot have " ++ (decimal len ++ codes " byte(s).")
block_error_text (block_errors.Trailer total_len trailer) =
    codes "A block of a pcapng file begins with length "
    ++ (decimal total_len ++ (codes " and ends with " ++ (decimal trailer ++ codes ".")))

abbrev pub body_error_text : BodyError → List ℕ
body_error_text (body_errors.Len required len) =
    codes "The body of a pcapng block needs "
    ++ (decimal required ++ (codes " byte(s); it has " ++ (decimal len ++ codes ".")))
body_error_text (body_errors.CapturedLen len) =
    codes "A block of a pcapng file cannot have " ++ (decimal len ++ codes " captured byte(s), the maximum is 262144.")

abbrev pub section_error_text : SectionError → List ℕ
section_error_text (section_errors.Len required len) =
    codes "A section header needs "
    ++ (decimal required ++ (codes " byte(s); only " ++ (decimal len ++ codes " are available.")))
section_error_text (section_errors.BlockType number) =
    codes "A block of type 0x" ++ (eight_digits number ++ codes " is no section header.")
section_error_text (section_errors.Magic number) =
    codes "The byte-order magic 0x" ++ (eight_digits number ++ codes " is not that of a pcapng file.")
section_error_text (section_errors.Block error) = block_error_text error
section_error_text (section_errors.Body required len) =
    codes "The body of a section header needs "
    ++ (decimal required ++ (codes " byte(s); it has " ++ (decimal len ++ codes ".")))
section_error_text (section_errors.Version major minor) =
    codes "Version "
    ++ (decimal major ++ (codes "." ++ (decimal minor ++ codes " of the pcapng format is not supported.")))
