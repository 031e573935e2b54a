-- The texts of the errors of a reader of capture files.
use Rattle.std.specs.Prelude.{ℕ, List, ◌++◌, codes}
use Rattle.std.specs.Fmt.{decimal}
use Rattle.ether_pcap.specs.Texts.{file_header_error_text, record_error_text}
use Rattle.ether_pcap.specs.PcapngTexts.{section_error_text, block_error_text, body_error_text}
use Rattle.ether_pcap.specs.declared.capture.capture_error.CaptureError.{CaptureError}
use Rattle.ether_pcap.specs.declared.capture.capture_fault.CaptureFault.{CaptureFault}
use Rattle.ether_pcap.specs.declared.capture.capture_error.CaptureError.TheVariants as errors

abbrev pub capture_error_text : CaptureError → List ℕ
capture_error_text (errors.File error) = file_header_error_text error
capture_error_text (errors.Record error) = record_error_text error
capture_error_text (errors.Section error) = section_error_text error
capture_error_text (errors.Block error) = block_error_text error
capture_error_text (errors.Body error) = body_error_text error
capture_error_text (errors.NoInterface number) =
    codes "A packet of a pcapng file names interface "
    ++ (decimal number ++ codes ", which its section does not describe.")
capture_error_text errors.TooManyInterfaces =
    codes "A section of a pcapng file describes more interfaces than this reader keeps."

abbrev pub capture_fault_text : CaptureFault → List ℕ
capture_fault_text fault = codes "At byte " ++ (decimal fault.offset ++ (codes ": " ++ capture_error_text fault.error))
