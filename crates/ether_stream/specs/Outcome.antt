-- How the program ends: what it prints last, and its exit status.
use Rattle.std.specs.Prelude.{ℕ, ◌/◌, ◌^◌, List, [], ◌++◌, codes, nat_eq, Option, Some, None, Result, Ok, Err, Bool, true, false, ◌||◌, if◌then◌else◌}
use Rattle.std.specs.Fmt.{decimal}
use Rattle.ether_pcap.specs.CaptureTexts.{capture_error_text}
use Rattle.ether_pcap.specs.declared.capture.capture_error.CaptureError.{CaptureError}
use Rattle.ether_pcap.specs.declared.capture.capture_error.CaptureError.TheVariants as errors
use Rattle.ether_pcap.specs.declared.classic.file_header_error.FileHeaderError.TheVariants as file_errors
use Rattle.ether_filter.specs.ErrorTexts.{filter_error_text}
use Rattle.ether_filter.specs.declared.filter_error.FilterError.{FilterError}
use Rattle.ether_text.specs.declared.verdict.Verdict.{Verdict}
use Rattle.ether_text.specs.declared.verdict.Verdict.TheVariants.{AllAccepted, SomeRefused}
use Rattle.ether_files.specs.Faults.{open_fault_text, write_fault_text}
use Rattle.ether_files.specs.declared.open_fault.OpenFault.{OpenFault}
use Rattle.ether_files.specs.declared.write_fault.WriteFault.{WriteFault}
use Rattle.ether_stream.specs.Usage.{usage_text}
use Rattle.ether_stream.specs.declared.about.TheConstants.{HELP, VERSION}
use Rattle.ether_stream.specs.declared.messages.TheConstants.{BZIP2, GZIP, LZ4, NO_MEMORY, NOT_COUNTS, NOT_EDITED, OTHER_VERSION, PCAP_VARIANT, PROGRAM, SELECT, STANDARD_INPUT, TRY_HELP, UNREADABLE, XZ, ZSTD}
use Rattle.ether_stream.specs.declared.usage.Usage.{Usage}
use Rattle.ether_stream.specs.declared.outcome.Outcome.{Outcome}
use Rattle.ether_stream.specs.declared.outcome.Outcome.TheVariants as outcomes
use Rattle.ether_pcap.specs.declared.capture.capture_fault.CaptureFault.{CaptureFault}
use Rattle.ether_stream.specs.declared.outcome.LastLine.{LastLine}
use Rattle.ether_stream.specs.declared.outcome.LastLine.TheVariants as last_lines
use Rattle.ether_stream.specs.declared.outcome.FileEnd.{FileEnd}
use Rattle.ether_stream.specs.declared.outcome.FileEnd.TheVariants as ends
use Rattle.ether_stream.specs.declared.outcome.Reason.{Reason}
use Rattle.ether_stream.specs.declared.outcome.Reason.TheVariants as why
use Rattle.ether_stream.specs.declared.outcome.RunFault.{RunFault}
use Rattle.ether_stream.specs.declared.outcome.RunFault.TheVariants.{Capture, NotEdited, Input, Output, Memory}

-- the exit status of a run
abbrev pub exit_status : Result Verdict RunFault → ℕ
exit_status (Ok AllAccepted) = 0
exit_status (Ok SomeRefused) = 1
exit_status (Err (Capture fault)) = 3
exit_status (Err (NotEdited offset)) = 3
exit_status (Err Input) = 4
exit_status (Err Output) = 4
exit_status (Err Memory) = 5

-- what is said of words that are wrong
abbrev pub usage_line_text : Usage → List ℕ
usage_line_text usage = PROGRAM.now ++ (codes ": " ++ (usage_text usage ++ (codes "; " ++ TRY_HELP.now)))

-- .. and if memory for them was refused
abbrev pub no_memory_text : List ℕ
no_memory_text = PROGRAM.now ++ (codes ": " ++ NO_MEMORY.now)

-- what reads a file with these first four bytes: gzip (RFC 1952), zstd (RFC 8878), xz, bzip2, lz4, and the variant of
-- pcap with longer records
abbrev pub magic_hint_text : ℕ → List ℕ
magic_hint_text n =
    if nat_eq (n / 2 ^ 16) 8075 then GZIP.now
    else (if nat_eq n 682962941 then ZSTD.now
    else (if nat_eq n 4248271448 then XZ.now
    else (if nat_eq (n / 2 ^ 8) 4348520 then BZIP2.now
    else (if nat_eq n 69356824 then LZ4.now
    else (if nat_eq n 2712849716 then PCAP_VARIANT.now
    else (if nat_eq n 885895841 then PCAP_VARIANT.now else []))))))

abbrev pub hint_text : CaptureError → List ℕ
hint_text (errors.File (file_errors.Magic n)) = magic_hint_text n
hint_text (errors.File (file_errors.Version major minor)) = OTHER_VERSION.now
hint_text _ = []

-- something is said of the bytes at an offset
abbrev pub offset_text : (offset : ℕ) → (said : List ℕ) → List ℕ
offset_text offset said = codes "byte " ++ (decimal offset ++ (codes ": " ++ said))

abbrev pub fault_line_text : CaptureFault → List ℕ
fault_line_text fault = offset_text fault.offset (capture_error_text fault.error ++ hint_text fault.error)

-- something is said of the file of a name
abbrev pub named_text : (name said : List ℕ) → List ℕ
named_text name said = name ++ (codes ": " ++ said)

abbrev pub not_opened_text : (name : List ℕ) → OpenFault → List ℕ
not_opened_text name fault = named_text name (open_fault_text fault)

abbrev pub not_written_text : (name : List ℕ) → WriteFault → List ℕ
not_written_text name fault = named_text name (write_fault_text fault)

-- a line of standard input is not that of a count
abbrev pub not_counts_text : (number : ℕ) → List ℕ
not_counts_text number =
    named_text STANDARD_INPUT.now (codes "line " ++ (decimal number ++ (codes ": " ++ NOT_COUNTS.now)))

-- why the text of a filter is not an expression
abbrev pub no_filter_text : FilterError → List ℕ
no_filter_text error = named_text SELECT.now (filter_error_text error)

-- why a capture was not read to its end
abbrev pub reason_text : Reason → List ℕ
reason_text (why.Fault fault) = fault_line_text fault.now
reason_text (why.NotEdited offset) = offset_text offset NOT_EDITED.now
reason_text why.Input = UNREADABLE.now
reason_text why.Memory = NO_MEMORY.now

-- why the capture of this name was not read to its end, as one line without its line feed
abbrev pub text_of_run : (name : List ℕ) → Result Verdict RunFault → Option (List ℕ)
text_of_run name (Ok verdict) = None
text_of_run name (Err (Capture fault)) = Some (named_text name (fault_line_text fault))
text_of_run name (Err (NotEdited offset)) = Some (named_text name (offset_text offset NOT_EDITED.now))
text_of_run name (Err Input) = Some (named_text name UNREADABLE.now)
text_of_run name (Err Output) = None
text_of_run name (Err Memory) = Some (named_text name NO_MEMORY.now)

-- .. one of several
abbrev pub text_of_file : (name : List ℕ) → FileEnd → Option (List ℕ)
text_of_file name (ends.NotOpened fault) = Some (not_opened_text name fault)
text_of_file name (ends.Read end) = text_of_run name end

-- .. on standard input. The program itself says why the system can't read it.
abbrev pub text_of_input : Result Verdict RunFault → Option (List ℕ)
text_of_input (Err Input) = None
text_of_input end = text_of_run STANDARD_INPUT.now end

-- its exit status
abbrev pub status_of_file : FileEnd → ℕ
status_of_file (ends.NotOpened fault) = exit_status (Err Input)
status_of_file (ends.Read end) = exit_status end

-- a line with its line feed, if there is one
abbrev pub last_bytes : Option (List ℕ) → List ℕ
last_bytes None = []
last_bytes (Some text) = text ++ codes "\n"

-- what the program prints last, without its line feed
abbrev pub last_text : Outcome → Option (List ℕ)
last_text (outcomes.Run end) = text_of_input end
last_text (outcomes.Files end) = None
last_text (outcomes.File name end) = text_of_run name.now end
last_text (outcomes.NotOpened name fault) = Some (not_opened_text name.now fault)
last_text (outcomes.NotWritten name fault) = Some (not_written_text name.now fault)
last_text (outcomes.NotCounts number) = Some (not_counts_text number)
last_text (outcomes.NoFilter error) = Some (no_filter_text error)
last_text outcomes.Help = Some HELP.now
last_text outcomes.Version = Some VERSION.now
last_text (outcomes.Usage usage) = Some (usage_line_text usage)
last_text outcomes.NoMemory = Some no_memory_text

-- what is printed last is a message, if it is not what was asked for: the usage or the version
abbrev pub is_message : Outcome → Bool
is_message outcomes.Help = false
is_message outcomes.Version = false
is_message outcome = true

-- the exit status of an outcome
abbrev pub status_of_outcome : Outcome → ℕ
status_of_outcome (outcomes.Run end) = exit_status end
status_of_outcome (outcomes.Files (Ok status)) = status
status_of_outcome (outcomes.Files (Err fault)) = exit_status (Err Output)
status_of_outcome (outcomes.File name end) = exit_status end
status_of_outcome (outcomes.NotOpened name fault) = exit_status (Err Input)
status_of_outcome (outcomes.NotWritten name fault) = exit_status (Err Output)
status_of_outcome (outcomes.NotCounts number) = 3
status_of_outcome (outcomes.NoFilter error) = 2
status_of_outcome outcomes.Help = 0
status_of_outcome outcomes.Version = 0
status_of_outcome (outcomes.Usage usage) = 2
status_of_outcome outcomes.NoMemory = exit_status (Err Memory)

-- that of the program, by whether its last line was printed: if not, output failed, unless the line is a message
abbrev pub status_of_program : Outcome → (printed : Bool) → ℕ
status_of_program outcome printed =
    if printed || is_message outcome then status_of_outcome outcome else exit_status (Err Output)

abbrev pub last_line_text : LastLine → List ℕ
last_line_text (last_lines.Stopped name reason) = named_text name.now (reason_text reason)
last_line_text (last_lines.NotOpened name fault) = not_opened_text name.now fault
last_line_text (last_lines.NotWritten name fault) = not_written_text name.now fault
last_line_text (last_lines.NotCounts number) = not_counts_text number
last_line_text last_lines.Help = HELP.now
last_line_text last_lines.Version = VERSION.now
last_line_text (last_lines.Usage usage) = usage_line_text usage
last_line_text (last_lines.NoFilter error) = no_filter_text error.now
last_line_text last_lines.NoMemory = no_memory_text
