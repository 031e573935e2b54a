-- How the program ends: what it prints last, and its exit status.
use Rattle.std.specs.Prelude.{ℕ, List, ◌++◌, codes, Option, Some, None, Result, Ok, Err, Bool, true, false}
use Rattle.std.specs.Fmt.{decimal}
use Rattle.ether_text.specs.declared.tool.mode.Usage.{Usage}
use Rattle.ether_text.specs.declared.tool.outcome.TheConstants.{BAD_LINE, USAGE}
use Rattle.ether_text.specs.declared.tool.outcome.LastLine.{LastLine}
use Rattle.ether_text.specs.declared.tool.outcome.LastLine.TheVariants as last_lines
use Rattle.ether_text.specs.declared.verdict.Verdict.{Verdict}
use Rattle.ether_text.specs.declared.verdict.Verdict.TheVariants.{AllAccepted, SomeRefused}
use Rattle.ether_text.specs.declared.tool.outcome.ToolFault.{ToolFault}
use Rattle.ether_text.specs.declared.tool.outcome.ToolFault.TheVariants.{BadLine, Input, Output}

-- the exit status of a run
abbrev pub exit_status : Result Verdict ToolFault → ℕ
exit_status (Ok AllAccepted) = 0
exit_status (Ok SomeRefused) = 1
exit_status (Err (BadLine number)) = 3
exit_status (Err Input) = 4
exit_status (Err Output) = 4

abbrev pub bad_line_text : ℕ → List ℕ
bad_line_text number = codes "line " ++ (decimal number ++ (codes ": " ++ BAD_LINE.now))

-- what the program prints last, without its line feed: the usage if the arguments are wrong
abbrev pub last_text : Result (Result Verdict ToolFault) Usage → Option (List ℕ)
last_text (Err usage) = Some USAGE.now
last_text (Ok (Ok verdict)) = None
last_text (Ok (Err (BadLine number))) = Some (bad_line_text number)
last_text (Ok (Err Input)) = None
last_text (Ok (Err Output)) = None

-- the exit status of the program, by whether its last line was printed: if not, output failed
abbrev pub status_of_program : Result (Result Verdict ToolFault) Usage → (printed : Bool) → ℕ
status_of_program outcome false = exit_status (Err Output)
status_of_program (Ok outcome) true = exit_status outcome
status_of_program (Err usage) true = 2

abbrev pub last_line_text : LastLine → List ℕ
last_line_text last_lines.Usage = USAGE.now
last_line_text (last_lines.BadLine number) = bad_line_text number
