-- The text for a frame by a command.
use Rattle.std.specs.Prelude.{ℕ, List, Bool}
use Rattle.etherparse.specs.Kind as kinds
use Rattle.ether_peel.specs.Grammar.Expectation.{Next, Expectation, Start, EtherType}
use Rattle.ether_text.specs.WalkText.{AnswersWalk, AnswersFeed}
use Rattle.ether_text.specs.declared.tool.command.Command.{Command}
use Rattle.ether_text.specs.declared.tool.mode.Mode.{Mode}
use Rattle.ether_text.specs.declared.tool.mode.Mode.TheVariants as modes

-- what the frames of a mode begin with
abbrev pub start_of_mode : Mode → Next
start_of_mode modes.Eth = Start kinds.Ethernet2
start_of_mode modes.Fcs = Start kinds.Ethernet2Fcs
start_of_mode modes.Sll = Start kinds.LinuxSll
start_of_mode (modes.EtherType t) = EtherType t.0
start_of_mode modes.Feed = Start kinds.Ethernet2

-- .. and how many extensions a command reads of them
abbrev pub start_of_command : Command → Expectation
start_of_command command = record { next = start_of_mode command.mode; limit = command.limit }

-- the text for a frame in a mode, from what it begins with
abbrev pub AnswersFrom : Mode → Expectation → (frame text : List ℕ) → (accepted : Bool) → Type 0
AnswersFrom modes.Feed start frame text accepted = AnswersFeed start frame text accepted
AnswersFrom mode start frame text accepted = AnswersWalk start frame text accepted

-- the text for a frame by a command
abbrev pub Answers : Command → (frame text : List ℕ) → (accepted : Bool) → Type 0
Answers command = AnswersFrom command.mode (start_of_command command)
