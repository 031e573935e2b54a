-- What messages say of a refusal, and how the program ends.
use Rattle.std.specs.Prelude.{ℕ, List, codes}
use Rattle.ether_make.specs.declared.lines.LineFault.{LineFault}
use Rattle.ether_make.specs.declared.lines.LineFault.TheVariants.{Memory}
use Rattle.ether_make.specs.declared.refusal.Reason.{Reason}
use Rattle.ether_make.specs.declared.refusal.Reason.TheVariants.{Unknown, Missing, NotAnObject, NotAnArray, NotANumber, NotAText, NotBytes, NotAHeader, NotALink, TooBig, OtherLength, Absent, NotATime, OtherTime, OtherHeader, OtherFrames, NotARange, TooMany}

-- after the member's name
abbrev pub reason_text : Reason → List ℕ
reason_text Unknown = codes "is no member of this object"
reason_text Missing = codes "is missing"
reason_text NotAnObject = codes "is no object"
reason_text NotAnArray = codes "is no array"
reason_text NotANumber = codes "is no number from 0 on"
reason_text NotAText = codes "is no text"
reason_text NotBytes = codes "spells no bytes"
reason_text NotAHeader = codes "names no header that is made"
reason_text NotALink = codes "names a header that begins no frame"
reason_text TooBig = codes "has more bits than the field"
reason_text OtherLength = codes "has another number of bytes than the field"
reason_text Absent = codes "is a field that this header does not have"
reason_text NotATime = codes "is no date and time of day in UTC"
reason_text OtherTime = codes "is a time before 1970 or after 7 February 2106"
reason_text OtherHeader = codes "is not the link type of the first header"
reason_text OtherFrames = codes "is not the link type of the frames before"
reason_text NotARange = codes "is no range of numbers that the field has"
reason_text TooMany = codes "has too many combinations of ranges without --count"

-- the exit status after a line that means no frame
abbrev pub fault_status : LineFault → ℕ
fault_status Memory = 5
fault_status fault = 3
