-- The lines that a switch writes for a frame.
use Rattle.std.specs.Prelude.{◌≡◌, ℕ, ◌+◌, ◌<◌, List, [], ◌++◌, codes, decimal, Result, Ok, Err, true, false}
use Rattle.hex.specs.Hex.{encode_lower}
use Rattle.etherparse.specs.Header.{Header}
use Rattle.ether_peel.specs.Grammar.Stack.{Ending}
use Rattle.ether_switch.specs.declared.arrival.Discarded.{Discarded}
use Rattle.ether_switch.specs.declared.received.Received.{Received}
use Rattle.ether_switch.specs.Arrivals.{front_of}
use Rattle.ether_switch.specs.Leaving.{LeavesTagged, LeavesUntagged}
use Rattle.ether_switch.specs.Ports.{has}
use Rattle.ether_switch.specs.Relaying.{Answer, IsAnswer}

-- the number of a port, a space, and a frame in hexadecimal digits
abbrev pub line_of : (number : ℕ) (frame : List ℕ) → List ℕ
line_of number frame = decimal number ++ (codes " " ++ (encode_lower frame ++ codes "\n"))

-- What is written for a port and a frame that was received: a line with the bytes that leave, if the frame leaves by
-- the port with a tag or without one, else nothing.
pub data HasLine (r : Received) (number : ℕ) (frame : List ℕ) (hs : List Header) (e : Ending)
    : (text : List ℕ) → Type 0 where
  tagged : (sent : List ℕ) → has r.tagged number ≡ true → LeavesTagged r (front_of r.kind hs) frame hs e sent
      → HasLine r number frame hs e (line_of number sent)
  untagged : (sent : List ℕ) → has r.tagged number ≡ false → has r.untagged number ≡ true
      → LeavesUntagged (front_of r.kind hs) frame hs e sent → HasLine r number frame hs e (line_of number sent)
  passed : has r.tagged number ≡ false → has r.untagged number ≡ false → HasLine r number frame hs e []

-- .. for the ports from `number` to 255, in their order
pub data HasLines (r : Received) (frame : List ℕ) (hs : List Header) (e : Ending)
    : (number : ℕ) → (text : List ℕ) → Type 0 where
  none : HasLines r frame hs e 256 []
  more : (number : ℕ) (text later : List ℕ) → number < 256
      → HasLine r number frame hs e text
      → HasLines r frame hs e (number + 1) later
      → HasLines r frame hs e number (text ++ later)

-- .. by the answer of a bridge, which says through which ports the frame leaves: nothing for a discarded frame
abbrev pub Answers : Result Answer Discarded → (frame : List ℕ) (hs : List Header) (e : Ending)
    → (text : List ℕ) → Type 0
Answers (Ok a) frame hs e text = (r : Received) × IsAnswer a r × HasLines r frame hs e 0 text
Answers (Err reason) frame hs e text = text ≡ []
