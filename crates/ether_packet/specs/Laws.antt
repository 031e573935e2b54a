-- Laws of changes in place: putting in a tag and taking it off undo each other.
use Rattle.std.specs.Prelude.{◌≡◌, ℕ, List, drop}
use Rattle.etherparse.specs.Bytes.{IsBytes}
use Rattle.etherparse.specs.Vlan.{VlanValue}
use Rattle.etherparse.specs.Header.{Header}
use Rattle.ether_peel.specs.Grammar.Stack.{Ending, Walk}
use Rattle.ether_peel.specs.Walker.Start.{start_of}
use Rattle.ether_peel.specs.declared.start.Start.{Start}
use Rattle.ether_packet.specs.TypedLink.{type_of_link}
use Rattle.ether_packet.specs.Popping.{IsPopped}
use Rattle.ether_packet.specs.Pushing.{IsPushed}

-- Taking off a tag that was just put into a buffer returns that tag, and leaves the bytes after the buffer's first
-- four, the frame, as before both.
abbrev pub PoppedAfterPushed : Type 0
PoppedAfterPushed =
    (start : Start) (old between new : List ℕ) (hs ks : List Header) (e f : Ending) (tag popped : VlanValue) (tpid : ℕ)
    → Walk (start_of start) (drop 4 old) hs e
    → (pushed : IsPushed (start_of start) old hs e tag tpid between)
    → Walk (start_of start) between ks f
    → IsPopped (start_of start) between ks f popped new
    → (drop 4 new ≡ drop 4 old) × (popped ≡ record tag { ether_type = type_of_link pushed.link })

-- Putting in a tag that was just taken off, with the ether type that announced it, leaves the frame as it was before
-- both.
abbrev pub PushedAfterPopped : Type 0
PushedAfterPopped =
    (start : Start) (old between new : List ℕ) (hs ks : List Header) (e f : Ending) (tag : VlanValue)
    → IsBytes old
    → Walk (start_of start) old hs e
    → (popped : IsPopped (start_of start) old hs e tag between)
    → Walk (start_of start) (drop 4 between) ks f
    → IsPushed (start_of start) between ks f tag (type_of_link popped.link) new
    → new ≡ old
