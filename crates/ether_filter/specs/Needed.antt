-- How many bytes of a frame are needed to decide a primitive.
use Rattle.std.specs.Prelude.{◌≡◌, ℕ, ◌+◌, ◌<◌, ◌≤◌, List, ◌++◌, length, ◌⊎◌}
use Rattle.etherparse.specs.Bytes.{IsBytes}
use Rattle.ether_filter.specs.declared.packet.Packet.{Packet}
use Rattle.ether_filter.specs.declared.primitive.Primitive.{Primitive}
use Rattle.ether_filter.specs.Primitives.{Matches}
use Rattle.ether_filter.specs.Later.{SomeCompletion}

-- the packet with further bytes captured
pub record IsLonger (packet longer : Packet) : Type 0 where
  pub more : List ℕ
  pub start : longer.start ≡ packet.start
  pub frame : longer.frame.now ≡ packet.frame.now ++ more
  pub captured : longer.captured_len ≡ packet.captured_len + length more
  pub original : longer.original_len ≡ packet.original_len
  pub time : longer.time ≡ packet.time

-- .. of those that were on the wire
pub record HasMore (packet longer : Packet) : Type 0 where
  pub captures : IsLonger packet longer
  pub are_bytes : IsBytes longer.frame.now
  pub within : longer.captured_len ≤ longer.original_len

-- some completed packet matches the primitive, and some does not
abbrev pub IsUndecided : Packet → Primitive → Type 0
IsUndecided packet primitive =
    SomeCompletion packet (Matches primitive) × SomeCompletion packet (λ w. Matches primitive w → ⊥)

-- every completed packet matches it, or none does
abbrev pub IsDecided : Packet → Primitive → Type 0
IsDecided packet primitive =
    (SomeCompletion packet (λ w. Matches primitive w → ⊥) → ⊥) ⊎ (SomeCompletion packet (Matches primitive) → ⊥)

-- The primitive is undecided while fewer than n bytes of the frame are captured, whatever they are; some n bytes decide
-- it.
pub record IsLeast (packet : Packet) (primitive : Primitive) (n : ℕ) : Type 0 where
  pub stays : (longer : Packet) → HasMore packet longer → length longer.frame.now < n → IsUndecided longer primitive
  pub decides : (longer : Packet) × HasMore packet longer × (length longer.frame.now ≡ n)
      × IsDecided longer primitive
