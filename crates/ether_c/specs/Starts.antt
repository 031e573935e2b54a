-- The start that the numbers of a call name.
use Rattle.std.specs.Prelude.{◌≡◌, ℕ, None, IfSome}
use Rattle.ether_peel.specs.declared.start.Start.{Start}
use Rattle.ether_c.specs.Numbers.{start_numbered, unknown_start}

-- no start has these numbers
abbrev pub IsUnknown : (number ether_type : ℕ) → Type 0
IsUnknown number ether_type = start_numbered number ether_type ≡ None

-- the status says so, and whatever the call might write to is unchanged
abbrev pub IsUnknownStart : (status : ℕ) → Type 0 → Type 0
IsUnknownStart status Kept = (status ≡ unknown_start) × Kept

-- what holds for the start with these numbers, if there is one
abbrev pub OfStart : (number ether_type : ℕ) → (Start → Type 0) → Type 0
OfStart number ether_type Holds = IfSome (start_numbered number ether_type) Holds
