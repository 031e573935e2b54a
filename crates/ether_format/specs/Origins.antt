-- Where a packet comes from.
use Rattle.std.specs.Prelude.{ℕ, List, Option}
use Rattle.std.specs.Option.{option_map}
use Rattle.ether_format.specs.declared.origin.Origin.{Origin}

-- the name of its file, if that has one; and its number, counted from 1
pub record OriginValue : Type 0 where
  pub file : Option (List ℕ)
  pub number : ℕ

abbrev pub origin_view : Origin → OriginValue
origin_view o = record { file = option_map (λ name. name.now) o.file; number = o.number }
