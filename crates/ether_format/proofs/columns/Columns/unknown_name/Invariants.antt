use Rattle.std.proofs.Common.{◌≡◌, length, List, ℕ, Option, true}
use Rattle.std.specs.Prelude.{◌==◌}
use Rattle.std.specs.Str.{all_scalars, encode_utf8_all}
use Rattle.std.specs.List.{slice_split}
use Rattle.ether_format.specs.Columns.{IsUnknownIn}
use Rattle.ether_format.proofs.columns.Columns.unknown_name.Given as goal

-- what follows is text, in which the name is looked for
abbrev pub invariant-loop-name : goal.invariant-loop-name
invariant-loop-name l = ((scalars : List ℕ) × ((all_scalars scalars ≡ true) × (encode_utf8_all scalars ≡ l.rest)))
    × ((unknown : Option (List ℕ)) → IsUnknownIn (slice_split (λ b. b == 44) l.rest) unknown
    → IsUnknownIn (slice_split (λ b. b == 44) l.fn.text) unknown)

abbrev pub decreases-loop-name : goal.decreases-loop-name
decreases-loop-name l = length l.rest
