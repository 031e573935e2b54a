-- What a row says of the headers of a packet.
use Rattle.std.proofs.Common.{◌≡◌, ℕ, List, refl, ap}
use Rattle.std.specs.Prelude.{Option, Some, None}
use Rattle.etherparse.specs.Types.MacsecSlice.{MacsecSlice}
use Rattle.ether_packet.specs.Views.{ViewsSecTagIf}
use Rattle.ether_c.specs.Rows.{presence}

-- there is a view of a SecTag exactly if there is a SecTag
pub tag_presence : (tag : Option (List ℕ)) (view : Option MacsecSlice) → ViewsSecTagIf tag view
    → presence view ≡ presence tag
tag_presence None view is = ap presence is
tag_presence (Some bytes) None is = absurd is
tag_presence (Some bytes) (Some slice) is = refl
