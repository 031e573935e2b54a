-- How many bytes of an open unit are needed to decide a primitive.
use Rattle.std.specs.Prelude.{◌≡◌, ℕ, ◌+◌, ◌-◌, List, length, false}
use Rattle.etherparse.specs.Bytes.{IsBytes}
use Rattle.etherparse.specs.Header.{Header}
use Rattle.ether_filter.specs.declared.can.Can.{Can}
use Rattle.ether_filter.specs.declared.packet.Packet.{Packet}
use Rattle.ether_filter.specs.declared.possible.Told.{Told}
use Rattle.ether_filter.specs.declared.primitive.Primitive.{Primitive}
use Rattle.ether_filter.specs.declared.prospect.Prospect.{Prospect}
use Rattle.ether_filter.specs.declared.prospect.OpenKind.{OpenKind}
use Rattle.ether_filter.specs.Deciding.{is_of_field}
use Rattle.ether_filter.specs.Later.{IsOpenAs}
use Rattle.ether_filter.specs.Needed.{IsUndecided, IsLeast}
use Rattle.ether_filter.specs.OwnFields.{FitsOwn}
use Rattle.ether_filter.specs.Possible.{AreTold}
use Rattle.ether_filter.specs.Prospects.{IsOpen, kind_named}

-- The least number of bytes of an open unit. The bytes that are missing come right after the known ones.
abbrev pub IsLeastAt : Primitive → Told → OpenKind → (known : List ℕ) → (room n : ℕ) → Type 0
IsLeastAt primitive told kind known room n =
    is_of_field primitive ≡ false → (packet : Packet) (hs : List Header) → IsBytes packet.frame.now
    → IsOpen packet hs (kind_named kind) known room → AreTold packet hs primitive told → IsUndecided packet primitive
    → IsLeast packet primitive (length packet.frame.now + (n - length known))

-- each packet is so that is open at a unit with this prospect, and of whose fields this is known
abbrev pub AllOpen : (Packet → Type 0) → Primitive → Told → OpenKind → (own : Can) → (after : Prospect) → Type 0
AllOpen Is primitive told kind own after =
    (packet : Packet) (hs : List Header) (known : List ℕ) (room : ℕ) → IsOpenAs packet hs kind known room after
    → FitsOwn primitive kind known own → AreTold packet hs primitive told → Is packet
