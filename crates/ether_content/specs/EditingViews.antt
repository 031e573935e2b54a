-- An edit, and a packet after an edit, as values.
use Rattle.std.specs.Prelude.{ℕ, List, slice_range}
use Rattle.ether_pcap.specs.Editing.{EditedValue}
use Rattle.ether_content.specs.Editing.{EditValue, CutToHeaders, PopVlan, PushVlan, SetVlan}
use Rattle.ether_content.specs.declared.editing.PacketEdit.{PacketEdit}
use Rattle.ether_content.specs.declared.editing.PacketEdit.TheVariants as edits
use Rattle.ether_content.specs.declared.editing.EditedPacket.{EditedPacket}

abbrev pub edit_view : PacketEdit → EditValue
edit_view edits.CutToHeaders = CutToHeaders
edit_view edits.PopVlan = PopVlan
edit_view (edits.PushVlan tpid vlan_id) = PushVlan tpid.0 vlan_id
edit_view (edits.SetVlan from to) = SetVlan from to

-- the captured bytes are part of a buffer
abbrev pub edited_view : (buffer : List ℕ) → EditedPacket → EditedValue
edited_view buffer e = record { original_len = e.original_len; packet = slice_range buffer e.start e.end }
