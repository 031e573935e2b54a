use Rattle.std.proofs.Common.{rules}
use Rattle.std.specs.Prelude.{Bool, IsTrue}
use Rattle.ether_pcap.specs.Capture.{PacketValue}
use Rattle.ether_pcap.proofs.Copies.{copy_read, copy_edits, copy_source, copy_nothing, copy_stopped, copy_within, all_unedited, copy_all}
use Rattle.ether_pcap.proofs.Interfaces.{copy_interfaces}
use Rattle.ether_pcap.proofs.laws.copies_are_read.Goals as goal

abbrev Is : (PacketValue → Bool) → PacketValue → Type 0
Is test p = IsTrue (test p)

pub returns : goal.returns
returns c =
    search (
      rules,
      copy_read,
      copy_edits,
      copy_source,
      copy_nothing,
      copy_stopped,
      copy_within,
      copy_interfaces,
      all_unedited,
      copy_all,
    )
