-- The part of a packet that is walked, as a value.
use Rattle.ether_base.specs.Bytes.{number}
use Rattle.ether_base.specs.Formats.LinuxSll.{LinuxSllValue}
use Rattle.ether_peel.specs.Walker.Start.{next_of}
use Rattle.ether_content.specs.Content.{ContentValue, Frame, LinuxSll, LinuxSll2, Unknown}
use Rattle.ether_content.specs.declared.cooked.CookedHeader.{CookedHeader}
use Rattle.ether_content.specs.declared.content.Content.{Content}
use Rattle.ether_content.specs.declared.content.Content.TheVariants as contents

abbrev pub cooked_view : CookedHeader → LinuxSllValue
cooked_view h = record {
  packet_type = h.packet_type;
  hardware_type = h.hardware_type.0;
  address_len = h.address_len;
  address = number h.address;
  protocol = h.protocol.0;
}

abbrev pub content_view : Content → ContentValue
content_view (contents.Frame start bytes) = Frame (next_of start) bytes.now
content_view (contents.LinuxSll header payload) = LinuxSll (cooked_view header) payload.now
content_view (contents.LinuxSll2 bytes) = LinuxSll2 bytes.now
content_view contents.Unknown = Unknown
