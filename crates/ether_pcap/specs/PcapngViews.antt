-- The structs and enums of this crate for pcapng files as values of the format.
use Rattle.ether_pcap.specs.Block.{BlockValue, BlockRefusal}
use Rattle.ether_pcap.specs.Block as block_rows
use Rattle.ether_pcap.specs.Bodies.{BodyRefusal, InterfaceValue, EnhancedPacketValue, SimplePacketValue}
use Rattle.ether_pcap.specs.Bodies as body_rows
use Rattle.ether_pcap.specs.Options.{OptionValue}
use Rattle.ether_pcap.specs.Section.{SectionRefusal}
use Rattle.ether_pcap.specs.Section as section_rows
use Rattle.ether_pcap.specs.declared.pcapng.pcapng_block.PcapngBlock.{PcapngBlock}
use Rattle.ether_pcap.specs.declared.pcapng.interface_description.InterfaceDescription.{InterfaceDescription}
use Rattle.ether_pcap.specs.declared.pcapng.enhanced_packet.EnhancedPacket.{EnhancedPacket}
use Rattle.ether_pcap.specs.declared.pcapng.simple_packet.SimplePacket.{SimplePacket}
use Rattle.ether_pcap.specs.declared.pcapng.pcapng_option.PcapngOption.{PcapngOption}
use Rattle.ether_pcap.specs.declared.pcapng.block_error.BlockError.{BlockError}
use Rattle.ether_pcap.specs.declared.pcapng.block_error.BlockError.TheVariants as block_errors
use Rattle.ether_pcap.specs.declared.pcapng.body_error.BodyError.{BodyError}
use Rattle.ether_pcap.specs.declared.pcapng.body_error.BodyError.TheVariants as body_errors
use Rattle.ether_pcap.specs.declared.pcapng.section_error.SectionError.{SectionError}
use Rattle.ether_pcap.specs.declared.pcapng.section_error.SectionError.TheVariants as section_errors

abbrev pub block_view : PcapngBlock → BlockValue
block_view b = record { block_type = b.block_type; body = b.body.now }

abbrev pub block_refusal_view : BlockError → BlockRefusal
block_refusal_view (block_errors.Len required len) = block_rows.Short required len
block_refusal_view (block_errors.TotalLen len) = block_rows.TotalLen len
block_refusal_view (block_errors.Trailer total_len trailer) = block_rows.Trailer total_len trailer

abbrev pub interface_view : InterfaceDescription → InterfaceValue
interface_view i = record { link_type = i.link_type.0; snap_len = i.snap_len; options = i.options.now }

abbrev pub option_view : PcapngOption → OptionValue
option_view o = record { code = o.code; value = o.value.now }

abbrev pub enhanced_packet_view : EnhancedPacket → EnhancedPacketValue
enhanced_packet_view p =
    record {
      interface = p.interface;
      time = p.time;
      original_len = p.original_len;
      packet = p.packet.now;
      options = p.options.now;
    }

abbrev pub simple_packet_view : SimplePacket → SimplePacketValue
simple_packet_view p = record { original_len = p.original_len; packet = p.packet.now }

abbrev pub body_refusal_view : BodyError → BodyRefusal
body_refusal_view (body_errors.Len required len) = body_rows.Short required len
body_refusal_view (body_errors.CapturedLen len) = body_rows.TooLong len

abbrev pub section_refusal_view : SectionError → SectionRefusal
section_refusal_view (section_errors.Len required len) = section_rows.Short required len
section_refusal_view (section_errors.BlockType number) = section_rows.BlockType number
section_refusal_view (section_errors.Magic number) = section_rows.Magic number
section_refusal_view (section_errors.Block error) = section_rows.Block (block_refusal_view error)
section_refusal_view (section_errors.Body required len) = section_rows.Body required len
section_refusal_view (section_errors.Version major minor) = section_rows.Version major minor
