use Rattle.std.proofs.Common.{refl}
use Rattle.ether_pcap.specs.OptionReading.{block}
use Rattle.ether_pcap.specs.PcapngViews.{block_view, block_refusal_view}
use Rattle.ether_pcap.specs.declared.capture.reader_state.ReaderState.TheVariants as states
use Rattle.ether_pcap.proofs.UnitOptions.{none_in_block}
use Rattle.ether_pcap.proofs.capture.unit_options.block_options.Goals as goal

pub returns-in-Ok : goal.returns-in-Ok
returns-in-Ok c =
    rw (c.from_slice-in-Ok.ensures, c.options_of.ensures)
    (block c.args.byte_order (block_view c.in-Ok.block) c.requires c.in-Ok.ensures.block)

pub returns-in-Err : goal.returns-in-Err
returns-in-Err c order options =
    none_in_block c.args.unit.now (block_refusal_view c.in-Err.field-0) c.args.byte_order order
    (states.Section c.args.byte_order) options c.requires c.in-Err.ensures.refused refl
