use Rattle.ether_pcap.specs.Capture.{block_refused, body_refused}
use Rattle.ether_pcap.specs.Views.{order_of}
use Rattle.ether_pcap.specs.CaptureViews.{capture_refusal_view}
use Rattle.ether_pcap.specs.PcapngViews.{block_refusal_view, block_view}
use Rattle.ether_pcap.proofs.UnitsRead.{block_read}
use Rattle.ether_pcap.proofs.capture.capture_blocks.read_block.Goals as goal

pub returns-in-Err-clause-refused : goal.returns-in-Err-clause-refused
returns-in-Err-clause-refused g c most =
    block_refused most (order_of c.args.byte_order) _ (block_refusal_view c.in-Err.error) c.requires
    c.in-Err.ensures.refused

pub returns-in-Ok-read_body-clause-unit : goal.returns-in-Ok-read_body-clause-unit
returns-in-Ok-read_body-clause-unit g c =
    block_read c.args.bytes.now c.args.byte_order (g.I.DescribedInterfaces.items c.args.interfaces.now)
    (block_view c.in-Ok.block) c.block_len.result c.in-Ok-read_body.content c.requires c.in-Ok.ensures.block
    c.block_len.ensures c.in-Ok-read_body.ensures.body

pub returns-in-Err-read_body-clause-refused : goal.returns-in-Err-read_body-clause-refused
returns-in-Err-read_body-clause-refused g c most =
    body_refused most (order_of c.args.byte_order) _ (block_view c.in-Ok.block)
    (capture_refusal_view c.in-Err-read_body.error) c.requires c.in-Ok.ensures.block
    (c.in-Err-read_body.ensures.refused most)
