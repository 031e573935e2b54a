use Rattle.ether_pcap.specs.Views.{order_of}
use Rattle.ether_pcap.specs.PcapngViews.{option_view}
use Rattle.ether_pcap.proofs.Options.{agrees_found, agrees_next, agrees_end}
use Rattle.ether_pcap.proofs.pcapng.pcapng_option.searched_value.Goals as goal

pub returns-then-option-code : goal.returns-then-option-code
returns-then-option-code c =
    agrees_found (order_of c.args.byte_order) c.args.code c.args.options.now c.loop-option.rest.now
    (option_view c.in-Some.option) c.loop-option.invariant c.in-Some.ensures c.if-option-code.true

pub loop-option-preserved : goal.loop-option-preserved
loop-option-preserved c =
    let next =
    agrees_next (order_of c.args.byte_order) c.args.code c.args.options.now c.loop-option.rest.now
    (option_view c.in-Some.option) c.loop-option.invariant c.in-Some.ensures c.if-option-code.false in
    rw (c.bytes_from-rest.ensures, c.option_len.ensures) next

pub returns : goal.returns
returns c =
    agrees_end (order_of c.args.byte_order) c.args.code c.args.options.now c.loop-option.rest.now
    c.loop-option.invariant c.in_default.ensures
