use Rattle.std.proofs.Common.{refl}
use Rattle.ether_pcap.specs.Views.{order_of}
use Rattle.ether_pcap.proofs.Options.{agrees_end, none_of_few}
use Rattle.ether_pcap.proofs.pcapng.pcapng_option.option_value.Goals as goal

pub returns-then-options-lt4 : goal.returns-then-options-lt4
returns-then-options-lt4 c =
    let order = order_of c.args.byte_order in
    let bytes = c.args.options.now in
    agrees_end order c.args.code bytes bytes (λ options has. (options, has, refl))
    (none_of_few order bytes c.if-options-lt4.true)
