use Rattle.std.proofs.Common.{◌∙◌, ap, subst, Option, ℕ}
use Rattle.std.specs.Prelude.{unwrap_or}
use Rattle.std.specs.Option.{option_map}
use Rattle.ether_pcap.specs.Capture.{fcs_bytes}
use Rattle.ether_pcap.specs.Options.{HasOptions, number_of, value_of}
use Rattle.ether_pcap.specs.Views.{order_of}
use Rattle.ether_pcap.proofs.Options.{some_options}
use Rattle.ether_pcap.proofs.Captures.{describes}
use Rattle.ether_pcap.proofs.capture.capture_interface.CaptureInterface.from_body.Goals as goal

pub returns-clause-interface : goal.returns-clause-interface
returns-clause-interface c =
    let d = c.in_ok-description.description in
    let same = ap order_of c.in_ok-description.ensures.order in
    let order = order_of c.args.byte_order in
    let all = (some_options (order_of d.byte_order) d.options.now).0 in
    let has = (some_options (order_of d.byte_order) d.options.now).1 in
    describes order c.args.body.now d c.in_bytes.result c.time_resolution.result c.unwrap_or.result all
    c.in_ok-description.ensures.interface (subst (λ o. HasOptions o d.options.now all) same has)
    (c.in_bytes.ensures ∙ ap (option_map fcs_bytes) (c.fcs_len.ensures all has)) (c.time_resolution.ensures all has)
    (c.unwrap_or.ensures ∙ ap (λ (o : Option ℕ). unwrap_or o 0) (c.time_offset.ensures all has)
    ∙ ap (λ o. unwrap_or (number_of o 8 (value_of 14 all)) 0) same)
