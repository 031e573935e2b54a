use Rattle.std.proofs.Common.{[], refl, subst, rules}
use Rattle.etherparse.specs.Types.Layer.TheVariants as layers
use Rattle.etherparse.specs.WriteFront.{IsRefusedSpace}
use Rattle.ether_peel.specs.Grammar.Stack.{Accepted}
use Rattle.example_frames.proofs.arp_generator.write_arp_request.Goals as goal

pub returns-in-Ok-clause-request : goal.returns-in-Ok-clause-request
returns-in-Ok-clause-request c =
    let w = rw c.to_arp_packet-arp_packet.ensures.value at c.in-Ok.ensures.ok.walk in
    record { window = _; walk = w.walk [] (Accepted _ _) (refl, refl, refl); left = w.payload }

pub returns-in-Err-Space-clause-refused : goal.returns-in-Err-Space-clause-refused
returns-in-Err-Space-clause-refused c =
    let e = c.in-Err-Space in
    let r = rw e.field-0-is at (e.ensures.space tt (refl, tt)) in
    subst (λ n. IsRefusedSpace n layers.EtherPayload c.args.target.now e.error) (search rules) r

pub unreachable-requires : goal.unreachable-requires
unreachable-requires c =
    let e = c.in-Err-HardwareType in
    rw e.field-0-is at (e.ensures.space tt (refl, tt))

pub unreachable-requires-in-Err-Sealed : goal.unreachable-requires-in-Err-Sealed
unreachable-requires-in-Err-Sealed c =
    let e = c.in-Err-Sealed in
    rw e.field-0-is at (e.ensures.space tt (refl, tt))
