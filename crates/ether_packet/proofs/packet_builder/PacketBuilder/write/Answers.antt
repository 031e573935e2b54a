use Rattle.std.proofs.Common.{ℕ, length, refl, subst, rules}
use Rattle.etherparse.specs.Types.Layer.TheVariants as layers
use Rattle.etherparse.specs.WriteFront.{IsRefusedSpace}
use Rattle.ether_packet.specs.Builder.{hardware_type, sealed, space, inner_headers}
use Rattle.ether_packet.proofs.Chains.{accepts_packet, chain_unsealed}
use Rattle.ether_packet.proofs.packet_builder.PacketBuilder.write.Goals as goal

pub returns-in-Some-clause-refused : goal.returns-in-Some-clause-refused
returns-in-Some-clause-refused c = hardware_type _ c.in-Some.ensures.other

pub returns-in-Err-clause-refused : goal.returns-in-Err-clause-refused
returns-in-Err-clause-refused c = sealed c.in-Err.index (c.in_default.ensures.none refl) c.in-Err.ensures.sealed

pub returns-in-Err-clause-space : goal.returns-in-Err-clause-space
returns-in-Err-clause-space c =
    λ _ chain. chain_unsealed (inner_headers c.args.self.now) c.in-Err.index chain c.in-Err.ensures.sealed

pub returns-then-len-required_len-clause-refused : goal.returns-then-len-required_len-clause-refused
returns-then-len-required_len-clause-refused c =
    let required_len = c.in-Ok.required_len in
    space _ (c.in_default.ensures.none refl) c.in-Ok.ensures.chain
    (subst
    (λ (n : ℕ).
    IsRefusedSpace n layers.EtherPayload c.args.target.now
    (record {
      required_len = required_len;
      len = length c.args.target.now;
      layer = layers.EtherPayload;
      layer_start_offset = 0;
    }))
    c.in-Ok.ensures.len
    (record { short = c.if-len-required_len.true; error = refl }))

pub returns-clause-accepted : goal.returns-clause-accepted
returns-clause-accepted c = search (rules, accepts_packet)
