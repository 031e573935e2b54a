use Rattle.std.proofs.Common.{ℕ, List, ◌++◌, length, ap, sym, subst, ◌∙◌}
use Rattle.ether_base.specs.declared.len_source.LenSource.TheVariants as sources
use Rattle.ether_base.specs.Formats.Header as headers
use Rattle.ether_base.specs.Formats.Header.{Means}
use Rattle.ether_base.specs.Formats.Kind as kinds
use Rattle.ether_base.specs.Formats.Refusal.{Accepts}
use Rattle.ether_base.proofs.ReadBack.{length-header_bytes, means-header_bytes}
use Rattle.ether_arp.proofs.Writing.{written_accepted}
use Rattle.ether_arp.proofs.arp_packet.ArpPacket.to_bytes.Goals as goal

pub returns-clause-len : goal.returns-clause-len
returns-clause-len c =
    ap length c.spelled.ensures.value ∙ length-header_bytes (headers.Arp c.args.self.now) c.spelled.ensures.fits

pub returns-clause-accepted : goal.returns-clause-accepted
returns-clause-accepted c more =
    subst (λ (l : List ℕ). Accepts sources.Slice (l ++ more) kinds.Arp) (sym c.spelled.ensures.value)
    (written_accepted sources.Slice c.args.self.now more c.spelled.ensures.fits)

pub returns-clause-read : goal.returns-clause-read
returns-clause-read c more =
    let packet = headers.Arp c.args.self.now in
    subst (λ (l : List ℕ). Means (l ++ more) packet) (sym c.spelled.ensures.value)
    (means-header_bytes packet more c.spelled.ensures.fits)
