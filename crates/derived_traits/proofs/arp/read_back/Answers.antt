use Rattle.std.proofs.Common.{◌≡◌, ◌++◌, ◌∙◌, ℕ, List, [], sym, subst}
use Rattle.std.proofs.lemmas.List.{append-nil}
use Rattle.ether_base.specs.Formats.Header as headers
use Rattle.ether_base.specs.Formats.Header.{Means}
use Rattle.ether_arp.proofs.Writing.{read_is}
use Rattle.derived_traits.proofs.arp.read_back.Goals as goal

pub returns : goal.returns
returns c =
    let packet = c.args.packet.now in
    let items = c.to_bytes-bytes.result.items in
    let same : items ++ [] ≡ c.as_slice.result.now = append-nil items ∙ sym c.as_slice.ensures.value in
    let means = subst (λ (l : List ℕ). Means l (headers.Arp packet)) same (c.to_bytes-bytes.ensures.read []) in
    read_is c.as_slice.result.now packet c.from_slice.result means c.from_slice.ensures.value
    c.from_slice.ensures.refused
