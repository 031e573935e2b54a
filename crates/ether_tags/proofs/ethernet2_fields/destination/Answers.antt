use Rattle.std.proofs.Common.{◌≡◌, ℕ, List, length, sym, ap, ◌∙◌, rules}
use Rattle.ether_base.specs.Bytes.{number, spelled}
use Rattle.ether_base.proofs.Numbers.{spelled-is}
use Rattle.ether_tags.proofs.ethernet2_fields.destination.Goals as goal

pub returns : goal.returns
returns c =
    let len : length c.address_at.result ≡ 6 = search rules in
    sym (spelled-is 6 c.address_at.result len c.address_at.ensures.bytes)
    ∙ ap (λ (l : List ℕ). spelled 6 (number l)) c.address_at.ensures.value
