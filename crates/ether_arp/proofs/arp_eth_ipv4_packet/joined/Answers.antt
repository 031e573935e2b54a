use Rattle.std.proofs.Common.{◌≡◌, ℕ, List, ◌++◌, length, ap, ◌∙◌, rules}
use Rattle.ether_base.proofs.ArrayElements.{cells, cells-all}
use Rattle.ether_arp.proofs.arp_eth_ipv4_packet.joined.Goals as goal

pub returns-clause-value : goal.returns-clause-value
returns-clause-value c =
    let f = c.args.front in
    let s = c.args.sender_mac in
    let i = c.args.sender_ipv4 in
    let t = c.args.target_mac in
    let j = c.args.target_ipv4 in
    let lf : length f ≡ 8 = search rules in
    let ls : length s ≡ 6 = search rules in
    let li : length i ≡ 4 = search rules in
    let lt : length t ≡ 6 = search rules in
    let lj : length j ≡ 4 = search rules in
    ap (λ (l : List ℕ). l ++ cells 0 6 s ++ cells 0 4 i ++ cells 0 6 t ++ cells 0 4 j) (cells-all 8 f lf)
    ∙ ap (λ (l : List ℕ). f ++ l ++ cells 0 4 i ++ cells 0 6 t ++ cells 0 4 j) (cells-all 6 s ls)
    ∙ ap (λ (l : List ℕ). f ++ s ++ l ++ cells 0 6 t ++ cells 0 4 j) (cells-all 4 i li)
    ∙ ap (λ (l : List ℕ). f ++ s ++ i ++ l ++ cells 0 4 j) (cells-all 6 t lt)
    ∙ ap (λ (l : List ℕ). f ++ s ++ i ++ t ++ l) (cells-all 4 j lj)
