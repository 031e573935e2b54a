use Rattle.std.proofs.Common.{◌≡◌, ◌/◌, ◌%◌, ◌^◌, ◌+◌, ◌*◌, ◌∙◌, ℕ, List, [], ◌∷◌, slice_index_or, ap, arith}
use Rattle.ether_base.specs.Bytes.{spelled}
use Rattle.ether_tags.proofs.vlan_fields.bytes_of.Goals as goal

pub returns : goal.returns
unfolding spelled
returns c =
    let n = c.args.control * 2 ^ 16 + c.args.ether_type in
    let high = c.bytes_of_u16-high in
    let low = c.bytes_of_u16-low in
    let first : slice_index_or high.result 0 0 ≡ n / 256 ^ 3 % 256 =
    ap (λ (l : List ℕ). slice_index_or l 0 0) high.ensures ∙ omega arith in
    let second : slice_index_or high.result 1 0 ≡ n / 256 ^ 2 % 256 =
    ap (λ (l : List ℕ). slice_index_or l 1 0) high.ensures ∙ omega arith in
    let third : slice_index_or low.result 0 0 ≡ n / 256 ^ 1 % 256 =
    ap (λ (l : List ℕ). slice_index_or l 0 0) low.ensures ∙ omega arith in
    let last : slice_index_or low.result 1 0 ≡ n / 256 ^ 0 % 256 =
    ap (λ (l : List ℕ). slice_index_or l 1 0) low.ensures ∙ omega arith in
    λ i. first i ∷ second i ∷ third i ∷ last i ∷ []
