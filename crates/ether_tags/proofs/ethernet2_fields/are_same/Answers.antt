use Rattle.std.proofs.Common.{◌≡◌, ◌==◌, ◌&&◌, true, sym, ◌∙◌}
use Rattle.std.specs.Cmp.Lexicographic.{pointwise}
use Rattle.ether_base.proofs.ArrayElements.{cells}
use Rattle.ether_tags.proofs.SameParts.{fourteen_same}
use Rattle.ether_tags.proofs.ethernet2_fields.are_same.Goals as goal
use Rattle.ether_tags.proofs.ethernet2_fields.are_same.Goals.{then-eq, else-eq}

pub returns-then-eq-2 : goal.returns-then-eq-2
returns-then-eq-2 c =
    let a = c.args.a.now in
    let b = c.args.b.now in
    elim c.if-eq.branch [
      | then-eq w ↦
          let first : pointwise ◌==◌ (cells 0 8 a) (cells 0 8 b) ≡ true = cc in
          let second : pointwise ◌==◌ (cells 8 4 a) (cells 8 4 b) ≡ true = cc in
          let both : pointwise ◌==◌ (cells 0 8 a) (cells 0 8 b)
          && (pointwise ◌==◌ (cells 8 4 a) (cells 8 4 b) && pointwise ◌==◌ (cells 12 2 a) (cells 12 2 b))
          ≡ pointwise ◌==◌ (cells 12 2 a) (cells 12 2 b) =
          λ i. first i && (second i && pointwise ◌==◌ (cells 12 2 a) (cells 12 2 b)) in
          c.eq-then-eq-2.ensures ∙ sym (fourteen_same a b c.requires.first c.requires.second ∙ both)
      | else-eq w ↦ absurd cc
    ]
