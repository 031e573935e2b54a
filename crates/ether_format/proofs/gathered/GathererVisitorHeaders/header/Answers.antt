use Rattle.std.proofs.Common.{◌≡◌, Bool, false, length, refl, sym, subst, ◌∙◌}
use Rattle.std.specs.Prelude.{nat_eq}
use Rattle.ether_format.specs.Found.{found_told}
use Rattle.ether_format.specs.Gathered.{GathersIf}
use Rattle.ether_format.proofs.gathered.GathererVisitorHeaders.header.Goals as goal

pub returns-else-is_full : goal.returns-else-is_full
returns-else-is_full c =
    let room : nat_eq (length c.args.target.now.items) 4 ≡ false =
    sym c.is_full.ensures.value ∙ c.if-is_full.false in
    subst
    (λ (b : Bool). GathersIf b c.args.self.now c.args.target.now.items (found_told c.args.found) c.args.self.now
    c.push.new.self.items)
    (sym room) (refl, (c.args.found, refl, c.push.ensures.items))
