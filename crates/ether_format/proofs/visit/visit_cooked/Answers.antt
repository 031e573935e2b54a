use Rattle.std.proofs.Common.{◌∷◌, refl, subst}
use Rattle.std.specs.Prelude.{None}
use Rattle.etherparse.specs.Header as headers
use Rattle.ether_content.specs.ContentViews.{cooked_view}
use Rattle.ether_format.specs.declared.place.Place.{Place}
use Rattle.ether_format.specs.Told.{Walked}
use Rattle.ether_format.proofs.visit.visit_cooked.Goals as goal

pub returns : goal.returns
returns g c =
    let walk = c.visit_walk.ensures in
    let taken =
    subst
    (λ (place : Place). g.V.Visitor.takes c.args.visitor.now c.args.target.now
    (Walked place (headers.LinuxSll (cooked_view c.args.header)) None) c.header.new.self c.header.new.target)
    c.cooked_place.ensures c.header.ensures in (
      _ ∷ walk.0,
      record { later = walk.0; walk = walk.1; whole = refl },
      (c.header.new.self, c.header.new.target, taken, walk.2),
    )
