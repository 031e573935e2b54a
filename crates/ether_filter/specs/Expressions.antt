-- Expressions, and of which packets they hold.
use Rattle.ether_filter.specs.declared.primitive.Primitive.{Primitive}
use Rattle.ether_filter.specs.declared.node.Operator.{Operator}
use Rattle.ether_filter.specs.declared.node.Operator.TheVariants as operators
use Rattle.std.specs.Prelude.{◌⊎◌}
use Rattle.ether_filter.specs.Primitives.{Walked, Matches}

pub data Expression : Type 0 where
  Test : Primitive → Expression
  Not : Expression → Expression
  Join : Operator → Expression → Expression → Expression

abbrev pub Joined : Operator → (left right : Type 0) → Type 0
Joined operators.And left right = left × right
Joined operators.Or left right = left ⊎ right

abbrev pub Holds : Expression → Walked → Type 0
Holds (Test primitive) p = Matches primitive p
Holds (Not x) p = ¬ (Holds x p)
Holds (Join operator x y) p = Joined operator (Holds x p) (Holds y p)
