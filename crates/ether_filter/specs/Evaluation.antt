-- The values of the expressions that are read, as a stack.
use Rattle.std.specs.Prelude.{◌≡◌, ℕ, ◌+◌, List, [], ◌∷◌, length, Option, Some, None, min, Bool, true, false, ◌&&◌, ◌||◌, IsTrue, ◌↔◌}
use Rattle.etherparse.specs.Types.Layer.{Layer}
use Rattle.etherparse.specs.Header.{Header}
use Rattle.ether_peel.specs.Grammar.Expectation.{has_fcs}
use Rattle.ether_peel.specs.Grammar.Stack.{Ending}
use Rattle.ether_peel.specs.Grammar.Endings.{OpenRefusal, named_len}
use Rattle.ether_peel.specs.Walker.Start.{start_of}
use Rattle.ether_filter.specs.declared.deciding.Opening.{Opening}
use Rattle.ether_filter.specs.declared.packet.Packet.{Packet}
use Rattle.ether_filter.specs.declared.node.Operator.{Operator}
use Rattle.ether_filter.specs.declared.node.Operator.TheVariants as operators
use Rattle.ether_filter.specs.Primitives.{Walked}
use Rattle.ether_filter.specs.Expressions.{Expression, Holds}
use Rattle.ether_filter.specs.declared.decision.Decision.{Decision}
use Rattle.ether_filter.specs.declared.decision.Decision.TheVariants.{Matches, Fails, Needs}
use Rattle.ether_filter.specs.Deciding.{IsOpenAt, Says}

-- each value is that of the expression at the same position
abbrev pub AreValues : {V : Type 0} → (V → Expression → Type 0) → List V → List Expression → Type 0
AreValues Is [] [] = Unit {0}
AreValues Is (v ∷ vs) (x ∷ xs) = Is v x × AreValues Is vs xs
AreValues Is _ _ = ⊥

-- a truth says whether the expression holds
abbrev pub IsTruth : Walked → Bool → Expression → Type 0
IsTruth p b x = IsTrue b ↔ Holds x p

abbrev pub joined_truth : Operator → (left right : Bool) → Bool
joined_truth operators.And left right = left && right
joined_truth operators.Or left right = left || right

-- ---- of a packet that was cut

-- if a frame's walk ends in an open refusal: the number of missing bytes, and the layer of the refused unit
abbrev pub IsRefusedUnit : List ℕ → Ending → Option (ℕ × Layer) → Type 0
IsRefusedUnit frame e None = OpenRefusal e → ⊥
IsRefusedUnit frame e (Some unit) = (o : OpenRefusal e) × (named_len e o ≡ length frame + unit.0) × (o.layer ≡ unit.1)

-- the layer of the refused unit; none if the frame has a frame check sequence
abbrev pub IsLayer : Packet → Ending → Option Layer → Type 0
IsLayer packet e None = has_fcs (start_of packet.start) ≡ true
IsLayer packet e (Some layer) = (o : OpenRefusal e) × (o.layer ≡ layer)

-- the length at which the packet is open, if it is open
abbrev pub IsOpening : Packet → Ending → Option Opening → Type 0
IsOpening packet e None = (n : ℕ) → IsOpenAt packet e n → ⊥
IsOpening packet e (Some opening) = IsOpenAt packet e opening.needed × IsLayer packet e opening.layer

-- the decision of a truth
abbrev pub decided : Bool → Decision
decided true = Matches
decided false = Fails

-- the tables of Kleene's logic, where an open expression needs the least of what its open operands need
abbrev pub joined_decision : Operator → (left right : Decision) → Decision
joined_decision operators.And Fails right = Fails
joined_decision operators.And left Fails = Fails
joined_decision operators.And Matches right = right
joined_decision operators.And left Matches = left
joined_decision operators.And (Needs a) (Needs b) = Needs (min a b)
joined_decision operators.Or Matches right = Matches
joined_decision operators.Or left Matches = Matches
joined_decision operators.Or Fails right = right
joined_decision operators.Or left Fails = left
joined_decision operators.Or (Needs a) (Needs b) = Needs (min a b)

abbrev pub negated_decision : Decision → Decision
negated_decision Matches = Fails
negated_decision Fails = Matches
negated_decision (Needs n) = Needs n

-- a decision is that on the expression
abbrev pub IsValue : Packet → List Header → Ending → Decision → Expression → Type 0
IsValue packet hs e d x = Says packet hs e x d
