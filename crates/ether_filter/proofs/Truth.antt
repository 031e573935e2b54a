-- The truth of an expression of a packet.
use Rattle.std.proofs.Common.{◌≡◌, ◌∙◌, ℕ, ◌≤◌, List, [], length, refl, sym, arith, nat_eq, Bool, true, false, ◌↔◌, IsTrue, inl, inr}
use Rattle.std.proofs.lemmas.List.{append-nil}
use Rattle.std.specs.Prelude.{not, is_some, IsSome}
use Rattle.std.proofs.lemmas.Bool.{ltb-true, lt-ltb, leb-true, le-leb}
use Rattle.ether_peel.specs.Grammar.Stack.{Ending, Accepted, Fault}
use Rattle.ether_peel.specs.Grammar.Endings.{refusal_of}
use Rattle.ether_filter.specs.declared.jumps.Jump.{Jump}
use Rattle.ether_filter.specs.declared.node.Node.{Node}
use Rattle.ether_filter.specs.declared.primitive.Primitive.{Primitive}
use Rattle.ether_filter.specs.declared.primitive.Primitive.TheVariants as primitives
use Rattle.ether_filter.specs.declared.node.Operator.{Operator}
use Rattle.ether_filter.specs.declared.node.Operator.TheVariants as operators
use Rattle.ether_filter.specs.Primitives.{Walked, vlan_ids}
use Rattle.ether_filter.specs.Postfix.{postfix}
use Rattle.ether_filter.specs.Jumps.{chosen, first_jump, AreJumps, Reaches}
use Rattle.ether_filter.specs.Expressions.{Expression, Test, Not, Join}
use Rattle.ether_filter.specs.declared.field_test.FieldTest.{FieldTest}
use Rattle.ether_filter.specs.Deciding.{is_of_field}
use Rattle.ether_filter.specs.Seen.{matching}
use Rattle.ether_filter.specs.Evaluation.{IsTruth, joined_truth}
use Rattle.ether_filter.proofs.Identifiers.{first_is, last_other_is}
use Rattle.ether_filter.proofs.JumpsLemmas.{reaches, truth}

-- what a truth that is another one says
pub same_truth : {a b : Bool} → a ≡ b → IsTrue a ↔ IsTrue b
same_truth is = (λ t. sym is ∙ t, λ t. is ∙ t)

-- a primitive that tests no field
pub not_of_field : (p : Primitive) → ((t : FieldTest) → p ≡ primitives.Field t → ⊥) → is_of_field p ≡ false
not_of_field (primitives.Field t) never = absurd (never t refl)
not_of_field p never = refl

refused_is : (e : Ending) → IsTrue (is_some (refusal_of e)) ↔ IsSome (refusal_of e)
refused_is (Accepted v y) = (λ t. absurd cc, λ some. absurd cc)
refused_is (Fault v y r) = (λ t. refl, λ some. refl)

pub matching_is : (w : Walked) (p : Primitive) → IsTruth w (matching w p) (Test p)
matching_is w primitives.Cut = (ltb-true w.captured w.original, lt-ltb w.captured w.original)
matching_is w (primitives.Less n) = (leb-true w.original n, le-leb w.original n)
matching_is w (primitives.Greater n) = (leb-true n w.original, le-leb n w.original)
matching_is w (primitives.OuterVlan n) = first_is n (vlan_ids w.headers)
matching_is w (primitives.InnerVlan n) = last_other_is n (vlan_ids w.headers)
matching_is w primitives.Refused = refused_is w.ending
matching_is w p = same_truth refl

not_truth : (w : Walked) (b : Bool) (x : Expression) → IsTruth w b x → IsTruth w (not b) (Not x)
not_truth w true x is = (λ t. absurd cc, λ never. absurd (never (is.0 refl)))
not_truth w false x is = (λ t h. let true_is = is.1 h in absurd cc, λ never. refl)

joined_is_truth : (w : Walked) (operator : Operator) (a b : Bool) (x y : Expression) → IsTruth w a x → IsTruth w b y
    → IsTruth w (joined_truth operator a b) (Join operator x y)
joined_is_truth w operators.And true b x y left right = (λ t. (left.0 refl, right.0 t), λ h. right.1 h.1)
joined_is_truth w operators.And false b x y left right = (λ t. absurd cc, λ h. left.1 h.0)
joined_is_truth w operators.Or true b x y left right = (λ t. inl (left.0 refl), λ h. refl)
joined_is_truth w operators.Or false b x y left right = (
  λ t. inr (right.0 t),
  λ h. elim h [ inl h ↦ let true_is = left.1 h in absurd cc | inr h ↦ right.1 h ],
)

truth_is : (w : Walked) (t : Primitive → Bool) → ((p : Primitive) → IsTruth w (t p) (Test p)) → (x : Expression)
    → IsTruth w (truth t x) x
truth_is w t are (Test p) = are p
truth_is w t are (Not x) = not_truth w (truth t x) x (truth_is w t are x)
truth_is w t are (Join operator x y) =
    joined_is_truth w operator (truth t x) (truth t y) x y (truth_is w t are x) (truth_is w t are y)

-- two truths of one thing
pub one_truth : {P : Type 0} (a b : Bool) → IsTrue a ↔ P → IsTrue b ↔ P → a ≡ b
one_truth true true left right = refl
one_truth true false left right = let t = right.1 (left.0 refl) in absurd cc
one_truth false true left right = let t = left.1 (right.0 refl) in absurd cc
one_truth false false left right = refl

pub expression_is : (w : Walked) (expression : Expression) → IsTruth w (truth (matching w) expression) expression
expression_is w expression = truth_is w (matching w) (matching_is w) expression

-- ---- an evaluation

-- from an index on the jumps lead to the end that says whether the expression holds of the packet
abbrev pub Runs : Walked → List Node → List Jump → Expression → ℕ → Type 0
Runs w ns js x at = Reaches ns js (matching w) at (chosen (truth (matching w) x) first_jump)

pub runs_begin : (w : Walked) (js : List Jump) (x : Expression) → AreJumps js 0 x first_jump
    → length (postfix x) ≤ 192 → Runs w (postfix x) js x 0
runs_begin w js x are few =
    reaches x (postfix x) [] [] js (matching w) 0 first_jump (sym (append-nil (postfix x))) refl are
    (omega (arith, few)) (omega (arith, few))

pub past_nodes : (ns : List Node) (b : Bool) → length ns ≤ 192 → length ns ≤ chosen b first_jump
past_nodes ns true few = omega (arith, few)
past_nodes ns false few = omega (arith, few)

pub end_is : (b : Bool) (at : ℕ) → at ≡ chosen b first_jump → nat_eq at 255 ≡ b
end_is true at is = rw is refl
end_is false at is = rw is refl
