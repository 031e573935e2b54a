-- The values of the expressions that are read.
use Rattle.std.proofs.Common.{◌≡◌, ℕ, ◌+◌, ◌-◌, ◌<◌, ◌≤◌, length, drop, add-one, drop-cons, ap, List, [], ◌∷◌, ◌++◌, refl, sym, subst, ◌∙◌, reverse}
use Rattle.std.specs.Prelude.{unwrap_or, slice_get, slice_index_or}
use Rattle.ether_filter.specs.declared.node.Operator.{Operator}
use Rattle.ether_filter.specs.declared.node.Node.{Node}
use Rattle.ether_filter.specs.declared.node.Node.TheVariants as nodes
use Rattle.ether_filter.specs.Expressions.{Expression, Join}
use Rattle.ether_filter.specs.Postfix.{trees-postfix, postfix, pushed, trees, first, expression_of}
use Rattle.ether_filter.specs.Evaluation.{AreValues}
use Rattle.std.proofs.lemmas.List.{append-nil, reverse-append, reverse-reverse, drop_all}

-- ---- a step, with the last value at the end of the list

joined_values : {V : Type 0} (Is : V → Expression → Type 0) (vs : List V) (xs : List Expression) (operator : Operator)
    (left right v : V) → ((x y : Expression) → Is left x → Is right y → Is v (Join operator x y))
    → AreValues Is (right ∷ left ∷ vs) xs → AreValues Is (v ∷ vs) (pushed xs (nodes.Join operator))
joined_values Is vs [] operator left right v join are = absurd are
joined_values Is vs (y ∷ []) operator left right v join are = absurd are.1
joined_values Is vs (y ∷ x ∷ xs) operator left right v join are = (join x y are.1.0 are.0, are.1.1)

pub join_step : {V : Type 0} (Is : V → Expression → Type 0) (old popped rest new : List V) (xs : List Expression)
    (operator : Operator) (left right v : V) → old ≡ popped ++ right ∷ [] → popped ≡ rest ++ left ∷ []
    → new ≡ rest ++ v ∷ [] → ((x y : Expression) → Is left x → Is right y → Is v (Join operator x y))
    → AreValues Is (reverse old) xs → AreValues Is (reverse new) (pushed xs (nodes.Join operator))
join_step {V} Is old popped rest new xs operator left right v had popped_is is join are =
    let last : reverse popped ≡ left ∷ reverse rest = ap reverse popped_is ∙ reverse-append rest (left ∷ []) in
    let all : reverse old ≡ right ∷ left ∷ reverse rest = ap reverse had ∙ reverse-append popped (right ∷ [])
    ∙ ap (λ (vs : List V). right ∷ vs) last in
    subst (λ (vs : List V). AreValues Is vs (pushed xs (nodes.Join operator)))
    (sym (ap reverse is ∙ reverse-append rest (v ∷ [])))
    (joined_values Is (reverse rest) xs operator left right v join
    (subst (λ (vs : List V). AreValues Is vs xs) all are))

-- ---- a loop over the nodes

-- The values after i nodes are those of some expressions, from which the other nodes make what all nodes do.
pub record Evaluates {V : Type 0} (Is : V → Expression → Type 0) (vs : List V) (ns : List Node) (i : ℕ) : Type 0 where
  pub stack : List Expression
  pub values : AreValues Is (reverse vs) stack
  pub rest : trees stack (drop i ns) ≡ trees [] ns

pub evaluates_next : {V : Type 0} (Is : V → Expression → Type 0) (old new : List V) (ns : List Node) (i : ℕ)
    (d : Node) → i < length ns → Evaluates Is old ns i
    → ((xs : List Expression) → AreValues Is (reverse old) xs
    → AreValues Is (reverse new) (pushed xs (slice_index_or ns i d))) → Evaluates Is new ns (i + 1)
evaluates_next Is old new ns i d lt e step = record {
  stack = pushed e.stack (slice_index_or ns i d);
  values = step e.stack e.values;
  rest = rw add-one (subst (λ (l : List Node). trees e.stack l ≡ trees [] ns) (drop-cons ns i d lt) e.rest);
}

-- the only value, of the expression
record IsLast {V : Type 0} (Is : V → Expression → Type 0) (x : Expression) (vs : List V) : Type 0 where
  value : V
  only : vs ≡ value ∷ []
  is : Is value x

only_value : {V : Type 0} (Is : V → Expression → Type 0) (x : Expression) (vs : List V) → AreValues Is vs (x ∷ [])
    → IsLast Is x vs
only_value Is x [] are = absurd are
only_value Is x (v ∷ []) are = record { value = v; only = refl; is = are.0 }
only_value Is x (v ∷ w ∷ vs) are = absurd are.1

pub evaluated : {V : Type 0} (Is : V → Expression → Type 0) (x : Expression) (vs : List V) (ns : List Node) (i : ℕ)
    (result d : V) → ns ≡ postfix x → length ns ≤ i → Evaluates Is vs ns i
    → result ≡ unwrap_or (slice_get vs (length vs - 1)) d → Is result (expression_of ns)
evaluated {V} Is x vs ns i result d is le e value =
    let tree : trees [] ns ≡ x ∷ [] = ap (trees []) (is ∙ sym (append-nil (postfix x))) ∙ trees-postfix x [] [] in
    let stack : e.stack ≡ x ∷ [] = sym (ap (trees e.stack) (drop_all i ns le)) ∙ e.rest ∙ tree in
    let last = only_value Is x (reverse vs) (subst (AreValues Is (reverse vs)) stack e.values) in
    let only : vs ≡ last.value ∷ [] = sym (reverse-reverse vs) ∙ ap reverse last.only in
    let same : result ≡ last.value = value
    ∙ ap (λ (l : List V). unwrap_or (slice_get l (length l - 1)) d) only in
    rw (same, ap first tree) last.is
