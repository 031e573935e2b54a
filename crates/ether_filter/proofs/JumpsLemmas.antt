-- The jumps that are filled in are those of the expression, and lead to its truth.
use Rattle.std.proofs.Common.{◌≡◌, ℕ, ◌+◌, ◌-◌, ◌<◌, ◌≤◌, List, [], ◌∷◌, ◌++◌, length, take, drop, refl, sym, ap, subst, ◌∙◌, arith, reverse, append_assoc, length-append, Bool, true, false, suc}
use Rattle.std.specs.Prelude.{get_or, set, not}
use Rattle.std.proofs.lemmas.List.{reverse-append, reverse-reverse, take_more, length-take-le, take-append-drop, get_or-set_other}
use Rattle.std.proofs.Math.Seq.{take-append_seam, get_or-append_seam}
use Rattle.std.proofs.lemmas.Grind.{get_or-set_at}
use Rattle.ether_filter.specs.declared.primitive.Primitive.{Primitive}
use Rattle.ether_filter.specs.declared.jumps.Jump.{Jump}
use Rattle.ether_filter.specs.declared.node.Node.{Node}
use Rattle.ether_filter.specs.declared.node.Node.TheVariants as nodes
use Rattle.ether_filter.specs.declared.node.Operator.{Operator}
use Rattle.ether_filter.specs.Expressions.{Expression, Test, Not, Join}
use Rattle.ether_filter.specs.Postfix.{postfix}
use Rattle.ether_filter.specs.declared.node.Operator.TheVariants as operators
use Rattle.ether_filter.specs.Evaluation.{joined_truth}
use Rattle.ether_filter.specs.Jumps.{chosen, no_jump, jump_at, negated, before, AreJumps, AreFilled, Reaches, here, step}

-- ---- the last node of an expression

last_same : {A : Type 0} (xs ys : List A) (a b : A) → xs ++ a ∷ [] ≡ ys ++ b ∷ [] → (xs ≡ ys) × (a ≡ b)
last_same {A} xs ys a b is =
    let all : a ∷ reverse xs ≡ b ∷ reverse ys =
    sym (reverse-append xs (a ∷ [])) ∙ ap reverse is ∙ reverse-append ys (b ∷ []) in
    let rest : reverse xs ≡ reverse ys = cc in
    let last : a ≡ b = cc in
    (sym (reverse-reverse xs) ∙ ap reverse rest ∙ reverse-reverse ys, last)

-- the nodes before an expression and its own but for the last one, and that
abbrev EndsIn : Expression → List Node → List Node → Node → Type 0
EndsIn (Test p) front l n = (front ≡ l) × (nodes.Test p ≡ n)
EndsIn (Not x) front l n = (front ++ postfix x ≡ l) × (nodes.Not ≡ n)
EndsIn (Join operator x y) front l n = ((front ++ postfix x) ++ postfix y ≡ l) × (nodes.Join operator ≡ n)

ends_in : (x : Expression) (front l : List Node) (n : Node) → front ++ postfix x ≡ l ++ n ∷ [] → EndsIn x front l n
ends_in (Test p) front l n is = last_same front l (nodes.Test p) n is
ends_in (Not x) front l n is =
    last_same (front ++ postfix x) l nodes.Not n (append_assoc front (postfix x) (nodes.Not ∷ []) ∙ is)
ends_in (Join operator x y) front l n is =
    let both = postfix x ++ postfix y in
    let e = last_same (front ++ both) l (nodes.Join operator) n
    (append_assoc front both (nodes.Join operator ∷ []) ∙ is) in
    (append_assoc front (postfix x) (postfix y) ∙ e.0, e.1)

at_end : (x : Expression) (ns front : List Node) (end : ℕ) (d n : Node) → 0 < end → end ≤ length ns
    → get_or ns (end - 1) d ≡ n → take end ns ≡ front ++ postfix x → EndsIn x front (take (end - 1) ns) n
at_end x ns front end d n some inside is all =
    let next : (end - 1) + 1 ≡ end = omega (arith, some) in
    let more : take end ns ≡ take (end - 1) ns ++ n ∷ [] =
    ap (λ i. take i ns) (sym next) ∙ take_more ns (end - 1) d (omega (arith, some, inside))
    ∙ ap (λ m. take (end - 1) ns ++ m ∷ []) is in
    ends_in x front (take (end - 1) ns) n (sym all ∙ more)

some_nodes : (x : Expression) → 0 < length (postfix x)
some_nodes (Test p) = omega arith
some_nodes (Not x) = omega (arith, length-append (postfix x) (nodes.Not ∷ []))
some_nodes (Join operator x y) =
    omega (arith, length-append (postfix x ++ postfix y) (nodes.Join operator ∷ []))

-- ---- filling in

pub filled_nothing : (x : Expression) (front : List Node) → [] ≡ front ++ postfix x → ⊥
filled_nothing x front is =
    let none : 0 ≡ length (front ++ postfix x) = ap length is in
    omega (arith, none, length-append front (postfix x), some_nodes x)

jumps_kept : (old new : List Jump) (x : Expression) (at : ℕ) (j : Jump)
    → ((i : ℕ) → at ≤ i → jump_at new i ≡ jump_at old i) → AreJumps old at x j → AreJumps new at x j
jumps_kept old new (Test p) at j same is = same at (omega arith) ∙ is
jumps_kept old new (Not x) at j same are = jumps_kept old new x at (negated j) same are
jumps_kept old new (Join operator x y) at j same are =
    let right = at + length (postfix x) in (
      jumps_kept old new x at (before operator right j) same are.0,
      jumps_kept old new y right j (λ i le. same i (omega (arith, le))) are.1,
    )

pub filled_test : (x : Expression) (ns front : List Node) (old : List Jump) (end : ℕ) (d : Node) (p : Primitive)
    (j : Jump)
    → 0 < end → end ≤ length ns → end ≤ length old → get_or ns (end - 1) d ≡ nodes.Test p
    → take end ns ≡ front ++ postfix x → AreFilled old (set old (end - 1) j) (length front) end x j (end - 1)
filled_test (Test q) ns front old end d p j some inside room is all =
    let e = at_end (Test q) ns front end d (nodes.Test p) some inside is all in
    let len : end - 1 ≡ length front = sym (ap length e.0 ∙ length-take-le (end - 1) ns (omega (arith, inside))) in
    record {
      at = len;
      jumps = get_or-set_at old (end - 1) (length front) j no_jump (sym len) (omega (arith, some, room));
      same = λ i le. get_or-set_other old (end - 1) i j no_jump (λ at. omega (arith, at, le, some));
    }
filled_test x ns front old end d p j some inside room is all =
    let never = (at_end x ns front end d (nodes.Test p) some inside is all).1 in absurd cc

-- what a call fills in of nodes up to an end
abbrev Fills : List Node → List Jump → List Jump → ℕ → Jump → ℕ → Type 0
Fills ns old new end j result =
    (x : Expression) (front : List Node) → take end ns ≡ front ++ postfix x
    → AreFilled old new (length front) end x j result

pub filled_not : (x : Expression) (ns front : List Node) (old new : List Jump) (end : ℕ) (d : Node) (j : Jump)
    (result : ℕ) → 0 < end → end ≤ length ns → get_or ns (end - 1) d ≡ nodes.Not
    → take end ns ≡ front ++ postfix x → Fills ns old new (end - 1) (negated j) result
    → AreFilled old new (length front) end x j result
filled_not (Not x) ns front old new end d j result some inside is all fills =
    let e = at_end (Not x) ns front end d nodes.Not some inside is all in
    let f = fills x front (sym e.0) in
    record { at = f.at; jumps = f.jumps; same = λ i le. f.same i (omega (arith, le)) }
filled_not x ns front old new end d j result some inside is all fills =
    let never = (at_end x ns front end d nodes.Not some inside is all).1 in absurd cc

take_front : (ns a b : List Node) (n m : ℕ) → m ≡ length a → take n ns ≡ a ++ b → take m ns ≡ a
take_front ns a b n m len is =
    let parts : ns ≡ a ++ (b ++ drop n ns) =
    sym (take-append-drop n ns) ∙ ap (λ l. l ++ drop n ns) is ∙ append_assoc a b (drop n ns) in
    ap (λ i. take i ns) len ∙ ap (take (length a)) parts ∙ take-append_seam a (b ++ drop n ns)

pub filled_join : (x : Expression) (ns front : List Node) (old between new : List Jump) (end : ℕ) (d : Node)
    (operator : Operator) (j : Jump) (middle result : ℕ) → 0 < end → end ≤ length ns → middle ≤ end - 1
    → get_or ns (end - 1) d ≡ nodes.Join operator → take end ns ≡ front ++ postfix x
    → Fills ns old between (end - 1) j middle → Fills ns between new middle (before operator middle j) result
    → AreFilled old new (length front) end x j result
filled_join (Join op x y) ns front old between new end d operator j middle result some inside below is all right left =
    let e = at_end (Join op x y) ns front end d (nodes.Join operator) some inside is all in
    let whole = e.1 in
    let same : operator ≡ op = cc in
    let last = right y (front ++ postfix x) (sym e.0) in
    let len : middle ≡ length front + length (postfix x) = last.at ∙ length-append front (postfix x) in
    let first = left x front (take_front ns (front ++ postfix x) (postfix y) (end - 1) middle last.at (sym e.0)) in
    record {
      at = first.at;
      jumps = (
        rw (sym len, sym same) first.jumps,
        rw (sym len) (jumps_kept between new y middle j first.same (rw (sym last.at) at last.jumps)),
      );
      same = λ i le. first.same i (omega (arith, le, below)) ∙ last.same i (omega (arith, le));
    }
filled_join x ns front old between new end d operator j middle result some inside below is all right left =
    let never = (at_end x ns front end d (nodes.Join operator) some inside is all).1 in absurd cc

-- ---- where the jumps lead

-- whether an expression holds, by whether each primitive matches
abbrev pub truth : (Primitive → Bool) → Expression → Bool
truth t (Test p) = t p
truth t (Not x) = not (truth t x)
truth t (Join operator x y) = joined_truth operator (truth t x) (truth t y)

reaches_on : (ns : List Node) (js : List Jump) (t : Primitive → Bool) (at middle end : ℕ) → Reaches ns js t at middle
    → Reaches ns js t middle end → Reaches ns js t at end
reaches_on ns js t at middle end (here _) on = on
reaches_on ns js t at middle end (step _ _ p inside is forward r) on =
    step at end p inside is forward (reaches_on ns js t _ middle end r on)

chosen_above : (n : ℕ) (b : Bool) (j : Jump) → n ≤ j.if_true → n ≤ j.if_false → n ≤ chosen b j
chosen_above n true j above below = above
chosen_above n false j above below = below

before_above : (operator : Operator) (right n : ℕ) (j : Jump) → n ≤ right → n ≤ j.if_true → n ≤ j.if_false
    → (n ≤ (before operator right j).if_true) × (n ≤ (before operator right j).if_false)
before_above operators.And right n j inside above below = (inside, below)
before_above operators.Or right n j inside above below = (above, inside)

chosen_negated : (b : Bool) (j : Jump) → chosen b (negated j) ≡ chosen (not b) j
chosen_negated true j = refl
chosen_negated false j = refl

joined_reaches : (ns : List Node) (js : List Jump) (t : Primitive → Bool) (at right : ℕ) (operator : Operator)
    (a b : Bool) (j : Jump) → Reaches ns js t at (chosen a (before operator right j))
    → Reaches ns js t right (chosen b j) → Reaches ns js t at (chosen (joined_truth operator a b) j)
joined_reaches ns js t at right operators.And true b j left on = reaches_on ns js t at right (chosen b j) left on
joined_reaches ns js t at right operators.And false b j left on = left
joined_reaches ns js t at right operators.Or true b j left on = left
joined_reaches ns js t at right operators.Or false b j left on = reaches_on ns js t at right (chosen b j) left on

pub reaches : (x : Expression) (ns front rest : List Node) (js : List Jump) (t : Primitive → Bool) (at : ℕ) (j : Jump)
    → ns ≡ front ++ (postfix x ++ rest) → at ≡ length front → AreJumps js at x j
    → at + length (postfix x) ≤ j.if_true → at + length (postfix x) ≤ j.if_false
    → Reaches ns js t at (chosen (truth t x) j)
reaches (Test p) ns front rest js t at j is place are above below =
    let inside : at < length ns =
    omega (arith, place, ap length is, length-append front (nodes.Test p ∷ rest)) in
    let forward : at < chosen (t p) (jump_at js at) =
    rw are (chosen_above (suc at) (t p) j (omega (arith, above)) (omega (arith, below))) in
    step at (chosen (t p) j) p inside
    (λ d. rw (is, place) (get_or-append_seam front (nodes.Test p) rest d)) forward
    (rw are (here (chosen (t p) j)))
reaches (Not x) ns front rest js t at j is place are above below =
    let len = length-append (postfix x) (nodes.Not ∷ []) in
    subst (λ i. Reaches ns js t at i) (chosen_negated (truth t x) j)
    (reaches x ns front (nodes.Not ∷ rest) js t at (negated j)
    (is ∙ ap (λ l. front ++ l) (append_assoc (postfix x) (nodes.Not ∷ []) rest)) place are
    (omega (arith, below, len)) (omega (arith, above, len)))
reaches (Join operator x y) ns front rest js t at j is place are above below =
    let px = postfix x in
    let py = postfix y in
    let last = nodes.Join operator ∷ [] in
    let right = at + length px in
    let len : length ((px ++ py) ++ last) ≡ length px + length py + 1 =
    omega (arith, length-append (px ++ py) last, length-append px py) in
    let left_is : ns ≡ front ++ (px ++ (py ++ (last ++ rest))) =
    is ∙ ap (λ l. front ++ l) (append_assoc (px ++ py) last rest ∙ append_assoc px py (last ++ rest)) in
    let right_is : ns ≡ (front ++ px) ++ (py ++ (last ++ rest)) =
    left_is ∙ sym (append_assoc front px (py ++ (last ++ rest))) in
    let bounds =
    before_above operator right right j (omega arith) (omega (arith, above, len)) (omega (arith, below, len)) in
    joined_reaches ns js t at right operator (truth t x) (truth t y) j
    (reaches x ns front (py ++ (last ++ rest)) js t at (before operator right j) left_is place are.0
    bounds.0 bounds.1)
    (reaches y ns (front ++ px) (last ++ rest) js t right j right_is (omega (arith, place, length-append front px))
    are.1
    (omega (arith, above, len)) (omega (arith, below, len)))

-- ---- a step

pub reaches_next : (ns : List Node) (js : List Jump) (t : Primitive → Bool) (at end : ℕ) (d : Node) (p : Primitive)
    → at < length ns → length ns ≤ end → get_or ns at d ≡ nodes.Test p → Reaches ns js t at end
    → (at < chosen (t p) (jump_at js at)) × Reaches ns js t (chosen (t p) (jump_at js at)) end
reaches_next ns js t at end d p inside past is (here _) = absurd (omega (arith, inside, past))
reaches_next ns js t at end d p inside past is (step _ _ q within is_test forward r) =
    let test : nodes.Test p ≡ nodes.Test q = sym is ∙ is_test d in
    let same : p ≡ q = cc in
    rw same (forward, r)

pub reaches_test : (ns : List Node) (js : List Jump) (t : Primitive → Bool) (at end : ℕ) (d n : Node)
    → at < length ns → length ns ≤ end → get_or ns at d ≡ n → ((p : Primitive) → n ≡ nodes.Test p → ⊥)
    → Reaches ns js t at end → ⊥
reaches_test ns js t at end d n inside past is never (here _) = omega (arith, inside, past)
reaches_test ns js t at end d n inside past is never (step _ _ p within is_test forward r) =
    never p (sym is ∙ is_test d)

pub reaches_end : (ns : List Node) (js : List Jump) (t : Primitive → Bool) (at end : ℕ) → length ns ≤ at
    → Reaches ns js t at end → at ≡ end
reaches_end ns js t at end past (here _) = refl
reaches_end ns js t at end past (step _ _ p within is_test forward r) = absurd (omega (arith, past, within))
