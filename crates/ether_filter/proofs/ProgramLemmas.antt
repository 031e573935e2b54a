-- The instructions of a filter are those of its expression.
use Rattle.std.proofs.Common.{◌≡◌, ℕ, suc, ◌+◌, ◌<◌, ◌≤◌, List, [], ◌∷◌, ◌++◌, length, refl, ap, subst, sym, ◌∙◌, arith, Bool, true, false, inl, inr, IsTrue, ◌↔◌}
use Rattle.std.specs.Prelude.{get_or, Option, Some, None, nat_eq, if◌then◌else◌}
use Rattle.std.proofs.lemmas.Bool.{cases_lt}
use Rattle.std.proofs.lemmas.List.{get_or_append_left, get_or_default}
use Rattle.std.proofs.Math.Seq.{get_or-append_seam}
use Rattle.ether_filter.specs.declared.jumps.Jump.{Jump}
use Rattle.ether_filter.specs.declared.node.Node.{Node}
use Rattle.ether_filter.specs.declared.node.Node.TheVariants as nodes
use Rattle.ether_filter.specs.declared.node.Operator.TheVariants as operators
use Rattle.ether_filter.specs.declared.primitive.Primitive.{Primitive}
use Rattle.ether_filter.specs.declared.primitive.Primitive.TheVariants as primitives
use Rattle.ether_filter.specs.declared.field_test.FieldTest.{FieldTest}
use Rattle.ether_filter.specs.declared.field_test.Relation.{Relation}
use Rattle.std.specs.Option.{option_map}
use Rattle.ether_filter.specs.declared.instruction.Instruction.{Instruction}
use Rattle.ether_filter.specs.Expressions.{Expression, Test, Holds}
use Rattle.ether_filter.specs.Postfix.{postfix, expression_of, expression_of-postfix}
use Rattle.ether_filter.specs.Jumps.{no_jump, jump_at, chosen, first_jump}
use Rattle.ether_filter.specs.Primitives.{Walked, Matches}
use Rattle.ether_filter.specs.Seen.{matching}
use Rattle.ether_filter.proofs.JumpsLemmas.{truth, reaches_next, reaches_test, reaches_end}
use Rattle.ether_filter.proofs.Truth.{matching_is, one_truth, expression_is, Runs, runs_begin, past_nodes, end_is}
use Rattle.ether_filter.specs.FilterProgram.{primitive_numbered, relation_numbered, frame_relation_numbered, field_test_in, field_primitive, frame_primitive, primitive_or, primitive_of, operator_numbered, test_or, node_of, IsInstruction, IsProgramOf, with_node, nodes_of}

-- ---- an instruction

-- what is read past the end
abbrev pub no_instruction : Instruction
no_instruction = record {
  operand = 0;
  mask = 0;
  kind = 0;
  field = 0;
  first = 0;
  count = 0;
  len = 0;
  jump = no_jump;
  past_tags = 0;
}

-- the primitive of an instruction that tests a field
tests_field : (s : Instruction) (t : FieldTest) (o : Option Relation) → option_map (λ r. field_test_in r s) o ≡ Some t
    → field_primitive o s ≡ Some (primitives.Field t)
tests_field s t None is = absurd cc
tests_field s t (Some r) is = let same : field_test_in r s ≡ t = cc in ap (λ u. Some (primitives.Field u)) same

pub field_is : (s : Instruction) (t : FieldTest) → primitive_numbered s.kind s.operand ≡ None
    → option_map (λ r. field_test_in r s) (relation_numbered s.kind) ≡ Some t
    → primitive_of s ≡ Some (primitives.Field t)
field_is s t none is =
    (λ i. primitive_or (none i)
    (primitive_or (tests_field s t (relation_numbered s.kind) is i)
    (frame_primitive (frame_relation_numbered s.kind) s)))

pub is_test : (s : Instruction) (n : Node) (p : Primitive) → node_of s ≡ Some n
    → Some p ≡ primitive_of s → n ≡ nodes.Test p
is_test s n p node is =
    let all : test_or (Some p) (operator_numbered s.kind) ≡ Some n =
    subst (λ q. test_or q (operator_numbered s.kind) ≡ Some n) (sym is) node in
    cc

no_operator : (a b c : Bool) (p : Primitive)
    → (if a then Some nodes.Not
    else (if b then Some (nodes.Join operators.And) else (if c then Some (nodes.Join operators.Or) else None)))
    ≡ Some (nodes.Test p) → ⊥
no_operator true b c p is = cc
no_operator false true c p is = cc
no_operator false false true p is = cc
no_operator false false false p is = cc

pub never_test : (s : Instruction) (n : Node) → node_of s ≡ Some n
    → primitive_of s ≡ None → (p : Primitive) → n ≡ nodes.Test p → ⊥
never_test s n node none p is =
    let all : operator_numbered s.kind ≡ Some n =
    subst (λ q. test_or q (operator_numbered s.kind) ≡ Some n) none node in
    no_operator (nat_eq s.kind 15) (nat_eq s.kind 16) (nat_eq s.kind 17) p (all ∙ ap Some is)

-- ---- the instructions of nodes

pub instructed : (ns : List Node) (js : List Jump) (past : List ℕ) (old new : List Instruction) (at : ℕ) (d n : Node)
    (s : Instruction)
    → length old ≡ at → at < length ns → get_or ns at d ≡ n → new ≡ old ++ s ∷ []
    → IsInstruction n (jump_at js at) (get_or past at 0) s
    → ((i : ℕ) → i < at → (d : Node) (e : Instruction) → IsInstruction (get_or ns i d) (jump_at js i) (get_or past i 0)
    (get_or old i e))
    → (i : ℕ) → i < at + 1 → (d : Node) (e : Instruction)
    → IsInstruction (get_or ns i d) (jump_at js i) (get_or past i 0) (get_or new i e)
instructed ns js past old new at d n s len inside is more instruction instructions i lt f e = elim (cases_lt i at) [
  | inl before ↦
      let same : get_or new i e ≡ get_or old i e =
      ap (λ l. get_or l i e) more ∙ get_or_append_left old (s ∷ []) e i (omega (arith, before, len)) in
      rw same (instructions i before f e)
  | inr past_it ↦
      let here : i ≡ at = omega (arith, lt, past_it) in
      let last : get_or new at e ≡ s =
      ap (λ l. get_or l at e) more ∙ ap (λ k. get_or (old ++ s ∷ []) k e) (sym len) ∙ get_or-append_seam old s [] e in
      let node : get_or ns at f ≡ n = get_or_default ns at f d inside ∙ is in
      rw (here, node, last) instruction
]

-- ---- the nodes of instructions

nodes_same : (instructions : List Instruction) (ns : List Node) → length instructions ≡ length ns
    → ((i : ℕ) → i < length instructions → (d : Node) (e : Instruction)
    → node_of (get_or instructions i e) ≡ Some (get_or ns i d))
    → nodes_of instructions ≡ ns
nodes_same [] [] len are = refl
nodes_same [] (n ∷ ns) len are = absurd (omega (arith, len))
nodes_same (s ∷ instructions) [] len are = absurd (omega (arith, len))
nodes_same (s ∷ instructions) (n ∷ ns) len are =
    ap (λ m. with_node m (nodes_of instructions)) (are 0 (omega arith) n s)
    ∙ ap (λ l. n ∷ l)
    (nodes_same instructions ns (omega (arith, len)) (λ i lt d e. are (suc i) (omega (arith, lt)) d e))

pub nodes_are : (instructions : List Instruction) (x : Expression) → IsProgramOf instructions x → nodes_of instructions
    ≡ postfix x
nodes_are instructions x p = nodes_same instructions (postfix x) p.count (λ i lt d e. (p.each i lt d e).node)

only : (ns : List Node) (p : Primitive) → length ns ≡ 1 → get_or ns 0 nodes.Not ≡ nodes.Test p → ns ≡ nodes.Test p ∷ []
only [] p one is = absurd (omega (arith, one))
only (n ∷ []) p one is = ap (λ m. m ∷ []) is
only (n ∷ m ∷ ns) p one is = absurd (omega (arith, one))

-- one instruction with a primitive is that of an expression which is the primitive
only_node : (x : Expression) (p : Primitive) → length (postfix x) ≡ 1 → get_or (postfix x) 0 nodes.Not ≡ nodes.Test p
    → x ≡ Test p
only_node x p one is = sym (expression_of-postfix x) ∙ ap expression_of (only (postfix x) p one is)

pub only_primitive : (instructions : List Instruction) (x : Expression) (p : Primitive) → IsProgramOf instructions x
    → length instructions ≡ 1
    → Some p ≡ primitive_of (get_or instructions 0 no_instruction) → x ≡ Test p
only_primitive instructions x p program one is =
    let s = get_or instructions 0 no_instruction in
    let each = program.each 0 (omega (arith, one)) nodes.Not no_instruction in
    only_node x p (sym program.count ∙ one) (is_test s _ p each.node is)

-- ---- an evaluation

pub program_begin : (w : Walked) (is : List Instruction) (x : Expression) (p : IsProgramOf is x)
    → Runs w (postfix x) p.jumps x 0
program_begin w is x p = runs_begin w p.jumps x p.are_jumps (omega (arith, p.few, p.count))

-- it is at a primitive, and goes on forward
pub program_test : (w : Walked) (is : List Instruction) (x : Expression) (p : IsProgramOf is x) (at : ℕ)
    → at < length is
    → primitive_of (get_or is at no_instruction) ≡ None
    → Runs w (postfix x) p.jumps x at → ⊥
program_test w is x p at inside none r =
    let i = get_or is at no_instruction in
    let each = p.each at inside nodes.Not no_instruction in
    reaches_test (postfix x) p.jumps (matching w) at _ _ _ (omega (arith, inside, p.count))
    (past_nodes (postfix x) (truth (matching w) x) (omega (arith, p.few, p.count))) refl
    (never_test i _ each.node none) r

pub program_next : (w : Walked) (is : List Instruction) (x : Expression) (p : IsProgramOf is x) (at next : ℕ)
    (q : Primitive) (b : Bool) → at < length is
    → Some q ≡ primitive_of (get_or is at no_instruction)
    → IsTrue b ↔ Matches q w → next ≡ chosen b (get_or is at no_instruction).jump → Runs w (postfix x) p.jumps x at
    → (at < next) × Runs w (postfix x) p.jumps x next
program_next w is x p at next q b inside some iff to r =
    let t = matching w in
    let i = get_or is at no_instruction in
    let each = p.each at inside (nodes.Test q) no_instruction in
    let same = one_truth b (t q) iff (matching_is w q) in
    rw (to, same, each.jump) (reaches_next (postfix x) p.jumps t at (chosen (truth t x) first_jump) (nodes.Test q) q
    (omega (arith, inside, p.count)) (past_nodes (postfix x) (truth t x) (omega (arith, p.few, p.count)))
    (is_test i _ q each.node some) r)

pub program_end : (w : Walked) (is : List Instruction) (x : Expression) (p : IsProgramOf is x) (at : ℕ) (b : Bool)
    → length is ≤ at → b ≡ nat_eq at 255 → Runs w (postfix x) p.jumps x at → IsTrue b ↔ Holds x w
program_end w is x p at b past is_end r =
    let t = truth (matching w) x in
    let at_end = reaches_end (postfix x) p.jumps (matching w) at (chosen t first_jump) (omega (arith, p.count, past)) r
    in
    rw (is_end, end_is t at at_end) (expression_is w x)
