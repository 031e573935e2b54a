-- A filter as numbers only: the nodes of its expression, and where the evaluation goes on after each.
use Rattle.std.specs.Prelude.{◌≡◌, ℕ, ◌-◌, ◌%◌, ◌^◌, ◌<◌, ◌≤◌, List, [], ◌∷◌, length, get_or, Option, Some, None, Bool, nat_eq, if◌then◌else◌}
use Rattle.std.specs.Option.{option_map}
use Rattle.ether_filter.specs.declared.field_test.FieldTest.{FieldTest}
use Rattle.ether_filter.specs.declared.field_test.Relation.{Relation}
use Rattle.ether_filter.specs.declared.field_test.Relation.TheVariants as relations
use Rattle.ether_filter.specs.declared.jumps.Jump.{Jump}
use Rattle.ether_filter.specs.declared.node.Node.{Node}
use Rattle.ether_filter.specs.declared.node.Node.TheVariants as nodes
use Rattle.ether_filter.specs.declared.node.Operator.TheVariants as operators
use Rattle.ether_filter.specs.declared.primitive.Primitive.{Primitive}
use Rattle.ether_filter.specs.declared.primitive.Primitive.TheVariants as primitives
use Rattle.ether_filter.specs.declared.instruction.Instruction.{Instruction}
use Rattle.ether_filter.specs.Expressions.{Expression}
use Rattle.ether_filter.specs.FieldTests.{Frame, frame_holds}
use Rattle.ether_filter.specs.Postfix.{postfix}
use Rattle.ether_filter.specs.Jumps.{AreJumps, ArePassed, first_jump, jump_at, no_jump}
use Rattle.ether_filter.specs.Seen.{length_truth}

-- the primitive whose kind has this number; some kinds have an operand
abbrev pub primitive_numbered : (kind operand : ℕ) → Option Primitive
primitive_numbered kind operand =
    if nat_eq kind 0 then Some primitives.Vlan
    else (if nat_eq kind 1 then Some (primitives.VlanId (operand % 2 ^ 16))
    else (if nat_eq kind 2 then Some (primitives.OuterVlan (operand % 2 ^ 16))
    else (if nat_eq kind 3 then Some (primitives.InnerVlan (operand % 2 ^ 16))
    else (if nat_eq kind 4 then Some primitives.Macsec
    else (if nat_eq kind 5 then Some (primitives.EtherType (operand % 2 ^ 16))
    else (if nat_eq kind 6 then Some (primitives.Source operand)
    else (if nat_eq kind 7 then Some (primitives.Destination operand)
    else (if nat_eq kind 8 then Some (primitives.Host operand)
    else (if nat_eq kind 9 then Some primitives.Broadcast
    else (if nat_eq kind 10 then Some primitives.Multicast
    else (if nat_eq kind 11 then Some primitives.Refused
    else (if nat_eq kind 12 then Some primitives.Cut
    else (if nat_eq kind 13 then Some (primitives.Less (operand % 2 ^ 32))
    else (if nat_eq kind 14 then Some (primitives.Greater (operand % 2 ^ 32))
    else None))))))))))))))

-- the operator whose kind has this number
abbrev pub operator_numbered : (kind : ℕ) → Option Node
operator_numbered kind =
    if nat_eq kind 15 then Some nodes.Not
    else (if nat_eq kind 16 then Some (nodes.Join operators.And)
    else (if nat_eq kind 17 then Some (nodes.Join operators.Or) else None))

-- the relation of the tests of fields whose kind has this number
abbrev pub relation_numbered : (kind : ℕ) → Option Relation
relation_numbered kind =
    if nat_eq kind 18 then Some relations.Exists
    else (if nat_eq kind 19 then Some relations.Equal
    else (if nat_eq kind 20 then Some relations.NotEqual
    else (if nat_eq kind 21 then Some relations.Less
    else (if nat_eq kind 22 then Some relations.AtMost
    else (if nat_eq kind 23 then Some relations.Greater
    else (if nat_eq kind 24 then Some relations.AtLeast else None))))))

abbrev pub field_test_in : Relation → Instruction → FieldTest
field_test_in relation s = record {
  field = s.field;
  first = s.first;
  count = s.count;
  relation = relation;
  mask = s.mask;
  len = s.len;
  value = s.operand;
}

abbrev pub field_primitive : Option Relation → Instruction → Option Primitive
field_primitive None s = None
field_primitive (Some relation) s = Some (primitives.Field (field_test_in relation s))

-- .. of the tests of what the capture says, which have the numbers after those
abbrev pub frame_relation_numbered : (kind : ℕ) → Option Relation
frame_relation_numbered kind = relation_numbered (kind - 7)

abbrev pub frame_primitive : Option Relation → Instruction → Option Primitive
frame_primitive None s = None
frame_primitive (Some relation) s = Some (primitives.Frame (field_test_in relation s))

abbrev pub primitive_or : Option Primitive → Option Primitive → Option Primitive
primitive_or (Some primitive) other = Some primitive
primitive_or None other = other

abbrev pub primitive_of : Instruction → Option Primitive
primitive_of s =
    primitive_or (primitive_numbered s.kind s.operand)
    (primitive_or (field_primitive (relation_numbered s.kind) s)
    (frame_primitive (frame_relation_numbered s.kind) s))

-- the primitive if there is one, else the operator
abbrev pub test_or : Option Primitive → Option Node → Option Node
test_or (Some primitive) operator = Some (nodes.Test primitive)
test_or None operator = operator

abbrev pub node_of : Instruction → Option Node
node_of s = test_or (primitive_of s) (operator_numbered s.kind)

abbrev pub plain_instruction : (kind operand : ℕ) → Instruction
plain_instruction kind operand = record {
  operand = operand;
  mask = 0;
  kind = kind;
  field = 0;
  first = 0;
  count = 0;
  len = 0;
  jump = no_jump;
  past_tags = 0;
}

abbrev pub test_instruction : (kind : ℕ) → FieldTest → Instruction
test_instruction kind t = record {
  operand = t.value;
  mask = t.mask;
  kind = kind;
  field = t.field;
  first = t.first;
  count = t.count;
  len = t.len;
  jump = no_jump;
  past_tags = 0;
}

-- the instruction of a node
pub record IsInstruction (n : Node) (j : Jump) (past : ℕ) (s : Instruction) : Type 0 where
  pub node : node_of s ≡ Some n
  pub jump : s.jump ≡ j
  pub past_tags : s.past_tags ≡ past

-- the instructions of an expression: one for each of its nodes, in postfix order
pub record IsProgramOf (instructions : List Instruction) (x : Expression) : Type 0 where
  pub jumps : List Jump
  pub past : List ℕ
  pub are_jumps : AreJumps jumps 0 x first_jump
  pub are_passed : ArePassed (postfix x) jumps past
  pub few : length instructions ≤ 192
  pub count : length instructions ≡ length (postfix x)
  pub each : (i : ℕ) → i < length instructions → (d : Node) (e : Instruction)
      → IsInstruction (get_or (postfix x) i d) (jump_at jumps i) (get_or past i 0) (get_or instructions i e)

-- the nodes of instructions
abbrev pub with_node : Option Node → List Node → List Node
with_node None ns = ns
with_node (Some n) ns = n ∷ ns

abbrev pub nodes_of : List Instruction → List Node
nodes_of [] = []
nodes_of (s ∷ instructions) = with_node (node_of s) (nodes_of instructions)

-- ---- what a capture says

-- the test of it, if an instruction makes one
abbrev pub frame_test_of : Instruction → Option FieldTest
frame_test_of s = option_map (λ r. field_test_in r s) (frame_relation_numbered s.kind)

abbrev pub truth_or : Option Bool → Option Bool → Option Bool
truth_or (Some truth) other = Some truth
truth_or None other = other

-- whether the primitive of an instruction matches a packet, if it asks what the capture says of the packet
abbrev pub capture_truth : Instruction → Frame → Option Bool
capture_truth s f =
    truth_or (length_truth (primitive_numbered s.kind s.operand) f.captured f.original)
    (option_map (λ t. frame_holds t f) (frame_test_of s))
