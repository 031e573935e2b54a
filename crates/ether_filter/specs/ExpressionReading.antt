-- Reading an expression word by word: the state after some of its words.
use Rattle.std.specs.Prelude.{ℕ, ◌+◌, List, [], ◌∷◌, ◌++◌, length, reverse, Result, Ok, Err, Option, Some, None, nat_eq, Bool, true, false, if◌then◌else◌}
use Rattle.ether_filter.specs.declared.node.Operator.{Operator}
use Rattle.ether_filter.specs.declared.node.Operator.TheVariants.{And, Or}
use Rattle.ether_filter.specs.declared.node.Node.{Node}
use Rattle.ether_filter.specs.declared.node.Node.TheVariants as nodes
use Rattle.ether_filter.specs.declared.primitive.Primitive.{Primitive}
use Rattle.ether_filter.specs.declared.primitive.Primitive.TheVariants as primitives
use Rattle.ether_filter.specs.declared.token.Token.{Token}
use Rattle.ether_filter.specs.declared.token.Token.TheVariants as tokens
use Rattle.ether_filter.specs.declared.filter_error.FilterError.{FilterError}
use Rattle.ether_filter.specs.declared.filter_error.FilterErrorKind.{FilterErrorKind}
use Rattle.ether_filter.specs.declared.filter_error.FilterErrorKind.TheVariants as kinds
use Rattle.ether_filter.specs.declared.awaited.Numbered.TheVariants as numbers
use Rattle.ether_filter.specs.declared.awaited.Awaited.{Awaited}
use Rattle.ether_filter.specs.declared.awaited.Awaited.TheVariants as awaits
use Rattle.ether_filter.specs.declared.awaited.Step.{Step}
use Rattle.ether_filter.specs.declared.awaited.Step.TheVariants.{Done, More, Fails}
use Rattle.ether_filter.specs.declared.reading.Pending.{Pending}
use Rattle.ether_filter.specs.declared.reading.Pending.TheVariants as pendings
use Rattle.ether_filter.specs.declared.reading.Reading.{Reading}
use Rattle.ether_filter.specs.declared.subject.Subject.{Subject}
use Rattle.ether_filter.specs.Subjects.{existence_of, tested}
use Rattle.ether_filter.specs.Texts.{most_words}
use Rattle.ether_filter.specs.Words.{Word, words_from}
use Rattle.ether_filter.specs.Tokens.{token_of}
use Rattle.ether_filter.specs.Steps.{first_step, next_step, kind_of, member}

-- the nodes of complete parts, the incomplete parts, the innermost first, and what may follow
pub record ExpressionState : Type 0 where
  pub nodes : List Node
  pub pending : List Pending
  pub awaited : Awaited

abbrev pub state_of : Reading → ExpressionState
state_of r = record { nodes = r.nodes.items; pending = reverse r.pending.items; awaited = r.awaited }

abbrev pub begun : ExpressionState
begun = record { nodes = []; pending = []; awaited = awaits.Operand }

abbrev pub Outcome : Type 0
Outcome = Result ExpressionState FilterErrorKind

-- after an operand, which completes the negations before it
abbrev pub closed : List Node → List Pending → ExpressionState
closed ns (pendings.Not ∷ p) = closed (ns ++ nodes.Not ∷ []) p
closed ns p = record { nodes = ns; pending = p; awaited = awaits.Operator }

abbrev pub completed : ExpressionState → Primitive → ExpressionState
completed s primitive = closed (s.nodes ++ nodes.Test primitive ∷ []) s.pending

-- the operator before an operand is complete
abbrev pub settled : List Node → List Pending → Awaited → ExpressionState
settled ns (pendings.Join operator ∷ p) awaited =
    record { nodes = ns ++ nodes.Join operator ∷ []; pending = p; awaited = awaited }
settled ns p awaited = record { nodes = ns; pending = p; awaited = awaited }

abbrev pub differ : Operator → Operator → Bool
differ And Or = true
differ Or And = true
differ _ _ = false

-- after an operator that follows an operand
abbrev pub joined_by : Operator → List Node → List Pending → Outcome
joined_by operator ns (pendings.Join last ∷ p) =
    if differ last operator then Err kinds.MixedOperators
    else Ok (record {
      nodes = ns ++ nodes.Join last ∷ [];
      pending = pendings.Join operator ∷ p;
      awaited = awaits.Operand;
    })
joined_by operator ns p = Ok (record { nodes = ns; pending = pendings.Join operator ∷ p; awaited = awaits.Operand })

-- after a closing parenthesis that follows an operand
abbrev pub closed_group : List Node → List Pending → Outcome
closed_group ns (pendings.Open ∷ p) = Ok (closed ns p)
closed_group ns _ = Err kinds.Unopened

abbrev pub operator_taken : ExpressionState → Token → Outcome
operator_taken s (tokens.Join operator) = joined_by operator s.nodes s.pending
operator_taken s tokens.Close = let t = settled s.nodes s.pending awaits.Operator in closed_group t.nodes t.pending
operator_taken s _ = Err kinds.ExpectedOperator

abbrev pub stepped : ExpressionState → Step → Outcome
stepped s (Done primitive) = Ok (completed s primitive)
stepped s (More awaited) = Ok (record s { awaited = awaited })
stepped s Fails = Err (kind_of s.awaited)

abbrev pub operand_taken : ExpressionState → Token → Outcome
operand_taken s tokens.Not = Ok (record s { pending = pendings.Not ∷ s.pending })
operand_taken s tokens.Open = Ok (record s { pending = pendings.Open ∷ s.pending })
operand_taken s token = stepped s (first_step token)

abbrev pub id_taken : ExpressionState → Token → Outcome
id_taken s (tokens.Number n) = stepped s (next_step (awaits.Number numbers.VlanId) (tokens.Number n))
id_taken s (tokens.Join operator) = operator_taken (completed s primitives.Vlan) (tokens.Join operator)
id_taken s tokens.Close = operator_taken (completed s primitives.Vlan) tokens.Close
id_taken s _ = Err kinds.ExpectedVlanIdOrOperator

abbrev pub relation_taken : Subject → ExpressionState → Token → Outcome
relation_taken subject s (tokens.Relation relation) =
    stepped s (next_step (awaits.Relation subject) (tokens.Relation relation))
relation_taken subject s tokens.In = stepped s (next_step (awaits.Relation subject) tokens.In)
relation_taken subject s tokens.Mask = stepped s (next_step (awaits.Relation subject) tokens.Mask)
relation_taken subject s (tokens.Join operator) =
    operator_taken (completed s (tested (existence_of subject))) (tokens.Join operator)
relation_taken subject s tokens.Close =
    operator_taken (completed s (tested (existence_of subject))) tokens.Close
relation_taken subject s _ = Err kinds.ExpectedRelationOrOperator

-- after a value of a set
abbrev pub member_taken : Subject → (mask : ℕ) → ExpressionState → Option Primitive → Outcome
member_taken subject mask s None = Err (kind_of s.awaited)
member_taken subject mask s (Some primitive) =
    Ok (record {
      nodes = s.nodes ++ nodes.Test primitive ∷ [];
      pending = s.pending;
      awaited = awaits.SetEnd subject mask;
    })

-- .. that is not the first one
abbrev pub joined_member : Outcome → Outcome
joined_member (Err kind) = Err kind
joined_member (Ok s) = Ok (record s { nodes = s.nodes ++ nodes.Join Or ∷ [] })

abbrev pub set_taken : Subject → (mask : ℕ) → ExpressionState → Token → Outcome
set_taken subject mask s tokens.CloseSet = Ok (closed s.nodes s.pending)
set_taken subject mask s token = stepped s (next_step (awaits.SetEnd subject mask) token)

abbrev pub taken_where : Awaited → ExpressionState → Token → Outcome
taken_where awaits.Operand s token = operand_taken s token
taken_where awaits.Operator s token = operator_taken s token
taken_where awaits.VlanId s token = id_taken s token
taken_where (awaits.Relation subject) s token = relation_taken subject s token
taken_where (awaits.FirstMember subject mask) s token = member_taken subject mask s (member subject mask token)
taken_where (awaits.Member subject mask) s token =
    joined_member (member_taken subject mask s (member subject mask token))
taken_where (awaits.SetEnd subject mask) s token = set_taken subject mask s token
taken_where awaited s token = stepped s (next_step awaited token)

-- after the next word
abbrev pub taken : ExpressionState → Token → Outcome
taken s token = taken_where s.awaited s token

-- ---- the end

abbrev pub nothing_open : List Node → List Pending → Result (List Node) FilterErrorKind
nothing_open ns [] = Ok ns
nothing_open ns (p ∷ ps) = Err kinds.Unclosed

abbrev pub whole : ExpressionState → Result (List Node) FilterErrorKind
whole s = let t = settled s.nodes s.pending awaits.Operator in nothing_open t.nodes t.pending

abbrev pub ended_where : Awaited → ExpressionState → Result (List Node) FilterErrorKind
ended_where awaits.Operator s = whole s
ended_where awaits.VlanId s = whole (completed s primitives.Vlan)
ended_where (awaits.Relation subject) s = whole (completed s (tested (existence_of subject)))
ended_where awaited s = Err (kind_of awaited)

abbrev pub ended : ExpressionState → Result (List Node) FilterErrorKind
ended s = ended_where s.awaited s

-- ---- all words

abbrev pub placed : ℕ → Result (List Node) FilterErrorKind → Result (List Node) FilterError
placed at (Ok ns) = Ok ns
placed at (Err kind) = Err (record { offset = at; kind = kind })

abbrev pub going_on : Outcome → (at : ℕ) → (ExpressionState → Result (List Node) FilterError)
    → Result (List Node) FilterError
going_on (Ok s) at rest = rest s
going_on (Err kind) at rest = Err (record { offset = at; kind = kind })

-- reads on from a state, after `count` words of a text that ends at the offset `end`
abbrev pub read_from : ExpressionState → (count : ℕ) → List Word → (end : ℕ) → Result (List Node) FilterError
read_from s count [] end = placed end (ended s)
read_from s count (w ∷ ws) end =
    if nat_eq count most_words then Err (record { offset = w.at; kind = kinds.TooLong })
    else going_on (taken s (token_of w.bytes)) w.at (λ t. read_from t (count + 1) ws end)

abbrev pub read_text : List ℕ → Result (List Node) FilterError
read_text text = read_from begun 0 (words_from text 0) (length text)

-- ---- room

abbrev pub is_begun : Awaited → ℕ
is_begun awaits.Operand = 0
is_begun awaits.Operator = 0
is_begun (awaits.Member subject mask) = 2
is_begun _ = 1

-- the number of nodes so far, and of those that are still to follow for what was read
abbrev pub size_of : ExpressionState → ℕ
size_of s = length s.nodes + length s.pending + is_begun s.awaited
