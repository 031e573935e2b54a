-- How an expression is stored: as its nodes, each after its operands.
use Rattle.std.specs.Prelude.{◌≡◌, List, [], ◌∷◌, ◌++◌, refl}
use Rattle.std.proofs.Common.{ap, ◌∙◌, sym}
use Rattle.std.proofs.lemmas.List.{append_assoc, append-nil}
use Rattle.std.specs.Coded.{Coded, code_by, coded_list}
use Rattle.ether_filter.specs.declared.primitive.Primitive.TheVariants as primitives
use Rattle.ether_filter.specs.declared.node.Node.{Node}
use Rattle.ether_filter.specs.declared.node.Node.TheVariants as nodes
use Rattle.ether_filter.specs.contracts.node.Node as node
use Rattle.ether_filter.specs.Expressions.{Expression, Test, Not, Join}

abbrev pub postfix : Expression → List Node
postfix (Test primitive) = nodes.Test primitive ∷ []
postfix (Not x) = postfix x ++ nodes.Not ∷ []
postfix (Join operator x y) = postfix x ++ postfix y ++ nodes.Join operator ∷ []

abbrev pub IsPostfix : List Node → Type 0
IsPostfix ns = (x : Expression) × (ns ≡ postfix x)

-- ---- back to the expression

-- the stack of expressions, the last one first, after a further node
abbrev pub pushed : List Expression → Node → List Expression
pushed xs (nodes.Test primitive) = Test primitive ∷ xs
pushed (x ∷ xs) nodes.Not = Not x ∷ xs
pushed [] nodes.Not = []
pushed (y ∷ x ∷ xs) (nodes.Join operator) = Join operator x y ∷ xs
pushed _ (nodes.Join operator) = []

-- .. after further nodes
abbrev pub trees : List Expression → List Node → List Expression
trees xs [] = xs
trees xs (n ∷ ns) = trees (pushed xs n) ns

-- the expression on top of the stack, which is not empty here
abbrev pub first : List Expression → Expression
first [] = Test primitives.Vlan
first (x ∷ xs) = x

abbrev pub expression_of : List Node → Expression
expression_of ns = first (trees [] ns)

-- reading a list of nodes that begins with those of an expression
pub trees-postfix : (x : Expression) (xs : List Expression) (ns : List Node) → trees xs (postfix x ++ ns)
    ≡ trees (x ∷ xs) ns
trees-postfix (Test p) xs ns = refl
trees-postfix (Not x) xs ns =
    ap (trees xs) (append_assoc (postfix x) (nodes.Not ∷ []) ns) ∙ trees-postfix x xs (nodes.Not ∷ ns)
trees-postfix (Join operator x y) xs ns =
    ap (trees xs) (append_assoc (postfix x ++ postfix y) (nodes.Join operator ∷ []) ns
    ∙ append_assoc (postfix x) (postfix y) (nodes.Join operator ∷ ns))
    ∙ trees-postfix x xs (postfix y ++ nodes.Join operator ∷ ns) ∙ trees-postfix y (x ∷ xs) (nodes.Join operator ∷ ns)

-- the nodes of an expression are read back as it
pub expression_of-postfix : (x : Expression) → expression_of (postfix x) ≡ x
expression_of-postfix x = ap first (ap (trees []) (sym (append-nil (postfix x))) ∙ trees-postfix x [] [])

-- so an expression can be stored as its nodes
abbrev pub expression_code : Coded Expression
expression_code = code_by (List Node) (coded_list node.the_row.coded) postfix expression_of expression_of-postfix
