-- What is read word after word is what the grammar says.
use Rattle.std.proofs.Common.{◌≡◌, ℕ, ◌≤◌, List, [], ◌∷◌, ◌++◌, refl, sym, ap, subst, ◌∙◌, false, nat_lt, arith}
use Rattle.std.specs.Prelude.{Result, Ok, Err, Some}
use Rattle.std.proofs.lemmas.Bool.{le-ltb}
use Rattle.std.proofs.lemmas.List.{append_assoc, append-nil}
use Rattle.ether_filter.specs.declared.node.Operator.{Operator}
use Rattle.ether_filter.specs.declared.node.Operator.TheVariants.{And, Or}
use Rattle.ether_filter.specs.declared.node.Node.{Node}
use Rattle.ether_filter.specs.declared.node.Node.TheVariants as nodes
use Rattle.ether_filter.specs.declared.primitive.Primitive.{Primitive}
use Rattle.ether_filter.specs.declared.primitive.Primitive.TheVariants as primitives
use Rattle.ether_filter.specs.declared.token.Token.{Token}
use Rattle.ether_filter.specs.declared.token.Token.TheVariants as tokens
use Rattle.ether_filter.specs.declared.filter_error.FilterErrorKind.{FilterErrorKind}
use Rattle.ether_filter.specs.declared.awaited.Numbered.{Numbered}
use Rattle.ether_filter.specs.declared.awaited.Awaited.{Awaited}
use Rattle.ether_filter.specs.declared.awaited.Awaited.TheVariants as awaits
use Rattle.ether_filter.specs.declared.reading.Pending.{Pending}
use Rattle.ether_filter.specs.declared.reading.Pending.TheVariants as pendings
use Rattle.ether_filter.specs.declared.field_test.Relation.{Relation}
use Rattle.ether_filter.specs.declared.subject.Literal.{Literal}
use Rattle.ether_filter.specs.declared.subject.Subject.{Subject}
use Rattle.ether_filter.specs.Subjects.{existence_of, test_with, tested}
use Rattle.ether_filter.specs.Expressions.{Expression, Join}
use Rattle.ether_filter.specs.Postfix.{postfix}
use Rattle.ether_filter.specs.Grammar.{NamesBits, NamesSet, NamesPrimitive, Shape, Operand, Chain, Leads, operand, chain, Means, IsExpression}
use Rattle.ether_filter.specs.Grammar as grammar
use Rattle.ether_filter.specs.Steps.{next_step, most_of, value_for, member}
use Rattle.ether_filter.specs.ExpressionReading.{ExpressionState, Outcome, begun, closed, differ, operator_taken, stepped, taken_where, taken, whole, ended}

pub other_taken : (x : Awaited) (s : ExpressionState) (t : Token) → (x ≡ awaits.Operand → ⊥) → (x ≡ awaits.Operator → ⊥)
    → (x ≡ awaits.VlanId → ⊥) → ((f : Subject) → x ≡ awaits.Relation f → ⊥)
    → ((f : Subject) (m : ℕ) → x ≡ awaits.FirstMember f m → ⊥) → ((f : Subject) (m : ℕ) → x ≡ awaits.Member f m → ⊥)
    → ((f : Subject) (m : ℕ) → x ≡ awaits.SetEnd f m → ⊥)
    → taken_where x s t ≡ stepped s (next_step x t)
other_taken awaits.Operand s t a b c d e g h = absurd (a refl)
other_taken awaits.Operator s t a b c d e g h = absurd (b refl)
other_taken awaits.VlanId s t a b c d e g h = absurd (c refl)
other_taken (awaits.Relation f) s t a b c d e g h = absurd (d f refl)
other_taken (awaits.FirstMember f m) s t a b c d e g h = absurd (e f m refl)
other_taken (awaits.Member f m) s t a b c d e g h = absurd (g f m refl)
other_taken (awaits.SetEnd f m) s t a b c d e g h = absurd (h f m refl)
other_taken x s t a b c d e g h = refl

-- ---- from a state on

abbrev pub going : {A : Type 0} → Outcome → (ExpressionState → Result A FilterErrorKind) → Result A FilterErrorKind
going (Ok s) rest = rest s
going (Err kind) rest = Err kind

-- all of these words, from a state on
abbrev pub all_from : ExpressionState → List Token → Result (List Node) FilterErrorKind
all_from s [] = ended s
all_from s (t ∷ ts) = going (taken s t) (λ u. all_from u ts)

closed_taken : (ns : List Node) (p : List Pending) (t : Token) → taken (closed ns p) t ≡ operator_taken (closed ns p) t
closed_taken ns [] t = refl
closed_taken ns (pendings.Open ∷ p) t = refl
closed_taken ns (pendings.Not ∷ p) t = closed_taken (ns ++ nodes.Not ∷ []) p t
closed_taken ns (pendings.Join operator ∷ p) t = refl

closed_ended : (ns : List Node) (p : List Pending) → ended (closed ns p) ≡ whole (closed ns p)
closed_ended ns [] = refl
closed_ended ns (pendings.Open ∷ p) = refl
closed_ended ns (pendings.Not ∷ p) = closed_ended (ns ++ nodes.Not ∷ []) p
closed_ended ns (pendings.Join operator ∷ p) = refl

-- ---- an expression is read

-- after an operand come these, or nothing
abbrev Ends : List Token → Type 0
Ends [] = Unit {0}
Ends (tokens.Close ∷ ts) = Unit {0}
Ends (tokens.Join operator ∷ ts) = Unit {0}
Ends _ = ⊥

abbrev pub IsBase : List Pending → Type 0
IsBase [] = Unit {0}
IsBase (pendings.Open ∷ p) = Unit {0}
IsBase _ = ⊥

abbrev Fits : Shape → List Pending → Type 0
Fits Operand p = Unit {0}
Fits (Chain operator) p = IsBase p

-- the nodes of operands that are joined, without that of their last operator
abbrev pub body : Expression → List Node
body (Join operator x y) = postfix x ++ postfix y
body x = postfix x

abbrev after : Shape → List Node → List Pending → Expression → ExpressionState
after Operand ns p x = closed (ns ++ postfix x) p
after (Chain operator) ns p x = record
    { nodes = ns ++ body x; pending = pendings.Join operator ∷ p; awaited = awaits.Operator }

pub body_whole : (operator : Operator) (ts : List Token) (x : Expression) → Means (Chain operator) ts x → postfix x
    ≡ body x ++ nodes.Join operator ∷ []
body_whole operator ts x (grammar.join o shape us vs y z leads m n) = refl

vlan_ends : (ns : List Node) (p : List Pending) (rest : List Token) → Ends rest
    → all_from (record { nodes = ns; pending = p; awaited = awaits.VlanId }) rest
    ≡ all_from (closed (ns ++ nodes.Test primitives.Vlan ∷ []) p) rest
vlan_ends ns p [] e = sym (closed_ended (ns ++ nodes.Test primitives.Vlan ∷ []) p)
vlan_ends ns p (tokens.Close ∷ ts) e = ap (λ (o : Outcome). going o (λ u. all_from u ts))
    (sym (closed_taken (ns ++ nodes.Test primitives.Vlan ∷ []) p tokens.Close))
vlan_ends ns p (tokens.Join operator ∷ ts) e = ap (λ (o : Outcome). going o (λ u. all_from u ts))
    (sym (closed_taken (ns ++ nodes.Test primitives.Vlan ∷ []) p (tokens.Join operator)))
vlan_ends ns p (t ∷ ts) e = absurd e

field_ends : (f : Subject) (ns : List Node) (p : List Pending) (rest : List Token) → Ends rest
    → all_from (record { nodes = ns; pending = p; awaited = awaits.Relation f }) rest
    ≡ all_from (closed (ns ++ nodes.Test (tested (existence_of f)) ∷ []) p) rest
field_ends f ns p [] e = sym (closed_ended (ns ++ nodes.Test (tested (existence_of f)) ∷ []) p)
field_ends f ns p (tokens.Close ∷ ts) e = ap (λ (o : Outcome). going o (λ u. all_from u ts))
    (sym (closed_taken (ns ++ nodes.Test (tested (existence_of f)) ∷ []) p tokens.Close))
field_ends f ns p (tokens.Join operator ∷ ts) e = ap (λ (o : Outcome). going o (λ u. all_from u ts))
    (sym (closed_taken (ns ++ nodes.Test (tested (existence_of f)) ∷ []) p (tokens.Join operator)))
field_ends f ns p (t ∷ ts) e = absurd e

-- a field that is compared, up to its value
related_read : (f : Subject) (ts : List Token) (mask : ℕ) (r : Relation) (t : Token) (value : Literal)
    → NamesBits f ts mask → value_for f.takes t ≡ Some value → (ns : List Node) (p : List Pending) (rest : List Token)
    → all_from (record { nodes = ns; pending = p; awaited = awaits.Operand })
    ((ts ++ tokens.Relation r ∷ t ∷ []) ++ rest)
    ≡ all_from (closed (ns ++ nodes.Test (tested (test_with f mask r value)) ∷ []) p) rest
related_read f ts mask r t value grammar.all is ns p rest = rw is refl
related_read f ts mask r t value (grammar.masked m bits means) is ns p rest = rw (means, is) refl

-- the values of a set
first_read : (f : Subject) (ts : List Token) (mask : ℕ) (t : Token) (q : Primitive) → NamesBits f ts mask
    → member f mask t ≡ Some q → (ns : List Node) (p : List Pending) (rest : List Token)
    → all_from (record { nodes = ns; pending = p; awaited = awaits.Operand })
    ((ts ++ tokens.In ∷ tokens.OpenSet ∷ t ∷ []) ++ rest)
    ≡ all_from (record { nodes = ns ++ nodes.Test q ∷ []; pending = p; awaited = awaits.SetEnd f mask }) rest
first_read f ts mask t q grammar.all is ns p rest = rw is refl
first_read f ts mask t q (grammar.masked u bits means) is ns p rest = rw (means, is) refl

set_read : (f : Subject) (mask : ℕ) (ts : List Token) (x : Expression) → NamesSet f mask ts x
    → (ns : List Node) (p : List Pending) (rest : List Token)
    → all_from (record { nodes = ns; pending = p; awaited = awaits.Operand }) (ts ++ rest)
    ≡ all_from (record { nodes = ns ++ postfix x; pending = p; awaited = awaits.SetEnd f mask }) rest
set_read f mask ts x (grammar.one us t q bits is) ns p rest = first_read f us mask t q bits is ns p rest
set_read f mask ts x (grammar.more us y t q set is) ns p rest =
    ap (λ (l : List Token). all_from (record { nodes = ns; pending = p; awaited = awaits.Operand }) l)
    (append_assoc us (tokens.Comma ∷ t ∷ []) rest)
    ∙ set_read f mask us y set ns p (tokens.Comma ∷ t ∷ rest)
    ∙ rw is (ap (λ (l : List Node). all_from
    (record { nodes = l; pending = p; awaited = awaits.SetEnd f mask }) rest)
    (ap (λ (l : List Node). l ++ nodes.Join Or ∷ []) (append_assoc ns (postfix y) (nodes.Test q ∷ []))
    ∙ append_assoc ns (postfix y ++ nodes.Test q ∷ []) (nodes.Join Or ∷ [])))

within : (of : Numbered) (n m : ℕ) → m ≡ most_of of → n ≤ m → nat_lt (most_of of) n ≡ false
within of n m is le = subst (λ (k : ℕ). nat_lt k n ≡ false) is (le-ltb m n le)

primitive_read : (ts : List Token) (q : Primitive) → NamesPrimitive ts q
    → (ns : List Node) (p : List Pending) (rest : List Token) → Ends rest
    → all_from (record { nodes = ns; pending = p; awaited = awaits.Operand }) (ts ++ rest)
    ≡ all_from (closed (ns ++ nodes.Test q ∷ []) p) rest
primitive_read ts q grammar.vlan ns p rest e = vlan_ends ns p rest e
primitive_read ts q (grammar.vlan_id n lt) ns p rest e = rw (le-ltb 4095 n (omega arith)) refl
primitive_read ts q (grammar.outer_vlan n lt) ns p rest e = rw (le-ltb 4095 n (omega arith)) refl
primitive_read ts q (grammar.inner_vlan n lt) ns p rest e = rw (le-ltb 4095 n (omega arith)) refl
primitive_read ts q grammar.macsec ns p rest e = refl
primitive_read ts q grammar.arp ns p rest e = refl
primitive_read ts q grammar.ip ns p rest e = refl
primitive_read ts q grammar.ip6 ns p rest e = refl
primitive_read ts q (grammar.proto n lt) ns p rest e = rw (le-ltb 65535 n (omega arith)) refl
primitive_read ts q (grammar.src a) ns p rest e = refl
primitive_read ts q (grammar.dst a) ns p rest e = refl
primitive_read ts q (grammar.host a) ns p rest e = refl
primitive_read ts q grammar.broadcast ns p rest e = refl
primitive_read ts q grammar.multicast ns p rest e = refl
primitive_read ts q grammar.refused ns p rest e = refl
primitive_read ts q grammar.cut ns p rest e = refl
primitive_read ts q (grammar.less n lt) ns p rest e = rw (le-ltb 4294967295 n (omega arith)) refl
primitive_read ts q (grammar.greater n lt) ns p rest e = rw (le-ltb 4294967295 n (omega arith)) refl
primitive_read ts q (grammar.field f) ns p rest e = field_ends f ns p rest e
primitive_read ts q (grammar.related f us mask r t value bits is) ns p rest e =
    related_read f us mask r t value bits is ns p rest

fits : (operator : Operator) (shape : Shape) → Leads operator shape → (p : List Pending) → IsBase p → Fits shape p
fits operator shape operand p base = tt
fits operator shape chain p base = base

same_operator : (operator : Operator) → differ operator operator ≡ false
same_operator And = refl
same_operator Or = refl

-- an operator after its left operand
left_read : (operator : Operator) (shape : Shape) (ts : List Token) (x : Expression) → Leads operator shape
    → Means shape ts x → (ns : List Node) (p : List Pending) (rest : List Token) → IsBase p
    → {result : Result (List Node) FilterErrorKind} → result
    ≡ all_from (after shape ns p x) (tokens.Join operator ∷ rest)
    → result ≡ all_from
    (record { nodes = ns ++ postfix x; pending = pendings.Join operator ∷ p; awaited = awaits.Operand }) rest
left_read operator shape ts x operand m ns [] rest base is = is
left_read operator shape ts x operand m ns (pendings.Open ∷ p) rest base is = is
left_read operator shape ts x operand m ns (q ∷ p) rest base is = absurd base
left_read operator shape ts x chain m ns p rest base is =
    is ∙ rw (same_operator operator)
    (ap (λ (l : List Node). all_from
    (record { nodes = l; pending = pendings.Join operator ∷ p; awaited = awaits.Operand }) rest)
    (append_assoc ns (body x) (nodes.Join operator ∷ [])
    ∙ ap (λ (l : List Node). ns ++ l) (sym (body_whole operator ts x m))))

-- the words of an expression are read as its nodes
read : (shape : Shape) (ts : List Token) (x : Expression) → Means shape ts x
    → (ns : List Node) (p : List Pending) (rest : List Token) → Fits shape p → Ends rest
    → all_from (record { nodes = ns; pending = p; awaited = awaits.Operand }) (ts ++ rest)
    ≡ all_from (after shape ns p x) rest
read shape ts x (grammar.primitive us q names) ns p rest fit e = primitive_read us q names ns p rest e
read shape ts x (grammar.set f mask us y set) ns p rest fit e =
    ap (λ (l : List Token). all_from (record { nodes = ns; pending = p; awaited = awaits.Operand }) l)
    (append_assoc us (tokens.CloseSet ∷ []) rest)
    ∙ set_read f mask us y set ns p (tokens.CloseSet ∷ rest)
read shape ts x (grammar.negation us y m) ns p rest fit e =
    read Operand us y m ns (pendings.Not ∷ p) rest tt e
    ∙ ap (λ (l : List Node). all_from (closed l p) rest) (append_assoc ns (postfix y) (nodes.Not ∷ []))
read shape ts x (grammar.group Operand us y m) ns p rest fit e =
    ap (λ (l : List Token). all_from (record { nodes = ns; pending = pendings.Open ∷ p; awaited = awaits.Operand }) l)
    (append_assoc us (tokens.Close ∷ []) rest)
    ∙ read Operand us y m ns (pendings.Open ∷ p) (tokens.Close ∷ rest) tt tt
read shape ts x (grammar.group (Chain operator) us y m) ns p rest fit e =
    ap (λ (l : List Token). all_from (record { nodes = ns; pending = pendings.Open ∷ p; awaited = awaits.Operand }) l)
    (append_assoc us (tokens.Close ∷ []) rest)
    ∙ read (Chain operator) us y m ns (pendings.Open ∷ p) (tokens.Close ∷ rest) tt tt
    ∙ ap (λ (l : List Node). all_from (closed l p) rest)
    (append_assoc ns (body y) (nodes.Join operator ∷ [])
    ∙ ap (λ (l : List Node). ns ++ l) (sym (body_whole operator us y m)))
read shape ts x (grammar.join operator before us vs y z leads m n) ns p rest fit e =
    ap (λ (l : List Token). all_from (record { nodes = ns; pending = p; awaited = awaits.Operand }) l)
    (append_assoc us (tokens.Join operator ∷ vs) rest)
    ∙ left_read operator before us y leads m ns p (vs ++ rest) fit
    (read before us y m ns p (tokens.Join operator ∷ (vs ++ rest)) (fits operator before leads p fit) tt)
    ∙ read Operand vs z n (ns ++ postfix y) (pendings.Join operator ∷ p) rest tt e
    ∙ ap (λ (l : List Node). all_from
    (record { nodes = l; pending = pendings.Join operator ∷ p; awaited = awaits.Operator }) rest)
    (append_assoc ns (postfix y) (postfix z))

whole_read : (shape : Shape) (ts : List Token) (x : Expression) → Means shape ts x → all_from begun (ts ++ [])
    ≡ Ok (postfix x)
whole_read Operand ts x m = read Operand ts x m [] [] [] tt tt
whole_read (Chain operator) ts x m =
    let found : List Node → Result (List Node) FilterErrorKind = λ l. Ok l in
    read (Chain operator) ts x m [] [] [] tt tt ∙ ap found (sym (body_whole operator ts x m))

pub expression_read : (ts : List Token) (x : Expression) → IsExpression ts x → all_from begun ts ≡ Ok (postfix x)
expression_read ts x is = ap (all_from begun) (sym (append-nil ts)) ∙ whole_read is.shape ts x is.means
