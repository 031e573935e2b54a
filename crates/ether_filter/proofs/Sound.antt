-- Nodes that are read are those of an expression.
use Rattle.std.proofs.Common.{◌≡◌, ℕ, List, [], ◌∷◌, ◌++◌, refl, sym, ap, subst, ◌∙◌}
use Rattle.std.specs.Prelude.{Result, Ok, Err, Option, Some, None}
use Rattle.std.proofs.lemmas.List.{append_assoc, append-nil}
use Rattle.ether_filter.specs.declared.node.Operator.{Operator}
use Rattle.ether_filter.specs.declared.node.Operator.TheVariants.{And, Or}
use Rattle.ether_filter.specs.declared.node.Node.{Node}
use Rattle.ether_filter.specs.declared.node.Node.TheVariants as nodes
use Rattle.ether_filter.specs.declared.primitive.Primitive.{Primitive}
use Rattle.ether_filter.specs.declared.primitive.Primitive.TheVariants as primitives
use Rattle.ether_filter.specs.declared.token.Token.{Token}
use Rattle.ether_filter.specs.declared.token.Token.TheVariants as tokens
use Rattle.ether_filter.specs.declared.filter_error.FilterErrorKind.{FilterErrorKind}
use Rattle.ether_filter.specs.declared.awaited.Numbered.TheVariants as numbers
use Rattle.ether_filter.specs.declared.awaited.Awaited.{Awaited}
use Rattle.ether_filter.specs.declared.awaited.Awaited.TheVariants as awaits
use Rattle.ether_filter.specs.declared.awaited.Step.{Step}
use Rattle.ether_filter.specs.declared.awaited.Step.TheVariants.{Done, More, Fails}
use Rattle.ether_filter.specs.declared.reading.Pending.{Pending}
use Rattle.ether_filter.specs.declared.reading.Pending.TheVariants as pendings
use Rattle.ether_filter.specs.declared.subject.Subject.{Subject}
use Rattle.ether_filter.specs.Subjects.{existence_of, tested}
use Rattle.ether_filter.specs.Expressions.{Expression, Test, Not, Join}
use Rattle.ether_filter.specs.Postfix.{postfix}
use Rattle.ether_filter.specs.Grammar.{NamesBits, NamesSet, NamesPrimitive, Shape, Operand, Chain, Leads, operand, chain, Means, IsExpression}
use Rattle.ether_filter.specs.Grammar as grammar
use Rattle.ether_filter.specs.Steps.{first_step, next_step, member}
use Rattle.ether_filter.specs.ExpressionReading.{ExpressionState, Outcome, begun, closed, joined_by, operator_taken, stepped, operand_taken, id_taken, relation_taken, member_taken, joined_member, set_taken, taken_where, taken, whole, ended_where}
use Rattle.ether_filter.proofs.ReadingLemmas.{IsBase, body, body_whole, going, all_from}
pub use Rattle.ether_filter.proofs.BegunWords.{Named, Compared, Begun, decided, StepMeans, first_means, next_means}

-- ---- what was read

-- before an operand that an operator joins
pub record Left (before : List Node → List Token → Type 0) (operator : Operator) (p : List Pending) (ns : List Node)
    (ts : List Token) : Type 0 where
  pub old : List Node
  pub front : List Token
  pub shape : Shape
  pub words : List Token
  pub x : Expression
  pub base : IsBase p
  pub leads : Leads operator shape
  pub means : Means shape words x
  pub earlier : before old front
  pub nodes : ns ≡ old ++ postfix x
  pub tokens : ts ≡ (front ++ words) ++ tokens.Join operator ∷ []

pub record Opened (before : List Node → List Token → Type 0) (sign : Token) (ns : List Node) (ts : List Token) : Type
    0 where
  pub front : List Token
  pub earlier : before ns front
  pub tokens : ts ≡ front ++ sign ∷ []

-- an operand comes after these words, in which these are open
abbrev pub Awaits : List Pending → List Node → List Token → Type 0
Awaits [] ns ts = (ns ≡ []) × (ts ≡ [])
Awaits (pendings.Open ∷ p) ns ts = Opened (Awaits p) tokens.Open ns ts
Awaits (pendings.Not ∷ p) ns ts = Opened (Awaits p) tokens.Not ns ts
Awaits (pendings.Join operator ∷ p) ns ts = Left (Awaits p) operator p ns ts

abbrev pub marked : Shape → List Pending → List Pending
marked Operand p = p
marked (Chain operator) p = pendings.Join operator ∷ p

abbrev pub trunk : Shape → Expression → List Node
trunk Operand x = postfix x
trunk (Chain operator) x = body x

-- an operand is whole, or operands that are joined
pub record Follows (q : List Pending) (ns : List Node) (ts : List Token) : Type 0 where
  pub pending : List Pending
  pub old : List Node
  pub front : List Token
  pub shape : Shape
  pub words : List Token
  pub x : Expression
  pub base : IsBase pending
  pub means : Means shape words x
  pub earlier : Awaits pending old front
  pub is : q ≡ marked shape pending
  pub nodes : ns ≡ old ++ trunk shape x
  pub tokens : ts ≡ front ++ words

pub record Within (awaited : Awaited) (p : List Pending) (ns : List Node) (ts : List Token) : Type 0 where
  pub front : List Token
  pub words : List Token
  pub begun : Begun awaited words
  pub earlier : Awaits p ns front
  pub tokens : ts ≡ front ++ words

-- a set, after one of its values
pub record InSet (f : Subject) (mask : ℕ) (p : List Pending) (ns : List Node) (ts : List Token) : Type 0 where
  pub old : List Node
  pub front : List Token
  pub words : List Token
  pub x : Expression
  pub set : NamesSet f mask words x
  pub earlier : Awaits p old front
  pub nodes : ns ≡ old ++ postfix x
  pub tokens : ts ≡ front ++ words

-- .. after a comma
pub record AtMember (f : Subject) (mask : ℕ) (p : List Pending) (ns : List Node) (ts : List Token) : Type 0 where
  pub before : List Token
  pub values : InSet f mask p ns before
  pub tokens : ts ≡ before ++ tokens.Comma ∷ []

abbrev pub WasRead : Awaited → List Pending → List Node → List Token → Type 0
WasRead awaits.Operand p ns ts = Awaits p ns ts
WasRead awaits.Operator p ns ts = Follows p ns ts
WasRead (awaits.SetEnd f mask) p ns ts = InSet f mask p ns ts
WasRead (awaits.Member f mask) p ns ts = AtMember f mask p ns ts
WasRead awaited p ns ts = Within awaited p ns ts

abbrev pub Was : ExpressionState → List Token → Type 0
Was s ts = WasRead s.awaited s.pending s.nodes ts

-- ---- steps

abbrev pub Goes : Outcome → List Token → Type 0
Goes (Ok s) ts = Was s ts
Goes (Err kind) ts = Unit {0}

-- after an operand
closed_was : (p : List Pending) (old : List Node) (front words : List Token) (x : Expression) → Awaits p old front
    → Means Operand words x → Was (closed (old ++ postfix x) p) (front ++ words)
closed_was [] old front words x a m = record {
  pending = [];
  old = old;
  front = front;
  shape = Operand;
  words = words;
  x = x;
  base = tt;
  means = m;
  earlier =
      a;
  is = refl;
  nodes = refl;
  tokens = refl;
}
closed_was (pendings.Open ∷ p) old front words x a m =
    record {
      pending = pendings.Open ∷ p;
      old = old;
      front = front;
      shape = Operand;
      words = words;
      x = x;
      base = tt;
      means = m;
      earlier = a;
      is = refl;
      nodes = refl;
      tokens = refl;
    }
closed_was (pendings.Not ∷ p) old front words x a m =
    let was = closed_was p old a.front (tokens.Not ∷ words) (Not x) a.earlier (grammar.negation words x m) in
    let words_are : a.front ++ tokens.Not ∷ words ≡ front
    ++ words = sym (ap (λ (l : List Token). l ++ words) a.tokens ∙ append_assoc a.front (tokens.Not ∷ []) words) in
    subst (λ (l : List Node). Was (closed l p) (front ++ words)) (sym (append_assoc old (postfix x) (nodes.Not ∷ [])))
    (subst (λ (l : List Token). Was (closed (old ++ postfix (Not x)) p) l) words_are was)
closed_was (pendings.Join operator ∷ p) old front words x a m = record {
  pending = p;
  old = a.old;
  front = a.front;
  shape = Chain operator;
  words = a.words ++ tokens.Join operator ∷ words;
  x = Join operator a.x x;
  base = a.base;
  means = grammar.join operator a.shape a.words words a.x x a.leads a.means m;
  earlier = a.earlier;
  is = refl;
  nodes = ap (λ (l : List Node). l ++ postfix x) a.nodes ∙ append_assoc a.old (postfix a.x) (postfix x);
  tokens = ap (λ (l : List Token). l ++ words) a.tokens
      ∙ append_assoc (a.front ++ a.words) (tokens.Join operator ∷ []) words
      ∙ append_assoc a.front a.words (tokens.Join operator ∷ words);
}

-- ---- a primitive

begun_was : (a : Awaited) (p : List Pending) (ns : List Node) (front words : List Token) → Begun a words
    → Awaits p ns front → WasRead a p ns (front ++ words)
begun_was awaits.Operand p ns front words b e = absurd b
begun_was awaits.Operator p ns front words b e = absurd b
begun_was (awaits.SetEnd f mask) p ns front words b e = absurd b
begun_was (awaits.Member f mask) p ns front words b e = absurd b
begun_was a p ns front words b e = record { front = front; words = words; begun = b; earlier = e; tokens = refl }

stepped_was : (a : Awaited) (p : List Pending) (ns : List Node) (front words : List Token) (step : Step)
    → Awaits p ns front → StepMeans step words
    → Goes (stepped (record { nodes = ns; pending = p; awaited = a }) step) (front ++ words)
stepped_was a p ns front words (Done q) e means = closed_was p ns front words (Test q) e
    (grammar.primitive words q means)
stepped_was a p ns front words (More next) e means = begun_was next p ns front words means e
stepped_was a p ns front words Fails e means = tt

operand_was : (p : List Pending) (ns : List Node) (ts : List Token) (t : Token) → Awaits p ns ts
    → Goes (operand_taken (record { nodes = ns; pending = p; awaited = awaits.Operand }) t) (ts ++ t ∷ [])
operand_was p ns ts tokens.Not e = record { front = ts; earlier = e; tokens = refl }
operand_was p ns ts tokens.Open e = record { front = ts; earlier = e; tokens = refl }
operand_was p ns ts t e = stepped_was awaits.Operand p ns ts (t ∷ []) (first_step t) e (first_means t)

-- ---- after an operand

left_of : (operator : Operator) (p : List Pending) (old ns : List Node) (front words : List Token) (shape : Shape)
    (x : Expression) → IsBase p → Leads operator shape → Means shape words x → Awaits p old front
    → ns ≡ old ++ postfix x → Awaits (pendings.Join operator ∷ p) ns ((front ++ words) ++ tokens.Join operator ∷ [])
left_of operator p old ns front words shape x base leads m e is =
    record {
      old = old;
      front = front;
      shape = shape;
      words = words;
      x = x;
      base = base;
      leads = leads;
      means = m;
      earlier = e;
      nodes = is;
      tokens = refl;
    }

chained : (operator : Operator) (old : List Node) (words : List Token) (x : Expression)
    → Means (Chain operator) words x → (old ++ body x) ++ nodes.Join operator ∷ [] ≡ old ++ postfix x
chained operator old words x m = append_assoc old (body x) (nodes.Join operator ∷ [])
    ∙ ap (λ (l : List Node). old ++ l) (sym (body_whole operator words x m))

joined_was : (operator : Operator) (shape : Shape) (p : List Pending) (old : List Node) (front words : List Token)
    (x : Expression) → IsBase p → Means shape words x → Awaits p old front
    → Goes (joined_by operator (old ++ trunk shape x) (marked shape p)) ((front ++ words) ++ tokens.Join operator ∷ [])
joined_was operator Operand [] old front words x base m e = left_of operator [] old (old ++ postfix x) front words
    Operand x base operand m e refl
joined_was operator Operand (pendings.Open ∷ p) old front words x base m e = left_of operator (pendings.Open ∷ p) old
    (old ++ postfix x) front words Operand x base operand m e refl
joined_was operator Operand (q ∷ p) old front words x base m e = absurd base
joined_was And (Chain And) p old front words x base m e = left_of And p old ((old ++ body x) ++ nodes.Join And ∷ [])
    front words (Chain And) x base chain m e (chained And old words x m)
joined_was Or (Chain Or) p old front words x base m e = left_of Or p old ((old ++ body x) ++ nodes.Join Or ∷ []) front
    words (Chain Or) x base chain m e (chained Or old words x m)
joined_was operator (Chain other) p old front words x base m e = tt

group_was : (shape : Shape) (p : List Pending) (old ns : List Node) (front words : List Token) (x : Expression)
    → Means shape words x → Awaits (pendings.Open ∷ p) old front → ns ≡ old ++ postfix x
    → Was (closed ns p) ((front ++ words) ++ tokens.Close ∷ [])
group_was shape p old ns front words x m e is =
    let was = closed_was p old e.front (tokens.Open ∷ (words ++ tokens.Close ∷ [])) x e.earlier
    (grammar.group shape words x m) in
    let words_are : e.front ++ tokens.Open ∷ (words ++ tokens.Close ∷ []) ≡ (front ++ words) ++ tokens.Close ∷ [] =
    sym (append_assoc front words (tokens.Close ∷ [])
    ∙ ap (λ (l : List Token). l ++ (words ++ tokens.Close ∷ [])) e.tokens
    ∙ append_assoc e.front (tokens.Open ∷ []) (words ++ tokens.Close ∷ [])) in
    subst (λ (l : List Node). Was (closed l p) ((front ++ words) ++ tokens.Close ∷ [])) (sym is)
    (subst (λ (l : List Token). Was (closed (old ++ postfix x) p) l) words_are was)

closing_was : (shape : Shape) (p : List Pending) (old : List Node) (front words : List Token) (x : Expression)
    (a : Awaited) → IsBase p → Means shape words x → Awaits p old front
    → Goes (operator_taken (record { nodes = old ++ trunk shape x; pending = marked shape p; awaited = a })
    tokens.Close) ((front ++ words) ++ tokens.Close ∷ [])
closing_was Operand [] old front words x a base m e = tt
closing_was Operand (pendings.Open ∷ p) old front words x a base m e = group_was Operand p old (old ++ postfix x)
    front words x m e refl
closing_was Operand (q ∷ p) old front words x a base m e = absurd base
closing_was (Chain operator) [] old front words x a base m e = tt
closing_was (Chain operator) (pendings.Open ∷ p) old front words x a base m e =
    group_was (Chain operator) p old ((old ++ body x) ++ nodes.Join operator ∷ []) front words x m e
    (chained operator old words x m)
closing_was (Chain operator) (q ∷ p) old front words x a base m e = absurd base

operator_was : (s : ExpressionState) (ts : List Token) (t : Token) → Follows s.pending s.nodes ts
    → Goes (operator_taken s t) (ts ++ t ∷ [])
operator_was s ts (tokens.Join operator) f =
    rw (f.is, f.nodes, f.tokens)
    (joined_was operator f.shape f.pending f.old f.front f.words f.x f.base f.means f.earlier)
operator_was s ts tokens.Close f = rw (f.is, f.nodes, f.tokens)
    (closing_was f.shape f.pending f.old f.front f.words f.x s.awaited f.base f.means f.earlier)
operator_was s ts t f = tt

-- what is closed awaits an operator
closed_follows : (ns : List Node) (p : List Pending) (ts : List Token) → Was (closed ns p) ts
    → Follows (closed ns p).pending (closed ns p).nodes ts
closed_follows ns [] ts was = was
closed_follows ns (pendings.Open ∷ p) ts was = was
closed_follows ns (pendings.Not ∷ p) ts was = closed_follows (ns ++ nodes.Not ∷ []) p ts was
closed_follows ns (pendings.Join operator ∷ p) ts was = was

-- an operand that is one primitive
operand_follows : (q : Primitive) (p : List Pending) (ns : List Node) (ts front words : List Token)
    → NamesPrimitive words q → Awaits p ns front → ts ≡ front ++ words
    → Follows (closed (ns ++ nodes.Test q ∷ []) p).pending (closed (ns ++ nodes.Test q ∷ []) p).nodes ts
operand_follows q p ns ts front words names earlier is =
    closed_follows (ns ++ nodes.Test q ∷ []) p ts
    (subst (Was (closed (ns ++ nodes.Test q ∷ []) p)) (sym is)
    (closed_was p ns front words (Test q) earlier (grammar.primitive words q names)))

vlan_follows : (p : List Pending) (ns : List Node) (ts : List Token) → Within awaits.VlanId p ns ts
    → Follows (closed (ns ++ nodes.Test primitives.Vlan ∷ []) p).pending
    (closed (ns ++ nodes.Test primitives.Vlan ∷ []) p).nodes ts
vlan_follows p ns ts w = operand_follows primitives.Vlan p ns ts w.front w.words
    (subst (λ (l : List Token). NamesPrimitive l primitives.Vlan) (sym w.begun) grammar.vlan) w.earlier w.tokens

field_follows : (f : Subject) (p : List Pending) (ns : List Node) (ts : List Token)
    → Within (awaits.Relation f) p ns ts
    → Follows (closed (ns ++ nodes.Test (tested (existence_of f)) ∷ []) p).pending
    (closed (ns ++ nodes.Test (tested (existence_of f)) ∷ []) p).nodes ts
field_follows f p ns ts w = operand_follows (tested (existence_of f)) p ns ts w.front w.words
    (subst (λ (l : List Token). NamesPrimitive l (tested (existence_of f))) (sym w.begun)
    (grammar.field f)) w.earlier w.tokens

within_was : (a : Awaited) (p : List Pending) (ns : List Node) (ts : List Token) (t : Token) (step : Step)
    → Within a p ns ts → ((words : List Token) → Begun a words → StepMeans step (words ++ t ∷ []))
    → Goes (stepped (record { nodes = ns; pending = p; awaited = a }) step) (ts ++ t ∷ [])
within_was a p ns ts t step w means =
    subst (Goes (stepped (record { nodes = ns; pending = p; awaited = a }) step))
    (sym (ap (λ (l : List Token). l ++ t ∷ []) w.tokens ∙ append_assoc w.front w.words (t ∷ [])))
    (stepped_was a p ns w.front (w.words ++ t ∷ []) step w.earlier (means w.words w.begun))

id_was : (p : List Pending) (ns : List Node) (ts : List Token) (t : Token) → Within awaits.VlanId p ns ts
    → Goes (id_taken (record { nodes = ns; pending = p; awaited = awaits.VlanId }) t) (ts ++ t ∷ [])
id_was p ns ts (tokens.Number n) w = within_was awaits.VlanId p ns ts (tokens.Number n)
    (next_step (awaits.Number numbers.VlanId) (tokens.Number n)) w
    (λ words b. next_means (awaits.Number numbers.VlanId) (tokens.Number n) words b)
id_was p ns ts (tokens.Join operator) w =
    operator_was (closed (ns ++ nodes.Test primitives.Vlan ∷ []) p) ts (tokens.Join operator) (vlan_follows p ns ts w)
id_was p ns ts tokens.Close w =
    operator_was (closed (ns ++ nodes.Test primitives.Vlan ∷ []) p) ts tokens.Close (vlan_follows p ns ts w)
id_was p ns ts t w = tt

relation_was : (f : Subject) (p : List Pending) (ns : List Node) (ts : List Token) (t : Token)
    → Within (awaits.Relation f) p ns ts
    → Goes (relation_taken f (record { nodes = ns; pending = p; awaited = awaits.Relation f }) t) (ts ++ t ∷ [])
relation_was f p ns ts (tokens.Relation r) w = within_was (awaits.Relation f) p ns ts (tokens.Relation r)
    (next_step (awaits.Relation f) (tokens.Relation r)) w
    (λ words b. next_means (awaits.Relation f) (tokens.Relation r) words b)
relation_was f p ns ts tokens.Mask w = within_was (awaits.Relation f) p ns ts tokens.Mask
    (next_step (awaits.Relation f) tokens.Mask) w
    (λ words b. next_means (awaits.Relation f) tokens.Mask words b)
relation_was f p ns ts tokens.In w = within_was (awaits.Relation f) p ns ts tokens.In
    (next_step (awaits.Relation f) tokens.In) w
    (λ words b. next_means (awaits.Relation f) tokens.In words b)
relation_was f p ns ts (tokens.Join operator) w =
    operator_was (closed (ns ++ nodes.Test (tested (existence_of f)) ∷ []) p) ts (tokens.Join operator)
    (field_follows f p ns ts w)
relation_was f p ns ts tokens.Close w =
    operator_was (closed (ns ++ nodes.Test (tested (existence_of f)) ∷ []) p) ts tokens.Close
    (field_follows f p ns ts w)
relation_was f p ns ts t w = tt

-- a value of a set
first_was : (f : Subject) (mask : ℕ) (p : List Pending) (ns : List Node) (ts : List Token) (t : Token)
    (o : Option Primitive) → member f mask t ≡ o → Within (awaits.FirstMember f mask) p ns ts
    → Goes (member_taken f mask (record { nodes = ns; pending = p; awaited = awaits.FirstMember f mask }) o)
    (ts ++ t ∷ [])
first_was f mask p ns ts t None is w = tt
first_was f mask p ns ts t (Some q) is w =
    let c = w.begun in
    record {
      old = ns;
      front = w.front;
      words = c.words ++ tokens.In ∷ tokens.OpenSet ∷ t ∷ [];
      x = Test q;
      set = grammar.one c.words t q c.bits is;
      earlier = w.earlier;
      nodes = refl;
      tokens =
          ap (λ (l : List Token). l ++ t ∷ []) (w.tokens ∙ ap (λ (l : List Token). w.front ++ l) c.is)
          ∙ append_assoc w.front (c.words ++ tokens.In ∷ tokens.OpenSet ∷ []) (t ∷ [])
          ∙ ap (λ (l : List Token). w.front ++ l) (append_assoc c.words (tokens.In ∷ tokens.OpenSet ∷ []) (t ∷ []));
    }

member_was : (f : Subject) (mask : ℕ) (p : List Pending) (ns : List Node) (ts : List Token) (t : Token)
    (o : Option Primitive) → member f mask t ≡ o → AtMember f mask p ns ts
    → Goes (joined_member
    (member_taken f mask (record { nodes = ns; pending = p; awaited = awaits.Member f mask }) o)) (ts ++ t ∷ [])
member_was f mask p ns ts t None is w = tt
member_was f mask p ns ts t (Some q) is w =
    let i = w.values in
    record {
      old = i.old;
      front = i.front;
      words = i.words ++ tokens.Comma ∷ t ∷ [];
      x = Join Or i.x (Test q);
      set = grammar.more i.words i.x t q i.set is;
      earlier = i.earlier;
      nodes =
          ap (λ (l : List Node). (l ++ nodes.Test q ∷ []) ++ nodes.Join Or ∷ []) i.nodes
          ∙ ap (λ (l : List Node). l ++ nodes.Join Or ∷ []) (append_assoc i.old (postfix i.x) (nodes.Test q ∷ []))
          ∙ append_assoc i.old (postfix i.x ++ nodes.Test q ∷ []) (nodes.Join Or ∷ []);
      tokens =
          ap (λ (l : List Token). l ++ t ∷ []) w.tokens ∙ append_assoc w.before (tokens.Comma ∷ []) (t ∷ [])
          ∙ ap (λ (l : List Token). l ++ tokens.Comma ∷ t ∷ []) i.tokens
          ∙ append_assoc i.front i.words (tokens.Comma ∷ t ∷ []);
    }

set_was : (f : Subject) (mask : ℕ) (p : List Pending) (ns : List Node) (ts : List Token) (t : Token)
    → InSet f mask p ns ts
    → Goes (set_taken f mask (record { nodes = ns; pending = p; awaited = awaits.SetEnd f mask }) t) (ts ++ t ∷ [])
set_was f mask p ns ts tokens.CloseSet i =
    subst (λ (l : List Node). Was (closed l p) (ts ++ tokens.CloseSet ∷ [])) (sym i.nodes)
    (subst (λ (l : List Token). Was (closed (i.old ++ postfix i.x) p) l)
    (sym (ap (λ (l : List Token). l ++ tokens.CloseSet ∷ []) i.tokens
    ∙ append_assoc i.front i.words (tokens.CloseSet ∷ [])))
    (closed_was p i.old i.front (i.words ++ tokens.CloseSet ∷ []) i.x i.earlier
    (grammar.set f mask i.words i.x i.set)))
set_was f mask p ns ts tokens.Comma i = record { before = ts; values = i; tokens = refl }
set_was f mask p ns ts t i = tt

pub taken_was : (a : Awaited) (p : List Pending) (ns : List Node) (ts : List Token) (t : Token) → WasRead a p ns ts
    → Goes (taken_where a (record { nodes = ns; pending = p; awaited = a }) t) (ts ++ t ∷ [])
taken_was awaits.Operand p ns ts t was = operand_was p ns ts t was
taken_was awaits.Operator p ns ts t was = operator_was (record { nodes = ns; pending = p; awaited = awaits.Operator })
    ts t was
taken_was awaits.VlanId p ns ts t was = id_was p ns ts t was
taken_was (awaits.Relation f) p ns ts t was = relation_was f p ns ts t was
taken_was (awaits.FirstMember f mask) p ns ts t was = first_was f mask p ns ts t (member f mask t) refl was
taken_was (awaits.Member f mask) p ns ts t was = member_was f mask p ns ts t (member f mask t) refl was
taken_was (awaits.SetEnd f mask) p ns ts t was = set_was f mask p ns ts t was
taken_was a p ns ts t was = within_was a p ns ts t (next_step a t) was (λ words b. next_means a t words b)

-- ---- all words

-- the nodes of an expression that all of these words mean
pub record AreOf (ts : List Token) (ns : List Node) : Type 0 where
  pub x : Expression
  pub is : IsExpression ts x
  pub nodes : ns ≡ postfix x

abbrev pub Found : Result (List Node) FilterErrorKind → List Token → Type 0
Found (Ok ns) ts = AreOf ts ns
Found (Err kind) ts = Unit {0}

none_earlier : (old : List Node) (front words : List Token) (x : Expression) (shape : Shape) (ns : List Node)
    → Means shape words x → Awaits [] old front → ns ≡ old ++ postfix x → AreOf (front ++ words) ns
none_earlier old front words x shape ns m e is = rw (e.1, is, e.0)
    (record { x = x; is = record { shape = shape; means = m }; nodes = refl })

whole_was : (shape : Shape) (p : List Pending) (old : List Node) (front words : List Token) (x : Expression)
    (a : Awaited) → IsBase p → Means shape words x → Awaits p old front
    → Found (whole (record { nodes = old ++ trunk shape x; pending = marked shape p; awaited = a })) (front ++ words)
whole_was Operand [] old front words x a base m e = none_earlier old front words x Operand (old ++ postfix x) m e refl
whole_was Operand (pendings.Open ∷ p) old front words x a base m e = tt
whole_was Operand (q ∷ p) old front words x a base m e = absurd base
whole_was (Chain operator) [] old front words x a base m e = none_earlier old front words x (Chain operator)
    ((old ++ body x) ++ nodes.Join operator ∷ []) m e (chained operator old words x m)
whole_was (Chain operator) (pendings.Open ∷ p) old front words x a base m e = tt
whole_was (Chain operator) (q ∷ p) old front words x a base m e = absurd base

follows_whole : (s : ExpressionState) (ts : List Token) → Follows s.pending s.nodes ts → Found (whole s) ts
follows_whole s ts f = rw (f.is, f.nodes, f.tokens)
    (whole_was f.shape f.pending f.old f.front f.words f.x s.awaited f.base f.means f.earlier)

ended_was : (a : Awaited) (p : List Pending) (ns : List Node) (ts : List Token) → WasRead a p ns ts
    → Found (ended_where a (record { nodes = ns; pending = p; awaited = a })) ts
ended_was awaits.Operator p ns ts was = follows_whole (record { nodes = ns; pending = p; awaited = awaits.Operator })
    ts was
ended_was awaits.VlanId p ns ts was = follows_whole (closed (ns ++ nodes.Test primitives.Vlan ∷ []) p) ts
    (vlan_follows p ns ts was)
ended_was (awaits.Relation f) p ns ts was =
    follows_whole (closed (ns ++ nodes.Test (tested (existence_of f)) ∷ []) p) ts
    (field_follows f p ns ts was)
ended_was a p ns ts was = tt

going_was : (o : Outcome) (ts us : List Token) → Goes o ts
    → ((s : ExpressionState) → Was s ts → Found (all_from s us) (ts ++ us))
    → Found (going o (λ s. all_from s us)) (ts ++ us)
going_was (Ok s) ts us was rest = rest s was
going_was (Err kind) ts us was rest = tt

pub all_was : (s : ExpressionState) (ts us : List Token) → Was s ts → Found (all_from s us) (ts ++ us)
all_was s ts [] was = rw (append-nil ts) (ended_was s.awaited s.pending s.nodes ts was)
all_was s ts (t ∷ us) was =
    subst (Found (going (taken s t) (λ u. all_from u us))) (append_assoc ts (t ∷ []) us)
    (going_was (taken s t) (ts ++ t ∷ []) us (taken_was s.awaited s.pending s.nodes ts t was)
    (λ u now. all_was u (ts ++ t ∷ []) us now))

pub begun_was_read : Was begun []
begun_was_read = (refl, refl)
