-- A word fits exactly if it is taken.
use Rattle.std.proofs.Common.{◌≡◌, ℕ, List, [], ◌∷◌, ◌++◌, refl, sym, ap, subst, ◌∙◌, arith}
use Rattle.std.specs.Prelude.{Result, Ok, Err, Option, Some, codes}
use Rattle.etherparse.specs.Bytes.{number}
use Rattle.std.proofs.lemmas.List.{append_assoc, append-nil}
use Rattle.ether_filter.specs.declared.node.Operator.{Operator}
use Rattle.ether_filter.specs.declared.node.Node.{Node}
use Rattle.ether_filter.specs.declared.primitive.Primitive.{Primitive}
use Rattle.ether_filter.specs.declared.primitive.Primitive.TheVariants as primitives
use Rattle.ether_filter.specs.declared.token.Token.{Token}
use Rattle.ether_filter.specs.declared.token.Token.TheVariants as tokens
use Rattle.ether_filter.specs.declared.filter_error.FilterErrorKind.{FilterErrorKind}
use Rattle.ether_filter.specs.declared.awaited.Numbered.TheVariants as numbers
use Rattle.ether_filter.specs.declared.awaited.Addressed.TheVariants as addresses
use Rattle.ether_filter.specs.declared.awaited.Awaited.{Awaited}
use Rattle.ether_filter.specs.declared.awaited.Awaited.TheVariants as awaits
use Rattle.ether_filter.specs.declared.reading.Pending.{Pending}
use Rattle.ether_filter.specs.declared.reading.Pending.TheVariants as pendings
use Rattle.std.proofs.lemmas.Bool.{le-leb}
use Rattle.ether_filter.specs.declared.field_test.Relation.TheVariants.{Equal}
use Rattle.ether_filter.specs.declared.subject.Literal.{Literal}
use Rattle.ether_filter.specs.declared.subject.Subject.{Subject}
use Rattle.ether_filter.specs.declared.subject.Takes.{Takes}
use Rattle.ether_filter.specs.declared.subject.Takes.TheVariants as takes
use Rattle.ether_filter.specs.Subjects.{existence_of, test_with, greatest_in_bytes, tested}
use Rattle.ether_filter.specs.Steps.{value_for, member_test, member}
use Rattle.ether_filter.specs.declared.node.Operator.TheVariants.{Or}
use Rattle.ether_filter.specs.declared.node.Node.TheVariants as nodes
use Rattle.ether_filter.specs.Expressions.{Expression, Test, Not, Join}
use Rattle.ether_filter.specs.Postfix.{postfix}
use Rattle.ether_filter.specs.Grammar.{NamesBits, NamesPrimitive, Shape, Operand, Chain, Leads, Means, IsExpression}
use Rattle.ether_filter.specs.Grammar as grammar
use Rattle.ether_filter.specs.ExpressionReading.{ExpressionState, Outcome, begun, member_taken, joined_member, taken}
use Rattle.ether_filter.specs.Refusals.{Begins, Fits}
use Rattle.ether_filter.proofs.ReadingLemmas.{IsBase, going, all_from, expression_read}
use Rattle.ether_filter.proofs.Sound.{Awaits, Begun, Named, InSet, AtMember, Within, WasRead, Was, Goes, begun_was_read, taken_was}

-- ---- the state after words

abbrev pub run : ExpressionState → List Token → Outcome
run s [] = Ok s
run s (t ∷ ts) = going (taken s t) (λ u. run u ts)

-- the tokens lead to the state
abbrev pub Reaches : List Token → ExpressionState → Type 0
Reaches ts s = run begun ts ≡ Ok s

going_all : (o : Outcome) (ts us : List Token)
    → ((s : ExpressionState) → all_from s (ts ++ us) ≡ going (run s ts) (λ u. all_from u us))
    → going o (λ s. all_from s (ts ++ us)) ≡ going (going o (λ s. run s ts)) (λ u. all_from u us)
going_all (Ok s) ts us each = each s
going_all (Err kind) ts us each = refl

pub all_run : (s : ExpressionState) (ts us : List Token) → all_from s (ts ++ us) ≡ going (run s ts) (λ u. all_from u us)
all_run s [] us = refl
all_run s (t ∷ ts) us = going_all (taken s t) ts us (λ u. all_run u ts us)

going_run : (o : Outcome) (ts us : List Token)
    → ((s : ExpressionState) → run s (ts ++ us) ≡ going (run s ts) (λ u. run u us))
    → going o (λ s. run s (ts ++ us)) ≡ going (going o (λ s. run s ts)) (λ u. run u us)
going_run (Ok s) ts us each = each s
going_run (Err kind) ts us each = refl

pub run-append : (s : ExpressionState) (ts us : List Token) → run s (ts ++ us) ≡ going (run s ts) (λ u. run u us)
run-append s [] us = refl
run-append s (t ∷ ts) us = going_run (taken s t) ts us (λ u. run-append u ts us)

one_run : (o : Outcome) → going o (λ u. run u []) ≡ o
one_run (Ok s) = refl
one_run (Err kind) = refl

-- after one word more it is what the word is taken as
pub run_more : (ts : List Token) (s : ExpressionState) (t : Token) → Reaches ts s → run begun (ts ++ t ∷ []) ≡ taken s t
run_more ts s t reaches = run-append begun ts (t ∷ []) ∙ ap (λ (o : Outcome). going o (λ u. run u (t ∷ []))) reaches
    ∙ one_run (taken s t)

-- ---- a state that is reached, and the tokens that were read

going_goes : (o : Outcome) (ts us : List Token) → Goes o ts
    → ((s : ExpressionState) → Was s ts → Goes (run s us) (ts ++ us))
    → Goes (going o (λ s. run s us)) (ts ++ us)
going_goes (Ok s) ts us goes each = each s goes
going_goes (Err kind) ts us goes each = tt

run_was : (s : ExpressionState) (ts us : List Token) → Was s ts → Goes (run s us) (ts ++ us)
run_was s ts [] was = rw (append-nil ts) was
run_was s ts (t ∷ us) was =
    subst (Goes (going (taken s t) (λ u. run u us))) (append_assoc ts (t ∷ []) us)
    (going_goes (taken s t) (ts ++ t ∷ []) us (taken_was s.awaited s.pending s.nodes ts t was)
    (λ u now. run_was u (ts ++ t ∷ []) us now))

pub reached_was : (ts : List Token) (s : ExpressionState) → Reaches ts s → Was s ts
reached_was ts s reaches = subst (λ (o : Outcome). Goes o ts) reaches (run_was begun [] ts begun_was_read)

-- ---- what was read can be gone on with

shorter : (ts us : List Token) → Begins (ts ++ us) → Begins ts
shorter ts us b = record {
  rest = us ++ b.rest;
  x = b.x;
  is = subst (λ (l : List Token). IsExpression l b.x) (append_assoc ts us b.rest)
      b.is;
}

same_begins : {ts us : List Token} → ts ≡ us → Begins ts → Begins us
same_begins is b = subst Begins is b

all_of : (shape : Shape) (ns : List Node) (front words : List Token) (x : Expression) → Awaits [] ns front
    → Means shape words x → Begins (front ++ words)
all_of shape ns front words x e m = rw (e.1)
    (record { rest = []; x = x; is = rw (append-nil words) (record { shape = shape; means = m }) })

group_back : (front f words : List Token) → front ≡ f ++ tokens.Open ∷ []
    → Begins (f ++ tokens.Open ∷ (words ++ tokens.Close ∷ [])) → Begins (front ++ words)
group_back front f words is b =
    shorter (front ++ words) (tokens.Close ∷ [])
    (same_begins
    (sym (append_assoc front words (tokens.Close ∷ [])
    ∙ ap (λ (l : List Token). l ++ (words ++ tokens.Close ∷ [])) is
    ∙ append_assoc f (tokens.Open ∷ []) (words ++ tokens.Close ∷ []))) b)

-- operands that an operator joins, in words
chain_back : (operator : Operator) (front f us words : List Token) → front ≡ (f ++ us) ++ tokens.Join operator ∷ []
    → Begins (f ++ (us ++ tokens.Join operator ∷ words)) → Begins (front ++ words)
chain_back operator front f us words is b =
    same_begins
    (sym (ap (λ (l : List Token). l ++ words) is ∙ append_assoc (f ++ us) (tokens.Join operator ∷ []) words
    ∙ append_assoc f us (tokens.Join operator ∷ words))) b

operand_goes_on : (p : List Pending) (ns : List Node) (front words : List Token) (x : Expression) → Awaits p ns front
    → Means Operand words x → Begins (front ++ words)
operand_goes_on [] ns front words x e m = all_of Operand ns front words x e m
operand_goes_on (pendings.Open ∷ p) ns front words x e m =
    group_back front e.front words e.tokens
    (operand_goes_on p ns e.front (tokens.Open ∷ (words ++ tokens.Close ∷ [])) x e.earlier
    (grammar.group Operand words x m))
operand_goes_on (pendings.Not ∷ p) ns front words x e m =
    same_begins (sym (ap (λ (l : List Token). l ++ words) e.tokens ∙ append_assoc e.front (tokens.Not ∷ []) words))
    (operand_goes_on p ns e.front (tokens.Not ∷ words) (Not x) e.earlier (grammar.negation words x m))
operand_goes_on (pendings.Join operator ∷ []) ns front words x e m =
    chain_back operator front e.front e.words words e.tokens
    (all_of (Chain operator) e.old e.front (e.words ++ tokens.Join operator ∷ words) (Join operator e.x x) e.earlier
    (grammar.join operator e.shape e.words words e.x x e.leads e.means m))
operand_goes_on (pendings.Join operator ∷ pendings.Open ∷ p) ns front words x e m =
    let us = e.words ++ tokens.Join operator ∷ words in
    let joined = grammar.join operator e.shape e.words words e.x x e.leads e.means m in
    let f = e.earlier in
    chain_back operator front e.front e.words words e.tokens
    (group_back e.front f.front us f.tokens
    (operand_goes_on p e.old f.front (tokens.Open ∷ (us ++ tokens.Close ∷ [])) (Join operator e.x x) f.earlier
    (grammar.group (Chain operator) us (Join operator e.x x) joined)))
operand_goes_on (pendings.Join operator ∷ q ∷ p) ns front words x e m = absurd e.base

-- an expression of a shape, after what is open before it
goes_on : (shape : Shape) (p : List Pending) (ns : List Node) (front words : List Token) (x : Expression) → IsBase p
    → Awaits p ns front → Means shape words x → Begins (front ++ words)
goes_on shape [] ns front words x base e m = all_of shape ns front words x e m
goes_on shape (pendings.Open ∷ p) ns front words x base e m =
    group_back front e.front words e.tokens
    (operand_goes_on p ns e.front (tokens.Open ∷ (words ++ tokens.Close ∷ [])) x e.earlier
    (grammar.group shape words x m))
goes_on shape (q ∷ p) ns front words x base e m = absurd base

-- a primitive that is begun, with words that make it whole
record Whole (words : List Token) : Type 0 where
  more : List Token
  primitive : Primitive
  names : NamesPrimitive (words ++ more) primitive

-- a word that is a value of a field
abbrev some_value : Takes → Token
some_value (takes.Number most) = tokens.Number (Some 0)
some_value (takes.Bytes len) = tokens.Number (Some 0)
some_value takes.AnyBytes = tokens.Address 0
some_value takes.Time = tokens.Time 0
some_value takes.Header = tokens.Eth

takes_some : (of : Takes) → (v : Literal) × (value_for of (some_value of) ≡ Some v)
takes_some (takes.Number most) = (record { len = 0; number = 0 }, rw (le-leb 0 most (omega arith)) refl)
takes_some (takes.Bytes len) =
    (record { len = len; number = 0 }, rw (le-leb 0 (greatest_in_bytes len) (omega arith)) refl)
takes_some takes.AnyBytes = (record { len = 6; number = 0 }, refl)
takes_some takes.Time = (record { len = 0; number = 0 }, refl)
takes_some takes.Header = (record { len = 3; number = number (codes "eth") }, refl)

-- what is begun is a primitive, and not a set
abbrev IsOfPrimitive : Awaited → Type 0
IsOfPrimitive (awaits.Set f mask) = ⊥
IsOfPrimitive (awaits.FirstMember f mask) = ⊥
IsOfPrimitive _ = Unit {0}

made_whole : (a : Awaited) (words : List Token) → Begun a words → IsOfPrimitive a → Whole words
made_whole awaits.VlanId words is un = record { more = []; primitive = primitives.Vlan; names = rw is grammar.vlan }
made_whole (awaits.Vlan numbers.OuterVlan) words is un = record {
  more = tokens.Vlan ∷ tokens.Number (Some 0) ∷ [];
  primitive = primitives.OuterVlan 0;
  names = rw is
      (grammar.outer_vlan 0 (omega arith));
}
made_whole (awaits.Vlan numbers.InnerVlan) words is un = record {
  more = tokens.Vlan ∷ tokens.Number (Some 0) ∷ [];
  primitive = primitives.InnerVlan 0;
  names = rw is
      (grammar.inner_vlan 0 (omega arith));
}
made_whole (awaits.Vlan of) words is un = absurd is
made_whole (awaits.Number numbers.VlanId) words is un = record {
  more = tokens.Number (Some 0) ∷ [];
  primitive = primitives.VlanId 0;
  names = rw is
      (grammar.vlan_id 0 (omega arith));
}
made_whole (awaits.Number numbers.OuterVlan) words is un = record {
  more = tokens.Number (Some 0) ∷ [];
  primitive = primitives.OuterVlan 0;
  names = rw is
      (grammar.outer_vlan 0 (omega arith));
}
made_whole (awaits.Number numbers.InnerVlan) words is un = record {
  more = tokens.Number (Some 0) ∷ [];
  primitive = primitives.InnerVlan 0;
  names = rw is
      (grammar.inner_vlan 0 (omega arith));
}
made_whole (awaits.Number numbers.EtherType) words is un = record {
  more = tokens.Number (Some 0) ∷ [];
  primitive = primitives.EtherType 0;
  names = rw is
      (grammar.proto 0 (omega arith));
}
made_whole (awaits.Number numbers.Less) words is un = record
    { more = tokens.Number (Some 0) ∷ []; primitive = primitives.Less 0; names = rw is (grammar.less 0 (omega arith)) }
made_whole (awaits.Number numbers.Greater) words is un = record {
  more = tokens.Number (Some 0) ∷ [];
  primitive = primitives.Greater 0;
  names = rw is
      (grammar.greater 0 (omega arith));
}
made_whole awaits.EtherWord words is un = record
    { more = tokens.Broadcast ∷ []; primitive = primitives.Broadcast; names = rw is grammar.broadcast }
made_whole (awaits.Address addresses.Source) words is un = record
    { more = tokens.Address 0 ∷ []; primitive = primitives.Source 0; names = rw is (grammar.src 0) }
made_whole (awaits.Address addresses.Destination) words is un = record
    { more = tokens.Address 0 ∷ []; primitive = primitives.Destination 0; names = rw is (grammar.dst 0) }
made_whole (awaits.Address addresses.Host) words is un = record
    { more = tokens.Address 0 ∷ []; primitive = primitives.Host 0; names = rw is (grammar.host 0) }
made_whole (awaits.Relation f) words is un =
    record { more = []; primitive = tested (existence_of f); names = rw is (grammar.field f) }
made_whole (awaits.Mask f) words is un =
    let t = some_value f.takes in
    let v = takes_some f.takes in
    record {
      more = t ∷ tokens.Relation Equal ∷ t ∷ [];
      primitive = tested (test_with f v.0.number Equal v.0);
      names =
          rw is (grammar.related f (tokens.Field f ∷ tokens.Mask ∷ t ∷ []) v.0.number Equal t v.0
          (grammar.masked t v.0 v.1) v.1);
    }
made_whole (awaits.MaskedRelation f mask) words bits un =
    let t = some_value f.takes in
    let v = takes_some f.takes in
    record {
      more = tokens.Relation Equal ∷ t ∷ [];
      primitive = tested (test_with f mask Equal v.0);
      names = grammar.related f words mask Equal t v.0 bits v.1;
    }
made_whole (awaits.Value f mask r) words c un =
    let t = some_value f.takes in
    let v = takes_some f.takes in
    record {
      more = t ∷ [];
      primitive = tested (test_with f mask r v.0);
      names =
          subst (λ (l : List Token). NamesPrimitive l (tested (test_with f mask r v.0)))
          (sym (ap (λ (l : List Token). l ++ t ∷ []) c.is ∙ append_assoc c.words (tokens.Relation r ∷ []) (t ∷ [])))
          (grammar.related f c.words mask r t v.0 c.bits v.1);
    }
made_whole (awaits.Set f mask) words is un = absurd un
made_whole (awaits.FirstMember f mask) words is un = absurd un
made_whole (awaits.Member f mask) words is un = absurd is
made_whole (awaits.SetEnd f mask) words is un = absurd is
made_whole awaits.Operand words is un = absurd is
made_whole awaits.Operator words is un = absurd is

-- a set that is begun, with a value and its end
set_begins : (f : Subject) (mask : ℕ) (p : List Pending) (ns : List Node) (front words tail rest : List Token)
    → NamesBits f words mask → tail ++ rest ≡ tokens.In ∷ tokens.OpenSet ∷ some_value f.takes ∷ tokens.CloseSet ∷ []
    → Awaits p ns front → Begins (front ++ (words ++ tail))
set_begins f mask p ns front words tail rest bits is e =
    let t = some_value f.takes in
    let v = takes_some f.takes in
    let q = tested (test_with f mask Equal v.0) in
    let found : member f mask t ≡ Some q = ap (member_test f mask) v.1 in
    let us = words ++ tokens.In ∷ tokens.OpenSet ∷ t ∷ [] in
    let all : us ++ tokens.CloseSet ∷ [] ≡ (words ++ tail) ++ rest =
    append_assoc words (tokens.In ∷ tokens.OpenSet ∷ t ∷ []) (tokens.CloseSet ∷ [])
    ∙ ap (λ (l : List Token). words ++ l) (sym is) ∙ sym (append_assoc words tail rest) in
    let b = operand_goes_on p ns front (us ++ tokens.CloseSet ∷ []) (Test q) e
    (grammar.set f mask us (Test q) (grammar.one words t q bits found)) in
    shorter (front ++ (words ++ tail)) rest
    (same_begins (ap (λ (l : List Token). front ++ l) all ∙ sym (append_assoc front (words ++ tail) rest)) b)

named_begins : (f : Subject) (mask : ℕ) (p : List Pending) (ns : List Node) (front words tail rest : List Token)
    → Named f mask tail words
    → tail ++ rest ≡ tokens.In ∷ tokens.OpenSet ∷ some_value f.takes ∷ tokens.CloseSet ∷ []
    → Awaits p ns front → Begins (front ++ words)
named_begins f mask p ns front words tail rest c is e =
    same_begins (ap (λ (l : List Token). front ++ l) (sym c.is))
    (set_begins f mask p ns front c.words tail rest c.bits is e)

-- a set after one of its values
in_set_begins : (f : Subject) (mask : ℕ) (p : List Pending) (ns : List Node) (ts : List Token) → InSet f mask p ns ts
    → Begins ts
in_set_begins f mask p ns ts i =
    same_begins (sym i.tokens)
    (shorter (i.front ++ i.words) (tokens.CloseSet ∷ [])
    (same_begins (sym (append_assoc i.front i.words (tokens.CloseSet ∷ [])))
    (operand_goes_on p i.old i.front (i.words ++ tokens.CloseSet ∷ []) i.x i.earlier
    (grammar.set f mask i.words i.x i.set))))

member_begins : (f : Subject) (mask : ℕ) (p : List Pending) (ns : List Node) (ts : List Token)
    → AtMember f mask p ns ts → Begins ts
member_begins f mask p ns ts w =
    let t = some_value f.takes in
    let v = takes_some f.takes in
    let q = tested (test_with f mask Equal v.0) in
    let found : member f mask t ≡ Some q = ap (member_test f mask) v.1 in
    let i = w.values in
    let more : InSet f mask p ((ns ++ nodes.Test q ∷ []) ++ nodes.Join Or ∷ []) (ts ++ t ∷ []) =
    subst (λ (o : Outcome). Goes o (ts ++ t ∷ [])) (ap (λ (r : Option Primitive). joined_member
    (member_taken f mask (record { nodes = ns; pending = p; awaited = awaits.Member f mask }) r)) found)
    (taken_was (awaits.Member f mask) p ns ts t w) in
    shorter ts (t ∷ []) (in_set_begins f mask p ((ns ++ nodes.Test q ∷ []) ++ nodes.Join Or ∷ []) (ts ++ t ∷ []) more)

within_begins : (a : Awaited) (p : List Pending) (ns : List Node) (ts : List Token) → Within a p ns ts → Begins ts
within_begins (awaits.Set f mask) p ns ts w =
    let t = some_value f.takes in
    same_begins (sym w.tokens)
    (named_begins f mask p ns w.front w.words (tokens.In ∷ []) (tokens.OpenSet ∷ t ∷ tokens.CloseSet ∷ []) w.begun refl
    w.earlier)
within_begins (awaits.FirstMember f mask) p ns ts w =
    let t = some_value f.takes in
    same_begins (sym w.tokens)
    (named_begins f mask p ns w.front w.words (tokens.In ∷ tokens.OpenSet ∷ []) (t ∷ tokens.CloseSet ∷ []) w.begun refl
    w.earlier)
within_begins a p ns ts w =
    let whole = made_whole a w.words w.begun tt in
    let b = operand_goes_on p ns w.front (w.words ++ whole.more) (Test whole.primitive) w.earlier
    (grammar.primitive (w.words ++ whole.more) whole.primitive whole.names) in
    same_begins (sym w.tokens)
    (shorter (w.front ++ w.words) whole.more (same_begins (sym (append_assoc w.front w.words whole.more)) b))

read_begins : (a : Awaited) (p : List Pending) (ns : List Node) (ts : List Token) → WasRead a p ns ts → Begins ts
read_begins awaits.Operand p ns ts was = shorter ts (tokens.Macsec ∷ [])
    (operand_goes_on p ns ts (tokens.Macsec ∷ []) (Test primitives.Macsec) was
    (grammar.primitive (tokens.Macsec ∷ []) primitives.Macsec grammar.macsec))
read_begins awaits.Operator p ns ts f = same_begins (sym f.tokens)
    (goes_on f.shape f.pending f.old f.front f.words f.x f.base f.earlier f.means)
read_begins (awaits.SetEnd f mask) p ns ts was = in_set_begins f mask p ns ts was
read_begins (awaits.Member f mask) p ns ts was = member_begins f mask p ns ts was
read_begins a p ns ts was = within_begins a p ns ts was

pub reached_begins : (ts : List Token) (s : ExpressionState) → Reaches ts s → Begins ts
reached_begins ts s reaches = read_begins s.awaited s.pending s.nodes ts (reached_was ts s reaches)

-- ---- both ways

pub going_ok : {A : Type 0} (o : Outcome) (rest : ExpressionState → Result A FilterErrorKind) (a : A) → going o rest
    ≡ Ok a
    → (s : ExpressionState) × (o ≡ Ok s)
going_ok (Ok s) rest a is = (s, refl)
going_ok (Err kind) rest a is = absurd cc

pub begins_reached : (ts : List Token) → Begins ts → (s : ExpressionState) × Reaches ts s
begins_reached ts b = going_ok (run begun ts) (λ u. all_from u b.rest) (postfix b.x)
    (sym (all_run begun ts b.rest) ∙ expression_read (ts ++ b.rest) b.x b.is)

pub fits_taken : (ts : List Token) (s : ExpressionState) (t : Token) → Reaches ts s → Fits ts t → (u : ExpressionState)
    × (taken s t ≡ Ok u)
fits_taken ts s t reaches fits = let next = begins_reached (ts ++ t ∷ []) fits
    in (next.0, sym (run_more ts s t reaches) ∙ next.1)

pub taken_fits : (ts : List Token) (s u : ExpressionState) (t : Token) → Reaches ts s → taken s t ≡ Ok u → Fits ts t
taken_fits ts s u t reaches is = reached_begins (ts ++ t ∷ []) u (run_more ts s t reaches ∙ is)
