-- The words of a primitive that is begun, and what each further word makes of them.
use Rattle.std.proofs.Common.{◌≡◌, ℕ, ◌≤◌, List, [], ◌∷◌, ◌++◌, refl, sym, ap, subst, ◌∙◌, inl, inr, false, true, nat_lt, arith}
use Rattle.std.specs.Prelude.{Option, Some, None, Bool, ◌⊎◌}
use Rattle.std.proofs.lemmas.Bool.{ltb-false}
use Rattle.std.proofs.lemmas.List.{append_assoc}
use Rattle.ether_filter.specs.declared.token.Token.{Token}
use Rattle.ether_filter.specs.declared.token.Token.TheVariants as tokens
use Rattle.ether_filter.specs.declared.awaited.Numbered.{Numbered}
use Rattle.ether_filter.specs.declared.awaited.Numbered.TheVariants as numbers
use Rattle.ether_filter.specs.declared.awaited.Addressed.TheVariants as addresses
use Rattle.ether_filter.specs.declared.awaited.Awaited.{Awaited}
use Rattle.ether_filter.specs.declared.awaited.Awaited.TheVariants as awaits
use Rattle.ether_filter.specs.declared.awaited.Step.{Step}
use Rattle.ether_filter.specs.declared.awaited.Step.TheVariants.{Done, More, Fails}
use Rattle.ether_filter.specs.declared.field_test.Relation.{Relation}
use Rattle.ether_filter.specs.declared.subject.Literal.{Literal}
use Rattle.ether_filter.specs.declared.subject.Subject.{Subject}
use Rattle.ether_filter.specs.Subjects.{test_with, tested}
use Rattle.ether_filter.specs.Grammar.{NamesBits, NamesSet, NamesPrimitive, Shape, Operand, Chain, Leads, operand, chain, Means, IsExpression}
use Rattle.ether_filter.specs.Grammar as grammar
use Rattle.ether_filter.specs.Steps.{first_step, next_step, numbered, most_of, number_primitive, value_for, masked, related}

-- the words of a field, and some after them
pub record Named (f : Subject) (mask : ℕ) (tail ts : List Token) : Type 0 where
  pub words : List Token
  pub bits : NamesBits f words mask
  pub is : ts ≡ words ++ tail

-- the words of a field that is compared, before its value
pub record Compared (f : Subject) (mask : ℕ) (relation : Relation) (ts : List Token) : Type 0 where
  pub words : List Token
  pub bits : NamesBits f words mask
  pub is : ts ≡ words ++ tokens.Relation relation ∷ []

-- the words of a primitive that is begun
abbrev pub Begun : Awaited → List Token → Type 0
Begun awaits.VlanId ts = ts ≡ tokens.Vlan ∷ []
Begun (awaits.Vlan numbers.OuterVlan) ts = ts ≡ tokens.Outer ∷ []
Begun (awaits.Vlan numbers.InnerVlan) ts = ts ≡ tokens.Inner ∷ []
Begun (awaits.Number numbers.VlanId) ts = ts ≡ tokens.Vlan ∷ []
Begun (awaits.Number numbers.OuterVlan) ts = ts ≡ tokens.Outer ∷ tokens.Vlan ∷ []
Begun (awaits.Number numbers.InnerVlan) ts = ts ≡ tokens.Inner ∷ tokens.Vlan ∷ []
Begun (awaits.Number numbers.EtherType) ts = ts ≡ tokens.Ether ∷ tokens.Proto ∷ []
Begun (awaits.Number numbers.Less) ts = ts ≡ tokens.Less ∷ []
Begun (awaits.Number numbers.Greater) ts = ts ≡ tokens.Greater ∷ []
Begun awaits.EtherWord ts = ts ≡ tokens.Ether ∷ []
Begun (awaits.Address addresses.Source) ts = ts ≡ tokens.Ether ∷ tokens.Src ∷ []
Begun (awaits.Address addresses.Destination) ts = ts ≡ tokens.Ether ∷ tokens.Dst ∷ []
Begun (awaits.Address addresses.Host) ts = ts ≡ tokens.Ether ∷ tokens.Host ∷ []
Begun (awaits.Relation f) ts = ts ≡ tokens.Field f ∷ []
Begun (awaits.Mask f) ts = ts ≡ tokens.Field f ∷ tokens.Mask ∷ []
Begun (awaits.MaskedRelation f mask) ts = NamesBits f ts mask
Begun (awaits.Value f mask relation) ts = Compared f mask relation ts
Begun (awaits.Set f mask) ts = Named f mask (tokens.In ∷ []) ts
Begun (awaits.FirstMember f mask) ts = Named f mask (tokens.In ∷ tokens.OpenSet ∷ []) ts
Begun _ ts = ⊥

-- ---- a primitive

abbrev pub StepMeans : Step → List Token → Type 0
StepMeans (Done p) ts = NamesPrimitive ts p
StepMeans (More awaited) ts = Begun awaited ts
StepMeans Fails ts = Unit {0}

pub first_means : (t : Token) → StepMeans (first_step t) (t ∷ [])
first_means tokens.Vlan = refl
first_means tokens.Outer = refl
first_means tokens.Inner = refl
first_means tokens.Macsec = grammar.macsec
first_means tokens.Arp = grammar.arp
first_means tokens.Ip = grammar.ip
first_means tokens.Ip6 = grammar.ip6
first_means tokens.Ether = refl
first_means tokens.Refused = grammar.refused
first_means tokens.Cut = grammar.cut
first_means tokens.Less = refl
first_means tokens.Greater = refl
first_means (tokens.Field f) = refl
first_means t = tt

pub decided : (b : Bool) → (b ≡ true) ⊎ (b ≡ false)
decided true = inl refl
decided false = inr refl

number_means : (of : Numbered) (n : ℕ) (ts : List Token)
    → (n ≤ most_of of → NamesPrimitive ts (number_primitive of n)) → StepMeans (numbered of n) ts
number_means of n ts names = elim (decided (nat_lt (most_of of) n)) [
  | inl above ↦ rw above tt
  | inr below ↦ rw below (names (ltb-false (most_of of) n below))
]

-- with its number
counted : (of : Numbered) (n : ℕ) (ts : List Token) → Begun (awaits.Number of) ts → n ≤ most_of of
    → NamesPrimitive (ts ++ tokens.Number (Some n) ∷ []) (number_primitive of n)
counted numbers.VlanId n ts is le = rw is (grammar.vlan_id n (omega arith))
counted numbers.OuterVlan n ts is le = rw is (grammar.outer_vlan n (omega arith))
counted numbers.InnerVlan n ts is le = rw is (grammar.inner_vlan n (omega arith))
counted numbers.EtherType n ts is le = rw is (grammar.proto n (omega arith))
counted numbers.Less n ts is le = rw is (grammar.less n (omega arith))
counted numbers.Greater n ts is le = rw is (grammar.greater n (omega arith))

with_more : {ts us : List Token} (t : Token) → ts ≡ us → ts ++ t ∷ [] ≡ us ++ t ∷ []
with_more t is = ap (λ (l : List Token). l ++ t ∷ []) is

mask_means : (f : Subject) (t : Token) (ts : List Token) (o : Option Literal) → value_for f.takes t ≡ o
    → ts ≡ tokens.Field f ∷ tokens.Mask ∷ [] → StepMeans (masked f o) (ts ++ t ∷ [])
mask_means f t ts None o is = tt
mask_means f t ts (Some mask) o is = rw is (grammar.masked t mask o)

value_means : (f : Subject) (mask : ℕ) (r : Relation) (t : Token) (ts : List Token) (o : Option Literal)
    → value_for f.takes t ≡ o → Compared f mask r ts → StepMeans (related f mask r o) (ts ++ t ∷ [])
value_means f mask r t ts None o c = tt
value_means f mask r t ts (Some value) o c =
    subst (λ (l : List Token). NamesPrimitive l (tested (test_with f mask r value)))
    (sym (ap (λ (l : List Token). l ++ t ∷ []) c.is ∙ append_assoc c.words (tokens.Relation r ∷ []) (t ∷ [])))
    (grammar.related f c.words mask r t value c.bits o)

pub next_means : (a : Awaited) (t : Token) (ts : List Token) → Begun a ts → StepMeans (next_step a t) (ts ++ t ∷ [])
next_means (awaits.Vlan numbers.OuterVlan) tokens.Vlan ts is = with_more tokens.Vlan is
next_means (awaits.Vlan numbers.InnerVlan) tokens.Vlan ts is = with_more tokens.Vlan is
next_means (awaits.Vlan of) tokens.Vlan ts is = absurd is
next_means (awaits.Number of) (tokens.Number (Some n)) ts is = number_means of n (ts ++ tokens.Number (Some n) ∷ [])
    (counted of n ts is)
next_means (awaits.Address addresses.Source) (tokens.Address a) ts is = rw is (grammar.src a)
next_means (awaits.Address addresses.Destination) (tokens.Address a) ts is = rw is (grammar.dst a)
next_means (awaits.Address addresses.Host) (tokens.Address a) ts is = rw is (grammar.host a)
next_means awaits.EtherWord tokens.Proto ts is = with_more tokens.Proto is
next_means awaits.EtherWord tokens.Src ts is = with_more tokens.Src is
next_means awaits.EtherWord tokens.Dst ts is = with_more tokens.Dst is
next_means awaits.EtherWord tokens.Host ts is = with_more tokens.Host is
next_means awaits.EtherWord tokens.Broadcast ts is = rw is grammar.broadcast
next_means awaits.EtherWord tokens.Multicast ts is = rw is grammar.multicast
next_means (awaits.Relation f) tokens.Mask ts is = with_more tokens.Mask is
next_means (awaits.Relation f) (tokens.Relation r) ts is =
    record { words = tokens.Field f ∷ []; bits = grammar.all; is = with_more (tokens.Relation r) is }
next_means (awaits.MaskedRelation f mask) (tokens.Relation r) ts bits = record { words = ts; bits = bits; is = refl }
next_means (awaits.Relation f) tokens.In ts is =
    record { words = tokens.Field f ∷ []; bits = grammar.all; is = with_more tokens.In is }
next_means (awaits.MaskedRelation f mask) tokens.In ts bits = record { words = ts; bits = bits; is = refl }
next_means (awaits.Set f mask) tokens.OpenSet ts c = record {
  words = c.words;
  bits = c.bits;
  is = ap (λ (l : List Token). l ++ tokens.OpenSet ∷ []) c.is
      ∙ append_assoc c.words (tokens.In ∷ []) (tokens.OpenSet ∷ []);
}
next_means (awaits.SetEnd f mask) tokens.Comma ts is = absurd is
next_means (awaits.Mask f) t ts is = mask_means f t ts (value_for f.takes t) refl is
next_means (awaits.Value f mask r) t ts c = value_means f mask r t ts (value_for f.takes t) refl c
next_means a t ts is = tt
