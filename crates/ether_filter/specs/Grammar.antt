-- The grammar of expressions (pcap-filter(7)).
use Rattle.std.specs.Prelude.{◌≡◌, ℕ, ◌<◌, List, [], ◌∷◌, ◌++◌, Some}
use Rattle.ether_filter.specs.declared.field_test.Relation.{Relation}
use Rattle.ether_filter.specs.declared.subject.Literal.{Literal}
use Rattle.ether_filter.specs.declared.subject.Subject.{Subject}
use Rattle.ether_filter.specs.Subjects.{all_bits, existence_of, test_with, tested}
use Rattle.ether_filter.specs.Steps.{value_for, member}
use Rattle.ether_filter.specs.declared.node.Operator.{Operator}
use Rattle.ether_filter.specs.declared.node.Operator.TheVariants.{Or}
use Rattle.ether_filter.specs.declared.primitive.Primitive.{Primitive}
use Rattle.ether_filter.specs.declared.primitive.Primitive.TheVariants as primitives
use Rattle.ether_filter.specs.declared.token.Token.{Token}
use Rattle.ether_filter.specs.declared.token.Token.TheVariants as tokens
use Rattle.ether_filter.specs.Expressions.{Expression, Test, Not, Join}

-- a field, and the bits of it that are compared
pub data NamesBits (subject : Subject) : List Token → (mask : ℕ) → Type 0 where
  all : NamesBits subject (tokens.Field subject ∷ []) all_bits
  masked : (t : Token) (mask : Literal) → value_for subject.takes t ≡ Some mask
      → NamesBits subject (tokens.Field subject ∷ tokens.Mask ∷ t ∷ []) mask.number

-- the words of a primitive
pub data NamesPrimitive : List Token → Primitive → Type 0 where
  vlan : NamesPrimitive (tokens.Vlan ∷ []) primitives.Vlan
  vlan_id : (n : ℕ) → n < 4096 → NamesPrimitive (tokens.Vlan ∷ tokens.Number (Some n) ∷ []) (primitives.VlanId n)
  outer_vlan : (n : ℕ) → n < 4096 → NamesPrimitive (tokens.Outer ∷ tokens.Vlan ∷ tokens.Number (Some n) ∷ [])
      (primitives.OuterVlan n)
  inner_vlan : (n : ℕ) → n < 4096 → NamesPrimitive (tokens.Inner ∷ tokens.Vlan ∷ tokens.Number (Some n) ∷ [])
      (primitives.InnerVlan n)
  macsec : NamesPrimitive (tokens.Macsec ∷ []) primitives.Macsec
  arp : NamesPrimitive (tokens.Arp ∷ []) (primitives.EtherType 0x0806)
  ip : NamesPrimitive (tokens.Ip ∷ []) (primitives.EtherType 0x0800)
  ip6 : NamesPrimitive (tokens.Ip6 ∷ []) (primitives.EtherType 0x86DD)
  proto : (n : ℕ) → n < 65536 → NamesPrimitive (tokens.Ether ∷ tokens.Proto ∷ tokens.Number (Some n) ∷ [])
      (primitives.EtherType n)
  src : (a : ℕ) → NamesPrimitive (tokens.Ether ∷ tokens.Src ∷ tokens.Address a ∷ []) (primitives.Source a)
  dst : (a : ℕ) → NamesPrimitive (tokens.Ether ∷ tokens.Dst ∷ tokens.Address a ∷ []) (primitives.Destination a)
  host : (a : ℕ) → NamesPrimitive (tokens.Ether ∷ tokens.Host ∷ tokens.Address a ∷ []) (primitives.Host a)
  broadcast : NamesPrimitive (tokens.Ether ∷ tokens.Broadcast ∷ []) primitives.Broadcast
  multicast : NamesPrimitive (tokens.Ether ∷ tokens.Multicast ∷ []) primitives.Multicast
  refused : NamesPrimitive (tokens.Refused ∷ []) primitives.Refused
  cut : NamesPrimitive (tokens.Cut ∷ []) primitives.Cut
  less : (n : ℕ) → n < 4294967296 → NamesPrimitive (tokens.Less ∷ tokens.Number (Some n) ∷ []) (primitives.Less n)
  greater : (n : ℕ) → n < 4294967296 → NamesPrimitive (tokens.Greater ∷ tokens.Number (Some n) ∷ [])
      (primitives.Greater n)
  field : (subject : Subject) → NamesPrimitive (tokens.Field subject ∷ []) (tested (existence_of subject))
  related : (subject : Subject) (ts : List Token) (mask : ℕ) (relation : Relation) (t : Token) (value : Literal)
      → NamesBits subject ts mask → value_for subject.takes t ≡ Some value
      → NamesPrimitive (ts ++ tokens.Relation relation ∷ t ∷ [])
      (tested (test_with subject mask relation value))

-- the words of a set that a field is in, without its end, and what they mean
pub data NamesSet (subject : Subject) (mask : ℕ) : List Token → Expression → Type 0 where
  one : (ts : List Token) (t : Token) (p : Primitive) → NamesBits subject ts mask → member subject mask t ≡ Some p
      → NamesSet subject mask (ts ++ tokens.In ∷ tokens.OpenSet ∷ t ∷ []) (Test p)
  more : (ts : List Token) (x : Expression) (t : Token) (p : Primitive) → NamesSet subject mask ts x
      → member subject mask t ≡ Some p
      → NamesSet subject mask (ts ++ tokens.Comma ∷ t ∷ []) (Join Or x (Test p))

-- one operand, or two or more operands that one operator joins
pub data Shape : Type 0 where
  Operand : Shape
  Chain : Operator → Shape

-- what an operator may follow: an operand, or operands that the same operator joins
pub data Leads (operator : Operator) : Shape → Type 0 where
  operand : Leads operator Operand
  chain : Leads operator (Chain operator)

-- the words that mean an expression: `not` takes one operand, operators associate to the left, and mixing two
-- operators needs parentheses
pub data Means : Shape → List Token → Expression → Type 0 where
  primitive : (ts : List Token) (p : Primitive) → NamesPrimitive ts p → Means Operand ts (Test p)
  set : (subject : Subject) (mask : ℕ) (ts : List Token) (x : Expression) → NamesSet subject mask ts x
      → Means Operand (ts ++ tokens.CloseSet ∷ []) x
  negation : (ts : List Token) (x : Expression) → Means Operand ts x → Means Operand (tokens.Not ∷ ts) (Not x)
  group : (shape : Shape) (ts : List Token) (x : Expression) → Means shape ts x
      → Means Operand (tokens.Open ∷ (ts ++ tokens.Close ∷ [])) x
  join : (operator : Operator) (shape : Shape) (ts us : List Token) (x y : Expression) → Leads operator shape
      → Means shape ts x → Means Operand us y
      → Means (Chain operator) (ts ++ tokens.Join operator ∷ us) (Join operator x y)

-- all of these words mean an expression
pub record IsExpression (ts : List Token) (x : Expression) : Type 0 where
  pub shape : Shape
  pub means : Means shape ts x
