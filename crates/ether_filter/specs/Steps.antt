-- Reading a primitive word by word.
use Rattle.std.specs.Prelude.{ℕ, Option, Some, None, codes, nat_lt, if◌then◌else◌}
use Rattle.ether_filter.specs.declared.primitive.Primitive.{Primitive}
use Rattle.ether_filter.specs.declared.primitive.Primitive.TheVariants as primitives
use Rattle.ether_filter.specs.declared.token.Token.{Token}
use Rattle.ether_filter.specs.declared.token.Token.TheVariants as tokens
use Rattle.ether_filter.specs.declared.filter_error.FilterErrorKind.{FilterErrorKind}
use Rattle.ether_filter.specs.declared.filter_error.FilterErrorKind.TheVariants as kinds
use Rattle.ether_filter.specs.declared.awaited.Numbered.{Numbered}
use Rattle.ether_filter.specs.declared.awaited.Numbered.TheVariants as numbers
use Rattle.ether_filter.specs.declared.awaited.Addressed.{Addressed}
use Rattle.ether_filter.specs.declared.awaited.Addressed.TheVariants as addresses
use Rattle.ether_filter.specs.declared.awaited.Awaited.{Awaited}
use Rattle.ether_filter.specs.declared.awaited.Awaited.TheVariants as awaits
use Rattle.ether_filter.specs.declared.field_test.Relation.{Relation}
use Rattle.ether_filter.specs.declared.field_test.Relation.TheVariants.{Equal}
use Rattle.ether_filter.specs.declared.subject.Literal.{Literal}
use Rattle.ether_filter.specs.declared.subject.Subject.{Subject}
use Rattle.ether_filter.specs.declared.subject.Takes.{Takes}
use Rattle.ether_filter.specs.declared.subject.Takes.TheVariants as takes
use Rattle.ether_filter.specs.Subjects.{number_for, bytes_for, time_for, name_for, test_with, all_bits, tested}
use Rattle.ether_filter.specs.declared.awaited.Step.{Step}
use Rattle.ether_filter.specs.declared.awaited.Step.TheVariants.{Done, More, Fails}

abbrev pub most_of : Numbered → ℕ
most_of numbers.EtherType = 65535
most_of numbers.Less = 4294967295
most_of numbers.Greater = 4294967295
most_of _ = 4095

abbrev pub number_primitive : Numbered → ℕ → Primitive
number_primitive numbers.VlanId n = primitives.VlanId n
number_primitive numbers.OuterVlan n = primitives.OuterVlan n
number_primitive numbers.InnerVlan n = primitives.InnerVlan n
number_primitive numbers.EtherType n = primitives.EtherType n
number_primitive numbers.Less n = primitives.Less n
number_primitive numbers.Greater n = primitives.Greater n

abbrev pub numbered : Numbered → ℕ → Step
numbered of n = if nat_lt (most_of of) n then Fails else Done (number_primitive of n)

abbrev pub addressed : Addressed → ℕ → Primitive
addressed addresses.Source a = primitives.Source a
addressed addresses.Destination a = primitives.Destination a
addressed addresses.Host a = primitives.Host a

abbrev pub first_step : Token → Step
first_step tokens.Vlan = More awaits.VlanId
first_step tokens.Outer = More (awaits.Vlan numbers.OuterVlan)
first_step tokens.Inner = More (awaits.Vlan numbers.InnerVlan)
first_step tokens.Macsec = Done primitives.Macsec
first_step tokens.Arp = Done (primitives.EtherType 0x0806)
first_step tokens.Ip = Done (primitives.EtherType 0x0800)
first_step tokens.Ip6 = Done (primitives.EtherType 0x86DD)
first_step tokens.Ether = More awaits.EtherWord
first_step tokens.Refused = Done primitives.Refused
first_step tokens.Cut = Done primitives.Cut
first_step tokens.Less = More (awaits.Number numbers.Less)
first_step tokens.Greater = More (awaits.Number numbers.Greater)
first_step (tokens.Field subject) = More (awaits.Relation subject)
first_step _ = Fails

-- the value that a word is for a field, if the field takes it
abbrev pub value_for : Takes → Token → Option Literal
value_for takes (tokens.Number (Some n)) = number_for takes n
value_for takes (tokens.Address a) = bytes_for takes (record { len = 6; number = a })
value_for takes (tokens.Bytes bytes) = bytes_for takes bytes
value_for takes (tokens.Time time) = time_for takes time
value_for takes tokens.Eth = name_for takes (codes "eth")
value_for takes tokens.Sll = name_for takes (codes "sll")
value_for takes tokens.Vlan = name_for takes (codes "vlan")
value_for takes tokens.Macsec = name_for takes (codes "macsec")
value_for takes tokens.Arp = name_for takes (codes "arp")
value_for takes _ = None

abbrev pub masked : Subject → Option Literal → Step
masked subject None = Fails
masked subject (Some mask) = More (awaits.MaskedRelation subject mask.number)

abbrev pub related : Subject → (mask : ℕ) → Relation → Option Literal → Step
related subject mask relation None = Fails
related subject mask relation (Some value) = Done (tested (test_with subject mask relation value))

abbrev pub next_step : Awaited → Token → Step
next_step (awaits.Vlan of) tokens.Vlan = More (awaits.Number of)
next_step (awaits.Number of) (tokens.Number (Some n)) = numbered of n
next_step (awaits.Address of) (tokens.Address a) = Done (addressed of a)
next_step awaits.EtherWord tokens.Proto = More (awaits.Number numbers.EtherType)
next_step awaits.EtherWord tokens.Src = More (awaits.Address addresses.Source)
next_step awaits.EtherWord tokens.Dst = More (awaits.Address addresses.Destination)
next_step awaits.EtherWord tokens.Host = More (awaits.Address addresses.Host)
next_step awaits.EtherWord tokens.Broadcast = Done primitives.Broadcast
next_step awaits.EtherWord tokens.Multicast = Done primitives.Multicast
next_step (awaits.Relation subject) tokens.Mask = More (awaits.Mask subject)
next_step (awaits.Relation subject) (tokens.Relation relation) = More (awaits.Value subject all_bits relation)
next_step (awaits.MaskedRelation subject mask) (tokens.Relation relation) = More (awaits.Value subject mask relation)
next_step (awaits.Relation subject) tokens.In = More (awaits.Set subject all_bits)
next_step (awaits.MaskedRelation subject mask) tokens.In = More (awaits.Set subject mask)
next_step (awaits.Set subject mask) tokens.OpenSet = More (awaits.FirstMember subject mask)
next_step (awaits.SetEnd subject mask) tokens.Comma = More (awaits.Member subject mask)
next_step (awaits.Mask subject) token = masked subject (value_for subject.takes token)
next_step (awaits.Value subject mask relation) token = related subject mask relation (value_for subject.takes token)
next_step _ _ = Fails

-- the test that a field has a value of a set
abbrev pub member_test : Subject → (mask : ℕ) → Option Literal → Option Primitive
member_test subject mask None = None
member_test subject mask (Some value) = Some (tested (test_with subject mask Equal value))

abbrev pub member : Subject → (mask : ℕ) → Token → Option Primitive
member subject mask token = member_test subject mask (value_for subject.takes token)

-- the error for a word that is no value of a field
abbrev pub value_kind : Takes → FilterErrorKind
value_kind (takes.Number most) = kinds.ExpectedNumber most
value_kind (takes.Bytes len) = kinds.ExpectedBytes len
value_kind takes.AnyBytes = kinds.ExpectedAnyBytes
value_kind takes.Time = kinds.ExpectedTime
value_kind takes.Header = kinds.ExpectedHeader

abbrev pub kind_of : Awaited → FilterErrorKind
kind_of awaits.Operand = kinds.ExpectedOperand
kind_of awaits.Operator = kinds.ExpectedOperator
kind_of awaits.VlanId = kinds.ExpectedNumber 4095
kind_of (awaits.Vlan of) = kinds.ExpectedVlan
kind_of (awaits.Number of) = kinds.ExpectedNumber (most_of of)
kind_of awaits.EtherWord = kinds.ExpectedEtherWord
kind_of (awaits.Address of) = kinds.ExpectedAddress
kind_of (awaits.Relation subject) = kinds.ExpectedRelation
kind_of (awaits.MaskedRelation subject mask) = kinds.ExpectedRelation
kind_of (awaits.Mask subject) = value_kind subject.takes
kind_of (awaits.Value subject mask relation) = value_kind subject.takes
kind_of (awaits.FirstMember subject mask) = value_kind subject.takes
kind_of (awaits.Member subject mask) = value_kind subject.takes
kind_of (awaits.Set subject mask) = kinds.ExpectedSet
kind_of (awaits.SetEnd subject mask) = kinds.ExpectedSetEnd
