-- What is missing where a word or the end doesn't fit.
use Rattle.std.proofs.Common.{◌≡◌, ℕ, ◌+◌, ◌<◌, ◌≤◌, List, [], ◌∷◌, ◌++◌, refl, sym, ap, subst, ◌∙◌, inl, inr, nat_lt, arith}
use Rattle.std.specs.Prelude.{Ok, Err, Option, Some, None, ◌⊎◌}
use Rattle.std.proofs.lemmas.Bool.{cases_lt, le-ltb, lt-ltb, ltb-false}
use Rattle.ether_filter.specs.declared.node.Operator.{Operator}
use Rattle.ether_filter.specs.declared.node.Operator.TheVariants.{And, Or}
use Rattle.ether_filter.specs.declared.node.Node.{Node}
use Rattle.ether_filter.specs.declared.node.Node.TheVariants as nodes
use Rattle.ether_filter.specs.declared.primitive.Primitive.TheVariants as primitives
use Rattle.ether_filter.specs.declared.token.Token.{Token}
use Rattle.ether_filter.specs.declared.token.Token.TheVariants as tokens
use Rattle.ether_filter.specs.declared.filter_error.FilterErrorKind.{FilterErrorKind}
use Rattle.ether_filter.specs.declared.filter_error.FilterErrorKind.TheVariants as kinds
use Rattle.ether_filter.specs.declared.awaited.Numbered.{Numbered}
use Rattle.ether_filter.specs.declared.awaited.Numbered.TheVariants as numbers
use Rattle.ether_filter.specs.declared.awaited.Awaited.{Awaited}
use Rattle.ether_filter.specs.declared.awaited.Awaited.TheVariants as awaits
use Rattle.ether_filter.specs.declared.awaited.Step.{Step}
use Rattle.ether_filter.specs.declared.awaited.Step.TheVariants.{Done, More, Fails}
use Rattle.ether_filter.specs.declared.reading.Pending.{Pending}
use Rattle.ether_filter.specs.declared.reading.Pending.TheVariants as pendings
use Rattle.ether_filter.specs.declared.field_test.Relation.TheVariants.{Equal}
use Rattle.ether_filter.specs.declared.subject.Subject.{Subject}
use Rattle.ether_filter.specs.Subjects.{all_bits, existence_of, tested}
use Rattle.ether_filter.specs.declared.primitive.Primitive.{Primitive}
use Rattle.ether_filter.specs.Steps.{first_step, next_step, kind_of, most_of, number_primitive, value_kind, member}
use Rattle.ether_filter.specs.ExpressionReading.{ExpressionState, completed, joined_by, closed_group, operator_taken, stepped, operand_taken, id_taken, relation_taken, member_taken, joined_member, set_taken, taken_where, taken, nothing_open, whole, ended_where, ended}
use Rattle.ether_filter.specs.Refusals.{Fits, IsAfterOperand, IsOther, IsUnrelated, ValueFollows, Lacks}
use Rattle.ether_filter.specs.Refusals as rows
use Rattle.ether_filter.proofs.Sound.{decided}
use Rattle.ether_filter.proofs.ValuesAwaited.{AwaitsValue, value_at, follows_value}
use Rattle.ether_filter.proofs.Fitting.{Reaches, fits_taken, taken_fits}

-- ---- the kind of an error

abbrev pub kind_after : Option Token → FilterErrorKind
kind_after None = kinds.Unclosed
kind_after (Some (tokens.Join operator)) = kinds.MixedOperators
kind_after (Some tokens.Close) = kinds.Unopened
kind_after (Some t) = kinds.ExpectedOperator

abbrev pub kind_after_vlan : Option Token → FilterErrorKind
kind_after_vlan (Some (tokens.Number n)) = kinds.ExpectedNumber 4095
kind_after_vlan None = kinds.Unclosed
kind_after_vlan (Some (tokens.Join operator)) = kinds.MixedOperators
kind_after_vlan (Some tokens.Close) = kinds.Unopened
kind_after_vlan (Some t) = kinds.ExpectedVlanIdOrOperator

abbrev pub kind_after_field : Option Token → FilterErrorKind
kind_after_field None = kinds.Unclosed
kind_after_field (Some (tokens.Join operator)) = kinds.MixedOperators
kind_after_field (Some tokens.Close) = kinds.Unopened
kind_after_field (Some t) = kinds.ExpectedRelationOrOperator

-- by what is awaited, and what comes
abbrev pub kind_at : Awaited → Option Token → FilterErrorKind
kind_at awaits.Operator next = kind_after next
kind_at awaits.VlanId next = kind_after_vlan next
kind_at (awaits.Relation f) next = kind_after_field next
kind_at a next = kind_of a

-- ---- .. is that of the word that is refused

stepped_kind : (s : ExpressionState) (step : Step) (kind : FilterErrorKind) → stepped s step ≡ Err kind → kind
    ≡ kind_of s.awaited
stepped_kind s (Done p) kind is = absurd cc
stepped_kind s (More a) kind is = absurd cc
stepped_kind s Fails kind is = cc

joined_kind : (operator : Operator) (ns : List Node) (p : List Pending) (kind : FilterErrorKind)
    → joined_by operator ns p ≡ Err kind → kind ≡ kinds.MixedOperators
joined_kind operator ns [] kind is = absurd cc
joined_kind operator ns (pendings.Open ∷ p) kind is = absurd cc
joined_kind operator ns (pendings.Not ∷ p) kind is = absurd cc
joined_kind And ns (pendings.Join And ∷ p) kind is = absurd cc
joined_kind And ns (pendings.Join Or ∷ p) kind is = cc
joined_kind Or ns (pendings.Join And ∷ p) kind is = cc
joined_kind Or ns (pendings.Join Or ∷ p) kind is = absurd cc

group_kind : (ns : List Node) (p : List Pending) (kind : FilterErrorKind) → closed_group ns p ≡ Err kind → kind
    ≡ kinds.Unopened
group_kind ns [] kind is = cc
group_kind ns (pendings.Open ∷ p) kind is = absurd cc
group_kind ns (q ∷ p) kind is = cc

closing_kind : (ns : List Node) (p : List Pending) (a : Awaited) (kind : FilterErrorKind)
    → operator_taken (record { nodes = ns; pending = p; awaited = a }) tokens.Close ≡ Err kind → kind ≡ kinds.Unopened
closing_kind ns [] a kind is = group_kind ns [] kind is
closing_kind ns (pendings.Join operator ∷ p) a kind is = group_kind (ns ++ nodes.Join operator ∷ []) p kind is
closing_kind ns (pendings.Open ∷ p) a kind is = group_kind ns (pendings.Open ∷ p) kind is
closing_kind ns (pendings.Not ∷ p) a kind is = group_kind ns (pendings.Not ∷ p) kind is

operator_kind : (s : ExpressionState) (t : Token) (kind : FilterErrorKind) → operator_taken s t ≡ Err kind → kind
    ≡ kind_after (Some t)
operator_kind s (tokens.Join operator) kind is = joined_kind operator s.nodes s.pending kind is
operator_kind s tokens.Close kind is = closing_kind s.nodes s.pending s.awaited kind is
operator_kind s t kind is = cc

operand_kind : (s : ExpressionState) (t : Token) (kind : FilterErrorKind) → operand_taken s t ≡ Err kind → kind
    ≡ kind_of s.awaited
operand_kind s tokens.Not kind is = absurd cc
operand_kind s tokens.Open kind is = absurd cc
operand_kind s t kind is = stepped_kind s (first_step t) kind is

id_kind : (s : ExpressionState) (t : Token) (kind : FilterErrorKind) → s.awaited ≡ awaits.VlanId → id_taken s t
    ≡ Err kind
    → kind ≡ kind_after_vlan (Some t)
id_kind s (tokens.Number n) kind a is = stepped_kind s (next_step (awaits.Number numbers.VlanId) (tokens.Number n))
    kind is ∙ ap kind_of a
id_kind s (tokens.Join operator) kind a is = operator_kind (completed s primitives.Vlan) (tokens.Join operator) kind is
id_kind s tokens.Close kind a is = operator_kind (completed s primitives.Vlan) tokens.Close kind is
id_kind s t kind a is = cc

relation_kind : (f : Subject) (s : ExpressionState) (t : Token) (kind : FilterErrorKind)
    → relation_taken f s t ≡ Err kind → kind ≡ kind_after_field (Some t)
relation_kind f s (tokens.Relation r) kind is = absurd cc
relation_kind f s tokens.Mask kind is = absurd cc
relation_kind f s tokens.In kind is = absurd cc
relation_kind f s (tokens.Join operator) kind is =
    operator_kind (completed s (tested (existence_of f))) (tokens.Join operator) kind is
relation_kind f s tokens.Close kind is =
    operator_kind (completed s (tested (existence_of f))) tokens.Close kind is
relation_kind f s t kind is = cc

member_kind : (f : Subject) (mask : ℕ) (s : ExpressionState) (o : Option Primitive) (kind : FilterErrorKind)
    → member_taken f mask s o ≡ Err kind → kind ≡ kind_of s.awaited
member_kind f mask s None kind is = cc
member_kind f mask s (Some q) kind is = absurd cc

joined_member_kind : (f : Subject) (mask : ℕ) (s : ExpressionState) (o : Option Primitive) (kind : FilterErrorKind)
    → joined_member (member_taken f mask s o) ≡ Err kind → kind ≡ kind_of s.awaited
joined_member_kind f mask s None kind is = cc
joined_member_kind f mask s (Some q) kind is = absurd cc

set_kind : (f : Subject) (mask : ℕ) (s : ExpressionState) (t : Token) (kind : FilterErrorKind)
    → set_taken f mask s t ≡ Err kind → kind ≡ kind_of s.awaited
set_kind f mask s tokens.CloseSet kind is = absurd cc
set_kind f mask s t kind is = stepped_kind s (next_step (awaits.SetEnd f mask) t) kind is

taken_kind_at : (a : Awaited) (ns : List Node) (p : List Pending) (t : Token) (kind : FilterErrorKind)
    → taken_where a (record { nodes = ns; pending = p; awaited = a }) t ≡ Err kind → kind ≡ kind_at a (Some t)
taken_kind_at awaits.Operand ns p t kind is = operand_kind
    (record { nodes = ns; pending = p; awaited = awaits.Operand }) t kind is
taken_kind_at awaits.Operator ns p t kind is = operator_kind
    (record { nodes = ns; pending = p; awaited = awaits.Operator }) t kind is
taken_kind_at awaits.VlanId ns p t kind is = id_kind (record { nodes = ns; pending = p; awaited = awaits.VlanId }) t
    kind refl is
taken_kind_at (awaits.Relation f) ns p t kind is = relation_kind f
    (record { nodes = ns; pending = p; awaited = awaits.Relation f }) t kind is
taken_kind_at (awaits.FirstMember f mask) ns p t kind is = member_kind f mask
    (record { nodes = ns; pending = p; awaited = awaits.FirstMember f mask }) (member f mask t) kind is
taken_kind_at (awaits.Member f mask) ns p t kind is = joined_member_kind f mask
    (record { nodes = ns; pending = p; awaited = awaits.Member f mask }) (member f mask t) kind is
taken_kind_at (awaits.SetEnd f mask) ns p t kind is = set_kind f mask
    (record { nodes = ns; pending = p; awaited = awaits.SetEnd f mask }) t kind is
taken_kind_at a ns p t kind is = stepped_kind (record { nodes = ns; pending = p; awaited = a }) (next_step a t) kind is

pub taken_kind : (s : ExpressionState) (t : Token) (kind : FilterErrorKind) → taken s t ≡ Err kind → kind
    ≡ kind_at s.awaited (Some t)
taken_kind s t kind is = taken_kind_at s.awaited s.nodes s.pending t kind is

open_kind : (ns : List Node) (p : List Pending) (kind : FilterErrorKind) → nothing_open ns p ≡ Err kind → kind
    ≡ kinds.Unclosed
open_kind ns [] kind is = absurd cc
open_kind ns (q ∷ p) kind is = cc

whole_kind : (ns : List Node) (p : List Pending) (a : Awaited) (kind : FilterErrorKind)
    → whole (record { nodes = ns; pending = p; awaited = a }) ≡ Err kind → kind ≡ kinds.Unclosed
whole_kind ns [] a kind is = open_kind ns [] kind is
whole_kind ns (pendings.Join operator ∷ p) a kind is = open_kind (ns ++ nodes.Join operator ∷ []) p kind is
whole_kind ns (pendings.Open ∷ p) a kind is = cc
whole_kind ns (pendings.Not ∷ p) a kind is = cc

ended_kind_at : (a : Awaited) (s : ExpressionState) (kind : FilterErrorKind) → ended_where a s ≡ Err kind → kind
    ≡ kind_at a None
ended_kind_at awaits.Operator s kind is = whole_kind s.nodes s.pending s.awaited kind is
ended_kind_at awaits.VlanId s kind is = let t = completed s primitives.Vlan
    in whole_kind t.nodes t.pending t.awaited kind is
ended_kind_at (awaits.Relation f) s kind is = let t = completed s (tested (existence_of f))
    in whole_kind t.nodes t.pending t.awaited kind is
ended_kind_at a s kind is = cc

pub ended_kind : (s : ExpressionState) (kind : FilterErrorKind) → ended s ≡ Err kind → kind ≡ kind_at s.awaited None
ended_kind s kind is = ended_kind_at s.awaited s kind is

-- ---- a row says it

joins : (ns : List Node) (p : List Pending) → (operator : Operator) × (u : ExpressionState)
    × (joined_by operator ns p ≡ Ok u)
joins ns [] = (And, _, refl)
joins ns (pendings.Open ∷ p) = (And, _, refl)
joins ns (pendings.Not ∷ p) = (And, _, refl)
joins ns (pendings.Join And ∷ p) = (And, _, refl)
joins ns (pendings.Join Or ∷ p) = (Or, _, refl)

after_operator : (ts : List Token) (ns : List Node) (p : List Pending)
    → Reaches ts (record { nodes = ns; pending = p; awaited = awaits.Operator }) → IsAfterOperand ts
after_operator ts ns p reaches = let next = joins ns p
    in record {
      operator = next.0;
      fits = taken_fits ts (record { nodes = ns; pending = p; awaited = awaits.Operator }) next.1
          (tokens.Join next.0) reaches next.2;
    }

after_vlan : (ts : List Token) (ns : List Node) (p : List Pending)
    → Reaches ts (record { nodes = ns; pending = p; awaited = awaits.VlanId }) → IsAfterOperand ts
after_vlan ts ns p reaches =
    let s : ExpressionState = record { nodes = ns; pending = p; awaited = awaits.VlanId } in
    let t = completed s primitives.Vlan in
    let next = joins t.nodes t.pending
    in record { operator = next.0; fits = taken_fits ts s next.1 (tokens.Join next.0) reaches next.2 }

after_field : (f : Subject) (ts : List Token) (ns : List Node) (p : List Pending)
    → Reaches ts (record { nodes = ns; pending = p; awaited = awaits.Relation f }) → IsAfterOperand ts
after_field f ts ns p reaches =
    let s : ExpressionState = record { nodes = ns; pending = p; awaited = awaits.Relation f } in
    let t = completed s (tested (existence_of f)) in
    let next = joins t.nodes t.pending
    in record { operator = next.0; fits = taken_fits ts s next.1 (tokens.Join next.0) reaches next.2 }

after_lacks : (ts : List Token) (next : Option Token) → IsAfterOperand ts → (Fits ts (tokens.Number (Some 4095)) → ⊥)
    → (Fits ts (tokens.Relation Equal) → ⊥) → Lacks ts next (kind_after next)
after_lacks ts None after none plain = rows.unclosed after
after_lacks ts (Some (tokens.Join operator)) after none plain = rows.mixed operator after
after_lacks ts (Some tokens.Close) after none plain = rows.unopened after
after_lacks ts (Some (tokens.Number n)) after none plain = rows.no_number n after none plain
after_lacks ts (Some t) after none plain = rows.operator t after none plain tt

field_lacks : (ts : List Token) (next : Option Token) → IsAfterOperand ts → Fits ts (tokens.Relation Equal)
    → Lacks ts next (kind_after_field next)
field_lacks ts None after fits = rows.unclosed after
field_lacks ts (Some (tokens.Join operator)) after fits = rows.mixed operator after
field_lacks ts (Some tokens.Close) after fits = rows.unopened after
field_lacks ts (Some t) after fits = rows.relation_or_operator t after fits tt

vlan_lacks : (ts : List Token) (next : Option Token) → IsAfterOperand ts → Fits ts (tokens.Number (Some 4095))
    → Lacks ts next (kind_after_vlan next)
vlan_lacks ts None after fits = rows.unclosed after
vlan_lacks ts (Some (tokens.Join operator)) after fits = rows.mixed operator after
vlan_lacks ts (Some tokens.Close) after fits = rows.unopened after
vlan_lacks ts (Some (tokens.Number n)) after fits = rows.vlan_id n after fits
vlan_lacks ts (Some t) after fits = rows.id_or_operator t after fits tt

-- a number up to the greatest one is taken, and no other
number_taken : (of : Numbered) (s : ExpressionState) (n : ℕ) → n ≤ most_of of
    → stepped s (next_step (awaits.Number of) (tokens.Number (Some n))) ≡ Ok (completed s (number_primitive of n))
number_taken of s n le = rw (le-ltb (most_of of) n le) refl

number_above : (of : Numbered) (s u : ExpressionState) (n : ℕ) → most_of of < n
    → stepped s (next_step (awaits.Number of) (tokens.Number (Some n))) ≡ Ok u → ⊥
number_above of s u n lt is = let no = rw (lt-ltb (most_of of) n lt) at is in cc

lacks_at : (a : Awaited) (ns : List Node) (p : List Pending) (ts : List Token) (next : Option Token)
    → Reaches ts (record { nodes = ns; pending = p; awaited = a }) → Lacks ts next (kind_at a next)
lacks_at awaits.Operand ns p ts next reaches = rows.operand next
    (taken_fits ts (record { nodes = ns; pending = p; awaited = awaits.Operand })
    (record { nodes = ns; pending = pendings.Not ∷ p; awaited = awaits.Operand }) tokens.Not reaches refl)
lacks_at awaits.Operator ns p ts next reaches =
    after_lacks ts next (after_operator ts ns p reaches)
    (λ fits. let u = fits_taken ts (record { nodes = ns; pending = p; awaited = awaits.Operator })
    (tokens.Number (Some 4095)) reaches fits in let is = u.1 in cc)
    (λ fits. let u = fits_taken ts (record { nodes = ns; pending = p; awaited = awaits.Operator })
    (tokens.Relation Equal) reaches fits in let is = u.1 in cc)
lacks_at awaits.VlanId ns p ts next reaches =
    let s : ExpressionState = record { nodes = ns; pending = p; awaited = awaits.VlanId } in
    vlan_lacks ts next (after_vlan ts ns p reaches)
    (taken_fits ts s (completed s (primitives.VlanId 4095)) (tokens.Number (Some 4095)) reaches refl)
lacks_at (awaits.Vlan of) ns p ts next reaches =
    let s : ExpressionState = record { nodes = ns; pending = p; awaited = awaits.Vlan of } in
    rows.vlan next (taken_fits ts s (record s { awaited = awaits.Number of }) tokens.Vlan reaches refl)
    (λ fits. let u = fits_taken ts s tokens.Not reaches fits in let is = u.1 in cc)
    (λ f follows. value_at ts s f reaches follows)
lacks_at (awaits.Number of) ns p ts next reaches =
    let s : ExpressionState = record { nodes = ns; pending = p; awaited = awaits.Number of } in
    rows.number next (most_of of)
    (taken_fits ts s (completed s (number_primitive of (most_of of))) (tokens.Number (Some (most_of of))) reaches
    (number_taken of s (most_of of) (omega arith)))
    (λ fits. let u = fits_taken ts s (tokens.Number (Some (most_of of + 1))) reaches fits
    in number_above of s u.0 (most_of of + 1) (omega arith) u.1)
    (λ after. let u = fits_taken ts s (tokens.Join after.operator) reaches after.fits in let is = u.1 in cc)
    (λ f follows. value_at ts s f reaches follows)
lacks_at awaits.EtherWord ns p ts next reaches =
    rows.ether_word next
    (taken_fits ts (record { nodes = ns; pending = p; awaited = awaits.EtherWord })
    (record { nodes = ns; pending = p; awaited = awaits.Number numbers.EtherType }) tokens.Proto reaches refl)
lacks_at (awaits.Address of) ns p ts next reaches =
    rows.address next
    (taken_fits ts (record { nodes = ns; pending = p; awaited = awaits.Address of }) _ (tokens.Address 0) reaches
    refl)
    (λ f follows. value_at ts (record { nodes = ns; pending = p; awaited = awaits.Address of }) f reaches follows)
lacks_at (awaits.Relation f) ns p ts next reaches =
    let s : ExpressionState = record { nodes = ns; pending = p; awaited = awaits.Relation f } in
    field_lacks ts next (after_field f ts ns p reaches)
    (taken_fits ts s (record s { awaited = awaits.Value f all_bits Equal }) (tokens.Relation Equal) reaches refl)
lacks_at (awaits.MaskedRelation f mask) ns p ts next reaches =
    let s : ExpressionState = record { nodes = ns; pending = p; awaited = awaits.MaskedRelation f mask } in
    rows.relation next
    (taken_fits ts s (record s { awaited = awaits.Value f mask Equal }) (tokens.Relation Equal) reaches refl)
    (λ after. let u = fits_taken ts s (tokens.Join after.operator) reaches after.fits in let is = u.1 in cc)
lacks_at (awaits.Set f mask) ns p ts next reaches =
    let s : ExpressionState = record { nodes = ns; pending = p; awaited = awaits.Set f mask } in
    rows.set next (taken_fits ts s (record s { awaited = awaits.FirstMember f mask }) tokens.OpenSet reaches refl)
lacks_at (awaits.SetEnd f mask) ns p ts next reaches =
    let s : ExpressionState = record { nodes = ns; pending = p; awaited = awaits.SetEnd f mask } in
    rows.set_end next (taken_fits ts s (record s { awaited = awaits.Member f mask }) tokens.Comma reaches refl)
lacks_at (awaits.FirstMember f mask) ns p ts next reaches =
    rows.value next f
    (follows_value ts (record { nodes = ns; pending = p; awaited = awaits.FirstMember f mask }) f reaches refl)
lacks_at (awaits.Member f mask) ns p ts next reaches =
    rows.value next f
    (follows_value ts (record { nodes = ns; pending = p; awaited = awaits.Member f mask }) f reaches refl)
lacks_at (awaits.Mask f) ns p ts next reaches =
    rows.value next f
    (follows_value ts (record { nodes = ns; pending = p; awaited = awaits.Mask f }) f reaches refl)
lacks_at (awaits.Value f mask r) ns p ts next reaches =
    rows.value next f
    (follows_value ts (record { nodes = ns; pending = p; awaited = awaits.Value f mask r }) f reaches refl)

pub reached_lacks : (ts : List Token) (s : ExpressionState) (next : Option Token) → Reaches ts s
    → Lacks ts next (kind_at s.awaited next)
reached_lacks ts s next reaches = lacks_at s.awaited s.nodes s.pending ts next reaches

-- ---- and no other row

abbrev Takes : Awaited → ExpressionState → Token → Type 0
Takes a s t = (u : ExpressionState) × (taken_where a s t ≡ Ok u)

not_at : (a : Awaited) (s : ExpressionState) → Takes a s tokens.Not → a ≡ awaits.Operand
not_at awaits.Operand s (u, is) = refl
not_at awaits.Operator s (u, is) = absurd cc
not_at awaits.VlanId s (u, is) = absurd cc
not_at a s (u, is) = absurd cc

proto_at : (a : Awaited) (s : ExpressionState) → Takes a s tokens.Proto → a ≡ awaits.EtherWord
proto_at awaits.EtherWord s (u, is) = refl
proto_at awaits.Operand s (u, is) = absurd cc
proto_at awaits.Operator s (u, is) = absurd cc
proto_at awaits.VlanId s (u, is) = absurd cc
proto_at a s (u, is) = absurd cc

join_at : (a : Awaited) (s : ExpressionState) (operator : Operator) → Takes a s (tokens.Join operator)
    → (a ≡ awaits.Operator)
    ⊎ ((a ≡ awaits.VlanId) ⊎ ((f : Subject) × (a ≡ awaits.Relation f)))
join_at awaits.Operator s operator (u, is) = inl refl
join_at awaits.VlanId s operator (u, is) = inr (inl refl)
join_at (awaits.Relation f) s operator (u, is) = inr (inr (f, refl))
join_at awaits.Operand s operator (u, is) = absurd cc
join_at a s operator (u, is) = absurd cc

vlan_row : (a : Awaited) (s : ExpressionState) (next : Option Token) → Takes a s tokens.Vlan
    → (Takes a s tokens.Not → ⊥) → ((f : Subject) → AwaitsValue a f → ⊥) → kinds.ExpectedVlan ≡ kind_at a next
vlan_row (awaits.Vlan of) s next (u, is) none value = refl
vlan_row (awaits.FirstMember f mask) s next (u, is) none value = absurd (value f refl)
vlan_row (awaits.Member f mask) s next (u, is) none value = absurd (value f refl)
vlan_row (awaits.Mask f) s next (u, is) none value = absurd (value f refl)
vlan_row (awaits.Value f mask r) s next (u, is) none value = absurd (value f refl)
vlan_row awaits.Operand s next (u, is) none value =
    absurd (none (record s { pending = pendings.Not ∷ s.pending }, refl))
vlan_row awaits.Operator s next (u, is) none value = absurd cc
vlan_row awaits.VlanId s next (u, is) none value = absurd cc
vlan_row a s next (u, is) none value = absurd cc

address_row : (a : Awaited) (s : ExpressionState) (next : Option Token) → Takes a s (tokens.Address 0)
    → ((f : Subject) → AwaitsValue a f → ⊥) → kinds.ExpectedAddress ≡ kind_at a next
address_row (awaits.Address of) s next (u, is) value = refl
address_row (awaits.FirstMember f mask) s next (u, is) value = absurd (value f refl)
address_row (awaits.Member f mask) s next (u, is) value = absurd (value f refl)
address_row (awaits.Mask f) s next (u, is) value = absurd (value f refl)
address_row (awaits.Value f mask r) s next (u, is) value = absurd (value f refl)
address_row awaits.Operand s next (u, is) value = absurd cc
address_row awaits.Operator s next (u, is) value = absurd cc
address_row awaits.VlanId s next (u, is) value = absurd cc
address_row a s next (u, is) value = absurd cc

-- a number that is taken is no greater than the greatest one
number_within : (of : Numbered) (s u : ExpressionState) (n : ℕ)
    → stepped s (next_step (awaits.Number of) (tokens.Number (Some n))) ≡ Ok u → n ≤ most_of of
number_within of s u n is = elim (decided (nat_lt (most_of of) n)) [
  | inl above ↦ absurd (let refused = rw above at is in cc)
  | inr below ↦ ltb-false (most_of of) n below
]

greatest : (of : Numbered) (s : ExpressionState) (most : ℕ) (next : Option Token)
    → Takes (awaits.Number of) s (tokens.Number (Some most))
    → (Takes (awaits.Number of) s (tokens.Number (Some (most + 1))) → ⊥)
    → kinds.ExpectedNumber most ≡ kinds.ExpectedNumber (most_of of)
greatest of s most next at above = elim (cases_lt most (most_of of)) [
  | inl lt ↦ absurd (above (completed s (number_primitive of (most + 1)), number_taken of s (most + 1) (omega arith)))
  | inr ge ↦
      (let le = number_within of s at.0 most at.1 in let same : most ≡ most_of of = omega arith
      in ap kinds.ExpectedNumber same)
]

number_row : (a : Awaited) (s : ExpressionState) (most : ℕ) (next : Option Token)
    → Takes a s (tokens.Number (Some most))
    → (Takes a s (tokens.Number (Some (most + 1))) → ⊥) → (a ≡ awaits.VlanId → ⊥)
    → ((f : Subject) → AwaitsValue a f → ⊥) → kinds.ExpectedNumber most ≡ kind_at a next
number_row (awaits.Number of) s most next at above vlan value = greatest of s most next at above
number_row awaits.VlanId s most next at above vlan value = absurd (vlan refl)
number_row (awaits.FirstMember f mask) s most next at above vlan value = absurd (value f refl)
number_row (awaits.Member f mask) s most next at above vlan value = absurd (value f refl)
number_row (awaits.Mask f) s most next at above vlan value = absurd (value f refl)
number_row (awaits.Value f mask r) s most next at above vlan value = absurd (value f refl)
number_row awaits.Operand s most next (u, is) above vlan value = absurd cc
number_row awaits.Operator s most next (u, is) above vlan value = absurd cc
number_row a s most next (u, is) above vlan value = absurd cc

-- after an operand, by whether a number fits
after_row : (a : Awaited) (s : ExpressionState) (operator : Operator) (next : Option Token)
    → Takes a s (tokens.Join operator)
    → (Takes a s (tokens.Number (Some 4095)) → ⊥) → (Takes a s (tokens.Relation Equal) → ⊥)
    → kind_after next ≡ kind_at a next
after_row awaits.Operator s operator next at none plain = refl
after_row awaits.VlanId s operator next at none plain = absurd (none (completed s (primitives.VlanId 4095), refl))
after_row (awaits.Relation f) s operator next at none plain =
    absurd (plain (record s { awaited = awaits.Value f all_bits Equal }, refl))
after_row awaits.Operand s operator next (u, is) none plain = absurd cc
after_row a s operator next (u, is) none plain = absurd cc

id_row : (a : Awaited) (s : ExpressionState) (operator : Operator) (n : Option ℕ) → Takes a s (tokens.Join operator)
    → Takes a s (tokens.Number (Some 4095)) → kinds.ExpectedNumber 4095 ≡ kind_at a (Some (tokens.Number n))
id_row awaits.VlanId s operator n at number = refl
id_row awaits.Operator s operator n at (u, is) = absurd cc
id_row awaits.Operand s operator n (u, is) number = absurd cc
id_row a s operator n (u, is) number = absurd cc

-- after an operand, what is no number has one kind of error
plain : (next : Option Token) → kind_after next ≡ kind_after_vlan next → kind_after next ≡ kind_after_field next
    → (a : Awaited)
    → (a ≡ awaits.Operator) ⊎ ((a ≡ awaits.VlanId) ⊎ ((f : Subject) × (a ≡ awaits.Relation f)))
    → kind_after next ≡ kind_at a next
plain next same also a either = elim either [
  | inl operator ↦ rw operator refl
  | inr other ↦ elim other [
    | inl vlan ↦ rw vlan same
    | inr field ↦ rw field.1 also
  ]
]

-- .. and what is no operator, another one, and another after `vlan`
other_kind : (t : Token) → IsOther t
    → (kind_after (Some t) ≡ kinds.ExpectedOperator) × (kind_after_vlan (Some t) ≡ kinds.ExpectedVlanIdOrOperator)
other_kind (tokens.Join operator) other = absurd other
other_kind tokens.Close other = absurd other
other_kind (tokens.Number n) other = absurd other
other_kind t other = (refl, refl)

unrelated_kind : (t : Token) → IsUnrelated t → kinds.ExpectedRelationOrOperator ≡ kind_after_field (Some t)
unrelated_kind (tokens.Join operator) other = absurd other
unrelated_kind tokens.Close other = absurd other
unrelated_kind t other = refl

id_or_operator_row : (a : Awaited) (s : ExpressionState) (operator : Operator) (t : Token) → IsOther t
    → Takes a s (tokens.Join operator) → Takes a s (tokens.Number (Some 4095))
    → kinds.ExpectedVlanIdOrOperator ≡ kind_at a (Some t)
id_or_operator_row awaits.VlanId s operator t other at number = sym (other_kind t other).1
id_or_operator_row awaits.Operator s operator t other at (u, is) = absurd cc
id_or_operator_row awaits.Operand s operator t other (u, is) number = absurd cc
id_or_operator_row a s operator t other (u, is) number = absurd cc

-- a relation after a field, and after a mask
related_row : (a : Awaited) (s : ExpressionState) (operator : Operator) (t : Token) → IsUnrelated t
    → Takes a s (tokens.Join operator) → Takes a s (tokens.Relation Equal)
    → kinds.ExpectedRelationOrOperator ≡ kind_at a (Some t)
related_row (awaits.Relation f) s operator t other at relation = unrelated_kind t other
related_row awaits.Operator s operator t other at (u, is) = absurd cc
related_row awaits.VlanId s operator t other at (u, is) = absurd cc
related_row awaits.Operand s operator t other (u, is) relation = absurd cc
related_row a s operator t other (u, is) relation = absurd cc

relation_row : (a : Awaited) (s : ExpressionState) (next : Option Token) → Takes a s (tokens.Relation Equal)
    → ((f : Subject) → a ≡ awaits.Relation f → ⊥) → kinds.ExpectedRelation ≡ kind_at a next
relation_row (awaits.MaskedRelation f mask) s next at after = refl
relation_row (awaits.Relation f) s next at after = absurd (after f refl)
relation_row awaits.Operator s next (u, is) after = absurd cc
relation_row awaits.VlanId s next (u, is) after = absurd cc
relation_row awaits.Operand s next (u, is) after = absurd cc
relation_row a s next (u, is) after = absurd cc

value_row : (a : Awaited) (f : Subject) (next : Option Token) → AwaitsValue a f
    → value_kind f.takes ≡ kind_at a next
value_row (awaits.Mask g) f next same = ap (λ (h : Subject). value_kind h.takes) (sym same)
value_row (awaits.Value g mask r) f next same = ap (λ (h : Subject). value_kind h.takes) (sym same)
value_row (awaits.FirstMember g mask) f next same = ap (λ (h : Subject). value_kind h.takes) (sym same)
value_row (awaits.Member g mask) f next same = ap (λ (h : Subject). value_kind h.takes) (sym same)
value_row a f next same = absurd same

set_row : (a : Awaited) (s : ExpressionState) (next : Option Token) → Takes a s tokens.OpenSet
    → kinds.ExpectedSet ≡ kind_at a next
set_row (awaits.Set f mask) s next at = refl
set_row awaits.Operator s next (u, is) = absurd cc
set_row awaits.VlanId s next (u, is) = absurd cc
set_row awaits.Operand s next (u, is) = absurd cc
set_row a s next (u, is) = absurd cc

set_end_row : (a : Awaited) (s : ExpressionState) (next : Option Token) → Takes a s tokens.Comma
    → kinds.ExpectedSetEnd ≡ kind_at a next
set_end_row (awaits.SetEnd f mask) s next at = refl
set_end_row awaits.Operator s next (u, is) = absurd cc
set_end_row awaits.VlanId s next (u, is) = absurd cc
set_end_row awaits.Operand s next (u, is) = absurd cc
set_end_row a s next (u, is) = absurd cc

-- the tokens that fit are taken
takes : (ts : List Token) (s : ExpressionState) (t : Token) → Reaches ts s → Fits ts t → Takes s.awaited s t
takes ts s t reaches fits = fits_taken ts s t reaches fits

untaken : (ts : List Token) (s : ExpressionState) (t : Token) → Reaches ts s → (Fits ts t → ⊥) → Takes s.awaited s t → ⊥
untaken ts s t reaches none (u, is) = none (taken_fits ts s u t reaches is)

after_at : (ts : List Token) (s : ExpressionState) → Reaches ts s → IsAfterOperand ts → (s.awaited ≡ awaits.Operator)
    ⊎ ((s.awaited ≡ awaits.VlanId) ⊎ ((f : Subject) × (s.awaited ≡ awaits.Relation f)))
after_at ts s reaches after = join_at s.awaited s after.operator
    (takes ts s (tokens.Join after.operator) reaches after.fits)

id_is_after : (ts : List Token) (s : ExpressionState) → Reaches ts s → s.awaited ≡ awaits.VlanId → IsAfterOperand ts
id_is_after ts s reaches is = after_vlan ts s.nodes s.pending
    (subst (λ (a : Awaited). Reaches ts (record { nodes = s.nodes; pending = s.pending; awaited = a })) is reaches)

field_is_after : (ts : List Token) (s : ExpressionState) (f : Subject) → Reaches ts s → s.awaited ≡ awaits.Relation f
    → IsAfterOperand ts
field_is_after ts s f reaches is = after_field f ts s.nodes s.pending
    (subst (λ (a : Awaited). Reaches ts (record { nodes = s.nodes; pending = s.pending; awaited = a })) is reaches)

pub row_kind : (ts : List Token) (s : ExpressionState) (next : Option Token) (kind : FilterErrorKind) → Reaches ts s
    → Lacks ts next kind → kind ≡ kind_at s.awaited next
row_kind ts s next kind reaches (rows.operand n fits) = let at = not_at s.awaited s
    (takes ts s tokens.Not reaches fits) in rw at refl
row_kind ts s next kind reaches (rows.vlan n fits none value) =
    vlan_row s.awaited s next (takes ts s tokens.Vlan reaches fits) (untaken ts s tokens.Not reaches none)
    (λ f at. value f (follows_value ts s f reaches at))
row_kind ts s next kind reaches (rows.ether_word n fits) = let at = proto_at s.awaited s
    (takes ts s tokens.Proto reaches fits) in rw at refl
row_kind ts s next kind reaches (rows.address n fits value) = address_row s.awaited s next
    (takes ts s (tokens.Address 0) reaches fits) (λ f at. value f (follows_value ts s f reaches at))
row_kind ts s next kind reaches (rows.number n most fits none after value) =
    number_row s.awaited s most next (takes ts s (tokens.Number (Some most)) reaches fits)
    (untaken ts s (tokens.Number (Some (most + 1))) reaches none) (λ is. after (id_is_after ts s reaches is))
    (λ f at. value f (follows_value ts s f reaches at))
row_kind ts s next kind reaches (rows.value n f follows) = value_row s.awaited f next (value_at ts s f reaches follows)
row_kind ts s next kind reaches (rows.set n fits) = set_row s.awaited s next (takes ts s tokens.OpenSet reaches fits)
row_kind ts s next kind reaches (rows.set_end n fits) =
    set_end_row s.awaited s next (takes ts s tokens.Comma reaches fits)
row_kind ts s next kind reaches (rows.relation n fits after) =
    relation_row s.awaited s next (takes ts s (tokens.Relation Equal) reaches fits)
    (λ f is. after (field_is_after ts s f reaches is))
row_kind ts s next kind reaches (rows.relation_or_operator t after fits other) =
    related_row s.awaited s after.operator t other
    (takes ts s (tokens.Join after.operator) reaches after.fits)
    (takes ts s (tokens.Relation Equal) reaches fits)
row_kind ts s next kind reaches (rows.vlan_id n after fits) =
    id_row s.awaited s after.operator n (takes ts s (tokens.Join after.operator) reaches after.fits)
    (takes ts s (tokens.Number (Some 4095)) reaches fits)
row_kind ts s next kind reaches (rows.no_number n after none free) =
    after_row s.awaited s after.operator (Some (tokens.Number n))
    (takes ts s (tokens.Join after.operator) reaches after.fits)
    (untaken ts s (tokens.Number (Some 4095)) reaches none) (untaken ts s (tokens.Relation Equal) reaches free)
row_kind ts s next kind reaches (rows.operator t after none free other) =
    sym (other_kind t other).0
    ∙ after_row s.awaited s after.operator (Some t) (takes ts s (tokens.Join after.operator) reaches after.fits)
    (untaken ts s (tokens.Number (Some 4095)) reaches none) (untaken ts s (tokens.Relation Equal) reaches free)
row_kind ts s next kind reaches (rows.id_or_operator t after fits other) =
    id_or_operator_row s.awaited s after.operator t other
    (takes ts s (tokens.Join after.operator) reaches after.fits)
    (takes ts s (tokens.Number (Some 4095)) reaches fits)
row_kind ts s next kind reaches (rows.mixed operator after) = plain (Some (tokens.Join operator)) refl refl s.awaited
    (after_at ts s reaches after)
row_kind ts s next kind reaches (rows.unopened after) = plain (Some tokens.Close) refl refl s.awaited
    (after_at ts s reaches after)
row_kind ts s next kind reaches (rows.unclosed after) = plain None refl refl s.awaited (after_at ts s reaches after)
