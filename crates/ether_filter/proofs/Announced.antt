-- The ether types that are announced before and after the headers of a walk.
use Rattle.std.proofs.Common.{◌≡◌, ℕ, List, [], ◌∷◌, ◌++◌, refl, sym, ap, ◌∙◌, Bool, true, false, cond, nat_eq, inl, inr, ◌⊎◌}
use Rattle.std.specs.Prelude.{Option, Some, None, ◌==◌, if◌then◌else◌}
use Rattle.std.specs.List.{list_any}
use Rattle.std.proofs.Math.Bool.{or-false}
use Rattle.std.proofs.lemmas.Bool.{eqb-true}
use Rattle.std.proofs.lemmas.List.{append_assoc, append-nil}
use Rattle.etherparse.specs.LinuxSllProtocolType.{link_protocol_of}
use Rattle.etherparse.specs.Types.LinuxSllProtocolType.{LinuxSllProtocolType}
use Rattle.etherparse.specs.Macsec.{PayloadType}
use Rattle.etherparse.specs.Macsec as payloads
use Rattle.etherparse.specs.Header.{Header}
use Rattle.etherparse.specs.Header as headers
use Rattle.etherparse.specs.Kind.{Kind}
use Rattle.etherparse.specs.Kind as kinds
use Rattle.etherparse.specs.Vlan.{is_vlan_ether_type}
use Rattle.ether_peel.specs.Grammar.Expectation.{Next, Start, EtherType, Sll, Sealed, AfterArp, next_after, after_payload, announced_by, announced_next}
use Rattle.ether_peel.specs.Walker.Start.{next_of}
use Rattle.ether_peel.specs.declared.start.Start.{Start as PeelStart}
use Rattle.ether_peel.specs.declared.start.Start.TheVariants as starts
use Rattle.ether_filter.specs.Primitives.{listed, ether_type_of, ether_types}
use Rattle.ether_filter.specs.TagMarks.{is_some_number}

-- ---- what is announced after some headers, and before each of them

abbrev pub next_at : Next → List Header → Next
next_at next [] = next
next_at next (h ∷ hs) = next_at (next_after h) hs

abbrev pub followed : Next → List Header → List ℕ
followed next [] = []
followed next (h ∷ hs) = listed (ether_type_of next) ++ followed (next_after h) hs

pub next_after_more : (next : Next) (hs : List Header) (h : Header) → next_at next (hs ++ h ∷ []) ≡ next_after h
next_after_more next [] h = refl
next_after_more next (k ∷ hs) h = next_after_more (next_after k) hs h

pub followed_after : (next : Next) (hs : List Header) (h : Header)
    → followed next (hs ++ h ∷ []) ≡ followed next hs ++ listed (ether_type_of (next_at next hs))
followed_after next [] h = append-nil (listed (ether_type_of next))
followed_after next (k ∷ hs) h =
    let here = listed (ether_type_of next) in
    ap (λ (l : List ℕ). here ++ l) (followed_after (next_after k) hs h)
    ∙ sym (append_assoc here (followed (next_after k) hs) (listed (ether_type_of (next_at (next_after k) hs))))

-- .. together
pub ether_types_are : (next : Next) (hs : List Header)
    → ether_types next hs ≡ followed next hs ++ listed (ether_type_of (next_at next hs))
ether_types_are next [] = refl
ether_types_are next (h ∷ hs) =
    let here = listed (ether_type_of next) in
    ap (λ (l : List ℕ). here ++ l) (ether_types_are (next_after h) hs)
    ∙ sym (append_assoc here (followed (next_after h) hs) (listed (ether_type_of (next_at (next_after h) hs))))

pub listed_any : (n : ℕ) (o : Option ℕ) → list_any (nat_eq n) (listed o) ≡ is_some_number n o
listed_any n None = refl
listed_any n (Some m) = or-false (nat_eq n m)

-- ---- the kind that an ether type announces

by_tests : (a b c : Bool) (kind : Kind)
    → (if a then Some kinds.Vlan else (if b then Some kinds.Macsec else (if c then Some kinds.Arp else None)))
    ≡ Some kind
    → ((a ≡ true) × (kind ≡ kinds.Vlan)) ⊎ (((b ≡ true) × (kind ≡ kinds.Macsec)) ⊎ ((c ≡ true) × (kind ≡ kinds.Arp)))
by_tests true b c kind is = inl (refl, cc)
by_tests false true c kind is = inr (inl (refl, cc))
by_tests false false true kind is = inr (inr (refl, cc))
by_tests false false false kind is = absurd cc

pub kinds_of_type : (n : ℕ) (kind : Kind) → announced_by n ≡ Some kind
    → ((is_vlan_ether_type n ≡ true) × (kind ≡ kinds.Vlan))
    ⊎ (((nat_eq n 0x88E5 ≡ true) × (kind ≡ kinds.Macsec)) ⊎ ((nat_eq n 0x0806 ≡ true) × (kind ≡ kinds.Arp)))
kinds_of_type n kind is = by_tests (is_vlan_ether_type n) (nat_eq n 0x88E5) (nat_eq n 0x0806) kind is

pub vlan_type : (n : ℕ) → announced_by n ≡ Some kinds.Vlan → is_vlan_ether_type n ≡ true
vlan_type n is = elim (kinds_of_type n kinds.Vlan is) [
  | inl vlan ↦ vlan.0
  | inr (inl sec_tag) ↦ let other = sec_tag.1 in absurd cc
  | inr (inr arp) ↦ let other = arp.1 in absurd cc
]

pub sec_tag_type : (n : ℕ) → announced_by n ≡ Some kinds.Macsec → n ≡ 0x88E5
sec_tag_type n is = elim (kinds_of_type n kinds.Macsec is) [
  | inl vlan ↦ let other = vlan.1 in absurd cc
  | inr (inl sec_tag) ↦ eqb-true n 0x88E5 sec_tag.0
  | inr (inr arp) ↦ let other = arp.1 in absurd cc
]

pub arp_type : (n : ℕ) → announced_by n ≡ Some kinds.Arp → n ≡ 0x0806
arp_type n is = elim (kinds_of_type n kinds.Arp is) [
  | inl vlan ↦ let other = vlan.1 in absurd cc
  | inr (inl sec_tag) ↦ let other = sec_tag.1 in absurd cc
  | inr (inr arp) ↦ eqb-true n 0x0806 arp.0
]

-- a kind with which a walk can begin
abbrev pub is_first : Kind → Bool
is_first kinds.Ethernet2 = true
is_first kinds.Ethernet2Fcs = true
is_first kinds.LinuxSll = true
is_first _ = false

pub never_first : (n : ℕ) (kind : Kind) → announced_by n ≡ Some kind → is_first kind ≡ true → ⊥
never_first n kind is begins = elim (kinds_of_type n kind is) [
  | inl vlan ↦ (let no : false ≡ true = sym (ap is_first vlan.1) ∙ begins in cc)
  | inr (inl sec_tag) ↦ (let no : false ≡ true = sym (ap is_first sec_tag.1) ∙ begins in cc)
  | inr (inr arp) ↦ (let no : false ≡ true = sym (ap is_first arp.1) ∙ begins in cc)
]

-- ---- the first header of a walk

abbrev is_start : Next → Bool
is_start (Start kind) = true
is_start _ = false

capture_next : (b : Bool) (n : ℕ) (protocol : LinuxSllProtocolType)
    → is_start (cond b (EtherType n) (Sll protocol)) ≡ false
capture_next true n protocol = refl
capture_next false n protocol = refl

payload_next : (p : PayloadType) → is_start (after_payload p) ≡ false
payload_next (payloads.Unmodified ether_type) = refl
payload_next p = refl

never_start : (h : Header) → is_start (next_after h) ≡ false
never_start (headers.LinuxSll s) =
    capture_next (s.hardware_type == 1) s.protocol (link_protocol_of s.hardware_type s.protocol)
never_start (headers.Macsec t) = payload_next t.payload_type
never_start h = refl

later_next : (h : Header) (hs : List Header) → is_start (next_at (next_after h) hs) ≡ false
later_next h [] = never_start h
later_next h (k ∷ hs) = later_next k hs

begins_with : (start : PeelStart) (kind : Kind) → next_of start ≡ Start kind → is_first kind ≡ true
begins_with starts.Ethernet2 kind is = let same : kinds.Ethernet2 ≡ kind = cc in ap is_first (sym same)
begins_with starts.Ethernet2Fcs kind is = let same : kinds.Ethernet2Fcs ≡ kind = cc in ap is_first (sym same)
begins_with starts.LinuxSll kind is = let same : kinds.LinuxSll ≡ kind = cc in ap is_first (sym same)
begins_with (starts.EtherType t) kind is = absurd cc

starts_with : (start : PeelStart) (done : List Header) (kind : Kind) → next_at (next_of start) done ≡ Start kind
    → (done ≡ []) × (is_first kind ≡ true)
starts_with start [] kind is = (refl, begins_with start kind is)
starts_with start (h ∷ hs) kind is = let no : true ≡ false = sym (ap is_start is) ∙ later_next h hs in absurd cc

-- a header of a kind with which a walk can begin is the first one
first_of : (start : PeelStart) (done : List Header) (kind : Kind) (next : Next) → next_at (next_of start) done ≡ next
    → announced_next next ≡ Some kind → is_first kind ≡ true → done ≡ []
first_of start done kind (Start k) is announced begins = (starts_with start done k is).0
first_of start done kind (EtherType n) is announced begins = absurd (never_first n kind announced begins)
first_of start done kind (Sll protocol) is announced begins = absurd cc
first_of start done kind Sealed is announced begins = absurd cc
first_of start done kind AfterArp is announced begins = absurd cc

pub only_first : (start : PeelStart) (done : List Header) (kind : Kind)
    → announced_next (next_at (next_of start) done) ≡ Some kind → is_first kind ≡ true → done ≡ []
only_first start done kind announced begins =
    first_of start done kind (next_at (next_of start) done) refl announced begins

-- .. any other one is announced by an ether type
type_of : (start : PeelStart) (done : List Header) (kind : Kind) (next : Next) → next_at (next_of start) done ≡ next
    → announced_next next ≡ Some kind → is_first kind ≡ false
    → (n : ℕ) × (ether_type_of next ≡ Some n) × (announced_by n ≡ Some kind)
type_of start done kind (Start k) is announced other =
    let same : k ≡ kind = cc in
    let no : true ≡ false = sym (starts_with start done k is).1 ∙ ap is_first same ∙ other in
    absurd cc
type_of start done kind (EtherType n) is announced other = (n, refl, announced)
type_of start done kind (Sll protocol) is announced other = absurd cc
type_of start done kind Sealed is announced other = absurd cc
type_of start done kind AfterArp is announced other = absurd cc

pub by_type : (start : PeelStart) (done : List Header) (kind : Kind)
    → announced_next (next_at (next_of start) done) ≡ Some kind → is_first kind ≡ false
    → (n : ℕ) × (ether_type_of (next_at (next_of start) done) ≡ Some n) × (announced_by n ≡ Some kind)
by_type start done kind announced other =
    type_of start done kind (next_at (next_of start) done) refl announced other

-- an ether type that announces a header announces its kind
pub kind_of_type : (n : ℕ) (next : Next) → is_some_number n (ether_type_of next) ≡ true
    → announced_next next ≡ announced_by n
kind_of_type n (EtherType m) is = ap announced_by (sym (eqb-true n m is))
kind_of_type n next is = absurd cc
