-- What completed packets can make of the primitives about VLAN tags, SecTags, ether types and refusals.
use Rattle.std.proofs.Common.{◌≡◌, ℕ, ◌<◌, ◌≤◌, List, [], ◌∷◌, ◌++◌, length, refl, sym, ap, subst, ◌∙◌, arith, inl, inr, ◌⊎◌, Bool, true, false, ◌||◌, nat_eq, IsTrue, ◌↔◌}
use Rattle.std.specs.Prelude.{is_some}
use Rattle.std.specs.List.{list_any}
use Rattle.std.proofs.Math.Bool.{or-false}
use Rattle.std.proofs.lemmas.Bool.{eqb-true}
use Rattle.std.proofs.lemmas.List.{append-nil}
use Rattle.std.proofs.lemmas.List.Folds.{list_any-append}
use Rattle.etherparse.specs.Kind.{Kind}
use Rattle.etherparse.specs.Kind as kinds
use Rattle.etherparse.specs.Header.{Header, kind_of, header_len}
use Rattle.etherparse.specs.Header as headers
use Rattle.ether_peel.specs.Grammar.Expectation.{Next, Start, EtherType, Sll, Sealed, AfterArp, next_after}
use Rattle.ether_peel.specs.Grammar.Stack.{Ending}
use Rattle.ether_peel.specs.Grammar.Endings.{refusal_of}
use Rattle.ether_peel.specs.Walker.Start.{next_of}
use Rattle.ether_filter.specs.declared.can.Can.{Can}
use Rattle.ether_filter.specs.declared.packet.Packet.{Packet}
use Rattle.ether_filter.specs.declared.primitive.Primitive.{Primitive}
use Rattle.ether_filter.specs.declared.primitive.Primitive.TheVariants as primitives
use Rattle.ether_filter.specs.declared.prospect.OpenKind.{OpenKind}
use Rattle.ether_filter.specs.declared.prospect.OpenKind.TheVariants as open_kinds
use Rattle.ether_filter.specs.declared.prospect.Prospect.{Prospect}
use Rattle.ether_filter.specs.Primitives.{is_tag, is_sec_tag, ether_types, walked}
use Rattle.ether_filter.specs.Seen.{matching}
use Rattle.ether_filter.specs.Prospects.{AreRefused, kind_named}
use Rattle.ether_filter.specs.Later.{CanTag, CanSecTag, CanType, CanRefuse, SomeCompletion, HasAfter, IsOpenAs}
use Rattle.ether_filter.specs.Possible.{is_vlan, is_macsec}
use Rattle.ether_filter.proofs.Follows.{IsFrom}
use Rattle.ether_filter.proofs.LaterLemmas.{IsAfter, by_either}
use Rattle.ether_filter.proofs.LaterCompletions.{sec_tag_follows, type_follows, refusal_follows}
use Rattle.ether_filter.proofs.Longer.{types_after, types_append}
use Rattle.ether_filter.proofs.Outcomes.{IsOutcome, every_by, some_refused, some_alone, some_end, some_tag}
use Rattle.ether_filter.proofs.Prospects.{never_both, vlan_is_fixed}

-- ---- tests of a list that goes on

pub in_front : (a b : Bool) → a ≡ true → (a || b) ≡ true
in_front true b is = refl
in_front false b is = absurd cc

pub behind : (a b : Bool) → b ≡ true → (a || b) ≡ true
behind true b is = refl
behind false b is = is

pub neither : (a b : Bool) → a ≡ false → b ≡ false → (a || b) ≡ false
neither true b is gone = is
neither false b is gone = gone

pub front_false : (a b : Bool) → (a || b) ≡ false → a ≡ false
front_false true b is = is
front_false false b is = refl

pub back_false : (a b : Bool) → (a || b) ≡ false → b ≡ false
back_false true b is = absurd cc
back_false false b is = is

pub true_or : (b : Bool) → (b ≡ true) ⊎ (b ≡ false)
true_or true = inl refl
true_or false = inr refl

-- ---- the kind of a unit

pub tag_of_kind : (unit : Header) (kind : OpenKind) → kind_of unit ≡ kind_named kind → is_tag unit ≡ is_vlan kind
tag_of_kind unit kind is = by_unit unit ∙ ap is_tag_kind is ∙ by_kind kind
  where
    is_tag_kind : Kind → Bool
    is_tag_kind kinds.Vlan = true
    is_tag_kind k = false

    by_unit : (h : Header) → is_tag h ≡ is_tag_kind (kind_of h)
    by_unit (headers.Vlan v) = refl
    by_unit h = refl

    by_kind : (k : OpenKind) → is_tag_kind (kind_named k) ≡ is_vlan k
    by_kind open_kinds.Vlan = refl
    by_kind k = refl

pub sec_tag_of_kind : (unit : Header) (kind : OpenKind) → kind_of unit ≡ kind_named kind → is_sec_tag unit ≡ is_macsec
    kind
sec_tag_of_kind unit kind is = by_unit unit ∙ ap is_sec_tag_kind is ∙ by_kind kind
  where
    is_sec_tag_kind : Kind → Bool
    is_sec_tag_kind kinds.Macsec = true
    is_sec_tag_kind k = false

    by_unit : (h : Header) → is_sec_tag h ≡ is_sec_tag_kind (kind_of h)
    by_unit (headers.Macsec v) = refl
    by_unit h = refl

    by_kind : (k : OpenKind) → is_sec_tag_kind (kind_named k) ≡ is_macsec k
    by_kind open_kinds.Macsec = refl
    by_kind k = refl

pub vlan_named : (kind : OpenKind) → is_vlan kind ≡ true → kind_named kind ≡ kinds.Vlan
vlan_named open_kinds.Vlan is = refl
vlan_named open_kinds.Ethernet2 is = absurd cc
vlan_named open_kinds.LinuxSll is = absurd cc
vlan_named open_kinds.Macsec is = absurd cc
vlan_named open_kinds.Arp is = absurd cc

vlan_len : (h : Header) → kind_of h ≡ kinds.Vlan → header_len h ≡ 4
vlan_len (headers.Vlan v) is = refl
vlan_len h is = absurd cc

-- a VLAN tag that can be accepted has its four bytes
pub vlan_room : (packet : Packet) (hs : List Header) (kind : OpenKind) (known : List ℕ) (room : ℕ) (p : Prospect)
    → IsOpenAs packet hs kind known room p → is_vlan kind ≡ true → IsTrue p.can_be_accepted → 4 ≤ room
vlan_room packet hs kind known room p o is got =
    let found = o.prospect.accepted.0 got in
    let len = vlan_len found.1 (found.3.of_kind ∙ vlan_named kind is) in
    let whole = found.3.means.whole in
    omega (arith, len, whole, found.2.len)

-- .. and is not refused
pub never_refused : (packet : Packet) (hs : List Header) (kind : OpenKind) (known : List ℕ) (room : ℕ) (p : Prospect)
    → IsOpenAs packet hs kind known room p → is_vlan kind ≡ true → IsTrue p.can_be_accepted → IsTrue p.can_be_refused
    → ⊥
never_refused packet hs kind known room p o is got gone =
    let found = o.prospect.refused.0 gone in
    let long = vlan_room packet hs kind known room p o is got in
    let le : 4 ≤ length found.0 = omega (arith, long, found.1.len) in
    never_both kinds.Vlan found.0 (vlan_is_fixed.header found.0 found.1.are_bytes le)
    (subst (λ (k : Kind). AreRefused k found.0) (vlan_named kind is) found.2)
    (vlan_is_fixed.accepted found.0 found.1.are_bytes le)

-- ---- a primitive that is a test of the headers so far, or one of those that follow

-- its truth, by those that follow
pub record IsTest (packet : Packet) (hs : List Header) (primitive : Primitive) (now : Bool) (test : List Header → Bool)
    : Type 0 where
  pub splits : (rest : List Header) (e : Ending)
      → matching (walked packet (hs ++ rest) e) primitive ≡ (now || test rest)
  pub none : test [] ≡ false

-- some completed packet has, after these headers, further ones that are so
abbrev pub SomeRest : Packet → List Header → (List Header → Type 0) → Type 0
SomeRest packet hs Are = SomeCompletion packet (λ w. (rest : List Header) × (w.headers ≡ hs ++ rest) × Are rest)

-- the conditions under which the test holds, and fails, of those that follow
pub record Conditions (packet : Packet) (hs : List Header) (kind : OpenKind) (known : List ℕ) (room : ℕ) (p : Prospect)
    (test : List Header → Bool) (Holds Fails : Type 0) : Type 0 where
  pub some : Holds → SomeRest packet hs (λ rest. test rest ≡ true)
  pub every : IsTrue p.can_be_accepted → (unit : Header) (later : List Header) (e : Ending)
      → IsFrom (kind_named kind) known room unit → IsAfter p unit later e → test (unit ∷ later) ≡ true → Holds
  pub some_not : Fails → SomeRest packet hs (λ rest. test rest ≡ false)
  pub refused_not : IsTrue p.can_be_refused → Fails
  pub every_not : IsTrue p.can_be_accepted → (unit : Header) (later : List Header) (e : Ending)
      → IsFrom (kind_named kind) known room unit → IsAfter p unit later e → test (unit ∷ later) ≡ false → Fails

-- with none that follow
pub test_at_end : (packet : Packet) (hs : List Header) (primitive : Primitive) (now : Bool) (test : List Header → Bool)
    → IsTest packet hs primitive now test → (e : Ending) → matching (walked packet hs e) primitive ≡ now
test_at_end packet hs primitive now test is e =
    ap (λ (l : List Header). matching (walked packet l e) primitive) (sym (append-nil hs)) ∙ is.splits [] e
    ∙ ap (λ (b : Bool). now || b) is.none ∙ or-false now

-- a primitive that is such a test, and its conditions
pub record ByTest (packet : Packet) (hs : List Header) (kind : OpenKind) (known : List ℕ) (room : ℕ) (p : Prospect)
    (primitive : Primitive) (Holds Fails : Type 0) : Type 0 where
  pub now : Bool
  pub test : List Header → Bool
  pub is : IsTest packet hs primitive now test
  pub conditions : Conditions packet hs kind known room p test Holds Fails

rest_match : (packet : Packet) (hs : List Header) (primitive : Primitive) (now : Bool) (test : List Header → Bool)
    (b : Bool) → IsTest packet hs primitive now test → ((rest : List Header) → test rest ≡ b → (now || test rest) ≡ b)
    → SomeRest packet hs (λ rest. test rest ≡ b) → SomeCompletion packet (λ w. matching w primitive ≡ b)
rest_match packet hs primitive now test b is all s = record {
  more = s.more;
  headers = s.headers;
  ending = s.ending;
  completes = s.completes;
  walk = s.walk;
  holds =
      ap (λ (l : List Header). matching (walked packet l s.ending) primitive) s.holds.1
      ∙ is.splits s.holds.0 s.ending ∙ all s.holds.0 s.holds.2;
}

pub test_outcome : (packet : Packet) (hs : List Header) (kind : OpenKind) (known : List ℕ) (room : ℕ) (p : Prospect)
    (primitive : Primitive) (now : Bool) (test : List Header → Bool) (Holds Fails : Type 0) (can : Can)
    → IsOpenAs packet hs kind known room p → IsTest packet hs primitive now test
    → Conditions packet hs kind known room p test Holds Fails → IsTrue can.matches ↔ ((now ≡ true) ⊎ Holds)
    → IsTrue can.fails ↔ ((now ≡ false) × Fails) → IsOutcome packet primitive can
test_outcome packet hs kind known room p primitive now test Holds Fails can o is c matches fails = record {
  some_match = λ t. elim (matches.0 t) [
    | inl got ↦ some_end packet hs kind known room p 0 (λ w. matching w primitive ≡ true) o
        (λ gone e some. at_end e ∙ got)
        (λ accepts unit e f differs none. is.splits (unit ∷ []) e ∙ in_front now (test (unit ∷ [])) got)
    | inr holds ↦ rest_match packet hs primitive now test true is (λ rest i. behind now (test rest) i) (c.some holds)
  ];
  every_match = every_by packet hs kind known room p
      (λ ks e. matching (walked packet ks e) primitive ≡ true → IsTrue can.matches) o
      (λ gone e some i. matches.1 (inl (sym (at_end e) ∙ i)))
      (λ accepts unit later e f then i. matches.1 (by_either now (test (unit ∷ later)) ((now ≡ true) ⊎ Holds)
      (λ got. inl got) (λ got. inr (c.every accepts unit later e f then got)) (sym (is.splits (unit ∷ later) e) ∙ i)));
  some_fail = λ t. (let both = fails.0 t in
      rest_match packet hs primitive now test false is (λ rest i. neither now (test rest) both.0 i)
      (c.some_not both.1));
  every_fail = every_by packet hs kind known room p
      (λ ks e. matching (walked packet ks e) primitive ≡ false → IsTrue can.fails) o
      (λ gone e some i. fails.1 (sym (at_end e) ∙ i, c.refused_not gone))
      (λ accepts unit later e f then i.
      (let both = sym (is.splits (unit ∷ later) e) ∙ i in
      fails.1 (
        front_false now (test (unit ∷ later)) both,
        c.every_not accepts unit later e f then (back_false now (test (unit ∷ later)) both),
      )));
}
  where
    at_end : (e : Ending) → matching (walked packet hs e) primitive ≡ now
    at_end = test_at_end packet hs primitive now test is

-- ---- `vlan`

vlan_test : (packet : Packet) (hs : List Header)
    → IsTest packet hs primitives.Vlan (list_any is_tag hs) (list_any is_tag)
vlan_test packet hs = record { splits = λ rest e. list_any-append is_tag hs rest; none = refl }

abbrev pub VlanHolds : OpenKind → Prospect → Type 0
VlanHolds kind p = IsTrue p.can_be_accepted × ((is_vlan kind ≡ true) ⊎ CanTag p 4)

abbrev pub VlanFails : OpenKind → Prospect → Type 0
VlanFails kind p = is_vlan kind ≡ true → IsTrue p.can_be_accepted → ⊥

vlan_conditions : (packet : Packet) (hs : List Header) (kind : OpenKind) (known : List ℕ) (room : ℕ) (p : Prospect)
    → IsOpenAs packet hs kind known room p
    → Conditions packet hs kind known room p (list_any is_tag) (VlanHolds kind p) (VlanFails kind p)
vlan_conditions packet hs kind known room p o = record {
  some = λ (got, why). some got why;
  every = λ got unit later e f then is. (
    got,
    by_either (is_tag unit) (list_any is_tag later)
        ((is_vlan kind ≡ true) ⊎ CanTag p 4) (λ own. inl (sym (tag_of_kind unit kind f.accepts.of_kind) ∙ own))
        (λ any. inr (then.tag any)) is,
  );
  some_not = λ never. some_end packet hs kind known room p 0
      (λ w. (rest : List Header) × (w.headers ≡ hs ++ rest) × (list_any is_tag rest ≡ false)) o
      (λ gone e some. ([], sym (append-nil hs), refl))
      (λ got unit e f differs none. (
        unit ∷ [],
        refl,
        neither (is_tag unit) false
            (tag_of_kind unit kind f.accepts.of_kind ∙ not_own never got) refl,
      ));
  refused_not = λ gone own got. never_refused packet hs kind known room p o own got gone;
  every_not = λ got unit later e f then is own accepts.
      (let gone : true ≡ false = sym own ∙ sym (tag_of_kind unit kind f.accepts.of_kind)
      ∙ front_false (is_tag unit) (list_any is_tag later) is in cc);
}
  where
    not_own : VlanFails kind p → IsTrue p.can_be_accepted → is_vlan kind ≡ false
    not_own never got = elim (true_or (is_vlan kind)) [
      | inl own ↦ absurd (never own got)
      | inr other ↦ other
    ]

    some : IsTrue p.can_be_accepted → (is_vlan kind ≡ true) ⊎ CanTag p 4
        → SomeRest packet hs (λ rest. list_any is_tag rest ≡ true)
    some got (inl own) = some_alone packet hs kind known room p 0
        (λ w. (rest : List Header) × (w.headers ≡ hs ++ rest) × (list_any is_tag rest ≡ true)) o got
        (λ unit e f differs none. (
          unit ∷ [],
          refl,
          in_front (is_tag unit) false
              (tag_of_kind unit kind f.accepts.of_kind ∙ own),
        ))
    some got (inr can) = some_tag packet hs kind known room p 0
        (λ w. (rest : List Header) × (w.headers ≡ hs ++ rest) × (list_any is_tag rest ≡ true)) o got can (omega arith)
        (λ unit tag e of_kind is ids. (
          unit ∷ tag ∷ [],
          refl,
          behind (is_tag unit) (is_tag tag || false)
              (in_front (is_tag tag) false is),
        ))

pub vlan_by : (packet : Packet) (hs : List Header) (kind : OpenKind) (known : List ℕ) (room : ℕ) (p : Prospect)
    → IsOpenAs packet hs kind known room p
    → ByTest packet hs kind known room p primitives.Vlan (VlanHolds kind p) (VlanFails kind p)
vlan_by packet hs kind known room p o =
    record {
      now = list_any is_tag hs;
      test = list_any is_tag;
      is = vlan_test packet hs;
      conditions = vlan_conditions
          packet hs kind known room p o;
    }

-- ---- `macsec`

macsec_test : (packet : Packet) (hs : List Header)
    → IsTest packet hs primitives.Macsec (list_any is_sec_tag hs) (list_any is_sec_tag)
macsec_test packet hs = record { splits = λ rest e. list_any-append is_sec_tag hs rest; none = refl }

abbrev pub MacsecHolds : OpenKind → Prospect → Type 0
MacsecHolds kind p = IsTrue p.can_be_accepted × ((is_macsec kind ≡ true) ⊎ CanSecTag p)

abbrev pub MacsecFails : OpenKind → Prospect → Type 0
MacsecFails kind p = is_macsec kind ≡ true → IsTrue p.can_be_refused

after_rest : (packet : Packet) (hs : List Header) (Are : Header → List Header → Ending → Type 0)
    (Rest : List Header → Type 0) → SomeCompletion packet (HasAfter hs Are)
    → ((unit : Header) (later : List Header) (e : Ending) → Are unit later e → Rest (unit ∷ later))
    → SomeRest packet hs Rest
after_rest packet hs Are Rest s f = record {
  more = s.more;
  headers = s.headers;
  ending = s.ending;
  completes = s.completes;
  walk = s.walk;
  holds = (s.holds.0 ∷ s.holds.1, s.holds.2, f s.holds.0 s.holds.1 s.ending s.holds.3);
}

macsec_conditions : (packet : Packet) (hs : List Header) (kind : OpenKind) (known : List ℕ) (room : ℕ) (p : Prospect)
    → IsOpenAs packet hs kind known room p
    → Conditions packet hs kind known room p (list_any is_sec_tag) (MacsecHolds kind p) (MacsecFails kind p)
macsec_conditions packet hs kind known room p o = record {
  some = λ (got, why). some got why;
  every = λ got unit later e f then is. (
    got,
    by_either (is_sec_tag unit) (list_any is_sec_tag later)
        ((is_macsec kind ≡ true) ⊎ CanSecTag p)
        (λ own. inl (sym (sec_tag_of_kind unit kind f.accepts.of_kind) ∙ own)) (λ any. inr (then.sec_tag any)) is,
  );
  some_not = λ never. some_not never (true_or (is_macsec kind));
  refused_not = λ gone own. gone;
  every_not = λ got unit later e f then is own. absurd
      (let gone : true ≡ false = sym own ∙ sym (sec_tag_of_kind unit kind f.accepts.of_kind)
      ∙ front_false (is_sec_tag unit) (list_any is_sec_tag later) is in cc);
}
  where
    some : IsTrue p.can_be_accepted → (is_macsec kind ≡ true) ⊎ CanSecTag p
        → SomeRest packet hs (λ rest. list_any is_sec_tag rest ≡ true)
    some got (inl own) = some_alone packet hs kind known room p 0
        (λ w. (rest : List Header) × (w.headers ≡ hs ++ rest) × (list_any is_sec_tag rest ≡ true)) o got
        (λ unit e f differs none. (
          unit ∷ [],
          refl,
          in_front (is_sec_tag unit) false
              (sec_tag_of_kind unit kind f.accepts.of_kind ∙ own),
        ))
    some got (inr can) = after_rest packet hs (λ unit later e. IsTrue (list_any is_sec_tag later))
        (λ rest. list_any is_sec_tag rest ≡ true) ((sec_tag_follows packet hs kind known room p o).0 (got, can))
        (λ unit later e any. behind (is_sec_tag unit) (list_any is_sec_tag later) any)

    some_not : MacsecFails kind p → (is_macsec kind ≡ true) ⊎ (is_macsec kind ≡ false)
        → SomeRest packet hs (λ rest. list_any is_sec_tag rest ≡ false)
    some_not never (inl own) = some_refused packet hs kind known room p
        (λ w. (rest : List Header) × (w.headers ≡ hs ++ rest) × (list_any is_sec_tag rest ≡ false)) o (never own)
        (λ e some. ([], sym (append-nil hs), refl))
    some_not never (inr other) = some_end packet hs kind known room p 0
        (λ w. (rest : List Header) × (w.headers ≡ hs ++ rest) × (list_any is_sec_tag rest ≡ false)) o
        (λ gone e some. ([], sym (append-nil hs), refl))
        (λ got unit e f differs none. (
          unit ∷ [],
          refl,
          neither (is_sec_tag unit) false
              (sec_tag_of_kind unit kind f.accepts.of_kind ∙ other) refl,
        ))

pub macsec_by : (packet : Packet) (hs : List Header) (kind : OpenKind) (known : List ℕ) (room : ℕ) (p : Prospect)
    → IsOpenAs packet hs kind known room p
    → ByTest packet hs kind known room p primitives.Macsec (MacsecHolds kind p) (MacsecFails kind p)
macsec_by packet hs kind known room p o =
    record {
      now = list_any is_sec_tag hs;
      test = list_any is_sec_tag;
      is = macsec_test packet hs;
      conditions =
          macsec_conditions packet hs kind known room p o;
    }

-- ---- `ether proto`

abbrev pub TypeHolds : Prospect → ℕ → Type 0
TypeHolds p n = IsTrue p.can_be_accepted × CanType p n

abbrev pub types_now : Packet → List Header → ℕ → Bool
types_now packet hs n = list_any (nat_eq n) (ether_types (next_of packet.start) hs)

type_test : (packet : Packet) (hs : List Header) (n : ℕ)
    → IsTest packet hs (primitives.EtherType n) (types_now packet hs n) (λ rest. list_any (nat_eq n) (types_after rest))
type_test packet hs n = record {
  splits = λ rest e. ap (list_any (nat_eq n)) (types_append (next_of packet.start) hs rest)
      ∙ list_any-append (nat_eq n) (ether_types (next_of packet.start) hs) (types_after rest);
  none = refl;
}

other_type : (n : ℕ) (next : Next) → (next ≡ EtherType n → ⊥) → list_any (nat_eq n) (ether_types next []) ≡ false
other_type n (Start kind) never = refl
other_type n (EtherType t) never = elim (true_or (nat_eq n t)) [
  | inl same ↦ absurd (never (ap EtherType (sym (eqb-true n t same))))
  | inr other ↦ neither (nat_eq n t) false other refl
]
other_type n (Sll protocol) never = refl
other_type n Sealed never = refl
other_type n AfterArp never = refl

type_conditions : (packet : Packet) (hs : List Header) (kind : OpenKind) (known : List ℕ) (room : ℕ) (p : Prospect)
    (n : ℕ) → n < 65536 → IsOpenAs packet hs kind known room p
    → Conditions packet hs kind known room p (λ rest. list_any (nat_eq n) (types_after rest)) (TypeHolds p n) (Unit {0})
type_conditions packet hs kind known room p n lt o = record {
  some = λ both. after_rest packet hs
      (λ unit later e. IsTrue (list_any (nat_eq n) (ether_types (next_after unit) later)))
      (λ rest. list_any (nat_eq n) (types_after rest) ≡ true)
      ((type_follows packet hs kind known room p n lt o).0 both) (λ unit later e any. any);
  every = λ got unit later e f then is. (got, then.type n is);
  some_not = λ it. some_end packet hs kind known room p n
      (λ w. (rest : List Header) × (w.headers ≡ hs ++ rest) × (list_any (nat_eq n) (types_after rest) ≡ false)) o
      (λ gone e some. ([], sym (append-nil hs), refl))
      (λ got unit e f differs none. (unit ∷ [], refl, other_type n (next_after unit) differs));
  refused_not = λ gone. tt;
  every_not = λ got unit later e f then is. tt;
}

pub type_by : (packet : Packet) (hs : List Header) (kind : OpenKind) (known : List ℕ) (room : ℕ) (p : Prospect)
    (n : ℕ) → n < 65536 → IsOpenAs packet hs kind known room p
    → ByTest packet hs kind known room p (primitives.EtherType n) (TypeHolds p n) (Unit {0})
type_by packet hs kind known room p n lt o =
    record {
      now = types_now packet hs n;
      test = λ rest. list_any (nat_eq n)
          (types_after rest);
      is = type_test packet hs n;
      conditions = type_conditions packet hs kind known room p n lt o;
    }

-- ---- `refused`

pub refused_outcome : (packet : Packet) (hs : List Header) (kind : OpenKind) (known : List ℕ) (room : ℕ) (p : Prospect)
    (can : Can) → IsOpenAs packet hs kind known room p
    → IsTrue can.matches ↔ (IsTrue p.can_be_refused ⊎ (IsTrue p.can_be_accepted × CanRefuse p))
    → IsTrue can.fails ↔ IsTrue p.can_be_accepted → IsOutcome packet primitives.Refused can
refused_outcome packet hs kind known room p can o matches fails = record {
  some_match = λ t. elim (matches.0 t) [
    | inl gone ↦ some_refused packet hs kind known room p (λ w. is_some (refusal_of w.ending) ≡ true) o gone
        (λ e some. some)
    | inr both ↦ refused_after ((refusal_follows packet hs kind known room p o).0 both)
  ];
  every_match = every_by packet hs kind known room p
      (λ ks e. is_some (refusal_of e) ≡ true → IsTrue can.matches) o (λ gone e some i. matches.1 (inl gone))
      (λ got unit later e f then i. matches.1 (inr (got, then.refusal i)));
  some_fail = λ t. some_alone packet hs kind known room p 0 (λ w. is_some (refusal_of w.ending) ≡ false) o (fails.0 t)
      (λ unit e f differs none. none);
  every_fail = every_by packet hs kind known room p
      (λ ks e. is_some (refusal_of e) ≡ false → IsTrue can.fails) o
      (λ gone e some i. absurd (let both : true ≡ false = sym some ∙ i in cc))
      (λ got unit later e f then i. fails.1 got);
}
  where
    refused_after : SomeCompletion packet (HasAfter hs (λ unit later e. IsTrue (is_some (refusal_of e))))
        → SomeCompletion packet (λ w. is_some (refusal_of w.ending) ≡ true)
    refused_after s = record {
      more = s.more;
      headers = s.headers;
      ending = s.ending;
      completes = s.completes;
      walk = s.walk;
      holds = s.holds.3;
    }
