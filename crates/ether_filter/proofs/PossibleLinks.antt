-- What completed packets can make of the primitives about an Ethernet II header.
use Rattle.std.proofs.Common.{◌≡◌, ℕ, ◌-◌, ◌^◌, ◌<◌, ◌≤◌, List, [], ◌∷◌, ◌++◌, length, take, refl, sym, ap, subst, ◌∙◌, arith, inl, inr, Bool, true, false, ◌||◌, nat_eq, IsTrue, ◌↔◌}
use Rattle.std.specs.Prelude.{Some}
use Rattle.std.specs.List.{list_any}
use Rattle.std.proofs.lemmas.List.{append-nil}
use Rattle.std.proofs.lemmas.List.Folds.{list_any-append}
use Rattle.etherparse.specs.Ethernet2.{Ethernet2Value, ethernet2_of}
use Rattle.etherparse.specs.Kind.{Kind}
use Rattle.etherparse.specs.Kind as kinds
use Rattle.etherparse.specs.Header.{Header, kind_of, header_len}
use Rattle.etherparse.specs.Header as headers
use Rattle.ether_peel.specs.Grammar.Window.{Window, payload}
use Rattle.ether_peel.specs.Grammar.Expectation.{Expectation, announced_next, after}
use Rattle.ether_peel.specs.Grammar.Stack.{Ending, Stack, Walk, whole}
use Rattle.ether_peel.specs.Walker.Start.{start_of}
use Rattle.ether_peel.proofs.Grammar.Announced.{announced_is}
use Rattle.ether_filter.specs.declared.can.Can.{Can}
use Rattle.ether_filter.specs.declared.packet.Packet.{Packet}
use Rattle.ether_filter.specs.declared.primitive.Primitive.{Primitive}
use Rattle.ether_filter.specs.declared.primitive.Primitive.TheVariants as primitives
use Rattle.ether_filter.specs.declared.prospect.OpenKind.{OpenKind}
use Rattle.ether_filter.specs.declared.prospect.OpenKind.TheVariants as open_kinds
use Rattle.ether_filter.specs.declared.prospect.Prospect.{Prospect}
use Rattle.ether_filter.specs.Deciding.{is_of_link, is_of_field}
use Rattle.ether_filter.specs.Primitives.{is_group, Walked, walked}
use Rattle.ether_filter.specs.Seen.{matching}
use Rattle.ether_filter.specs.Prospects.{Continues, AreRefused, AreAccepted, IsFixed, IsCut, kind_named}
use Rattle.ether_filter.specs.Later.{IsOpenAs}
use Rattle.ether_filter.specs.OwnFields.{link_test}
use Rattle.ether_filter.specs.Possible.{is_ethernet2}
use Rattle.ether_filter.proofs.Announced.{next_at, only_first}
use Rattle.ether_filter.proofs.Chosen.{some_chosen, link_unit, chosen_addresses}
use Rattle.ether_filter.proofs.Follows.{IsFrom}
use Rattle.ether_filter.proofs.LaterLemmas.{by_either}
use Rattle.ether_filter.proofs.LaterCompletions.{opened}
use Rattle.ether_filter.proofs.Longer.{is_link, none_by, from_is_link, to_is_link, group_is_link}
use Rattle.ether_filter.proofs.Outcomes.{IsOutcome, some_end}
use Rattle.ether_filter.proofs.PossibleLemmas.{neither, front_false, true_or, IsTest, SomeRest, ByTest, test_outcome}
use Rattle.ether_filter.proofs.Prospects.{never_both, ethernet2_is_fixed}
use Rattle.ether_filter.proofs.Tails.{complete, accepted_tail}

-- ---- the test of headers

link_matching : (p : Primitive) (w : Walked) → is_of_link p ≡ true → is_of_field p ≡ false
    → matching w p ≡ list_any (link_test p) w.headers
link_matching (primitives.Source a) w of free = refl
link_matching (primitives.Destination a) w of free = refl
link_matching (primitives.Host a) w of free = refl
link_matching primitives.Broadcast w of free = refl
link_matching primitives.Multicast w of free = refl
link_matching (primitives.Field t) w of free = absurd cc
link_matching p w of free = absurd cc

link_only : (p : Primitive) (h : Header) → is_link h ≡ false → link_test p h ≡ false
link_only (primitives.Source a) h gone = from_is_link a h gone
link_only (primitives.Destination a) h gone = to_is_link a h gone
link_only (primitives.Host a) h gone = rw (from_is_link a h gone) (to_is_link a h gone)
link_only primitives.Broadcast h gone = to_is_link (2 ^ 48 - 1) h gone
link_only primitives.Multicast h gone = group_is_link h gone
link_only p h gone = refl

-- it asks about the two addresses alone
pub same_test : (p : Primitive) (e f : Ethernet2Value) → (e.destination ≡ f.destination) × (e.source ≡ f.source)
    → link_test p (headers.Ethernet2 e) ≡ link_test p (headers.Ethernet2 f)
same_test (primitives.Source a) e f same = ap (nat_eq a) same.1
same_test (primitives.Destination a) e f same = ap (nat_eq a) same.0
same_test (primitives.Host a) e f same = λ i. nat_eq a (same.1 i) || nat_eq a (same.0 i)
same_test primitives.Broadcast e f same = ap (nat_eq (2 ^ 48 - 1)) same.0
same_test primitives.Multicast e f same = ap is_group same.0
same_test p e f same = refl

links_test : (packet : Packet) (hs : List Header) (p : Primitive) → is_of_link p ≡ true → is_of_field p ≡ false
    → IsTest packet hs p (list_any (link_test p) hs) (list_any (link_test p))
links_test packet hs p of free = record {
  splits = λ rest e. link_matching p (walked packet (hs ++ rest) e) of free ∙ list_any-append (link_test p) hs rest;
  none = refl;
}

no_later : (p : Primitive) (later : List Header) → list_any is_link later ≡ false → list_any (link_test p) later ≡ false
no_later p later none = none_by (link_test p) (λ h gone. link_only p h gone) later none

-- ---- if the open unit is no Ethernet II header, or is refused

link_of_kind : (unit : Header) (kind : OpenKind) → kind_of unit ≡ kind_named kind → is_link unit ≡ is_ethernet2 kind
link_of_kind unit kind is = by_unit unit ∙ ap is_link_kind is ∙ by_kind kind
  where
    is_link_kind : Kind → Bool
    is_link_kind kinds.Ethernet2 = true
    is_link_kind kinds.Ethernet2Fcs = true
    is_link_kind k = false

    by_unit : (h : Header) → is_link h ≡ is_link_kind (kind_of h)
    by_unit (headers.Ethernet2 v) = refl
    by_unit (headers.Ethernet2Fcs v) = refl
    by_unit h = refl

    by_kind : (k : OpenKind) → is_link_kind (kind_named k) ≡ is_ethernet2 k
    by_kind open_kinds.Ethernet2 = refl
    by_kind k = refl

pub told_by : (packet : Packet) (hs : List Header) (kind : OpenKind) (known : List ℕ) (room : ℕ) (p : Prospect)
    (primitive : Primitive) → IsOpenAs packet hs kind known room p → is_of_link primitive ≡ true
    → is_of_field primitive ≡ false → ((is_ethernet2 kind ≡ true) × IsTrue p.can_be_accepted → ⊥)
    → ByTest packet hs kind known room p primitive ⊥ (Unit {0})
told_by packet hs kind known room p primitive o of free never = record {
  now = list_any (link_test primitive) hs;
  test = list_any (link_test primitive);
  is = links_test packet hs primitive of free;
  conditions = record {
    some = λ gone. absurd gone;
    every = λ got unit later e f then is.
        (let gone : true ≡ false = sym is ∙ none got unit later f (no_later primitive later then.plain.links) in cc);
    some_not = λ it. some_end packet hs kind known room p 0
        (λ w. (rest : List Header) × (w.headers ≡ hs ++ rest) × (list_any (link_test primitive) rest ≡ false)) o
        (λ gone e some. ([], sym (append-nil hs), refl))
        (λ got unit e f differs last. (unit ∷ [], refl, none got unit [] f refl));
    refused_not = λ gone. tt;
    every_not = λ got unit later e f then is. tt;
  };
}
  where
    none : IsTrue p.can_be_accepted → (unit : Header) (later : List Header) → IsFrom (kind_named kind) known room unit
        → list_any (link_test primitive) later ≡ false → list_any (link_test primitive) (unit ∷ later) ≡ false
    none got unit later f gone = elim (true_or (is_ethernet2 kind)) [
      | inl is ↦ absurd (never (is, got))
      | inr other ↦ neither (link_test primitive unit) (list_any (link_test primitive) later)
          (link_only primitive unit (link_of_kind unit kind f.accepts.of_kind ∙ other)) gone
    ]

-- ---- if it is an Ethernet II header that is accepted

ethernet2_named : (kind : OpenKind) → is_ethernet2 kind ≡ true → kind_named kind ≡ kinds.Ethernet2
ethernet2_named open_kinds.Ethernet2 is = refl
ethernet2_named open_kinds.Vlan is = absurd cc
ethernet2_named open_kinds.LinuxSll is = absurd cc
ethernet2_named open_kinds.Macsec is = absurd cc
ethernet2_named open_kinds.Arp is = absurd cc

ethernet2_cut : (kind : OpenKind) (known : List ℕ) → is_ethernet2 kind ≡ true → IsCut kind known → length known < 14
ethernet2_cut open_kinds.Ethernet2 known is cut = cut
ethernet2_cut open_kinds.Vlan known is cut = absurd cc
ethernet2_cut open_kinds.LinuxSll known is cut = absurd cc
ethernet2_cut open_kinds.Macsec known is cut = absurd cc
ethernet2_cut open_kinds.Arp known is cut = absurd cc

ethernet2_len : (h : Header) → kind_of h ≡ kinds.Ethernet2 → header_len h ≡ 14
ethernet2_len (headers.Ethernet2 e) is = refl
ethernet2_len h is = absurd cc

pub ethernet2_room : (packet : Packet) (hs : List Header) (kind : OpenKind) (known : List ℕ) (room : ℕ) (p : Prospect)
    → IsOpenAs packet hs kind known room p → is_ethernet2 kind ≡ true → IsTrue p.can_be_accepted → 14 ≤ room
ethernet2_room packet hs kind known room p o is got =
    let found = o.prospect.accepted.0 got in
    let len = ethernet2_len found.1 (found.3.of_kind ∙ ethernet2_named kind is) in
    let whole = found.3.means.whole in
    omega (arith, len, whole, found.2.len)

never_refused : (packet : Packet) (hs : List Header) (kind : OpenKind) (known : List ℕ) (room : ℕ) (p : Prospect)
    → IsOpenAs packet hs kind known room p → is_ethernet2 kind ≡ true → IsTrue p.can_be_accepted
    → IsTrue p.can_be_refused → ⊥
never_refused packet hs kind known room p o is got gone =
    let found = o.prospect.refused.0 gone in
    let long = ethernet2_room packet hs kind known room p o is got in
    let le : 14 ≤ length found.0 = omega (arith, long, found.1.len) in
    never_both kinds.Ethernet2 found.0 (ethernet2_is_fixed.header found.0 found.1.are_bytes le)
    (subst (λ (k : Kind). AreRefused k found.0) (ethernet2_named kind is) found.2)
    (ethernet2_is_fixed.accepted found.0 found.1.are_bytes le)

-- what announces a header among others
announces_at : (list : List ℕ) (x : Expectation) (w : Window) (hs : List Header) (h : Header) (ts : List Header)
    (e : Ending) → Stack list x w (hs ++ h ∷ ts) e → announced_next (next_at x.next hs) ≡ Some (kind_of h)
announces_at list x w [] h ts e s = announced_is x (kind_of h) s.0.announced
announces_at list x w (k ∷ hs) h ts e s = announces_at list (after x k) (payload w k) hs h ts e s.1

-- an Ethernet II header is the first one
first_unit : (packet : Packet) (hs : List Header) (kind : OpenKind) (known : List ℕ) (room : ℕ) (p : Prospect)
    → IsOpenAs packet hs kind known room p → is_ethernet2 kind ≡ true → IsTrue p.can_be_accepted → hs ≡ []
first_unit packet hs kind known room p o is got =
    let found = o.prospect.accepted.0 got in
    let unit = opened packet hs kind known room p o in
    let c = complete packet hs (kind_named kind) known room unit found.0 o.bytes found.2 in
    let list = packet.frame.now ++ c.more in
    let h = found.1 in
    let a = subst (λ (l : List ℕ). AreAccepted (kind_named kind) l h) (sym c.window_is) found.3 in
    let b = accepted_tail list unit.expected unit.window
    (kind_named kind) h c.later c.ending unit.announces a c.stack in
    let walk = subst (λ (l : List Header). Walk (start_of packet.start) list (hs ++ l) c.ending) b.is c.walk in
    let start = start_of packet.start in
    let announces = announces_at list start (whole start list) hs h b.later c.ending walk in
    only_first packet.start hs kinds.Ethernet2
    (announces ∙ ap Some (found.3.of_kind ∙ ethernet2_named kind is)) refl

-- bytes that go on are an Ethernet II header for which this is so
abbrev pub SomeLink : List ℕ → ℕ → (Header → Type 0) → Type 0
SomeLink known room Is = (bytes : List ℕ) × Continues known room bytes × Is (headers.Ethernet2 (ethernet2_of bytes))

own_link : (packet : Packet) (hs : List Header) (kind : OpenKind) (known : List ℕ) (room : ℕ) (p : Prospect)
    (primitive : Primitive) (b : Bool) → IsOpenAs packet hs kind known room p → is_ethernet2 kind ≡ true
    → IsTrue p.can_be_accepted → SomeLink known room (λ h. link_test primitive h ≡ b)
    → SomeRest packet hs (λ rest. list_any (link_test primitive) rest ≡ b)
own_link packet hs kind known room p primitive b o own got (bytes, on, is) =
    let long = ethernet2_room packet hs kind known room p o own got in
    some_chosen packet hs kind known room 14 p
    (λ w. (rest : List Header) × (w.headers ≡ hs ++ rest) × (list_any (link_test primitive) rest ≡ b)) o
    (subst (λ (k : Kind). IsFixed k 14) (sym (ethernet2_named kind own)) ethernet2_is_fixed) (omega arith)
    (ethernet2_cut kind known own o.cut) long bytes on
    (λ unit e f. (let g = subst (λ (k : Kind). IsFrom k (take 13 bytes) room unit) (ethernet2_named kind own) f in (
      unit ∷ [],
      refl,
      alone (link_test primitive unit) b
          (ap (link_test primitive) (link_unit (take 13 bytes) room unit g long)
          ∙ same_test primitive (ethernet2_of g.bytes) (ethernet2_of bytes)
          (chosen_addresses bytes g.bytes room long on.len g.on) ∙ is),
    )))
  where
    alone : (a c : Bool) → a ≡ c → (a || false) ≡ c
    alone true c is = is
    alone false c is = is

pub link_outcome : (packet : Packet) (hs : List Header) (kind : OpenKind) (known : List ℕ) (room : ℕ) (p : Prospect)
    (primitive : Primitive) (can : Can) → IsOpenAs packet hs kind known room p → is_of_link primitive ≡ true
    → is_of_field primitive ≡ false → is_ethernet2 kind ≡ true → IsTrue p.can_be_accepted
    → IsTrue can.matches ↔ SomeLink known room (λ h. link_test primitive h ≡ true)
    → IsTrue can.fails ↔ SomeLink known room (λ h. link_test primitive h ≡ false) → IsOutcome packet primitive can
link_outcome packet hs kind known room p primitive can o of free own got matches fails =
    test_outcome packet hs kind known room p primitive (list_any (link_test primitive) hs)
    (list_any (link_test primitive)) (SomeLink known room (λ h. link_test primitive h ≡ true))
    (SomeLink known room (λ h. link_test primitive h ≡ false)) can o (links_test packet hs primitive of free)
    (record {
      some = own_link packet hs kind known room p primitive true o own got;
      every = λ it unit later e f then is.
          (let g = from unit f in (
            g.bytes,
            g.on,
            sym (ap (link_test primitive) (link_unit known room unit g long))
                ∙ by_either (link_test primitive unit) (list_any (link_test primitive) later)
                (link_test primitive unit ≡ true) (λ t. t)
                (λ more. absurd (let gone : true ≡ false = sym more
                ∙ no_later primitive later then.plain.links in cc)) is,
          ));
      some_not = own_link packet hs kind known room p primitive false o own got;
      refused_not = λ gone. absurd (never_refused packet hs kind known room p o own got gone);
      every_not = λ it unit later e f then is.
          (let g = from unit f in (
            g.bytes,
            g.on,
            sym (ap (link_test primitive) (link_unit known room unit g long))
                ∙ front_false (link_test primitive unit) (list_any (link_test primitive) later) is,
          ));
    }) (
      λ t. inr (matches.0 t),
      λ why. matches.1 (elim why [
        | inl now ↦ absurd (let gone : false ≡ true = sym (ap (list_any (link_test primitive)) none) ∙ now in cc)
        | inr some ↦ some
      ]),
    )
    (λ t. (ap (list_any (link_test primitive)) none, fails.0 t), λ both. fails.1 both.1)
  where
    none : hs ≡ []
    none = first_unit packet hs kind known room p o own got

    long : 14 ≤ room
    long = ethernet2_room packet hs kind known room p o own got

    from : (unit : Header) → IsFrom (kind_named kind) known room unit → IsFrom kinds.Ethernet2 known room unit
    from unit f = subst (λ (k : Kind). IsFrom k known room unit) (ethernet2_named kind own) f
