-- What is kept of a walk, after a further VLAN tag and after a further header.
use Rattle.std.proofs.Common.{◌≡◌, ℕ, ◌-◌, ◌^◌, ◌<◌, ◌≤◌, List, length, arith, [], ◌∷◌, ◌++◌, refl, sym, ap, subst, ◌∙◌, Bool, true, false, ◌||◌, nat_eq}
use Rattle.std.specs.Prelude.{Option, Some, None}
use Rattle.std.specs.List.{list_any}
use Rattle.std.proofs.Math.Bool.{or-false}
use Rattle.std.proofs.lemmas.Bool.{false_from_ne_true, eq-eqb, or_right}
use Rattle.std.proofs.lemmas.List.{append-nil}
use Rattle.std.proofs.lemmas.List.Folds.{list_any-append}
use Rattle.etherparse.specs.Header.{Header, kind_of, Means}
use Rattle.etherparse.specs.Header as headers
use Rattle.etherparse.specs.Kind.{Kind}
use Rattle.etherparse.specs.Kind as kinds
use Rattle.etherparse.proofs.Numbers.{number-spelled}
use Rattle.ether_peel.specs.Grammar.Expectation.{Next, announced_by, announced_next}
use Rattle.ether_peel.specs.Walker.Start.{next_of}
use Rattle.ether_peel.specs.declared.start.Start.{Start as PeelStart}
use Rattle.ether_filter.specs.declared.primitive.Primitive.{Primitive}
use Rattle.ether_filter.specs.declared.primitive.Primitive.TheVariants as primitives
use Rattle.ether_filter.specs.declared.seen.Addresses.{Addresses}
use Rattle.ether_filter.specs.declared.seen.Seen.{Seen}
use Rattle.ether_filter.specs.declared.tag_marks.TagTypes.{TagTypes}
use Rattle.ether_filter.specs.Deciding.{is_of_link}
use Rattle.ether_filter.specs.Fields.{fields_of, shown_by_link}
use Rattle.ether_filter.specs.Primitives.{is_sec_tag, is_from, is_to, is_to_group, vlan_ids, listed, ether_type_of}
use Rattle.ether_filter.specs.TagMarks.{is_some_number, has_bit, has_tag_type}
use Rattle.ether_filter.specs.Seen.{link_after, sec_tag_after, arp_after, tag_id, outer_after, inner_after, more_after, AreSet, AreMarked, IsTaken, seen_in_link, announced_before, was_announced, first, last_other}
use Rattle.ether_filter.proofs.Announced.{next_at, followed, followed_after, listed_any, vlan_type, sec_tag_type, arp_type, is_first, never_first, kind_of_type, by_type, only_first}
use Rattle.ether_filter.proofs.Identifiers.{last_other_after}

-- ---- VLAN tags

-- three or more
abbrev pub has_three : List ℕ → Bool
has_three (a ∷ b ∷ c ∷ ids) = true
has_three _ = false

first_more : (ids : List ℕ) (tag : Option ℕ) → outer_after (first ids) tag ≡ first (ids ++ listed tag)
first_more [] None = refl
first_more [] (Some id) = refl
first_more (i ∷ ids) tag = refl

last_more : (ids : List ℕ) (tag : Option ℕ)
    → inner_after (first ids) (last_other ids) tag ≡ last_other (ids ++ listed tag)
last_more [] None = refl
last_more [] (Some id) = refl
last_more (i ∷ ids) None = ap last_other (sym (append-nil (i ∷ ids)))
last_more (i ∷ ids) (Some id) = sym (last_other_after i id ids)

three_more : (ids : List ℕ) (tag : Option ℕ)
    → more_after (has_three ids) (first ids) (last_other ids) tag ≡ has_three (ids ++ listed tag)
three_more [] None = refl
three_more [] (Some id) = refl
three_more (a ∷ []) None = refl
three_more (a ∷ []) (Some id) = refl
three_more (a ∷ b ∷ []) None = refl
three_more (a ∷ b ∷ []) (Some id) = refl
three_more (a ∷ b ∷ c ∷ ids) None = refl
three_more (a ∷ b ∷ c ∷ ids) (Some id) = refl

any_more : (n : ℕ) (ids : List ℕ) (tag : Option ℕ)
    → list_any (nat_eq n) (ids ++ listed tag) ≡ (list_any (nat_eq n) ids || is_some_number n tag)
any_more n ids tag =
    list_any-append (nat_eq n) ids (listed tag) ∙ ap (λ b. list_any (nat_eq n) ids || b) (listed_any n tag)

-- an identifier below 4096
abbrev Fits : Option ℕ → Type 0
Fits tag = (id : ℕ) → tag ≡ Some id → id < 4096

marks_more : (old new : List ℕ) (tag : Option ℕ) → Fits tag → 64 ≤ length old → AreMarked old tag new → (n : ℕ)
    → has_bit new n ≡ (has_bit old n || is_some_number n tag)
marks_more old new None fits room are n = rw are (sym (or-false (has_bit old n)))
marks_more old new (Some id) fits room are n = are (omega (arith, fits id refl, room)) n

-- ---- a header

vlan_ids-append : (hs ks : List Header) → vlan_ids (hs ++ ks) ≡ vlan_ids hs ++ vlan_ids ks
vlan_ids-append [] ks = refl
vlan_ids-append (headers.Vlan v ∷ hs) ks = ap (λ (l : List ℕ). v.vid ∷ l) (vlan_ids-append hs ks)
vlan_ids-append (h ∷ hs) ks = vlan_ids-append hs ks

ids_of_one : (h : Header) → vlan_ids (h ∷ []) ≡ listed (tag_id (fields_of h))
ids_of_one (headers.Vlan v) = refl
ids_of_one h = refl

ids_after : (done : List Header) (h : Header)
    → vlan_ids (done ++ h ∷ []) ≡ vlan_ids done ++ listed (tag_id (fields_of h))
ids_after done h = vlan_ids-append done (h ∷ []) ∙ ap (λ (l : List ℕ). vlan_ids done ++ l) (ids_of_one h)

tag_fits : (bytes : List ℕ) (h : Header) → Means bytes h → Fits (tag_id (fields_of h))
tag_fits bytes (headers.Vlan v) m id is =
    let same : v.vid ≡ id = cc in
    subst (λ (n : ℕ). n < 4096) same m.spells.fits.vid
tag_fits bytes h m id is = absurd cc

sec_tag_more : (b : Bool) (h : Header) → sec_tag_after b (fields_of h) ≡ (b || list_any is_sec_tag (h ∷ []))
sec_tag_more true (headers.Macsec t) = refl
sec_tag_more false (headers.Macsec t) = refl
sec_tag_more b h = sym (or-false b)

-- ---- a link

abbrev pub link_test : Primitive → Header → Bool
link_test (primitives.Source a) = is_from a
link_test (primitives.Destination a) = is_to a
link_test (primitives.Host a) = λ h. is_from a h || is_to a h
link_test primitives.Broadcast = is_to (2 ^ 48 - 1)
link_test primitives.Multicast = is_to_group
link_test _ = λ h. false

-- an Ethernet II header
abbrev pub is_link : Header → Bool
is_link (headers.Ethernet2 e) = true
is_link (headers.Ethernet2Fcs e) = true
is_link _ = false

by_link : (p : Primitive) (destination source type : ℕ) → shown_by_link p destination source
    ≡ link_test p (headers.Ethernet2 (record { destination = destination; source = source; ether_type = type }))
by_link (primitives.Source a) d s t = refl
by_link p d s t = refl

by_link_fcs : (p : Primitive) (destination source type : ℕ) → shown_by_link p destination source
    ≡ link_test p (headers.Ethernet2Fcs (record { destination = destination; source = source; ether_type = type }))
by_link_fcs (primitives.Source a) d s t = refl
by_link_fcs p d s t = refl

link_shown : (p : Primitive) (bytes : List ℕ) (h : Header) (link : Option Addresses) → Means bytes h
    → is_link h ≡ true → seen_in_link p (link_after link (fields_of h)) ≡ link_test p h
link_shown p bytes (headers.Ethernet2 e) link m is =
    rw (number-spelled 6 e.source m.spells.fits.source, number-spelled 6 e.destination m.spells.fits.destination)
    (by_link p e.destination e.source e.ether_type)
link_shown p bytes (headers.Ethernet2Fcs e) link m is =
    rw (number-spelled 6 e.source m.spells.fits.source, number-spelled 6 e.destination m.spells.fits.destination)
    (by_link_fcs p e.destination e.source e.ether_type)
link_shown p bytes h link m is = absurd cc

link_kept : (p : Primitive) (h : Header) (link : Option Addresses) → is_link h ≡ false
    → (link_after link (fields_of h) ≡ link) × (link_test p h ≡ false)
link_kept p (headers.Ethernet2 e) link is = absurd cc
link_kept p (headers.Ethernet2Fcs e) link is = absurd cc
link_kept (primitives.Source a) h link is = (refl, refl)
link_kept p h link is = (refl, refl)

link_kind : (h : Header) → is_link h ≡ true → is_first (kind_of h) ≡ true
link_kind (headers.Ethernet2 e) is = refl
link_kind (headers.Ethernet2Fcs e) is = refl
link_kind h is = absurd cc

-- ---- what is kept of the headers that were read

pub record Keeps (start : PeelStart) (done : List Header) (s : Seen) (ids : List ℕ) : Type 0 where
  pub outer : s.outer ≡ first (vlan_ids done)
  pub inner : s.inner ≡ last_other (vlan_ids done)
  pub more : s.has_more ≡ has_three (vlan_ids done)
  pub marks : 64 ≤ length ids → (n : ℕ) → has_bit ids n ≡ list_any (nat_eq n) (vlan_ids done)
  pub sec_tag : s.has_sec_tag ≡ list_any is_sec_tag done
  pub types : (n : ℕ) → was_announced n s ≡ list_any (nat_eq n) (followed (next_of start) done)
  pub link : (p : Primitive) → is_of_link p ≡ true → seen_in_link p s.link ≡ list_any (link_test p) done

-- an ether type that announces another kind does not announce this header
not_announced : (n : ℕ) (next : Next) (h : Header) (a : Option Kind) → announced_next next ≡ Some (kind_of h)
    → announced_by n ≡ a → (Some (kind_of h) ≡ a → ⊥) → is_some_number n (ether_type_of next) ≡ false
not_announced n next h a announced is other =
    false_from_ne_true (is_some_number n (ether_type_of next))
    (λ t. other (sym announced ∙ kind_of_type n next t ∙ is))

-- .. one that announces its kind does, if it is not the first one of a walk
is_the_type : (start : PeelStart) (done : List Header) (n m : ℕ) (kind : Kind)
    → announced_next (next_at (next_of start) done) ≡ Some kind → is_first kind ≡ false
    → ((k : ℕ) → announced_by k ≡ Some kind → k ≡ m) → announced_by n ≡ Some kind
    → is_some_number n (ether_type_of (next_at (next_of start) done)) ≡ true
is_the_type start done n m kind announced other one is =
    let t = by_type start done kind announced other in
    rw t.1 (eq-eqb n t.0 (one n is ∙ sym (one t.0 t.2)))

tag_announced : (n : ℕ) (next : Next) (h : Header) (old new : TagTypes) → announced_next next ≡ Some (kind_of h)
    → AreSet old (fields_of h) (ether_type_of next) new → announced_by n ≡ Some kinds.Vlan
    → has_tag_type new n ≡ (has_tag_type old n || is_some_number n (ether_type_of next))
tag_announced n next (headers.Vlan v) old new announced are is = are n (vlan_type n is)
tag_announced n next h old new announced are is =
    rw (not_announced n next h (Some kinds.Vlan) announced is (λ same. let same_kind = same in cc), are)
    (sym (or-false (has_tag_type old n)))

sec_tag_announced : (start : PeelStart) (done : List Header) (n : ℕ) (h : Header) (b : Bool)
    → announced_next (next_at (next_of start) done) ≡ Some (kind_of h) → announced_by n ≡ Some kinds.Macsec
    → sec_tag_after b (fields_of h) ≡ (b || is_some_number n (ether_type_of (next_at (next_of start) done)))
sec_tag_announced start done n (headers.Macsec t) b announced is =
    sym (or_right b _ (is_the_type start done n 0x88E5 kinds.Macsec announced refl sec_tag_type is))
sec_tag_announced start done n h b announced is =
    rw (not_announced n (next_at (next_of start) done) h (Some kinds.Macsec) announced is
    (λ same. let same_kind = same in cc)) (sym (or-false b))

arp_announced : (start : PeelStart) (done : List Header) (n : ℕ) (h : Header) (b : Bool)
    → announced_next (next_at (next_of start) done) ≡ Some (kind_of h) → announced_by n ≡ Some kinds.Arp
    → arp_after b (fields_of h) ≡ (b || is_some_number n (ether_type_of (next_at (next_of start) done)))
arp_announced start done n (headers.Arp a) b announced is =
    sym (or_right b _ (is_the_type start done n 0x0806 kinds.Arp announced refl arp_type is))
arp_announced start done n h b announced is =
    rw (not_announced n (next_at (next_of start) done) h (Some kinds.Arp) announced is
    (λ same. let same_kind = same in cc)) (sym (or-false b))

types_next : (start : PeelStart) (done : List Header) (h : Header) (s t : Seen) (n : ℕ) (a : Option Kind)
    → announced_next (next_at (next_of start) done) ≡ Some (kind_of h)
    → IsTaken s (fields_of h) (ether_type_of (next_at (next_of start) done)) t → announced_by n ≡ a
    → announced_before a (has_tag_type t.types n) t.has_sec_tag t.has_arp
    ≡ (announced_before a (has_tag_type s.types n) s.has_sec_tag s.has_arp
    || is_some_number n (ether_type_of (next_at (next_of start) done)))
types_next start done h s t n None announced k is =
    sym (not_announced n (next_at (next_of start) done) h None announced is (λ same. let same_kind = same in cc))
types_next start done h s t n (Some kinds.Vlan) announced k is =
    tag_announced n (next_at (next_of start) done) h s.types t.types announced k.types is
types_next start done h s t n (Some kinds.Macsec) announced k is =
    k.sec_tag ∙ sec_tag_announced start done n h s.has_sec_tag announced is
types_next start done h s t n (Some kinds.Arp) announced k is =
    k.arp ∙ arp_announced start done n h s.has_arp announced is
types_next start done h s t n (Some kinds.Ethernet2) announced k is = absurd (never_first n kinds.Ethernet2 is refl)
types_next start done h s t n (Some kinds.Ethernet2Fcs) announced k is =
    absurd (never_first n kinds.Ethernet2Fcs is refl)
types_next start done h s t n (Some kinds.LinuxSll) announced k is = absurd (never_first n kinds.LinuxSll is refl)

link_next : (start : PeelStart) (done : List Header) (bytes : List ℕ) (h : Header) (s t : Seen) (p : Primitive)
    (link : Bool) → Means bytes h → announced_next (next_at (next_of start) done) ≡ Some (kind_of h)
    → t.link ≡ link_after s.link (fields_of h) → seen_in_link p s.link ≡ list_any (link_test p) done
    → is_link h ≡ link → seen_in_link p t.link ≡ list_any (link_test p) (done ++ h ∷ [])
link_next start done bytes h s t p true m announced is before link =
    let none = only_first start done (kind_of h) announced (link_kind h link) in
    rw (is, none) (link_shown p bytes h s.link m link ∙ sym (or-false (link_test p h)))
link_next start done bytes h s t p false m announced is before link =
    let kept = link_kept p h s.link link in
    ap (seen_in_link p) (is ∙ kept.0) ∙ before
    ∙ sym (list_any-append (link_test p) done (h ∷ [])
    ∙ ap (λ b. list_any (link_test p) done || b) (or-false (link_test p h) ∙ kept.1)
    ∙ or-false (list_any (link_test p) done))

-- after a further header
pub keeps_next : (start : PeelStart) (done : List Header) (bytes : List ℕ) (h : Header) (s t : Seen) (old new : List ℕ)
    → Means bytes h → announced_next (next_at (next_of start) done) ≡ Some (kind_of h) → Keeps start done s old
    → IsTaken s (fields_of h) (ether_type_of (next_at (next_of start) done)) t
    → AreMarked old (tag_id (fields_of h)) new → length new ≡ length old → Keeps start (done ++ h ∷ []) t new
keeps_next start done bytes h s t old new m announced k taken marked len =
    let type = ether_type_of (next_at (next_of start) done) in
    let tag = tag_id (fields_of h) in
    let before = vlan_ids done in
    let ids = ids_after done h in
    record {
      outer = taken.outer ∙ (λ i. outer_after (k.outer i) tag) ∙ first_more before tag ∙ sym (ap first ids);
      inner =
          taken.inner ∙ (λ i. inner_after (k.outer i) (k.inner i) tag) ∙ last_more before tag
          ∙ sym (ap last_other ids);
      more =
          taken.more ∙ (λ i. more_after (k.more i) (k.outer i) (k.inner i) tag) ∙ three_more before tag
          ∙ sym (ap has_three ids);
      marks =
          λ room n.
          let had = subst (λ (m : ℕ). 64 ≤ m) len room in
          marks_more old new tag (tag_fits bytes h m) had marked n
          ∙ ap (λ b. b || is_some_number n tag) (k.marks had n) ∙ sym (any_more n before tag)
          ∙ sym (ap (list_any (nat_eq n)) ids);
      sec_tag =
          taken.sec_tag ∙ sec_tag_more s.has_sec_tag h
          ∙ ap (λ b. b || list_any is_sec_tag (h ∷ [])) k.sec_tag ∙ sym (list_any-append is_sec_tag done (h ∷ []));
      types =
          λ n. types_next start done h s t n (announced_by n) announced taken refl
          ∙ ap (λ b. b || is_some_number n type) (k.types n)
          ∙ ap (λ b. list_any (nat_eq n) (followed (next_of start) done) || b) (sym (listed_any n type))
          ∙ sym (list_any-append (nat_eq n) (followed (next_of start) done) (listed type))
          ∙ ap (list_any (nat_eq n)) (sym (followed_after (next_of start) done h));
      link =
          λ p of. link_next start done bytes h s t p (is_link h) m announced taken.link (k.link p of) refl;
    }
