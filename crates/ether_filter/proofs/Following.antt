-- What an ether type lets follow in a window: no headers that the window has no room for.
use Rattle.std.proofs.Common.{◌≡◌, ℕ, ◌<◌, ◌≤◌, List, [], ◌∷◌, length, refl, sym, ap, ◌∙◌, arith, Bool, true, false, ◌||◌, nat_eq, inl, inr, ◌⊎◌}
use Rattle.std.specs.Prelude.{Some, None, is_some}
use Rattle.std.specs.List.{list_any}
use Rattle.etherparse.specs.Types.LenSource.{LenSource}
use Rattle.etherparse.specs.Vlan.{is_vlan_ether_type}
use Rattle.etherparse.specs.Kind.{Kind}
use Rattle.etherparse.specs.Kind as kinds
use Rattle.etherparse.specs.Macsec.{PayloadType, SecTagValue, ether_type_len, encrypted_of, changed_of}
use Rattle.etherparse.specs.Macsec as payloads
use Rattle.etherparse.specs.Header.{Header, kind_of, header_len}
use Rattle.etherparse.specs.Header as headers
use Rattle.etherparse.specs.Refusal.{Refusal, Refuses}
use Rattle.etherparse.specs.Refusal as rows
use Rattle.ether_peel.specs.Grammar.Window.{Window, within, payload}
use Rattle.ether_peel.specs.Grammar.Expectation.{Expectation, EtherType, Sealed, announced_by, announced_next, after, after_payload}
use Rattle.ether_peel.specs.Grammar.Stack.{Ending, Accepted, Fault, IsUnit, Stack}
use Rattle.ether_peel.specs.Grammar.Endings.{refusal_of}
use Rattle.ether_peel.proofs.Grammar.Announced.{announced_is}
use Rattle.ether_peel.proofs.Grammar.Windows.{shrinks}
use Rattle.ether_filter.specs.Primitives.{is_tag, is_sec_tag, vlan_ids}
use Rattle.ether_filter.proofs.Announced.{vlan_type, sec_tag_type, arp_type, never_first}
use Rattle.ether_filter.proofs.Longer.{types_after}

-- an ether type that announces a VLAN tag or a SecTag
abbrev pub is_lead : ℕ → Bool
is_lead t = is_vlan_ether_type t || nat_eq t 0x88E5

lead_vlan : (t : ℕ) → announced_by t ≡ Some kinds.Vlan → is_lead t ≡ true
lead_vlan t is = rw (vlan_type t is) refl

lead_sec_tag : (t : ℕ) → announced_by t ≡ Some kinds.Macsec → is_lead t ≡ true
lead_sec_tag t is = rw (sec_tag_type t is) refl

-- what announces a unit, where an ether type is expected
announces : (list : List ℕ) (x : Expectation) (w : Window) (h : Header) (t : ℕ) → x.next ≡ EtherType t
    → IsUnit list x w h → announced_by t ≡ Some (kind_of h)
announces list x w h t is u = sym (ap announced_next is) ∙ announced_is x (kind_of h) u.announced

-- nothing follows an ARP packet
pub after_arp : (list : List ℕ) (x : Expectation) (w v : Window) (h : Header) (ts : List Header) (e : Ending)
    → kind_of h ≡ kinds.Arp → Stack list (after x h) v ts e → (ts ≡ []) × (refusal_of e ≡ None)
after_arp list x w v (headers.Arp a) [] (Accepted u y) kind s = (refl, refl)
after_arp list x w v (headers.Arp a) [] (Fault u y r) kind s = let no : None ≡ Some s.2 = s.3 in absurd cc
after_arp list x w v (headers.Arp a) (h ∷ ts) e kind s = let no : None ≡ Some (kind_of h) = s.0.announced in absurd cc
after_arp list x w v h ts e kind s = absurd cc

-- .. or a SecTag without an ether type that can be read
sealed : (list : List ℕ) (x : Expectation) (w : Window) (ts : List Header) (e : Ending) → x.next ≡ Sealed
    → Stack list x w ts e → ts ≡ []
sealed list x w [] e is s = refl
sealed list x w (h ∷ ts) e is s =
    let no : None ≡ Some (kind_of h) = sym (ap announced_next is)
    ∙ announced_is x (kind_of h) s.0.announced in absurd cc

type_len : (list : List ℕ) (x : Expectation) (w : Window) (p : PayloadType) (ts : List Header) (e : Ending)
    → x.next ≡ after_payload p → Stack list x w ts e → (ts ≡ [] → ⊥)
    → ether_type_len (encrypted_of p) (changed_of p) ≡ 2
type_len list x w (payloads.Unmodified u) ts e is s some = refl
type_len list x w payloads.Modified ts e is s some = absurd (some (sealed list x w ts e is s))
type_len list x w payloads.EncryptedUnmodified ts e is s some = absurd (some (sealed list x w ts e is s))
type_len list x w payloads.Encrypted ts e is s some = absurd (some (sealed list x w ts e is s))

-- a SecTag with a header after it has an ether type
with_type : (list : List ℕ) (x : Expectation) (w : Window) (g : SecTagValue) (ts : List Header) (e : Ending)
    → Stack list x w (headers.Macsec g ∷ ts) e → (ts ≡ [] → ⊥) → 8 ≤ header_len (headers.Macsec g)
with_type list x w g ts e s some =
    let two = type_len list (after x (headers.Macsec g))
    (payload w (headers.Macsec g)) g.payload_type ts e refl s.1 some in
    omega (arith, two)

-- ---- tags

pub record TagRoom (list : List ℕ) (w : Window) (t n : ℕ) : Type 0 where
  pub room : n ≤ length (within list w)
  pub leads : is_lead t ≡ true

pub tag_room : (list : List ℕ) (x : Expectation) (w : Window) (ts : List Header) (e : Ending) (t : ℕ)
    → x.next ≡ EtherType t → Stack list x w ts e → list_any is_tag ts ≡ true → TagRoom list w t 4
tag_room list x w [] e t is s any = absurd cc
tag_room list x w (headers.Vlan v ∷ ts) e t is s any = record {
  room = s.0.means.whole;
  leads = lead_vlan t (announces list x w (headers.Vlan v) t is s.0);
}
tag_room list x w (headers.Macsec m ∷ ts) e t is s any = record {
  room = let len = s.0.means.whole in omega arith;
  leads = lead_sec_tag t (announces list x w (headers.Macsec m) t is s.0);
}
tag_room list x w (headers.Arp a ∷ ts) e t is s any =
    let none = (after_arp list x w (payload w (headers.Arp a)) (headers.Arp a) ts e refl s.1).0 in
    let no : false ≡ true = sym (ap (list_any is_tag) none) ∙ any in absurd cc
tag_room list x w (h ∷ ts) e t is s any =
    absurd (never_first t (kind_of h) (announces list x w h t is s.0) refl)

pub has_tag : (ts : List Header) (n : ℕ) (more : List ℕ) → vlan_ids ts ≡ n ∷ more → list_any is_tag ts ≡ true
has_tag [] n more ids = absurd cc
has_tag (headers.Vlan v ∷ ts) n more ids = refl
has_tag (headers.Ethernet2 v ∷ ts) n more ids = has_tag ts n more ids
has_tag (headers.Ethernet2Fcs v ∷ ts) n more ids = has_tag ts n more ids
has_tag (headers.LinuxSll v ∷ ts) n more ids = has_tag ts n more ids
has_tag (headers.Macsec v ∷ ts) n more ids = has_tag ts n more ids
has_tag (headers.Arp v ∷ ts) n more ids = has_tag ts n more ids

-- .. and another one
pub two_tags_room : (list : List ℕ) (x : Expectation) (w : Window) (ts : List Header) (e : Ending) (t n m : ℕ)
    (more : List ℕ) → x.next ≡ EtherType t → Stack list x w ts e → vlan_ids ts ≡ n ∷ m ∷ more → TagRoom list w t 8
two_tags_room list x w [] e t n m more is s ids = absurd cc
two_tags_room list x w (headers.Vlan v ∷ ts) e t n m more is s ids =
    let rest : vlan_ids ts ≡ m ∷ more = cc in
    let later =
    tag_room list (after x (headers.Vlan v)) (payload w (headers.Vlan v)) ts e v.ether_type refl s.1
    (has_tag ts m more rest) in
    let less = shrinks list x w (headers.Vlan v) s.0 in
    record {
      room = omega (arith, later.room, less);
      leads = lead_vlan t (announces list x w (headers.Vlan v) t is s.0);
    }
two_tags_room list x w (headers.Macsec g ∷ ts) e t n m more is s ids = record {
  room = let readable = with_type list x w g ts e s
      (λ none. let no : [] ≡ n ∷ m ∷ more = sym (ap vlan_ids none) ∙ ids in cc) in
      let len = s.0.means.whole in omega (arith, readable, len);
  leads = lead_sec_tag t (announces list x w (headers.Macsec g) t is s.0);
}
two_tags_room list x w (headers.Arp a ∷ ts) e t n m more is s ids =
    let none = (after_arp list x w (payload w (headers.Arp a)) (headers.Arp a) ts e refl s.1).0 in
    let no : [] ≡ n ∷ m ∷ more = sym (ap vlan_ids none) ∙ ids in absurd cc
two_tags_room list x w (h ∷ ts) e t n m more is s ids =
    absurd (never_first t (kind_of h) (announces list x w h t is s.0) refl)

-- ---- SecTags

-- room for a SecTag alone, or for a VLAN tag and a SecTag
pub sec_tag_room : (list : List ℕ) (x : Expectation) (w : Window) (ts : List Header) (e : Ending) (t : ℕ)
    → x.next ≡ EtherType t → Stack list x w ts e → list_any is_sec_tag ts ≡ true
    → ((t ≡ 0x88E5) × (6 ≤ length (within list w)))
    ⊎ ((is_vlan_ether_type t ≡ true) × (10 ≤ length (within list w)))
sec_tag_room list x w [] e t is s any = absurd cc
sec_tag_room list x w (headers.Macsec g ∷ ts) e t is s any =
    let len = s.0.means.whole in
    inl (sec_tag_type t (announces list x w (headers.Macsec g) t is s.0), omega (arith, len))
sec_tag_room list x w (headers.Vlan v ∷ ts) e t is s any =
    let less = shrinks list x w (headers.Vlan v) s.0 in
    let least : 6 ≤ length (within list (payload w (headers.Vlan v))) = elim
    (sec_tag_room list (after x (headers.Vlan v)) (payload w (headers.Vlan v)) ts e v.ether_type refl s.1 any) [
      | inl here ↦ here.1
      | inr later ↦ omega (arith, later.1)
    ] in
    inr (vlan_type t (announces list x w (headers.Vlan v) t is s.0), omega (arith, less, least))
sec_tag_room list x w (headers.Arp a ∷ ts) e t is s any =
    let none = (after_arp list x w (payload w (headers.Arp a)) (headers.Arp a) ts e refl s.1).0 in
    let no : false ≡ true = sym (ap (list_any is_sec_tag) none) ∙ any in absurd cc
sec_tag_room list x w (h ∷ ts) e t is s any =
    absurd (never_first t (kind_of h) (announces list x w h t is s.0) refl)

-- ---- ether types

-- a further ether type is announced after a tag only
pub type_room : (list : List ℕ) (x : Expectation) (w : Window) (ts : List Header) (e : Ending) (t n : ℕ)
    → x.next ≡ EtherType t → Stack list x w ts e → list_any (nat_eq n) (types_after ts) ≡ true → TagRoom list w t 4
type_room list x w [] e t n is s any = absurd cc
type_room list x w (headers.Vlan v ∷ ts) e t n is s any = record {
  room = s.0.means.whole;
  leads = lead_vlan t (announces list x w (headers.Vlan v) t is s.0);
}
type_room list x w (headers.Macsec m ∷ ts) e t n is s any = record {
  room = let len = s.0.means.whole in omega (arith, len);
  leads = lead_sec_tag t (announces list x w (headers.Macsec m) t is s.0);
}
type_room list x w (headers.Arp a ∷ ts) e t n is s any =
    let none = (after_arp list x w (payload w (headers.Arp a)) (headers.Arp a) ts e refl s.1).0 in
    let no : false ≡ true = sym (ap (λ l. list_any (nat_eq n) (types_after (headers.Arp a ∷ l))) none)
    ∙ any in absurd cc
type_room list x w (h ∷ ts) e t n is s any =
    absurd (never_first t (kind_of h) (announces list x w h t is s.0) refl)

-- ---- refusals

-- an ARP packet is refused only where its addresses have no room, at most 1,028 bytes with the eight before them
arp_short : (bound : LenSource) (bytes : List ℕ) (r : Refusal) → Refuses bound bytes kinds.Arp r → length bytes < 1028
arp_short bound bytes r (rows.arp lt) = omega (arith, lt)
arp_short bound bytes r (rows.arp_addresses a eight begins lt) =
    let fits = begins.fits in omega (arith, lt, fits.hardware_size, fits.protocol_size)

refused_kind : (t : ℕ) (kind : Kind) (bound : LenSource) (bytes : List ℕ) (r : Refusal) → announced_by t ≡ Some kind
    → Refuses bound bytes kind r → (is_lead t ≡ true) ⊎ ((t ≡ 0x0806) × (length bytes < 1028))
refused_kind t kinds.Vlan bound bytes r is refuses = inl (lead_vlan t is)
refused_kind t kinds.Macsec bound bytes r is refuses = inl (lead_sec_tag t is)
refused_kind t kinds.Arp bound bytes r is refuses = inr (arp_type t is, arp_short bound bytes r refuses)
refused_kind t kind bound bytes r is refuses = absurd (never_first t kind is refl)

pub refusal_room : (list : List ℕ) (x : Expectation) (w : Window) (ts : List Header) (e : Ending) (t : ℕ)
    → x.next ≡ EtherType t → Stack list x w ts e → is_some (refusal_of e) ≡ true
    → (is_lead t ≡ true) ⊎ ((t ≡ 0x0806) × (length (within list w) < 1028))
refusal_room list x w [] (Accepted v y) t is s some = absurd cc
refusal_room list x w [] (Fault v y r) t is s some =
    refused_kind t s.2 w.bound (within list w) r (sym (ap announced_next is) ∙ announced_is x s.2 s.3) s.4
refusal_room list x w (headers.Vlan v ∷ ts) e t is s some =
    inl (lead_vlan t (announces list x w (headers.Vlan v) t is s.0))
refusal_room list x w (headers.Macsec m ∷ ts) e t is s some =
    inl (lead_sec_tag t (announces list x w (headers.Macsec m) t is s.0))
refusal_room list x w (headers.Arp a ∷ ts) e t is s some =
    let none = (after_arp list x w (payload w (headers.Arp a)) (headers.Arp a) ts e refl s.1).1 in
    let no : false ≡ true = sym (ap is_some none) ∙ some in absurd cc
refusal_room list x w (h ∷ ts) e t is s some =
    absurd (never_first t (kind_of h) (announces list x w h t is s.0) refl)
