-- The least number of bytes, where a primitive is decided by an ether type.
use Rattle.std.proofs.Common.{◌≡◌, ℕ, ◌+◌, ◌-◌, ◌<◌, ◌≤◌, List, [], ◌∷◌, ◌++◌, length, refl, sym, ap, subst, ◌∙◌, arith, inl, inr, ◌⊎◌, false}
use Rattle.std.proofs.lemmas.Bool.{cases_lt}
use Rattle.std.proofs.lemmas.List.{append-nil, length-append}
use Rattle.etherparse.specs.Bytes.{IsBytes}
use Rattle.etherparse.specs.Kind as kinds
use Rattle.etherparse.specs.Header.{Header}
use Rattle.etherparse.proofs.Numbers.{IsBytes-nil, IsBytes-append}
use Rattle.ether_filter.specs.declared.packet.Packet.{Packet}
use Rattle.ether_filter.specs.declared.possible.Told.{Told}
use Rattle.ether_filter.specs.declared.primitive.Primitive.{Primitive}
use Rattle.ether_filter.specs.declared.prospect.OpenKind.{OpenKind}
use Rattle.ether_filter.specs.declared.prospect.OpenKind.TheVariants as open_kinds
use Rattle.ether_filter.specs.declared.prospect.Prospect.{Prospect}
use Rattle.ether_filter.specs.Deciding.{is_of_link, is_of_field}
use Rattle.ether_filter.specs.Needed.{IsUndecided, IsLeast}
use Rattle.ether_filter.specs.Possible.{AreTold}
use Rattle.ether_filter.specs.Prospects.{IsOpen, IsProspect, IsCut, kind_named}
use Rattle.ether_filter.proofs.LeastBytes.{AllUndecided, IsKept, stays_by}
use Rattle.ether_filter.proofs.LeastTypes.{SomeDecides, fixed_high, high_decides, ids_of_link, id_in, ids_of_tag, low_decides_ethernet2, low_decides_vlan}
use Rattle.ether_filter.proofs.MorePackets.{of_no_lengths}
use Rattle.ether_filter.proofs.Prospects.{ethernet2_is_fixed, vlan_is_fixed}

pub no_bytes : (l : List ℕ) → length l ≡ 0 → l ≡ []
no_bytes [] none = refl
no_bytes (b ∷ l) none = absurd (omega (arith, none))

-- so long as the bytes end before a type of one's choice, or none are added, the unit keeps what is known of it
abbrev pub KeepsUnit : (kind : OpenKind) → (List ℕ → Type 0) → (after : Prospect) → (known : List ℕ) → (room len : ℕ)
    → Type 0
KeepsUnit kind Fits after known room len =
    (more : List ℕ) → IsBytes (known ++ more) → length (known ++ more) < len
    → (length (known ++ more) ≤ len - 2) ⊎ (more ≡ []) → IsKept kind Fits after (known ++ more) room

pub kept_here : (kind : OpenKind) (Fits : List ℕ → Type 0) (after : Prospect) (known : List ℕ) (room len : ℕ)
    → KeepsUnit kind Fits after known room len → IsBytes known → length known < len
    → IsKept kind Fits after known room
kept_here kind Fits after known room len keeps ok few =
    subst (λ (l : List ℕ). IsKept kind Fits after l room) (append-nil known)
    (keeps [] (IsBytes-append known [] ok IsBytes-nil) (omega (arith, length-append known [], few)) (inr refl))

pub type_least : (q : Primitive) (told : Told) (kind : OpenKind) (Fits : List ℕ → Type 0) (after : Prospect)
    (packet : Packet) (hs : List Header) (known : List ℕ) (room n len : ℕ)
    → AllUndecided q told kind Fits after → KeepsUnit kind Fits after known room len → len ≤ room
    → length known < len → 2 ≤ len → (length known + 1 < len → n ≡ len - 1) → (len ≤ length known + 1 → n ≡ len)
    → (length known + 1 < len → SomeDecides packet q (len - 1 - length known))
    → (length known + 1 ≡ len → SomeDecides packet q 1) → IsBytes known
    → IsOpen packet hs (kind_named kind) known room → AreTold packet hs q told → IsUndecided packet q
    → IsLeast packet q (length packet.frame.now + (n - length known))
type_least q told kind Fits after packet hs known room n len all keeps long few two high_is low_is high low
    known_ok o a u = elim (cases_lt (length known + 1) len) [
      | inl early ↦
          let is = high_is early in
          let d = high early in
          record {
            stays = stays_by q told kind Fits after packet hs known room n all o a u
                (omega (arith, is, long)) (omega (arith, is, early))
                (λ more more_ok short. keeps more (IsBytes-append known more known_ok more_ok)
                (omega (arith, short, is)) (inl (omega (arith, short, is))));
            decides = (
              d.0,
              d.1,
              d.2 ∙ ap (λ (i : ℕ). length packet.frame.now + i)
                  (let same : len - 1 - length known ≡ n - length known = omega (arith, is) in same),
              d.3,
            );
          }
      | inr late ↦
          let is = low_is late in
          let one : length known + 1 ≡ len = omega (arith, late, few) in
          let d = low one in
          record {
            stays = stays_by q told kind Fits after packet hs known room n all o a u
                (omega (arith, is, long)) (omega (arith, is, one))
                (λ more more_ok short. keeps more (IsBytes-append known more known_ok more_ok)
                (omega (arith, short, is))
                (inr (no_bytes more (omega (arith, short, is, one, length-append known more)))));
            decides = (
              d.0,
              d.1,
              d.2 ∙ ap (λ (i : ℕ). length packet.frame.now + i)
                  (let same : 1 ≡ n - length known = omega (arith, is, one) in same),
              d.3,
            );
          }
    ]

-- with one more byte
pub next_by : (q : Primitive) (told : Told) (kind : OpenKind) (Fits : List ℕ → Type 0) (after : Prospect)
    (packet : Packet) (hs : List Header) (known : List ℕ) (room : ℕ) → AllUndecided q told kind Fits after
    → IsKept kind Fits after known room → length known < room → SomeDecides packet q 1
    → IsOpen packet hs (kind_named kind) known room → AreTold packet hs q told → IsUndecided packet q
    → IsLeast packet q (length packet.frame.now + (length known + 1 - length known))
next_by q told kind Fits after packet hs known room all here inside d o a u = record {
  stays = stays_by q told kind Fits after packet hs known room (length known + 1) all o a u (omega (arith, inside))
      (omega arith)
      (λ more more_ok short.
      (let none = no_bytes more (omega (arith, short, length-append known more)) in
      subst (λ (l : List ℕ). IsKept kind Fits after l room)
      (sym (append-nil known) ∙ ap (λ (l : List ℕ). known ++ l) (sym none)) here));
  decides = (
    d.0,
    d.1,
    d.2 ∙ ap (λ (i : ℕ). length packet.frame.now + i)
        (let same : 1 ≡ length known + 1 - length known = omega arith in same),
    d.3,
  );
}

-- the unit keeps its prospect, and what is known of its fields
pub keeps_by : (kind : OpenKind) (Fits : List ℕ → Type 0) (after : Prospect) (known : List ℕ) (room len : ℕ)
    → ((l : List ℕ) → length l < len → IsCut kind l)
    → ((more : List ℕ) → IsBytes (known ++ more) → length (known ++ more) < len
    → (length (known ++ more) ≤ len - 2) ⊎ (more ≡ []) → IsProspect (kind_named kind) (known ++ more) room after)
    → ((more : List ℕ) → IsBytes (known ++ more) → length (known ++ more) < len → Fits (known ++ more))
    → KeepsUnit kind Fits after known room len
keeps_by kind Fits after known room len cuts prospects fits more more_ok few short = record {
  cut = cuts (known ++ more) few;
  prospect = prospects more more_ok few short;
  fits = fits more more_ok few;
}

-- ---- an Ethernet II header

pub ethernet2_type : (q : Primitive) (told : Told) (Fits : List ℕ → Type 0) (after : Prospect)
    (packet : Packet) (hs : List Header) (known : List ℕ) (room n : ℕ)
    → AllUndecided q told open_kinds.Ethernet2 Fits after
    → KeepsUnit open_kinds.Ethernet2 Fits after known room 14
    → 14 ≤ room → length known < 14 → (length known + 1 < 14 → n ≡ 13) → (14 ≤ length known + 1 → n ≡ 14)
    → is_of_link q ≡ false → is_of_field q ≡ false → IsBytes known → IsBytes packet.frame.now
    → IsOpen packet hs kinds.Ethernet2 known room → AreTold packet hs q told → IsUndecided packet q
    → IsLeast packet q (length packet.frame.now + (n - length known))
ethernet2_type q told Fits after packet hs known room n all keeps long few high low link field known_ok ok o a u =
    type_least q told open_kinds.Ethernet2 Fits after packet hs known room n 14 all keeps long few (omega arith)
    high low
    (λ early. high_decides q packet hs open_kinds.Ethernet2 known room 14 (room - 14) (λ l. [])
    (fixed_high open_kinds.Ethernet2 known room 14 ethernet2_is_fixed (omega arith) long) (omega arith)
    early long known_ok ok (λ more lt. lt) o (λ l len l_ok unit f. ids_of_link l room unit f) link field
    (of_no_lengths q packet u))
    (λ late. low_decides_ethernet2 q packet hs known room (omega (arith, late)) long known_ok ok o) known_ok o a u

-- ---- a VLAN tag

pub vlan_type : (q : Primitive) (told : Told) (Fits : List ℕ → Type 0) (after : Prospect)
    (packet : Packet) (hs : List Header) (known : List ℕ) (room n : ℕ)
    → AllUndecided q told open_kinds.Vlan Fits after
    → KeepsUnit open_kinds.Vlan Fits after known room 4
    → 4 ≤ room → length known < 4 → (length known + 1 < 4 → n ≡ 3) → (4 ≤ length known + 1 → n ≡ 4)
    → is_of_link q ≡ false → is_of_field q ≡ false → IsBytes known → IsBytes packet.frame.now
    → IsOpen packet hs kinds.Vlan known room → AreTold packet hs q told → IsUndecided packet q
    → IsLeast packet q (length packet.frame.now + (n - length known))
vlan_type q told Fits after packet hs known room n all keeps long few high low link field known_ok ok o a u =
    type_least q told open_kinds.Vlan Fits after packet hs known room n 4 all keeps long few (omega arith)
    high low
    (λ early. high_decides q packet hs open_kinds.Vlan known room 4 (room - 4) (λ l. id_in l ∷ [])
    (fixed_high open_kinds.Vlan known room 4 vlan_is_fixed (omega arith) long) (omega arith)
    early long known_ok ok (λ more lt. lt) o
    (λ l len l_ok unit f. ids_of_tag l room unit (omega (arith, len)) long f) link field
    (of_no_lengths q packet u))
    (λ late. low_decides_vlan q packet hs known room (omega (arith, late)) long known_ok ok o) known_ok o a u
