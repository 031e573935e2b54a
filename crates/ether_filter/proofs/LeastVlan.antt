-- The least number of bytes of a VLAN tag.
use Rattle.std.proofs.Common.{◌≡◌, ℕ, ◌+◌, ◌-◌, ◌<◌, ◌≤◌, List, [], ◌∷◌, ◌++◌, length, refl, sym, ap, subst, ◌∙◌, arith, inl, inr, ◌⊎◌, Bool, true, false, IsTrue}
use Rattle.std.specs.Prelude.{not}
use Rattle.std.proofs.lemmas.List.{append-nil, length-append}
use Rattle.etherparse.specs.Bytes.{IsBytes}
use Rattle.etherparse.specs.Kind as kinds
use Rattle.etherparse.specs.Header.{Header}
use Rattle.etherparse.proofs.Numbers.{IsBytes-nil, IsBytes-cons, IsBytes-append}
use Rattle.ether_filter.specs.declared.can.Can.{Can}
use Rattle.ether_filter.specs.declared.packet.Packet.{Packet}
use Rattle.ether_filter.specs.declared.possible.Told.{Told}
use Rattle.ether_filter.specs.declared.primitive.Primitive.{Primitive}
use Rattle.ether_filter.specs.declared.prospect.OpenKind.{OpenKind}
use Rattle.ether_filter.specs.declared.prospect.OpenKind.TheVariants as open_kinds
use Rattle.ether_filter.specs.declared.prospect.Prospect.{Prospect}
use Rattle.ether_filter.specs.Deciding.{is_of_link, is_of_field}
use Rattle.ether_filter.specs.Later.{IsOpenAs}
use Rattle.ether_filter.specs.Needed.{IsUndecided, IsDecided, IsLeast}
use Rattle.ether_filter.specs.LeastBytes.{AllOpen}
use Rattle.ether_filter.specs.OwnFields.{FitsTag}
use Rattle.ether_filter.specs.Possible.{is_ethernet2, AreTold}
use Rattle.ether_filter.specs.Prospects.{IsOpen, IsProspect}
use Rattle.ether_filter.proofs.LeastBytes.{AllUndecided, IsKept, opens_kept, stays_by, decides_by, closed_decided, never_decided}
use Rattle.ether_filter.proofs.LeastByType.{no_bytes}
use Rattle.ether_filter.proofs.LeastTags.{either, missed, met, HasOne, has_one, missed_tag, Meets}
use Rattle.ether_filter.proofs.MorePackets.{told_more, of_no_lengths}
use Rattle.ether_filter.proofs.PossibleCases.{not_refused}
use Rattle.ether_filter.proofs.PossibleLinks.{told_by}
use Rattle.ether_filter.proofs.ToldLemmas.{decided_possible}

-- a primitive about an Ethernet II header is decided after one
pub no_link : (packet : Packet) (hs : List Header) (kind : OpenKind) (known : List ℕ) (room : ℕ) (p : Prospect)
    (q : Primitive) (told : Told) → IsOpenAs packet hs kind known room p → AreTold packet hs q told
    → is_of_field q ≡ false → is_ethernet2 kind ≡ false → IsUndecided packet q → is_of_link q ≡ false
no_link packet hs kind known room p q told o a free other u = by_test (is_of_link q) refl
  where
    both : (b : Bool) → IsTrue b → IsTrue (not b) → ⊥
    both true t f = cc
    both false t f = cc

    by_test : (b : Bool) → is_of_link q ≡ b → is_of_link q ≡ false
    by_test false is = is
    by_test true is =
        let can : Can = record { matches = told.is_match; fails = not told.is_match } in
        let possible = decided_possible packet hs kind known room p q told can o
        (told_by packet hs kind known room p q o is free
        (λ mine. (let clash : true ≡ false = sym mine.0 ∙ other in cc))) a (not_refused q is) refl refl in
        absurd (never_decided q packet (closed_decided q packet can possible (λ t. both told.is_match t.0 t.1)) u)

-- what holds of the whole tag, for the bytes that are known
pub record IsTag (after : Prospect) (known : List ℕ) (room : ℕ) : Type 0 where
  pub known_ok : IsBytes known
  pub few : length known < 2
  pub long : 4 ≤ room
  pub prospects : (more : List ℕ) → IsBytes (known ++ more) → length (known ++ more) < 4
      → (length (known ++ more) ≤ 2) ⊎ (more ≡ []) → IsProspect kinds.Vlan (known ++ more) room after

kept_as : (Fits : List ℕ → Type 0) (after : Prospect) (known more : List ℕ) (room : ℕ) → IsTag after known room
    → IsBytes (known ++ more) → length (known ++ more) ≤ 2 → Fits (known ++ more)
    → IsKept open_kinds.Vlan Fits after (known ++ more) room
kept_as Fits after known more room t ok le fits = record {
  cut = omega (arith, le);
  prospect = t.prospects more ok (omega (arith, le)) (inl le);
  fits = fits;
}

-- one more byte, of another identifier
pub vlan_missed : (q : Primitive) (told : Told) (after : Prospect) (packet : Packet) (hs : List Header)
    (known : List ℕ) (room n : ℕ) → IsTag after known room → n ≡ length known + 1
    → AllOpen (λ p. IsUndecided p q) q told open_kinds.Vlan either after
    → AllOpen (λ p. IsDecided p q) q told open_kinds.Vlan missed after
    → FitsTag q known either → IsBytes packet.frame.now → IsOpen packet hs kinds.Vlan known room
    → AreTold packet hs q told → IsUndecided packet q
    → IsLeast packet q (length packet.frame.now + (n - length known))
vlan_missed q told after packet hs known room n t n_is opens closes fits ok o a u =
    let w = missed_tag q known t.known_ok t.few in
    let more = w.0 ∷ [] in
    let more_ok = IsBytes-cons w.0 [] w.1 IsBytes-nil in
    let few = t.few in
    let long = t.long in
    let all_len = length-append known more in
    let d = decides_by q packet hs kinds.Vlan known more room ok more_ok o (omega arith)
    (omega (arith, all_len, few, long))
    (λ longer h longer_ok opened.
    (let k = kept_as (λ l. FitsTag q l missed) after known more room t
    (IsBytes-append known more t.known_ok more_ok) (omega (arith, all_len, few)) w.2 in
    closes longer hs (known ++ more) room
    (opens_kept open_kinds.Vlan (λ l. FitsTag q l missed) after (known ++ more) room longer hs k longer_ok opened)
    w.2 (told_more packet longer hs q told h (of_no_lengths q packet u) a))) in
    record {
      stays = stays_by q told open_kinds.Vlan (λ l. FitsTag q l either) after packet hs known room n opens o a u
          (omega (arith, n_is, few, long)) (omega (arith, n_is))
          (λ rest rest_ok short.
          (let none = no_bytes rest (omega (arith, short, n_is, length-append known rest)) in
          let same : known ≡ known ++ rest = sym (append-nil known) ∙ ap (λ (l : List ℕ). known ++ l) (sym none) in
          kept_as (λ l. FitsTag q l either) after known rest room t (IsBytes-append known rest t.known_ok rest_ok)
          (omega (arith, short, n_is, few)) (subst (λ (l : List ℕ). FitsTag q l either) same fits)));
      decides = (
        d.0,
        d.1,
        d.2 ∙ ap (λ (i : ℕ). length packet.frame.now + i)
            (let same : 1 ≡ n - length known = omega (arith, n_is) in same),
        d.3,
      );
    }

-- while not both bytes of the identifier are there, it is not known to be the wanted one
abbrev Misses : Primitive → List ℕ → Type 0
Misses q l = FitsTag q l either ⊎ FitsTag q l missed

-- both bytes of the wanted identifier
pub vlan_met : (q : Primitive) (told : Told) (after : Prospect) (packet : Packet) (hs : List Header)
    (known : List ℕ) (room : ℕ) → IsTag after known room
    → AllOpen (λ p. IsUndecided p q) q told open_kinds.Vlan either after
    → AllOpen (λ p. IsUndecided p q) q told open_kinds.Vlan missed after
    → AllOpen (λ p. IsDecided p q) q told open_kinds.Vlan met after
    → Meets q known → IsBytes packet.frame.now → IsOpen packet hs kinds.Vlan known room
    → AreTold packet hs q told → IsUndecided packet q
    → IsLeast packet q (length packet.frame.now + (2 - length known))
vlan_met q told after packet hs known room t opens misses closes w ok o a u =
    let few = t.few in
    let long = t.long in
    let more = w.more in
    let len = w.len in
    let all_len = length-append known more in
    let d = decides_by q packet hs kinds.Vlan known more room ok w.are_bytes o (omega (arith, len, few))
    (omega (arith, all_len, len, few, long))
    (λ longer h longer_ok opened.
    (let k = kept_as (λ l. FitsTag q l met) after known more room t
    (IsBytes-append known more t.known_ok w.are_bytes) (omega (arith, all_len, len, few)) w.fits in
    closes longer hs (known ++ more) room
    (opens_kept open_kinds.Vlan (λ l. FitsTag q l met) after (known ++ more) room longer hs k longer_ok opened)
    w.fits (told_more packet longer hs q told h (of_no_lengths q packet u) a))) in
    let all : AllUndecided q told open_kinds.Vlan (Misses q) after = λ p ks l r at fits b. elim fits [
      | inl e ↦ opens p ks l r at e b
      | inr m ↦ misses p ks l r at m b
    ] in
    record {
      stays = stays_by q told open_kinds.Vlan (Misses q) after packet hs known room 2 all o a u
          (omega (arith, long)) few
          (λ rest rest_ok short.
          (let joined = IsBytes-append known rest t.known_ok rest_ok in
          kept_as (Misses q) after known rest room t joined (omega (arith, short))
          (elim (has_one q (known ++ rest) joined (omega (arith, short))) [
            | inl e ↦ inl e
            | inr (inl m) ↦ inr m
            | inr (inr never) ↦ absurd (let two = never.0 in omega (arith, two, short))
          ])));
      decides = (d.0, d.1, d.2 ∙ ap (λ (i : ℕ). length packet.frame.now + i) len, d.3);
    }

-- with each of the three it stays undecided
pub all_of_three : (q : Primitive) (told : Told) (after : Prospect)
    → AllOpen (λ p. IsUndecided p q) q told open_kinds.Vlan either after
    → AllOpen (λ p. IsUndecided p q) q told open_kinds.Vlan missed after
    → AllOpen (λ p. IsUndecided p q) q told open_kinds.Vlan met after
    → AllUndecided q told open_kinds.Vlan (HasOne q) after
all_of_three q told after opens misses meets p ks l r at fits b = elim fits [
  | inl e ↦ opens p ks l r at e b
  | inr (inl m) ↦ misses p ks l r at m b
  | inr (inr (two, m)) ↦ meets p ks l r at m b
]
