-- The least number of bytes of an Ethernet II header, for a primitive about its addresses.
use Rattle.std.proofs.Common.{◌≡◌, ℕ, ◌+◌, ◌-◌, ◌/◌, ◌%◌, ◌^◌, ◌<◌, ◌≤◌, List, [], ◌∷◌, ◌++◌, length, take, drop, append_assoc, refl, sym, ap, subst, ◌∙◌, arith, inl, inr, Bool, true, false, nat_eq, IsTrue}
use Rattle.std.specs.Prelude.{get_or, slice_range, replicate}
use Rattle.std.proofs.lemmas.Bool.{cases_lt, eqb-true}
use Rattle.std.proofs.lemmas.List.{append-nil, length-append, length-drop, length-replicate, drop-append-le, take-append-le}
use Rattle.std.proofs.lemmas.Slice.{drop-append-drop}
use Rattle.etherparse.specs.Bytes.{IsBytes, number}
use Rattle.etherparse.specs.Ethernet2.{ethernet2_of}
use Rattle.etherparse.specs.Kind as kinds
use Rattle.etherparse.specs.Header.{Header}
use Rattle.etherparse.specs.Header as headers
use Rattle.etherparse.proofs.Numbers.{IsBytes-nil, IsBytes-cons, IsBytes-append}
use Rattle.etherparse.proofs.SubLists.{IsBytes-drop}
use Rattle.ether_filter.specs.declared.can.Can.{Can}
use Rattle.ether_filter.specs.declared.packet.Packet.{Packet}
use Rattle.ether_filter.specs.declared.possible.Told.{Told}
use Rattle.ether_filter.specs.declared.primitive.Primitive.{Primitive}
use Rattle.ether_filter.specs.declared.primitive.Primitive.TheVariants as primitives
use Rattle.ether_filter.specs.declared.prospect.Announced.{Announced}
use Rattle.ether_filter.specs.declared.prospect.Announced.TheVariants.{Any, High}
use Rattle.ether_filter.specs.declared.prospect.OpenKind.TheVariants as open_kinds
use Rattle.ether_filter.specs.declared.prospect.Prospect.{Prospect}
use Rattle.ether_filter.specs.Deciding.{is_of_link, is_of_field}
use Rattle.ether_filter.specs.Later.{IsOpenAs}
use Rattle.ether_filter.specs.Needed.{IsUndecided, IsDecided, IsLeast}
use Rattle.ether_filter.specs.OwnFields.{IsAmong, link_test}
use Rattle.ether_filter.specs.Possible.{AreTold}
use Rattle.ether_filter.specs.Prospects.{Continues, IsOpen, IsTypeAt}
use Rattle.ether_filter.proofs.FieldChoices.{digit_of, group_is, kept}
use Rattle.ether_filter.proofs.LeastBytes.{AllUndecided, IsKept, stays_by, decides_by, open_undecided, closed_decided}
use Rattle.ether_filter.proofs.LeastByType.{no_bytes}
use Rattle.ether_filter.proofs.LeastTags.{either, missed, met, widen, last_is}
use Rattle.ether_filter.proofs.LeastTypes.{prospect_kept}
use Rattle.ether_filter.proofs.PossibleCases.{link_case}
use Rattle.ether_filter.proofs.PossibleLinks.{same_test}
use Rattle.ether_filter.proofs.Prospects.{zeros_continue, fixed, ethernet2_is_fixed}
use Rattle.ether_filter.proofs.Typed.{zeros_are_bytes}

-- the test of a header that has these bytes
abbrev pub passes : Primitive → List ℕ → Bool
passes q bytes = link_test q (headers.Ethernet2 (ethernet2_of bytes))

-- what known bytes make of it
abbrev pub LinkAmong : Primitive → List ℕ → Can → Type 0
LinkAmong q l own = (room : ℕ) → 14 ≤ room → IsAmong l room (λ bytes. IsTrue (passes q bytes)) own

pub missed_by : (q : Primitive) (l : List ℕ) → IsBytes l → length l ≤ 14
    → ((room : ℕ) → 14 ≤ room → (bytes : List ℕ) → Continues l room bytes → IsTrue (passes q bytes) → ⊥)
    → LinkAmong q l missed
missed_by q l ok le never room long = record {
  matches = (λ t. absurd cc, λ (bytes, on, t). absurd (never room long bytes on t));
  fails = (
    λ t. (let z = zeros_continue l room ok (omega (arith, le, long)) in (z.0, z.1, never room long z.0 z.1)),
    λ some. refl,
  );
}

pub met_by : (q : Primitive) (l : List ℕ) → IsBytes l → length l ≤ 14
    → ((room : ℕ) → 14 ≤ room → (bytes : List ℕ) → Continues l room bytes → IsTrue (passes q bytes))
    → LinkAmong q l met
met_by q l ok le always room long = record {
  matches = (
    λ t. (let z = zeros_continue l room ok (omega (arith, le, long)) in (z.0, z.1, always room long z.0 z.1)),
    λ some. refl,
  );
  fails = (λ t. absurd cc, λ (bytes, on, never). absurd (never (always room long bytes on)));
}

-- ---- what is known decides it, or not

pub link_open : (q : Primitive) (told : Told) (after : Prospect) → IsTrue after.can_be_accepted → is_of_link q ≡ true
    → is_of_field q ≡ false → AllUndecided q told open_kinds.Ethernet2 (λ l. LinkAmong q l either) after
link_open q told after got link field packet hs known room o fits a =
    open_undecided q packet either
    (link_case packet hs open_kinds.Ethernet2 known room after q either o link field (refl, got) fits) refl refl

pub link_closed : (q : Primitive) (after : Prospect) (own : Can) (packet : Packet) (hs : List Header)
    (known : List ℕ) (room : ℕ) → IsTrue after.can_be_accepted → is_of_link q ≡ true → is_of_field q ≡ false
    → (IsTrue own.matches × IsTrue own.fails → ⊥) → IsOpenAs packet hs open_kinds.Ethernet2 known room after
    → LinkAmong q known own → IsDecided packet q
link_closed q after own packet hs known room got link field closed o fits =
    closed_decided q packet own
    (link_case packet hs open_kinds.Ethernet2 known room after q own o link field (refl, got) fits) closed

-- what can become of the header, while its ether type has not begun
abbrev pub untyped : ℕ → Prospect
untyped room = record { can_be_accepted = true; can_be_refused = false; next = Any; room = room - 14 }

-- the bytes that are known of a header, and a test of it that they do not decide
pub record IsHeader (q : Primitive) (known : List ℕ) (room : ℕ) : Type 0 where
  pub known_ok : IsBytes known
  pub few : length known < 12
  pub long : 14 ≤ room
  pub link : is_of_link q ≡ true
  pub field : is_of_field q ≡ false
  pub fits : LinkAmong q known either

open_header : (q : Primitive) (known more : List ℕ) (room : ℕ) (Fits : List ℕ → Type 0) → IsHeader q known room
    → IsBytes (known ++ more) → length (known ++ more) ≤ 12 → Fits (known ++ more)
    → IsKept open_kinds.Ethernet2 Fits (untyped room) (known ++ more) room
open_header q known more room Fits t ok le fits =
    let few = t.few in
    record {
      cut = omega (arith, le);
      prospect = prospect_kept kinds.Ethernet2 known more room 14 Any (omega arith) ethernet2_is_fixed ok
          (omega (arith, le)) t.long (omega (arith, few)) (inl le);
      fits = fits;
    }

pub link_least : (q : Primitive) (told : Told) (packet : Packet) (hs : List Header) (known : List ℕ) (room n : ℕ)
    (own : Can) (more : List ℕ) → IsHeader q known room → length known < n → n ≤ 12
    → ((rest : List ℕ) → IsBytes (known ++ rest) → length (known ++ rest) < n → LinkAmong q (known ++ rest) either)
    → IsBytes more → length more ≡ n - length known → LinkAmong q (known ++ more) own
    → (IsTrue own.matches × IsTrue own.fails → ⊥) → IsBytes packet.frame.now
    → IsOpen packet hs kinds.Ethernet2 known room → AreTold packet hs q told → IsUndecided packet q
    → IsLeast packet q (length packet.frame.now + (n - length known))
link_least q told packet hs known room n own more t lt most keeps more_ok len fits closed ok o a u =
    let long = t.long in
    let all_len = length-append known more in
    let d = decides_by q packet hs kinds.Ethernet2 known more room ok more_ok o (omega (arith, len, lt))
    (omega (arith, all_len, len, lt, most, long))
    (λ longer h longer_ok opened.
    (let k = open_header q known more room (λ l. LinkAmong q l own) t (IsBytes-append known more t.known_ok more_ok)
    (omega (arith, all_len, len, lt, most)) fits in
    link_closed q (untyped room) own longer hs (known ++ more) room refl t.link t.field closed
    (record { bytes = longer_ok; cut = k.cut; unit = opened; prospect = k.prospect }) fits)) in
    record {
      stays = stays_by q told open_kinds.Ethernet2 (λ l. LinkAmong q l either) (untyped room) packet hs known room n
          (link_open q told (untyped room) refl t.link t.field) o a u (omega (arith, most, long)) lt
          (λ rest rest_ok short.
          (let joined = IsBytes-append known rest t.known_ok rest_ok in
          open_header q known rest room (λ l. LinkAmong q l either) t joined (omega (arith, short, most))
          (keeps rest joined short)));
      decides = (d.0, d.1, d.2 ∙ ap (λ (i : ℕ). length packet.frame.now + i) len, d.3);
    }

-- with one more byte
pub next_least : (q : Primitive) (told : Told) (packet : Packet) (hs : List Header) (known : List ℕ) (room b : ℕ)
    (own : Can) → IsHeader q known room → b < 256 → LinkAmong q (known ++ b ∷ []) own
    → (IsTrue own.matches × IsTrue own.fails → ⊥) → IsBytes packet.frame.now
    → IsOpen packet hs kinds.Ethernet2 known room → AreTold packet hs q told → IsUndecided packet q
    → IsLeast packet q (length packet.frame.now + (length known + 1 - length known))
next_least q told packet hs known room b own t small fits closed ok o a u =
    let few = t.few in
    link_least q told packet hs known room (length known + 1) own (b ∷ []) t (omega arith) (omega (arith, few))
    (λ rest rest_ok short.
    (let none = no_bytes rest (omega (arith, short, length-append known rest)) in
    subst (λ (l : List ℕ). LinkAmong q l either)
    (sym (append-nil known) ∙ ap (λ (l : List ℕ). known ++ l) (sym none)) t.fits))
    (IsBytes-cons b [] small IsBytes-nil) (omega arith) fits closed ok o a u

-- ---- which bytes are known

-- a part that is known
pub part_known : (known : List ℕ) (room : ℕ) (bytes : List ℕ) (i j : ℕ) → Continues known room bytes → i ≤ j
    → j ≤ length known → slice_range bytes i j ≡ slice_range known i j
part_known known room bytes i j on le inside =
    ap (λ (l : List ℕ). slice_range l i j) on.is
    ∙ ap (take (j - i)) (drop-append-le i known on.more (omega (arith, le, inside)))
    ∙ take-append-le (j - i) (drop i known) on.more (omega (arith, length-drop i known, le, inside))

-- the test of all bytes that go on is not the same
pub not_determined : (q : Primitive) (known : List ℕ) → LinkAmong q known either
    → ((a b : List ℕ) → Continues known 14 a → Continues known 14 b → passes q a ≡ passes q b) → ⊥
not_determined q known fits same =
    let is = fits 14 (omega arith) in
    let x = is.matches.0 refl in
    let y = is.fails.0 refl in
    y.2 (sym (same x.0 y.0 x.1 y.1) ∙ x.2)

pub is_header : (q : Primitive) (known : List ℕ) (room : ℕ) → IsBytes known → 14 ≤ room → is_of_link q ≡ true
    → is_of_field q ≡ false → LinkAmong q known either → IsHeader q known room
is_header q known room ok long link field fits = record {
  known_ok = ok;
  few = elim (cases_lt (length known) 12) [
    | inl lt ↦ lt
    | inr le ↦ absurd (not_determined q known fits (λ a b x y. same_test q (ethernet2_of a) (ethernet2_of b) (
      ap number (part_known known 14 a 0 6 x (omega arith) (omega (arith, le))
          ∙ sym (part_known known 14 b 0 6 y (omega arith) (omega (arith, le)))),
      ap number (part_known known 14 a 6 12 x (omega arith) (omega (arith, le))
          ∙ sym (part_known known 14 b 6 12 y (omega arith) (omega (arith, le)))),
    )))
  ];
  long = long;
  link = link;
  field = field;
  fits = fits;
}

-- ---- another address

-- a byte that differs from that of an address
abbrev pub wrong_byte : (address j : ℕ) → ℕ
wrong_byte address j = (address / 256 ^ (5 - j) % 256 + 1) % 256

byte_small : (n : ℕ) → n % 256 < 256
byte_small n = omega arith

byte_differs : (n d : ℕ) → d < 256 → n ≡ d → n ≡ (d + 1) % 256 → ⊥
byte_differs n d small is other = omega (arith, small, is, other)

pub wrong_small : (address j : ℕ) → wrong_byte address j < 256
wrong_small address j = byte_small (address / 256 ^ (5 - j) % 256 + 1)

pub address_differs : (l : List ℕ) (address place j room : ℕ) (bytes : List ℕ) → length l ≡ place + j → j < 6
    → place + 6 ≤ room → Continues (l ++ wrong_byte address j ∷ []) room bytes
    → number (slice_range bytes place (place + 6)) ≡ address → ⊥
address_differs l address place j room bytes len lt le on same =
    byte_differs (get_or bytes (place + j) 0) (address / 256 ^ (5 - j) % 256)
    (byte_small (address / 256 ^ (5 - j)))
    (digit_of bytes place on.are_bytes (omega (arith, le, on.len)) j lt
    ∙ ap (λ (n : ℕ). n / 256 ^ (5 - j) % 256) same)
    (ap (λ (i : ℕ). get_or bytes i 0) (sym len) ∙ last_is l (wrong_byte address j) room bytes on)

-- ---- an address whose next byte is missing

pub address_next : (q : Primitive) (told : Told) (packet : Packet) (hs : List Header) (known : List ℕ)
    (room address place j : ℕ) → IsHeader q known room → place ≤ 6 → length known ≡ place + j
    → ((bytes : List ℕ) → passes q bytes ≡ nat_eq address (number (slice_range bytes place (place + 6))))
    → IsBytes packet.frame.now → IsOpen packet hs kinds.Ethernet2 known room → AreTold packet hs q told
    → IsUndecided packet q → IsLeast packet q (length packet.frame.now + (length known + 1 - length known))
address_next q told packet hs known room address place j t at len test ok o a u =
    let few = t.few in
    let inside : j < 6 = elim (cases_lt j 6) [
      | inl lt ↦ lt
      | inr le ↦ absurd (not_determined q known t.fits (λ x y xs ys. test x
          ∙ ap (λ (l : List ℕ). nat_eq address (number l))
          (part_known known 14 x place (place + 6) xs (omega arith) (omega (arith, le, len))
          ∙ sym (part_known known 14 y place (place + 6) ys (omega arith) (omega (arith, le, len))))
          ∙ sym (test y)))
    ] in
    let b = wrong_byte address j in
    let small = wrong_small address j in
    next_least q told packet hs known room b missed t small
    (missed_by q (known ++ b ∷ []) (IsBytes-append known (b ∷ []) t.known_ok (IsBytes-cons b [] small IsBytes-nil))
    (omega (arith, length-append known (b ∷ []), few))
    (λ r long bytes on passed. address_differs known address place j r bytes len inside (omega (arith, at, long)) on
    (sym (eqb-true address (number (slice_range bytes place (place + 6))) (sym (test bytes) ∙ passed)))))
    (λ both. (let never = both.0 in cc)) ok o a u

-- ---- a group address

pub group_next : (told : Told) (packet : Packet) (hs : List Header) (known : List ℕ) (room : ℕ)
    → IsHeader primitives.Multicast known room → IsBytes packet.frame.now → IsOpen packet hs kinds.Ethernet2 known room
    → AreTold packet hs primitives.Multicast told → IsUndecided packet primitives.Multicast
    → IsLeast packet primitives.Multicast (length packet.frame.now + (length known + 1 - length known))
group_next told packet hs known room t ok o a u =
    let few = t.few in
    let none : length known ≡ 0 = elim (cases_lt 0 (length known)) [
      | inl some ↦ absurd (not_determined primitives.Multicast known t.fits (λ x y xs ys.
          ap (λ (n : ℕ). nat_eq n 1) (group_is x xs.are_bytes (omega (arith, xs.len))
          ∙ ap (λ (n : ℕ). n % 2) (kept known 14 x 0 0 xs some ∙ sym (kept known 14 y 0 0 ys some))
          ∙ sym (group_is y ys.are_bytes (omega (arith, ys.len))))))
      | inr le ↦ omega (arith, le)
    ] in
    next_least primitives.Multicast told packet hs known room 0 missed t (omega arith)
    (missed_by primitives.Multicast (known ++ 0 ∷ [])
    (IsBytes-append known (0 ∷ []) t.known_ok (IsBytes-cons 0 [] (omega arith) IsBytes-nil))
    (omega (arith, length-append known (0 ∷ []), few))
    (λ r long bytes on passed.
    (let first = ap (λ (i : ℕ). get_or bytes i 0) (sym none) ∙ last_is known 0 r bytes on in
    omega (
      arith,
      eqb-true (number (slice_range bytes 0 6) / 2 ^ 40 % 2) 1 passed,
      group_is bytes on.are_bytes (omega (arith, on.len, long)),
      first,
    ))))
    (λ both. (let never = both.0 in cc)) ok o a u

-- ---- the second address, before its first byte

-- the rest of other bytes
pub swapped : (l bytes : List ℕ) (room : ℕ) → IsBytes l → length l ≤ room → IsBytes bytes → length bytes ≡ room
    → Continues l room (l ++ drop (length l) bytes)
swapped l bytes room ok le are len = record {
  more = drop (length l) bytes;
  is = refl;
  len = omega (arith, length-append l (drop (length l) bytes), length-drop (length l) bytes, len, le);
  are_bytes = IsBytes-append l (drop (length l) bytes) ok (IsBytes-drop (length l) bytes are);
}

pub source_kept : (l bytes : List ℕ) → length l ≤ 6
    → slice_range (l ++ drop (length l) bytes) 6 12 ≡ slice_range bytes 6 12
source_kept l bytes le = ap (take 6) (drop-append-drop (length l) bytes l 6 le refl)

-- a test that the bytes before it do not change
pub swap_among : (q : Primitive) (known more : List ℕ) → IsBytes (known ++ more) → length (known ++ more) ≤ 6
    → LinkAmong q known either
    → ((bytes : List ℕ) (room : ℕ) → 14 ≤ room → Continues known room bytes
    → Continues known room ((known ++ more) ++ drop (length (known ++ more)) bytes)
    → passes q ((known ++ more) ++ drop (length (known ++ more)) bytes) ≡ passes q bytes)
    → LinkAmong q (known ++ more) either
swap_among q known more ok le fits same room long =
    let all = known ++ more in
    let x = (fits room long).matches.0 refl in
    let y = (fits room long).fails.0 refl in
    let xs = swapped all x.0 room ok (omega (arith, le, long)) x.1.are_bytes x.1.len in
    let ys = swapped all y.0 room ok (omega (arith, le, long)) y.1.are_bytes y.1.len in
    record {
      matches = (
        λ t. (
          all ++ drop (length all) x.0,
          xs,
          same x.0 room long x.1 (widen known more room (all ++ drop (length all) x.0) xs) ∙ x.2,
        ),
        λ some. refl,
      );
      fails = (
        λ t. (
          all ++ drop (length all) y.0,
          ys,
          λ passed. y.2 (sym (same y.0 room long y.1 (widen known more room (all ++ drop (length all) y.0) ys))
              ∙ passed),
        ),
        λ some. refl,
      );
    }

-- zeros up to it, and a byte that differs
abbrev pub far_bytes : List ℕ → ℕ → List ℕ
far_bytes known address = replicate (6 - length known) 0 ++ wrong_byte address 0 ∷ []

pub far_ok : (known : List ℕ) (address : ℕ) → IsBytes (far_bytes known address)
far_ok known address =
    IsBytes-append (replicate (6 - length known) 0) (wrong_byte address 0 ∷ []) (zeros_are_bytes (6 - length known))
    (IsBytes-cons (wrong_byte address 0) [] (wrong_small address 0) IsBytes-nil)

pub far_len : (known : List ℕ) (address : ℕ) → length known < 6
    → length (far_bytes known address) ≡ 7 - length known
far_len known address few =
    omega (
      arith,
      length-append (replicate (6 - length known) 0) (wrong_byte address 0 ∷ []),
      length-replicate {A = ℕ} (6 - length known) 0,
      few,
    )

pub far_differs : (known : List ℕ) (address room : ℕ) (bytes : List ℕ) → length known < 6 → 14 ≤ room
    → Continues (known ++ far_bytes known address) room bytes → number (slice_range bytes 6 12) ≡ address → ⊥
far_differs known address room bytes few long on same =
    let zeros = replicate (6 - length known) 0 in
    address_differs (known ++ zeros) address 6 0 room bytes
    (omega (arith, length-append known zeros, length-replicate {A = ℕ} (6 - length known) 0, few)) (omega arith)
    (omega (arith, long))
    (subst (λ (l : List ℕ). Continues l room bytes) (sym (append_assoc known zeros (wrong_byte address 0 ∷ []))) on)
    same

pub source_far : (told : Told) (packet : Packet) (hs : List Header) (known : List ℕ) (room address : ℕ)
    → IsHeader (primitives.Source address) known room → length known < 6 → IsBytes packet.frame.now
    → IsOpen packet hs kinds.Ethernet2 known room → AreTold packet hs (primitives.Source address) told
    → IsUndecided packet (primitives.Source address)
    → IsLeast packet (primitives.Source address) (length packet.frame.now + (7 - length known))
source_far told packet hs known room address t few ok o a u =
    let q = primitives.Source address in
    let more = far_bytes known address in
    let len = far_len known address few in
    link_least q told packet hs known room 7 missed more t (omega (arith, few)) (omega arith)
    (λ rest rest_ok short. swap_among q known rest rest_ok (omega (arith, short)) t.fits
    (λ bytes r long on swapped_on. ap (λ (l : List ℕ). nat_eq address (number l))
    (source_kept (known ++ rest) bytes (omega (arith, short)))))
    (far_ok known address) len
    (missed_by q (known ++ more) (IsBytes-append known more t.known_ok (far_ok known address))
    (omega (arith, length-append known more, len, few))
    (λ r long bytes on passed. far_differs known address r bytes few long on
    (sym (eqb-true address (number (slice_range bytes 6 12)) passed))))
    (λ both. (let never = both.0 in cc)) ok o a u

-- ---- what is decided

-- what is known of the type at a place
known_type : (known : List ℕ) (place : ℕ) → (next : Announced) × IsTypeAt known place next
known_type known place = elim (cases_lt place (length known)) [
  | inl here ↦ (High (get_or known place 0), (here, refl))
  | inr past ↦ (Any, past)
]

pub decided_header : (q : Primitive) (packet : Packet) (hs : List Header) (known : List ℕ) (room : ℕ) (own : Can)
    → length known < 14 → IsBytes known → 14 ≤ room → is_of_link q ≡ true → is_of_field q ≡ false
    → (IsTrue own.matches → IsTrue own.fails → ⊥) → IsBytes packet.frame.now
    → IsOpen packet hs kinds.Ethernet2 known room → LinkAmong q known own → IsDecided packet q
decided_header q packet hs known room own few known_ok long link field closed ok o fits =
    let next = known_type known 12 in
    let p : Prospect =
    record { can_be_accepted = true; can_be_refused = false; next = next.0; room = room - 14 } in
    link_closed q p own packet hs known room refl link field (λ both. closed both.0 both.1)
    (record {
      bytes = ok;
      cut = few;
      unit = o;
      prospect = fixed kinds.Ethernet2 known room 14 next.0 (omega arith) ethernet2_is_fixed known_ok few long next.1;
    }) fits
