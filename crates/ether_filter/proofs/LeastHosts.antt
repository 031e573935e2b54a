-- The least number of bytes of an Ethernet II header, for a primitive about either of its addresses.
use Rattle.std.proofs.Common.{◌≡◌, ℕ, ◌+◌, ◌-◌, ◌%◌, ◌^◌, ◌<◌, ◌≤◌, List, [], ◌∷◌, ◌++◌, length, take, drop, append_assoc, refl, sym, ap, subst, ◌∙◌, arith, inl, inr, ◌⊎◌, Bool, true, false, ◌||◌, nat_eq, IsTrue}
use Rattle.std.specs.Prelude.{get_or, slice_range, replicate}
use Rattle.std.proofs.lemmas.Bool.{eqb-true, eq-eqb, ne_eqb}
use Rattle.std.proofs.lemmas.List.{length-append, length-replicate, length-take-le, take-append-drop}
use Rattle.etherparse.specs.Bytes.{IsBytes, number}
use Rattle.etherparse.specs.Kind as kinds
use Rattle.etherparse.specs.Header.{Header}
use Rattle.etherparse.proofs.Numbers.{IsBytes-nil, IsBytes-cons, IsBytes-append}
use Rattle.etherparse.proofs.SubLists.{IsBytes-take, IsBytes-part, length-part, part_after_front}
use Rattle.ether_filter.specs.declared.can.Can.{Can}
use Rattle.ether_filter.specs.declared.packet.Packet.{Packet}
use Rattle.ether_filter.specs.declared.possible.Told.{Told}
use Rattle.ether_filter.specs.declared.primitive.Primitive.{Primitive}
use Rattle.ether_filter.specs.declared.primitive.Primitive.TheVariants as primitives
use Rattle.ether_filter.specs.Needed.{IsUndecided, IsLeast}
use Rattle.ether_filter.specs.Possible.{AreTold}
use Rattle.ether_filter.specs.Prospects.{Continues, IsOpen}
use Rattle.ether_filter.proofs.FieldChoices.{digit_of, goes_on}
use Rattle.ether_filter.proofs.LeastLinks.{passes, LinkAmong, missed_by, met_by, IsHeader, link_least, next_least, part_known, wrong_byte, wrong_small, address_differs, address_next, group_next, source_kept, swap_among, far_bytes, far_ok, far_len, far_differs}
use Rattle.ether_filter.proofs.LeastTags.{either, missed, met, widen}
use Rattle.ether_filter.proofs.OpenUnits.{rest_ok}
use Rattle.ether_filter.proofs.Typed.{zeros_are_bytes}

-- ---- one of two

or_left : (a b : Bool) → a ≡ true → (a || b) ≡ true
or_left true b t = refl
or_left false b t = absurd cc

or_right : (a b : Bool) → b ≡ true → (a || b) ≡ true
or_right true b t = refl
or_right false b t = t

or_none : (a b : Bool) → (a ≡ true → ⊥) → (b ≡ true → ⊥) → (a || b) ≡ true → ⊥
or_none true b f g t = f refl
or_none false b f g t = g t

or_one : (a b : Bool) → b ≡ false → (a || b) ≡ a
or_one true b none = refl
or_one false b none = none

abbrev destination_is : ℕ → List ℕ → Type 0
destination_is address bytes = number (slice_range bytes 0 6) ≡ address

abbrev source_is : ℕ → List ℕ → Type 0
source_is address bytes = number (slice_range bytes 6 12) ≡ address

by_source : (address : ℕ) (bytes : List ℕ) → source_is address bytes → passes (primitives.Host address) bytes ≡ true
by_source address bytes is =
    or_left (nat_eq address (number (slice_range bytes 6 12))) (nat_eq address (number (slice_range bytes 0 6)))
    (eq-eqb address (number (slice_range bytes 6 12)) (sym is))

by_destination : (address : ℕ) (bytes : List ℕ) → destination_is address bytes
    → passes (primitives.Host address) bytes ≡ true
by_destination address bytes is =
    or_right (nat_eq address (number (slice_range bytes 6 12))) (nat_eq address (number (slice_range bytes 0 6)))
    (eq-eqb address (number (slice_range bytes 0 6)) (sym is))

by_neither : (address : ℕ) (bytes : List ℕ) → (source_is address bytes → ⊥) → (destination_is address bytes → ⊥)
    → passes (primitives.Host address) bytes ≡ true → ⊥
by_neither address bytes source destination passed =
    or_none (nat_eq address (number (slice_range bytes 6 12))) (nat_eq address (number (slice_range bytes 0 6)))
    (λ t. source (sym (eqb-true address (number (slice_range bytes 6 12)) t)))
    (λ t. destination (sym (eqb-true address (number (slice_range bytes 0 6)) t))) passed

-- the test of a header with another destination
by_source_alone : (address : ℕ) (bytes : List ℕ) → (destination_is address bytes → ⊥)
    → passes (primitives.Host address) bytes ≡ nat_eq address (number (slice_range bytes 6 12))
by_source_alone address bytes never =
    or_one (nat_eq address (number (slice_range bytes 6 12))) (nat_eq address (number (slice_range bytes 0 6)))
    (ne_eqb address (number (slice_range bytes 0 6)) (λ e. never (sym e)))

-- ---- the destination is known

pub host_next : (told : Told) (packet : Packet) (hs : List Header) (known : List ℕ) (room address : ℕ)
    → IsHeader (primitives.Host address) known room → 6 ≤ length known → IsBytes packet.frame.now
    → IsOpen packet hs kinds.Ethernet2 known room → AreTold packet hs (primitives.Host address) told
    → IsUndecided packet (primitives.Host address)
    → IsLeast packet (primitives.Host address) (length packet.frame.now + (length known + 1 - length known))
host_next told packet hs known room address t six ok o a u =
    let q = primitives.Host address in
    let few = t.few in
    let j = length known - 6 in
    let b = wrong_byte address j in
    let small = wrong_small address j in
    let all = known ++ b ∷ [] in
    next_least q told packet hs known room b missed t small
    (missed_by q all (IsBytes-append known (b ∷ []) t.known_ok (IsBytes-cons b [] small IsBytes-nil))
    (omega (arith, length-append known (b ∷ []), few))
    (λ r long bytes on passed.
    (let y = (t.fits r long).fails.0 refl in
    let same = part_known known r bytes 0 6 (widen known (b ∷ []) r bytes on) (omega arith) six
    ∙ sym (part_known known r y.0 0 6 y.1 (omega arith) six) in
    by_neither address bytes
    (λ is. address_differs known address 6 j r bytes (omega (arith, six)) (omega (arith, six, few))
    (omega (arith, long)) on is)
    (λ is. y.2 (by_destination address y.0 (ap number (sym same) ∙ is))) passed)))
    (λ both. (let never = both.0 in cc)) ok o a u

-- ---- the destination is another one, as far as it is known

pub host_far : (told : Told) (packet : Packet) (hs : List Header) (known : List ℕ) (room address : ℕ)
    → IsHeader (primitives.Host address) known room → length known < 6
    → ((r : ℕ) → 14 ≤ r → (bytes : List ℕ) → Continues known r bytes → destination_is address bytes → ⊥)
    → IsBytes packet.frame.now
    → IsOpen packet hs kinds.Ethernet2 known room → AreTold packet hs (primitives.Host address) told
    → IsUndecided packet (primitives.Host address)
    → IsLeast packet (primitives.Host address) (length packet.frame.now + (7 - length known))
host_far told packet hs known room address t few never ok o a u =
    let q = primitives.Host address in
    let more = far_bytes known address in
    let len = far_len known address few in
    link_least q told packet hs known room 7 missed more t (omega (arith, few)) (omega arith)
    (λ rest rest_ok short. swap_among q known rest rest_ok (omega (arith, short)) t.fits
    (λ bytes r long on swapped_on.
    by_source_alone address ((known ++ rest) ++ drop (length (known ++ rest)) bytes)
    (never r long ((known ++ rest) ++ drop (length (known ++ rest)) bytes) swapped_on)
    ∙ ap (λ (l : List ℕ). nat_eq address (number l)) (source_kept (known ++ rest) bytes (omega (arith, short)))
    ∙ sym (by_source_alone address bytes (never r long bytes on))))
    (far_ok known address) len
    (missed_by q (known ++ more) (IsBytes-append known more t.known_ok (far_ok known address))
    (omega (arith, length-append known more, len, few))
    (λ r long bytes on passed. by_neither address bytes
    (λ is. far_differs known address r bytes few long on is)
    (λ is. never r long bytes (widen known more r bytes on) is) passed))
    (λ both. (let closed = both.0 in cc)) ok o a u

-- ---- the destination can be the wanted one

-- bytes that go on with this source, from five bytes or fewer
with_source : (l six : List ℕ) (room : ℕ) → IsBytes l → length l ≤ 6 → IsBytes six → length six ≡ 6 → 14 ≤ room
    → (bytes : List ℕ) × Continues l room bytes × (slice_range bytes 6 12 ≡ six)
with_source l six room ok le six_ok six_len long =
    let zeros = replicate (6 - length l) 0 in
    let zeros_len = length-replicate {A = ℕ} (6 - length l) 0 in
    let tail = replicate (room - 12) 0 in
    let tail_len = length-replicate {A = ℕ} (room - 12) 0 in
    let more = zeros ++ (six ++ tail) in
    let more_ok = IsBytes-append zeros (six ++ tail) (zeros_are_bytes (6 - length l))
    (IsBytes-append six tail six_ok (zeros_are_bytes (room - 12))) in (
      l ++ more,
      record {
        more = more;
        is = refl;
        len = omega (
          arith,
          length-append l more,
          length-append zeros (six ++ tail),
          length-append six tail,
          zeros_len,
          tail_len,
          six_len,
          le,
          long,
        );
        are_bytes = IsBytes-append l more ok more_ok;
      },
      ap (λ (k : List ℕ). slice_range k 6 12)
          (sym (append_assoc l zeros (six ++ tail)) ∙ sym (append_assoc (l ++ zeros) six tail))
          ∙ part_after_front (l ++ zeros) six tail 6 12 (omega (arith, length-append l zeros, zeros_len, le))
          (omega (arith, six_len)),
    )

-- an address whose last byte differs
last_differs : (bytes : List ℕ) (place address : ℕ) → IsBytes bytes → place + 6 ≤ length bytes
    → get_or bytes (place + 5) 0 ≡ (address + 1) % 256
    → number (slice_range bytes place (place + 6)) ≡ address → ⊥
last_differs bytes place address ok le at same =
    let last = digit_of bytes place ok le 5 (omega arith) in omega (arith, last, same, at)

pub host_near : (told : Told) (packet : Packet) (hs : List Header) (known : List ℕ) (room address : ℕ)
    → IsHeader (primitives.Host address) known room → length known < 6
    → (bytes : List ℕ) → Continues known 14 bytes → destination_is address bytes → IsBytes packet.frame.now
    → IsOpen packet hs kinds.Ethernet2 known room → AreTold packet hs (primitives.Host address) told
    → IsUndecided packet (primitives.Host address)
    → IsLeast packet (primitives.Host address) (length packet.frame.now + (6 - length known))
host_near told packet hs known room address t few bytes on is ok o a u =
    link_least (primitives.Host address) told packet hs known room 6 met more t few (omega arith) keeps more_ok len
    (met_by (primitives.Host address) (known ++ more) (IsBytes-append known more t.known_ok more_ok)
    (omega (arith, length-append known more, len, few)) always) (λ both. (let never = both.1 in cc)) ok o a u
  where
    more : List ℕ
    more = take (6 - length known) on.more

    len : length more ≡ 6 - length known
    len = length-take-le (6 - length known) on.more
        (omega (arith, few, on.len, ap length on.is, length-append known on.more))

    more_ok : IsBytes more
    more_ok = IsBytes-take (6 - length known) on.more (rest_ok known on.more (subst IsBytes on.is on.are_bytes))

    six : length (known ++ more) ≡ 6
    six = omega (arith, length-append known more, len, few)

    from : Continues (known ++ more) 14 bytes
    from = record {
      more = drop (6 - length known) on.more;
      is = on.is ∙ ap (λ (l : List ℕ). known ++ l) (sym (take-append-drop (6 - length known) on.more))
          ∙ sym (append_assoc known more (drop (6 - length known) on.more));
      len = on.len;
      are_bytes = on.are_bytes;
    }

    always : (r : ℕ) → 14 ≤ r → (others : List ℕ) → Continues (known ++ more) r others
        → IsTrue (passes (primitives.Host address) others)
    always r long others xs =
        by_destination address others
        (ap number (part_known (known ++ more) r others 0 6 xs (omega arith) (omega (arith, six))
        ∙ sym (part_known (known ++ more) 14 bytes 0 6 from (omega arith) (omega (arith, six)))) ∙ is)

    keeps : (rest : List ℕ) → IsBytes (known ++ rest) → length (known ++ rest) < 6
        → LinkAmong (primitives.Host address) (known ++ rest) either
    keeps rest rest_are short r long =
        let l = known ++ rest in
        let w = with_source l (slice_range bytes 0 6) r rest_are (omega (arith, short))
        (IsBytes-part 0 6 bytes on.are_bytes) (omega (arith, length-part bytes 0 6 (omega (arith, on.len)))) long in
        let g = goes_on l r (λ i. (address + 1) % 256) rest_are (omega (arith, short, long)) (λ i. omega arith) in
        record {
          matches = (λ t. (w.0, w.1, by_source address w.0 (ap number w.2 ∙ is)), λ some. refl);
          fails = (
            λ t. (
              g.bytes,
              g.on,
              by_neither address g.bytes
                  (last_differs g.bytes 6 address g.on.are_bytes (omega (arith, g.on.len, long))
                  (g.byte 11 (omega (arith, long)) (omega (arith, short))))
                  (last_differs g.bytes 0 address g.on.are_bytes (omega (arith, g.on.len, long))
                  (g.byte 5 (omega (arith, long)) (omega (arith, short)))),
            ),
            λ some. refl,
          );
        }

-- ---- any primitive about an address

pub link_next : (q : Primitive) (told : Told) (packet : Packet) (hs : List Header) (known : List ℕ) (room : ℕ)
    → IsHeader q known room
    → (6 ≤ length known) ⊎ (((x : ℕ) → q ≡ primitives.Source x → ⊥) × ((x : ℕ) → q ≡ primitives.Host x → ⊥))
    → IsBytes packet.frame.now
    → IsOpen packet hs kinds.Ethernet2 known room → AreTold packet hs q told → IsUndecided packet q
    → IsLeast packet q (length packet.frame.now + (length known + 1 - length known))
link_next (primitives.Destination address) told packet hs known room t which ok o a u =
    address_next (primitives.Destination address) told packet hs known room address 0 (length known) t (omega arith)
    (omega arith) (λ bytes. refl) ok o a u
link_next primitives.Broadcast told packet hs known room t which ok o a u =
    address_next primitives.Broadcast told packet hs known room (2 ^ 48 - 1) 0 (length known) t (omega arith)
    (omega arith) (λ bytes. refl) ok o a u
link_next primitives.Multicast told packet hs known room t which ok o a u =
    group_next told packet hs known room t ok o a u
link_next (primitives.Source address) told packet hs known room t (inl six) ok o a u =
    address_next (primitives.Source address) told packet hs known room address 6 (length known - 6) t (omega arith)
    (omega (arith, six)) (λ bytes. refl) ok o a u
link_next (primitives.Host address) told packet hs known room t (inl six) ok o a u =
    host_next told packet hs known room address t six ok o a u
link_next (primitives.Source address) told packet hs known room t (inr never) ok o a u = absurd (never.0 address refl)
link_next (primitives.Host address) told packet hs known room t (inr never) ok o a u = absurd (never.1 address refl)
link_next (primitives.Field f) told packet hs known room t which ok o a u = let field = t.field in absurd cc
link_next q told packet hs known room t which ok o a u = let link = t.link in absurd cc

-- what is open
pub link_either : (q : Primitive) (l : List ℕ) (own : Can) → LinkAmong q l own → IsTrue own.matches
    → IsTrue own.fails → LinkAmong q l either
link_either q l own fits matches fails room long =
    let a = fits room long in
    record { matches = (λ t. a.matches.0 matches, λ some. refl); fails = (λ t. a.fails.0 fails, λ some. refl) }
