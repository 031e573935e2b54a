-- What an ARP packet can be if fewer than eight of its bytes are there.
use Rattle.std.proofs.Common.{◌≡◌, ℕ, zero, suc, ◌+◌, ◌-◌, ◌*◌, ◌<◌, ◌≤◌, List, ◌++◌, length, refl, sym, ap, ◌∙◌, arith, inl, inr, nat_lt, nat_le}
use Rattle.std.specs.Prelude.{get_or, replicate, slice_range}
use Rattle.std.proofs.lemmas.Bool.{cases_lt, ltb-true, lt-ltb, leb-true, le-leb}
use Rattle.std.proofs.lemmas.List.{length-append, length-replicate, get_or_append_left, get_or-append_right, get_or-replicate, get_or_default, get_or_past}
use Rattle.etherparse.specs.Types.LenSource.TheVariants as sources
use Rattle.etherparse.specs.Bytes.{IsBytes, number}
use Rattle.etherparse.specs.Arp.{ArpFront, BeginsArp, arp_len}
use Rattle.etherparse.specs.Kind as kinds
use Rattle.etherparse.specs.Header.{Header, kind_of}
use Rattle.etherparse.specs.Header as headers
use Rattle.etherparse.specs.Refusal as rows
use Rattle.etherparse.proofs.Means.{some_header}
use Rattle.etherparse.proofs.Numbers.{IsBytes-nil, IsBytes-cons, IsBytes-append}
use Rattle.etherparse.proofs.ArrayElements.{cells-is}
use Rattle.etherparse.proofs.Rows.{some_arp_front, accepts_arp}
use Rattle.etherparse.proofs.SubLists.{number-part_join, number-part_below}
use Rattle.ether_peel.specs.Grammar.Expectation.{EtherType, next_after}
use Rattle.ether_filter.specs.declared.prospect.Announced.TheVariants.{Nothing}
use Rattle.ether_filter.specs.Prospects.{Continues, AreRefused, AreAccepted, IsProspect}
use Rattle.ether_filter.proofs.Prospects.{never_both}

-- ---- the sizes

number-one : (i : ℕ) (bytes : List ℕ) → i + 1 ≤ length bytes
    → number (slice_range bytes i (i + 1)) ≡ get_or bytes i 0
number-one i bytes le = ap number (sym (cells-is i 1 bytes le)) ∙ omega arith

record ArpRead (bytes : List ℕ) : Type 0 where
  front : ArpFront
  begins : BeginsArp bytes front
  len : arp_len front ≡ 8 + 2 * get_or bytes 4 0 + 2 * get_or bytes 5 0

arp_read : (bytes : List ℕ) → IsBytes bytes → 8 ≤ length bytes → ArpRead bytes
arp_read bytes ok le =
    let f = some_arp_front bytes ok le in
    let a = number-part_join bytes 0 6 8 (omega arith) (omega arith) le in
    let b = number-part_join bytes 0 5 6 (omega arith) (omega arith) (omega (arith, le)) in
    let c = number-part_join bytes 0 4 5 (omega arith) (omega arith) (omega (arith, le)) in
    let o = number-part_below bytes 6 8 ok le in
    let p = number-one 5 bytes (omega (arith, le)) in
    let h = number-one 4 bytes (omega (arith, le)) in
    record { front = f.0; begins = f.1; len = omega (arith, a, b, c, o, p, h, ok 4, ok 5) }

-- ---- accepted or refused

arp_fits : (bytes : List ℕ) → IsBytes bytes → 8 ≤ length bytes
    → 8 + 2 * get_or bytes 4 0 + 2 * get_or bytes 5 0 ≤ length bytes → (h : Header) × AreAccepted kinds.Arp bytes h
arp_fits bytes ok le whole =
    let r = arp_read bytes ok le in
    let fits : arp_len r.front ≤ length bytes = omega (arith, r.len, whole) in
    let h = some_header sources.Slice bytes kinds.Arp ok (accepts_arp sources.Slice bytes r.front le r.begins fits) in (
      h.0,
      record {
        of_kind = h.1;
        accepted = λ bound. accepts_arp bound bytes r.front le r.begins fits;
        means = h.2;
      },
    )

pub arp_short : (bytes : List ℕ) → IsBytes bytes
    → length bytes < 8 + 2 * get_or bytes 4 0 + 2 * get_or bytes 5 0 → AreRefused kinds.Arp bytes
arp_short bytes ok short = elim (cases_lt (length bytes) 8) [
  | inl lt ↦ λ bound. (_, rows.arp lt)
  | inr le ↦
      let r = arp_read bytes ok le in
      λ bound. (_, rows.arp_addresses r.front le r.begins (omega (arith, r.len, short)))
]

-- an ARP packet announces no ether type
pub arp_ends : (h : Header) (t : ℕ) → kind_of h ≡ kinds.Arp → next_after h ≡ EtherType t → ⊥
arp_ends (headers.Arp a) t kind is = absurd cc
arp_ends h t kind is = absurd cc

-- ---- the sizes that can still be

-- the element of a list, or this value if it is not there
pub filled : (known : List ℕ) (n v i : ℕ) → i < length known + n
    → get_or (known ++ replicate n v) i 0 ≡ get_or known i v
filled known n v i lt = elim (cases_lt i (length known)) [
  | inl here ↦ get_or_append_left known (replicate n v) 0 i here ∙ get_or_default known i 0 v here
  | inr past ↦
      get_or-append_right known (replicate n v) (length known) i 0 refl past
      ∙ get_or-replicate n (i - length known) v 0 (omega (arith, lt, past)) ∙ sym (get_or_past known i v past)
]

replicated : (n v : ℕ) → v < 256 → IsBytes (replicate n v)
replicated zero v lt = IsBytes-nil
replicated (suc n) v lt = IsBytes-cons v (replicate n v) lt (replicated n v lt)

-- known bytes go on with a byte
pub go_on : (known : List ℕ) (room v : ℕ) → IsBytes known → length known ≤ room → v < 256
    → Continues known room (known ++ replicate (room - length known) v)
go_on known room v ok le lt = record {
  more = replicate (room - length known) v;
  is = refl;
  len = omega (
    arith,
    length-append known (replicate (room - length known) v),
    length-replicate {A = ℕ} (room - length known) v,
    le,
  );
  are_bytes = IsBytes-append known (replicate (room - length known) v) ok (replicated (room - length known) v lt);
}

-- a size is at least what is known of it, and at most
pub least_size : (known : List ℕ) (room : ℕ) (bytes : List ℕ) (i : ℕ) → Continues known room bytes
    → get_or known i 0 ≤ get_or bytes i 0
least_size known room bytes i on = elim (cases_lt i (length known)) [
  | inl here ↦ omega (arith, ap (λ (l : List ℕ). get_or l i 0) on.is ∙ get_or_append_left known on.more 0 i here)
  | inr past ↦ omega (arith, get_or_past known i 0 past)
]

most_size : (known : List ℕ) (room : ℕ) (bytes : List ℕ) (i : ℕ) → Continues known room bytes
    → get_or bytes i 0 ≤ get_or known i 255
most_size known room bytes i on = elim (cases_lt i (length known)) [
  | inl here ↦ omega (
    arith,
    ap (λ (l : List ℕ). get_or l i 0) on.is ∙ get_or_append_left known on.more 0 i here
        ∙ get_or_default known i 0 255 here,
  )
  | inr past ↦ omega (arith, get_or_past known i 255 past, on.are_bytes i)
]

pub arp_prospect : (known : List ℕ) (room least most : ℕ) → IsBytes known → length known ≤ room
    → least ≡ 8 + 2 * get_or known 4 0 + 2 * get_or known 5 0
    → most ≡ 8 + 2 * get_or known 4 255 + 2 * get_or known 5 255
    → IsProspect kinds.Arp known room
    (record { can_be_accepted = nat_le least room; can_be_refused = nat_lt room most; next = Nothing; room = 0 })
arp_prospect known room least most ok inside is is_most = record {
  refused = (
    λ t. (
      known ++ replicate (room - length known) 255,
      go_on known room 255 ok inside (omega arith),
      widest
          (ltb-true room most t),
    ),
    λ (bytes, on, r). lt-ltb room most (refused_below bytes on r),
  );
  accepted = (
    λ t. let z = go_on known room 0 ok inside (omega arith) in
        let bytes = known ++ replicate (room - length known) 0 in
        let fits = leb-true least room t in
        let h = arp_fits bytes z.are_bytes (omega (arith, z.len, is, fits))
        (omega (arith, z.len, is, fits, narrow 4, narrow 5)) in
        (bytes, h.0, z, h.1),
    λ (bytes, h, on, a). le-leb least room (accepted_above bytes h on a),
  );
  byte = tt;
  followed = λ bytes h t on a then. absurd (arp_ends h t a.of_kind then);
  exact = λ b is bytes h t on a then. absurd (arp_ends h t a.of_kind then);
  offered = λ accepted t rest lt offers are len. absurd offers;
}
  where
    narrow : (i : ℕ) → get_or (known ++ replicate (room - length known) 0) i 0 ≡ get_or known i 0
    narrow i = elim (cases_lt i (length known + (room - length known))) [
      | inl here ↦ filled known (room - length known) 0 i here
      | inr past ↦ get_or_past (known ++ replicate (room - length known) 0) i 0
          (omega (
            arith,
            past,
            length-append known (replicate (room - length known) 0),
            length-replicate {A = ℕ} (room - length known) 0,
          )) ∙ sym (get_or_past known i 0 (omega (arith, past)))
    ]

    widest : room < most → AreRefused kinds.Arp (known ++ replicate (room - length known) 255)
    widest short =
        let z = go_on known room 255 ok inside (omega arith) in
        let bytes = known ++ replicate (room - length known) 255 in
        elim (cases_lt room 8) [
          | inl few ↦ (λ bound. (_, rows.arp (omega (arith, z.len, few))))
          | inr le ↦ arp_short bytes z.are_bytes (omega (
            arith,
            z.len,
            is_most,
            short,
            filled known (room - length known) 255 4 (omega (arith, le, inside)),
            filled known (room - length known) 255 5 (omega (arith, le, inside)),
          ))
        ]

    refused_below : (bytes : List ℕ) → Continues known room bytes → AreRefused kinds.Arp bytes → room < most
    refused_below bytes on r = elim (cases_lt room most) [
      | inl lt ↦ lt
      | inr le ↦
          let a = arp_fits bytes on.are_bytes (omega (arith, on.len, le, is_most))
          (omega (arith, on.len, le, is_most, most_size known room bytes 4 on, most_size known room bytes 5 on)) in
          absurd (never_both kinds.Arp bytes a.0 r a.1)
    ]

    accepted_above : (bytes : List ℕ) (h : Header) → Continues known room bytes → AreAccepted kinds.Arp bytes h
        → least ≤ room
    accepted_above bytes h on a = elim (cases_lt room least) [
      | inl lt ↦ absurd (never_both kinds.Arp bytes h (arp_short bytes on.are_bytes
          (omega (arith, on.len, lt, is, least_size known room bytes 4 on, least_size known room bytes 5 on))) a)
      | inr le ↦ le
    ]
