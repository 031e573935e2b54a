-- What the header of a cooked capture can be if fewer than 16 of its bytes are there.
use Rattle.std.proofs.Common.{◌≡◌, ℕ, ◌+◌, ◌-◌, ◌*◌, ◌<◌, ◌≤◌, List, [], ◌∷◌, ◌++◌, length, append_assoc, refl, sym, ap, subst, ◌∙◌, arith, inl, inr, ◌⊎◌, Bool, true, false, cond, nat_lt, nat_eq, ◌||◌}
use Rattle.std.specs.Prelude.{get_or, replicate, slice_range, ◌==◌}
use Rattle.std.proofs.lemmas.Bool.{cases_lt, ltb-true, lt-ltb, eqb-true, cases_eq}
use Rattle.std.proofs.lemmas.List.{length-append, append-nil, get_or_append_left, get_or_default, get_or_past}
use Rattle.etherparse.specs.Types.LinuxSllProtocolType.{LinuxSllProtocolType}
use Rattle.etherparse.specs.Bytes.{IsBytes, number}
use Rattle.etherparse.specs.LinuxSll.{linux_sll_of, is_supported}
use Rattle.etherparse.specs.LinuxSllProtocolType.{link_protocol_of}
use Rattle.etherparse.specs.Kind as kinds
use Rattle.etherparse.specs.Header.{Header}
use Rattle.etherparse.specs.Header as headers
use Rattle.etherparse.specs.Refusal as rows
use Rattle.etherparse.proofs.ArrayElements.{number-two}
use Rattle.etherparse.proofs.LinuxSllFields.{linux_sll_begins, linux_sll_means, linux_sll_accepted}
use Rattle.etherparse.proofs.Means.{one_header}
use Rattle.etherparse.proofs.Numbers.{IsBytes-nil, IsBytes-cons, IsBytes-append}
use Rattle.etherparse.proofs.SubLists.{length-part}
use Rattle.ether_peel.specs.Grammar.Expectation.{EtherType, Sll, next_after, after_capture}
use Rattle.ether_filter.specs.declared.prospect.Announced.{Announced}
use Rattle.ether_filter.specs.declared.prospect.Announced.TheVariants.{Nothing, Any, High}
use Rattle.ether_filter.specs.Prospects.{Continues, AreRefused, AreAccepted, payload_bytes, Offers, FitsAnnounced, IsTypeAt, IsProspect}
use Rattle.ether_filter.proofs.Typed.{typed_number, typed_rest, typed_len}
use Rattle.ether_filter.proofs.Prospects.{zeros_continue, never_both, offers_known, typed, known_byte, payload_is, rest_is}
use Rattle.ether_filter.proofs.SecTags.{always_refused}
use Rattle.ether_filter.proofs.ArpProspects.{go_on, filled, least_size}

-- ---- hardware types that are supported

pub supported_in : (n : ℕ) → is_supported n ≡ true → (n ≡ 824) ⊎ ((n ≡ 778) ⊎ ((n ≡ 803) ⊎ ((n ≡ 770) ⊎ (n ≡ 1))))
supported_in n is =
    by_tests (nat_eq n 824) (nat_eq n 778) (nat_eq n 803) (nat_eq n 770) (nat_eq n 1) (eqb-true n 824) (eqb-true n 778)
    (eqb-true n 803) (eqb-true n 770) (eqb-true n 1) is
  where
    by_tests : {A B C D E : Type 0} (a b c d e : Bool) → (a ≡ true → A) → (b ≡ true → B) → (c ≡ true → C)
        → (d ≡ true → D) → (e ≡ true → E) → (a || b || c || d || e) ≡ true → A ⊎ (B ⊎ (C ⊎ (D ⊎ E)))
    by_tests true b c d e f g h i j is = inl (f refl)
    by_tests false true c d e f g h i j is = inr (inl (g refl))
    by_tests false false true d e f g h i j is = inr (inr (inl (h refl)))
    by_tests false false false true e f g h i j is = inr (inr (inr (inl (i refl))))
    by_tests false false false false true f g h i j is = inr (inr (inr (inr (j refl))))
    by_tests false false false false false f g h i j is = absurd cc

-- the low byte of a supported type with this high byte, and of Ethernet if it can be Ethernet
pub record IsLow (high low : ℕ) : Type 0 where
  pub three : high ≡ 3 → low ≡ 2
  pub other : (high ≡ 3 → ⊥) → low ≡ 1

low_byte : (high low : ℕ) → IsLow high low → low < 256
low_byte high low is = elim (cases_eq high 3) [
  | inl e ↦ omega (arith, is.three e)
  | inr never ↦ omega (arith, is.other never)
]

-- where some low byte makes a type supported, this one does
low_supported : (high low other : ℕ) → IsLow high low → other < 256 → is_supported (high * 256 + other) ≡ true
    → is_supported (256 * high + low) ≡ true
low_supported high low other is lt supported = elim (supported_in (high * 256 + other) supported) [
  | inl a ↦ three (omega (arith, a, lt))
  | inr (inl b) ↦ three (omega (arith, b, lt))
  | inr (inr (inl c)) ↦ three (omega (arith, c, lt))
  | inr (inr (inr (inl d))) ↦ three (omega (arith, d, lt))
  | inr (inr (inr (inr e))) ↦
      let zero_high : high ≡ 0 = omega (arith, e, lt) in
      let one : low ≡ 1 = is.other (λ t. omega (arith, t, zero_high)) in
      ap is_supported (let all : 256 * high + low ≡ 1 = omega (arith, zero_high, one) in all)
]
  where
    three : high ≡ 3 → is_supported (256 * high + low) ≡ true
    three e = ap is_supported (let all : 256 * high + low ≡ 770 = omega (arith, e, is.three e) in all)

-- ---- the numbers at their places

pub record SllRead (bytes : List ℕ) : Type 0 where
  pub packet_type : (linux_sll_of bytes).packet_type ≡ get_or bytes 0 0 * 256 + get_or bytes 1 0
  pub hardware_type : (linux_sll_of bytes).hardware_type ≡ get_or bytes 2 0 * 256 + get_or bytes 3 0

pub sll_read : (bytes : List ℕ) → 16 ≤ length bytes → SllRead bytes
sll_read bytes le = record {
  packet_type = number-two 0 bytes (omega (arith, le));
  hardware_type = number-two 2 bytes (omega (arith, le));
}

sll_accepts : (bytes : List ℕ) → IsBytes bytes → 16 ≤ length bytes → (linux_sll_of bytes).packet_type ≤ 7
    → is_supported (linux_sll_of bytes).hardware_type ≡ true
    → AreAccepted kinds.LinuxSll bytes (headers.LinuxSll (linux_sll_of bytes))
sll_accepts bytes ok le packet hardware = record {
  of_kind = refl;
  accepted = λ bound. linux_sll_accepted bound bytes ok le packet hardware;
  means = linux_sll_means bytes ok le;
}

-- of a packet type above 7
pub wrong_packet : (bytes : List ℕ) → IsBytes bytes → 16 ≤ length bytes → 7 < (linux_sll_of bytes).packet_type
    → AreRefused kinds.LinuxSll bytes
wrong_packet bytes ok le above bound =
    (_, rows.linux_sll_packet_type (linux_sll_of bytes) le (linux_sll_begins bytes ok le) above)

-- of a hardware type that is not supported
pub wrong_hardware : (bytes : List ℕ) → IsBytes bytes → 16 ≤ length bytes
    → is_supported (linux_sll_of bytes).hardware_type ≡ false → AreRefused kinds.LinuxSll bytes
wrong_hardware bytes ok le other bound = elim (cases_lt 7 (linux_sll_of bytes).packet_type) [
  | inl above ↦ (_, rows.linux_sll_packet_type (linux_sll_of bytes) le (linux_sll_begins bytes ok le) above)
  | inr below ↦ (_, rows.linux_sll_hardware_type (linux_sll_of bytes) le (linux_sll_begins bytes ok le) below other)
]

-- ---- the known bytes

pub record SllFront (known : List ℕ) (packet high low hardware : ℕ) : Type 0 where
  pub ok : IsBytes known
  pub few : length known < 16
  pub packet_is : packet ≡ 256 * get_or known 0 0 + get_or known 1 0
  pub high_is : high ≡ get_or known 2 0
  pub low_is : IsLow high low
  pub hardware_is : hardware ≡ 256 * high + get_or known 3 low

-- a byte that is known
kept : (known : List ℕ) (room : ℕ) (bytes : List ℕ) (i : ℕ) → Continues known room bytes → i < length known
    → get_or bytes i 0 ≡ get_or known i 0
kept known room bytes i on here = ap (λ (l : List ℕ). get_or l i 0) on.is ∙ get_or_append_left known on.more 0 i here

-- bytes that go on to a supported type
front_supported : (known : List ℕ) (packet high low hardware room : ℕ) (bytes : List ℕ)
    → SllFront known packet high low hardware → Continues known room bytes
    → is_supported (get_or bytes 2 0 * 256 + get_or bytes 3 0) ≡ true → is_supported hardware ≡ true
front_supported known packet high low hardware room bytes f on is = elim (cases_lt 3 (length known)) [
  | inl all ↦
      let second = kept known room bytes 2 on (omega (arith, all)) in
      let third = kept known room bytes 3 on all in
      let default = get_or_default known 3 0 low all in
      let same : hardware ≡ get_or bytes 2 0 * 256 + get_or bytes 3 0 =
      omega (arith, f.hardware_is, f.high_is, second, third, default) in
      ap is_supported same ∙ is
  | inr few ↦
      let past = get_or_past known 3 low few in
      let same : hardware ≡ 256 * high + low = omega (arith, f.hardware_is, past) in
      elim (cases_lt 2 (length known)) [
        | inl here ↦
            let second = kept known room bytes 2 on here in
            let read : high * 256 + get_or bytes 3 0 ≡ get_or bytes 2 0 * 256 + get_or bytes 3 0 =
            omega (arith, f.high_is, second) in
            ap is_supported same
            ∙ low_supported high low (get_or bytes 3 0) f.low_is (on.are_bytes 3) (ap is_supported read ∙ is)
        | inr none ↦
            let zero_high : high ≡ 0 = omega (arith, f.high_is, get_or_past known 2 0 none) in
            let one : low ≡ 1 = f.low_is.other (λ t. omega (arith, t, zero_high)) in
            ap is_supported (let ethernet : hardware ≡ 1 = omega (arith, same, zero_high, one) in ethernet)
      ]
]

-- .. to Ethernet
front_ethernet : (known : List ℕ) (packet high low hardware room : ℕ) (bytes : List ℕ)
    → SllFront known packet high low hardware → Continues known room bytes
    → get_or bytes 2 0 * 256 + get_or bytes 3 0 ≡ 1 → hardware ≡ 1
front_ethernet known packet high low hardware room bytes f on is =
    let zero_high : high ≡ 0 = elim (cases_lt 2 (length known)) [
      | inl here ↦ omega (arith, is, f.high_is, kept known room bytes 2 on here)
      | inr none ↦ omega (arith, f.high_is, get_or_past known 2 0 none)
    ] in
    let one : low ≡ 1 = f.low_is.other (λ t. omega (arith, t, zero_high)) in
    elim (cases_lt 3 (length known)) [
      | inl all ↦ omega (
        arith,
        f.hardware_is,
        zero_high,
        is,
        kept known room bytes 3 on all,
        get_or_default known 3 0 low all,
      )
      | inr few ↦ omega (arith, f.hardware_is, zero_high, one, get_or_past known 3 low few)
    ]

-- ---- at least four bytes, with these numbers

record Filled (known : List ℕ) (low : ℕ) : Type 0 where
  list : List ℕ
  more : List ℕ
  is : list ≡ known ++ more
  ok : IsBytes more
  four : 4 ≤ length list
  few : length list < 16
  size : (length list ≡ length known) ⊎ (length list ≡ 4)
  at_zero : get_or list 0 0 ≡ get_or known 0 0
  at_one : get_or list 1 0 ≡ get_or known 1 0
  at_two : get_or list 2 0 ≡ get_or known 2 0
  at_three : get_or list 3 0 ≡ get_or known 3 low

ended : (low : ℕ) → low < 256 → IsBytes (low ∷ [])
ended low lt = IsBytes-cons low [] lt IsBytes-nil

zero_ended : (low : ℕ) → low < 256 → IsBytes (0 ∷ low ∷ [])
zero_ended low lt = IsBytes-cons 0 (low ∷ []) (omega arith) (ended low lt)

zeros_ended : (low : ℕ) → low < 256 → IsBytes (0 ∷ 0 ∷ low ∷ [])
zeros_ended low lt = IsBytes-cons 0 (0 ∷ low ∷ []) (omega arith) (zero_ended low lt)

fill : (known : List ℕ) (low : ℕ) → low < 256 → length known < 16 → Filled known low
fill [] low lt few = record {
  list = 0 ∷ 0 ∷ 0 ∷ low ∷ [];
  more = 0 ∷ 0 ∷ 0 ∷ low ∷ [];
  is = refl;
  ok = IsBytes-cons 0 (0 ∷ 0 ∷ low ∷ []) (omega arith) (zeros_ended low lt);
  four = omega arith;
  few = omega arith;
  size = inr refl;
  at_zero = refl;
  at_one = refl;
  at_two = refl;
  at_three = refl;
}
fill (a ∷ []) low lt few = record {
  list = a ∷ 0 ∷ 0 ∷ low ∷ [];
  more = 0 ∷ 0 ∷ low ∷ [];
  is = refl;
  ok = zeros_ended low lt;
  four = omega arith;
  few = omega arith;
  size = inr refl;
  at_zero = refl;
  at_one = refl;
  at_two = refl;
  at_three = refl;
}
fill (a ∷ b ∷ []) low lt few = record {
  list = a ∷ b ∷ 0 ∷ low ∷ [];
  more = 0 ∷ low ∷ [];
  is = refl;
  ok = zero_ended low lt;
  four = omega arith;
  few = omega arith;
  size = inr refl;
  at_zero = refl;
  at_one = refl;
  at_two = refl;
  at_three = refl;
}
fill (a ∷ b ∷ c ∷ []) low lt few = record {
  list = a ∷ b ∷ c ∷ low ∷ [];
  more = low ∷ [];
  is = refl;
  ok = ended low lt;
  four = omega arith;
  few = omega arith;
  size = inr refl;
  at_zero = refl;
  at_one = refl;
  at_two = refl;
  at_three = refl;
}
fill (a ∷ b ∷ c ∷ d ∷ rest) low lt few = record {
  list = a ∷ b ∷ c ∷ d ∷ rest;
  more = [];
  is = sym (append-nil (a ∷ b ∷ c ∷ d ∷ rest));
  ok = IsBytes-nil;
  four = omega arith;
  few = few;
  size = inl refl;
  at_zero = refl;
  at_one = refl;
  at_two = refl;
  at_three = refl;
}

-- bytes that go on from the filled ones
from_filled : (known : List ℕ) (low room : ℕ) (bytes : List ℕ) (l : Filled known low) → IsBytes known
    → Continues l.list room bytes → Continues known room bytes
from_filled known low room bytes l ok on = record {
  more = l.more ++ on.more;
  is = on.is ∙ ap (λ (k : List ℕ). k ++ on.more) l.is ∙ append_assoc known l.more on.more;
  len = on.len;
  are_bytes = on.are_bytes;
}

-- what is known of the ether type does not change
type_filled : (known : List ℕ) (low : ℕ) (l : Filled known low) (next : Announced) → IsTypeAt known 14 next
    → IsTypeAt l.list 14 next
type_filled known low l Nothing is = is
type_filled known low l Any is = elim l.size [ inl same ↦ omega (arith, same, is) | inr four ↦ omega (arith, four) ]
type_filled known low l (High b) is = (
  omega (arith, is.0, ap length l.is, length-append known l.more),
  ap (λ (k : List ℕ). get_or k 14 0) l.is ∙ get_or_append_left known l.more 0 14 is.0 ∙ is.1,
)

list_ok : (known : List ℕ) (low : ℕ) (l : Filled known low) → IsBytes known → IsBytes l.list
list_ok known low l ok = subst IsBytes (sym l.is) (IsBytes-append known l.more ok l.ok)

-- the numbers of bytes that go on from four or more
record Numbers (bytes : List ℕ) (packet hardware : ℕ) : Type 0 where
  packet_type : (linux_sll_of bytes).packet_type ≡ packet
  hardware_type : (linux_sll_of bytes).hardware_type ≡ hardware

numbers : (list : List ℕ) (room : ℕ) (bytes : List ℕ) (packet hardware : ℕ) → 4 ≤ length list → 16 ≤ room
    → Continues list room bytes → packet ≡ 256 * get_or list 0 0 + get_or list 1 0
    → hardware ≡ 256 * get_or list 2 0 + get_or list 3 0 → Numbers bytes packet hardware
numbers list room bytes packet hardware four long on packet_is hardware_is =
    let r = sll_read bytes (omega (arith, on.len, long)) in
    record {
      packet_type = omega (
        arith,
        r.packet_type,
        packet_is,
        kept list room bytes 0 on (omega (arith, four)),
        kept list room bytes 1 on (omega (arith, four)),
      );
      hardware_type = omega (
        arith,
        r.hardware_type,
        hardware_is,
        kept list room bytes 2 on (omega (arith, four)),
        kept list room bytes 3 on (omega (arith, four)),
      );
    }

filled_numbers : (known : List ℕ) (packet high low hardware room : ℕ) (bytes : List ℕ)
    → SllFront known packet high low hardware → (l : Filled known low) → 16 ≤ room → Continues l.list room bytes
    → Numbers bytes packet hardware
filled_numbers known packet high low hardware room bytes f l long on =
    numbers l.list room bytes packet hardware l.four long on (omega (arith, f.packet_is, l.at_zero, l.at_one))
    (omega (arith, f.hardware_is, f.high_is, l.at_two, l.at_three))

-- ---- the header after which an ether type is announced

pub sll_next : (bytes : List ℕ) → (linux_sll_of bytes).hardware_type ≡ 1
    → next_after (headers.LinuxSll (linux_sll_of bytes)) ≡ EtherType (linux_sll_of bytes).protocol
sll_next bytes is = ap (λ (n : ℕ). after_capture n (linux_sll_of bytes).protocol) is

capture_type : (b : Bool) (n t : ℕ) (protocol : LinuxSllProtocolType)
    → cond b (EtherType n) (Sll protocol) ≡ EtherType t → (b ≡ true) × (n ≡ t)
capture_type true n t protocol is = (refl, cc)
capture_type false n t protocol is = absurd cc

sll_typed : (bytes : List ℕ) (t : ℕ) → next_after (headers.LinuxSll (linux_sll_of bytes)) ≡ EtherType t
    → ((linux_sll_of bytes).hardware_type ≡ 1) × ((linux_sll_of bytes).protocol ≡ t)
sll_typed bytes t is =
    let s = linux_sll_of bytes in
    let both = capture_type (s.hardware_type == 1) s.protocol t (link_protocol_of s.hardware_type s.protocol) is in
    (eqb-true s.hardware_type 1 both.0, both.1)

-- what is known of the ether type after a header that can be of this hardware type
pub record IsSllNext (known : List ℕ) (hardware : ℕ) (next : Announced) : Type 0 where
  pub ethernet : hardware ≡ 1 → IsTypeAt known 14 next
  pub other : (hardware ≡ 1 → ⊥) → next ≡ Nothing

sll_followed : (known : List ℕ) (packet high low hardware room : ℕ) (next : Announced)
    → SllFront known packet high low hardware → 16 ≤ room → IsSllNext known hardware next → (bytes : List ℕ)
    (h : Header) (t : ℕ) → Continues known room bytes → AreAccepted kinds.LinuxSll bytes h → next_after h ≡ EtherType t
    → Offers next t × (length (payload_bytes h bytes) ≡ room - 16)
sll_followed known packet high low hardware room next f long then bytes h t on a is =
    let le : 16 ≤ length bytes = omega (arith, on.len, long) in
    let s = headers.LinuxSll (linux_sll_of bytes) in
    let same : h ≡ s = one_header bytes h s a.of_kind a.means (linux_sll_means bytes on.are_bytes le) in
    let type = sll_typed bytes t (sym (ap next_after same) ∙ is) in
    let ethernet = front_ethernet known packet high low hardware room bytes f on
    (sym (sll_read bytes le).hardware_type ∙ type.0) in
    let number_is : t ≡ number (slice_range bytes 14 16) = sym type.1 in
    let known_is : bytes ≡ known ++ on.more = on.is in (
      rw (number_is, known_is) (offers_known known on.more 14 next (subst IsBytes on.is on.are_bytes)
          (omega (arith, ap length on.is, le)) (then.ethernet ethernet)),
      omega (
        arith,
        on.len,
        le,
        ap length (ap (λ (k : Header). payload_bytes k bytes) same ∙ payload_is s bytes 16 refl refl),
        length-part bytes 16 (length bytes) (omega arith),
      ),
    )

sll_offered : (known : List ℕ) (packet high low hardware room : ℕ) (next : Announced) (l : Filled known low)
    → SllFront known packet high low hardware → 16 ≤ room → packet ≤ 7 → hardware ≡ 1 → IsTypeAt known 14 next
    → (t : ℕ) (rest : List ℕ) → t < 65536 → Offers next t → IsBytes rest → length rest ≡ room - 16
    → (bytes : List ℕ) × (h : Header) × Continues known room bytes × AreAccepted kinds.LinuxSll bytes h
    × (next_after h ≡ EtherType t) × (payload_bytes h bytes ≡ rest)
sll_offered known packet high low hardware room next l f long below ethernet then t rest lt offers are len =
    let a = typed l.list 14 t rest next (omega (arith, l.few)) (type_filled known low l next then) offers lt are in
    let bytes = l.list ++ a.more in
    let whole = typed_len l.list 14 t rest a in
    let le : 16 ≤ length bytes = omega (arith, whole) in
    let on : Continues l.list room bytes = record {
      more = a.more;
      is = refl;
      len = omega (arith, whole, len, long);
      are_bytes = IsBytes-append l.list a.more (list_ok known low l f.ok) a.bytes;
    } in
    let n = filled_numbers known packet high low hardware room bytes f l long on in
    let s = headers.LinuxSll (linux_sll_of bytes) in (
      bytes,
      s,
      from_filled known low room bytes l f.ok on,
      sll_accepts bytes on.are_bytes le (omega (arith, n.packet_type, below))
          (ap is_supported (n.hardware_type ∙ ethernet)),
      sll_next bytes (n.hardware_type ∙ ethernet) ∙ ap EtherType (typed_number l.list 14 t rest a),
      payload_is s bytes 16 refl refl ∙ rest_is bytes 16 le ∙ typed_rest l.list 14 t rest a,
    )

-- ---- bytes that are refused

pub never_supported : (high low : ℕ) → low ≡ 255 → is_supported (high * 256 + low) ≡ false
never_supported high low is = by_test (is_supported (high * 256 + low)) refl
  where
    by_test : (b : Bool) → is_supported (high * 256 + low) ≡ b → is_supported (high * 256 + low) ≡ false
    by_test false e = e
    by_test true e = elim (supported_in (high * 256 + low) e) [
      | inl a ↦ absurd (omega (arith, a, is))
      | inr (inl b) ↦ absurd (omega (arith, b, is))
      | inr (inr (inl c)) ↦ absurd (omega (arith, c, is))
      | inr (inr (inr (inl d))) ↦ absurd (omega (arith, d, is))
      | inr (inr (inr (inr one))) ↦ absurd (omega (arith, one, is))
    ]

-- fewer than four bytes go on with 255
short_refused : (known : List ℕ) (room : ℕ) → IsBytes known → 16 ≤ room → length known < 4
    → (bytes : List ℕ) × Continues known room bytes × AreRefused kinds.LinuxSll bytes
short_refused known room ok long few =
    let n = room - length known in
    let bytes = known ++ replicate n 255 in
    let on = go_on known room 255 ok (omega (arith, few, long)) (omega arith) in
    let le : 16 ≤ length bytes = omega (arith, on.len, long) in
    let last : get_or bytes 3 0 ≡ 255 =
    filled known n 255 3 (omega (arith, few, long)) ∙ get_or_past known 3 255 (omega (arith, few)) in (
      bytes,
      on,
      wrong_hardware bytes on.are_bytes le
          (ap is_supported (sll_read bytes le).hardware_type
          ∙ never_supported (get_or bytes 2 0) (get_or bytes 3 0) last),
    )

-- ---- all together

pub sll_prospect : (known : List ℕ) (packet high low hardware room : ℕ) (next : Announced)
    → SllFront known packet high low hardware → length known ≤ room → 16 ≤ room → packet ≤ 7
    → is_supported hardware ≡ true → IsSllNext known hardware next
    → IsProspect kinds.LinuxSll known room
    (record { can_be_accepted = true; can_be_refused = nat_lt (length known) 4; next = next; room = room - 16 })
sll_prospect known packet high low hardware room next f inside long below supported then = record {
  refused = (
    λ t. short_refused known room f.ok long (ltb-true (length known) 4 t),
    λ (bytes, on, r). elim (cases_lt (length known) 4) [
      | inl lt ↦ lt-ltb (length known) 4 lt
      | inr four ↦ absurd (never_both kinds.LinuxSll bytes (headers.LinuxSll (linux_sll_of bytes)) r
          (accepts bytes on.are_bytes on.len (numbers known room bytes packet hardware four long on f.packet_is
          (omega (arith, f.hardware_is, f.high_is, get_or_default known 3 0 low (omega (arith, four)))))))
    ],
  );
  accepted = (
    λ t. let z = zeros_continue l.list room (list_ok known low l f.ok) (omega (arith, l.few, long)) in (
      z.0,
      headers.LinuxSll (linux_sll_of z.0),
      from_filled known low room z.0 l f.ok z.1,
      accepts z.0 z.1.are_bytes z.1.len (filled_numbers known packet high low hardware room z.0 f l long z.1),
    ),
    λ it. refl,
  );
  byte = by_type FitsAnnounced (λ e. known_byte known 14 next f.ok (then.ethernet e)) tt;
  followed = λ bytes h t on a is.
      (let both = sll_followed known packet high low hardware room next f long then bytes h t on a is in
      (both.0, omega (arith, both.1)));
  exact = λ b is bytes h t on a type.
      (sll_followed known packet high low hardware room next f long then bytes h t on a type).1;
  offered = λ got t rest lt offers are len. elim (cases_eq hardware 1) [
    | inl e ↦ sll_offered known packet high low hardware room next l f long below e (then.ethernet e) t rest lt offers
        are len
    | inr never ↦ absurd (subst (λ (a : Announced). Offers a t) (then.other never) offers)
  ];
}
  where
    l : Filled known low
    l = fill known low (low_byte high low f.low_is) f.few

    accepts : (bytes : List ℕ) → IsBytes bytes → length bytes ≡ room → Numbers bytes packet hardware
        → AreAccepted kinds.LinuxSll bytes (headers.LinuxSll (linux_sll_of bytes))
    accepts bytes ok len n =
        sll_accepts bytes ok (omega (arith, len, long)) (omega (arith, n.packet_type, below))
        (ap is_supported n.hardware_type ∙ supported)

    by_type : (P : Announced → Type 0) → (hardware ≡ 1 → P next) → P Nothing → P next
    by_type P got none = elim (cases_eq hardware 1) [
      | inl e ↦ got e
      | inr never ↦ subst P (sym (then.other never)) none
    ]

-- it is refused whatever its bytes are: for want of room
pub sll_short : (known : List ℕ) (room : ℕ) → IsBytes known → length known ≤ room → room < 16
    → IsProspect kinds.LinuxSll known room
    (record { can_be_accepted = false; can_be_refused = true; next = Nothing; room = 0 })
sll_short known room ok inside short =
    always_refused kinds.LinuxSll known room ok inside
    (λ bytes on bound. (_, rows.linux_sll (omega (arith, on.len, short))))

-- .. for its packet type
pub sll_packet : (known : List ℕ) (packet room : ℕ) → IsBytes known → length known ≤ room → 16 ≤ room
    → packet ≡ 256 * get_or known 0 0 + get_or known 1 0 → 7 < packet
    → IsProspect kinds.LinuxSll known room
    (record { can_be_accepted = false; can_be_refused = true; next = Nothing; room = 0 })
sll_packet known packet room ok inside long is above =
    always_refused kinds.LinuxSll known room ok inside (λ bytes on.
    (let le : 16 ≤ length bytes = omega (arith, on.len, long) in
    wrong_packet bytes on.are_bytes le (omega (
      arith,
      (sll_read bytes le).packet_type,
      is,
      above,
      least_size known room bytes 0 on,
      least_size known room bytes 1 on,
    ))))

-- .. for its hardware type
pub sll_hardware : (known : List ℕ) (packet high low hardware room : ℕ) → SllFront known packet high low hardware
    → length known ≤ room → 16 ≤ room → is_supported hardware ≡ false
    → IsProspect kinds.LinuxSll known room
    (record { can_be_accepted = false; can_be_refused = true; next = Nothing; room = 0 })
sll_hardware known packet high low hardware room f inside long other =
    always_refused kinds.LinuxSll known room f.ok inside (λ bytes on.
    (let le : 16 ≤ length bytes = omega (arith, on.len, long) in
    wrong_hardware bytes on.are_bytes le
    (ap is_supported (sll_read bytes le).hardware_type
    ∙ by_test bytes on (is_supported (get_or bytes 2 0 * 256 + get_or bytes 3 0)) refl)))
  where
    by_test : (bytes : List ℕ) → Continues known room bytes → (b : Bool)
        → is_supported (get_or bytes 2 0 * 256 + get_or bytes 3 0) ≡ b
        → is_supported (get_or bytes 2 0 * 256 + get_or bytes 3 0) ≡ false
    by_test bytes on false e = e
    by_test bytes on true e =
        let gone : true ≡ false = sym (front_supported known packet high low hardware room bytes f on e) ∙ other in
        absurd cc
