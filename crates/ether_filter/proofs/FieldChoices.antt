-- Which values the fields of bytes can have that go on from known ones.
use Rattle.std.proofs.Common.{◌≡◌, ℕ, zero, suc, ◌+◌, ◌-◌, ◌*◌, ◌/◌, ◌%◌, ◌^◌, ◌<◌, ◌≤◌, List, [], ◌∷◌, ◌++◌, length, refl, sym, ap, ◌∙◌, arith, inl, inr, ◌⊎◌, Bool, true, false, ◌||◌, nat_eq, IsTrue, ◌↔◌}
use Rattle.std.specs.Prelude.{slice_range, get_or}
use Rattle.std.proofs.lemmas.Bool.{cases_lt, cases_eq, eqb-true, eq-eqb}
use Rattle.std.proofs.lemmas.List.{length-append, get_or_append_left, get_or-append_right, get_or_default, get_or_past}
use Rattle.etherparse.specs.Bytes.{IsBytes, number}
use Rattle.etherparse.specs.Vlan.{vlan_of}
use Rattle.etherparse.proofs.ArrayElements.{cells-is, number-two}
use Rattle.etherparse.proofs.Numbers.{IsBytes-nil, IsBytes-cons, IsBytes-append}
use Rattle.ether_filter.specs.declared.can.Can.{Can}
use Rattle.ether_filter.specs.declared.primitive.Primitive.{Primitive}
use Rattle.ether_filter.specs.declared.primitive.Primitive.TheVariants as primitives
use Rattle.ether_filter.specs.Deciding.{is_of_link, is_of_field}
use Rattle.ether_filter.specs.Primitives.{is_group}
use Rattle.ether_filter.specs.Prospects.{Continues}
use Rattle.ether_filter.specs.OwnFields.{IsAmong, IsNearest, LacksAddress}

-- ---- known bytes go on by a rule

abbrev pub by_rule : (ℕ → ℕ) → (n start : ℕ) → List ℕ
by_rule f zero start = []
by_rule f (suc n) start = f start ∷ by_rule f n (suc start)

rule_len : (f : ℕ → ℕ) (n start : ℕ) → length (by_rule f n start) ≡ n
rule_len f zero start = refl
rule_len f (suc n) start = ap suc (rule_len f n (suc start))

rule_bytes : (f : ℕ → ℕ) (n start : ℕ) → ((i : ℕ) → f i < 256) → IsBytes (by_rule f n start)
rule_bytes f zero start ok = IsBytes-nil
rule_bytes f (suc n) start ok =
    IsBytes-cons (f start) (by_rule f n (suc start)) (ok start) (rule_bytes f n (suc start) ok)

rule_at : (f : ℕ → ℕ) (n start i : ℕ) → i < n → get_or (by_rule f n start) i 0 ≡ f (start + i)
rule_at f zero start i lt = absurd (omega (arith, lt))
rule_at f (suc n) start zero lt = ap f (let same : start ≡ start + 0 = omega arith in same)
rule_at f (suc n) start (suc i) lt =
    rule_at f n (suc start) i (omega (arith, lt))
    ∙ ap f (let same : suc start + i ≡ start + suc i = omega arith in same)

pub record GoesOn (known : List ℕ) (room : ℕ) (f : ℕ → ℕ) : Type 0 where
  pub bytes : List ℕ
  pub on : Continues known room bytes
  pub byte : (i : ℕ) → i < room → length known ≤ i → get_or bytes i 0 ≡ f i

pub goes_on : (known : List ℕ) (room : ℕ) (f : ℕ → ℕ) → IsBytes known → length known ≤ room → ((i : ℕ) → f i < 256)
    → GoesOn known room f
goes_on known room f ok inside small =
    let n = room - length known in
    let more = by_rule f n (length known) in
    let more_len = rule_len f n (length known) in
    record {
      bytes = known ++ more;
      on = record {
        more = more;
        is = refl;
        len = omega (arith, length-append known more, more_len, inside);
        are_bytes = IsBytes-append known more ok (rule_bytes f n (length known) small);
      };
      byte = λ i lt past.
          get_or-append_right known more (length known) i 0 refl past
          ∙ rule_at f n (length known) (i - length known) (omega (arith, lt, past))
          ∙ ap f (let same : length known + (i - length known) ≡ i = omega (arith, past) in same);
    }

pub kept : (known : List ℕ) (room : ℕ) (bytes : List ℕ) (i v : ℕ) → Continues known room bytes → i < length known
    → get_or bytes i 0 ≡ get_or known i v
kept known room bytes i v on here =
    ap (λ (l : List ℕ). get_or l i 0) on.is ∙ get_or_append_left known on.more 0 i here
    ∙ get_or_default known i 0 v here

-- a byte that is known, or else is the default
pub byte_is : (known : List ℕ) (room : ℕ) (bytes : List ℕ) (i v : ℕ) → Continues known room bytes
    → (length known ≤ i → get_or bytes i 0 ≡ v) → get_or bytes i 0 ≡ get_or known i v
byte_is known room bytes i v on is = elim (cases_lt i (length known)) [
  | inl here ↦ kept known room bytes i v on here
  | inr past ↦ is past ∙ sym (get_or_past known i v past)
]

-- ---- the identifier of a VLAN tag

pub vid_is : (bytes : List ℕ) → get_or bytes 1 0 < 256 → 2 ≤ length bytes
    → (vlan_of bytes).vid ≡ get_or bytes 0 0 % 16 * 256 + get_or bytes 1 0
vid_is bytes small le = omega (arith, number-two 0 bytes le, small)

-- the identifier in bytes that go on with those of a wanted one
abbrev pub IsNearestId : (known : List ℕ) (id n : ℕ) → Type 0
IsNearestId known id n = n ≡ get_or known 0 (id / 256 % 256) % 16 * 256 + get_or known 1 (id % 256)

abbrev id_rule : ℕ → ℕ → ℕ
id_rule id zero = id / 256 % 256
id_rule id (suc i) = id % 256

-- what a test of two bounds or numbers says
pub record Says (known : List ℕ) (least nearest wanted : ℕ) (can : Can) : Type 0 where
  pub matches : IsTrue can.matches ↔ (nearest ≡ wanted)
  pub fails : IsTrue can.fails ↔ ((length known < least) ⊎ (nearest ≡ wanted → ⊥))

same_id : (known : List ℕ) (id nearest room : ℕ) → IsNearestId known id nearest → 4 ≤ room → (bytes : List ℕ)
    → Continues known room bytes → (vlan_of bytes).vid ≡ id → nearest ≡ id
same_id known id nearest room is long bytes on same =
    let vid = vid_is bytes (on.are_bytes 1) (omega (arith, on.len, long)) in
    let first : get_or known 0 (id / 256 % 256) % 16 ≡ id / 256 = elim (cases_lt 0 (length known)) [
      | inl here ↦ omega (arith, kept known room bytes 0 (id / 256 % 256) on here, vid, same)
      | inr past ↦ omega (arith, get_or_past known 0 (id / 256 % 256) past, vid, same)
    ] in
    let second : get_or known 1 (id % 256) ≡ id % 256 = elim (cases_lt 1 (length known)) [
      | inl here ↦ omega (arith, kept known room bytes 1 (id % 256) on here, vid, same, on.are_bytes 1)
      | inr past ↦ get_or_past known 1 (id % 256) past
    ] in
    omega (arith, is, first, second)

id_is : (known : List ℕ) (id nearest room : ℕ) → IsNearestId known id nearest → 4 ≤ room → (bytes : List ℕ)
    → Continues known room bytes → (length known ≤ 0 → get_or bytes 0 0 ≡ id / 256 % 256)
    → (length known ≤ 1 → get_or bytes 1 0 ≡ id % 256) → (vlan_of bytes).vid ≡ nearest
id_is known id nearest room is long bytes on first second =
    omega (
      arith,
      is,
      vid_is bytes (on.are_bytes 1) (omega (arith, on.len, long)),
      byte_is known room bytes 0 (id / 256 % 256) on first,
      byte_is known room bytes 1 (id % 256) on second,
      on.are_bytes 1,
    )

id_fails : (known : List ℕ) (id nearest room : ℕ) → IsBytes known → length known < 4 → 4 ≤ room
    → IsNearestId known id nearest → (length known < 2) ⊎ (nearest ≡ id → ⊥)
    → (bytes : List ℕ) × Continues known room bytes × ((vlan_of bytes).vid ≡ id → ⊥)
id_fails known id nearest room ok few long is why =
    let other = λ (i : ℕ). (id + 1) % 256 in
    let g = goes_on known room other ok (omega (arith, few, long)) (λ i. omega arith) in (
      g.bytes,
      g.on,
      λ same. elim why [
        | inl short ↦ omega (
          arith,
          g.byte 1 (omega (arith, long)) (omega (arith, short)),
          vid_is g.bytes (g.on.are_bytes 1) (omega (arith, g.on.len, long)),
          same,
        )
        | inr never ↦ never (same_id known id nearest room is long g.bytes g.on same)
      ],
    )

pub id_among : (known : List ℕ) (id nearest room : ℕ) (can : Can) → IsBytes known → length known < 4 → 4 ≤ room
    → IsNearestId known id nearest → Says known 2 nearest id can
    → IsAmong known room (λ bytes. (vlan_of bytes).vid ≡ id) can
id_among known id nearest room can ok few long is says = record {
  matches = (
    λ t. (let g = goes_on known room (id_rule id) ok (omega (arith, few, long)) small in (
      g.bytes,
      g.on,
      id_is known id nearest room is long g.bytes g.on (λ past. g.byte 0 (omega (arith, long)) past)
          (λ past. g.byte 1 (omega (arith, long)) past) ∙ says.matches.0 t,
    )),
    λ (bytes, on, same). says.matches.1 (same_id known id nearest room is long bytes on same),
  );
  fails = (
    λ t. id_fails known id nearest room ok few long is (says.fails.0 t),
    λ (bytes, on, never). says.fails.1 (elim (cases_lt (length known) 2) [
      | inl short ↦ inl short
      | inr all ↦ inr (λ e. never (id_is known id nearest room is long bytes on
          (λ past. absurd (omega (arith, all, past)))
          (λ past. absurd (omega (arith, all, past))) ∙ e))
    ]),
  );
}
  where
    small : (i : ℕ) → id_rule id i < 256
    small zero = omega arith
    small (suc i) = omega arith

-- ---- six bytes

pub number-six : (i : ℕ) (list : List ℕ) → i + 6 ≤ length list
    → number (slice_range list i (i + 6))
    ≡ get_or list i 0 * 2 ^ 40 + get_or list (i + 1) 0 * 2 ^ 32 + get_or list (i + 2) 0 * 2 ^ 24
    + get_or list (i + 3) 0 * 2 ^ 16 + get_or list (i + 4) 0 * 2 ^ 8 + get_or list (i + 5) 0
number-six i list le =
    let at = λ (j : ℕ). get_or list j 0 in
    let two : i + 1 + 1 ≡ i + 2 = omega arith in
    let three : i + 1 + 1 + 1 ≡ i + 3 = omega arith in
    let four : i + 1 + 1 + 1 + 1 ≡ i + 4 = omega arith in
    let five : i + 1 + 1 + 1 + 1 + 1 ≡ i + 5 = omega arith in
    ap number (sym (cells-is i 6 list le)) ∙ omega (arith, ap at two, ap at three, ap at four, ap at five)

-- each byte is a digit of the number
pub digit_of : (bytes : List ℕ) (place : ℕ) → IsBytes bytes → place + 6 ≤ length bytes → (j : ℕ) → j < 6
    → get_or bytes (place + j) 0 ≡ number (slice_range bytes place (place + 6)) / 256 ^ (5 - j) % 256
digit_of bytes place ok le j lt = by_place j lt
  where
    six : number (slice_range bytes place (place + 6))
        ≡ get_or bytes place 0 * 2 ^ 40 + get_or bytes (place + 1) 0 * 2 ^ 32 + get_or bytes (place + 2) 0 * 2 ^ 24
        + get_or bytes (place + 3) 0 * 2 ^ 16 + get_or bytes (place + 4) 0 * 2 ^ 8 + get_or bytes (place + 5) 0
    six = number-six place bytes le

    a : get_or bytes place 0 < 256
    a = ok place

    b : get_or bytes (place + 1) 0 < 256
    b = ok (place + 1)

    c : get_or bytes (place + 2) 0 < 256
    c = ok (place + 2)

    d : get_or bytes (place + 3) 0 < 256
    d = ok (place + 3)

    e : get_or bytes (place + 4) 0 < 256
    e = ok (place + 4)

    f : get_or bytes (place + 5) 0 < 256
    f = ok (place + 5)

    by_place : (k : ℕ) → k < 6
        → get_or bytes (place + k) 0 ≡ number (slice_range bytes place (place + 6)) / 256 ^ (5 - k) % 256
    by_place zero l =
        ap (λ (i : ℕ). get_or bytes i 0) (let none : place + 0 ≡ place = omega arith in none)
        ∙ omega (arith, six, a, b, c, d, e, f)
    by_place (suc zero) l = omega (arith, six, a, b, c, d, e, f)
    by_place (suc (suc zero)) l = omega (arith, six, a, b, c, d, e, f)
    by_place (suc (suc (suc zero))) l = omega (arith, six, a, b, c, d, e, f)
    by_place (suc (suc (suc (suc zero)))) l = omega (arith, six, a, b, c, d, e, f)
    by_place (suc (suc (suc (suc (suc zero))))) l = omega (arith, six, a, b, c, d, e, f)
    by_place (suc (suc (suc (suc (suc (suc k)))))) l = absurd (omega (arith, l))

-- ---- an address

-- the sum of the bytes that are known, and of digits
pub nearest_is : (known : List ℕ) (place address n : ℕ)
    → n ≡ get_or known place (address / 2 ^ 40 % 256) * 2 ^ 40 + get_or known (place + 1)
    (address / 2 ^ 32 % 256) * 2 ^ 32
    + get_or known (place + 2) (address / 2 ^ 24 % 256) * 2 ^ 24 + get_or known (place + 3)
    (address / 2 ^ 16 % 256) * 2 ^ 16
    + get_or known (place + 4) (address / 2 ^ 8 % 256) * 2 ^ 8 + get_or known (place + 5) (address % 256)
    → IsNearest known place address n
nearest_is known place address n is room bytes on le digits =
    let none : place + 0 ≡ place = omega arith in
    let a = byte_is known room bytes place (address / 2 ^ 40 % 256) on
    (λ past. ap (λ (i : ℕ). get_or bytes i 0) (sym none) ∙ digits 0 (omega arith) (omega (arith, past))) in
    let b = byte_is known room bytes (place + 1) (address / 2 ^ 32 % 256) on (digits 1 (omega arith)) in
    let c = byte_is known room bytes (place + 2) (address / 2 ^ 24 % 256) on (digits 2 (omega arith)) in
    let d = byte_is known room bytes (place + 3) (address / 2 ^ 16 % 256) on (digits 3 (omega arith)) in
    let e = byte_is known room bytes (place + 4) (address / 2 ^ 8 % 256) on (digits 4 (omega arith)) in
    let f = byte_is known room bytes (place + 5) (address % 256) on
    (λ past. digits 5 (omega arith) past ∙ omega arith) in
    omega (arith, is, number-six place bytes (omega (arith, on.len, le)), a, b, c, d, e, f)

same_address : (known : List ℕ) (place address n room : ℕ) → IsNearest known place address n → place + 6 ≤ room
    → (bytes : List ℕ) → Continues known room bytes → number (slice_range bytes place (place + 6)) ≡ address
    → n ≡ address
same_address known place address n room is long bytes on same =
    sym (is room bytes on long (λ j lt past.
    digit_of bytes place on.are_bytes (omega (arith, on.len, long)) j lt
    ∙ ap (λ (a : ℕ). a / 256 ^ (5 - j) % 256) same)) ∙ same

pub address_lacks : (known : List ℕ) (place address n : ℕ) (can : Can) → IsNearest known place address n
    → Says known (place + 6) n address can → IsTrue can.fails → LacksAddress known place address
address_lacks known place address n can is says t room bytes on long other same = elim (says.fails.0 t) [
  | inl short ↦
      let last = digit_of bytes place on.are_bytes (omega (arith, on.len, long)) 5 (omega arith) in
      other (omega (arith, short)) (last ∙ omega (arith, same))
  | inr never ↦ never (same_address known place address n room is long bytes on same)
]

pub address_among : (known : List ℕ) (place address n room : ℕ) (can : Can) → IsBytes known → length known < 14
    → place ≤ 6 → 14 ≤ room → IsNearest known place address n → Says known (place + 6) n address can
    → IsAmong known room (λ bytes. number (slice_range bytes place (place + 6)) ≡ address) can
address_among known place address n room can ok few at long is says = record {
  matches = (
    λ t. (let g = goes_on known room rule ok (omega (arith, few, long)) (λ i. omega arith) in (
      g.bytes,
      g.on,
      is room g.bytes g.on (omega (arith, at, long)) (λ j lt past.
          g.byte (place + j) (omega (arith, at, lt, long)) past
          ∙ ap (λ (i : ℕ). address / 256 ^ (5 - i) % 256)
          (let same : place + j - place ≡ j = omega arith in same)) ∙ says.matches.0 t,
    )),
    λ (bytes, on, same).
        says.matches.1 (same_address known place address n room is (omega (arith, at, long)) bytes on same),
  );
  fails = (
    λ t. (let g = goes_on known room (λ i. (address + 1) % 256) ok (omega (arith, few, long)) (λ i. omega arith) in (
      g.bytes,
      g.on,
      address_lacks known place address n can is says t room g.bytes g.on (omega (arith, at, long))
          (λ past e. omega (arith, g.byte (place + 5) (omega (arith, at, long)) past, e)),
    )),
    λ (bytes, on, never). says.fails.1 (elim (cases_lt (length known) (place + 6)) [
      | inl short ↦ inl short
      | inr all ↦ inr (λ e. never (is room bytes on (omega (arith, at, long))
          (λ j lt past. absurd (omega (arith, all, lt, past))) ∙ e))
    ]),
  );
}
  where
    rule : ℕ → ℕ
    rule i = address / 256 ^ (5 - (i - place)) % 256

-- ---- one of two addresses, and a group address

pub host_among : (known : List ℕ) (address room : ℕ) (destination source can : Can) → IsBytes known
    → length known < 14 → 14 ≤ room
    → IsAmong known room (λ bytes. number (slice_range bytes 0 6) ≡ address) destination
    → IsAmong known room (λ bytes. number (slice_range bytes 6 12) ≡ address) source
    → (IsTrue destination.fails → LacksAddress known 0 address) → (IsTrue source.fails → LacksAddress known 6 address)
    → IsTrue can.matches ↔ (IsTrue destination.matches ⊎ IsTrue source.matches)
    → IsTrue can.fails ↔ (IsTrue destination.fails × IsTrue source.fails)
    → IsAmong known room (λ bytes. IsTrue (nat_eq address (number (slice_range bytes 6 12))
    || nat_eq address (number (slice_range bytes 0 6)))) can
host_among known address room destination source can ok few long to from to_lacks from_lacks matches fails = record {
  matches = (
    λ t. some (matches.0 t),
    λ (bytes, on, either). matches.1 (every bytes on (nat_eq address (number (slice_range bytes 6 12)))
        (eqb-true address (number (slice_range bytes 6 12))) (nat_eq address (number (slice_range bytes 0 6)))
        (eqb-true address (number (slice_range bytes 0 6))) either),
  );
  fails = (
    λ t. (let g = goes_on known room (λ i. (address + 1) % 256) ok (omega (arith, few, long)) (λ i. omega arith) in
        let both = fails.0 t in (
          g.bytes,
          g.on,
          λ either. neither (nat_eq address (number (slice_range g.bytes 6 12)))
              (nat_eq address (number (slice_range g.bytes 0 6)))
              (λ e. from_lacks both.1 room g.bytes g.on (omega (arith, long)) (λ past same.
              omega (arith, g.byte 11 (omega (arith, long)) past, same))
              (sym (eqb-true address (number (slice_range g.bytes 6 12)) e)))
              (λ e. to_lacks both.0 room g.bytes g.on (omega (arith, long)) (λ past same.
              omega (arith, g.byte 5 (omega (arith, long)) past, same))
              (sym (eqb-true address (number (slice_range g.bytes 0 6)) e))) either,
        )),
    λ (bytes, on, never). fails.1 (
      to.fails.1 (
        bytes,
        on,
        λ e. never (or_right (nat_eq address (number (slice_range bytes 6 12)))
            (nat_eq address (number (slice_range bytes 0 6)))
            (eq-eqb address (number (slice_range bytes 0 6)) (sym e))),
      ),
      from.fails.1 (
        bytes,
        on,
        λ e. never (or_left (nat_eq address (number (slice_range bytes 6 12)))
            (nat_eq address (number (slice_range bytes 0 6)))
            (eq-eqb address (number (slice_range bytes 6 12)) (sym e))),
      ),
    ),
  );
}
  where
    or_left : (a b : Bool) → IsTrue a → IsTrue (a || b)
    or_left true b t = refl
    or_left false b t = absurd cc

    or_right : (a b : Bool) → IsTrue b → IsTrue (a || b)
    or_right true b t = refl
    or_right false b t = t

    neither : (a b : Bool) → (a ≡ true → ⊥) → (b ≡ true → ⊥) → IsTrue (a || b) → ⊥
    neither true b f g t = f refl
    neither false b f g t = g t

    some : IsTrue destination.matches ⊎ IsTrue source.matches
        → (bytes : List ℕ) × Continues known room bytes
        × IsTrue (nat_eq address (number (slice_range bytes 6 12)) || nat_eq address (number (slice_range bytes 0 6)))
    some (inl t) = let x = to.matches.0 t in (
      x.0,
      x.1,
      or_right (nat_eq address (number (slice_range x.0 6 12))) (nat_eq address (number (slice_range x.0 0 6)))
          (eq-eqb address (number (slice_range x.0 0 6)) (sym x.2)),
    )
    some (inr t) = let x = from.matches.0 t in (
      x.0,
      x.1,
      or_left (nat_eq address (number (slice_range x.0 6 12))) (nat_eq address (number (slice_range x.0 0 6)))
          (eq-eqb address (number (slice_range x.0 6 12)) (sym x.2)),
    )

    every : (bytes : List ℕ) → Continues known room bytes → (a : Bool)
        → (a ≡ true → address ≡ number (slice_range bytes 6 12)) → (b : Bool)
        → (b ≡ true → address ≡ number (slice_range bytes 0 6)) → IsTrue (a || b)
        → IsTrue destination.matches ⊎ IsTrue source.matches
    every bytes on true f b g t = inr (from.matches.1 (bytes, on, sym (f refl)))
    every bytes on false f b g t = inl (to.matches.1 (bytes, on, sym (g t)))

-- the lowest bit of the first byte
pub group_is : (bytes : List ℕ) → IsBytes bytes → 6 ≤ length bytes
    → number (slice_range bytes 0 6) / 2 ^ 40 % 2 ≡ get_or bytes 0 0 % 2
group_is bytes ok le = omega (
  arith,
  digit_of bytes 0 ok le 0
      (omega arith),
  number-six 0 bytes le,
  ok 0,
  ok 1,
  ok 2,
  ok 3,
  ok 4,
  ok 5,
)

-- a first byte that is not known can be even and odd
pub group_among : (known : List ℕ) (room : ℕ) (can : Can) → IsBytes known → length known < 14 → 14 ≤ room
    → IsTrue can.matches ↔ (get_or known 0 1 % 2 ≡ 1) → IsTrue can.fails ↔ (get_or known 0 0 % 2 ≡ 0)
    → IsAmong known room (λ bytes. IsTrue (is_group (number (slice_range bytes 0 6)))) can
group_among known room can ok few long matches fails = record {
  matches = (
    λ t. (let g = goes_on known room (λ i. 1) ok (omega (arith, few, long)) (λ i. omega arith) in
        let first = byte_is known room g.bytes 0 1 g.on (λ past. g.byte 0 (omega (arith, long)) past) in (
          g.bytes,
          g.on,
          eq-eqb (number (slice_range g.bytes 0 6) / 2 ^ 40 % 2) 1
              (omega (arith, group g.bytes g.on, first, matches.0 t)),
        )),
    λ (bytes, on, is). matches.1 (elim (cases_lt 0 (length known)) [
      | inl here ↦ omega (
        arith,
        kept known room bytes 0 1 on here,
        group bytes on,
        eqb-true (number (slice_range bytes 0 6) / 2 ^ 40 % 2) 1 is,
      )
      | inr past ↦ ap (λ (n : ℕ). n % 2) (get_or_past known 0 1 past)
    ]),
  );
  fails = (
    λ t. (let g = goes_on known room (λ i. 0) ok (omega (arith, few, long)) (λ i. omega arith) in
        let first = byte_is known room g.bytes 0 0 g.on (λ past. g.byte 0 (omega (arith, long)) past) in (
          g.bytes,
          g.on,
          λ is. omega (
            arith,
            group g.bytes g.on,
            first,
            fails.0 t,
            eqb-true (number (slice_range g.bytes 0 6) / 2 ^ 40 % 2) 1 is,
          ),
        )),
    λ (bytes, on, never). fails.1 (
        let even : get_or bytes 0 0 % 2 ≡ 0 = elim (cases_eq (get_or bytes 0 0 % 2) 1) [
          | inl odd ↦ absurd (never (eq-eqb (number (slice_range bytes 0 6) / 2 ^ 40 % 2) 1
              (group bytes on ∙ odd)))
          | inr other ↦ omega (arith, other)
        ] in
        elim (cases_lt 0 (length known)) [
          | inl here ↦ omega (arith, kept known room bytes 0 0 on here, even)
          | inr past ↦ ap (λ (n : ℕ). n % 2) (get_or_past known 0 0 past)
        ]
        ),
  );
}
  where
    group : (bytes : List ℕ) → Continues known room bytes
        → number (slice_range bytes 0 6) / 2 ^ 40 % 2 ≡ get_or bytes 0 0 % 2
    group bytes on = group_is bytes on.are_bytes (omega (arith, on.len, long))

-- the same of bytes that have something else for the same reason
pub among_turned : (known : List ℕ) (room : ℕ) (Have Are : List ℕ → Type 0) (can : Can)
    → ((bytes : List ℕ) → Have bytes ↔ Are bytes) → IsAmong known room Have can → IsAmong known room Are can
among_turned known room Have Are can same is = record {
  matches = (
    λ t. (let x = is.matches.0 t in (x.0, x.1, (same x.0).0 x.2)),
    λ (bytes, on, it). is.matches.1 (bytes, on, (same bytes).1 it),
  );
  fails = (
    λ t. (let x = is.fails.0 t in (x.0, x.1, λ it. x.2 ((same x.0).1 it))),
    λ (bytes, on, never). is.fails.1 (bytes, on, λ it. never ((same bytes).0 it)),
  );
}

pub same_number : (n address : ℕ) → (n ≡ address) ↔ IsTrue (nat_eq address n)
same_number n address = (λ e. eq-eqb address n (sym e), λ t. sym (eqb-true address n t))

-- ---- the primitive that is left

pub multicast_left : (q : Primitive) → is_of_link q ≡ true → is_of_field q ≡ false
    → ((x : ℕ) → q ≡ primitives.Source x → ⊥) → ((x : ℕ) → q ≡ primitives.Destination x → ⊥)
    → ((x : ℕ) → q ≡ primitives.Host x → ⊥) → (q ≡ primitives.Broadcast → ⊥) → q ≡ primitives.Multicast
multicast_left (primitives.Source x) of free a b c d = absurd (a x refl)
multicast_left (primitives.Destination x) of free a b c d = absurd (b x refl)
multicast_left (primitives.Host x) of free a b c d = absurd (c x refl)
multicast_left primitives.Broadcast of free a b c d = absurd (d refl)
multicast_left primitives.Multicast of free a b c d = refl
multicast_left (primitives.Field t) of free a b c d = absurd cc
multicast_left q of free a b c d = absurd cc
