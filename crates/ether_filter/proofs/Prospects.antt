-- What a unit can be that ends in an ether type.
use Rattle.std.proofs.Common.{◌≡◌, ℕ, ◌+◌, ◌-◌, ◌<◌, ◌≤◌, List, ◌++◌, length, drop, refl, sym, ap, subst, ◌∙◌, arith, true, false}
use Rattle.std.specs.Prelude.{None, slice_range, get_or, replicate}
use Rattle.std.proofs.lemmas.List.{length-append, length-replicate, get_or_append_left}
use Rattle.etherparse.specs.Types.LenSource.TheVariants as sources
use Rattle.etherparse.specs.Types.Layer.TheVariants as layers
use Rattle.etherparse.specs.Bytes.{IsBytes, number}
use Rattle.etherparse.specs.Ethernet2.{ethernet2_of}
use Rattle.etherparse.specs.Vlan.{vlan_of}
use Rattle.etherparse.specs.Kind.{Kind}
use Rattle.etherparse.specs.Kind as kinds
use Rattle.etherparse.specs.Header.{Header, header_len, payload_len}
use Rattle.etherparse.specs.Header as headers
use Rattle.etherparse.specs.Refusal.{Length}
use Rattle.etherparse.specs.Refusal as rows
use Rattle.etherparse.proofs.ArrayElements.{number-two}
use Rattle.etherparse.proofs.Means.{one_header}
use Rattle.etherparse.proofs.Numbers.{IsBytes-append}
use Rattle.etherparse.proofs.Rows.{accepts_vlan, accepts_ethernet2}
use Rattle.etherparse.proofs.SubLists.{length-part, rest_of_part, part_all}
use Rattle.etherparse.proofs.VlanFields.{vlan_means}
use Rattle.etherparse.proofs.Ethernet2Fields.{ethernet2_means}
use Rattle.ether_peel.specs.Grammar.Expectation.{EtherType, next_after}
use Rattle.ether_filter.specs.declared.prospect.Announced.{Announced}
use Rattle.ether_filter.specs.declared.prospect.Announced.TheVariants.{Nothing, Any, High}
use Rattle.ether_filter.specs.Prospects.{Continues, AreRefused, AreAccepted, payload_bytes, Offers, FitsAnnounced, IsTypeAt, IsProspect, IsFixed}
use Rattle.ether_filter.proofs.Typed.{TypedAt, typed_early, typed_last, typed_number, typed_rest, typed_len, zeros_are_bytes}

-- known bytes go on with zeros
pub zeros_continue : (known : List ℕ) (room : ℕ) → IsBytes known → length known ≤ room
    → (bytes : List ℕ) × Continues known room bytes
zeros_continue known room ok le =
    let zeros = replicate (room - length known) 0 in (
      known ++ zeros,
      record {
        more = zeros;
        is = refl;
        len = omega (arith, length-append known zeros, length-replicate {A = ℕ} (room - length known) 0, le);
        are_bytes = IsBytes-append known zeros ok (zeros_are_bytes (room - length known));
      },
    )

-- bytes are not both refused and accepted
pub never_both : (kind : Kind) (bytes : List ℕ) (h : Header) → AreRefused kind bytes → AreAccepted kind bytes h → ⊥
never_both kind bytes h refused accepted =
    let r = refused sources.Slice in accepted.accepted sources.Slice r.0 r.1

-- ---- units of a fixed length

pub fixed_short : (kind : Kind) (known : List ℕ) (room len : ℕ) → IsFixed kind len → IsBytes known → length known ≤ room
    → room < len
    → IsProspect kind known room (record { can_be_accepted = false; can_be_refused = true; next = Nothing; room = 0 })
fixed_short kind known room len fixed ok inside short = record {
  refused = (
    λ t. let z = zeros_continue known room ok inside in
        (z.0, z.1, fixed.short z.0 (omega (arith, z.1.len, short))),
    λ some. refl,
  );
  accepted = (
    λ t. absurd cc,
    λ (bytes, h, c, a). absurd (never_both kind bytes h (fixed.short bytes (omega (arith, c.len, short))) a),
  );
  byte = tt;
  followed = λ bytes h t c a next. absurd (never_both kind bytes h (fixed.short bytes (omega (arith, c.len, short))) a);
  exact = λ b is bytes h t c a next. absurd cc;
  offered = λ yes t rest lt offers are len. absurd cc;
}

-- the header of bytes that are accepted
fixed_header : (kind : Kind) (len : ℕ) (fixed : IsFixed kind len) (bytes : List ℕ) (h : Header) (ok : IsBytes bytes)
    (le : len ≤ length bytes) → AreAccepted kind bytes h → h ≡ fixed.header bytes ok le
fixed_header kind len fixed bytes h ok le a =
    let b = fixed.accepted bytes ok le in
    one_header bytes h (fixed.header bytes ok le) (a.of_kind ∙ sym b.of_kind) a.means b.means

pub payload_is : (h : Header) (bytes : List ℕ) (len : ℕ) → header_len h ≡ len → payload_len h ≡ None
    → payload_bytes h bytes ≡ slice_range bytes len (length bytes)
payload_is h bytes len is none = rw (is, none) refl

pub offers_known : (known more : List ℕ) (place : ℕ) (next : Announced) → IsBytes (known ++ more)
    → place + 2 ≤ length (known ++ more) → IsTypeAt known place next
    → Offers next (number (slice_range (known ++ more) place (place + 2)))
offers_known known more place Nothing ok le is = is
offers_known known more place Any ok le is = tt
offers_known known more place (High b) ok le is =
    let first : get_or (known ++ more) place 0 ≡ b = get_or_append_left known more 0 place is.0 ∙ is.1 in
    let second = ok (place + 1) in
    omega (arith, number-two place (known ++ more) le, first, second)

pub typed : (known : List ℕ) (place t : ℕ) (rest : List ℕ) (next : Announced) → length known ≤ place + 1
    → IsTypeAt known place next → Offers next t → t < 65536 → IsBytes rest → TypedAt known place t rest
typed known place t rest Nothing few is offers lt ok = absurd is
typed known place t rest Any few is offers lt ok = typed_early known place t rest is lt ok
typed known place t rest (High b) few is offers lt ok =
    typed_last known place t rest (omega (arith, few, is.0)) (is.1 ∙ sym offers) lt ok

pub rest_is : (bytes : List ℕ) (len : ℕ) → len ≤ length bytes → slice_range bytes len (length bytes) ≡ drop len bytes
rest_is bytes len le =
    ap (λ (i : ℕ). slice_range bytes i (length bytes)) (let zero_more : len ≡ 0 + len = omega arith in zero_more)
    ∙ sym (rest_of_part bytes 0 (length bytes) len (omega (arith, le)))
    ∙ ap (drop len) (part_all bytes (length bytes) (omega arith))

fixed_followed : (kind : Kind) (known : List ℕ) (room place : ℕ) (next : Announced) → IsFixed kind (place + 2)
    → place + 2 ≤ room → IsTypeAt known place next → (bytes : List ℕ) (h : Header) (t : ℕ)
    → Continues known room bytes → AreAccepted kind bytes h → next_after h ≡ EtherType t
    → Offers next t × (length (payload_bytes h bytes) ≡ room - (place + 2))
fixed_followed kind known room place next fixed long is bytes h t c a then =
    let len = place + 2 in
    let le : len ≤ length bytes = omega (arith, c.len, long) in
    let g = fixed.header bytes c.are_bytes le in
    let same = fixed_header kind len fixed bytes h c.are_bytes le a in
    let sizes = fixed.header_is bytes c.are_bytes le in
    let here : len - 2 ≡ place = omega arith in
    let read : EtherType t ≡ EtherType (number (slice_range bytes place len)) =
    sym then ∙ ap next_after same ∙ fixed.next bytes c.are_bytes le
    ∙ ap (λ (i : ℕ). EtherType (number (slice_range bytes i len))) here in
    let number_is : t ≡ number (slice_range bytes place len) = cc in
    let known_is : bytes ≡ known ++ c.more = c.is in (
      rw (number_is, known_is) (offers_known known c.more place next (subst IsBytes c.is c.are_bytes)
          (omega (arith, ap length c.is, le)) is),
      omega (
        arith,
        c.len,
        le,
        ap length (ap (λ (k : Header). payload_bytes k bytes) same
            ∙ payload_is g bytes len sizes.0 sizes.1),
        length-part bytes len (length bytes) (omega arith),
      ),
    )

fixed_offered : (kind : Kind) (known : List ℕ) (room place : ℕ) (next : Announced) → IsFixed kind (place + 2)
    → IsBytes known → length known ≤ place + 1 → place + 2 ≤ room → IsTypeAt known place next
    → (t : ℕ) (rest : List ℕ) → t < 65536 → Offers next t → IsBytes rest → length rest ≡ room - (place + 2)
    → (bytes : List ℕ) × (h : Header) × Continues known room bytes × AreAccepted kind bytes h
    × (next_after h ≡ EtherType t) × (payload_bytes h bytes ≡ rest)
fixed_offered kind known room place next fixed ok few long is t rest lt offers are len =
    let a = typed known place t rest next few is offers lt are in
    let bytes = known ++ a.more in
    let all = typed_len known place t rest a in
    let good = IsBytes-append known a.more ok a.bytes in
    let le : place + 2 ≤ length bytes = omega (arith, all) in
    let h = fixed.header bytes good le in
    let sizes = fixed.header_is bytes good le in
    let here : place + 2 - 2 ≡ place = omega arith in (
      bytes,
      h,
      record { more = a.more; is = refl; len = omega (arith, all, len, long); are_bytes = good },
      fixed.accepted bytes good le,
      fixed.next bytes good le ∙ ap (λ (i : ℕ). EtherType (number (slice_range bytes i (place + 2)))) here
          ∙ ap EtherType (typed_number known place t rest a),
      payload_is h bytes (place + 2) sizes.0 sizes.1 ∙ rest_is bytes (place + 2) le
          ∙ typed_rest known place t rest a,
    )

pub known_byte : (known : List ℕ) (place : ℕ) (next : Announced) → IsBytes known → IsTypeAt known place next
    → FitsAnnounced next
known_byte known place Nothing ok is = tt
known_byte known place Any ok is = tt
known_byte known place (High b) ok is = omega (arith, ok place, is.1)

fixed_long : (kind : Kind) (known : List ℕ) (room place : ℕ) (next : Announced) → IsFixed kind (place + 2)
    → IsBytes known → length known ≤ place + 1 → place + 2 ≤ room → IsTypeAt known place next
    → IsProspect kind known room
    (record { can_be_accepted = true; can_be_refused = false; next = next; room = room - (place + 2) })
fixed_long kind known room place next fixed ok few long is = record {
  refused = (
    λ t. absurd cc,
    λ (bytes, c, r). let le : place + 2 ≤ length bytes = omega (arith, c.len, long) in
        absurd (never_both kind bytes (fixed.header bytes c.are_bytes le) r (fixed.accepted bytes c.are_bytes le)),
  );
  accepted = (
    λ t. let z = zeros_continue known room ok (omega (arith, few, long)) in
        let le : place + 2 ≤ length z.0 = omega (arith, z.1.len, long) in
        (z.0, fixed.header z.0 z.1.are_bytes le, z.1, fixed.accepted z.0 z.1.are_bytes le),
    λ some. refl,
  );
  byte = known_byte known place next ok is;
  followed = λ bytes h t c a then.
      (let both = fixed_followed kind known room place next fixed long is bytes h t c a then in
      (both.0, omega (arith, both.1)));
  exact = λ b high bytes h t c a then. (fixed_followed kind known room place next fixed long is bytes h t c a then).1;
  offered = λ yes. fixed_offered kind known room place next fixed ok few long is;
}

pub fixed : (kind : Kind) (known : List ℕ) (room len : ℕ) (next : Announced) → 2 ≤ len → IsFixed kind len
    → IsBytes known → length known < len → len ≤ room → IsTypeAt known (len - 2) next
    → IsProspect kind known room
    (record { can_be_accepted = true; can_be_refused = false; next = next; room = room - len })
fixed kind known room len next least is ok few long typed_is =
    let same : len - 2 + 2 ≡ len = omega (arith, least) in
    subst (λ (n : ℕ). IsProspect kind known room
    (record { can_be_accepted = true; can_be_refused = false; next = next; room = room - n })) same
    (fixed_long kind known room (len - 2) next (subst (IsFixed kind) (sym same) is) ok (omega (arith, few, least))
    (omega (arith, long, least)) typed_is)

-- ---- the two of them

pub ethernet2_is_fixed : IsFixed kinds.Ethernet2 14
ethernet2_is_fixed = record {
  short = λ bytes lt bound. (Length 14 (length bytes) bound layers.Ethernet2Header, rows.ethernet2 lt);
  header = λ bytes ok le. headers.Ethernet2 (ethernet2_of bytes);
  accepted = λ bytes ok le. record {
    of_kind = refl;
    accepted = λ bound. accepts_ethernet2 bound bytes le;
    means = ethernet2_means bytes ok le;
  };
  header_is = λ bytes ok le. (refl, refl);
  next = λ bytes ok le. refl;
}

pub vlan_is_fixed : IsFixed kinds.Vlan 4
vlan_is_fixed = record {
  short = λ bytes lt bound. (Length 4 (length bytes) bound layers.VlanHeader, rows.vlan lt);
  header = λ bytes ok le. headers.Vlan (vlan_of bytes);
  accepted = λ bytes ok le. record {
    of_kind = refl;
    accepted = λ bound. accepts_vlan bound bytes le;
    means = vlan_means bytes ok le;
  };
  header_is = λ bytes ok le. (refl, refl);
  next = λ bytes ok le. refl;
}
