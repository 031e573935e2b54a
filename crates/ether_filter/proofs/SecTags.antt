-- What a SecTag can be if its first two bytes are there.
use Rattle.std.proofs.Common.{◌≡◌, ℕ, zero, suc, ◌+◌, ◌-◌, ◌*◌, ◌%◌, ◌<◌, ◌≤◌, List, [], ◌∷◌, ◌++◌, length, refl, sym, ap, subst, ◌∙◌, arith, inl, inr, ◌⊎◌, Bool, true, false, IsTrue, ◌↔◌}
use Rattle.std.specs.Prelude.{Option, Some, None, slice_range, replicate, unwrap_or, option_map}
use Rattle.std.proofs.lemmas.Bool.{ne_eqb, le-ltb}
use Rattle.std.proofs.lemmas.List.{length-append, length-replicate}
use Rattle.etherparse.specs.Types.LenSource.TheVariants as sources
use Rattle.etherparse.specs.Bytes.{IsBytes, number}
use Rattle.etherparse.specs.Macsec.{SecTagFront, BeginsSecTag, sec_tag_front_in, sec_tag_front_at, sec_tag_len, known_payload_len, known_len, sec_tag_of, payload_type_for, ether_type_len}
use Rattle.etherparse.specs.Kind.{Kind}
use Rattle.etherparse.specs.Kind as kinds
use Rattle.etherparse.specs.Header.{Header, header_len, payload_len}
use Rattle.etherparse.specs.Header as headers
use Rattle.etherparse.specs.Refusal.{IsTooShort}
use Rattle.etherparse.proofs.Means.{one_header, same_front}
use Rattle.etherparse.proofs.MacsecFields.{sec_tag_means}
use Rattle.etherparse.proofs.Numbers.{IsBytes-append}
use Rattle.etherparse.specs.Refusal as rows
use Rattle.etherparse.proofs.Rows.{sec_tag_front_read, accepts_macsec, version_zero, at_least}
use Rattle.ether_filter.proofs.Tails.{either}
use Rattle.etherparse.proofs.SubLists.{length-part}
use Rattle.ether_peel.specs.Grammar.Expectation.{EtherType, next_after, after_payload}
use Rattle.ether_filter.specs.declared.prospect.Announced.{Announced}
use Rattle.ether_filter.specs.declared.prospect.Announced.TheVariants.{Nothing}
use Rattle.ether_filter.specs.Prospects.{Continues, AreRefused, AreAccepted, payload_bytes, Offers, FitsAnnounced, IsProspect, IsRoomy, room_after, front_of, IsTagNext, BeginsWith}
use Rattle.ether_filter.proofs.Typed.{typed_number, typed_part, typed_len, zeros_are_bytes}
use Rattle.ether_filter.proofs.Prospects.{zeros_continue, never_both, offers_known, typed, known_byte}

-- the tag of these bytes
pub record TagRead (bytes : List ℕ) (c : SecTagFront) : Type 0 where
  pub accepted : AreAccepted kinds.Macsec bytes (headers.Macsec (sec_tag_of bytes))
  pub len : header_len (headers.Macsec (sec_tag_of bytes)) ≡ sec_tag_len c
  pub payload : payload_len (headers.Macsec (sec_tag_of bytes)) ≡ known_payload_len c
  pub next : next_after (headers.Macsec (sec_tag_of bytes))
      ≡ after_payload (payload_type_for c.encrypted c.changed
      (number (slice_range bytes (6 + 8 * c.sci_present) (6 + 8 * c.sci_present + 2))))

pub tag_read : (bytes : List ℕ) (c : SecTagFront) (room : ℕ) → IsBytes bytes → 6 ≤ room → length bytes ≡ room
    → sec_tag_front_in bytes ≡ c → IsRoomy c room → TagRead bytes c
tag_read bytes c room ok six len front roomy =
    let le : 6 ≤ length bytes = omega (arith, six, len) in
    let read = sec_tag_front_read bytes ok le in
    let begins : BeginsSecTag bytes c = subst (BeginsSecTag bytes) front read in
    let same = same_front bytes (sec_tag_front_in bytes) read.fits ∙ front in
    record {
      accepted = record {
        of_kind = refl;
        accepted = λ bound. accepts_macsec bound bytes c le begins roomy.version roomy.long
            (omega (arith, len, roomy.whole)) (λ p known. omega (arith, len, roomy.fits p known));
        means = sec_tag_means bytes ok le
            (subst (λ (d : SecTagFront). sec_tag_len d ≤ length bytes) (sym front) (omega (arith, len, roomy.whole)));
      };
      len = ap sec_tag_len same;
      payload = ap known_payload_len same;
      next = ap (λ (d : SecTagFront). after_payload (payload_type_for d.encrypted d.changed
          (number (slice_range bytes (6 + 8 * d.sci_present) (6 + 8 * d.sci_present + 2))))) front;
    }

-- an ether type after a payload type is that of an unmodified one
pub record IsUnmodified (e c n t : ℕ) : Type 0 where
  pub encrypted : e ≡ 0
  pub changed : c ≡ 0
  pub number_is : n ≡ t

pub unmodified : (e c n t : ℕ) → after_payload (payload_type_for e c n) ≡ EtherType t → IsUnmodified e c n t
unmodified zero zero n t is = record { encrypted = refl; changed = refl; number_is = cc }
unmodified zero (suc c) n t is = absurd cc
unmodified (suc e) zero n t is = absurd cc
unmodified (suc e) (suc c) n t is = absurd cc

-- ---- the first two bytes are there

-- all bytes that go on have this front
abbrev pub HaveFront : List ℕ → ℕ → SecTagFront → Type 0
HaveFront known room c = (bytes : List ℕ) → Continues known room bytes → sec_tag_front_in bytes ≡ c

payload_end : (n whole : ℕ) (o : Option ℕ) → n ≤ whole
    → unwrap_or (option_map (λ p. n + p) o) whole ≡ n + unwrap_or o (whole - n)
payload_end n whole None le = omega (arith, le)
payload_end n whole (Some p) le = refl

pub room_fits : (c : SecTagFront) (room : ℕ) (o : Option ℕ) → known_payload_len c ≡ o → IsRoomy c room
    → sec_tag_len c + unwrap_or o (room - sec_tag_len c) ≤ room
room_fits c room None is roomy = omega (arith, roomy.whole)
room_fits c room (Some p) is roomy = roomy.fits p is

pub tag_header : (bytes : List ℕ) (c : SecTagFront) (h : Header) → TagRead bytes c → AreAccepted kinds.Macsec bytes h
    → h ≡ headers.Macsec (sec_tag_of bytes)
tag_header bytes c h r a = one_header bytes h (headers.Macsec (sec_tag_of bytes)) a.of_kind a.means r.accepted.means

pub tag_payload : (bytes : List ℕ) (c : SecTagFront) (room : ℕ) → TagRead bytes c → length bytes ≡ room → IsRoomy c room
    → payload_bytes (headers.Macsec (sec_tag_of bytes)) bytes
    ≡ slice_range bytes (sec_tag_len c) (sec_tag_len c + room_after c room)
tag_payload bytes c room r len roomy =
    let n = sec_tag_len c in
    ap (λ (k : ℕ). slice_range bytes k (unwrap_or (option_map (λ p. k + p)
    (payload_len (headers.Macsec (sec_tag_of bytes)))) (length bytes))) r.len
    ∙ ap (λ (o : Option ℕ). slice_range bytes n (unwrap_or (option_map (λ p. n + p) o) (length bytes))) r.payload
    ∙ ap (λ (k : ℕ). slice_range bytes n (unwrap_or (option_map (λ p. n + p) (known_payload_len c)) k)) len
    ∙ ap (slice_range bytes n) (payload_end n room (known_payload_len c) roomy.whole)

pub type_len : (c : SecTagFront) → c.encrypted ≡ 0 → c.changed ≡ 0 → sec_tag_len c ≡ 6 + 8 * c.sci_present + 2
type_len c e f = rw (e, f) refl

pub tag_followed : (known : List ℕ) (room : ℕ) (c : SecTagFront) (next : Announced) → 6 ≤ room → HaveFront known room c
    → IsRoomy c room → IsTagNext c known next → (bytes : List ℕ) (h : Header) (t : ℕ) → Continues known room bytes
    → AreAccepted kinds.Macsec bytes h → next_after h ≡ EtherType t
    → Offers next t × (length (payload_bytes h bytes) ≡ room_after c room)
tag_followed known room c next six front roomy then bytes h t on a is =
    let r = tag_read bytes c room on.are_bytes six on.len (front bytes on) roomy in
    let same = tag_header bytes c h r a in
    let place = 6 + 8 * c.sci_present in
    let u = unmodified c.encrypted c.changed (number (slice_range bytes place (place + 2))) t
    (sym r.next ∙ sym (ap next_after same) ∙ is) in
    let len = type_len c u.encrypted u.changed in
    let fits = room_fits c room (known_payload_len c) refl roomy in
    let known_is : bytes ≡ known ++ on.more = on.is in (
      rw (sym u.number_is, known_is) (offers_known known on.more place next (subst IsBytes on.is on.are_bytes)
          (omega (arith, ap length on.is, on.len, roomy.whole, len)) (then.unmodified_type u.encrypted u.changed)),
      omega (
        arith,
        ap length (ap (λ (k : Header). payload_bytes k bytes) same ∙ tag_payload bytes c room r on.len roomy),
        length-part bytes (sec_tag_len c) (sec_tag_len c + room_after c room) (omega (arith, fits, on.len)),
      ),
    )

tag_offered : (known : List ℕ) (room : ℕ) (c : SecTagFront) (next : Announced) → IsBytes known → 6 ≤ room
    → length known < sec_tag_len c → HaveFront known room c → IsRoomy c room → IsTagNext c known next
    → c.encrypted ≡ 0 → c.changed ≡ 0 → (t : ℕ) (rest : List ℕ) → t < 65536 → Offers next t → IsBytes rest
    → length rest ≡ room_after c room
    → (bytes : List ℕ) × (h : Header) × Continues known room bytes × AreAccepted kinds.Macsec bytes h
    × (next_after h ≡ EtherType t) × (payload_bytes h bytes ≡ rest)
tag_offered known room c next ok six few front roomy then e f t rest lt offers are len =
    let place = 6 + 8 * c.sci_present in
    let n = type_len c e f in
    let fits = room_fits c room (known_payload_len c) refl roomy in
    let zeros = replicate (room - (place + 2) - length rest) 0 in
    let zeros_len = length-replicate {A = ℕ} (room - (place + 2) - length rest) 0 in
    let a = typed known place t (rest ++ zeros) next (omega (arith, few, n)) (then.unmodified_type e f) offers lt
    (IsBytes-append rest zeros are (zeros_are_bytes (room - (place + 2) - length rest))) in
    let bytes = known ++ a.more in
    let whole = typed_len known place t (rest ++ zeros) a in
    let on : Continues known room bytes = record {
      more = a.more;
      is = refl;
      len = omega (arith, whole, length-append rest zeros, zeros_len, fits, n, len);
      are_bytes = IsBytes-append known a.more ok a.bytes;
    } in
    let r = tag_read bytes c room on.are_bytes six on.len (front bytes on) roomy in
    let ends : sec_tag_len c + room_after c room ≡ sec_tag_len c + length rest = omega (arith, len) in
    let part : slice_range bytes (sec_tag_len c) (sec_tag_len c + length rest) ≡ rest =
    typed_part known place t rest zeros (sec_tag_len c) n a in (
      bytes,
      headers.Macsec (sec_tag_of bytes),
      on,
      r.accepted,
      r.next ∙ (λ i. after_payload (payload_type_for (e i) (f i) (typed_number known place t (rest ++ zeros) a i))),
      tag_payload bytes c room r on.len roomy ∙ ap (slice_range bytes (sec_tag_len c)) ends ∙ part,
    )

pub tag_prospect : (known : List ℕ) (room : ℕ) (c : SecTagFront) (next : Announced) → IsBytes known → 6 ≤ room
    → length known ≤ room → length known < sec_tag_len c → HaveFront known room c → IsRoomy c room
    → IsTagNext c known next → FitsAnnounced next
    → IsProspect kinds.Macsec known room
    (record { can_be_accepted = true; can_be_refused = false; next = next; room = room_after c room })
tag_prospect known room c next ok six inside few front roomy then fits = record {
  refused = (
    λ t. absurd cc,
    λ (bytes, on, r). absurd (never_both kinds.Macsec bytes (headers.Macsec (sec_tag_of bytes)) r
        (tag_read bytes c room on.are_bytes six on.len (front bytes on) roomy).accepted),
  );
  accepted = (
    λ t. let z = zeros_continue known room ok inside in (
      z.0,
      headers.Macsec (sec_tag_of z.0),
      z.1,
      (tag_read z.0 c room z.1.are_bytes six z.1.len (front z.0 z.1) roomy).accepted,
    ),
    λ some. refl,
  );
  byte = fits;
  followed = λ bytes h t on a is.
      (let both = tag_followed known room c next six front roomy then bytes h t on a is in
      (both.0, omega (arith, both.1)));
  exact = λ b high bytes h t on a is. (tag_followed known room c next six front roomy then bytes h t on a is).1;
  offered = λ accepted t rest lt offers are len. by_type (zero_or c.encrypted)
      (zero_or c.changed) t rest lt offers are len;
}
  where
    zero_or : (n : ℕ) → (n ≡ 0) ⊎ (n ≡ 0 → ⊥)
    zero_or zero = inl refl
    zero_or (suc n) = inr (λ is. absurd cc)

    none : (c.encrypted ≡ 0 → c.changed ≡ 0 → ⊥) → (t : ℕ) → Offers next t → ⊥
    none never t offers = subst (λ (a : Announced). Offers a t) (then.modified_type never) offers

    by_type : (c.encrypted ≡ 0) ⊎ (c.encrypted ≡ 0 → ⊥) → (c.changed ≡ 0) ⊎ (c.changed ≡ 0 → ⊥) → (t : ℕ)
        (rest : List ℕ) → t < 65536 → Offers next t → IsBytes rest → length rest ≡ room_after c room
        → (bytes : List ℕ) × (h : Header) × Continues known room bytes × AreAccepted kinds.Macsec bytes h
        × (next_after h ≡ EtherType t) × (payload_bytes h bytes ≡ rest)
    by_type (inl e) (inl f) t rest lt offers are len =
        tag_offered known room c next ok six few front roomy then e f t rest lt offers are len
    by_type (inr never) f t rest lt offers are len = absurd (none (λ e g. never e) t offers)
    by_type (inl e) (inr never) t rest lt offers are len = absurd (none (λ g f. never f) t offers)

-- ---- the length that a front names

pub known_is : (e c short ether_type : ℕ) → ether_type_len e c ≡ ether_type → (short ≡ 0 → ⊥) → ether_type ≤ short
    → known_len (ether_type_len e c) short ≡ Some (short - ether_type)
known_is e c short ether_type is some le = rw (is, ne_eqb short 0 some, le-ltb short ether_type le) refl

pub len_modified : (e c : ℕ) → ((e ≡ 0) × (c ≡ 0) → ⊥) → ether_type_len e c ≡ 0
len_modified zero zero never = absurd (never (refl, refl))
len_modified zero (suc c) never = refl
len_modified (suc e) c never = refl

pub len_unmodified : (e c : ℕ) (b : Bool) → IsTrue b ↔ ((e ≡ 0) × (c ≡ 0) → ⊥) → b ≡ false → ether_type_len e c ≡ 2
len_unmodified zero zero b iff is = refl
len_unmodified zero (suc c) b iff is = let yes = iff.1 (λ both. let no = both.1 in absurd cc) in absurd cc
len_unmodified (suc e) c b iff is = let yes = iff.1 (λ both. let no = both.0 in absurd cc) in absurd cc

-- a front that names more bytes than there are
pub not_roomy : (first second room len ether_type : ℕ) → second < 256 → len ≡ sec_tag_len (front_of first second)
    → ether_type_len (front_of first second).encrypted (front_of first second).changed ≡ ether_type
    → (second % 64 ≡ 0 → ⊥) → ether_type ≤ second % 64 → room < len + (second % 64 - ether_type)
    → IsRoomy (front_of first second) room → ⊥
not_roomy first second room len ether_type lt is type some le short roomy =
    let c = front_of first second in
    let same : c.short_len ≡ second % 64 = omega (arith, lt) in
    let known : known_payload_len c ≡ Some (second % 64 - ether_type) =
    ap (known_len (ether_type_len c.encrypted c.changed)) same
    ∙ known_is c.encrypted c.changed (second % 64) ether_type type some le in
    omega (arith, roomy.fits (second % 64 - ether_type) known, is, short)

-- ---- what is not roomy is refused

pub accepted_roomy : (bytes : List ℕ) (c : SecTagFront) (room : ℕ) (h : Header) → IsBytes bytes → 6 ≤ room
    → length bytes ≡ room → sec_tag_front_in bytes ≡ c → AreAccepted kinds.Macsec bytes h → IsRoomy c room
accepted_roomy bytes c room h ok six len front a =
    let le : 6 ≤ length bytes = omega (arith, six, len) in
    let begins : BeginsSecTag bytes c = subst (BeginsSecTag bytes) front (sec_tag_front_read bytes ok le) in
    let never = a.accepted sources.Slice in
    let version = version_zero sources.Slice bytes c le begins (λ row. never _ row) in
    let long = λ (short : IsTooShort c). never _ (rows.macsec_short_len c le begins version short) in
    let whole = at_least (length bytes) (sec_tag_len c)
    (λ lt. never _ (rows.macsec_header c le begins version long lt)) in
    record {
      version = version;
      long = long;
      whole = omega (arith, whole, len);
      fits = λ p known. (let fits = at_least (length bytes) (sec_tag_len c + p)
          (λ lt. never _ (rows.macsec_packet c p begins version known whole lt)) in omega (arith, fits, len));
    }

pub unroomy_refused : (bytes : List ℕ) (c : SecTagFront) (room : ℕ) → IsBytes bytes → 6 ≤ room
    → length bytes ≡ room → sec_tag_front_in bytes ≡ c → (IsRoomy c room → ⊥) → AreRefused kinds.Macsec bytes
unroomy_refused bytes c room ok six len front never = elim (either kinds.Macsec bytes ok) [
  | inl refused ↦ refused
  | inr a ↦ absurd (never (accepted_roomy bytes c room a.0 ok six len front a.1))
]

-- a unit that is refused whatever its bytes are
pub always_refused : (kind : Kind) (known : List ℕ) (room : ℕ) → IsBytes known → length known ≤ room
    → ((bytes : List ℕ) → Continues known room bytes → AreRefused kind bytes)
    → IsProspect kind known room (record { can_be_accepted = false; can_be_refused = true; next = Nothing; room = 0 })
always_refused kind known room ok inside all = record {
  refused = (λ t. (let z = zeros_continue known room ok inside in (z.0, z.1, all z.0 z.1)), λ some. refl);
  accepted = (λ t. absurd cc, λ (bytes, h, on, a). absurd (never_both kind bytes h (all bytes on) a));
  byte = tt;
  followed = λ bytes h t on a then. absurd (never_both kind bytes h (all bytes on) a);
  exact = λ b is bytes h t on a then. absurd (never_both kind bytes h (all bytes on) a);
  offered = λ accepted t rest lt offers are len. absurd offers;
}

pub have_front : (first second : ℕ) (known : List ℕ) (room : ℕ) → BeginsWith first second known
    → HaveFront known room (front_of first second)
have_front first second known room begins bytes on =
    ap sec_tag_front_in (on.is ∙ ap (λ (l : List ℕ). l ++ on.more) begins.1)
    ∙ ap sec_tag_front_at (let same : number (first ∷ second ∷ []) ≡ first * 256 + second = omega arith in same)

zero_or_not : (n : ℕ) → (n ≡ 0) ⊎ (n ≡ 0 → ⊥)
zero_or_not zero = inl refl
zero_or_not (suc n) = inr (λ is. absurd cc)

pub tag_byte : (known : List ℕ) (c : SecTagFront) (next : Announced) → IsBytes known → IsTagNext c known next
    → FitsAnnounced next
tag_byte known c next ok then = elim (zero_or_not c.encrypted) [
  | inr never ↦ subst FitsAnnounced (sym (then.modified_type (λ e f. never e))) tt
  | inl e ↦ elim (zero_or_not c.changed) [
    | inr never ↦ subst FitsAnnounced (sym (then.modified_type (λ g f. never f))) tt
    | inl f ↦ known_byte known (6 + 8 * c.sci_present) next ok (then.unmodified_type e f)
  ]
]
