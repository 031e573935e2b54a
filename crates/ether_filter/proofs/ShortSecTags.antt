-- What a SecTag can be if one of its bytes is there, or none.
use Rattle.std.proofs.Common.{◌≡◌, ℕ, zero, suc, ◌+◌, ◌-◌, ◌*◌, ◌<◌, ◌≤◌, List, [], ◌∷◌, length, refl, sym, ap, ◌∙◌, arith, inl, inr, ◌⊎◌, Bool, true, false, IsTrue, ◌↔◌, cond}
use Rattle.std.specs.Prelude.{Some, None, nat_eq, nat_lt, ◌||◌, slice_range, get_or, unwrap_or}
use Rattle.std.proofs.lemmas.Bool.{ltb-true, ltb-false}
use Rattle.etherparse.specs.Bytes.{IsBytes, number}
use Rattle.etherparse.specs.Macsec.{sec_tag_len, known_payload_len, known_len, sec_tag_of, ether_type_len}
use Rattle.etherparse.specs.Kind as kinds
use Rattle.etherparse.specs.Header.{Header}
use Rattle.etherparse.specs.Header as headers
use Rattle.etherparse.proofs.Numbers.{IsBytes-nil, IsBytes-cons}
use Rattle.etherparse.specs.Refusal as rows
use Rattle.etherparse.proofs.SubLists.{length-part}
use Rattle.ether_peel.specs.Grammar.Expectation.{EtherType, next_after}
use Rattle.ether_filter.specs.declared.prospect.Announced.{Announced}
use Rattle.ether_filter.specs.declared.prospect.Announced.TheVariants.{Nothing, Any, High}
use Rattle.ether_filter.specs.Prospects.{Continues, AreRefused, AreAccepted, payload_bytes, Offers, FitsAnnounced, IsProspect, IsRoomy, room_after, front_of, IsTagNext}
use Rattle.ether_filter.proofs.Prospects.{zeros_continue, never_both}
use Rattle.ether_filter.proofs.SecTags.{tag_read, unmodified, room_fits, tag_header, tag_payload, type_len, tag_followed, tag_prospect, len_modified, not_roomy, accepted_roomy, unroomy_refused, always_refused, have_front}

-- ---- only the first byte is there

-- the second byte of bytes that go on
pub record Second (first : ℕ) (room : ℕ) (bytes : List ℕ) : Type 0 where
  pub second : ℕ
  pub small : second < 256
  pub on : Continues (first ∷ second ∷ []) room bytes

pub some_second : (first room : ℕ) (bytes : List ℕ) → 6 ≤ room → Continues (first ∷ []) room bytes
    → Second first room bytes
some_second first room bytes six on = by_more on.more refl
  where
    by_more : (more : List ℕ) → on.more ≡ more → Second first room bytes
    by_more [] is = absurd (omega (arith, on.len, six, ap length on.is, ap length is))
    by_more (s ∷ more) is =
        let all : bytes ≡ first ∷ s ∷ more = on.is ∙ ap (λ (l : List ℕ). first ∷ l) is in
        let one : get_or bytes 1 0 ≡ s = ap (λ (l : List ℕ). get_or l 1 0) all in
        record {
          second = s;
          small = omega (arith, on.are_bytes 1, one);
          on = record { more = more; is = all; len = on.len; are_bytes = on.are_bytes };
        }

-- bytes that go on from two go on from the first
pub from_first : (first second room : ℕ) (bytes : List ℕ) → Continues (first ∷ second ∷ []) room bytes
    → Continues (first ∷ []) room bytes
from_first first second room bytes on = record {
  more = second ∷ on.more;
  is = on.is;
  len = on.len;
  are_bytes = on.are_bytes;
}

-- the same for whichever second byte
pub record IsFirst (first room len : ℕ) (next : Announced) : Type 0 where
  pub small : first < 256
  pub six : 6 ≤ room
  pub version : first < 128
  pub len_is : (second : ℕ) → second < 256 → len ≡ sec_tag_len (front_of first second)
  pub fits : len ≤ room
  pub then : (second : ℕ) → second < 256 → IsTagNext (front_of first second) (first ∷ second ∷ []) next
  pub byte : FitsAnnounced next
  pub unread : (b : ℕ) → next ≡ High b → ⊥

two_ok : (first second : ℕ) → first < 256 → second < 256 → IsBytes (first ∷ second ∷ [])
two_ok first second f s =
    IsBytes-cons first (second ∷ []) f (IsBytes-cons second [] s IsBytes-nil)

-- a second byte of 0 names no length
zero_roomy : (first room len : ℕ) (next : Announced) → IsFirst first room len next → IsRoomy (front_of first 0) room
zero_roomy first room len next f = record {
  version = omega (arith, f.version);
  long = λ short. omega (arith, short.short_len);
  whole = omega (arith, f.len_is 0 (omega arith), f.fits);
  fits = λ p known. absurd (none p known);
}
  where
    none : (p : ℕ) → known_payload_len (front_of first 0) ≡ Some p → ⊥
    none p known =
        let c = front_of first 0 in
        let zero : c.short_len ≡ 0 = omega arith in
        let is : known_len (ether_type_len c.encrypted c.changed) 0 ≡ Some p =
        ap (known_len (ether_type_len c.encrypted c.changed)) (sym zero) ∙ known in
        absurd cc

zero_prospect : (first room len : ℕ) (next : Announced) → IsFirst first room len next
    → IsProspect kinds.Macsec (first ∷ 0 ∷ []) room
    (record { can_be_accepted = true; can_be_refused = false; next = next; room = room_after (front_of first 0) room })
zero_prospect first room len next f =
    tag_prospect (first ∷ 0 ∷ []) room (front_of first 0) next (two_ok first 0 f.small (omega arith)) f.six
    (omega (arith, f.six)) (omega (arith, f.len_is 0 (omega arith)))
    (have_front first 0 (first ∷ 0 ∷ []) room ([], refl)) (zero_roomy first room len next f) (f.then 0 (omega arith))
    f.byte

zero_room : (first room len : ℕ) (next : Announced) → IsFirst first room len next
    → room_after (front_of first 0) room ≡ room - len
zero_room first room len next f =
    let c = front_of first 0 in
    let zero : c.short_len ≡ 0 = omega arith in
    ap (λ (n : ℕ). unwrap_or (known_len (ether_type_len c.encrypted c.changed) n) (room - sec_tag_len c)) zero
    ∙ omega (arith, f.len_is 0 (omega arith))

-- some second byte makes the tag refused (true), or none does
abbrev pub SomeRefused : (first room : ℕ) → Bool → Type 0
SomeRefused first room true = (second : ℕ) × (second < 256) × (IsRoomy (front_of first second) room → ⊥)
SomeRefused first room false = (second : ℕ) → second < 256 → IsRoomy (front_of first second) room

pub first_prospect : (first room len : ℕ) (next : Announced) (refused : Bool) → IsFirst first room len next
    → SomeRefused first room refused
    → IsProspect kinds.Macsec (first ∷ []) room
    (record { can_be_accepted = true; can_be_refused = refused; next = next; room = room - len })
first_prospect first room len next refused f some = record {
  refused = (λ t. some_are refused some t, λ (bytes, on, r). none_are refused some bytes on r);
  accepted = (
    λ t. let found = zero.accepted.0 refl in (found.0, found.1, from_first first 0 room found.0 found.2, found.3),
    λ it. refl,
  );
  byte = f.byte;
  followed = follows;
  exact = λ b is bytes h t on a then. absurd (f.unread b is);
  offered = λ accepted t rest lt offers are rest_len.
      (let found = zero.offered refl t rest lt offers are (rest_len ∙ sym (zero_room first room len next f)) in
      (found.0, found.1, from_first first 0 room found.0 found.2, found.3, found.4, found.5));
}
  where
    zero : IsProspect kinds.Macsec (first ∷ 0 ∷ []) room
        (record {
          can_be_accepted = true;
          can_be_refused = false;
          next = next;
          room = room_after
              (front_of first 0) room;
        })
    zero = zero_prospect first room len next f

    some_are : (r : Bool) → SomeRefused first room r → IsTrue r
        → (bytes : List ℕ) × Continues (first ∷ []) room bytes × AreRefused kinds.Macsec bytes
    some_are true (second, small, never) t =
        let z = zeros_continue (first ∷ second ∷ []) room (two_ok first second f.small small)
        (omega (arith, f.six)) in (
          z.0,
          from_first first second room z.0 z.1,
          unroomy_refused z.0 (front_of first second) room z.1.are_bytes f.six z.1.len
              (have_front first second (first ∷ second ∷ []) room ([], refl) z.0 z.1) never,
        )
    some_are false all t = absurd cc

    none_are : (r : Bool) → SomeRefused first room r → (bytes : List ℕ) → Continues (first ∷ []) room bytes
        → AreRefused kinds.Macsec bytes → IsTrue r
    none_are true it bytes on refused = refl
    none_are false all bytes on refused =
        let s = some_second first room bytes f.six on in
        let read = tag_read bytes (front_of first s.second) room on.are_bytes f.six on.len
        (have_front first s.second (first ∷ s.second ∷ []) room ([], refl) bytes s.on) (all s.second s.small) in
        absurd (never_both kinds.Macsec bytes (headers.Macsec (sec_tag_of bytes)) refused read.accepted)

    follows : (bytes : List ℕ) (h : Header) (t : ℕ) → Continues (first ∷ []) room bytes
        → AreAccepted kinds.Macsec bytes h → next_after h ≡ EtherType t
        → Offers next t × (length (payload_bytes h bytes) ≤ room - len)
    follows bytes h t on a is =
        let s = some_second first room bytes f.six on in
        let c = front_of first s.second in
        let front = have_front first s.second (first ∷ s.second ∷ []) room ([], refl) in
        let roomy = accepted_roomy bytes c room h on.are_bytes f.six on.len (front bytes s.on) a in
        let both = tag_followed (first ∷ s.second ∷ []) room c next f.six front roomy
        (f.then s.second s.small) bytes h t
        s.on a is in
        let fits = room_fits c room (known_payload_len c) refl roomy in
        (both.0, omega (arith, both.1, fits, f.len_is s.second s.small))

-- ---- what the first byte says

pub known_below : (ether_type short p : ℕ) → known_len ether_type short ≡ Some p → p ≤ short
known_below ether_type short p is = by_test (nat_eq short 0 || nat_lt short ether_type) is
  where
    by_test : (b : Bool) → cond b None (Some (short - ether_type)) ≡ Some p → p ≤ short
    by_test true i = absurd cc
    by_test false i = let same : short - ether_type ≡ p = cc in omega (arith, same)

pub both_clear : (e c : ℕ) (b : Bool) → IsTrue b ↔ ((e ≡ 0) × (c ≡ 0) → ⊥) → b ≡ false → (e ≡ 0) × (c ≡ 0)
both_clear zero zero b iff is = (refl, refl)
both_clear zero (suc c) b iff is = let yes = iff.1 (λ both. let no = both.1 in absurd cc) in absurd cc
both_clear (suc e) c b iff is = let yes = iff.1 (λ both. let no = both.0 in absurd cc) in absurd cc

-- what is_modified says
abbrev pub SaysModified : (first : ℕ) → Bool → Type 0
SaysModified first b = (second : ℕ) → second < 256 → IsTrue b
    ↔ (((front_of first second).encrypted ≡ 0) × ((front_of first second).changed ≡ 0) → ⊥)

abbrev pub SaysLen : (first len : ℕ) → Type 0
SaysLen first len = (second : ℕ) → second < 256 → len ≡ sec_tag_len (front_of first second)

pub modified_first : (first room len : ℕ) (b : Bool) → first < 128 → 6 ≤ room → SaysLen first len → len ≤ room
    → SaysModified first b → b ≡ true
    → IsProspect kinds.Macsec (first ∷ []) room
    (record { can_be_accepted = true; can_be_refused = nat_lt room (len + 63); next = Nothing; room = room - len })
modified_first first room len b below six len_is fits says is =
    first_prospect first room len Nothing (nat_lt room (len + 63))
    (record {
      small = omega (arith, below);
      six = six;
      version = below;
      len_is = len_is;
      fits = fits;
      then = λ second small. record {
        unmodified_type = λ e f. never second small (e, f);
        modified_type = λ it. refl;
      };
      byte = tt;
      unread = λ b no. cc;
    })
    (by_room (nat_lt room (len + 63)) refl)
  where
    never : (second : ℕ) → second < 256
        → ((front_of first second).encrypted ≡ 0) × ((front_of first second).changed ≡ 0) → ⊥
    never second small both = (says second small).0 is both

    roomy : len + 63 ≤ room → (second : ℕ) → second < 256 → IsRoomy (front_of first second) room
    roomy wide second small = record {
      version = omega (arith, below, small);
      long = λ short. never second small (short.encrypted, short.changed);
      whole = omega (arith, len_is second small, fits);
      fits = λ p known. (let c = front_of first second in
          let most = known_below (ether_type_len c.encrypted c.changed) c.short_len p known in
          omega (arith, most, len_is second small, wide));
    }

    by_room : (r : Bool) → nat_lt room (len + 63) ≡ r → SomeRefused first room r
    by_room true e = (
      63,
      omega arith,
      not_roomy first 63 room len 0 (omega arith) (len_is 63 (omega arith))
          (len_modified (front_of first 63).encrypted (front_of first 63).changed (never 63 (omega arith)))
          (λ none. omega (arith, none)) (omega arith) (omega (arith, ltb-true room (len + 63) e)),
    )
    by_room false e = roomy (ltb-false room (len + 63) e)

pub unmodified_first : (first room len : ℕ) (b : Bool) → first < 128 → 6 ≤ room → SaysLen first len → len ≤ room
    → SaysModified first b → b ≡ false
    → IsProspect kinds.Macsec (first ∷ []) room
    (record { can_be_accepted = true; can_be_refused = true; next = Any; room = room - len })
unmodified_first first room len b below six len_is fits says is =
    first_prospect first room len Any true
    (record {
      small = omega (arith, below);
      six = six;
      version = below;
      len_is = len_is;
      fits = fits;
      then = λ second small. record {
        unmodified_type = λ e f. omega arith;
        modified_type = λ never. absurd (let both = clear second small in never both.0 both.1);
      };
      byte = tt;
      unread = λ b no. cc;
    }) (
      1,
      omega arith,
      λ roomy. roomy.long (record {
        encrypted = (clear 1 (omega arith)).0;
        changed = (clear 1 (omega arith)).1;
        short_len = omega arith;
      }),
    )
  where
    clear : (second : ℕ) → second < 256
        → ((front_of first second).encrypted ≡ 0) × ((front_of first second).changed ≡ 0)
    clear second small =
        both_clear (front_of first second).encrypted (front_of first second).changed b (says second small) is

-- .. it refuses the tag whatever the second byte is
pub refused_first : (first room len : ℕ) → first < 256 → 6 ≤ room → SaysLen first len
    → (128 ≤ first) ⊎ ((first < 128) × (room < len))
    → IsProspect kinds.Macsec (first ∷ []) room
    (record { can_be_accepted = false; can_be_refused = true; next = Nothing; room = 0 })
refused_first first room len small six len_is why =
    always_refused kinds.Macsec (first ∷ []) room (IsBytes-cons first [] small IsBytes-nil) (omega (arith, six))
    (λ bytes on. (let s = some_second first room bytes six on in
    unroomy_refused bytes (front_of first s.second) room on.are_bytes six on.len
    (have_front first s.second (first ∷ s.second ∷ []) room ([], refl) bytes s.on) (never s.second s.small)))
  where
    never : (second : ℕ) → second < 256 → IsRoomy (front_of first second) room → ⊥
    never second lt roomy = elim why [
      | inl above ↦ omega (arith, above, small, lt, roomy.version)
      | inr short ↦ omega (arith, short.1, len_is second lt, roomy.whole)
    ]

-- ---- no byte is there

from_none : (first room : ℕ) (bytes : List ℕ) → Continues (first ∷ []) room bytes → Continues [] room bytes
from_none first room bytes on = record {
  more = first ∷ on.more;
  is = on.is;
  len = on.len;
  are_bytes = on.are_bytes;
}

pub record First (room : ℕ) (bytes : List ℕ) : Type 0 where
  pub first : ℕ
  pub small : first < 256
  pub on : Continues (first ∷ []) room bytes

some_first : (room : ℕ) (bytes : List ℕ) → 6 ≤ room → Continues [] room bytes → First room bytes
some_first room bytes six on = by_bytes bytes refl
  where
    by_bytes : (l : List ℕ) → bytes ≡ l → First room bytes
    by_bytes [] is = absurd (omega (arith, on.len, six, ap length is))
    by_bytes (f ∷ more) is = record {
      first = f;
      small = omega (arith, on.are_bytes 0, ap (λ (l : List ℕ). get_or l 0 0) is);
      on = record { more = more; is = is; len = on.len; are_bytes = on.are_bytes };
    }

-- a tag that has an ether type has at least eight bytes
unread_followed : (room : ℕ) (bytes : List ℕ) (h : Header) (t : ℕ) → 6 ≤ room → Continues [] room bytes
    → AreAccepted kinds.Macsec bytes h → next_after h ≡ EtherType t
    → (8 ≤ room) × (length (payload_bytes h bytes) ≤ room - 8)
unread_followed room bytes h t six on a is =
    let f = some_first room bytes six on in
    let s = some_second f.first room bytes six f.on in
    let c = front_of f.first s.second in
    let front = have_front f.first s.second (f.first ∷ s.second ∷ []) room ([], refl) bytes s.on in
    let roomy = accepted_roomy bytes c room h on.are_bytes six on.len front a in
    let r = tag_read bytes c room on.are_bytes six on.len front roomy in
    let same = tag_header bytes c h r a in
    let place = 6 + 8 * c.sci_present in
    let u = unmodified c.encrypted c.changed (number (slice_range bytes place (place + 2))) t
    (sym r.next ∙ sym (ap next_after same) ∙ is) in
    let len = type_len c u.encrypted u.changed in
    let fits = room_fits c room (known_payload_len c) refl roomy in
    let part = length-part bytes (sec_tag_len c) (sec_tag_len c + room_after c room) (omega (arith, fits, on.len)) in
    let payload = ap length (ap (λ (k : Header). payload_bytes k bytes) same
    ∙ tag_payload bytes c room r on.len roomy) in
    (omega (arith, len, roomy.whole), omega (arith, payload, part, fits, len))

zero_says : SaysLen 0 8
zero_says second small =
    let e : (front_of 0 second).encrypted ≡ 0 = omega (arith, small) in
    let f : (front_of 0 second).changed ≡ 0 = omega (arith, small) in
    let s : (front_of 0 second).sci_present ≡ 0 = omega (arith, small) in
    omega (arith, type_len (front_of 0 second) e f, s)

zero_clear : SaysModified 0 false
zero_clear second small = (
  λ t. absurd cc,
  λ never. absurd (never (omega (arith, small), omega (arith, small))),
)

four_says : SaysLen 4 6
four_says second small =
    let s : (front_of 4 second).sci_present ≡ 0 = omega (arith, small) in
    let f : (front_of 4 second).changed ≡ 1 = omega (arith, small) in
    let none : ether_type_len (front_of 4 second).encrypted (front_of 4 second).changed ≡ 0 =
    len_modified (front_of 4 second).encrypted (front_of 4 second).changed (λ both. omega (arith, both.1, f)) in
    omega (arith, none, s)

four_set : SaysModified 4 true
four_set second small = (
  λ t both. (let f : (front_of 4 second).changed ≡ 1 = omega (arith, small) in omega (arith, both.1, f)),
  λ never. refl,
)

some_refused : (room : ℕ) → 6 ≤ room
    → (bytes : List ℕ) × Continues [] room bytes × AreRefused kinds.Macsec bytes
some_refused room six =
    let z = zeros_continue (0x80 ∷ 0 ∷ []) room (two_ok 0x80 0 (omega arith) (omega arith)) (omega (arith, six)) in (
      z.0,
      from_none 0x80 room z.0 (from_first 0x80 0 room z.0 z.1),
      unroomy_refused z.0 (front_of 0x80 0) room z.1.are_bytes six z.1.len
          (have_front 0x80 0 (0x80 ∷ 0 ∷ []) room ([], refl) z.0 z.1) (λ roomy. let no = roomy.version in absurd cc),
    )

some_accepted : (room : ℕ) → 6 ≤ room
    → (bytes : List ℕ) × (h : Header) × Continues [] room bytes × AreAccepted kinds.Macsec bytes h
some_accepted room six =
    let found = (modified_first 4 room 6 true (omega arith) six four_says six four_set refl).accepted.0 refl in
    (found.0, found.1, from_none 4 room found.0 found.2, found.3)

pub unread_short : (room : ℕ) → 6 ≤ room → room < 8
    → IsProspect kinds.Macsec [] room
    (record { can_be_accepted = true; can_be_refused = true; next = Nothing; room = 0 })
unread_short room six short = record {
  refused = (λ t. some_refused room six, λ it. refl);
  accepted = (λ t. some_accepted room six, λ it. refl);
  byte = tt;
  followed = λ bytes h t on a is. absurd (let both = unread_followed room bytes h t six on a is in omega
      (arith, both.0, short));
  exact = λ b no bytes h t on a is. absurd cc;
  offered = λ accepted t rest lt offers are len. absurd offers;
}

pub unread_long : (room : ℕ) → 8 ≤ room
    → IsProspect kinds.Macsec [] room
    (record { can_be_accepted = true; can_be_refused = true; next = Any; room = room - 8 })
unread_long room long = record {
  refused = (λ t. some_refused room (omega (arith, long)), λ it. refl);
  accepted = (λ t. some_accepted room (omega (arith, long)), λ it. refl);
  byte = tt;
  followed = λ bytes h t on a is. (tt, (unread_followed room bytes h t (omega (arith, long)) on a is).1);
  exact = λ b no bytes h t on a is. absurd cc;
  offered = λ accepted t rest lt offers are len.
      (let found = (unmodified_first 0 room 8 false (omega arith)
      (omega (arith, long)) zero_says long zero_clear refl).offered
      refl t rest lt tt are len in
      (found.0, found.1, from_none 0 room found.0 found.2, found.3, found.4, found.5));
}

pub tag_short : (known : List ℕ) (room : ℕ) → IsBytes known → length known ≤ room → room < 6
    → IsProspect kinds.Macsec known room
    (record { can_be_accepted = false; can_be_refused = true; next = Nothing; room = 0 })
tag_short known room ok inside short =
    always_refused kinds.Macsec known room ok inside (λ bytes on bound. (_, rows.macsec (omega (arith, on.len, short))))
