-- The least number of bytes of a SecTag.
use Rattle.std.proofs.Common.{◌≡◌, ℕ, ◌+◌, ◌-◌, ◌*◌, ◌<◌, ◌≤◌, List, [], ◌∷◌, ◌++◌, length, refl, sym, ap, subst, ◌∙◌, arith, inl, inr, Bool, true, false, IsTrue}
use Rattle.std.specs.Prelude.{Some, None, slice_range, replicate}
use Rattle.std.proofs.lemmas.Bool.{cases_lt}
use Rattle.std.proofs.lemmas.List.{length-append, length-replicate}
use Rattle.etherparse.specs.Bytes.{IsBytes, number}
use Rattle.etherparse.specs.Kind as kinds
use Rattle.etherparse.specs.Macsec.{sec_tag_len}
use Rattle.etherparse.specs.Header.{Header}
use Rattle.etherparse.specs.Refusal as rows
use Rattle.etherparse.proofs.Numbers.{IsBytes-nil, IsBytes-cons}
use Rattle.ether_peel.specs.Grammar.Expectation.{next_after}
use Rattle.ether_filter.specs.declared.packet.Packet.{Packet}
use Rattle.ether_filter.specs.declared.possible.Told.{Told}
use Rattle.ether_filter.specs.declared.primitive.Primitive.{Primitive}
use Rattle.ether_filter.specs.declared.prospect.Announced.{Announced}
use Rattle.ether_filter.specs.declared.prospect.Announced.TheVariants.{Nothing, Any, High}
use Rattle.ether_filter.specs.declared.prospect.OpenKind.TheVariants as open_kinds
use Rattle.ether_filter.specs.declared.prospect.Prospect.{Prospect}
use Rattle.ether_filter.specs.Behind.{IsTypeBehind}
use Rattle.ether_filter.specs.CutWalks.{kind_if}
use Rattle.ether_filter.specs.Deciding.{is_of_field}
use Rattle.ether_filter.specs.Later.{IsOpenAs}
use Rattle.ether_filter.specs.Needed.{IsUndecided, IsDecided, IsLeast}
use Rattle.ether_filter.specs.Possible.{AreTold}
use Rattle.ether_filter.specs.Prospects.{Continues, AreRefused, Offers, FitsAnnounced, IsTypeAt, IsOpen, IsProspect, IsRoomy, room_after, front_of, IsTagNext, BeginsWith, IsShortTag}
use Rattle.ether_filter.proofs.Behinds.{sec_tag_behind}
use Rattle.ether_filter.proofs.CutWalks.{here_next, refused_all}
use Rattle.ether_filter.proofs.LeastBytes.{AllUndecided, opens_kept, decides_by, never_decided}
use Rattle.ether_filter.proofs.LeastByType.{KeepsUnit, kept_here, type_least, next_by}
use Rattle.ether_filter.proofs.LeastTypes.{SomeDecides, high_decides, last_ok, last_quiet, type_kept}
use Rattle.ether_filter.proofs.LeastVlan.{no_link}
use Rattle.ether_filter.proofs.MorePackets.{of_no_lengths}
use Rattle.ether_filter.proofs.PossibleLemmas.{tag_of_kind}
use Rattle.ether_filter.proofs.PossibleTags.{ids_same}
use Rattle.ether_filter.proofs.Prospects.{never_both, zeros_continue}
use Rattle.ether_filter.proofs.QuietTypes.{IsQuiet, quiet_decided, all_decided}
use Rattle.ether_filter.proofs.SecTags.{tag_read, tag_header, unmodified, type_len, tag_prospect, tag_byte, have_front, accepted_roomy, unroomy_refused}
use Rattle.ether_filter.proofs.ShortSecTags.{some_second}
use Rattle.ether_filter.proofs.Tails.{either}
use Rattle.ether_filter.proofs.Typed.{zeros_are_bytes}

-- ---- all are refused

tag_refused : (q : Primitive) (packet : Packet) (hs : List Header) (l : List ℕ) (room : ℕ)
    → IsOpen packet hs kinds.Macsec l room
    → ((bytes : List ℕ) → Continues l room bytes → AreRefused kinds.Macsec bytes) → IsDecided packet q
tag_refused q packet hs l room o each = all_decided packet hs q true (refused_all packet hs kinds.Macsec l room o each)

pub tag_room : (q : Primitive) (packet : Packet) (hs : List Header) (l : List ℕ) (room : ℕ)
    → IsOpen packet hs kinds.Macsec l room → IsUndecided packet q → 6 ≤ room
tag_room q packet hs l room o u = elim (cases_lt room 6) [
  | inl short ↦ absurd (never_decided q packet (tag_refused q packet hs l room o
      (λ bytes on bound. (_, rows.macsec (omega (arith, on.len, short))))) u)
  | inr long ↦ long
]

-- a front that is not roomy
pub front_refused : (first second room : ℕ) (l : List ℕ) → 6 ≤ room → BeginsWith first second l
    → (IsRoomy (front_of first second) room → ⊥) → (bytes : List ℕ) → Continues l room bytes
    → AreRefused kinds.Macsec bytes
front_refused first second room l six begins never bytes on =
    unroomy_refused bytes (front_of first second) room on.are_bytes six on.len
    (have_front first second l room begins bytes on) never

-- nothing follows a unit
nothing_follows : (q : Primitive) (told : Told) (packet : Packet) (hs : List Header) (known : List ℕ) (room : ℕ)
    (p : Prospect) → IsOpenAs packet hs open_kinds.Macsec known room p → p.can_be_refused ≡ false
    → IsQuiet p.next q → AreTold packet hs q told → is_of_field q ≡ false → IsUndecided packet q → ⊥
nothing_follows q told packet hs known room p open_as never quiet a field u =
    never_decided q packet
    (quiet_decided packet hs open_kinds.Macsec known room p q [] open_as never quiet
    (λ unit f. ids_same unit [] (tag_of_kind unit open_kinds.Macsec f.accepts.of_kind))
    (no_link packet hs open_kinds.Macsec known room p q told open_as a field refl u) field
    (of_no_lengths q packet u)) u

quiet_nothing : (q : Primitive) (next : Announced) → next ≡ Nothing → IsQuiet next q
quiet_nothing q next is = subst (λ (a : Announced). IsQuiet a q) (sym is) (record {
  tag = λ (t, at, announces). at;
  sec_tag = λ at. at;
  arp = λ at. at;
  type = λ n same at. at;
})

-- ---- no byte is there

-- a tag of another version
version_refused : (room : ℕ) (bytes : List ℕ) → 6 ≤ room → Continues (128 ∷ []) room bytes
    → AreRefused kinds.Macsec bytes
version_refused room bytes six on =
    let s = some_second 128 room bytes six on in
    front_refused 128 s.second room (128 ∷ s.second ∷ []) six ([], refl)
    (λ roomy. (let small = s.small in omega (arith, small, roomy.version))) bytes s.on

-- ---- the first byte is there

-- the second byte of bytes that are refused
record Refuses (first room : ℕ) : Type 0 where
  second : ℕ
  small : second < 256
  each : (bytes : List ℕ) → Continues (first ∷ second ∷ []) room bytes → AreRefused kinds.Macsec bytes

refuses : (first room : ℕ) (bytes : List ℕ) → 6 ≤ room → Continues (first ∷ []) room bytes
    → AreRefused kinds.Macsec bytes → Refuses first room
refuses first room bytes six on gone =
    let s = some_second first room bytes six on in
    record {
      second = s.second;
      small = s.small;
      each = front_refused first s.second room (first ∷ s.second ∷ []) six ([], refl)
          (λ roomy. never_both kinds.Macsec bytes _ gone
          (tag_read bytes (front_of first s.second) room on.are_bytes six on.len
          (have_front first s.second (first ∷ s.second ∷ []) room ([], refl) bytes s.on) roomy).accepted);
    }

-- a tag with an ether type can name a length that is too short for it
can_be_refused : (first room : ℕ) (p : Prospect) → first < 256 → 6 ≤ room → IsProspect kinds.Macsec (first ∷ []) room p
    → (second : ℕ) → second < 256 → (front_of first second).encrypted ≡ 0 → (front_of first second).changed ≡ 0
    → IsTrue p.can_be_refused
can_be_refused first room p first_small six is second small e c =
    let encrypted : (front_of first 1).encrypted ≡ 0 = omega (arith, e, small) in
    let changed : (front_of first 1).changed ≡ 0 = omega (arith, c, small) in
    let ok : IsBytes (first ∷ 1 ∷ []) = IsBytes-cons first (1 ∷ []) first_small
    (IsBytes-cons 1 [] (omega arith) IsBytes-nil) in
    let z = zeros_continue (first ∷ 1 ∷ []) room ok (omega (arith, six)) in
    let on : Continues (first ∷ []) room z.0 = record {
      more = 1 ∷ z.1.more;
      is = z.1.is;
      len = z.1.len;
      are_bytes = z.1.are_bytes;
    } in
    is.refused.1 (
      z.0,
      on,
      front_refused first 1 room (first ∷ 1 ∷ []) six ([], refl)
          (λ roomy. roomy.long (record { encrypted = encrypted; changed = changed; short_len = omega arith })) z.0 z.1,
    )

-- one that is never refused announces no ether type
never_typed : (first room : ℕ) (p : Prospect) → first < 256 → 6 ≤ room → IsProspect kinds.Macsec (first ∷ []) room p
    → p.can_be_refused ≡ false → IsTrue p.can_be_accepted → (t : ℕ) → t < 65536 → Offers p.next t → ⊥
never_typed first room p small six is never got t lt offers =
    let x = is.offered got t (replicate p.room 0) lt offers (zeros_are_bytes p.room)
    (length-replicate {A = ℕ} p.room 0) in
    let bytes = x.0 in
    let on = x.2 in
    let s = some_second first room bytes six on in
    let c = front_of first s.second in
    let front = have_front first s.second (first ∷ s.second ∷ []) room ([], refl) bytes s.on in
    let roomy = accepted_roomy bytes c room x.1 on.are_bytes six on.len front x.3 in
    let r = tag_read bytes c room on.are_bytes six on.len front roomy in
    let same = tag_header bytes c x.1 r x.3 in
    let place = 6 + 8 * c.sci_present in
    let u = unmodified c.encrypted c.changed (number (slice_range bytes place (place + 2))) t
    (sym r.next ∙ sym (ap next_after same) ∙ x.4) in
    let gone = can_be_refused first room p small six is s.second s.small u.encrypted u.changed in
    (let clash : true ≡ false = sym gone ∙ never in cc)

next_nothing : (next : Announced) → ((t : ℕ) → t < 65536 → Offers next t → ⊥)
    → ((b : ℕ) → next ≡ High b → b < 256) → next ≡ Nothing
next_nothing Nothing never small = refl
next_nothing Any never small = absurd (never 0 (omega arith) tt)
next_nothing (High b) never small =
    let lt = small b refl in absurd (never (b * 256) (omega (arith, lt)) (omega arith))

known_high : (next : Announced) (b : ℕ) → FitsAnnounced next → next ≡ High b → b < 256
known_high next b fits high = subst FitsAnnounced high fits

first_refuses : (q : Primitive) (told : Told) (packet : Packet) (hs : List Header) (first room : ℕ) (p : Prospect)
    → IsProspect kinds.Macsec (first ∷ []) room p → IsShortTag (first ∷ []) → first < 256 → 6 ≤ room
    → is_of_field q ≡ false → IsBytes packet.frame.now → IsOpen packet hs kinds.Macsec (first ∷ []) room
    → AreTold packet hs q told → IsUndecided packet q → Refuses first room
first_refuses q told packet hs first room p is cut small six field ok o a u = by_test p.can_be_refused refl
  where
    by_accepted : (b : Bool) → p.can_be_accepted ≡ b → p.can_be_refused ≡ false → ⊥
    by_accepted true got never =
        nothing_follows q told packet hs (first ∷ []) room p
        (record { bytes = ok; cut = cut; unit = o; prospect = is }) never
        (quiet_nothing q p.next (next_nothing p.next (never_typed first room p small six is never got)
        (λ b high. known_high p.next b is.byte high))) a field u
    by_accepted false none never =
        never_decided q packet (tag_refused q packet hs (first ∷ []) room o
        (λ bytes on. elim (either kinds.Macsec bytes on.are_bytes) [
          | inl gone ↦ gone
          | inr got ↦
              absurd (let clash : true ≡ false = sym (is.accepted.1 (bytes, got.0, on, got.1)) ∙ none in cc)
        ])) u

    by_test : (b : Bool) → p.can_be_refused ≡ b → Refuses first room
    by_test true can = let x = is.refused.0 can in refuses first room x.0 six x.1 x.2
    by_test false never = absurd (by_accepted p.can_be_accepted refl never)

-- one more byte can be such that the tag is refused
pub tag_next_byte : (q : Primitive) (told : Told) (p : Prospect) (packet : Packet) (hs : List Header) (known : List ℕ)
    (room : ℕ) → AllUndecided q told open_kinds.Macsec (λ l. Unit {0}) p → IsProspect kinds.Macsec known room p
    → IsShortTag known → length known < 2 → is_of_field q ≡ false → IsBytes known
    → IsBytes packet.frame.now → IsOpen packet hs kinds.Macsec known room
    → AreTold packet hs q told → IsUndecided packet q
    → IsLeast packet q (length packet.frame.now + (length known + 1 - length known))
tag_next_byte q told p packet hs [] room all is cut few field known_ok ok o a u =
    let six = tag_room q packet hs [] room o u in
    next_by q told open_kinds.Macsec (λ l. Unit {0}) p packet hs [] room all
    (record { cut = cut; prospect = is; fits = tt }) (omega (arith, six))
    (decides_by q packet hs kinds.Macsec [] (128 ∷ []) room ok (IsBytes-cons 128 [] (omega arith) IsBytes-nil) o
    (omega arith) (omega (arith, six))
    (λ longer h longer_ok opened. tag_refused q longer hs (128 ∷ []) room opened
    (λ bytes on. version_refused room bytes six on)))
    o a u
tag_next_byte q told p packet hs (first ∷ []) room all is cut few field known_ok ok o a u =
    let six = tag_room q packet hs (first ∷ []) room o u in
    let r = first_refuses q told packet hs first room p is cut (known_ok 0) six field ok o a u in
    next_by q told open_kinds.Macsec (λ l. Unit {0}) p packet hs (first ∷ []) room all
    (record { cut = cut; prospect = is; fits = tt }) (omega (arith, six))
    (decides_by q packet hs kinds.Macsec (first ∷ []) (r.second ∷ []) room ok
    (IsBytes-cons r.second [] r.small IsBytes-nil) o (omega arith) (omega (arith, six))
    (λ longer h longer_ok opened. tag_refused q longer hs (first ∷ r.second ∷ []) room opened r.each))
    o a u
tag_next_byte q told p packet hs (first ∷ second ∷ rest) room all is cut few field known_ok ok o a u =
    absurd (omega (arith, few))

-- ---- the first two bytes are there

-- what holds of the tag, if an ether type follows
pub record IsTypedTag (known : List ℕ) (first second room len payload : ℕ) (next : Announced) : Type 0 where
  pub known_ok : IsBytes known
  pub begins : BeginsWith first second known
  pub few : length known < len
  pub len_is : len ≡ sec_tag_len (front_of first second)
  pub roomy : IsRoomy (front_of first second) room
  pub payload_is : payload ≡ room_after (front_of first second) room
  pub encrypted : (front_of first second).encrypted ≡ 0
  pub changed : (front_of first second).changed ≡ 0
  pub at : IsTypeAt known (len - 2) next

abbrev pub typed_tag : Announced → ℕ → Prospect
typed_tag next payload =
    record { can_be_accepted = true; can_be_refused = false; next = next; room = payload }

begins_more : (first second : ℕ) (known more : List ℕ) → BeginsWith first second known
    → BeginsWith first second (known ++ more)
begins_more first second known more begins = (begins.0 ++ more, ap (λ (l : List ℕ). l ++ more) begins.1)

one_front : (first second a b : ℕ) (l : List ℕ) → BeginsWith first second l → BeginsWith a b l
    → front_of a b ≡ front_of first second
one_front first second a b l x y =
    let same : first ∷ second ∷ x.0 ≡ a ∷ b ∷ y.0 = sym x.1 ∙ y.1 in
    let first_is : first ≡ a = cc in
    let second_is : second ≡ b = cc in
    λ i. front_of (sym first_is i) (sym second_is i)

cut_front : (first second : ℕ) (l : List ℕ) → BeginsWith first second l
    → length l < sec_tag_len (front_of first second) → IsShortTag l
cut_front first second l begins few a b other =
    let same = ap sec_tag_len (one_front first second a b l begins other) in
    omega (arith, few, same)

type_place : (known : List ℕ) (first second room len payload : ℕ) (next : Announced)
    → IsTypedTag known first second room len payload next
    → len - 2 ≡ 6 + 8 * (front_of first second).sci_present
type_place known first second room len payload next t =
    let n = type_len (front_of first second) t.encrypted t.changed in omega (arith, t.len_is, n)

tag_keeps_by : (known more : List ℕ) (first second room len payload : ℕ) (next other : Announced)
    → IsTypedTag known first second room len payload next → IsBytes (known ++ more) → length (known ++ more) < len
    → IsTypeAt (known ++ more) (len - 2) other
    → IsProspect kinds.Macsec (known ++ more) room (typed_tag other payload)
tag_keeps_by known more first second room len payload next other t ok few at =
    let c = front_of first second in
    let l = known ++ more in
    let whole = t.roomy.whole in
    let begins = begins_more first second known more t.begins in
    let then : IsTagNext c l other = record {
      unmodified_type = λ e f. subst (λ (n : ℕ). IsTypeAt l n other)
          (type_place known first second room len payload next t) at;
      modified_type = λ never. absurd (never t.encrypted t.changed);
    } in
    subst (λ (n : ℕ). IsProspect kinds.Macsec l room (typed_tag other n)) (sym t.payload_is)
    (tag_prospect l room c other ok (omega (arith, whole)) (omega (arith, few, whole, t.len_is))
    (omega (arith, few, t.len_is)) (have_front first second l room begins) t.roomy then (tag_byte l c other ok then))

tag_keeps : (known : List ℕ) (first second room len payload : ℕ) (next : Announced)
    → IsTypedTag known first second room len payload next
    → KeepsUnit open_kinds.Macsec (λ l. Unit {0}) (typed_tag next payload) known room len
tag_keeps known first second room len payload next t more ok few short = record {
  cut = cut_front first second (known ++ more) (begins_more first second known more t.begins)
      (omega (arith, few, t.len_is));
  prospect = tag_keeps_by known more first second room len payload next next t ok few
      (type_kept known more (len - 2) next t.at short);
  fits = tt;
}

pub tag_here : (packet : Packet) (hs : List Header) (known : List ℕ) (first second room len payload : ℕ)
    (next : Announced) → IsTypedTag known first second room len payload next → IsBytes packet.frame.now
    → IsOpen packet hs kinds.Macsec known room
    → IsOpenAs packet hs open_kinds.Macsec known room (typed_tag next payload)
tag_here packet hs known first second room len payload next t ok o =
    opens_kept open_kinds.Macsec (λ l. Unit {0}) (typed_tag next payload) known room packet hs
    (kept_here open_kinds.Macsec (λ l. Unit {0}) (typed_tag next payload) known room len
    (tag_keeps known first second room len payload next t) t.known_ok t.few) ok o

tag_low : (q : Primitive) (packet : Packet) (hs : List Header) (known : List ℕ) (first second room len payload : ℕ)
    (next : Announced) → IsTypedTag known first second room len payload next → length known + 1 ≡ len
    → IsBytes packet.frame.now → IsOpen packet hs kinds.Macsec known room → SomeDecides packet q 1
tag_low q packet hs known first second room len payload next t len_known ok o =
    let c = front_of first second in
    let all = known ++ 255 ∷ [] in
    let all_len : length all ≡ len = omega (arith, length-append known (255 ∷ []), len_known) in
    let whole = t.roomy.whole in
    let place = 6 + 8 * c.sci_present in
    let n = type_len c t.encrypted t.changed in
    let at : length known ≡ place + 1 = omega (arith, len_known, t.len_is, n) in
    decides_by q packet hs kinds.Macsec known (255 ∷ []) room ok (IsBytes-cons 255 [] (omega arith) IsBytes-nil) o
    (omega arith) (omega (arith, all_len, t.len_is, whole))
    (λ longer h longer_ok opened.
    (let type : IsTypeBehind c all (Some (number (slice_range all place (place + 2)))) = record {
      unmodified_type = λ e f. refl;
      modified_type = λ never. absurd (never t.encrypted t.changed);
    } in
    let all_ok = last_ok known t.known_ok in
    let b = sec_tag_behind all first second room len payload (Some (number (slice_range all place (place + 2)))) all_ok
    (omega (arith, all_len, t.len_is, whole)) (begins_more first second known (255 ∷ []) t.begins)
    (omega (arith, all_len, t.len_is)) t.len_is t.roomy t.payload_is type in
    all_decided longer (hs ++ b.0 ∷ []) q false
    (here_next longer hs open_kinds.Macsec None all room b.0 opened all_ok b.1
    (sym (last_quiet known place at) ∙ sym (ap kind_if b.4)))))

pub tag_least : (q : Primitive) (told : Told) (packet : Packet) (hs : List Header) (known : List ℕ)
    (first second room len payload n : ℕ) (next : Announced)
    → IsTypedTag known first second room len payload next
    → AllUndecided q told open_kinds.Macsec (λ l. Unit {0}) (typed_tag next payload)
    → (length known + 1 < len → n ≡ len - 1) → (len ≤ length known + 1 → n ≡ len)
    → is_of_field q ≡ false → IsBytes packet.frame.now
    → IsOpen packet hs kinds.Macsec known room → AreTold packet hs q told → IsUndecided packet q
    → IsLeast packet q (length packet.frame.now + (n - length known))
tag_least q told packet hs known first second room len payload n next t all high low field ok o a u =
    let whole = t.roomy.whole in
    let long : len ≤ room = omega (arith, whole, t.len_is) in
    let least : 2 ≤ len =
    (let place = type_len (front_of first second) t.encrypted t.changed in omega (arith, t.len_is, place)) in
    let link = no_link packet hs open_kinds.Macsec known room (typed_tag next payload) q told
    (tag_here packet hs known first second room len payload next t ok o) a field refl u in
    type_least q told open_kinds.Macsec (λ l. Unit {0}) (typed_tag next payload) packet hs known room n len all
    (tag_keeps known first second room len payload next t) long t.few least high low
    (λ early. high_decides q packet hs open_kinds.Macsec known room len payload (λ l. [])
    (λ b more more_ok more_len at. tag_keeps_by known more first second room len payload next (High b) t more_ok
    (omega (arith, more_len, least)) at) least early long t.known_ok ok
    (λ more lt. cut_front first second (known ++ more) (begins_more first second known more t.begins)
    (omega (arith, lt, t.len_is))) o
    (λ l l_len l_ok unit f. ids_same unit [] (tag_of_kind unit open_kinds.Macsec f.accepts.of_kind)) link field
    (of_no_lengths q packet u))
    (λ late. tag_low q packet hs known first second room len payload next t late ok o) t.known_ok o a u

-- ---- without an ether type

pub tag_unroomy : (q : Primitive) (packet : Packet) (hs : List Header) (known : List ℕ) (first second room : ℕ)
    → BeginsWith first second known → (IsRoomy (front_of first second) room → ⊥)
    → IsOpen packet hs kinds.Macsec known room → IsUndecided packet q → ⊥
tag_unroomy q packet hs known first second room begins never o u =
    never_decided q packet (tag_refused q packet hs known room o
    (front_refused first second room known (tag_room q packet hs known room o u) begins never)) u

pub tag_modified : (q : Primitive) (told : Told) (packet : Packet) (hs : List Header) (known : List ℕ)
    (first second room : ℕ) → IsBytes known → BeginsWith first second known
    → length known < sec_tag_len (front_of first second) → IsRoomy (front_of first second) room
    → (((front_of first second).encrypted ≡ 0) × ((front_of first second).changed ≡ 0) → ⊥)
    → is_of_field q ≡ false → IsBytes packet.frame.now → IsOpen packet hs kinds.Macsec known room
    → AreTold packet hs q told → IsUndecided packet q → ⊥
tag_modified q told packet hs known first second room known_ok begins few roomy never field ok o a u =
    let c = front_of first second in
    let whole = roomy.whole in
    let then : IsTagNext c known Nothing = record {
      unmodified_type = λ e f. never (e, f);
      modified_type = λ it. refl;
    } in
    let p = typed_tag Nothing (room_after c room) in
    nothing_follows q told packet hs known room p
    (record {
      bytes = ok;
      cut = cut_front first second known begins few;
      unit = o;
      prospect = tag_prospect known room c Nothing known_ok (omega (arith, whole)) (omega (arith, few, whole)) few
          (have_front first second known room begins) roomy then tt;
    }) refl (quiet_nothing q Nothing refl) a field u
