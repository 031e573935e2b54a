-- The least number of bytes of an ARP packet.
use Rattle.std.proofs.Common.{◌≡◌, ℕ, ◌+◌, ◌-◌, ◌*◌, ◌<◌, ◌≤◌, List, [], ◌∷◌, ◌++◌, length, append_assoc, refl, sym, ap, subst, ◌∙◌, arith, inl, inr, ◌⊎◌, true, false, nat_lt, nat_le}
use Rattle.std.specs.Prelude.{get_or, replicate}
use Rattle.std.proofs.lemmas.Bool.{cases_lt, le-ltb}
use Rattle.std.proofs.lemmas.List.{append-nil, length-append, length-replicate, get_or-append_right, get_or_default, get_or_past}
use Rattle.etherparse.specs.Bytes.{IsBytes}
use Rattle.etherparse.specs.Kind as kinds
use Rattle.etherparse.specs.Header.{Header}
use Rattle.etherparse.proofs.Numbers.{IsBytes-nil, IsBytes-cons, IsBytes-append}
use Rattle.ether_filter.specs.declared.packet.Packet.{Packet}
use Rattle.ether_filter.specs.declared.possible.Told.{Told}
use Rattle.ether_filter.specs.declared.primitive.Primitive.{Primitive}
use Rattle.ether_filter.specs.declared.prospect.Announced.TheVariants.{Nothing}
use Rattle.ether_filter.specs.declared.prospect.OpenKind.TheVariants as open_kinds
use Rattle.ether_filter.specs.declared.prospect.Prospect.{Prospect}
use Rattle.ether_filter.specs.Deciding.{is_of_lengths, is_of_link, is_of_field}
use Rattle.ether_filter.specs.Later.{IsOpenAs}
use Rattle.ether_filter.specs.Needed.{IsUndecided, IsDecided, IsLeast}
use Rattle.ether_filter.specs.Possible.{AreTold}
use Rattle.ether_filter.specs.Prospects.{Continues, IsOpen, IsProspect}
use Rattle.ether_filter.proofs.ArpProspects.{arp_prospect, arp_short, arp_ends}
use Rattle.ether_filter.proofs.CutWalks.{refused_all}
use Rattle.ether_filter.proofs.FieldChoices.{kept}
use Rattle.ether_filter.proofs.LeastBytes.{AllUndecided, decides_by, never_decided}
use Rattle.ether_filter.proofs.LeastByType.{KeepsUnit, type_least}
use Rattle.ether_filter.proofs.LeastTags.{last_is, widen}
use Rattle.ether_filter.proofs.LeastTypes.{SomeDecides}
use Rattle.ether_filter.proofs.LeastVlan.{no_link}
use Rattle.ether_filter.proofs.MorePackets.{of_no_lengths}
use Rattle.ether_filter.proofs.PossibleLemmas.{tag_of_kind}
use Rattle.ether_filter.proofs.PossibleTags.{ids_same}
use Rattle.ether_filter.proofs.QuietTypes.{IsQuiet, quiet_decided, all_decided}
use Rattle.ether_filter.proofs.Typed.{zeros_are_bytes}

-- ---- before the sizes

early : (l : List ℕ) (room : ℕ) → IsBytes l → length l ≤ room → length l ≤ 4
    → IsProspect kinds.Arp l room
    (record { can_be_accepted = nat_le 8 room; can_be_refused = nat_lt room 1028; next = Nothing; room = 0 })
early l room ok inside le =
    arp_prospect l room 8 1028 ok inside (omega (arith, get_or_past l 4 0 le, get_or_past l 5 0 (omega (arith, le))))
    (omega (arith, get_or_past l 4 255 le, get_or_past l 5 255 (omega (arith, le))))

-- the same can follow
arp_moved : (known l : List ℕ) (room : ℕ) (p : Prospect) → IsBytes known → IsBytes l → length known ≤ 4
    → length l ≤ 4 → length known ≤ room → length l ≤ room → IsProspect kinds.Arp known room p
    → IsProspect kinds.Arp l room p
arp_moved known l room p known_ok ok le few known_inside inside is =
    let a = early known room known_ok known_inside le in
    let b = early l room ok inside few in
    record {
      refused = (
        λ t. b.refused.0 (a.refused.1 (is.refused.0 t)),
        λ some. is.refused.1 (a.refused.0 (b.refused.1 some)),
      );
      accepted = (
        λ t. b.accepted.0 (a.accepted.1 (is.accepted.0 t)),
        λ some. is.accepted.1 (a.accepted.0 (b.accepted.1 some)),
      );
      byte = is.byte;
      followed = λ bytes h t on got then. absurd (arp_ends h t got.of_kind then);
      exact = λ byte high bytes h t on got then. absurd (arp_ends h t got.of_kind then);
      offered = λ got t rest lt offers rest_ok len.
          (let x = is.offered got t rest lt offers rest_ok len in absurd (arp_ends x.1 t x.3.of_kind x.4));
    }

pub arp_keeps : (known : List ℕ) (room : ℕ) (p : Prospect) → IsBytes known → length known ≤ room → 6 ≤ room
    → IsProspect kinds.Arp known room p → KeepsUnit open_kinds.Arp (λ l. Unit {0}) p known room 6
arp_keeps known room p ok inside long is more more_ok few short = record {
  cut = tt;
  prospect = elim short [
    | inl le ↦ arp_moved known (known ++ more) room p ok more_ok (omega (arith, le, length-append known more))
        (omega (arith, le)) inside (omega (arith, few, long)) is
    | inr none ↦ subst (λ (l : List ℕ). IsProspect kinds.Arp l room p)
        (sym (append-nil known) ∙ ap (λ (l : List ℕ). known ++ l) (sym none)) is
  ];
  fits = tt;
}

-- ---- all are refused, or all are accepted

arp_refused : (q : Primitive) (packet : Packet) (hs : List Header) (l : List ℕ) (room : ℕ)
    → IsOpen packet hs kinds.Arp l room
    → ((bytes : List ℕ) → Continues l room bytes → room < 8 + 2 * get_or bytes 4 0 + 2 * get_or bytes 5 0)
    → IsDecided packet q
arp_refused q packet hs l room o short =
    all_decided packet hs q true (refused_all packet hs kinds.Arp l room o
    (λ bytes on. arp_short bytes on.are_bytes (let less = short bytes on in omega (arith, less, on.len))))

arp_settled : (q : Primitive) (packet : Packet) (hs : List Header) (l : List ℕ) (room : ℕ)
    → IsBytes packet.frame.now → IsOpen packet hs kinds.Arp l room → is_of_link q ≡ false → is_of_field q ≡ false
    → is_of_lengths q ≡ false → IsBytes l → length l ≤ room
    → 8 + 2 * get_or l 4 255 + 2 * get_or l 5 255 ≤ room → IsDecided packet q
arp_settled q packet hs l room ok o link field lengths l_ok inside whole =
    let least = 8 + 2 * get_or l 4 0 + 2 * get_or l 5 0 in
    let most = 8 + 2 * get_or l 4 255 + 2 * get_or l 5 255 in
    let p : Prospect = record {
      can_be_accepted = nat_le least room;
      can_be_refused = nat_lt room most;
      next = Nothing;
      room = 0;
    } in
    let open_as : IsOpenAs packet hs open_kinds.Arp l room p = record {
      bytes = ok;
      cut = tt;
      unit = o;
      prospect = arp_prospect l room least most l_ok inside refl refl;
    } in
    let quiet : IsQuiet Nothing q = record {
      tag = λ (t, at, is). at;
      sec_tag = λ at. at;
      arp = λ at. at;
      type = λ n is at. at;
    } in
    quiet_decided packet hs open_kinds.Arp l room p q [] open_as (le-ltb room most whole) quiet
    (λ unit f. ids_same unit [] (tag_of_kind unit open_kinds.Arp f.accepts.of_kind)) link field lengths

-- with both sizes it is decided
pub arp_known : (q : Primitive) (packet : Packet) (hs : List Header) (known : List ℕ) (room : ℕ) → 6 ≤ length known
    → IsBytes packet.frame.now → IsOpen packet hs kinds.Arp known room → is_of_link q ≡ false → is_of_field q ≡ false
    → is_of_lengths q ≡ false → IsBytes known → length known ≤ room → IsDecided packet q
arp_known q packet hs known room six ok o link field lengths known_ok inside =
    let four = get_or_default known 4 0 255 (omega (arith, six)) in
    let five = get_or_default known 5 0 255 (omega (arith, six)) in
    elim (cases_lt room (8 + 2 * get_or known 4 0 + 2 * get_or known 5 0)) [
      | inl short ↦ arp_refused q packet hs known room o
          (λ bytes on. omega (
            arith,
            short,
            kept known room bytes 4 0 on (omega (arith, six)),
            kept known room bytes 5 0 on (omega (arith, six)),
          ))
      | inr whole ↦ arp_settled q packet hs known room ok o link field lengths known_ok inside
          (omega (arith, whole, four, five))
    ]

-- ---- with one size

-- zeros up to the first size, and this size
abbrev size_bytes : List ℕ → ℕ → List ℕ
size_bytes known v = replicate (4 - length known) 0 ++ v ∷ []

pub size_decides : (q : Primitive) (packet : Packet) (hs : List Header) (known : List ℕ) (room v : ℕ) → v < 256
    → length known < 5 → 8 ≤ room
    → (room < 8 + 2 * v) ⊎ (8 + 2 * v + 2 * 255 ≤ room)
    → IsBytes known → IsBytes packet.frame.now → IsOpen packet hs kinds.Arp known room → is_of_link q ≡ false
    → is_of_field q ≡ false → is_of_lengths q ≡ false → SomeDecides packet q (5 - length known)
size_decides q packet hs known room v small few long which known_ok ok o link field lengths =
    let zeros : List ℕ = replicate (4 - length known) 0 in
    let zeros_len = length-replicate {A = ℕ} (4 - length known) 0 in
    let front = known ++ zeros in
    let front_len : length front ≡ 4 = omega (arith, length-append known zeros, zeros_len, few) in
    let more = size_bytes known v in
    let more_len : length more ≡ 5 - length known =
    omega (arith, length-append zeros (v ∷ []), zeros_len, few) in
    let more_ok = IsBytes-append zeros (v ∷ []) (zeros_are_bytes (4 - length known))
    (IsBytes-cons v [] small IsBytes-nil) in
    let all = known ++ more in
    let all_len : length all ≡ 5 = omega (arith, length-append known more, more_len, few) in
    let same : front ++ v ∷ [] ≡ all = append_assoc known zeros (v ∷ []) in
    let d = decides_by q packet hs kinds.Arp known more room ok more_ok o (omega (arith, more_len, few))
    (omega (arith, all_len, long))
    (λ longer h longer_ok opened. elim which [
      | inl short ↦
          let too_short : (bytes : List ℕ) → Continues all room bytes
          → room < 8 + 2 * get_or bytes 4 0 + 2 * get_or bytes 5 0 =
          λ bytes on.
          (let at : get_or bytes 4 0 ≡ v = ap (λ (i : ℕ). get_or bytes i 0) (sym front_len)
          ∙ last_is front v room bytes (subst (λ (l : List ℕ). Continues l room bytes) (sym same) on) in
          omega (arith, short, at)) in
          arp_refused q longer hs all room opened too_short
      | inr whole ↦
          let at = ap (λ (l : List ℕ). get_or l 4 255) (sym same)
          ∙ get_or-append_right front (v ∷ []) 4 4 255 front_len (omega arith)
          ∙ ap (λ (i : ℕ). get_or (v ∷ []) i 255) (let none : 4 - 4 ≡ 0 = omega arith in none) in
          arp_settled q longer hs all room longer_ok opened link field lengths
          (IsBytes-append known more known_ok more_ok) (omega (arith, all_len, long))
          (omega (arith, whole, at, get_or_past all 5 255 (omega (arith, all_len))))
    ]) in
    (d.0, d.1, d.2 ∙ ap (λ (i : ℕ). length packet.frame.now + i) more_len, d.3)

last_size : (q : Primitive) (packet : Packet) (hs : List Header) (known : List ℕ) (room : ℕ) → length known ≡ 5
    → 8 ≤ room → IsBytes known → IsBytes packet.frame.now → IsOpen packet hs kinds.Arp known room
    → is_of_link q ≡ false → is_of_field q ≡ false → is_of_lengths q ≡ false → IsUndecided packet q
    → SomeDecides packet q 1
last_size q packet hs known room len long known_ok ok o link field lengths u =
    let four = get_or_default known 4 0 255 (omega (arith, len)) in
    elim (cases_lt room (8 + 2 * get_or known 4 0 + 2 * 255)) [
      | inl short ↦
          decides_by q packet hs kinds.Arp known (255 ∷ []) room ok (IsBytes-cons 255 [] (omega arith) IsBytes-nil) o
          (omega arith) (omega (arith, length-append known (255 ∷ []), len, long))
          (λ longer h longer_ok opened. arp_refused q longer hs (known ++ 255 ∷ []) room opened
          (λ bytes on.
          (let first = kept known room bytes 4 0 (widen known (255 ∷ []) room bytes on) (omega (arith, len)) in
          let last = ap (λ (i : ℕ). get_or bytes i 0) (sym len) ∙ last_is known 255 room bytes on in
          omega (arith, short, first, last))))
      | inr whole ↦ absurd (never_decided q packet
          (arp_settled q packet hs known room ok o link field lengths known_ok (omega (arith, len, long))
          (omega (arith, whole, four, get_or_past known 5 255 (omega (arith, len))))) u)
    ]

pub arp_least : (q : Primitive) (told : Told) (p : Prospect) (packet : Packet) (hs : List Header) (known : List ℕ)
    (room n : ℕ) → AllUndecided q told open_kinds.Arp (λ l. Unit {0}) p → IsProspect kinds.Arp known room p
    → length known < 6 → length known ≤ room → (length known + 1 < 6 → n ≡ 5) → (6 ≤ length known + 1 → n ≡ 6)
    → is_of_field q ≡ false → IsBytes known → IsBytes packet.frame.now
    → IsOpen packet hs kinds.Arp known room → AreTold packet hs q told → IsUndecided packet q
    → IsLeast packet q (length packet.frame.now + (n - length known))
arp_least q told p packet hs known room n all is few inside high low field known_ok ok o a u =
    let long : 8 ≤ room = elim (cases_lt room 8) [
      | inl lt ↦ absurd (never_decided q packet
          (arp_refused q packet hs known room o (λ bytes on. omega (arith, lt))) u)
      | inr le ↦ le
    ] in
    let link = no_link packet hs open_kinds.Arp known room p q told
    (record { bytes = ok; cut = tt; unit = o; prospect = is }) a field refl u in
    let lengths = of_no_lengths q packet u in
    type_least q told open_kinds.Arp (λ l. Unit {0}) p packet hs known room n 6 all
    (arp_keeps known room p known_ok inside (omega (arith, long)) is) (omega (arith, long)) few (omega arith) high low
    (λ early_part. elim (cases_lt room 518) [
      | inl short ↦ size_decides q packet hs known room 255 (omega arith) (omega (arith, early_part)) long
          (inl (omega (arith, short))) known_ok ok o link field lengths
      | inr whole ↦ size_decides q packet hs known room 0 (omega arith) (omega (arith, early_part)) long
          (inr (omega (arith, whole))) known_ok ok o link field lengths
    ])
    (λ late. last_size q packet hs known room (omega (arith, late)) long known_ok ok o link field lengths u) known_ok o
    a u

pub arp_never : (q : Primitive) (told : Told) (packet : Packet) (hs : List Header) (known : List ℕ) (room : ℕ)
    → 6 ≤ length known → length known ≤ room → is_of_field q ≡ false → IsBytes known → IsBytes packet.frame.now
    → IsOpen packet hs kinds.Arp known room → AreTold packet hs q told → IsUndecided packet q → ⊥
arp_never q told packet hs known room six inside field known_ok ok o a u =
    let least = 8 + 2 * get_or known 4 0 + 2 * get_or known 5 0 in
    let most = 8 + 2 * get_or known 4 255 + 2 * get_or known 5 255 in
    let p : Prospect = record {
      can_be_accepted = nat_le least room;
      can_be_refused = nat_lt room most;
      next = Nothing;
      room = 0;
    } in
    let link = no_link packet hs open_kinds.Arp known room p q told
    (record { bytes = ok; cut = tt; unit = o; prospect = arp_prospect known room least most known_ok inside refl refl })
    a field refl u in
    never_decided q packet
    (arp_known q packet hs known room six ok o link field (of_no_lengths q packet u) known_ok inside) u
