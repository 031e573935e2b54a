-- The least number of bytes of the header of a cooked capture.
use Rattle.std.proofs.Common.{◌≡◌, ℕ, ◌+◌, ◌-◌, ◌*◌, ◌<◌, ◌≤◌, List, [], ◌∷◌, ◌++◌, length, refl, sym, ap, subst, ◌∙◌, arith, inl, inr, Bool, true, false}
use Rattle.std.specs.Prelude.{get_or}
use Rattle.std.proofs.lemmas.Bool.{cases_lt, cases_eq, le-ltb}
use Rattle.std.proofs.lemmas.List.{append-nil, length-append, get_or_append_left, get_or_default}
use Rattle.etherparse.specs.Bytes.{IsBytes}
use Rattle.etherparse.specs.Kind as kinds
use Rattle.etherparse.specs.LinuxSll.{linux_sll_of, is_supported}
use Rattle.etherparse.specs.Header.{Header}
use Rattle.etherparse.specs.Header as headers
use Rattle.etherparse.specs.Refusal as rows
use Rattle.etherparse.proofs.Numbers.{IsBytes-nil, IsBytes-cons}
use Rattle.ether_peel.specs.Grammar.Expectation.{after, announced_next}
use Rattle.ether_filter.specs.declared.packet.Packet.{Packet}
use Rattle.ether_filter.specs.declared.possible.Told.{Told}
use Rattle.ether_filter.specs.declared.primitive.Primitive.{Primitive}
use Rattle.ether_filter.specs.declared.prospect.Announced.{Announced}
use Rattle.ether_filter.specs.declared.prospect.Announced.TheVariants.{Nothing}
use Rattle.ether_filter.specs.declared.prospect.OpenKind.TheVariants as open_kinds
use Rattle.ether_filter.specs.declared.prospect.Prospect.{Prospect}
use Rattle.ether_filter.specs.Deciding.{is_of_link, is_of_field}
use Rattle.ether_filter.specs.Later.{IsOpenAs}
use Rattle.ether_filter.specs.Needed.{IsUndecided, IsDecided, IsLeast}
use Rattle.ether_filter.specs.Possible.{AreTold}
use Rattle.ether_filter.specs.Prospects.{Continues, AreRefused, IsTypeAt, IsOpen, IsProspect}
use Rattle.ether_filter.proofs.CertainUnits.{certain_sll}
use Rattle.ether_filter.proofs.CutWalks.{unlimited, accepted_all, refused_all}
use Rattle.ether_filter.proofs.FieldChoices.{kept}
use Rattle.ether_filter.proofs.Follows.{unlimited_after}
use Rattle.ether_filter.proofs.LeastBytes.{AllUndecided, opens_kept, decides_by, never_decided}
use Rattle.ether_filter.proofs.LeastByType.{KeepsUnit, kept_here, type_least, next_by}
use Rattle.ether_filter.proofs.LeastTags.{last_is}
use Rattle.ether_filter.proofs.LeastTypes.{SomeDecides, HighProspects, high_decides, last_ok, last_quiet, type_kept}
use Rattle.ether_filter.proofs.LeastVlan.{no_link}
use Rattle.ether_filter.proofs.MorePackets.{of_no_lengths}
use Rattle.ether_filter.proofs.PossibleLemmas.{tag_of_kind}
use Rattle.ether_filter.proofs.PossibleTags.{ids_same}
use Rattle.ether_filter.proofs.QuietTypes.{IsQuiet, quiet_decided, all_decided}
use Rattle.ether_filter.proofs.SllProspects.{IsLow, IsSllNext, sll_read, sll_prospect, sll_next, wrong_packet, wrong_hardware, supported_in, never_supported}

-- ---- all are refused

sll_refused : (q : Primitive) (packet : Packet) (hs : List Header) (l : List ℕ) (room : ℕ)
    → IsOpen packet hs kinds.LinuxSll l room
    → ((bytes : List ℕ) → Continues l room bytes → AreRefused kinds.LinuxSll bytes) → IsDecided packet q
sll_refused q packet hs l room o each =
    all_decided packet hs q true (refused_all packet hs kinds.LinuxSll l room o each)

pub sll_room : (q : Primitive) (packet : Packet) (hs : List Header) (l : List ℕ) (room : ℕ)
    → IsOpen packet hs kinds.LinuxSll l room → IsUndecided packet q → 16 ≤ room
sll_room q packet hs l room o u = elim (cases_lt room 16) [
  | inl short ↦ absurd (never_decided q packet (sll_refused q packet hs l room o
      (λ bytes on bound. (_, rows.linux_sll (omega (arith, on.len, short))))) u)
  | inr long ↦ long
]

never_high : (high low : ℕ) → high ≡ 255 → low < 256 → is_supported (high * 256 + low) ≡ false
never_high high low is lt = by_test (is_supported (high * 256 + low)) refl
  where
    by_test : (b : Bool) → is_supported (high * 256 + low) ≡ b → is_supported (high * 256 + low) ≡ false
    by_test false e = e
    by_test true e = elim (supported_in (high * 256 + low) e) [
      | inl a ↦ absurd (omega (arith, a, is, lt))
      | inr (inl b) ↦ absurd (omega (arith, b, is, lt))
      | inr (inr (inl c)) ↦ absurd (omega (arith, c, is, lt))
      | inr (inr (inr (inl d))) ↦ absurd (omega (arith, d, is, lt))
      | inr (inr (inr (inr one))) ↦ absurd (omega (arith, one, is, lt))
    ]

-- ---- one of the first four bytes

-- where 255 is one of them
with_255 : (bytes : List ℕ) (i : ℕ) → IsBytes bytes → 16 ≤ length bytes → i < 4 → get_or bytes i 0 ≡ 255
    → AreRefused kinds.LinuxSll bytes
with_255 bytes i ok le lt is =
    let r = sll_read bytes le in
    elim (cases_lt i 2) [
      | inl early ↦ elim (cases_eq i 0) [
        | inl zeroth ↦ wrong_packet bytes ok le
            (omega (arith, r.packet_type, ap (λ (j : ℕ). get_or bytes j 0) (sym zeroth) ∙ is))
        | inr other ↦
            let one : 1 ≡ i = omega (arith, early, other) in
            wrong_packet bytes ok le (omega (arith, r.packet_type, ap (λ (j : ℕ). get_or bytes j 0) one ∙ is))
      ]
      | inr late ↦ elim (cases_eq i 2) [
        | inl two ↦ wrong_hardware bytes ok le (ap is_supported r.hardware_type
            ∙ never_high (get_or bytes 2 0) (get_or bytes 3 0) (ap (λ (j : ℕ). get_or bytes j 0) (sym two) ∙ is) (ok 3))
        | inr other ↦
            let three : 3 ≡ i = omega (arith, late, other, lt) in
            wrong_hardware bytes ok le (ap is_supported r.hardware_type
            ∙ never_supported (get_or bytes 2 0) (get_or bytes 3 0) (ap (λ (j : ℕ). get_or bytes j 0) three ∙ is))
      ]
    ]

pub sll_next_byte : (q : Primitive) (told : Told) (p : Prospect) (packet : Packet) (hs : List Header) (known : List ℕ)
    (room : ℕ) → AllUndecided q told open_kinds.LinuxSll (λ l. Unit {0}) p → IsProspect kinds.LinuxSll known room p
    → length known < 4 → IsBytes packet.frame.now → IsOpen packet hs kinds.LinuxSll known room
    → AreTold packet hs q told → IsUndecided packet q
    → IsLeast packet q (length packet.frame.now + (length known + 1 - length known))
sll_next_byte q told p packet hs known room all is few ok o a u =
    let long = sll_room q packet hs known room o u in
    next_by q told open_kinds.LinuxSll (λ l. Unit {0}) p packet hs known room all
    (record { cut = omega (arith, few); prospect = is; fits = tt }) (omega (arith, few, long))
    (decides_by q packet hs kinds.LinuxSll known (255 ∷ []) room ok (IsBytes-cons 255 [] (omega arith) IsBytes-nil) o
    (omega arith) (omega (arith, length-append known (255 ∷ []), few, long))
    (λ longer h longer_ok opened. sll_refused q longer hs (known ++ 255 ∷ []) room opened
    (λ bytes on. with_255 bytes (length known) on.are_bytes (omega (arith, on.len, long)) few
    (last_is known 255 room bytes on))))
    o a u

-- ---- all four are known

low_of : (high : ℕ) → (low : ℕ) × IsLow high low
low_of high = elim (cases_eq high 3) [
  | inl three ↦ (2, record { three = λ e. refl; other = λ never. absurd (never three) })
  | inr never ↦ (1, record { three = λ e. absurd (never e); other = λ other. refl })
]

-- the numbers in them
abbrev pub packet_in : List ℕ → ℕ
packet_in l = 256 * get_or l 0 0 + get_or l 1 0

abbrev pub hardware_in : List ℕ → ℕ
hardware_in l = 256 * get_or l 2 0 + get_or l 3 0

typed_prospect : (known more : List ℕ) (room : ℕ) (next : Announced) → 4 ≤ length known → IsBytes (known ++ more)
    → length (known ++ more) < 16 → 16 ≤ room → packet_in known ≤ 7 → is_supported (hardware_in known) ≡ true
    → IsSllNext (known ++ more) (hardware_in known) next
    → IsProspect kinds.LinuxSll (known ++ more) room
    (record { can_be_accepted = true; can_be_refused = false; next = next; room = room - 16 })
typed_prospect known more room next four ok few long below supported then =
    let l = known ++ more in
    let all_len = length-append known more in
    let low = low_of (get_or l 2 0) in
    let zeroth = get_or_append_left known more 0 0 (omega (arith, four)) in
    let first = get_or_append_left known more 0 1 (omega (arith, four)) in
    let second = get_or_append_left known more 0 2 (omega (arith, four)) in
    let third = get_or_append_left known more 0 3 (omega (arith, four)) in
    let default = get_or_default l 3 0 low.0 (omega (arith, four, all_len)) in
    subst (λ (b : Bool). IsProspect kinds.LinuxSll l room
    (record { can_be_accepted = true; can_be_refused = b; next = next; room = room - 16 }))
    (le-ltb (length l) 4 (omega (arith, four, all_len)))
    (sll_prospect l (packet_in known) (get_or l 2 0) low.0 (hardware_in known) room next
    (record {
      ok = ok;
      few = few;
      packet_is = omega (arith, zeroth, first);
      high_is = refl;
      low_is = low.1;
      hardware_is = omega (arith, second, third, default);
    }) (omega (arith, few, long)) long below supported then)

-- what holds of the header, if its ether type matters
pub record IsTypedSll (known : List ℕ) (room : ℕ) (next : Announced) : Type 0 where
  pub four : 4 ≤ length known
  pub few : length known < 16
  pub long : 16 ≤ room
  pub packet : packet_in known ≤ 7
  pub ethernet : hardware_in known ≡ 1
  pub at : IsTypeAt known 14 next

sll_keeps : (known : List ℕ) (room : ℕ) (next : Announced) → IsTypedSll known room next
    → KeepsUnit open_kinds.LinuxSll (λ l. Unit {0})
    (record { can_be_accepted = true; can_be_refused = false; next = next; room = room - 16 }) known room 16
sll_keeps known room next t more ok few short = record {
  cut = few;
  prospect = typed_prospect known more room next t.four ok few t.long t.packet (ap is_supported t.ethernet)
      (record {
        ethernet = λ e. type_kept known more 14 next t.at short;
        other = λ never. absurd (never t.ethernet);
      });
  fits = tt;
}

-- the header
pub sll_here : (packet : Packet) (hs : List Header) (known : List ℕ) (room : ℕ) (next : Announced)
    → IsTypedSll known room next → IsBytes known → IsBytes packet.frame.now
    → IsOpen packet hs kinds.LinuxSll known room
    → IsOpenAs packet hs open_kinds.LinuxSll known room
    (record { can_be_accepted = true; can_be_refused = false; next = next; room = room - 16 })
sll_here packet hs known room next t known_ok ok o =
    let p : Prospect = record { can_be_accepted = true; can_be_refused = false; next = next; room = room - 16 } in
    opens_kept open_kinds.LinuxSll (λ l. Unit {0}) p known room packet hs
    (kept_here open_kinds.LinuxSll (λ l. Unit {0}) p known room 16 (sll_keeps known room next t) known_ok t.few) ok o

pub sll_link : (q : Primitive) (told : Told) (packet : Packet) (hs : List Header) (known : List ℕ) (room : ℕ)
    (next : Announced) → IsTypedSll known room next → IsBytes known → IsBytes packet.frame.now
    → IsOpen packet hs kinds.LinuxSll known room → AreTold packet hs q told → is_of_field q ≡ false
    → IsUndecided packet q → is_of_link q ≡ false
sll_link q told packet hs known room next t known_ok ok o a field u =
    no_link packet hs open_kinds.LinuxSll known room
    (record { can_be_accepted = true; can_be_refused = false; next = next; room = room - 16 }) q told
    (sll_here packet hs known room next t known_ok ok o) a field refl u

sll_high : (known : List ℕ) (room : ℕ) (next : Announced) → IsTypedSll known room next
    → HighProspects open_kinds.LinuxSll known room 16 (room - 16)
sll_high known room next t b more ok len at =
    typed_prospect known more room _ t.four ok (omega (arith, len)) t.long t.packet (ap is_supported t.ethernet)
    (record { ethernet = λ e. at; other = λ never. absurd (never t.ethernet) })

sll_low : (q : Primitive) (packet : Packet) (hs : List Header) (known : List ℕ) (room : ℕ) (next : Announced)
    → IsTypedSll known room next → length known ≡ 15 → IsBytes known → IsBytes packet.frame.now
    → IsOpen packet hs kinds.LinuxSll known room → SomeDecides packet q 1
sll_low q packet hs known room next t len known_ok ok o =
    let all = known ++ 255 ∷ [] in
    let all_len : length all ≡ 16 = omega (arith, length-append known (255 ∷ []), len) in
    let long = t.long in
    decides_by q packet hs kinds.LinuxSll known (255 ∷ []) room ok (IsBytes-cons 255 [] (omega arith) IsBytes-nil) o
    (omega arith) (omega (arith, all_len, long))
    (λ longer h longer_ok opened.
    (let r = sll_read all (omega (arith, all_len)) in
    let zeroth = get_or_append_left known (255 ∷ []) 0 0 (omega (arith, len)) in
    let first = get_or_append_left known (255 ∷ []) 0 1 (omega (arith, len)) in
    let second = get_or_append_left known (255 ∷ []) 0 2 (omega (arith, len)) in
    let third = get_or_append_left known (255 ∷ []) 0 3 (omega (arith, len)) in
    let ethernet : (linux_sll_of all).hardware_type ≡ 1 =
    omega (arith, r.hardware_type, second, third, t.ethernet) in
    let c = certain_sll all room (last_ok known known_ok) (omega (arith, all_len)) (omega (arith, all_len, long))
    (omega (arith, r.packet_type, zeroth, first, t.packet)) (ap is_supported ethernet) in
    let unit = headers.LinuxSll (linux_sll_of all) in
    all_decided longer (hs ++ unit ∷ []) q false
    (accepted_all longer hs kinds.LinuxSll all room unit opened c
    (unlimited (after opened.expected unit) (unlimited_after opened.expected unit opened.unlimited)
    ∙ ap announced_next (sll_next all ethernet) ∙ last_quiet known 14 len))))

pub sll_least : (q : Primitive) (told : Told) (packet : Packet) (hs : List Header) (known : List ℕ) (room n : ℕ)
    (next : Announced) → IsTypedSll known room next
    → AllUndecided q told open_kinds.LinuxSll (λ l. Unit {0})
    (record { can_be_accepted = true; can_be_refused = false; next = next; room = room - 16 })
    → (length known + 1 < 16 → n ≡ 15) → (16 ≤ length known + 1 → n ≡ 16)
    → is_of_link q ≡ false → is_of_field q ≡ false → IsBytes known → IsBytes packet.frame.now
    → IsOpen packet hs kinds.LinuxSll known room → AreTold packet hs q told → IsUndecided packet q
    → IsLeast packet q (length packet.frame.now + (n - length known))
sll_least q told packet hs known room n next t all high low link field known_ok ok o a u =
    type_least q told open_kinds.LinuxSll (λ l. Unit {0})
    (record { can_be_accepted = true; can_be_refused = false; next = next; room = room - 16 }) packet hs known room n 16
    all (sll_keeps known room next t) t.long t.few (omega arith) high low
    (λ early. high_decides q packet hs open_kinds.LinuxSll known room 16 (room - 16) (λ l. [])
    (sll_high known room next t) (omega arith) early t.long known_ok ok (λ more lt. lt) o
    (λ l len l_ok unit f. ids_same unit [] (tag_of_kind unit open_kinds.LinuxSll f.accepts.of_kind)) link field
    (of_no_lengths q packet u))
    (λ late. sll_low q packet hs known room next t (let few = t.few in omega (arith, late)) known_ok ok o) known_ok o
    a u

-- ---- without an ether type

pub sll_never : (q : Primitive) (told : Told) (packet : Packet) (hs : List Header) (known : List ℕ)
    (room : ℕ) → 4 ≤ length known → length known < 16
    → (packet_in known ≤ 7 → hardware_in known ≡ 1 → ⊥)
    → is_of_field q ≡ false → IsBytes known → IsBytes packet.frame.now
    → IsOpen packet hs kinds.LinuxSll known room → AreTold packet hs q told → IsUndecided packet q → ⊥
sll_never q told packet hs known room four few other field known_ok ok o a u =
    elim (cases_lt 7 (packet_in known)) [
      | inl above ↦ never_decided q packet (sll_refused q packet hs known room o
          (λ bytes on.
          (let le : 16 ≤ length bytes = omega (arith, on.len, long) in
          wrong_packet bytes on.are_bytes le (omega (
            arith,
            (sll_read bytes le).packet_type,
            above,
            kept known room bytes 0 0 on (omega (arith, four)),
            kept known room bytes 1 0 on (omega (arith, four)),
          ))))) u
      | inr below ↦ by_hardware below (is_supported (hardware_in known)) refl
    ]
  where
    long : 16 ≤ room
    long = sll_room q packet hs known room o u

    by_hardware : packet_in known ≤ 7 → (b : Bool) → is_supported (hardware_in known) ≡ b → ⊥
    by_hardware below false never =
        never_decided q packet (sll_refused q packet hs known room o
        (λ bytes on.
        (let le : 16 ≤ length bytes = omega (arith, on.len, long) in
        let second = kept known room bytes 2 0 on (omega (arith, four)) in
        let third = kept known room bytes 3 0 on (omega (arith, four)) in
        let same : (linux_sll_of bytes).hardware_type ≡ hardware_in known =
        omega (arith, (sll_read bytes le).hardware_type, second, third) in
        wrong_hardware bytes on.are_bytes le (ap is_supported same ∙ never)))) u
    by_hardware below true supported =
        let nothing : Prospect =
        record { can_be_accepted = true; can_be_refused = false; next = Nothing; room = room - 16 } in
        let whole : IsProspect kinds.LinuxSll known room nothing =
        subst (λ (l : List ℕ). IsProspect kinds.LinuxSll l room nothing) (append-nil known)
        (typed_prospect known [] room Nothing four (subst IsBytes (sym (append-nil known)) known_ok)
        (omega (arith, few, length-append known [])) long below supported
        (record { ethernet = λ e. absurd (other below e); other = λ never. refl })) in
        let open_as : IsOpenAs packet hs open_kinds.LinuxSll known room nothing =
        record { bytes = ok; cut = few; unit = o; prospect = whole } in
        let quiet : IsQuiet Nothing q = record {
          tag = λ (t, at, is). at;
          sec_tag = λ at. at;
          arp = λ at. at;
          type = λ n is at. at;
        } in
        never_decided q packet
        (quiet_decided packet hs open_kinds.LinuxSll known room nothing q [] open_as refl quiet
        (λ unit f. ids_same unit [] (tag_of_kind unit open_kinds.LinuxSll f.accepts.of_kind))
        (no_link packet hs open_kinds.LinuxSll known room nothing q told open_as a field refl u) field
        (of_no_lengths q packet u)) u
