-- The bytes up to an ether type with which a primitive is decided.
use Rattle.std.proofs.Common.{◌≡◌, ℕ, ◌+◌, ◌-◌, ◌*◌, ◌%◌, ◌<◌, ◌≤◌, List, [], ◌∷◌, ◌++◌, length, append_assoc, refl, sym, ap, subst, ◌∙◌, arith, inl, inr, ◌⊎◌, true, false}
use Rattle.std.specs.Prelude.{None, get_or, slice_range, replicate}
use Rattle.std.proofs.lemmas.List.{append-nil, length-append, length-replicate, get_or-append_right}
use Rattle.etherparse.specs.Bytes.{IsBytes, number}
use Rattle.etherparse.specs.Ethernet2.{ethernet2_of}
use Rattle.etherparse.specs.Vlan.{vlan_of}
use Rattle.etherparse.specs.Kind.{Kind}
use Rattle.etherparse.specs.Kind as kinds
use Rattle.etherparse.specs.Header.{Header}
use Rattle.etherparse.specs.Header as headers
use Rattle.etherparse.proofs.ArrayElements.{number-two}
use Rattle.etherparse.proofs.Numbers.{IsBytes-nil, IsBytes-cons, IsBytes-append}
use Rattle.ether_peel.specs.Grammar.Expectation.{announced_by, after}
use Rattle.ether_filter.specs.declared.packet.Packet.{Packet}
use Rattle.ether_filter.specs.declared.primitive.Primitive.{Primitive}
use Rattle.ether_filter.specs.declared.prospect.Announced.{Announced}
use Rattle.ether_filter.specs.declared.prospect.Announced.TheVariants.{Nothing, Any, High}
use Rattle.ether_filter.specs.declared.prospect.OpenKind.{OpenKind}
use Rattle.ether_filter.specs.declared.prospect.OpenKind.TheVariants as open_kinds
use Rattle.ether_filter.specs.declared.prospect.Prospect.{Prospect}
use Rattle.ether_filter.specs.Deciding.{is_of_lengths, is_of_link, is_of_field}
use Rattle.ether_filter.specs.Later.{IsOpenAs}
use Rattle.ether_filter.specs.Needed.{HasMore, IsDecided, IsUndecided}
use Rattle.ether_filter.specs.Primitives.{vlan_ids}
use Rattle.ether_filter.specs.Prospects.{IsTypeAt, IsFixed, IsProspect, IsOpen, IsCut, kind_named}
use Rattle.ether_filter.proofs.CertainUnits.{certain_ethernet2, certain_vlan}
use Rattle.ether_filter.proofs.Chosen.{vlan_unit}
use Rattle.ether_filter.proofs.CutWalks.{unlimited, accepted_all, refused_all}
use Rattle.ether_filter.proofs.FieldChoices.{vid_is, kept}
use Rattle.ether_filter.proofs.Follows.{IsFrom, unlimited_after}
use Rattle.ether_filter.proofs.LeastBytes.{decides_by}
use Rattle.ether_filter.proofs.PossibleLemmas.{tag_of_kind}
use Rattle.ether_filter.proofs.PossibleTags.{ids_same}
use Rattle.ether_filter.proofs.Prospects.{fixed}
use Rattle.ether_filter.proofs.QuietTypes.{quiet_byte, quiet_below, quiet_by_byte, quiet_decided, quiet_type, all_decided}
use Rattle.ether_filter.proofs.Typed.{zeros_are_bytes}

-- some packet with as many bytes more is decided
abbrev pub SomeDecides : Packet → Primitive → ℕ → Type 0
SomeDecides packet q n =
    (longer : Packet) × HasMore packet longer × (length longer.frame.now ≡ length packet.frame.now + n)
    × IsDecided longer q

-- ---- what is known of the type

-- it stays so until its place, or while no byte is added
pub type_kept : (known more : List ℕ) (place : ℕ) (next : Announced) → IsTypeAt known place next
    → (length (known ++ more) ≤ place) ⊎ (more ≡ []) → IsTypeAt (known ++ more) place next
type_kept known more place next is (inr none) =
    subst (λ (l : List ℕ). IsTypeAt l place next)
    (sym (append-nil known) ∙ ap (λ (l : List ℕ). known ++ l) (sym none)) is
type_kept known more place Nothing is (inl le) = is
type_kept known more place Any is (inl le) = le
type_kept known more place (High b) is (inl le) = absurd (omega (arith, is.0, le, length-append known more))

pub prospect_kept : (kind : Kind) (known more : List ℕ) (room len : ℕ) (next : Announced) → 2 ≤ len → IsFixed kind len
    → IsBytes (known ++ more) → length (known ++ more) < len → len ≤ room → IsTypeAt known (len - 2) next
    → (length (known ++ more) ≤ len - 2) ⊎ (more ≡ [])
    → IsProspect kind (known ++ more) room
    (record { can_be_accepted = true; can_be_refused = false; next = next; room = room - len })
prospect_kept kind known more room len next least is ok few long at short =
    fixed kind (known ++ more) room len next least is ok few long (type_kept known more (len - 2) next at short)

-- ---- with its first byte

-- zeros up to the type, and a byte of it
abbrev high_bytes : List ℕ → (len b : ℕ) → List ℕ
high_bytes known len b = replicate (len - 2 - length known) 0 ++ b ∷ []

high_len : (known : List ℕ) (len b : ℕ) → length known + 1 < len
    → length (high_bytes known len b) ≡ len - 1 - length known
high_len known len b few =
    omega (
      arith,
      length-append (replicate (len - 2 - length known) 0) (b ∷ []),
      length-replicate {A = ℕ} (len - 2 - length known) 0,
      few,
    )

high_at : (known : List ℕ) (len b : ℕ) → length known + 1 < len
    → get_or (known ++ high_bytes known len b) (len - 2) 0 ≡ b
high_at known len b few =
    let zeros = replicate (len - 2 - length known) 0 in
    let front = known ++ zeros in
    let front_len : length front ≡ len - 2 =
    omega (arith, length-append known zeros, length-replicate {A = ℕ} (len - 2 - length known) 0, few) in
    ap (λ (l : List ℕ). get_or l (len - 2) 0) (sym (append_assoc known zeros (b ∷ [])))
    ∙ get_or-append_right front (b ∷ []) (len - 2) (len - 2) 0 front_len (omega arith)
    ∙ ap (λ (i : ℕ). get_or (b ∷ []) i 0) (let none : len - 2 - (len - 2) ≡ 0 = omega arith in none)

-- what can become of the unit, once the first byte of its type is known
abbrev pub HighProspects : OpenKind → (known : List ℕ) → (room len rest : ℕ) → Type 0
HighProspects kind known room len rest =
    (b : ℕ) (more : List ℕ) → IsBytes (known ++ more) → length (known ++ more) ≡ len - 1
    → IsTypeAt (known ++ more) (len - 2) (High b)
    → IsProspect (kind_named kind) (known ++ more) room
    (record { can_be_accepted = true; can_be_refused = false; next = High b; room = rest })

pub fixed_high : (kind : OpenKind) (known : List ℕ) (room len : ℕ) → IsFixed (kind_named kind) len → 2 ≤ len
    → len ≤ room → HighProspects kind known room len (room - len)
fixed_high kind known room len is least long b more ok all_len at =
    fixed (kind_named kind) (known ++ more) room len (High b) least is ok (omega (arith, all_len, least)) long at

pub high_decides : (q : Primitive) (packet : Packet) (hs : List Header) (kind : OpenKind) (known : List ℕ)
    (room len rest : ℕ) (ids : List ℕ → List ℕ) → HighProspects kind known room len rest → 2 ≤ len
    → length known + 1 < len
    → len ≤ room → IsBytes known → IsBytes packet.frame.now
    → ((more : List ℕ) → length (known ++ more) < len → IsCut kind (known ++ more))
    → IsOpen packet hs (kind_named kind) known room
    → ((l : List ℕ) → length l ≡ len - 1 → IsBytes l → (unit : Header) → IsFrom (kind_named kind) l room unit
    → vlan_ids (unit ∷ []) ≡ ids l)
    → is_of_link q ≡ false → is_of_field q ≡ false → is_of_lengths q ≡ false
    → SomeDecides packet q (len - 1 - length known)
high_decides q packet hs kind known room len rest ids prospects least few long known_ok ok cuts o own link field
    lengths =
    let b = quiet_byte q in
    let more = high_bytes known len b in
    let more_len = high_len known len b few in
    let all = known ++ more in
    let all_len : length all ≡ len - 1 = omega (arith, length-append known more, more_len, few) in
    let more_ok = IsBytes-append (replicate (len - 2 - length known) 0) (b ∷ [])
    (zeros_are_bytes (len - 2 - length known)) (IsBytes-cons b [] (quiet_below q) IsBytes-nil) in
    let all_ok = IsBytes-append known more known_ok more_ok in
    let place : IsTypeAt all (len - 2) (High b) = (omega (arith, all_len, least), high_at known len b few) in
    let p : Prospect = record { can_be_accepted = true; can_be_refused = false; next = High b; room = rest } in
    let found = decides_by q packet hs (kind_named kind) known more room ok more_ok o (omega (arith, more_len, few))
    (omega (arith, all_len, long))
    (λ longer h longer_ok open_at.
    (let open_as : IsOpenAs longer hs kind all room p = record {
      bytes = longer_ok;
      cut = cuts more (omega (arith, all_len, least));
      unit = open_at;
      prospect = prospects b more all_ok all_len place;
    } in
    quiet_decided longer hs kind all room p q (ids all) open_as refl (quiet_by_byte q) (own all all_len all_ok) link
    field lengths)) in
    (found.0, found.1, found.2 ∙ ap (λ (n : ℕ). length packet.frame.now + n) more_len, found.3)

-- no tag has an identifier
pub ids_of_link : (l : List ℕ) (room : ℕ) (unit : Header) → IsFrom kinds.Ethernet2 l room unit
    → vlan_ids (unit ∷ []) ≡ []
ids_of_link l room unit f = ids_same unit [] (tag_of_kind unit open_kinds.Ethernet2 f.accepts.of_kind)

-- that of a tag is in its first two bytes
abbrev pub id_in : List ℕ → ℕ
id_in l = get_or l 0 0 % 16 * 256 + get_or l 1 0

pub ids_of_tag : (l : List ℕ) (room : ℕ) (unit : Header) → 2 ≤ length l → 4 ≤ room → IsFrom kinds.Vlan l room unit
    → vlan_ids (unit ∷ []) ≡ id_in l ∷ []
ids_of_tag l room unit two long f =
    let first = kept l room f.bytes 0 0 f.on (omega (arith, two)) in
    let second = kept l room f.bytes 1 0 f.on (omega (arith, two)) in
    let vid = vid_is f.bytes (f.on.are_bytes 1) (omega (arith, f.on.len, long)) in
    ap (λ (h : Header). vlan_ids (h ∷ [])) (vlan_unit l room unit f long)
    ∙ ap (λ (n : ℕ). n ∷ []) (let same : (vlan_of f.bytes).vid ≡ id_in l = omega (arith, vid, first, second) in same)

-- ---- with its last byte

pub last_quiet : (known : List ℕ) (place : ℕ) → length known ≡ place + 1
    → announced_by (number (slice_range (known ++ 255 ∷ []) place (place + 2))) ≡ None
last_quiet known place len =
    let all = known ++ 255 ∷ [] in
    let last : get_or all (place + 1) 0 ≡ 255 =
    get_or-append_right known (255 ∷ []) (place + 1) (place + 1) 0 len (omega arith)
    ∙ ap (λ (i : ℕ). get_or (255 ∷ []) i 0) (let none : place + 1 - (place + 1) ≡ 0 = omega arith in none) in
    quiet_type (number (slice_range all place (place + 2)))
    (omega (arith, number-two place all (omega (arith, length-append known (255 ∷ []), len)), last))

pub last_ok : (known : List ℕ) → IsBytes known → IsBytes (known ++ 255 ∷ [])
last_ok known ok = IsBytes-append known (255 ∷ []) ok (IsBytes-cons 255 [] (omega arith) IsBytes-nil)

pub low_decides_ethernet2 : (q : Primitive) (packet : Packet) (hs : List Header) (known : List ℕ) (room : ℕ)
    → length known ≡ 13 → 14 ≤ room → IsBytes known → IsBytes packet.frame.now
    → IsOpen packet hs kinds.Ethernet2 known room → SomeDecides packet q 1
low_decides_ethernet2 q packet hs known room len long known_ok ok o =
    let all = known ++ 255 ∷ [] in
    let all_len : length all ≡ 14 = omega (arith, length-append known (255 ∷ []), len) in
    decides_by q packet hs kinds.Ethernet2 known (255 ∷ []) room ok (IsBytes-cons 255 [] (omega arith) IsBytes-nil) o
    (omega arith) (omega (arith, all_len, long))
    (λ longer h longer_ok open_at.
    (let c = certain_ethernet2 all room (last_ok known known_ok) (omega (arith, all_len))
    (omega (arith, all_len, long)) in
    let unit = headers.Ethernet2 (ethernet2_of all) in
    all_decided longer (hs ++ unit ∷ []) q false
    (accepted_all longer hs kinds.Ethernet2 all room unit open_at c
    (unlimited (after open_at.expected unit) (unlimited_after open_at.expected unit open_at.unlimited)
    ∙ last_quiet known 12 len))))

pub low_decides_vlan : (q : Primitive) (packet : Packet) (hs : List Header) (known : List ℕ) (room : ℕ)
    → length known ≡ 3 → 4 ≤ room → IsBytes known → IsBytes packet.frame.now
    → IsOpen packet hs kinds.Vlan known room → SomeDecides packet q 1
low_decides_vlan q packet hs known room len long known_ok ok o =
    let all = known ++ 255 ∷ [] in
    let all_len : length all ≡ 4 = omega (arith, length-append known (255 ∷ []), len) in
    decides_by q packet hs kinds.Vlan known (255 ∷ []) room ok (IsBytes-cons 255 [] (omega arith) IsBytes-nil) o
    (omega arith) (omega (arith, all_len, long))
    (λ longer h longer_ok open_at.
    (let c = certain_vlan all room (last_ok known known_ok) (omega (arith, all_len)) (omega (arith, all_len, long)) in
    let unit = headers.Vlan (vlan_of all) in
    all_decided longer (hs ++ unit ∷ []) q false
    (accepted_all longer hs kinds.Vlan all room unit open_at c
    (unlimited (after open_at.expected unit) (unlimited_after open_at.expected unit open_at.unlimited)
    ∙ last_quiet known 2 len))))

-- ---- without room

pub never_open : (q : Primitive) (packet : Packet) (hs : List Header) (kind : Kind) (known : List ℕ) (room len : ℕ)
    → IsFixed kind len → room < len → IsOpen packet hs kind known room → IsUndecided packet q → ⊥
never_open q packet hs kind known room len is short o u =
    elim (all_decided packet hs q true
    (refused_all packet hs kind known room o (λ bytes on. is.short bytes (omega (arith, on.len, short))))) [
      | inl every ↦ every u.1
      | inr none ↦ none u.0
    ]
