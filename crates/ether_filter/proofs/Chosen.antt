-- Completed packets whose open unit has bytes that one chooses.
use Rattle.std.proofs.Common.{◌≡◌, ℕ, ◌+◌, ◌-◌, ◌<◌, ◌≤◌, List, [], ◌∷◌, ◌++◌, length, take, append_assoc, refl, sym, ap, ◌∙◌, arith, true, false}
use Rattle.std.specs.Prelude.{get_or, slice_range}
use Rattle.std.proofs.lemmas.List.{length-take-le, get_or-take, get_or_append_left}
use Rattle.std.proofs.Math.Seq.{take-append-add}
use Rattle.etherparse.specs.Bytes.{number}
use Rattle.etherparse.specs.Ethernet2.{ethernet2_of}
use Rattle.etherparse.specs.Kind as kinds
use Rattle.etherparse.specs.Vlan.{vlan_of}
use Rattle.etherparse.specs.Header.{Header}
use Rattle.etherparse.specs.Header as headers
use Rattle.etherparse.proofs.ArrayElements.{number-two}
use Rattle.etherparse.proofs.Ethernet2Fields.{ethernet2_means}
use Rattle.etherparse.proofs.Means.{one_header}
use Rattle.etherparse.proofs.SubLists.{IsBytes-take}
use Rattle.etherparse.proofs.VlanFields.{vlan_means}
use Rattle.ether_peel.specs.Grammar.Stack.{Ending}
use Rattle.ether_filter.specs.declared.packet.Packet.{Packet}
use Rattle.ether_filter.specs.declared.prospect.Announced.TheVariants.{High}
use Rattle.ether_filter.specs.declared.prospect.OpenKind.{OpenKind}
use Rattle.ether_filter.specs.declared.prospect.Prospect.{Prospect}
use Rattle.ether_filter.specs.Primitives.{Walked, walked}
use Rattle.ether_filter.specs.Prospects.{Continues, IsTypeAt, IsFixed, kind_named}
use Rattle.ether_filter.specs.Later.{SomeCompletion, IsOpenAs}
use Rattle.ether_filter.proofs.FieldChoices.{number-six}
use Rattle.ether_filter.proofs.Follows.{IsFrom, follow_nothing}
use Rattle.ether_filter.proofs.LaterLemmas.{never_fcs}
use Rattle.ether_filter.proofs.LaterCompletions.{opened, some_of}
use Rattle.ether_filter.proofs.Prospects.{fixed}
use Rattle.ether_filter.proofs.Tails.{chosen}

-- bytes that go on from the first of some go on from what is known of these
widened : (known : List ℕ) (room n : ℕ) (bytes others : List ℕ) → length known ≤ n → Continues known room bytes
    → Continues (take n bytes) room others → Continues known room others
widened known room n bytes others le on from =
    let k = n - length known in
    let whole : length known + k ≡ n = omega (arith, le) in
    let front : take n bytes ≡ known ++ take k on.more =
    ap (take n) on.is ∙ ap (λ (i : ℕ). take i (known ++ on.more)) (sym whole) ∙ take-append-add known on.more k in
    record {
      more = take k on.more ++ from.more;
      is = from.is ∙ ap (λ (l : List ℕ). l ++ from.more) front ∙ append_assoc known (take k on.more) from.more;
      len = from.len;
      are_bytes = from.are_bytes;
    }

-- the unit is the last one, and has all but the last of these bytes
pub some_chosen : (packet : Packet) (hs : List Header) (kind : OpenKind) (known : List ℕ) (room len : ℕ) (p : Prospect)
    (Is : Walked → Type 0) → IsOpenAs packet hs kind known room p → IsFixed (kind_named kind) len → 2 ≤ len
    → length known < len → len ≤ room → (bytes : List ℕ) → Continues known room bytes
    → ((unit : Header) (e : Ending) → IsFrom (kind_named kind) (take (len - 1) bytes) room unit
    → Is (walked packet (hs ++ unit ∷ []) e)) → SomeCompletion packet Is
some_chosen packet hs kind known room len p Is o is least few long bytes on holds =
    let n = len - 1 in
    let all = take n bytes in
    let all_len : length all ≡ n = length-take-le n bytes (omega (arith, on.len, long)) in
    let ok = IsBytes-take n bytes on.are_bytes in
    let from = λ (others : List ℕ) (c : Continues all room others).
    widened known room n bytes others (omega (arith, few)) on c in
    let place : IsTypeAt all (len - 2) (High (get_or all (len - 2) 0)) = (omega (arith, all_len, least), refl) in
    let prospect = fixed (kind_named kind) all room len (High (get_or all (len - 2) 0)) least is ok
    (omega (arith, all_len, least)) long place in
    let h = follow_nothing packet hs (kind_named kind) all room
    (chosen packet hs (kind_named kind) known all room from (opened packet hs kind known room p o))
    (record {
      can_be_accepted = true;
      can_be_refused = false;
      next = High
          (get_or all (len - 2) 0);
      room = room - len;
    }) 0
    o.bytes (never_fcs kind) prospect refl in
    some_of packet hs (h.unit ∷ []) false Is h.has (λ e none. holds h.unit e h.from)

-- ---- the fields of such a unit

same_byte : (bytes others : List ℕ) (room n i : ℕ) → Continues (take n bytes) room others → i < n → n ≤ length bytes
    → get_or others i 0 ≡ get_or bytes i 0
same_byte bytes others room n i on lt le =
    ap (λ (l : List ℕ). get_or l i 0) on.is
    ∙ get_or_append_left (take n bytes) on.more 0 i (omega (arith, length-take-le n bytes le, lt))
    ∙ get_or-take n bytes i 0 lt

pub vlan_unit : (known : List ℕ) (room : ℕ) (unit : Header) (f : IsFrom kinds.Vlan known room unit) → 4 ≤ room
    → unit ≡ headers.Vlan (vlan_of f.bytes)
vlan_unit known room unit f long =
    one_header f.bytes unit (headers.Vlan (vlan_of f.bytes)) f.accepts.of_kind f.accepts.means
    (vlan_means f.bytes f.on.are_bytes (omega (arith, f.on.len, long)))

pub chosen_vid : (bytes others : List ℕ) (room : ℕ) → 4 ≤ room → length bytes ≡ room
    → Continues (take 3 bytes) room others → (vlan_of others).vid ≡ (vlan_of bytes).vid
chosen_vid bytes others room long len on =
    omega (
      arith,
      number-two 0 bytes (omega (arith, len, long)),
      number-two 0 others (omega (arith, on.len, long)),
      same_byte bytes others room 3 0 on (omega arith) (omega (arith, len, long)),
      same_byte bytes others room 3 1 on (omega arith) (omega (arith, len, long)),
    )

pub link_unit : (known : List ℕ) (room : ℕ) (unit : Header) (f : IsFrom kinds.Ethernet2 known room unit) → 14 ≤ room
    → unit ≡ headers.Ethernet2 (ethernet2_of f.bytes)
link_unit known room unit f long =
    one_header f.bytes unit (headers.Ethernet2 (ethernet2_of f.bytes)) f.accepts.of_kind f.accepts.means
    (ethernet2_means f.bytes f.on.are_bytes (omega (arith, f.on.len, long)))

same_address : (bytes others : List ℕ) (room place : ℕ) → place ≤ 6 → 14 ≤ room → length bytes ≡ room
    → Continues (take 13 bytes) room others
    → number (slice_range others place (place + 6)) ≡ number (slice_range bytes place (place + 6))
same_address bytes others room place le long len on =
    omega (
      arith,
      number-six place bytes (omega (arith, le, len, long)),
      number-six place others (omega (arith, le, on.len, long)),
      same_byte bytes others room 13 place on (omega (arith, le)) (omega (arith, len, long)),
      same_byte bytes others room 13 (place + 1) on (omega (arith, le)) (omega (arith, len, long)),
      same_byte bytes others room 13 (place + 2) on (omega (arith, le)) (omega (arith, len, long)),
      same_byte bytes others room 13 (place + 3) on (omega (arith, le)) (omega (arith, len, long)),
      same_byte bytes others room 13 (place + 4) on (omega (arith, le)) (omega (arith, len, long)),
      same_byte bytes others room 13 (place + 5) on (omega (arith, le)) (omega (arith, len, long)),
    )

-- its two addresses
pub chosen_addresses : (bytes others : List ℕ) (room : ℕ) → 14 ≤ room → length bytes ≡ room
    → Continues (take 13 bytes) room others
    → ((ethernet2_of others).destination ≡ (ethernet2_of bytes).destination)
    × ((ethernet2_of others).source ≡ (ethernet2_of bytes).source)
chosen_addresses bytes others room long len on = (
  same_address bytes others room 0 (omega arith) long len on,
  same_address bytes others room 6 (omega arith) long len on,
)
