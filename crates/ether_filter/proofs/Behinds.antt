-- What comes after headers that are all there.
use Rattle.std.proofs.Common.{◌≡◌, ◌∷◌, ℕ, zero, suc, ◌+◌, ◌-◌, ◌*◌, ◌<◌, ◌≤◌, List, [], length, refl, sym, ap, subst, ◌∙◌, arith, Bool, true, false, cond}
use Rattle.std.specs.Prelude.{Option, Some, None, get_or, slice_range, unwrap_or, ◌==◌}
use Rattle.std.proofs.lemmas.Bool.{ne_eqb}
use Rattle.std.proofs.lemmas.List.{append-nil}
use Rattle.etherparse.specs.Types.LinuxSllProtocolType.{LinuxSllProtocolType}
use Rattle.etherparse.specs.Bytes.{IsBytes, number}
use Rattle.etherparse.specs.Ethernet2.{ethernet2_of}
use Rattle.etherparse.specs.LinuxSll.{LinuxSllValue, linux_sll_of, is_supported}
use Rattle.etherparse.specs.LinuxSllProtocolType.{link_protocol_of}
use Rattle.etherparse.specs.Macsec.{SecTagFront, sec_tag_front_in, sec_tag_len, known_payload_len, sec_tag_of, payload_type_for}
use Rattle.etherparse.specs.Vlan.{vlan_of}
use Rattle.etherparse.specs.Kind as kinds
use Rattle.etherparse.specs.Header.{header_len, payload_len}
use Rattle.etherparse.specs.Header as headers
use Rattle.etherparse.proofs.LinuxSllFields.{linux_sll_of_front}
use Rattle.etherparse.proofs.Means.{same_front}
use Rattle.etherparse.proofs.Rows.{sec_tag_front_read}
use Rattle.ether_peel.specs.Grammar.Expectation.{EtherType, Sll, after_capture, after_payload}
use Rattle.ether_filter.specs.declared.behind.Behind.{Behind}
use Rattle.ether_filter.specs.Primitives.{ether_type_of}
use Rattle.ether_filter.specs.Prospects.{Continues, IsRoomy, room_after, front_of, BeginsWith}
use Rattle.ether_filter.specs.declared.prospect.OpenKind.TheVariants as open_kinds
use Rattle.ether_filter.specs.Behind.{IsWhole, IsTypeBehind, IsBehind}
use Rattle.ether_filter.proofs.CertainUnits.{front_kept, certain_ethernet2, certain_vlan, certain_sll, certain_sec_tag}
use Rattle.ether_filter.proofs.SecTags.{have_front, unroomy_refused}
use Rattle.ether_filter.proofs.SllProspects.{wrong_packet, wrong_hardware}

-- ---- units that end in an ether type

pub ethernet2_behind : (known : List ℕ) (room : ℕ) (b : Behind) → IsBytes known → 14 ≤ length known
    → length known ≤ room → b.header_len ≡ 14 → b.room ≡ room - 14
    → b.ether_type ≡ Some (number (slice_range known 12 14)) → IsBehind kinds.Ethernet2 known room (Some b)
ethernet2_behind known room b ok le inside header rest type =
    (headers.Ethernet2 (ethernet2_of known), certain_ethernet2 known room ok le inside, sym header, sym rest, sym type)

pub vlan_behind : (known : List ℕ) (room : ℕ) (b : Behind) → IsBytes known → 4 ≤ length known → length known ≤ room
    → b.header_len ≡ 4 → b.room ≡ room - 4 → b.ether_type ≡ Some (number (slice_range known 2 4))
    → IsBehind kinds.Vlan known room (Some b)
vlan_behind known room b ok le inside header rest type =
    (headers.Vlan (vlan_of known), certain_vlan known room ok le inside, sym header, sym rest, sym type)

-- ---- the header of a cooked capture

sll_same : (known : List ℕ) (room : ℕ) (bytes : List ℕ) → Continues known room bytes → 16 ≤ length known
    → linux_sll_of bytes ≡ linux_sll_of known
sll_same known room bytes on le =
    sym (linux_sll_of_front bytes 16 (omega arith)) ∙ ap linux_sll_of (front_kept known room bytes 16 on le)
    ∙ linux_sll_of_front known 16 (omega arith)

pub sll_packet_behind : (known : List ℕ) (room : ℕ) → 16 ≤ length known → length known ≤ room
    → 7 < (linux_sll_of known).packet_type → IsBehind kinds.LinuxSll known room None
sll_packet_behind known room le inside above bytes on =
    wrong_packet bytes on.are_bytes (omega (arith, on.len, le, inside))
    (omega (arith, ap (λ (s : LinuxSllValue). s.packet_type) (sll_same known room bytes on le), above))

pub sll_hardware_behind : (known : List ℕ) (room : ℕ) → 16 ≤ length known → length known ≤ room
    → is_supported (linux_sll_of known).hardware_type ≡ false → IsBehind kinds.LinuxSll known room None
sll_hardware_behind known room le inside other bytes on =
    wrong_hardware bytes on.are_bytes (omega (arith, on.len, le, inside))
    (ap (λ (s : LinuxSllValue). is_supported s.hardware_type) (sll_same known room bytes on le) ∙ other)

pub sll_ethernet_behind : (known : List ℕ) (room : ℕ) (b : Behind) → IsBytes known → 16 ≤ length known
    → length known ≤ room → (linux_sll_of known).packet_type ≤ 7
    → is_supported (linux_sll_of known).hardware_type ≡ true → (linux_sll_of known).hardware_type ≡ 1
    → b.header_len ≡ 16 → b.room ≡ room - 16 → b.ether_type ≡ Some (number (slice_range known 14 16))
    → IsBehind kinds.LinuxSll known room (Some b)
sll_ethernet_behind known room b ok le inside packet hardware is header rest type = (
  headers.LinuxSll (linux_sll_of known),
  certain_sll known room ok le inside packet hardware,
  sym header,
  sym rest,
  ap (λ (n : ℕ). ether_type_of (after_capture n (linux_sll_of known).protocol)) is ∙ sym type,
)

no_type : (b : Bool) (n : ℕ) (protocol : LinuxSllProtocolType) → b ≡ false
    → ether_type_of (cond b (EtherType n) (Sll protocol)) ≡ None
no_type true n protocol is = absurd cc
no_type false n protocol is = refl

pub sll_other_behind : (known : List ℕ) (room : ℕ) → IsBytes known → 16 ≤ length known
    → length known ≤ room → (linux_sll_of known).packet_type ≤ 7
    → is_supported (linux_sll_of known).hardware_type ≡ true → ((linux_sll_of known).hardware_type ≡ 1 → ⊥)
    → IsBehind kinds.LinuxSll known room (Some (record { header_len = 16; room = room - 16; ether_type = None }))
sll_other_behind known room ok le inside packet hardware never =
    let s = linux_sll_of known in (
      headers.LinuxSll s,
      certain_sll known room ok le inside packet hardware,
      refl,
      refl,
      no_type (s.hardware_type == 1) s.protocol (link_protocol_of s.hardware_type s.protocol)
          (ne_eqb s.hardware_type 1 never),
    )

-- ---- a SecTag

own_front : (first second : ℕ) (known : List ℕ) → IsBytes known → BeginsWith first second known
    → sec_tag_front_in known ≡ front_of first second
own_front first second known ok begins =
    have_front first second known (length known) begins known
    (record { more = []; is = sym (append-nil known); len = refl; are_bytes = ok })

tag_type : (e c n : ℕ) (o : Option ℕ) → (e ≡ 0 → c ≡ 0 → o ≡ Some n) → ((e ≡ 0 → c ≡ 0 → ⊥) → o ≡ None)
    → ether_type_of (after_payload (payload_type_for e c n)) ≡ o
tag_type zero zero n o unmodified modified = sym (unmodified refl refl)
tag_type zero (suc c) n o unmodified modified = sym (modified (λ e f. omega (arith, f)))
tag_type (suc e) zero n o unmodified modified = sym (modified (λ g f. omega (arith, g)))
tag_type (suc e) (suc c) n o unmodified modified = sym (modified (λ g f. omega (arith, g)))

pub sec_tag_behind : (known : List ℕ) (first second room len payload : ℕ) (type : Option ℕ) → IsBytes known
    → length known ≤ room → BeginsWith first second known → sec_tag_len (front_of first second) ≤ length known
    → len ≡ sec_tag_len (front_of first second) → IsRoomy (front_of first second) room
    → payload ≡ room_after (front_of first second) room → IsTypeBehind (front_of first second) known type
    → IsBehind kinds.Macsec known room (Some (record { header_len = len; room = payload; ether_type = type }))
sec_tag_behind known first second room len payload type ok inside begins whole len_is roomy payload_is type_is =
    let c = front_of first second in
    let six : 6 ≤ length known = omega (arith, whole) in
    let front = own_front first second known ok begins in
    let read = sec_tag_front_read known ok six in
    let same = same_front known (sec_tag_front_in known) read.fits ∙ front in
    let h = headers.Macsec (sec_tag_of known) in
    let header : header_len h ≡ sec_tag_len c = ap sec_tag_len same in
    let names : payload_len h ≡ known_payload_len c = ap known_payload_len same in (
      h,
      certain_sec_tag known room ok six inside (subst (λ (d : SecTagFront). IsRoomy d room) (sym front) roomy)
          (subst (λ (d : SecTagFront). sec_tag_len d ≤ length known) (sym front) whole),
      header ∙ sym len_is,
      (λ i. unwrap_or (names i) (room - header i)) ∙ sym payload_is,
      ap (λ (d : SecTagFront). ether_type_of (after_payload (payload_type_for d.encrypted d.changed
          (number (slice_range known (6 + 8 * d.sci_present) (6 + 8 * d.sci_present + 2)))))) front
          ∙ tag_type c.encrypted c.changed
          (number (slice_range known (6 + 8 * c.sci_present) (6 + 8 * c.sci_present + 2))) type type_is.unmodified_type
          type_is.modified_type,
    )

pub sec_tag_refused : (known : List ℕ) (first second room : ℕ) → 6 ≤ room → BeginsWith first second known
    → (IsRoomy (front_of first second) room → ⊥) → IsBehind kinds.Macsec known room None
sec_tag_refused known first second room six begins never bytes on =
    unroomy_refused bytes (front_of first second) room on.are_bytes six on.len
    (have_front first second known room begins bytes on) never

-- ---- the first two bytes and the length that they name

pub whole_tag : (known : List ℕ) (len : ℕ) → IsBytes known → 2 ≤ length known
    → ((second : ℕ) → second < 256 → len ≡ sec_tag_len (front_of (get_or known 0 0) second)) → len ≤ length known
    → IsWhole open_kinds.Macsec known
whole_tag [] len ok two says le = absurd (omega (arith, two))
whole_tag (first ∷ []) len ok two says le = absurd (omega (arith, two))
whole_tag (first ∷ second ∷ rest) len ok two says le =
    (first, second, (rest, refl), omega (arith, says second (ok 1), le))

pub cut_tag : (known : List ℕ) (len first second : ℕ) → IsBytes known
    → ((other : ℕ) → other < 256 → len ≡ sec_tag_len (front_of (get_or known 0 0) other)) → length known < len
    → BeginsWith first second known → length known < sec_tag_len (front_of first second)
cut_tag known len first second ok says lt begins =
    let same : get_or known 0 0 ≡ first = ap (λ (l : List ℕ). get_or l 0 0) begins.1 in
    let next : get_or known 1 0 ≡ second = ap (λ (l : List ℕ). get_or l 1 0) begins.1 in
    let small : second < 256 = omega (arith, ok 1, next) in
    omega (arith, lt, says second small ∙ ap (λ (n : ℕ). sec_tag_len (front_of n second)) same)
