-- What comes after a header that is all there, in a packet that was cut short.
use Rattle.std.specs.Prelude.{◌≡◌, ℕ, ◌+◌, ◌-◌, ◌*◌, ◌≤◌, List, length, take, drop, slice_range, Option, Some, None, unwrap_or}
use Rattle.etherparse.specs.Bytes.{number}
use Rattle.etherparse.specs.Kind.{Kind}
use Rattle.etherparse.specs.Header.{Header, kind_of, header_len, payload_len, trailer_len, Means}
use Rattle.etherparse.specs.Macsec.{SecTagFront, sec_tag_len}
use Rattle.ether_peel.specs.Grammar.Expectation.{next_after}
use Rattle.ether_filter.specs.declared.behind.Behind.{Behind}
use Rattle.ether_filter.specs.declared.prospect.OpenKind.{OpenKind}
use Rattle.ether_filter.specs.declared.prospect.OpenKind.TheVariants as open_kinds
use Rattle.ether_filter.specs.Primitives.{ether_type_of}
use Rattle.ether_filter.specs.Prospects.{Continues, AreAccepted, AreRefused, BeginsWith, front_of}

-- all bytes that go on from the known ones have this header, and it and its payload have room
pub record IsCertain (kind : Kind) (known : List ℕ) (room : ℕ) (h : Header) : Type 0 where
  pub accepts : (bytes : List ℕ) → Continues known room bytes → AreAccepted kind bytes h
  pub of_kind : kind_of h ≡ kind
  pub means : Means known h
  pub whole : header_len h ≤ length known
  pub inside : length known ≤ room
  pub fits : header_len h + unwrap_or (payload_len h) 0 ≤ room
  pub no_trailer : trailer_len h ≡ 0

-- the length of its payload, and what is known of it
abbrev pub room_behind : Header → ℕ → ℕ
room_behind h room = unwrap_or (payload_len h) (room - header_len h)

abbrev pub known_behind : Header → List ℕ → ℕ → List ℕ
known_behind h known room = take (room_behind h room) (drop (header_len h) known)

-- ---- of a unit whose first part is all there

abbrev pub IsWhole : OpenKind → List ℕ → Type 0
IsWhole open_kinds.Ethernet2 known = 14 ≤ length known
IsWhole open_kinds.LinuxSll known = 16 ≤ length known
IsWhole open_kinds.Vlan known = 4 ≤ length known
IsWhole open_kinds.Macsec known = (first : ℕ) × (second : ℕ) × BeginsWith first second known
    × (sec_tag_len (front_of first second) ≤ length known)
IsWhole open_kinds.Arp known = ⊥

-- the ether type after a SecTag with this front, which can be read exactly if E and C are 0 (IEEE 802.1AE, 9.5)
pub record IsTypeBehind (c : SecTagFront) (known : List ℕ) (ether_type : Option ℕ) : Type 0 where
  pub unmodified_type : c.encrypted ≡ 0 → c.changed ≡ 0
      → ether_type ≡ Some (number (slice_range known (6 + 8 * c.sci_present) (6 + 8 * c.sci_present + 2)))
  pub modified_type : (c.encrypted ≡ 0 → c.changed ≡ 0 → ⊥) → ether_type ≡ None

-- it has a certain header, after which so many bytes follow and this ether type is announced, or it is always refused
abbrev pub IsBehind : (kind : Kind) (known : List ℕ) (room : ℕ) → Option Behind → Type 0
IsBehind kind known room None = (bytes : List ℕ) → Continues known room bytes → AreRefused kind bytes
IsBehind kind known room (Some b) =
    (h : Header) × IsCertain kind known room h × (header_len h ≡ b.header_len) × (room_behind h room ≡ b.room)
    × (ether_type_of (next_after h) ≡ b.ether_type)
