-- The laws of the wire formats.
use Rattle.std.specs.Prelude.{◌≡◌, ◌⊎◌, ℕ, ◌<◌, ◌≤◌, ◌^◌, List, ◌++◌, length}
use Rattle.ether_base.specs.declared.err.layer.Layer.{Layer}
use Rattle.ether_base.specs.declared.len_source.LenSource.{LenSource}
use Rattle.ether_base.specs.Bytes.{IsBytes, number, spelled}
use Rattle.ether_base.specs.Formats.Ethernet2.{ethernet2_of}
use Rattle.ether_base.specs.Formats.Vlan.{vlan_of}
use Rattle.ether_base.specs.Formats.LinuxSll.{linux_sll_of}
use Rattle.ether_base.specs.Formats.Macsec.{sec_tag_front_in, sec_tag_len, sec_tag_of}
use Rattle.ether_base.specs.Formats.Kind.{Kind}
use Rattle.ether_base.specs.Formats.Header.{Header, kind_of, header_len, header_bytes, Means, FitsHeader}
use Rattle.ether_base.specs.Formats.Header as headers
use Rattle.ether_base.specs.Formats.Refusal.{Refusal, Length, Refuses, Accepts}

-- k bytes have one number, and each number below 256 ^ k is that of the k bytes that spell it
pub record NumbersAreBytes : Type 0 where
  pub read : (bytes : List ℕ) → IsBytes bytes → spelled (length bytes) (number bytes) ≡ bytes
  pub written : (k n : ℕ) → n < 256 ^ k → number (spelled k n) ≡ n
  pub below : (bytes : List ℕ) → IsBytes bytes → number bytes < 256 ^ length bytes
  pub len : (k n : ℕ) → length (spelled k n) ≡ k
  pub bytes : (k n : ℕ) → IsBytes (spelled k n)

-- at most one row of a kind holds, and it is decided whether one does
pub record RowsAreApart : Type 0 where
  pub one : (bound : LenSource) (bytes : List ℕ) (kind : Kind) (r s : Refusal) → Refuses bound bytes kind r
      → Refuses bound bytes kind s → r ≡ s
  pub decided : (bound : LenSource) (bytes : List ℕ) (kind : Kind) → IsBytes bytes
      → ((r : Refusal) × Refuses bound bytes kind r) ⊎ Accepts bound bytes kind

-- a row that refuses a length says how many bytes there are, and that more are required
abbrev pub LengthRowsAreShort : Type 0
LengthRowsAreShort =
    (bound source : LenSource) (bytes : List ℕ) (kind : Kind) (required n : ℕ) (layer : Layer)
    → Refuses bound bytes kind (Length required n source layer)
    → (n ≡ length bytes) × (n < required)

-- Accepted bytes mean a header, and a list means at most one header of a kind. The other clauses name it, for a list
-- that is long enough (14, 4 or 16 bytes, or as many as the front of a SecTag says): its fields are read at their
-- places.
pub record HeadersAreMeant : Type 0 where
  pub some : (bound : LenSource) (bytes : List ℕ) (kind : Kind) → IsBytes bytes → Accepts bound bytes kind
      → (h : Header) × (kind_of h ≡ kind) × Means bytes h
  pub one : (bytes : List ℕ) (h k : Header) → kind_of h ≡ kind_of k → Means bytes h → Means bytes k → h ≡ k
  pub ethernet2 : (bytes : List ℕ) → IsBytes bytes → 14 ≤ length bytes
      → Means bytes (headers.Ethernet2 (ethernet2_of bytes))
  pub vlan : (bytes : List ℕ) → IsBytes bytes → 4 ≤ length bytes → Means bytes (headers.Vlan (vlan_of bytes))
  pub linux_sll : (bytes : List ℕ) → IsBytes bytes → 16 ≤ length bytes
      → Means bytes (headers.LinuxSll (linux_sll_of bytes))
  pub macsec : (bytes : List ℕ) → IsBytes bytes → 6 ≤ length bytes → sec_tag_len (sec_tag_front_in bytes) ≤ length bytes
      → Means bytes (headers.Macsec (sec_tag_of bytes))

-- a header's bytes have its length, and they mean it, whatever follows them
pub record BytesMeanTheirHeader : Type 0 where
  pub len : (h : Header) → FitsHeader h → length (header_bytes h) ≡ header_len h
  pub means : (h : Header) (more : List ℕ) → FitsHeader h → Means (header_bytes h ++ more) h
