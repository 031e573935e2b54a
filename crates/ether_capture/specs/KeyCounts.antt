-- How many packets have a key, and how many bytes these had.
use Rattle.std.specs.Prelude.{◌≡◌, ℕ, ◌+◌, List, [], ◌∷◌, filter, Option, Some, None, if◌then◌else◌}
use Rattle.std.specs.Str.{bytes_eq}
use Rattle.std.specs.List.{sum_by}
use Rattle.ether_stream.specs.Packets.{counted}
use Rattle.ether_capture.specs.declared.count.Count.{Count}

-- ---- what is counted

-- packets that have a key
pub record Hit : Type 0 where
  pub key : List ℕ
  pub count : Count

-- one packet, which had `bytes` bytes
abbrev pub one_packet : (bytes : ℕ) → Count
one_packet bytes = record { packets = 1; bytes = bytes }

-- a count with more packets
abbrev pub plus : Option Count → Count → Count
plus None more = more
plus (Some c) more = record { packets = counted (c.packets + more.packets); bytes = counted (c.bytes + more.bytes) }

abbrev pub AddsHit : Hit → (old new : List ℕ → Option Count) → Type 0
AddsHit h old new = (q : List ℕ) → new q ≡ (if bytes_eq h.key q then Some (plus (old q) h.count) else old q)

-- how many these are, if there are any
abbrev pub sum_of : List Hit → Option Count
sum_of [] = None
sum_of (h ∷ hs) =
    Some
    (record {
      packets = counted (sum_by (λ k. k.count.packets) (h ∷ hs));
      bytes = counted (sum_by (λ k. k.count.bytes) (h ∷ hs));
    })

-- .. with a key
abbrev pub count_of : List Hit → (key : List ℕ) → Option Count
count_of hits key = sum_of (filter (λ h. bytes_eq h.key key) hits)

-- a table has the counts of these packets
abbrev pub CountHits : List Hit → (table : List ℕ → Option Count) → Type 0
CountHits hits table = (key : List ℕ) → table key ≡ count_of hits key
