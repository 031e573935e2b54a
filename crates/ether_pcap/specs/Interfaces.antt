-- What libpcap asks of the interfaces of a pcapng file: all have one link type and, as it adjusts them, one snap length
-- (pcap_ng_next_packet of sf-pcapng.c, pcap_adjust_snapshot of pcap-common.c). It does not read the packets of another
-- file.
use Rattle.std.specs.Prelude.{◌≡◌, ⊤, ℕ, ◌-◌, ◌^◌, ◌≤◌, List, [], ◌∷◌, ◌++◌, length, drop, map, Option, All, nat_eq, nat_lt, if◌then◌else◌}
use Rattle.ether_pcap.specs.Capture.{PacketValue, CaptureInterfaceValue, CaptureExpectation, Blocks, Begins}
use Rattle.ether_pcap.specs.CopiedUnits.{Changed, raised_interface, expected_in}

-- ---- the interfaces of a file

-- the interfaces that a unit describes, by what is expected before it and after it
abbrev pub described_between : (before after : CaptureExpectation) → List CaptureInterfaceValue
described_between (Blocks most order interfaces) (Blocks next_most next all) = drop (length interfaces) all
described_between _ _ = []

-- all interfaces that are described from a place where this is expected up to a rest, in each section
pub data HasInterfaces : CaptureExpectation → (bytes : List ℕ) → List CaptureInterfaceValue → (rest : List ℕ)
    → Type 0 where
  here : (x : CaptureExpectation) (bytes : List ℕ) → HasInterfaces x bytes [] bytes
  unit : (x y : CaptureExpectation) (bytes : List ℕ) (len : ℕ) (p : Option PacketValue)
      (interfaces : List CaptureInterfaceValue) (rest : List ℕ)
      → Begins bytes x len p y → HasInterfaces y (drop len bytes) interfaces rest
      → HasInterfaces x bytes (described_between x y ++ interfaces) rest

-- ---- what libpcap asks of them

-- a snap length where the link type has this maximum, which replaces 0 and numbers above 2^31 - 1
abbrev pub adjusted_len : (most snap_len : ℕ) → ℕ
adjusted_len most n = if nat_eq n 0 then most else (if nat_lt (2 ^ 31 - 1) n then most else n)

pub record IsLike (most : ℕ) (i j : CaptureInterfaceValue) : Type 0 where
  pub link_type : j.link_type ≡ i.link_type
  pub snap_len : adjusted_len most j.snap_len ≡ adjusted_len most i.snap_len

-- each is like the first
abbrev pub AreAlike : (most : ℕ) → List CaptureInterfaceValue → Type 0
AreAlike most [] = ⊤
AreAlike most (i ∷ others) = All (IsLike most i) others

-- ---- a changed copy

-- The interfaces of a changed copy are those of what was copied, with raised snap lengths. If libpcap reads a capture
-- with these interfaces, it reads one with those of the copy. The maxima that it has for
-- link types are all at least MAXIMUM_SNAPLEN of pcap-int.h, 262144.
pub record KeepsInterfaces (raise : ℕ) (x : CaptureExpectation) (bytes copy rest : List ℕ) : Type 0 where
  pub interfaces : List CaptureInterfaceValue
  pub has : HasInterfaces x bytes interfaces rest
  pub copied : HasInterfaces (expected_in (Changed raise) x) copy (map (raised_interface raise) interfaces) []
  pub alike : (most : ℕ) → 262144 ≤ most → AreAlike most interfaces
      → AreAlike most (map (raised_interface raise) interfaces)
