-- A packet as it is built: headers, each of which announces the next one, and a payload.
use Rattle.std.specs.Prelude.{◌≡◌, ℕ, List, [], ◌∷◌, ◌++◌, length, Bool, true, false, if◌then◌else◌}
use Rattle.etherparse.specs.Vlan.{is_vlan_ether_type}
use Rattle.etherparse.specs.Macsec.{PayloadType, SecTagValue, short_len_for}
use Rattle.etherparse.specs.Macsec as payloads
use Rattle.etherparse.specs.Header.{Header, FitsHeader}
use Rattle.etherparse.specs.Header as headers
use Rattle.ether_peel.specs.Grammar.Window.{Window, within, payload}
use Rattle.ether_peel.specs.Grammar.Expectation.{Expectation, after}
use Rattle.ether_peel.specs.Grammar.Places.{place}
use Rattle.ether_peel.specs.Grammar.Stack.{Ending, Stack, whole, Walk}

-- ---- what a header announces

-- The ether type that announces a VLAN tag before these headers: of a service tag if another VLAN tag follows it, else
-- of a customer tag (IEEE 802.1Q, table 9-1).
abbrev pub vlan_type : List Header → ℕ
vlan_type (headers.Vlan inner ∷ hs) = 0x88A8
vlan_type hs = 0x8100

abbrev pub payload_ether_type : PayloadType → ℕ
payload_ether_type (payloads.Unmodified t) = t
payload_ether_type p = 0

-- the ether type in a header, 0 if it has none
abbrev pub own_type : Header → ℕ
own_type (headers.Ethernet2 e) = e.ether_type
own_type (headers.LinuxSll s) = s.protocol
own_type (headers.Vlan v) = v.ether_type
own_type (headers.Macsec m) = payload_ether_type m.payload_type
own_type h = 0

-- The ether type that announces these headers, or a payload of type t if there is no header. The header before them
-- has the ether type `own`, and keeps it if it announces a VLAN tag and one follows.
abbrev pub type_of : (own : ℕ) → List Header → (t : ℕ) → ℕ
type_of own [] t = t
type_of own (headers.Vlan v ∷ hs) t = if is_vlan_ether_type own then own else vlan_type hs
type_of own (headers.Macsec m ∷ hs) t = 0x88E5
type_of own (headers.Arp a ∷ hs) t = 0x0806
type_of own (h ∷ hs) t = 0

abbrev pub retyped : PayloadType → ℕ → PayloadType
retyped (payloads.Unmodified old) t = payloads.Unmodified t
retyped p t = p

-- a header before n bytes of the ether type t: a SecTag names their number if it fits
abbrev pub before : Header → (t n : ℕ) → Header
before (headers.Ethernet2 e) t n = headers.Ethernet2 (record e { ether_type = t })
before (headers.LinuxSll s) t n = headers.LinuxSll (record s { protocol = t })
before (headers.Vlan v) t n = headers.Vlan (record v { ether_type = t })
before (headers.Macsec m) t n = let p =
    retyped m.payload_type t in headers.Macsec (record m { payload_type = p; short_len = short_len_for p n })
before h t n = h

-- a SecTag before n bytes, with its payload type unchanged
abbrev pub named_before : SecTagValue → (n : ℕ) → Header
named_before m n = headers.Macsec (record m { short_len = short_len_for m.payload_type n })

-- headers before a payload of n bytes of type t
abbrev pub built : List Header → (t n : ℕ) → List Header
built [] t n = []
built (h ∷ hs) t n = before h (type_of (own_type h) hs t) (place n hs) ∷ built hs t n

abbrev pub is_unmodified : PayloadType → Bool
is_unmodified (payloads.Unmodified t) = true
is_unmodified p = false

-- a header whose payload can be read
abbrev pub is_readable : Header → Bool
is_readable (headers.Macsec m) = is_unmodified m.payload_type
is_readable (headers.Arp a) = false
is_readable h = true

-- only the last header may have a payload that can't be read
abbrev pub IsChain : List Header → Type 0
IsChain [] = Unit {0}
IsChain (h ∷ []) = Unit {0}
IsChain (h ∷ g ∷ hs) = (is_readable h ≡ true) × IsChain (g ∷ hs)

-- all numbers of all headers are in their ranges
abbrev pub AllFit : List Header → Type 0
AllFit [] = Unit {0}
AllFit (h ∷ hs) = FitsHeader h × AllFit hs

-- ---- the walk of what is written

abbrev pub expected_after : Expectation → List Header → Expectation
expected_after x [] = x
expected_after x (h ∷ hs) = expected_after (after x h) hs

abbrev pub window_after : Window → List Header → Window
window_after w [] = w
window_after w (h ∷ hs) = window_after (payload w h) hs

-- A list begins with these headers. The window after them is this payload, and what is read in it follows them.
pub record BeginsWith (start : Expectation) (list : List ℕ) (hs : List Header) (rest : List ℕ) : Type 0 where
  pub payload : within list (window_after (whole start list) hs) ≡ rest
  pub ends : (window_after (whole start list) hs).finish ≡ length list
  pub walk : (ks : List Header) (e : Ending) → Stack list (expected_after start hs) (window_after (whole start list) hs)
      ks e → Walk start list (hs ++ ks) e
