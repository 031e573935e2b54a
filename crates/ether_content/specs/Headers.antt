-- The number of bytes that the headers of a captured packet take.
use Rattle.std.specs.Prelude.{◌≡◌, ℕ, ◌+◌, List, None}
use Rattle.ether_base.specs.Bytes.{IsBytes}
use Rattle.etherparse.specs.Header.{Header}
use Rattle.ether_base.specs.Formats.LinuxSll.{LinuxSllValue}
use Rattle.ether_base.specs.Formats.LinuxSllProtocolType.{told_ether_type}
use Rattle.ether_peel.specs.Grammar.Cuts.{reach}
use Rattle.ether_peel.specs.Grammar.Expectation.{Next, EtherType}
use Rattle.ether_peel.specs.Grammar.Stack.{Ending, Walk}
use Rattle.ether_sll2.specs.LinuxSll2.{AcceptsLinuxSll2, protocol_of_header}
use Rattle.ether_pcap.specs.Capture.{PacketValue}
use Rattle.ether_content.specs.Content.{ContentValue, Frame, LinuxSll, LinuxSll2, Unknown, IsWalked, content_of}

-- the headers of a frame take n bytes, with the payloads whose lengths they give
pub record Reaches (next : Next) (frame : List ℕ) (n : ℕ) : Type 0 where
  pub headers : List Header
  pub ending : Ending
  pub walk : Walk (record { next = next; limit = None }) frame headers ending
  pub is_reach : n ≡ reach 0 headers

-- .. and those of a packet. In cooked capture v1 that is not read as a frame these are its header and the headers of
-- its payload; in v2 its header, if that is accepted, and the headers of the payload that an ether type announces.
pub data HeadersTake : ContentValue → ℕ → Type 0 where
  frame : (next : Next) (bytes : List ℕ) (n : ℕ) → Reaches next bytes n → HeadersTake (Frame next bytes) n
  cooked : (s : LinuxSllValue) (payload : List ℕ) (n : ℕ) → Reaches (EtherType s.protocol) payload n
      → HeadersTake (LinuxSll s payload) (16 + n)
  payload : (next : Next) (bytes frame : List ℕ) (n : ℕ) → IsWalked (LinuxSll2 bytes) next frame → Reaches next frame n
      → HeadersTake (LinuxSll2 bytes) (20 + n)
  header : (bytes : List ℕ) → AcceptsLinuxSll2 bytes → told_ether_type (protocol_of_header bytes) ≡ None
      → HeadersTake (LinuxSll2 bytes) 20
  no_header : (bytes : List ℕ) → ¬ (AcceptsLinuxSll2 bytes) → HeadersTake (LinuxSll2 bytes) 0
  unknown : HeadersTake Unknown 0

-- the headers of any packet take exactly one number of bytes
pub record HeadersTakeOne : Type 0 where
  pub some : (p : PacketValue) → IsBytes p.packet → (n : ℕ) × HeadersTake (content_of p) n
  pub one : (p : PacketValue) (n m : ℕ) → HeadersTake (content_of p) n → HeadersTake (content_of p) m → n ≡ m
