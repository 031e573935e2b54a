-- The options of a unit of a capture file, and an iterator over them.
use Rattle.std.specs.Prelude.{◌≡◌, ℕ, ◌+◌, ◌/◌, List, [], ◌∷◌, length, drop, Option, Some, None}
use Rattle.std.specs.Iterator.{Count, at_most}
use Rattle.ether_pcap.specs.Numbers.{Order, field}
use Rattle.ether_pcap.specs.Block.{BlockValue, BeginsBlock}
use Rattle.ether_pcap.specs.Section.{HasSectionType, IsSection}
use Rattle.ether_pcap.specs.Options.{OptionValue, HasOptions, padded}
use Rattle.ether_pcap.specs.Capture.{BlockKind, InterfaceDescription, EnhancedPacket, kind_of_block}
use Rattle.ether_pcap.specs.Views.{order_of}
use Rattle.ether_pcap.specs.PcapngViews.{option_view}
use Rattle.ether_pcap.specs.ReadUnits.{IsNotClassic}
use Rattle.ether_pcap.specs.declared.byte_order.ByteOrder.{ByteOrder}
use Rattle.ether_pcap.specs.declared.capture.reader_state.ReaderState.{ReaderState}
use Rattle.ether_pcap.specs.declared.capture.reader_state.ReaderState.TheVariants as states
use Rattle.ether_pcap.specs.declared.pcapng.pcapng_option.PcapngOption.{PcapngOption}

-- ---- units

-- The bytes of the options in the body of a block: they follow the 8 bytes of an interface description (4.2), or the
-- 20 bytes of a packet and its captured bytes with their padding (4.3, appendix A). A simple packet has none (4.4), and
-- those of other blocks are not read.
abbrev pub options_in : BlockKind → Order → (body : List ℕ) → List ℕ
options_in InterfaceDescription order body = drop 8 body
options_in (EnhancedPacket number_len) order body = drop (20 + padded (field order body 12 16)) body
options_in _ order body = []

-- Bytes begin with a unit of a pcapng file whose options, in this order, are these bytes. Those of a section header
-- follow 16 bytes (4.1).
pub data HasOptionBytes (bytes : List ℕ) : ReaderState → ByteOrder → List ℕ → Type 0 where
  section : (state : ReaderState) (order : ByteOrder) (b : BlockValue) → IsNotClassic state
      → IsSection bytes (order_of order) b → HasOptionBytes bytes state order (drop 16 b.body)
  block : (order : ByteOrder) (b : BlockValue) → ¬ (HasSectionType bytes) → BeginsBlock (order_of order) bytes b
      → HasOptionBytes bytes (states.Section order) order
      (options_in (kind_of_block b.block_type) (order_of order) b.body)

-- ---- an iterator

-- the byte order, and the bytes that are left to read
pub record OptionsState : Type 0 where
  pub byte_order : ByteOrder
  pub rest : List ℕ

-- what next returns if these options are still to be read: None, and nothing changes; or the first one, and then the
-- bytes after it are left
abbrev pub GivesNextOption : List OptionValue → OptionsState → Option PcapngOption → OptionsState → Type 0
GivesNextOption [] s result t = (result ≡ None) × (t ≡ s)
GivesNextOption (o ∷ options) s result t =
    (p : PcapngOption) × (result ≡ Some p) × (option_view p ≡ o)
    × (t ≡ record s { rest = drop (4 + padded (length o.value)) s.rest })

-- a call of next
abbrev pub OptionGives : OptionsState → Option PcapngOption → OptionsState → Type 0
OptionGives s result t =
    (options : List OptionValue) → HasOptions (order_of s.byte_order) s.rest options
    → GivesNextOption options s result t

-- each option has at least four bytes
abbrev pub items_left : OptionsState → Count
items_left s = at_most (length s.rest / 4)
