-- What the calls for packets on one line do.
use Rattle.std.specs.Prelude.{◌≡◌, ℕ, ◌<◌, ◌≤◌, List, length, Bool, Option, None, IfNone, IfSome}
use Rattle.ether_pcap.specs.Capture.{PacketValue}
use Rattle.ether_output.specs.OutputBuffer.{room}
use Rattle.ether_format.specs.declared.format.Format.{Format}
use Rattle.ether_format.specs.Formats.{NamesFormat}
use Rattle.ether_format.specs.Texts.{HasText}
use Rattle.ether_c.specs.declared.ether_captured.EtherCaptured.{EtherCaptured}
use Rattle.ether_c.specs.Calls.{PutsBytes}
use Rattle.ether_c.specs.Numbers.{no_text}
use Rattle.ether_c.specs.Selection.{packet_value}

-- the text names no format
abbrev pub bad_format : ℕ
bad_format = 22

-- The line is written to the target; or it is longer than a buffer, and nothing is written.
pub record PutsLine (format : Format) (limit : Option ℕ) (number : ℕ) (p : PacketValue) (old new : List ℕ)
    (status len : ℕ) : Type 0 where
  pub line : List ℕ
  pub accepted : Bool
  pub is_line : HasText format limit (record { file = None; number = number }) p line accepted
  pub put : length line ≤ room → PutsBytes line old new status len
  pub kept : room < length line → (status ≡ no_text) × (len ≡ 0) × (new ≡ old)

-- the text names a format, in which the line is written; or it names none, and nothing is written
pub record GivesLine (text : List ℕ) (limit : Option ℕ) (number : ℕ) (packet : EtherCaptured) (old new : List ℕ)
    (status len : ℕ) : Type 0 where
  pub format : Option Format
  pub known : IfSome format (λ f. NamesFormat text f
      × PutsLine f limit number (packet_value packet) old new status len)
  pub unknown : IfNone format (((f : Format) → ¬ (NamesFormat text f))
      × (status ≡ bad_format) × (len ≡ 0) × (new ≡ old))
