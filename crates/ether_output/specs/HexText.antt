-- Bytes as hexadecimal text.
use Rattle.std.specs.Prelude.{ℕ, List, false}
use Rattle.std.specs.List.{flat_map}
use Rattle.ether_base.specs.Texts.NumberText.{hex_byte}

-- two lower-case digits for each byte
unfoldable pub hex_text : List ℕ → List ℕ
hex_text bytes = flat_map (hex_byte false) bytes
