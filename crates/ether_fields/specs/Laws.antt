-- The laws of the table of fields.
use Rattle.std.specs.Prelude.{◌≡◌, ℕ, ◌+◌, ◌*◌, ◌≤◌, List, length, slice_range, Some}
use Rattle.std.specs.List.{IsAmong}
use Rattle.etherparse.specs.Bytes.{IsBytes}
use Rattle.etherparse.specs.Header.{Header, Means, trailer_len}
use Rattle.ether_sll2.specs.LinuxSll2.{LinuxSll2Value, BeginsLinuxSll2}
use Rattle.ether_fields.specs.Rows.{Row, linux_sll2_rows}
use Rattle.ether_fields.specs.Fields.{field_numbered, section_rows}
use Rattle.ether_fields.specs.Places.{bits_number}
use Rattle.ether_fields.specs.Units.{header_rows, header_fields, trailer_fields, linux_sll2_fields}
use Rattle.ether_fields.specs.FieldValues.{placed_values, header_values, trailer_values, linux_sll2_values}
use Rattle.ether_fields.specs.declared.section.Section.{Section}

-- a row of a section has this number, which is not 0
pub record HasNumber (s : Section) (r : Row) (number : ℕ) : Type 0 where
  pub is_row : IsAmong (section_rows s) r
  pub number_is : r.number ≡ number
  pub is_given : ¬ (number ≡ 0)

-- Exactly the row that has a number is found by it, in its section. So no two rows have one number, and where none is
-- found no row has it.
pub record NumbersAreApart : Type 0 where
  pub found : (number : ℕ) (s : Section) (r : Row) → field_numbered number ≡ Some (s, r) → HasNumber s r number
  pub one : (number : ℕ) (s : Section) (r : Row) → HasNumber s r number → field_numbered number ≡ Some (s, r)

-- At the places of its fields, bytes that mean a header have its values, each under its name, and no others; so have
-- those of a frame check sequence and of cooked capture v2. Bits of a part of a list are bits of the list.
pub record FieldsAreValues : Type 0 where
  pub header : (bytes : List ℕ) (h : Header) → IsBytes bytes → (means : Means bytes h)
      → placed_values bytes (header_rows h) (header_fields h) ≡ header_values bytes h means
  pub trailer : (bytes : List ℕ) (h : Header) → IsBytes bytes → length bytes ≡ trailer_len h
      → placed_values bytes (header_rows h) (trailer_fields h) ≡ trailer_values bytes h
  pub linux_sll2 : (bytes : List ℕ) (s : LinuxSll2Value) → IsBytes bytes → (begins : BeginsLinuxSll2 bytes s)
      → placed_values bytes linux_sll2_rows linux_sll2_fields ≡ linux_sll2_values begins.spells.reserved s
  pub part : (list : List ℕ) (at count first len : ℕ) → IsBytes list → at + count ≤ length list
      → first + len ≤ 8 * count
      → bits_number (slice_range list at (at + count)) first len ≡ bits_number list (8 * at + first) len
