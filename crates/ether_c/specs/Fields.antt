-- The fields of the headers of a walk as structs of C.
use Rattle.std.specs.Prelude.{◌≡◌, ℕ, ◌+◌, ◌%◌, ◌^◌, nat_lt, if◌then◌else◌, List, [], ◌∷◌, ◌++◌, length, take, drop, map}
use Rattle.etherparse.specs.Header.{Header}
use Rattle.ether_peel.specs.Grammar.Expectation.{Expectation}
use Rattle.ether_peel.specs.Grammar.Stack.{Ending, whole, Walk}
use Rattle.ether_peel.specs.Grammar.Window.{Window, payload}
use Rattle.ether_c.specs.declared.ether_field.EtherField.{EtherField}
use Rattle.ether_fields.specs.declared.field_place.FieldPlace.{FieldPlace}
use Rattle.ether_fields.specs.Places.{bits_number}
use Rattle.ether_c.specs.FieldTables.{unit_fields}
use Rattle.ether_c.specs.Numbers.{done}

-- the number in up to 64 bits; 0 for more bits
abbrev pub field_value : List ℕ → (first len : ℕ) → ℕ
field_value list first len = if nat_lt 64 len then 0 else bits_number list first len

-- A field of a list, in the unit with this index. Offsets and indexes that do not fit their fields wrap around: such a
-- list has 2 ^ 61 bytes, or 2 ^ 32 units.
abbrev pub c_field : List ℕ → (unit : ℕ) → FieldPlace → EtherField
c_field list unit f = record {
  bit_offset = f.first % 2 ^ 64;
  bit_len = f.len;
  value = field_value list f.first f.len;
  unit = unit % 2 ^ 32;
  name = f.number;
}

-- the fields of the headers of a stack, each in the payload of the header before it; the first header is the unit with
-- this index
abbrev pub c_fields : List ℕ → (unit : ℕ) → Window → List Header → List EtherField
c_fields list unit w [] = []
c_fields list unit w (h ∷ hs) = map (c_field list unit) (unit_fields w h)
    ++ c_fields list (unit + 1) (payload w h) hs

-- as many of these elements as there is room for are at the front of the array, and then what it held before
abbrev pub Fronts : (given old new : List EtherField) → (count : ℕ) → Type 0
Fronts given old new count = (new ≡ take (length old) given ++ drop count old) × (count ≡ length given)

-- The list has exactly one walk, whose fields are counted. The array holds them from its front on, as many as it has
-- room for.
pub record HasFields (start : Expectation) (list : List ℕ) (old new : List EtherField) (count : ℕ) : Type 0 where
  pub headers : List Header
  pub ending : Ending
  pub walk : Walk start list headers ending
  pub one : (hs : List Header) (e : Ending) → Walk start list hs e → (hs ≡ headers) × (e ≡ ending)
  pub fields : Fronts (c_fields list 0 (whole start list) headers) old new count

pub record GivesFields (start : Expectation) (list : List ℕ) (old new : List EtherField) (status count : ℕ) : Type 0
  where
    pub fields : HasFields start list old new count
    pub status_is : status ≡ done
