-- The fields of the headers of a frame, by the table of fields.
use Rattle.std.specs.Prelude.{ℕ, ◌+◌, ◌*◌, List, ◌++◌, map}
use Rattle.etherparse.specs.Header.{Header}
use Rattle.ether_peel.specs.Grammar.Window.{Window, payload}
use Rattle.ether_fields.specs.Units.{header_fields, trailer_fields}
use Rattle.ether_fields.specs.declared.field_place.FieldPlace.{FieldPlace}

-- a field of something that starts at this byte
abbrev pub moved : (start : ℕ) → FieldPlace → FieldPlace
moved start f = record f { first = 8 * start + f.first }

-- the fields of a header that starts at one byte, and of what follows its payload, which ends at another
abbrev pub placed_fields : (start finish : ℕ) → Header → List FieldPlace
placed_fields start finish h = map (moved start) (header_fields h) ++ map (moved finish) (trailer_fields h)

-- the fields of the header at the start of a window
abbrev pub unit_fields : Window → Header → List FieldPlace
unit_fields w h = placed_fields w.start (payload w h).finish h
