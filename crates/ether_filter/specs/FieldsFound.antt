-- What the walk of a packet keeps for a test of a field.
use Rattle.std.specs.Prelude.{List, Option, Bool, false, is_some, unwrap_or, ◌||◌}
use Rattle.etherparse.specs.Header.{Header}
use Rattle.ether_filter.specs.declared.field_match.FieldFound.{FieldFound}
use Rattle.ether_filter.specs.declared.field_test.FieldTest.{FieldTest}
use Rattle.ether_filter.specs.FieldTests.{has_value, has_hit}

abbrev pub found_after : FieldFound → Option Bool → FieldFound
found_after found hit = record {
  has_value = found.has_value || is_some hit;
  has_hit = found.has_hit || unwrap_or hit false;
}

-- what these headers show
abbrev pub found_in : FieldTest → List Header → FieldFound
found_in t hs = record { has_value = has_value t hs; has_hit = has_hit t hs }
