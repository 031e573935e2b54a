-- What was found in headers as its value.
use Rattle.ether_make.specs.declared.slot.Found.{Found as FoundRecord}
use Rattle.ether_make.specs.Slots.{Found}

abbrev pub found_view : FoundRecord → Found
found_view f = record { slots = f.slots.items; bits = f.bits; combinations = f.combinations }
