-- What a header that is found in a packet tells: for the contracts of private functions.
use Rattle.ether_format.specs.declared.found.Found.{Found}
use Rattle.ether_format.specs.FoundHeaders.{header_told}
use Rattle.ether_format.specs.Told.{Told}

abbrev pub found_told : Found → Told
found_told f = header_told f.place f.header
