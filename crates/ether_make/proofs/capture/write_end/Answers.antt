use Rattle.ether_make.proofs.CaptureLemmas.{first-ends, later-ends}
use Rattle.ether_make.proofs.capture.write_end.Goals as goal

pub returns-in_ok-flush-in-None : goal.returns-in_ok-flush-in-None
returns-in_ok-flush-in-None g c =
    first-ends _ _ _ _ c.in-None.is c.in_ok-write_header-in-None.ensures c.flush.ensures.bytes

pub returns-in_ok-flush-in-Some : goal.returns-in_ok-flush-in-Some
returns-in_ok-flush-in-Some g c = later-ends _ _ _ _ c.in-Some.is c.flush-in-Some.ensures.bytes
