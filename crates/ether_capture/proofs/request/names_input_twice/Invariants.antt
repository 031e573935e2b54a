use Rattle.std.proofs.Common.{◌≡◌, map, length}
use Rattle.ether_capture.specs.Options.{names_input_twice}
use Rattle.ether_capture.proofs.request.names_input_twice.Given as goal

abbrev pub invariant-loop-rest : goal.invariant-loop-rest
invariant-loop-rest l = names_input_twice (map (λ s. s.now) l.fn.names) ≡ names_input_twice (map (λ s. s.now) l.rest)

abbrev pub decreases-loop-rest : goal.decreases-loop-rest
decreases-loop-rest l = length l.rest
