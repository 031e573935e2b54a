use Rattle.std.proofs.Common.{◌≡◌, ◌++◌, drop, map}
use Rattle.serde_json.specs.View.{view}
use Rattle.ether_make.specs.Headers.{headers_bytes}
use Rattle.ether_make.specs.Refusals.{result_map}
use Rattle.ether_make.proofs.header.headers_bytes.Given as goal

abbrev pub invariant-loop-at : goal.invariant-loop-at
invariant-loop-at l =
    headers_bytes 0 (map view l.objects)
    ≡ result_map (λ more. l.bytes.items ++ more) (headers_bytes l.at (map view (drop l.at l.objects)))
