use Rattle.std.proofs.Common.{◌≡◌, ℕ, ◌++◌, List, is_ok, true}
use Rattle.std.specs.Prelude.{string_bytes}
use Rattle.etherparse.specs.Header.{Header}
use Rattle.ether_peel.specs.Grammar.Stack.{Ending, Walk}
use Rattle.ether_peel.specs.Walker.Start.{start_of}
use Rattle.ether_peel.specs.declared.start.Start.TheVariants as starts
use Rattle.ether_switch.specs.Arrivals.{front_of}
use Rattle.example_switch.specs.Lines.{HasLines}
use Rattle.example_switch.proofs.lines.received_lines.Given as goal

-- the text so far is that of the ports before, whatever the others have
abbrev pub invariant-loop-number : goal.invariant-loop-number
invariant-loop-number l =
    (hs : List Header) (e : Ending) → Walk (start_of starts.Ethernet2) l.fn.frame hs e
    → is_ok (front_of l.fn.received.kind hs) ≡ true → (later : List ℕ)
    → HasLines l.fn.received l.fn.frame hs e l.number later
    → HasLines l.fn.received l.fn.frame hs e 0 (string_bytes l.text ++ later)
