-- What a limit on extensions changes.
use Rattle.std.specs.Prelude.{◌≡◌, ℕ, List, ◌++◌}
use Rattle.etherparse.specs.Header.{Header}
use Rattle.ether_peel.specs.Grammar.Stack.{Ending, Walk}
use Rattle.ether_peel.specs.Walker.Start.{start_of, limited_start}
use Rattle.ether_peel.specs.declared.start.Start.{Start as PeelStart}

-- the headers of the walk with a limit are a front of those of the walk without one
abbrev pub IsFrontOfUnlimited : PeelStart → List ℕ → ℕ → Type 0
IsFrontOfUnlimited start list limit =
    (hs ks : List Header) (e f : Ending) → Walk (limited_start start limit) list hs e → Walk (start_of start) list ks f
    → (rest : List Header) × (ks ≡ hs ++ rest)
