use Rattle.std.specs.Io.KnownBytes.{Keeps}
use Rattle.ether_text.proofs.source.AnySource.read_some.Given as goal

-- interrupted reads take nothing
abbrev pub invariant-loop : goal.invariant-loop
invariant-loop g l = Keeps (g.R.Read.remaining l.fn.self) (g.R.Read.remaining l.self)
