use Rattle.ether_stream.proofs.CompositionLemmas.{selected_again, selected_twice}
use Rattle.ether_stream.proofs.laws.runs_compose.Goals as goal

pub returns : goal.returns
returns c = record { selected = selected_twice; again = selected_again }
