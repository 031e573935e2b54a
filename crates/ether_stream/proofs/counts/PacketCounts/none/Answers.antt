use Rattle.std.proofs.Common.{[], Option, ℕ, refl, sym, subst, arith}
use Rattle.ether_pcap.specs.Copies.{none}
use Rattle.ether_stream.specs.Packets.{IsLeftOf}
use Rattle.ether_stream.specs.Task.{task_view}
use Rattle.ether_stream.proofs.ProgressLemmas.{all_left}
use Rattle.ether_stream.proofs.counts.PacketCounts.none.Goals as goal

pub returns : goal.returns
returns c =
    let count = (task_view c.args.task.now).count in
    let number = c.packets_before.ensures in
    record {
      kept = [];
      selected = none;
      is_number = omega (arith, number);
      is_skipped = refl;
      undecided = record { undecided = []; selected = none; is_count = refl };
      is_left = subst (λ (o : Option ℕ). IsLeftOf count 0 o) (sym c.asked_for.ensures) (all_left count);
    }
