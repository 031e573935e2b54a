use Rattle.std.proofs.Common.{◌≡◌, ℕ, ◌+◌, ◌*◌, ◌<◌, ◌≤◌, drop, option_map}
use Rattle.ether_make.specs.Times.{fraction_in}
use Rattle.ether_make.proofs.time_text.fraction_of.Given as goal

abbrev pub invariant-loop-c : goal.invariant-loop-c
invariant-loop-c l = record {
  so_far : fraction_in 100000000 l.decimals
      ≡ option_map (λ (later : ℕ). l.nanoseconds + later) (fraction_in l.unit (drop l.c-index l.decimals));
  room : l.nanoseconds + 10 * l.unit ≤ 1000000000;
  few : l.nanoseconds < 1000000000;
}
