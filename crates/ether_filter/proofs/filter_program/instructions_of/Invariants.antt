use Rattle.std.proofs.Common.{◌≡◌, ◌<◌, ◌≤◌, ℕ, length}
use Rattle.std.specs.Prelude.{get_or}
use Rattle.ether_filter.specs.declared.node.Node.{Node}
use Rattle.ether_filter.specs.declared.instruction.Instruction.{Instruction}
use Rattle.ether_filter.specs.Jumps.{jump_at}
use Rattle.ether_filter.specs.FilterProgram.{IsInstruction}
use Rattle.ether_filter.proofs.filter_program.instructions_of.Given as goal

abbrev pub invariant-loop-at : goal.invariant-loop-at
invariant-loop-at l =
    (length l.instructions.items ≡ l.at) × (l.at ≤ length l.nodes)
    × ((i : ℕ) → i < l.at → (d : Node) (e : Instruction)
    → IsInstruction (get_or l.nodes i d) (jump_at l.jumps i) (get_or l.past_tags i 0) (get_or l.instructions.items i e))
