use Rattle.std.proofs.Common.{◌≤◌, ◌-◌, length, take}
use Rattle.ether_text.specs.Tool.Run.{HasNoLineFeed}
use Rattle.ether_text.proofs.tool.line_loop.blocks_len.Given as goal

abbrev pub invariant-loop-len : goal.invariant-loop-len
invariant-loop-len l = (l.len ≤ length l.bytes) × HasNoLineFeed (take l.len l.bytes)

abbrev pub decreases-loop-len : goal.decreases-loop-len
decreases-loop-len l = length l.bytes - l.len
