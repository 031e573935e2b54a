use Rattle.std.proofs.Common.{arith}
use Rattle.ether_capture.proofs.KeyMemberLemmas.{fields_len}
use Rattle.ether_capture.proofs.key_members.field_count.Goals as goal

pub overflow_add-count : goal.overflow_add-count
overflow_add-count c = omega (arith, fields_len c.args.text.now, c.loop-rest.invariant)
