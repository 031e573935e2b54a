use Rattle.ether_filter.specs.ExpressionReading.{state_of}
use Rattle.ether_filter.proofs.ReadingLemmas.{other_taken}
use Rattle.ether_filter.proofs.reading.Reading.take.Goals as goal

pub returns-in_default : goal.returns-in_default
returns-in_default c =
    let s = c.args.self.now in
    rw (other_taken s.awaited (state_of s) c.args.token c.in_default.not-Operand c.in_default.not-Operator
    c.in_default.not-VlanId c.in_default.not-Relation c.in_default.not-FirstMember
    c.in_default.not-Member c.in_default.not-SetEnd)
    (rw c.next_step-in_default.ensures at c.step-in_default.ensures)
