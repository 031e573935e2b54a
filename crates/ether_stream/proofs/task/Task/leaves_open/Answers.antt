use Rattle.ether_stream.proofs.task.Task.leaves_open.Goals as goal

pub returns-in-Some : goal.returns-in-Some
returns-in-Some c = rw c.in-Some.is c.leaves_open.ensures
