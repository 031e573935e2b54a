use Rattle.std.proofs.Common.{arith}
use Rattle.ether_peel.specs.Walker.Start.{next_of}
use Rattle.ether_content.specs.Headers as takes
use Rattle.ether_content.proofs.HeadersLemmas.{walked_len}
use Rattle.ether_content.proofs.header_lengths.linux_sll2_len.Goals as goal

pub returns-in-Some : goal.returns-in-Some
returns-in-Some c =
    takes.payload (next_of c.in-Some.start) c.args.bytes.now c.in-Some.payload.now c.frame_len.result
    c.in-Some.ensures.some c.frame_len.ensures.reaches

pub returns-in-None : goal.returns-in-None
returns-in-None c =
    takes.header c.args.bytes.now c.in-Ok.ensures.accepted
    (c.payload_of.ensures.none c.in-None.is c.in-Ok.ensures.accepted)

pub returns-in-Err : goal.returns-in-Err
returns-in-Err c = takes.no_header c.args.bytes.now (λ accepted. accepted _ c.in-Err.ensures.refused)

pub overflow_add-result : goal.overflow_add-result
overflow_add-result c =
    let payload = walked_len c.args.bytes.now c.in-Some.payload.now (next_of c.in-Some.start) c.in-Some.ensures.some in
    let n = c.frame_len.ensures.within in
    omega (arith, payload, n)
