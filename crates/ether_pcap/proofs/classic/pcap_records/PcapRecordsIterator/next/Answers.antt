use Rattle.std.proofs.Common.{refl}
use Rattle.ether_pcap.specs.RecordReading.{RecordState}
use Rattle.ether_pcap.proofs.Records.{gives_record, gives_fault, rest_after, some_of}
use Rattle.ether_pcap.proofs.classic.pcap_records.PcapRecordsIterator.next.Goals as goal

pub returns-in-Ok-clause-steps : goal.returns-in-Ok-clause-steps
returns-in-Ok-clause-steps c =
    let a = c.self.inside in
    let s : RecordState = record { header = a.header; rest = a.rest.now; offset = a.offset; over = a.is_over } in
    let g = gives_record s c.in-Ok.record c.if-self.false c.in-Ok.ensures.record in
    rw (← c.self.view_is, rest_after a.rest.now c.record_len-len.result, c.record_len-len.ensures) g

pub returns-in-Err-clause-steps : goal.returns-in-Err-clause-steps
returns-in-Err-clause-steps c =
    let a = c.self.inside in
    let s : RecordState = record { header = a.header; rest = a.rest.now; offset = a.offset; over = a.is_over } in
    let some = some_of a.rest.now c.is_empty.result c.is_empty.ensures c.if-is_empty.false in
    let g =
    gives_fault s (record { offset = a.offset; error = c.in-Err.error }) c.if-self.false some refl
    c.in-Err.ensures.refused in
    rw (← c.self.view_is) g
