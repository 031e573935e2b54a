use Rattle.ether_pcap.specs.Section.{HasSectionType}
use Rattle.ether_pcap.specs.Views.{file_refusal_view}
use Rattle.ether_pcap.proofs.UnitsRead.{header_read, header_refused, nothing}
use Rattle.ether_pcap.proofs.capture.reader_state.ReaderState.read.Goals as goal

pub returns-in-Ok-clause-unit : goal.returns-in-Ok-clause-unit
returns-in-Ok-clause-unit g c =
    let none = nothing c.args.self.now c.in_default.not-Classic c.in_default-self.not-Section in
    let other : HasSectionType c.args.bytes.now → ⊥ = λ has. let t = c.if-begins_section.ensures.1 has in absurd cc in
    header_read c.args.bytes.now c.args.self.now (g.I.DescribedInterfaces.items c.args.interfaces.now) c.in-Ok.header
    none other c.in-Ok.ensures.header

pub returns-in-Err-clause-refused : goal.returns-in-Err-clause-refused
returns-in-Err-clause-refused g c most =
    let none = nothing c.args.self.now c.in_default.not-Classic c.in_default-self.not-Section in
    let other : HasSectionType c.args.bytes.now → ⊥ = λ has. let t = c.if-begins_section.ensures.1 has in absurd cc in
    header_refused most c.args.bytes.now c.args.self.now (g.I.DescribedInterfaces.items c.args.interfaces.now)
    (file_refusal_view c.in-Err.error) none other c.in-Err.ensures.refused
