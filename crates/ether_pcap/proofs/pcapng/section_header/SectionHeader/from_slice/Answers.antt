use Rattle.std.proofs.Common.{arith, sym, ◌∙◌}
use Rattle.ether_pcap.specs.Section.{short, block_type, magic, block, body, version}
use Rattle.ether_pcap.specs.Views.{order_of}
use Rattle.ether_pcap.specs.PcapngViews.{block_view, block_refusal_view}
use Rattle.ether_pcap.proofs.pcapng.section_header.SectionHeader.from_slice.Goals as goal

pub returns-then-slice-lt-MIN_LEN-clause-refused : goal.returns-then-slice-lt-MIN_LEN-clause-refused
returns-then-slice-lt-MIN_LEN-clause-refused c = short (omega arith)

pub returns-then-block_type-ne-SECTION_HEADER-clause-refused :
    goal.returns-then-block_type-ne-SECTION_HEADER-clause-refused
returns-then-block_type-ne-SECTION_HEADER-clause-refused c =
    block_type c.u32_at-block_type.result (omega arith) (sym c.u32_at-block_type.ensures) (λ e. omega arith)

pub returns-in_default-clause-refused : goal.returns-in_default-clause-refused
returns-in_default-clause-refused c =
    magic c.u32_at.result (omega arith) (sym c.u32_at-block_type.ensures ∙ c.if-block_type-ne-SECTION_HEADER.false)
    (sym c.u32_at.ensures) c.in_default.ensures

pub returns-in-Err-clause-refused : goal.returns-in-Err-clause-refused
returns-in-Err-clause-refused c =
    block (order_of c.in-Some.byte_order) (block_refusal_view c.in-Err.error) (omega arith)
    (sym c.u32_at-block_type.ensures ∙ c.if-block_type-ne-SECTION_HEADER.false) c.in-Some.ensures
    c.in-Err.ensures.refused

pub returns-then-block-lt16-clause-refused : goal.returns-then-block-lt16-clause-refused
returns-then-block-lt16-clause-refused c =
    body (order_of c.in-Some.byte_order) (block_view c.in-Ok.block)
    (sym c.u32_at-block_type.ensures ∙ c.if-block_type-ne-SECTION_HEADER.false) c.in-Some.ensures
    c.in-Ok.ensures.block c.if-block-lt16.true

pub returns-then-not-is_version-clause-refused : goal.returns-then-not-is_version-clause-refused
returns-then-not-is_version-clause-refused c =
    version (order_of c.in-Some.byte_order) (block_view c.in-Ok.block) c.u16_at-major.result c.u16_at-minor.result
    (sym c.u32_at-block_type.ensures ∙ c.if-block_type-ne-SECTION_HEADER.false) c.in-Some.ensures c.in-Ok.ensures.block
    c.if-block-lt16.false
    (sym c.u16_at-major.ensures) (sym c.u16_at-minor.ensures)
    (λ v. let t = c.if-not-is_version.ensures.1 v in absurd cc)
