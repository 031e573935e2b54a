use Rattle.std.proofs.Common.{subst, ap, ◌∙◌}
use Rattle.ether_peel.specs.Walker.Start.{next_of}
use Rattle.ether_content.specs.Content.{ContentValue, IsWalked, content_of}
use Rattle.ether_c.specs.Rows.{walked}
use Rattle.ether_c.proofs.ether_row.EtherRow.of.Goals as goal

pub returns-in-Some : goal.returns-in-Some
returns-in-Some c =
    let same = c.of.ensures ∙ ap content_of c.to_packet.ensures in
    let is = subst (λ (x : ContentValue). IsWalked x (next_of c.in-Some.start) c.in-Some.bytes.now) same
    c.in-Some.ensures.some in
    record {
      time = c.with_headers.ensures.time ∙ c.time_of.ensures;
      captured_len = c.with_headers.ensures.captured_len;
      original_len = c.with_headers.ensures.original_len;
      link_type = c.with_headers.ensures.link_type;
      content = walked c.in-Some.start c.in-Some.bytes.now c.from_slice.result is c.from_slice.ensures.packet
          c.with_headers.ensures.headers;
    }
