use Rattle.std.proofs.Common.{◌≡◌, subst, refl, sym, ◌∙◌, true, false}
use Rattle.ether_pcap.specs.CaptureViews.{captured_packet_view}
use Rattle.ether_peel.specs.Walker.Start.{next_of}
use Rattle.ether_content.specs.Content.{ContentValue, IsWalked}
use Rattle.ether_content.specs.Selecting.{asked_of}
use Rattle.ether_content.proofs.SelectingLemmas.{asked_time}
use Rattle.ether_content.proofs.UndecidedLemmas.{fcs_outcome, header_outcome, unwalked_outcome, asked_outcome}
use Rattle.ether_content.proofs.program.decide_cut.Goals as goal
use Rattle.ether_content.proofs.program.decide_cut.Goals.{then-is_header_cut-via-then-is_header_cut, then-is_header_cut-via-else-is_header_cut+then-has_other_fcs}

pub returns-then-is_header_cut : goal.returns-then-is_header_cut
returns-then-is_header_cut c x program =
    let p = captured_packet_view c.args.packet.now in
    elim c.then-is_header_cut.branch [
      | then-is_header_cut-via-then-is_header_cut w ↦
          header_outcome x p c.requires (c.is_header_cut.ensures.0 w.if-is_header_cut.true)
      | then-is_header_cut-via-else-is_header_cut+then-has_other_fcs w ↦
          fcs_outcome x p c.requires (sym w.if-has_other_fcs.ensures)
    ]

pub returns-in-Some : goal.returns-in-Some
returns-in-Some c x program =
    asked_outcome x (captured_packet_view c.args.packet.now)
    (asked_of c.with_fcs.result c.in-Some.frame c.args.packet.now) c.decide_frame.result
    (record {
      lacks = c.requires;
      known = λ cut. let t = c.is_header_cut.ensures.1 cut in
          let clash : false ≡ true = sym c.if-is_header_cut.false ∙ t in cc;
      fcs = sym c.if-has_other_fcs.ensures;
    })
    (record {
      next = next_of c.in-Some.start;
      walked =
          subst (λ (content : ContentValue). IsWalked content (next_of c.in-Some.start) c.in-Some.frame.now)
          c.of.ensures c.in-Some.ensures.some;
      start = c.with_fcs.ensures;
      captured = refl;
      original = refl;
      time = asked_time c.args.packet.now.time;
    })
    (c.decide_frame.ensures x program)

pub returns-in-None : goal.returns-in-None
returns-in-None c x program =
    unwalked_outcome x (captured_packet_view c.args.packet.now)
    (record {
      lacks = c.requires;
      known = λ cut. let t = c.is_header_cut.ensures.1 cut in
          let clash : false ≡ true = sym c.if-is_header_cut.false ∙ t in cc;
      fcs = sym c.if-has_other_fcs.ensures;
    })
    (λ next frame walked. c.frame.ensures.none c.in-None.is next frame
    (subst (λ (content : ContentValue). IsWalked content next frame) (sym c.of.ensures) walked))
