use Rattle.std.proofs.Common.{◌≡◌, refl, sym, ap, ◌∙◌, arith, nat_eq}
use Rattle.std.specs.Prelude.{get_or}
use Rattle.ether_filter.specs.Primitives.{frame_of, walked}
use Rattle.ether_filter.specs.Postfix.{postfix}
use Rattle.ether_filter.specs.Jumps.{chosen, first_jump}
use Rattle.ether_filter.specs.Seen.{matching}
use Rattle.ether_filter.proofs.JumpsLemmas.{truth}
use Rattle.ether_filter.proofs.Truth.{past_nodes}
use Rattle.ether_filter.proofs.PastTags.{misses_more}
use Rattle.ether_filter.proofs.Numbered.{capture_some}
use Rattle.ether_filter.proofs.ProgramLemmas.{no_instruction, program_begin, program_next, program_end}
use Rattle.ether_filter.proofs.filter_program.jumps_by_lengths.Goals as goal

pub loop-at-init : goal.loop-at-init
loop-at-init c x p hs e = program_begin (walked c.args.packet hs e) c.args.instructions.now x p

pub loop-at-preserved : goal.loop-at-preserved
loop-at-preserved c x p hs e =
    let packet = c.args.packet in
    let w = walked packet hs e in
    let t = matching w in
    let i = get_or c.args.instructions.now c.loop-at.at no_instruction in
    let s =
    capture_some i (frame_of packet) c.in_ok-matches_capture.field-0
    (sym c.matches_capture.ensures ∙ c.in_ok-matches_capture.was) in
    c.past_more-at.ensures.reaches x p t (chosen (truth t x) first_jump) (misses_more w packet.original_len refl)
    (past_nodes (postfix x) (truth t x) (omega (arith, p.few, p.count)))
    (program_next w c.args.instructions.now x p c.loop-at.at c.after-next.result s.primitive
    c.in_ok-matches_capture.field-0 c.loop-at-test.true (sym s.is) (s.iff w refl)
    c.after-next.ensures (c.loop-at.invariant x p hs e)).1

pub returns : goal.returns
returns c truth is x p hs e =
    let same : nat_eq c.loop-at.at c.from.result ≡ truth = cc in
    program_end (walked c.args.packet hs e) c.args.instructions.now x p c.loop-at.at truth
    (omega (arith, c.loop-at-test.false)) (sym same ∙ ap (nat_eq c.loop-at.at) c.from.ensures)
    (c.loop-at.invariant x p hs e)
