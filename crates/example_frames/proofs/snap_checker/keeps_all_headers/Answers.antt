use Rattle.std.proofs.Common.{◌≡◌, length, sym, ap, subst, ◌∙◌, arith, inl, inr}
use Rattle.std.proofs.lemmas.Bool.{cases_lt, leb-true, le-leb}
use Rattle.std.proofs.lemmas.List.{take_all}
use Rattle.ether_peel.specs.Grammar.Cuts.{reach}
use Rattle.ether_peel.specs.Grammar.Stack.{Walk}
use Rattle.ether_packet.specs.Packet.{packet_start, packet_headers}
use Rattle.example_frames.proofs.snap_checker.keeps_all_headers.Goals as goal

pub returns-clause-same : goal.returns-clause-same
returns-clause-same c without_fcs hs ks e f whole cut =
    let list = c.args.frame.now in
    let n = c.args.snap_len in
    let len = c.min_snap_len.result in
    let p = c.from_slice.ensures.packet in
    let least = c.min_snap_len.ensures.least _ list (λ i. omega (arith, c.type_inv.frame i)) without_fcs p in
    let same = (p.one hs e whole).0 in
    let start = packet_start c.args.start in
    elim (cases_lt n len) [
      | inl short ↦
          let fewer = least.loses n ks f short cut in (
            λ yes. absurd (let le = leb-true len n yes in omega arith),
            λ all. absurd (let eq = ap length (all ∙ same) in omega arith),
          )
      | inr enough ↦
          let kept : ks ≡ packet_headers c.from_slice.result = elim (cases_lt (length list) n) [
            | inl over ↦ (p.one ks f (subst (λ l. Walk start l ks f) (take_all n list (omega arith)) cut)).0
            | inr within ↦ least.keeps n ks f enough within cut
          ] in
          (λ yes. kept ∙ sym same, λ all. le-leb len n enough)
    ]

pub returns-clause-reach : goal.returns-clause-reach
returns-clause-reach c hs e whole =
    let len = c.min_snap_len.result in
    let same = (c.from_slice.ensures.packet.one hs e whole).0 in
    let value : len ≡ reach 0 hs = c.min_snap_len.ensures.value ∙ ap (reach 0) (sym same) in
    (λ yes. let le = leb-true len c.args.snap_len yes in omega arith, λ le. le-leb len c.args.snap_len (omega arith))
