use Rattle.std.proofs.Common.{◌+◌, ◌++◌, List, ℕ, ap, drop, map, sym, ◌∙◌}
use Rattle.serde_json.specs.View.{view}
use Rattle.serde_json.specs.declared.value.Value.{Value}
use Rattle.ether_make.specs.Headers.{header_bytes, headers_bytes, next_in}
use Rattle.ether_make.specs.Refusals.{result_map}
use Rattle.ether_make.proofs.HeaderLemmas.{headers-next, not_err, rest-whole}
use Rattle.ether_make.proofs.header.headers_bytes.Goals as goal

pub loop-at-preserved : goal.loop-at-preserved
loop-at-preserved c =
    let vs = c.args.objects.now in
    let at = c.loop-at.at in
    c.loop-at.invariant
    ∙ headers-next at vs c.index-objects-at.result c.loop-at.bytes.items c.in-Ok.more.items c.loop-at-test.true
    c.index-objects-at.is
    (ap (λ (rest : List Value). header_bytes at (next_in (map view rest)) (view c.index-objects-at.result))
    (sym (rest-whole vs (at + 1)))
    ∙ ap (λ next. header_bytes at next (view c.index-objects-at.result)) (sym c.next_section-next.ensures)
    ∙ c.in-Ok.ensures)
    ∙ ap (λ (bs : List ℕ). result_map (λ more. bs ++ more) (headers_bytes (at + 1) (map view (drop (at + 1) vs))))
    (ap (λ b. c.loop-at.bytes.items ++ b) (sym c.deref.ensures.value)
    ∙ sym (not_err c.extend_from_slice.result _ _ _ (sym c.is_err.ensures.value ∙ c.if-is_err.false)
    c.extend_from_slice.ensures.items))
