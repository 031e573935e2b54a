use Rattle.std.proofs.Common.{rules, ◌≡◌, ◌++◌, [], List, ℕ, sym, subst, ap, ◌∙◌, append_assoc, arith}
use Rattle.std.specs.Prelude.{string_bytes}
use Rattle.std.proofs.lemmas.List.{append-nil}
use Rattle.ether_switch.specs.Arrivals.{front_of}
use Rattle.ether_switch.specs.Leaving.{LeavesTagged, LeavesUntagged}
use Rattle.example_switch.specs.Lines.{HasLines, none, more}
use Rattle.example_switch.proofs.lines.received_lines.Goals as goal

pub loop-number-preserved : goal.loop-number-preserved
loop-number-preserved c hs e walk whole later rest =
    let a = c.args in
    let r = a.received.now in
    let before = string_bytes c.loop-number.text in
    let text = string_bytes c.in_ok-line.line in
    let after : string_bytes c.push_str.new.self ≡ before ++ text = search rules in
    let with_tag =
    subst (λ (l : List ℕ). LeavesTagged r (front_of r.kind hs) a.frame.now hs e l) (sym c.as_slice.ensures.value)
    (c.in_ok-tagged.ensures hs e walk whole) in
    let without =
    subst (λ (l : List ℕ). LeavesUntagged (front_of r.kind hs) a.frame.now hs e l)
    (sym c.as_slice-in-loop-number.ensures.value)
    (c.in_ok-untagged.ensures hs e walk whole) in
    let first = c.in_ok-line.ensures hs e a.frame.now with_tag without in
    subst (HasLines r a.frame.now hs e 0)
    (sym (append_assoc before text later) ∙ ap (λ (l : List ℕ). l ++ later) (sym after))
    (c.loop-number.invariant hs e walk whole (text ++ later)
    (more c.loop-number.number text later c.loop-number-test.true first rest))

pub returns : goal.returns
returns c hs e walk whole =
    let a = c.args in
    let ends : 256 ≡ c.loop-number.number = omega (arith, c.loop-number-test.false, c.loop-number.auto.number-end) in
    subst (HasLines a.received.now a.frame.now hs e 0) (append-nil (string_bytes c.loop-number.text))
    (c.loop-number.invariant hs e walk whole []
    (subst (λ (n : ℕ). HasLines a.received.now a.frame.now hs e n []) ends none))
