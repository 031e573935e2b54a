use Rattle.std.proofs.Common.{◌≡◌, ◌-◌, [], take, ◌∙◌, ap, arith}
use Rattle.std.specs.Option.{option_map}
use Rattle.ether_capture.specs.RowFields.{fields_if}
use Rattle.ether_output.proofs.OutputBufferLemmas.{Takes-then, Takes-same}
use Rattle.ether_capture.proofs.KeyMemberLemmas.{all_texts, next_text, none_left, none_there}
use Rattle.ether_capture.proofs.key_members.write_texts.Goals as goal
use Rattle.ether_capture.proofs.key_members.write_texts.Goals.{else-loop-left-test, then-loop-left-test+in_default}

pub loop-left-preserved : goal.loop-left-preserved
loop-left-preserved g c =
    next_text g.W.Sink.contents g.W.Sink.can_fail c.args.out.now c.loop-left.out c.write_json_text.new.out
    c.loop-left.is_first c.args.count c.loop-left.left (c.loop-left.left - 1)
    (fields_if (option_map (λ s. s.now) c.args.texts)) (fields_if (option_map (λ s. s.now) c.loop-left.rest))
    (fields_if (option_map (λ s. s.now) c.first_field.result.1)) c.first_field.result.0.now
    (omega (arith, c.loop-left-test.true))
    (ap (λ o. fields_if (option_map (λ s. s.now) o)) c.in-Some.is ∙ c.first_field.ensures) c.loop-left.invariant
    (Takes-then (Takes-same c.comma_if.ensures c.append-in-loop-left.ensures) c.write_json_text.ensures)

pub returns-clause-written : goal.returns-clause-written
returns-clause-written g c =
    all_texts g.W.Sink.contents g.W.Sink.can_fail c.args.out.now c.loop-left.out c.append-2.new.self
    c.loop-left.is_first c.args.count c.loop-left.left (fields_if (option_map (λ s. s.now) c.args.texts))
    (fields_if (option_map (λ s. s.now) c.loop-left.rest)) none c.loop-left.invariant c.append-2.ensures
  where
    none : take c.loop-left.left (fields_if (option_map (λ s. s.now) c.loop-left.rest)) ≡ []
    none = elim c.loop-left-test.branch [
      | else-loop-left-test w ↦ none_left c.loop-left.left _ (omega (arith, w.loop-left-test.false))
      | then-loop-left-test+in_default w ↦ none_there c.loop-left.left _
          (ap (λ o. fields_if (option_map (λ s. s.now) o)) w.in_default.is)
    ]
