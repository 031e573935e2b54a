use Rattle.std.proofs.Common.{◌≡◌, ◌∙◌, List, ℕ, Some, map, string_bytes, ap, refl, subst, Err, IfOk}
use Rattle.std.specs.Vec.{vec_items}
use Rattle.std.specs.Vec.Iter.{into_iter_items}
use Rattle.std.proofs.lemmas.Iterator.{items_from_collect}
use Rattle.std.proofs.lemmas.Iterator.Adapters.{YieldsList-from_vec}
use Rattle.ether_capture.specs.Options.{no_memory}
use Rattle.ether_capture.specs.Program.{HasObeyed, refused, unread}
use Rattle.ether_capture.specs.World.{Streams, World, streams}
use Rattle.ether_capture.specs.declared.request.RequestError.TheVariants.{Memory}
use Rattle.ether_stream.specs.declared.outcome.Outcome.{Outcome}
use Rattle.ether_stream.specs.declared.outcome.Outcome.TheVariants as outcomes
use Rattle.ether_stream.specs.declared.outcome.RunFault.TheVariants.{Input}
use Rattle.ether_capture.proofs.program.run_program.Goals as goal

said : {w : World} {before after : Streams} {outcome : Outcome} {a b : List (List ℕ)} → a ≡ b
    → HasObeyed w (Some a) before after outcome → HasObeyed w (Some b) before after outcome
said {w = w} {before = before} {after = after} {outcome = outcome} same =
    subst (λ it. HasObeyed w (Some it) before after outcome) same

pub returns-in_default-clause-served : goal.returns-in_default-clause-served
returns-in_default-clause-served g c =
    rw c.in_default.is
    (record {
      outcome = outcomes.Run (Err Input);
      printed = c.finish.ensures.printed.0;
      mid = streams (g.R.Source.remaining c.args.reader.now) (g.W.Sink.contents c.args.writer.now)
          (g.M.Sink.contents c.args.messages.now) (g.K.Copies.file c.args.copies.now);
      obeyed = unread _;
      ended = c.finish.ensures.printed.1 _ _;
      is_status = c.finish.ensures.printed.2;
    })

pub returns-in_default-collect-clause-served : goal.returns-in_default-collect-clause-served
returns-in_default-collect-clause-served g c =
    rw c.in-Ok.is
    (record {
      outcome = outcomes.NoMemory;
      printed = c.finish-in_default-collect.ensures.printed.0;
      mid = streams (g.R.Source.remaining c.args.reader.now) (g.W.Sink.contents c.args.writer.now)
          (g.M.Sink.contents c.args.messages.now) (g.K.Copies.file c.args.copies.now);
      obeyed = refused _ Memory _ no_memory;
      ended = c.finish-in_default-collect.ensures.printed.1 _ _;
      is_status = c.finish-in_default-collect.ensures.printed.2;
    })

pub returns-clause-served : goal.returns-clause-served
returns-clause-served g c =
    let args = c.in-Ok.args in
    let yields = YieldsList-from_vec {s = args} (into_iter_items args) refl args.rest.ok.0 in
    let collected = subst (λ r. IfOk r (λ w. vec_items w ≡ into_iter_items args)) c.in-Ok-collect.is
    (items_from_collect c.collect.result c.collect.ensures.ran yields) in
    let words : map string_bytes c.as_slice.result.now ≡ map string_bytes (into_iter_items args) =
    ap (map string_bytes) (c.as_slice.ensures.value ∙ collected) in
    let new = c.carry_out_words-outcome.new in
    let mid = streams (g.R.Source.remaining new.reader) (g.W.Sink.contents new.writer)
    (g.M.Sink.contents new.messages) (g.K.Copies.file new.copies) in
    rw c.in-Ok.is
    (record {
      outcome = c.carry_out_words-outcome.result;
      printed = c.finish-2.ensures.printed.0;
      mid = mid;
      obeyed = said words c.carry_out_words-outcome.ensures.obeyed;
      ended = c.finish-2.ensures.printed.1 _ _;
      is_status = c.finish-2.ensures.printed.2;
    })
