use Rattle.std.proofs.Common.{◌≡◌, ◌≢◌, ◌∷◌, ◌∙◌, ℕ, List, Option, Some, IfSome, map, refl, sym, ap, subst}
use Rattle.std.specs.Int.NonZero.{non_zero_usize_get}
use Rattle.std.specs.Option.{option_map, is_some}
use Rattle.ether_text.proofs.ArgumentsLemmas.{items_end}
use Rattle.ether_capture.specs.SeveralFiles.{IsAfter, ReadsFiles, no_more, enough, next, next_task}
use Rattle.ether_capture.specs.Options.{listing_view, named, names_input}
use Rattle.ether_capture.specs.World.{names, reads, streams}
use Rattle.ether_stream.specs.Task.{Lines, lines_view}
use Rattle.ether_capture.proofs.SeveralFilesLemmas.{file_names, names_in, settled}
use Rattle.ether_capture.proofs.several_files.read_files.Goals as goal

pub returns-then-is_done-clause-ok : goal.returns-then-is_done-clause-ok
returns-then-is_done-clause-ok g c = λ files.
    c.loop-name.invariant.reads files c.loop-name.tally _
    (enough (names_in c.loop-name.files) c.loop-name.tally _ (c.is_done.ensures.0 c.if-is_done.true))

pub loop-name-preserved : goal.loop-name-preserved
loop-name-preserved g c =
    let so_far = c.loop-name.invariant in
    let listing = listing_view c.args.listing in
    let at = c.loop-name.tally in
    let given = g.R.Source.remaining c.loop-name.reader in
    let leaves = g.R.Source.remaining c.read_file.new.reader in
    let behind = names_in c.next.new.self in
    let word = c.in-Some.name.now in
    let cons : names_in c.loop-name.files ≡ word ∷ behind = ap (map (λ s. s.now)) c.in-Some.ensures.items in
    let going : at.left ≢ Some 0 = λ e. let t = c.is_done.ensures.1 e in absurd cc in
    let left : option_map non_zero_usize_get c.count-task.result ≡ at.left = c.count-task.ensures going in
    let file : option_map (λ n. n.now) c.name_bytes.result ≡ named word = c.name_bytes.ensures ∙ c.named.ensures in
    let lines = ap (λ (f : Option (List ℕ)). record listing.options { file = f; before = Some at.packets }) file in
    let same : record {
      select = c.loop-name.task.selection;
      count = option_map non_zero_usize_get c.count-task.result;
      form = Lines (lines_view c.after.result);
    } ≡ next_task listing at word =
    (λ i. record { select = so_far.selection i; count = left i; form = Lines ((c.after.ensures ∙ lines) i) }) in
    let after : IsAfter at c.in_ok-end.counts c.in_ok-end.end c.with-tally.result = record {
      packets = c.with-tally.ensures.packets;
      skipped = c.with-tally.ensures.skipped;
      undecided = c.with-tally.ensures.undecided;
      left = c.with-tally.ensures.left;
      status = c.with-tally.ensures.status;
    } in
    let here = c.in_ok-end.ensures.ok listing at c.with-tally.result same after in
    record {
      selection = so_far.selection;
      options = refl;
      reads = λ files last after others.
          so_far.reads files last after
          (subst
          (λ (l : List (List ℕ)).
          ReadsFiles
          (reads (names (g.C.Captures.has c.args.captures.now) g.C.Captures.can_refuse g.C.Input.Source.can_fail)
          g.R.Source.can_fail g.W.Sink.can_fail) g.M.Sink.can_fail listing l at
          (streams given (g.W.Sink.contents c.loop-name.writer) (g.M.Sink.contents c.loop-name.messages) files)
          last after)
          (sym cons)
          (next word behind at c.with-tally.result last _ _ after going (here files) others));
      kept = λ no_input.
          let before = so_far.kept no_input in
          let file = file_names word behind (ap names_input (sym cons) ∙ before.1) in
          let unread = subst (λ (n : Option (List ℕ)). IfSome n (λ _. leaves ≡ given)) file.0
          c.read_file.ensures.kept in
          (unread ∙ before.0, file.1);
      settled = settled g.M.Sink.is_flushed g.M.Sink.can_fail c.args.messages.now c.loop-name.messages
          c.read_file.new.messages so_far.settled c.read_file.ensures.told;
    }

pub returns-in_err-end-clause-kept : goal.returns-in_err-end-clause-kept
returns-in_err-end-clause-kept g c = λ no_input.
    let before = c.loop-name.invariant.kept no_input in
    let behind = names_in c.next.new.self in
    let word = c.in-Some.name.now in
    let cons : names_in c.loop-name.files ≡ word ∷ behind = ap (map (λ s. s.now)) c.in-Some.ensures.items in
    let file = file_names word behind (ap names_input (sym cons) ∙ before.1) in
    let given = g.R.Source.remaining c.loop-name.reader in
    let leaves = g.R.Source.remaining c.read_file.new.reader in
    subst (λ (n : Option (List ℕ)). IfSome n (λ _. leaves ≡ given)) file.0 c.read_file.ensures.kept ∙ before.0

pub returns-clause-ok : goal.returns-clause-ok
returns-clause-ok g c = λ files.
    let tally = c.loop-name.tally in
    let none =
    ap (map (λ s. s.now))
    (items_end c.loop-name.files c.next.new.self c.next.result c.next.ensures.cases (ap is_some c.in_default.is)) in
    let now = streams (g.R.Source.remaining c.loop-name.reader) (g.W.Sink.contents c.loop-name.writer)
    (g.M.Sink.contents c.loop-name.messages) files in
    c.loop-name.invariant.reads files tally now
    (subst
    (λ (l : List (List ℕ)).
    ReadsFiles
    (reads (names (g.C.Captures.has c.args.captures.now) g.C.Captures.can_refuse g.C.Input.Source.can_fail)
    g.R.Source.can_fail g.W.Sink.can_fail) g.M.Sink.can_fail (listing_view c.args.listing) l tally now tally now)
    (sym none) (no_more tally now))
