use Rattle.std.proofs.Common.{◌≡◌, ◌⊎◌, ℕ, List, Option, false, length}
use Rattle.ether_capture.specs.SeveralFiles.{ReadsFiles, Settles, nothing_read}
use Rattle.ether_capture.specs.World.{Streams, names, reads, streams}
use Rattle.ether_capture.specs.Options.{listing_view, names_input}
use Rattle.ether_capture.specs.declared.several_files.Tally.{Tally}
use Rattle.ether_capture.proofs.SeveralFilesLemmas.{names_in}
use Rattle.ether_capture.proofs.several_files.read_files.Given as goal

abbrev pub invariant-loop-name : goal.invariant-loop-name
invariant-loop-name g l =
    let listing = listing_view l.fn.listing in
    record {
      selection : l.task.selection ≡ l.fn.listing.selection;
      options : l.options ≡ l.fn.listing.options;
      reads : (files : List ℕ → Option (List ℕ)) (last : Tally) (after : Streams)
          → ReadsFiles (reads (names (g.C.Captures.has l.fn.captures) g.C.Captures.can_refuse g.C.Input.Source.can_fail)
          g.R.Source.can_fail g.W.Sink.can_fail) g.M.Sink.can_fail listing (names_in l.files) l.tally
          (streams (g.R.Source.remaining l.reader) (g.W.Sink.contents l.writer) (g.M.Sink.contents l.messages) files)
          last after
          → ReadsFiles (reads (names (g.C.Captures.has l.fn.captures) g.C.Captures.can_refuse g.C.Input.Source.can_fail)
          g.R.Source.can_fail g.W.Sink.can_fail) g.M.Sink.can_fail listing listing.files
          (nothing_read listing.count)
          (streams (g.R.Source.remaining l.fn.reader) (g.W.Sink.contents l.fn.writer)
          (g.M.Sink.contents l.fn.messages) files)
          last after;
      kept : names_input listing.files ≡ false
          → (g.R.Source.remaining l.reader ≡ g.R.Source.remaining l.fn.reader)
          × (names_input (names_in l.files) ≡ false);
      settled : Settles g.M.Sink.is_flushed l.fn.messages l.messages ⊎ g.M.Sink.can_fail;
    }

abbrev pub decreases-loop-name : goal.decreases-loop-name
decreases-loop-name g l = length (names_in l.files)
