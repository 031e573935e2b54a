use Rattle.std.proofs.Common.{◌≡◌, ◌-◌, ◌+◌, length, take}
use Rattle.ether_make.specs.FrameViews.{frame_view}
use Rattle.ether_make.specs.Outputs.{finished}
use Rattle.ether_make.specs.Serial.{progress_view, sequence_len}
use Rattle.ether_make.proofs.SeriesLemmas.{Writing}
use Rattle.ether_make.proofs.series.write_series.Given as goal

abbrev pub invariant-loop-index : goal.invariant-loop-index
invariant-loop-index g l = record {
  writing : Writing l.settings (progress_view l.fn.progress) l.count l.fn.series (g.W.Write.contents l.fn.writer)
      (g.W.Write.contents l.writer) (l.count - l.index) l.index l.progress.generator l.progress.link
      (take l.len l.frame.bytes.items);
  link : l.frame.link ≡ l.fn.series.frame.link;
  is_finished : frame_view l.frame ≡ finished l.settings
      (record { link = l.frame.link; time = l.frame.time; packet = take l.len l.frame.bytes.items });
  whole : length l.frame.bytes.items ≡ l.len + sequence_len l.settings l.frame.link;
  pace : l.progress.pace ≡ l.fn.progress.pace;
}
