use Rattle.std.proofs.Common.{◌≡◌, ◌+◌, ◌∙◌, refl, ap, ap₂, sym, length}
use Rattle.ether_make.specs.Frames.{FrameValue}
use Rattle.ether_make.specs.FrameViews.{frame_view}
use Rattle.ether_make.specs.Outputs.{finished}
use Rattle.ether_make.specs.Serial.{sequence_len}
use Rattle.ether_make.proofs.SeriesLemmas.{unfinished-first}
use Rattle.ether_make.proofs.series.series_of.Goals as goal

pub returns : goal.returns
returns c =
    let frame = frame_view c.in_ok-frame.frame in
    let whole = c.in_ok-finished.field-0 in
    let made : frame_view whole ≡ finished c.args.settings.now frame = c.in_ok-finished.ensures.finished in
    let len : c.len-len.result ≡ length frame.packet = c.len-len.ensures ∙ c.in_ok-frame.frame.bytes.ok.0 in
    let first = unfinished-first c.args.settings.now frame whole c.len-len.result made len in
    record {
      first = first ∙ c.in_ok-frame.ensures;
      is_finished = made ∙ ap (finished c.args.settings.now) (sym first);
      len = len ∙ ap (λ (f : FrameValue). length f.packet) c.in_ok-frame.ensures;
      whole =
          c.in_ok-finished.ensures.len
          ∙ ap₂ (λ n link. n + sequence_len c.args.settings.now link) (sym len)
          (ap (λ (f : FrameValue). f.link) (sym made));
      slots = refl;
    }
