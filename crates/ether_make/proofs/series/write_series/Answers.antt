use Rattle.std.proofs.Common.{◌≡◌, ℕ, suc, ◌+◌, ◌-◌, List, Option, take, arith, refl, sym, ap, subst, ◌∙◌}
use Rattle.ether_make.specs.Frames.{FrameValue}
use Rattle.ether_make.specs.FrameViews.{frame_view}
use Rattle.ether_make.specs.Lines.{linked, time_at}
use Rattle.ether_make.specs.Outputs.{finished}
use Rattle.ether_make.specs.Serial.{progress_view, sequence_len}
use Rattle.ether_make.specs.Templates.{all_drawn, numbered}
use Rattle.ether_make.proofs.PaceLemmas.{timely-fewer}
use Rattle.ether_make.proofs.SeriesLemmas.{Writing, sequence-small, writing-begin, writing-more}
use Rattle.ether_make.proofs.series.write_series.Goals as goal

pub loop-index-init : goal.loop-index-init
loop-index-init g c =
    let series = c.args.series in
    let progress = progress_view c.args.progress.now in
    let held = g.W.Write.contents c.args.writer.now in
    let all : c.args.count ≡ c.args.count - 0 = omega arith in
    record {
      writing =
          subst (λ (left : ℕ). Writing c.args.settings.now progress c.args.count series held held left 0 progress.state
          progress.link (take series.len series.frame.bytes.items)) all
          (writing-begin c.args.settings.now progress c.args.count series held);
      link = refl;
      is_finished = c.requires.finished;
      whole = c.requires.whole;
      pace = refl;
    }

pub time_at-time-requires : goal.time_at-time-requires
time_at-time-requires g c =
    timely-fewer c.args.settings.now.rate c.args.progress.now.pace c.args.series.frame.time c.args.count
    c.loop-index.index c.requires.timely c.loop-index-test.true

pub loop-index-preserved : goal.loop-index-preserved
loop-index-preserved g c =
    let settings = c.args.settings.now in
    let series = c.args.series in
    let progress = progress_view c.args.progress.now in
    let count = c.args.count in
    let index = c.loop-index.index in
    let slots = c.deref.result.now in
    let all = c.deref.ensures.value in
    let state = c.loop-index.progress.generator in
    let packet = take series.len c.loop-index.frame.bytes.items in
    let held = g.W.Write.contents c.args.writer.now in
    let mid = g.W.Write.contents c.loop-index.writer in
    let holds = g.W.Write.contents c.write_frame.new.writer in
    let made : FrameValue = record {
      link = c.loop-index.frame.link;
      time = c.time_at-time.result;
      packet = numbered index state slots packet;
    } in
    let new = c.renew.new.frame in
    let left : count - index ≡ suc (count - (index + 1)) = omega (arith, c.loop-index-test.true) in
    let before = subst (λ (n : ℕ). Writing settings progress count series held mid n index state
    c.loop-index.progress.link packet) left c.loop-index.invariant.writing in
    let is : made ≡ record {
      link = series.frame.link;
      time = time_at settings.rate progress.pace series.frame.time index;
      packet = numbered index state series.slots.items packet;
    } = λ i. record {
      link = c.loop-index.invariant.link i;
      time = c.time_at-time.ensures i;
      packet = numbered index state (all i) packet;
    } in
    let whole : frame_view new ≡ finished settings made = c.renew.ensures.renewed in
    let more = writing-more settings progress count series held mid holds (count - (index + 1)) index state
    c.loop-index.progress.link packet made (frame_view new) before is whole
    (c.in_ok-write_frame.ensures.grows (omega (
      arith,
      c.renew.ensures.len,
      c.loop-index.invariant.whole,
      c.requires.fits,
      sequence-small settings c.loop-index.frame.link,
    ))) in
    let same : made ≡ record { link = new.link; time = new.time; packet = take series.len new.bytes.items } =
    λ i. record {
      link = ap (λ (f : FrameValue). f.link) (sym whole) i;
      time = ap (λ (f : FrameValue). f.time) (sym whole) i;
      packet = sym c.renew.ensures.packet i;
    } in
    record {
      writing =
          subst (λ (st : ℕ). Writing settings progress count series held holds (count - (index + 1)) (index + 1) st
          c.write_frame.new.link (take series.len new.bytes.items))
          (sym (c.renew.ensures.drawn ∙ ap (λ ss. all_drawn ss state) all))
          (subst (λ (l : Option ℕ). Writing settings progress count series held holds (count - (index + 1)) (index + 1)
          (all_drawn series.slots.items state) l (take series.len new.bytes.items))
          (sym c.in_ok-write_frame.ensures.link)
          (subst (λ (p : List ℕ). Writing settings progress count series held holds (count - (index + 1)) (index + 1)
          (all_drawn series.slots.items state) (linked c.loop-index.progress.link (frame_view new)) p)
          (sym c.renew.ensures.packet) more));
      link = ap (λ (f : FrameValue). f.link) whole ∙ c.loop-index.invariant.link;
      is_finished = whole ∙ ap (finished settings) same;
      whole =
          c.renew.ensures.len ∙ c.loop-index.invariant.whole
          ∙ ap (λ l. series.len + sequence_len settings l) (ap (λ (f : FrameValue). f.link) (sym whole));
      pace = c.loop-index.invariant.pace;
    }
