-- The frames of a line as they are written.
use Rattle.std.specs.Prelude.{◌≡◌, ℕ, ◌+◌, ◌&&◌, nat_eq, if◌then◌else◌, List, length, take, true, Result, Ok, Err}
use Rattle.ether_make.specs.declared.progress.Progress.{Progress as ProgressRecord}
use Rattle.ether_make.specs.declared.series.Series.{Series}
use Rattle.ether_make.specs.declared.settings.Settings.{Settings}
use Rattle.ether_make.specs.Frames.{FrameValue, padded}
use Rattle.ether_make.specs.FrameViews.{frame_view}
use Rattle.ether_make.specs.Lines.{LineMeans, Progress, Refuses, all_linked, frame_count, is_counted, is_timely, paced, time_at}
use Rattle.ether_make.specs.LineViews.{IfTold, fault_view}
use Rattle.ether_make.specs.declared.lines.LineFault.{LineFault}
use Rattle.ether_make.specs.Outputs.{finished}
use Rattle.ether_make.specs.Templates.{TemplateValue, after_frames, frames_from}

abbrev pub progress_view : ProgressRecord → Progress
progress_view p = record { link = p.link; pace = p.pace; state = p.generator }

-- the frame without its check sequence
abbrev pub unfinished : Series → FrameValue
unfinished s = record (frame_view s.frame) { packet = take s.len s.frame.bytes.items }

abbrev pub IsFinished : Settings → Series → Type 0
IsFinished settings s = frame_view s.frame ≡ finished settings (unfinished s)

-- .. and how many bytes the check sequence has
abbrev pub sequence_len : Settings → (link : ℕ) → ℕ
sequence_len settings link = if settings.fcs && nat_eq link 1 then 4 else 0

-- the frames of an object: the first one is finished
pub record IsSeries (settings : Settings) (t : TemplateValue) (s : Series) : Type 0 where
  pub first : unfinished s ≡ padded settings.pad t.frame
  pub is_finished : IsFinished settings s
  pub len : s.len ≡ length (padded settings.pad t.frame).packet
  pub whole : length s.frame.bytes.items ≡ s.len + sequence_len settings s.frame.link
  pub slots : s.slots.items ≡ t.found.slots

abbrev pub series_frames : Settings → Progress → (count : ℕ) → Series → List FrameValue
series_frames settings progress count s =
    frames_from count 0 progress.state (time_at settings.rate progress.pace s.frame.time) s.slots.items s.frame.link
    (take s.len s.frame.bytes.items)

abbrev pub after_series : Settings → Progress → (count : ℕ) → Series → Progress
after_series settings progress count s = record {
  link = all_linked progress.link (series_frames settings progress count s);
  pace = paced settings.rate count s.frame.time progress.pace;
  state = after_frames count s.slots.items progress.state;
}

-- the frames of a line, if it is not refused and memory is not short
pub record IsSeriesOf (settings : Settings) (progress : Progress) (text : List ℕ) (s : Series) (count : ℕ)
    : Type 0 where
  pub template : TemplateValue
  pub means : LineMeans progress.link text (Ok template)
  pub few : is_counted settings template ≡ true
  pub timely : is_timely settings progress template ≡ true
  pub series : IsSeries settings template s
  pub counted : count ≡ frame_count settings template

abbrev pub SeriesOf : Settings → Progress → (text : List ℕ) → Result (Series × ℕ) LineFault → Type 0
SeriesOf settings progress text (Ok made) = IsSeriesOf settings progress text made.0 made.1
SeriesOf settings progress text (Err fault) = IfTold (λ r. Refuses settings progress text r) (fault_view fault)
