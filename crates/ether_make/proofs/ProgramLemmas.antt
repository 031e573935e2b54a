-- A run, line by line.
use Rattle.std.proofs.Common.{◌≡◌, ◌≢◌, ℕ, ◌+◌, ◌-◌, ◌≤◌, List, [], ◌∷◌, ◌++◌, length, map, Option, Some, None, IfSome, Err, Bool, true, false, All, refl, sym, ap, subst, ◌∙◌, arith, append_assoc}
use Rattle.std.proofs.lemmas.List.{append-nil, map-append, take_at, length_push}
use Rattle.std.proofs.lemmas.List.Elements.{All-take}
use Rattle.std.proofs.KnownBytes.{Consumes-nil, Consumes-trans, Appends-kept, Appends-nil, Appends-trans}
use Rattle.std.specs.Io.KnownBytes.{Appends, Consumes, IsAtEnd, Keeps}
use Rattle.std.specs.Io.{StopsAt}
use Rattle.ether_make.specs.Captures.{Ends, Grows}
use Rattle.ether_make.specs.Frames.{FrameValue}
use Rattle.ether_make.specs.Outputs.{IsBegunAs, IsOutputBegun, IsWrittenAs, finished}
use Rattle.ether_make.specs.declared.settings.Settings.{Settings}
use Rattle.ether_make.specs.declared.series.Series.{Series}
use Rattle.ether_make.specs.Lines.{LineMeans, LineRefusal, LinesMean, Progress, Refuses, all_linked, beginning, linked, frames_of, is_blank, lines_in, longest}
use Rattle.ether_make.specs.Lines as meant
use Rattle.ether_make.specs.LineViews.{IfTold, fault_view}
use Rattle.ether_make.specs.Program.{Ran, HasMade, HasBroken, AfterLine, AfterFault, AfterReading, ReadsLine, TakesLine, RefusesLine, AfterTaking, Continues, IsWhole, line_end}
use Rattle.ether_make.specs.Program as takes
use Rattle.ether_make.specs.Serial.{IsSeriesOf, after_series, series_frames}
use Rattle.ether_make.specs.declared.lines.Stop.{Stop}
use Rattle.ether_make.specs.declared.program.RunFault.{RunFault}
use Rattle.ether_make.specs.declared.program.RunFault.TheVariants as runs
use Rattle.ether_make.proofs.OutputLemmas.{begun-nothing}
use Rattle.ether_make.proofs.SeriesLemmas.{after-series, series-frames}
use Rattle.ether_make.proofs.LineLemmas.{line-fits, lines-ended, lines-last, padded-fits}

-- what the lines before the one with this number mean, and what they leave to it
abbrev pub Means : Settings → (first : Progress) → (number : ℕ) → Progress → (text : List ℕ)
    → (frames : List FrameValue) → Type 0
Means settings first number progress text frames = (later : List ℕ) (more : List FrameValue)
    (stop : Option (ℕ × LineRefusal)) (last : Progress)
    → LinesMean settings number progress last (lines_in later) more stop
    → LinesMean settings 1 first last (lines_in (text ++ later)) (frames ++ more) stop

-- all lines before the one with this number are read, made and written
pub record Doing (settings : Settings) (first : Progress) (before now held holds : Option (List ℕ)) (number : ℕ)
    (progress : Progress)
    : Type 0 where
  pub text : List ℕ
  pub frames : List FrameValue
  pub bytes : List ℕ
  pub read : Consumes before now text
  pub begun : Continues settings first progress progress frames bytes
  pub written : Appends held holds bytes
  pub means : Means settings first number progress text frames

-- ---- a line that is read

same_written : (held mid holds : Option (List ℕ)) (bytes : List ℕ) → Appends held mid bytes → Appends mid holds []
    → Appends held holds bytes
same_written held mid holds bytes a b =
    subst (λ (bs : List ℕ). Appends held holds bs) (append-nil bytes) (Appends-trans held mid holds bytes [] a b)

whole_text : (text line later : List ℕ) → text ++ (line ++ 10 ∷ later) ≡ (text ++ (line ++ 10 ∷ [])) ++ later
whole_text text line later =
    ap (λ l. text ++ l) (sym (append_assoc line (10 ∷ []) later)) ∙ sym (append_assoc text (line ++ 10 ∷ []) later)

ended_means : (settings : Settings) (first : Progress) (number after : ℕ) (progress next : Progress)
    (text line : List ℕ) (frames new : List FrameValue) → All (λ c. c ≢ 10) line
    → Means settings first number progress text frames
    → ((lines : List (List ℕ)) (more : List FrameValue) (stop : Option (ℕ × LineRefusal)) (last : Progress)
    → LinesMean settings after next last lines more stop
    → LinesMean settings number progress last (line ∷ lines) (new ++ more) stop)
    → Means settings first after next (text ++ (line ++ 10 ∷ [])) (frames ++ new)
ended_means settings first number after progress next text line frames new one means step later more stop last h =
    let Whole = LinesMean settings 1 first last in
    subst (λ (t : List ℕ). Whole (lines_in t) ((frames ++ new) ++ more) stop) (whole_text text line later)
    (subst (λ (fs : List FrameValue). Whole (lines_in (text ++ (line ++ 10 ∷ later))) fs stop)
    (sym (append_assoc frames new more))
    (means (line ++ 10 ∷ later) (new ++ more) stop last
    (subst (λ (ls : List (List ℕ)). LinesMean settings number progress last ls (new ++ more) stop)
    (sym (lines-ended line later one))
    (step (lines_in later) more stop last h))))

pub continues-nothing : (settings : Settings) (progress : Progress)
    → Continues settings progress progress progress [] []
continues-nothing settings progress = record {
  is_last = refl;
  begun = λ earlier front h.
      subst (λ (fs : List FrameValue). IsOutputBegun settings progress.link fs (front
      ++ [])) (sym (append-nil earlier))
      (subst (λ (bs : List ℕ). IsOutputBegun settings progress.link earlier bs) (sym (append-nil front)) h);
}

-- more frames
grown : (settings : Settings) (first progress next : Progress) (frames new : List FrameValue) (bytes : List ℕ)
    (held holds : Option (List ℕ)) → Continues settings first progress progress frames bytes
    → (g : Grows (IsBegunAs settings.form settings.fcs) progress.link next.link (map (finished settings) new) held
    holds) → Continues settings first next next (frames ++ new) (bytes ++ g.more)
grown settings first progress next frames new bytes held holds c g = record {
  is_last = refl;
  begun = λ earlier front h.
      subst (λ (fs : List FrameValue). IsOutputBegun settings next.link fs (front ++ (bytes ++ g.more)))
      (append_assoc earlier frames new)
      (subst (λ (bs : List ℕ). IsOutputBegun settings next.link ((earlier ++ frames) ++ new) bs)
      (append_assoc front bytes g.more)
      (subst (λ (fs : List FrameValue). IsBegunAs settings.form settings.fcs next.link fs
      ((front ++ bytes) ++ g.more)) (sym (map-append (finished settings) (earlier ++ frames) new))
      (g.begun (map (finished settings) (earlier ++ frames)) (front ++ bytes) (c.begun earlier front h))));
}

pub doing-begin : (settings : Settings) (first : Progress) (before held : Option (List ℕ))
    → Doing settings first before before held held 1 first
doing-begin settings first before held = record {
  text = [];
  frames = [];
  bytes = [];
  read = Consumes-nil before;
  begun = continues-nothing settings first;
  written = Appends-nil held;
  means = λ later more stop last h. h;
}

-- a writer that was flushed
pub doing-kept : (settings : Settings) (first : Progress) (before now held mid holds : Option (List ℕ)) (number : ℕ)
    (progress : Progress) → Doing settings first before now held mid number progress → Keeps mid holds
    → Doing settings first before now held holds number progress
doing-kept settings first before now held mid holds number progress d kept = record {
  text = d.text;
  frames = d.frames;
  bytes = d.bytes;
  read = d.read;
  begun = d.begun;
  written = Appends-kept held mid holds d.bytes d.written kept;
  means = d.means;
}

-- what is written of the frames of a line
pub line-taken : (settings : Settings) (text : List ℕ) (held holds : Option (List ℕ)) (progress next : Progress)
    (count : ℕ) (s : Series) → is_blank text ≡ false → (made : IsSeriesOf settings progress text s count)
    → Grows (IsBegunAs settings.form settings.fcs) progress.link
    (all_linked progress.link (series_frames settings progress count s))
    (map (finished settings) (series_frames settings progress count s)) held holds
    → next ≡ after_series settings progress count s → TakesLine settings text held holds progress next
line-taken settings text held holds progress next count s some made grows is =
    let t = made.template in
    let same : series_frames settings progress count s ≡ frames_of settings progress t =
    series-frames settings progress t count s made.series made.counted in
    subst (λ (p : Progress). TakesLine settings text held holds progress p)
    (sym (is ∙ after-series settings progress t count s made.series made.counted))
    (takes.some progress t some made.means made.few made.timely
    (subst (λ (fs : List FrameValue). Grows (IsBegunAs settings.form settings.fcs) progress.link
    (all_linked progress.link fs) (map (finished settings) fs) held holds) same grows))

-- frames of a line are no longer than packets of a capture
pub series-fits : (settings : Settings) (progress : Progress) (text : List ℕ) (s : Series) (count : ℕ)
    → IsSeriesOf settings progress text s count → s.len ≤ longest
series-fits settings progress text s count made =
    let t = made.template in
    omega (arith, made.series.len, padded-fits settings.pad t.frame (line-fits progress.link text t made.means))

-- a line whose frames would be too late
pub told-late : (settings : Settings) (progress : Progress) (text : List ℕ) (r : LineRefusal)
    (told : Option LineRefusal) → Refuses settings progress text r → IfTold (λ t. t ≡ r) told
    → IfTold (λ t. Refuses settings progress text t) told
told-late settings progress text r None h e = tt
told-late settings progress text r (Some t) h e =
    subst (λ (x : LineRefusal). Refuses settings progress text x) (sym e) h

pub told-refused : (settings : Settings) (progress : Progress) (text : List ℕ) (told : Option LineRefusal)
    → IfTold (λ t. LineMeans progress.link text (Err t)) told → IfTold (λ t. Refuses settings progress text t) told
told-refused settings progress text None h = tt
told-refused settings progress text (Some t) h = meant.meaning t h

pub doing-line : (settings : Settings) (first : Progress) (before now after held mid holds : Option (List ℕ))
    (number : ℕ) (line : List ℕ)
    (progress next : Progress) → Doing settings first before now held mid number progress
    → ReadsLine now after line true
    → TakesLine settings line mid holds progress next → Doing settings first before after held holds (number + 1) next
doing-line settings first before now after held mid holds number line progress next d r (takes.blank p e a) = record {
  text = d.text ++ (line ++ 10 ∷ []);
  frames = d.frames ++ [];
  bytes = d.bytes;
  read = Consumes-trans before now after d.text (line ++ 10 ∷ []) d.read r.read;
  begun = subst (λ (fs : List FrameValue). Continues settings first p p fs d.bytes)
      (sym (append-nil d.frames)) d.begun;
  written = same_written held mid holds d.bytes d.written a;
  means = ended_means settings first number (number + 1) p p d.text line d.frames [] r.one_line d.means
      (λ lines more stop last h. meant.blank number p last line lines more stop e h);
}
doing-line settings first before now after held mid holds number line progress next d r
    (takes.some p t some means few timely g)
    = record {
      text = d.text ++ (line ++ 10 ∷ []);
      frames = d.frames ++ frames_of settings p t;
      bytes = d.bytes ++ g.more;
      read = Consumes-trans before now after d.text (line ++ 10 ∷ []) d.read r.read;
      begun = grown settings first p (meant.after settings p t) d.frames (frames_of settings p t) d.bytes mid holds
          d.begun g;
      written = Appends-trans held mid holds d.bytes g.more d.written g.written;
      means = ended_means settings first number (number + 1) p _ d.text line d.frames (frames_of settings p t)
          r.one_line d.means
          (λ lines more stop last h. meant.some number p last line t lines more stop some means few timely h);
    }

-- ---- the last line

last_means : (settings : Settings) (first : Progress) (number : ℕ) (progress last : Progress) (text line : List ℕ)
    (frames new : List FrameValue) (stop : Option (ℕ × LineRefusal)) → All (λ c. c ≢ 10) line
    → Means settings first number progress text frames
    → LinesMean settings number progress last (line ∷ []) new stop
    → LinesMean settings 1 first last (lines_in (text ++ line)) (frames ++ new) stop
last_means settings first number progress last text line frames new stop one means h =
    means line new stop last
    (subst (λ (ls : List (List ℕ)). LinesMean settings number progress last ls new stop) (sym (lines-last line one)) h)

known_end : (before now after : Option (List ℕ)) (text : List ℕ) → Consumes before now text
    → IfSome now (λ xs. IsAtEnd after) → IfSome before (λ xs. IsAtEnd after)
known_end None now after text c h = tt
known_end (Some xs) None after text c h = absurd c
known_end (Some xs) (Some ys) after text c h = h

read_last : (before now after : Option (List ℕ)) (text line : List ℕ) → Consumes before now text
    → Consumes now after (line ++ []) → Consumes before after ((text ++ line) ++ [])
read_last before now after text line a b =
    subst (λ (bs : List ℕ). Consumes before after bs) (sym (append_assoc text line []))
    (Consumes-trans before now after text (line ++ []) a b)

pub doing-last : (settings : Settings) (first : Progress) (before now after held mid holds : Option (List ℕ))
    (number : ℕ) (line : List ℕ)
    (progress next : Progress) → Doing settings first before now held mid number progress
    → ReadsLine now after line false
    → TakesLine settings line mid holds progress next
    → HasMade settings first (Continues settings first next) before after held holds
doing-last settings first before now after held mid holds number line progress next d r (takes.blank p e a) = record {
  ran = record {
    text = d.text ++ line;
    frames = d.frames ++ [];
    last = p;
    bytes = d.bytes;
    read = read_last before now after d.text line d.read r.read;
    means = last_means settings first number p p d.text line d.frames [] None r.one_line d.means
        (meant.blank number p p line [] [] None e (meant.none (number + 1) p));
    is_written = subst (λ (fs : List FrameValue). Continues settings first p p fs d.bytes)
        (sym (append-nil d.frames))
        d.begun;
    written = same_written held mid holds d.bytes d.written a;
  };
  at_end = known_end before now after d.text d.read (r.at_end refl);
}
doing-last settings first before now after held mid holds number line progress next d r
    (takes.some p t some means few timely g)
    = record {
      ran = record {
        text = d.text ++ line;
        frames = d.frames ++ (frames_of settings p t ++ []);
        last = meant.after settings p t;
        bytes = d.bytes ++ g.more;
        read = read_last before now after d.text line d.read r.read;
        means = last_means settings first number p (meant.after settings p t) d.text line d.frames
            (frames_of settings p t ++ []) None r.one_line d.means
            (meant.some number p _ line t [] [] None some means few timely (meant.none (number + 1) _));
        is_written =
            subst (λ (fs : List FrameValue). Continues settings first (meant.after settings p t)
            (meant.after settings p t)
            (d.frames ++ fs) (d.bytes ++ g.more))
            (sym (append-nil (frames_of settings p t)))
            (grown settings first p (meant.after settings p t) d.frames (frames_of settings p t) d.bytes mid holds
            d.begun g);
        written = Appends-trans held mid holds d.bytes g.more d.written g.written;
      };
      at_end = known_end before now after d.text d.read (r.at_end refl);
    }

-- ---- a line that ends the run

-- what the text so far means, if nothing of the next line is made
so_far : (settings : Settings) (first : Progress) (number : ℕ) (progress : Progress) (text : List ℕ)
    (frames : List FrameValue) → Means settings first number progress text frames
    → LinesMean settings 1 first progress (lines_in text) frames None
so_far settings first number progress text frames means =
    let Whole = LinesMean settings 1 first progress in
    subst (λ (t : List ℕ). Whole (lines_in t) frames None) (append-nil text)
    (subst (λ (fs : List FrameValue). Whole (lines_in (text ++ [])) fs None) (append-nil frames)
    (means [] [] None progress
    (meant.blank number progress progress [] [] [] None refl (meant.none (number + 1) progress))))

pub doing-broken : (settings : Settings) (first : Progress) (before now after held mid holds : Option (List ℕ))
    (number : ℕ)
    (progress : Progress) (part : List ℕ) → Doing settings first before now held mid number progress
    → Consumes now after part → StopsAt part 10
    → Appends mid holds [] → HasBroken settings first (Continues settings first progress) before after
    held holds
doing-broken settings first before now after held mid holds number progress part d reads one a = record {
  part = part;
  one_line = one;
  ran = record {
    text = d.text;
    frames = d.frames;
    last = progress;
    bytes = d.bytes;
    read = Consumes-trans before now after d.text part d.read reads;
    means = so_far settings first number progress d.text d.frames d.means;
    is_written = d.begun;
    written = same_written held mid holds d.bytes d.written a;
  };
}

-- the reader or the writer failed before a line was made
pub doing-unread : (settings : Settings) (first : Progress) (before now after held mid holds : Option (List ℕ))
    (number : ℕ) (progress : Progress) (line : List ℕ) (fault : RunFault)
    → Doing settings first before now held mid number progress → Keeps mid holds → AfterReading now after line fault
    → AfterFault settings first (Continues settings first progress) before after held holds fault
doing-unread settings first before now after held mid holds number progress line (runs.Line stop) d kept f = absurd f
doing-unread settings first before now after held mid holds number progress line (runs.Input error) d kept f =
    doing-broken settings first before now after held holds holds number progress line
    (doing-kept settings first before now held mid holds number progress d kept) f.read f.one_line (Appends-nil holds)
doing-unread settings first before now after held mid holds number progress line (runs.Output error) d kept f = tt

stops_at : (line : List ℕ) (is_ended : Bool) → All (λ c. c ≢ 10) line → StopsAt (line ++ line_end is_ended) 10
stops_at line true h =
    subst (λ (l : List ℕ). All (λ c. c ≢ 10) l)
    (sym (take_at line (10 ∷ []) (length (line ++ 10 ∷ []) - 1) (omega (arith, length_push line 10)))) h
stops_at line false h =
    All-take (λ c. c ≢ 10) (length (line ++ []) - 1) (line ++ [])
    (subst (λ (l : List ℕ). All (λ c. c ≢ 10) l) (sym (append-nil line)) h)

refused_lines : (line : List ℕ) (is_ended : Bool) → All (λ c. c ≢ 10) line
    → (later : List (List ℕ)) × (lines_in (line ++ line_end is_ended) ≡ line ∷ later)
refused_lines line true h = (lines_in [], lines-ended line [] h)
refused_lines line false h = ([], ap lines_in (append-nil line) ∙ lines-last line h)

after_line : (settings : Settings) (first : Progress) (before now after held mid holds : Option (List ℕ)) (number : ℕ)
    (progress : Progress) (line : List ℕ) (is_ended : Bool) (told : Option LineRefusal)
    → Doing settings first before now held mid number progress → ReadsLine now after line is_ended
    → is_blank line ≡ false
    → IfTold (λ r. Refuses settings progress line r) told → Appends mid holds []
    → AfterLine settings first (Continues settings first progress) before after held holds number told
after_line settings first before now after held mid holds number progress line is_ended None d r some means a =
    doing-broken settings first before now after held mid holds number progress (line ++ line_end is_ended) d r.read
    (stops_at line is_ended r.one_line) a
after_line settings first before now after held mid holds number progress line is_ended (Some told) d r some means a =
    let lines = refused_lines line is_ended r.one_line in
    record {
      text = d.text ++ (line ++ line_end is_ended);
      frames = d.frames ++ [];
      last = progress;
      bytes = d.bytes;
      read =
          subst (λ (bs : List ℕ). Consumes before after bs) (sym (append-nil (d.text ++ (line ++ line_end is_ended))))
          (Consumes-trans before now after d.text (line ++ line_end is_ended) d.read r.read);
      means =
          d.means (line ++ line_end is_ended) [] (Some (number, told)) progress
          (subst (λ (ls : List (List ℕ)). LinesMean settings number progress progress ls [] (Some (number, told)))
          (sym lines.1)
          (meant.refused number progress line lines.0 told some means));
      is_written =
          subst (λ (fs : List FrameValue). Continues settings first progress progress fs d.bytes)
          (sym (append-nil d.frames)) d.begun;
      written = same_written held mid holds d.bytes d.written a;
    }

pub doing-refused : (settings : Settings) (first : Progress) (before now after held mid holds : Option (List ℕ))
    (number : ℕ)
    (progress next : Progress) (line : List ℕ) (is_ended : Bool) (stop : Stop)
    → Doing settings first before now held mid number progress → ReadsLine now after line is_ended
    → RefusesLine settings number line mid holds progress next stop
    → AfterLine settings first (Continues settings first next) before after held holds stop.line
    (fault_view stop.fault)
doing-refused settings first before now after held mid holds number progress next line is_ended stop d r f =
    subst (λ (n : ℕ). AfterLine settings first (Continues settings first next) before after held holds n
    (fault_view stop.fault)) (sym f.line)
    (subst (λ (p : Progress). AfterLine settings first (Continues settings first p) before after held
    holds number
    (fault_view stop.fault)) (sym f.same)
    (after_line settings first before now after held mid holds number progress line is_ended
    (fault_view stop.fault) d r
    f.some f.means f.unwritten))

-- .. in a run, by the fault of the line
pub doing-fault : (settings : Settings) (first : Progress) (before now after held mid holds : Option (List ℕ))
    (number : ℕ)
    (progress next : Progress) (line : List ℕ) (is_ended : Bool) (fault : RunFault)
    → Doing settings first before now held mid number progress → ReadsLine now after line is_ended
    → AfterTaking settings number line mid holds progress next fault
    → AfterFault settings first (Continues settings first next) before after held holds fault
doing-fault settings first before now after held mid holds number progress next line is_ended (runs.Line stop) d r f =
    doing-refused settings first before now after held mid holds number progress next line is_ended stop d r f
doing-fault settings first before now after held mid holds number progress next line is_ended (runs.Input error) d
    r f =
    absurd f
doing-fault settings first before now after held mid holds number progress next line is_ended (runs.Output error) d
    r f = tt

-- ---- the end

ran-ends : (settings : Settings) (next : Progress) (before after held mid holds : Option (List ℕ))
    (stop : Option (ℕ × LineRefusal)) (part : List ℕ)
    → Ran settings (beginning settings.seed) (Continues settings (beginning settings.seed) next) before after held
    mid stop part
    → Ends (IsBegunAs settings.form settings.fcs)
    (IsWrittenAs settings.form settings.fcs) next.link mid holds
    → Ran settings (beginning settings.seed) (IsWhole settings) before after held holds stop part
ran-ends settings next before after held mid holds stop part r e = record {
  text = r.text;
  frames = r.frames;
  last = r.last;
  bytes = r.bytes ++ e.more;
  read = r.read;
  means = r.means;
  is_written =
      e.whole (map (finished settings) r.frames) r.bytes
      (r.is_written.begun [] [] (begun-nothing settings.form settings.fcs));
  written = Appends-trans held mid holds r.bytes e.more r.written e.written;
}

pub made-ends : (settings : Settings) (next : Progress) (before after held mid holds : Option (List ℕ))
    → HasMade settings (beginning settings.seed) (Continues settings (beginning settings.seed) next) before after
    held mid
    → Ends (IsBegunAs settings.form settings.fcs)
    (IsWrittenAs settings.form settings.fcs) next.link mid holds
    → HasMade settings (beginning settings.seed) (IsWhole settings) before after held holds
made-ends settings next before after held mid holds m e = record {
  ran = ran-ends settings next before after held mid holds None [] m.ran e;
  at_end = m.at_end;
}

broken-ends : (settings : Settings) (next : Progress) (before after held mid holds : Option (List ℕ))
    → HasBroken settings (beginning settings.seed) (Continues settings (beginning settings.seed) next) before after
    held mid
    → Ends (IsBegunAs settings.form settings.fcs)
    (IsWrittenAs settings.form settings.fcs) next.link mid holds
    → HasBroken settings (beginning settings.seed) (IsWhole settings) before after held holds
broken-ends settings next before after held mid holds b e = record {
  part = b.part;
  one_line = b.one_line;
  ran = ran-ends settings next before after held mid holds None b.part b.ran e;
}

line-ends : (settings : Settings) (next : Progress) (before after held mid holds : Option (List ℕ)) (line : ℕ)
    (told : Option LineRefusal) → AfterLine settings (beginning settings.seed)
    (Continues settings (beginning settings.seed) next)
    before after held mid line told
    → Ends (IsBegunAs settings.form settings.fcs) (IsWrittenAs settings.form settings.fcs) next.link mid holds
    → AfterLine settings (beginning settings.seed) (IsWhole settings) before after held holds line told
line-ends settings next before after held mid holds line None h e = broken-ends settings next before after held mid
    holds h e
line-ends settings next before after held mid holds line (Some r) h e =
    ran-ends settings next before after held mid holds (Some (line, r)) [] h e

pub fault-ends : (settings : Settings) (next : Progress) (before after held mid holds : Option (List ℕ))
    (fault : RunFault)
    → AfterFault settings (beginning settings.seed) (Continues settings (beginning settings.seed) next) before
    after held mid fault
    → Ends (IsBegunAs settings.form settings.fcs)
    (IsWrittenAs settings.form settings.fcs) next.link mid holds
    → AfterFault settings (beginning settings.seed) (IsWhole settings) before after held holds fault
fault-ends settings next before after held mid holds (runs.Line stop) h e =
    line-ends settings next before after held mid holds stop.line (fault_view stop.fault) h e
fault-ends settings next before after held mid holds (runs.Input error) h e =
    broken-ends settings next before after held mid holds h e
fault-ends settings next before after held mid holds (runs.Output error) h e = tt
