-- The frames of a line, one after another.
use Rattle.std.proofs.Common.{◌≡◌, suc, Some, None, ◌+◌, ◌-◌, ◌≤◌, ◌&&◌, nat_eq, if◌then◌else◌, ℕ, List, [], ◌∷◌, ◌++◌, length, map, take, Option, Bool, append_assoc, true, false, true≢false, refl, sym, ap, ap₂, subst, ◌∙◌, arith}
use Rattle.std.proofs.lemmas.List.{append-nil, map-append, take_all}
use Rattle.std.proofs.Math.Seq.{take-append_seam}
use Rattle.std.proofs.KnownBytes.{Appends-nil, Appends-trans}
use Rattle.ether_make.specs.Captures.{Grows}
use Rattle.ether_pcap.specs.Writing.{zeros}
use Rattle.ether_make.specs.CheckSequences.{check_sequence}
use Rattle.ether_make.specs.declared.frame.Frame.{Frame}
use Rattle.ether_make.specs.declared.settings.Settings.{Settings}
use Rattle.ether_make.specs.Frames.{FrameValue, padded}
use Rattle.ether_make.specs.FrameViews.{frame_view}
use Rattle.ether_make.specs.declared.series.Series.{Series}
use Rattle.ether_make.specs.Lines.{Progress, after, all_linked, frame_count, frames_of, linked, paced, time_at}
use Rattle.ether_make.specs.Outputs.{IsBegunAs, finished, with_sequence}
use Rattle.ether_make.specs.Serial.{IsSeries, after_series, sequence_len, series_frames}
use Rattle.ether_make.specs.Templates.{TemplateValue, after_frames, all_drawn, frames_from, numbered}

if-link : (b : Bool) (f g : FrameValue) → g.link ≡ f.link → (if b then g else f).link ≡ f.link
if-link true f g e = e
if-link false f g e = refl

if-time : (b : Bool) (f g : FrameValue) → g.time ≡ f.time → (if b then g else f).time ≡ f.time
if-time true f g e = e
if-time false f g e = refl

-- bytes before their check sequence
pub take-sequence : (fcs : Bool) (bytes : List ℕ) → take (length bytes) (with_sequence fcs bytes) ≡ bytes
take-sequence false bytes = take_all (length bytes) bytes (omega arith)
take-sequence true bytes = take-append_seam bytes (check_sequence bytes)

pub sequence-made : (fcs : Bool) (bytes packet sequence : List ℕ) → fcs ≡ true → packet ≡ bytes
    → sequence ≡ check_sequence packet → packet ++ sequence ≡ with_sequence fcs bytes
sequence-made false bytes packet sequence e p s = absurd (true≢false (sym e))
sequence-made true bytes packet sequence e p s = ap₂ (λ (x y : List ℕ). x ++ y) p (s ∙ ap check_sequence p)

pub sequence-left : (fcs : Bool) (bytes packet sequence : List ℕ) → fcs ≡ false → packet ≡ bytes
    → sequence ≡ [] → packet ++ sequence ≡ with_sequence fcs bytes
sequence-left true bytes packet sequence e p s = absurd (true≢false e)
sequence-left false bytes packet sequence e p s = ap₂ (λ (x y : List ℕ). x ++ y) p s ∙ append-nil bytes

pub none-left : (fcs : Bool) (len total : ℕ) (xs : List ℕ) → fcs ≡ false → total ≡ len + (if fcs then 4 else 0)
    → length xs ≡ total - len → xs ≡ []
none-left true len total xs f e h = absurd (true≢false f)
none-left false len total [] f e h = refl
none-left false len total (x ∷ xs) f e h = absurd (omega arith)

-- a frame that is finished, without its check sequence
pub unfinished-first : (settings : Settings) (frame : FrameValue) (whole : Frame) (len : ℕ)
    → frame_view whole ≡ finished settings frame → len ≡ length frame.packet
    → record (frame_view whole) { packet = take len whole.bytes.items } ≡ frame
unfinished-first settings frame whole len f l =
    ap₂ (λ (v : FrameValue) (n : ℕ). record v { packet = take n v.packet }) f l
    ∙ ap (λ (p : List ℕ). record frame { packet = p })
    (take-sequence (settings.fcs && nat_eq frame.link 1) frame.packet)

pub padded-link : (pad : Bool) (f : FrameValue) → (padded pad f).link ≡ f.link
padded-link false f = refl
padded-link true f = if-link (nat_eq f.link 1) f (record f { packet = f.packet ++ zeros (60 - length f.packet) }) refl

pub padded-time : (pad : Bool) (f : FrameValue) → (padded pad f).time ≡ f.time
padded-time false f = refl
padded-time true f = if-time (nat_eq f.link 1) f (record f { packet = f.packet ++ zeros (60 - length f.packet) }) refl

same-link : (settings : Settings) (t : TemplateValue) (s : Series) → IsSeries settings t s
    → s.frame.link ≡ t.frame.link
same-link settings t s made = ap (λ f. f.link) made.first ∙ padded-link settings.pad t.frame

same-time : (settings : Settings) (t : TemplateValue) (s : Series) → IsSeries settings t s
    → s.frame.time ≡ t.frame.time
same-time settings t s made = ap (λ f. f.time) made.first ∙ padded-time settings.pad t.frame

-- the frames of an object are those that its series has
pub series-frames : (settings : Settings) (progress : Progress) (t : TemplateValue) (count : ℕ) (s : Series)
    → IsSeries settings t s → count ≡ frame_count settings t
    → series_frames settings progress count s ≡ frames_of settings progress t
series-frames settings progress t count s made counted =
    λ i. frames_from (counted i) 0 progress.state
    (time_at settings.rate progress.pace (same-time settings t s made i)) (made.slots i)
    (same-link settings t s made i) (ap (λ f. f.packet) made.first i)

pub after-series : (settings : Settings) (progress : Progress) (t : TemplateValue) (count : ℕ) (s : Series)
    → IsSeries settings t s → count ≡ frame_count settings t
    → after_series settings progress count s ≡ after settings progress t
after-series settings progress t count s made counted =
    λ i. record {
      link = all_linked progress.link (series-frames settings progress t count s made counted i);
      pace = paced settings.rate (counted i) (same-time settings t s made i) progress.pace;
      state = after_frames (counted i) (made.slots i) progress.state;
    }

four-or-none : (b : Bool) → (if b then 4 else 0) ≤ 4
four-or-none true = omega arith
four-or-none false = omega arith

pub sequence-small : (settings : Settings) (link : ℕ) → sequence_len settings link ≤ 4
sequence-small settings link = four-or-none (settings.fcs && nat_eq link 1)

-- ---- one frame after another

Grows-nil : (IsBegun : Option ℕ → List FrameValue → List ℕ → Type 0) (link : Option ℕ) (held : Option (List ℕ))
    → Grows IsBegun link link [] held held
Grows-nil IsBegun link held = record {
  more = [];
  written = Appends-nil held;
  begun = λ done bytes h.
      subst (λ (fs : List FrameValue). IsBegun link fs (bytes ++ [])) (sym (append-nil done))
      (subst (λ (bs : List ℕ). IsBegun link done bs) (sym (append-nil bytes)) h);
}

pub Grows-trans : (IsBegun : Option ℕ → List FrameValue → List ℕ → Type 0) (a b c : Option ℕ)
    (xs ys : List FrameValue) (held mid holds : Option (List ℕ)) → Grows IsBegun a b xs held mid
    → Grows IsBegun b c ys mid holds → Grows IsBegun a c (xs ++ ys) held holds
Grows-trans IsBegun a b c xs ys held mid holds g h = record {
  more = g.more ++ h.more;
  written = Appends-trans held mid holds g.more h.more g.written h.written;
  begun = λ done bytes begun.
      subst (λ (fs : List FrameValue). IsBegun c fs (bytes ++ (g.more ++ h.more))) (append_assoc done xs ys)
      (subst (λ (bs : List ℕ). IsBegun c ((done ++ xs) ++ ys) bs) (append_assoc bytes g.more h.more)
      (h.begun (done ++ xs) (bytes ++ g.more) (g.begun done bytes begun)));
}

-- what is written when so many frames are left, and what they are
pub record Writing (settings : Settings) (progress : Progress) (count : ℕ) (s : Series) (held holds : Option (List ℕ))
    (left index state : ℕ) (link : Option ℕ) (packet : List ℕ) : Type 0 where
  pub done : List FrameValue
  pub grows : Grows (IsBegunAs settings.form settings.fcs) progress.link link (map (finished settings) done) held holds
  pub linked : link ≡ all_linked progress.link done
  pub frames : done ++ frames_from left index state (time_at settings.rate progress.pace s.frame.time) s.slots.items
      s.frame.link packet ≡ series_frames settings progress count s
  pub states : after_frames left s.slots.items state ≡ after_frames count s.slots.items progress.state

pub writing-begin : (settings : Settings) (progress : Progress) (count : ℕ) (s : Series) (held : Option (List ℕ))
    → Writing settings progress count s held held count 0 progress.state progress.link (take s.len s.frame.bytes.items)
writing-begin settings progress count s held = record {
  done = [];
  grows = Grows-nil (IsBegunAs settings.form settings.fcs) progress.link held;
  linked = refl;
  frames = refl;
  states = refl;
}

linked-push : (link : Option ℕ) (done : List FrameValue) (f : FrameValue)
    → all_linked link (done ++ f ∷ []) ≡ linked (all_linked link done) f
linked-push link [] f = refl
linked-push link (d ∷ done) f = linked-push (linked link d) done f

finished-linked : (settings : Settings) (link : Option ℕ) (f : FrameValue)
    → linked link (finished settings f) ≡ linked link f
finished-linked settings None f = refl
finished-linked settings (Some link) f = refl

-- one frame more
pub writing-more : (settings : Settings) (progress : Progress) (count : ℕ) (s : Series)
    (held mid holds : Option (List ℕ)) (left index state : ℕ) (link : Option ℕ) (packet : List ℕ) (f g : FrameValue)
    → Writing settings progress count s held mid (suc left) index state link packet
    → f ≡ record {
      link = s.frame.link;
      time = time_at settings.rate progress.pace s.frame.time index;
      packet = numbered index state s.slots.items packet;
    }
    → g ≡ finished settings f
    → Grows (IsBegunAs settings.form settings.fcs) link (linked link g) (g ∷ []) mid holds
    → Writing settings progress count s held holds left (index + 1) (all_drawn s.slots.items state) (linked link g)
    f.packet
writing-more settings progress count s held mid holds left index state link packet f g w is done grows =
    let IsBegun = IsBegunAs settings.form settings.fcs in
    record {
      done = w.done ++ f ∷ [];
      grows =
          subst (λ (fs : List FrameValue). Grows IsBegun progress.link (linked link g) fs held holds)
          (sym (map-append (finished settings) w.done (f ∷ [])))
          (Grows-trans IsBegun progress.link link (linked link g) (map (finished settings) w.done)
          (finished settings f ∷ []) held mid holds w.grows
          (subst (λ (x : FrameValue). Grows IsBegun link (linked link g) (x ∷ []) mid holds) done grows));
      linked =
          ap (linked link) done ∙ finished-linked settings link f ∙ ap (λ l. linked l f) w.linked
          ∙ sym (linked-push progress.link w.done f);
      frames =
          append_assoc w.done (f ∷ []) _
          ∙ ap (λ (x : FrameValue). w.done ++ x ∷ frames_from left (index + 1) (all_drawn s.slots.items state)
          (time_at settings.rate progress.pace s.frame.time) s.slots.items s.frame.link x.packet) is
          ∙ w.frames;
      states = w.states;
    }

pub writing-end : (settings : Settings) (progress : Progress) (count : ℕ) (s : Series) (held holds : Option (List ℕ))
    (index state : ℕ) (link : Option ℕ) (packet : List ℕ)
    → Writing settings progress count s held holds 0 index state link packet
    → Grows (IsBegunAs settings.form settings.fcs) progress.link
    (all_linked progress.link (series_frames settings progress count s))
    (map (finished settings) (series_frames settings progress count s)) held holds
writing-end settings progress count s held holds index state link packet w =
    let all : w.done ≡ series_frames settings progress count s = sym (append-nil w.done) ∙ w.frames in
    subst (λ (fs : List FrameValue). Grows (IsBegunAs settings.form settings.fcs) progress.link
    (all_linked progress.link fs) (map (finished settings) fs) held holds) all
    (subst (λ (l : Option ℕ). Grows (IsBegunAs settings.form settings.fcs) progress.link l
    (map (finished settings) w.done) held holds) w.linked w.grows)
