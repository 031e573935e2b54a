-- Lines of a text.
use Rattle.std.proofs.Common.{◌≡◌, ◌≢◌, ℕ, zero, suc, ◌-◌, ◌≤◌, List, [], ◌∷◌, ◌++◌, length, Option, Some, None, is_some, Result, Ok, Err, Bool, true, false, All, nat_eq, nat_lt, ◌==◌, if◌then◌else◌, refl, ap, subst, ne_eqb, arith, length-append}
use Rattle.std.proofs.lemmas.Bool.{ltb-false}
use Rattle.std.proofs.lemmas.List.Splits.{slice_split_none, slice_split_at}
use Rattle.serde_json.specs.Data.{Data}
use Rattle.serde_json.specs.Find.{as_object}
use Rattle.ether_pcap.specs.Record.{max_captured_len}
use Rattle.ether_make.specs.declared.template.Template.{Template}
use Rattle.ether_pcap.specs.Writing.{zeros}
use Rattle.ether_make.specs.Frames.{FrameValue, padded}
use Rattle.ether_make.specs.Templates.{TemplateValue, template_meaning}
use Rattle.ether_make.specs.Lines.{LineRefusal, TooLong, LineMeans, IsJson, lines_in, longest, one_link, sized}
use Rattle.ether_make.specs.Lines as meant
use Rattle.ether_make.specs.LineViews.{TellsLine, LineOf, IsNoValue, IsNotJson, IfTold, fault_view}
use Rattle.ether_make.specs.Refusals.{Meaning}
use Rattle.ether_make.specs.Repeated.{IsUnique}
use Rattle.ether_make.specs.declared.lines.LineFault.{LineFault}
use Rattle.ether_make.specs.declared.lines.LineFault.TheVariants as faults

told_object : (link : Option ℕ) (text : List ℕ) (d : Data) → IsJson text d → is_some (as_object d) ≡ true
    → IsUnique text → (told : Option LineRefusal)
    → IfTold (λ r. one_link link (sized (template_meaning d)) ≡ Err r) told
    → IfTold (λ r. LineMeans link text (Err r)) told
told_object link text d json is unique None h = tt
told_object link text d json is unique (Some r) h =
    subst (λ (m : Result TemplateValue LineRefusal). LineMeans link text m) h (meant.object d json is unique)

pub line-object : (link : Option ℕ) (text : List ℕ) (d : Data) → IsJson text d → is_some (as_object d) ≡ true
    → IsUnique text → (r : Result Template LineFault)
    → TellsLine (one_link link (sized (template_meaning d))) r → LineOf link text r
line-object link text d json is unique (Ok t) h =
    subst (λ (m : Result TemplateValue LineRefusal). LineMeans link text m) h (meant.object d json is unique)
line-object link text d json is unique (Err fault) h =
    told_object link text d json is unique (fault_view fault) h

pub not-json : (text : List ℕ) (fault : LineFault) → IsNotJson text fault → IsNoValue text fault
not-json text faults.NotJson h = h
not-json text faults.NotObject h = absurd h
not-json text faults.Repeated h = absurd h
not-json text (faults.Refused header member reason) h = absurd h
not-json text faults.TooLong h = absurd h
not-json text faults.Memory h = tt

pub line-not_json : (link : Option ℕ) (text : List ℕ) (fault : LineFault) → IsNoValue text fault
    → LineOf link text (Err fault)
line-not_json link text faults.NotJson h = meant.not_json h
line-not_json link text faults.NotObject h = absurd h
line-not_json link text faults.Repeated h = meant.repeated h.0 h.1 h.2
line-not_json link text (faults.Refused header member reason) h = absurd h
line-not_json link text faults.TooLong h = absurd h
line-not_json link text faults.Memory h = tt

-- ---- lengths

abbrev pub FitsIfOk : Result TemplateValue LineRefusal → Type 0
FitsIfOk (Ok t) = length t.frame.packet ≤ max_captured_len
FitsIfOk (Err r) = Unit {0}

sized-at : (t : TemplateValue) (b : Bool) → nat_lt longest (length t.frame.packet) ≡ b
    → FitsIfOk (if b then Err TooLong else Ok t)
sized-at t true e = tt
sized-at t false e = ltb-false longest (length t.frame.packet) e

sized-fits : (m : Meaning TemplateValue) → FitsIfOk (sized m)
sized-fits (Ok t) = sized-at t (nat_lt longest (length t.frame.packet)) refl
sized-fits (Err r) = tt

if-fits : (t : TemplateValue) (r : LineRefusal) (b : Bool) → FitsIfOk (Ok t) → FitsIfOk (if b then Ok t else Err r)
if-fits t r true h = h
if-fits t r false h = tt

linked-fits : (link : Option ℕ) (m : Result TemplateValue LineRefusal) → FitsIfOk m → FitsIfOk (one_link link m)
linked-fits None m h = h
linked-fits (Some link) (Err r) h = tt
linked-fits (Some link) (Ok t) h = if-fits t _ (nat_eq t.frame.link link) h

fits : (link : Option ℕ) (text : List ℕ) (m : Result TemplateValue LineRefusal) → LineMeans link text m → FitsIfOk m
fits link text m (meant.object d json is unique) =
    linked-fits link (sized (template_meaning d)) (sized-fits (template_meaning d))
fits link text m (meant.not_object d json is unique) = tt
fits link text m (meant.repeated d json twice) = tt
fits link text m (meant.not_json h) = tt

length-zeros : (n : ℕ) → length (zeros n) ≡ n
length-zeros zero = refl
length-zeros (suc n) = ap suc (length-zeros n)

padded_if-fits : (frame : FrameValue) (b : Bool) → length frame.packet ≤ max_captured_len
    → length ((if b then record frame { packet = frame.packet ++ zeros (60 - length frame.packet) } else frame).packet)
    ≤ max_captured_len
padded_if-fits frame false h = h
padded_if-fits frame true h =
    omega (
      arith,
      length-append frame.packet (zeros (60 - length frame.packet)),
      length-zeros (60 - length frame.packet),
      h,
    )

-- a frame of a line is no longer than a packet of a capture
pub line-fits : (link : Option ℕ) (text : List ℕ) (t : TemplateValue) → LineMeans link text (Ok t)
    → length t.frame.packet ≤ max_captured_len
line-fits link text t h = fits link text (Ok t) h

-- .. nor is it with padding
pub padded-fits : (pad : Bool) (frame : FrameValue) → length frame.packet ≤ max_captured_len
    → length (padded pad frame).packet ≤ max_captured_len
padded-fits false frame h = h
padded-fits true frame h = padded_if-fits frame (nat_eq frame.link 1) h

-- ---- lines of a text

-- the first line, without the line feed at its end
pub lines-ended : (line later : List ℕ) → All (λ c. c ≢ 10) line → lines_in (line
    ++ 10 ∷ later) ≡ line ∷ lines_in later
lines-ended line later h = slice_split_at (λ c. c == 10) line 10 later (λ k d l. ne_eqb _ 10 (h k d l)) refl

-- the last line
pub lines-last : (line : List ℕ) → All (λ c. c ≢ 10) line → lines_in line ≡ line ∷ []
lines-last line h = slice_split_none (λ c. c == 10) line (λ k d l. ne_eqb _ 10 (h k d l))
