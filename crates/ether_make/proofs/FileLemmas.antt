-- A run over files, one after the other.
use Rattle.std.proofs.Common.{◌≡◌, ℕ, ◌+◌, ◌<◌, ◌≤◌, List, [], ◌∷◌, ◌++◌, length, map, drop, get_or, codes, Option, Some, None, true, false, refl, sym, ap, subst, ◌∙◌, append_assoc}
use Rattle.std.proofs.lemmas.List.{append-nil, drop_all, drop_more}
use Rattle.std.proofs.KnownBytes.{Appends-nil, Appends-trans}
use Rattle.std.specs.Io.KnownBytes.{Consumes}
use Rattle.std.specs.Borrow.{Bor}
use Rattle.std.specs.Str.{bytes_eq}
use Rattle.ether_make.specs.Captures.{Ends}
use Rattle.ether_make.specs.Frames.{FrameValue}
use Rattle.ether_make.specs.InputFiles.{AreRead, HasMadeFiles, IsRead, StopsAtFile, StopsFiles, StopsNamed, StopsRun, UnlessOutput, none, input, file, closed}
use Rattle.ether_make.specs.Lines.{LineRefusal, Progress, beginning}
use Rattle.ether_make.specs.LineViews.{fault_view}
use Rattle.ether_make.specs.Outputs.{IsBegunAs, IsOutput, IsOutputBegun, IsWrittenAs, finished}
use Rattle.ether_make.specs.Program.{AfterFault, AfterLine, Continues, HasBroken, HasMade, IsWhole, Ran}
use Rattle.ether_make.specs.declared.input_files.FileFault.{FileFault}
use Rattle.ether_make.specs.declared.program.RunFault.{RunFault}
use Rattle.ether_make.specs.declared.program.RunFault.TheVariants as runs
use Rattle.ether_make.specs.declared.settings.Settings.{Settings}
use Rattle.ether_make.proofs.OutputLemmas.{begun-nothing}
use Rattle.ether_make.proofs.ProgramLemmas.{continues-nothing}

-- ---- frames after others

continues-trans : (settings : Settings) (first next last mid end : Progress) (fs gs : List FrameValue) (xs bs : List ℕ)
    → Continues settings first next mid fs xs → Continues settings next last end gs bs
    → Continues settings first last end (fs ++ gs) (xs ++ bs)
continues-trans settings first next last mid end fs gs xs bs c d = record {
  is_last = d.is_last;
  begun = λ earlier front h.
      subst (λ (it : List FrameValue). IsOutputBegun settings last.link it (front ++ (xs ++ bs)))
      (append_assoc earlier fs gs)
      (subst (λ (it : List ℕ). IsOutputBegun settings last.link ((earlier ++ fs) ++ gs) it) (append_assoc front xs bs)
      (d.begun (earlier ++ fs) (front ++ xs) (c.begun earlier front h)));
}

-- ---- files that are read

read-of : (settings : Settings) (first : Progress) (IsWritten : Progress → List FrameValue → List ℕ → Type 0)
    (before after held holds : Option (List ℕ)) (m : HasMade settings first IsWritten before after held holds)
    → IsRead settings first m.ran.last before after m.ran.frames
read-of settings first IsWritten before after held holds m = record {
  text = m.ran.text;
  read = subst (λ (bs : List ℕ). Consumes before after bs) (append-nil m.ran.text) m.ran.read;
  at_end = m.at_end;
  means = m.ran.means;
}

pub input-made : (Has : List ℕ → Option (List ℕ) → Type 0) (settings : Settings)
    (IsWritten : Progress → List FrameValue → List ℕ → Type 0) (first : Progress) (name : List ℕ)
    (before after held holds : Option (List ℕ)) → bytes_eq name (codes "-") ≡ true
    → HasMade settings first IsWritten before after held holds
    → HasMadeFiles Has settings IsWritten first (name ∷ []) before after held holds
input-made Has settings IsWritten first name before after held holds e m = record {
  frames = m.ran.frames ++ [];
  last = m.ran.last;
  bytes = m.ran.bytes;
  are_read = input first m.ran.last m.ran.last name [] before after after m.ran.frames [] e
      (read-of settings first IsWritten before after held holds m) (none m.ran.last after);
  is_written = subst (λ (fs : List FrameValue). IsWritten m.ran.last fs m.ran.bytes) (sym (append-nil m.ran.frames))
      m.ran.is_written;
  written = m.ran.written;
}

pub file-made : (Has : List ℕ → Option (List ℕ) → Type 0) (settings : Settings)
    (IsWritten : Progress → List FrameValue → List ℕ → Type 0) (first : Progress) (name : List ℕ)
    (known rest bytes held holds : Option (List ℕ)) → bytes_eq name (codes "-") ≡ false → Has name known
    → HasMade settings first IsWritten known rest held holds
    → HasMadeFiles Has settings IsWritten first (name ∷ []) bytes bytes held holds
file-made Has settings IsWritten first name known rest bytes held holds e has m = record {
  frames = m.ran.frames ++ [];
  last = m.ran.last;
  bytes = m.ran.bytes;
  are_read = file first m.ran.last m.ran.last name [] known rest bytes bytes m.ran.frames [] e has
      (read-of settings first IsWritten known rest held holds m) (none m.ran.last bytes);
  is_written = subst (λ (fs : List FrameValue). IsWritten m.ran.last fs m.ran.bytes) (sym (append-nil m.ran.frames))
      m.ran.is_written;
  written = m.ran.written;
}

read-append : (Has : List ℕ → Option (List ℕ) → Type 0) (settings : Settings) (first next last : Progress)
    (names others : List (List ℕ)) (before mid after : Option (List ℕ)) (fs gs : List FrameValue)
    → AreRead Has settings first next names before mid fs → AreRead Has settings next last others mid after gs
    → AreRead Has settings first last (names ++ others) before after (fs ++ gs)
read-append Has settings first next last names others before mid after fs gs (none l b) q = q
read-append Has settings first next last names others before mid after fs gs
    (input l n k name more a c d frames later e r h) q =
    subst (λ (it : List FrameValue). AreRead Has settings l last (name ∷ (more ++ others)) a after it)
    (sym (append_assoc frames later gs))
    (input l n last name (more ++ others) a c after frames (later ++ gs) e r
    (read-append Has settings n k last more others c d after later gs h q))
read-append Has settings first next last names others before mid after fs gs
    (file l n k name more known rest a d frames later e has r h) q =
    subst (λ (it : List FrameValue). AreRead Has settings l last (name ∷ (more ++ others)) a after it)
    (sym (append_assoc frames later gs))
    (file l n last name (more ++ others) known rest a after frames (later ++ gs) e has r
    (read-append Has settings n k last more others a d after later gs h q))

-- ---- file by file

-- the files before these are read, and their frames written
pub record Done (Has : List ℕ → Option (List ℕ) → Type 0) (settings : Settings) (first : Progress)
    (names rest : List (List ℕ)) (before now held holds : Option (List ℕ)) (next : Progress) : Type 0 where
  pub earlier : List (List ℕ)
  pub split : names ≡ earlier ++ rest
  pub done : HasMadeFiles Has settings (Continues settings first next) first earlier before now held holds

pub done-begin : (Has : List ℕ → Option (List ℕ) → Type 0) (settings : Settings) (first : Progress)
    (names : List (List ℕ)) (before held : Option (List ℕ))
    → Done Has settings first names names before before held held first
done-begin Has settings first names before held = record {
  earlier = [];
  split = refl;
  done = record {
    frames = [];
    bytes = [];
    last = first;
    are_read = none first before;
    is_written = continues-nothing settings first;
    written = Appends-nil held;
  };
}

pub done-file : (Has : List ℕ → Option (List ℕ) → Type 0) (settings : Settings) (first : Progress)
    (names others : List (List ℕ)) (name : List ℕ) (before now after held mid holds : Option (List ℕ))
    (next last : Progress) → Done Has settings first names (name ∷ others) before now held mid next
    → HasMadeFiles Has settings (Continues settings next last) next (name ∷ []) now after mid holds
    → Done Has settings first names others before after held holds last
done-file Has settings first names others name before now after held mid holds next last d m = record {
  earlier = d.earlier ++ name ∷ [];
  split = d.split ∙ sym (append_assoc d.earlier (name ∷ []) others);
  done = record {
    frames = d.done.frames ++ m.frames;
    last = m.last;
    bytes = d.done.bytes ++ m.bytes;
    are_read = read-append Has settings first next m.last d.earlier (name ∷ []) before now after d.done.frames m.frames
        (subst (λ (it : Progress). AreRead Has settings first it d.earlier before now d.done.frames)
        (sym d.done.is_written.is_last) d.done.are_read) m.are_read;
    is_written = continues-trans settings first next last d.done.last m.last d.done.frames m.frames d.done.bytes
        m.bytes
        d.done.is_written m.is_written;
    written = Appends-trans held mid holds d.done.bytes m.bytes d.done.written m.written;
  };
}

pub done-end : (Has : List ℕ → Option (List ℕ) → Type 0) (settings : Settings) (first : Progress)
    (names : List (List ℕ)) (before now held holds : Option (List ℕ)) (next : Progress)
    → Done Has settings first names [] before now held holds next
    → HasMadeFiles Has settings (Continues settings first next) first names before now held holds
done-end Has settings first names before now held holds next d =
    subst (λ (it : List (List ℕ)). HasMadeFiles Has settings (Continues settings first next) first it before now
    held holds)
    (sym (d.split ∙ append-nil d.earlier)) d.done

pub done-stop : (Has : List ℕ → Option (List ℕ) → Type 0) (settings : Settings) (first : Progress)
    (names others : List (List ℕ)) (name : List ℕ) (before now after held mid holds : Option (List ℕ))
    (next last : Progress) (f : FileFault) → Done Has settings first names (name ∷ others) before now held mid next
    → StopsNamed Has settings (Continues settings next last) next name now after mid holds f
    → StopsFiles Has settings first last names before after held holds f
done-stop Has settings first names others name before now after held mid holds next last f d stops = record {
  earlier = d.earlier;
  name = name;
  later = others;
  split = d.split;
  mid = now;
  taken = mid;
  next = next;
  done = d.done;
  stops = stops;
}

-- .. of the names in a slice, the one at this index
rest-at : (names : List (Bor (List ℕ))) (i : ℕ) (d : Bor (List ℕ)) → i < length names
    → map (λ s. s.now) (drop i names) ≡ (get_or names i d).now ∷ map (λ s. s.now) (drop (i + 1) names)
rest-at names i d h = ap (map (λ s. s.now)) (drop_more names i d h)

pub next-file : (Has : List ℕ → Option (List ℕ) → Type 0) (settings : Settings) (first : Progress)
    (names : List (Bor (List ℕ))) (i : ℕ) (d : Bor (List ℕ)) (before now after held mid holds : Option (List ℕ))
    (next last : Progress) → i < length names
    → Done Has settings first (map (λ s. s.now) names) (map (λ s. s.now) (drop i names)) before now held mid next
    → HasMadeFiles Has settings (Continues settings next last) next ((get_or names i d).now ∷ []) now after mid holds
    → Done Has settings first (map (λ s. s.now) names) (map (λ s. s.now) (drop (i + 1) names)) before after held holds
    last
next-file Has settings first names i d before now after held mid holds next last h done made =
    done-file Has settings first (map (λ s. s.now) names) (map (λ s. s.now) (drop (i + 1) names))
    (get_or names i d).now
    before now after held mid holds next last
    (subst (λ (it : List (List ℕ)). Done Has settings first (map (λ s. s.now) names) it before now held mid next)
    (rest-at names i d h) done) made

pub next-stop : (Has : List ℕ → Option (List ℕ) → Type 0) (settings : Settings) (first : Progress)
    (names : List (Bor (List ℕ))) (i : ℕ) (d : Bor (List ℕ)) (before now after held mid holds : Option (List ℕ))
    (next last : Progress) (f : FileFault) → i < length names
    → Done Has settings first (map (λ s. s.now) names) (map (λ s. s.now) (drop i names)) before now held mid next
    → StopsNamed Has settings (Continues settings next last) next (get_or names i d).now now after mid holds f
    → StopsFiles Has settings first last (map (λ s. s.now) names) before after held holds f
next-stop Has settings first names i d before now after held mid holds next last f h done stops =
    done-stop Has settings first (map (λ s. s.now) names) (map (λ s. s.now) (drop (i + 1) names))
    (get_or names i d).now
    before now after held mid holds next last f
    (subst (λ (it : List (List ℕ)). Done Has settings first (map (λ s. s.now) names) it before now held mid next)
    (rest-at names i d h) done) stops

pub last-file : (Has : List ℕ → Option (List ℕ) → Type 0) (settings : Settings) (first : Progress)
    (names : List (Bor (List ℕ))) (i : ℕ) (before now held holds : Option (List ℕ)) (next : Progress)
    → length names ≤ i
    → Done Has settings first (map (λ s. s.now) names) (map (λ s. s.now) (drop i names)) before now held holds next
    → HasMadeFiles Has settings (Continues settings first next) first (map (λ s. s.now) names) before now held holds
last-file Has settings first names i before now held holds next h done =
    done-end Has settings first (map (λ s. s.now) names) before now held holds next
    (subst (λ (it : List (List ℕ)). Done Has settings first (map (λ s. s.now) names) it before now held holds next)
    (ap (map (λ s. s.now)) (drop_all i names h)) done)

-- ---- the end

-- the output of frames after others
abbrev pub After : Settings → (earlier : List FrameValue) → (front : List ℕ) → Progress → List FrameValue → List ℕ
    → Type 0
After settings earlier front last frames bytes = IsOutput settings (earlier ++ frames) (front ++ bytes)

whole-after : (settings : Settings) (first next last : Progress) (earlier : List FrameValue) (front : List ℕ)
    (mid holds : Option (List ℕ)) (frames : List FrameValue) (bytes : List ℕ)
    → IsOutputBegun settings first.link earlier front → Continues settings first next last frames bytes
    → (e : Ends (IsBegunAs settings.form settings.fcs) (IsWrittenAs settings.form settings.fcs) next.link mid holds)
    → IsOutput settings (earlier ++ frames) (front ++ (bytes ++ e.more))
whole-after settings first next last earlier front mid holds frames bytes begun c e =
    subst (λ (it : List ℕ). IsOutput settings (earlier ++ frames) it) (append_assoc front bytes e.more)
    (e.whole (map (finished settings) (earlier ++ frames)) (front ++ bytes) (c.begun earlier front begun))

module _ (settings : Settings) (first last : Progress) (earlier : List FrameValue) (front : List ℕ)
    (begun : IsOutputBegun settings first.link earlier front) (held mid holds : Option (List ℕ))
    (e : Ends (IsBegunAs settings.form settings.fcs) (IsWrittenAs settings.form settings.fcs) last.link mid holds)
  where
    ran-after : (before after : Option (List ℕ)) (stop : Option (ℕ × LineRefusal)) (part : List ℕ)
        → Ran settings first (Continues settings first last) before after held mid stop part
        → Ran settings first (After settings earlier front) before after held holds stop part
    ran-after before after stop part r = record {
      text = r.text;
      frames = r.frames;
      last = r.last;
      bytes = r.bytes ++ e.more;
      read = r.read;
      means = r.means;
      is_written = whole-after settings first last r.last earlier front mid holds r.frames r.bytes begun r.is_written e;
      written = Appends-trans held mid holds r.bytes e.more r.written e.written;
    }

    broken-after : (before after : Option (List ℕ)) → HasBroken settings first (Continues settings first last) before
        after held mid
        → HasBroken settings first (After settings earlier front) before after held holds
    broken-after before after b = record {
      part = b.part;
      one_line = b.one_line;
      ran = ran-after before after None b.part b.ran;
    }

    line-after : (before after : Option (List ℕ)) (line : ℕ) (told : Option LineRefusal)
        → AfterLine settings first (Continues settings first last) before after held mid line told
        → AfterLine settings first (After settings earlier front) before after held holds line told
    line-after before after line None h = broken-after before after h
    line-after before after line (Some r) h = ran-after before after (Some (line, r)) [] h

    fault-after : (before after : Option (List ℕ)) (fault : RunFault)
        → AfterFault settings first (Continues settings first last) before after held mid fault
        → AfterFault settings first (After settings earlier front) before after held holds fault
    fault-after before after (runs.Line stop) h = line-after before after stop.line (fault_view stop.fault) h
    fault-after before after (runs.Input error) h = broken-after before after h
    fault-after before after (runs.Output error) h = tt

    stops-after : (Has : List ℕ → Option (List ℕ) → Type 0) (name : List ℕ) (before after : Option (List ℕ))
        (fault : RunFault) → StopsAtFile Has settings (Continues settings first last) first name held mid before
        after fault
        → StopsAtFile Has settings (After settings earlier front) first name held holds before after fault
    stops-after Has name before after fault (input a b f is h) = input a b f is (fault-after a b f h)
    stops-after Has name before after fault (file known rest bytes f is has h) =
        file known rest bytes f is has (fault-after known rest f h)
    stops-after Has name before after fault (closed bytes error written is w a) =
        closed bytes error (written ++ e.more) is
        (whole-after settings first last first earlier front mid holds [] written begun w e)
        (Appends-trans held mid holds written e.more a e.written)

begun-none : (settings : Settings) (first : Progress) → first.link ≡ None
    → IsOutputBegun settings first.link [] []
begun-none settings first e =
    subst (λ (link : Option ℕ). IsOutputBegun settings link [] []) (sym e)
    (begun-nothing settings.form settings.fcs)

-- the frames of all files are written
files-end : (Has : List ℕ → Option (List ℕ) → Type 0) (settings : Settings) (first next : Progress)
    (names : List (List ℕ)) (before after held mid holds : Option (List ℕ)) → first.link ≡ None
    → HasMadeFiles Has settings (Continues settings first next) first names before after held mid
    → Ends (IsBegunAs settings.form settings.fcs) (IsWrittenAs settings.form settings.fcs) next.link mid holds
    → HasMadeFiles Has settings (IsWhole settings) first names before after held holds
files-end Has settings first next names before after held mid holds none_yet m e = record {
  frames = m.frames;
  last = m.last;
  bytes = m.bytes ++ e.more;
  are_read = m.are_read;
  is_written = whole-after settings first next m.last [] [] mid holds m.frames m.bytes
      (begun-none settings first none_yet) m.is_written e;
  written = Appends-trans held mid holds m.bytes e.more m.written e.written;
}

-- .. or those before a fault
files-stop : (Has : List ℕ → Option (List ℕ) → Type 0) (settings : Settings) (last : Progress)
    (names : List (List ℕ)) (before after held mid holds : Option (List ℕ)) (f : FileFault)
    → StopsFiles Has settings (beginning settings.seed) last names before after held mid f
    → Ends (IsBegunAs settings.form settings.fcs) (IsWrittenAs settings.form settings.fcs) last.link mid holds
    → StopsRun Has settings names before after held holds f
files-stop Has settings last names before after held mid holds f s e =
    let begun = s.done.is_written.begun [] [] (begun-nothing settings.form settings.fcs) in
    record {
      earlier = s.earlier;
      name = s.name;
      later = s.later;
      split = s.split;
      mid = s.mid;
      taken = s.taken;
      next = s.next;
      frames = s.done.frames;
      bytes = s.done.bytes;
      are_read =
          subst (λ (it : Progress). AreRead Has settings (beginning settings.seed) it s.earlier before s.mid
          s.done.frames) (sym s.done.is_written.is_last) s.done.are_read;
      written = s.done.written;
      stops = record {
        named = s.stops.named;
        stops = stops-after settings s.next last s.done.frames s.done.bytes begun s.taken mid holds e Has s.name s.mid
            after f.fault s.stops.stops;
      };
    }

-- .. from the beginning
pub files-made : (Has : List ℕ → Option (List ℕ) → Type 0) (settings : Settings) (first next : Progress)
    (names : List (List ℕ)) (before after held mid holds : Option (List ℕ)) → first ≡ beginning settings.seed
    → HasMadeFiles Has settings (Continues settings first next) first names before after held mid
    → Ends (IsBegunAs settings.form settings.fcs) (IsWrittenAs settings.form settings.fcs) next.link mid holds
    → HasMadeFiles Has settings (IsWhole settings) (beginning settings.seed) names before after held holds
files-made Has settings first next names before after held mid holds e m ends =
    subst (λ (p : Progress). HasMadeFiles Has settings (IsWhole settings) p names before after held holds) e
    (files-end Has settings first next names before after held mid holds (ap (λ p. p.link) e) m ends)

pub files-stopped : (Has : List ℕ → Option (List ℕ) → Type 0) (settings : Settings) (first last : Progress)
    (names : List (List ℕ)) (before after held mid holds : Option (List ℕ)) (f : FileFault)
    → first ≡ beginning settings.seed → StopsFiles Has settings first last names before after held mid f
    → Ends (IsBegunAs settings.form settings.fcs) (IsWrittenAs settings.form settings.fcs) last.link mid holds
    → StopsRun Has settings names before after held holds f
files-stopped Has settings first last names before after held mid holds f e s ends =
    files-stop Has settings last names before after held mid holds f
    (subst (λ (p : Progress). StopsFiles Has settings p last names before after held mid f) e s) ends

pub unless : (fault : RunFault) (P : Type 0) → P → UnlessOutput fault P
unless (runs.Line stop) P h = h
unless (runs.Input error) P h = h
unless (runs.Output error) P h = tt
