-- What a run has read and written, one read after another.
use Rattle.std.proofs.Common.{◌⊎◌, ◌+◌, ◌-◌, ◌^◌, ◌≡◌, ◌≢◌, ℕ, ◌<◌, ◌≤◌, List, [], ◌∷◌, ◌++◌, length, drop, Bool, Option, Some, None, unwrap_or, Result, Ok, Err, IfOk, IfErr, IsErrAnd, OnOk, refl, sym, ap, subst, ◌∙◌, arith, append_assoc, append-nil, inl, inr, rules}
use Rattle.std.specs.List.{sum_by}
use Rattle.std.specs.Io.KnownBytes.{Appends, Consumes, IsAtEnd, Keeps}
use Rattle.ether_stream.specs.declared.selection.Selection.{Selection}
use Rattle.ether_pcap.specs.FileHeader as file
use Rattle.ether_pcap.specs.Record as record_rows
use Rattle.ether_pcap.specs.Block as block_rows
use Rattle.ether_pcap.specs.Section as section_rows
use Rattle.ether_pcap.specs.Capture.{PacketValue, CaptureExpectation, HasBegun, CaptureRefusal, RefusesCapture, file_header_refused, file_record_refused, first_section_refused, section_refused, block_refused, body_refused, required_len, IsEnd, HasPackets}
use Rattle.ether_pcap.specs.CaptureViews.{capture_refusal_view}
use Rattle.ether_pcap.specs.Copies.{Refused, NotEdited}
use Rattle.ether_pcap.proofs.CaptureLengths.{required_above, unit_within}
use Rattle.ether_pcap.proofs.CaptureLocality.{refusal_local}
use Rattle.ether_pcap.specs.declared.capture.capture_error.CaptureError.{CaptureError}
use Rattle.ether_output.specs.OutputBuffer.{contents_of, WritesOut}
use Rattle.ether_output.specs.declared.output_buffer.OutputBuffer.{OutputBuffer}
use Rattle.ether_text.specs.declared.verdict.Verdict.{Verdict}
use Rattle.ether_output.proofs.KnownBytesLemmas.{Appends-then, Consumes-kept}
use Rattle.ether_text.specs.Run.{IsLeft, BreaksOffAfter, IsEndless}
use Rattle.ether_text.proofs.RunLemmas.{IsLeft-left_of, IsLeft-end, answers_flushed, stops_flushed, breaks_flushed, answers_slice, stops_slice, breaks_slice, no_endless_slice}
use Rattle.ether_stream.specs.Copying.{IsCopy}
use Rattle.ether_stream.specs.Counting.{HasCounted, IfRead}
use Rattle.ether_stream.specs.FrameLines.{if_selected, skip_count}
use Rattle.ether_stream.specs.Packets.{capture_start, counted, GoesOn, HasFewer, HasOpen}
use Rattle.ether_stream.specs.Progress.{Made, Reached, counts_at, TakesUnits, UneditedIn, StopsAfter, OnNotEdited, IsTakingFault, last_lines}
use Rattle.ether_stream.specs.Run.{Completes, CompletesAll, ReachesCount, StopsAtFault, StopsAtPacket, EndsInUnit, AnswersSlice, AnswersSliceOver, NeedsMemory, HasRun, HasRunOver, OnStreamFault}
use Rattle.ether_stream.specs.Task.{TaskValue, FormValue, Lines, Copy, packets_before}
use Rattle.ether_stream.specs.declared.counts.PacketCounts.{PacketCounts}
use Rattle.ether_stream.specs.declared.outcome.RunFault.{RunFault}
use Rattle.ether_stream.specs.declared.outcome.RunFault.TheVariants as faults
use Rattle.ether_stream.specs.declared.progress.Progress.{Progress}
use Rattle.ether_stream.proofs.CopiesLemmas.{is_copy, copied_to_end, copied_to_refusal, copied_to_packet, read_so_far}
use Rattle.ether_stream.proofs.PacketsLemmas.{GoesOn-ended, GoesOn-refused}
use Rattle.ether_stream.proofs.ProgressLemmas.{Reached-fewer}

-- ---- what is left

no_bytes : (l : List ℕ) → length l ≡ 0 → l ≡ []
no_bytes [] e = refl
no_bytes (b ∷ l) e = absurd (omega arith)

-- the last read gave nothing
pub consumed_all : (before mid after : Option (List ℕ)) (input more : List ℕ) → Consumes before mid input
    → Consumes mid after more → length more ≡ 0 → Consumes before after input
consumed_all before mid after input more h k none = search (rules, no_bytes)

-- the last read gave nothing
pub same_left : (left more : List ℕ) → length more ≡ 0 → left ++ more ≡ left
same_left left more none = ap (λ (l : List ℕ). left ++ l) (no_bytes more none) ∙ append-nil left

-- there is room for more of a unit than is left
pub has_room : (left : List ℕ) (x : CaptureExpectation) (r : CaptureRefusal) (n : ℕ) (held : List ℕ) (space : ℕ)
    → RefusesCapture left x r → required_len r ≡ Some n
    → held ≡ left → n ≤ space → length held < space
has_room left x r n held space refused needs same fits = search (rules, required_above)

-- nothing is first in nothing
nothing_first : (xs ys : List ℕ) → xs ++ ys ≡ [] → xs ≡ []
nothing_first [] ys e = refl
nothing_first (b ∷ xs) ys e = absurd cc

-- ---- no bytes are refused for good

no_section : section_rows.HasSectionType [] → ⊥
no_section h = omega (arith, h)

nothing_of_blocks : (r : CaptureRefusal) (n : ℕ) → required_len r ≡ Some n → required_len r ≡ None → ⊥
nothing_of_blocks r n some none = let e : Some n ≡ None = sym some ∙ none in absurd cc

pub refused_nothing : (bytes : List ℕ) (x : CaptureExpectation) (r : CaptureRefusal) → bytes ≡ []
    → RefusesCapture bytes x r
    → required_len r ≡ None → ⊥
refused_nothing bytes x r e (file_header_refused most s other (file.short lt)) none = nothing_of_blocks r 24 refl none
refused_nothing bytes x r e (file_header_refused most s other (file.magic le never)) none = search rules
refused_nothing bytes x r e (file_header_refused most s other (file.version order resolution le has never)) none =
    let n = ap length e in omega (arith, le, n)
refused_nothing bytes x r e (file_record_refused h s (record_rows.header lt)) none = nothing_of_blocks r 16 refl none
refused_nothing bytes x r e (file_record_refused h s (record_rows.too_long le lt)) none = search rules
refused_nothing bytes x r e (file_record_refused h s (record_rows.packet le small lt)) none = search rules
refused_nothing bytes x r e (first_section_refused most s has refused) none = search (rules, no_section)
refused_nothing bytes x r e (section_refused most order interfaces s has refused) none = search (rules, no_section)
refused_nothing bytes x r e (block_refused most order interfaces s other (block_rows.front lt)) none =
    nothing_of_blocks r 12 refl none
refused_nothing bytes x r e (block_refused most order interfaces s other (block_rows.total_len le never)) none =
    let n = ap length e in omega (arith, le, n)
refused_nothing bytes x r e (block_refused most order interfaces s other (block_rows.body m le is sound lt)) none =
    let n = ap length e in omega (arith, le, n)
refused_nothing bytes x r e
    (block_refused most order interfaces s other (block_rows.trailer m k le is sound whole at never)) none =
    let n = ap length e in omega (arith, le, n)
refused_nothing bytes x r e (body_refused most order interfaces b s other begins refused) none = search rules

-- ---- what is made of a capture, by how it ends

module _ (select : Option Selection) (bytes front text : List ℕ) (packets kept : List PacketValue) (all : Bool)
    (x : CaptureExpectation) (count : Option ℕ) (go : GoesOn front packets x) where
  -- it ends after a unit
  completed : (undecided : ℕ) → HasOpen select packets undecided → (form : FormValue) → bytes ≡ front → HasBegun x
      → Made select form packets kept front text all x
      → Completes select form packets bytes
      (text ++ last_lines form (counted (packets_before form + length packets))
      (counted (sum_by skip_count packets)) (if_selected select undecided)) all
  completed undecided has (Lines options) is begun made = record {
    lines = text;
    has =
        subst (λ (l : List ℕ). HasPackets capture_start l packets [] None) (sym is)
        (GoesOn-ended front packets x begun go);
    answered = made;
    undecided = undecided;
    has_undecided = has;
    is_text = refl;
  }
  completed undecided has (Copy mode edit) is begun made = record {
    is_copy =
        subst (λ (l : List ℕ). IsCopy mode select edit l (text ++ []) [] None) (sym is)
        (subst (λ (l : List ℕ). IsCopy mode select edit front l [] None) (sym (append-nil text))
        (is_copy mode select edit front text kept made.0 [] None
        (copied_to_end mode select edit front text kept made.0 x begun made.1)));
    accepted = made.2;
  }

  -- .. or at a refusal of all that is left
  stopped : (form : FormValue) (rest : List ℕ) (offset : ℕ) (error : CaptureError)
      → bytes ≡ front ++ rest → offset ≡ counted (length front)
      → ¬ (IsEnd x rest) → RefusesCapture rest x (capture_refusal_view error)
      → HasFewer select count front → Made select form packets kept front text all x
      → StopsAtFault select count form packets (record { offset = offset; error = error }) bytes text
  stopped (Lines options) rest offset error place at more refused fewer made = record {
    front = front;
    rest = rest;
    all_accepted = all;
    has =
        subst (λ (l : List ℕ). HasPackets capture_start l packets rest (Some (capture_refusal_view error))) (sym place)
        (GoesOn-refused front packets x rest (capture_refusal_view error) more refused go);
    place = place;
    is_offset = at;
    fewer = fewer;
    answered = made;
  }
  stopped (Copy mode edit) rest offset error place at more refused fewer made =
      let reason = capture_refusal_view error in
      record {
        front = front;
        rest = rest;
        is_copy =
            subst (λ (l : List ℕ). IsCopy mode select edit l text rest (Some (Refused reason))) (sym place)
            (is_copy mode select edit (front ++ rest) text kept made.0 rest (Some (Refused reason))
            (copied_to_refusal mode select edit front text kept made.0 x rest reason more refused made.1));
        place = place;
        is_offset = at;
        fewer = fewer;
      }

  -- .. or within a unit
  broken : (Needs : Option ℕ → Type 0) (form : FormValue) (rest : List ℕ) (reason : CaptureRefusal)
      → bytes ≡ front ++ rest → RefusesCapture rest x reason → Needs (required_len reason) → HasFewer select count front
      → Made select form packets kept front text all x → EndsInUnit Needs select count form packets bytes text
  broken Needs (Lines options) rest reason place refused unfinished fewer made = search rules
  broken Needs (Copy mode edit) rest reason place refused unfinished fewer made = search (rules, read_so_far)

-- what is counted is said of the outcomes that count
if_read : (r : Result Verdict RunFault) {P : Type 0} → P → IfRead r P
if_read (Ok verdict) p = p
if_read h p = search rules

-- ---- a run

module _ {W : Type 0} (task : TaskValue) (contents : W → Option (List ℕ)) (before after held : Option (List ℕ)) where
  -- a packet can't be edited
  at_packet : (form : FormValue) (input : List ℕ) (offset : ℕ) (out : OutputBuffer W)
      → Consumes before after input → UneditedIn task.select task.count form contents held input offset out
      → HasRunOver (record task { form = form }) [] before after held (contents_of contents out) (Err
      (faults.NotEdited offset))
  at_packet (Lines options) input offset out read s = absurd s
  at_packet (Copy mode edit) input offset out read s =
      let left : List ℕ = unwrap_or after [] in
      let place = ap (λ (l : List ℕ). l ++ left) s.place ∙ append_assoc s.front s.buffered left in
      record {
        taken = input;
        left = left;
        text = s.copy;
        read = read;
        is_left = IsLeft-left_of after;
        stops = (
          s.packet,
          record {
            front = s.front;
            rest = s.buffered ++ left;
            is_copy =
                subst (λ (l : List ℕ). IsCopy mode task.select edit l s.copy (s.buffered ++ left) (Some
                (NotEdited s.packet)))
                (sym place)
                (is_copy mode task.select edit (s.front ++ (s.buffered ++ left)) s.copy s.kept s.edited
                (s.buffered ++ left)
                (Some (NotEdited s.packet))
                (copied_to_packet mode task.select edit s.front s.copy s.kept s.edited s.expected s.buffered left s.len
                s.packet s.to
                (unit_within s.buffered s.expected s.expected s.len (Some s.packet) s.begins) s.begins s.copied
                s.edits s.not_written s.parts));
            place = place;
            is_offset = s.is_offset;
            fewer = s.fewer;
          },
        );
        written = s.written;
      }

module _ {W X : Type 0} (task : TaskValue) (contents : W → Option (List ℕ)) where
  -- the units of what was buffered are taken
  pub units_left : (buffered bytes left : List ℕ) (old new : Progress X) (from to : OutputBuffer W) (n : ℕ)
      (error : Option CaptureError)
      → bytes ≡ buffered → left ≡ drop n buffered → TakesUnits task contents bytes old from (drop n bytes) error new to
      → TakesUnits task contents buffered old from left error new to
  units_left buffered bytes left old new from to n error same is takes =
      let e : drop n bytes ≡ left = ap (drop n) same ∙ sym is in
      search rules

  module _ (before after held : Option (List ℕ)) where
    -- the packets that were read are counted
    counted_as : (input buffered : List ℕ) (at : Progress X) (out : OutputBuffer W) (holds : Option (List ℕ))
        (r : Result Verdict RunFault) (so_far : Reached task contents held input buffered at out)
        → HasRunOver task so_far.packets before after held holds r
        → HasCounted task before after held holds r (counts_at at)
    counted_as input buffered at out holds r so_far run = search (rules, if_read)

    stops : (input buffered left : List ℕ) (at : Progress X) (out : OutputBuffer W) (error : CaptureError)
        (fault : RunFault)
        → fault ≡ faults.Capture (record { offset = at.offset; error = error }) → Consumes before after input
        → IsLeft after left → at.left ≢ Some 0 → ¬ (IsEnd at.reader (buffered ++ left))
        → RefusesCapture (buffered ++ left) at.reader (capture_refusal_view error)
        → (so_far : Reached task contents held input buffered at out)
        → HasRunOver task so_far.packets before after held (contents_of contents out) (Err fault)
    stops input buffered left at out error fault is read is_left some more refused so_far =
        let place = ap (λ (l : List ℕ). l ++ left) so_far.place ∙ append_assoc so_far.front buffered left in
        subst (λ (f : RunFault). HasRunOver task so_far.packets before after held (contents_of contents out) (Err f))
        (sym is) (record {
          taken = input;
          left = left;
          text = so_far.text;
          read = read;
          is_left = is_left;
          stops =
              stopped task.select (input ++ left) so_far.front so_far.text so_far.packets so_far.kept
              so_far.all_accepted at.reader task.count so_far.parts task.form (buffered ++ left) at.offset error place
              so_far.is_offset more refused (Reached-fewer task contents held input buffered at out some so_far)
              so_far.made;
          written = so_far.written;
        })

    -- a unit is refused, whatever follows
    pub stopped_for_good : (input buffered : List ℕ) (at : Progress X) (out : OutputBuffer W) (error : CaptureError)
        (fault : RunFault)
        → fault ≡ faults.Capture (record { offset = at.offset; error = error }) → Consumes before after input
        → at.left ≢ Some 0 → RefusesCapture buffered at.reader (capture_refusal_view error)
        → required_len (capture_refusal_view error) ≡ None
        → Reached task contents held input buffered at out
        → HasCounted task before after held (contents_of contents out) (Err fault) (counts_at at)
    stopped_for_good input buffered at out error fault is read some refused none so_far =
        let left : List ℕ = unwrap_or after [] in
        let r = capture_refusal_view error in
        counted_as input buffered at out (contents_of contents out) (Err fault) so_far
        (stops input buffered left at out error fault is read (IsLeft-left_of after) some
        (λ end. refused_nothing buffered at.reader r (nothing_first buffered left end.1) refused none)
        (refusal_local buffered left at.reader r refused none) so_far)

    -- the capture ends within a unit
    pub stopped_at_end : (input buffered : List ℕ) (at : Progress X) (out : OutputBuffer W) (error : CaptureError)
        (fault : RunFault)
        → fault ≡ faults.Capture (record { offset = at.offset; error = error }) → Consumes before after input
        → IsAtEnd after → at.left ≢ Some 0 → ¬ (IsEnd at.reader buffered)
        → RefusesCapture buffered at.reader (capture_refusal_view error)
        → Reached task contents held input buffered at out
        → HasCounted task before after held (contents_of contents out) (Err fault) (counts_at at)
    stopped_at_end input buffered at out error fault is read end some more refused so_far =
        let none = sym (append-nil buffered) in
        counted_as input buffered at out (contents_of contents out) (Err fault) so_far
        (stops input buffered [] at out error fault is read (IsLeft-end after end) some
        (subst (λ (l : List ℕ). ¬ (IsEnd at.reader l)) none more)
        (subst (λ (l : List ℕ). RefusesCapture l at.reader (capture_refusal_view error)) none refused) so_far)

    -- the writer fails, and nothing is said
    output_failed : (at : Progress X) (to : OutputBuffer W) (fault : RunFault) → fault ≡ faults.Output
        → HasCounted task before after held (contents_of contents to) (Err fault) (counts_at at)
    output_failed at to fault failed = search rules

    -- all units are taken
    pub finished : (input buffered : List ℕ) (at : Progress X) (from to : OutputBuffer W) (r : Result Verdict RunFault)
        → Consumes before after input → IsAtEnd after → at.left ≢ Some 0 → IsEnd at.reader buffered
        → IfOk r (λ verdict. verdict ≡ at.verdict)
        → OnOk r
        (Appends (contents_of contents from) (contents_of contents to) (last_lines task.form at.count at.skipped
        (if_selected task.select at.undecided)))
        → IfErr r (λ fault. fault ≡ faults.Output)
        → Reached task contents held input buffered at from
        → HasCounted task before after held (contents_of contents to) r (counts_at at)
    finished input buffered at from to (Ok verdict) read end some over is written fault so_far =
        let last = last_lines task.form (counted (packets_before task.form + length so_far.packets)) (counted
        (sum_by skip_count so_far.packets)) (if_selected task.select at.undecided) in
        let same : last_lines task.form at.count at.skipped (if_selected task.select at.undecided) ≡ last =
        (λ i. last_lines task.form (so_far.is_count i) (so_far.is_skipped i) (if_selected task.select at.undecided)) in
        let whole : input ≡ so_far.front =
        so_far.place ∙ ap (λ (l : List ℕ). so_far.front ++ l) over.1 ∙ append-nil so_far.front in
        counted_as input buffered at from (contents_of contents to) (Ok verdict) so_far (inl (record {
          input = input;
          text = so_far.text ++ last;
          all_accepted = so_far.all_accepted;
          read = read;
          at_end = end;
          answered = (
            subst (HasFewer task.select task.count) (sym whole)
                (Reached-fewer task contents held input buffered at from some so_far),
            completed task.select input so_far.front so_far.text so_far.packets so_far.kept so_far.all_accepted
                at.reader task.count so_far.parts at.undecided so_far.undecided task.form whole over.0 so_far.made,
          );
          is_verdict = is ∙ so_far.is_verdict;
          written =
              Appends-then held (contents_of contents from) (contents_of contents to) so_far.text last so_far.written
              (subst (λ (t : List ℕ). Appends (contents_of contents from) (contents_of contents to) t) same written);
        }))
    finished input buffered at from to (Err fault) read end some over is written failed so_far = search rules

    -- all packets that are asked for are taken
    pub counted_out : (input buffered : List ℕ) (at : Progress X) (from to : OutputBuffer W)
        (r : Result Verdict RunFault)
        → Consumes before after input → at.left ≡ Some 0
        → IfOk r (λ verdict. verdict ≡ at.verdict)
        → OnOk r
        (Appends (contents_of contents from) (contents_of contents to) (last_lines task.form at.count at.skipped
        (if_selected task.select at.undecided)))
        → IfErr r (λ fault. fault ≡ faults.Output)
        → Reached task contents held input buffered at from
        → HasCounted task before after held (contents_of contents to) r (counts_at at)
    counted_out input buffered at from to (Ok verdict) read none is written fault so_far =
        let left : List ℕ = unwrap_or after [] in
        let last = last_lines task.form (counted (packets_before task.form + length so_far.packets)) (counted
        (sum_by skip_count so_far.packets)) (if_selected task.select at.undecided) in
        let same : last_lines task.form at.count at.skipped (if_selected task.select at.undecided) ≡ last =
        (λ i. last_lines task.form (so_far.is_count i) (so_far.is_skipped i) (if_selected task.select at.undecided)) in
        let ends = so_far.at_count none in
        counted_as input buffered at from (contents_of contents to) (Ok verdict) so_far (inr (record {
          taken = input;
          left = left;
          text = so_far.text ++ last;
          read = read;
          is_left = IsLeft-left_of after;
          stops =
              record {
                front = so_far.front;
                rest = buffered ++ left;
                all_accepted = so_far.all_accepted;
                place = ap (λ (l : List ℕ). l ++ left) so_far.place ∙ append_assoc so_far.front buffered left;
                ends = ends.1;
                completes =
                    completed task.select so_far.front so_far.front so_far.text so_far.packets so_far.kept
                    so_far.all_accepted at.reader task.count so_far.parts at.undecided so_far.undecided task.form refl
                    ends.0 so_far.made;
                is_verdict = is ∙ so_far.is_verdict;
              };
          written =
              Appends-then held (contents_of contents from) (contents_of contents to) so_far.text last so_far.written
              (subst (λ (t : List ℕ). Appends (contents_of contents from) (contents_of contents to) t) same written);
        }))
    counted_out input buffered at from to (Err fault) read none is written failed so_far = search rules

    -- a unit is not whole
    breaks_off : (Needs : Option ℕ → Type 0) (input buffered : List ℕ) (at : Progress X) (out : OutputBuffer W)
        (reason : CaptureRefusal)
        → Consumes before after input → at.left ≢ Some 0 → RefusesCapture buffered at.reader reason
        → Needs (required_len reason)
        → (so_far : Reached task contents held input buffered at out)
        → BreaksOffAfter (EndsInUnit Needs task.select task.count task.form so_far.packets) before after held
        (contents_of contents out)
    breaks_off Needs input buffered at out reason read some refused unfinished so_far = record {
      taken = input;
      text = so_far.text;
      read = read;
      begins =
          broken task.select input so_far.front so_far.text so_far.packets so_far.kept so_far.all_accepted at.reader
          task.count so_far.parts Needs task.form buffered reason so_far.place refused unfinished
          (Reached-fewer task contents held input buffered at out some so_far) so_far.made;
      written = so_far.written;
    }

    -- a read fails
    pub broken_off : (mid : Option (List ℕ)) (r : Result Verdict RunFault) (input buffered : List ℕ) (at : Progress X)
        (out : OutputBuffer W) (reason : CaptureRefusal)
        → Consumes before mid input → Keeps mid after → IsErrAnd r (λ fault. fault ≡ faults.Input)
        → at.left ≢ Some 0 → RefusesCapture buffered at.reader reason → required_len reason ≢ None
        → Reached task contents held input buffered at out
        → HasCounted task before after held (contents_of contents out) r (counts_at at)
    broken_off mid (Ok verdict) input buffered at out reason read kept is some refused needed so_far = absurd is
    broken_off mid (Err fault) input buffered at out reason read kept is some refused needed so_far =
        counted_as input buffered at out (contents_of contents out) (Err fault) so_far
        (subst (λ (f : RunFault). HasRunOver task so_far.packets before after held (contents_of contents out) (Err f))
        (sym is)
        (breaks_off (λ n. n ≢ None) input buffered at out reason (Consumes-kept before mid after input read kept)
        some refused needed so_far))

    -- memory is refused
    pub without_memory : (r : Result Verdict RunFault) (input buffered : List ℕ) (at : Progress X)
        (out : OutputBuffer W)
        (reason : CaptureRefusal) (n : ℕ)
        → IsErrAnd r (λ fault. fault ≡ faults.Memory) → Consumes before after input → at.left ≢ Some 0
        → RefusesCapture buffered at.reader reason
        → required_len reason ≡ Some n → 65536 < n
        → Reached task contents held input buffered at out
        → HasCounted task before after held (contents_of contents out) r (counts_at at)
    without_memory (Ok verdict) input buffered at out reason n is read some refused needs large so_far = absurd is
    without_memory (Err fault) input buffered at out reason n is read some refused needs large so_far =
        counted_as input buffered at out (contents_of contents out) (Err fault) so_far
        (subst (λ (f : RunFault). HasRunOver task so_far.packets before after held (contents_of contents out) (Err f))
        (sym is)
        (breaks_off NeedsMemory input buffered at out reason read some refused (subst NeedsMemory
        (sym needs) large) so_far))

    -- a packet can't be edited, or the writer fails
    stopped_taking : (fault : RunFault) (input buffered : List ℕ) (old new : Progress X) (from to : OutputBuffer W)
        → IsTakingFault fault → OnNotEdited fault (λ offset. StopsAfter task contents buffered old from offset to)
        → Consumes before after input → Reached task contents held input buffered old from
        → HasCounted task before after held (contents_of contents to) (Err fault) (counts_at new)
    stopped_taking (faults.NotEdited offset) input buffered old new from to is stops read so_far =
        let said = at_packet task contents before after held task.form input offset to read (stops held input so_far) in
        record { packets = []; run = said; counted = tt }
    stopped_taking h input buffered old new from to is stops read so_far = search rules

    pub stopped_with : (r : Result Verdict RunFault) (fault : RunFault) (input buffered : List ℕ) (old new : Progress X)
        (from to : OutputBuffer W)
        → IsErrAnd r (λ other. other ≡ fault) → IsTakingFault fault
        → OnNotEdited fault (λ offset. StopsAfter task contents buffered old from offset to)
        → Consumes before after input → Reached task contents held input buffered old from
        → HasCounted task before after held (contents_of contents to) r (counts_at new)
    stopped_with (Ok verdict) fault input buffered old new from to is of stops read so_far = absurd is
    stopped_with (Err other) fault input buffered old new from to is of stops read so_far =
        subst (λ (f : RunFault). HasCounted task before after held (contents_of contents to) (Err f) (counts_at new))
        (sym is) (stopped_taking fault input buffered old new from to of stops read so_far)

-- ---- the closing flush

-- all that waited is passed to the writer
HasRunOver-flushed : {W : Type 0} (task : TaskValue) (contents : W → Option (List ℕ))
    (before after held : Option (List ℕ))
    (from to : OutputBuffer W) (r : Result Verdict RunFault)
    (packets : List PacketValue)
    → WritesOut contents from to → HasRunOver task packets before after held (contents_of contents from) r
    → HasRunOver task packets before after held (contents to.writer.now) r
HasRunOver-flushed task contents before after held from to (Ok verdict) packets drains (inl h) =
    inl (answers_flushed contents before after held from to drains verdict h)
HasRunOver-flushed task contents before after held from to (Ok verdict) packets drains (inr h) =
    inr (stops_flushed contents before after held from to drains h)
HasRunOver-flushed task contents before after held from to (Err (faults.Capture fault)) packets drains h =
    stops_flushed contents before after held from to drains h
HasRunOver-flushed task contents before after held from to (Err (faults.NotEdited offset)) packets drains h =
    stops_flushed contents before after held from to drains h
HasRunOver-flushed task contents before after held from to (Err faults.Input) packets drains h =
    breaks_flushed contents before after held from to drains h
HasRunOver-flushed task contents before after held from to (Err faults.Output) packets drains h = tt
HasRunOver-flushed task contents before after held from to (Err faults.Memory) packets drains h =
    breaks_flushed contents before after held from to drains h

pub HasCounted-flushed : {W : Type 0} (task : TaskValue) (contents : W → Option (List ℕ))
    (before after held : Option (List ℕ)) (from to : OutputBuffer W) (r : Result Verdict RunFault)
    (counts : PacketCounts)
    → WritesOut contents from to → HasCounted task before after held (contents_of contents from) r counts
    → HasCounted task before after held (contents to.writer.now) r counts
HasCounted-flushed task contents before after held from to r counts drains h = search (rules, HasRunOver-flushed)

-- .. without the number of packets
pub has_run : (task : TaskValue) (r : Result Verdict RunFault) (counts : PacketCounts)
    (before after held holds : Option (List ℕ))
    → HasCounted task before after held holds r counts → HasRun task before after held holds r
has_run task r counts before after held holds h = (h.packets, h.run)

-- ---- a run over a slice

slice_answers : (task : TaskValue) (packets : List PacketValue) (can_fail : Type 0) (bytes : List ℕ)
    (after held holds : Option (List ℕ))
    (r : Result Verdict RunFault)
    → length bytes < 2 ^ 64 - 1
    → HasRunOver task packets (Some bytes) after held holds r
    → IfErr r (λ fault. OnStreamFault fault (⊥ ⊎ IsEndless (Some bytes) after) can_fail)
    → AnswersSliceOver task packets can_fail bytes held holds r
slice_answers task packets can_fail bytes after held holds (Ok verdict) short (inl h) failed =
    inl (answers_slice (CompletesAll task packets) bytes after held holds verdict h)
slice_answers task packets can_fail bytes after held holds (Ok verdict) short (inr h) failed =
    inr (stops_slice (ReachesCount task packets verdict) bytes after held holds h)
slice_answers task packets can_fail bytes after held holds (Err (faults.Capture fault)) short h failed =
    stops_slice (StopsAtFault task.select task.count task.form packets fault) bytes after held holds h
slice_answers task packets can_fail bytes after held holds (Err (faults.NotEdited offset)) short h failed =
    stops_slice (StopsAtPacket task.select task.count task.form offset) bytes after held holds h
slice_answers task packets can_fail bytes after held holds (Err faults.Input) short h failed =
    absurd (no_endless_slice bytes after short failed)
slice_answers task packets can_fail bytes after held holds (Err faults.Output) short h failed = failed
slice_answers task packets can_fail bytes after held holds (Err faults.Memory) short h failed =
    breaks_slice (EndsInUnit NeedsMemory task.select task.count task.form packets) bytes after held holds h

pub slice_answered : (task : TaskValue) (can_fail : Type 0) (bytes : List ℕ)
    (before after held holds : Option (List ℕ))
    (r : Result Verdict RunFault)
    → before ≡ Some bytes → length bytes < 2 ^ 64 - 1 → HasRun task before after held holds r
    → IfErr r (λ fault. OnStreamFault fault (⊥ ⊎ IsEndless before after) can_fail)
    → AnswersSlice task can_fail bytes held holds r
slice_answered task can_fail bytes before after held holds r is short h failed = (
  h.0,
  slice_answers task h.0 can_fail bytes after held holds r short
      (subst (λ (o : Option (List ℕ)). HasRunOver task h.0 o after held holds r) is h.1)
      (subst (λ (o : Option (List ℕ)). IfErr r (λ fault. OnStreamFault fault (⊥ ⊎ IsEndless o after) can_fail)) is
      failed),
)
