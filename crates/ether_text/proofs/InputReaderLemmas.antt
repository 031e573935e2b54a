-- Reads, one after another.
use Rattle.std.proofs.Common.{◌≡◌, ◌≤◌, ◌+◌, ℕ, List, [], ◌++◌, length, Option, true, false, sym, ◌∙◌, arith, length-append}
use Rattle.std.specs.Io.KnownBytes.{Consumes, Keeps}
use Rattle.ether_text.specs.InputReader.{HasCause, failed_before, none_left, text_waits, read_failed, ReadsOn, StopsReading, was_stopped, stopped, used_up}
use Rattle.ether_text.specs.declared.input_reader.InputReader.{InputReader}
use Rattle.ether_output.specs.declared.output_buffer.OutputBuffer.{OutputBuffer}
use Rattle.ether_output.proofs.KnownBytesLemmas.{Consumes-none, Consumes-then, Consumes-kept}

module _ {R : Type 0} (remaining : R → Option (List ℕ)) where
  -- nothing is read
  pub ReadsOn-none : (at : InputReader R) → ReadsOn remaining at at
  ReadsOn-none at = record {
    taken = [];
    read = Consumes-none (remaining at.inner.now);
    same_mark = λ set. set;
    counted = omega arith;
  }

  -- some bytes are read
  pub read_on : (old new : InputReader R) (taken : List ℕ)
      → Consumes (remaining old.inner.now) (remaining new.inner.now) taken
      → new.has_failed ≡ false → new.reads_left + 1 ≡ old.reads_left → 1 ≤ length taken → ReadsOn remaining old new
  read_on old new taken read going counted some = record {
    taken = taken;
    read = read;
    same_mark = λ set. let e : true ≡ false = sym set ∙ going in absurd (cc);
    counted = omega (arith, counted, some);
  }

  pub ReadsOn-then : (old mid new : InputReader R) → ReadsOn remaining old mid → ReadsOn remaining mid new
      → ReadsOn remaining old new
  ReadsOn-then old mid new first second = record {
    taken = first.taken ++ second.taken;
    read =
        Consumes-then (remaining old.inner.now) (remaining mid.inner.now) (remaining new.inner.now) first.taken
        second.taken first.read second.read;
    same_mark = λ set. first.same_mark (second.same_mark set);
    counted =
        let a = first.counted in let b = second.counted in omega (arith, a, b, length-append first.taken second.taken);
  }

  -- a read fails
  pub read_stops : {W : Type 0} (can_fail : Type 0) (out : OutputBuffer W) (old mid new : InputReader R)
      → ReadsOn remaining old mid
      → out.waiting.items ≡ [] → HasCause can_fail out mid new
      → Keeps (remaining mid.inner.now) (remaining new.inner.now) → StopsReading remaining can_fail old new
  read_stops can_fail out old mid new on none (failed_before set same) kept = was_stopped (on.same_mark set)
  read_stops can_fail out old mid new on none (none_left over same) kept =
      used_up on.taken
      (Consumes-kept (remaining old.inner.now) (remaining mid.inner.now) (remaining new.inner.now) on.taken on.read
      kept)
      (let a = on.counted in omega (arith, a, over))
  read_stops can_fail out old mid new on none (text_waits some same) kept = absurd (some none)
  read_stops can_fail out old mid new on none (read_failed failed counted) kept = stopped failed

  pub stops_later : (can_fail : Type 0) (old mid new : InputReader R) → ReadsOn remaining old mid
      → StopsReading remaining can_fail mid new → StopsReading remaining can_fail old new
  stops_later can_fail old mid new on (was_stopped set) = was_stopped (on.same_mark set)
  stops_later can_fail old mid new on (stopped failed) = stopped failed
  stops_later can_fail old mid new on (used_up taken read counted) =
      used_up (on.taken ++ taken)
      (Consumes-then (remaining old.inner.now) (remaining mid.inner.now) (remaining new.inner.now) on.taken taken
      on.read read)
      (let a = on.counted in omega (arith, a, counted, length-append on.taken taken))
