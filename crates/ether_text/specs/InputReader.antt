-- A reader that is read a bounded number of times.
use Rattle.std.specs.Prelude.{◌≡◌, ◌≢◌, ◌≤◌, ◌+◌, ℕ, List, [], length, Option, true}
use Rattle.std.specs.Io.KnownBytes.{Consumes}
use Rattle.ether_text.specs.declared.input_reader.InputReader.{InputReader}
use Rattle.ether_output.specs.declared.output_buffer.OutputBuffer.{OutputBuffer}

-- why a read returns a fault: there was one before, no read was left or text waits, and the reader is not called; or it
-- is called once and fails
pub data HasCause {R W : Type 0} (can_fail : Type 0) (out : OutputBuffer W) (old new : InputReader R) : Type 0 where
  failed_before : old.has_failed ≡ true → new.inner ≡ old.inner → HasCause can_fail out old new
  none_left : old.reads_left ≡ 0 → new.inner ≡ old.inner → HasCause can_fail out old new
  text_waits : out.waiting.items ≢ [] → new.inner ≡ old.inner → HasCause can_fail out old new
  read_failed : can_fail → new.reads_left + 1 ≡ old.reads_left → HasCause can_fail out old new

-- without a fault the reader gave some bytes, at least one at each read
pub record ReadsOn {R : Type 0} (remaining : R → Option (List ℕ)) (old new : InputReader R) : Type 0 where
  pub taken : List ℕ
  pub read : Consumes (remaining old.inner.now) (remaining new.inner.now) taken
  pub same_mark : new.has_failed ≡ true → old.has_failed ≡ true
  pub counted : old.reads_left ≤ new.reads_left + length taken

-- why reading ends with a fault: there was one before, or a read failed, or as many bytes were read as reads were left
pub data StopsReading {R : Type 0} (remaining : R → Option (List ℕ)) (can_fail : Type 0)
    (old new : InputReader R) : Type 0 where
  was_stopped : old.has_failed ≡ true → StopsReading remaining can_fail old new
  stopped : can_fail → StopsReading remaining can_fail old new
  used_up : (taken : List ℕ) → Consumes (remaining old.inner.now) (remaining new.inner.now) taken → old.reads_left
      ≤ length taken
      → StopsReading remaining can_fail old new
