-- A writer and the text that waits for it.
use Rattle.std.specs.Prelude.{◌≡◌, ◌⊎◌, ◌≤◌, ◌+◌, ℕ, List, [], ◌++◌, length, Option, Bool, true, false}
use Rattle.std.specs.Io.KnownBytes.{Appends, append_known}
use Rattle.ether_output.specs.declared.output_buffer.OutputBuffer.{OutputBuffer}

-- how many bytes may wait
abbrev pub room : ℕ
room = 65536

-- the writer's contents, if they are known, followed by the text that waits
abbrev pub contents_of : {W : Type 0} → (W → Option (List ℕ)) → OutputBuffer W → Option (List ℕ)
contents_of contents g = append_known (contents g.writer.now) g.waiting.items

-- the mark of a fault is set only if it was set before, or a call of the writer has failed
pub record Marks {W : Type 0} (can_fail : Type 0) (old new : OutputBuffer W) : Type 0 where
  pub cause : new.has_failed ≡ true → (old.has_failed ≡ true) ⊎ can_fail

-- The writer is the same. Unless it has failed by now, it had not failed before, and its contents and the text that
-- waits have together grown by the bytes. Once it has failed it is not called again.
pub record Grows {W : Type 0} (contents : W → Option (List ℕ)) (can_fail : Type 0) (old : OutputBuffer W)
    (bytes : List ℕ) (new : OutputBuffer W) : Type 0 where
  pub same_writer : new.writer.ghost_name ≡ old.writer.ghost_name
  pub going : new.has_failed ≡ false → old.has_failed ≡ false
  pub grown : new.has_failed ≡ false → Appends (contents_of contents old) (contents_of contents new) bytes
  pub marks : Marks can_fail old new
  pub untouched : old.has_failed ≡ true → new.writer ≡ old.writer

-- the bytes wait after those that waited, and nothing else has changed
pub record Waits {W : Type 0} (old : OutputBuffer W) (bytes : List ℕ) (new : OutputBuffer W) : Type 0 where
  pub items : new.waiting.items ≡ old.waiting.items ++ bytes
  pub same_writer : new.writer ≡ old.writer
  pub same_mark : new.has_failed ≡ old.has_failed

-- .. and if there is room for the bytes, they wait, and the writer is not called
pub record Takes {W : Type 0} (contents : W → Option (List ℕ)) (can_fail : Type 0) (old : OutputBuffer W)
    (bytes : List ℕ) (new : OutputBuffer W) : Type 0 where
  pub grows : Grows contents can_fail old bytes new
  pub fitting : length old.waiting.items + length bytes ≤ room → Waits old bytes new

-- the writer had not failed, has not failed now, and holds what waited, and no text waits
pub record WritesOut {W : Type 0} (contents : W → Option (List ℕ)) (old new : OutputBuffer W) : Type 0 where
  pub going : old.has_failed ≡ false
  pub goes_on : new.has_failed ≡ false
  pub written : Appends (contents old.writer.now) (contents new.writer.now) old.waiting.items
  pub none_waits : new.waiting.items ≡ []

-- the buffer takes the text for a frame
pub record TakesAnswer {W : Type 0} (contents : W → Option (List ℕ)) (can_fail : Type 0) (IsAnswer : (text : List ℕ)
    → (accepted : Bool) → Type 0) (old new : OutputBuffer W) (accepted : Bool) : Type 0 where
  pub text : List ℕ
  pub answers : IsAnswer text accepted
  pub taken : Takes contents can_fail old text new
