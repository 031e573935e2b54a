-- What is around the program: captures by their names, the standard streams, and files of copies. Each `can_..` is
-- the claim that something can fail.
use Rattle.std.specs.Prelude.{ℕ, List, Option, Bool}
use Rattle.ether_files.specs.declared.open_fault.OpenFault.{OpenFault}
use Rattle.ether_files.specs.declared.write_fault.WriteFault.{WriteFault}

-- captures by their names
pub record Named : Type 1 where
  -- the capture of this name has these bytes
  pub has : (name : List ℕ) → Option (List ℕ) → Type 0
  -- opening a capture can fail, for this reason
  pub can_refuse : OpenFault → Type 0
  -- reading one can fail
  pub can_read : Type 0

-- files that keep copies
pub record Kept : Type 1 where
  -- beginning or finishing a copy can fail, for this reason
  pub can_keep : WriteFault → Type 0
  -- writing one can fail
  pub can_copy : Type 0
  -- what was copied of standard input before a fault is kept
  pub keeps_input : Bool

-- captures, and standard input and output
pub record Reading : Type 1 where
  pub named : Named
  -- reading standard input can fail
  pub can_fail : Type 0
  -- writing to standard output can fail
  pub can_write : Type 0

-- all that is around the program
pub record World : Type 1 where
  pub reading : Reading
  pub kept : Kept
  -- writing a message can fail
  pub can_tell : Type 0
  -- it is known what the journal of counted rows has
  pub is_known : Bool

-- what is read and written, at one time: None where that is not known
pub record Streams : Type 0 where
  -- what standard input has left
  pub input : Option (List ℕ)
  -- what was written to standard output
  pub output : Option (List ℕ)
  -- what was written as messages
  pub messages : Option (List ℕ)
  -- what the file of a name has
  pub files : (name : List ℕ) → Option (List ℕ)

-- ---- the same records by their fields in order, for contracts

abbrev pub names : (has : List ℕ → Option (List ℕ) → Type 0) → (can_refuse : OpenFault → Type 0)
    → (can_read : Type 0) → Named
names has can_refuse can_read = record { has = has; can_refuse = can_refuse; can_read = can_read }

abbrev pub keeps : (can_keep : WriteFault → Type 0) → (can_copy : Type 0) → (keeps_input : Bool) → Kept
keeps can_keep can_copy keeps_input =
    record { can_keep = can_keep; can_copy = can_copy; keeps_input = keeps_input }

abbrev pub reads : Named → (can_fail can_write : Type 0) → Reading
reads named can_fail can_write = record { named = named; can_fail = can_fail; can_write = can_write }

abbrev pub world : Reading → Kept → (can_tell : Type 0) → (is_known : Bool) → World
world reading kept can_tell is_known =
    record { reading = reading; kept = kept; can_tell = can_tell; is_known = is_known }

abbrev pub streams : (input output messages : Option (List ℕ)) → (files : List ℕ → Option (List ℕ)) → Streams
streams input output messages files =
    record { input = input; output = output; messages = messages; files = files }
