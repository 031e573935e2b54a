-- What is made of a capture.
use Rattle.std.specs.Prelude.{◌<◌, ◌⊎◌, ℕ, List, Bool, true, false, Option, None, Some, unwrap_or, ⊤}
use Rattle.std.specs.Int.NonZero.{non_zero_usize_get}
use Rattle.std.specs.Option.{option_map}
use Rattle.ether_stream.specs.declared.selection.Selection.{Selection}
use Rattle.ether_stream.specs.declared.selection.Undecided.{Undecided}
use Rattle.ether_filter.specs.Expressions.{Expression}
use Rattle.ether_pcap.specs.Capture.{PacketValue}
use Rattle.ether_pcap.specs.CopiedUnits.{ModeValue, copy_mode_view}
use Rattle.ether_content.specs.Editing.{EditValue}
use Rattle.ether_content.specs.EditingViews.{edit_view}
use Rattle.ether_content.specs.Selecting.{IsSettled, IsUndecided, Selects}
use Rattle.ether_stream.specs.declared.selection.Undecided.TheVariants.{Dropped, Kept}
use Rattle.ether_stream.specs.declared.task.Form.{Form}
use Rattle.ether_stream.specs.declared.task.Form.TheVariants as forms
use Rattle.ether_stream.specs.declared.task.LineOptions.{LineOptions}
use Rattle.ether_format.specs.declared.format.Format.{Format}
use Rattle.ether_stream.specs.declared.task.Task.{Task}

-- Which lines the packets of a capture have: the name of its file, if that has one; whether the lines of packets and of
-- totals are left out; another format than lines; how many tags are read of a packet at most; how many packets are in
-- the captures before this one, if it is one of several; and whether faults are excused.
pub record LinesValue : Type 0 where
  pub file : Option (List ℕ)
  pub is_plain : Bool
  pub format : Option Format
  pub limit : Option ℕ
  pub before : Option ℕ
  pub excuses : Bool

abbrev pub lines_view : LineOptions → LinesValue
lines_view o = record {
  file = option_map (λ name. name.now) o.file;
  is_plain = o.is_plain;
  format = o.format;
  limit = o.limit;
  before = o.before;
  excuses = o.excuses;
}

-- the lines of its packets; or a copy of it, byte for byte or as another capture, each packet as it is, or edited
pub data FormValue : Type 0 where
  Lines : (options : LinesValue) → FormValue
  Copy : (mode : ModeValue) → (edit : Option EditValue) → FormValue

-- .. of the packets that are selected, or of all, and of this number of them at most
pub record TaskValue : Type 0 where
  pub select : Option Selection
  pub count : Option ℕ
  pub form : FormValue

abbrev pub form_view : Form → FormValue
form_view (forms.Lines options) = Lines (lines_view options)
form_view (forms.Copy mode edit) = Copy (copy_mode_view mode) (option_map edit_view edit)

abbrev pub task_view : Task → TaskValue
task_view task =
    record { select = task.selection; count = option_map non_zero_usize_get task.count; form = form_view task.form }

-- how many packets were in captures before this one
abbrev pub packets_before : FormValue → ℕ
packets_before (Lines options) = unwrap_or options.before 0
packets_before (Copy mode edit) = 0

abbrev pub is_copy : FormValue → Bool
is_copy (Lines options) = false
is_copy (Copy mode edit) = true

-- the captured bytes of a packet don't decide whether it is selected
abbrev pub IsOpen : (select : Option Selection) → PacketValue → Type 0
IsOpen None p = ⊥
IsOpen (Some s) p = IsUndecided s.filter p

-- These are chosen: those that a filter selects by the captured bytes; those that it may select, whatever the missing
-- bytes are; or those that it selects in any case.
abbrev pub IsChosenOf : (undecided : Option Undecided) → Expression → PacketValue → Type 0
IsChosenOf None x p = Selects x p
IsChosenOf (Some Kept) x p = IsSettled x p true ⊎ IsUndecided x p
IsChosenOf (Some Dropped) x p = IsSettled x p true

-- the packets that are chosen, or all
abbrev pub IsChosen : (select : Option Selection) → PacketValue → Type 0
IsChosen None p = ⊤
IsChosen (Some s) p = IsChosenOf s.undecided s.filter p

-- .. by whether a packet is selected, if that is decided
abbrev pub chosen_by : Undecided → (is_selected : Option Bool) → Bool
chosen_by Kept is_selected = unwrap_or is_selected true
chosen_by Dropped is_selected = unwrap_or is_selected false

-- this is less than the number of packets that are asked for, if that is limited
abbrev pub IsBelow : (count : Option ℕ) → ℕ → Type 0
IsBelow None k = ⊤
IsBelow (Some n) k = k < n
