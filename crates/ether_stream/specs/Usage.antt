-- What is wrong with the words of a request.
use Rattle.std.specs.Prelude.{◌≡◌, ℕ, List, ◌++◌, codes, Option, Some}
use Rattle.ether_stream.specs.declared.messages.TheConstants.{BY, BYTES, CLASH, COLUMNS, COPIES, COUNT, CUT_TO_HEADERS, EDITS, FIELDS, FORMAT, FORMATS, FORMAT_CSV, FORMAT_JSON, HEADER, HEADERS, INPUT_TWICE, JOBS, KEEP_OR_DROP, LIMIT, NO_COLUMN, NO_OPTION, NO_VALUE, PACKETS, POP_VLAN, PUSHED_TAG, PUSH_VLAN, SELECT, SET_VLAN, STATS, STATUS_ON_FAULT, SURPLUS, TWICE, TWO_IDENTIFIERS, UNDECIDED, YES_OR_NO}
use Rattle.ether_stream.specs.declared.usage.DependentOption.{DependentOption}
use Rattle.ether_stream.specs.declared.usage.DependentOption.TheVariants as dependent
use Rattle.ether_stream.specs.declared.usage.Usage.{Usage}
use Rattle.ether_stream.specs.declared.usage.Usage.TheVariants as usages
use Rattle.ether_stream.specs.declared.usage.ValueOption.{ValueOption}
use Rattle.ether_stream.specs.declared.usage.ValueOption.TheVariants as value_options

-- an option as it is written
abbrev pub option_text : ValueOption → List ℕ
option_text value_options.PushVlan = PUSH_VLAN.now
option_text value_options.SetVlan = SET_VLAN.now
option_text value_options.Count = COUNT.now
option_text value_options.Limit = LIMIT.now
option_text value_options.Undecided = UNDECIDED.now
option_text value_options.StatusOnFault = STATUS_ON_FAULT.now
option_text value_options.Format = FORMAT.now
option_text value_options.Fields = FIELDS.now
option_text value_options.By = BY.now
option_text value_options.Jobs = JOBS.now

-- the values that it takes
abbrev pub expected_text : ValueOption → List ℕ
expected_text value_options.PushVlan = PUSHED_TAG.now
expected_text value_options.SetVlan = TWO_IDENTIFIERS.now
expected_text value_options.Count = PACKETS.now
expected_text value_options.Limit = HEADERS.now
expected_text value_options.Undecided = KEEP_OR_DROP.now
expected_text value_options.StatusOnFault = YES_OR_NO.now
expected_text value_options.Format = FORMATS.now
expected_text value_options.Fields = COLUMNS.now
expected_text value_options.By = COLUMNS.now
expected_text value_options.Jobs = PACKETS.now

-- an option that needs another one
abbrev pub dependent_text : DependentOption → List ℕ
dependent_text dependent.Undecided = UNDECIDED.now
dependent_text dependent.Header = HEADER.now
dependent_text dependent.Csv = FORMAT_CSV.now
dependent_text dependent.Bytes = BYTES.now
dependent_text dependent.By = BY.now
dependent_text dependent.CutToHeaders = CUT_TO_HEADERS.now
dependent_text dependent.PopVlan = POP_VLAN.now
dependent_text dependent.PushVlan = PUSH_VLAN.now
dependent_text dependent.SetVlan = SET_VLAN.now

-- .. and that one
abbrev pub needed_text : DependentOption → List ℕ
needed_text dependent.Undecided = SELECT.now
needed_text dependent.Header = FIELDS.now
needed_text dependent.Csv = FIELDS.now
needed_text dependent.Bytes = FORMAT_JSON.now
needed_text dependent.By = STATS.now
needed_text option = COPIES.now

-- what is said of words, with a colon after what it is said of
abbrev pub usage_text : Usage → List ℕ
usage_text (usages.Unknown word) = word.now ++ (codes ": " ++ NO_OPTION.now)
usage_text (usages.NoValue word) = word.now ++ (codes ": " ++ NO_VALUE.now)
usage_text usages.Words = TWICE.now
usage_text usages.Clash = CLASH.now
usage_text (usages.Lacks option) = dependent_text option ++ (codes " needs " ++ needed_text option)
usage_text (usages.Surplus name) = name.now ++ (codes ": " ++ SURPLUS.now)
usage_text usages.InputTwice = INPUT_TWICE.now
usage_text usages.Edits = EDITS.now
usage_text (usages.NoColumn option name) =
    option_text option ++ (codes ": " ++ (NO_COLUMN.now ++ (codes " '" ++ (name.now ++ codes "'"))))
usage_text (usages.Value option text) =
    option_text option ++ (codes " '" ++ (text.now ++ (codes "': expected " ++ expected_text option)))

-- the value of this option, which is there, is wrong
abbrev pub IsWrongValue : ValueOption → Option (List ℕ) → Usage → Type 0
IsWrongValue option text (usages.Value named wrong) = (named ≡ option) × (text ≡ Some wrong.now)
IsWrongValue option text usage = ⊥
