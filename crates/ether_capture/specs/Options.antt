-- What the arguments ask for. `clap` defines which options words are, and which values these have.
use Rattle.std.specs.Prelude.{◌≡◌, ◌≢◌, ◌⊎◌, ◌≤◌, ℕ, List, [], ◌∷◌, ◌++◌, length, map, codes, Bool, true, false, if◌then◌else◌, ◌&&◌, ◌||◌, not, Option, Some, None, unwrap_or, ⊤}
use Rattle.std.specs.Int.NonZero.{non_zero_usize_get}
use Rattle.std.specs.List.{filter}
use Rattle.std.specs.Option.{option_and_then, option_map, option_map_or, is_some}
use Rattle.std.specs.Str.{bytes_eq}
use Rattle.clap.specs.Words.{App, IsAmong, Row, Rule, Text, all_of, fault_of, first_of, matches_of, new_app, new_rule}
use Rattle.clap.specs.declared.builder.action.ArgAction.TheVariants.{Append}
use Rattle.clap.specs.declared.error.kind.ErrorKind.{ErrorKind}
use Rattle.clap.specs.declared.error.kind.ErrorKind.TheVariants.{DisplayHelp, DisplayVersion, OutOfMemory}
use Rattle.ether_filter.specs.Expressions.{Expression}
use Rattle.ether_filter.specs.Refusals.{RefusesText}
use Rattle.ether_filter.specs.declared.filter_error.FilterError.{FilterError}
use Rattle.ether_content.specs.Editing.{EditValue, CutToHeaders, PopVlan, PushVlan, SetVlan}
use Rattle.ether_content.specs.EditingViews.{edit_view}
use Rattle.ether_format.specs.declared.format.Format.{Format}
use Rattle.ether_format.specs.declared.format.Format.TheVariants.{Brief, Csv, Fields, Json, JsonBytes}
use Rattle.ether_format.specs.Columns.{ColumnValue, columns_view, common_columns, original_column}
use Rattle.ether_format.specs.declared.columns.Columns.{Columns}
use Rattle.ether_stream.specs.declared.option_values.FormatName.{FormatName}
use Rattle.ether_stream.specs.declared.option_values.FormatName.TheVariants as names
use Rattle.ether_stream.specs.OptionValues.{AreFields, AreWrongFields, IsCount, IsFormat, IsIfAny, IsLimit, IsOneEdit, IsSelection, IsWrongEdit, MeansAnswer, MeansUndecided}
use Rattle.ether_stream.specs.Usage.{IsWrongValue}
use Rattle.ether_pcap.specs.CopiedUnits.{ModeValue, Exact, Changed}
use Rattle.ether_stream.specs.Copying.{growth_if}
use Rattle.ether_stream.specs.declared.selection.Selection.{Selection}
use Rattle.ether_stream.specs.declared.selection.Undecided.{Undecided}
use Rattle.ether_stream.specs.declared.usage.DependentOption.{DependentOption}
use Rattle.ether_stream.specs.declared.usage.DependentOption.TheVariants as dependent
use Rattle.ether_stream.specs.declared.usage.Usage.{Usage}
use Rattle.ether_stream.specs.declared.usage.Usage.TheVariants as usages
use Rattle.ether_stream.specs.declared.usage.ValueOption.TheVariants as value_options
use Rattle.ether_stream.specs.Task.{Copy, FormValue, Lines, LinesValue, TaskValue, lines_view, task_view}
use Rattle.ether_capture.specs.OptionTable.{all_options, is_added, option_rule}
use Rattle.ether_capture.specs.WrongWords.{IsUsageOf}
use Rattle.ether_capture.specs.declared.request.Asked.{Asked}
use Rattle.ether_capture.specs.declared.heading.Heading.{Heading}
use Rattle.ether_capture.specs.declared.heading.Heading.TheVariants.{Absent, Line, Statistics}
use Rattle.ether_capture.specs.declared.statistics_format.Counting.{Counting}
use Rattle.ether_capture.specs.declared.statistics_format.StatisticsFormat.{StatisticsFormat}
use Rattle.ether_capture.specs.declared.statistics_format.StatisticsFormat.TheVariants as counts
use Rattle.ether_capture.specs.declared.request.Listing.{Listing}
use Rattle.ether_capture.specs.declared.request.RequestError.{RequestError}
use Rattle.ether_capture.specs.declared.request.RequestError.TheVariants as reasons
use Rattle.ether_capture.specs.declared.request.Request.{Request}
use Rattle.ether_capture.specs.declared.request.Request.TheVariants as requests

-- the lines of the captures in the files of these names
pub record ListingValue : Type 0 where
  pub select : Option Selection
  pub count : Option ℕ
  pub options : LinesValue
  pub heading : Heading
  pub files : List Text

abbrev pub listing_view : Listing → ListingValue
listing_view l = record {
  select = l.selection;
  count = option_map non_zero_usize_get l.count;
  options = lines_view l.options;
  heading = l.heading;
  files = map (λ s. s.now) l.files.items;
}

-- this is made of the capture in the file of this name, or of standard input, and goes to the file of that name, or to
-- standard output, with this heading; or lines of several captures; the sums of counts; the usage; the version
pub data RequestValue : Type 0 where
  Run : TaskValue → (heading : Heading) → (input output : Option Text) → RequestValue
  Lists : ListingValue → RequestValue
  Merges : (format : StatisticsFormat) → RequestValue
  Help : RequestValue
  Version : RequestValue

abbrev pub request_view : Request → RequestValue
request_view (requests.Run job) =
    Run (task_view job.task) job.heading (option_map (λ s. s.now) job.input) (option_map (λ s. s.now) job.output)
request_view (requests.List listing) = Lists (listing_view listing)
request_view (requests.Merge format) = Merges format
request_view requests.Help = Help
request_view requests.Version = Version

-- the format of the line of names that is written first
abbrev pub format_in : Heading → Option Format
format_in Absent = None
format_in (Line format) = Some format
format_in (Statistics counting columns) = Some (Fields columns)

-- how packets are counted
abbrev pub statistics_in : Heading → Option Counting
statistics_in (Statistics counting columns) = Some counting
statistics_in heading = None

abbrev pub heading_in : RequestValue → Heading
heading_in (Run task heading input output) = heading
heading_in (Lists l) = l.heading
heading_in request = Absent

abbrev pub statistics_asked : RequestValue → Option Counting
statistics_asked request = statistics_in (heading_in request)

-- ---- the program's options

-- names of files
abbrev pub file_rule : Rule
file_rule = record (new_rule (codes "file")) { action = Some Append }

-- the options of the table, but for `--help` and `--version`, which `clap` adds, and then names
abbrev pub capture_rules : List Rule
capture_rules = map option_rule (filter (λ o. not (is_added o.spelling)) all_options) ++ file_rule ∷ []

abbrev pub capture_app : App
capture_app = let app =
    new_app (codes "ether_capture") in record app { top = record app.top { rules = capture_rules; has_version = true } }

-- ---- what is asked for

-- which options there are, with the text of a filter, the names of `-r` and `-w`, and the other names of files
pub record AskedValue : Type 0 where
  pub plain : Bool
  pub write : Bool
  pub edit : Option EditValue
  pub text : Option Text
  pub undecided : Option Undecided
  pub status_on_fault : Option Bool
  pub count : Option ℕ
  pub jobs : Option ℕ
  pub limit : Option ℕ
  pub format : Option FormatName
  pub fields : Option Columns
  pub by : Option Columns
  pub bytes : Bool
  pub header : Bool
  pub stats : Bool
  pub merge : Bool
  pub counted : Option Columns
  pub input : Option Text
  pub output : Option Text
  pub files : List Text

-- an option without a value is there
abbrev pub is_set : (name : Text) → List Row → Bool
is_set name rows = option_map_or (λ text. bytes_eq text (codes "true")) (first_of name rows) false

-- the edit that options ask for, one at most
abbrev pub IsEdit : List Row → Option EditValue → Type 0
IsEdit rows =
    IsOneEdit (is_set (codes "cut-to-headers") rows) (is_set (codes "pop-vlan") rows)
    (first_of (codes "push-vlan") rows)
    (first_of (codes "set-vlan") rows)

-- the columns whose texts are counted, unless others are named
abbrev pub named_or_common : Option Columns → List ColumnValue
named_or_common None = common_columns
named_or_common (Some columns) = columns_view columns

-- .. by one of two options
abbrev pub first_columns : (by fields : Option Columns) → Option Columns
first_columns (Some columns) fields = Some columns
first_columns None fields = fields

-- .. after the length of the packet, if there are 32 at most
abbrev pub AreCountedColumns : (stats : Bool) → (fields counted : Option Columns) → Type 0
AreCountedColumns false fields counted = counted ≡ None
AreCountedColumns true fields (Some columns) = columns_view columns ≡ original_column ∷ named_or_common fields
AreCountedColumns true fields None = 32 ≤ length (named_or_common fields)

-- what the values of options, by their names, ask for
pub record Asks (rows : List Row) (a : AskedValue) : Type 0 where
  pub plain : a.plain ≡ is_set (codes "plain") rows
  pub write : a.write ≡ is_set (codes "write") rows
  pub edit : IsEdit rows a.edit
  pub text : a.text ≡ first_of (codes "select") rows
  pub undecided : IsIfAny MeansUndecided (first_of (codes "undecided") rows) a.undecided
  pub status_on_fault : IsIfAny MeansAnswer (first_of (codes "status-on-fault") rows) a.status_on_fault
  pub count : IsIfAny IsCount (first_of (codes "count") rows) a.count
  pub jobs : IsIfAny IsCount (first_of (codes "jobs") rows) a.jobs
  pub limit : IsIfAny IsLimit (first_of (codes "limit") rows) a.limit
  pub format : IsFormat (first_of (codes "format") rows) a.format
  pub fields : IsIfAny AreFields (first_of (codes "fields") rows) a.fields
  pub by : IsIfAny AreFields (first_of (codes "by") rows) a.by
  pub bytes : a.bytes ≡ is_set (codes "bytes") rows
  pub header : a.header ≡ is_set (codes "header") rows
  pub stats : a.stats ≡ is_set (codes "stats") rows
  pub merge : a.merge ≡ is_set (codes "merge") rows
  pub counted : AreCountedColumns a.stats (first_columns a.by a.fields) a.counted
  pub input : a.input ≡ first_of (codes "read") rows
  pub output : a.output ≡ first_of (codes "output") rows
  pub files : a.files ≡ unwrap_or (all_of (codes "file") rows) []

-- ---- requests

-- there are two names at least
abbrev pub are_several : List Text → Bool
are_several (name ∷ other ∷ names) = true
are_several _ = false

-- a copy is asked for: by `-w`, too
abbrev pub makes_copy : AskedValue → Bool
makes_copy a = a.write || is_some a.output

-- there is a name
abbrev pub is_any : List Text → Bool
is_any [] = false
is_any (name ∷ names) = true

-- the columns of rows, if these are asked for
abbrev pub columns_asked : AskedValue → Option Columns
columns_asked a = if a.stats then a.counted else a.fields

abbrev pub is_csv : Option FormatName → Bool
is_csv (Some names.Csv) = true
is_csv name = false

-- a format of this name that has no columns; objects of JSON may have all bytes of a packet
abbrev pub format_named : Option FormatName → (bytes : Bool) → Option Format
format_named (Some names.Json) bytes = Some (if bytes then JsonBytes else Json)
format_named (Some names.Brief) bytes = Some Brief
format_named name bytes = None

-- the format that is asked for: columns are one, as CSV or with tabs
abbrev pub format_asked : AskedValue → Option Format
format_asked a =
    option_map_or (λ columns. Some (if is_csv a.format then Csv columns else Fields columns)) (columns_asked a)
    (format_named a.format a.bytes)

-- counts are lines of JSON, or of fields
abbrev pub statistics_format_of : Option FormatName → StatisticsFormat
statistics_format_of (Some names.Json) = counts.Json
statistics_format_of format = counts.Text

-- counts of the texts of columns: of all columns together, or of each
abbrev pub statistics_of : (joint : Bool) → (format : Option FormatName) → (columns : Option Columns) → Heading
statistics_of joint format None = Absent
statistics_of joint format (Some columns) =
    Statistics (record { is_joint = joint; format = statistics_format_of format }) columns

-- a line of their names
abbrev pub line_of : Option Format → Heading
line_of (Some format) = Line format
line_of None = Absent

-- what is made of columns
abbrev pub heading_of : AskedValue → Heading
heading_of a =
    if a.stats then statistics_of (is_some a.by) a.format a.counted
    else (if a.header then line_of (format_asked a) else Absent)

abbrev pub is_brief : Option FormatName → Bool
is_brief (Some names.Brief) = true
is_brief name = false

abbrev pub is_json : Option FormatName → Bool
is_json (Some names.Json) = true
is_json name = false

-- columns are counted together, and others by themselves
abbrev pub clashes_with_by : AskedValue → Bool
clashes_with_by a = is_some a.by && is_some a.fields

-- columns are neither brief nor JSON; counts have no heading and no bytes, are neither brief nor CSV, and their columns
-- are 32 at most with the length of the packet
abbrev pub clashes_in_columns : AskedValue → Bool
clashes_in_columns a =
    if a.stats
    then a.header
    || (a.bytes || (not (is_some a.counted) || (is_brief a.format || (is_csv a.format || clashes_with_by a))))
    else (is_brief a.format || is_json a.format) && is_some a.fields

-- no copy is plain, or has a limit or a format; lines alone are plain
abbrev pub clashes_with_copy : AskedValue → Bool
clashes_with_copy a =
    if makes_copy a then a.plain || (is_some a.limit || is_some (format_asked a)) else a.plain
    && is_some (format_asked a)

-- packets are chosen, or a capture is
abbrev pub chooses_packets : AskedValue → Bool
chooses_packets a = is_some a.text || (is_some a.count || is_some a.input)

-- something is made of packets
abbrev pub makes_packets : AskedValue → Bool
makes_packets a = makes_copy a || (a.plain || (a.stats || (is_some a.limit || is_some a.fields)))

-- .. in a form that sums of counts do not have, or their faults count
abbrev pub forms_packets : AskedValue → Bool
forms_packets a = is_some a.status_on_fault || (a.bytes || (is_brief a.format || is_csv a.format))

-- sums of counts are made of no capture
abbrev pub clashes_with_merge : AskedValue → Bool
clashes_with_merge a = a.merge && (chooses_packets a || (makes_packets a || forms_packets a))

-- an option is asked for that does not go with the others
abbrev pub clashes : AskedValue → Bool
clashes a = clashes_with_copy a || (clashes_in_columns a || clashes_with_merge a)

abbrev pub edit_option : EditValue → DependentOption
edit_option CutToHeaders = dependent.CutToHeaders
edit_option PopVlan = dependent.PopVlan
edit_option (PushVlan tpid id) = dependent.PushVlan
edit_option (SetVlan from to) = dependent.SetVlan

-- an edit is there without a copy
abbrev pub lacking_copy : AskedValue → Option DependentOption
lacking_copy a = if makes_copy a then None else option_map edit_option a.edit

-- an option is there without the one that it needs: no packet is undecided without a filter, names and CSV are those
-- of columns, objects of JSON alone have bytes, columns are counted together only if some are, and only a copy is
-- edited
abbrev pub lacking : AskedValue → Option DependentOption
lacking a =
    if is_some a.undecided && not (is_some a.text) then Some dependent.Undecided
    else (if a.header && (not (is_some a.fields) && not a.stats) then Some dependent.Header
    else (if is_csv a.format && (not (is_some a.fields) && not a.stats) then Some dependent.Csv
    else (if a.bytes && not (is_json a.format) then Some dependent.Bytes
    else (if is_some a.by && not a.stats then Some dependent.By
    else lacking_copy a))))

-- the first name
abbrev pub first_name : List Text → Option Text
first_name [] = None
first_name (name ∷ names) = Some name

-- .. after the first
abbrev pub second_name : List Text → Option Text
second_name [] = None
second_name (name ∷ names) = first_name names

-- a name of one file too many: no other is named with `-r`, sums are of no file, and a copy is of one
abbrev pub surplus : AskedValue → Option Text
surplus a =
    if is_some a.input || a.merge then first_name a.files
    else (if makes_copy a then second_name a.files else None)

-- the name of a file, unless it is `-`, for a standard stream
abbrev pub named : Text → Option Text
named name = if bytes_eq name (codes "-") then None else Some name

-- one of these names is that of standard input
abbrev pub names_input : List Text → Bool
names_input [] = false
names_input (name ∷ names) = if bytes_eq name (codes "-") then true else names_input names

-- .. and another one is, too
abbrev pub names_input_twice : List Text → Bool
names_input_twice [] = false
names_input_twice (name ∷ names) = if bytes_eq name (codes "-") then names_input names else names_input_twice names

-- nothing is wrong with the options and names together
pub record Fits (a : AskedValue) : Type 0 where
  pub complete : lacking a ≡ None
  pub few : surplus a ≡ None
  pub once : names_input_twice a.files ≡ false
  pub together : clashes a ≡ false

-- this is wrong with them
abbrev pub IsFaultOf : AskedValue → Usage → Type 0
IsFaultOf a (usages.Lacks option) = lacking a ≡ Some option
IsFaultOf a (usages.Surplus name) = surplus a ≡ Some name.now
IsFaultOf a usages.InputTwice = names_input_twice a.files ≡ true
IsFaultOf a usages.Clash = clashes a ≡ true
IsFaultOf a usage = ⊥

-- faults of headers are no failure
abbrev pub excuses : (status_on_fault : Option Bool) → Bool
excuses (Some false) = true
excuses answer = false

-- the name of the only file, if one is named, by `-r` or without it
abbrev pub only_name : (read : Option Text) → (files : List Text) → Option Text
only_name (Some name) files = Some name
only_name None [] = None
only_name None (name ∷ names) = Some name

-- .. unless standard input is read: without a name, too
abbrev pub input_of : AskedValue → Option Text
input_of a = option_and_then named (only_name a.input a.files)

-- which lines are asked for; those of another format have no totals
abbrev pub options_of : AskedValue → LinesValue
options_of a = record {
  file = input_of a;
  is_plain = a.plain || is_some (format_asked a);
  format = format_asked a;
  limit = a.limit;
  before = None;
  excuses = excuses a.status_on_fault;
}

-- a copy is exact if all packets are copied, and none is edited; else it is another capture, in which packets may have
-- grown
abbrev pub mode_of : AskedValue → ModeValue
mode_of a = if is_some a.text || (is_some a.count || is_some a.edit) then Changed (growth_if a.edit) else Exact

-- lines are asked for, or a copy
abbrev pub form_of : AskedValue → FormValue
form_of a = if makes_copy a then Copy (mode_of a) a.edit else Lines (options_of a)

-- which packets are selected by an expression, if there is one
abbrev pub selection_of : AskedValue → Option Expression → Option Selection
selection_of a = option_map (λ x. record { filter = x; undecided = a.undecided })

-- the name of the copy's file, unless what is made goes to standard output
abbrev pub output_of : AskedValue → Option Text
output_of a = option_and_then named a.output

-- what is asked for
abbrev pub request_for : AskedValue → (select : Option Selection) → RequestValue
request_for a s =
    if a.merge then Merges (statistics_format_of a.format)
    else if are_several a.files
    then Lists (record { select = s; count = a.count; options = options_of a; heading = heading_of a; files = a.files })
    else Run (record { select = s; count = a.count; form = form_of a }) (heading_of a) (input_of a) (output_of a)

-- this is what is asked for
pub record IsRequestOf (a : AskedValue) (request : RequestValue) : Type 0 where
  pub expression : Option Expression
  pub goes : Fits a
  pub selects : IsSelection a.text expression
  pub is : request ≡ request_for a (selection_of a expression)

-- what arguments ask for; the first of them is the program's name
pub data NamesRequest : (words : List Text) → RequestValue → Type 0 where
  help : (words : List Text) → IsAmong DisplayHelp (fault_of capture_app words) → NamesRequest words Help
  version : (words : List Text) → IsAmong DisplayVersion (fault_of capture_app words) → NamesRequest words Version
  options : (words : List Text) (a : AskedValue) (request : RequestValue) → fault_of capture_app words ≡ []
      → Asks (matches_of capture_app words) a → IsRequestOf a request → NamesRequest words request

-- `clap` refuses them
pub record IsRefusedUsage (words : List Text) : Type 0 where
  pub kind : ErrorKind
  pub among : IsAmong kind (fault_of capture_app words)
  pub no_help : kind ≢ DisplayHelp
  pub no_version : kind ≢ DisplayVersion

-- several edits are asked for, or the value of one means nothing
abbrev pub IsWrongEditOf : List Row → Usage → Type 0
IsWrongEditOf rows =
    IsWrongEdit (is_set (codes "cut-to-headers") rows) (is_set (codes "pop-vlan") rows)
    (first_of (codes "push-vlan") rows)
    (first_of (codes "set-vlan") rows)

-- .. or that of another option
pub data MeansNothing (rows : List Row) : Usage → Type 0 where
  wrong_edit : (usage : Usage) → ((e : Option EditValue) → ¬ (IsEdit rows e)) → IsWrongEditOf rows usage
      → MeansNothing rows usage
  wrong_count : (usage : Usage) → ((n : Option ℕ) → ¬ (IsIfAny IsCount (first_of (codes "count") rows) n))
      → IsWrongValue value_options.Count (first_of (codes "count") rows) usage → MeansNothing rows usage
  wrong_limit : (usage : Usage) → ((n : Option ℕ) → ¬ (IsIfAny IsLimit (first_of (codes "limit") rows) n))
      → IsWrongValue value_options.Limit (first_of (codes "limit") rows) usage → MeansNothing rows usage
  wrong_format : (usage : Usage) → ((f : Option FormatName) → ¬ (IsFormat (first_of (codes "format") rows) f))
      → IsWrongValue value_options.Format (first_of (codes "format") rows) usage → MeansNothing rows usage
  wrong_fields : (usage : Usage) → ((c : Option Columns) → ¬ (IsIfAny AreFields (first_of (codes "fields") rows) c))
      → AreWrongFields value_options.Fields (first_of (codes "fields") rows) usage → MeansNothing rows usage
  wrong_by : (usage : Usage) → ((c : Option Columns) → ¬ (IsIfAny AreFields (first_of (codes "by") rows) c))
      → AreWrongFields value_options.By (first_of (codes "by") rows) usage → MeansNothing rows usage
  wrong_undecided : (usage : Usage)
      → ((u : Option Undecided) → ¬ (IsIfAny MeansUndecided (first_of (codes "undecided") rows) u))
      → IsWrongValue value_options.Undecided (first_of (codes "undecided") rows) usage → MeansNothing rows usage
  wrong_status_on_fault : (usage : Usage)
      → ((b : Option Bool) → ¬ (IsIfAny MeansAnswer (first_of (codes "status-on-fault") rows) b))
      → IsWrongValue value_options.StatusOnFault (first_of (codes "status-on-fault") rows) usage
      → MeansNothing rows usage
  wrong_jobs : (usage : Usage) → ((n : Option ℕ) → ¬ (IsIfAny IsCount (first_of (codes "jobs") rows) n))
      → IsWrongValue value_options.Jobs (first_of (codes "jobs") rows) usage → MeansNothing rows usage

-- .. or options and names do not fit together
pub record NamesFault (words : List Text) (usage : Usage) : Type 0 where
  pub asked : AskedValue
  pub taken : fault_of capture_app words ≡ []
  pub asks : Asks (matches_of capture_app words) asked
  pub is_fault : IsFaultOf asked usage

-- lines, or a copy, would be asked for, but the text of the filter is refused in this way
pub record HasNoFilter (a : AskedValue) (e : FilterError) : Type 0 where
  pub text : Text
  pub goes : Fits a
  pub is_text : a.text ≡ Some text
  pub refused : RefusesText text e

pub record NamesNoFilter (words : List Text) (e : FilterError) : Type 0 where
  pub asked : AskedValue
  pub taken : fault_of capture_app words ≡ []
  pub asks : Asks (matches_of capture_app words) asked
  pub no_filter : HasNoFilter asked e

-- Why arguments ask for nothing: `clap` refuses them, or takes them, but a value means nothing, or they do not fit
-- together, or the filter is no expression; or memory for them was refused.
pub data RefusesWords (words : List Text) : RequestError → Type 0 where
  clap_refuses : (usage : Usage) → IsRefusedUsage words → IsUsageOf words usage
      → RefusesWords words (reasons.Usage usage)
  means_nothing : (usage : Usage) → fault_of capture_app words ≡ [] → MeansNothing (matches_of capture_app words) usage
      → RefusesWords words (reasons.Usage usage)
  unfit : (usage : Usage) → NamesFault words usage → RefusesWords words (reasons.Usage usage)
  no_expression : (e : FilterError) → NamesNoFilter words e → RefusesWords words (reasons.Filter e)
  no_memory : RefusesWords words reasons.Memory

-- ---- step by step

abbrev pub asked_view : Asked → AskedValue
asked_view asked = record {
  plain = asked.is_plain;
  write = asked.is_write;
  edit = option_map edit_view asked.edit;
  text = option_map (λ s. s.now) asked.text;
  undecided = asked.undecided;
  status_on_fault = asked.status_on_fault;
  count = option_map non_zero_usize_get asked.count;
  jobs = option_map non_zero_usize_get asked.jobs;
  limit = asked.limit;
  format = asked.format;
  fields = asked.fields;
  by = asked.by;
  bytes = asked.has_bytes;
  header = asked.has_header;
  stats = asked.is_counted;
  merge = asked.is_merge;
  counted = asked.counted;
  input = option_map (λ s. s.now) asked.input;
  output = option_map (λ s. s.now) asked.output;
  files = map (λ s. s.now) asked.files.items;
}

-- what a kind of error of `clap` asks for
abbrev pub KindNames : ErrorKind → RequestValue → Type 0
KindNames kind request = ((kind ≡ DisplayHelp) × (request ≡ Help)) ⊎ ((kind ≡ DisplayVersion) × (request ≡ Version))

-- .. or why it is one
abbrev pub RefusesKind : (words : List Text) → ErrorKind → RequestError → Type 0
RefusesKind words kind (reasons.Usage usage) =
    ((kind ≢ DisplayHelp) × (kind ≢ DisplayVersion) × (kind ≢ OutOfMemory)) × IsUsageOf words usage
RefusesKind words kind (reasons.Filter e) = ⊥
RefusesKind words kind reasons.Memory = kind ≡ OutOfMemory

-- why values of options ask for nothing
abbrev pub RefusesRows : List Row → RequestError → Type 0
RefusesRows rows (reasons.Usage usage) = MeansNothing rows usage
RefusesRows rows (reasons.Filter e) = ⊥
RefusesRows rows reasons.Memory = ⊤

-- why what is asked for is not a request
abbrev pub RefusesAsked : AskedValue → RequestError → Type 0
RefusesAsked a (reasons.Usage usage) = IsFaultOf a usage
RefusesAsked a (reasons.Filter e) = HasNoFilter a e
RefusesAsked a reasons.Memory = ⊥
