-- What words of a request mean.
use Rattle.std.specs.Prelude.{◌≡◌, ◌<◌, ◌==◌, ℕ, List, Bool, true, false, Option, Some, None, ⊤}
use Rattle.std.specs.List.{slice_split}
use Rattle.ether_filter.specs.Expressions.{Expression}
use Rattle.ether_filter.specs.Texts.{IsExpressionOf}
use Rattle.ether_filter.specs.Numerals.{number_in}
use Rattle.ether_filter.specs.Refusals.{RefusesText}
use Rattle.ether_filter.specs.declared.filter_error.FilterError.{FilterError}
use Rattle.ether_content.specs.Editing.{EditValue, CutToHeaders, PopVlan}
use Rattle.ether_format.specs.Columns.{AreColumns, IsUnknownIn, columns_view}
use Rattle.ether_format.specs.declared.columns.Columns.{Columns}
use Rattle.ether_stream.specs.declared.option_values.FormatName.{FormatName}
use Rattle.ether_stream.specs.declared.option_values.FormatName.TheVariants.{Json, Brief, Csv}
use Rattle.ether_stream.specs.VlanOptions.{IsTagEdit}
use Rattle.ether_stream.specs.Usage.{IsWrongValue}
use Rattle.ether_stream.specs.declared.option_values.TheConstants.{BRIEF, CSV, DROP, JSON, KEEP, LINES, NO, YES}
use Rattle.ether_stream.specs.declared.usage.Usage.{Usage}
use Rattle.ether_stream.specs.declared.usage.Usage.TheVariants as usages
use Rattle.ether_stream.specs.declared.usage.ValueOption.{ValueOption}
use Rattle.ether_stream.specs.declared.usage.ValueOption.TheVariants as value_options
use Rattle.ether_stream.specs.declared.vlan_options.TagEdit.TheVariants as tag_edits
use Rattle.ether_stream.specs.declared.selection.Undecided.{Undecided}
use Rattle.ether_stream.specs.declared.selection.Undecided.TheVariants.{Dropped, Kept}

-- a text that may be missing means this
abbrev pub IsIfAny : {A : Type 0} → (List ℕ → A → Type 0) → Option (List ℕ) → Option A → Type 0
IsIfAny Means None None = ⊤
IsIfAny Means (Some text) (Some it) = Means text it
IsIfAny Means text it = ⊥

-- a number of packets, written as in a filter, and not 0
abbrev pub IsCount : List ℕ → ℕ → Type 0
IsCount text n = (number_in text ≡ Some (Some n)) × (0 < n)

-- a number of headers, written alike, which may be 0
abbrev pub IsLimit : List ℕ → ℕ → Type 0
IsLimit text n = number_in text ≡ Some (Some n)

-- what becomes of packets that are undecided
abbrev pub MeansUndecided : List ℕ → Undecided → Type 0
MeansUndecided text Kept = text ≡ KEEP.now
MeansUndecided text Dropped = text ≡ DROP.now

-- yes, or no
abbrev pub MeansAnswer : List ℕ → Bool → Type 0
MeansAnswer text true = text ≡ YES.now
MeansAnswer text false = text ≡ NO.now

-- the format of the text of packets, if it is another than lines
abbrev pub IsFormat : Option (List ℕ) → Option FormatName → Type 0
IsFormat None format = format ≡ None
IsFormat (Some text) None = text ≡ LINES.now
IsFormat (Some text) (Some Json) = text ≡ JSON.now
IsFormat (Some text) (Some Brief) = text ≡ BRIEF.now
IsFormat (Some text) (Some Csv) = text ≡ CSV.now

-- the columns of a row
abbrev pub AreFields : List ℕ → Columns → Type 0
AreFields text columns = AreColumns text (columns_view columns)

-- .. or a name that no column has, the first of them, or too many
abbrev pub AreWrongFields : ValueOption → Option (List ℕ) → Usage → Type 0
AreWrongFields option (Some text) (usages.NoColumn named name) =
    (named ≡ option) × IsUnknownIn (slice_split (λ b. b == 44) text) (Some name.now)
AreWrongFields option (Some text) (usages.Value named wrong) =
    (named ≡ option) × (wrong.now ≡ text) × IsUnknownIn (slice_split (λ b. b == 44) text) None
AreWrongFields option text usage = ⊥

-- one edit at most
abbrev pub IsOneEdit : (cuts pops : Bool) → (push set : Option (List ℕ)) → Option EditValue → Type 0
IsOneEdit false false None None edit = edit ≡ None
IsOneEdit true false None None edit = edit ≡ Some CutToHeaders
IsOneEdit false true None None edit = edit ≡ Some PopVlan
IsOneEdit false false (Some text) None edit = IsIfAny (IsTagEdit tag_edits.Push) (Some text) edit
IsOneEdit false false None (Some text) edit = IsIfAny (IsTagEdit tag_edits.Set) (Some text) edit
IsOneEdit cuts pops push set edit = ⊥

-- .. is not asked for: there are several, or the value of one means nothing
abbrev pub IsWrongEdit : (cuts pops : Bool) → (push set : Option (List ℕ)) → Usage → Type 0
IsWrongEdit false false (Some text) None usage = IsWrongValue value_options.PushVlan (Some text) usage
IsWrongEdit false false None (Some text) usage = IsWrongValue value_options.SetVlan (Some text) usage
IsWrongEdit cuts pops push set usage = usage ≡ usages.Edits

-- the expression that a text means, if there is one
abbrev pub IsSelection : (text : Option (List ℕ)) → Option Expression → Type 0
IsSelection = IsIfAny IsExpressionOf

-- an expression means a text, if there is one, or the text is refused
abbrev pub RefusesSelection : (text : Option (List ℕ)) → FilterError → Type 0
RefusesSelection None e = ⊥
RefusesSelection (Some text) e = RefusesText text e
