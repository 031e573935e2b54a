-- What the arguments ask for. `clap` defines which options words are, and which values these have.
use Rattle.std.specs.Prelude.{◌≡◌, ◌≢◌, ◌⊎◌, ◌<◌, ◌^◌, ℕ, List, [], ◌∷◌, ◌++◌, map, codes, Bool, true, false, if◌then◌else◌, not, Option, Some, None, unwrap_or, ⊤}
use Rattle.std.specs.List.{filter}
use Rattle.std.specs.Option.{option_map, option_map_or}
use Rattle.std.specs.Str.{bytes_eq}
use Rattle.std.specs.Str.Parse.{IsNumeral, digits_value, without_leading_plus}
use Rattle.clap.specs.Words.{App, IsAmong, Row, Rule, Text, all_of, fault_of, first_of, matches_of, new_app, new_rule}
use Rattle.clap.specs.declared.builder.action.ArgAction.TheVariants.{Append}
use Rattle.clap.specs.declared.error.kind.ErrorKind.{ErrorKind}
use Rattle.clap.specs.declared.error.kind.ErrorKind.TheVariants.{DisplayHelp, DisplayVersion, OutOfMemory}
use Rattle.ether_make.specs.OptionTable.{all_options, is_added, option_rule}
use Rattle.ether_make.specs.WrongWords.{IsUsageOf}
use Rattle.ether_make.specs.declared.request.Job.{Job}
use Rattle.ether_make.specs.declared.request.NumberOption.{NumberOption}
use Rattle.ether_make.specs.declared.request.NumberOption.TheVariants.{Count, Seed, Rate}
use Rattle.ether_make.specs.declared.request.Request.{Request}
use Rattle.ether_make.specs.declared.request.Request.TheVariants as requests
use Rattle.ether_make.specs.declared.request.RequestError.{RequestError}
use Rattle.ether_make.specs.declared.request.RequestError.TheVariants as reasons
use Rattle.ether_make.specs.declared.request.Usage.{Usage}
use Rattle.ether_make.specs.declared.request.Usage.TheVariants as usages
use Rattle.ether_make.specs.declared.settings.Form.{Form}
use Rattle.ether_make.specs.declared.settings.Form.TheVariants.{Capture, Hex}
use Rattle.ether_make.specs.declared.settings.Settings.{Settings}

-- frames, made and written so, of the lines in the files of these names, which the file of that name gets
pub record JobValue : Type 0 where
  pub settings : Settings
  pub output : Option Text
  pub files : List Text

abbrev pub job_view : Job → JobValue
job_view job = record {
  settings = job.settings;
  output = option_map (λ s. s.now) job.output;
  files = map (λ s. s.now) job.files.items;
}

pub data RequestValue : Type 0 where
  Make : JobValue → RequestValue
  Help : RequestValue
  Version : RequestValue

abbrev pub request_view : Request → RequestValue
request_view (requests.Make job) = Make (job_view job)
request_view requests.Help = Help
request_view requests.Version = Version

-- ---- the program's options

-- names of files
abbrev pub file_rule : Rule
file_rule = record (new_rule (codes "file")) { action = Some Append }

-- the options of the table, but for `--help` and `--version`, which `clap` adds, and then names
abbrev pub make_rules : List Rule
make_rules = map option_rule (filter (λ o. not (is_added o.spelling)) all_options) ++ file_rule ∷ []

abbrev pub make_app : App
make_app = let app =
    new_app (codes "ether_make") in record app { top = record app.top { rules = make_rules; has_version = true } }

-- ---- what is asked for

-- an option without a value is there
abbrev pub is_set : (name : Text) → List Row → Bool
is_set name rows = option_map_or (λ text. bytes_eq text (codes "true")) (first_of name rows) false

abbrev pub form_in : (is_hex : Bool) → Form
form_in is_hex = if is_hex then Hex else Capture

-- a text is a number of 64 bits: decimal digits, which may follow a plus
pub record IsNumber (text : Text) (n : ℕ) : Type 0 where
  pub digits : IsNumeral 10 (without_leading_plus text)
  pub value : n ≡ digits_value 10 (without_leading_plus text)
  pub fits : n < 2 ^ 64

-- .. that an option may have
abbrev pub IsNumberOf : NumberOption → (text : Text) → (n : ℕ) → Type 0
IsNumberOf Rate text n = IsNumber text n × (0 < n)
IsNumberOf option text n = IsNumber text n

-- a value is there and means something, or it is not there
abbrev pub IsIfAny : (Means : Text → ℕ → Type 0) → (text : Option Text) → Option ℕ → Type 0
IsIfAny Means None None = ⊤
IsIfAny Means (Some text) (Some n) = Means text n
IsIfAny Means text n = ⊥

abbrev pub IsNumberIn : NumberOption → (name : Text) → List Row → Option ℕ → Type 0
IsNumberIn option name rows n = IsIfAny (IsNumberOf option) (first_of name rows) n

-- what the values of options, by their names, ask for
pub record Asks (rows : List Row) (job : JobValue) : Type 0 where
  pub pad : job.settings.pad ≡ is_set (codes "pad") rows
  pub fcs : job.settings.fcs ≡ is_set (codes "fcs") rows
  pub form : job.settings.form ≡ form_in (is_set (codes "hex") rows)
  pub count : IsNumberIn Count (codes "count") rows job.settings.count
  pub seed : Option ℕ
  pub is_seed : IsNumberIn Seed (codes "seed") rows seed
  pub has_seed : job.settings.seed ≡ unwrap_or seed 0
  pub rate : IsNumberIn Rate (codes "rate") rows job.settings.rate
  pub output : job.output ≡ first_of (codes "output") rows
  pub files : job.files ≡ unwrap_or (all_of (codes "file") rows) []

-- what arguments ask for; the first of them is the program's name
pub data NamesRequest : (words : List Text) → RequestValue → Type 0 where
  help : (words : List Text) → IsAmong DisplayHelp (fault_of make_app words) → NamesRequest words Help
  version : (words : List Text) → IsAmong DisplayVersion (fault_of make_app words) → NamesRequest words Version
  options : (words : List Text) (job : JobValue) → fault_of make_app words ≡ []
      → Asks (matches_of make_app words) job → NamesRequest words (Make job)

-- ---- why words ask for nothing

-- `clap` refuses them
pub record IsRefusedUsage (words : List Text) : Type 0 where
  pub kind : ErrorKind
  pub among : IsAmong kind (fault_of make_app words)
  pub no_help : kind ≢ DisplayHelp
  pub no_version : kind ≢ DisplayVersion

-- the value of an option that is said to be wrong
abbrev pub IsWrongValue : NumberOption → Option Text → Usage → Type 0
IsWrongValue option text (usages.Value named wrong) = (named ≡ option) × (text ≡ Some wrong.now)
IsWrongValue option text usage = ⊥

-- the value of an option is no number that it may have
pub record IsWrongNumber (option : NumberOption) (text : Option Text) (usage : Usage) : Type 0 where
  pub no_number : (n : Option ℕ) → ¬ (IsIfAny (IsNumberOf option) text n)
  pub is : IsWrongValue option text usage

pub data MeansNothing (rows : List Row) : Usage → Type 0 where
  wrong_count : (usage : Usage) → IsWrongNumber Count (first_of (codes "count") rows) usage → MeansNothing rows usage
  wrong_seed : (usage : Usage) → IsWrongNumber Seed (first_of (codes "seed") rows) usage → MeansNothing rows usage
  wrong_rate : (usage : Usage) → IsWrongNumber Rate (first_of (codes "rate") rows) usage → MeansNothing rows usage

-- `clap` refuses them, or takes them, but a value means nothing; or memory for them was refused
pub data RefusesWords (words : List Text) : RequestError → Type 0 where
  clap_refuses : (usage : Usage) → IsRefusedUsage words → IsUsageOf words usage
      → RefusesWords words (reasons.Usage usage)
  means_nothing : (usage : Usage) → fault_of make_app words ≡ [] → MeansNothing (matches_of make_app words) usage
      → RefusesWords words (reasons.Usage usage)
  no_memory : RefusesWords words reasons.Memory

-- ---- step by step

-- what a kind of error of `clap` asks for
abbrev pub KindNames : ErrorKind → RequestValue → Type 0
KindNames kind request = ((kind ≡ DisplayHelp) × (request ≡ Help)) ⊎ ((kind ≡ DisplayVersion) × (request ≡ Version))

-- .. or why it is one
abbrev pub RefusesKind : (words : List Text) → ErrorKind → RequestError → Type 0
RefusesKind words kind (reasons.Usage usage) =
    ((kind ≢ DisplayHelp) × (kind ≢ DisplayVersion) × (kind ≢ OutOfMemory)) × IsUsageOf words usage
RefusesKind words kind reasons.Memory = kind ≡ OutOfMemory

-- why values of options ask for nothing
abbrev pub RefusesRows : List Row → RequestError → Type 0
RefusesRows rows (reasons.Usage usage) = MeansNothing rows usage
RefusesRows rows reasons.Memory = ⊤
