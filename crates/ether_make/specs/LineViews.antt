-- What is returned for a line as its meaning.
use Rattle.std.specs.Prelude.{◌≡◌, ℕ, List, Ok, Err, Result, Option, Some, None, IsUtf8, string_bytes}
use Rattle.serde_json.specs.Data.{Data}
use Rattle.serde_json.specs.Read.{read}
use Rattle.ether_make.specs.FrameViews.{template_view}
use Rattle.ether_make.specs.Templates.{TemplateValue}
use Rattle.ether_make.specs.Lines.{IsJson, LineRefusal, LineMeans}
use Rattle.ether_make.specs.Lines as lines
use Rattle.ether_make.specs.Refusals.{RefusalValue, refused}
use Rattle.ether_make.specs.Repeated.{IsRepeated}
use Rattle.ether_make.specs.declared.template.Template.{Template}
use Rattle.ether_make.specs.declared.lines.LineFault.{LineFault}
use Rattle.ether_make.specs.declared.lines.LineFault.TheVariants.{NotJson, NotObject, Refused, Repeated, TooLong, Memory}

-- the meaning that a fault tells, unless memory is short
abbrev pub fault_view : LineFault → Option LineRefusal
fault_view NotJson = Some lines.NotJson
fault_view NotObject = Some lines.NotObject
fault_view Repeated = Some lines.Repeated
fault_view (Refused header member reason) = Some (lines.Object (refused header (string_bytes member) reason))
fault_view TooLong = Some lines.TooLong
fault_view Memory = None

abbrev pub IfTold : (LineRefusal → Type 0) → Option LineRefusal → Type 0
IfTold claim None = Unit {0}
IfTold claim (Some r) = claim r

-- a text that is no JSON, unless memory is short
abbrev pub IsNotJson : (text : List ℕ) → LineFault → Type 0
IsNotJson text NotJson = IsUtf8 text → read text ≡ None
IsNotJson text Memory = Unit {0}
IsNotJson text fault = ⊥

-- .. or one in which an object has two members of one name
abbrev pub IsNoValue : (text : List ℕ) → LineFault → Type 0
IsNoValue text NotJson = IsUtf8 text → read text ≡ None
IsNoValue text Repeated = (d : Data) × IsJson text d × IsRepeated text
IsNoValue text Memory = Unit {0}
IsNoValue text fault = ⊥

abbrev pub IsOwned : RefusalValue → LineFault → Type 0
IsOwned r fault = IfTold (λ told. told ≡ lines.Object r) (fault_view fault)

-- what is returned for a meaning
abbrev pub TellsLine : Result TemplateValue LineRefusal → Result Template LineFault → Type 0
TellsLine meaning (Ok t) = meaning ≡ Ok (template_view t)
TellsLine meaning (Err fault) = IfTold (λ told. meaning ≡ Err told) (fault_view fault)

-- what is returned for a line
abbrev pub LineOf : (link : Option ℕ) → (text : List ℕ) → Result Template LineFault → Type 0
LineOf link text (Ok t) = LineMeans link text (Ok (template_view t))
LineOf link text (Err fault) = IfTold (λ told. LineMeans link text (Err told)) (fault_view fault)
