-- What is spelled as JSON.
use Rattle.std.specs.Prelude.{◌≢◌, ℕ, ◌^◌, ◌<◌, ◌≤◌, List, [], ◌∷◌, ⊤}
use Rattle.ether_format.specs.declared.moment.Moment.{Moment}
use Rattle.ether_format.specs.Members.{Value, Nothing, Number, Protocol, Flag, Bytes, Dotted, Word, Text, Time, Within, Member}

-- each element has it
abbrev pub Each : {X : Type 0} → (X → Type 0) → List X → Type 0
Each P [] = ⊤
Each P (x ∷ xs) = P x × Each P xs

-- a character of ASCII that a string has without an escape (RFC 8259, 7)
abbrev pub IsPlainByte : ℕ → Type 0
IsPlainByte b = (32 ≤ b) × (b < 127) × (b ≢ 34) × (b ≢ 92)

unfoldable pub ArePlain : List ℕ → Type 0
ArePlain text = Each IsPlainByte text

-- two digits spell each field of a date and of a time of day
pub record FitsMoment (m : Moment) : Type 0 where
  pub seconds : m.seconds < 2 ^ 64
  pub month : m.month < 100
  pub day : m.day < 100
  pub hour : m.hour < 100
  pub minute : m.minute < 100
  pub second : m.second < 100

-- numbers of 64 bits, bytes of 8, and words without escapes; columns alone have a minute, an hour or a day
abbrev pub FitsValue : Value → Type 0
FitsValue Nothing = ⊤
FitsValue (Number n) = n < 2 ^ 64
FitsValue (Protocol n) = n < 2 ^ 64
FitsValue (Flag b) = ⊤
FitsValue (Bytes bytes) = Each (λ b. b < 256) bytes
FitsValue (Dotted bytes) = Each (λ b. b < 256) bytes
FitsValue (Word word) = ArePlain word
FitsValue (Text bytes) = ⊤
FitsValue (Time m) = FitsMoment m
FitsValue (Within interval m) = ⊥

pub record FitsMember (m : Member) : Type 0 where
  pub name : ArePlain m.name
  pub value : FitsValue m.value
