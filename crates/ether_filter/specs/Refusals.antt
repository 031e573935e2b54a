-- The table of refusals: the texts that do not mean an expression, and the error of each.
use Rattle.std.specs.Prelude.{◌≡◌, ◌⊎◌, ℕ, ◌+◌, ◌<◌, ◌≤◌, List, [], ◌∷◌, ◌++◌, length, Option, Some, None}
use Rattle.ether_filter.specs.declared.field_test.Relation.{Relation}
use Rattle.ether_filter.specs.declared.field_test.Relation.TheVariants.{Equal}
use Rattle.ether_filter.specs.declared.subject.Subject.{Subject}
use Rattle.ether_filter.specs.declared.node.Operator.{Operator}
use Rattle.ether_filter.specs.declared.token.Token.{Token}
use Rattle.ether_filter.specs.declared.token.Token.TheVariants as tokens
use Rattle.ether_filter.specs.declared.filter_error.FilterError.{FilterError}
use Rattle.ether_filter.specs.declared.filter_error.FilterErrorKind.{FilterErrorKind}
use Rattle.ether_filter.specs.declared.filter_error.FilterErrorKind.TheVariants as kinds
use Rattle.ether_filter.specs.Words.{Word}
use Rattle.ether_filter.specs.Tokens.{token_of}
use Rattle.ether_filter.specs.Expressions.{Expression}
use Rattle.ether_filter.specs.Grammar.{NamesBits, NamesSet, IsExpression}
use Rattle.ether_filter.specs.Steps.{value_kind}
use Rattle.ether_filter.specs.Texts.{words_of, tokens_of, IsExpressionOf, most_words}

-- an expression can begin with these words
pub record Begins (ts : List Token) : Type 0 where
  pub rest : List Token
  pub x : Expression
  pub is : IsExpression (ts ++ rest) x

-- an expression can begin with these words and the next one
abbrev pub Fits : List Token → Token → Type 0
Fits ts t = Begins (ts ++ t ∷ [])

-- an operator can follow these words
pub record IsAfterOperand (ts : List Token) : Type 0 where
  pub operator : Operator
  pub fits : Fits ts (tokens.Join operator)

-- the word is not an operator, a closing parenthesis or a number
abbrev pub IsOther : Token → Type 0
IsOther (tokens.Join operator) = ⊥
IsOther tokens.Close = ⊥
IsOther (tokens.Number n) = ⊥
IsOther _ = Unit {0}

-- the word is not an operator or a closing parenthesis
abbrev pub IsUnrelated : Token → Type 0
IsUnrelated (tokens.Join operator) = ⊥
IsUnrelated tokens.Close = ⊥
IsUnrelated _ = Unit {0}

-- a value of a field comes after these words
pub data ValueFollows : List Token → Subject → Type 0 where
  compared : (front words : List Token) (subject : Subject) (mask : ℕ) (relation : Relation)
      → NamesBits subject words mask
      → ValueFollows (front ++ (words ++ tokens.Relation relation ∷ [])) subject
  masked : (front : List Token) (subject : Subject)
      → ValueFollows (front ++ tokens.Field subject ∷ tokens.Mask ∷ []) subject
  first_member : (front words : List Token) (subject : Subject) (mask : ℕ) → NamesBits subject words mask
      → ValueFollows (front ++ (words ++ tokens.In ∷ tokens.OpenSet ∷ [])) subject
  member : (front words : List Token) (subject : Subject) (mask : ℕ) (x : Expression) → NamesSet subject mask words x
      → ValueFollows (front ++ (words ++ tokens.Comma ∷ [])) subject

-- .. a value of no field
abbrev pub NoValueFollows : List Token → Type 0
NoValueFollows ts = (subject : Subject) → ValueFollows ts subject → ⊥

-- The error for words and the next word, or the end, that does not fit after them. It depends mostly on what would fit
-- there.
pub data Lacks (ts : List Token) : Option Token → FilterErrorKind → Type 0 where
  operand : (next : Option Token) → Fits ts tokens.Not → Lacks ts next kinds.ExpectedOperand
  vlan : (next : Option Token) → Fits ts tokens.Vlan → (Fits ts tokens.Not → ⊥) → NoValueFollows ts
      → Lacks ts next kinds.ExpectedVlan
  ether_word : (next : Option Token) → Fits ts tokens.Proto → Lacks ts next kinds.ExpectedEtherWord
  address : (next : Option Token) → Fits ts (tokens.Address 0) → NoValueFollows ts → Lacks ts next kinds.ExpectedAddress
  number : (next : Option Token) (most : ℕ) → Fits ts (tokens.Number (Some most))
      → (Fits ts (tokens.Number (Some (most + 1))) → ⊥) → (IsAfterOperand ts → ⊥) → NoValueFollows ts
      → Lacks ts next (kinds.ExpectedNumber most)
  value : (next : Option Token) (subject : Subject) → ValueFollows ts subject → Lacks ts next (value_kind subject.takes)
  relation : (next : Option Token) → Fits ts (tokens.Relation Equal) → (IsAfterOperand ts → ⊥)
      → Lacks ts next kinds.ExpectedRelation
  set : (next : Option Token) → Fits ts tokens.OpenSet → Lacks ts next kinds.ExpectedSet
  set_end : (next : Option Token) → Fits ts tokens.Comma → Lacks ts next kinds.ExpectedSetEnd
  relation_or_operator : (t : Token) → IsAfterOperand ts → Fits ts (tokens.Relation Equal) → IsUnrelated t
      → Lacks ts (Some t) kinds.ExpectedRelationOrOperator
  vlan_id : (n : Option ℕ) → IsAfterOperand ts → Fits ts (tokens.Number (Some 4095))
      → Lacks ts (Some (tokens.Number n)) (kinds.ExpectedNumber 4095)
  no_number : (n : Option ℕ) → IsAfterOperand ts → (Fits ts (tokens.Number (Some 4095)) → ⊥)
      → (Fits ts (tokens.Relation Equal) → ⊥) → Lacks ts (Some (tokens.Number n)) kinds.ExpectedOperator
  operator : (t : Token) → IsAfterOperand ts → (Fits ts (tokens.Number (Some 4095)) → ⊥)
      → (Fits ts (tokens.Relation Equal) → ⊥) → IsOther t → Lacks ts (Some t) kinds.ExpectedOperator
  id_or_operator : (t : Token) → IsAfterOperand ts → Fits ts (tokens.Number (Some 4095)) → IsOther t
      → Lacks ts (Some t) kinds.ExpectedVlanIdOrOperator
  mixed : (operator : Operator) → IsAfterOperand ts → Lacks ts (Some (tokens.Join operator)) kinds.MixedOperators
  unopened : IsAfterOperand ts → Lacks ts (Some tokens.Close) kinds.Unopened
  unclosed : IsAfterOperand ts → Lacks ts None kinds.Unclosed

-- the rows, for the words of a text of length `end`
pub data RefusesExpression (ws : List Word) (end : ℕ) : FilterError → Type 0 where
  -- the first word that does not fit
  word : (front rest : List Word) (w : Word) (kind : FilterErrorKind) → ws ≡ front ++ w ∷ rest → length front
      < most_words
      → Begins (tokens_of front) → (Fits (tokens_of front) (token_of w.bytes) → ⊥)
      → Lacks (tokens_of front) (Some (token_of w.bytes)) kind
      → RefusesExpression ws end (record { offset = w.at; kind = kind })
  -- the end, where words are missing
  ending : (kind : FilterErrorKind) → length ws ≤ most_words
      → Begins (tokens_of ws) → ((x : Expression) → IsExpression (tokens_of ws) x → ⊥) → Lacks (tokens_of ws) None kind
      → RefusesExpression ws end (record { offset = end; kind = kind })
  -- the first word above the maximum number, if all words before it fit
  long : (front rest : List Word) (w : Word) → ws ≡ front ++ w ∷ rest → length front ≡ most_words
      → Begins (tokens_of front)
      → RefusesExpression ws end (record { offset = w.at; kind = kinds.TooLong })

abbrev pub RefusesText : List ℕ → FilterError → Type 0
RefusesText text error = RefusesExpression (words_of text) (length text) error

-- the law: a text has exactly one expression or exactly one refusal, and not both
pub record TextsMeanOne : Type 0 where
  pub some : (text : List ℕ) → ((x : Expression) × IsExpressionOf text x) ⊎ ((a : FilterError) × RefusesText text a)
  pub expression : (text : List ℕ) (x y : Expression) → IsExpressionOf text x → IsExpressionOf text y → x ≡ y
  pub refusal : (text : List ℕ) (a b : FilterError) → RefusesText text a → RefusesText text b → a ≡ b
  pub either : (text : List ℕ) (x : Expression) (a : FilterError) → IsExpressionOf text x → RefusesText text a → ⊥
