-- Texts and the expressions that they mean.
use Rattle.std.specs.Prelude.{ℕ, ◌≤◌, List, length, map}
use Rattle.ether_filter.specs.declared.token.Token.{Token}
use Rattle.ether_filter.specs.Words.{Word, words_from}
use Rattle.ether_filter.specs.Tokens.{token_of}
use Rattle.ether_filter.specs.Expressions.{Expression}
use Rattle.ether_filter.specs.Grammar.{IsExpression}

-- the maximum number of words of an expression
abbrev pub most_words : ℕ
most_words = 192

abbrev pub words_of : List ℕ → List Word
words_of text = words_from text 0

abbrev pub tokens_of : List Word → List Token
tokens_of ws = map (λ w. token_of w.bytes) ws

-- the words of a text are at most that many, and mean this expression
pub record IsExpressionOf (text : List ℕ) (x : Expression) : Type 0 where
  pub few : length (words_of text) ≤ most_words
  pub means : IsExpression (tokens_of (words_of text)) x
