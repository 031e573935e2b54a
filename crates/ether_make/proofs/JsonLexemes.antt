-- The lexemes of a value of JSON, and what a text that has them is read as.
use Rattle.std.proofs.Common.{◌≡◌, ℕ, ◌≤◌, Bool, true, false, cond, List, [], ◌∷◌, ◌++◌, Some, option_and_then, refl, sym, ap, ◌∙◌, append_assoc, append-nil}
use Rattle.json.specs.Token.{Token, begin_object, end_object, begin_array, end_array, key}
use Rattle.json.specs.Token as tokens_of
use Rattle.json.specs.Word.{ends_word}
use Rattle.json.specs.Lex.{Lexeme, token, comma, colon, lex, between, Place, fresh, after_value, after_comma, begins_colon, punctuate, tokens}
use Rattle.json.specs.Json.{Json, null, boolean, number, string, array, object, Items, no_items, item, Members, no_members, member, value, if_last, document, max_depth}
use Rattle.json.specs.Tree.{json_tokens, items_tokens, members_tokens, depth}
use Rattle.json.proofs.Printed.Trees.{value-json_tokens}
use Rattle.serde_json.specs.Read.{read, of_json}
use Rattle.serde_json.specs.Read as serde

abbrev mutual
  pub lexemes : Json → List Lexeme
  lexemes null = token tokens_of.null ∷ []
  lexemes (boolean b) = token (tokens_of.boolean b) ∷ []
  lexemes (number s) = token (tokens_of.number s) ∷ []
  lexemes (string s) = token (tokens_of.string s) ∷ []
  lexemes (array js) = token begin_array ∷ items_lexemes js
  lexemes (object ms) = token begin_object ∷ members_lexemes ms

  -- with the closing bracket
  pub items_lexemes : Items → List Lexeme
  items_lexemes no_items = token end_array ∷ []
  items_lexemes (item j js) = lexemes j ++ more_items js

  -- .. after an item
  pub more_items : Items → List Lexeme
  more_items no_items = token end_array ∷ []
  more_items (item j js) = comma ∷ (lexemes j ++ more_items js)

  pub members_lexemes : Members → List Lexeme
  members_lexemes no_members = token end_object ∷ []
  members_lexemes (member k j ms) = token (tokens_of.string k) ∷ colon ∷ (lexemes j ++ more_members ms)

  pub more_members : Members → List Lexeme
  more_members no_members = token end_object ∷ []
  more_members (member k j ms) = comma ∷ token (tokens_of.string k) ∷ colon ∷ (lexemes j ++ more_members ms)

-- where a value may begin: at the front, or after a comma
abbrev place : Bool → Place
place c = cond c after_comma fresh

items_no_colon : (js : Items) (ls : List Lexeme) → begins_colon (more_items js ++ ls) ≡ false
items_no_colon no_items ls = refl
items_no_colon (item j js) ls = refl

members_no_colon : (ms : Members) (ls : List Lexeme) → begins_colon (more_members ms ++ ls) ≡ false
members_no_colon no_members ls = refl
members_no_colon (member k j ms) ls = refl

mutual
  unfolding punctuate

  pub punctuated : (c : Bool) (j : Json) (ls : List Lexeme) → begins_colon ls ≡ false
      → punctuate (place c) (lexemes j ++ ls) ≡ json_tokens j ++ punctuate after_value ls
  punctuated true null ls h = refl
  punctuated false null ls h = refl
  punctuated true (boolean b) ls h = refl
  punctuated false (boolean b) ls h = refl
  punctuated true (number s) ls h = refl
  punctuated false (number s) ls h = refl
  punctuated true (string s) ls h = rw h refl
  punctuated false (string s) ls h = rw h refl
  punctuated true (array js) ls h = ap (λ ts. begin_array ∷ ts) (punctuated_items js ls)
  punctuated false (array js) ls h = ap (λ ts. begin_array ∷ ts) (punctuated_items js ls)
  punctuated true (object ms) ls h = ap (λ ts. begin_object ∷ ts) (punctuated_members ms ls)
  punctuated false (object ms) ls h = ap (λ ts. begin_object ∷ ts) (punctuated_members ms ls)

  punctuated_items : (js : Items) (ls : List Lexeme)
      → punctuate fresh (items_lexemes js ++ ls) ≡ items_tokens js ++ punctuate after_value ls
  punctuated_items no_items ls = refl
  punctuated_items (item j js) ls =
      ap (punctuate fresh) (append_assoc (lexemes j) (more_items js) ls)
      ∙ punctuated false j (more_items js ++ ls) (items_no_colon js ls)
      ∙ ap (λ ts. json_tokens j ++ ts) (punctuated_more_items js ls)
      ∙ sym (append_assoc (json_tokens j) (items_tokens js) _)

  punctuated_more_items : (js : Items) (ls : List Lexeme)
      → punctuate after_value (more_items js ++ ls) ≡ items_tokens js ++ punctuate after_value ls
  punctuated_more_items no_items ls = refl
  punctuated_more_items (item j js) ls =
      ap (punctuate after_comma) (append_assoc (lexemes j) (more_items js) ls)
      ∙ punctuated true j (more_items js ++ ls) (items_no_colon js ls)
      ∙ ap (λ ts. json_tokens j ++ ts) (punctuated_more_items js ls)
      ∙ sym (append_assoc (json_tokens j) (items_tokens js) _)

  punctuated_members : (ms : Members) (ls : List Lexeme)
      → punctuate fresh (members_lexemes ms ++ ls) ≡ members_tokens ms ++ punctuate after_value ls
  punctuated_members no_members ls = refl
  punctuated_members (member k j ms) ls =
      ap (λ ts. key k ∷ punctuate fresh ts) (append_assoc (lexemes j) (more_members ms) ls)
      ∙ ap (λ ts. key k ∷ ts) (punctuated false j (more_members ms ++ ls) (members_no_colon ms ls))
      ∙ ap (λ ts. key k ∷ (json_tokens j ++ ts)) (punctuated_more_members ms ls)
      ∙ ap (λ ts. key k ∷ ts) (sym (append_assoc (json_tokens j) (members_tokens ms) _))

  punctuated_more_members : (ms : Members) (ls : List Lexeme)
      → punctuate after_value (more_members ms ++ ls) ≡ members_tokens ms ++ punctuate after_value ls
  punctuated_more_members no_members ls = refl
  punctuated_more_members (member k j ms) ls =
      ap (λ ts. key k ∷ punctuate fresh ts) (append_assoc (lexemes j) (more_members ms) ls)
      ∙ ap (λ ts. key k ∷ ts) (punctuated false j (more_members ms ++ ls) (members_no_colon ms ls))
      ∙ ap (λ ts. key k ∷ (json_tokens j ++ ts)) (punctuated_more_members ms ls)
      ∙ ap (λ ts. key k ∷ ts) (sym (append_assoc (json_tokens j) (members_tokens ms) _))

-- ---- the text of a value

-- before what may follow a value, the text has the lexemes of the value
abbrev pub Spells : List ℕ → Json → Type 0
Spells text j = (r : List ℕ) → ends_word r ≡ true → lex between (text ++ r) ≡ lexemes j ++ lex between r

-- a whole text
pub tokens-Spells : (text : List ℕ) (j : Json) → Spells text j → tokens text ≡ json_tokens j
unfolding lex punctuate
tokens-Spells text j h =
    ap tokens (sym (append-nil text)) ∙ ap (punctuate fresh) (h [] refl) ∙ punctuated false j [] refl
    ∙ append-nil (json_tokens j)

module _ (text : List ℕ) (j : Json) (same : tokens text ≡ json_tokens j) where
  at_depth : (d : ℕ) → depth j ≤ d → value d (tokens text) ≡ Some (j, [])
  at_depth d shallow = ap (value d) (same ∙ sym (append-nil (json_tokens j))) ∙ value-json_tokens j d [] shallow

  pub document-tokens : depth j ≤ max_depth → document text ≡ Some j
  document-tokens shallow = ap (option_and_then (λ p. if_last p.0 p.1)) (at_depth max_depth shallow)

  pub read-tokens : depth j ≤ serde.max_depth → read text ≡ of_json j
  read-tokens shallow =
      ap (λ o. option_and_then of_json (option_and_then (λ p. if_last p.0 p.1) o)) (at_depth serde.max_depth shallow)
