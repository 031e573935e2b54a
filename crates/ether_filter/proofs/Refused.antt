-- A text that is refused, by the table.
use Rattle.std.proofs.Common.{◌≡◌, ℕ, ◌+◌, ◌≤◌, ◌≢◌, List, [], ◌∷◌, ◌++◌, length, refl, sym, ap, subst, ◌∙◌, inl, inr, length-append, arith}
use Rattle.std.specs.Prelude.{Result, Ok, Err, Some, None, nat_eq, ◌⊎◌}
use Rattle.std.proofs.lemmas.Bool.{ne_eqb, eqb-false, eqb-true, eq-eqb}
use Rattle.std.proofs.lemmas.List.{append_assoc, append-nil}
use Rattle.ether_filter.specs.declared.node.Node.{Node}
use Rattle.ether_filter.specs.declared.token.Token.{Token}
use Rattle.ether_filter.specs.declared.filter_error.FilterError.{FilterError}
use Rattle.ether_filter.specs.declared.filter_error.FilterErrorKind.{FilterErrorKind}
use Rattle.ether_filter.specs.declared.filter_error.FilterErrorKind.TheVariants as kinds
use Rattle.ether_filter.specs.Expressions.{Expression}
use Rattle.ether_filter.specs.Postfix.{postfix, expression_of, expression_of-postfix}
use Rattle.ether_filter.specs.Grammar.{IsExpression}
use Rattle.ether_filter.specs.Words.{Word}
use Rattle.ether_filter.specs.Tokens.{token_of}
use Rattle.ether_filter.specs.ExpressionReading.{ExpressionState, Outcome, begun, taken, ended, placed, going_on, read_from, read_text}
use Rattle.ether_filter.specs.Texts.{words_of, tokens_of, IsExpressionOf, most_words}
use Rattle.ether_filter.specs.Refusals.{Begins, Fits, Lacks, RefusesExpression, RefusesText, TextsMeanOne}
use Rattle.ether_filter.specs.Refusals as rows
use Rattle.ether_filter.proofs.ReadingLemmas.{going, all_from, expression_read}
use Rattle.ether_filter.proofs.Sound.{Found, decided, all_was, begun_was_read}
use Rattle.ether_filter.proofs.Fitting.{run, Reaches, all_run, run_more, reached_begins, begins_reached, taken_fits, going_ok}
use Rattle.ether_filter.proofs.Lacking.{taken_kind, ended_kind, reached_lacks, row_kind}
use Rattle.ether_filter.proofs.TextLemmas.{text_expression, text_read}

tokens-more : (front : List Word) (w : Word) → tokens_of (front ++ w ∷ []) ≡ tokens_of front ++ token_of w.bytes ∷ []
tokens-more [] w = refl
tokens-more (v ∷ front) w = ap (λ (l : List Token). token_of v.bytes ∷ l) (tokens-more front w)

reached_more : (front : List Word) (w : Word) (s u : ExpressionState) → Reaches (tokens_of front) s
    → taken s (token_of w.bytes)
    ≡ Ok u → Reaches (tokens_of (front ++ w ∷ [])) u
reached_more front w s u reaches is = rw (tokens-more front w)
    (run_more (tokens_of front) s (token_of w.bytes) reaches ∙ is)

-- at the end of words the state tells whether they are an expression
ends_as : (ts : List Token) (s : ExpressionState) → Reaches ts s → all_from begun ts ≡ ended s
ends_as ts s reaches = ap (all_from begun) (sym (append-nil ts)) ∙ all_run begun ts []
    ∙ ap (λ (o : Outcome). going o (λ u. all_from u [])) reaches

no_expression_here : (ts : List Token) (s : ExpressionState) (kind : FilterErrorKind) → Reaches ts s → ended s
    ≡ Err kind
    → (x : Expression) → IsExpression ts x → ⊥
no_expression_here ts s kind reaches is x of = let read = sym (expression_read ts x of) ∙ ends_as ts s reaches ∙ is
    in cc

-- ---- what is told is in the table

placed_err : (at : ℕ) (r : Result (List Node) FilterErrorKind) (error : FilterError) → placed at r ≡ Err error
    → (kind : FilterErrorKind) × (r ≡ Err kind) × (error ≡ record { offset = at; kind = kind })
placed_err at (Ok ns) error is = absurd cc
placed_err at (Err kind) error is = let same : error ≡ record { offset = at; kind = kind } = cc in (kind, refl, same)

going_refused : (o : Outcome) (at : ℕ) (rest : ExpressionState → Result (List Node) FilterError) (error : FilterError)
    (A : Type 0) → going_on o at rest ≡ Err error
    → ((s : ExpressionState) → o ≡ Ok s → rest s ≡ Err error → A)
    → ((kind : FilterErrorKind) → o ≡ Err kind → error ≡ record { offset = at; kind = kind } → A) → A
going_refused (Ok s) at rest error A is goes stops = goes s refl is
going_refused (Err kind) at rest error A is goes stops = stops kind refl
    (let same : error ≡ record { offset = at; kind = kind } = cc in same)

refuses_from : (front ws : List Word) (s : ExpressionState) (count end : ℕ) (error : FilterError)
    → Reaches (tokens_of front) s
    → count ≡ length front → count ≤ most_words
    → read_from s count ws end ≡ Err error → RefusesExpression (front ++ ws) end error
refuses_from front [] s count end error reaches len le is =
    let told = placed_err end (ended s) error is in
    let row = rows.ending told.0 (omega arith) (reached_begins (tokens_of front) s reaches)
    (no_expression_here (tokens_of front) s told.0 reaches told.1)
    (subst (Lacks (tokens_of front) None) (sym (ended_kind s told.0 told.1))
    (reached_lacks (tokens_of front) s None reaches)) in
    rw (append-nil front, told.2) row
refuses_from front (w ∷ ws) s count end error reaches len le is = elim (decided (nat_eq count most_words)) [
  | inl full ↦ (let told = rw full at is in
      let same : error ≡ record { offset = w.at; kind = kinds.TooLong } = cc in
      rw same (rows.long front ws w refl (sym len ∙ eqb-true count most_words full)
      (reached_begins (tokens_of front) s reaches)))
  | inr below ↦ (let told = rw below at is in
      let t = token_of w.bytes in
      let few : count ≢ most_words = eqb-false count most_words below in
      going_refused (taken s t) w.at (λ u. read_from u (count + 1) ws end) error
      (RefusesExpression (front ++ w ∷ ws) end error)
      told
      (λ u now rest. subst (λ (l : List Word). RefusesExpression l end error) (append_assoc front (w ∷ []) ws)
      (refuses_from (front ++ w ∷ []) ws u (count + 1) end error (reached_more front w s u reaches now)
      (omega (arith, len, length-append front (w ∷ []))) (omega arith) rest))
      (λ kind stops same. rw same
      (rows.word front ws w kind refl (omega (arith, len)) (reached_begins (tokens_of front) s reaches)
      (λ fits. let u = begins_reached (tokens_of front ++ t ∷ []) fits
      in let other = sym (run_more (tokens_of front) s t reaches ∙ stops) ∙ u.1 in cc)
      (subst (Lacks (tokens_of front) (Some t)) (sym (taken_kind s t kind stops))
      (reached_lacks (tokens_of front) s (Some t) reaches)))))
]

pub text_refused : (text : List ℕ) (error : FilterError) → read_text text ≡ Err error → RefusesText text error
text_refused text error is = refuses_from [] (words_of text) begun 0 (length text) error refl refl (omega arith) is

-- ---- what is in the table is told

skipped : (front us : List Word) (s t : ExpressionState) (count end : ℕ) → run s (tokens_of front) ≡ Ok t
    → count + length front ≤ most_words
    → read_from s count (front ++ us) end ≡ read_from t (count + length front) us end
skipped [] us s t count end is le = let same : s ≡ t = cc in let all : count + 0 ≡ count = omega arith
    in rw (same, all) refl
skipped (w ∷ front) us s t count end is le =
    let few : count ≢ most_words = omega arith in
    let next = going_ok (taken s (token_of w.bytes)) (λ u. run u (tokens_of front)) t is in
    let rest : run next.0 (tokens_of front)
    ≡ Ok t = sym (ap (λ (o : Outcome). going o (λ u. run u (tokens_of front))) next.1) ∙ is in
    let len : count + length (w ∷ front) ≡ count + 1 + length front = omega arith in
    rw (ne_eqb count most_words few, next.1, len) (skipped front us next.0 t (count + 1) end rest (omega arith))

skipped_text : (ws front us : List Word) (s : ExpressionState) (end : ℕ) → ws ≡ front ++ us
    → Reaches (tokens_of front) s
    → length front ≤ most_words → read_from begun 0 ws end ≡ read_from s (length front) us end
skipped_text ws front us s end is reaches le =
    let none : 0 + length front ≡ length front = omega arith in
    rw is (skipped front us begun s 0 end reaches (omega arith) ∙ ap (λ (n : ℕ). read_from s n us end) none)

stopped : (o : Outcome) (at : ℕ) (rest : ExpressionState → Result (List Node) FilterError) (kind : FilterErrorKind)
    → ((u : ExpressionState) → o ≡ Ok u → ⊥) → ((k : FilterErrorKind) → o ≡ Err k → k ≡ kind)
    → going_on o at rest ≡ Err (record { offset = at; kind = kind })
stopped (Ok s) at rest kind goes same = absurd (goes s refl)
stopped (Err k) at rest kind goes same = rw (same k refl) refl

ended_badly : (r : Result (List Node) FilterErrorKind) (at : ℕ) (kind : FilterErrorKind)
    → ((ns : List Node) → r ≡ Ok ns → ⊥) → ((k : FilterErrorKind) → r ≡ Err k → k ≡ kind)
    → placed at r ≡ Err (record { offset = at; kind = kind })
ended_badly (Ok ns) at kind goes same = absurd (goes ns refl)
ended_badly (Err k) at kind goes same = rw (same k refl) refl

found_here : (ts : List Token) (s : ExpressionState) (ns : List Node) → Reaches ts s → ended s ≡ Ok ns
    → (x : Expression)
    × IsExpression ts x
found_here ts s ns reaches is =
    let found = subst (λ (o : Result (List Node) FilterErrorKind). Found o ts) (ends_as ts s reaches ∙ is)
    (all_was begun [] ts begun_was_read) in
    (found.x, found.is)

refused : (ws : List Word) (end : ℕ) (error : FilterError) → RefusesExpression ws end error → read_from begun 0 ws end
    ≡ Err error
refused ws end error (rows.word front rest w kind is lt begins none lacks) =
    let reaches = begins_reached (tokens_of front) begins in
    let s = reaches.0 in
    let t = token_of w.bytes in
    let few : length front ≢ most_words = omega arith in
    skipped_text ws front (w ∷ rest) s end is reaches.1 (omega arith)
    ∙ rw (ne_eqb (length front) most_words few)
    (stopped (taken s t) w.at (λ u. read_from u (length front + 1) rest end) kind
    (λ u now. none (taken_fits (tokens_of front) s u t reaches.1 now))
    (λ k now. taken_kind s t k now ∙ sym (row_kind (tokens_of front) s (Some t) kind reaches.1 lacks)))
refused ws end error (rows.ending kind le begins none lacks) =
    let reaches = begins_reached (tokens_of ws) begins in
    let s = reaches.0 in
    skipped_text ws ws [] s end (sym (append-nil ws)) reaches.1 le
    ∙ ended_badly (ended s) end kind
    (λ ns now. let found = found_here (tokens_of ws) s ns reaches.1 now in none found.0 found.1)
    (λ k now. ended_kind s k now ∙ sym (row_kind (tokens_of ws) s None kind reaches.1 lacks))
refused ws end error (rows.long front rest w is len begins) =
    let reaches = begins_reached (tokens_of front) begins in
    skipped_text ws front (w ∷ rest) reaches.0 end is reaches.1 (omega (arith, len))
    ∙ rw (eq-eqb (length front) most_words len) refl

refused_text : (text : List ℕ) (error : FilterError) → RefusesText text error → read_text text ≡ Err error
refused_text text error row = refused (words_of text) (length text) error row

one_expression : (text : List ℕ) (x y : Expression) → IsExpressionOf text x → IsExpressionOf text y → x ≡ y
one_expression text x y a b =
    let same = sym (text_read text x a) ∙ text_read text y b in
    let nodes : postfix x ≡ postfix y = cc in
    sym (expression_of-postfix x) ∙ ap expression_of nodes ∙ expression_of-postfix y

one_refusal : (text : List ℕ) (a b : FilterError) → RefusesText text a → RefusesText text b → a ≡ b
one_refusal text a b p q = let same = sym (refused_text text a p) ∙ refused_text text b q in cc

one_of_both : (text : List ℕ) (x : Expression) (a : FilterError) → IsExpressionOf text x → RefusesText text a → ⊥
one_of_both text x a p q = let both = sym (text_read text x p) ∙ refused_text text a q in cc

as_read : (text : List ℕ) (r : Result (List Node) FilterError) → read_text text ≡ r
    → ((x : Expression) × IsExpressionOf text x) ⊎ ((a : FilterError) × RefusesText text a)
as_read text (Ok ns) is = inl (expression_of ns, text_expression text ns is)
as_read text (Err error) is = inr (error, text_refused text error is)

pub texts_mean_one : TextsMeanOne
texts_mean_one = record {
  some = λ text. as_read text (read_text text) refl;
  expression = one_expression;
  refusal = one_refusal;
  either =
      one_of_both;
}
