-- The words of a text, read one after the other.
use Rattle.std.proofs.Common.{◌≡◌, ℕ, ◌+◌, ◌≤◌, ◌≢◌, List, [], ◌∷◌, length, refl, sym, ap, subst, ◌∙◌, inl, inr, false, arith}
use Rattle.std.specs.Prelude.{Result, Ok, Err, nat_eq}
use Rattle.std.proofs.lemmas.Bool.{ne_eqb, eqb-false}
use Rattle.ether_filter.specs.declared.node.Node.{Node}
use Rattle.ether_filter.specs.declared.filter_error.FilterError.{FilterError}
use Rattle.ether_filter.specs.declared.filter_error.FilterErrorKind.{FilterErrorKind}
use Rattle.ether_filter.specs.Expressions.{Expression}
use Rattle.ether_filter.specs.Postfix.{postfix, expression_of, expression_of-postfix}
use Rattle.ether_filter.specs.Words.{Word}
use Rattle.ether_filter.specs.Tokens.{token_of}
use Rattle.ether_filter.specs.ExpressionReading.{ExpressionState, Outcome, begun, taken, ended, placed, going_on, read_from, read_text}
use Rattle.ether_filter.specs.Texts.{words_of, tokens_of, IsExpressionOf, most_words}
use Rattle.ether_filter.proofs.ReadingLemmas.{going, all_from, expression_read}
use Rattle.ether_filter.proofs.Sound.{Found, decided, all_was, begun_was_read}

pub word_read : (s u : ExpressionState) (count end : ℕ) (w : Word) (ws us : List Word) → ws ≡ w ∷ us
    → nat_eq count most_words
    ≡ false → taken s (token_of w.bytes) ≡ Ok u
    → read_from s count ws end ≡ read_from u (count + 1) us end
word_read s u count end w ws us words below is = rw (words, below, is) refl

pub word_refused : (s : ExpressionState) (count end : ℕ) (w : Word) (ws us : List Word) (kind : FilterErrorKind) → ws
    ≡ w ∷ us
    → nat_eq count most_words ≡ false → taken s (token_of w.bytes) ≡ Err kind
    → read_from s count ws end ≡ Err (record { offset = w.at; kind = kind })
word_refused s count end w ws us kind words below is = rw (words, below, is) refl

-- ---- the whole text

-- as many words as may be, and all of them are read
record IsRead (s : ExpressionState) (count : ℕ) (ws : List Word) (ns : List Node) : Type 0 where
  few : count + length ws ≤ most_words
  is : all_from s (tokens_of ws) ≡ Ok ns

going_read : (o : Outcome) (at count : ℕ) (ws : List Word) (end : ℕ) (ns : List Node)
    → going_on o at (λ t. read_from t (count + 1) ws end) ≡ Ok ns
    → ((t : ExpressionState) → read_from t (count + 1) ws end ≡ Ok ns → IsRead t (count + 1) ws ns)
    → (count + 1 + length ws ≤ most_words) × (going o (λ u. all_from u (tokens_of ws)) ≡ Ok ns)
going_read (Ok t) at count ws end ns is rest = let r = rest t is in (r.few, r.is)
going_read (Err kind) at count ws end ns is rest = absurd cc

placed_ok : (at : ℕ) (r : Result (List Node) FilterErrorKind) (ns : List Node) → placed at r ≡ Ok ns → r ≡ Ok ns
placed_ok at (Ok ms) ns is = let same : ms ≡ ns = cc in ap (λ (l : List Node). Ok l) same
placed_ok at (Err kind) ns is = absurd cc

is_read : (s : ExpressionState) (count : ℕ) (ws : List Word) (end : ℕ) (ns : List Node) → count ≤ most_words
    → read_from s count ws end ≡ Ok ns → IsRead s count ws ns
is_read s count [] end ns le is = record { few = omega arith; is = placed_ok end (ended s) ns is }
is_read s count (w ∷ ws) end ns le is = elim (decided (nat_eq count most_words)) [
  | inl full ↦ absurd (let long = rw full at is in cc)
  | inr below ↦ (let going_is = rw below at is in
      let not : count ≢ most_words = eqb-false count most_words below in
      let r = going_read (taken s (token_of w.bytes)) w.at count ws end ns going_is
      (λ t read. is_read t (count + 1) ws end ns (omega arith) read) in
      record { few = omega (arith, r.0); is = r.1 })
]

-- what is read of a text is the expression that it means
pub text_means : (text : List ℕ) (ns : List Node) → read_text text ≡ Ok ns → (x : Expression) × IsExpressionOf text x
    × (ns ≡ postfix x)
text_means text ns is =
    let r = is_read begun 0 (words_of text) (length text) ns (omega arith) is in
    let found = subst (λ (o : Result (List Node) FilterErrorKind). Found o (tokens_of (words_of text))) r.is
    (all_was begun [] (tokens_of (words_of text)) begun_was_read) in
    (found.x, record { few = omega (arith, r.few); means = found.is }, found.nodes)

-- ---- the other way

going_back : (o : Outcome) (at count : ℕ) (ws : List Word) (end : ℕ) (ns : List Node)
    → going o (λ u. all_from u (tokens_of ws)) ≡ Ok ns
    → ((t : ExpressionState) → all_from t (tokens_of ws) ≡ Ok ns → read_from t (count + 1) ws end ≡ Ok ns)
    → going_on o at (λ t. read_from t (count + 1) ws end) ≡ Ok ns
going_back (Ok t) at count ws end ns is rest = rest t is
going_back (Err kind) at count ws end ns is rest = absurd cc

reads : (s : ExpressionState) (count : ℕ) (ws : List Word) (end : ℕ) (ns : List Node) → count + length ws ≤ most_words
    → all_from s (tokens_of ws) ≡ Ok ns → read_from s count ws end ≡ Ok ns
reads s count [] end ns le is = ap (placed end) is
reads s count (w ∷ ws) end ns le is =
    let not : count ≢ most_words = omega arith in
    rw (ne_eqb count most_words not)
    (going_back (taken s (token_of w.bytes)) w.at count ws end ns is
    (λ t all. reads t (count + 1) ws end ns (omega arith) all))

pub text_read : (text : List ℕ) (x : Expression) → IsExpressionOf text x → read_text text ≡ Ok (postfix x)
text_read text x of = reads begun 0 (words_of text) (length text) (postfix x) (omega (arith, of.few))
    (expression_read (tokens_of (words_of text)) x of.means)

pub text_expression : (text : List ℕ) (ns : List Node) → read_text text ≡ Ok ns → IsExpressionOf text (expression_of ns)
text_expression text ns is =
    let found = text_means text ns is in
    subst (IsExpressionOf text) (sym (ap expression_of found.2 ∙ expression_of-postfix found.0)) found.1

pub no_expression : (text : List ℕ) (error : FilterError) → read_text text ≡ Err error → (x : Expression)
    → IsExpressionOf text x → ⊥
no_expression text error is x of = let read = text_read text x of in cc
