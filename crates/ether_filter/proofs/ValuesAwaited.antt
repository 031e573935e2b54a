-- Where a value of a field is awaited.
use Rattle.std.proofs.Common.{◌≡◌, ℕ, List, [], ◌∷◌, ◌++◌, refl, sym, ap, subst, ◌∙◌}
use Rattle.std.specs.Prelude.{Ok, Some}
use Rattle.ether_filter.specs.declared.node.Node.{Node}
use Rattle.ether_filter.specs.declared.token.Token.{Token}
use Rattle.ether_filter.specs.declared.token.Token.TheVariants as tokens
use Rattle.ether_filter.specs.declared.awaited.Awaited.{Awaited}
use Rattle.ether_filter.specs.declared.awaited.Awaited.TheVariants as awaits
use Rattle.ether_filter.specs.declared.reading.Pending.{Pending}
use Rattle.ether_filter.specs.declared.field_test.Relation.{Relation}
use Rattle.ether_filter.specs.declared.subject.Literal.{Literal}
use Rattle.ether_filter.specs.declared.subject.Subject.{Subject}
use Rattle.ether_filter.specs.Grammar.{NamesBits, NamesSet}
use Rattle.ether_filter.specs.Grammar as grammar
use Rattle.std.proofs.Common.{append_assoc}
use Rattle.ether_filter.specs.declared.primitive.Primitive.{Primitive}
use Rattle.ether_filter.specs.Expressions.{Expression}
use Rattle.ether_filter.specs.Steps.{value_for, member}
use Rattle.ether_filter.specs.ExpressionReading.{ExpressionState, Outcome, begun, taken_where, taken}
use Rattle.ether_filter.specs.Refusals.{Fits, IsAfterOperand, IsOther, IsUnrelated, ValueFollows, Lacks}
use Rattle.ether_filter.specs.Refusals as rows
use Rattle.ether_filter.proofs.ReadingLemmas.{going}
use Rattle.ether_filter.proofs.Sound.{WasRead}
use Rattle.ether_filter.proofs.Fitting.{run, run-append, going_ok, Reaches, reached_was}

-- the state in which a value of this field is awaited
abbrev pub AwaitsValue : Awaited → Subject → Type 0
AwaitsValue (awaits.Mask g) f = g ≡ f
AwaitsValue (awaits.Value g mask r) f = g ≡ f
AwaitsValue (awaits.FirstMember g mask) f = g ≡ f
AwaitsValue (awaits.Member g mask) f = g ≡ f
AwaitsValue _ f = ⊥

-- after a field the state awaits a relation
field_at : (a : Awaited) (s u : ExpressionState) (f : Subject) → taken_where a s (tokens.Field f) ≡ Ok u
    → s.awaited ≡ a → u ≡ record s { awaited = awaits.Relation f }
field_at awaits.Operand s u f is at = cc
field_at awaits.Operator s u f is at = absurd cc
field_at awaits.VlanId s u f is at = absurd cc
field_at a s u f is at = absurd cc

ends_at : (s u : ExpressionState) (f : Subject) (rest : List Token) → run s (tokens.Field f ∷ rest) ≡ Ok u
    → run (record s { awaited = awaits.Relation f }) rest ≡ Ok u
ends_at s u f rest is =
    let next = going_ok (taken s (tokens.Field f)) (λ v. run v rest) u is in
    let all : run next.0 rest ≡ Ok u = sym (ap (λ (o : Outcome). going o (λ v. run v rest)) next.1) ∙ is in
    subst (λ (v : ExpressionState). run v rest ≡ Ok u) (field_at s.awaited s next.0 f next.1 refl) all

masked_at : (f : Subject) (s u : ExpressionState) (t : Token) (mask : Literal) (r : Relation)
    → value_for f.takes t ≡ Some mask
    → run (record s { awaited = awaits.Relation f }) (tokens.Mask ∷ t ∷ tokens.Relation r ∷ []) ≡ Ok u
    → u.awaited ≡ awaits.Value f mask.number r
masked_at f s u t mask r is all = let same = rw is at all in cc

compared_at : (f : Subject) (s u : ExpressionState) (words : List Token) (mask : ℕ) (r : Relation)
    → NamesBits f words mask → run s (words ++ tokens.Relation r ∷ []) ≡ Ok u → u.awaited ≡ awaits.Value f mask r
compared_at f s u words mask r grammar.all is =
    let all = ends_at s u f (tokens.Relation r ∷ []) is in cc
compared_at f s u words mask r (grammar.masked t m means) is =
    masked_at f s u t m r means (ends_at s u f (tokens.Mask ∷ t ∷ tokens.Relation r ∷ []) is)

-- the state after the last words of a list
run_end : (front words : List Token) (u : ExpressionState) → Reaches (front ++ words) u → (s : ExpressionState)
    × (run s words ≡ Ok u)
run_end front words u reaches =
    let next = going_ok (run begun front) (λ s. run s words) u (sym (run-append begun front words) ∙ reaches) in (
      next.0,
      sym (ap (λ (o : Outcome). going o (λ s. run s words)) next.1)
          ∙ sym (run-append begun front words) ∙ reaches,
    )

-- after `in`, and after a value of a set
opened_at : (f : Subject) (s u : ExpressionState) (words : List Token) (mask : ℕ) → NamesBits f words mask
    → run s (words ++ tokens.In ∷ tokens.OpenSet ∷ []) ≡ Ok u → u.awaited ≡ awaits.FirstMember f mask
opened_at f s u words mask grammar.all is =
    let all = ends_at s u f (tokens.In ∷ tokens.OpenSet ∷ []) is in cc
opened_at f s u words mask (grammar.masked t m means) is =
    let all = ends_at s u f (tokens.Mask ∷ t ∷ tokens.In ∷ tokens.OpenSet ∷ []) is in
    let same = rw means at all in cc

after_first : (f : Subject) (mask : ℕ) (s u : ExpressionState) (t : Token) (q : Primitive)
    → member f mask t ≡ Some q → s.awaited ≡ awaits.FirstMember f mask → run s (t ∷ []) ≡ Ok u
    → u.awaited ≡ awaits.SetEnd f mask
after_first f mask s u t q found at is = let all = rw (at, found) at is in cc

after_member : (f : Subject) (mask : ℕ) (s u : ExpressionState) (t : Token) (q : Primitive)
    → member f mask t ≡ Some q → s.awaited ≡ awaits.SetEnd f mask → run s (tokens.Comma ∷ t ∷ []) ≡ Ok u
    → u.awaited ≡ awaits.SetEnd f mask
after_member f mask s u t q found at is = let all = rw (at, found) at is in cc

-- the state between two parts of words
between : (s u : ExpressionState) (words more : List Token) → run s (words ++ more) ≡ Ok u → (v : ExpressionState)
    × (run s words ≡ Ok v) × (run v more ≡ Ok u)
between s u words more is =
    let all = sym (run-append s words more) ∙ is in
    let next = going_ok (run s words) (λ v. run v more) u all in
    (next.0, next.1, sym (ap (λ (o : Outcome). going o (λ v. run v more)) next.1) ∙ all)

set_at : (f : Subject) (mask : ℕ) (s u : ExpressionState) (words : List Token) (x : Expression)
    → NamesSet f mask words x → run s words ≡ Ok u → u.awaited ≡ awaits.SetEnd f mask
set_at f mask s u words x (grammar.one ts t q bits found) is =
    let all = subst (λ (l : List Token). run s l ≡ Ok u)
    (sym (append_assoc ts (tokens.In ∷ tokens.OpenSet ∷ []) (t ∷ []))) is in
    let v = between s u (ts ++ tokens.In ∷ tokens.OpenSet ∷ []) (t ∷ []) all in
    after_first f mask v.0 u t q found (opened_at f s v.0 ts mask bits v.1) v.2
set_at f mask s u words x (grammar.more ts y t q set found) is =
    let v = between s u ts (tokens.Comma ∷ t ∷ []) is in
    after_member f mask v.0 u t q found (set_at f mask s v.0 ts y set v.1) v.2

after_comma : (f : Subject) (mask : ℕ) (s u : ExpressionState) → s.awaited ≡ awaits.SetEnd f mask
    → run s (tokens.Comma ∷ []) ≡ Ok u → u.awaited ≡ awaits.Member f mask
after_comma f mask s u at is = let all = rw at at is in cc

pub value_at : (ts : List Token) (u : ExpressionState) (f : Subject) → Reaches ts u → ValueFollows ts f
    → AwaitsValue u.awaited f
value_at ts u f reaches (rows.compared front words subject mask r bits) =
    let end = run_end front (words ++ tokens.Relation r ∷ []) u reaches in
    rw (compared_at f end.0 u words mask r bits end.1) refl
value_at ts u f reaches (rows.masked front subject) =
    let end = run_end front (tokens.Field f ∷ tokens.Mask ∷ []) u reaches in
    let all = ends_at end.0 u f (tokens.Mask ∷ []) end.1 in
    let is : u.awaited ≡ awaits.Mask f = cc in
    rw is refl
value_at ts u f reaches (rows.first_member front words subject mask bits) =
    let end = run_end front (words ++ tokens.In ∷ tokens.OpenSet ∷ []) u reaches in
    rw (opened_at f end.0 u words mask bits end.1) refl
value_at ts u f reaches (rows.member front words subject mask x set) =
    let end = run_end front (words ++ tokens.Comma ∷ []) u reaches in
    let v = between end.0 u words (tokens.Comma ∷ []) end.1 in
    rw (after_comma f mask v.0 u (set_at f mask end.0 v.0 words x set v.1) v.2) refl

-- .. and the other way
value_follows : (a : Awaited) (f : Subject) (p : List Pending) (ns : List Node) (ts : List Token) → AwaitsValue a f
    → WasRead a p ns ts → ValueFollows ts f
value_follows (awaits.Mask g) f p ns ts same w =
    subst (λ (l : List Token). ValueFollows l f)
    (sym (w.tokens ∙ ap (λ (l : List Token). w.front ++ l) w.begun
    ∙ ap (λ (h : Subject). w.front ++ tokens.Field h ∷ tokens.Mask ∷ []) same)) (rows.masked w.front f)
value_follows (awaits.Value g mask r) f p ns ts same w =
    let c = w.begun in
    subst (λ (l : List Token). ValueFollows l f)
    (sym (w.tokens ∙ ap (λ (l : List Token). w.front ++ l) c.is))
    (rows.compared w.front c.words f mask r (subst (λ (h : Subject). NamesBits h c.words mask) same c.bits))
value_follows (awaits.FirstMember g mask) f p ns ts same w =
    let c = w.begun in
    subst (λ (l : List Token). ValueFollows l f)
    (sym (w.tokens ∙ ap (λ (l : List Token). w.front ++ l) c.is))
    (rows.first_member w.front c.words f mask (subst (λ (h : Subject). NamesBits h c.words mask) same c.bits))
value_follows (awaits.Member g mask) f p ns ts same w =
    let i = w.values in
    subst (λ (l : List Token). ValueFollows l f)
    (sym (w.tokens ∙ ap (λ (l : List Token). l ++ tokens.Comma ∷ []) i.tokens
    ∙ append_assoc i.front i.words (tokens.Comma ∷ [])))
    (rows.member i.front i.words f mask i.x (subst (λ (h : Subject). NamesSet h mask i.words i.x) same i.set))
value_follows a f p ns ts same w = absurd same

pub follows_value : (ts : List Token) (s : ExpressionState) (f : Subject) → Reaches ts s → AwaitsValue s.awaited f
    → ValueFollows ts f
follows_value ts s f reaches at = value_follows s.awaited f s.pending s.nodes ts at (reached_was ts s reaches)
