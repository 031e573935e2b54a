-- What is announced at a limit, and without one.
use Rattle.std.proofs.Common.{◌≡◌, ℕ, suc, refl, sym, ap, ◌∙◌, Bool, true, false, cond}
use Rattle.std.specs.Prelude.{Option, Some, None, ◌&&◌}
use Rattle.etherparse.specs.Kind.{Kind}
use Rattle.ether_peel.specs.Grammar.Expectation.{Next, Expectation, is_extension, is_spent, permitted, announced_next, announced}

abbrev pub limited : Next → Option ℕ → Expectation
limited next limit = record { next = next; limit = limit }

chosen : (b : Bool) (k kind : Kind) → cond b None (Some k) ≡ Some kind → k ≡ kind
chosen true k kind e = absurd cc
chosen false k kind e = cc

permitted_is : (limit : Option ℕ) (o : Option Kind) (kind : Kind) → permitted limit o ≡ Some kind → o ≡ Some kind
permitted_is limit None kind e = e
permitted_is limit (Some k) kind e = ap Some (chosen (is_extension k && is_spent limit) k kind e)

-- what is announced at some limit is so without one
pub announced_is : (x : Expectation) (kind : Kind) → announced x ≡ Some kind → announced_next x.next ≡ Some kind
announced_is x kind e = permitted_is x.limit (announced_next x.next) kind e

unspent : (b : Bool) (k : Kind) → cond (b && false) None (Some k) ≡ Some k
unspent true k = refl
unspent false k = refl

-- if an extension may still be read, all is announced
permitted_all : (limit : Option ℕ) (o : Option Kind) → is_spent limit ≡ false → permitted limit o ≡ o
permitted_all limit None left = refl
permitted_all limit (Some k) left =
    ap (λ (b : Bool). cond (is_extension k && b) None (Some k)) left ∙ unspent (is_extension k) k

pub announced_free : (next : Next) (limit : Option ℕ) (kind : Kind) → announced (limited next limit) ≡ Some kind
    → announced (limited next None) ≡ Some kind
announced_free next limit kind e =
    permitted_all None (announced_next next) refl ∙ announced_is (limited next limit) kind e

pub announced_more : (next : Next) (n : ℕ) → announced (limited next (Some (suc n))) ≡ announced (limited next None)
announced_more next n =
    permitted_all (Some (suc n)) (announced_next next) refl ∙ sym (permitted_all None (announced_next next) refl)
