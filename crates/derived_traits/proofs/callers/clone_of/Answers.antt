use Rattle.std.proofs.Common.{◌≡◌, ap, Ok, Err}
use Rattle.std.specs.Prelude.{Result}
use Rattle.std.specs.Result.{MatchResult}
use Rattle.std.specs.declared.alloc.AllocError.{AllocError}
use Rattle.std.specs.declared.clone.Clone as clone
use Rattle.derived_traits.proofs.callers.clone_of.Goals as goal

is_exact : {T : Type 0} (it : clone.Ghosts T) (a : T) (r : Result T AllocError)
    → ((a b : T) → it.is_infallible a × (it.is_clone a b → b ≡ a))
    → MatchResult r (it.is_clone a) (λ _. ¬ (it.is_infallible a)) → r ≡ Ok a
is_exact it a (Ok b) exact is = ap Ok ((exact a b).1 is)
is_exact it a (Err e) exact is = absurd (is (exact a a).0)

pub returns : goal.returns
returns g c = is_exact g.T.Clone c.args.value.now c.clone.result c.requires c.clone.ensures.cases
