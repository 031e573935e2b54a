-- What follows from a claim about a result.
use Rattle.std.proofs.Common.{◌≡◌, Result, Ok, Err, subst, sym}
use Rattle.std.specs.Prelude.{IfErr, OnOk}
use Rattle.std.specs.Result.{IsErrAnd}

pub then_ok : {A E P Q : Type 0} (result : Result A E) → (P → Q) → OnOk result P → OnOk result Q
then_ok (Ok it) f p = f p
then_ok (Err error) f p = tt

pub err_is : {A E : Type 0} (P : E → Type 0) (result : Result A E) (error : E)
    → IsErrAnd result (λ it. it ≡ error) → P error → IfErr result P
err_is P (Ok it) error is p = tt
err_is P (Err it) error is p = subst P (sym is) p

pub then_err : {A E : Type 0} (P Q : E → Type 0) (result : Result A E) → ((error : E) → P error → Q error)
    → IfErr result P → IfErr result Q
then_err P Q (Ok it) f p = tt
then_err P Q (Err error) f p = f error p
