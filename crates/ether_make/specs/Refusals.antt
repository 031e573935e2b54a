-- What is said of an object that means no frame.
use Rattle.std.specs.Prelude.{◌≡◌, ℕ, List, ◌++◌, Option, Result, Ok, Err}
use Rattle.ether_make.specs.declared.refusal.Reason.{Reason}
use Rattle.ether_make.specs.declared.refusal.Refusal.{Refusal}
use Rattle.ether_make.specs.declared.refusal.Fault.{Fault}
use Rattle.ether_make.specs.declared.refusal.Fault.TheVariants.{Refused, Memory}

-- The header whose object is refused, by its index, or none if it is the whole object or its rest; the member; and why.
pub record RefusalValue : Type 0 where
  pub header : Option ℕ
  pub member : List ℕ
  pub reason : Reason

abbrev pub refused : (header : Option ℕ) → (member : List ℕ) → Reason → RefusalValue
refused header member reason = record { header = header; member = member; reason = reason }

abbrev pub refusal_view : Refusal → RefusalValue
refusal_view r = refused r.header r.member.now r.reason

-- what an object means, or its first refusal
abbrev pub Meaning : Type 0 → Type 0
Meaning X = Result X RefusalValue

abbrev pub result_map : {X Y R : Type 0} → (X → Y) → Result X R → Result Y R
result_map f (Ok x) = Ok (f x)
result_map f (Err r) = Err r

-- one list after another, or the first refusal
abbrev pub joined : {X : Type 0} → Meaning (List X) → Meaning (List X) → Meaning (List X)
joined (Err r) later = Err r
joined (Ok xs) (Err r) = Err r
joined (Ok xs) (Ok ys) = Ok (xs ++ ys)

-- a call returns what is meant or its refusal, unless memory is short
abbrev pub Tells : {X Y : Type 0} → (X → Y) → Meaning Y → Result X Fault → Type 0
Tells view meaning (Ok x) = meaning ≡ Ok (view x)
Tells view meaning (Err (Refused r)) = meaning ≡ Err (refusal_view r)
Tells view meaning (Err Memory) = Unit {0}
