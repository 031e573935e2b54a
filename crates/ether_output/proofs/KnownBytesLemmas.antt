-- Known bytes that are read and written in parts.
use Rattle.std.proofs.Common.{◌≡◌, ℕ, List, [], ◌++◌, Option, Some, None, refl, sym, ap, ◌∙◌, append_assoc, append-nil}
use Rattle.std.specs.Io.KnownBytes.{Appends, Consumes, Keeps, append_known}

pub Appends-none : (known : Option (List ℕ)) → Appends known known []
Appends-none None = tt
Appends-none (Some xs) = sym (append-nil xs)

pub Appends-then : (old mid new : Option (List ℕ)) (xs ys : List ℕ) → Appends old mid xs → Appends mid new ys
    → Appends old new (xs ++ ys)
Appends-then None mid new xs ys h k = tt
Appends-then (Some a) None new xs ys h k = absurd h
Appends-then (Some a) (Some b) None xs ys h k = absurd k
Appends-then (Some a) (Some b) (Some c) xs ys h k = k ∙ ap (λ (z : List ℕ). z ++ ys) h ∙ append_assoc a xs ys

-- if no text waits
pub append_known_nil : (known : Option (List ℕ)) → append_known known [] ≡ known
append_known_nil None = refl
append_known_nil (Some xs) = ap Some (append-nil xs)

pub Consumes-none : (known : Option (List ℕ)) → Consumes known known []
Consumes-none None = tt
Consumes-none (Some xs) = refl

pub Consumes-then : (old mid new : Option (List ℕ)) (xs ys : List ℕ) → Consumes old mid xs → Consumes mid new ys
    → Consumes old new (xs ++ ys)
Consumes-then None mid new xs ys h k = tt
Consumes-then (Some a) None new xs ys h k = absurd h
Consumes-then (Some a) (Some b) None xs ys h k = absurd k
Consumes-then (Some a) (Some b) (Some c) xs ys h k = h ∙ ap (λ (z : List ℕ). xs ++ z) k ∙ sym (append_assoc xs ys c)

pub Consumes-kept : (old mid new : Option (List ℕ)) (xs : List ℕ) → Consumes old mid xs → Keeps mid new
    → Consumes old new xs
Consumes-kept None mid new xs h k = tt
Consumes-kept (Some a) None new xs h k = absurd h
Consumes-kept (Some a) (Some b) None xs h k = absurd k
Consumes-kept (Some a) (Some b) (Some c) xs h k = h ∙ ap (λ (z : List ℕ). xs ++ z) (sym k)

-- text that waited is written out: the whole stays
pub Appends-written_out : (held old new : Option (List ℕ)) (waited waits text : List ℕ)
    → Appends held (append_known old waited) text → Appends old new waited → waits ≡ []
    → Appends held (append_known new waits) text
Appends-written_out None old new waited waits text h k e = tt
Appends-written_out (Some a) None new waited waits text h k e = absurd h
Appends-written_out (Some a) (Some b) None waited waits text h k e = absurd k
Appends-written_out (Some a) (Some b) (Some c) waited waits text h k e =
    ap (λ (z : List ℕ). c ++ z) e ∙ append-nil c ∙ k ∙ h
