-- What announces the payload of a packet of Linux cooked capture v2, and what is walked of a packet.
use Rattle.std.proofs.Common.{◌≡◌, ℕ, List, length, Option, Some, None, refl, sym, ap, subst}
use Rattle.std.specs.Prelude.{slice_range}
use Rattle.std.specs.Option.{option_map}
use Rattle.ether_base.specs.Formats.LinuxSllProtocolType.{told_ether_type}
use Rattle.ether_peel.specs.Grammar.Expectation.{Next, EtherType}
use Rattle.ether_peel.specs.Walker.Start.{next_of}
use Rattle.ether_peel.specs.declared.start.Start.{Start}
use Rattle.ether_peel.specs.declared.start.Start.TheVariants as starts
use Rattle.ether_sll2.specs.LinuxSll2.{AcceptsLinuxSll2, protocol_of_header}
use Rattle.ether_content.specs.Content.{ContentValue, Frame, LinuxSll2, IsWalked}
use Rattle.ether_content.specs.Content as content

pub none_of : {A : Type 0} (f : ℕ → A) (o : Option ℕ) → option_map f o ≡ None → o ≡ None
none_of f None e = refl
none_of f (Some n) e = absurd cc

-- what the ether type announces, by the start of a walk
pub started : (o : Option ℕ) (start : Start) → option_map (λ n. starts.EtherType (record { 0 = n })) o ≡ Some start
    → (n : ℕ) × (o ≡ Some n) × (start ≡ starts.EtherType (record { 0 = n }))
started None start e = absurd cc
started (Some n) start e = let s : starts.EtherType (record { 0 = n }) ≡ start = cc in (n, refl, sym s)

pub walked_payload : (bytes : List ℕ) (n : ℕ) (start : Start) (payload : List ℕ) → AcceptsLinuxSll2 bytes
    → told_ether_type (protocol_of_header bytes) ≡ Some n → start ≡ starts.EtherType (record { 0 = n })
    → payload ≡ slice_range bytes 20 (length bytes) → IsWalked (LinuxSll2 bytes) (next_of start) payload
walked_payload bytes n start payload accepted announced is rest =
    subst (λ (p : List ℕ). IsWalked (LinuxSll2 bytes) (next_of start) p) (sym rest)
    (subst (λ (s : Start). IsWalked (LinuxSll2 bytes) (next_of s) (slice_range bytes 20 (length bytes))) (sym is)
    (content.payload bytes n accepted announced))

-- what is walked is one start and one frame
pub walked_once : (c : ContentValue) (next other : Next) (list bytes : List ℕ) → IsWalked c next list
    → IsWalked c other bytes
    → (next ≡ other) × (list ≡ bytes)
walked_once c next other list bytes (content.frame _ _) (content.frame _ _) = (refl, refl)
walked_once c next other list bytes (content.cooked _ _) (content.cooked _ _) = (refl, refl)
walked_once c next other list bytes (content.payload _ n a e) (content.payload _ m b f) =
    let same : n ≡ m = cc in (ap EtherType same, refl)

-- no payload is walked if no ether type announces it
pub not_walked : (list : List ℕ) → (AcceptsLinuxSll2 list → told_ether_type (protocol_of_header list) ≡ None)
    → (next : Next)
    (bytes : List ℕ) → IsWalked (LinuxSll2 list) next bytes → ⊥
not_walked list none next bytes (content.payload _ n a e) = let is = none a in absurd cc
