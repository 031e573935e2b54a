-- What the extensions of a list, the longer lists that begin with it, keep of its walk.
use Rattle.std.specs.Prelude.{◌≡◌, ℕ, ◌+◌, ◌<◌, List, ◌++◌, length, Some, None, true, false, ◌⊎◌}
use Rattle.etherparse.specs.Header.{Header}
use Rattle.etherparse.specs.Refusal.{Refusal, Length}
use Rattle.ether_peel.specs.Grammar.Expectation.{Expectation, has_fcs}
use Rattle.ether_peel.specs.Grammar.Stack.{Ending, last_window, Walk}
use Rattle.ether_peel.specs.Grammar.Endings.{refusal_of, IsContent, OpenRefusal, named_len, EndsAlike}

-- What an extension of n bytes, the last of them added, with headers ks and ending f, keeps of the list before it, with
-- headers hs and ending e.
pub record KeepsExtension (hs : List Header) (e : Ending) (n added : ℕ) (ks : List Header) (f : Ending) : Type 0 where
  -- if the list is accepted, so is the extension, with the same headers and the same expectation
  pub accepted : refusal_of e ≡ None → EndsAlike hs e ks f × (refusal_of f ≡ None)
  -- if the list is refused for content or in a closed window, the extension has the same refusal
  pub settled : (r : Refusal) → refusal_of e ≡ Some r → IsContent r ⊎ ((last_window e).closed ≡ true)
      → EndsAlike hs e ks f × (refusal_of f ≡ Some r)
  -- an open refusal remains until its named length is there, with the added bytes in its `len`
  pub waiting : (o : OpenRefusal e) → n < named_len e o → EndsAlike hs e ks f
      × (refusal_of f ≡ Some (Length o.required (o.len + added) o.source o.layer))

-- it is so for each extension of a list with headers hs and ending e
abbrev pub KeepsExtensions : Expectation → List ℕ → List Header → Ending → Type 0
KeepsExtensions start list hs e = (more : List ℕ) (ks : List Header) (f : Ending) → Walk start (list ++ more) ks f
    → KeepsExtension hs e (length (list ++ more)) (length more) ks f

-- and for each list, from a start without a frame check sequence
abbrev pub ExtensionsKeep : Type 0
ExtensionsKeep = (start : Expectation) (list : List ℕ) (hs : List Header) (e : Ending) → has_fcs start ≡ false
    → Walk start list hs e → KeepsExtensions start list hs e
