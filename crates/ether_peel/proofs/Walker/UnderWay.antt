-- A walk that is under way: the headers that were returned, those that are left, and what the next call returns.
use Rattle.std.proofs.Common.{◌≡◌, ℕ, ◌+◌, List, [], ◌∷◌, ◌++◌, length, true, false, refl, sym, ap, subst, ◌∙◌, arith}
use Rattle.std.specs.Prelude.{Option, Some, None, Result, Ok, Err}
use Rattle.std.proofs.lemmas.List.{append_assoc, append-nil}
use Rattle.etherparse.specs.Header.{Header}
use Rattle.etherparse.specs.Refusal.{Refusal}
use Rattle.etherparse.specs.Bytes.{IsBytes}
use Rattle.etherparse.proofs.SubLists.{length-part, IsBytes-part}
use Rattle.ether_peel.specs.Grammar.Window.{Window, within, IsIn, payload}
use Rattle.ether_peel.specs.Grammar.Expectation.{Expectation, after}
use Rattle.ether_peel.specs.Grammar.Stack.{Ending, Accepted, Fault, last_window, last_expected, IsUnit, whole, Walk}
use Rattle.ether_peel.specs.Walker.State.{State}
use Rattle.ether_peel.specs.Walker.Fault.{fault_in}
use Rattle.ether_peel.specs.Walker.Next.{Faces, FacesWalk, begun, ShowsUnit, GivesNext, Gives}
use Rattle.ether_peel.specs.declared.peel_unit.PeelUnit.{PeelUnit}
use Rattle.ether_peel.specs.declared.peel_fault.PeelFault.{PeelFault}
use Rattle.ether_peel.specs.Walker.UnitHeader.{unit_header}
use Rattle.ether_peel.proofs.Grammar.Stacks.{one_stack}
use Rattle.ether_peel.proofs.Walker.UnitHeaders.{unit_header-shown}
pub use Rattle.ether_peel.specs.Walker.UnderWay.{UnderWay}

-- ---- what was next

-- a unit, after which the walker is t
pub record UnitNext (list : List ℕ) (w : Window) (left : List Header) (e : Ending) (s t : State)
    (u : PeelUnit) : Type 0 where
  pub header : Header
  pub later : List Header
  pub parts : left ≡ header ∷ later
  pub shows : ShowsUnit s.rest t.rest header u
  pub going : t.over ≡ false
  pub expects : t.expected ≡ after s.expected header
  pub faces : Faces list (payload w header) t later e

pub unit_next : (list : List ℕ) (w : Window) (left : List Header) (e : Ending) (s t : State) (u : PeelUnit)
    → GivesNext list w left e s (Some (Ok u)) t → UnitNext list w left e s t u
unit_next list w [] (Accepted v y) s t u g = let none = g.0 in absurd cc
unit_next list w [] (Fault v y q) s t u g = let fault = g.0 in absurd cc
unit_next list w (h ∷ hs) e s t u g =
    let given = g.1 in
    let is : g.0 ≡ u = cc in
    record {
      header = h;
      later = hs;
      parts = refl;
      shows = subst (ShowsUnit s.rest t.rest h) is g.2;
      going = g.3;
      expects = g.4;
      faces = g.5;
    }

-- the fault
pub record FaultNext (left : List Header) (w : Window) (e : Ending) (s t : State) (f : PeelFault) : Type 0 where
  pub window : Window
  pub expected : Expectation
  pub refusal : Refusal
  pub none_left : left ≡ []
  pub ending : e ≡ Fault window expected refusal
  pub fault : f ≡ fault_in w refusal
  pub state : t ≡ record s { over = true }

pub fault_next : (list : List ℕ) (w : Window) (left : List Header) (e : Ending) (s t : State) (f : PeelFault)
    → GivesNext list w left e s (Some (Err f)) t → FaultNext left w e s t f
fault_next list w [] (Accepted v y) s t f g = let none = g.0 in absurd cc
fault_next list w [] (Fault v y q) s t f g =
    let given = g.0 in
    let is : f ≡ fault_in w q = cc in
    record { window = v; expected = y; refusal = q; none_left = refl; ending = refl; fault = is; state = g.1 }
fault_next list w (h ∷ hs) e s t f g = let given = g.1 in absurd cc

-- nothing
pub record NoneNext (left : List Header) (e : Ending) (s t : State) : Type 0 where
  pub window : Window
  pub expected : Expectation
  pub none_left : left ≡ []
  pub ending : e ≡ Accepted window expected
  pub state : t ≡ s

pub none_next : (list : List ℕ) (w : Window) (left : List Header) (e : Ending) (s t : State)
    → GivesNext list w left e s None t → NoneNext left e s t
none_next list w [] (Accepted v y) s t g = record {
  window = v;
  expected = y;
  none_left = refl;
  ending = refl;
  state = g.1;
}
none_next list w [] (Fault v y q) s t g = let given = g.0 in absurd cc
none_next list w (h ∷ hs) e s t g = let given = g.1 in absurd cc

-- ---- the way

-- a walk that begins
unfoldable pub under_way_first : (x : Expectation) (list : List ℕ) (s : State) (hs : List Header) (e : Ending)
    → Walk x list hs e → Faces list (whole x list) s hs e → s.over ≡ false → UnderWay x list s
under_way_first x list s hs e walk faces going = record {
  done = [];
  left = hs;
  ending = e;
  window = whole x list;
  walk = walk;
  faces = faces;
  going = going;
}

pub begins : (x : Expectation) (list : List ℕ) (s : State) → s ≡ begun x list → FacesWalk x list s → UnderWay x list s
begins x list s is w =
    under_way_first x list s w.headers w.ending w.walk w.faces (ap (λ (k : State). k.over) is)

-- it is the one walk of the list
pub only : (x : Expectation) (list : List ℕ) (s : State) (a : UnderWay x list s) (hs : List Header) (e : Ending)
    → Walk x list hs e → (hs ≡ a.done ++ a.left) × (e ≡ a.ending)
only x list s a hs e walk = one_stack list x (whole x list) hs (a.done ++ a.left) e a.ending walk a.walk

-- ---- a unit is returned: the first of the headers that are left

abbrev pub Passes : (x : Expectation) (list : List ℕ) (s t : State) (u : PeelUnit) → UnderWay x list s → Type 0
Passes x list s t u a = UnitNext list a.window a.left a.ending s t u

pub passes : (x : Expectation) (list : List ℕ) (s t : State) (u : PeelUnit) (a : UnderWay x list s)
    → Gives s (Some (Ok u)) t → Passes x list s t u a
passes x list s t u a gives =
    unit_next list a.window a.left a.ending s t u (gives.next a.going list a.window a.left a.ending a.faces)

-- .. as the walker faces it
pub passes_unit : (x : Expectation) (list : List ℕ) (s t : State) (u : PeelUnit) (a : UnderWay x list s)
    (p : Passes x list s t u a) → IsUnit list s.expected a.window p.header
passes_unit x list s t u a p =
    (subst (λ (l : List Header). Faces list a.window s l a.ending) p.parts a.faces).stack.0

-- .. and as its view says
pub passes_header : (x : Expectation) (list : List ℕ) (s t : State) (u : PeelUnit) (a : UnderWay x list s)
    (p : Passes x list s t u a) → IsBytes list → unit_header u ≡ p.header
passes_header x list s t u a p ok =
    let w = a.window in
    let shows = subst (λ (l : List ℕ). ShowsUnit l t.rest p.header u) a.faces.rest p.shows in
    unit_header-shown (within list w) t.rest p.header u (IsBytes-part w.start w.finish list ok)
    (passes_unit x list s t u a p).means shows

pub passed_headers : (x : Expectation) (list : List ℕ) (s t : State) (u : PeelUnit) (a : UnderWay x list s)
    (p : Passes x list s t u a) → a.done ++ a.left ≡ (a.done ++ p.header ∷ []) ++ p.later
passed_headers x list s t u a p =
    ap (λ (l : List Header). a.done ++ l) p.parts ∙ sym (append_assoc a.done (p.header ∷ []) p.later)

unfoldable pub under_way_next : (x : Expectation) (list : List ℕ) (s t : State) (u : PeelUnit) (a : UnderWay x list s)
    → Passes x list s t u a → UnderWay x list t
under_way_next x list s t u a p =
    let same = passed_headers x list s t u a p in
    record {
      done = a.done ++ p.header ∷ [];
      left = p.later;
      ending = a.ending;
      window = payload a.window p.header;
      walk = subst (λ (l : List Header). Walk x list l a.ending) same a.walk;
      faces = p.faces;
      going = p.going;
    }

-- ---- no unit is returned: none is left, and the walker shows the last window
pub record Stops (x : Expectation) (list : List ℕ) (s t : State) (a : UnderWay x list s) : Type 0 where
  pub none_left : a.left ≡ []
  pub walk : Walk x list a.done a.ending
  pub window : a.window ≡ last_window a.ending
  pub inside : IsIn list (last_window a.ending)
  pub rest : t.rest ≡ within list (last_window a.ending)
  pub offset : t.offset ≡ (last_window a.ending).start
  pub expects : t.expected ≡ last_expected a.ending

abbrev pub NoUnit : Option (Result PeelUnit PeelFault) → Type 0
NoUnit r = (u : PeelUnit) → r ≡ Some (Ok u) → ⊥

no_next : (list : List ℕ) (w : Window) (left : List Header) (e : Ending) (s t : State)
    (r : Option (Result PeelUnit PeelFault))
    → NoUnit r → Faces list w s left e → GivesNext list w left e s r t
    → (left ≡ []) × (w ≡ last_window e) × (t.rest ≡ s.rest) × (t.offset ≡ s.offset) × (t.expected ≡ last_expected e)
no_next list w [] (Accepted v y) s t r none f g = (
  refl,
  sym f.stack.0,
  ap (λ (k : State). k.rest) g.1,
  ap (λ (k : State). k.offset) g.1,
  ap (λ (k : State). k.expected) g.1 ∙ sym f.stack.1,
)
no_next list w [] (Fault v y q) s t r none f g = (
  refl,
  sym f.stack.0,
  ap (λ (k : State). k.rest) g.1,
  ap (λ (k : State). k.offset) g.1,
  ap (λ (k : State). k.expected) g.1 ∙ sym f.stack.1,
)
no_next list w (h ∷ hs) e s t r none f g = absurd (none g.0 g.1)

pub stops : (x : Expectation) (list : List ℕ) (s t : State) (r : Option (Result PeelUnit PeelFault))
    (a : UnderWay x list s)
    → NoUnit r → Gives s r t → Stops x list s t a
stops x list s t r a none gives =
    let n =
    no_next list a.window a.left a.ending s t r none a.faces
    (gives.next a.going list a.window a.left a.ending a.faces) in
    let w = n.1 in
    record {
      none_left = n.0;
      walk =
          subst (λ (l : List Header). Walk x list l a.ending)
          (ap (λ (l : List Header). a.done ++ l) n.0 ∙ append-nil a.done) a.walk;
      window = w;
      inside = subst (IsIn list) w a.faces.inside;
      rest = n.2 ∙ a.faces.rest ∙ ap (within list) w;
      offset = n.3 ∙ a.faces.offset ∙ ap (λ (v : Window). v.start) w;
      expects = n.4;
    }

pub no_none : NoUnit None
no_none u e = cc

pub no_fault : (f : PeelFault) → NoUnit (Some (Err f))
no_fault f u e = cc

-- where the last window ends
pub stop_finish : (x : Expectation) (list : List ℕ) (s t : State) (a : UnderWay x list s) → Stops x list s t a
    → t.offset + length t.rest ≡ (last_window a.ending).finish
stop_finish x list s t a p =
    let v = last_window a.ending in
    let at = p.offset in
    let inside = p.inside in
    let ordered = inside.ordered in
    let len = ap length p.rest ∙ length-part list v.start v.finish inside.inside in
    omega arith

-- the fault is that of the ending
pub record Faults (e : Ending) (f : PeelFault) : Type 0 where
  pub refusal : Refusal
  pub ending : e ≡ Fault (last_window e) (last_expected e) refusal
  pub fault : f ≡ fault_in (last_window e) refusal

faults_next : (list : List ℕ) (w : Window) (left : List Header) (e : Ending) (s t : State) (f : PeelFault)
    → Faces list w s left e → GivesNext list w left e s (Some (Err f)) t → Faults e f
faults_next list w [] (Accepted v y) s t f faces g = let none = g.0 in absurd cc
faults_next list w [] (Fault v y q) s t f faces g =
    let given = g.0 in
    let is : f ≡ fault_in w q = cc in
    record { refusal = q; ending = refl; fault = is ∙ ap (λ (u : Window). fault_in u q) (sym faces.stack.0) }
faults_next list w (h ∷ hs) e s t f faces g = let given = g.1 in absurd cc

pub faults : (x : Expectation) (list : List ℕ) (s t : State) (f : PeelFault) (a : UnderWay x list s)
    → Gives s (Some (Err f)) t → Faults a.ending f
faults x list s t f a gives =
    faults_next list a.window a.left a.ending s t f a.faces
    (gives.next a.going list a.window a.left a.ending a.faces)

-- the walk is accepted
accepts_next : (list : List ℕ) (w : Window) (left : List Header) (e : Ending) (s t : State)
    → GivesNext list w left e s None t → e ≡ Accepted (last_window e) (last_expected e)
accepts_next list w [] (Accepted v y) s t g = refl
accepts_next list w [] (Fault v y q) s t g = let given = g.0 in absurd cc
accepts_next list w (h ∷ hs) e s t g = let given = g.1 in absurd cc

pub accepts : (x : Expectation) (list : List ℕ) (s t : State) (a : UnderWay x list s) → Gives s None t
    → a.ending ≡ Accepted (last_window a.ending) (last_expected a.ending)
accepts x list s t a gives =
    accepts_next list a.window a.left a.ending s t (gives.next a.going list a.window a.left a.ending a.faces)
