-- A walk that receives a list piece by piece: its place, and what it asked for so far.
use Rattle.std.proofs.Common.{◌≡◌, ℕ, ◌+◌, ◌<◌, ◌≤◌, max, Bool, List, [], ◌∷◌, ◌++◌, length, take, drop, false, refl, sym, ap, subst, ◌∙◌, arith, inl, inr}
use Rattle.std.specs.Prelude.{slice_range, Option, Some, None, Ok, Err}
use Rattle.std.proofs.lemmas.List.{length-append, length-take, append_assoc, append-nil}
use Rattle.etherparse.specs.Bytes.{IsBytes}
use Rattle.etherparse.specs.Header.{Header}
use Rattle.etherparse.specs.Refusal.{Refusal, Length, UnsupportedPacketType, UnsupportedHardwareType, UnexpectedVersion, InvalidShortLen}
use Rattle.etherparse.proofs.SubLists.{IsBytes-take}
use Rattle.ether_peel.specs.Grammar.Window.{Window}
use Rattle.ether_peel.specs.Grammar.Expectation.{Expectation, has_fcs}
use Rattle.ether_peel.specs.Grammar.Stack.{Ending, Accepted, Fault, last_window, last_expected, Stack, whole, Walk}
use Rattle.ether_peel.specs.Grammar.Endings.{OpenRefusal, named_len}
use Rattle.ether_peel.specs.Walker.State.{State}
use Rattle.ether_peel.specs.Walker.Fault.{error_at, fault_in, Names}
use Rattle.ether_peel.specs.Walker.Next.{Faces, Gives}
use Rattle.ether_peel.specs.Walker.Summary.{fault_of}
use Rattle.ether_peel.specs.Grammar.Demands.{AreDemands, greatest, caps, last_cap}
use Rattle.ether_peel.specs.Walker.Feeding.{IsFeed}
use Rattle.ether_peel.specs.declared.peel_unit.PeelUnit.{PeelUnit}
use Rattle.ether_peel.specs.declared.peel_fault.PeelFault.{PeelFault}
use Rattle.ether_peel.proofs.Grammar.Stacks.{some_stack}
use Rattle.ether_peel.proofs.Grammar.Windows.{header_least}
use Rattle.ether_peel.proofs.Grammar.Carrying.{leads, beyond, carried_finish}
use Rattle.ether_peel.proofs.Grammar.Extensions.{no_fcs, walk_open_to_end}
use Rattle.ether_peel.proofs.Grammar.Cuts.{common}
use Rattle.ether_peel.proofs.Grammar.Demands.{fcs_asks_nothing, named_above, front_and_more, none_between, is_demand, AsksNoMore, no_more, IsAsked, takes_units}
use Rattle.ether_peel.proofs.Grammar.Caps.{given_last, given_capped, given_once_more}
use Rattle.ether_peel.proofs.Walker.UnderWay.{UnderWay, under_way_first, passes, passed_headers, under_way_next, fault_next, accepts}

-- ---- faults

-- what the fault of a walk names is what its ending names
pub names_open : (v : Window) (y : Expectation) (r : Refusal) (m : ℕ) → Names (fault_in v r) m
    → (o : OpenRefusal (Fault v y r)) × (named_len (Fault v y r) o ≡ m)
names_open v y (Length required len source layer) m n =
    let e = n.of_length in
    let same : required ≡ n.error.required_len = cc in
    let names = n.names in (
      record { required = required; len = len; source = source; layer = layer; refused = refl; is_open = n.is_open },
      omega arith,
    )
names_open v y (UnsupportedPacketType p) m n = let e = n.of_length in absurd cc
names_open v y (UnsupportedHardwareType p) m n = let e = n.of_length in absurd cc
names_open v y UnexpectedVersion m n = let e = n.of_length in absurd cc
names_open v y InvalidShortLen m n = let e = n.of_length in absurd cc

pub open_names : (v : Window) (y : Expectation) (r : Refusal) (o : OpenRefusal (Fault v y r))
    → Names (fault_in v r) (named_len (Fault v y r) o)
open_names v y r o =
    let is : r ≡ Length o.required o.len o.source o.layer = (let e = o.refused in cc) in
    record {
      is_open = o.is_open;
      error =
          record {
            required_len = o.required;
            len = o.len;
            len_source = o.source;
            layer = o.layer;
            layer_start_offset = v.start;
          };
      of_length = ap (error_at v.start) is;
      names = refl;
    }

-- ---- what was asked for

-- the demands up to n, the last of them, are as many as were counted; n bytes of the list have this walk
pub record Fed (start : Expectation) (list : List ℕ) (n count : ℕ) (hs : List Header) (e : Ending) : Type 0 where
  pub demands : List ℕ
  pub all : (ms : List ℕ) → AreDemands start list n ms → AreDemands start list 0 (demands ++ ms)
  pub counted : count ≡ length demands
  pub last : n ≡ greatest demands
  pub asked : IsAsked start list n
  pub at_most : count ≤ n
  pub inside : n ≤ length list
  pub few : count ≤ caps (has_fcs start) hs + given_last e
  pub walk : Walk start (take n list) hs e

pub fed_nothing : (start : Expectation) (list : List ℕ) (hs : List Header) (e : Ending) → Walk start (take 0 list) hs e
    → Fed start list 0 0 hs e
fed_nothing start list hs e s = record {
  demands = [];
  all = λ ms are. are;
  counted = refl;
  last = refl;
  asked = inl refl;
  at_most = omega arith;
  inside = omega arith;
  few = omega arith;
  walk = s;
}

greatest-append : (ms : List ℕ) (m : ℕ) → greatest (ms ++ m ∷ []) ≡ max (greatest ms) m
greatest-append [] m = omega arith
greatest-append (n ∷ ms) m = let e = greatest-append ms m in omega arith

pub fed_more : (start : Expectation) (list : List ℕ) (n count : ℕ) (hs ks : List Header) (e f : Ending)
    (o : OpenRefusal e)
    → IsBytes list → Fed start list n count hs e → named_len e o ≤ length list
    → Walk start (take (named_len e o) list) ks f
    → Fed start list (named_len e o) (count + 1) ks f
fed_more start list n count hs ks e f o ok fed le t =
    let m = named_len e o in
    let s = fed.walk in
    let h = no_fcs start (take n list) hs e s o in
    let inside = fed.inside in
    let above : n < m = (let a = named_above start (take n list) hs e o h s in omega (arith, length-take n list)) in
    let demand = is_demand start list n hs e o ok h s above le in
    let parts = front_and_more list n m (omega arith) in
    let bytes = subst IsBytes parts (IsBytes-take m list ok) in
    let once =
    given_once_more start (take n list) (drop n (take m list)) hs ks e f o bytes h s
    (omega (arith, ap length parts, length-take m list)) (subst (λ (l : List ℕ). Walk start l ks f) parts t) in
    let closed : caps (has_fcs start) ks ≡ caps false ks = ap (λ c. caps c ks) h in
    let before : caps (has_fcs start) hs ≡ caps false hs = ap (λ c. caps c hs) h in
    let few = fed.few in
    let least = fed.at_most in
    let last = fed.last in
    let counted = fed.counted in
    let end = greatest-append fed.demands m in
    record {
      demands = fed.demands ++ m ∷ [];
      all =
          λ ms are.
          subst (AreDemands start list 0) (sym (append_assoc fed.demands (m ∷ []) ms))
          (fed.all (m ∷ ms) (above, demand, none_between start list n hs e o h s, are));
      counted = omega (arith, length-append fed.demands (m ∷ []));
      last = omega arith;
      asked = inr demand;
      at_most = omega arith;
      inside = le;
      few = omega arith;
      walk = t;
    }

last_stack : (list : List ℕ) (x : Expectation) (w : Window) (hs : List Header) (e : Ending) → Stack list x w hs e
    → given_last e ≤ last_cap e
last_stack list x w hs e s = given_capped list (last_expected e) (last_window e) e (leads list x w hs e s).1

-- nothing more is asked for
pub fed_all : (start : Expectation) (list : List ℕ) (n count : ℕ) (hs : List Header) (e : Ending)
    (fault : Option PeelFault)
    → IsBytes list → Fed start list n count hs e → AsksNoMore list e → fault ≡ fault_of e
    → IsFeed start list (record { refusals = count; taken = n; fault = fault })
fed_all start list n count hs e fault ok fed ask is =
    let few = fed.few in
    let capped = last_stack (take n list) start (whole start (take n list)) hs e fed.walk in
    let are =
    subst (AreDemands start list 0) (append-nil fed.demands)
    (fed.all [] (no_more start list n hs e fed.walk ask)) in
    record {
      demands = fed.demands;
      are = are;
      refusals = fed.counted;
      taken = fed.last;
      headers = hs;
      ending = e;
      walk = fed.walk;
      fault = is;
      few = omega arith;
      accepted = λ h gs g s a. takes_units start list gs hs g e n ok h s a fed.inside fed.asked fed.walk ask;
      nothing = λ h.
          let none = fcs_asks_nothing start list 0 fed.demands h are in
          (fed.counted ∙ ap length none, fed.last ∙ ap greatest none);
    }

-- ---- the place of the walk

-- after so many demands, in the front that was taken
pub record Feeds (start : Expectation) (list : List ℕ) (s : State) (taken count : ℕ) : Type 0 where
  pub way : UnderWay start (take taken list) s
  pub fed : Fed start list taken count (way.done ++ way.left) way.ending

pub feeds_nothing : (start : Expectation) (list : List ℕ) (s : State) (hs : List Header) (e : Ending)
    → Walk start (take 0 list) hs e → Faces (take 0 list) (whole start (take 0 list)) s hs e → s.over ≡ false
    → Feeds start list s 0 0
unfolding under_way_first
feeds_nothing start list s hs e walk faces going = record {
  way = under_way_first start (take 0 list) s hs e walk faces going;
  fed = fed_nothing start list hs e walk;
}

-- a unit was given, which ends later
pub record FeedsUnit (start : Expectation) (list : List ℕ) (s t : State) (taken count : ℕ) : Type 0 where
  pub feeds : Feeds start list t taken count
  pub later : s.offset < t.offset
  pub inside : t.offset ≤ length list

pub offset_inside : (start : Expectation) (list : List ℕ) (s : State) (taken count : ℕ) → Feeds start list s taken count
    → s.offset ≤ taken
offset_inside start list s taken count a =
    let at = a.way.faces.offset in
    let ordered = a.way.faces.inside.ordered in
    let inside = a.way.faces.inside.inside in
    let le = a.fed.inside in
    omega (arith, length-take taken list)

pub feeds_unit : (start : Expectation) (list : List ℕ) (s t : State) (taken count : ℕ) (u : PeelUnit)
    → Feeds start list s taken count → Gives s (Some (Ok u)) t → FeedsUnit start list s t taken count
unfolding under_way_next
feeds_unit start list s t taken count u a gives =
    let front = take taken list in
    let n = passes start front s t u a.way gives in
    let feeds : Feeds start list t taken count = record {
      way = under_way_next start front s t u a.way n;
      fed =
          subst (λ (hs : List Header). Fed start list taken count hs a.way.ending)
          (passed_headers start front s t u a.way n) a.fed;
    } in
    let old = a.way.faces.offset in
    let new = n.faces.offset in
    let least = header_least n.header in
    let inside = offset_inside start list t taken count feeds in
    let le = a.fed.inside in
    record { feeds = feeds; later = omega arith; inside = omega arith }

-- the fault was returned; the walk goes on in the front that it names
pub record FeedsFault (start : Expectation) (list : List ℕ) (s t : State) (taken count : ℕ) (f : PeelFault) : Type
    0 where
  pub headers : List Header
  pub window : Window
  pub expected : Expectation
  pub refusal : Refusal
  pub fed : Fed start list taken count headers (Fault window expected refusal)
  pub fault : f ≡ fault_in window refusal
  pub offset : t.offset ≡ window.start
  pub closed : t.closed ≡ window.closed
  pub bound : t.bound ≡ window.bound
  pub expects : t.expected ≡ expected
  pub at : window.start ≤ taken
  pub stays : t.offset ≡ s.offset

pub feeds_fault : (start : Expectation) (list : List ℕ) (s t : State) (taken count : ℕ) (f : PeelFault)
    → Feeds start list s taken count → Gives s (Some (Err f)) t → FeedsFault start list s t taken count f
feeds_fault start list s t taken count f a gives =
    let front = take taken list in
    let w = a.way in
    let given = gives.next w.going front w.window w.left w.ending w.faces in
    let n = fault_next front w.window w.left w.ending s t f given in
    let faces =
    subst (λ (e : Ending). Faces front w.window s [] e) n.ending
    (subst (λ (l : List Header). Faces front w.window s l w.ending) n.none_left w.faces) in
    let same : n.window ≡ w.window = faces.stack.0 in
    let at = offset_inside start list s taken count a in
    let offset : s.offset ≡ n.window.start = faces.offset ∙ ap (λ (v : Window). v.start) (sym same) in
    record {
      headers = w.done ++ w.left;
      window = n.window;
      expected = n.expected;
      refusal = n.refusal;
      fed = subst (Fed start list taken count (w.done ++ w.left)) n.ending a.fed;
      fault = n.fault ∙ ap (λ (v : Window). fault_in v n.refusal) (sym same);
      offset = ap (λ (u : State). u.offset) n.state ∙ offset;
      closed = ap (λ (u : State). u.closed) n.state ∙ faces.closed ∙ ap (λ (v : Window). v.closed) (sym same);
      bound = ap (λ (u : State). u.bound) n.state ∙ faces.bound ∙ ap (λ (v : Window). v.bound) (sym same);
      expects = ap (λ (u : State). u.expected) n.state ∙ sym faces.stack.1;
      at = omega arith;
      stays = ap (λ (u : State). u.offset) n.state;
    }

-- the walk goes on in a longer front
abbrev pub gone_on : State → List ℕ → State
gone_on t front = record t { rest = slice_range front t.offset (length front); over = false }

more_above : (start : Expectation) (list : List ℕ) (taken count : ℕ) (hs : List Header) (e : Ending) (o : OpenRefusal e)
    → Fed start list taken count hs e → taken < named_len e o
more_above start list taken count hs e o fed =
    let inside = fed.inside in
    let above = named_above start (take taken list) hs e o (no_fcs start (take taken list) hs e fed.walk o) fed.walk in
    omega (arith, length-take taken list)

same_rest : (list other : List ℕ) (a b finish : ℕ) → a ≡ b → length list ≡ finish → list ≡ other
    → slice_range list a (length list) ≡ slice_range other b finish
same_rest list other a b finish at ends is =
    ap (λ (k : ℕ). slice_range list k (length list)) at ∙ ap (slice_range list b) ends
    ∙ ap (λ (l : List ℕ). slice_range l b finish) is

feeds_named : (start : Expectation) (list : List ℕ) (s t : State) (taken count : ℕ) (f : PeelFault) → IsBytes list
    → (a : FeedsFault start list s t taken count f) (o : OpenRefusal (Fault a.window a.expected a.refusal))
    → named_len (Fault a.window a.expected a.refusal) o ≤ length list
    → Feeds start list (gone_on t (take (named_len (Fault a.window a.expected a.refusal) o) list))
    (named_len (Fault a.window a.expected a.refusal) o) (count + 1)
feeds_named start list s t taken count f ok a o le =
    let v = a.window in
    let e = Fault v a.expected a.refusal in
    let m = named_len e o in
    let old = take taken list in
    let front = take m list in
    let walk = a.fed.walk in
    let h = no_fcs start old a.headers e walk o in
    let inside = a.fed.inside in
    let above = more_above start list taken count a.headers e o a.fed in
    let parts = front_and_more list taken m (omega arith) in
    let more = drop taken front in
    let some = some_stack front start (whole start front) (IsBytes-take m list ok) in
    let next = subst (λ (l : List ℕ). Walk start l some.0 some.1) parts some.2 in
    let c =
    common start old more some.0 a.headers some.1 e (subst IsBytes parts (IsBytes-take m list ok)) h next walk in
    let g = walk_open_to_end start old a.headers e h walk in
    let ends = g.ends o.is_open in
    let to = carried_finish old (old ++ more) more v c.last c.carries in
    let few : length (beyond v.closed more) ≡ length more = ap (λ (b : Bool). length (beyond b more)) o.is_open in
    let at = c.start in
    let all : length front ≡ length old + length more = ap length parts ∙ length-append old more in
    let finish : length front ≡ c.last.finish = omega arith in
    let starts : t.offset ≡ c.last.start = a.offset ∙ sym at in
    let faces : Faces (old ++ more) c.last (gone_on t front) c.rest some.1 = record {
      inside = c.carries.new;
      rest = same_rest front (old ++ more) t.offset c.last.start c.last.finish starts finish parts;
      offset = starts;
      closed = a.closed ∙ sym c.carries.closed;
      bound = a.bound ∙ sym c.carries.bound;
      stack = subst (λ (x : Expectation). Stack (old ++ more) x c.last c.rest some.1) (sym a.expects) c.follows;
    } in
    let fed = fed_more start list taken count a.headers some.0 e some.1 o ok a.fed le some.2 in
    record {
      way =
          record {
            done = a.headers;
            left = c.rest;
            ending = some.1;
            window = c.last;
            walk = subst (λ (hs : List Header). Walk start front hs some.1) c.headers some.2;
            faces = subst (λ (l : List ℕ). Faces l c.last (gone_on t front) c.rest some.1) (sym parts) faces;
            going = refl;
          };
      fed = subst (λ (hs : List Header). Fed start list m (count + 1) hs some.1) c.headers fed;
    }

-- in one that is longer than what was taken
pub record FeedsMore (start : Expectation) (list : List ℕ) (s t : State) (taken count m : ℕ) : Type 0 where
  pub feeds : Feeds start list t m (count + 1)
  pub above : taken < m
  pub stays : t.offset ≡ s.offset

pub feeds_more : (start : Expectation) (list : List ℕ) (s t u : State) (taken count m : ℕ) (f : PeelFault)
    → IsBytes list → FeedsFault start list s t taken count f → Names f m → m ≤ length list → u ≡ gone_on t (take m list)
    → FeedsMore start list s u taken count m
feeds_more start list s t u taken count m f ok a names le is =
    let e = Fault a.window a.expected a.refusal in
    let named = names_open a.window a.expected a.refusal m (subst (λ (g : PeelFault). Names g m) a.fault names) in
    let above = more_above start list taken count a.headers e named.0 a.fed in
    let feeds = feeds_named start list s t taken count f ok a named.0 (omega (arith, named.1)) in
    let here = subst (λ (k : ℕ). Feeds start list (gone_on t (take k list)) k (count + 1)) named.1 feeds in
    record {
      feeds = subst (λ (v : State). Feeds start list v m (count + 1)) (sym is) here;
      above = omega (arith, named.1);
      stays = ap (λ (v : State). v.offset) is ∙ a.stays;
    }

-- nothing more is asked for: at a fault that names nothing that is there, or at an accepted ending
pub feed_of_fault : (start : Expectation) (list : List ℕ) (s t : State) (taken count : ℕ) (f : PeelFault) → IsBytes list
    → FeedsFault start list s t taken count f → ((m : ℕ) → Names f m → m ≤ length list → ⊥)
    → IsFeed start list (record { refusals = count; taken = taken; fault = Some f })
feed_of_fault start list s t taken count f ok a none =
    let e = Fault a.window a.expected a.refusal in
    fed_all start list taken count a.headers e (Some f) ok a.fed
    (λ o le.
    none (named_len e o)
    (subst (λ (g : PeelFault). Names g (named_len e o)) (sym a.fault)
    (open_names a.window a.expected a.refusal o))
    le)
    (ap (λ (g : PeelFault). Some g) a.fault)

pub feed_of_none : (start : Expectation) (list : List ℕ) (s t : State) (taken count : ℕ) → IsBytes list
    → Feeds start list s taken count → Gives s None t
    → IsFeed start list (record { refusals = count; taken = taken; fault = None })
feed_of_none start list s t taken count ok a gives =
    let w = a.way in
    let hs = w.done ++ w.left in
    let e = accepts start (take taken list) s t w gives in
    fed_all start list taken count hs (Accepted (last_window w.ending) (last_expected w.ending)) None ok
    (subst (Fed start list taken count hs) e a.fed) (λ o le. let e = o.refused in absurd cc) refl
