-- The headers of a walk, shown to a visitor one by one.
use Rattle.std.proofs.Common.{◌≡◌, ℕ, ◌+◌, ◌-◌, List, [], ◌∷◌, ◌++◌, length, Bool, true, false, refl, sym, ap, subst, ◌∙◌, append_assoc, append-nil, arith}
use Rattle.std.specs.Prelude.{Some, None, Ok, Err}
use Rattle.etherparse.specs.Bytes.{IsBytes}
use Rattle.etherparse.specs.Header.{Header}
use Rattle.etherparse.specs.Header as headers
use Rattle.etherparse.specs.Refusal.{Refusal, Length, UnsupportedPacketType, UnsupportedHardwareType, UnexpectedVersion, InvalidShortLen}
use Rattle.etherparse.proofs.SubLists.{length-part}
use Rattle.ether_peel.specs.Grammar.Window.{Window, within, IsIn, payload}
use Rattle.ether_peel.specs.Grammar.Expectation.{Expectation}
use Rattle.ether_peel.specs.Grammar.Stack.{Ending, IsUnit, last_window, last_expected, whole, Walk}
use Rattle.ether_peel.specs.Grammar.Stack as endings
use Rattle.ether_peel.specs.Walker.State.{State}
use Rattle.ether_peel.specs.Walker.Start.{kind_shown}
use Rattle.ether_peel.specs.Walker.Fault.{fault_in}
use Rattle.ether_peel.specs.Walker.Next.{Faces, ShowsUnit, Gives}
use Rattle.ether_peel.specs.Walker.UnitHeader.{unit_header}
use Rattle.ether_peel.proofs.Grammar.CheckSequence.{fcs_of_window}
use Rattle.ether_peel.proofs.Walker.UnderWay.{UnderWay, under_way_first, Passes, passes, passes_header, passed_headers, under_way_next, stops, stop_finish, no_none, no_fault, faults, accepts}
use Rattle.ether_peel.specs.declared.peel_unit.PeelUnit.{PeelUnit}
use Rattle.ether_peel.specs.declared.peel_fault.PeelFault.{PeelFault}
use Rattle.ether_peel.specs.declared.rest_kind.RestKind.{RestKind}
use Rattle.ether_output.specs.Words.{is_accepted}
use Rattle.ether_format.specs.declared.end.End.{End}
use Rattle.ether_format.specs.declared.end.End.TheVariants.{Rest, Fault}
use Rattle.ether_format.specs.declared.place.Place.{Place}
use Rattle.ether_format.specs.Causes.{cause_shown}
use Rattle.ether_format.specs.FoundHeaders.{fcs_shown}
use Rattle.ether_format.specs.Told.{Told, Walked, TellsWalk, fcs_in, is_end_accepted, told_in, told_stack, told_end}
use Rattle.ether_format.specs.Visits.{Visited, VisitsWalk}

-- ---- what a walker gives tells what it faces

abbrev told_unit : Place → PeelUnit → Told
told_unit place u = Walked place (unit_header u) (fcs_shown u)

-- a fault, whose offset counts from `at` bytes before the frame
abbrev pub fault_shown : (at : ℕ) → PeelFault → End
fault_shown at f = Fault (at + f.offset) f.closed (cause_shown f.error)

-- its frame check sequence
fcs_of_unit : (list rest : List ℕ) (x : Expectation) (w : Window) (h : Header) (u : PeelUnit) → IsIn list w
    → IsUnit list x w h
    → ShowsUnit (within list w) rest h u → fcs_shown u ≡ fcs_in list w h
fcs_of_unit list rest x w (headers.Ethernet2 e) u inside unit shows = ap fcs_shown shows
fcs_of_unit list rest x w (headers.Ethernet2Fcs e) u inside unit shows = ap fcs_shown shows
    ∙ ap Some (fcs_of_window list w inside unit.accepted)
fcs_of_unit list rest x w (headers.LinuxSll s) u inside unit shows = ap fcs_shown shows
fcs_of_unit list rest x w (headers.Vlan v) u inside unit shows = ap fcs_shown shows
fcs_of_unit list rest x w (headers.Macsec t) u inside unit shows = ap fcs_shown shows.1
fcs_of_unit list rest x w (headers.Arp a) u inside unit shows = ap fcs_shown shows

-- where a window ends
pub same_end : (list : List ℕ) (w : Window) (s : State) (hs : List Header) (e : Ending) → Faces list w s hs e
    → s.offset + length s.rest ≡ w.finish
same_end list w s hs e faces =
    let ordered = faces.inside.ordered in
    let at = faces.offset in
    let len : length s.rest ≡ w.finish - w.start = ap length faces.rest
    ∙ length-part list w.start w.finish faces.inside.inside in
    omega arith

pub fault_is : (at : ℕ) (w : Window) (x : Expectation) (r : Refusal)
    → fault_shown at (fault_in w r) ≡ told_end at (endings.Fault w x r)
fault_is at w x (Length required len source layer) = refl
fault_is at w x (UnsupportedPacketType n) = refl
fault_is at w x (UnsupportedHardwareType n) = refl
fault_is at w x UnexpectedVersion = refl
fault_is at w x InvalidShortLen = refl

-- what a walker faces when it gives its last answer, and what that tells
pub record TellsEnd (at : ℕ) (left : List Header) (e : Ending) (end : End) (accepted : Bool) : Type 0 where
  pub none_left : left ≡ []
  pub is : end ≡ told_end at e
  pub verdict : accepted ≡ is_accepted e

module _ (at : ℕ) (x : Expectation) (frame : List ℕ) (s t : State) (way : UnderWay x frame s) where
  -- a header that a walker gives is the first of those that it faces
  pub unit_told : (u : PeelUnit) (place : Place) → IsBytes frame → (n : Passes x frame s t u way)
      → place.start ≡ at + s.offset → place.header_end ≡ at + t.offset
      → place.payload_end ≡ at + (t.offset + length t.rest)
      → place.closed ≡ t.closed → told_unit place u ≡ told_in at frame way.window n.header
  unit_told u place ok n from to end mark =
      let w = way.window in
      let h = n.header in
      let inner = payload w h in
      let faces = subst (λ (l : List Header). Faces frame w s l way.ending) n.parts way.faces in
      let shows = subst (λ (l : List ℕ). ShowsUnit l t.rest h u) faces.rest n.shows in
      let header = passes_header x frame s t u way n ok in
      let fcs = fcs_of_unit frame t.rest s.expected w h u faces.inside faces.stack.0 shows in
      let begin : place.start ≡ at + w.start = from ∙ ap (λ (n : ℕ). at + n) faces.offset in
      let middle : place.header_end ≡ at + inner.start = to ∙ ap (λ (n : ℕ). at + n) n.faces.offset in
      let last : place.payload_end ≡ at + inner.finish = end
      ∙ ap (λ (n : ℕ). at + n) (same_end frame inner t n.later way.ending n.faces) in
      let closed : place.closed ≡ inner.closed = mark ∙ n.faces.closed in
      λ i. Walked (record { start = begin i; header_end = middle i; payload_end = last i; closed = closed i })
      (header i) (fcs i)

  pub fault_told : (f : PeelFault) → Gives s (Some (Err f)) t
      → TellsEnd at way.left way.ending (fault_shown at f) false
  fault_told f gives =
      let n = faults x frame s t f way gives in
      record {
        none_left = (stops x frame s t (Some (Err f)) way (no_fault f) gives).none_left;
        is =
            ap (fault_shown at) n.fault
            ∙ fault_is at (last_window way.ending) (last_expected way.ending) n.refusal
            ∙ ap (told_end at) (sym n.ending);
        verdict = ap is_accepted (sym n.ending);
      }

  pub rest_told : (start end : ℕ) (k : RestKind) → Gives s None t → start ≡ at + s.offset
      → end ≡ at + (s.offset + length t.rest)
      → k ≡ kind_shown t.expected → TellsEnd at way.left way.ending (Rest start end k) true
  rest_told start end k gives from to kind =
      let v = last_window way.ending in
      let stop = stops x frame s t None way no_none gives in
      let accepted = accepts x frame s t way gives in
      let same = way.faces.offset ∙ ap (λ (w : Window). w.start) stop.window in
      let place = stop.offset in
      let finish = stop_finish x frame s t way stop in
      let begin : start ≡ at + v.start = from ∙ ap (λ (n : ℕ). at + n) same in
      let until : end ≡ at + v.finish = omega (arith, to, same, place, finish) in
      let shown : k ≡ kind_shown (last_expected way.ending) = kind ∙ ap kind_shown stop.expects in
      record {
        none_left = stop.none_left;
        is = (λ i. Rest (begin i) (until i) (shown i)) ∙ ap (told_end at) (sym accepted);
        verdict = ap is_accepted (sym accepted);
      }

-- ---- the headers so far, and those that are left

pub visited_next : {V T : Type 0} (takes : V → T → Told → V → T → Type 0)
    (v : V) (t : T) (hs : List Told) (x : V) (y : T)
    (h : Told) (w : V) (u : T)
    → Visited takes v t hs x y → takes x y h w u → Visited takes v t (hs ++ (h ∷ [])) w u
visited_next {V = V} {T = T} takes v t [] x y h w u same taken =
    (w, u, subst (λ (k : T). takes v k h w u) same.1 (subst (λ (k : V). takes k y h w u) same.0 taken), (refl, refl))
visited_next takes v t (k ∷ hs) x y h w u so_far taken =
    (so_far.0, so_far.1, so_far.2, visited_next takes so_far.0 so_far.1 hs x y h w u so_far.3 taken)

-- the headers of a walk that a visitor took
pub record SoFar {V T : Type 0} (takes : V → T → Told → V → T → Type 0) (at : ℕ) (x : Expectation) (frame : List ℕ)
    (v : V) (t : T) (s : State) (w : V) (u : T) : Type 0 where
  pub way : UnderWay x frame s
  pub told : List Told
  pub visited : Visited takes v t told w u
  pub parts : told_stack at frame (whole x frame) (way.done ++ way.left)
      ≡ told ++ told_stack at frame way.window way.left

module _ {V T : Type 0} (takes : V → T → Told → V → T → Type 0) (at : ℕ) (x : Expectation) (frame : List ℕ) (v : V)
    (t : T) where
  pub visit_starts : (s : State) (all : List Header) (ending : Ending) → Walk x frame all ending
      → Faces frame (whole x frame) s all ending → s.over ≡ false → SoFar takes at x frame v t s v t
  unfolding under_way_first
  visit_starts s all ending walk faces going = record {
    way = under_way_first x frame s all ending walk faces going;
    told = [];
    visited = (refl, refl);
    parts = refl;
  }

  pub visit_unit : (s r : State) (w : V) (u : T) (y : V) (z : T) (unit : PeelUnit) (place : Place) → IsBytes frame
      → SoFar takes at x frame v t s w u → Gives s (Some (Ok unit)) r
      → place.start ≡ at + s.offset → place.header_end ≡ at + r.offset
      → place.payload_end ≡ at + (r.offset + length r.rest) → place.closed ≡ r.closed
      → takes w u (told_unit place unit) y z
      → SoFar takes at x frame v t r y z
  unfolding under_way_next
  visit_unit s r w u y z unit place ok a gives from to end mark taken =
      let way = a.way in
      let n = passes x frame s r unit way gives in
      let is = unit_told at x frame s r way unit place ok n from to end mark in
      let h = told_in at frame way.window n.header in
      let later = told_stack at frame (payload way.window n.header) n.later in
      record {
        way = under_way_next x frame s r unit way n;
        told = a.told ++ (h ∷ []);
        visited =
            visited_next takes v t a.told w u h y z a.visited
            (subst (λ (k : Told). takes w u k y z) is taken);
        parts =
            ap (told_stack at frame (whole x frame)) (sym (passed_headers x frame s r unit way n))
            ∙ a.parts ∙ ap (λ (l : List Header). a.told ++ told_stack at frame way.window l) n.parts
            ∙ sym (append_assoc a.told (h ∷ []) later);
      }

  pub visit_ends : (s : State) (w : V) (u : T) (end : End) → (a : SoFar takes at x frame v t s w u)
      → TellsEnd at a.way.left a.way.ending end (is_end_accepted end) → VisitsWalk takes at x frame v t end w u
  visit_ends s w u end a n =
      let way = a.way in
      let tells : TellsWalk at x frame a.told end (is_end_accepted end) = record {
        headers = way.done ++ way.left;
        ending = way.ending;
        walk = way.walk;
        is_told =
            sym (append-nil a.told)
            ∙ ap (λ (l : List Header). a.told ++ told_stack at frame way.window l) (sym n.none_left) ∙ sym a.parts;
        is_end = n.is;
        verdict = n.verdict;
      } in
      (a.told, tells, a.visited)
