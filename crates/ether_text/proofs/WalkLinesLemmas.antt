-- A frame whose lines are written one by one.
use Rattle.std.proofs.Common.{◌≡◌, ℕ, ◌+◌, ◌-◌, List, [], ◌++◌, length, Bool, true, false, refl, sym, ap, subst, ◌∙◌, append_assoc, arith}
use Rattle.std.specs.Prelude.{Option, Some, None, Ok, Err, codes, slice_range}
use Rattle.std.specs.Fmt.{decimal}
use Rattle.etherparse.specs.Bytes.{IsBytes}
use Rattle.etherparse.specs.Ethernet2.{Ethernet2Value}
use Rattle.etherparse.specs.Macsec.{SecTagValue, sec_tag_of}
use Rattle.etherparse.specs.Header.{Header, Means}
use Rattle.etherparse.specs.Header as headers
use Rattle.etherparse.specs.Refusal.{Refusal, Length, UnsupportedPacketType, UnsupportedHardwareType, UnexpectedVersion, InvalidShortLen}
use Rattle.etherparse.proofs.SubLists.{length-part, IsBytes-part}
use Rattle.ether_peel.specs.Grammar.Window.{Window, within, IsIn, payload}
use Rattle.ether_peel.specs.Grammar.Expectation.{Next, Expectation, Start, EtherType, Sll, Sealed, AfterArp}
use Rattle.ether_peel.specs.Grammar.Stack.{Ending, IsUnit, last_window, last_expected, whole, Walk}
use Rattle.ether_peel.specs.Walker.State.{State}
use Rattle.ether_peel.specs.Walker.Start.{next_shown, kind_shown}
use Rattle.ether_peel.specs.Walker.Fault.{fault_in}
use Rattle.ether_peel.specs.Walker.Next.{Faces, ShowsUnit, Gives}
use Rattle.ether_peel.proofs.Grammar.CheckSequence.{fcs_of_window}
use Rattle.ether_peel.proofs.Walker.ViewValues.{ethernet2_shown, linux_sll_shown, vlan_shown, macsec_shown, arp_shown}
use Rattle.ether_peel.proofs.Walker.UnderWay.{UnderWay, under_way_first, passes, passed_headers, under_way_next, stops, stop_finish, no_none, no_fault, faults, accepts}
use Rattle.ether_peel.specs.declared.peel_unit.PeelUnit.{PeelUnit}
use Rattle.ether_peel.specs.declared.peel_fault.PeelFault.{PeelFault}
use Rattle.ether_peel.specs.declared.rest_kind.RestKind.{RestKind}
use Rattle.ether_text.specs.Lines.{ethernet2_text, ethernet2_fcs_text, linux_sll_text, vlan_text, macsec_text, arp_text, unit_text, kind_text, rest_text, fault_text, ending_text, frame_text}
use Rattle.ether_output.specs.Words.{is_accepted}
use Rattle.ether_text.specs.ViewLines.{view_text, kind_view_text, rest_view_text, fault_view_text}
use Rattle.ether_text.specs.WalkText.{AnswersWalkAfter}
use Rattle.ether_output.specs.OutputBuffer.{Takes, TakesAnswer}
use Rattle.ether_output.specs.declared.output_buffer.OutputBuffer.{OutputBuffer}
use Rattle.ether_output.proofs.OutputBufferLemmas.{Takes-none, Takes-then}

-- ---- what a walker gives has the text of what it faces

view_text-unit : (at : ℕ) (list : List ℕ) (x : Expectation) (w : Window) (h : Header) (u : PeelUnit) (rest : List ℕ)
    (closed : Bool)
    → IsBytes list → IsIn list w → IsUnit list x w h → IsIn list (payload w h)
    → rest ≡ within list (payload w h) → closed ≡ (payload w h).closed → ShowsUnit (within list w) rest h u
    → view_text (at + w.start) (length rest) closed u ≡ unit_text at list w h
unfolding unit_text
view_text-unit at list x w (headers.Ethernet2 e) u rest closed ok inside unit after left mark shows =
    let bytes = within list w in
    let is = ethernet2_shown bytes e (IsBytes-part w.start w.finish list ok) unit.means in
    ap (view_text (at + w.start) (length rest) closed) shows ∙ ap (ethernet2_text (at + w.start)) is
view_text-unit at list x w (headers.Ethernet2Fcs e) u rest closed ok inside unit after left mark shows =
    let bytes = within list w in
    let plain : Means bytes (headers.Ethernet2 e) = record { whole = unit.means.whole; spells = unit.means.spells } in
    let is = ethernet2_shown bytes e (IsBytes-part w.start w.finish list ok) plain in
    ap (view_text (at + w.start) (length rest) closed) shows
    ∙ ap
    (λ (v : Ethernet2Value).
    ethernet2_fcs_text (at + w.start) v (slice_range bytes (length bytes - 4) (length bytes)))
    is
    ∙ ap (ethernet2_fcs_text (at + w.start) e) (fcs_of_window list w inside unit.accepted)
view_text-unit at list x w (headers.LinuxSll s) u rest closed ok inside unit after left mark shows =
    let is = linux_sll_shown (within list w) s (IsBytes-part w.start w.finish list ok) unit.means in
    ap (view_text (at + w.start) (length rest) closed) shows ∙ ap (linux_sll_text (at + w.start)) is
view_text-unit at list x w (headers.Vlan v) u rest closed ok inside unit after left mark shows =
    let is = vlan_shown (within list w) v (IsBytes-part w.start w.finish list ok) unit.means in
    ap (view_text (at + w.start) (length rest) closed) shows ∙ ap (vlan_text (at + w.start)) is
view_text-unit at list x w (headers.Macsec t) u rest closed ok inside unit after left mark shows =
    let inner = payload w (headers.Macsec t) in
    let (m, is_view, view) = shows in
    let is =
    ap sec_tag_of view.header ∙ macsec_shown (within list w) t (IsBytes-part w.start w.finish list ok) unit.means in
    let len : length rest ≡ inner.finish - inner.start =
    ap length left ∙ length-part list inner.start inner.finish after.inside in
    ap (view_text (at + w.start) (length rest) closed) is_view
    ∙ ap (λ (v : SecTagValue). macsec_text (at + w.start) v (length rest) closed) is
    ∙ ap (λ (n : ℕ). macsec_text (at + w.start) t n closed) len
    ∙ ap (macsec_text (at + w.start) t (inner.finish - inner.start)) mark
view_text-unit at list x w (headers.Arp a) u rest closed ok inside unit after left mark shows =
    let is = arp_shown (within list w) a (IsBytes-part w.start w.finish list ok) unit.means in
    ap (view_text (at + w.start) (length rest) closed) shows ∙ ap (arp_text (at + w.start)) is

-- a fault whose place is counted from so many bytes before the list
abbrev pub fault_after : ℕ → PeelFault → PeelFault
fault_after at f = record f { offset = at + f.offset }

pub fault_view_text-fault : (at : ℕ) (w : Window) (r : Refusal)
    → fault_view_text (fault_after at (fault_in w r)) ≡ fault_text at w r
unfolding fault_view_text fault_text
fault_view_text-fault at w (Length required len source layer) = refl
fault_view_text-fault at w (UnsupportedPacketType n) = refl
fault_view_text-fault at w (UnsupportedHardwareType n) = refl
fault_view_text-fault at w UnexpectedVersion = refl
fault_view_text-fault at w InvalidShortLen = refl

kind_view_text-kind : (x : Next) → kind_view_text (next_shown x) ≡ kind_text x
unfolding kind_text
kind_view_text-kind (Start kind) = refl
kind_view_text-kind (EtherType t) = refl
kind_view_text-kind (Sll protocol) = refl
kind_view_text-kind Sealed = refl
kind_view_text-kind AfterArp = refl

rest_view_text-rest : (at : ℕ) (w : Window) (x : Expectation) (start end : ℕ) (k : RestKind) → start ≡ at + w.start
    → end ≡ at + w.finish → k ≡ kind_shown x → rest_view_text start end k ≡ rest_text at w x
unfolding rest_view_text rest_text
rest_view_text-rest at w x start end k from to shows =
    let kind = ap kind_view_text shows ∙ kind_view_text-kind x.next in
    ap (λ (n : ℕ). rest_view_text n end k) from ∙ ap (λ (n : ℕ). rest_view_text (at + w.start) n k) to
    ∙ ap
    (λ (t : List ℕ).
    codes "rest"
    ++ (codes " "
    ++ (decimal (at + w.start) ++ (codes " " ++ (decimal (at + w.finish) ++ (codes " " ++ t))))))
    kind

-- ---- the lines so far, and those that are left

pub record WritesWalk {W : Type 0} (contents : W → Option (List ℕ)) (can_fail : Type 0) (at : ℕ) (x : Expectation)
    (frame : List ℕ) (s : State) (old new : OutputBuffer W) : Type 0 where
  pub way : UnderWay x frame s
  pub text : List ℕ
  pub taken : Takes contents can_fail old text new
  pub parts : frame_text at frame (whole x frame) (way.done ++ way.left) way.ending
      ≡ text ++ frame_text at frame way.window way.left way.ending

module _ {W : Type 0} (contents : W → Option (List ℕ)) (can_fail : Type 0) where
  pub walk_starts : (at : ℕ) (x : Expectation) (frame : List ℕ) (s : State) (out : OutputBuffer W) (all : List Header)
      (ending : Ending)
      → Walk x frame all ending → Faces frame (whole x frame) s all ending → s.over ≡ false
      → WritesWalk contents can_fail at x frame s out out
  unfolding under_way_first
  walk_starts at x frame s out all ending walk faces going = record {
    way = under_way_first x frame s all ending walk faces going;
    text = [];
    taken = Takes-none contents can_fail out;
    parts = refl;
  }

  -- a unit's line
  pub walk_unit : (at : ℕ) (x : Expectation) (frame : List ℕ) (s t : State) (old mid new : OutputBuffer W)
      (u : PeelUnit)
      → IsBytes frame → WritesWalk contents can_fail at x frame s old mid → Gives s (Some (Ok u)) t
      → Takes contents can_fail mid (view_text (at + s.offset) (length t.rest) t.closed u ++ codes "\n") new
      → WritesWalk contents can_fail at x frame t old new
  unfolding frame_text under_way_next
  walk_unit at x frame s t old mid new u ok a gives line =
      let way = a.way in
      let n = passes x frame s t u way gives in
      let h = n.header in
      let faces = subst (λ (l : List Header). Faces frame way.window s l way.ending) n.parts way.faces in
      let shows = subst (λ (l : List ℕ). ShowsUnit l t.rest h u) faces.rest n.shows in
      let after = n.faces in
      let is : view_text (at + s.offset) (length t.rest) t.closed u ≡ unit_text at frame way.window h =
      ap (λ (k : ℕ). view_text (at + k) (length t.rest) t.closed u) faces.offset
      ∙ view_text-unit at frame s.expected way.window h u t.rest t.closed ok faces.inside faces.stack.0
      after.inside after.rest after.closed shows in
      let written = unit_text at frame way.window h ++ codes "\n" in
      record {
        way = under_way_next x frame s t u way n;
        text = a.text ++ written;
        taken = Takes-then a.taken (subst (λ (l : List ℕ). Takes contents can_fail mid (l ++ codes "\n") new) is line);
        parts =
            ap (λ (l : List Header). frame_text at frame (whole x frame) l way.ending)
            (sym (passed_headers x frame s t u way n))
            ∙ a.parts ∙ ap (λ (l : List Header). a.text ++ frame_text at frame way.window l way.ending) n.parts
            ∙ sym (append_assoc a.text written (frame_text at frame (payload way.window h) n.later way.ending));
      }

  answered : (at : ℕ) (x : Expectation) (frame : List ℕ) (s : State) (old mid new : OutputBuffer W) (accepted : Bool)
      (last : List ℕ)
      → (a : WritesWalk contents can_fail at x frame s old mid) → a.way.left ≡ []
      → last ≡ ending_text at a.way.ending → accepted ≡ is_accepted a.way.ending
      → Takes contents can_fail mid (last ++ codes "\n") new
      → TakesAnswer contents can_fail (AnswersWalkAfter at x frame) old new accepted
  unfolding frame_text
  answered at x frame s old mid new accepted last a none is verdict line =
      let way = a.way in
      record {
        text = a.text ++ (last ++ codes "\n");
        answers = record {
          headers = way.done ++ way.left;
          ending = way.ending;
          walk = way.walk;
          lines =
              ap (λ (l : List ℕ). a.text ++ (l ++ codes "\n")) is
              ∙ sym
              (a.parts ∙ ap (λ (l : List Header). a.text ++ frame_text at frame way.window l way.ending) none);
          verdict = verdict;
        };
        taken = Takes-then a.taken line;
      }

  -- the line of a fault
  pub walk_fault : (at : ℕ) (x : Expectation) (frame : List ℕ) (s t : State) (old mid new : OutputBuffer W)
      (f : PeelFault)
      → WritesWalk contents can_fail at x frame s old mid → Gives s (Some (Err f)) t
      → Takes contents can_fail mid (fault_view_text (fault_after at f) ++ codes "\n") new
      → TakesAnswer contents can_fail (AnswersWalkAfter at x frame) old new false
  unfolding ending_text
  walk_fault at x frame s t old mid new f a gives line =
      let e = a.way.ending in
      let end = stops x frame s t (Some (Err f)) a.way (no_fault f) gives in
      let n = faults x frame s t f a.way gives in
      let is : fault_view_text (fault_after at f) ≡ ending_text at e =
      ap (λ (g : PeelFault). fault_view_text (fault_after at g)) n.fault
      ∙ fault_view_text-fault at (last_window e) n.refusal ∙ ap (ending_text at) (sym n.ending) in
      answered at x frame s old mid new false (fault_view_text (fault_after at f)) a end.none_left is
      (ap is_accepted (sym n.ending)) line

  -- the line of what is left
  pub walk_rest : (at : ℕ) (x : Expectation) (frame : List ℕ) (s t : State) (old mid new : OutputBuffer W) (end : ℕ)
      (k : RestKind)
      → WritesWalk contents can_fail at x frame s old mid → Gives s None t
      → end ≡ at + (s.offset + length t.rest) → k ≡ kind_shown t.expected
      → Takes contents can_fail mid (rest_view_text (at + s.offset) end k ++ codes "\n") new
      → TakesAnswer contents can_fail (AnswersWalkAfter at x frame) old new true
  unfolding ending_text
  walk_rest at x frame s t old mid new end k a gives to kind line =
      let e = a.way.ending in
      let v = last_window e in
      let y = last_expected e in
      let stop = stops x frame s t None a.way no_none gives in
      let accepted = accepts x frame s t a.way gives in
      let begin = a.way.faces.offset ∙ ap (λ (w : Window). w.start) stop.window in
      let finish = stop_finish x frame s t a.way stop in
      let place = stop.offset in
      let from : at + s.offset ≡ at + v.start = ap (λ (n : ℕ). at + n) begin in
      let until : end ≡ at + v.finish = omega (arith, to, begin, finish, place) in
      let shown : k ≡ kind_shown y = kind ∙ ap kind_shown stop.expects in
      let is : rest_view_text (at + s.offset) end k ≡ ending_text at e =
      rest_view_text-rest at v y (at + s.offset) end k from until shown ∙ ap (ending_text at) (sym accepted) in
      answered at x frame s old mid new true (rest_view_text (at + s.offset) end k) a stop.none_left is
      (ap is_accepted (sym accepted)) line
