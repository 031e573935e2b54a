-- A frame that a walk is fed, whose lines are written one by one.
use Rattle.std.proofs.Common.{◌≡◌, ℕ, List, [], ◌++◌, take, Bool, true, false, refl, sym, ap, subst, ◌∙◌, append-nil, arith}
use Rattle.std.specs.Prelude.{Option, Some, None, codes}
use Rattle.std.proofs.lemmas.Option.{same_Some}
use Rattle.ether_peel.specs.Grammar.Expectation.{Expectation}
use Rattle.ether_peel.specs.Grammar.Stack.{Ending, Accepted, Fault, Walk}
use Rattle.ether_peel.specs.Walker.Summary.{fault_of}
use Rattle.ether_peel.specs.Walker.Feeding.{IsFeed}
use Rattle.ether_peel.specs.declared.peel_fault.PeelFault.{PeelFault}
use Rattle.ether_peel.specs.declared.walk_feed.Feed.{Feed}
use Rattle.ether_text.specs.Lines.{feed_text, fault_line}
use Rattle.ether_output.specs.Words.{is_accepted}
use Rattle.ether_text.specs.ViewLines.{fault_view_text}
use Rattle.ether_text.specs.WalkText.{AnswersFeed}
use Rattle.ether_output.specs.OutputBuffer.{Takes, TakesAnswer}
use Rattle.ether_output.specs.declared.output_buffer.OutputBuffer.{OutputBuffer}
use Rattle.ether_output.proofs.OutputBufferLemmas.{Takes-then, Takes-same}
use Rattle.ether_text.proofs.WalkLinesLemmas.{fault_after, fault_view_text-fault}

no_place : (f : PeelFault) → fault_view_text f ≡ fault_view_text (fault_after 0 f)
no_place f = ap (λ (n : ℕ). fault_view_text (record f { offset = n })) (omega arith)

-- an ending with a fault has that fault's line, and is not accepted
line_of_fault : (e : Ending) (f : PeelFault) → fault_of e ≡ Some f
    → (fault_view_text f ++ codes "\n" ≡ fault_line e) × (false ≡ is_accepted e)
unfolding fault_line
line_of_fault (Accepted w x) f is = absurd (cc)
line_of_fault (Fault w x r) f is = (
  ap (λ (l : List ℕ). l ++ codes "\n")
      (ap fault_view_text (sym (same_Some _ _ is)) ∙ no_place _ ∙ fault_view_text-fault 0 w r),
  refl,
)

-- an ending without one has no line, and is accepted
no_line : (e : Ending) → fault_of e ≡ None → (fault_line e ≡ []) × (true ≡ is_accepted e)
unfolding fault_line
no_line (Accepted w x) is = (refl, refl)
no_line (Fault w x r) is = absurd (cc)

module _ {W : Type 0} (contents : W → Option (List ℕ)) (can_fail : Type 0) (x : Expectation) (frame : List ℕ) where
  -- what is written of a feed is the text for its frame
  answered : (feed : Feed) (old new : OutputBuffer W) (accepted : Bool) (last : List ℕ) → (is : IsFeed x frame feed)
      → (last ≡ fault_line is.ending) × (accepted ≡ is_accepted is.ending)
      → Takes contents can_fail old ((feed_text feed.refusals feed.taken ++ codes "\n") ++ last) new
      → TakesAnswer contents can_fail (AnswersFeed x frame) old new accepted
  answered feed old new accepted last is ending taken = record {
    text = (feed_text feed.refusals feed.taken ++ codes "\n") ++ last;
    answers = record {
      demands = is.demands;
      are = is.are;
      headers = is.headers;
      ending = is.ending;
      walk = subst (λ (n : ℕ). Walk x (take n frame) is.headers is.ending) is.taken is.walk;
      lines = λ i. (feed_text (is.refusals i) (is.taken i) ++ codes "\n") ++ ending.0 i;
      verdict = ending.1;
    };
    taken = taken;
  }

  -- with the line of a fault
  pub fed_fault : (feed : Feed) (old mid new : OutputBuffer W) (f : PeelFault) → IsFeed x frame feed
      → feed.fault ≡ Some f
      → Takes contents can_fail old (feed_text feed.refusals feed.taken ++ codes "\n") mid
      → Takes contents can_fail mid (fault_view_text f ++ codes "\n") new
      → TakesAnswer contents can_fail (AnswersFeed x frame) old new false
  fed_fault feed old mid new f is shows counts line =
      answered feed old new false (fault_view_text f ++ codes "\n") is
      (line_of_fault is.ending f (sym is.fault ∙ shows)) (Takes-then counts line)

  -- without one
  pub fed_whole : (feed : Feed) (old new : OutputBuffer W) → IsFeed x frame feed → feed.fault ≡ None
      → Takes contents can_fail old (feed_text feed.refusals feed.taken ++ codes "\n") new
      → TakesAnswer contents can_fail (AnswersFeed x frame) old new true
  fed_whole feed old new is none counts =
      let (nothing, accepted) = no_line is.ending (sym is.fault ∙ none) in
      answered feed old new true [] is (sym nothing, accepted) (Takes-same (sym (append-nil _)) counts)
