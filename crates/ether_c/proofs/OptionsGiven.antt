-- The options of a unit that are under way, in an array.
use Rattle.std.proofs.Common.{◌≡◌, ℕ, ◌+◌, List, [], ◌∷◌, ◌++◌, length, set, refl, sym, ap, subst, ◌∙◌, arith, rules}
use Rattle.std.specs.Prelude.{Option, Some, None}
use Rattle.std.proofs.Math.Seq.{take-nil}
use Rattle.std.proofs.lemmas.List.{append_assoc, append-nil, length-append}
use Rattle.ether_pcap.specs.Options.{OptionValue, HasOptions}
use Rattle.ether_pcap.specs.OptionReading.{OptionsState, GivesNextOption, OptionGives}
use Rattle.ether_pcap.specs.Views.{order_of}
use Rattle.ether_pcap.specs.PcapngViews.{option_view}
use Rattle.ether_pcap.specs.declared.pcapng.pcapng_option.PcapngOption.{PcapngOption}
use Rattle.ether_c.specs.declared.ether_option.EtherOption.{EtherOption}
use Rattle.ether_c.specs.Puts.{AllMatched}
use Rattle.ether_c.specs.UnitOptions.{HoldsOption, PutsAll}
use Rattle.ether_c.proofs.UnitsGiven.{Holds, put_next}
use Rattle.ether_c.proofs.EachPut.{fit-append, fit-length}

-- ---- what comes next

abbrev Returns : (result returned : Option PcapngOption) → Type 0
Returns result returned = result ≡ returned

pub record OptionNext (todo : List OptionValue) (t : OptionsState) (p : PcapngOption) : Type 0 where
  pub later : List OptionValue
  pub parts : todo ≡ option_view p ∷ later
  pub has : HasOptions (order_of t.byte_order) t.rest later

option_next : (todo : List OptionValue) (s t : OptionsState) (p : PcapngOption)
    → HasOptions (order_of s.byte_order) s.rest todo → GivesNextOption todo s (Some p) t → OptionNext todo t p
option_next [] s t p has g = let none = g.0 in absurd cc
option_next (o ∷ options) s t p has g = search rules

none_next : (todo : List OptionValue) (s t : OptionsState) → GivesNextOption todo s None t → todo ≡ []
none_next [] s t g = refl
none_next (o ∷ options) s t g = let given : Returns None (Some g.0) = assumption g in absurd cc

-- ---- options that are under way

pub record OptionsSoFar (all : List OptionValue) (s : OptionsState) (count : ℕ) (old new : List EtherOption)
    : Type 0 where
  pub todo : List OptionValue
  pub rest : HasOptions (order_of s.byte_order) s.rest todo
  pub before : List OptionValue
  pub parts : all ≡ before ++ todo
  pub given : List EtherOption
  pub are : AllMatched HoldsOption given before
  pub counted : count ≡ length given
  pub held : Holds given old new count

-- .. whichever the options of these bytes are
abbrev pub UnderWay : OptionsState → OptionsState → (count : ℕ) → (old new : List EtherOption) → Type 0
UnderWay begun s count old new =
    (all : List OptionValue) → HasOptions (order_of begun.byte_order) begun.rest all → OptionsSoFar all s count old new

pub options_first : (s : OptionsState) (old : List EtherOption) → UnderWay s s 0 old old
options_first s old all has = record {
  todo = all;
  rest = has;
  before = [];
  parts = refl;
  given = [];
  are = tt;
  counted = refl;
  held = ap (λ (l : List EtherOption). l ++ old) (sym (take-nil (length old)));
}

pub options_more : (begun s t : OptionsState) (p : PcapngOption) (count : ℕ) (old mid new : List EtherOption)
    (c : EtherOption) → UnderWay begun s count old mid
    → OptionGives s (Some p) t → HoldsOption c (option_view p) → new ≡ set mid count c
    → UnderWay begun t (count + 1) old new
options_more begun s t p count old mid new c under gives is put all has =
    let a = under all has in
    let n = option_next a.todo s t p a.rest (gives a.todo a.rest) in
    let o = option_view p in
    let counted = a.counted in
    record {
      todo = n.later;
      rest = n.has;
      before = a.before ++ o ∷ [];
      parts = a.parts ∙ ap (λ (l : List OptionValue). a.before ++ l) n.parts
          ∙ sym (append_assoc a.before (o ∷ []) n.later);
      given = a.given ++ c ∷ [];
      are = fit-append HoldsOption a.given a.before c o a.are is;
      counted = let e = length-append a.given (c ∷ []) in omega arith;
      held = put ∙ put_next a.given old mid c count a.counted a.held;
    }

pub options_end : (begun s t : OptionsState) (count : ℕ) (old new : List EtherOption)
    → UnderWay begun s count old new → OptionGives s None t → (all : List OptionValue)
    → HasOptions (order_of begun.byte_order) begun.rest all → PutsAll all old new count
options_end begun s t count old new under gives all has =
    let a = under all has in
    let none = none_next a.todo s t (gives a.todo a.rest) in
    let whole : all ≡ a.before =
    a.parts ∙ ap (λ (l : List OptionValue). a.before ++ l) none ∙ append-nil a.before in
    record {
      given = a.given;
      are = subst (λ (l : List OptionValue). AllMatched HoldsOption a.given l) (sym whole) a.are;
      counted = a.counted ∙ fit-length HoldsOption a.given a.before a.are ∙ ap length (sym whole);
      held = a.held;
    }
