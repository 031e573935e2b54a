-- What the calls about filters do.
use Rattle.std.specs.Prelude.{◌≡◌, ◌⊎◌, ℕ, List, take, true, false, Some, None, Result, IfOk, IfErr}
use Rattle.etherparse.specs.Header.{Header}
use Rattle.ether_peel.specs.Grammar.Stack.{Ending, Walk}
use Rattle.ether_peel.specs.Walker.Start.{start_of}
use Rattle.ether_filter.specs.Expressions.{Expression}
use Rattle.ether_filter.specs.Deciding.{Says}
use Rattle.ether_filter.specs.declared.decision.Decision.{Decision}
use Rattle.ether_filter.specs.declared.decision.Decision.TheVariants as decisions
use Rattle.ether_filter.specs.declared.packet.Packet.{Packet}
use Rattle.ether_filter.specs.FilterProgram.{IsProgramOf}
use Rattle.ether_filter.specs.Texts.{IsExpressionOf}
use Rattle.ether_filter.specs.Refusals.{RefusesText}
use Rattle.ether_filter.specs.ErrorTexts.{filter_error_text}
use Rattle.ether_filter.specs.declared.filter_error.FilterError.{FilterError}
use Rattle.ether_filter.specs.declared.filter_error.FilterErrorKind.{FilterErrorKind}
use Rattle.ether_filter.specs.declared.filter_error.FilterErrorKind.TheVariants as kinds
use Rattle.ether_c.specs.declared.ether_captured.EtherCaptured.{EtherCaptured}
use Rattle.ether_c.specs.declared.filter.EtherFilter.{EtherFilter}
use Rattle.ether_c.specs.declared.ether_filter_error.EtherFilterError.{EtherFilterError}
use Rattle.ether_c.specs.Numbers.{done, no_text}
use Rattle.ether_c.specs.Calls.{PutsBytes}
use Rattle.ether_c.specs.Puts.{PutsEach}
use Rattle.ether_c.specs.Selection.{IsMark, decision_number}

-- ---- refusals

abbrev pub bad_filter : ℕ
bad_filter = 14

-- what is expected, or why a word does not fit, in the order of enum etherpeel_filter_error_kind
abbrev pub filter_error_number : FilterErrorKind → ℕ
filter_error_number kinds.ExpectedOperand = 1
filter_error_number kinds.ExpectedOperator = 2
filter_error_number kinds.ExpectedVlan = 3
filter_error_number kinds.ExpectedEtherWord = 4
filter_error_number kinds.ExpectedAddress = 5
filter_error_number (kinds.ExpectedNumber most) = 6
filter_error_number kinds.MixedOperators = 7
filter_error_number kinds.Unopened = 8
filter_error_number kinds.Unclosed = 9
filter_error_number kinds.TooLong = 10
filter_error_number kinds.ExpectedVlanIdOrOperator = 11
filter_error_number kinds.ExpectedRelation = 12
filter_error_number kinds.ExpectedRelationOrOperator = 13
filter_error_number (kinds.ExpectedBytes len) = 14
filter_error_number kinds.ExpectedAnyBytes = 15
filter_error_number kinds.ExpectedSet = 16
filter_error_number kinds.ExpectedSetEnd = 17
filter_error_number kinds.ExpectedTime = 18
filter_error_number kinds.ExpectedHeader = 19

-- the greatest number that is expected, or the number of bytes; 0 if neither is
abbrev pub greatest_expected : FilterErrorKind → ℕ
greatest_expected (kinds.ExpectedNumber most) = most
greatest_expected kinds.ExpectedVlanIdOrOperator = 4095
greatest_expected (kinds.ExpectedBytes len) = len
greatest_expected _ = 0

abbrev pub c_filter_error : FilterError → EtherFilterError
c_filter_error e = record {
  offset = e.offset;
  kind = filter_error_number e.kind;
  greatest = greatest_expected e.kind;
}

-- ---- selection

-- the array gets a mark for each packet
abbrev pub PutsMarks : Expression → (packets : List EtherCaptured) → (old new : List ℕ) → (status : ℕ) → Type 0
PutsMarks x packets old new status = PutsEach (IsMark x) packets old new status

-- the text means an expression, which selects packets; or it does not, and no mark is written
pub record GivesSelection (text : List ℕ) (packets : List EtherCaptured) (old new : List ℕ)
    (error_old error_new : EtherFilterError) (status : ℕ) : Type 0 where
  pub parsed : Result Expression FilterError
  pub ok : IfOk parsed (λ x. IsExpressionOf text x × PutsMarks x packets old new status × (error_new ≡ error_old))
  pub refused : IfErr parsed (λ e. RefusesText text e
      × (new ≡ old) × (error_new ≡ c_filter_error e) × (status ≡ bad_filter))

-- ---- filters in memory of the caller

-- the instructions of the filter are those of an expression
abbrev pub IsFilterOf : EtherFilter → Expression → Type 0
IsFilterOf filter x = IsProgramOf (take filter.len filter.instructions) x

-- the text means an expression, and the filter becomes that of it; or it does not, and the filter is unchanged
pub record GivesFilter (text : List ℕ) (old new : EtherFilter) (error_old error_new : EtherFilterError)
    (status : ℕ) : Type 0 where
  pub parsed : Result Expression FilterError
  pub ok : IfOk parsed (λ x. IsExpressionOf text x × IsFilterOf new x × (error_new ≡ error_old) × (status ≡ done))
  pub refused : IfErr parsed (λ e. RefusesText text e
      × (new ≡ old) × (error_new ≡ c_filter_error e) × (status ≡ bad_filter))

-- ---- frames

-- the number of what an expression decides for a frame
abbrev pub decided_number : Decision → ℕ
decided_number decisions.Fails = decision_number (Some false)
decided_number decisions.Matches = decision_number (Some true)
decided_number (decisions.Needs n) = decision_number None

-- the length that it needs; 0 if the frame decides
abbrev pub needed_len : Decision → ℕ
needed_len (decisions.Needs n) = n
needed_len _ = 0

pub record GivesDecision (x : Expression) (p : Packet) (number needed status : ℕ) : Type 0 where
  pub decision : Decision
  pub says : (hs : List Header) (e : Ending) → Walk (start_of p.start) p.frame.now hs e → Says p hs e x decision
  pub number_is : number ≡ decided_number decision
  pub needed_is : needed ≡ needed_len decision
  pub status_is : status ≡ done

-- ---- texts

-- The text of an error is written to the target; or no text can be made, which no contract rules out.
abbrev pub PutsFilterText : FilterError → (old new : List ℕ) → (status len : ℕ) → Type 0
PutsFilterText e old new status len =
    PutsBytes (filter_error_text e) old new status len
    ⊎ ((status ≡ no_text) × (len ≡ 0) × (new ≡ old))

-- no text if the filter's text means an expression
pub record GivesFilterText (text old new : List ℕ) (status len : ℕ) : Type 0 where
  pub parsed : Result Expression FilterError
  pub ok : IfOk parsed (λ x. IsExpressionOf text x × (status ≡ done) × (len ≡ 0) × (new ≡ old))
  pub refused : IfErr parsed (λ e. RefusesText text e × PutsFilterText e old new status len)
