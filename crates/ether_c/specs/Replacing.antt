-- Headers replaced in place, by calls from C.
use Rattle.std.specs.Prelude.{◌≡◌, ℕ, List, Option, Result, IfOk, IfErr}
use Rattle.etherparse.specs.Header.{Header}
use Rattle.ether_peel.specs.Grammar.Expectation.{Expectation}
use Rattle.ether_peel.specs.Grammar.Stack.{Ending, Walk}
use Rattle.ether_peel.specs.Walker.Start.{start_with}
use Rattle.ether_peel.specs.declared.start.Start.{Start}
use Rattle.ether_packet.specs.declared.difference.Difference.{Difference}
use Rattle.ether_packet.specs.declared.difference.Difference.TheVariants as differences
use Rattle.ether_packet.specs.declared.replace_error.ReplaceError.{ReplaceError}
use Rattle.ether_packet.specs.declared.replace_error.ReplaceError.TheVariants as errors
use Rattle.ether_packet.specs.Replacing.{ReplacesExt, RefusesExt}
use Rattle.ether_packet.specs.ReplacingLink.{ReplacesLink, RefusesLink}
use Rattle.ether_packet.specs.ReplacingArp.{ReplacesArp, RefusesArp}
use Rattle.ether_c.specs.declared.ether_replace_error.EtherReplaceError.{EtherReplaceError}
use Rattle.ether_c.specs.declared.ether_unit.EtherUnit.{EtherUnit}
use Rattle.ether_c.specs.Numbers.{done}
use Rattle.ether_c.specs.Passed.{PassesLink, PassesNoLink, PassesExt, PassesNoExt, PassesArp, PassesNoArp}

-- ---- refusals

-- the differences between headers, in the order of enum etherpeel_difference; 0 if there is none
abbrev pub difference_number : Difference → ℕ
difference_number differences.Kind = 1
difference_number differences.EtherType = 2
difference_number differences.HardwareType = 3
difference_number differences.ProtocolType = 4
difference_number differences.PayloadType = 5
difference_number differences.ShortLen = 6
difference_number differences.Sci = 7
difference_number differences.HwAddrLen = 8
difference_number differences.ProtocolAddrLen = 9

abbrev pub replace_error_status : ReplaceError → ℕ
replace_error_status errors.NoLink = 5
replace_error_status (errors.NoLinkExt count) = 7
replace_error_status errors.NoArp = 16
replace_error_status (errors.SaysOther difference) = 17

abbrev pub c_replace_error : ReplaceError → EtherReplaceError
c_replace_error errors.NoLink = record { tags = 0; difference = 0 }
c_replace_error (errors.NoLinkExt count) = record { tags = count; difference = 0 }
c_replace_error errors.NoArp = record { tags = 0; difference = 0 }
c_replace_error (errors.SaysOther difference) = record { tags = 0; difference = difference_number difference }

-- The header in the list is replaced, or the list is unchanged and the error says why.
pub record GivesReplaced (Replaces : (new : List ℕ) → Type 0) (Refuses : ReplaceError → Type 0) (old new : List ℕ)
    (error_old error_new : EtherReplaceError) (status : ℕ) : Type 0 where
  pub replaced : Result (Unit {0}) ReplaceError
  pub ok : IfOk replaced (λ _. Replaces new)
  pub refused : IfErr replaced Refuses
  pub kept : IfErr replaced (λ _. new ≡ old)
  pub kept_error : IfOk replaced (λ _. error_new ≡ error_old)
  pub given : IfErr replaced (λ e. error_new ≡ c_replace_error e)
  pub status_done : IfOk replaced (λ _. status ≡ done)
  pub status_error : IfErr replaced (λ e. status ≡ replace_error_status e)

-- ---- calls

-- The unit is a header, and the call does this with it; or it is not, and the call says why and writes nothing.
pub data OfPassed {H : Type 0} (Is : H → Type 0) (IsNone : (status : ℕ) → Type 0) (Does : H → Type 0) (Kept : Type 0)
    (status : ℕ) : Type 0 where
  passed : (h : H) → Is h → Does h → OfPassed Is IsNone Does Kept status
  none : IsNone status → Kept → OfPassed Is IsNone Does Kept status

-- for any limit on tags
abbrev pub GivesReplaceLink : Start → EtherUnit → (old new : List ℕ)
    → (error_old error_new : EtherReplaceError) → (status : ℕ) → Type 0
GivesReplaceLink start u old new error_old error_new status =
    OfPassed (PassesLink u) (PassesNoLink u) (λ g. GivesReplaced
    (λ n. (limit : Option ℕ) (hs : List Header) (e : Ending)
    → Walk (start_with start limit) old hs e → ReplacesLink (start_with start limit) old hs e g n)
    (λ error. (limit : Option ℕ) (hs : List Header) (e : Ending)
    → Walk (start_with start limit) old hs e → RefusesLink hs g error)
    old new error_old error_new status)
    ((new ≡ old) × (error_new ≡ error_old)) status

abbrev pub GivesReplaceExt : (start : Expectation) (index : ℕ) → EtherUnit → (old new : List ℕ)
    → (error_old error_new : EtherReplaceError) → (status : ℕ) → Type 0
GivesReplaceExt start index u old new error_old error_new status =
    OfPassed (PassesExt u) (PassesNoExt u) (λ g. GivesReplaced
    (λ n. (hs : List Header) (e : Ending) → Walk start old hs e → ReplacesExt start old hs e index g n)
    (λ error. (hs : List Header) (e : Ending) → Walk start old hs e → RefusesExt hs index g error)
    old new error_old error_new status)
    ((new ≡ old) × (error_new ≡ error_old)) status

abbrev pub GivesReplaceArp : (start : Expectation) → EtherUnit → (bytes : List ℕ) → (old new : List ℕ)
    → (error_old error_new : EtherReplaceError) → (status : ℕ) → Type 0
GivesReplaceArp start u bytes old new error_old error_new status =
    OfPassed (PassesArp u bytes) (PassesNoArp u bytes) (λ g. GivesReplaced
    (λ n. (hs : List Header) (e : Ending) → Walk start old hs e → ReplacesArp start old hs e g n)
    (λ error. (hs : List Header) (e : Ending) → Walk start old hs e → RefusesArp hs g error)
    old new error_old error_new status)
    ((new ≡ old) × (error_new ≡ error_old)) status
