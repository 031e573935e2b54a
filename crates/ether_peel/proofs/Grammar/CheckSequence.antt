-- The frame check sequence of a frame that is accepted with one.
use Rattle.std.proofs.Common.{◌≡◌, ℕ, ◌+◌, ◌-◌, ◌≤◌, List, length, ap, ◌∙◌, arith, inl, inr}
use Rattle.std.specs.Prelude.{slice_range}
use Rattle.std.proofs.lemmas.Bool.{cases_lt}
use Rattle.etherparse.specs.Kind as kinds
use Rattle.etherparse.specs.Refusal.{Accepts}
use Rattle.etherparse.specs.Refusal as rows
use Rattle.etherparse.proofs.SubLists.{length-part, part_of_part}
use Rattle.ether_peel.specs.Grammar.Window.{Window, within, IsIn}

-- the last four bytes of its window
pub fcs_of_window : (list : List ℕ) (w : Window) → IsIn list w → Accepts w.bound (within list w) kinds.Ethernet2Fcs
    → slice_range (within list w) (length (within list w) - 4) (length (within list w))
    ≡ slice_range list (w.finish - 4) w.finish
fcs_of_window list w inside accepted =
    let n = length (within list w) in
    let ordered = inside.ordered in
    let len : n ≡ w.finish - w.start = length-part list w.start w.finish inside.inside in
    let long : 18 ≤ n = elim (cases_lt n 18) [ inl lt ↦ absurd (accepted _ (rows.ethernet2_fcs lt)) | inr le ↦ le ] in
    let from : w.start + (n - 4) ≡ w.finish - 4 = omega arith in
    let to : w.start + n ≡ w.finish = omega arith in
    part_of_part list w.start w.finish (n - 4) n (omega arith) (omega arith)
    ∙ ap (λ (k : ℕ). slice_range list k (w.start + n)) from ∙ ap (slice_range list (w.finish - 4)) to
