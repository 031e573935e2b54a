-- Windows: a payload's window by the place where it begins, and its place in the window around it and in the list.
use Rattle.std.proofs.Common.{ℕ, ◌+◌, ◌-◌, ◌≤◌, List, length, arith, Bool, ◌||◌}
use Rattle.std.specs.Prelude.{Option, Some, None, unwrap_or, option_map, is_some, if◌then◌else◌}
use Rattle.etherparse.specs.Types.LenSource.{LenSource}
use Rattle.etherparse.specs.Types.LenSource.TheVariants as sources
use Rattle.etherparse.specs.Header.{Header, header_len, payload_len, trailer_len}
use Rattle.etherparse.specs.Header as headers
use Rattle.etherparse.proofs.SubLists.{length-part, length-part-is}
use Rattle.etherparse.proofs.Means.{unit_fits}
use Rattle.ether_peel.specs.Grammar.Window.{Window, within, IsIn, payload}
use Rattle.ether_peel.specs.Grammar.Expectation.{Expectation}
use Rattle.ether_peel.specs.Grammar.Stack.{IsUnit}

-- ---- the payload's window by its parts, for any place where it begins and any length that is known

abbrev pub payload_finish : ℕ → ℕ → ℕ → Option ℕ → ℕ
payload_finish start trailer finish known = unwrap_or (option_map (λ n. start + n) known) (finish - trailer)

abbrev pub payload_closed : Bool → Option ℕ → Bool
payload_closed closed known = is_some known || closed

abbrev pub payload_bound : LenSource → Option ℕ → LenSource
payload_bound bound known = if is_some known then sources.MacsecShortLength else bound

abbrev pub payload_from : ℕ → ℕ → Option ℕ → Window → Window
payload_from start trailer known w = record {
  start = start;
  finish = payload_finish start trailer w.finish known;
  closed = payload_closed w.closed known;
  bound = payload_bound w.bound known;
}

-- ---- where it lies

pub payload_from_in : (list : List ℕ) (w : Window) (n trailer : ℕ) (o : Option ℕ) → IsIn list w
    → n + unwrap_or o 0 + trailer ≤ length (within list w) → IsIn list (payload_from (w.start + n) trailer o w)
payload_from_in list w n trailer None at fits =
    let len = length-part list w.start w.finish at.inside in
    let a = at.ordered in
    let b = at.inside in
    record { ordered = omega arith; inside = omega arith }
payload_from_in list w n trailer (Some p) at fits =
    let len = length-part list w.start w.finish at.inside in
    let a = at.ordered in
    let b = at.inside in
    record { ordered = omega arith; inside = omega arith }

-- a payload lies in the list
pub payload_in : (list : List ℕ) (x : Expectation) (w : Window) (h : Header) → IsIn list w → IsUnit list x w h
    → IsIn list (payload w h)
payload_in list x w h at u =
    payload_from_in list w (header_len h) (trailer_len h) (payload_len h)
    at (unit_fits w.bound (within list w) h u.accepted u.means)

payload_finish_in : (list : List ℕ) (w : Window) (n trailer : ℕ) (o : Option ℕ) → IsIn list w
    → n + unwrap_or o 0 + trailer ≤ length (within list w) → payload_finish (w.start + n) trailer w.finish o ≤ w.finish
payload_finish_in list w n trailer None at fits = omega arith
payload_finish_in list w n trailer (Some p) at fits =
    let len = length-part list w.start w.finish at.inside in
    let a = at.ordered in
    omega arith

-- a payload ends in its window
pub payload_narrows : (list : List ℕ) (x : Expectation) (w : Window) (h : Header) → IsIn list w → IsUnit list x w h
    → (payload w h).finish ≤ w.finish
payload_narrows list x w h at u =
    payload_finish_in list w (header_len h) (trailer_len h) (payload_len h)
    at (unit_fits w.bound (within list w) h u.accepted u.means)

-- the payload's window lies in the bytes in which its unit fits
pub finish_inside : (o : Option ℕ) (n whole : ℕ) → n + unwrap_or o 0 + 0 ≤ whole
    → (n ≤ payload_finish n 0 whole o) × (payload_finish n 0 whole o ≤ whole)
finish_inside None n whole fits = (omega arith, omega arith)
finish_inside (Some p) n whole fits = (omega arith, omega arith)

pub header_least : (h : Header) → 4 ≤ header_len h
header_least (headers.Ethernet2 e) = omega arith
header_least (headers.Ethernet2Fcs e) = omega arith
header_least (headers.LinuxSll s) = omega arith
header_least (headers.Vlan v) = omega arith
header_least (headers.Macsec t) = omega arith
header_least (headers.Arp a) = omega arith

shrinks_from : (list : List ℕ) (w : Window) (n trailer : ℕ) (o : Option ℕ) → 4 ≤ n
    → n + unwrap_or o 0 + trailer ≤ length (within list w)
    → length (within list (payload_from (w.start + n) trailer o w)) + 4 ≤ length (within list w)
shrinks_from list w n trailer None least fits =
    let a = length-part-is list w.start w.finish in
    let b = length-part-is list (w.start + n) (w.finish - trailer) in
    omega arith
shrinks_from list w n trailer (Some p) least fits =
    let a = length-part-is list w.start w.finish in
    let b = length-part-is list (w.start + n) (w.start + n + p) in
    omega arith

-- a payload is shorter than its window
pub shrinks : (list : List ℕ) (x : Expectation) (w : Window) (h : Header) → IsUnit list x w h
    → length (within list (payload w h)) + 4 ≤ length (within list w)
shrinks list x w h u =
    shrinks_from list w (header_len h) (trailer_len h) (payload_len h) (header_least h)
    (unit_fits w.bound (within list w) h u.accepted u.means)
