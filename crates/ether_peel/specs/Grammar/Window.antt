-- Windows: parts of a whole list.
use Rattle.std.specs.Prelude.{ℕ, ◌+◌, ◌-◌, ◌≤◌, List, length, slice_range, unwrap_or, option_map, is_some, Bool, ◌||◌, if◌then◌else◌}
use Rattle.etherparse.specs.Types.LenSource.{LenSource}
use Rattle.etherparse.specs.Types.LenSource.TheVariants as sources
use Rattle.etherparse.specs.Header.{Header, header_len, payload_len, trailer_len}

-- From a start up to an end, which is not in it. Further bytes after the list belong to it only if it is open. Its
-- bound is what named its end: the list itself, or the short length of a SecTag around it.
pub record Window : Type 0 where
  pub start : ℕ
  pub finish : ℕ
  pub closed : Bool
  pub bound : LenSource

-- the window's bytes
abbrev pub within : List ℕ → Window → List ℕ
within list w = slice_range list w.start w.finish

pub record IsIn (list : List ℕ) (w : Window) : Type 0 where
  pub ordered : w.start ≤ w.finish
  pub inside : w.finish ≤ length list

-- The window of the payload after a header at the window's start. If the header names the payload's length, it ends
-- after that many bytes, is closed and is bounded by the short length; if not, it ends before the trailer, and is
-- closed and bounded as the window is.
abbrev pub payload : Window → Header → Window
payload w h = let start = w.start + header_len h in record {
  start = start;
  finish = unwrap_or (option_map (λ n. start + n) (payload_len h)) (w.finish - trailer_len h);
  closed = is_some (payload_len h) || w.closed;
  bound = if is_some (payload_len h) then sources.MacsecShortLength else w.bound;
}
