-- The bytes of the headers of a walk are the front of the list.
use Rattle.std.proofs.Common.{false, ◌≡◌, ℕ, ◌+◌, ◌-◌, ◌≤◌, List, [], ◌∷◌, ◌++◌, take, drop, sym, ap, ap₂, ◌∙◌, arith}
use Rattle.std.proofs.lemmas.Bool.{or_parts, true≢false}
use Rattle.std.specs.List.{flat_map, list_any}
use Rattle.std.specs.Prelude.{slice_range}
use Rattle.etherparse.specs.Bytes.{IsBytes}
use Rattle.etherparse.specs.Header.{Header, header_len}
use Rattle.etherparse.specs.Header as headers
use Rattle.etherparse.proofs.SubLists.{part_of_part, part_join, IsBytes-part}
use Rattle.ether_peel.specs.Grammar.Window.{Window, IsIn, within, payload}
use Rattle.ether_peel.specs.Grammar.Expectation.{Expectation, after}
use Rattle.ether_peel.specs.Grammar.Stack.{Stack, Ending, Accepted, IsUnit, last_window}
use Rattle.ether_peel.specs.Grammar.Stack as endings
use Rattle.ether_peel.proofs.Grammar.HeaderBytes.{means_fits, written}
use Rattle.ether_peel.proofs.Grammar.Windows.{payload_in, payload_narrows}
use Rattle.ether_format.specs.Told.{Told, told_in, told_stack}
use Rattle.ether_make.specs.FrameLaws.{IsRemade, is_sec_tag}
use Rattle.ether_make.proofs.JsonFits.{Each}
use Rattle.ether_make.proofs.FramesBack.{IsMade}

module _ (at : ℕ) (list : List ℕ) (ok : IsBytes list) where
  -- headers of these kinds have their ranges
  one_made : (w : Window) (h : Header) (x : Expectation) → IsRemade (told_in at list w h) → IsUnit list x w h
      → IsMade (told_in at list w h)
  one_made w (headers.Ethernet2 e) x kind u =
      means_fits (within list w) (headers.Ethernet2 e) (IsBytes-part w.start w.finish list ok) u.means
  one_made w (headers.Vlan v) x kind u =
      means_fits (within list w) (headers.Vlan v) (IsBytes-part w.start w.finish list ok) u.means
  one_made w (headers.Macsec t) x kind u =
      means_fits (within list w) (headers.Macsec t) (IsBytes-part w.start w.finish list ok) u.means
  one_made w (headers.Arp a) x kind u =
      means_fits (within list w) (headers.Arp a) (IsBytes-part w.start w.finish list ok) u.means
  one_made w (headers.Ethernet2Fcs e) x kind u = absurd kind
  one_made w (headers.LinuxSll s) x kind u = absurd kind

  pub all_made : (x : Expectation) (w : Window) (hs : List Header) (e : Ending)
      → Each IsRemade (told_stack at list w hs) → Stack list x w hs e → Each IsMade (told_stack at list w hs)
  all_made x w [] e kinds s = tt
  all_made x w (h ∷ hs) e kinds s =
      (one_made w h x kinds.0 s.0, all_made (after x h) (payload w h) hs e kinds.1 s.1)

  -- without a SecTag a header has the bytes at its start
  pub one_bytes : (w : Window) (h : Header) (x : Expectation) → IsIn list w → is_sec_tag (told_in at list w h) ≡ false
      → IsUnit list x w h
      → slice_range (within list w) 0 (header_len h) ≡ headers.header_bytes h
  one_bytes w (headers.Ethernet2 e) x inside plain u =
      written w.bound (within list w) (headers.Ethernet2 e) (IsBytes-part w.start w.finish list ok) u.accepted u.means
  one_bytes w (headers.Ethernet2Fcs e) x inside plain u =
      written w.bound (within list w) (headers.Ethernet2Fcs e)
      (IsBytes-part w.start w.finish list ok) u.accepted u.means
  one_bytes w (headers.LinuxSll s) x inside plain u =
      written w.bound (within list w) (headers.LinuxSll s) (IsBytes-part w.start w.finish list ok) u.accepted u.means
  one_bytes w (headers.Vlan v) x inside plain u =
      written w.bound (within list w) (headers.Vlan v) (IsBytes-part w.start w.finish list ok) u.accepted u.means
  one_bytes w (headers.Macsec t) x inside plain u = absurd (true≢false plain)
  one_bytes w (headers.Arp a) x inside plain u =
      written w.bound (within list w) (headers.Arp a) (IsBytes-part w.start w.finish list ok) u.accepted u.means

-- ---- headers one after another

module _ (at : ℕ) (list : List ℕ) (g : Told → List ℕ) (P : Told → Type 0)
    (one : (w : Window) (h : Header) (x : Expectation) → IsIn list w → P (told_in at list w h) → IsUnit list x w h
    → slice_range (within list w) 0 (header_len h) ≡ g (told_in at list w h)) where
  -- the bytes from a window's start to the start of the last one
  pub record Remade (w : Window) (hs : List Header) (e : Ending) : Type 0 where
    pub bytes : flat_map g (told_stack at list w hs) ≡ slice_range list w.start (last_window e).start
    pub ordered : w.start ≤ (last_window e).start
    pub inside : (last_window e).start ≤ w.finish

  none_left : (i j : ℕ) → j ≡ i → slice_range list i j ≡ []
  none_left i j e = let zero_left : j - i ≡ 0 = omega arith in ap (λ k. take k (drop i list)) zero_left

  same_window : (w v : Window) (e : Ending) → IsIn list w → (last_window e).start ≡ w.start → Remade w [] e
  same_window w v e inside same = record {
    bytes = sym (none_left w.start (last_window e).start same);
    ordered = omega (arith, same);
    inside = omega (arith, same, inside.ordered);
  }

  pub remade : (x : Expectation) (w : Window) (hs : List Header) (e : Ending) → IsIn list w
      → Each P (told_stack at list w hs) → Stack list x w hs e → Remade w hs e
  remade x w [] (Accepted v y) inside each s = same_window w v (Accepted v y) inside (ap (λ (u : Window). u.start) s.0)
  remade x w [] (endings.Fault v y r) inside each s =
      same_window w v (endings.Fault v y r) inside (ap (λ (u : Window). u.start) s.0)
  remade x w (h ∷ hs) e inside each s =
      let inner = payload_in list x w h inside s.0 in
      let narrow = payload_narrows list x w h inside s.0 in
      let more = remade (after x h) (payload w h) hs e inner each.1 s.1 in
      let zero_more : w.start + 0 ≡ w.start = omega arith in
      let fits : w.start + header_len h ≤ w.finish = omega (arith, inner.ordered, narrow) in
      let here : slice_range list w.start (w.start + header_len h) ≡ g (told_in at list w h) =
      ap (λ i. slice_range list i (w.start + header_len h)) (sym zero_more)
      ∙ sym (part_of_part list w.start w.finish 0 (header_len h) (omega arith) fits) ∙ one w h x inside each.0 s.0 in
      record {
        bytes = ap₂ (λ (a b : List ℕ). a ++ b) (sym here) more.bytes
            ∙ part_join list w.start (w.start + header_len h) (last_window e).start (omega arith) more.ordered;
        ordered = omega (arith, more.ordered);
        inside = omega (arith, more.inside, narrow);
      }

-- ---- headers without a SecTag

abbrev pub IsNoTag : Told → Type 0
IsNoTag h = is_sec_tag h ≡ false

pub no_tags : (hs : List Told) → list_any is_sec_tag hs ≡ false → Each IsNoTag hs
no_tags [] plain = tt
no_tags (h ∷ hs) plain = let none = or_parts (is_sec_tag h) _ plain in (none.0, no_tags hs none.1)
