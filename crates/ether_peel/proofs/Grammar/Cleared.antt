-- Headers written back before the rest are the front of the list, but for reserved bits.
use Rattle.std.proofs.Common.{◌≡◌, ℕ, ◌+◌, ◌-◌, ◌%◌, ◌<◌, ◌≤◌, List, [], ◌∷◌, ◌++◌, length, get_or, take, drop, set, refl, sym, ap, ◌∙◌, arith, inl, inr}
use Rattle.std.specs.Prelude.{slice_range, flat_map}
use Rattle.std.proofs.Math.Seq.{take-set-lt}
use Rattle.std.proofs.lemmas.Bool.{cases_lt}
use Rattle.std.proofs.lemmas.List.{append_assoc, length-append, take-set-le, drop-set-lt, get_or-take, get_or-drop, drop-set-add}
use Rattle.etherparse.specs.Bytes.{IsBytes}
use Rattle.etherparse.specs.Header.{Header, header_len, header_bytes}
use Rattle.etherparse.specs.Header as headers
use Rattle.etherparse.proofs.SubLists.{length-part, part_join, part_of_part, IsBytes-part}
use Rattle.ether_peel.specs.Grammar.Window.{Window, within, IsIn, payload}
use Rattle.ether_peel.specs.Grammar.Expectation.{Expectation, after}
use Rattle.ether_peel.specs.Grammar.Stack.{Ending, last_window, last_expected, Stack, whole}
use Rattle.ether_peel.specs.Grammar.Cleared.{cleared_at, cleared, HeadersGoBack}
use Rattle.ether_peel.proofs.Grammar.Carrying.{Leads, leads}
use Rattle.ether_peel.proofs.Grammar.Windows.{payload_in}
use Rattle.ether_peel.proofs.Grammar.Places.{place_least, leads_after}
use Rattle.ether_peel.proofs.Grammar.HeaderBytes.{length-means, cleared_bytes, written}

-- ---- what is cleared

-- what is cleared in the list is cleared in the header's part
cleared_part : (list : List ℕ) (at : ℕ) (h : Header)
    → slice_range (cleared_at list at h) at (at + header_len h)
    ≡ cleared_bytes (slice_range list at (at + header_len h)) h
cleared_part list at (headers.Ethernet2 e) = refl
cleared_part list at (headers.Ethernet2Fcs e) = refl
cleared_part list at (headers.LinuxSll s) = refl
cleared_part list at (headers.Vlan v) = refl
cleared_part list at (headers.Arp a) = refl
cleared_part list at (headers.Macsec t) =
    let n = at + header_len (headers.Macsec t) - at in
    let long : 1 < n = omega arith in
    let x = get_or list (at + 1) 0 % 64 in
    let same : get_or (take n (drop at list)) 1 0 ≡ get_or list (at + 1) 0 =
    get_or-take n (drop at list) 1 0 long ∙ get_or-drop at list 1 0 in
    ap (take n) (drop-set-add at list 1 x) ∙ take-set-lt n (drop at list) 1 x long
    ∙ ap (λ (y : ℕ). set (take n (drop at list)) 1 (y % 64)) (sym same)

before_set : (list : List ℕ) (k i j x : ℕ) → j ≤ k → slice_range (set list k x) i j ≡ slice_range list i j
before_set list k i j x le =
    elim (cases_lt k i) [
      | inl lt ↦ let e : j - i ≡ 0 = omega arith in rw e refl
      | inr ik ↦
          let e : k ≡ i + (k - i) = omega arith in
          ap (λ (n : ℕ). take (j - i) (drop i (set list n x))) e ∙ ap (take (j - i)) (drop-set-add i list (k - i) x)
          ∙ take-set-le (j - i) (drop i list) (k - i) x (omega arith)
    ]

cleared_at_before : (list : List ℕ) (at : ℕ) (h : Header) (i j : ℕ) → j ≤ at
    → slice_range (cleared_at list at h) i j ≡ slice_range list i j
cleared_at_before list at (headers.Ethernet2 e) i j le = refl
cleared_at_before list at (headers.Ethernet2Fcs e) i j le = refl
cleared_at_before list at (headers.LinuxSll s) i j le = refl
cleared_at_before list at (headers.Vlan v) i j le = refl
cleared_at_before list at (headers.Arp a) i j le = refl
cleared_at_before list at (headers.Macsec t) i j le = before_set list (at + 1) i j _ (omega arith)

-- nothing is cleared before the first header
cleared_before : (list : List ℕ) (at : ℕ) (hs : List Header) (i j : ℕ) → j ≤ at
    → slice_range (cleared list at hs) i j ≡ slice_range list i j
cleared_before list at [] i j le = refl
cleared_before list at (h ∷ hs) i j le =
    cleared_at_before (cleared list (at + header_len h) hs) at h i j le
    ∙ cleared_before list (at + header_len h) hs i j (omega arith)

-- nor after a header
cleared_at_after : (list : List ℕ) (at : ℕ) (h : Header) (j : ℕ)
    → slice_range (cleared_at list at h) (at + header_len h) j ≡ slice_range list (at + header_len h) j
cleared_at_after list at (headers.Ethernet2 e) j = refl
cleared_at_after list at (headers.Ethernet2Fcs e) j = refl
cleared_at_after list at (headers.LinuxSll s) j = refl
cleared_at_after list at (headers.Vlan v) j = refl
cleared_at_after list at (headers.Arp a) j = refl
cleared_at_after list at (headers.Macsec t) j =
    ap (take (j - (at + header_len (headers.Macsec t))))
    (drop-set-lt (at + header_len (headers.Macsec t)) list (at + 1) _ (omega arith))

-- ---- all headers

-- there are as many bytes of headers as between the first window's start and the later one's
pub length-headers : (list : List ℕ) (x : Expectation) (w : Window) (hs : List Header) (y : Expectation) (v : Window)
    → IsBytes list → Leads list x w hs y v → w.start + length (flat_map header_bytes hs) ≡ v.start
length-headers list x w [] y v ok l = let e : v.start ≡ w.start = ap (λ (u : Window). u.start) l.1 in omega arith
length-headers list x w (h ∷ hs) y v ok l =
    let a = length-means (within list w) h (IsBytes-part w.start w.finish list ok) l.0.means in
    let b = length-headers list (after x h) (payload w h) hs y v ok l.1 in
    omega (arith, length-append (header_bytes h) (flat_map header_bytes hs))

-- of a stack: between the window's start and the last window's
pub length-stack_headers : (list : List ℕ) (x : Expectation) (w : Window) (hs : List Header) (e : Ending) → IsBytes list
    → Stack list x w hs e → w.start + length (flat_map header_bytes hs) ≡ (last_window e).start
length-stack_headers list x w hs e ok s =
    length-headers list x w hs (last_expected e) (last_window e) ok (leads list x w hs e s).0

headers_back : (list : List ℕ) (x : Expectation) (w : Window) (hs : List Header) (y : Expectation) (v : Window)
    → IsBytes list → IsIn list w → Leads list x w hs y v
    → flat_map header_bytes hs ++ within list v ≡ slice_range (cleared list w.start hs) w.start v.finish
headers_back list x w [] y v ok at l = ap (λ (s : ℕ). slice_range list s v.finish) (ap (λ (u : Window). u.start) l.1)
headers_back list x w (h ∷ hs) y v ok at l =
    let n = header_len h in
    let bytes = within list w in
    let next = payload_in list x w h at l.0 in
    let rest = headers_back list (after x h) (payload w h) hs y v ok next l.1 in
    let following = leads_after list (after x h) (payload w h) hs y v next l.1 in
    let least = place_least (w.start + n) hs in
    let start = following.start in
    let ends = following.ordered in
    let order : w.start + n ≤ v.finish = omega arith in
    let len = length-part list w.start w.finish at.inside in
    let ordered = at.ordered in
    let fits = l.0.means.whole in
    let c = cleared list (w.start + n) hs in
    let zero_more : w.start + 0 ≡ w.start = omega arith in
    let same : slice_range c w.start (w.start + n) ≡ slice_range bytes 0 n =
    cleared_before list (w.start + n) hs w.start (w.start + n) (omega arith)
    ∙ ap (λ (s : ℕ). slice_range list s (w.start + n)) (sym zero_more)
    ∙ sym (part_of_part list w.start w.finish 0 n (omega arith) (omega arith)) in
    let first : slice_range (cleared_at c w.start h) w.start (w.start + n) ≡ header_bytes h =
    cleared_part c w.start h ∙ ap (λ (b : List ℕ). cleared_bytes b h) same
    ∙ written w.bound bytes h (IsBytes-part w.start w.finish list ok) l.0.accepted l.0.means in
    append_assoc (header_bytes h) (flat_map header_bytes hs) (within list v)
    ∙ ap (λ (b : List ℕ). header_bytes h ++ b) (rest ∙ sym (cleared_at_after c w.start h v.finish))
    ∙ ap (λ (b : List ℕ). b ++ slice_range (cleared_at c w.start h) (w.start + n) v.finish) (sym first)
    ∙ part_join (cleared_at c w.start h) w.start (w.start + n) v.finish (omega arith) order

pub whole_in : (start : Expectation) (list : List ℕ) → IsIn list (whole start list)
whole_in start list = record { ordered = omega arith; inside = omega arith }

pub headers_go_back : HeadersGoBack
headers_go_back start list hs e ok s =
    let v = last_window e in
    let zero : v.finish - 0 ≡ v.finish = omega arith in
    headers_back list start (whole start list) hs (last_expected e) v ok (whole_in start list)
    (leads list start (whole start list) hs e s).0
    ∙ ap (λ (n : ℕ). take n (cleared list 0 hs)) zero
