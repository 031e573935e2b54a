-- The headers of a walk, with their reserved bits, are the front of the list.
use Rattle.std.proofs.Common.{◌≡◌, ℕ, ◌+◌, ◌-◌, ◌/◌, ◌^◌, ◌<◌, ◌≤◌, List, [], ◌∷◌, length, get_or, drop, sym, ap, ◌∙◌, arith}
use Rattle.std.proofs.lemmas.List.{get_or-drop, get_or-take}
use Rattle.std.specs.Prelude.{slice_range}
use Rattle.etherparse.specs.Bytes.{IsBytes}
use Rattle.etherparse.specs.Header.{Header, header_len, FitsHeader}
use Rattle.etherparse.specs.Header as headers
use Rattle.etherparse.specs.Macsec.{SecTagValue}
use Rattle.etherparse.proofs.SubLists.{IsBytes-part, length-part}
use Rattle.ether_peel.specs.Grammar.Window.{Window, IsIn, within, payload}
use Rattle.ether_peel.specs.Grammar.Expectation.{Expectation, after}
use Rattle.ether_peel.specs.Grammar.Stack.{Stack, Ending, IsUnit}
use Rattle.ether_peel.proofs.Grammar.HeaderBytes.{means_fits, written}
use Rattle.ether_format.specs.JsonBytes.{told_reserved}
use Rattle.ether_format.specs.Told.{Told, Walked, CookedV2, told_in, told_stack}
use Rattle.ether_make.specs.FrameLaws.{IsExact}
use Rattle.ether_make.proofs.ExactTags.{exact_tag}
use Rattle.ether_make.proofs.JsonFits.{Each}
use Rattle.ether_make.proofs.SecTagBack.{reserved_tag_bytes}

-- the bytes of a header of a packet, with its reserved bits
abbrev pub exact_bytes : (packet : List ℕ) → Told → List ℕ
exact_bytes packet (Walked place (headers.Macsec t) fcs) =
    reserved_tag_bytes (told_reserved packet (Walked place (headers.Macsec t) fcs)) t
exact_bytes packet (Walked place h fcs) = headers.header_bytes h
exact_bytes packet (CookedV2 place s) = []

-- its numbers are in their ranges
abbrev pub FitsExact : Told → Type 0
FitsExact (Walked place h fcs) = IsExact (Walked place h fcs) × FitsHeader h
FitsExact (CookedV2 place s) = IsExact (CookedV2 place s)

module _ (packet list : List ℕ) (ok : IsBytes list)
    (same : (i : ℕ) → i < length list → get_or packet i 0 ≡ get_or list i 0) where
  -- the second byte of a window of a header
  second : (w : Window) (n : ℕ) → IsIn list w → 1 < n → n ≤ length (within list w)
      → get_or (drop (0 + w.start) packet) 1 0 ≡ get_or (slice_range (within list w) 0 n) 1 0
  second w n inside big le =
      let len = length-part list w.start w.finish inside.inside in
      let at : 0 + w.start + 1 ≡ w.start + 1 = omega arith in
      let few : 1 < n - 0 = omega (arith, big) in
      let long : 1 < w.finish - w.start = omega (arith, len, big, le) in
      let here : w.start + 1 < length list = omega (arith, len, big, le, inside.inside, inside.ordered) in
      get_or-drop (0 + w.start) packet 1 0 ∙ ap (λ i. get_or packet i 0) at ∙ same (w.start + 1) here
      ∙ sym (get_or-drop w.start list 1 0) ∙ sym (get_or-take (w.finish - w.start) (drop w.start list) 1 0 long)
      ∙ sym (get_or-take (n - 0) (within list w) 1 0 few)

  tag_bytes : (w : Window) (t : SecTagValue) (x : Expectation) → IsIn list w → IsUnit list x w (headers.Macsec t)
      → slice_range (within list w) 0 (header_len (headers.Macsec t))
      ≡ exact_bytes packet (told_in 0 list w (headers.Macsec t))
  tag_bytes w t x inside u =
      let h = headers.Macsec t in
      let n = header_len h in
      let bytes = within list w in
      let few = IsBytes-part w.start w.finish list ok in
      let fits = means_fits bytes h few u.means in
      let len = length-part bytes 0 n u.means.whole in
      sym (exact_tag (slice_range bytes 0 n) t (told_reserved packet (told_in 0 list w h)) fits
      (IsBytes-part 0 n bytes few) (omega (arith, len))
      (written w.bound bytes h few u.accepted u.means)
      (ap (λ b. b / 2 ^ 6) (second w n inside (omega arith) u.means.whole)))

  pub one_exact : (w : Window) (h : Header) (x : Expectation) → IsIn list w → IsExact (told_in 0 list w h)
      → IsUnit list x w h
      → slice_range (within list w) 0 (header_len h) ≡ exact_bytes packet (told_in 0 list w h)
  one_exact w (headers.Ethernet2 e) x inside kind u =
      written w.bound (within list w) (headers.Ethernet2 e) (IsBytes-part w.start w.finish list ok) u.accepted u.means
  one_exact w (headers.Ethernet2Fcs e) x inside kind u =
      written w.bound (within list w) (headers.Ethernet2Fcs e)
      (IsBytes-part w.start w.finish list ok) u.accepted u.means
  one_exact w (headers.LinuxSll s) x inside kind u = absurd kind
  one_exact w (headers.Vlan v) x inside kind u =
      written w.bound (within list w) (headers.Vlan v) (IsBytes-part w.start w.finish list ok) u.accepted u.means
  one_exact w (headers.Macsec t) x inside kind u = tag_bytes w t x inside u
  one_exact w (headers.Arp a) x inside kind u =
      written w.bound (within list w) (headers.Arp a) (IsBytes-part w.start w.finish list ok) u.accepted u.means

  pub all_fit : (x : Expectation) (w : Window) (hs : List Header) (e : Ending)
      → Each IsExact (told_stack 0 list w hs) → Stack list x w hs e → Each FitsExact (told_stack 0 list w hs)
  all_fit x w [] e kinds s = tt
  all_fit x w (h ∷ hs) e kinds s = (
    (kinds.0, means_fits (within list w) h (IsBytes-part w.start w.finish list ok) s.0.means),
    all_fit (after x h) (payload w h) hs e kinds.1 s.1,
  )
