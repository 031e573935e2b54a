-- Headers and a last window that are written one after the other.
use Rattle.std.proofs.Common.{◌≡◌, ℕ, ◌+◌, ◌≤◌, List, [], ◌∷◌, ◌++◌, length, take, drop, false, refl, sym, ap, subst, ◌∙◌, arith}
use Rattle.std.specs.Prelude.{flat_map, Some, Ok}
use Rattle.std.proofs.Math.Seq.{take-append_seam, drop-append-add}
use Rattle.std.proofs.lemmas.List.{append-nil, length-append, drop-drop}
use Rattle.std.proofs.lemmas.Grind.{flat_map-append}
use Rattle.etherparse.specs.Types.LenSource.{LenSource}
use Rattle.etherparse.specs.Bytes.{IsBytes}
use Rattle.etherparse.specs.Ethernet2.{ethernet2_bytes}
use Rattle.etherparse.specs.LinuxSll.{linux_sll_bytes}
use Rattle.etherparse.specs.Vlan.{vlan_bytes}
use Rattle.etherparse.specs.Macsec.{sec_tag_of, sec_tag_bytes}
use Rattle.etherparse.specs.Header.{Header, kind_of, header_len, header_bytes, Means}
use Rattle.etherparse.specs.Header as headers
use Rattle.etherparse.specs.Refusal.{Accepts}
use Rattle.etherparse.proofs.SubLists.{IsBytes-part}
use Rattle.ether_peel.specs.Grammar.Window.{Window, within}
use Rattle.ether_peel.specs.Grammar.Expectation.{Expectation}
use Rattle.ether_peel.specs.Grammar.Stack.{Ending, last_window, whole, Walk}
use Rattle.ether_peel.specs.Walker.State.{State}
use Rattle.ether_peel.specs.Walker.Next.{Faces, ShowsUnit, Gives}
use Rattle.ether_peel.specs.Grammar.Cleared.{cleared}
use Rattle.ether_peel.specs.Walker.WriteBack.{unit_bytes, WritesBack}
use Rattle.ether_peel.specs.declared.peel_unit.PeelUnit.{PeelUnit}
use Rattle.ether_peel.proofs.Walker.ViewValues.{ethernet2_shown, linux_sll_shown, vlan_shown, macsec_shown}
use Rattle.ether_peel.proofs.Walker.UnderWay.{UnderWay, under_way_first, Passes, passes, under_way_next, Stops, stop_finish}
use Rattle.ether_peel.proofs.Grammar.HeaderBytes.{length-means, written}
use Rattle.ether_peel.proofs.Grammar.Places.{last_after, header_before}
use Rattle.ether_peel.proofs.Grammar.Cleared.{headers_go_back}

-- ---- the bytes of a view's header

-- a view of a unit is written as its header
pub unit_bytes-shown : (bound : LenSource) (bytes rest : List ℕ) (h : Header) (u : PeelUnit) → IsBytes bytes
    → Accepts bound bytes (kind_of h) → Means bytes h → ShowsUnit bytes rest h u → unit_bytes u ≡ header_bytes h
unit_bytes-shown bound bytes rest (headers.Ethernet2 e) u ok accepted m shows =
    ap unit_bytes shows ∙ ap ethernet2_bytes (ethernet2_shown bytes e ok m)
unit_bytes-shown bound bytes rest (headers.Ethernet2Fcs e) u ok accepted m shows =
    let plain : Means bytes (headers.Ethernet2 e) = record { whole = m.whole; spells = m.spells } in
    ap unit_bytes shows ∙ ap ethernet2_bytes (ethernet2_shown bytes e ok plain)
unit_bytes-shown bound bytes rest (headers.LinuxSll s) u ok accepted m shows =
    ap unit_bytes shows ∙ ap linux_sll_bytes (linux_sll_shown bytes s ok m)
unit_bytes-shown bound bytes rest (headers.Vlan v) u ok accepted m shows =
    ap unit_bytes shows ∙ ap vlan_bytes (vlan_shown bytes v ok m)
unit_bytes-shown bound bytes rest (headers.Macsec t) u ok accepted m shows =
    ap unit_bytes shows.1 ∙ ap (λ (l : List ℕ). sec_tag_bytes (sec_tag_of l)) shows.2.header
    ∙ ap sec_tag_bytes (macsec_shown bytes t ok m)
unit_bytes-shown bound bytes rest (headers.Arp a) u ok accepted m shows =
    ap unit_bytes shows ∙ written bound bytes (headers.Arp a) ok accepted m

-- ---- a target that was written so far

-- bytes that replace those after a front
replaced : (front old bytes new : List ℕ) (from at : ℕ) → length front ≡ from → at ≡ from
    → new ≡ take at (front ++ drop from old) ++ bytes ++ drop (at + length bytes) (front ++ drop from old)
    → new ≡ (front ++ bytes) ++ drop (from + length bytes) old
replaced front old bytes new from at len same is =
    let all = front ++ drop from old in
    let e : at ≡ length front = omega arith in
    let first : take at all ≡ front = ap (λ (n : ℕ). take n all) e ∙ take-append_seam front (drop from old) in
    let last : drop (at + length bytes) all ≡ drop (from + length bytes) old =
    ap (λ (n : ℕ). drop (n + length bytes) all) e ∙ drop-append-add front (drop from old) (length bytes)
    ∙ drop-drop (length bytes) from old in
    is ∙ (λ i. (first i ++ bytes) ++ last i)

pub record WritesSoFar (x : Expectation) (list : List ℕ) (s : State) (at : ℕ) (old new : List ℕ) : Type 0 where
  pub under_way : UnderWay x list s
  pub place : at ≡ under_way.window.start
  pub len : length (flat_map header_bytes under_way.done) ≡ under_way.window.start
  pub bytes : new ≡ flat_map header_bytes under_way.done ++ drop under_way.window.start old

pub writes_first : (x : Expectation) (list : List ℕ) (s : State) (old : List ℕ) (hs : List Header) (e : Ending)
    → Walk x list hs e → Faces list (whole x list) s hs e → s.over ≡ false → WritesSoFar x list s 0 old old
unfolding under_way_first
writes_first x list s old hs e walk faces going = record {
  under_way = under_way_first x list s hs e walk faces going;
  place = refl;
  len = refl;
  bytes = refl;
}

-- the place of the next header, and its bytes
pub record NextAt (x : Expectation) (list : List ℕ) (s t : State) (u : PeelUnit) (at : ℕ) (old mid : List ℕ)
    (a : UnderWay x list s) : Type 0 where
  pub passes : Passes x list s t u a
  pub bytes : unit_bytes u ≡ header_bytes passes.header
  pub len : length (unit_bytes u) ≡ header_len passes.header
  pub room : at + length (unit_bytes u) ≤ length mid

-- the walk's last window ends in the target
abbrev pub Fits : (x : Expectation) (list old : List ℕ) → Type 0
Fits x list old = (hs : List Header) (e : Ending) → Walk x list hs e → (last_window e).finish ≤ length old

pub next_at : (x : Expectation) (list : List ℕ) (s t : State) (u : PeelUnit) (at : ℕ) (old mid : List ℕ) → IsBytes list
    → Fits x list old → length mid ≡ length old → (a : WritesSoFar x list s at old mid) → Gives s (Some (Ok u)) t
    → NextAt x list s t u at old mid a.under_way
next_at x list s t u at old mid ok fits same a gives =
    let b = a.under_way in
    let w = b.window in
    let p = passes x list s t u b gives in
    let faces = subst (λ (l : List Header). Faces list w s l b.ending) p.parts b.faces in
    let unit = faces.stack.0 in
    let shows = subst (λ (l : List ℕ). ShowsUnit l t.rest p.header u) faces.rest p.shows in
    let okw = IsBytes-part w.start w.finish list ok in
    let bytes = unit_bytes-shown w.bound (within list w) t.rest p.header u okw unit.accepted unit.means shows in
    let len = ap length bytes ∙ length-means (within list w) p.header okw unit.means in
    let before =
    header_before w (last_window b.ending) [] p.header p.later
    (last_after list s.expected w (p.header ∷ p.later) b.ending faces.inside faces.stack) in
    let long = fits (b.done ++ b.left) b.ending b.walk in
    let from = a.place in
    record { passes = p; bytes = bytes; len = len; room = omega arith }

pub writes_next : (x : Expectation) (list : List ℕ) (s t : State) (u : PeelUnit) (at : ℕ) (old mid new : List ℕ)
    (a : WritesSoFar x list s at old mid)
    → NextAt x list s t u at old mid a.under_way
    → new ≡ take at mid ++ unit_bytes u ++ drop (at + length (unit_bytes u)) mid → WritesSoFar x list t t.offset old new
unfolding under_way_next
writes_next x list s t u at old mid new a n is =
    let b = a.under_way in
    let h = n.passes.header in
    let front = flat_map header_bytes b.done in
    let len = n.len in
    let so_far = a.len in
    let more : flat_map header_bytes (b.done ++ h ∷ []) ≡ front ++ header_bytes h =
    flat_map-append header_bytes b.done (h ∷ []) ∙ ap (λ (l : List ℕ). front ++ l) (append-nil (header_bytes h)) in
    let put : new
    ≡ take at (front ++ drop b.window.start old) ++ unit_bytes u
    ++ drop (at + length (unit_bytes u)) (front ++ drop b.window.start old) =
    is ∙ ap (λ (l : List ℕ). take at l ++ unit_bytes u ++ drop (at + length (unit_bytes u)) l) a.bytes in
    let all = replaced front old (unit_bytes u) new b.window.start at so_far a.place put in
    record {
      under_way = under_way_next x list s t u b n.passes;
      place = n.passes.faces.offset;
      len =
          ap length more ∙ length-append front (header_bytes h) ∙ ap (λ (k : ℕ). k + length (header_bytes h)) so_far
          ∙ ap (λ (k : ℕ). b.window.start + k) (sym (ap length n.bytes) ∙ len);
      bytes =
          all ∙ (λ i. (front ++ n.bytes i) ++ drop (b.window.start + len i) old)
          ∙ ap (λ (l : List ℕ). l ++ drop (b.window.start + header_len h) old) (sym more);
    }

-- where the last window's bytes end
pub rest_ends : (x : Expectation) (list : List ℕ) (s t : State) (at : ℕ) (old mid rest : List ℕ)
    (a : WritesSoFar x list s at old mid)
    → Stops x list s t a.under_way → rest ≡ t.rest → at + length rest ≡ (last_window a.under_way.ending).finish
rest_ends x list s t at old mid rest a p shows =
    let b = a.under_way in
    let place : at ≡ t.offset = a.place ∙ ap (λ (w : Window). w.start) p.window ∙ sym p.offset in
    (λ i. place i + length (shows i)) ∙ stop_finish x list s t b p

-- the target holds the last window after all headers
pub writes_back : (x : Expectation) (list : List ℕ) (s t : State) (at : ℕ) (old mid rest new : List ℕ) → IsBytes list
    → Fits x list old → (a : WritesSoFar x list s at old mid) → Stops x list s t a.under_way → rest ≡ t.rest
    → new ≡ take at mid ++ rest ++ drop (at + length rest) mid → WritesBack x list (at + length rest) old new
writes_back x list s t at old mid rest new ok fits a p shows is =
    let b = a.under_way in
    let v = last_window b.ending in
    let w = b.window in
    let front = flat_map header_bytes b.done in
    let ends = rest_ends x list s t at old mid rest a p shows in
    let put : new ≡ take at (front ++ drop w.start old) ++ rest ++ drop (at + length rest) (front ++ drop w.start old) =
    is ∙ ap (λ (l : List ℕ). take at l ++ rest ++ drop (at + length rest) l) a.bytes in
    let bytes = shows ∙ p.rest in
    let place = sym a.place in
    let all : new ≡ front ++ within list v ++ drop (at + length rest) old =
    replaced front old rest new w.start at a.len a.place put
    ∙ (λ i. (front ++ bytes i) ++ drop (place i + length rest) old) in
    let back = headers_go_back x list b.done b.ending ok p.walk in
    let long = fits b.done b.ending p.walk in
    record {
      found = b.done;
      ending = b.ending;
      walk = p.walk;
      ends = ends;
      room = omega arith;
      bytes = all;
      front =
          all
          ∙ ap (λ (l : List ℕ). l ++ drop (at + length rest) old)
          (back ∙ ap (λ (n : ℕ). take n (cleared list 0 b.done)) (sym ends));
    }
