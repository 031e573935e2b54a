-- The line of a packet makes the front of the packet.
use Rattle.std.proofs.Common.{refl, ◌++◌, take_at, ◌≡◌, ℕ, suc, ◌-◌, ◌≤◌, Bool, true, false, cond, nat_eq, List, [], ◌∷◌, length, take, Option, Ok, All, sym, ap, ◌∙◌, subst, arith, length-take, take-take}
use Rattle.std.proofs.lemmas.Bool.{eq-eqb}
use Rattle.std.specs.List.{flat_map, list_any}
use Rattle.std.specs.Prelude.{slice_range}
use Rattle.etherparse.specs.Bytes.{IsBytes}
use Rattle.etherparse.specs.Header.{Header}
use Rattle.etherparse.specs.Header as headers
use Rattle.etherparse.specs.Kind.{Kind}
use Rattle.etherparse.specs.Kind as kinds
use Rattle.etherparse.proofs.SubLists.{IsBytes-take}
use Rattle.ether_peel.specs.declared.rest_kind.RestKind.{RestKind}
use Rattle.ether_peel.proofs.Grammar.Cleared.{headers_go_back, length-stack_headers, whole_in}
use Rattle.ether_peel.proofs.Grammar.Places.{last_after}
use Rattle.ether_peel.specs.Grammar.Cleared.{cleared}
use Rattle.ether_peel.specs.Grammar.Window.{payload, within, Window, IsIn}
use Rattle.ether_peel.specs.Grammar.Expectation.{Expectation, Start}
use Rattle.ether_peel.specs.Grammar.Stack.{Stack, Walk, Ending, Accepted, whole, last_window}
use Rattle.ether_peel.specs.Grammar.Stack as endings
use Rattle.ether_pcap.specs.Capture.{PacketValue}
use Rattle.ether_content.specs.Content.{ContentValue, Frame, LinuxSll2, Unknown, cooked_content, has_fcs, whole_len, without_fcs}
use Rattle.ether_format.specs.Origins.{OriginValue}
use Rattle.ether_format.specs.declared.end.End.{End}
use Rattle.ether_format.specs.declared.end.End.TheVariants.{Rest, Skipped, Fault}
use Rattle.ether_format.specs.declared.moment.Moment.{Moment}
use Rattle.ether_format.specs.Told.{Told, Tells, TellsWalk, told_end, told_stack}
use Rattle.ether_make.specs.FrameLaws.{IsRemade, TellsRemade, LinesMakeFrames, is_sec_tag, told_bytes, walked}
use Rattle.ether_make.specs.Frames.{frame_bytes}
use Rattle.ether_make.specs.PacketData.{packet_data}
use Rattle.ether_make.proofs.ExactPackets.{frames_are_exact, frames_are_one}
use Rattle.ether_make.proofs.OneFrame.{one_frame}
use Rattle.ether_make.proofs.JsonFits.{Each}
use Rattle.ether_make.proofs.FramesBack.{BeginsLink, IsMade, frame_back}
use Rattle.ether_make.proofs.StacksBack.{IsNoTag, all_made, no_tags, one_bytes, remade}

each_remade : (hs : List Told) → All IsRemade hs → Each IsRemade hs
each_remade [] h = tt
each_remade (x ∷ hs) h = (h 0 x (omega arith), each_remade hs (λ k d l. h (suc k) d (omega arith)))

start_of : End → ℕ
start_of (Rest start finish kind) = start
start_of (Skipped len) = 0
start_of (Fault start closed cause) = start

abbrev is_fault : End → Bool
is_fault (Rest start finish kind) = false
is_fault (Skipped len) = false
is_fault (Fault start closed cause) = true

end_start : (e : Ending) → start_of (told_end 0 e) ≡ (last_window e).start
unfolding start_of
end_start (Accepted v y) = omega arith
end_start (endings.Fault v y r) = omega arith

abbrev starts : Kind → Option ℕ → Expectation
starts kind limit = record { next = Start kind; limit = limit }

-- ---- a walk that begins with Ethernet II

module _ (limit : Option ℕ) (list : List ℕ) where
  first_is : (hs : List Header) (e : Ending) (w : Window) → is_fault (told_end 0 e) ≡ false
      → Stack list (starts kinds.Ethernet2 limit) w hs e → BeginsLink (told_stack 0 list w hs)
  first_is [] (Accepted v y) w ok s = absurd (cc)
  first_is [] (endings.Fault v y r) w ok s = absurd (cc)
  first_is (headers.Ethernet2 e ∷ hs) ending w ok s = tt
  first_is (headers.Ethernet2Fcs e ∷ hs) ending w ok s = let a = s.0.announced in absurd (cc)
  first_is (headers.LinuxSll l ∷ hs) ending w ok s = let a = s.0.announced in absurd (cc)
  first_is (headers.Vlan v ∷ hs) ending w ok s = let a = s.0.announced in absurd (cc)
  first_is (headers.Macsec t ∷ hs) ending w ok s = let a = s.0.announced in absurd (cc)
  first_is (headers.Arp a ∷ hs) ending w ok s = let b = s.0.announced in absurd (cc)

  -- a frame check sequence is not made again
  fcs_is : (hs : List Header) (e : Ending) (w : Window) → is_fault (told_end 0 e) ≡ false
      → Stack list (starts kinds.Ethernet2Fcs limit) w hs e → Each IsRemade (told_stack 0 list w hs) → ⊥
  fcs_is [] (Accepted v y) w ok s kind = cc
  fcs_is [] (endings.Fault v y r) w ok s kind = cc
  fcs_is (headers.Ethernet2 e ∷ hs) ending w ok s kind = let a = s.0.announced in cc
  fcs_is (headers.Ethernet2Fcs e ∷ hs) ending w ok s kind = kind.0
  fcs_is (headers.LinuxSll l ∷ hs) ending w ok s kind = kind.0
  fcs_is (headers.Vlan v ∷ hs) ending w ok s kind = let a = s.0.announced in cc
  fcs_is (headers.Macsec t ∷ hs) ending w ok s kind = let a = s.0.announced in cc
  fcs_is (headers.Arp a ∷ hs) ending w ok s kind = let b = s.0.announced in cc

-- ---- a packet

-- the content of other link types
abbrev other_content : PacketValue → ContentValue
other_content p =
    cond (nat_eq p.link_type 113) (cooked_content (without_fcs p))
    (cond (nat_eq p.link_type 276) (LinuxSll2 (without_fcs p)) Unknown)

module _ (p : PacketValue) (limit : Option ℕ) (told : List Told) (start finish : ℕ) (kind : RestKind) (accepted : Bool)
    (bytes : IsBytes p.packet) where
  abbrev end : End
  end = Rest start finish kind

  -- no frame check sequence is in such a packet
  by_fcs : (t : Bool) → Each IsRemade told
      → Tells limit (length p.packet) (cond t (Frame (Start kinds.Ethernet2Fcs) p.packet)
      (Frame (Start kinds.Ethernet2) (without_fcs p))) told end accepted
      → TellsWalk 0 (starts kinds.Ethernet2 limit) (without_fcs p) told end accepted
  by_fcs false made t = t
  by_fcs true made t =
      let w = whole (starts kinds.Ethernet2Fcs limit) p.packet in
      absurd (fcs_is limit p.packet t.headers t.ending w (ap is_fault (sym t.is_end)) t.walk
      (subst (Each IsRemade) t.is_told made))

  the_walk : TellsRemade limit p told start finish kind accepted
      → TellsWalk 0 (starts kinds.Ethernet2 limit) (without_fcs p) told end accepted
  the_walk r =
      by_fcs (has_fcs p) (each_remade told r.remade)
      (subst (λ b. Tells limit (length p.packet) (cond b (cond (has_fcs p) (Frame (Start kinds.Ethernet2Fcs) p.packet)
      (Frame (Start kinds.Ethernet2) (without_fcs p))) (other_content p)) told end accepted)
      (eq-eqb p.link_type 1 r.link)
      r.tells)

  ok : IsBytes (without_fcs p)
  ok = IsBytes-take (whole_len p) p.packet bytes

  abbrev w : Window
  w = whole (starts kinds.Ethernet2 limit) (without_fcs p)

  pub headers_back : (origin : OriginValue) (moment : Option Moment)
      → TellsRemade limit p told start finish kind accepted
      → frame_bytes (packet_data origin p moment told end) ≡ Ok (flat_map told_bytes told)
  headers_back origin moment r =
      let t = the_walk r in
      let kinds_are : Each IsRemade (told_stack 0 (without_fcs p) w t.headers) =
      subst (Each IsRemade) t.is_told (each_remade told r.remade) in
      let made = all_made 0 (without_fcs p) ok (starts kinds.Ethernet2 limit) w t.headers t.ending kinds_are t.walk in
      let first = first_is limit (without_fcs p) t.headers t.ending w (ap is_fault (sym t.is_end)) t.walk in
      frame_back origin p moment told start finish kind (subst BeginsLink (sym t.is_told) first)
      (subst (Each IsMade) (sym t.is_told) made)

  is_start : (e : Ending) → end ≡ told_end 0 e → start ≡ (last_window e).start
  unfolding start_of
  is_start e same = ap start_of same ∙ end_start e

  pub bytes_back : TellsRemade limit p told start finish kind accepted → list_any is_sec_tag told ≡ false
      → flat_map told_bytes told ≡ take start p.packet
  bytes_back r plain =
      let t = the_walk r in
      let frame = without_fcs p in
      let inside : IsIn frame w = record { ordered = omega arith; inside = omega arith } in
      let none : Each IsNoTag (told_stack 0 frame w t.headers) =
      no_tags _ (ap (list_any is_sec_tag) (sym t.is_told) ∙ plain) in
      let back = remade 0 frame told_bytes IsNoTag (one_bytes 0 frame ok) (starts kinds.Ethernet2 limit) w t.headers
      t.ending inside none t.walk in
      let at : start ≡ (last_window t.ending).start = is_start t.ending t.is_end in
      let same : start - 0 ≡ start = omega arith in
      let within : start ≤ whole_len p = omega (arith, at, back.inside, length-take (whole_len p) p.packet) in
      ap (flat_map told_bytes) t.is_told ∙ back.bytes ∙ ap (slice_range frame 0) (sym at) ∙ ap (λ n. take n frame) same
      ∙ take-take start (whole_len p) p.packet within

-- ---- with SecTags

stack_walked : (at : ℕ) (list : List ℕ) (w : Window) (hs : List Header) → walked (told_stack at list w hs) ≡ hs
stack_walked at list w [] = refl
stack_walked at list w (h ∷ hs) = ap (λ l. h ∷ l) (stack_walked at list (payload w h) hs)

stack_bytes : (at : ℕ) (list : List ℕ) (w : Window) (hs : List Header)
    → flat_map told_bytes (told_stack at list w hs) ≡ flat_map headers.header_bytes hs
stack_bytes at list w [] = refl
stack_bytes at list w (h ∷ hs) = ap (λ l. headers.header_bytes h ++ l) (stack_bytes at list (payload w h) hs)

module _ (p : PacketValue) (limit : Option ℕ) (told : List Told) (start finish : ℕ) (kind : RestKind) (accepted : Bool)
    (bytes : IsBytes p.packet) where
  pub cleared_back : TellsRemade limit p told start finish kind accepted
      → flat_map told_bytes told ≡ take start (cleared (without_fcs p) 0 (walked told))
  cleared_back r =
      let t = the_walk p limit told start finish kind accepted bytes r in
      let frame = without_fcs p in
      let x = starts kinds.Ethernet2 limit in
      let front = flat_map headers.header_bytes t.headers in
      let last = last_window t.ending in
      let few = ok p limit told start finish kind accepted bytes in
      let back = headers_go_back x frame t.headers t.ending few t.walk in
      let long = length-stack_headers frame x (whole x frame) t.headers t.ending few t.walk in
      let after = last_after frame x (whole x frame) t.headers t.ending (whole_in x frame) t.walk in
      let at : start ≡ last.start = is_start p limit told start finish kind accepted bytes t.ending t.is_end in
      let same : length front ≡ start = omega (arith, long, at) in
      let inside : start ≤ last.finish = omega (arith, at, after.ordered) in
      let list = cleared frame 0 t.headers in
      ap (flat_map told_bytes) t.is_told ∙ stack_bytes 0 frame (whole x frame) t.headers
      ∙ sym (take_at front (within frame last) start same) ∙ ap (take start) back
      ∙ take-take start last.finish list inside
      ∙ ap (λ hs. take start (cleared frame 0 hs))
      (sym (ap walked t.is_told ∙ stack_walked 0 frame (whole x frame) t.headers))

pub lines_make_frames : LinesMakeFrames
lines_make_frames = record {
  headers = λ limit origin p moment told start finish kind accepted fits r.
      headers_back p limit told start finish kind accepted fits.bytes origin moment r;
  front = λ limit origin p told start finish kind accepted fits r plain.
      bytes_back p limit told start finish kind accepted fits.bytes r plain;
  cleared = λ limit origin p told start finish kind accepted fits r.
      cleared_back p limit told start finish kind accepted fits.bytes r;
  exact = frames_are_exact;
  one = frames_are_one;
  frames = one_frame;
}
