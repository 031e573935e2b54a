-- Each packet is edited to some value, or stays.
use Rattle.std.proofs.Common.{◌≡◌, ℕ, ◌+◌, ◌-◌, ◌<◌, List, length, take, drop, Bool, true, false, Some, None, refl, arith, inl, inr, ◌⊎◌, length-drop}
use Rattle.std.specs.Prelude.{◌≢◌, Option, nat_eq, max}
use Rattle.std.proofs.lemmas.Bool.{cases_lt}
use Rattle.ether_base.specs.Bytes.{IsBytes}
use Rattle.ether_base.proofs.SubLists.{IsBytes-take}
use Rattle.etherparse.specs.Header.{Header}
use Rattle.etherparse.specs.Vlan.{FitsVlan}
use Rattle.ether_peel.specs.Grammar.Expectation.{Next}
use Rattle.ether_peel.specs.Grammar.Stack.{Ending, whole}
use Rattle.ether_peel.proofs.Grammar.Stacks.{some_stack}
use Rattle.ether_peel.specs.Walker.Start.{start_of, next_of}
use Rattle.ether_peel.specs.declared.start.Start.{Start}
use Rattle.ether_peel.specs.declared.start.Start.TheVariants as starts
use Rattle.ether_packet.proofs.TagChanges.{Popped, popped_or_not, Pushed, pushed_or_not, set_found, found_or_not}
use Rattle.ether_pcap.specs.Capture.{PacketValue}
use Rattle.ether_pcap.specs.Editing.{EditedValue}
use Rattle.ether_content.specs.Content.{ContentValue, Frame, content_of, fcs_len, has_fcs, has_other_hardware, without_fcs}
use Rattle.ether_content.specs.Editing.{EditValue, CutToHeaders, PopVlan, PushVlan, SetVlan, Edits, EditsAreSome, IsFrame, with_frame, tag_with, after_free, no_frame, refused, cuts, not_cut, pops, not_popped, pushes, not_pushed, sets, not_set}
use Rattle.ether_content.proofs.EditingLemmas.{content_by, content_after, frame_front, keeps_end_less, keeps_end_more, popped_room, popped_usual, pushed_usual}
use Rattle.ether_content.proofs.HeadersLemmas.{takes_some}
use Rattle.ether_content.proofs.SettingLemmas.{keeps_end_same, set_usual}

-- ---- a packet is a frame, or it is none

pub record Framed (c : ContentValue) : Type 0 where
  pub start : Start
  pub frame : List ℕ
  pub is : c ≡ Frame (next_of start) frame
  pub ok : IsBytes frame

abbrev pub Unframed : ContentValue → Type 0
Unframed c = (next : Next) (frame : List ℕ) → c ≢ Frame next frame

framed_by : (a b o c d : Bool) (all without : List ℕ) → IsBytes all → IsBytes without
    → Framed (content_by a b o c d all without) ⊎ Unframed (content_by a b o c d all without)
framed_by true b o c true all without x y =
    inl (record { start = starts.Ethernet2Fcs; frame = all; is = refl; ok = x })
framed_by true b o c false all without x y =
    inl (record { start = starts.Ethernet2; frame = without; is = refl; ok = y })
framed_by false true true c d all without x y = inr (λ next frame is. absurd cc)
framed_by false true false c d all without x y =
    inl (record { start = starts.LinuxSll; frame = without; is = refl; ok = y })
framed_by false false o true d all without x y = inr (λ next frame is. absurd cc)
framed_by false false o false d all without x y = inr (λ next frame is. absurd cc)

pub framed_or_not : (p : PacketValue) → IsBytes p.packet → Framed (content_of p) ⊎ Unframed (content_of p)
framed_or_not p ok =
    framed_by (nat_eq p.link_type 1) (nat_eq p.link_type 113) (has_other_hardware (without_fcs p))
    (nat_eq p.link_type 276) (has_fcs p) p.packet (without_fcs p) ok
    (IsBytes-take (max p.original_len (length p.packet) - fcs_len p) p.packet ok)

-- the walk of a frame
record Walked (p : PacketValue) : Type 0 where
  start : Start
  frame : List ℕ
  ok : IsBytes frame
  headers : List Header
  ending : Ending
  is : IsFrame p (next_of start) frame headers ending

walked : (p : PacketValue) → Framed (content_of p) → Walked p
walked p f =
    let x = start_of f.start in
    let some = some_stack f.frame x (whole x f.frame) f.ok in
    record {
      start = f.start;
      frame = f.frame;
      ok = f.ok;
      headers = some.0;
      ending = some.1;
      is = record { content = f.is; walk = some.2 };
    }

abbrev Result : EditValue → PacketValue → Type 0
Result edit p = (o : Option EditedValue) × Edits edit p o

-- ---- each edit

some_cut : (p : PacketValue) → IsBytes p.packet → Result CutToHeaders p
some_cut p ok =
    let n = takes_some p ok in
    elim (cases_lt n.0 (length p.packet)) [
      | inl lt ↦ (Some (record { original_len = p.original_len; packet = take n.0 p.packet }), cuts p n.0 n.1 lt)
      | inr le ↦ (None, not_cut p n.0 n.1 le)
    ]

popped : (p : PacketValue) (w : Walked p) → Popped w.start w.frame w.headers w.ending → Result PopVlan p
popped p w t =
    let front = frame_front p (next_of w.start) w.frame w.is.content in
    let new = drop 4 t.new in
    let least = popped_room (next_of w.start) w.frame w.headers w.ending t.tag t.new t.is in
    let less = length-drop 4 t.new in
    let len = t.len in
    let edited = with_frame p w.frame new (p.original_len - 4) in (
      Some edited,
      pops p edited (record {
        next = next_of w.start;
        frame = w.frame;
        headers = w.headers;
        ending = w.ending;
        tag = t.tag;
        new = t.new;
        is_frame = w.is;
        popped = t.is;
        is = refl;
        content =
            content_after p (next_of w.start) w.frame new (p.original_len - 4) w.is.content
            (keeps_end_less p w.frame new (omega (arith, least, less, len)) front.0)
            (popped_usual (next_of w.start) w.frame w.headers w.ending t.tag t.new w.ok t.is);
      }),
    )

some_popped : (p : PacketValue) → IsBytes p.packet → Result PopVlan p
some_popped p ok =
    elim (framed_or_not p ok) [
      | inl f ↦
          let w = walked p f in
          elim (popped_or_not w.start w.frame w.headers w.ending w.ok w.is.walk) [
            | inl t ↦ popped p w t
            | inr r ↦ (None, not_popped p (refused (next_of w.start) w.frame w.headers w.ending w.is r))
          ]
      | inr none ↦ (None, not_popped p (no_frame none))
    ]

pushed : (p : PacketValue) (tpid id : ℕ) (w : Walked p)
    → Pushed w.start (after_free w.frame) w.headers w.ending (tag_with id) tpid → Result (PushVlan tpid id) p
pushed p tpid id w t =
    let front = frame_front p (next_of w.start) w.frame w.is.content in
    let len = t.len in
    let least = t.least in
    let edited = with_frame p w.frame t.new (p.original_len + 4) in (
      Some edited,
      pushes p tpid id edited (record {
        next = next_of w.start;
        frame = w.frame;
        headers = w.headers;
        ending = w.ending;
        new = t.new;
        is_frame = w.is;
        pushed = t.is;
        is = refl;
        content =
            content_after p (next_of w.start) w.frame t.new (p.original_len + 4) w.is.content
            (keeps_end_more p w.frame t.new (omega (arith, len)) (omega (arith, least)) front.0)
            (pushed_usual (next_of w.start) w.frame w.headers w.ending (tag_with id) tpid t.new w.ok t.is);
      }),
    )

some_pushed : (p : PacketValue) (tpid id : ℕ) → id < 4096 → IsBytes p.packet → Result (PushVlan tpid id) p
some_pushed p tpid id lt ok =
    let fits : FitsVlan (tag_with id) = record {
      pcp = omega arith;
      dei = omega arith;
      vid = lt;
      ether_type = omega arith;
    } in
    elim (framed_or_not p ok) [
      | inl f ↦
          let w = walked p f in
          elim (pushed_or_not w.start w.frame w.headers w.ending (tag_with id) tpid w.ok fits w.is.walk) [
            | inl t ↦ pushed p tpid id w t
            | inr r ↦ (None, not_pushed p tpid id (refused (next_of w.start) w.frame w.headers w.ending w.is r))
          ]
      | inr none ↦ (None, not_pushed p tpid id (no_frame none))
    ]

some_set : (p : PacketValue) (old new : ℕ) → new < 4096 → IsBytes p.packet → Result (SetVlan old new) p
some_set p old new lt ok =
    elim (framed_or_not p ok) [
      | inl f ↦
          let w = walked p f in
          elim (found_or_not w.headers old) [
            | inl t ↦
                let front = frame_front p (next_of w.start) w.frame w.is.content in
                let s =
                set_found (start_of w.start) w.frame w.headers w.ending old t.0 new lt t.1 w.is.walk in
                let edited = with_frame p w.frame s.new p.original_len in (
                  Some edited,
                  sets p old new edited (record {
                    next = next_of w.start;
                    frame = w.frame;
                    headers = w.headers;
                    ending = w.ending;
                    index = t.0;
                    changed = s.new;
                    is_frame = w.is;
                    finds = t.1;
                    set = s.is;
                    is = refl;
                    content =
                        content_after p (next_of w.start) w.frame s.new p.original_len w.is.content
                        (keeps_end_same p w.frame s.new s.len front.0)
                        (set_usual (next_of w.start) w.frame w.headers w.ending t.0 new s.new w.ok s.is);
                  }),
                )
            | inr lacks ↦ (None, not_set p old new (refused (next_of w.start) w.frame w.headers w.ending w.is lacks))
          ]
      | inr none ↦ (None, not_set p old new (no_frame none))
    ]

-- ---- the law

pub edits_some : EditsAreSome
edits_some CutToHeaders p fits ok = some_cut p ok
edits_some PopVlan p fits ok = some_popped p ok
edits_some (PushVlan tpid id) p fits ok = some_pushed p tpid id fits ok
edits_some (SetVlan old new) p fits ok = some_set p old new fits ok
