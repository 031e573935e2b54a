-- A packet is edited to one value.
use Rattle.std.proofs.Common.{◌≡◌, ℕ, ◌+◌, ◌-◌, List, [], ◌∷◌, ◌++◌, take, drop, Bool, true, false, Some, None, refl, sym, ap, subst, ◌∙◌, arith}
use Rattle.std.specs.Prelude.{Option, ◌==◌, slice_range, if◌then◌else◌}
use Rattle.std.proofs.lemmas.Bool.{eqb-true}
use Rattle.etherparse.specs.Bytes.{overwritten}
use Rattle.etherparse.specs.Header.{Header, kind_of, header_len}
use Rattle.etherparse.specs.Header as headers
use Rattle.etherparse.specs.LinuxSll.{LinuxSllValue}
use Rattle.etherparse.specs.LinuxSllProtocolType.{link_protocol_of}
use Rattle.etherparse.specs.Vlan.{VlanValue, is_vlan_ether_type, vlan_bytes}
use Rattle.ether_peel.specs.Grammar.Expectation.{Next, Expectation, EtherType, Sll, announced, after, after_capture, next_after}
use Rattle.ether_peel.specs.Grammar.Places.{place}
use Rattle.ether_peel.specs.Grammar.Stack.{Ending, Walk, whole}
use Rattle.ether_peel.proofs.Grammar.Stacks.{one_stack}
use Rattle.ether_packet.specs.declared.tag_error.TagError.{TagError}
use Rattle.ether_packet.specs.ReplacingLink.{is_link, has_link}
use Rattle.ether_packet.specs.TypedLink.{type_of_link, BeginsTyped, RefusesTyped, no_link, hardware_type}
use Rattle.ether_packet.specs.Popping.{IsPopped, RefusesPop, no_vlan, cut_vlan}
use Rattle.ether_packet.specs.Popping as popping
use Rattle.ether_packet.specs.Pushing.{IsPushed, RefusesPush, pushed_bytes, other_tpid, no_room}
use Rattle.ether_packet.specs.Pushing as pushing
use Rattle.ether_packet.specs.Replacing.{IsExtAt}
use Rattle.ether_packet.specs.Setting.{LacksVlan, FindsVlan}
use Rattle.ether_packet.proofs.FindVlan.{found_once, found_or_lacking, tag_once}
use Rattle.ether_packet.proofs.TypedLinks.{announced_other}
use Rattle.ether_pcap.specs.Capture.{PacketValue}
use Rattle.ether_pcap.specs.Editing.{EditedValue}
use Rattle.ether_content.specs.Content.{content_of}
use Rattle.ether_content.specs.Editing.{EditValue, Edits, EditsAreOne, IsFrame, with_frame, frame_start, Pops, Pushes, Stays, tag_with, after_free, no_frame, refused, cuts, not_cut, pops, not_popped, pushes, not_pushed, Sets, sets, not_set}
use Rattle.ether_content.proofs.HeadersLemmas.{takes_one}
use Rattle.ether_content.proofs.EditingLemmas.{framed}

-- ---- one frame, one walk

record SameFrame (next other : Next) (frame bytes : List ℕ) (hs gs : List Header) : Type 0 where
  next_is : next ≡ other
  frame_is : frame ≡ bytes
  headers_are : hs ≡ gs

same_frame : (p : PacketValue) (next other : Next) (frame bytes : List ℕ) (hs gs : List Header) (e f : Ending)
    → IsFrame p next frame hs e → IsFrame p other bytes gs f → SameFrame next other frame bytes hs gs
same_frame p next other frame bytes hs gs e f a b =
    let same = framed next other frame bytes (sym a.content ∙ b.content) in
    let walk : Walk (frame_start other) bytes hs e =
    subst (λ (n : Next). Walk (frame_start n) bytes hs e) same.0
    (subst (λ (l : List ℕ). Walk (frame_start next) l hs e) same.1 a.walk) in
    let x = frame_start other in
    record {
      next_is = same.0;
      frame_is = same.1;
      headers_are = (one_stack bytes x (whole x bytes) hs gs e f walk b.walk).0;
    }

abbrev first_of : Header → List Header → Header
first_of h [] = h
first_of h (x ∷ xs) = x

pub same_link : (hs gs : List Header) (h g : Header) (later more : List Header) → hs ≡ gs → hs ≡ h ∷ later
    → gs ≡ g ∷ more → h ≡ g
same_link hs gs h g later more same a b = ap (first_of h) (sym a ∙ same ∙ b)

-- ---- a link is typed, or refused

captured_apart : (s : LinuxSllValue) (b : Bool) → (s.hardware_type == 1) ≡ b → (s.hardware_type ≡ 1 → ⊥)
    → after_capture s.hardware_type s.protocol ≡ EtherType s.protocol → ⊥
captured_apart s true is other typed = other (eqb-true s.hardware_type 1 is)
captured_apart s false is other typed =
    let e : Sll (link_protocol_of s.hardware_type s.protocol) ≡ EtherType s.protocol =
    (λ i. if sym is i then EtherType s.protocol else Sll (link_protocol_of s.hardware_type s.protocol)) ∙ typed in
    absurd cc

pub typed_apart : (hs : List Header) (h : Header) (later : List Header) (error : TagError) → BeginsTyped hs h later
    → RefusesTyped hs error → ⊥
typed_apart hs h later error begins (no_link none) =
    let e : true ≡ false = sym begins.is_link ∙ ap has_link (sym begins.parts) ∙ none in absurd cc
typed_apart hs h later error begins (hardware_type s more parts other) =
    let same : h ≡ headers.LinuxSll s = same_link hs hs h (headers.LinuxSll s) later more refl begins.parts parts in
    captured_apart s (s.hardware_type == 1) refl other
    (subst (λ (g : Header). next_after g ≡ EtherType (type_of_link g)) same begins.typed)

-- ---- a VLAN tag that is taken off

after_frame : (next : Next) (h : Header) → is_link (kind_of h) ≡ true
    → after (frame_start next) h ≡ record { next = next_after h; limit = None }
after_frame next (headers.Ethernet2 e) link = refl
after_frame next (headers.Ethernet2Fcs e) link = refl
after_frame next (headers.LinuxSll s) link = refl
after_frame next (headers.Vlan v) link = absurd cc
after_frame next (headers.Macsec m) link = absurd cc
after_frame next (headers.Arp a) link = absurd cc

-- the type of the link announces the tag after it
no_other : (next : Next) (frame : List ℕ) (hs : List Header) (e : Ending) (h : Header) (tag : VlanValue)
    (later : List Header)
    → Walk (frame_start next) frame hs e → BeginsTyped hs h (headers.Vlan tag ∷ later)
    → is_vlan_ether_type (type_of_link h) ≡ false → ⊥
no_other next frame hs e h tag later walk begins other =
    let x = frame_start next in
    let split = subst (λ (l : List Header). Walk x frame l e) begins.parts walk in
    let expected : after x h ≡ record { next = EtherType (type_of_link h); limit = None } =
    after_frame next h begins.is_link ∙ ap frame_start begins.typed in
    announced_other (type_of_link h) other (ap announced (sym expected) ∙ split.1.0.announced)

pop_refused : (next : Next) (frame : List ℕ) (hs : List Header) (e : Ending) (tag : VlanValue) (new : List ℕ)
    (error : TagError)
    → Walk (frame_start next) frame hs e → IsPopped (frame_start next) frame hs e tag new → RefusesPop hs error → ⊥
pop_refused next frame hs e tag new error walk is (popping.link _ why) =
    typed_apart hs is.link (headers.Vlan tag ∷ is.later) error is.begins why
pop_refused next frame hs e tag new error walk is (no_vlan h later begins other) =
    let same = same_link hs hs h is.link later (headers.Vlan tag ∷ is.later) refl begins.parts is.begins.parts in
    no_other next frame hs e is.link tag is.later walk is.begins
    (ap (λ (g : Header). is_vlan_ether_type (type_of_link g)) (sym same) ∙ other)
pop_refused next frame hs e tag new error walk is (cut_vlan h begins announces) =
    let both : h ∷ [] ≡ is.link ∷ headers.Vlan tag ∷ is.later = sym begins.parts ∙ is.begins.parts in absurd cc

pop_apart : (p : PacketValue) (edited : EditedValue) → Pops p edited
    → Stays (λ frame hs. (error : TagError) × RefusesPop hs error) p → ⊥
pop_apart p edited a (no_frame none) = none a.next a.frame a.is_frame.content
pop_apart p edited a (refused next frame hs e is (error, why)) =
    let same =
    same_frame p a.next next a.frame frame a.headers hs a.ending e a.is_frame is in
    pop_refused a.next a.frame a.headers a.ending a.tag a.new error a.is_frame.walk a.popped
    (subst (λ (l : List Header). RefusesPop l error) (sym same.headers_are) why)

pops_one : (p : PacketValue) (e f : EditedValue) → Pops p e → Pops p f → e ≡ f
pops_one p e f a b =
    let same = same_frame p a.next b.next a.frame b.frame a.headers b.headers a.ending b.ending a.is_frame b.is_frame in
    let link =
    same_link a.headers b.headers a.popped.link b.popped.link (headers.Vlan a.tag ∷ a.popped.later)
    (headers.Vlan b.tag ∷ b.popped.later) same.headers_are a.popped.begins.parts b.popped.begins.parts in
    let new : a.new ≡ b.new =
    a.popped.bytes ∙ ap (λ (h : Header). overwritten a.frame 4 (take (header_len h - 2) a.frame)) link
    ∙ ap (λ (l : List ℕ). overwritten l 4 (take (header_len b.popped.link - 2) l)) same.frame_is
    ∙ sym b.popped.bytes in
    a.is ∙ ap (λ (l : List ℕ). with_frame p a.frame (drop 4 l) (p.original_len - 4)) new
    ∙ ap (λ (l : List ℕ). with_frame p l (drop 4 b.new) (p.original_len - 4)) same.frame_is ∙ sym b.is

-- ---- a VLAN tag that is put in

push_refused : (start : Expectation) (frame : List ℕ) (hs : List Header) (e : Ending) (tag : VlanValue) (tpid : ℕ)
    (new : List ℕ) (error : TagError)
    → IsPushed start (after_free frame) hs e tag tpid new → RefusesPush (after_free frame) hs tpid error → ⊥
push_refused start frame hs e tag tpid new error is (other_tpid other) =
    let both : true ≡ false = sym is.announces ∙ other in absurd cc
push_refused start frame hs e tag tpid new error is (no_room announces few) = absurd (omega (arith, few))
push_refused start frame hs e tag tpid new error is (pushing.link _ announces room why) =
    typed_apart hs is.link is.later error is.begins why

push_apart : (p : PacketValue) (tpid id : ℕ) (edited : EditedValue) → Pushes tpid id p edited
    → Stays (λ frame hs. (error : TagError) × RefusesPush (after_free frame) hs tpid error) p → ⊥
push_apart p tpid id edited a (no_frame none) = none a.next a.frame a.is_frame.content
push_apart p tpid id edited a (refused next frame hs e is (error, why)) =
    let same =
    same_frame p a.next next a.frame frame a.headers hs a.ending e a.is_frame is in
    push_refused (frame_start a.next) a.frame a.headers a.ending (tag_with id) tpid a.new error a.pushed
    (subst (λ (l : List ℕ). RefusesPush (after_free l) a.headers tpid error) (sym same.frame_is)
    (subst (λ (l : List Header). RefusesPush (after_free frame) l tpid error) (sym same.headers_are) why))

pushes_one : (p : PacketValue) (tpid id : ℕ) (e f : EditedValue) → Pushes tpid id p e → Pushes tpid id p f → e ≡ f
pushes_one p tpid id e f a b =
    let same = same_frame p a.next b.next a.frame b.frame a.headers b.headers a.ending b.ending a.is_frame b.is_frame in
    let link =
    same_link a.headers b.headers a.pushed.link b.pushed.link a.pushed.later b.pushed.later same.headers_are
    a.pushed.begins.parts b.pushed.begins.parts in
    let written = λ (l : List ℕ) (h : Header).
    overwritten (after_free l) 0
    (slice_range (after_free l) 4 (header_len h + 2) ++ pushed_bytes tpid (tag_with id)) in
    let new : a.new ≡ b.new =
    a.pushed.bytes ∙ ap (written a.frame) link
    ∙ ap (λ (l : List ℕ). written l b.pushed.link) same.frame_is ∙ sym b.pushed.bytes in
    a.is ∙ ap (λ (l : List ℕ). with_frame p a.frame l (p.original_len + 4)) new
    ∙ ap (λ (l : List ℕ). with_frame p l b.new (p.original_len + 4)) same.frame_is ∙ sym b.is

-- ---- a VLAN tag that gets another identifier

set_apart : (p : PacketValue) (old new : ℕ) (edited : EditedValue) → Sets old new p edited
    → Stays (λ frame hs. LacksVlan hs old) p → ⊥
set_apart p old new edited a (no_frame none) = none a.next a.frame a.is_frame.content
set_apart p old new edited a (refused next frame hs e is lacks) =
    let same = same_frame p a.next next a.frame frame a.headers hs a.ending e a.is_frame is in
    found_or_lacking hs old a.index (subst (λ (l : List Header). FindsVlan l old a.index) same.headers_are a.finds)
    lacks

sets_one : (p : PacketValue) (old new : ℕ) (e f : EditedValue) → Sets old new p e → Sets old new p f → e ≡ f
sets_one p old new e f a b =
    let same = same_frame p a.next b.next a.frame b.frame a.headers b.headers a.ending b.ending a.is_frame b.is_frame in
    let tag =
    found_once b.headers old a.index b.index
    (subst (λ (l : List Header). FindsVlan l old a.index) same.headers_are a.finds) b.finds in
    let place_is =
    tag_once b.headers b.index a.set.front b.set.front a.set.tag b.set.tag a.set.later b.set.later
    (subst (λ (i : ℕ). IsExtAt b.headers i a.set.front (headers.Vlan a.set.tag) a.set.later) tag
    (subst (λ (l : List Header). IsExtAt l a.index a.set.front (headers.Vlan a.set.tag) a.set.later) same.headers_are
    a.set.found))
    b.set.found in
    let written = λ (l : List ℕ) (front : List Header) (v : VlanValue).
    overwritten l (place 0 front) (vlan_bytes (record v { vid = new })) in
    let changed : a.changed ≡ b.changed =
    a.set.bytes ∙ (λ i. written (same.frame_is i) (place_is.0 i) (place_is.1 i)) ∙ sym b.set.bytes in
    a.is ∙ (λ i. with_frame p (same.frame_is i) (changed i) p.original_len) ∙ sym b.is

-- ---- the law

edited_once : (edit : EditValue) (p : PacketValue) (o q : Option EditedValue) → Edits edit p o → Edits edit p q → o ≡ q
edited_once edit p o q (cuts _ n a lt) (cuts _ m b more) =
    ap (λ (k : ℕ). Some (record { original_len = p.original_len; packet = take k p.packet }))
    (takes_one (content_of p) n m a b)
edited_once edit p o q (cuts _ n a lt) (not_cut _ m b le) =
    let same = takes_one (content_of p) n m a b in absurd (omega (arith, same, lt, le))
edited_once edit p o q (not_cut _ n a le) (cuts _ m b lt) =
    let same = takes_one (content_of p) n m a b in absurd (omega (arith, same, lt, le))
edited_once edit p o q (not_cut _ n a le) (not_cut _ m b more) = refl
edited_once edit p o q (pops _ e a) (pops _ f b) = ap Some (pops_one p e f a b)
edited_once edit p o q (pops _ e a) (not_popped _ stays) = absurd (pop_apart p e a stays)
edited_once edit p o q (not_popped _ stays) (pops _ e a) = absurd (pop_apart p e a stays)
edited_once edit p o q (not_popped _ stays) (not_popped _ again) = refl
edited_once edit p o q (pushes _ tpid id e a) (pushes _ _ _ f b) = ap Some (pushes_one p tpid id e f a b)
edited_once edit p o q (pushes _ tpid id e a) (not_pushed _ _ _ stays) = absurd (push_apart p tpid id e a stays)
edited_once edit p o q (not_pushed _ tpid id stays) (pushes _ _ _ e a) = absurd (push_apart p tpid id e a stays)
edited_once edit p o q (not_pushed _ tpid id stays) (not_pushed _ _ _ again) = refl
edited_once edit p o q (sets _ old new e a) (sets _ _ _ f b) = ap Some (sets_one p old new e f a b)
edited_once edit p o q (sets _ old new e a) (not_set _ _ _ stays) = absurd (set_apart p old new e a stays)
edited_once edit p o q (not_set _ old new stays) (sets _ _ _ e a) = absurd (set_apart p old new e a stays)
edited_once edit p o q (not_set _ old new stays) (not_set _ _ _ again) = refl

pub edits_one : EditsAreOne
edits_one edit p o q a b = edited_once edit p o q a b
