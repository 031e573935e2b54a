-- In which form a frame leaves a bridge.
use Rattle.std.proofs.Common.{◌≡◌, ℕ, ◌+◌, ◌-◌, ◌<◌, ◌⊎◌, inl, inr, Bool, true, false, nat_eq, if◌then◌else◌, List, [], ◌∷◌, ◌++◌, length, take, drop, Option, Some, None, Result, Ok, refl, sym, ap, subst, ◌∙◌, arith}
use Rattle.std.specs.Prelude.{slice_range}
use Rattle.std.proofs.lemmas.Bool.{eq-eqb}
use Rattle.std.proofs.lemmas.List.{ext_get_or, get_or-take, get_or-drop, length-take, length-drop, take-append-drop}
use Rattle.std.proofs.lemmas.Slice.{between_from_start}
use Rattle.etherparse.specs.Bytes.{IsBytes, spelled, overwritten}
use Rattle.etherparse.specs.Ethernet2.{Ethernet2Value}
use Rattle.etherparse.specs.Header.{Header, header_len}
use Rattle.etherparse.specs.Header as headers
use Rattle.etherparse.specs.Vlan.{VlanValue, vlan_bytes, vlan_number}
use Rattle.etherparse.proofs.Numbers.{length-spelled}
use Rattle.etherparse.proofs.SubLists.{length-part}
use Rattle.ether_peel.specs.Grammar.Places.{moved_ending}
use Rattle.ether_peel.specs.Grammar.Stack.{Ending, whole, Walk}
use Rattle.ether_peel.specs.Walker.Start.{start_of}
use Rattle.ether_peel.specs.declared.start.Start.TheVariants as starts
use Rattle.ether_peel.proofs.Grammar.Stacks.{one_stack}
use Rattle.ether_packet.specs.Front.{first_ethernet2, outer_tag}
use Rattle.ether_packet.specs.Popping.{IsPopped}
use Rattle.ether_packet.specs.Pushing.{pushed_bytes, IsPushed}
use Rattle.ether_packet.specs.Setting.{SetsTag}
use Rattle.ether_packet.specs.TypedLink.{type_of_link, with_type}
use Rattle.ether_packet.specs.VlanIds.{IsOutermost, SetsVid}
use Rattle.ether_packet.proofs.Popped.{popped_list}
use Rattle.ether_packet.proofs.Pushed.{IsInserted, is_inserted}
use Rattle.ether_packet.proofs.Replaced.{header_inside}
use Rattle.ether_packet.proofs.VlanIds.{sets_outermost}
use Rattle.ether_switch.specs.declared.arrival.Discarded.{Discarded}
use Rattle.ether_switch.specs.declared.bridge_kind.BridgeKind.{BridgeKind}
use Rattle.ether_switch.specs.declared.received.Received.{Received}
use Rattle.ether_switch.specs.Arrivals.{Front, tagged_front, front_in, front_of, has_second_tag}
use Rattle.ether_switch.specs.BridgeKinds.{tpid_of}
use Rattle.ether_switch.specs.Leaving.{own_tag, LeavesTagged, LeavesUntagged}
use Rattle.ether_switch.specs.Laws.{tag_len, without_tag, OnlyTagsChange}

-- ---- how a frame begins

first : (hs : List Header) (g : Ethernet2Value) → first_ethernet2 hs ≡ Some g
    → (later : List Header) × (hs ≡ headers.Ethernet2 g ∷ later)
first [] g e = absurd cc
first (headers.Ethernet2 h ∷ later) g e = let same : h ≡ g = cc in (later, λ i. headers.Ethernet2 (same i) ∷ later)
first (headers.Ethernet2Fcs h ∷ later) g e = absurd cc
first (headers.LinuxSll h ∷ later) g e = absurd cc
first (headers.Vlan h ∷ later) g e = absurd cc
first (headers.Macsec h ∷ later) g e = absurd cc
first (headers.Arp h ∷ later) g e = absurd cc

second : (g : Ethernet2Value) (hs : List Header) (t : VlanValue) → outer_tag (headers.Ethernet2 g ∷ hs) ≡ Some t
    → (later : List Header) × (hs ≡ headers.Vlan t ∷ later)
second g [] t e = absurd cc
second g (headers.Vlan h ∷ later) t e = let same : h ≡ t = cc in (later, λ i. headers.Vlan (same i) ∷ later)
second g (headers.Ethernet2 h ∷ later) t e = absurd cc
second g (headers.Ethernet2Fcs h ∷ later) t e = absurd cc
second g (headers.LinuxSll h ∷ later) t e = absurd cc
second g (headers.Macsec h ∷ later) t e = absurd cc
second g (headers.Arp h ∷ later) t e = absurd cc

-- a frame that begins with a tag has it as its outermost one
outermost : (hs : List Header) (g : Ethernet2Value) (t : VlanValue) → first_ethernet2 hs ≡ Some g → outer_tag hs
    ≡ Some t
    → (later : List Header) × (hs ≡ headers.Ethernet2 g ∷ headers.Vlan t ∷ later)
outermost hs g t link tag =
    let a = first hs g link in
    let b = second g a.0 t (ap outer_tag (sym a.1) ∙ tag) in
    (b.0, a.1 ∙ ap (λ (l : List Header). headers.Ethernet2 g ∷ l) b.1)

-- ---- how it leaves

-- with another identifier in its tag
record WasSet (r : Received) (link : Option Ethernet2Value) (tag : Option VlanValue) (front : Result Front Discarded)
    (frame : List ℕ) (hs : List Header) (e : Ending) (sent : List ℕ) : Type 0 where
  g : Ethernet2Value
  t : VlanValue
  link_is : link ≡ Some g
  tag_is : tag ≡ Some t
  typed : nat_eq g.ether_type (tpid_of r.kind) ≡ true
  front_is : front ≡ Ok (record { link = g; tag = Some t })
  sets : SetsTag (start_of starts.Ethernet2) frame hs e 0 (λ (v : VlanValue). record v { vid = r.vlan }) sent

-- with a tag that was put in
record WasPut (r : Received) (link : Option Ethernet2Value) (front : Result Front Discarded)
    (frame : List ℕ) (hs : List Header) (e : Ending) (sent : List ℕ) : Type 0 where
  g : Ethernet2Value
  link_is : link ≡ Some g
  typed : nat_eq g.ether_type (tpid_of r.kind) ≡ false
  front_is : front ≡ Ok (record { link = g; tag = None })
  buffer : List ℕ
  frame_is : drop 4 buffer ≡ frame
  pushed : IsPushed (start_of starts.Ethernet2) buffer hs e (own_tag r) (tpid_of r.kind) sent

-- with its tag taken off
record WasTaken (kind : BridgeKind) (link : Option Ethernet2Value) (tag : Option VlanValue)
    (front : Result Front Discarded) (frame : List ℕ) (hs : List Header) (e : Ending) (sent : List ℕ) : Type 0 where
  g : Ethernet2Value
  t : VlanValue
  link_is : link ≡ Some g
  tag_is : tag ≡ Some t
  front_is : front ≡ Ok (record { link = g; tag = Some t })
  popped_tag : VlanValue
  moved : List ℕ
  popped : IsPopped (start_of starts.Ethernet2) frame hs e popped_tag moved
  sent_is : sent ≡ drop 4 moved

-- as it came
record WasLeft (kind : BridgeKind) (front : Result Front Discarded) (frame sent : List ℕ) : Type 0 where
  g : Ethernet2Value
  front_is : front ≡ Ok (record { link = g; tag = None })
  sent_is : sent ≡ frame

tagged_by : (r : Received) (g : Ethernet2Value) (tag : Option VlanValue) (b : Bool) (frame : List ℕ) (hs : List Header)
    (e : Ending) (sent : List ℕ) → nat_eq g.ether_type (tpid_of r.kind) ≡ b
    → LeavesTagged r (if b then tagged_front g tag else Ok (record { link = g; tag = None })) frame hs e sent
    → WasSet r (Some g) tag (if b then tagged_front g tag else Ok (record { link = g; tag = None })) frame hs e sent
    ⊎ WasPut r (Some g) (if b then tagged_front g tag else Ok (record { link = g; tag = None })) frame hs e sent
tagged_by r g None true frame hs e sent is l = absurd l
tagged_by r g (Some t) true frame hs e sent is l =
    inl (record { g = g; t = t; link_is = refl; tag_is = refl; typed = is; front_is = refl; sets = l })
tagged_by r g tag false frame hs e sent is l =
    inr (record {
      g = g;
      link_is = refl;
      typed = is;
      front_is = refl;
      buffer = l.0;
      frame_is = l.1;
      pushed = l.2;
    })

tagged_how : (r : Received) (link : Option Ethernet2Value) (tag : Option VlanValue) (frame : List ℕ)
    (hs : List Header) (e : Ending) (sent : List ℕ)
    → LeavesTagged r (front_in r.kind link tag) frame hs e sent
    → WasSet r link tag (front_in r.kind link tag) frame hs e sent
    ⊎ WasPut r link (front_in r.kind link tag) frame hs e sent
tagged_how r None tag frame hs e sent l = absurd l
tagged_how r (Some g) tag frame hs e sent l =
    tagged_by r g tag (nat_eq g.ether_type (tpid_of r.kind)) frame hs e sent refl l

untagged_by : (kind : BridgeKind) (g : Ethernet2Value) (tag : Option VlanValue) (b : Bool) (frame : List ℕ)
    (hs : List Header) (e : Ending) (sent : List ℕ)
    → LeavesUntagged (if b then tagged_front g tag else Ok (record { link = g; tag = None })) frame hs e sent
    → WasTaken kind (Some g) tag (if b then tagged_front g tag else Ok (record { link = g; tag = None })) frame hs e
    sent
    ⊎ WasLeft kind (if b then tagged_front g tag else Ok (record { link = g; tag = None })) frame sent
untagged_by kind g None true frame hs e sent l = absurd l
untagged_by kind g (Some t) true frame hs e sent l =
    inl (record {
      g = g;
      t = t;
      link_is = refl;
      tag_is = refl;
      front_is = refl;
      popped_tag = l.0;
      moved = l.1;
      popped = l.2;
      sent_is = l.3;
    })
untagged_by kind g tag false frame hs e sent l = inr (record { g = g; front_is = refl; sent_is = l })

untagged_how : (kind : BridgeKind) (link : Option Ethernet2Value) (tag : Option VlanValue) (frame : List ℕ)
    (hs : List Header) (e : Ending) (sent : List ℕ)
    → LeavesUntagged (front_in kind link tag) frame hs e sent
    → WasTaken kind link tag (front_in kind link tag) frame hs e sent
    ⊎ WasLeft kind (front_in kind link tag) frame sent
untagged_how kind None tag frame hs e sent l = absurd l
untagged_how kind (Some g) tag frame hs e sent l =
    untagged_by kind g tag (nat_eq g.ether_type (tpid_of kind)) frame hs e sent l

-- the identifier is set, and no other bit
set_in : (r : Received) (front : Result Front Discarded) (frame sent : List ℕ) (hs : List Header) (e : Ending)
    → IsBytes frame → Walk (start_of starts.Ethernet2) frame hs e
    → (w : WasSet r (first_ethernet2 hs) (outer_tag hs) front frame hs e sent)
    → (later : List Header)
    × Walk (start_of starts.Ethernet2) sent (headers.Ethernet2 w.g ∷ headers.Vlan (record w.t { vid = r.vlan })
    ∷ later) e
    × SetsVid frame 14 r.vlan sent
set_in r front frame sent hs e ok walk w =
    let begins = outermost hs w.g w.t w.link_is w.tag_is in
    let o : IsOutermost hs 0 w.t = record {
      front = headers.Ethernet2 w.g ∷ [];
      later = begins.0;
      found = record { parts = begins.1; extension = refl; before = refl };
      outermost = refl;
    } in
    let both = sets_outermost (start_of starts.Ethernet2) frame sent hs e 0 w.t r.vlan ok o walk w.sets in
    (begins.0, both.0, both.1)

-- ---- how it begins then

same_link : (hs : List Header) (g : Ethernet2Value) (link : Header) (later : List Header)
    → first_ethernet2 hs ≡ Some g → hs ≡ link ∷ later → link ≡ headers.Ethernet2 g
same_link hs g link later is parts =
    let begins = first hs g is in
    let e : link ∷ later ≡ headers.Ethernet2 g ∷ begins.0 = sym parts ∙ begins.1 in
    cc

-- with a tag that has this identifier, and no second one if there was none
pub record Named (r : Received) (front : Result Front Discarded) (ks : List Header) : Type 0 where
  pub link : Ethernet2Value
  pub tag : VlanValue
  pub tag_is : outer_tag ks ≡ Some tag
  pub front_is : front_of r.kind ks ≡ Ok (record { link = link; tag = Some tag })
  pub vid_is : tag.vid ≡ r.vlan
  pub plain : (f : Front) → front ≡ Ok f → has_second_tag r.kind f ≡ false
      → nat_eq tag.ether_type (tpid_of r.kind) ≡ false

typed_front : (kind : BridgeKind) (g : Ethernet2Value) (t : VlanValue) → nat_eq g.ether_type (tpid_of kind) ≡ true
    → front_in kind (Some g) (Some t) ≡ Ok (record { link = g; tag = Some t })
typed_front kind g t is =
    ap (λ (b : Bool). if b then tagged_front g (Some t) else Ok (record { link = g; tag = None })) is

set_named : (r : Received) (frame sent : List ℕ) (hs ks : List Header) (e f : Ending)
    → IsBytes frame → Walk (start_of starts.Ethernet2) frame hs e → Walk (start_of starts.Ethernet2) sent ks f
    → WasSet r (first_ethernet2 hs) (outer_tag hs) (front_of r.kind hs) frame hs e sent
    → Named r (front_of r.kind hs) ks
set_named r frame sent hs ks e f ok walk found w =
    let x = start_of starts.Ethernet2 in
    let s = set_in r (front_of r.kind hs) frame sent hs e ok walk w in
    let t : VlanValue = record w.t { vid = r.vlan } in
    let now = headers.Ethernet2 w.g ∷ headers.Vlan t ∷ s.0 in
    let same : ks ≡ now = (one_stack sent x (whole x sent) ks now f e found s.1).0 in
    record {
      link = w.g;
      tag = t;
      tag_is = ap outer_tag same;
      front_is = ap (front_of r.kind) same ∙ typed_front r.kind w.g t w.typed;
      vid_is = refl;
      plain = λ it is second.
          let one : Ok (record { link = w.g; tag = Some w.t }) ≡ Ok it = sym w.front_is ∙ is in
          let front : record { link = w.g; tag = Some w.t } ≡ it = cc in
          ap (has_second_tag r.kind) front ∙ second;
    }

put_named : (r : Received) (frame sent : List ℕ) (hs ks : List Header) (e f : Ending)
    → Walk (start_of starts.Ethernet2) sent ks f
    → WasPut r (first_ethernet2 hs) (front_of r.kind hs) frame hs e sent
    → Named r (front_of r.kind hs) ks
put_named r frame sent hs ks e f found w =
    let x = start_of starts.Ethernet2 in
    let p = w.pushed in
    let tpid = tpid_of r.kind in
    let link : p.link ≡ headers.Ethernet2 w.g = same_link hs w.g p.link p.later w.link_is p.begins.parts in
    let v : VlanValue = record (own_tag r) { ether_type = w.g.ether_type } in
    let g : Ethernet2Value = record w.g { ether_type = tpid } in
    let put =
    with_type p.link tpid ∷ headers.Vlan (record (own_tag r) { ether_type = type_of_link p.link }) ∷ p.later in
    let now = headers.Ethernet2 g ∷ headers.Vlan v ∷ p.later in
    let ends = moved_ending (header_len p.link) (header_len p.link + 4) e in
    let same : ks ≡ now =
    (one_stack sent x (whole x sent) ks put f ends found p.walk).0
    ∙ (λ i.
    with_type (link i) tpid ∷ headers.Vlan (record (own_tag r) { ether_type = type_of_link (link i) }) ∷ p.later)
    in
    record {
      link = g;
      tag = v;
      tag_is = ap outer_tag same;
      front_is = ap (front_of r.kind) same ∙ typed_front r.kind g v (eq-eqb tpid tpid refl);
      vid_is = refl;
      plain = λ it is second. w.typed;
    }

-- a frame that leaves with the tag of its VLAN
pub tagged_named : (r : Received) (frame sent : List ℕ) (hs ks : List Header) (e f : Ending)
    → IsBytes frame → Walk (start_of starts.Ethernet2) frame hs e → Walk (start_of starts.Ethernet2) sent ks f
    → LeavesTagged r (front_of r.kind hs) frame hs e sent → Named r (front_of r.kind hs) ks
tagged_named r frame sent hs ks e f ok walk found l =
    elim (tagged_how r (first_ethernet2 hs) (outer_tag hs) frame hs e sent l) [
      | inl w ↦ set_named r frame sent hs ks e f ok walk found w
      | inr w ↦ put_named r frame sent hs ks e f found w
    ]

-- without a tag
pub record Bare (kind : BridgeKind) (ks : List Header) : Type 0 where
  pub link : Ethernet2Value
  pub front_is : front_of kind ks ≡ Ok (record { link = link; tag = None })

bare_front : (kind : BridgeKind) (g : Ethernet2Value) (t : Option VlanValue)
    → nat_eq g.ether_type (tpid_of kind) ≡ false
    → front_in kind (Some g) t ≡ Ok (record { link = g; tag = None })
bare_front kind g t is =
    ap (λ (b : Bool). if b then tagged_front g t else Ok (record { link = g; tag = None })) is

taken_bare : (kind : BridgeKind) (frame sent : List ℕ) (hs ks : List Header) (e f : Ending) (front : Front)
    → Walk (start_of starts.Ethernet2) sent ks f
    → front_of kind hs ≡ Ok front → has_second_tag kind front ≡ false
    → WasTaken kind (first_ethernet2 hs) (outer_tag hs) (front_of kind hs) frame hs e sent → Bare kind ks
taken_bare kind frame sent hs ks e f front found is second w =
    let x = start_of starts.Ethernet2 in
    let p = w.popped in
    let link : p.link ≡ headers.Ethernet2 w.g = same_link hs w.g p.link _ w.link_is p.begins.parts in
    let begins = outermost hs w.g w.t w.link_is w.tag_is in
    let heads : p.link ∷ headers.Vlan w.popped_tag ∷ p.later ≡ headers.Ethernet2 w.g ∷ headers.Vlan w.t ∷ begins.0 =
    sym p.begins.parts ∙ begins.1 in
    let tag : w.popped_tag ≡ w.t = cc in
    let one : Ok (record { link = w.g; tag = Some w.t }) ≡ Ok front = sym w.front_is ∙ is in
    let its : record { link = w.g; tag = Some w.t } ≡ front = cc in
    let typed : nat_eq w.t.ether_type (tpid_of kind) ≡ false = ap (has_second_tag kind) its ∙ second in
    let g : Ethernet2Value = record w.g { ether_type = w.t.ether_type } in
    let now = headers.Ethernet2 g ∷ p.later in
    let popped = with_type p.link w.popped_tag.ether_type ∷ p.later in
    let ends = moved_ending (header_len p.link + 4) (header_len p.link) e in
    let same : ks ≡ now =
    (one_stack sent x (whole x sent) ks popped f ends found
    (subst (λ (l : List ℕ). Walk x l popped ends) (sym w.sent_is) p.walk)).0
    ∙ (λ i. with_type (link i) (tag i).ether_type ∷ p.later) in
    record { link = g; front_is = ap (front_of kind) same ∙ bare_front kind g (outer_tag now) typed }

left_bare : (kind : BridgeKind) (frame sent : List ℕ) (hs ks : List Header) (e f : Ending)
    → Walk (start_of starts.Ethernet2) frame hs e → Walk (start_of starts.Ethernet2) sent ks f
    → WasLeft kind (front_of kind hs) frame sent → Bare kind ks
left_bare kind frame sent hs ks e f walk found w =
    let x = start_of starts.Ethernet2 in
    let same : ks ≡ hs =
    (one_stack sent x (whole x sent) ks hs f e found
    (subst (λ (l : List ℕ). Walk x l hs e) (sym w.sent_is) walk)).0 in
    record { link = w.g; front_is = ap (front_of kind) same ∙ w.front_is }

-- a frame without a second tag that leaves without a tag
pub untagged_bare : (kind : BridgeKind) (frame sent : List ℕ) (hs ks : List Header) (e f : Ending) (front : Front)
    → Walk (start_of starts.Ethernet2) frame hs e → Walk (start_of starts.Ethernet2) sent ks f
    → front_of kind hs ≡ Ok front → has_second_tag kind front ≡ false
    → LeavesUntagged (front_of kind hs) frame hs e sent → Bare kind ks
untagged_bare kind frame sent hs ks e f front walk found is second l =
    elim (untagged_how kind (first_ethernet2 hs) (outer_tag hs) frame hs e sent l) [
      | inl w ↦ taken_bare kind frame sent hs ks e f front found is second w
      | inr w ↦ left_bare kind frame sent hs ks e f walk found w
    ]

-- ---- only tags change

set_kept : (frame sent : List ℕ) (vid : ℕ) → SetsVid frame 14 vid sent → without_tag 4 sent ≡ without_tag 4 frame
set_kept frame sent vid s =
    let front : take 12 sent ≡ take 12 frame =
    ext_get_or 0 (take 12 sent) (take 12 frame) (omega (arith, s.len, length-take 12 sent, length-take 12 frame))
    (λ i lt.
    let n = length-take 12 sent in
    let small : i < 12 = omega (arith, n, lt) in
    get_or-take 12 sent i 0 small ∙ s.others i (λ e. omega (arith, e, small)) (λ e. omega (arith, e, small))
    ∙ sym (get_or-take 12 frame i 0 small)) in
    let rest : drop 16 sent ≡ drop 16 frame =
    ext_get_or 0 (drop 16 sent) (drop 16 frame) (omega (arith, s.len, length-drop 16 sent, length-drop 16 frame))
    (λ i lt.
    get_or-drop 16 sent i 0 ∙ s.others (16 + i) (λ e. omega (arith, e)) (λ e. omega (arith, e))
    ∙ sym (get_or-drop 16 frame i 0)) in
    λ i. front i ++ rest i

put_kept : (r : Received) (front : Result Front Discarded) (frame sent : List ℕ) (hs : List Header) (e : Ending)
    → Walk (start_of starts.Ethernet2) frame hs e → WasPut r (first_ethernet2 hs) front frame hs e sent
    → without_tag 4 sent ≡ without_tag 0 frame
put_kept r front frame sent hs e walk w =
    let p = w.pushed in
    let x = start_of starts.Ethernet2 in
    let tpid = tpid_of r.kind in
    let len : header_len p.link ≡ 14 = ap header_len (same_link hs w.g p.link p.later w.link_is p.begins.parts) in
    let room =
    header_inside x frame [] p.link p.later e (subst (λ (l : List Header). Walk x frame l e) p.begins.parts walk) in
    let frame_len = ap length w.frame_is in
    let buffer_len = length-drop 4 w.buffer in
    let vlan_len = length-spelled 4 (vlan_number (own_tag r)) in
    let till : header_len p.link + 2 ≡ 16 = omega (arith, len) in
    let is : IsInserted (drop 4 w.buffer) sent (spelled 2 tpid) (slice_range (vlan_bytes (own_tag r)) 0 2) 12 =
    is_inserted w.buffer sent (spelled 2 tpid) (slice_range (vlan_bytes (own_tag r)) 0 2) 12 (length-spelled 2 tpid)
    (length-part (vlan_bytes (own_tag r)) 0 2 (omega arith))
    (omega arith)
    (p.bytes ∙ ap (λ (k : ℕ). overwritten w.buffer 0 (slice_range w.buffer 4 k ++ pushed_bytes tpid (own_tag r)))
    till) in
    let begin : take 12 sent ≡ take 12 (drop 4 w.buffer) =
    sym (between_from_start sent 12) ∙ is.front ∙ between_from_start (drop 4 w.buffer) 12 in
    (λ i. begin i ++ is.rest i) ∙ ap (without_tag 0) w.frame_is

taken_kept : (kind : BridgeKind) (front : Result Front Discarded) (frame sent : List ℕ) (hs : List Header) (e : Ending)
    → Walk (start_of starts.Ethernet2) frame hs e
    → WasTaken kind (first_ethernet2 hs) (outer_tag hs) front frame hs e sent
    → without_tag 0 sent ≡ without_tag 4 frame
taken_kept kind front frame sent hs e walk w =
    let p = w.popped in
    let x = start_of starts.Ethernet2 in
    let len : header_len p.link ≡ 14 = ap header_len (same_link hs w.g p.link _ w.link_is p.begins.parts) in
    let room =
    header_inside x frame (p.link ∷ []) (headers.Vlan w.popped_tag) p.later e
    (subst (λ (l : List Header). Walk x frame l e) p.begins.parts walk) in
    let twelve : header_len p.link - 2 ≡ 12 = omega (arith, len) in
    take-append-drop 12 sent ∙ w.sent_is
    ∙ ap (drop 4) (p.bytes ∙ ap (λ (k : ℕ). overwritten frame 4 (take k frame)) twelve)
    ∙ popped_list frame 12 (omega arith)

-- the length of the tag that it had
len_is : (front : Result Front Discarded) (f : Front) (n : ℕ) (sent frame : List ℕ) (m : ℕ) → front ≡ Ok f
    → tag_len (Ok f) ≡ n → without_tag m sent ≡ without_tag n frame
    → without_tag m sent ≡ without_tag (tag_len front) frame
len_is front f n sent frame m is len kept =
    kept ∙ ap (λ (j : ℕ). without_tag j frame) (sym (ap tag_len is ∙ len))

pub only_tags_change : OnlyTagsChange
only_tags_change = record {
  tagged = λ r frame sent hs e ok walk l.
      let front = front_of r.kind hs in
      elim (tagged_how r (first_ethernet2 hs) (outer_tag hs) frame hs e sent l) [
        | inl w ↦
            len_is front _ 4 sent frame 4 w.front_is refl
            (set_kept frame sent r.vlan (set_in r front frame sent hs e ok walk w).2)
        | inr w ↦ len_is front _ 0 sent frame 4 w.front_is refl (put_kept r front frame sent hs e walk w)
      ];
  untagged = λ r frame sent hs e ok walk l.
      let front = front_of r.kind hs in
      elim (untagged_how r.kind (first_ethernet2 hs) (outer_tag hs) frame hs e sent l) [
        | inl w ↦
            len_is front _ 4 sent frame 0 w.front_is refl (taken_kept r.kind front frame sent hs e walk w)
        | inr w ↦ len_is front _ 0 sent frame 0 w.front_is refl (ap (without_tag 0) w.sent_is)
      ];
}
