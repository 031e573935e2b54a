-- A VLAN tag is taken off, put in or changed, or that is refused.
use Rattle.std.proofs.Common.{◌≡◌, ◌≢◌, ℕ, suc, ◌+◌, ◌-◌, ◌<◌, ◌≤◌, List, [], ◌∷◌, ◌++◌, length, take, drop, refl, sym, ap, subst, ◌∙◌, arith, inl, inr, Bool, true, false, ◌⊎◌, rules}
use Rattle.std.specs.Prelude.{slice_range, ◌==◌, if◌then◌else◌}
use Rattle.std.proofs.lemmas.Bool.{eqb-true, eqb-false}
use Rattle.std.proofs.lemmas.List.{length-append, length-take-le}
use Rattle.std.proofs.lemmas.List.Elements.{All-nil}
use Rattle.etherparse.specs.Bytes.{IsBytes, spelled, overwritten}
use Rattle.etherparse.specs.Vlan.{VlanValue, FitsVlan, IsVlan, is_vlan_ether_type, vlan_bytes, vlan_number}
use Rattle.etherparse.specs.Header.{Header, kind_of, header_len}
use Rattle.etherparse.specs.Header as headers
use Rattle.etherparse.specs.LinuxSll.{LinuxSllValue}
use Rattle.etherparse.specs.LinuxSllProtocolType.{link_protocol_of}
use Rattle.etherparse.proofs.Numbers.{length-spelled}
use Rattle.etherparse.proofs.SubLists.{length-part}
use Rattle.ether_peel.specs.Grammar.Expectation.{Expectation, EtherType, Sll, next_after}
use Rattle.ether_peel.specs.Grammar.Places.{place}
use Rattle.ether_peel.specs.Grammar.Stack.{Ending, whole, Walk}
use Rattle.ether_peel.specs.Walker.Start.{start_of}
use Rattle.ether_peel.specs.declared.start.Start.{Start}
use Rattle.ether_peel.proofs.Grammar.Cleared.{whole_in}
use Rattle.ether_packet.specs.declared.tag_error.TagError.{TagError}
use Rattle.ether_packet.specs.declared.tag_error.TagError.TheVariants as errors
use Rattle.ether_packet.specs.ReplacingLink.{is_link}
use Rattle.ether_packet.specs.Replacing.{ext_count}
use Rattle.ether_packet.specs.Setting.{LacksVlan, FindsVlan, SetsTag}
use Rattle.ether_packet.specs.TypedLink.{type_of_link, BeginsTyped, RefusesTyped, no_link, hardware_type}
use Rattle.ether_packet.specs.Popping.{IsPopped, RefusesPop, no_vlan, cut_vlan}
use Rattle.ether_packet.specs.Popping as popping
use Rattle.ether_packet.specs.Pushing.{IsPushed, RefusesPush, pushed_bytes, other_tpid}
use Rattle.ether_packet.specs.Pushing as pushing
use Rattle.ether_packet.proofs.FindVlan.{lacks_append, lacks_tag}
use Rattle.ether_packet.proofs.Popped.{is_popped}
use Rattle.ether_packet.proofs.Pushed.{is_pushed}
use Rattle.ether_packet.proofs.Replaced.{header_inside, length-overwritten, replaced_walk}
use Rattle.ether_packet.proofs.TypedLinks.{link_least, means_whole_list}
use Rattle.ether_packet.proofs.VlanIds.{own_bytes}

-- ---- the link

record HasTyped (hs : List Header) : Type 0 where
  link : Header
  later : List Header
  begins : BeginsTyped hs link later

captured_typed : (s : LinuxSllValue) (later : List Header) (b : Bool) → (s.hardware_type == 1) ≡ b
    → HasTyped (headers.LinuxSll s ∷ later)
    ⊎ ((error : TagError) × RefusesTyped (headers.LinuxSll s ∷ later) error)
captured_typed s later true is =
    inl (record {
      link = headers.LinuxSll s;
      later = later;
      begins = record {
        parts = refl;
        is_link = refl;
        typed =
            λ i. if is i then EtherType s.protocol else Sll (link_protocol_of s.hardware_type s.protocol);
      };
    })
captured_typed s later false is =
    inr (
      errors.HardwareType (record { 0 = s.hardware_type }),
      hardware_type s later refl (λ one. let both : true ≡ false = sym (ap (λ (n : ℕ). n == 1) one) ∙ is in absurd cc),
    )

typed_or_not : (hs : List Header) → HasTyped hs ⊎ ((error : TagError) × RefusesTyped hs error)
typed_or_not (headers.Ethernet2 e ∷ later) = search rules
typed_or_not (headers.Ethernet2Fcs e ∷ later) = search rules
typed_or_not (headers.LinuxSll s ∷ later) = captured_typed s later (s.hardware_type == 1) refl
typed_or_not hs = inr (errors.NoLink, no_link refl)

-- ---- a tag that is taken off

pub record Popped (start : Start) (old : List ℕ) (hs : List Header) (e : Ending) : Type 0 where
  pub tag : VlanValue
  pub new : List ℕ
  pub is : IsPopped (start_of start) old hs e tag new
  pub len : length new ≡ length old

-- what follows a type that announces a tag is one
follows_type : (start : Start) (old : List ℕ) (link g : Header) (later : List Header) (e : Ending)
    → is_link (kind_of link) ≡ true → next_after link ≡ EtherType (type_of_link link)
    → is_vlan_ether_type (type_of_link link) ≡ true → Walk (start_of start) old (link ∷ g ∷ later) e
    → (v : VlanValue) × (g ≡ headers.Vlan v)
follows_type start old link g later e linked typed is walk = search rules

popped_tag : (start : Start) (old : List ℕ) (hs : List Header) (e : Ending) (link : Header) (v : VlanValue)
    (later : List Header) (m : ℕ)
    → IsBytes old → BeginsTyped hs link (headers.Vlan v ∷ later) → header_len link ≡ m + 2
    → Walk (start_of start) old hs e → Popped start old hs e
popped_tag start old hs e link v later m ok begins len walk =
    let x = start_of start in
    let split = subst (λ (l : List Header). Walk x old l e) begins.parts walk in
    let room = header_inside x old (link ∷ []) (headers.Vlan v) later e split in
    let own = own_bytes old x (whole x old) (link ∷ []) (headers.Vlan v) later e (whole_in x old) split in
    let from : 0 + header_len link ≡ m + 2 = omega (arith, len) in
    let till : 0 + header_len link + 4 ≡ m + 6 = omega (arith, len) in
    let front = length-take-le m old (omega (arith, room, len)) in
    let new = overwritten old 4 (take m old) in
    record {
      tag = v;
      new = new;
      is =
          is_popped start old new hs e (header_len link) m v ok
          (record { link = link; tag = v; later = later; begins = begins; place = refl }) len (omega (arith, room)) refl
          (subst (λ (l : List ℕ). IsVlan l v) (λ i. slice_range old (from i) (till i)) own) walk;
      len = length-overwritten old (take m old) 4 (omega (arith, front, room, len));
    }

popped_typed : (start : Start) (old : List ℕ) (hs : List Header) (e : Ending) (link : Header) (later : List Header)
    (b : Bool)
    → IsBytes old → BeginsTyped hs link later → is_vlan_ether_type (type_of_link link) ≡ b
    → Walk (start_of start) old hs e → Popped start old hs e ⊎ ((error : TagError) × RefusesPop hs error)
popped_typed start old hs e link later false ok begins is walk = inr (errors.NoVlan, no_vlan link later begins is)
popped_typed start old hs e link [] true ok begins is walk = inr (errors.CutVlan, cut_vlan link begins is)
popped_typed start old hs e link (g ∷ later) true ok begins is walk =
    let split = subst (λ (l : List Header). Walk (start_of start) old l e) begins.parts walk in
    let tag = follows_type start old link g later e begins.is_link begins.typed is split in
    let least = link_least link begins.is_link in
    inl (popped_tag start old hs e link tag.0 later (header_len link - 2) ok
    (subst (λ (h : Header). BeginsTyped hs link (h ∷ later)) tag.1 begins) (omega (arith, least)) walk)

pub popped_or_not : (start : Start) (old : List ℕ) (hs : List Header) (e : Ending) → IsBytes old
    → Walk (start_of start) old hs e → Popped start old hs e ⊎ ((error : TagError) × RefusesPop hs error)
popped_or_not start old hs e ok walk =
    elim (typed_or_not hs) [
      | inl t ↦ popped_typed start old hs e t.link t.later (is_vlan_ether_type (type_of_link t.link)) ok t.begins refl
          walk
      | inr r ↦ inr (r.0, popping.link r.0 r.1)
    ]

-- ---- a tag that is put in

pub record Pushed (start : Start) (buffer : List ℕ) (hs : List Header) (e : Ending) (tag : VlanValue) (tpid : ℕ)
    : Type 0 where
  pub new : List ℕ
  pub is : IsPushed (start_of start) buffer hs e tag tpid new
  pub len : length new ≡ length buffer
  pub least : 14 ≤ length (drop 4 buffer)

pushed_tag : (start : Start) (old : List ℕ) (hs : List Header) (e : Ending) (tag : VlanValue) (tpid : ℕ) (link : Header)
    (later : List Header) (m : ℕ)
    → IsBytes (0 ∷ 0 ∷ 0 ∷ 0 ∷ old) → FitsVlan tag → is_vlan_ether_type tpid ≡ true → BeginsTyped hs link later
    → header_len link ≡ m + 2 → Walk (start_of start) old hs e → Pushed start (0 ∷ 0 ∷ 0 ∷ 0 ∷ old) hs e tag tpid
pushed_tag start old hs e tag tpid link later m ok fits announces begins len walk =
    let x = start_of start in
    let buffer : List ℕ = 0 ∷ 0 ∷ 0 ∷ 0 ∷ old in
    let split = subst (λ (l : List Header). Walk x old l e) begins.parts walk in
    let room : header_len link ≤ length old = (means_whole_list x old link split.0).whole in
    let least = link_least link begins.is_link in
    let bytes = slice_range buffer 4 (4 + m) ++ pushed_bytes tpid tag in
    let new = overwritten buffer 0 bytes in
    let front = length-part buffer 4 (4 + m) (omega (arith, room, len)) in
    let two = length-spelled 2 tpid in
    let four = length-spelled 4 (vlan_number tag) in
    let last = length-part (vlan_bytes tag) 0 2 (omega (arith, four)) in
    let both = length-append (spelled 2 tpid) (slice_range (vlan_bytes tag) 0 2) in
    let all = length-append (slice_range buffer 4 (4 + m)) (pushed_bytes tpid tag) in
    record {
      new = new;
      is =
          is_pushed start buffer new hs e (header_len link) m tag tpid ok
          (record { link = link; later = later; begins = begins; place = refl }) len (omega (arith, room)) fits
          announces refl walk;
      len = length-overwritten buffer bytes 0 (omega (arith, front, two, last, both, all, room, len));
      least = omega (arith, room, least);
    }

free_bytes : (old : List ℕ) → IsBytes old → IsBytes (0 ∷ 0 ∷ 0 ∷ 0 ∷ old)
free_bytes old ok (suc (suc (suc (suc i)))) = ok i
free_bytes old ok h = omega arith

pushed_announced : (start : Start) (old : List ℕ) (hs : List Header) (e : Ending) (tag : VlanValue) (tpid : ℕ)
    (b : Bool)
    → IsBytes old → FitsVlan tag → is_vlan_ether_type tpid ≡ b → Walk (start_of start) old hs e
    → Pushed start (0 ∷ 0 ∷ 0 ∷ 0 ∷ old) hs e tag tpid
    ⊎ ((error : TagError) × RefusesPush (0 ∷ 0 ∷ 0 ∷ 0 ∷ old) hs tpid error)
pushed_announced start old hs e tag tpid false ok fits is walk = inr (errors.Tpid (record { 0 = tpid }), other_tpid is)
pushed_announced start old hs e tag tpid true ok fits is walk =
    elim (typed_or_not hs) [
      | inl t ↦
          let least = link_least t.link t.begins.is_link in
          inl (pushed_tag start old hs e tag tpid t.link t.later (header_len t.link - 2) (free_bytes old ok) fits is
          t.begins (omega (arith, least)) walk)
      | inr r ↦ inr (r.0, pushing.link r.0 is (omega arith) r.1)
    ]

pub pushed_or_not : (start : Start) (old : List ℕ) (hs : List Header) (e : Ending) (tag : VlanValue) (tpid : ℕ)
    → IsBytes old → FitsVlan tag → Walk (start_of start) old hs e
    → Pushed start (0 ∷ 0 ∷ 0 ∷ 0 ∷ old) hs e tag tpid
    ⊎ ((error : TagError) × RefusesPush (0 ∷ 0 ∷ 0 ∷ 0 ∷ old) hs tpid error)
pushed_or_not start old hs e tag tpid ok fits walk =
    pushed_announced start old hs e tag tpid (is_vlan_ether_type tpid) ok fits refl walk

-- ---- a tag that gets another identifier

abbrev Found : List Header → (vid : ℕ) → Type 0
Found hs vid = (i : ℕ) × FindsVlan hs vid i

found_later : (h : Header) (hs : List Header) (vid : ℕ) → LacksVlan (h ∷ []) vid → Found hs vid ⊎ LacksVlan hs vid
    → Found (h ∷ hs) vid ⊎ LacksVlan (h ∷ hs) vid
found_later h hs vid one (inr none) = inr (lacks_append (h ∷ []) hs vid one none)
found_later h hs vid one (inl (i, f)) =
    inl (
      ext_count (h ∷ f.front),
      record {
        front = h ∷ f.front;
        tag = f.tag;
        later = f.later;
        found = record {
          parts = ap (λ (l : List Header). h ∷ l) f.found.parts;
          extension = refl;
          before = refl;
        };
        has = f.has;
        outermost = lacks_append (h ∷ []) f.front vid one f.outermost;
      },
    )

found_tag : (v : VlanValue) (hs : List Header) (vid : ℕ) (b : Bool) → (v.vid == vid) ≡ b
    → Found hs vid ⊎ LacksVlan hs vid → Found (headers.Vlan v ∷ hs) vid ⊎ LacksVlan (headers.Vlan v ∷ hs) vid
found_tag v hs vid true is others =
    inl (
      0,
      record {
        front = [];
        tag = v;
        later = hs;
        found = record { parts = refl; extension = refl; before = refl };
        has = eqb-true v.vid vid is;
        outermost = All-nil (λ (id : ℕ). id ≢ vid);
      },
    )
found_tag v hs vid false is others =
    found_later (headers.Vlan v) hs vid (lacks_tag v vid (eqb-false v.vid vid is)) others

pub found_or_not : (hs : List Header) (vid : ℕ) → Found hs vid ⊎ LacksVlan hs vid
found_or_not [] vid = inr (All-nil (λ (id : ℕ). id ≢ vid))
found_or_not (headers.Vlan v ∷ hs) vid = found_tag v hs vid (v.vid == vid) refl (found_or_not hs vid)
found_or_not (headers.Ethernet2 e ∷ hs) vid =
    found_later (headers.Ethernet2 e) hs vid (All-nil (λ (id : ℕ). id ≢ vid)) (found_or_not hs vid)
found_or_not (headers.Ethernet2Fcs e ∷ hs) vid =
    found_later (headers.Ethernet2Fcs e) hs vid (All-nil (λ (id : ℕ). id ≢ vid)) (found_or_not hs vid)
found_or_not (headers.LinuxSll s ∷ hs) vid =
    found_later (headers.LinuxSll s) hs vid (All-nil (λ (id : ℕ). id ≢ vid)) (found_or_not hs vid)
found_or_not (headers.Macsec m ∷ hs) vid =
    found_later (headers.Macsec m) hs vid (All-nil (λ (id : ℕ). id ≢ vid)) (found_or_not hs vid)
found_or_not (headers.Arp a ∷ hs) vid =
    found_later (headers.Arp a) hs vid (All-nil (λ (id : ℕ). id ≢ vid)) (found_or_not hs vid)

pub record Set (start : Expectation) (old : List ℕ) (hs : List Header) (e : Ending) (i vid : ℕ) : Type 0 where
  pub new : List ℕ
  pub is : SetsTag start old hs e i (λ (v : VlanValue). record v { vid = vid }) new
  pub len : length new ≡ length old

-- the tag that was found can be set
pub set_found : (start : Expectation) (old : List ℕ) (hs : List Header) (e : Ending) (vid i new_vid : ℕ)
    → new_vid < 4096 → FindsVlan hs vid i → Walk start old hs e → Set start old hs e i new_vid
set_found start old hs e vid i new_vid lt f walk =
    let v = f.tag in
    let w : VlanValue = record v { vid = new_vid } in
    let split = subst (λ (l : List Header). Walk start old l e) f.found.parts walk in
    let own = own_bytes old start (whole start old) f.front (headers.Vlan v) f.later e (whole_in start old) split in
    let fits : FitsVlan w = record {
      pcp = own.fits.pcp;
      dei = own.fits.dei;
      vid = lt;
      ether_type = own.fits.ether_type;
    } in
    let room = header_inside start old f.front (headers.Vlan v) f.later e split in
    let four = length-spelled 4 (vlan_number w) in
    record {
      new = overwritten old (place 0 f.front) (vlan_bytes w);
      is = record {
        front = f.front;
        tag = v;
        later = f.later;
        found = f.found;
        bytes = refl;
        walk = replaced_walk start old f.front (headers.Vlan v) (headers.Vlan w) f.later e refl fits tt split;
      };
      len = length-overwritten old (vlan_bytes w) (place 0 f.front) (omega (arith, room, four));
    }
