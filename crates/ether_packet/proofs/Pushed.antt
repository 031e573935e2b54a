-- A VLAN tag that is put in in place: the walk of the frame with it.
use Rattle.std.proofs.Common.{◌≡◌, ℕ, ◌+◌, ◌-◌, ◌*◌, ◌^◌, ◌<◌, ◌≤◌, List, [], ◌∷◌, ◌++◌, length, take, drop, get_or, refl, sym, ap, subst, ◌∙◌, arith, append_assoc, Bool, true, false, rules}
use Rattle.std.specs.Prelude.{slice_range, None, ◌==◌, ◌||◌}
use Rattle.std.proofs.lemmas.List.{drop_at, drop-drop, take_all, take_at, length-append, length-drop, length-take-le}
use Rattle.std.proofs.lemmas.Bool.{eqb-true}
use Rattle.etherparse.specs.Types.LenSource.TheVariants as sources
use Rattle.etherparse.specs.Bytes.{IsBytes, number, spelled, overwritten}
use Rattle.etherparse.specs.Vlan.{VlanValue, FitsVlan, IsVlan, is_vlan_ether_type, vlan_bytes, vlan_number}
use Rattle.etherparse.specs.Header.{Header, kind_of, header_len}
use Rattle.etherparse.specs.Header as headers
use Rattle.etherparse.specs.Refusal as rows
use Rattle.etherparse.proofs.Numbers.{IsBytes-spelled, length-spelled, number-spelled}
use Rattle.etherparse.proofs.ArrayElements.{cells-is}
use Rattle.etherparse.proofs.SubLists.{IsBytes-drop, length-part, number-part_below, number-part_join, part_after_front, part_all}
use Rattle.etherparse.proofs.Rows.{at_least, accepts_vlan}
use Rattle.etherparse.proofs.ReadBack.{spells-header_bytes}
use Rattle.ether_peel.specs.Grammar.Window.{Window, within, payload}
use Rattle.ether_peel.specs.Grammar.Expectation.{Next, EtherType, next_after, has_fcs}
use Rattle.ether_peel.specs.Grammar.Places.{moved_ending}
use Rattle.ether_peel.specs.Grammar.Stack.{Ending, IsUnit, Stack, whole, Walk}
use Rattle.ether_peel.specs.Walker.Start.{start_of}
use Rattle.ether_peel.specs.declared.start.Start.{Start}
use Rattle.ether_packet.specs.declared.typed_link.TypedLink.{TypedLink}
use Rattle.ether_packet.specs.ReplacingLink.{is_link}
use Rattle.ether_packet.specs.TypedLink.{type_of_link, with_type, link_len, IsTypedLink}
use Rattle.ether_packet.specs.Pushing.{pushed_bytes, IsLinked, IsPushed}
use Rattle.ether_packet.proofs.Replaced.{front_is}
use Rattle.ether_packet.proofs.TypedLinks.{retyped_unit, moved_rest, announces_kept, announced_vlan, link_type_read, means_whole_list}
use Rattle.ether_packet.proofs.Popped.{front_kept, tag_numbers}

-- ---- the bytes

-- two pieces written one after the other
pub two_written : (old a b : List ℕ) (m : ℕ) → length a ≡ m → m + length b ≤ length old
    → overwritten (overwritten old 0 a) m b ≡ overwritten old 0 (a ++ b)
two_written old a b m len le =
    let more = drop (0 + length a) old in
    let sum = length-append a b in
    let from : 0 + length a + length b ≡ 0 + length (a ++ b) = omega arith in
    let tail : drop (m + length b) (a ++ more) ≡ drop (0 + length (a ++ b)) old =
    sym (drop-drop (length b) m (a ++ more)) ∙ ap (drop (length b)) (drop_at a more m len)
    ∙ drop-drop (length b) (0 + length a) old ∙ ap (λ (n : ℕ). drop n old) from in
    λ i. take_at a more m len i ++ b ++ tail i

-- the first m bytes of a list, four others after them, and the rest of it
pub record IsInserted (old new first second : List ℕ) (m : ℕ) : Type 0 where
  pub front : slice_range new 0 m ≡ slice_range old 0 m
  pub tpid : slice_range new m (m + 2) ≡ first
  pub control : slice_range new (m + 2) (m + 4) ≡ second
  pub rest : drop (m + 4) new ≡ drop m old

pub is_inserted : (buffer new p c : List ℕ) (m : ℕ) → length p ≡ 2 → length c ≡ 2 → m + 4 ≤ length buffer
    → new ≡ overwritten buffer 0 (slice_range buffer 4 (4 + m) ++ (p ++ c)) → IsInserted (drop 4 buffer) new p c m
is_inserted buffer new p c m two two_more le bytes =
    let old = drop 4 buffer in
    let n = length-drop 4 buffer in
    let a = take m old in
    let less : 4 + m - 4 ≡ m = omega arith in
    let len : length a ≡ m = length-take-le m old (omega arith) in
    let all : length (a ++ (p ++ c)) ≡ m + 4 =
    length-append a (p ++ c) ∙ (λ i. len i + length-append p c i) ∙ (λ i. m + (two i + two_more i)) in
    let from : 0 + length (a ++ (p ++ c)) ≡ 4 + m = omega (arith, all) in
    let tail = ap (λ (k : ℕ). drop k buffer) from ∙ sym (drop-drop m 4 buffer) in
    let is : new ≡ a ++ (p ++ c) ++ drop m old =
    bytes ∙ (λ i. overwritten buffer 0 (take (less i) old ++ (p ++ c))) ∙ (λ i. a ++ (p ++ c) ++ tail i) in
    let by_tpid : new ≡ a ++ p ++ (c ++ drop m old) =
    is ∙ (λ i. sym (append_assoc a p c) i ++ drop m old) ∙ append_assoc (a ++ p) c (drop m old) in
    let by_control : new ≡ a ++ p ++ c ++ drop m old = is ∙ (λ i. sym (append_assoc a p c) i ++ drop m old) in
    let begun : length (a ++ p) ≡ m + 2 = length-append a p ∙ (λ i. len i + two i) in
    let till : length (a ++ p ++ c) ≡ m + 4 = length-append (a ++ p) c ∙ (λ i. begun i + two_more i) ∙ omega arith in
    search (rules, append_assoc, front_kept, part_after_front, drop_at)

-- ---- the tag

-- the tag control information of a tag is the number of its first two bytes
control_number : (v : VlanValue) → FitsVlan v
    → number (slice_range (vlan_bytes v) 0 2) ≡ v.pcp * 2 ^ 13 + v.dei * 2 ^ 12 + v.vid
control_number v fits =
    let bytes = vlan_bytes v in
    let len : length bytes ≡ 4 = length-spelled 4 (vlan_number v) in
    let spells : IsVlan bytes v = spells-header_bytes (headers.Vlan v) fits in
    (tag_numbers bytes 0 v (IsBytes-spelled 4 (vlan_number v)) (omega arith)
    (subst (λ (l : List ℕ). IsVlan l v) (sym (part_all bytes 4 (omega arith))) spells)).0

-- the list has a tag of a type after its first m + 2 bytes, and then what another one has after those
record PushedRest (old new : List ℕ) (m : ℕ) (tag : VlanValue) (tpid t : ℕ) : Type 0 where
  pub len : length new ≡ length old + 4
  pub number : number (slice_range new m (m + 2)) ≡ tpid
  pub spells : IsVlan (slice_range new (m + 2) (m + 6)) (record tag { ether_type = t })
  pub rest : drop (m + 6) new ≡ drop (m + 2) old

pushed_rest : (old new : List ℕ) (m : ℕ) (tag : VlanValue) (tpid t : ℕ) → IsBytes old → m + 2 ≤ length old
    → FitsVlan tag → tpid < 2 ^ 16 → number (slice_range old m (m + 2)) ≡ t
    → IsInserted old new (spelled 2 tpid) (slice_range (vlan_bytes tag) 0 2) m → PushedRest old new m tag tpid t
pushed_rest old new m tag tpid t ok le fits lt type is =
    let a = length-drop m old in
    let b = length-drop (m + 4) new in
    let c : length (drop (m + 4) new) ≡ length (drop m old) = ap length is.rest in
    let two : m + 2 - m ≡ 2 = omega arith in
    let last_two : m + 6 - (m + 4) ≡ 2 = omega arith in
    let six : m + 4 + 2 ≡ m + 6 = omega arith in
    let below : number (slice_range old m (m + 2)) < 65536 =
    subst (λ (k : ℕ). number (slice_range old m (m + 2)) < 256 ^ k) two (number-part_below old m (m + 2) ok le) in
    let next : slice_range new (m + 4) (m + 6) ≡ slice_range old m (m + 2) =
    λ i. take ((last_two ∙ sym two) i) (is.rest i) in
    let low : number (slice_range new (m + 4) (m + 6)) ≡ t = ap number next ∙ type in
    let high = ap number is.control ∙ control_number tag fits in
    let len : length new ≡ length old + 4 = omega arith in
    let join : number (slice_range new (m + 2) (m + 6))
    ≡ number (slice_range new (m + 2) (m + 4)) * 65536 + number (slice_range new (m + 4) (m + 6)) =
    number-part_join new (m + 2) (m + 4) (m + 6) (omega arith) (omega arith) (omega arith)
    ∙ ap
    (λ (k : ℕ). number (slice_range new (m + 2) (m + 4)) * 256 ^ k + number (slice_range new (m + 4) (m + 6)))
    last_two in
    record {
      len = len;
      number = ap number is.tpid ∙ number-spelled 2 tpid lt;
      spells =
          record {
            sum = omega arith;
            fits = record { pcp = fits.pcp; dei = fits.dei; vid = fits.vid; ether_type = omega arith };
          };
      rest =
          ap (λ (k : ℕ). drop k new) (sym six) ∙ sym (drop-drop 2 (m + 4) new) ∙ ap (drop 2) is.rest
          ∙ drop-drop 2 m old;
    }

-- a tag at the start of a window
tag_unit : (list : List ℕ) (w : Window) (tpid : ℕ) (tag : VlanValue) → is_vlan_ether_type tpid ≡ true
    → w.start + 4 ≤ w.finish → w.finish ≤ length list → IsVlan (slice_range list w.start (w.start + 4)) tag
    → IsUnit list (record { next = EtherType tpid; limit = None }) w (headers.Vlan tag)
tag_unit list w tpid tag announces le inside spells =
    let len = length-part list w.start w.finish inside in
    let whole : 4 ≤ length (within list w) = omega arith in
    search (rules, announced_vlan, accepts_vlan, front_is)

-- ---- the walk

pub pushed_walk : (start : Start) (old new : List ℕ) (link : Header) (tag : VlanValue) (tpid : ℕ) (later : List Header)
    (e : Ending)
    → IsBytes old → is_link (kind_of link) ≡ true → next_after link ≡ EtherType (type_of_link link) → FitsVlan tag
    → tpid < 2 ^ 16 → is_vlan_ether_type tpid ≡ true
    → IsInserted old new (spelled 2 tpid) (slice_range (vlan_bytes tag) 0 2) (header_len link - 2)
    → Walk (start_of start) old (link ∷ later) e
    → Walk (start_of start) new
    (with_type link tpid ∷ headers.Vlan (record tag { ether_type = type_of_link link }) ∷ later)
    (moved_ending (header_len link) (header_len link + 4) e)
pushed_walk start old new (headers.Ethernet2 l) tag tpid later e ok link typed fits lt announces is s =
    let x = start_of start in
    let h = headers.Ethernet2 l in
    let t = l.ether_type in
    let m = means_whole_list x old h s.0 in
    let here = m.whole in
    let p = pushed_rest old new 12 tag tpid t ok (omega arith) fits lt (link_type_read old h ok link m) is in
    let n = p.len in (
      retyped_unit x old new h tpid ok link s.0 (omega arith)
          (record { front = is.front; number = p.number; fits = lt }),
      (
        tag_unit new (payload (whole x new) (with_type h tpid)) tpid (record tag { ether_type = t }) announces
            (omega arith) (omega arith) p.spells,
        moved_rest old new 14 18 (length old - 0) (length new - 0 - 0) 0 (has_fcs x) sources.Slice
            (record { next = EtherType t; limit = None }) later e p.rest (omega arith) (omega arith) (omega arith)
            (omega arith) s.1,
      ),
    )
pushed_walk start old new (headers.Ethernet2Fcs l) tag tpid later e ok link typed fits lt announces is s =
    let x = start_of start in
    let h = headers.Ethernet2Fcs l in
    let t = l.ether_type in
    let m = means_whole_list x old h s.0 in
    let here = m.whole in
    let all = length-part old 0 (length old) (omega arith) in
    let with_fcs =
    at_least (length (within old (whole x old))) 18
    (λ (lt : length (within old (whole x old)) < 18). s.0.accepted _ (rows.ethernet2_fcs lt)) in
    let p = pushed_rest old new 12 tag tpid t ok (omega arith) fits lt (link_type_read old h ok link m) is in
    let n = p.len in (
      retyped_unit x old new h tpid ok link s.0 (omega arith)
          (record { front = is.front; number = p.number; fits = lt }),
      (
        tag_unit new (payload (whole x new) (with_type h tpid)) tpid (record tag { ether_type = t }) announces
            (omega arith) (omega arith) p.spells,
        moved_rest old new 14 18 (length old - 4) (length new - 4 - 0) 4 (has_fcs x) sources.Slice
            (record { next = EtherType t; limit = None }) later e p.rest (omega arith) (omega arith) (omega arith)
            (omega arith) s.1,
      ),
    )
pushed_walk start old new (headers.LinuxSll l) tag tpid later e ok link typed fits lt announces is s =
    let x = start_of start in
    let h = headers.LinuxSll l in
    let t = l.protocol in
    let m = means_whole_list x old h s.0 in
    let here = m.whole in
    let p = pushed_rest old new 14 tag tpid t ok (omega arith) fits lt (link_type_read old h ok link m) is in
    let n = p.len in
    let old_rest =
    subst (λ (k : Next). Stack old (record { next = k; limit = None }) (payload (whole x old) h) later e) typed
    s.1 in
    let unit =
    tag_unit new (payload (whole x new) (with_type h tpid)) tpid (record tag { ether_type = t }) announces
    (omega arith) (omega arith) p.spells in (
      retyped_unit x old new h tpid ok link s.0 (omega arith)
          (record { front = is.front; number = p.number; fits = lt }),
      (
        subst
            (λ (k : Next).
            IsUnit new (record { next = k; limit = None }) (payload (whole x new) (with_type h tpid))
            (headers.Vlan (record tag { ether_type = t })))
            (sym (announces_kept h tpid link typed)) unit,
        moved_rest old new 16 20 (length old - 0) (length new - 0 - 0) 0 (has_fcs x) sources.Slice
            (record { next = EtherType t; limit = None }) later e p.rest (omega arith) (omega arith) (omega arith)
            (omega arith) old_rest,
      ),
    )
pushed_walk start old new h tag tpid later e ok link typed fits lt announces is s = absurd cc

-- ---- what the call leaves

pub is_linked : (start : Start) (list : List ℕ) (hs : List Header) (l : TypedLink) → IsTypedLink start list hs l
    → IsLinked hs (link_len start)
is_linked start list hs l t = record { link = t.link; later = t.later; begins = t.begins; place = t.len }

-- two bytes of an array
pub first_two_bytes : (list : List ℕ) → 2 ≤ length list → get_or list 0 0 ∷ get_or list 1 0 ∷ [] ≡ slice_range list 0 2
first_two_bytes list le = cells-is 0 2 list le

-- the four bytes from two arrays
pub four_bytes : (p c : List ℕ) (t : ℕ) (v : VlanValue) → p ≡ spelled 2 t → c ≡ vlan_bytes v
    → get_or p 0 0 ∷ get_or p 1 0 ∷ get_or c 0 0 ∷ get_or c 1 0 ∷ [] ≡ pushed_bytes t v
four_bytes p c t v is_type is_tag =
    let type_len : length p ≡ 2 = ap length is_type ∙ length-spelled 2 t in
    let tag_len : length c ≡ 4 = ap length is_tag ∙ length-spelled 4 (vlan_number v) in
    (λ i. first_two_bytes p (omega arith) i ++ first_two_bytes c (omega arith) i)
    ∙ (λ i. (part_all p 2 (omega arith) ∙ is_type) i ++ slice_range (is_tag i) 0 2)

-- the frame after the first four bytes of a buffer
pub after_four : (list : List ℕ) → take (length list - 4) (drop 4 list) ≡ drop 4 list
after_four list = let len = length-drop 4 list in take_all (length list - 4) (drop 4 list) (omega arith)

-- a small number fits two bytes if it announces a VLAN tag
number_fits : (t : ℕ) (a b c : Bool) → (t == 0x8100) ≡ a → (t == 0x88A8) ≡ b → (t == 0x9100) ≡ c
    → (a || (b || (c || false))) ≡ true → t < 2 ^ 16
number_fits t true b c x y z is = let e = eqb-true t 0x8100 x in omega arith
number_fits t false true c x y z is = let e = eqb-true t 0x88A8 y in omega arith
number_fits t false false true x y z is = let e = eqb-true t 0x9100 z in omega arith
number_fits t false false false x y z is = absurd cc

pub tpid_fits : (t : ℕ) → is_vlan_ether_type t ≡ true → t < 2 ^ 16
tpid_fits t is = number_fits t (t == 0x8100) (t == 0x88A8) (t == 0x9100) refl refl refl is

pub is_pushed : (start : Start) (buffer new : List ℕ) (hs : List Header) (e : Ending) (len m : ℕ) (tag : VlanValue)
    (tpid : ℕ)
    → IsBytes buffer → IsLinked hs len → len ≡ m + 2 → len + 4 ≤ length buffer → FitsVlan tag
    → is_vlan_ether_type tpid ≡ true
    → new ≡ overwritten buffer 0 (slice_range buffer 4 (4 + m) ++ pushed_bytes tpid tag)
    → Walk (start_of start) (drop 4 buffer) hs e → IsPushed (start_of start) buffer hs e tag tpid new
is_pushed start buffer new hs e len m tag tpid ok l place room fits announces bytes walk =
    let lt = tpid_fits tpid announces in
    let x = start_of start in
    let is = l.place in
    let split = subst (λ (k : List Header). Walk x (drop 4 buffer) k e) l.begins.parts walk in
    let front_len : m ≡ header_len l.link - 2 = omega arith in
    let till : 4 + m ≡ header_len l.link + 2 = omega arith in
    let vlan_len : length (vlan_bytes tag) ≡ 4 = length-spelled 4 (vlan_number tag) in
    let control_len : length (slice_range (vlan_bytes tag) 0 2) ≡ 2 = length-part (vlan_bytes tag) 0 2 (omega arith) in
    let inserted =
    is_inserted buffer new (spelled 2 tpid) (slice_range (vlan_bytes tag) 0 2) m (length-spelled 2 tpid)
    control_len (omega arith) bytes in
    record {
      link = l.link;
      later = l.later;
      begins = l.begins;
      announces = announces;
      bytes = bytes ∙ ap (λ (k : ℕ). overwritten buffer 0 (slice_range buffer 4 k ++ pushed_bytes tpid tag)) till;
      walk =
          pushed_walk start (drop 4 buffer) new l.link tag tpid l.later e (IsBytes-drop 4 buffer ok) l.begins.is_link
          l.begins.typed fits lt announces
          (subst (IsInserted (drop 4 buffer) new (spelled 2 tpid) (slice_range (vlan_bytes tag) 0 2))
          front_len inserted)
          split;
    }
