-- A VLAN tag that is taken off in place: the walk of the frame after it.
use Rattle.std.proofs.Common.{◌≡◌, ℕ, ◌+◌, ◌-◌, ◌*◌, ◌^◌, ◌<◌, ◌≤◌, List, [], ◌∷◌, ◌++◌, length, take, drop, refl, sym, ap, subst, ◌∙◌, arith, Bool, true, false, rules}
use Rattle.std.specs.Prelude.{slice_range, None}
use Rattle.std.proofs.lemmas.List.{drop_at, drop-drop, length-drop, length-take-le}
use Rattle.std.proofs.lemmas.Slice.{between_from_start}
use Rattle.etherparse.specs.Types.LenSource.TheVariants as sources
use Rattle.etherparse.specs.Bytes.{IsBytes, number, overwritten}
use Rattle.etherparse.specs.Vlan.{VlanValue, IsVlan, is_vlan_ether_type}
use Rattle.etherparse.specs.Kind as kinds
use Rattle.etherparse.specs.Header.{Header, kind_of, header_len}
use Rattle.etherparse.specs.Header as headers
use Rattle.etherparse.proofs.SubLists.{length-part, number-part_below, number-part_join, part-append, part_of_front}
use Rattle.etherparse.specs.Refusal as rows
use Rattle.etherparse.proofs.Rows.{accepts_vlan}
use Rattle.etherparse.proofs.Values.{vlan_unique}
use Rattle.ether_peel.specs.Grammar.Window.{within, payload}
use Rattle.ether_peel.specs.Grammar.Expectation.{Next, EtherType, next_after, has_fcs}
use Rattle.ether_peel.specs.Grammar.Places.{moved_ending}
use Rattle.ether_peel.specs.Grammar.Stack.{Ending, Stack, whole, Walk}
use Rattle.ether_peel.specs.Walker.Start.{start_of}
use Rattle.ether_peel.specs.declared.start.Start.{Start}
use Rattle.ether_peel.proofs.Grammar.Cleared.{whole_in}
use Rattle.ether_packet.specs.declared.tag_error.TagError.TheVariants as errors
use Rattle.ether_packet.specs.declared.typed_link.TypedLink.{TypedLink}
use Rattle.ether_packet.specs.ReplacingLink.{is_link}
use Rattle.ether_packet.specs.TypedLink.{type_of_link, with_type, BeginsTyped, link_len, IsTypedLink}
use Rattle.ether_packet.specs.Popping.{IsPopped, IsTagged, RefusesPop, no_vlan, cut_vlan}
use Rattle.ether_packet.proofs.TypedLinks.{retyped_unit, moved_rest, announces_kept, announced_vlan, link_payload, unit_there, no_unit_there}
use Rattle.ether_packet.proofs.VlanIds.{own_bytes}

-- ---- the bytes

-- the list without four bytes after its first m
pub popped_list : (old : List ℕ) (m : ℕ) → m + 4 ≤ length old
    → drop 4 (overwritten old 4 (take m old)) ≡ take m old ++ drop (m + 4) old
popped_list old m le = search rules

pub front_kept : (old more : List ℕ) (m : ℕ) → m ≤ length old
    → slice_range (take m old ++ more) 0 m ≡ slice_range old 0 m
front_kept old more m le =
    let len : length (take m old) ≡ m = length-take-le m old le in
    part-append (take m old) more 0 m (omega arith) (omega arith)
    ∙ ap (λ (l : List ℕ). slice_range l 0 m) (sym (between_from_start old m))
    ∙ part_of_front old m 0 m (omega arith) (omega arith)

pub rest_kept : (old more : List ℕ) (m : ℕ) → m ≤ length old → drop m (take m old ++ more) ≡ more
rest_kept old more m le = drop_at (take m old) more m (length-take-le m old le)

-- ---- the numbers of a tag in a list

pub tag_numbers : (list : List ℕ) (i : ℕ) (v : VlanValue) → IsBytes list → i + 4 ≤ length list
    → IsVlan (slice_range list i (i + 4)) v
    → (number (slice_range list i (i + 2)) ≡ v.pcp * 2 ^ 13 + v.dei * 2 ^ 12 + v.vid)
    × (number (slice_range list (i + 2) (i + 4)) ≡ v.ether_type)
tag_numbers list i v ok le m =
    let two : i + 4 - (i + 2) ≡ 2 = omega arith in
    let a : number (slice_range list i (i + 4))
    ≡ number (slice_range list i (i + 2)) * 65536 + number (slice_range list (i + 2) (i + 4)) =
    number-part_join list i (i + 2) (i + 4) (omega arith) (omega arith) le
    ∙ ap (λ (k : ℕ). number (slice_range list i (i + 2)) * 256 ^ k + number (slice_range list (i + 2) (i + 4)))
    two in
    let below : number (slice_range list (i + 2) (i + 4)) < 65536 =
    subst (λ (k : ℕ). number (slice_range list (i + 2) (i + 4)) < 256 ^ k) two
    (number-part_below list (i + 2) (i + 4) ok le) in
    let sum = m.sum in
    let f = m.fits.ether_type in
    (omega arith, omega arith)

-- ---- the walk

-- the list after its first m bytes is that of another one four bytes later, where a tag is
record PoppedRest (old new : List ℕ) (m : ℕ) (tag : VlanValue) : Type 0 where
  pub len : length new + 4 ≡ length old
  pub number : number (slice_range new m (m + 2)) ≡ tag.ether_type
  pub rest : drop (m + 2) new ≡ drop (m + 6) old

popped_rest : (old new : List ℕ) (m : ℕ) (tag : VlanValue) → IsBytes old → m + 6 ≤ length old
    → IsVlan (slice_range old (m + 2) (m + 6)) tag → drop m new ≡ drop (m + 4) old → PoppedRest old new m tag
popped_rest old new m tag ok le spells rest =
    let a = length-drop m new in
    let b = length-drop (m + 4) old in
    let c : length (drop m new) ≡ length (drop (m + 4) old) = ap length rest in
    let two : m + 2 - m ≡ 2 = omega arith in
    let two_more : m + 6 - (m + 4) ≡ 2 = omega arith in
    let four : m + 2 + 4 ≡ m + 6 = omega arith in
    let four_less : m + 2 + 2 ≡ m + 4 = omega arith in
    let six : m + 4 + 2 ≡ m + 6 = omega arith in
    let spelled : IsVlan (slice_range old (m + 2) (m + 2 + 4)) tag =
    subst (λ (k : ℕ). IsVlan (slice_range old (m + 2) k) tag) (sym four) spells in
    let type = (tag_numbers old (m + 2) tag ok (omega arith) spelled).1 in
    let bytes : slice_range new m (m + 2) ≡ slice_range old (m + 4) (m + 6) =
    λ i. take ((two ∙ sym two_more) i) (rest i) in
    record {
      len = omega arith;
      number = ap number bytes ∙ (λ i. number (slice_range old (sym four_less i) (sym four i))) ∙ type;
      rest = sym (drop-drop 2 m new) ∙ ap (drop 2) rest ∙ drop-drop 2 (m + 4) old ∙ ap (λ (k : ℕ). drop k old) six;
    }

pub popped_walk : (start : Start) (old new : List ℕ) (link : Header) (tag : VlanValue) (later : List Header)
    (e : Ending)
    → IsBytes old → is_link (kind_of link) ≡ true → next_after link ≡ EtherType (type_of_link link)
    → slice_range new 0 (header_len link - 2) ≡ slice_range old 0 (header_len link - 2)
    → drop (header_len link - 2) new ≡ drop (header_len link + 2) old
    → Walk (start_of start) old (link ∷ headers.Vlan tag ∷ later) e
    → Walk (start_of start) new (with_type link tag.ether_type ∷ later)
    (moved_ending (header_len link + 4) (header_len link) e)
popped_walk start old new (headers.Ethernet2 l) tag later e ok link typed front rest s =
    let x = start_of start in
    let h = headers.Ethernet2 l in
    let here = s.0.means.whole in
    let there = s.1.0.means.whole in
    let a = length-part old 0 (length old) (omega arith) in
    let b = length-part old 14 (length old - 0) (omega arith) in
    let p =
    popped_rest old new 12 tag ok (omega arith)
    (own_bytes old x (whole x old) (h ∷ []) (headers.Vlan tag) later e (whole_in x old) s) rest in
    let n = p.len in (
      retyped_unit x old new h tag.ether_type ok link s.0 (omega arith)
          (record { front = front; number = p.number; fits = s.1.0.means.spells.fits.ether_type }),
      moved_rest old new 18 14 (length old - 0 - 0) (length new - 0) 0 (has_fcs x) sources.Slice
          (record { next = EtherType tag.ether_type; limit = None }) later e p.rest (omega arith) (omega arith)
          (omega arith) (omega arith) s.1.1,
    )
popped_walk start old new (headers.Ethernet2Fcs l) tag later e ok link typed front rest s =
    let x = start_of start in
    let h = headers.Ethernet2Fcs l in
    let here = s.0.means.whole in
    let there = s.1.0.means.whole in
    let a = length-part old 0 (length old) (omega arith) in
    let b = length-part old 14 (length old - 4) (omega arith) in
    let p =
    popped_rest old new 12 tag ok (omega arith)
    (own_bytes old x (whole x old) (h ∷ []) (headers.Vlan tag) later e (whole_in x old) s) rest in
    let n = p.len in (
      retyped_unit x old new h tag.ether_type ok link s.0 (omega arith)
          (record { front = front; number = p.number; fits = s.1.0.means.spells.fits.ether_type }),
      moved_rest old new 18 14 (length old - 4 - 0) (length new - 4) 4 (has_fcs x) sources.Slice
          (record { next = EtherType tag.ether_type; limit = None }) later e p.rest (omega arith) (omega arith)
          (omega arith) (omega arith) s.1.1,
    )
popped_walk start old new (headers.LinuxSll l) tag later e ok link typed front rest s =
    let x = start_of start in
    let h = headers.LinuxSll l in
    let here = s.0.means.whole in
    let there = s.1.0.means.whole in
    let a = length-part old 0 (length old) (omega arith) in
    let b = length-part old 16 (length old - 0) (omega arith) in
    let p =
    popped_rest old new 14 tag ok (omega arith)
    (own_bytes old x (whole x old) (h ∷ []) (headers.Vlan tag) later e (whole_in x old) s) rest in
    let n = p.len in
    let moved =
    moved_rest old new 20 16 (length old - 0 - 0) (length new - 0) 0 (has_fcs x) sources.Slice
    (record { next = EtherType tag.ether_type; limit = None }) later e p.rest (omega arith) (omega arith)
    (omega arith) (omega arith) s.1.1 in (
      retyped_unit x old new h tag.ether_type ok link s.0 (omega arith)
          (record { front = front; number = p.number; fits = s.1.0.means.spells.fits.ether_type }),
      subst
          (λ (k : Next).
          Stack new (record { next = k; limit = None }) (payload (whole x new) (with_type h tag.ether_type)) later
          (moved_ending 20 16 e))
          (sym (announces_kept h tag.ether_type link typed)) moved,
    )
popped_walk start old new h tag later e ok link typed front rest s = absurd cc

-- ---- how the tag is found

pub vlan_header : (h : Header) → kind_of h ≡ kinds.Vlan → (v : VlanValue) × (h ≡ headers.Vlan v)
vlan_header (headers.Vlan v) is = (v, refl)
vlan_header h is = absurd cc

announces_tag : (start : Start) (list : List ℕ) (hs : List Header) (l : TypedLink) (b : Bool)
    (t : IsTypedLink start list hs l)
    → is_vlan_ether_type l.ether_type.0 ≡ b → is_vlan_ether_type (type_of_link t.link) ≡ b
announces_tag start list hs l b t is = ap is_vlan_ether_type (sym t.ether_type) ∙ is

pub no_tag : (start : Start) (list : List ℕ) (hs : List Header) (l : TypedLink) → IsTypedLink start list hs l
    → is_vlan_ether_type l.ether_type.0 ≡ false → RefusesPop hs errors.NoVlan
no_tag start list hs l t other = no_vlan t.link t.later t.begins (announces_tag start list hs l false t other)

-- the length of the payload
payload_len : (start : Start) (list : List ℕ) (hs : List Header) (l : TypedLink) (t : IsTypedLink start list hs l)
    → length (within list (link_payload (start_of start) list t.link)) ≡ l.payload_len
payload_len start list hs l t = search rules

after_link : (start : Start) (list : List ℕ) (hs : List Header) (e : Ending) (l : TypedLink)
    (t : IsTypedLink start list hs l)
    → Walk (start_of start) list hs e
    → Stack list (record { next = EtherType (type_of_link t.link); limit = None })
    (link_payload (start_of start) list t.link) t.later e
after_link start list hs e l t walk = search rules

pub cut_tag : (start : Start) (list : List ℕ) (hs : List Header) (e : Ending) (l : TypedLink)
    → IsTypedLink start list hs l → is_vlan_ether_type l.ether_type.0 ≡ true → l.payload_len < 4
    → Walk (start_of start) list hs e → RefusesPop hs errors.CutVlan
cut_tag start list hs e l t announces lt walk =
    let len = payload_len start list hs l t in
    let is = announces_tag start list hs l true t announces in
    let none =
    no_unit_there list (record { next = EtherType (type_of_link t.link); limit = None })
    (link_payload (start_of start) list t.link) kinds.Vlan _ t.later e
    (announced_vlan (type_of_link t.link) is) (rows.vlan (omega (arith, len, lt)))
    (after_link start list hs e l t walk) in
    cut_vlan t.link (subst (BeginsTyped hs t.link) none t.begins) is

pub is_tagged : (start : Start) (list : List ℕ) (hs : List Header) (e : Ending) (l : TypedLink)
    → IsTypedLink start list hs l → is_vlan_ether_type l.ether_type.0 ≡ true → 4 ≤ l.payload_len
    → Walk (start_of start) list hs e → IsTagged hs (link_len start)
is_tagged start list hs e l t announces le walk =
    let w = link_payload (start_of start) list t.link in
    let len = payload_len start list hs l t in
    let is = announces_tag start list hs l true t announces in
    let u =
    unit_there list (record { next = EtherType (type_of_link t.link); limit = None }) w kinds.Vlan t.later e
    (announced_vlan (type_of_link t.link) is)
    (accepts_vlan sources.Slice (within list w) (omega (arith, len, le)))
    (after_link start list hs e l t walk) in
    search rules

-- ---- what the call returns

rest_at : (m n k l : ℕ) (new old : List ℕ) → m ≡ k → n ≡ l → drop m new ≡ drop n old → drop k new ≡ drop l old
rest_at m n k l new old a b rest = ap (λ (j : ℕ). drop j new) (sym a) ∙ rest ∙ ap (λ (j : ℕ). drop j old) b

pub is_popped : (start : Start) (old new : List ℕ) (hs : List Header) (e : Ending) (at m : ℕ) (u : VlanValue)
    → IsBytes old → IsTagged hs at → at ≡ m + 2 → at + 4 ≤ length old → new ≡ overwritten old 4 (take m old)
    → IsVlan (slice_range old (m + 2) (m + 6)) u → Walk (start_of start) old hs e
    → IsPopped (start_of start) old hs e u new
is_popped start old new hs e at m u ok t place room bytes spells walk =
    let x = start_of start in
    let split = subst (λ (l : List Header). Walk x old l e) t.begins.parts walk in
    let own = own_bytes old x (whole x old) (t.link ∷ []) (headers.Vlan t.tag) t.later e (whole_in x old) split in
    let from : 0 + header_len t.link ≡ m + 2 = omega arith in
    let till : 0 + header_len t.link + 4 ≡ m + 6 = omega arith in
    let there : IsVlan (slice_range old (m + 2) (m + 6)) t.tag =
    subst (λ (l : List ℕ). IsVlan l t.tag) (λ i. slice_range old (from i) (till i)) own in
    let same : t.tag ≡ u = vlan_unique t.tag u there.fits spells.fits (sym there.sum ∙ spells.sum) in
    let front_len : m ≡ header_len t.link - 2 = omega arith in
    let back_len : m + 4 ≡ header_len t.link + 2 = omega arith in
    let list : drop 4 new ≡ take m old ++ drop (m + 4) old = ap (drop 4) bytes ∙ popped_list old m (omega arith) in
    let front = ap (λ (l : List ℕ). slice_range l 0 m) list ∙ front_kept old (drop (m + 4) old) m (omega arith) in
    let rest = ap (drop m) list ∙ rest_kept old (drop (m + 4) old) m (omega arith) in
    subst (λ (v : VlanValue). IsPopped x old hs e v new) same (record {
      link = t.link;
      later = t.later;
      begins = t.begins;
      bytes = bytes ∙ ap (λ (k : ℕ). overwritten old 4 (take k old)) front_len;
      walk = popped_walk start old (drop 4 new) t.link t.tag t.later e ok t.begins.is_link t.begins.typed
          (subst (λ (k : ℕ). slice_range (drop 4 new) 0 k ≡ slice_range old 0 k) front_len front)
          (rest_at m (m + 4) (header_len t.link - 2) (header_len t.link + 2) (drop 4 new) old front_len back_len rest)
          split;
    })
