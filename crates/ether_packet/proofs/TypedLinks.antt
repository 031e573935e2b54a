-- The header of a link with another type, and what follows it moved: the walk of the new list.
use Rattle.std.proofs.Common.{◌≡◌, ℕ, ◌+◌, ◌-◌, ◌^◌, ◌<◌, ◌≤◌, List, [], ◌∷◌, length, take, drop, refl, sym, ap, subst, ◌∙◌, arith, Bool, true, false, rules}
use Rattle.std.specs.Prelude.{slice_range, Option, Some, None, nat_eq, ◌==◌, if◌then◌else◌}
use Rattle.std.proofs.lemmas.List.{length-drop}
use Rattle.etherparse.specs.Types.LenSource.{LenSource}
use Rattle.etherparse.specs.Types.LenSource.TheVariants as sources
use Rattle.etherparse.specs.Types.ArpHardwareId.{ArpHardwareId}
use Rattle.etherparse.specs.Types.EtherType.{EtherType as EtherTypeNumber}
use Rattle.etherparse.specs.Bytes.{IsBytes, number}
use Rattle.etherparse.specs.Ethernet2.{Ethernet2Value, IsEthernet2}
use Rattle.etherparse.specs.LinuxSll.{LinuxSllValue, IsLinuxSll, linux_sll_of, is_supported}
use Rattle.etherparse.specs.Vlan.{is_vlan_ether_type}
use Rattle.etherparse.specs.LinuxSllProtocolType.{link_protocol_of}
use Rattle.etherparse.specs.Kind.{Kind}
use Rattle.etherparse.specs.Kind as kinds
use Rattle.etherparse.specs.Header.{Header, kind_of, header_len, trailer_len, Means}
use Rattle.etherparse.specs.Header as headers
use Rattle.etherparse.specs.Refusal.{Refuses, Accepts}
use Rattle.etherparse.specs.Refusal as rows
use Rattle.etherparse.proofs.LinuxSllFields.{linux_sll_begins, linux_sll_means}
use Rattle.etherparse.proofs.SubLists.{number-part_below, number-part_join}
use Rattle.etherparse.proofs.Rows.{at_least, accepts_ethernet2, accepts_ethernet2_fcs, accepts_linux_sll}
use Rattle.ether_peel.specs.Grammar.Window.{Window, within, payload}
use Rattle.ether_peel.specs.Grammar.Expectation.{Expectation, EtherType, Sll, announced, announced_by, permitted, next_after, after, after_capture, has_fcs}
use Rattle.ether_peel.specs.Grammar.Places.{moved_ending}
use Rattle.ether_peel.specs.Grammar.Stack.{Ending, Accepted, IsUnit, Stack, whole, Walk}
use Rattle.ether_peel.specs.Walker.Start.{start_of}
use Rattle.ether_peel.specs.declared.start.Start.{Start}
use Rattle.ether_peel.specs.declared.start.Start.TheVariants as starts
use Rattle.ether_peel.proofs.Grammar.Places.{is_local}
use Rattle.ether_packet.specs.declared.tag_error.TagError.TheVariants as errors
use Rattle.ether_packet.specs.declared.typed_link.TypedLink.{TypedLink}
use Rattle.ether_packet.specs.Views.{header_in}
use Rattle.ether_packet.specs.ReplacingLink.{is_link, has_link}
use Rattle.ether_packet.specs.TypedLink.{type_of_link, with_type, link_len, IsTypedLink, IsEthernetCapture, IsOtherCapture, RefusesTyped, no_link, hardware_type}
use Rattle.ether_packet.proofs.Gathering.{whole_part}
use Rattle.ether_packet.proofs.Replaced.{packet_type_of, supported}
use Rattle.ether_packet.proofs.Links.{first_header}

-- ---- a header whose last two bytes are others

retyped_ethernet2 : (old new : List ℕ) (e : Ethernet2Value) (t : ℕ) → IsBytes old → 14 ≤ length old → 14 ≤ length new
    → slice_range new 0 12 ≡ slice_range old 0 12 → number (slice_range new 12 14) ≡ t → t < 2 ^ 16
    → IsEthernet2 (slice_range old 0 14) e → IsEthernet2 (slice_range new 0 14) (record e { ether_type = t })
retyped_ethernet2 old new e t ok le len front is lt m =
    let a = number-part_join old 0 12 14 (omega arith) (omega arith) le in
    let b = number-part_join new 0 12 14 (omega arith) (omega arith) len in
    let same : number (slice_range new 0 12) ≡ number (slice_range old 0 12) = ap number front in
    let below : number (slice_range old 12 14) < 65536 = number-part_below old 12 14 ok le in
    let sum = m.sum in
    let f = m.fits.ether_type in
    search rules

retyped_linux_sll : (old new : List ℕ) (s : LinuxSllValue) (t : ℕ) → IsBytes old → 16 ≤ length old → 16 ≤ length new
    → slice_range new 0 14 ≡ slice_range old 0 14 → number (slice_range new 14 16) ≡ t → t < 2 ^ 16
    → IsLinuxSll (slice_range old 0 16) s → IsLinuxSll (slice_range new 0 16) (record s { protocol = t })
retyped_linux_sll old new s t ok le len front is lt m =
    let a = number-part_join old 0 14 16 (omega arith) (omega arith) le in
    let b = number-part_join new 0 14 16 (omega arith) (omega arith) len in
    let same : number (slice_range new 0 14) ≡ number (slice_range old 0 14) = ap number front in
    let below : number (slice_range old 14 16) < 65536 = number-part_below old 14 16 ok le in
    let sum = m.sum in
    let f = m.fits.protocol in
    search rules

-- the number that they have in the list
pub link_type_read : (list : List ℕ) (h : Header) → IsBytes list → is_link (kind_of h) ≡ true → Means list h
    → number (slice_range list (header_len h - 2) (header_len h)) ≡ type_of_link h
link_type_read list (headers.LinuxSll s) ok link m =
    let a = number-part_join list 0 14 16 (omega arith) (omega arith) m.whole in
    let below : number (slice_range list 14 16) < 65536 = number-part_below list 14 16 ok m.whole in
    let sum = m.spells.sum in
    let f = m.spells.fits.protocol in
    omega arith
link_type_read list (headers.Vlan v) ok link m = absurd cc
link_type_read list (headers.Macsec t) ok link m = absurd cc
link_type_read list (headers.Arp a) ok link m = absurd cc
link_type_read list h ok link m =
    let a = number-part_join list 0 12 14 (omega arith) (omega arith) m.whole in
    let below : number (slice_range list 12 14) < 65536 = number-part_below list 12 14 ok m.whole in
    let sum = m.spells.sum in
    let f = m.spells.fits.ether_type in
    omega arith

-- the first bytes of a list are those of a link's header, and the two after them are others
pub record IsRetyped (old new : List ℕ) (n t : ℕ) : Type 0 where
  pub front : slice_range new 0 (n - 2) ≡ slice_range old 0 (n - 2)
  pub number : number (slice_range new (n - 2) n) ≡ t
  pub fits : t < 2 ^ 16

pub retyped_means : (old new : List ℕ) (h : Header) (t : ℕ) → IsBytes old → is_link (kind_of h) ≡ true → Means old h
    → header_len h ≤ length new → IsRetyped old new (header_len h) t → Means new (with_type h t)
retyped_means old new (headers.Ethernet2 e) t ok link m len r = record {
  whole = len;
  spells = retyped_ethernet2 old new e t ok m.whole len r.front r.number r.fits m.spells;
}
retyped_means old new (headers.Ethernet2Fcs e) t ok link m len r = record {
  whole = len;
  spells = retyped_ethernet2 old new e t ok m.whole len r.front r.number r.fits m.spells;
}
retyped_means old new (headers.LinuxSll s) t ok link m len r = record {
  whole = len;
  spells = retyped_linux_sll old new s t ok m.whole len r.front r.number r.fits m.spells;
}
retyped_means old new h t ok link k len r = absurd cc

retyped_accepts : (bound : LenSource) (old new : List ℕ) (h : Header) (t : ℕ) → is_link (kind_of h) ≡ true
    → Accepts bound old (kind_of h) → Means old h → Means new (with_type h t)
    → header_len h + trailer_len h ≤ length new → Accepts bound new (kind_of (with_type h t))
retyped_accepts bound old new (headers.Ethernet2 e) t link ok m n len = accepts_ethernet2 bound new n.whole
retyped_accepts bound old new (headers.Ethernet2Fcs e) t link ok m n len = accepts_ethernet2_fcs bound new len
retyped_accepts bound old new (headers.LinuxSll s) t link ok m n len =
    accepts_linux_sll bound new (record s { protocol = t }) n.whole n.spells (packet_type_of bound old s ok m)
    (supported bound old s _ refl ok m)
retyped_accepts bound old new h t link ok m n len = absurd cc

pub kind_kept : (h : Header) (t : ℕ) → kind_of (with_type h t) ≡ kind_of h
kind_kept (headers.Ethernet2 e) t = refl
kind_kept h t = refl

pub len_kept : (h : Header) (t : ℕ) → is_link (kind_of h) ≡ true → header_len (with_type h t) ≡ header_len h
len_kept (headers.Vlan v) t link = absurd cc
len_kept (headers.Macsec m) t link = absurd cc
len_kept (headers.Arp a) t link = absurd cc
len_kept h t link = refl

pub link_least : (h : Header) → is_link (kind_of h) ≡ true → 14 ≤ header_len h
link_least (headers.Vlan v) link = absurd cc
link_least (headers.Macsec m) link = absurd cc
link_least (headers.Arp a) link = absurd cc
link_least h link = omega arith

-- a header of a whole list
pub means_whole_list : (start : Expectation) (list : List ℕ) (h : Header) → IsUnit list start (whole start list) h
    → Means list h
means_whole_list start list h u = subst (λ (l : List ℕ). Means l h) (whole_part list) u.means

pub retyped_unit : (start : Expectation) (old new : List ℕ) (h : Header) (t : ℕ) → IsBytes old
    → is_link (kind_of h) ≡ true → IsUnit old start (whole start old) h → header_len h + trailer_len h ≤ length new
    → IsRetyped old new (header_len h) t
    → IsUnit new start (whole start new) (with_type h t)
retyped_unit start old new h t ok link u len r =
    let m = means_whole_list start old h u in
    let n = retyped_means old new h t ok link m (omega arith) r in
    let accepted = subst (λ (l : List ℕ). Accepts sources.Slice l (kind_of h)) (whole_part old) u.accepted in
    search (rules, kind_kept, whole_part, retyped_accepts)

-- ---- what it announces

captured_next : (s : LinuxSllValue) (t : ℕ) (b : Bool) → (s.hardware_type == 1) ≡ b
    → after_capture s.hardware_type s.protocol ≡ EtherType s.protocol → after_capture s.hardware_type t ≡ EtherType t
captured_next s t true e typed = λ i. if e i then EtherType t else Sll (link_protocol_of s.hardware_type t)
captured_next s t false e typed = search rules

-- with another type, the header of a link announces by it as before
pub announces_kept : (h : Header) (t : ℕ) → is_link (kind_of h) ≡ true → next_after h ≡ EtherType (type_of_link h)
    → next_after (with_type h t) ≡ EtherType t
announces_kept (headers.Ethernet2 e) t link typed = refl
announces_kept (headers.Ethernet2Fcs e) t link typed = refl
announces_kept (headers.LinuxSll s) t link typed = captured_next s t (s.hardware_type == 1) refl typed
announces_kept h t link typed = absurd cc

-- what is expected after the header of a link, and where
pub link_after : (start : Start) (h : Header) → is_link (kind_of h) ≡ true
    → after (start_of start) h ≡ record { next = next_after h; limit = None }
link_after start (headers.Vlan v) link = absurd cc
link_after start (headers.Macsec m) link = absurd cc
link_after start (headers.Arp a) link = absurd cc
link_after start h link = refl

abbrev pub link_payload : Expectation → List ℕ → Header → Window
link_payload x list h = record {
  start = header_len h;
  finish = length list - trailer_len h;
  closed = has_fcs x;
  bound = sources.Slice;
}

pub payload_is : (x : Expectation) (list : List ℕ) (h : Header) → is_link (kind_of h) ≡ true
    → payload (whole x list) h ≡ link_payload x list h
payload_is x list (headers.Vlan v) link = absurd cc
payload_is x list (headers.Macsec m) link = absurd cc
payload_is x list (headers.Arp a) link = absurd cc
payload_is x list h link = refl

other_kind : (a b : Bool)
    → permitted None (if a then Some kinds.Macsec else (if b then Some kinds.Arp else None)) ≡ Some kinds.Vlan → ⊥
other_kind true b e = absurd cc
other_kind false true e = absurd cc
other_kind false false e = absurd cc

-- an ether type that announces a VLAN tag
pub announced_vlan : (t : ℕ) → is_vlan_ether_type t ≡ true
    → announced (record { next = EtherType t; limit = None }) ≡ Some kinds.Vlan
announced_vlan t is = search rules

pub announced_other : (t : ℕ) → is_vlan_ether_type t ≡ false
    → announced (record { next = EtherType t; limit = None }) ≡ Some kinds.Vlan → ⊥
announced_other t is e = search rules

-- ---- the bytes after it

-- windows of two lists that end alike have the same bytes
pub moved_rest : (old new : List ℕ) (a b f g trailer : ℕ) (closed : Bool) (bound : LenSource) (x : Expectation)
    (hs : List Header) (e : Ending)
    → drop b new ≡ drop a old → f + trailer ≡ length old → g + trailer ≡ length new → a ≤ f → b ≤ g
    → Stack old x (record { start = a; finish = f; closed = closed; bound = bound }) hs e
    → Stack new x (record { start = b; finish = g; closed = closed; bound = bound }) hs (moved_ending a b e)
moved_rest old new a b f g trailer closed bound x hs e same ends ends_new le le_new s =
    let n = length-drop a old in
    let m = length-drop b new in
    let k : length (drop b new) ≡ length (drop a old) = ap length same in
    let as_long : f - a ≡ g - b = omega arith in
    let part : take (f - a) (drop a old) ≡ take (g - b) (drop b new) = λ i. take (as_long i) (sym same i) in
    is_local old new x (record { start = a; finish = f; closed = closed; bound = bound })
    (record { start = b; finish = g; closed = closed; bound = bound }) hs e
    (record { ordered = le; inside = omega arith }) (record { ordered = le_new; inside = omega arith }) part refl refl s

-- ---- the unit in a window

-- if the bytes of a window are accepted as what is expected there, then a header is there
pub record HasUnit (list : List ℕ) (x : Expectation) (w : Window) (kind : Kind) (hs : List Header)
    (e : Ending) : Type 0 where
  pub header : Header
  pub later : List Header
  pub parts : hs ≡ header ∷ later
  pub of_kind : kind_of header ≡ kind
  pub unit : IsUnit list x w header
  pub rest : Stack list (after x header) (payload w header) later e

same_kind : (k l : Kind) (o : Option Kind) → o ≡ Some k → o ≡ Some l → k ≡ l
same_kind k l o e f = let same : Some k ≡ Some l = sym e ∙ f in cc

never : (k : Kind) (o : Option Kind) → o ≡ None → o ≡ Some k → ⊥
never k o e f = let same : None ≡ Some k = sym e ∙ f in cc

pub unit_there : (list : List ℕ) (x : Expectation) (w : Window) (kind : Kind) (hs : List Header) (e : Ending)
    → announced x ≡ Some kind → Accepts w.bound (within list w) kind → Stack list x w hs e → HasUnit list x w kind hs e
unit_there list x w kind [] (Accepted v y) a accepted s = absurd (never kind (announced x) s.2 a)
unit_there list x w kind h e a accepted s = search rules

-- if a row holds there, no header is
pub no_unit_there : (list : List ℕ) (x : Expectation) (w : Window) (kind : Kind) (r : rows.Refusal) (hs : List Header)
    (e : Ending)
    → announced x ≡ Some kind → Refuses w.bound (within list w) kind r → Stack list x w hs e → hs ≡ []
no_unit_there list x w kind r [] e a row s = refl
no_unit_there list x w kind r (h ∷ hs) e a row s = search rules

-- ---- the header that a list begins with

-- what is read of it: its lengths and its type
pub is_typed : (start : Start) (kind : Kind) (list : List ℕ) (hs : List Header) (e : Ending) (l : TypedLink)
    → IsBytes list → announced (start_of start) ≡ Some kind → Accepts sources.Slice list kind → is_link kind ≡ true
    → next_after (header_in kind list) ≡ EtherType (type_of_link (header_in kind list))
    → link_len start ≡ header_len (header_in kind list)
    → link_len start + l.payload_len + trailer_len (header_in kind list) ≡ length list
    → l.ether_type.0 ≡ type_of_link (header_in kind list)
    → Walk (start_of start) list hs e → IsTypedLink start list hs l
is_typed start kind list hs e l ok a accepted link typed len payload_len ether_type walk = search (rules, first_header)

-- a header that is refused
pub refused_link : (start : Start) (kind : Kind) (list : List ℕ) (r : rows.Refusal) (hs : List Header) (e : Ending)
    → announced (start_of start) ≡ Some kind → Refuses sources.Slice list kind r → Walk (start_of start) list hs e
    → RefusesTyped hs errors.NoLink
refused_link start kind list r hs e a row walk =
    let none =
    no_unit_there list (start_of start) (whole (start_of start) list) kind r hs e a
    (subst (λ (l : List ℕ). Refuses sources.Slice l kind r) (sym (whole_part list)) row) walk in
    no_link (ap has_link none)

pub with_fcs : (list : List ℕ) → Accepts sources.Slice list kinds.Ethernet2Fcs → 18 ≤ length list
with_fcs list accepted = at_least (length list) 18 (λ (lt : length list < 18). accepted _ (rows.ethernet2_fcs lt))

-- of a cooked capture of Ethernet
sixteen : (list : List ℕ) → Accepts sources.Slice list kinds.LinuxSll → 16 ≤ length list
sixteen list accepted = at_least (length list) 16 (λ (lt : length list < 16). accepted _ (rows.linux_sll lt))

pub is_captured : (start : Start) (list : List ℕ) (hs : List Header) (e : Ending) (l : TypedLink) → IsBytes list
    → announced (start_of start) ≡ Some kinds.LinuxSll → IsEthernetCapture list → link_len start ≡ 16
    → l.payload_len ≡ length list - 16 → l.ether_type.0 ≡ (linux_sll_of list).protocol
    → Walk (start_of start) list hs e → IsTypedLink start list hs l
is_captured start list hs e l ok a is len payload_len ether_type walk =
    let s = linux_sll_of list in
    let le = is.0 in
    let accepted =
    accepts_linux_sll sources.Slice list s le (linux_sll_begins list ok le) is.1 (ap is_supported is.2) in
    is_typed start kinds.LinuxSll list hs e l ok a accepted refl (ap (λ (h : ℕ). after_capture h s.protocol) is.2) len
    (omega (arith, len, payload_len, le)) ether_type walk

-- of another link
pub other_link : (start : Start) (list : List ℕ) (hs : List Header) (e : Ending) (hardware : ArpHardwareId)
    → IsBytes list → announced (start_of start) ≡ Some kinds.LinuxSll → IsOtherCapture list (Some hardware)
    → (IsEthernetCapture list → ⊥) → Walk (start_of start) list hs e
    → RefusesTyped hs (errors.HardwareType hardware)
other_link start list hs e hardware ok a other never walk =
    let first = first_header (start_of start) kinds.LinuxSll list hs e ok a other.0 walk in
    let s = linux_sll_of list in
    let m = linux_sll_means list ok (sixteen list other.0) in
    subst (λ (h : ArpHardwareId). RefusesTyped hs (errors.HardwareType h)) (λ i. record { 0 = sym other.1 i })
    (hardware_type s first.0 first.1 (λ one. never (m.whole, packet_type_of sources.Slice list s other.0 m, one)))

unpermitted : (o : Option Kind) → o ≡ permitted None o
unpermitted None = refl
unpermitted h = search rules

abbrev is_link_of : Option Kind → Bool
is_link_of None = false
is_link_of (Some kind) = is_link kind

-- what an ether type announces is no header of a link
not_announced : (a b c : Bool) (kind : Kind)
    → (if a then Some kinds.Vlan else (if b then Some kinds.Macsec else (if c then Some kinds.Arp else None)))
    ≡ Some kind
    → is_link kind ≡ false
not_announced false false false kind e = absurd cc
not_announced a b c kind e = ap is_link_of (sym e)

pub unlinked : (start : Start) (t : EtherTypeNumber) (list : List ℕ) (hs : List Header) (e : Ending)
    → start ≡ starts.EtherType t → Walk (start_of start) list hs e → RefusesTyped hs errors.NoLink
unlinked start t list [] e is walk = no_link refl
unlinked start t list (h ∷ hs) e is walk =
    let a = ap (λ (s : Start). announced (start_of s)) (sym is) ∙ walk.0.announced in
    no_link
    (not_announced (is_vlan_ether_type t.0) (nat_eq t.0 0x88E5) (nat_eq t.0 0x0806) (kind_of h)
    (unpermitted (announced_by t.0) ∙ a))

-- the length of a link's header from a start that is no cooked capture
pub other_len : (start : Start) → (start ≡ starts.LinuxSll → ⊥) → link_len start ≡ 14
other_len starts.Ethernet2 never = refl
other_len starts.Ethernet2Fcs never = refl
other_len starts.LinuxSll never = absurd (never refl)
other_len (starts.EtherType t) never = refl
