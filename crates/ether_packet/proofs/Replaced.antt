-- A header of a walk that is replaced in place: the walk is the one before with the other header.
use Rattle.std.proofs.Common.{◌≡◌, ℕ, ◌+◌, ◌-◌, ◌*◌, ◌≤◌, List, [], ◌∷◌, ◌++◌, length, take, drop, refl, sym, ap, subst, ◌∙◌, arith, Bool, true, false, rules}
use Rattle.std.specs.Prelude.{slice_range, Option, Some, unwrap_or}
use Rattle.std.proofs.lemmas.List.{append_assoc, drop_at, drop-drop, length-append, length-drop, length-take-le}
use Rattle.std.proofs.lemmas.Slice.{between_from_start}
use Rattle.etherparse.specs.Types.LenSource.{LenSource}
use Rattle.etherparse.specs.Bytes.{overwritten}
use Rattle.etherparse.specs.LinuxSll.{LinuxSllValue, is_supported}
use Rattle.etherparse.specs.Macsec.{BeginsSecTag, encrypted_of, changed_of, sci_present_of, sec_tag_front_of}
use Rattle.etherparse.specs.Arp.{arp_front_of}
use Rattle.etherparse.specs.Kind as kinds
use Rattle.etherparse.specs.Header.{Header, kind_of, header_len, payload_len, trailer_len, header_bytes, FitsHeader, Means, Spells}
use Rattle.etherparse.specs.Header as headers
use Rattle.etherparse.specs.Refusal.{Accepts}
use Rattle.etherparse.specs.Refusal as rows
use Rattle.etherparse.proofs.SubLists.{length-part, part-append, part_after_front, part_of_front, part_of_part}
use Rattle.etherparse.proofs.Rows.{at_least, accepts_ethernet2, accepts_ethernet2_fcs, accepts_linux_sll, accepts_vlan, accepts_macsec, accepts_arp, version_zero}
use Rattle.etherparse.proofs.Means.{arp_begins, begins_whole, tag_begins, unit_fits}
use Rattle.etherparse.proofs.ReadBack.{length-header_bytes, sec_tag_front_back, spells-header_bytes}
use Rattle.ether_peel.specs.Grammar.Window.{Window, within, IsIn, payload}
use Rattle.ether_peel.specs.Grammar.Expectation.{Expectation, after}
use Rattle.ether_peel.specs.Grammar.Places.{place}
use Rattle.ether_peel.specs.Grammar.Stack.{Ending, Accepted, Fault, IsUnit, Stack, whole, Walk}
use Rattle.ether_peel.proofs.Grammar.Windows.{payload_from, payload_in}
use Rattle.ether_peel.proofs.Grammar.Places.{place_least, header_before, last_after}
use Rattle.ether_peel.proofs.Grammar.Cleared.{whole_in}
use Rattle.ether_packet.specs.Replacing.{Agree}

-- ---- a list that is written over

pub length-overwritten : (list bytes : List ℕ) (at : ℕ) → at + length bytes ≤ length list
    → length (overwritten list at bytes) ≡ length list
length-overwritten list bytes at le =
    simp (length-append, length-drop) (omega (arith, length-take-le at list (omega arith)))

-- what is before the bytes
pub part_before : (list bytes : List ℕ) (at i j : ℕ) → at ≤ length list → i ≤ j → j ≤ at
    → slice_range (overwritten list at bytes) i j ≡ slice_range list i j
part_before list bytes at i j le ij ja =
    let more = drop (at + length bytes) list in
    let front : length (take at list) ≡ at = length-take-le at list le in
    ap (λ (l : List ℕ). slice_range l i j) (append_assoc (take at list) bytes more)
    ∙ part-append (take at list) (bytes ++ more) i j ij (omega arith)
    ∙ ap (λ (l : List ℕ). slice_range l i j) (sym (between_from_start list at)) ∙ part_of_front list at i j ij ja

-- the bytes
pub part_at : (list bytes : List ℕ) (at : ℕ) → at + length bytes ≤ length list
    → slice_range (overwritten list at bytes) at (at + length bytes) ≡ bytes
part_at list bytes at le = search (rules, part_after_front, length-take-le)

-- what follows them
rest_after : (list bytes : List ℕ) (at : ℕ) → at + length bytes ≤ length list
    → drop (at + length bytes) (overwritten list at bytes) ≡ drop (at + length bytes) list
rest_after list bytes at le = search (rules, length-append, length-take-le, drop_at)

pub part_after : (list bytes : List ℕ) (at i j : ℕ) → at + length bytes ≤ length list → at + length bytes ≤ i
    → slice_range (overwritten list at bytes) i j ≡ slice_range list i j
part_after list bytes at i j le past =
    let end = at + length bytes in
    let k = i - end in
    let split : end + k ≡ i = omega arith in
    let a = drop-drop k end (overwritten list at bytes) in
    let b = drop-drop k end list in
    ap (λ (n : ℕ). take (j - i) (drop n (overwritten list at bytes))) (sym split)
    ∙ ap (take (j - i)) (sym a ∙ ap (drop k) (rest_after list bytes at le) ∙ b)
    ∙ ap (λ (n : ℕ). take (j - i) (drop n list)) split

-- ---- headers that say the same

pub same_self : (h : Header) → Agree h h
same_self (headers.LinuxSll s) = (refl, refl)
same_self (headers.Macsec t) = (refl, refl, refl)
same_self (headers.Arp a) = (refl, refl)
same_self h = refl

-- two headers are of one kind and length, and name the same length of a payload or none
abbrev pub LookAlike : Header → Header → Type 0
LookAlike (headers.Ethernet2 g) (headers.Ethernet2 h) = Unit {0}
LookAlike (headers.Ethernet2Fcs g) (headers.Ethernet2Fcs h) = Unit {0}
LookAlike (headers.LinuxSll g) (headers.LinuxSll h) = g.hardware_type ≡ h.hardware_type
LookAlike (headers.Vlan g) (headers.Vlan h) = Unit {0}
LookAlike (headers.Macsec g) (headers.Macsec h) =
    (encrypted_of g.payload_type ≡ encrypted_of h.payload_type)
    × (changed_of g.payload_type ≡ changed_of h.payload_type) × (g.short_len ≡ h.short_len)
    × (sci_present_of g.sci ≡ sci_present_of h.sci)
LookAlike (headers.Arp g) (headers.Arp h) =
    (length g.sender_hardware ≡ length h.sender_hardware) × (length g.sender_protocol ≡ length h.sender_protocol)
LookAlike g h = ⊥

pub look_alike : (g h : Header) → Agree g h → LookAlike g h
look_alike (headers.Ethernet2 g) (headers.Ethernet2 h) same = tt
look_alike (headers.Ethernet2Fcs g) (headers.Ethernet2Fcs h) same = tt
look_alike (headers.LinuxSll g) (headers.LinuxSll h) same = same.0
look_alike (headers.Vlan g) (headers.Vlan h) same = tt
look_alike (headers.Macsec g) (headers.Macsec h) same = (ap encrypted_of same.0, ap changed_of same.0, same.1, same.2)
look_alike (headers.Arp g) (headers.Arp h) same = same
look_alike _ _ same = absurd same

alike_shape : (g h : Header) → LookAlike g h
    → (kind_of g ≡ kind_of h) × (header_len g ≡ header_len h) × (payload_len g ≡ payload_len h)
    × (trailer_len g ≡ trailer_len h)
alike_shape (headers.Ethernet2 g) (headers.Ethernet2 h) alike = (refl, refl, refl, refl)
alike_shape (headers.Ethernet2Fcs g) (headers.Ethernet2Fcs h) alike = (refl, refl, refl, refl)
alike_shape (headers.LinuxSll g) (headers.LinuxSll h) alike = (refl, refl, refl, refl)
alike_shape (headers.Vlan g) (headers.Vlan h) alike = (refl, refl, refl, refl)
alike_shape (headers.Macsec g) (headers.Macsec h) alike = search rules
alike_shape (headers.Arp g) (headers.Arp h) alike = (refl, λ i. 8 + 2 * alike.0 i + 2 * alike.1 i, refl, refl)
alike_shape _ _ alike = absurd alike

pub alike_kind : (g h : Header) → LookAlike g h → kind_of g ≡ kind_of h
alike_kind g h alike = (alike_shape g h alike).0

pub alike_len : (g h : Header) → LookAlike g h → header_len g ≡ header_len h
alike_len g h alike = (alike_shape g h alike).1

pub same_len : (g h : Header) → Agree g h → header_len g ≡ header_len h
same_len g h same = alike_len g h (look_alike g h same)

pub alike_payload : (w : Window) (g h : Header) → LookAlike g h → payload w g ≡ payload w h
alike_payload w g h alike =
    let shape = alike_shape g h alike in λ i. payload_from (w.start + shape.1 i) (shape.3 i) (shape.2 i) w

same_after : (x : Expectation) (g h : Header) → Agree g h → after x g ≡ after x h
same_after x g h same = search rules

-- ---- a header that is read again

-- no row on the content of a header holds
abbrev pub IsSound : List ℕ → Header → Type 0
IsSound bytes (headers.LinuxSll s) = s.packet_type ≤ 7
IsSound bytes (headers.Macsec t) = (reserved : ℕ) × BeginsSecTag bytes (sec_tag_front_of 0 reserved t)
IsSound bytes h = Unit {0}

pub packet_type_of : (bound : LenSource) (bytes : List ℕ) (s : LinuxSllValue) → Accepts bound bytes kinds.LinuxSll
    → Means bytes (headers.LinuxSll s) → s.packet_type ≤ 7
packet_type_of bound bytes s ok m =
    at_least 7 s.packet_type (λ lt. ok _ (rows.linux_sll_packet_type s m.whole m.spells lt))

pub supported : (bound : LenSource) (bytes : List ℕ) (s : LinuxSllValue) (b : Bool) → is_supported s.hardware_type ≡ b
    → Accepts bound bytes kinds.LinuxSll → Means bytes (headers.LinuxSll s) → is_supported s.hardware_type ≡ true
supported bound bytes s true e ok m = e
supported bound bytes s false e ok m =
    absurd (ok _ (rows.linux_sll_hardware_type s m.whole m.spells (packet_type_of bound bytes s ok m) e))

fits_named : (o : Option ℕ) (n p trailer most : ℕ) → o ≡ Some p → n + unwrap_or o 0 + trailer ≤ most → n + p ≤ most
fits_named o n p trailer most e le = let k : unwrap_or o 0 ≡ p = ap (λ (x : Option ℕ). unwrap_or x 0) e in omega arith

-- bytes of the same number that begin with a header which looks alike are accepted as well
accepts_alike : (bound : LenSource) (old new : List ℕ) (g h : Header) → Accepts bound old (kind_of h) → Means old h
    → Means new g → length new ≡ length old → LookAlike g h → IsSound new g → Accepts bound new (kind_of g)
accepts_alike bound old new (headers.Ethernet2 g) (headers.Ethernet2 h) ok m n len alike sound =
    accepts_ethernet2 bound new n.whole
accepts_alike bound old new (headers.Ethernet2Fcs g) (headers.Ethernet2Fcs h) ok m n len alike sound =
    let le = at_least (length old) 18 (λ lt. ok _ (rows.ethernet2_fcs lt)) in
    accepts_ethernet2_fcs bound new (omega arith)
accepts_alike bound old new (headers.LinuxSll g) (headers.LinuxSll h) ok m n len alike sound =
    accepts_linux_sll bound new g n.whole n.spells sound
    (ap is_supported alike ∙ supported bound old h (is_supported h.hardware_type) refl ok m)
accepts_alike bound old new (headers.Vlan g) (headers.Vlan h) ok m n len alike sound = accepts_vlan bound new n.whole
accepts_alike bound old new (headers.Macsec g) (headers.Macsec h) ok m n len alike sound =
    let a = tag_begins old h m in
    let c = sec_tag_front_of a.0 a.1 h in
    let k = m.whole in
    let l = n.whole in
    let six : 6 ≤ length old = omega arith in
    let version : a.0 ≡ 0 = version_zero bound old c six a.2 (ok _) in
    let fits = unit_fits bound old (headers.Macsec h) ok m in
    let as_long = (alike_shape (headers.Macsec g) (headers.Macsec h) alike).1 in
    accepts_macsec bound new (sec_tag_front_of 0 sound.0 g) (omega arith) sound.1 refl
    (λ s.
    ok _
    (rows.macsec_short_len c six a.2 version
    (record {
      encrypted = sym alike.0 ∙ s.encrypted;
      changed = sym alike.1 ∙ s.changed;
      short_len = sym alike.2 ∙ s.short_len;
    })))
    l
    (λ p e. let named =
    fits_named (payload_len (headers.Macsec h)) (header_len (headers.Macsec h)) p 0 (length old)
    (sym (alike_shape (headers.Macsec g) (headers.Macsec h) alike).2 ∙ e) fits in omega
    (arith, as_long, named, len))
accepts_alike bound old new (headers.Arp g) (headers.Arp h) ok m n len alike sound =
    let k = n.whole in accepts_arp bound new (arp_front_of g) (omega arith) (arp_begins new g n) k
accepts_alike bound old new _ _ ok m n len alike sound = absurd alike

pub unit_alike : (old new : List ℕ) (x : Expectation) (w : Window) (g h : Header) → IsUnit old x w h
    → Means (within new w) g → length (within new w) ≡ length (within old w) → LookAlike g h → IsSound (within new w) g
    → IsUnit new x w g
unit_alike old new x w g h u m len alike sound = search (rules, alike_kind, accepts_alike)

-- a header whose own bytes are the same
pub sound_kept : (bound : LenSource) (old new : List ℕ) (h : Header) → Accepts bound old (kind_of h) → Means old h
    → slice_range new 0 (header_len h) ≡ slice_range old 0 (header_len h) → IsSound new h
sound_kept bound old new (headers.LinuxSll s) ok m part = packet_type_of bound old s ok m
sound_kept bound old new (headers.Macsec t) ok m part =
    let n = header_len (headers.Macsec t) in
    let c = sec_tag_front_of m.spells.version m.spells.reserved t in
    let version : m.spells.version ≡ 0 =
    version_zero bound old c (omega arith) (begins_whole old n c (omega arith) m.spells.front) (ok _) in
    let begins =
    begins_whole new n c (omega arith) (subst (λ (l : List ℕ). BeginsSecTag l c) (sym part) m.spells.front) in
    (m.spells.reserved, subst (λ (v : ℕ). BeginsSecTag new (sec_tag_front_of v m.spells.reserved t)) version begins)
sound_kept bound old new h ok m part = tt

-- a header that a sender may write: of a cooked capture with a packet type that is supported
abbrev pub IsSendable : Header → Type 0
IsSendable (headers.LinuxSll s) = s.packet_type ≤ 7
IsSendable h = Unit {0}

sound_written : (new : List ℕ) (g : Header) → FitsHeader g → IsSendable g
    → slice_range new 0 (header_len g) ≡ header_bytes g → IsSound new g
sound_written new (headers.LinuxSll s) fits sendable part = sendable
sound_written new (headers.Macsec t) fits sendable part =
    let c = sec_tag_front_of 0 0 t in (
      0,
      begins_whole new (header_len (headers.Macsec t)) c (omega arith)
          (subst (λ (l : List ℕ). BeginsSecTag l c) (sym part) (sec_tag_front_back t fits)),
    )
sound_written new g fits sendable part = tt

-- ---- stacks

-- windows that begin after the bytes that are written over
pub later_stack : (list bytes : List ℕ) (at : ℕ) (x : Expectation) (w : Window) (hs : List Header) (e : Ending)
    → at + length bytes ≤ length list → at + length bytes ≤ w.start → Stack list x w hs e
    → Stack (overwritten list at bytes) x w hs e
later_stack list bytes at x w [] (Accepted v y) fits past s = s
later_stack list bytes at x w [] (Fault v y r) fits past s = search (rules, part_after)
later_stack list bytes at x w (h ∷ hs) e fits past s =
    let more = later_stack list bytes at (after x h) (payload w h) hs e fits (omega arith) s.1 in
    search (rules, part_after)

-- the front of a window
pub front_is : (list : List ℕ) (w : Window) (n : ℕ) → w.start + n ≤ w.finish
    → slice_range (within list w) 0 n ≡ slice_range list w.start (w.start + n)
front_is list w n le =
    let zero_more : w.start + 0 ≡ w.start = omega arith in
    part_of_part list w.start w.finish 0 n (omega arith) le ∙ ap (λ (k : ℕ). slice_range list k (w.start + n)) zero_more

pub replaced_stack : (list : List ℕ) (x : Expectation) (w : Window) (front : List Header) (h g : Header)
    (later : List Header) (e : Ending) (at : ℕ)
    → at ≡ place w.start front → at + header_len g ≤ length list → IsIn list w → Agree g h → FitsHeader g
    → IsSendable g
    → Stack list x w (front ++ h ∷ later) e → Stack (overwritten list at (header_bytes g)) x w (front ++ g ∷ later) e
replaced_stack list x w [] h g later e at is room inside same fits sendable s =
    let bytes = header_bytes g in
    let new = overwritten list at bytes in
    let len : length bytes ≡ header_len g = length-header_bytes g fits in
    let fit : at + length bytes ≤ length list = omega arith in
    let within_list = inside.inside in
    let ordered = inside.ordered in
    let all = length-overwritten list bytes at fit in
    let old_len = length-part list w.start w.finish within_list in
    let new_len = length-part new w.start w.finish (omega arith) in
    let as_long = same_len g h same in
    let there = s.0.means.whole in
    let own : slice_range (within new w) 0 (header_len g) ≡ bytes =
    front_is new w (header_len g) (omega arith) ∙ (λ i. slice_range new (sym is i) (sym is i + sym len i))
    ∙ part_at list bytes at fit in
    let means : Means (within new w) g = record {
      whole = omega arith;
      spells = subst (λ (l : List ℕ). Spells l g) (sym own) (spells-header_bytes g fits);
    } in
    let rest = later_stack list bytes at (after x h) (payload w h) later e fit (omega arith) s.1 in
    search (rules, unit_alike, look_alike, sound_written, same_after, alike_payload)
replaced_stack list x w (k ∷ front) h g later e at is room inside same fits sendable s =
    let bytes = header_bytes g in
    let new = overwritten list at bytes in
    let n = header_len k in
    let len : length bytes ≡ header_len g = length-header_bytes g fits in
    let within_list = inside.inside in
    let ordered = inside.ordered in
    let all = length-overwritten list bytes at (omega arith) in
    let old_len = length-part list w.start w.finish within_list in
    let new_len = length-part new w.start w.finish (omega arith) in
    let there = s.0.means.whole in
    let least = place_least (w.start + n) front in
    let own : slice_range (within new w) 0 n ≡ slice_range (within list w) 0 n =
    front_is new w n (omega arith)
    ∙ part_before list bytes at w.start (w.start + n) (omega arith) (omega arith) (omega arith)
    ∙ sym (front_is list w n (omega arith)) in
    let means : Means (within new w) k = record {
      whole = omega arith;
      spells = subst (λ (l : List ℕ). Spells l k) (sym own) s.0.means.spells;
    } in (
      unit_alike list new x w k k s.0 means (omega arith) (look_alike k k (same_self k))
          (sound_kept w.bound (within list w) (within new w) k s.0.accepted s.0.means own),
      replaced_stack list (after x k) (payload w k) front h g later e at is room (payload_in list x w k inside s.0) same
          fits sendable s.1,
    )

-- ---- walks

-- a header of a walk lies in the list
pub header_inside : (start : Expectation) (list : List ℕ) (front : List Header) (h : Header) (later : List Header)
    (e : Ending)
    → Walk start list (front ++ h ∷ later) e → place 0 front + header_len h ≤ length list
header_inside start list front h later e s =
    let after_all = last_after list start (whole start list) (front ++ h ∷ later) e (whole_in start list) s in
    let a = header_before (whole start list) _ front h later after_all in
    let b = after_all.inside in
    omega arith

-- If a header of a walk is replaced by one that says the same, then the walk has that one in its place, and ends as
-- before.
pub replaced_walk : (start : Expectation) (list : List ℕ) (front : List Header) (h g : Header) (later : List Header)
    (e : Ending)
    → Agree g h → FitsHeader g → IsSendable g
    → Walk start list (front ++ h ∷ later) e
    → Walk start (overwritten list (place 0 front) (header_bytes g)) (front ++ g ∷ later) e
replaced_walk start list front h g later e same fits sendable s =
    search (rules, same_len, header_inside, length-header_bytes, length-overwritten, replaced_stack, whole_in)
