-- The ether type that announces a VLAN tag, set in place: the walk is the one before, with the header before the tag
-- announcing it
-- by another type.
use Rattle.std.proofs.Common.{◌≡◌, ℕ, ◌+◌, ◌-◌, ◌*◌, ◌^◌, ◌<◌, ◌≤◌, List, [], ◌∷◌, ◌++◌, length, refl, sym, ap, subst, ◌∙◌, arith, Bool, true, false, ◌&&◌, rules}
use Rattle.std.specs.Prelude.{slice_range, Option, Some, None, ◌==◌, if◌then◌else◌}
use Rattle.etherparse.specs.Types.LenSource.{LenSource}
use Rattle.etherparse.specs.LinuxSll.{LinuxSllValue}
use Rattle.etherparse.specs.LinuxSllProtocolType.{link_protocol_of}
use Rattle.etherparse.specs.Bytes.{IsBytes, number, spelled, overwritten}
use Rattle.etherparse.specs.Vlan.{VlanValue, is_vlan_ether_type}
use Rattle.etherparse.specs.Macsec.{PayloadType, SecTagValue, SecTagFront, BeginsSecTag, HasSci, encrypted_of, changed_of, sci_present_of, sec_tag_front_of}
use Rattle.etherparse.specs.Macsec as payloads
use Rattle.etherparse.specs.Kind.{Kind}
use Rattle.etherparse.specs.Kind as kinds
use Rattle.etherparse.specs.Header.{Header, kind_of, header_len, Means, Spells}
use Rattle.etherparse.specs.Header as headers
use Rattle.etherparse.specs.Refusal.{Accepts}
use Rattle.etherparse.proofs.Numbers.{length-spelled, number-spelled}
use Rattle.etherparse.proofs.SubLists.{IsBytes-part, length-part, number-part_join, part_of_front, part_of_part}
use Rattle.etherparse.proofs.Rows.{version_zero}
use Rattle.etherparse.proofs.Means.{begins_whole}
use Rattle.ether_peel.specs.Grammar.Window.{Window, within, IsIn, payload}
use Rattle.ether_peel.specs.Grammar.Expectation.{Expectation, EtherType, Sll, announced_next, permitted, is_extension, is_spent, lowered, next_after, after, after_capture, after_payload}
use Rattle.ether_peel.specs.Grammar.Places.{place}
use Rattle.ether_peel.specs.Grammar.Stack.{Ending, Stack, Walk}
use Rattle.ether_peel.proofs.Grammar.Places.{place_least}
use Rattle.ether_peel.proofs.Grammar.Windows.{header_least, payload_in}
use Rattle.ether_peel.proofs.Grammar.Cleared.{whole_in}
use Rattle.ether_packet.specs.Building.{retyped}
use Rattle.ether_packet.specs.TypedLink.{with_type}
use Rattle.ether_packet.proofs.Replaced.{LookAlike, IsSound, same_self, look_alike, packet_type_of, unit_alike, sound_kept, front_is, part_before, part_at, length-overwritten, later_stack, header_inside}
use Rattle.ether_packet.proofs.TypedLinks.{IsRetyped, retyped_means, announced_vlan}
use Rattle.ether_packet.proofs.Popped.{tag_numbers}
use Rattle.ether_packet.proofs.Pushed.{tpid_fits}

-- ---- a header with another type

retyped_bits : (p : PayloadType) (t : ℕ)
    → (encrypted_of (retyped p t) ≡ encrypted_of p) × (changed_of (retyped p t) ≡ changed_of p)
retyped_bits (payloads.Unmodified u) t = (refl, refl)
retyped_bits p t = (refl, refl)

retyped_alike : (h : Header) (t : ℕ) → LookAlike (with_type h t) h
retyped_alike (headers.LinuxSll s) t = refl
retyped_alike (headers.Macsec m) t = let bits = retyped_bits m.payload_type t in (bits.0, bits.1, refl, refl)
retyped_alike (headers.Arp a) t = (refl, refl)
retyped_alike h t = tt

-- the list begins with the header with that type, and no row on its content holds
record RetypedMeans (new : List ℕ) (h : Header) (t : ℕ) : Type 0 where
  pub means : Means new (with_type h t)
  pub sound : IsSound new (with_type h t)

retyped_vlan : (old new : List ℕ) (v : VlanValue) (t : ℕ) → IsBytes old → Means old (headers.Vlan v) → 4 ≤ length new
    → IsRetyped old new 4 t → Means new (headers.Vlan (record v { ether_type = t }))
retyped_vlan old new v t ok m len r =
    let a = (tag_numbers old 0 v ok m.whole m.spells).0 in
    let join = number-part_join new 0 2 4 (omega arith) (omega arith) len in
    let same : number (slice_range new 0 2) ≡ number (slice_range old 0 2) = ap number r.front in
    let n = r.number in
    let f = m.spells.fits in
    search rules

-- parts before the last two bytes of the first n
front_part : (old new : List ℕ) (n i j : ℕ) → slice_range new 0 (n - 2) ≡ slice_range old 0 (n - 2) → i ≤ j → j ≤ n - 2
    → slice_range (slice_range new 0 n) i j ≡ slice_range (slice_range old 0 n) i j
front_part old new n i j same ij le =
    part_of_front new n i j ij (omega arith) ∙ sym (part_of_front new (n - 2) i j ij le)
    ∙ ap (λ (l : List ℕ). slice_range l i j) same ∙ part_of_front old (n - 2) i j ij le
    ∙ sym (part_of_front old n i j ij (omega arith))

sci_kept : (old new : List ℕ) (s : Option ℕ)
    → slice_range new 0 (6 + 8 * sci_present_of s) ≡ slice_range old 0 (6 + 8 * sci_present_of s)
    → HasSci (slice_range old 0 (6 + 8 * sci_present_of s + 2)) s
    → HasSci (slice_range new 0 (6 + 8 * sci_present_of s + 2)) s
sci_kept old new None same has = tt
sci_kept old new (Some s) same has = ap number (front_part old new 16 6 14 same (omega arith) (omega arith)) ∙ has

retyped_sec_tag : (bound : LenSource) (old new : List ℕ) (m : SecTagValue) (u t : ℕ)
    → m.payload_type ≡ payloads.Unmodified u → Accepts bound old kinds.Macsec
    → Means old (headers.Macsec (record m { payload_type = payloads.Unmodified u }))
    → 8 + 8 * sci_present_of m.sci ≤ length new
    → IsRetyped old new (6 + 8 * sci_present_of m.sci + 2) t
    → RetypedMeans new (headers.Macsec (record m { payload_type = payloads.Unmodified u })) t
retyped_sec_tag bound old new m u t is ok means len r =
    let n = 6 + 8 * sci_present_of m.sci + 2 in
    let s = means.spells in
    let less : n - 2 ≡ 6 + 8 * sci_present_of m.sci = omega arith in
    let before : slice_range new 0 (6 + 8 * sci_present_of m.sci)
    ≡ slice_range old 0 (6 + 8 * sci_present_of m.sci) =
    subst (λ (j : ℕ). slice_range new 0 j ≡ slice_range old 0 j) less r.front in
    let c = sec_tag_front_of s.version s.reserved (record m { payload_type = payloads.Unmodified t }) in
    let begins : BeginsSecTag (slice_range new 0 n) c = record {
      sum = ap number (front_part old new n 0 2 r.front (omega arith) (omega arith)) ∙ s.front.sum;
      fits = s.front.fits;
    } in
    let type : number (slice_range (slice_range new 0 n) (6 + 8 * sci_present_of m.sci) n) ≡ t =
    ap number (part_of_front new n (6 + 8 * sci_present_of m.sci) n (omega arith) (omega arith))
    ∙ subst (λ (j : ℕ). number (slice_range new j n) ≡ t) less r.number in
    let version : s.version ≡ 0 =
    version_zero bound old
    (sec_tag_front_of s.version s.reserved (record m { payload_type = payloads.Unmodified u })) (omega arith)
    (begins_whole old n _ (omega arith) s.front) (ok _) in
    record {
      means = record {
        whole = omega arith;
        spells = record {
          version = s.version;
          reserved = s.reserved;
          front = begins;
          packet_number = ap number (front_part old new n 2 6 r.front (omega arith) (omega arith)) ∙ s.packet_number;
          sci = sci_kept old new m.sci before s.sci;
          ether_type = type;
        };
      };
      sound = (
        s.reserved,
        subst
            (λ (v : ℕ).
            BeginsSecTag new
            (sec_tag_front_of v s.reserved (record m { payload_type = payloads.Unmodified t })))
            version (begins_whole new n c (omega arith) begins),
      );
    }

-- what announces a VLAN tag has an ether type
announced_sll : (s : LinuxSllValue) (t : ℕ) (b : Bool) → (s.hardware_type == 1) ≡ b
    → announced_next (after_capture s.hardware_type s.protocol) ≡ Some kinds.Vlan
    → after_capture s.hardware_type t ≡ EtherType t
announced_sll s t true e a = λ i. if e i then EtherType t else Sll (link_protocol_of s.hardware_type t)
announced_sll s t false e a = search rules

unmodified : (p : PayloadType) → announced_next (after_payload p) ≡ Some kinds.Vlan
    → (u : ℕ) × (p ≡ payloads.Unmodified u)
unmodified (payloads.Unmodified u) a = (u, refl)
unmodified p a = absurd cc

retyped_next : (h : Header) (t : ℕ) → announced_next (next_after h) ≡ Some kinds.Vlan
    → next_after (with_type h t) ≡ EtherType t
retyped_next (headers.LinuxSll s) t a = announced_sll s t (s.hardware_type == 1) refl a
retyped_next h t a = search rules

retyped_header : (bound : LenSource) (old new : List ℕ) (h : Header) (t : ℕ) → IsBytes old
    → announced_next (next_after h) ≡ Some kinds.Vlan → Accepts bound old (kind_of h) → Means old h
    → header_len h ≤ length new → IsRetyped old new (header_len h) t → RetypedMeans new h t
retyped_header bound old new (headers.Ethernet2 e) t ok a accepted m len r = record {
  means = retyped_means old new (headers.Ethernet2 e) t ok refl m len r;
  sound = tt;
}
retyped_header bound old new (headers.Ethernet2Fcs e) t ok a accepted m len r = record {
  means = retyped_means old new (headers.Ethernet2Fcs e) t ok refl m len r;
  sound = tt;
}
retyped_header bound old new (headers.LinuxSll s) t ok a accepted m len r = record {
  means = retyped_means old new (headers.LinuxSll s) t ok refl m len r;
  sound = packet_type_of bound old s accepted m;
}
retyped_header bound old new (headers.Vlan v) t ok a accepted m len r = record {
  means = retyped_vlan old new v t ok m len r;
  sound = tt;
}
retyped_header bound old new (headers.Macsec m) t ok a accepted means len r =
    let u = unmodified m.payload_type a in
    let same : m ≡ record m { payload_type = payloads.Unmodified u.0 } = λ i. record m { payload_type = u.1 i } in
    let n = ap (λ (k : SecTagValue). header_len (headers.Macsec k)) same in
    subst (λ (k : SecTagValue). RetypedMeans new (headers.Macsec k) t) (sym same)
    (retyped_sec_tag bound old new m u.0 t u.1 accepted
    (subst (λ (k : SecTagValue). Means old (headers.Macsec k)) same means) (omega arith)
    (subst (λ (k : ℕ). IsRetyped old new k t) n r))
retyped_header bound old new (headers.Arp b) t ok a accepted m len r = absurd cc

-- ---- what is announced after it

some_kind : (j k : Kind) → Some j ≡ Some k → j ≡ k
some_kind j k e = cc

permitted_some : (b : Bool) (j k : Kind) → (if b then None else Some j) ≡ Some k → (b ≡ false) × (j ≡ k)
permitted_some true j k e = absurd cc
permitted_some false j k e = (refl, some_kind j k e)

-- what is announced within a limit
within_limit : (limit : Option ℕ) (o : Option Kind) (k : Kind) → permitted limit o ≡ Some k → o ≡ Some k
within_limit limit None k e = absurd cc
within_limit limit (Some j) k e = ap Some (permitted_some (is_extension j && is_spent limit) j k e).1

by_type : (t : ℕ) → is_vlan_ether_type t ≡ true → announced_next (EtherType t) ≡ Some kinds.Vlan
by_type t is = within_limit None (announced_next (EtherType t)) kinds.Vlan (announced_vlan t is)

-- a stack that begins with a VLAN tag, after another header that announces it
stack_alike : (list : List ℕ) (x : Expectation) (w : Window) (g h : Header) (tag : VlanValue) (later : List Header)
    (e : Ending)
    → LookAlike g h → announced_next (next_after g) ≡ Some kinds.Vlan
    → Stack list (after x h) (payload w h) (headers.Vlan tag ∷ later) e
    → Stack list (after x g) (payload w g) (headers.Vlan tag ∷ later) e
stack_alike list x w g h tag later e alike a s = search rules

-- ---- stacks

-- the first bytes of a window are those of a header of the list before, but for its type
window_retyped : (list : List ℕ) (w : Window) (n t at : ℕ) → IsIn list w → 2 ≤ n → n ≤ length (within list w)
    → at + 2 ≡ w.start + n → t < 2 ^ 16 → IsRetyped (within list w) (within (overwritten list at (spelled 2 t)) w) n t
window_retyped list w n t at inside two le is lt =
    let bytes = spelled 2 t in
    let new = overwritten list at bytes in
    let within_list = inside.inside in
    let ordered = inside.ordered in
    let old_len = length-part list w.start w.finish within_list in
    let len : length bytes ≡ 2 = length-spelled 2 t in
    let front : slice_range (within new w) 0 (n - 2) ≡ slice_range (within list w) 0 (n - 2) =
    front_is new w (n - 2) (omega arith)
    ∙ part_before list bytes at w.start (w.start + (n - 2)) (omega arith) (omega arith) (omega arith)
    ∙ sym (front_is list w (n - 2) (omega arith)) in
    let from : w.start + (n - 2) ≡ at = omega arith in
    let till : w.start + n ≡ at + length bytes = omega arith in
    let type : slice_range (within new w) (n - 2) n ≡ bytes =
    part_of_part new w.start w.finish (n - 2) n (omega arith) (omega arith)
    ∙ (λ i. slice_range new (from i) (till i)) ∙ part_at list bytes at (omega arith) in
    record { front = front; number = ap number type ∙ number-spelled 2 t lt; fits = lt }

pub retyped_stack : (list : List ℕ) (x : Expectation) (w : Window) (front : List Header) (h : Header) (tag : VlanValue)
    (later : List Header) (e : Ending) (at t : ℕ)
    → IsBytes list → at + 2 ≡ place w.start front + header_len h → at + 2 ≤ length list → IsIn list w
    → is_vlan_ether_type t ≡ true
    → Stack list x w (front ++ h ∷ headers.Vlan tag ∷ later) e
    → Stack (overwritten list at (spelled 2 t)) x w (front ++ with_type h t ∷ headers.Vlan tag ∷ later) e
retyped_stack list x w [] h tag later e at t ok is room inside announces s =
    let bytes = spelled 2 t in
    let new = overwritten list at bytes in
    let g = with_type h t in
    let alike = retyped_alike h t in
    let within_list = inside.inside in
    let ordered = inside.ordered in
    let len : length bytes ≡ 2 = length-spelled 2 t in
    let all = length-overwritten list bytes at (omega arith) in
    let old_len = length-part list w.start w.finish within_list in
    let new_len = length-part new w.start w.finish (omega arith) in
    let there = s.0.means.whole in
    let least = header_least h in
    let old_next =
    within_limit (lowered (is_extension (kind_of h)) x.limit) (announced_next (next_after h)) kinds.Vlan
    s.1.0.announced in
    let m =
    retyped_header w.bound (within list w) (within new w) h t (IsBytes-part w.start w.finish list ok) old_next
    s.0.accepted s.0.means (omega arith)
    (window_retyped list w (header_len h) t at inside (omega arith) there is (tpid_fits t announces)) in
    let next : announced_next (next_after g) ≡ Some kinds.Vlan =
    ap announced_next (retyped_next h t old_next) ∙ by_type t announces in (
      unit_alike list new x w g h s.0 m.means (omega arith) alike m.sound,
      stack_alike new x w g h tag later e alike next
          (later_stack list bytes at (after x h) (payload w h) (headers.Vlan tag ∷ later) e (omega arith) (omega arith)
          s.1),
    )
retyped_stack list x w (k ∷ front) h tag later e at t ok is room inside announces s =
    let bytes = spelled 2 t in
    let new = overwritten list at bytes in
    let n = header_len k in
    let within_list = inside.inside in
    let ordered = inside.ordered in
    let len : length bytes ≡ 2 = length-spelled 2 t in
    let all = length-overwritten list bytes at (omega arith) in
    let old_len = length-part list w.start w.finish within_list in
    let new_len = length-part new w.start w.finish (omega arith) in
    let there = s.0.means.whole in
    let least = place_least (w.start + n) front in
    let four = header_least h in
    let own : slice_range (within new w) 0 n ≡ slice_range (within list w) 0 n =
    front_is new w n (omega arith)
    ∙ part_before list bytes at w.start (w.start + n) (omega arith) (omega arith) (omega arith)
    ∙ sym (front_is list w n (omega arith)) in
    let means : Means (within new w) k = record {
      whole = omega arith;
      spells = subst (λ (l : List ℕ). Spells l k) (sym own) s.0.means.spells;
    } in (
      unit_alike list new x w k k s.0 means (omega arith) (look_alike k k (same_self k))
          (sound_kept w.bound (within list w) (within new w) k s.0.accepted s.0.means own),
      retyped_stack list (after x k) (payload w k) front h tag later e at t ok is room
          (payload_in list x w k inside s.0) announces s.1,
    )

-- ---- walks

pub retyped_walk : (start : Expectation) (list : List ℕ) (front : List Header) (h : Header) (tag : VlanValue)
    (later : List Header) (e : Ending) (at t : ℕ)
    → IsBytes list → at + 2 ≡ place 0 front + header_len h → is_vlan_ether_type t ≡ true
    → Walk start list (front ++ h ∷ headers.Vlan tag ∷ later) e
    → Walk start (overwritten list at (spelled 2 t)) (front ++ with_type h t ∷ headers.Vlan tag ∷ later) e
retyped_walk start list front h tag later e at t ok is announces s =
    search (rules, header_inside, length-spelled, length-overwritten, retyped_stack, whole_in)
