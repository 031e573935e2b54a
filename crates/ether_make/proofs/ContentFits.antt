-- What a packet tells can be spelled as JSON, by its content.
use Rattle.std.proofs.Common.{ℕ, ◌^◌, ◌<◌, ◌≤◌, inl, inr, Bool, nat_eq, List, length, take, Option, Some, None, arith, ◌==◌, length-take}
use Rattle.std.proofs.lemmas.Bool.{and_parts, cases_lt, cond_both, leb-true}
use Rattle.std.specs.Prelude.{⊤, slice_range, IfSome}
use Rattle.etherparse.specs.Bytes.{IsBytes}
use Rattle.etherparse.specs.Kind as kinds
use Rattle.etherparse.specs.Types.LinuxSllProtocolType.{LinuxSllProtocolType}
use Rattle.etherparse.specs.Types.LinuxSllProtocolType.TheVariants as protocols
use Rattle.etherparse.proofs.SubLists.{IsBytes-part, IsBytes-take, length-part_min, number-part_below}
use Rattle.ether_base.specs.Formats.LinuxSll.{FitsLinuxSll, linux_sll_of}
use Rattle.ether_base.specs.Formats.LinuxSllProtocolType.{told_ether_type}
use Rattle.ether_base.specs.Enumerations.LinuxNonstandardEtherType.{is_nonstandard}
use Rattle.ether_peel.specs.Grammar.Expectation.{Start, Expectation}
use Rattle.ether_peel.specs.Grammar.Stack.{whole}
use Rattle.ether_sll2.specs.LinuxSll2.{LinuxSll2Value, FitsLinuxSll2, linux_sll2_of, LinuxSll2Refusal, Short, AcceptsLinuxSll2, RefusesLinuxSll2, protocol_on, protocol_of_header}
use Rattle.ether_sll2.specs.LinuxSll2 as sll2
use Rattle.ether_pcap.specs.Capture.{PacketValue}
use Rattle.ether_content.specs.Content.{ContentValue, Frame, LinuxSll, LinuxSll2, Unknown, content_of, cooked_content, has_fcs, has_other_hardware, whole_len, without_fcs}
use Rattle.ether_format.specs.declared.end.End.{End}
use Rattle.ether_format.specs.Causes.{cause_of_v2}
use Rattle.ether_format.specs.Told.{Told, Tells, TellsWalk, TellsPayload, TellsAfter, TellsCookedV2, cooked_place, protocol_value}
use Rattle.ether_format.specs.Told as told_rows
use Rattle.ether_make.proofs.JsonFits.{Each, FitsValue}
use Rattle.ether_make.proofs.PacketFits.{FitsPlace, FitsTold, FitsEnd, FitsCause}
use Rattle.ether_make.proofs.TellsFits.{FitsNext, choice, stack_fits}

abbrev Fit : List Told → End → Type 0
Fit told end = Each FitsTold told × FitsEnd end

-- few bytes
abbrev FewBytes : List ℕ → Type 0
FewBytes bytes = IsBytes bytes × (length bytes < 2 ^ 63)

walk_fits : (at : ℕ) (start : Expectation) (frame : List ℕ) (told : List Told) (end : End) (accepted : Bool) → at ≤ 20
    → FewBytes frame → FitsNext start.next → TellsWalk at start frame told end accepted → Fit told end
walk_fits at start frame told end accepted few ok next t =
    let fits = stack_fits at frame ok.0 few ok.1 start (whole start frame) t.headers t.ending
    (record { ordered = omega arith; inside = omega arith }) next t.walk in
    rw (t.is_told, t.is_end) fits

payload_fits : (at : ℕ) (first : Told) (start : Expectation) (payload : List ℕ) (told : List Told) (end : End)
    (accepted : Bool) → at ≤ 20 → FitsTold first → FewBytes payload → FitsNext start.next
    → TellsPayload at first start payload told end accepted → Fit told end
payload_fits at first start payload told end accepted few fits ok next t =
    let later = walk_fits at start payload t.later end accepted few ok next t.walk in
    (rw t.whole (fits, later.0), later.1)

-- ---- cooked captures

sll_fits : (bytes : List ℕ) → IsBytes bytes → 16 ≤ length bytes → FitsLinuxSll (linux_sll_of bytes)
sll_fits bytes ok long = record {
  packet_type = omega (arith, number-part_below bytes 0 2 ok (omega arith));
  hardware_type = omega (arith, number-part_below bytes 2 4 ok (omega arith));
  address_len = omega (arith, number-part_below bytes 4 6 ok (omega arith));
  address = omega (arith, number-part_below bytes 6 14 ok (omega arith));
  protocol = omega (arith, number-part_below bytes 14 16 ok (omega arith));
}

sll2_fits : (bytes : List ℕ) → IsBytes bytes → 20 ≤ length bytes → FitsLinuxSll2 (linux_sll2_of bytes)
sll2_fits bytes ok long = record {
  protocol = omega (arith, number-part_below bytes 0 2 ok (omega arith));
  interface_index = omega (arith, number-part_below bytes 4 8 ok (omega arith));
  hardware_type = omega (arith, number-part_below bytes 8 10 ok (omega arith));
  packet_type = omega (arith, number-part_below bytes 10 11 ok (omega arith));
  address_len = omega (arith, number-part_below bytes 11 12 ok (omega arith));
  address = omega (arith, number-part_below bytes 12 20 ok (omega arith));
}

accepts_long : (bytes : List ℕ) → AcceptsLinuxSll2 bytes → 20 ≤ length bytes
accepts_long bytes accepts = elim (cases_lt (length bytes) 20) [
  | inl short ↦ absurd (accepts (Short 20 (length bytes)) (sll2.short short))
  | inr long ↦ long
]

-- what holds of each meaning of a protocol number
each_protocol : (P : LinuxSllProtocolType → Type 0) (n : ℕ) → P (protocols.NetlinkProtocolType n)
    → P (protocols.GenericRoutingEncapsulationProtocolType n) → P (protocols.Ignored n)
    → P (protocols.LinuxNonstandardEtherType n) → P (protocols.EtherType (record { 0 = n })) → (hardware : ℕ)
    → P (protocol_on hardware n)
each_protocol P n netlink gre ignored nonstandard ether hardware =
    choice P (hardware == 824) _ _ netlink (choice P (hardware == 778) _ _ gre
    (choice P (hardware == 803) _ _ ignored (choice P (hardware == 770) _ _ ignored
    (choice P (is_nonstandard n) _ _ nonstandard ether))))

ether_type_fits : (hardware n : ℕ) → n < 2 ^ 64 → IfSome (told_ether_type (protocol_on hardware n)) (λ t. t < 2 ^ 64)
ether_type_fits hardware n h =
    each_protocol (λ p. IfSome (told_ether_type p) (λ t. t < 2 ^ 64)) n tt tt tt h h hardware

protocol_fits : (hardware n : ℕ) → n < 2 ^ 64 → FitsValue (protocol_value (protocol_on hardware n))
protocol_fits hardware n h = each_protocol (λ p. FitsValue (protocol_value p)) n h h h tt h hardware

after_fits : (limit : Option ℕ) (o : Option ℕ) (bytes : List ℕ) (told : List Told) (end : End) (accepted : Bool)
    → FewBytes bytes → 20 ≤ length bytes → FitsValue (protocol_value (protocol_of_header bytes))
    → IfSome o (λ t. t < 2 ^ 64) → TellsAfter limit o bytes told end accepted → Fit told end
after_fits limit None bytes told end accepted ok long kind fits t =
    let s = sll2_fits bytes ok.0 long in
    let place : FitsPlace (cooked_place 20 (length bytes)) = (omega arith, omega arith, omega (arith, ok.1)) in
    rw (t.0, t.1) (((place, s), tt), (omega arith, omega (arith, ok.1), kind))
after_fits limit (Some n) bytes told end accepted ok long kind fits t =
    let s = sll2_fits bytes ok.0 long in
    let place : FitsPlace (cooked_place 20 (length bytes)) = (omega arith, omega arith, omega (arith, ok.1)) in
    let rest : FewBytes (slice_range bytes 20 (length bytes)) =
    (IsBytes-part 20 (length bytes) bytes ok.0, omega (arith, ok.1, length-part_min bytes 20 (length bytes))) in
    payload_fits 20 _ _ _ told end accepted (omega arith) (place, s) rest fits t

v2_refusal_fits : (bytes : List ℕ) (r : LinuxSll2Refusal) → length bytes < 2 ^ 63 → RefusesLinuxSll2 bytes r
    → FitsCause (cause_of_v2 r)
v2_refusal_fits bytes r len (sll2.short h) = (omega arith, omega arith)
v2_refusal_fits bytes r len (sll2.packet_type s begins high) = omega (arith, begins.spells.fits.packet_type)

cooked_v2_fits : (limit : Option ℕ) (bytes : List ℕ) (told : List Told) (end : End) (accepted : Bool) → FewBytes bytes
    → TellsCookedV2 limit bytes told end accepted → Fit told end
cooked_v2_fits limit bytes told end accepted ok (told_rows.read hs e verdict accepts t) =
    let long = accepts_long bytes accepts in
    let s = sll2_fits bytes ok.0 long in
    let hardware = (linux_sll2_of bytes).hardware_type in
    let n = (linux_sll2_of bytes).protocol in
    let small : n < 2 ^ 64 = omega (arith, s.protocol) in
    after_fits limit (told_ether_type (protocol_of_header bytes)) bytes hs e verdict ok long
    (protocol_fits hardware n small) (ether_type_fits hardware n small) t
cooked_v2_fits limit bytes told end accepted ok (told_rows.refused r h) =
    (tt, (omega arith, v2_refusal_fits bytes r ok.1 h))

-- ---- the content of a packet

abbrev FitsContent : ContentValue → Type 0
FitsContent (Frame next bytes) = FewBytes bytes × FitsNext next
FitsContent (LinuxSll s payload) = FitsLinuxSll s × FewBytes payload
FitsContent (LinuxSll2 bytes) = FewBytes bytes
FitsContent Unknown = ⊤

cooked_fits : (bytes : List ℕ) → FewBytes bytes → FitsContent (cooked_content bytes)
cooked_fits bytes ok =
    cond_both (has_other_hardware bytes) (LinuxSll (linux_sll_of bytes) (slice_range bytes 16 (length bytes)))
    (Frame (Start kinds.LinuxSll) bytes) FitsContent
    (λ e. let long = leb-true 16 (length bytes) (and_parts _ _ (and_parts _ _ e).0).0 in (
      sll_fits bytes ok.0 long,
      (IsBytes-part 16 (length bytes) bytes ok.0, omega (arith, ok.1, length-part_min bytes 16 (length bytes))),
    ))
    (λ e. (ok, tt))

few_taken : (n : ℕ) (bytes : List ℕ) → FewBytes bytes → FewBytes (take n bytes)
few_taken n bytes ok = (IsBytes-take n bytes ok.0, omega (arith, ok.1, length-take n bytes))

content_fits : (p : PacketValue) → FewBytes p.packet → FitsContent (content_of p)
content_fits p ok =
    let cut = few_taken (whole_len p) p.packet ok in
    choice FitsContent (nat_eq p.link_type 1) _ _
    (choice FitsContent (has_fcs p) (Frame (Start kinds.Ethernet2Fcs) p.packet)
    (Frame (Start kinds.Ethernet2) (without_fcs p))
    (ok, tt) (cut, tt))
    (choice FitsContent (nat_eq p.link_type 113) _ _ (cooked_fits (without_fcs p) cut)
    (choice FitsContent (nat_eq p.link_type 276) (LinuxSll2 (without_fcs p)) Unknown cut tt))

content_told : (limit : Option ℕ) (len : ℕ) (c : ContentValue) (told : List Told) (end : End) (accepted : Bool)
    → len < 2 ^ 63 → FitsContent c → Tells limit len c told end accepted → Fit told end
content_told limit len (Frame next bytes) told end accepted few fits t =
    walk_fits 0 _ bytes told end accepted (omega arith) fits.0 fits.1 t
content_told limit len (LinuxSll s payload) told end accepted few fits t =
    payload_fits 16 _ _ payload told end accepted (omega arith)
    ((omega arith, omega arith, omega (arith, fits.1.1)), fits.0, tt) fits.1 (omega (arith, fits.0.protocol)) t
content_told limit len (LinuxSll2 bytes) told end accepted few fits t =
    cooked_v2_fits limit bytes told end accepted fits t
content_told limit len Unknown told end accepted few fits t = rw (t.0, t.1) (tt, omega arith)

pub tells_fit : (limit : Option ℕ) (p : PacketValue) (told : List Told) (end : End) (accepted : Bool)
    → IsBytes p.packet → length p.packet < 2 ^ 63 → Tells limit (length p.packet) (content_of p) told end accepted
    → Each FitsTold told × FitsEnd end
tells_fit limit p told end accepted ok few t =
    content_told limit (length p.packet) (content_of p) told end accepted few (content_fits p (ok, few)) t
