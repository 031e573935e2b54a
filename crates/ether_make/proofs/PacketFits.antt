-- The members of a packet, of its headers and of its end can be spelled as JSON.
use Rattle.std.proofs.Common.{◌≡◌, ℕ, ◌^◌, ◌<◌, Bool, true, false, ◌&&◌, not, nat_le, nat_lt, nat_eq, cond, List, [], ◌∷◌, ◌++◌, Option, Some, None, refl, arith}
use Rattle.std.proofs.lemmas.Bool.{and_parts, leb-true, ltb-true, eqb-false, not-true}
use Rattle.std.specs.Prelude.{⊤, IfSome}
use Rattle.etherparse.specs.Bytes.{IsBytes, spelled}
use Rattle.etherparse.specs.Ethernet2.{Ethernet2Value}
use Rattle.etherparse.specs.Header.{Header, FitsHeader}
use Rattle.etherparse.specs.Header as headers
use Rattle.etherparse.specs.Macsec.{PayloadType, FitsPayloadType, FitsSci}
use Rattle.etherparse.specs.Macsec as payloads
use Rattle.etherparse.specs.Types.Layer.TheVariants as layers
use Rattle.etherparse.specs.Types.LenSource.{LenSource}
use Rattle.etherparse.specs.Types.LenSource.TheVariants as sources
use Rattle.etherparse.specs.Types.LinuxSllProtocolType.{LinuxSllProtocolType}
use Rattle.etherparse.specs.Types.LinuxSllProtocolType.TheVariants as protocols
use Rattle.etherparse.proofs.Numbers.{IsBytes-tail, IsBytes-spelled}
use Rattle.etherparse.proofs.SubLists.{IsBytes-take}
use Rattle.ether_peel.specs.declared.rest_kind.RestKind.{RestKind}
use Rattle.ether_peel.specs.declared.rest_kind.RestKind.TheVariants as rests
use Rattle.ether_sll2.specs.LinuxSll2.{LinuxSll2Value, FitsLinuxSll2}
use Rattle.ether_fields.specs.declared.section.Section.{Section}
use Rattle.ether_fields.specs.declared.section.Section.TheVariants as sections
use Rattle.ether_fields.specs.Fields.{section_name, section_rows}
use Rattle.ether_fields.specs.Rows.{Row}
use Rattle.ether_format.specs.declared.cause.Cause.{Cause}
use Rattle.ether_format.specs.declared.cause.Cause.TheVariants as causes
use Rattle.ether_format.specs.declared.end.End.{End}
use Rattle.ether_format.specs.declared.end.End.TheVariants.{Rest, Skipped, Fault}
use Rattle.ether_format.specs.declared.place.Place.{Place}
use Rattle.ether_format.specs.Members.{Member, Value, Bytes, Dotted, if_some, members, payload_word, payload_type_value, linux_sll2_values}
use Rattle.ether_format.specs.Told.{Told, Walked, CookedV2, told_section, told_place, told_place_values, told_values, place_values, told_members, own_values, header_values, end_section, end_values, end_members, kind_word, kind_value, protocol_word, protocol_value, cause_source}
use Rattle.ether_make.proofs.JsonFits.{Each, IsPlainByte, ArePlain, FitsValue, FitsMember}
use Rattle.ether_make.proofs.JsonLines.{FitHeaders}

-- ---- constant names and words

abbrev is_plain_byte : ℕ → Bool
is_plain_byte b = nat_le 32 b && (nat_lt b 127 && (not (nat_eq b 34) && not (nat_eq b 92)))

abbrev are_plain : List ℕ → Bool
are_plain [] = true
are_plain (b ∷ bs) = is_plain_byte b && are_plain bs

plain_byte : (b : ℕ) → is_plain_byte b ≡ true → IsPlainByte b
plain_byte b e =
    let p = and_parts (nat_le 32 b) _ e in
    let q = and_parts (nat_lt b 127) _ p.1 in
    let r = and_parts (not (nat_eq b 34)) _ q.1 in
    (leb-true 32 b p.0, ltb-true b 127 q.0, eqb-false b 34 (not-true _ r.0), eqb-false b 92 (not-true _ r.1))

pub ArePlain-constant : (text : List ℕ) → are_plain text ≡ true → ArePlain text
unfolding ArePlain
ArePlain-constant [] e = tt
ArePlain-constant (b ∷ bs) e =
    let p = and_parts (is_plain_byte b) (are_plain bs) e in (plain_byte b p.0, ArePlain-constant bs p.1)

abbrev NamesArePlain : List Row → Type 0
NamesArePlain rows = Each (λ r. ArePlain r.name) rows

abbrev names_are_plain : List Row → Bool
names_are_plain [] = true
names_are_plain (r ∷ rs) = are_plain r.name && names_are_plain rs

plain_names : (rows : List Row) → names_are_plain rows ≡ true → NamesArePlain rows
plain_names [] e = tt
plain_names (r ∷ rs) e =
    let p = and_parts (are_plain r.name) (names_are_plain rs) e in (ArePlain-constant r.name p.0, plain_names rs p.1)

names_plain : (s : Section) → names_are_plain (section_rows s) ≡ true
names_plain sections.Frame = refl
names_plain sections.Eth = refl
names_plain sections.Sll = refl
names_plain sections.Sll2 = refl
names_plain sections.Vlan = refl
names_plain sections.Macsec = refl
names_plain sections.Arp = refl
names_plain sections.Headers = refl
names_plain sections.Rest = refl
names_plain sections.Fault = refl

pub rows_plain : (s : Section) → NamesArePlain (section_rows s)
rows_plain s = plain_names (section_rows s) (names_plain s)

pub section_plain : (s : Section) → ArePlain (section_name s)
section_plain sections.Frame = ArePlain-constant _ refl
section_plain sections.Eth = ArePlain-constant _ refl
section_plain sections.Sll = ArePlain-constant _ refl
section_plain sections.Sll2 = ArePlain-constant _ refl
section_plain sections.Vlan = ArePlain-constant _ refl
section_plain sections.Macsec = ArePlain-constant _ refl
section_plain sections.Arp = ArePlain-constant _ refl
section_plain sections.Headers = ArePlain-constant _ refl
section_plain sections.Rest = ArePlain-constant _ refl
section_plain sections.Fault = ArePlain-constant _ refl

-- ---- members of rows

abbrev pub FitValues : List (Option Value) → Type 0
FitValues values = Each (λ v. IfSome v FitsValue) values

pub members_fit : (rows : List Row) (values : List (Option Value)) → NamesArePlain rows → FitValues values
    → Each FitsMember (members rows values)
members_fit [] values names fit = tt
members_fit (r ∷ rs) [] names fit = tt
members_fit (r ∷ rs) (Some v ∷ vs) names fit =
    (record { name = names.0; value = fit.0 }, members_fit rs vs names.1 fit.1)
members_fit (r ∷ rs) (None ∷ vs) names fit = members_fit rs vs names.1 fit.1

pub values_append : (a b : List (Option Value)) → FitValues a → FitValues b → FitValues (a ++ b)
values_append [] b h k = k
values_append (v ∷ a) b h k = (h.0, values_append a b h.1 k)

pub some_fits : {X : Type 0} (value : X → Value) (o : Option X) → IfSome o (λ x. FitsValue (value x))
    → FitsValue (if_some value o)
some_fits value None h = tt
some_fits value (Some x) h = h

pub each_byte : (bytes : List ℕ) → IsBytes bytes → Each (λ b. b < 256) bytes
each_byte [] h = tt
each_byte (b ∷ bs) h = (h 0, each_byte bs (IsBytes-tail b bs h))

-- ---- headers

abbrev pub FitsPlace : Place → Type 0
FitsPlace place = (place.start < 2 ^ 64) × (place.header_end < 2 ^ 64) × (place.payload_end < 2 ^ 64)

abbrev pub FitsTold : Told → Type 0
FitsTold (Walked place h fcs) = FitsPlace place × FitsHeader h × IfSome fcs IsBytes
FitsTold (CookedV2 place s) = FitsPlace place × FitsLinuxSll2 s

fcs_fits : (fcs : Option (List ℕ)) → IfSome fcs IsBytes → FitsValue (if_some Bytes fcs)
fcs_fits None h = tt
fcs_fits (Some bytes) h = each_byte bytes h

ethernet2_fits : (e : Ethernet2Value) (fcs : Option (List ℕ)) → e.ether_type < 2 ^ 16 → IfSome fcs IsBytes
    → FitValues (header_values (headers.Ethernet2 e) fcs)
ethernet2_fits e fcs h k = (
  each_byte _ (IsBytes-spelled 6 e.destination),
  (each_byte _ (IsBytes-spelled 6 e.source), (omega arith, (fcs_fits fcs k, tt))),
)

word_plain : (p : PayloadType) → ArePlain (payload_word p)
word_plain (payloads.Unmodified ether_type) = ArePlain-constant _ refl
word_plain payloads.Modified = ArePlain-constant _ refl
word_plain payloads.EncryptedUnmodified = ArePlain-constant _ refl
word_plain payloads.Encrypted = ArePlain-constant _ refl

type_fits : (p : PayloadType) → FitsPayloadType p → FitsValue (payload_type_value p)
type_fits (payloads.Unmodified ether_type) h = omega arith
type_fits payloads.Modified h = tt
type_fits payloads.EncryptedUnmodified h = tt
type_fits payloads.Encrypted h = tt

sci_fits : (sci : Option ℕ) → FitsValue (if_some (λ n. Bytes (spelled 8 n)) sci)
sci_fits None = tt
sci_fits (Some n) = each_byte _ (IsBytes-spelled 8 n)

address_fits : (t : Bool) (bytes : List ℕ) → IsBytes bytes → FitsValue (cond t (Dotted bytes) (Bytes bytes))
address_fits true bytes h = each_byte bytes h
address_fits false bytes h = each_byte bytes h

header_fits : (h : Header) (fcs : Option (List ℕ)) → FitsHeader h → IfSome fcs IsBytes
    → FitValues (header_values h fcs)
header_fits (headers.Ethernet2 e) fcs h k = ethernet2_fits e fcs h.ether_type k
header_fits (headers.Ethernet2Fcs e) fcs h k = ethernet2_fits e fcs h.ether_type k
header_fits (headers.LinuxSll s) fcs h k = (
  omega (arith, h.packet_type),
  (
    omega (arith, h.hardware_type),
    (
      omega (arith, h.address_len),
      (each_byte _ (IsBytes-take s.address_len _ (IsBytes-spelled 8 s.address)), (omega (arith, h.protocol), tt)),
    ),
  ),
)
header_fits (headers.Vlan v) fcs h k =
    (omega (arith, h.pcp), (omega (arith, h.dei), (omega (arith, h.vid), (omega (arith, h.ether_type), tt))))
header_fits (headers.Macsec t) fcs h k = (
  word_plain t.payload_type,
  (
    tt,
    (
      omega (arith, h.front.end_station),
      (
        tt,
        (
          omega (arith, h.front.single_copy_broadcast),
          (
            omega (arith, h.front.encrypted),
            (
              omega (arith, h.front.changed),
              (
                omega (arith, h.front.association_number),
                (
                  tt,
                  (
                    omega (arith, h.front.short_len),
                    (omega (arith, h.packet_number), (sci_fits t.sci, (type_fits t.payload_type h.payload_type, tt))),
                  ),
                ),
              ),
            ),
          ),
        ),
      ),
    ),
  ),
)
header_fits (headers.Arp a) fcs h k = (
  omega (arith, h.front.hardware_type),
  (
    omega (arith, h.front.protocol_type),
    (
      omega (arith, h.front.hardware_size),
      (
        omega (arith, h.front.protocol_size),
        (
          omega (arith, h.front.operation),
          (
            each_byte _ h.sender_hardware,
            (
              address_fits _ _ h.sender_protocol,
              (each_byte _ h.target_hardware, (address_fits _ _ h.target_protocol, tt)),
            ),
          ),
        ),
      ),
    ),
  ),
)

sll2_fits : (s : LinuxSll2Value) → FitsLinuxSll2 s → FitValues (linux_sll2_values s)
sll2_fits s h = (
  omega (arith, h.protocol),
  (
    tt,
    (
      omega (arith, h.interface_index),
      (
        omega (arith, h.hardware_type),
        (
          omega (arith, h.packet_type),
          (
            omega (arith, h.address_len),
            (each_byte _ (IsBytes-take s.address_len _ (IsBytes-spelled 8 s.address)), tt),
          ),
        ),
      ),
    ),
  ),
)

place_fits : (name : List ℕ) (place : Place) → ArePlain name → FitsPlace place → FitValues (place_values name place)
place_fits name place plain h = (plain, (h.0, (h.1, (h.2, (tt, tt)))))

own_fits : (h : Told) → FitsTold h → FitValues (own_values h)
own_fits (Walked place h fcs) fits = header_fits h fcs fits.1 fits.2
own_fits (CookedV2 place s) fits = sll2_fits s fits.1

told_place_fits : (h : Told) → FitsTold h → FitsPlace (told_place h)
told_place_fits (Walked place h fcs) fits = fits.0
told_place_fits (CookedV2 place s) fits = fits.0

pub told_fits : (h : Told) → FitsTold h → Each FitsMember (told_members h)
told_fits h fits =
    members_fit (section_rows (told_section h)) (told_values h) (rows_plain (told_section h))
    (values_append (told_place_values h) (own_values h)
    (place_fits (section_name (told_section h)) (told_place h) (section_plain (told_section h))
    (told_place_fits h fits))
    (own_fits h fits))

pub headers_fit : (f : Told → List Member) → ((h : Told) → FitsTold h → Each FitsMember (f h)) → (hs : List Told)
    → Each FitsTold hs → FitHeaders f hs
headers_fit f one [] h = tt
headers_fit f one (x ∷ hs) h = (one x h.0, headers_fit f one hs h.1)

-- ---- the end

abbrev pub FitsProtocol : LinuxSllProtocolType → Type 0
FitsProtocol protocol = FitsValue (protocol_value protocol)

abbrev pub FitsKind : RestKind → Type 0
FitsKind kind = FitsValue (kind_value kind)

abbrev pub FitsCause : Cause → Type 0
FitsCause (causes.Length required available source layer) = (required < 2 ^ 64) × (available < 2 ^ 64)
FitsCause (causes.UnknownPacketType n) = n < 2 ^ 64
FitsCause (causes.UnknownHardwareType n) = n < 2 ^ 64
FitsCause causes.Version = ⊤
FitsCause causes.ShortLength = ⊤

abbrev pub FitsEnd : End → Type 0
FitsEnd (Rest start finish kind) = (start < 2 ^ 64) × (finish < 2 ^ 64) × FitsKind kind
FitsEnd (Skipped len) = len < 2 ^ 64
FitsEnd (Fault start closed cause) = (start < 2 ^ 64) × FitsCause cause

protocol_plain : (p : LinuxSllProtocolType) → ArePlain (protocol_word p)
protocol_plain (protocols.Ignored n) = ArePlain-constant _ refl
protocol_plain (protocols.NetlinkProtocolType n) = ArePlain-constant _ refl
protocol_plain (protocols.GenericRoutingEncapsulationProtocolType n) = ArePlain-constant _ refl
protocol_plain (protocols.EtherType t) = ArePlain-constant _ refl
protocol_plain (protocols.LinuxNonstandardEtherType n) = ArePlain-constant _ refl

kind_plain : (kind : RestKind) → ArePlain (kind_word kind)
kind_plain rests.Start = ArePlain-constant _ refl
kind_plain (rests.EtherType t) = ArePlain-constant _ refl
kind_plain (rests.Sll protocol) = protocol_plain protocol
kind_plain rests.Sealed = ArePlain-constant _ refl
kind_plain rests.AfterArp = ArePlain-constant _ refl

source_plain : (source : LenSource) → FitsValue (cause_source (causes.Length 0 0 source layers.Arp))
source_plain sources.Slice = ArePlain-constant _ refl
source_plain sources.MacsecShortLength = ArePlain-constant _ refl
source_plain sources.Ipv4HeaderTotalLen = ArePlain-constant _ refl
source_plain sources.Ipv6HeaderPayloadLen = ArePlain-constant _ refl
source_plain sources.UdpHeaderLen = ArePlain-constant _ refl
source_plain sources.TcpHeaderLen = ArePlain-constant _ refl
source_plain sources.ArpAddrLengths = ArePlain-constant _ refl

fault_fits : (start : ℕ) (closed : Bool) (cause : Cause) → start < 2 ^ 64 → FitsCause cause
    → FitValues (end_values (Fault start closed cause))
fault_fits start closed (causes.Length required available source layer) h k =
    (h, (tt, (ArePlain-constant _ refl, (k.0, (k.1, (source_plain source, (tt, tt)))))))
fault_fits start closed (causes.UnknownPacketType n) h k =
    (h, (tt, (ArePlain-constant _ refl, (tt, (tt, (tt, (k, tt)))))))
fault_fits start closed (causes.UnknownHardwareType n) h k =
    (h, (tt, (ArePlain-constant _ refl, (tt, (tt, (tt, (k, tt)))))))
fault_fits start closed causes.Version h k = (h, (tt, (ArePlain-constant _ refl, (tt, (tt, (tt, (tt, tt)))))))
fault_fits start closed causes.ShortLength h k = (h, (tt, (ArePlain-constant _ refl, (tt, (tt, (tt, (tt, tt)))))))

end_values_fit : (end : End) → FitsEnd end → FitValues (end_values end)
end_values_fit (Rest start finish kind) h = (h.0, (h.1, (kind_plain kind, (h.2, tt))))
end_values_fit (Skipped len) h = (omega arith, (h, (ArePlain-constant _ refl, (tt, tt))))
end_values_fit (Fault start closed cause) h = fault_fits start closed cause h.0 h.1

pub end_fits : (end : End) → FitsEnd end → Each FitsMember (end_members end)
end_fits end h =
    members_fit (section_rows (end_section end)) (end_values end) (rows_plain (end_section end)) (end_values_fit end h)
