-- The value of a packet's line means the packet's headers.
use Rattle.std.proofs.Common.{◌≡◌, ℕ, ◌+◌, true, false, List, [], ◌∷◌, codes, Option, Some, None, Ok, refl, ap, ap₂, ◌∙◌, arith, append-nil}
use Rattle.std.specs.List.{flat_map}
use Rattle.std.specs.Prelude.{⊤}
use Rattle.etherparse.specs.Arp.{FitsArp}
use Rattle.etherparse.specs.Ethernet2.{FitsEthernet2}
use Rattle.etherparse.specs.Macsec.{FitsSecTag}
use Rattle.etherparse.specs.Vlan.{FitsVlan}
use Rattle.etherparse.specs.Header as headers
use Rattle.serde_json.specs.Data.{Data, array, Members, no_members, put}
use Rattle.ether_fields.specs.declared.section.Section.{Section}
use Rattle.ether_fields.specs.declared.section.Section.TheVariants as sections
use Rattle.ether_peel.specs.declared.rest_kind.RestKind.{RestKind}
use Rattle.ether_pcap.specs.Capture.{PacketValue}
use Rattle.ether_format.specs.Origins.{OriginValue}
use Rattle.ether_format.specs.declared.end.End.{End}
use Rattle.ether_format.specs.declared.end.End.TheVariants.{Rest}
use Rattle.ether_format.specs.declared.moment.Moment.{Moment}
use Rattle.ether_format.specs.Members.{Member, packet_members}
use Rattle.ether_format.specs.Told.{Told, Walked, CookedV2, told_members, end_members}
use Rattle.ether_make.specs.FrameLaws.{told_bytes}
use Rattle.ether_make.specs.Frames.{after_headers, frame_bytes, frame_names, front, rest_bytes, rest_names, unless_no_link}
use Rattle.ether_make.specs.Headers.{header_bytes, headers_bytes, if_named, next_in, section_in, section_given, unless_unknown}
use Rattle.ether_make.specs.Objects.{given, not_null, listed, unknown_member}
use Rattle.ether_make.specs.PacketData.{members_data, members_into, headers_data, packet_data}
use Rattle.ether_make.specs.Refusals.{Meaning, joined}
use Rattle.ether_make.proofs.ArpBack.{arp_back}
use Rattle.ether_make.proofs.DataLemmas.{get_into, put_found, put_known, into_known, data_known}
use Rattle.ether_make.proofs.HeadersBack.{raw_data, eth_back, vlan_back}
use Rattle.ether_make.proofs.JsonFits.{Each}
use Rattle.ether_make.proofs.SecTagBack.{tag_back}

-- a header that is made again, whose numbers are in their ranges
abbrev pub IsMade : Told → Type 0
IsMade (Walked place (headers.Ethernet2 e) None) = FitsEthernet2 e
IsMade (Walked place (headers.Vlan v) None) = FitsVlan v
IsMade (Walked place (headers.Macsec t) None) = FitsSecTag t
IsMade (Walked place (headers.Arp a) None) = FitsArp a
IsMade _ = ⊥

one_back : (at : ℕ) (next : Option Section) (h : Told) → IsMade h
    → header_bytes at next (members_data (told_members h)) ≡ Ok (told_bytes h)
one_back at next (Walked place (headers.Ethernet2 e) None) made = eth_back at next place e made
one_back at next (Walked place (headers.Vlan v) None) made = vlan_back at next place v made
one_back at next (Walked place (headers.Macsec t) None) made = tag_back at next place t 0 (omega arith) made
one_back at next (Walked place (headers.Arp a) None) made = arp_back at next place a made
one_back at next (Walked place (headers.Ethernet2 e) (Some fcs)) made = absurd made
one_back at next (Walked place (headers.Vlan v) (Some fcs)) made = absurd made
one_back at next (Walked place (headers.Arp a) (Some fcs)) made = absurd made
one_back at next (Walked place (headers.Ethernet2Fcs e) fcs) made = absurd made
one_back at next (Walked place (headers.LinuxSll s) fcs) made = absurd made
one_back at next (Walked place (headers.Macsec t) (Some fcs)) made = absurd made
one_back at next (CookedV2 place s) made = absurd made

-- objects of headers, if each means the bytes that a function says
pub all_back : (f : Told → List Member) (P : Told → Type 0) (g : Told → List ℕ)
    → ((at : ℕ) (next : Option Section) (h : Told) → P h → header_bytes at next (members_data (f h)) ≡ Ok (g h))
    → (at : ℕ) (hs : List Told) → Each P hs → headers_bytes at (listed (headers_data f hs)) ≡ Ok (flat_map g hs)
all_back f P g one at [] made = refl
all_back f P g one at (h ∷ hs) made =
    ap₂ (λ (x y : Meaning (List ℕ)). joined x y) (one at (next_in (listed (headers_data f hs))) h made.0)
    (all_back f P g one (at + 1) hs made.1)

-- the first header is that of a link
abbrev pub BeginsLink : List Told → Type 0
BeginsLink (Walked place (headers.Ethernet2 e) None ∷ hs) = ⊤
BeginsLink _ = ⊥

front_back : (hs : List Told) → BeginsLink hs → Each IsMade hs
    → front (Some (array (headers_data told_members hs))) ≡ Ok (flat_map told_bytes hs)
front_back (Walked place (headers.Ethernet2 e) None ∷ hs) first made =
    let eth = told_members (Walked place (headers.Ethernet2 e) None) in
    let named : section_in (members_data eth) ≡ Ok sections.Eth = ap section_given (raw_data (codes "header") eth) in
    let all = Walked place (headers.Ethernet2 e) None ∷ hs in
    ap (λ s. unless_no_link (if_named s) (headers_bytes 0 (listed (headers_data told_members all)))) named
    ∙ all_back told_members IsMade told_bytes one_back 0 all made
front_back [] first made = absurd first
front_back (Walked place (headers.Ethernet2 e) (Some fcs) ∷ hs) first made = absurd first
front_back (Walked place (headers.Ethernet2Fcs e) fcs ∷ hs) first made = absurd first
front_back (Walked place (headers.LinuxSll s) fcs ∷ hs) first made = absurd first
front_back (Walked place (headers.Vlan v) fcs ∷ hs) first made = absurd first
front_back (Walked place (headers.Macsec t) fcs ∷ hs) first made = absurd first
front_back (Walked place (headers.Arp a) fcs ∷ hs) first made = absurd first
front_back (CookedV2 place s ∷ hs) first made = absurd first

-- ---- a packet without a fault

module _ (origin : OriginValue) (p : PacketValue) (moment : Option Moment) (hs : List Told) (start finish : ℕ)
    (kind : RestKind) where
  abbrev end : End
  end = Rest start finish kind

  abbrev d : Data
  d = packet_data origin p moment hs end

  abbrev found : Members
  found = members_into (packet_members origin p moment) no_members

  abbrev more : Members
  more = put (codes "headers") (array (headers_data told_members hs)) found

  headers_given : given (codes "headers") d ≡ Some (array (headers_data told_members hs))
  headers_given =
      ap not_null (put_found false (codes "headers") (codes "rest") (members_data (end_members end)) more refl
      ∙ put_found true (codes "headers") (codes "headers") (array (headers_data told_members hs)) found refl)

  rest_given : given (codes "rest") d ≡ Some (members_data (end_members end))
  rest_given = ap not_null (put_found true (codes "rest") (codes "rest") (members_data (end_members end)) more refl)

  fault_given : given (codes "fault") d ≡ None
  fault_given =
      ap not_null (put_found false (codes "fault") (codes "rest") (members_data (end_members end)) more refl
      ∙ put_found false (codes "fault") (codes "headers") (array (headers_data told_members hs)) found refl
      ∙ get_into (codes "fault") (packet_members origin p moment) no_members)

  rest_back : after_headers (Some (members_data (end_members end))) None ≡ Ok []
  rest_back =
      ap₂ (λ u g. unless_unknown None u (rest_bytes g)) (data_known rest_names (end_members end) refl)
      (raw_data (codes "bytes") (end_members end))

  pub names_known : unknown_member frame_names d ≡ None
  names_known =
      put_known frame_names (codes "rest") (members_data (end_members end)) more refl
      (put_known frame_names (codes "headers") (array (headers_data told_members hs)) found refl
      (into_known frame_names (packet_members origin p moment) no_members refl refl))

  pub frame_back : BeginsLink hs → Each IsMade hs → frame_bytes d ≡ Ok (flat_map told_bytes hs)
  frame_back first made =
      ap₂ (λ (x y : Meaning (List ℕ)). joined x y) (ap front headers_given
      ∙ front_back hs first made) (ap₂ (λ r f. after_headers r f) rest_given fault_given ∙ rest_back)
      ∙ ap Ok (append-nil (flat_map told_bytes hs))
