-- The value of a line with each byte of a packet means the packet.
use Rattle.std.proofs.Common.{◌≡◌, ℕ, ◌^◌, ◌<◌, Bool, true, false, List, [], ◌∷◌, drop, codes, Option, Some, None, Ok, refl, ap, ap₂, ◌∙◌, arith, bytes_eq}
use Rattle.std.proofs.lemmas.Bool.{eq-eqb, lt-ltb}
use Rattle.std.proofs.lemmas.Slice.Eq.{bytes_eq-Decides}
use Rattle.std.specs.List.{flat_map}
use Rattle.std.specs.Prelude.{⊤}
use Rattle.etherparse.specs.Bytes.{IsBytes}
use Rattle.etherparse.specs.Header as headers
use Rattle.etherparse.proofs.SubLists.{IsBytes-drop}
use Rattle.serde_json.specs.Data.{Data, array, number, unsigned, Members, no_members, put}
use Rattle.ether_fields.specs.Fields.{section_name}
use Rattle.ether_fields.specs.declared.section.Section.{Section}
use Rattle.ether_fields.specs.declared.section.Section.TheVariants as sections
use Rattle.ether_output.specs.HexText.{hex_text}
use Rattle.ether_peel.specs.declared.rest_kind.RestKind.{RestKind}
use Rattle.ether_pcap.specs.Capture.{PacketValue}
use Rattle.ether_format.specs.declared.cause.Cause.{Cause}
use Rattle.ether_format.specs.Origins.{OriginValue}
use Rattle.ether_format.specs.declared.end.End.{End}
use Rattle.ether_format.specs.declared.end.End.TheVariants.{Rest, Skipped, Fault}
use Rattle.ether_format.specs.declared.moment.Moment.{Moment}
use Rattle.ether_format.specs.JsonBytes.{exact_end_members, exact_members, headers_end, told_reserved}
use Rattle.ether_format.specs.Members.{Member, packet_members}
use Rattle.ether_format.specs.Told.{Told, Walked, CookedV2, end_section}
use Rattle.ether_make.specs.Frames.{after_headers, agreed_link, fault_bytes, fault_names, first_header, frame_link, frame_names, front, rest_bytes, rest_names, text_rest, spelled_rest, unless_no_link}
use Rattle.ether_make.specs.Headers.{header_bytes, headers_bytes, if_named, next_in, section_given, unless_unknown}
use Rattle.ether_make.specs.Objects.{given, is_among, listed, not_null, unknown_member}
use Rattle.ether_make.specs.PacketData.{exact_data, headers_data, members_data, members_into}
use Rattle.ether_make.specs.Refusals.{Meaning}
use Rattle.ether_make.proofs.ArpBack.{arp_back}
use Rattle.ether_make.proofs.DataLemmas.{data_known, get_into, into_known, latest, put_found, put_known}
use Rattle.ether_make.proofs.ExactStacks.{FitsExact, exact_bytes}
use Rattle.ether_make.proofs.FramesBack.{all_back}
use Rattle.ether_make.proofs.HeadersBack.{eth_back, raw_data, vlan_back}
use Rattle.ether_make.proofs.JsonFits.{Each}
use Rattle.ether_make.proofs.SecTagBack.{tag_back}
use Rattle.ether_make.proofs.TextsBack.{hex_read}

-- ---- headers

module _ (packet : List ℕ) (ok : IsBytes packet) where
  one_back : (at : ℕ) (next : Option Section) (h : Told) → FitsExact h
      → header_bytes at next (members_data (exact_members packet h)) ≡ Ok (exact_bytes packet h)
  one_back at next (Walked place (headers.Ethernet2 e) fcs) fits = eth_back at next place e fits.1
  one_back at next (Walked place (headers.Ethernet2Fcs e) fcs) fits = eth_back at next place e fits.1
  one_back at next (Walked place (headers.Vlan v) fcs) fits = vlan_back at next place v fits.1
  one_back at next (Walked place (headers.Macsec t) fcs) fits =
      let second = IsBytes-drop place.start packet ok 1 in
      tag_back at next place t (told_reserved packet (Walked place (headers.Macsec t) fcs)) (omega (arith, second))
      fits.1
  one_back at next (Walked place (headers.Arp a) fcs) fits = arp_back at next place a fits.1
  one_back at next (Walked place (headers.LinuxSll s) fcs) fits = absurd fits.0
  one_back at next (CookedV2 place s) fits = absurd fits

  -- the first header, if there is one, is that of Ethernet
  abbrev pub BeginsEthernet : List Told → Type 0
  BeginsEthernet [] = ⊤
  BeginsEthernet (Walked place (headers.Ethernet2 e) fcs ∷ hs) = ⊤
  BeginsEthernet (Walked place (headers.Ethernet2Fcs e) fcs ∷ hs) = ⊤
  BeginsEthernet _ = ⊥

  abbrev first_of : List Told → Option Section
  first_of [] = None
  first_of (h ∷ hs) = Some sections.Eth

  first_back : (hs : List Told) → BeginsEthernet hs
      → next_in (listed (headers_data (exact_members packet) hs)) ≡ first_of hs
  first_back [] first = refl
  first_back (Walked place (headers.Ethernet2 e) fcs ∷ hs) first =
      ap (λ g. if_named (section_given g))
      (raw_data (codes "header") (exact_members packet (Walked place (headers.Ethernet2 e) fcs)))
  first_back (Walked place (headers.Ethernet2Fcs e) fcs ∷ hs) first =
      ap (λ g. if_named (section_given g))
      (raw_data (codes "header") (exact_members packet (Walked place (headers.Ethernet2Fcs e) fcs)))
  first_back (Walked place (headers.LinuxSll s) fcs ∷ hs) first = absurd first
  first_back (Walked place (headers.Vlan v) fcs ∷ hs) first = absurd first
  first_back (Walked place (headers.Macsec t) fcs ∷ hs) first = absurd first
  first_back (Walked place (headers.Arp a) fcs ∷ hs) first = absurd first
  first_back (CookedV2 place s ∷ hs) first = absurd first

  linked : (hs : List Told) (m : Meaning (List ℕ)) → unless_no_link (first_of hs) m ≡ m
  linked [] m = refl
  linked (h ∷ hs) m = refl

  pub front_back : (hs : List Told) → BeginsEthernet hs → Each FitsExact hs
      → front (Some (array (headers_data (exact_members packet) hs))) ≡ Ok (flat_map (exact_bytes packet) hs)
  front_back hs first fits =
      let meaning = headers_bytes 0 (listed (headers_data (exact_members packet) hs)) in
      ap (λ s. unless_no_link s meaning) (first_back hs first) ∙ linked hs meaning
      ∙ all_back (exact_members packet) FitsExact (exact_bytes packet) one_back 0 hs fits

  -- the link type of a packet without headers is any of 16 bits
  pub link_back : (hs : List Told) (n : ℕ) → BeginsEthernet hs → n < 2 ^ 16 → ((h : Told) (r : List Told)
      → hs ≡ h ∷ r → n ≡ 1)
      → frame_link (first_header (Some (array (headers_data (exact_members packet) hs)))) (Some (number (unsigned n)))
      ≡ Ok n
  link_back hs n first small one =
      rw (lt-ltb n 65536 small) (ap (λ s. agreed_link s n) (first_back hs first) ∙ agreed hs one)
    where
      agreed : (l : List Told) → ((h : Told) (r : List Told) → l ≡ h ∷ r → n ≡ 1) → agreed_link (first_of l) n ≡ Ok n
      agreed [] is = refl
      agreed (h ∷ r) is = rw (eq-eqb n 1 (is h r refl)) refl

-- ---- the bytes after them

module _ (packet : List ℕ) (ok : IsBytes packet) where
  abbrev last : End → List Member
  last end = exact_end_members packet end

  spelled_back : (end : End) → text_rest (Some (hex_text (drop (headers_end end) packet)))
      ≡ Ok (drop (headers_end end) packet)
  spelled_back end =
      ap spelled_rest (hex_read (drop (headers_end end) packet) (IsBytes-drop (headers_end end) packet ok))

  pub rest_back : (start finish : ℕ) (kind : RestKind)
      → after_headers (Some (members_data (last (Rest start finish kind)))) None ≡ Ok (drop start packet)
  rest_back start finish kind =
      let end = Rest start finish kind in
      ap₂ (λ u g. unless_unknown None u (rest_bytes g)) (data_known rest_names (last end) refl)
      (raw_data (codes "bytes") (last end))
      ∙ spelled_back end

  pub skipped_back : (len : ℕ) → after_headers (Some (members_data (last (Skipped len)))) None ≡ Ok packet
  skipped_back len =
      let end = Skipped len in
      ap₂ (λ u g. unless_unknown None u (rest_bytes g)) (data_known rest_names (last end) refl)
      (raw_data (codes "bytes") (last end))
      ∙ spelled_back end

  pub fault_back : (start : ℕ) (closed : Bool) (cause : Cause)
      → after_headers None (Some (members_data (last (Fault start closed cause)))) ≡ Ok (drop start packet)
  fault_back start closed cause =
      let end = Fault start closed cause in
      ap₂ (λ u g. unless_unknown None u (fault_bytes g)) (data_known fault_names (last end) refl)
      (raw_data (codes "bytes") (last end))
      ∙ spelled_back end

-- ---- the object

module _ (origin : OriginValue) (p : PacketValue) (moment : Option Moment) (hs : List Told) (end : End)
    (ok : IsBytes p.packet) where
  abbrev d : Data
  d = exact_data origin p moment hs end

  abbrev found : Members
  found = members_into (packet_members origin p moment) no_members

  abbrev name : List ℕ
  name = section_name (end_section end)

  abbrev ending : Data
  ending = members_data (exact_end_members p.packet end)

  abbrev more : Members
  more = put (codes "headers") (array (headers_data (exact_members p.packet) hs)) found

  -- a member of the packet itself
  pub own_given : (k : List ℕ) → bytes_eq k name ≡ false → bytes_eq k (codes "headers") ≡ false
      → given k d ≡ not_null (latest k (packet_members origin p moment) None)
  own_given k a b =
      ap not_null (put_found false k name ending more a
      ∙ put_found false k (codes "headers") (array (headers_data (exact_members p.packet) hs)) found b
      ∙ get_into k (packet_members origin p moment) no_members)

  pub headers_given : bytes_eq (codes "headers") name ≡ false
      → given (codes "headers") d ≡ Some (array (headers_data (exact_members p.packet) hs))
  headers_given a =
      ap not_null (put_found false (codes "headers") name ending more a
      ∙ put_found true (codes "headers") (codes "headers") (array (headers_data (exact_members p.packet) hs)) found
      refl)

  pub end_given : given name d ≡ Some ending
  end_given = ap not_null (put_found true name name ending more ((bytes_eq-Decides name name).1 refl))

  pub names_known : is_among frame_names name ≡ true → unknown_member frame_names d ≡ None
  names_known known =
      put_known frame_names name ending more known
      (put_known frame_names (codes "headers") (array (headers_data (exact_members p.packet) hs)) found refl
      (into_known frame_names (packet_members origin p moment) no_members refl refl))
