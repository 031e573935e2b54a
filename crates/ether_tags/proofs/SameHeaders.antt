-- Headers that are the same value of the wire format are the same.
use Rattle.std.proofs.Common.{◌≡◌, Bool, true, false, refl, ap}
use Rattle.ether_base.specs.Bytes.{bit}
use Rattle.ether_base.specs.Formats.Vlan.{VlanValue}
use Rattle.ether_base.specs.Formats.Macsec.{SecTagValue}
use Rattle.ether_tags.specs.Vlan.{vlan_view}
use Rattle.ether_tags.specs.Macsec.{payload_type_view, sec_tag_view}
use Rattle.ether_tags.specs.declared.single_vlan_header.SingleVlanHeader.{SingleVlanHeader}
use Rattle.ether_tags.specs.declared.macsec_header.MacsecHeader.{MacsecHeader}
use Rattle.ether_tags.specs.declared.macsec_p_type.MacsecPType.{MacsecPType}
use Rattle.ether_tags.specs.declared.macsec_p_type.MacsecPType.TheVariants.{Unmodified, Modified, Encrypted, EncryptedUnmodified}

bits_same : (b c : Bool) → bit b ≡ bit c → b ≡ c
bits_same false false e = refl
bits_same false true e = absurd cc
bits_same true false e = absurd cc
bits_same true true e = refl

types_same : (a b : MacsecPType) → payload_type_view a ≡ payload_type_view b → a ≡ b
types_same (Unmodified t) (Unmodified u) e = let n : t.0 ≡ u.0 = cc in λ i. Unmodified (record { 0 = n i })
types_same Modified Modified e = refl
types_same Encrypted Encrypted e = refl
types_same EncryptedUnmodified EncryptedUnmodified e = refl
types_same _ _ e = absurd cc

pub vlan_headers_same : (h k : SingleVlanHeader) → vlan_view h ≡ vlan_view k → h ≡ k
vlan_headers_same h k e =
    let dei = bits_same h.drop_eligible_indicator k.drop_eligible_indicator (ap (λ (v : VlanValue). v.dei) e) in
    λ i.
    record {
      pcp = (e i).pcp;
      drop_eligible_indicator = dei i;
      vlan_id = (e i).vid;
      ether_type = record { 0 = (e i).ether_type };
    }

pub macsec_headers_same : (h k : MacsecHeader) → sec_tag_view h ≡ sec_tag_view k → h ≡ k
macsec_headers_same h k e =
    let ptype = types_same h.ptype k.ptype (ap (λ (t : SecTagValue). t.payload_type) e) in
    let es = bits_same h.endstation_id k.endstation_id (ap (λ (t : SecTagValue). t.end_station) e) in
    let scb = bits_same h.scb k.scb (ap (λ (t : SecTagValue). t.single_copy_broadcast) e) in
    λ i.
    record {
      ptype = ptype i;
      endstation_id = es i;
      scb = scb i;
      an = (e i).association_number;
      short_len = (e i).short_len;
      packet_nr = (e i).packet_number;
      sci = (e i).sci;
    }
