-- Derived equalities of values with many fields, as conjunctions of what each field's equality decides.
use Rattle.std.proofs.Common.{rules, ◌≡◌, ◌==◌, ◌&&◌, Bool, true, ℕ, ap, ◌∙◌}
use Rattle.std.proofs.lemmas.Bool.{and_parts}
use Rattle.std.proofs.lemmas.Slice.Eq.{bytes_eq-Decides}
use Rattle.std.specs.Bool.{Decides}
use Rattle.std.specs.Cmp.{unsigned_Decides, booleans_Decides}
use Rattle.std.specs.Option.{option_eq}
use Rattle.std.specs.Prelude.{Option}
use Rattle.ether_tags.specs.contracts.macsec_header.MacsecHeaderPartialEq.TheImpl as header
use Rattle.ether_tags.specs.contracts.macsec_p_type.MacsecPTypePartialEq.TheImpl as ptype
use Rattle.ether_tags.specs.contracts.link_ext_header.LinkExtHeaderPartialEq.TheImpl as ext_header
use Rattle.ether_tags.specs.contracts.macsec_payload_slice.MacsecPayloadSlicePartialEq.TheImpl as payload
use Rattle.ether_tags.specs.contracts.macsec_slice.MacsecSlicePartialEq.TheImpl as slice
use Rattle.ether_tags.specs.contracts.link_ext_slice.LinkExtSlicePartialEq.TheImpl as ext_slice
use Rattle.ether_tags.specs.declared.link_ext_slice.LinkExtSlice.{LinkExtSlice}
use Rattle.ether_tags.specs.declared.link_ext_slice.LinkExtSlice.TheVariants as views
use Rattle.ether_tags.specs.LinkExt.{SameExt}
use Rattle.ether_tags.specs.declared.link_ext_header.LinkExtHeader.{LinkExtHeader}
use Rattle.ether_tags.specs.declared.link_ext_header.LinkExtHeader.TheVariants as exts
use Rattle.ether_tags.specs.declared.macsec_payload_slice.MacsecPayloadSlice.{MacsecPayloadSlice}
use Rattle.ether_tags.specs.declared.macsec_payload_slice.MacsecPayloadSlice.TheVariants as kept
use Rattle.ether_tags.specs.declared.macsec_slice.MacsecSlice.{MacsecSlice}
use Rattle.ether_tags.specs.Macsec.{SamePayload, SameTagged}
use Rattle.ether_tags.specs.declared.macsec_header.MacsecHeader.{MacsecHeader}
use Rattle.ether_tags.specs.declared.macsec_p_type.MacsecPType.{MacsecPType}
use Rattle.ether_tags.specs.declared.macsec_p_type.MacsecPType.TheVariants.{Unmodified, Modified, Encrypted, EncryptedUnmodified}

and_true : (x y : Bool) → x ≡ true → y ≡ true → x && y ≡ true
and_true x y h k = ap (λ (b : Bool). b && y) h ∙ k

-- two tests decide both facts
pub both : {P Q : Type 0} (x y : Bool) → Decides x P → Decides y Q → Decides (x && y) (P × Q)
both x y p q = (λ h. let parts = and_parts x y h in (p.0 parts.0, q.0 parts.1), λ h. and_true x y (p.1 h.0) (q.1 h.1))

-- ---- headers

ptypes_Decides : (a b : MacsecPType) → Decides ((ptype.ghosts).eq a b) (a ≡ b)
ptypes_Decides (Unmodified t) b = (search rules, search rules)
ptypes_Decides Modified b = (search rules, search rules)
ptypes_Decides Encrypted b = (search rules, search rules)
ptypes_Decides EncryptedUnmodified b = (search rules, search rules)

sci_Decides : (a b : Option ℕ) → Decides (option_eq ◌==◌ a b) (a ≡ b)
sci_Decides a b = (search rules, search rules)

pub headers_Decides : (a b : MacsecHeader) → Decides ((header.ghosts).eq a b) (a ≡ b)
headers_Decides a b =
    let sci = sci_Decides a.sci b.sci in
    let packet_nr = both _ _ (unsigned_Decides a.packet_nr b.packet_nr) sci in
    let short_len = both _ _ (unsigned_Decides a.short_len b.short_len) packet_nr in
    let an = both _ _ (unsigned_Decides a.an b.an) short_len in
    let scb = both _ _ (booleans_Decides a.scb b.scb) an in
    let endstation_id = both _ _ (booleans_Decides a.endstation_id b.endstation_id) scb in
    let all = both _ _ (ptypes_Decides a.ptype b.ptype) endstation_id in (
      λ same. let e =
          all.0 same
          in λ i. record {
            ptype = e.0 i;
            endstation_id = e.1.0 i;
            scb = e.1.1.0 i;
            an = e.1.1.1.0 i;
            short_len = e.1.1.1.1.0 i;
            packet_nr = e.1.1.1.1.1.0 i;
            sci = e.1.1.1.1.1.1 i;
          },
      λ e.
          all.1 (
            ap (λ (h : MacsecHeader). h.ptype) e,
            (
              ap (λ (h : MacsecHeader). h.endstation_id) e,
              (
                ap (λ (h : MacsecHeader). h.scb) e,
                (
                  ap (λ (h : MacsecHeader). h.an) e,
                  (
                    ap (λ (h : MacsecHeader). h.short_len) e,
                    (ap (λ (h : MacsecHeader). h.packet_nr) e, ap (λ (h : MacsecHeader). h.sci) e),
                  ),
                ),
              ),
            ),
          ),
    )

pub ext_headers_Decides : (a b : LinkExtHeader) → Decides ((ext_header.ghosts).eq a b) (a ≡ b)
ext_headers_Decides (exts.Vlan h) b = (search rules, search rules)
ext_headers_Decides (exts.Macsec h) (exts.Vlan k) = (search rules, search rules)
ext_headers_Decides (exts.Macsec h) (exts.Macsec k) =
    let d = headers_Decides h k in (λ same. ap exts.Macsec (d.0 same), λ e. d.1 cc)

-- ---- views

payloads_Decides : (a b : MacsecPayloadSlice) → Decides ((payload.ghosts).eq a b) (SamePayload a b)
payloads_Decides (kept.Unmodified p) b = (search rules, search rules)
payloads_Decides (kept.Modified p) b = (search rules, search rules)

pub slices_Decides : (a b : MacsecSlice) → Decides ((slice.ghosts).eq a b) (SameTagged a b)
slices_Decides a b =
    both _ _ (bytes_eq-Decides a.header.slice.now b.header.slice.now) (payloads_Decides a.payload b.payload)

pub ext_slices_Decides : (a b : LinkExtSlice) → Decides ((ext_slice.ghosts).eq a b) (SameExt a b)
ext_slices_Decides (views.Vlan s) (views.Vlan t) = bytes_eq-Decides s t
ext_slices_Decides (views.Vlan s) (views.Macsec t) = (search rules, search rules)
ext_slices_Decides (views.Macsec s) (views.Vlan t) = (search rules, search rules)
ext_slices_Decides (views.Macsec s) (views.Macsec t) = slices_Decides s t
