-- The tables of refusals: no two rows hold together, and it can be told whether one does.
use Rattle.std.proofs.Common.{◌≡◌, ℕ, ◌≤◌, Bool, true, false, not, length, refl, sym, subst, ◌∙◌, arith, inl, inr, ◌⊎◌}
use Rattle.std.proofs.lemmas.Bool.{cases_lt, cases_eq, eqb-true, eqb-false}
use Rattle.std.proofs.Math.Dec.{eqb}
use Rattle.ether_base.specs.declared.arp_hardware_id.ArpHardwareId.{ArpHardwareId}
use Rattle.ether_base.specs.declared.ether_type.EtherType.{EtherType}
use Rattle.ether_base.specs.Formats.Arp.{ArpValue}
use Rattle.ether_base.specs.declared.err.arp.arp_hw_addr_error.ArpHwAddrError.{ArpHwAddrError}
use Rattle.ether_base.specs.declared.err.arp.arp_hw_addr_error.ArpHwAddrError.TheVariants as hw
use Rattle.ether_base.specs.declared.err.arp.arp_proto_addr_error.ArpProtoAddrError.{ArpProtoAddrError}
use Rattle.ether_base.specs.declared.err.arp.arp_proto_addr_error.ArpProtoAddrError.TheVariants as proto
use Rattle.ether_base.specs.declared.err.arp.arp_new_error.ArpNewError.{ArpNewError}
use Rattle.ether_base.specs.declared.err.arp.arp_new_error.ArpNewError.TheVariants.{HwAddr, ProtoAddr}
use Rattle.ether_base.specs.declared.err.arp.arp_eth_ipv4_from_error.ArpEthIpv4FromError.{ArpEthIpv4FromError}
use Rattle.ether_base.specs.declared.err.arp.arp_eth_ipv4_from_error.ArpEthIpv4FromError.TheVariants.{NonMatchingHwType, NonMatchingProtocolType, NonMatchingHwAddrSize, NonMatchingProtoAddrSize}
use Rattle.ether_arp.specs.ArpAddresses.{RefusesHwAddrs, AcceptsHwAddrs, RefusesProtoAddrs, AcceptsProtoAddrs, RefusesAddrs, AcceptsAddrs}
use Rattle.ether_arp.specs.ArpAddresses as rows
use Rattle.ether_arp.specs.ArpEthIpv4.{RefusesEthIpv4, AcceptsEthIpv4}
use Rattle.ether_arp.specs.ArpEthIpv4 as readings

-- ---- no row holds

pub accepts_hw : (s t : ℕ) → s ≡ t → s ≤ 255 → AcceptsHwAddrs s t
accepts_hw s t e le d (rows.hw_unequal n) = n e
accepts_hw s t e le d (rows.hw_too_long f lt) = omega arith

pub accepts_proto : (s t : ℕ) → s ≡ t → s ≤ 255 → AcceptsProtoAddrs s t
accepts_proto s t e le d (rows.proto_unequal n) = n e
accepts_proto s t e le d (rows.proto_too_long f lt) = omega arith

pub accepts_addrs : (s p t q : ℕ) → s ≡ t → p ≡ q → s ≤ 255 → p ≤ 255 → AcceptsAddrs s p t q
accepts_addrs s p t q h e ls lp d (rows.hardware_unequal n) = n h
accepts_addrs s p t q h e ls lp d (rows.protocol_unequal f n) = n e
accepts_addrs s p t q h e ls lp d (rows.hardware_too_long f g lt) = omega arith
accepts_addrs s p t q h e ls lp d (rows.protocol_too_long f g le lt) = omega arith

pub accepts_eth_ipv4 : (a : ArpValue) → a.hardware_type ≡ 1 → a.protocol_type ≡ 2048 → length a.sender_hardware ≡ 6
    → length a.sender_protocol ≡ 4 → AcceptsEthIpv4 a
accepts_eth_ipv4 a t u h p d (readings.hardware_type n) = n t
accepts_eth_ipv4 a t u h p d (readings.protocol_type e n) = n u
accepts_eth_ipv4 a t u h p d (readings.hardware_size e f n) = n h
accepts_eth_ipv4 a t u h p d (readings.protocol_size e f g n) = n p

-- ---- at most one row holds

pub one_hw : (s t : ℕ) (d e : ArpHwAddrError) → RefusesHwAddrs s t d → RefusesHwAddrs s t e → d ≡ e
one_hw s t d e (rows.hw_unequal n) (rows.hw_unequal m) = refl
one_hw s t d e (rows.hw_unequal n) (rows.hw_too_long f lt) = absurd (n f)
one_hw s t d e (rows.hw_too_long f lt) (rows.hw_unequal n) = absurd (n f)
one_hw s t d e (rows.hw_too_long f lt) (rows.hw_too_long g mt) = refl

pub one_proto : (s t : ℕ) (d e : ArpProtoAddrError) → RefusesProtoAddrs s t d → RefusesProtoAddrs s t e → d ≡ e
one_proto s t d e (rows.proto_unequal n) (rows.proto_unequal m) = refl
one_proto s t d e (rows.proto_unequal n) (rows.proto_too_long f lt) = absurd (n f)
one_proto s t d e (rows.proto_too_long f lt) (rows.proto_unequal n) = absurd (n f)
one_proto s t d e (rows.proto_too_long f lt) (rows.proto_too_long g mt) = refl

pub one_new : (s p t q : ℕ) (d e : ArpNewError) → RefusesAddrs s p t q d → RefusesAddrs s p t q e → d ≡ e
one_new _ _ _ _ d e (rows.hardware_unequal n) (rows.hardware_unequal m) = refl
one_new _ _ _ _ d e (rows.hardware_unequal n) (rows.protocol_unequal h m) = absurd (n h)
one_new _ _ _ _ d e (rows.hardware_unequal n) (rows.hardware_too_long h p lt) = absurd (n h)
one_new _ _ _ _ d e (rows.hardware_unequal n) (rows.protocol_too_long h p le lt) = absurd (n h)
one_new _ _ _ _ d e (rows.protocol_unequal i n) (rows.hardware_unequal m) = absurd (m i)
one_new _ _ _ _ d e (rows.protocol_unequal i n) (rows.protocol_unequal h m) = refl
one_new _ _ _ _ d e (rows.protocol_unequal i n) (rows.hardware_too_long h p lt) = absurd (n p)
one_new _ _ _ _ d e (rows.protocol_unequal i n) (rows.protocol_too_long h p le lt) = absurd (n p)
one_new _ _ _ _ d e (rows.hardware_too_long i q lt) (rows.hardware_unequal m) = absurd (m i)
one_new _ _ _ _ d e (rows.hardware_too_long i q lt) (rows.protocol_unequal h m) = absurd (m q)
one_new _ _ _ _ d e (rows.hardware_too_long i q lt) (rows.hardware_too_long h p mt) = refl
one_new _ _ _ _ d e (rows.hardware_too_long i q lt) (rows.protocol_too_long h p le mt) = absurd (omega arith)
one_new _ _ _ _ d e (rows.protocol_too_long i q ke lt) (rows.hardware_unequal m) = absurd (m i)
one_new _ _ _ _ d e (rows.protocol_too_long i q ke lt) (rows.protocol_unequal h m) = absurd (m q)
one_new _ _ _ _ d e (rows.protocol_too_long i q ke lt) (rows.hardware_too_long h p mt) = absurd (omega arith)
one_new _ _ _ _ d e (rows.protocol_too_long i q ke lt) (rows.protocol_too_long h p le mt) = refl

pub one_eth_ipv4 : (a : ArpValue) (d e : ArpEthIpv4FromError) → RefusesEthIpv4 a d → RefusesEthIpv4 a e → d ≡ e
one_eth_ipv4 a d e (readings.hardware_type n) (readings.hardware_type m) = refl
one_eth_ipv4 a d e (readings.hardware_type n) (readings.protocol_type t m) = absurd (n t)
one_eth_ipv4 a d e (readings.hardware_type n) (readings.hardware_size t u m) = absurd (n t)
one_eth_ipv4 a d e (readings.hardware_type n) (readings.protocol_size t u h m) = absurd (n t)
one_eth_ipv4 a d e (readings.protocol_type r n) (readings.hardware_type m) = absurd (m r)
one_eth_ipv4 a d e (readings.protocol_type r n) (readings.protocol_type t m) = refl
one_eth_ipv4 a d e (readings.protocol_type r n) (readings.hardware_size t u m) = absurd (n u)
one_eth_ipv4 a d e (readings.protocol_type r n) (readings.protocol_size t u h m) = absurd (n u)
one_eth_ipv4 a d e (readings.hardware_size r s n) (readings.hardware_type m) = absurd (m r)
one_eth_ipv4 a d e (readings.hardware_size r s n) (readings.protocol_type t m) = absurd (m s)
one_eth_ipv4 a d e (readings.hardware_size r s n) (readings.hardware_size t u m) = refl
one_eth_ipv4 a d e (readings.hardware_size r s n) (readings.protocol_size t u h m) = absurd (n h)
one_eth_ipv4 a d e (readings.protocol_size r s k n) (readings.hardware_type m) = absurd (m r)
one_eth_ipv4 a d e (readings.protocol_size r s k n) (readings.protocol_type t m) = absurd (m s)
one_eth_ipv4 a d e (readings.protocol_size r s k n) (readings.hardware_size t u m) = absurd (m k)
one_eth_ipv4 a d e (readings.protocol_size r s k n) (readings.protocol_size t u h m) = refl

-- ---- it can be told whether a row holds

pub decide_hw : (s t : ℕ) → ((e : ArpHwAddrError) × RefusesHwAddrs s t e) ⊎ AcceptsHwAddrs s t
decide_hw s t =
    elim (cases_eq s t) [
      | inl e ↦ elim (cases_lt 255 s)
          [ inl lt ↦ inl (hw.LenTooBig s, rows.hw_too_long e lt) | inr le ↦ inr (accepts_hw s t e le) ]
      | inr n ↦ inl (hw.LenNonMatching s t, rows.hw_unequal n)
    ]

pub decide_proto : (s t : ℕ) → ((e : ArpProtoAddrError) × RefusesProtoAddrs s t e) ⊎ AcceptsProtoAddrs s t
decide_proto s t =
    elim (cases_eq s t) [
      | inl e ↦ elim (cases_lt 255 s)
          [ inl lt ↦ inl (proto.LenTooBig s, rows.proto_too_long e lt) | inr le ↦ inr (accepts_proto s t e le) ]
      | inr n ↦ inl (proto.LenNonMatching s t, rows.proto_unequal n)
    ]

pub decide_new : (s p t q : ℕ) → ((e : ArpNewError) × RefusesAddrs s p t q e) ⊎ AcceptsAddrs s p t q
decide_new s p t q =
    elim (cases_eq s t) [
      | inl h ↦ elim (cases_eq p q) [
        | inl e ↦ elim (cases_lt 255 s) [
          | inl lt ↦ inl (HwAddr (hw.LenTooBig s), rows.hardware_too_long h e lt)
          | inr le ↦ elim (cases_lt 255 p) [
            | inl lt ↦ inl (ProtoAddr (proto.LenTooBig p), rows.protocol_too_long h e le lt)
            | inr ke ↦ inr
                (accepts_addrs s p t q h e le ke)
          ]
        ]
        | inr n ↦ inl (ProtoAddr (proto.LenNonMatching p q), rows.protocol_unequal h n)
      ]
      | inr n ↦ inl (HwAddr (hw.LenNonMatching s t), rows.hardware_unequal n)
    ]

pub decide_eth_ipv4 : (a : ArpValue) → ((e : ArpEthIpv4FromError) × RefusesEthIpv4 a e) ⊎ AcceptsEthIpv4 a
decide_eth_ipv4 a =
    elim (cases_eq a.hardware_type 1) [
      | inl t ↦ elim (cases_eq a.protocol_type 2048) [
        | inl u ↦ elim (cases_eq (length a.sender_hardware) 6) [
          | inl h ↦ elim (cases_eq (length a.sender_protocol) 4) [
            | inl p ↦ inr (accepts_eth_ipv4 a t u h p)
            | inr n ↦ inl (NonMatchingProtoAddrSize (length a.sender_protocol), readings.protocol_size t u h n)
          ]
          | inr n ↦ inl (NonMatchingHwAddrSize (length a.sender_hardware), readings.hardware_size t u n)
        ]
        | inr n ↦ inl (NonMatchingProtocolType (record { 0 = a.protocol_type }), readings.protocol_type t n)
      ]
      | inr n ↦ inl (NonMatchingHwType (record { 0 = a.hardware_type }), readings.hardware_type n)
    ]

-- ---- comparisons of types, as the body makes them

unequal : (b : Bool) → true ≡ not b → b ≡ false
unequal true h = absurd cc
unequal false h = refl

equal : (b : Bool) → false ≡ not b → b ≡ true
equal true h = refl
equal false h = absurd cc

pub differs : (a b : ℕ) → true ≡ not (eqb a b) → a ≡ b → ⊥
differs a b h = eqb-false a b (unequal (eqb a b) h)

pub agrees : (a b : ℕ) → false ≡ not (eqb a b) → a ≡ b
agrees a b h = eqb-true a b (equal (eqb a b) h)

-- ---- the rows of a value whose numbers are known

pub row_hardware_type : (a : ArpValue) (hardware : ArpHardwareId) → a.hardware_type ≡ hardware.0 → (hardware.0 ≡ 1 → ⊥)
    → RefusesEthIpv4 a (NonMatchingHwType hardware)
row_hardware_type a hardware e n =
    subst (λ (k : ArpHardwareId). RefusesEthIpv4 a (NonMatchingHwType k)) (λ i. record { 0 = e i })
    (readings.hardware_type (λ f. n (sym e ∙ f)))

pub row_protocol_type : (a : ArpValue) (protocol : EtherType) → a.hardware_type ≡ 1 → a.protocol_type ≡ protocol.0
    → (protocol.0 ≡ 2048 → ⊥) → RefusesEthIpv4 a (NonMatchingProtocolType protocol)
row_protocol_type a protocol t e n =
    subst (λ (k : EtherType). RefusesEthIpv4 a (NonMatchingProtocolType k)) (λ i. record { 0 = e i })
    (readings.protocol_type t (λ f. n (sym e ∙ f)))

pub row_hardware_size : (a : ArpValue) (size : ℕ) → a.hardware_type ≡ 1 → a.protocol_type ≡ 2048
    → size ≡ length a.sender_hardware → (size ≡ 6 → ⊥) → RefusesEthIpv4 a (NonMatchingHwAddrSize size)
row_hardware_size a size t u e n =
    subst (λ (k : ℕ). RefusesEthIpv4 a (NonMatchingHwAddrSize k)) (sym e) (readings.hardware_size t u (λ f. n (e ∙ f)))

pub row_protocol_size : (a : ArpValue) (size : ℕ) → a.hardware_type ≡ 1 → a.protocol_type ≡ 2048
    → length a.sender_hardware ≡ 6 → size ≡ length a.sender_protocol → (size ≡ 4 → ⊥)
    → RefusesEthIpv4 a (NonMatchingProtoAddrSize size)
row_protocol_size a size t u h e n =
    subst (λ (k : ℕ). RefusesEthIpv4 a (NonMatchingProtoAddrSize k)) (sym e)
    (readings.protocol_size t u h (λ f. n (e ∙ f)))
