-- What an ether type that may be announced leads to.
use Rattle.std.proofs.Common.{◌≡◌, ℕ, ◌+◌, ◌*◌, ◌/◌, ◌<◌, ◌≤◌, refl, arith, inl, inr, ◌⊎◌, Bool, true, false, nat_eq, ◌||◌, cond}
use Rattle.std.specs.Prelude.{None, ◌==◌}
use Rattle.etherparse.specs.LinuxSllProtocolType.{link_protocol_of}
use Rattle.std.proofs.lemmas.Bool.{eqb-true, cases_eq, ne_eqb}
use Rattle.etherparse.specs.Vlan.{is_vlan_ether_type}
use Rattle.etherparse.specs.Header.{Header}
use Rattle.etherparse.specs.Header as headers
use Rattle.etherparse.specs.Macsec as payloads
use Rattle.etherparse.specs.Macsec.{PayloadType}
use Rattle.ether_peel.specs.Grammar.Expectation.{Next, EtherType, Sll, announced_by, announced_next, next_after, after_payload}
use Rattle.ether_filter.specs.declared.prospect.Announced.{Announced}
use Rattle.ether_filter.specs.declared.prospect.Announced.TheVariants.{Nothing, Any, High}
use Rattle.ether_filter.specs.Prospects.{Offers}
use Rattle.ether_filter.proofs.Following.{is_lead}

-- ---- a VLAN tag can follow where something can that has another header after it

pub record TagType (next : Announced) : Type 0 where
  pub number : ℕ
  pub offered : Offers next number
  pub is_vlan : is_vlan_ether_type number ≡ true
  pub fits : number < 65536

pub vlan_in : (t : ℕ) → is_vlan_ether_type t ≡ true → (t ≡ 0x8100) ⊎ ((t ≡ 0x88A8) ⊎ (t ≡ 0x9100))
vlan_in t is = by_tests (nat_eq t 0x8100) (nat_eq t 0x88A8) (nat_eq t 0x9100) (eqb-true t 0x8100) (eqb-true t 0x88A8)
    (eqb-true t 0x9100) is
  where
    by_tests : {A B C : Type 0} (a b c : Bool) → (a ≡ true → A) → (b ≡ true → B) → (c ≡ true → C)
        → (a || (b || (c || false))) ≡ true → A ⊎ (B ⊎ C)
    by_tests true b c f g h is = inl (f refl)
    by_tests false true c f g h is = inr (inl (g refl))
    by_tests false false true f g h is = inr (inr (h refl))
    by_tests false false false f g h is = absurd cc

lead_in : (t : ℕ) → is_lead t ≡ true → (is_vlan_ether_type t ≡ true) ⊎ (t ≡ 0x88E5)
lead_in t is = by_tests (is_vlan_ether_type t) (nat_eq t 0x88E5) (eqb-true t 0x88E5) is
  where
    by_tests : {B : Type 0} (a b : Bool) → (b ≡ true → B) → (a || b) ≡ true → (a ≡ true) ⊎ B
    by_tests true b g is = inl refl
    by_tests false true g is = inr (g refl)
    by_tests false false g is = absurd cc

pub vlan_below : (t : ℕ) → is_vlan_ether_type t ≡ true → t < 65536
vlan_below t is = elim (vlan_in t is) [
  | inl a ↦ omega (arith, a)
  | inr (inl b) ↦ omega (arith, b)
  | inr (inr c) ↦ omega (arith, c)
]

beside_sec_tag : (next : Announced) (t : ℕ) → Offers next t → t ≡ 0x88E5 → Offers next 0x88A8
beside_sec_tag Nothing t offers is = offers
beside_sec_tag Any t offers is = tt
beside_sec_tag (High b) t offers is = omega (arith, offers, is)

pub tag_type : (next : Announced) (t : ℕ) → Offers next t → is_lead t ≡ true → TagType next
tag_type next t offers is = elim (lead_in t is) [
  | inl vlan ↦ record { number = t; offered = offers; is_vlan = vlan; fits = vlan_below t vlan }
  | inr sec_tag ↦ record {
    number = 0x88A8;
    offered = beside_sec_tag next t offers sec_tag;
    is_vlan = refl;
    fits = omega arith;
  }
]

-- ---- nothing can follow where an ether type can

-- .. a type other than one
pub record QuietType (next : Announced) (other : ℕ) : Type 0 where
  pub number : ℕ
  pub offered : Offers next number
  pub announces_nothing : announced_by number ≡ None
  pub fits : number < 65536
  pub differs : number ≡ other → ⊥

quiet_low : (b low : ℕ) → (low ≡ 1) ⊎ (low ≡ 2) → announced_by (b * 256 + low) ≡ None
quiet_low b low is =
    rw (
      ne_eqb (b * 256 + low) 0x8100 (λ e. omega (arith, e, few)),
      ne_eqb (b * 256 + low) 0x88A8 (λ e. omega (arith, e, few)),
      ne_eqb (b * 256 + low) 0x9100 (λ e. omega (arith, e, few)),
      ne_eqb (b * 256 + low) 0x88E5 (λ e. omega (arith, e, few)),
      ne_eqb (b * 256 + low) 0x0806 (λ e. omega (arith, e, few)),
    ) refl
  where
    few : (1 ≤ low) × (low ≤ 2)
    few = elim is [
      | inl one ↦ (omega (arith, one), omega (arith, one))
      | inr two ↦ (omega (arith, two), omega (arith, two))
    ]

quiet_in : (next : Announced) (b other : ℕ) → b < 256 → ((t : ℕ) → t / 256 ≡ b → Offers next t)
    → QuietType next other
quiet_in next b other lt offers = elim (cases_eq (b * 256 + 1) other) [
  | inl same ↦ record {
    number = b * 256 + 2;
    offered = offers (b * 256 + 2) (omega arith);
    announces_nothing = quiet_low b 2 (inr refl);
    fits = omega (arith, lt);
    differs = λ is. omega (arith, is, same);
  }
  | inr never ↦ record {
    number = b * 256 + 1;
    offered = offers (b * 256 + 1) (omega arith);
    announces_nothing = quiet_low b 1 (inl refl);
    fits = omega (arith, lt);
    differs = never;
  }
]

pub quiet_type : (next : Announced) (t other : ℕ) → t < 65536 → Offers next t → QuietType next other
quiet_type Nothing t other lt offers = absurd offers
quiet_type Any t other lt offers = quiet_in Any 0 other (omega arith) (λ u is. tt)
quiet_type (High b) t other lt offers = quiet_in (High b) b other (omega (arith, lt, offers)) (λ u is. is)

-- ---- after a header that has no ether type nothing follows

quiet_payload : (p : PayloadType) → ((t : ℕ) → after_payload p ≡ EtherType t → ⊥)
    → announced_next (after_payload p) ≡ None
quiet_payload (payloads.Unmodified u) never = absurd (never u refl)
quiet_payload payloads.Modified never = refl
quiet_payload payloads.EncryptedUnmodified never = refl
quiet_payload payloads.Encrypted never = refl

quiet_capture : (b : Bool) (n : ℕ) (other : Next) → announced_next other ≡ None
    → ((t : ℕ) → cond b (EtherType n) other ≡ EtherType t → ⊥) → announced_next (cond b (EtherType n) other) ≡ None
quiet_capture true n other none never = absurd (never n refl)
quiet_capture false n other none never = none

pub quiet_after : (h : Header) → ((t : ℕ) → next_after h ≡ EtherType t → ⊥) → announced_next (next_after h) ≡ None
quiet_after (headers.Ethernet2 e) never = absurd (never e.ether_type refl)
quiet_after (headers.Ethernet2Fcs e) never = absurd (never e.ether_type refl)
quiet_after (headers.LinuxSll s) never =
    quiet_capture (s.hardware_type == 1) s.protocol (Sll (link_protocol_of s.hardware_type s.protocol)) refl never
quiet_after (headers.Vlan v) never = absurd (never v.ether_type refl)
quiet_after (headers.Macsec m) never = quiet_payload m.payload_type never
quiet_after (headers.Arp a) never = refl
