-- The addresses that a packet can't hold: it has one size for both addresses of a kind, and a size is one byte (RFC
-- 826, "Packet format").
use Rattle.std.specs.Prelude.{◌≡◌, ℕ, ◌<◌, ◌≤◌, Result, MatchResult}
use Rattle.ether_base.specs.declared.err.arp.arp_hw_addr_error.ArpHwAddrError.{ArpHwAddrError}
use Rattle.ether_base.specs.declared.err.arp.arp_hw_addr_error.ArpHwAddrError.TheVariants as hw
use Rattle.ether_base.specs.declared.err.arp.arp_proto_addr_error.ArpProtoAddrError.{ArpProtoAddrError}
use Rattle.ether_base.specs.declared.err.arp.arp_proto_addr_error.ArpProtoAddrError.TheVariants as proto
use Rattle.ether_base.specs.declared.err.arp.arp_new_error.ArpNewError.{ArpNewError}
use Rattle.ether_base.specs.declared.err.arp.arp_new_error.ArpNewError.TheVariants.{HwAddr, ProtoAddr}

-- the rows for two hardware addresses of these lengths
pub data RefusesHwAddrs (sender target : ℕ) : ArpHwAddrError → Type 0 where
  hw_unequal : (sender ≡ target → ⊥) → RefusesHwAddrs sender target (hw.LenNonMatching sender target)
  hw_too_long : sender ≡ target → 255 < sender → RefusesHwAddrs sender target (hw.LenTooBig sender)

-- the rows for two protocol addresses of these lengths
pub data RefusesProtoAddrs (sender target : ℕ) : ArpProtoAddrError → Type 0 where
  proto_unequal : (sender ≡ target → ⊥) → RefusesProtoAddrs sender target (proto.LenNonMatching sender target)
  proto_too_long : sender ≡ target → 255 < sender → RefusesProtoAddrs sender target (proto.LenTooBig sender)

-- the rows for all four: lengths that differ are refused before lengths above 255
pub data RefusesAddrs (sender_hw sender_proto target_hw target_proto : ℕ) : ArpNewError → Type 0 where
  hardware_unequal : (sender_hw ≡ target_hw → ⊥)
      → RefusesAddrs sender_hw sender_proto target_hw target_proto (HwAddr (hw.LenNonMatching sender_hw target_hw))
  protocol_unequal : sender_hw ≡ target_hw → (sender_proto ≡ target_proto → ⊥)
      → RefusesAddrs sender_hw sender_proto target_hw target_proto
      (ProtoAddr (proto.LenNonMatching sender_proto target_proto))
  hardware_too_long : sender_hw ≡ target_hw → sender_proto ≡ target_proto → 255 < sender_hw
      → RefusesAddrs sender_hw sender_proto target_hw target_proto (HwAddr (hw.LenTooBig sender_hw))
  protocol_too_long : sender_hw ≡ target_hw → sender_proto ≡ target_proto → sender_hw ≤ 255 → 255 < sender_proto
      → RefusesAddrs sender_hw sender_proto target_hw target_proto (ProtoAddr (proto.LenTooBig sender_proto))

-- no row holds
abbrev pub AcceptsHwAddrs : ℕ → ℕ → Type 0
AcceptsHwAddrs sender target = (e : ArpHwAddrError) → RefusesHwAddrs sender target e → ⊥

abbrev pub AcceptsProtoAddrs : ℕ → ℕ → Type 0
AcceptsProtoAddrs sender target = (e : ArpProtoAddrError) → RefusesProtoAddrs sender target e → ⊥

abbrev pub AcceptsAddrs : ℕ → ℕ → ℕ → ℕ → Type 0
AcceptsAddrs sender_hw sender_proto target_hw target_proto =
    (e : ArpNewError) → RefusesAddrs sender_hw sender_proto target_hw target_proto e → ⊥

-- the answer to two addresses of a kind, or to all four: a refusal exactly if a row holds, and that row
abbrev pub AnswersHwAddrs : {A : Type 0} → (sender target : ℕ) → Result A ArpHwAddrError → Type 0
AnswersHwAddrs sender target result =
    MatchResult result (λ _. AcceptsHwAddrs sender target) (RefusesHwAddrs sender target)

abbrev pub AnswersProtoAddrs : {A : Type 0} → (sender target : ℕ) → Result A ArpProtoAddrError → Type 0
AnswersProtoAddrs sender target result =
    MatchResult result (λ _. AcceptsProtoAddrs sender target) (RefusesProtoAddrs sender target)

abbrev pub AnswersAddrs : {A : Type 0} → (sender_hw sender_proto target_hw target_proto : ℕ) → Result A ArpNewError
    → Type 0
AnswersAddrs sender_hw sender_proto target_hw target_proto result =
    MatchResult result (λ _. AcceptsAddrs sender_hw sender_proto target_hw target_proto)
    (RefusesAddrs sender_hw sender_proto target_hw target_proto)
