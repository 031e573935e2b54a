-- A frame that was received is read back from its numbers.
use Rattle.std.proofs.Common.{◌≡◌, ◌≤◌, ℕ, Bool, true, false, not, ◌&&◌, nat_eq, nat_le, Some, refl, rules}
use Rattle.std.specs.Prelude.{Ok}
use Rattle.std.proofs.lemmas.Bool.{le-leb}
use Rattle.etherparse.specs.Bytes.{bit}
use Rattle.ether_switch.specs.declared.bridge_kind.BridgeKind.{BridgeKind}
use Rattle.ether_switch.specs.declared.bridge_kind.BridgeKind.TheVariants.{Customer, Provider}
use Rattle.ether_switch.specs.declared.received.Received.{Received}
use Rattle.ether_c.specs.Switching.{kind_numbered, kind_number, is_vlan, c_answer, received_of}

kind_is : (kind : BridgeKind) → kind_numbered (kind_number kind) ≡ Some kind
kind_is Customer = refl
kind_is Provider = refl

bit_is : (b : Bool) → not (nat_eq (bit b) 0) ≡ b
bit_is true = refl
bit_is false = refl

fits : (vid priority : ℕ) → 1 ≤ vid → vid ≤ 4094 → priority ≤ 7 → (is_vlan vid && nat_le priority 7) ≡ true
fits vid priority least greatest bound = search (rules, le-leb)

pub read_back : (r : Received) → 1 ≤ r.vlan → r.vlan ≤ 4094 → r.priority ≤ 7 → received_of (c_answer (Ok r)) ≡ Some r
read_back r least greatest bound = search (rules, fits, kind_is, bit_is)
