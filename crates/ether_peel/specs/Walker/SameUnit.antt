-- Equal units.
use Rattle.std.specs.Prelude.{◌≡◌}
use Rattle.etherparse.specs.Macsec.{SameTagged}
use Rattle.ether_peel.specs.declared.peel_unit.PeelUnit.{PeelUnit}
use Rattle.ether_peel.specs.declared.peel_unit.PeelUnit.TheVariants as units

-- views of the same kind that hold the same bytes; Ethernet II frames both end in a check sequence or both do not,
-- SecTags have the same payload
abbrev pub SameUnit : PeelUnit → PeelUnit → Type 0
SameUnit (units.Ethernet2 a) (units.Ethernet2 b) = a ≡ b
SameUnit (units.LinuxSll a) (units.LinuxSll b) = a ≡ b
SameUnit (units.Vlan a) (units.Vlan b) = a ≡ b
SameUnit (units.Macsec a) (units.Macsec b) = SameTagged a b
SameUnit (units.Arp a) (units.Arp b) = a ≡ b
SameUnit _ _ = ⊥
