-- The texts of errors.
use Rattle.std.specs.Prelude.{ℕ, List, ◌++◌, codes, decimal}
use Rattle.ether_switch.specs.declared.arrival.Discarded.{Discarded}
use Rattle.ether_switch.specs.declared.arrival.Discarded.TheVariants as reasons
use Rattle.ether_switch.specs.declared.vlan.VlanError.{VlanError}

abbrev pub vlan_error_text : VlanError → List ℕ
vlan_error_text error = codes "The identifier of a VLAN is from 1 to 4094, and not " ++ (decimal error.0 ++ codes ".")

abbrev pub discarded_text : Discarded → List ℕ
discarded_text reasons.NoHeader = codes "The frame is shorter than its header."
discarded_text reasons.CutTag = codes "The frame's tag is cut short."
discarded_text reasons.ReservedIdentifier = codes "The identifier in the frame's tag is reserved."
discarded_text reasons.Source = codes "The frame's source is not the address of a station."
discarded_text reasons.FrameType = codes "The port does not take frames with such a tag, or without one."
discarded_text reasons.SecondTag = codes "The port does not take frames with a second tag."
discarded_text reasons.NotAMember = codes "The port is not a member of the frame's VLAN."
discarded_text reasons.PortState = codes "The port is not forwarding."
