-- The texts of the errors of a builder, of a header that is not replaced, and of a VLAN tag that is not changed.
use Rattle.std.specs.Prelude.{ℕ, List, ◌++◌, codes}
use Rattle.std.specs.Fmt.{decimal}
use Rattle.etherparse.specs.LengthErrors.{slice_write_space_error_text}
use Rattle.ether_packet.specs.declared.build_error.BuildError.{BuildError}
use Rattle.ether_packet.specs.declared.build_error.BuildError.TheVariants as errors
use Rattle.ether_packet.specs.declared.difference.Difference.{Difference}
use Rattle.ether_packet.specs.declared.difference.Difference.TheVariants as differences
use Rattle.ether_packet.specs.declared.replace_error.ReplaceError.{ReplaceError}
use Rattle.ether_packet.specs.declared.replace_error.ReplaceError.TheVariants as refusals
use Rattle.ether_packet.specs.declared.tag_error.TagError.{TagError}
use Rattle.ether_packet.specs.declared.tag_error.TagError.TheVariants as tags

abbrev pub build_error_text : BuildError → List ℕ
build_error_text (errors.HardwareType hardware) =
    codes "No ether type can follow a header of cooked capture of hardware type " ++ (decimal hardware.0 ++ codes ".")
build_error_text (errors.Sealed i) =
    codes "A header follows the SecTag at index " ++ (decimal i ++ codes ", whose payload is encrypted or changed.")
build_error_text (errors.Space error) = slice_write_space_error_text error

abbrev pub difference_text : Difference → List ℕ
difference_text differences.Kind = codes "the kind"
difference_text differences.EtherType = codes "the ether type"
difference_text differences.HardwareType = codes "the hardware type"
difference_text differences.ProtocolType = codes "the protocol type"
difference_text differences.PayloadType = codes "the type of the payload"
difference_text differences.ShortLen = codes "the short length"
difference_text differences.Sci = codes "the SCI"
difference_text differences.HwAddrLen = codes "the length of the hardware addresses"
difference_text differences.ProtocolAddrLen = codes "the length of the protocol addresses"

abbrev pub replace_error_text : ReplaceError → List ℕ
replace_error_text refusals.NoLink = codes "The frame does not begin with the header of a link."
replace_error_text (refusals.NoLinkExt count) =
    codes "There is no VLAN tag or SecTag at this index: the frame has " ++ (decimal count ++ codes ".")
replace_error_text refusals.NoArp = codes "The frame has no ARP packet."
replace_error_text (refusals.SaysOther difference) =
    codes "The header in the frame is another one in this: " ++ (difference_text difference ++ codes ".")

abbrev pub tag_error_text : TagError → List ℕ
tag_error_text (tags.Tpid tpid) = codes "No VLAN tag is announced by the ether type " ++ (decimal tpid.0 ++ codes ".")
tag_error_text tags.NoRoom = codes "The buffer has no room for a VLAN tag."
tag_error_text tags.NoLink = codes "The frame does not begin with the header of a link."
tag_error_text (tags.HardwareType hardware) =
    codes "No ether type can follow a header of cooked capture of hardware type " ++ (decimal hardware.0 ++ codes ".")
tag_error_text (tags.NoLinkExt count) =
    codes "There is no VLAN tag or SecTag at this index: the frame has " ++ (decimal count ++ codes ".")
tag_error_text tags.NoVlan = codes "There is no VLAN tag."
tag_error_text tags.CutVlan = codes "The VLAN tag is cut short."
tag_error_text tags.Unannounced = codes "The frame begins with the VLAN tag."
