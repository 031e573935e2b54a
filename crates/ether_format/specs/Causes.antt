-- What is wrong with the bytes that should be a header, by the refusals of the formats and by errors.
use Rattle.etherparse.specs.Types.Layer.TheVariants as layers
use Rattle.etherparse.specs.Types.LenSource.TheVariants as sources
use Rattle.etherparse.specs.Types.LinuxSllHeaderError.{HeaderError as LinuxSllHeaderError}
use Rattle.etherparse.specs.Types.LinuxSllHeaderError.TheVariants as linux_sll
use Rattle.etherparse.specs.Types.MacsecHeaderError.{HeaderError as MacsecHeaderError}
use Rattle.etherparse.specs.Types.MacsecHeaderError.TheVariants as macsec
use Rattle.etherparse.specs.Refusal.{Refusal}
use Rattle.etherparse.specs.Refusal as refusals
use Rattle.ether_peel.specs.declared.peel_error.PeelError.{PeelError}
use Rattle.ether_peel.specs.declared.peel_error.PeelError.TheVariants as errors
use Rattle.ether_sll2.specs.LinuxSll2.{LinuxSll2Refusal, Short, PacketType}
use Rattle.ether_format.specs.declared.cause.Cause.{Cause}
use Rattle.ether_format.specs.declared.cause.Cause.TheVariants.{Length, UnknownPacketType, UnknownHardwareType, Version, ShortLength}

abbrev pub cause_of : Refusal → Cause
cause_of (refusals.Length required len source layer) = Length required len source layer
cause_of (refusals.UnsupportedPacketType n) = UnknownPacketType n
cause_of (refusals.UnsupportedHardwareType n) = UnknownHardwareType n
cause_of refusals.UnexpectedVersion = Version
cause_of refusals.InvalidShortLen = ShortLength

-- .. of a header of cooked capture v2
abbrev pub cause_of_v2 : LinuxSll2Refusal → Cause
cause_of_v2 (Short required len) = Length required len sources.Slice layers.LinuxSllHeader
cause_of_v2 (PacketType n) = UnknownPacketType n

-- ---- of errors

abbrev pub linux_sll_cause : LinuxSllHeaderError → Cause
linux_sll_cause (linux_sll.UnsupportedPacketTypeField n) = UnknownPacketType n
linux_sll_cause (linux_sll.UnsupportedArpHardwareId hardware) = UnknownHardwareType hardware.0

abbrev pub macsec_cause : MacsecHeaderError → Cause
macsec_cause macsec.UnexpectedVersion = Version
macsec_cause macsec.InvalidUnmodifiedShortLen = ShortLength

abbrev pub cause_shown : PeelError → Cause
cause_shown (errors.Len e) = Length e.required_len e.len e.len_source e.layer
cause_shown (errors.LinuxSll e) = linux_sll_cause e
cause_shown (errors.Macsec e) = macsec_cause e
