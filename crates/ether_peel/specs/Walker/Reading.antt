-- What is known of the unit that is announced, once its bytes were read.
use Rattle.std.specs.Prelude.{◌≡◌, ℕ, List, Some, false}
use Rattle.etherparse.specs.Types.LenSource.{LenSource}
use Rattle.etherparse.specs.Types.LenSource.TheVariants as sources
use Rattle.etherparse.specs.Types.LinuxSllProtocolType.{LinuxSllProtocolType}
use Rattle.etherparse.specs.Types.LinuxSllProtocolType.TheVariants as protocols
use Rattle.etherparse.specs.Types.MacsecPayloadSlice.{MacsecPayloadSlice}
use Rattle.etherparse.specs.Types.MacsecPayloadSlice.TheVariants as payloads
use Rattle.etherparse.specs.Kind.{Kind}
use Rattle.etherparse.specs.Refusal.{Refusal, Refuses}
use Rattle.ether_peel.specs.Grammar.Expectation.{Next, EtherType, Sll, Sealed, announced}
use Rattle.ether_peel.specs.Walker.State.{State}
use Rattle.ether_peel.specs.Walker.Fault.{error_at}
use Rattle.ether_peel.specs.declared.peel_error.PeelError.{PeelError}
use Rattle.ether_peel.specs.declared.peel_error.PeelError.TheVariants as errors

-- the walk is not over, and the unit that is announced is refused, as the error says
pub record IsRefusedBy (s : State) (error : PeelError) : Type 0 where
  pub going : s.over ≡ false
  pub kind : Kind
  pub announced : announced s.expected ≡ Some kind
  pub refusal : Refusal
  pub refuses : Refuses sources.Slice s.rest kind refusal
  pub shows : error ≡ error_at s.offset refusal

-- An error that names the bound of its window: the readers of units take what they are handed for the whole list, and
-- name a slice.
abbrev pub named_source : LenSource → LenSource → LenSource
named_source bound sources.Slice = bound
named_source bound source = source

abbrev pub named_error : LenSource → PeelError → PeelError
named_error bound (errors.Len e) = errors.Len (record e { len_source = named_source bound e.len_source })
named_error bound (errors.LinuxSll e) = errors.LinuxSll e
named_error bound (errors.Macsec e) = errors.Macsec e

-- what is expected in the payload of a cooked capture
abbrev pub after_protocol : LinuxSllProtocolType → Next
after_protocol (protocols.EtherType t) = EtherType t.0
after_protocol (protocols.LinuxNonstandardEtherType n) = EtherType n
after_protocol other = Sll other

-- what is expected in the payload of a SecTag
abbrev pub after_sec_tag : MacsecPayloadSlice → Next
after_sec_tag (payloads.Unmodified p) = EtherType p.ether_type.0
after_sec_tag (payloads.Modified p) = Sealed

-- its bytes
abbrev pub sec_tag_payload : MacsecPayloadSlice → List ℕ
sec_tag_payload (payloads.Unmodified p) = p.payload.now
sec_tag_payload (payloads.Modified p) = p.now
