-- Linux cooked capture: headers as values and as bytes, and their refusals.
pub use Rattle.ether_base.specs.Formats.LinuxSll.{LinuxSllValue, linux_sll_number, FitsLinuxSll, IsLinuxSll, BeginsLinuxSll, linux_sll_bytes, linux_sll_of, is_supported}
pub use Rattle.ether_sll.specs.LinuxSll.{linux_sll_value, linux_sll_view, IsRefusedContent, IsRefusedSll, HoldsLinuxSll, protocol_type_of_header, valid_address, HasOwnType, HoldsHeader, AnswersHeader}
