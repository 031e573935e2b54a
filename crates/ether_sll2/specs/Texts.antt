-- The texts of the errors.
use Rattle.std.specs.Prelude.{ℕ, List, ◌++◌, codes}
use Rattle.std.specs.Fmt.{decimal}
use Rattle.ether_sll2.specs.declared.linux_sll2_error.LinuxSll2Error.{LinuxSll2Error}
use Rattle.ether_sll2.specs.declared.linux_sll2_error.LinuxSll2Error.TheVariants as errors

abbrev pub linux_sll2_error_text : LinuxSll2Error → List ℕ
linux_sll2_error_text (errors.Len required len) =
    codes "A header of Linux cooked capture v2 needs "
    ++ (decimal required ++ (codes " byte(s); only " ++ (decimal len ++ codes " are available.")))
linux_sll2_error_text (errors.PacketType n) =
    codes "The packet type "
    ++ (decimal n ++ codes " of a header of Linux cooked capture v2 is not supported, the maximum is 7.")
