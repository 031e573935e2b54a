-- The output of frames in either form.
use Rattle.std.proofs.Common.{[], None, Bool, refl}
use Rattle.ether_make.specs.declared.settings.Form.{Form}
use Rattle.ether_make.specs.declared.settings.Form.TheVariants.{Capture, Hex}
use Rattle.ether_make.specs.Captures.{nothing}
use Rattle.ether_make.specs.Outputs.{IsBegunAs}

pub begun-nothing : (form : Form) (fcs : Bool) → IsBegunAs form fcs None [] []
begun-nothing Capture fcs = nothing
begun-nothing Hex fcs = refl
