-- The output of frames.
use Rattle.std.specs.Prelude.{◌≡◌, ℕ, List, [], ◌∷◌, ◌++◌, ◌&&◌, map, nat_eq, Bool, true, false, Option}
use Rattle.std.specs.List.{flat_map}
use Rattle.ether_base.specs.Texts.NumberText.{hex_byte}
use Rattle.ether_make.specs.declared.settings.Form.{Form}
use Rattle.ether_make.specs.declared.settings.Form.TheVariants.{Capture, Hex}
use Rattle.ether_make.specs.declared.settings.Settings.{Settings}
use Rattle.ether_make.specs.Captures.{IsBegun, IsTheCapture}
use Rattle.ether_make.specs.CheckSequences.{check_sequence}
use Rattle.ether_make.specs.Frames.{FrameValue}

-- bytes with their check sequence after them, if that is asked for
abbrev pub with_sequence : (fcs : Bool) → List ℕ → List ℕ
with_sequence false bytes = bytes
with_sequence true bytes = bytes ++ check_sequence bytes

-- a frame with its check sequence, if that is asked for and the frame is one of Ethernet
abbrev pub finished : Settings → FrameValue → FrameValue
finished settings frame =
    record frame { packet = with_sequence (settings.fcs && nat_eq frame.link 1) frame.packet }

-- two digits for each byte, and a line feed (10)
abbrev pub hex_line : List ℕ → List ℕ
hex_line bytes = flat_map (hex_byte false) bytes ++ 10 ∷ []

abbrev pub hex_lines : List FrameValue → List ℕ
hex_lines frames = flat_map (λ f. hex_line f.packet) frames

-- bytes are these frames in this form
abbrev pub IsWrittenAs : Form → (fcs : Bool) → (frames : List FrameValue) → (bytes : List ℕ) → Type 0
IsWrittenAs Capture fcs frames bytes = IsTheCapture fcs frames bytes
IsWrittenAs Hex fcs frames bytes = bytes ≡ hex_lines frames

-- .. before the end
abbrev pub IsBegunAs : Form → (fcs : Bool) → (link : Option ℕ) → (frames : List FrameValue) → (bytes : List ℕ) → Type 0
IsBegunAs Capture fcs link frames bytes = IsBegun fcs link frames bytes
IsBegunAs Hex fcs link frames bytes = bytes ≡ hex_lines frames

-- the output of a run that made these frames: each of them is finished
abbrev pub IsOutput : Settings → (frames : List FrameValue) → (bytes : List ℕ) → Type 0
IsOutput settings frames bytes = IsWrittenAs settings.form settings.fcs (map (finished settings) frames) bytes

-- .. before the end
abbrev pub IsOutputBegun : Settings → (link : Option ℕ) → (frames : List FrameValue) → (bytes : List ℕ) → Type 0
IsOutputBegun settings link frames bytes = IsBegunAs settings.form settings.fcs link (map (finished settings) frames)
    bytes
