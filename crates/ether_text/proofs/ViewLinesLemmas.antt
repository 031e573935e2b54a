-- The text of a header of Ethernet II, with and without a frame check sequence.
use Rattle.std.proofs.Common.{◌≡◌, ℕ, List, ◌++◌, append-nil, append_assoc, refl, ap, ◌∙◌}
use Rattle.std.specs.Prelude.{Option, Some, None, codes}
use Rattle.std.specs.Fmt.{decimal}
use Rattle.etherparse.specs.Bytes.{spelled}
use Rattle.etherparse.specs.Ethernet2.{Ethernet2Value}
use Rattle.etherparse.specs.NumberText.{hex_number}
use Rattle.ether_output.specs.HexText.{hex_text}
use Rattle.ether_text.specs.Lines.{ethernet2_text, ethernet2_fcs_text}
use Rattle.ether_text.specs.ViewLines.{ethernet2_view_text, fcs_text, fields_text}

-- the pieces that are written, one after the other
abbrev pub ethernet2_pieces : ℕ → Ethernet2Value → List ℕ → List ℕ
ethernet2_pieces start e last =
    codes "ethernet2 "
    ++ (decimal start
    ++ (codes " "
    ++ (hex_text (spelled 6 e.destination)
    ++ (codes " " ++ (hex_text (spelled 6 e.source) ++ (codes " " ++ last))))))

pub ethernet2_view_text-pieces : (start : ℕ) (e : Ethernet2Value) (fcs : Option (List ℕ))
    → ethernet2_pieces start e (hex_number e.ether_type ++ fcs_text fcs) ≡ ethernet2_view_text start e fcs
unfolding ethernet2_text ethernet2_fcs_text
ethernet2_view_text-pieces start e None = ap (ethernet2_pieces start e) (append-nil (hex_number e.ether_type))
ethernet2_view_text-pieces start e (Some fcs) = refl

-- .. whose addresses and ether type are one part
pub ethernet2_view_text-fields : (start : ℕ) (e : Ethernet2Value) (fcs : Option (List ℕ))
    → codes "ethernet2 " ++ (decimal start ++ (fields_text e ++ fcs_text fcs)) ≡ ethernet2_view_text start e fcs
ethernet2_view_text-fields start e fcs =
    let destination = hex_text (spelled 6 e.destination) in
    let source = hex_text (spelled 6 e.source) in
    let ether_type = hex_number e.ether_type in
    ap (λ (l : List ℕ). codes "ethernet2 " ++ (decimal start ++ (codes " " ++ l)))
    (append_assoc destination (codes " " ++ (source ++ (codes " " ++ ether_type))) (fcs_text fcs)
    ∙ ap (λ (l : List ℕ). destination ++ (codes " " ++ l))
    (append_assoc source (codes " " ++ ether_type) (fcs_text fcs)))
    ∙ ethernet2_view_text-pieces start e fcs
