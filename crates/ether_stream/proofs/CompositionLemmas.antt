-- Packets are selected twice.
use Rattle.std.proofs.Common.{◌≡◌, ◌≢◌, ℕ, List, [], Option, Some, None, refl, sym, ◌∙◌, rules}
use Rattle.std.specs.Prelude.{◌↔◌}
use Rattle.ether_base.specs.Bytes.{IsBytes}
use Rattle.ether_peel.specs.Grammar.Expectation.{Next}
use Rattle.ether_peel.proofs.Grammar.Stacks.{one_stack}
use Rattle.ether_filter.specs.Expressions.{Expression, Join}
use Rattle.ether_filter.specs.declared.node.Operator.TheVariants.{And}
use Rattle.ether_pcap.specs.Capture.{PacketValue}
use Rattle.ether_pcap.specs.CopiedUnits.{Changed}
use Rattle.ether_pcap.specs.Copies.{CopyFault, EditsNone, EditsOnce}
use Rattle.ether_pcap.proofs.CopiesCompose.{composed, composed_twice, copies_alike}
use Rattle.ether_content.specs.Selecting.{HoldsOf, Selects}
use Rattle.ether_content.proofs.ContentLemmas.{walked_once}
use Rattle.ether_stream.specs.Composition.{SelectsTo}
use Rattle.ether_stream.specs.Copying.{EditsIf}
use Rattle.ether_stream.proofs.CopiesLemmas.{is_copy}

-- ---- both expressions hold of one walk

holds_both : (x y : Expression) (next : Next) (frame : List ℕ) (captured original : ℕ) (time : Option ℕ)
    → HoldsOf x next frame captured original time → HoldsOf y next frame captured original time
    → HoldsOf (Join And x y) next frame captured original time
holds_both x y next frame captured original time a b = search (rules, one_stack)

selects_both : (x y : Expression) (p : PacketValue) → (Selects x p × Selects y p) ↔ Selects (Join And x y) p
selects_both x y p = search (rules, walked_once, holds_both)

-- ---- no packet is edited

unedited : EditsNone (EditsIf None)
unedited p o is = is

one_edit : EditsOnce (EditsIf None)
one_edit = record { some = λ p ok. (None, refl); one = λ p o q a b. a ∙ sym b }

pub selected_twice : (x y : Expression) (bytes between copy rest left : List ℕ) (fault other : Option CopyFault)
    → IsBytes bytes → IsBytes between → between ≢ []
    → SelectsTo x bytes between rest fault → SelectsTo y between copy left other
    → SelectsTo (Join And x y) bytes copy rest fault × (left ≡ []) × (other ≡ None)
selected_twice x y bytes between copy rest left fault other ok ok_between some once twice =
    let c =
    composed (EditsIf None) unedited one_edit 65536 (Selects x) (Selects y) bytes between copy once.kept once.edited
    twice.kept twice.edited rest left fault other ok ok_between some once.copies twice.copies in (
      is_copy (Changed 0) (Some (record { filter = Join And x y; undecided = None })) None bytes copy twice.kept
          twice.edited rest fault
          (copies_alike (Changed 0) (λ p. Selects x p × Selects y p) (Selects (Join And x y)) (EditsIf None)
          (selects_both x y) _ bytes copy twice.kept twice.edited rest fault c.0),
      c.1,
      c.2,
    )

pub selected_again : (x : Expression) (bytes between copy rest left : List ℕ) (fault other : Option CopyFault)
    → IsBytes bytes → IsBytes between → between ≢ []
    → SelectsTo x bytes between rest fault → SelectsTo x between copy left other → copy ≡ between
selected_again x bytes between copy rest left fault other ok ok_between some once twice =
    search (rules, composed_twice, unedited, one_edit)
