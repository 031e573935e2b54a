use Rattle.std.proofs.Common.{ℕ, List, ap, ◌∙◌, ◌++◌}
use Rattle.std.proofs.lemmas.Fmt.{contents_after_writes}
use Rattle.ether_peel.specs.Walker.Texts.{peel_fault_text}
use Rattle.ether_c.proofs.fault_text.text_of.Goals as goal

pub returns-in-Ok : goal.returns-in-Ok
returns-in-Ok c =
    contents_after_writes _ (λ text. text.bytes) (λ w bs v e. e) c.new-text.result (peel_fault_text c.args.fault.now)
    c.write.new.self c.in-Ok.ensures.writes
    ∙ ap (λ (l : List ℕ). l ++ peel_fault_text c.args.fault.now) c.new-text.ensures
