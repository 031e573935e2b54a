use Rattle.std.proofs.Common.{ℕ, List, ap, ◌∙◌, ◌++◌}
use Rattle.std.proofs.lemmas.Fmt.{contents_after_writes}
use Rattle.ether_pcap.specs.CaptureTexts.{capture_error_text}
use Rattle.ether_c.proofs.reader_fault_text.text_of.Goals as goal

pub returns-in-Ok : goal.returns-in-Ok
returns-in-Ok c =
    contents_after_writes _ (λ text. text.bytes) (λ w bs v e. e) c.new-text.result
    (capture_error_text c.args.error.now) c.write.new.self c.in-Ok.ensures.writes
    ∙ ap (λ (l : List ℕ). l ++ capture_error_text c.args.error.now) c.new-text.ensures
