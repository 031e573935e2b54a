use Rattle.std.proofs.Common.{sym, ap, ◌∙◌}
use Rattle.ether_output.proofs.OutputBufferLemmas.{Takes-then, Takes-same}
use Rattle.ether_format.specs.Columns.{column_name}
use Rattle.ether_format.specs.Csv.{csv_record}
use Rattle.ether_format.proofs.CsvLemmas.{names_record}
use Rattle.ether_format.proofs.columns.Columns.write_csv_heading.Goals as goal

pub returns : goal.returns
returns g c =
    Takes-same
    (names_record c.args.self.now.first c.others.result.now
    ∙ ap (csv_record column_name) (sym c.others.ensures))
    (Takes-then c.write_name.ensures (Takes-then c.write_names_after.ensures c.append.ensures))
