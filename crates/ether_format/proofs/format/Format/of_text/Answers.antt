use Rattle.std.proofs.Common.{rules}
use Rattle.ether_format.specs.declared.format.Format.TheVariants.{Json, JsonBytes, Brief, Fields, Csv}
use Rattle.ether_format.specs.Columns.{columns_view}
use Rattle.ether_format.proofs.format.Format.of_text.Goals as goal

pub returns-in-None-clause-none : goal.returns-in-None-clause-none
returns-in-None-clause-none c Json is = search rules
returns-in-None-clause-none c JsonBytes is = absurd is
returns-in-None-clause-none c Brief is = search rules
returns-in-None-clause-none c (Fields columns) is = c.in-None.ensures.none (columns_view columns) is
returns-in-None-clause-none c (Csv columns) is = absurd is
