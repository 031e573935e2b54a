-- The count under a key.
use Rattle.std.specs.Prelude.{ℕ, List, Option}
use Rattle.std.specs.Ordering.{nat_cmp}
use Rattle.std.specs.Cmp.Lexicographic.{slice_cmp}
use Rattle.std.specs.BTreeMap.{get_by}
use Rattle.ether_capture.specs.declared.count_table.CountTable.{CountTable}
use Rattle.ether_capture.specs.declared.count.Count.{Count}

abbrev pub count_at : CountTable → (key : List ℕ) → Option Count
count_at t key = get_by (λ k. slice_cmp nat_cmp key k.items) t.counts
