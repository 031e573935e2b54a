use Rattle.example_switch.proofs.port.empty_table.Goals as goal

pub returns : goal.returns
returns c = c.in_ok-table.ensures.items_if_clones_equal (λ y is. is)
