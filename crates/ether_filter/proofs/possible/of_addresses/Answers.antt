use Rattle.std.proofs.Common.{◌≡◌, sym, ◌∙◌, true, false}
use Rattle.ether_filter.proofs.PossibleCases.{link_case, link_fits, not_refused}
use Rattle.ether_filter.proofs.PossibleLinks.{told_by}
use Rattle.ether_filter.proofs.ToldLemmas.{decided_possible}
use Rattle.ether_filter.proofs.possible.of_addresses.Goals as goal

pub returns-then-is_ethernet2 : goal.returns-then-is_ethernet2
returns-then-is_ethernet2 c q of free packet hs known room o fits a =
    link_case packet hs c.args.kind known room c.args.after q c.args.own o of free
    (c.is_ethernet2.ensures.0 c.if-is_ethernet2.true)
    (link_fits q c.args.kind known c.args.own (c.is_ethernet2.ensures.0 c.if-is_ethernet2.true).0 fits of
    free)

pub returns-else-is_ethernet2 : goal.returns-else-is_ethernet2
returns-else-is_ethernet2 c q of free packet hs known room o fits a =
    decided_possible packet hs c.args.kind known room c.args.after q c.args.told
    c.decided.result o
    (told_by packet hs c.args.kind known room c.args.after q o of free
    (λ mine. (let clash : false ≡ true = sym c.if-is_ethernet2.false ∙ c.is_ethernet2.ensures.1 mine in cc))) a
    (not_refused q of) c.decided.ensures.matches c.decided.ensures.fails
