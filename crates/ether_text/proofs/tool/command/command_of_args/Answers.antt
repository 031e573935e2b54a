use Rattle.std.proofs.Common.{◌≡◌, ℕ, List, [], ◌∷◌, map, OnErr, ap, sym, subst, ◌∙◌}
use Rattle.std.specs.Prelude.{String, string_bytes}
use Rattle.std.specs.Option.{is_some}
use Rattle.std.specs.Vec.Iter.{into_iter_items}
use Rattle.ether_text.specs.Arguments.{words_after}
use Rattle.ether_text.specs.Tool.Command.{NamesNoCommand}
use Rattle.ether_text.proofs.ArgumentsLemmas.{words_after-name, items_end}
use Rattle.ether_text.proofs.tool.command.command_of_args.Goals as goal

pub returns-in_default-clause-err : goal.returns-in_default-clause-err
returns-in_default-clause-err c =
    let none =
    items_end c.next-program.new.self c.next.new.self c.next.result c.next.ensures.cases
    (ap is_some c.in_default.is) in
    let is =
    words_after-name c.args.args c.next-program.new.self c.next-program.result c.next-program.ensures.cases
    ∙ ap (map string_bytes) none in
    subst (λ (words : List (List ℕ)). OnErr c.command_of.result (NamesNoCommand words)) (sym is)
    c.command_of.ensures.err

pub returns-clause-err : goal.returns-clause-err
returns-clause-err c =
    let none =
    items_end c.next-4.new.self c.next-5.new.self c.next-5.result c.next-5.ensures.cases
    (sym c.is_some.ensures ∙ c.if-is_some.false) in
    let fourth = c.in-Some-next-3.ensures.items ∙ ap (λ (l : List (String _)). c.in-Some-next-3.fourth ∷ l) none in
    let third = c.in-Some-next-2.ensures.items ∙ ap (λ (l : List (String _)). c.in-Some-next-2.third ∷ l) fourth in
    let second = c.in-Some-next.ensures.items ∙ ap (λ (l : List (String _)). c.in-Some-next.second ∷ l) third in
    let first = c.in-Some.ensures.items ∙ ap (λ (l : List (String _)). c.in-Some.first ∷ l) second in
    let is =
    words_after-name c.args.args c.next-program.new.self c.next-program.result c.next-program.ensures.cases
    ∙ ap (map string_bytes) first in
    let same : c.as_str-2.result.now ∷ c.as_str-3.result.now ∷ c.as_str-4.result.now ∷ c.as_str-5.result.now ∷ []
    ≡ words_after (into_iter_items c.args.args) =
    (λ i.
    c.as_str-2.ensures.value i ∷ c.as_str-3.ensures.value i ∷ c.as_str-4.ensures.value i
    ∷ c.as_str-5.ensures.value i ∷ [])
    ∙ sym is in
    subst (λ (words : List (List ℕ)). OnErr c.command_of-2.result (NamesNoCommand words)) same
    c.command_of-2.ensures.err
