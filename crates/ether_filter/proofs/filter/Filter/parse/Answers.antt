use Rattle.std.proofs.Common.{◌≡◌, ap, ◌∙◌, subst, sym}
use Rattle.ether_filter.specs.Expressions.{Expression}
use Rattle.ether_filter.specs.Postfix.{expression_of, expression_of-postfix}
use Rattle.ether_filter.specs.Texts.{IsExpressionOf}
use Rattle.ether_filter.specs.FilterProgram.{IsProgramOf, nodes_of}
use Rattle.ether_filter.proofs.ProgramLemmas.{nodes_are}
use Rattle.ether_filter.proofs.Refused.{text_refused}
use Rattle.ether_filter.proofs.TextLemmas.{text_means}
use Rattle.ether_filter.proofs.filter.Filter.parse.Goals as goal
use Rattle.ether_filter.proofs.filter.Filter.parse.Goals.{After-instructions_of}

-- the expression of the text, and that its instructions are those of the filter
record Parsed (c : After-instructions_of) : Type 0 where
  expression : Expression
  of : IsExpressionOf c.args.text.now expression
  program : IsProgramOf c.instructions_of.result.items expression
  is : expression_of (nodes_of c.instructions_of.result.items) ≡ expression

parsed : (c : After-instructions_of) → Parsed c
parsed c =
    let found = text_means c.args.text.now c.in-Ok.nodes.items c.in-Ok.ensures in
    let program = c.instructions_of.ensures found.0 (c.as_slice.ensures.value ∙ found.2) in record {
      expression = found.0;
      of = found.1;
      program = program;
      is = ap expression_of (nodes_are c.instructions_of.result.items found.0 program) ∙ expression_of-postfix found.0;
    }

pub invariant_of-result : goal.invariant_of-result
invariant_of-result c = let p = parsed c in subst (IsProgramOf c.instructions_of.result.items) (sym p.is) p.program

pub returns-in-Ok-clause-ok : goal.returns-in-Ok-clause-ok
returns-in-Ok-clause-ok c = let p = parsed c in subst (IsExpressionOf c.args.text.now) (sym p.is) p.of

pub returns-in-Err-clause-err : goal.returns-in-Err-clause-err
returns-in-Err-clause-err c = text_refused c.args.text.now c.in-Err.error c.in-Err.ensures
