use Rattle.std.proofs.Common.{◌≡◌, length, sym, subst, arith, rules}
use Rattle.etherparse.proofs.SubLists.{part_all}
use Rattle.ether_peel.specs.Grammar.Expectation.{Expectation}
use Rattle.ether_peel.specs.Grammar.Stack.{whole, Stack}
use Rattle.ether_peel.specs.Walker.Start.{start_with}
use Rattle.ether_peel.specs.Walker.State.{expected_of}
use Rattle.ether_peel.proofs.Grammar.Stacks.{some_stack}
use Rattle.ether_peel.proofs.peel.Peel.begin.Goals as goal

pub returns-clause-walk : goal.returns-clause-walk
returns-clause-walk c =
    let list = c.args.bytes.now in
    let x = start_with c.args.start c.args.limit in
    let is : expected_of c.match-start.first.0 c.match-start.first.2 ≡ x.next = search rules in
    let expected : record { next = expected_of c.match-start.first.0 c.match-start.first.2; limit = c.args.limit }
    ≡ x =
    λ i. record { next = is i; limit = c.args.limit } in
    let s = some_stack list x (whole x list) (λ i. omega (arith, c.type_inv.bytes i)) in record {
      headers = s.0;
      ending = s.1;
      walk = s.2;
      faces = record {
        inside = record { ordered = omega arith; inside = omega arith };
        rest = sym (part_all list (length list) (omega arith));
        offset = omega arith;
        closed = search rules;
        bound = search rules;
        stack = subst (λ (y : Expectation). Stack list y (whole x list) s.0 s.1) (sym expected) s.2;
      };
    }
