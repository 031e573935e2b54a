use Rattle.std.proofs.Common.{List, Option, refl, subst}
use Rattle.std.specs.Prelude.{IfSome}
use Rattle.etherparse.specs.Header.{Header}
use Rattle.ether_peel.specs.Grammar.Stack.{Ending, Walk}
use Rattle.ether_peel.specs.Walker.Start.{start_of}
use Rattle.ether_peel.specs.declared.start.Start.TheVariants as starts
use Rattle.ether_switch.specs.declared.bridge.Bridge.{Bridge}
use Rattle.ether_switch.specs.declared.port.PortConfig.{PortConfig}
use Rattle.ether_switch.specs.Relaying.{settings_of, Event}
use Rattle.ether_c.specs.Numbers.{done}
use Rattle.ether_c.specs.Switching.{config_of, GivesReceived}
use Rattle.ether_c.proofs.switching.etherpeel_switch_receive.Goals as goal

pub returns-clause-given : goal.returns-clause-given
returns-clause-given c =
    let answer = c.receive-answer in
    let event : Bridge → PortConfig → List Header → Event = λ b p hs. record {
      settings = settings_of b;
      now = c.args.now;
      from = c.args.from;
      port = p;
      hs = hs;
    } in
    subst (λ (o : Option Bridge). IfSome o
    (λ b. IfSome (config_of c.args.port.now) (λ p. (hs : List Header) (e : Ending)
    → Walk (start_of starts.Ethernet2) c.args.frame.now hs e
    → GivesReceived (event b p hs) c.args.table.now answer.new.table c.of.result done)))
    c.in-Some.ensures
    (subst (λ (o : Option PortConfig). IfSome o (λ p. (hs : List Header) (e : Ending)
    → Walk (start_of starts.Ethernet2) c.args.frame.now hs e
    → GivesReceived (event c.in-Some.bridge p hs) c.args.table.now answer.new.table c.of.result done))
    c.in-Some-to_config.ensures
    (λ hs e walk. record {
      found = answer.result;
      answered = (answer.ensures hs e walk).0;
      learned = (answer.ensures hs e walk).1;
      given = c.of.ensures.given;
      read_back = c.of.ensures.read_back;
      status_is = refl;
    }))
