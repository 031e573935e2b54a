use Rattle.std.proofs.Common.{Ok, Err, subst}
use Rattle.std.specs.Prelude.{string_bytes}
use Rattle.ether_switch.specs.declared.port.PortConfig.{PortConfig}
use Rattle.ether_switch.specs.Relaying.{Event, Returns, settings_of, answer}
use Rattle.example_switch.specs.Configured.{config_of}
use Rattle.example_switch.proofs.Answered.{has_front, answers, answers_nothing}
use Rattle.example_switch.proofs.Joined.{if_ok}
use Rattle.example_switch.proofs.lines.frame_lines.Goals as goal

pub returns-in-Ok-clause-lines : goal.returns-in-Ok-clause-lines
returns-in-Ok-clause-lines c =
    let a = c.args in
    let r = c.in-Ok.received in
    if_ok c.received_lines.result _ _
    (λ text lines hs e walk.
    let event : PortConfig → Event = λ port. record {
      settings = settings_of a.bridge.now;
      now = a.arrival.now.time;
      from = a.arrival.now.from;
      port = port;
      hs = hs;
    } in
    let v = event (config_of a.arrival.now.port) in
    let is = subst (λ (port : PortConfig). Returns (answer (event port) a.table.now) (Ok r)) c.config.ensures
    (c.in-Ok.ensures hs e walk).0 in
    answers (answer v a.table.now) r a.frame.now hs e (string_bytes text) is
    (lines hs e walk (has_front v a.table.now r is)))
    c.received_lines.ensures

pub returns-in-Err-clause-lines : goal.returns-in-Err-clause-lines
returns-in-Err-clause-lines c hs e walk =
    let a = c.args in
    let event : PortConfig → Event = λ port. record {
      settings = settings_of a.bridge.now;
      now = a.arrival.now.time;
      from = a.arrival.now.from;
      port = port;
      hs = hs;
    } in
    let is =
    subst (λ (port : PortConfig). Returns (answer (event port) a.table.now) (Err c.in-Err.field-0)) c.config.ensures
    (c.in-Err.ensures hs e walk).0 in
    answers_nothing (answer (event (config_of a.arrival.now.port)) a.table.now) c.in-Err.field-0 a.frame.now hs e
    (string_bytes c.new.result) is c.new.ensures.bytes
