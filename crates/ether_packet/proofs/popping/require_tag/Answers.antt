use Rattle.std.proofs.Common.{List, sym, ◌∙◌, rules}
use Rattle.etherparse.specs.Header.{Header}
use Rattle.ether_peel.specs.Grammar.Stack.{Ending, Walk}
use Rattle.ether_peel.specs.Walker.Start.{start_of}
use Rattle.ether_packet.specs.Popping.{RefusesPop, link}
use Rattle.ether_packet.proofs.Popped.{no_tag, cut_tag, is_tagged}
use Rattle.ether_packet.proofs.popping.require_tag.Goals as goal

pub returns-in_err-link-clause-refused : goal.returns-in_err-link-clause-refused
returns-in_err-link-clause-refused c =
    let h : (hs : List Header) (e : Ending) → Walk (start_of c.args.start) c.args.frame.now hs e
    → RefusesPop hs c.in_err-link.field-0.0 =
    λ hs e walk. link c.in_err-link.field-0.0 (c.in_err-link.ensures.refused hs e walk) in
    search rules

pub returns-then-not-announces_vlan-clause-refused :
    goal.returns-then-not-announces_vlan-clause-refused
returns-then-not-announces_vlan-clause-refused c hs e walk =
    no_tag c.args.start c.args.frame.now hs c.in_ok-link.link (c.in_ok-link.ensures.ok hs e walk)
    (sym c.announces_vlan.ensures ∙ c.if-not-announces_vlan.true)

pub returns-then-link-lt-LEN-clause-refused : goal.returns-then-link-lt-LEN-clause-refused
returns-then-link-lt-LEN-clause-refused c hs e walk = search (rules, cut_tag)

pub returns-clause-ok : goal.returns-clause-ok
returns-clause-ok c hs e walk = search (rules, is_tagged)
