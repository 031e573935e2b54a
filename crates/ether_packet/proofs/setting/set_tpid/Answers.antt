use Rattle.std.proofs.Common.{◌-◌, List, sym, ap, ◌∙◌, rules}
use Rattle.std.proofs.lemmas.Result.{err_from_is_err_and}
use Rattle.etherparse.specs.Bytes.{overwritten}
use Rattle.etherparse.specs.Header.{Header}
use Rattle.etherparse.proofs.Numbers.{spelled-high}
use Rattle.ether_peel.specs.Grammar.Stack.{Ending, Walk}
use Rattle.ether_peel.specs.Walker.Start.{start_of}
use Rattle.ether_packet.specs.Setting.{RefusesTpid, other_tpid, tag}
use Rattle.ether_packet.proofs.SetTags.{begins_frame, is_retyped}
use Rattle.ether_packet.proofs.setting.set_tpid.Goals as goal

pub returns-then-not-announces_vlan-clause-refused :
    goal.returns-then-not-announces_vlan-clause-refused
returns-then-not-announces_vlan-clause-refused c hs e walk =
    other_tpid (sym c.announces_vlan.ensures ∙ c.if-not-announces_vlan.true)

pub returns-in_err-found-clause-refused : goal.returns-in_err-found-clause-refused
returns-in_err-found-clause-refused c =
    let h : (hs : List Header) (e : Ending) → Walk (start_of c.args.start) c.args.frame.now hs e
    → RefusesTpid hs c.args.index c.args.tpid.0 c.in_err-found.field-0.0 =
    λ hs e walk.
    tag c.in_err-found.field-0.0 (sym c.announces_vlan.ensures ∙ c.if-not-announces_vlan.false)
    (c.in_err-found.ensures.refused hs e walk) in
    let p = err_from_is_err_and c.from_residual.result c.from_residual.ensures.1 in
    rw (p.1, p.2) h

pub returns-then-found-lt2-clause-refused : goal.returns-then-found-lt2-clause-refused
returns-then-found-lt2-clause-refused c hs e walk = search (rules, begins_frame)

pub returns-clause-ok : goal.returns-clause-ok
returns-clause-ok c hs e walk =
    is_retyped (start_of c.args.start) c.args.frame.now c.put_at.new.target hs e c.args.index c.args.tpid.0
    c.in_ok-found.found c.in_ok-found.ensures.bytes (sym c.announces_vlan.ensures ∙ c.if-not-announces_vlan.false)
    c.if-found-lt2.false (c.in_ok-found.ensures.ok hs e walk)
    (c.put_at.ensures
    ∙ ap (overwritten c.args.frame.now (c.in_ok-found.found.at - 2))
    (c.to_be_bytes.ensures ∙ spelled-high 2 c.args.tpid.0))
    walk
