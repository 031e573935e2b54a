use Rattle.std.proofs.Common.{ℕ, List, drop, sym, subst, ◌∙◌, rules}
use Rattle.std.proofs.lemmas.Result.{err_from_is_err_and}
use Rattle.etherparse.specs.Header.{Header}
use Rattle.ether_peel.specs.Grammar.Stack.{Ending, Walk}
use Rattle.ether_peel.specs.Walker.Start.{start_of}
use Rattle.ether_packet.specs.Pushing.{RefusesPush, other_tpid, no_room, link}
use Rattle.ether_packet.proofs.Pushed.{is_linked, after_four}
use Rattle.ether_packet.proofs.pushing.require_link.Goals as goal

pub returns-then-not-announces_vlan-clause-refused :
    goal.returns-then-not-announces_vlan-clause-refused
returns-then-not-announces_vlan-clause-refused c hs e walk =
    other_tpid (sym c.announces_vlan.ensures ∙ c.if-not-announces_vlan.true)

pub returns-then-buffer-lt-LEN-clause-refused : goal.returns-then-buffer-lt-LEN-clause-refused
returns-then-buffer-lt-LEN-clause-refused c hs e walk =
    no_room (sym c.announces_vlan.ensures ∙ c.if-not-announces_vlan.false) c.if-buffer-lt-LEN.true

pub returns-in_err-typed_link-clause-refused : goal.returns-in_err-typed_link-clause-refused
returns-in_err-typed_link-clause-refused c =
    let h : (hs : List Header) (e : Ending) → Walk (start_of c.args.start) (drop 4 c.args.buffer.now) hs e
    → RefusesPush c.args.buffer.now hs c.args.tpid.0 c.in_err-typed_link.field-0.0 =
    λ hs e walk.
    link c.in_err-typed_link.field-0.0 (sym c.announces_vlan.ensures ∙ c.if-not-announces_vlan.false)
    c.if-buffer-lt-LEN.false
    (c.in_err-typed_link.ensures.refused hs e
    (subst (λ (l : List ℕ). Walk (start_of c.args.start) l hs e) (sym (after_four c.args.buffer.now)) walk)) in
    let p = err_from_is_err_and c.from_residual.result c.from_residual.ensures.1 in
    rw (p.1, p.2) h

pub returns-clause-ok : goal.returns-clause-ok
returns-clause-ok c hs e walk = search (rules, is_linked, after_four)
