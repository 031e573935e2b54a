use Rattle.std.proofs.Common.{◌≡◌, List, drop, ap, rules, None}
use Rattle.etherparse.specs.Header.{Header}
use Rattle.etherparse.specs.Vlan.{vlan_view}
use Rattle.ether_peel.specs.Grammar.Stack.{Ending, Walk}
use Rattle.ether_peel.specs.Walker.Start.{start_of}
use Rattle.ether_packet.specs.TypedLink.{link_len}
use Rattle.ether_packet.specs.Front.{link_type}
use Rattle.ether_packet.proofs.TypedLinks.{other_len}
use Rattle.ether_packet.proofs.Pushed.{is_pushed}
use Rattle.ether_packet.proofs.Fronts.{none_pushed}
use Rattle.ether_packet.proofs.pushing.push_vlan.Goals as goal

pub returns-in_ok-require_link-in-LinuxSll-clause-ok :
    goal.returns-in_ok-require_link-in-LinuxSll-clause-ok
returns-in_ok-require_link-in-LinuxSll-clause-ok c hs e walk =
    let linked = c.in_ok-require_link-in-LinuxSll.ensures in
    let call = c.put_in in
    is_pushed c.args.start c.args.buffer.now call.new.buffer hs e (link_len c.args.start) 14 (vlan_view c.args.tag)
    c.args.tpid.0 linked.bytes (linked.ok hs e walk) (ap link_len c.in-LinuxSll.is) linked.room call.ensures.fits
    linked.announces call.ensures.bytes walk

pub returns-in_ok-require_link-in_default-clause-ok :
    goal.returns-in_ok-require_link-in_default-clause-ok
returns-in_ok-require_link-in_default-clause-ok c hs e walk =
    let linked = c.in_ok-require_link-in_default.ensures in
    let call = c.put_in-in_default in
    is_pushed c.args.start c.args.buffer.now call.new.buffer hs e (link_len c.args.start) 12 (vlan_view c.args.tag)
    c.args.tpid.0 linked.bytes (linked.ok hs e walk) (other_len c.args.start c.in_default.not-LinuxSll) linked.room
    call.ensures.fits linked.announces call.ensures.bytes walk

pub returns-in_err-require_link-in-LinuxSll-clause-untyped :
    goal.returns-in_err-require_link-in-LinuxSll-clause-untyped
returns-in_err-require_link-in-LinuxSll-clause-untyped c is room =
    let at = c.in_err-require_link-in-LinuxSll in
    let h : (hs : List Header) (e : Ending) → Walk (start_of c.args.start) (drop 4 c.args.buffer.now) hs e
    → link_type hs ≡ None =
    λ hs e walk.
    none_pushed c.args.buffer.now hs c.args.tpid.0 at.field-0.0 is room (at.ensures.refused hs e walk) in
    search rules

pub returns-in_err-require_link-in_default-clause-untyped :
    goal.returns-in_err-require_link-in_default-clause-untyped
returns-in_err-require_link-in_default-clause-untyped c is room =
    let at = c.in_err-require_link-in_default in
    let h : (hs : List Header) (e : Ending) → Walk (start_of c.args.start) (drop 4 c.args.buffer.now) hs e
    → link_type hs ≡ None =
    λ hs e walk.
    none_pushed c.args.buffer.now hs c.args.tpid.0 at.field-0.0 is room (at.ensures.refused hs e walk) in
    search rules
