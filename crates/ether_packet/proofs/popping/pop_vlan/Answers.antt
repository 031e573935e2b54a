use Rattle.std.proofs.Common.{◌≡◌, List, ap, rules, None}
use Rattle.etherparse.specs.Header.{Header}
use Rattle.etherparse.specs.Vlan.{vlan_view}
use Rattle.ether_peel.specs.Grammar.Stack.{Ending, Walk}
use Rattle.ether_peel.specs.Walker.Start.{start_of}
use Rattle.ether_packet.specs.TypedLink.{link_len}
use Rattle.ether_packet.specs.Front.{outer_tag}
use Rattle.ether_packet.proofs.TypedLinks.{other_len}
use Rattle.ether_packet.proofs.Popped.{is_popped}
use Rattle.ether_packet.proofs.Fronts.{tag_of_popped, none_popped}
use Rattle.ether_packet.proofs.popping.pop_vlan.Goals as goal

pub returns-in_ok-require_tag-in-LinuxSll-clause-ok :
    goal.returns-in_ok-require_tag-in-LinuxSll-clause-ok
returns-in_ok-require_tag-in-LinuxSll-clause-ok c hs e walk =
    let tagged = c.in_ok-require_tag-in-LinuxSll.ensures in
    let call = c.take_off in
    is_popped c.args.start c.args.frame.now call.new.frame hs e (link_len c.args.start) 14 (vlan_view call.result)
    tagged.bytes (tagged.ok hs e walk) (ap link_len c.in-LinuxSll.is) tagged.room call.ensures.bytes
    call.ensures.tag walk

pub returns-in_ok-require_tag-in_default-clause-ok :
    goal.returns-in_ok-require_tag-in_default-clause-ok
returns-in_ok-require_tag-in_default-clause-ok c hs e walk =
    let tagged = c.in_ok-require_tag-in_default.ensures in
    let call = c.take_off-in_default in
    is_popped c.args.start c.args.frame.now call.new.frame hs e (link_len c.args.start) 12 (vlan_view call.result)
    tagged.bytes (tagged.ok hs e walk) (other_len c.args.start c.in_default.not-LinuxSll) tagged.room
    call.ensures.bytes call.ensures.tag walk

pub returns-in_ok-require_tag-in-LinuxSll-clause-tag :
    goal.returns-in_ok-require_tag-in-LinuxSll-clause-tag
returns-in_ok-require_tag-in-LinuxSll-clause-tag c hs e walk =
    tag_of_popped _ _ hs e _ _ (returns-in_ok-require_tag-in-LinuxSll-clause-ok c hs e walk)

pub returns-in_ok-require_tag-in_default-clause-tag :
    goal.returns-in_ok-require_tag-in_default-clause-tag
returns-in_ok-require_tag-in_default-clause-tag c hs e walk =
    tag_of_popped _ _ hs e _ _ (returns-in_ok-require_tag-in_default-clause-ok c hs e walk)

pub returns-in_err-require_tag-in-LinuxSll-clause-none :
    goal.returns-in_err-require_tag-in-LinuxSll-clause-none
returns-in_err-require_tag-in-LinuxSll-clause-none c =
    let at = c.in_err-require_tag-in-LinuxSll in
    let h : (hs : List Header) (e : Ending) → Walk (start_of c.args.start) c.args.frame.now hs e → outer_tag hs ≡ None =
    λ hs e walk. none_popped c.args.start c.args.frame.now hs e at.field-0.0 walk (at.ensures.refused hs e walk) in
    search rules

pub returns-in_err-require_tag-in_default-clause-none :
    goal.returns-in_err-require_tag-in_default-clause-none
returns-in_err-require_tag-in_default-clause-none c =
    let at = c.in_err-require_tag-in_default in
    let h : (hs : List Header) (e : Ending) → Walk (start_of c.args.start) c.args.frame.now hs e → outer_tag hs ≡ None =
    λ hs e walk. none_popped c.args.start c.args.frame.now hs e at.field-0.0 walk (at.ensures.refused hs e walk) in
    search rules
