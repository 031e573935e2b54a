use Rattle.std.proofs.Common.{take, length, rules}
use Rattle.std.proofs.lemmas.List.{nil_from_length}
use Rattle.ether_c.specs.Building.{no_unit, bad_link}
use Rattle.ether_c.proofs.BuiltParts.{tags_refused, arp_refused}
use Rattle.ether_c.proofs.building.parts.Goals as goal

pub returns-in_default-clause-refused : goal.returns-in_default-clause-refused
returns-in_default-clause-refused c = no_unit (nil_from_length c.args.units.now c.in_default.ensures.cases)

pub returns-in-Err-clause-refused : goal.returns-in-Err-clause-refused
returns-in-Err-clause-refused c =
    bad_link c.in-Some.first.now c.in-Some.inner.now c.in-Err.status c.in-Some.ensures.cases.0 c.in-Err.ensures.none

pub returns-in-Err-put_tags-clause-refused : goal.returns-in-Err-put_tags-clause-refused
returns-in-Err-put_tags-clause-refused c = search (rules, tags_refused)

pub returns-in-Err-passed_arp-clause-refused : goal.returns-in-Err-passed_arp-clause-refused
returns-in-Err-passed_arp-clause-refused c =
    arp_refused c.args.units.now c.in-Some.inner.now c.split_at.result.0.now c.split_at.result.1.now
    c.in-Some.first.now c.in-Ok.link (take (length c.split_at.result.0.now) c.put_tags.new.tags) c.tag_count.result
    c.args.bytes.now c.in-Err-passed_arp.status c.in-Some.ensures.cases.0 c.in-Ok.ensures.link c.split_at.ensures.front
    c.split_at.ensures.back c.tag_count.ensures.split c.in_default-put_tags.ensures.put
    c.in_default-put_tags.ensures.few c.in-Err-passed_arp.ensures.refused
