use Rattle.std.proofs.Common.{◌≡◌, ◌+◌, ◌-◌, ◌<◌, length, arith, sym, subst, ◌∙◌, inl, inr, true, false}
use Rattle.ether_filter.specs.declared.primitive.Primitive.{Primitive}
use Rattle.ether_filter.specs.Needed.{IsLeast, IsUndecided}
use Rattle.ether_filter.specs.Possible.{AreTold}
use Rattle.ether_filter.proofs.LeastHosts.{host_near, host_far, link_next, link_either}
use Rattle.ether_filter.proofs.LeastLinks.{IsHeader, is_header, source_far}
use Rattle.ether_filter.proofs.least.of_addresses.Goals as goal

pub returns-then-known-ge6 : goal.returns-then-known-ge6
returns-then-known-ge6 c link told room long field packet hs ok o a u =
    let q = c.args.primitive in
    let known = c.args.known.now in
    let t = is_header q known room (λ i. omega (arith, c.type_inv.known i)) long link field
    (link_either q known c.requires.open.0 (c.requires.open.1 link field) c.requires.open.2 c.requires.open.3) in
    link_next q told packet hs known room t (inl c.if-known-ge6.true) ok o a u

pub returns-in-Source : goal.returns-in-Source
returns-in-Source c link told room long field packet hs ok o a u =
    let q = c.args.primitive in
    let known = c.args.known.now in
    let t = is_header q known room (λ i. omega (arith, c.type_inv.known i)) long link field
    (link_either q known c.requires.open.0 (c.requires.open.1 link field) c.requires.open.2 c.requires.open.3) in
    let few : length known < 6 = omega (arith, c.if-known-ge6.false) in
    let is = c.in-Source.is in
    subst (λ (p : Primitive). IsLeast packet p (length packet.frame.now + (7 - length known))) (sym is)
    (source_far told packet hs known room c.in-Source.field-0
    (subst (λ (p : Primitive). IsHeader p known room) is t) few ok o
    (subst (λ (p : Primitive). AreTold packet hs p told) is a)
    (subst (λ (p : Primitive). IsUndecided packet p) is u))

pub returns-then-can_be_address : goal.returns-then-can_be_address
returns-then-can_be_address c link told room long field packet hs ok o a u =
    let q = c.args.primitive in
    let known = c.args.known.now in
    let t = is_header q known room (λ i. omega (arith, c.type_inv.known i)) long link field
    (link_either q known c.requires.open.0 (c.requires.open.1 link field) c.requires.open.2 c.requires.open.3) in
    let few : length known < 6 = omega (arith, c.if-known-ge6.false) in
    let is = c.in-Host.is in
    let x = (c.can_be_address.ensures.among 14 (omega arith)).matches.0 c.if-can_be_address.true in
    subst (λ (p : Primitive). IsLeast packet p (length packet.frame.now + (6 - length known))) (sym is)
    (host_near told packet hs known room c.in-Host.address
    (subst (λ (p : Primitive). IsHeader p known room) is t) few x.0 x.1 x.2 ok o
    (subst (λ (p : Primitive). AreTold packet hs p told) is a)
    (subst (λ (p : Primitive). IsUndecided packet p) is u))

pub returns-else-can_be_address : goal.returns-else-can_be_address
returns-else-can_be_address c link told room long field packet hs ok o a u =
    let q = c.args.primitive in
    let known = c.args.known.now in
    let t = is_header q known room (λ i. omega (arith, c.type_inv.known i)) long link field
    (link_either q known c.requires.open.0 (c.requires.open.1 link field) c.requires.open.2 c.requires.open.3) in
    let few : length known < 6 = omega (arith, c.if-known-ge6.false) in
    let is = c.in-Host.is in
    subst (λ (p : Primitive). IsLeast packet p (length packet.frame.now + (7 - length known))) (sym is)
    (host_far told packet hs known room c.in-Host.address
    (subst (λ (p : Primitive). IsHeader p known room) is t) few
    (λ r r_long bytes on same.
    (let clash : true ≡ false = sym ((c.can_be_address.ensures.among r r_long).matches.1 (bytes, on, same))
    ∙ c.if-can_be_address.false in cc)) ok o
    (subst (λ (p : Primitive). AreTold packet hs p told) is a)
    (subst (λ (p : Primitive). IsUndecided packet p) is u))

pub returns-in_default : goal.returns-in_default
returns-in_default c link told room long field packet hs ok o a u =
    let q = c.args.primitive in
    let known = c.args.known.now in
    let t = is_header q known room (λ i. omega (arith, c.type_inv.known i)) long link field
    (link_either q known c.requires.open.0 (c.requires.open.1 link field) c.requires.open.2 c.requires.open.3) in
    link_next q told packet hs known room t (inr (c.in_default.not-Source, c.in_default.not-Host)) ok o a u
