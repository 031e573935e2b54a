use Rattle.std.proofs.Common.{◌≡◌, ◌-◌, ◌^◌, ℕ, List, sym, subst, IsTrue, ◌↔◌}
use Rattle.std.specs.Prelude.{slice_range}
use Rattle.etherparse.specs.Bytes.{number}
use Rattle.etherparse.specs.Ethernet2.{ethernet2_of}
use Rattle.etherparse.specs.Header as headers
use Rattle.ether_filter.specs.declared.can.Can.{Can}
use Rattle.ether_filter.specs.declared.primitive.Primitive.{Primitive}
use Rattle.ether_filter.specs.declared.primitive.Primitive.TheVariants as primitives
use Rattle.ether_filter.specs.Primitives.{is_group}
use Rattle.ether_filter.specs.OwnFields.{IsAmong, link_test}
use Rattle.ether_filter.proofs.FieldChoices.{among_turned, same_number, multicast_left}
use Rattle.ether_filter.proofs.own_fields.of_link.Goals as goal

-- the bytes have a header that passes the test of a primitive
abbrev Pass : Primitive → List ℕ → Type 0
Pass p bytes = IsTrue (link_test p (headers.Ethernet2 (ethernet2_of bytes)))

turned : (known : List ℕ) (room : ℕ) (Have : List ℕ → Type 0) (p q : Primitive) (can : Can) → p ≡ q
    → ((bytes : List ℕ) → Have bytes ↔ Pass q bytes) → IsAmong known room Have can → IsAmong known room (Pass p) can
turned known room Have p q can is same among =
    subst (λ (r : Primitive). IsAmong known room (Pass r) can) (sym is)
    (among_turned known room Have (Pass q) can same among)

pub returns-in-Source : goal.returns-in-Source
returns-in-Source c of free room long =
    turned c.args.known.now room (λ bytes. number (slice_range bytes 6 12) ≡ c.in-Source.address) c.args.primitive
    (primitives.Source c.in-Source.address) c.can_be_address.result c.in-Source.is
    (λ bytes. same_number (number (slice_range bytes 6 12)) c.in-Source.address)
    (c.can_be_address.ensures.among room long)

pub returns-in-Destination : goal.returns-in-Destination
returns-in-Destination c of free room long =
    turned c.args.known.now room (λ bytes. number (slice_range bytes 0 6) ≡ c.in-Destination.address) c.args.primitive
    (primitives.Destination c.in-Destination.address) c.can_be_address-in-Destination.result c.in-Destination.is
    (λ bytes. same_number (number (slice_range bytes 0 6)) c.in-Destination.address)
    (c.can_be_address-in-Destination.ensures.among room long)

pub returns-in-Host : goal.returns-in-Host
returns-in-Host c of free room long =
    turned c.args.known.now room (Pass (primitives.Host c.in-Host.address)) c.args.primitive
    (primitives.Host c.in-Host.address) c.can_be_host.result c.in-Host.is (λ bytes. (λ t. t, λ t. t))
    (c.can_be_host.ensures room long)

pub returns-in-Broadcast : goal.returns-in-Broadcast
returns-in-Broadcast c of free room long =
    turned c.args.known.now room (λ bytes. number (slice_range bytes 0 6) ≡ (2 ^ 48 - 1)) c.args.primitive
    primitives.Broadcast c.can_be_address-in-Broadcast.result c.in-Broadcast.is
    (λ bytes. same_number (number (slice_range bytes 0 6)) (2 ^ 48 - 1))
    (c.can_be_address-in-Broadcast.ensures.among room long)

pub returns-in_default : goal.returns-in_default
returns-in_default c of free room long =
    turned c.args.known.now room (λ bytes. IsTrue (is_group (number (slice_range bytes 0 6)))) c.args.primitive
    primitives.Multicast c.can_be_group.result
    (multicast_left c.args.primitive of free c.in_default.not-Source c.in_default.not-Destination c.in_default.not-Host
    c.in_default.not-Broadcast) (λ bytes. (λ t. t, λ t. t)) (c.can_be_group.ensures room long)
