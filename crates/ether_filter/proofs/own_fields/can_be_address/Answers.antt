use Rattle.std.proofs.Common.{◌+◌, length, arith, nat_eq, nat_lt}
use Rattle.std.specs.Prelude.{not}
use Rattle.std.proofs.lemmas.Bool.{lt-ltb, le-ltb}
use Rattle.ether_filter.proofs.FieldChoices.{address_among, address_lacks}
use Rattle.ether_filter.proofs.Iffs.{eq_iff, lt_iff, not_iff, or_self, or_else}
use Rattle.ether_filter.proofs.own_fields.can_be_address.Goals as goal

pub returns-then-is_short-clause-among : goal.returns-then-is_short-clause-among
returns-then-is_short-clause-among c room long =
    address_among c.args.known.now c.args.place c.args.address c.nearest_address.result room _
    (λ i. omega (arith, c.type_inv.known i)) c.requires.few c.requires.inside long c.nearest_address.ensures
    (record {
      matches = eq_iff c.nearest_address.result c.args.address;
      fails = or_self (nat_lt (length c.args.known.now) (c.args.place + 6))
          (lt-ltb (length c.args.known.now) (c.args.place + 6) c.if-is_short.true)
          (lt_iff (length c.args.known.now) (c.args.place + 6));
    })

pub returns-then-is_short-clause-lacks : goal.returns-then-is_short-clause-lacks
returns-then-is_short-clause-lacks c =
    address_lacks c.args.known.now c.args.place c.args.address c.nearest_address.result
    (record {
      matches = nat_eq c.nearest_address.result c.args.address;
      fails = nat_lt (length c.args.known.now)
          (c.args.place + 6);
    })
    c.nearest_address.ensures
    (record {
      matches = eq_iff c.nearest_address.result c.args.address;
      fails = or_self (nat_lt (length c.args.known.now) (c.args.place + 6))
          (lt-ltb (length c.args.known.now) (c.args.place + 6) c.if-is_short.true)
          (lt_iff (length c.args.known.now) (c.args.place + 6));
    })

pub returns-else-is_short-clause-among : goal.returns-else-is_short-clause-among
returns-else-is_short-clause-among c room long =
    address_among c.args.known.now c.args.place c.args.address c.nearest_address.result room _
    (λ i. omega (arith, c.type_inv.known i)) c.requires.few c.requires.inside long c.nearest_address.ensures
    (record {
      matches = eq_iff c.nearest_address.result c.args.address;
      fails = or_else (nat_lt (length c.args.known.now) (c.args.place + 6))
          (not (nat_eq c.nearest_address.result c.args.address))
          (le-ltb (length c.args.known.now) (c.args.place + 6) c.if-is_short.false)
          (lt_iff (length c.args.known.now) (c.args.place + 6))
          (not_iff (nat_eq c.nearest_address.result c.args.address) (eq_iff c.nearest_address.result c.args.address));
    })

pub returns-else-is_short-clause-lacks : goal.returns-else-is_short-clause-lacks
returns-else-is_short-clause-lacks c =
    address_lacks c.args.known.now c.args.place c.args.address c.nearest_address.result
    (record {
      matches = nat_eq c.nearest_address.result c.args.address;
      fails = not
          (nat_eq c.nearest_address.result c.args.address);
    })
    c.nearest_address.ensures
    (record {
      matches = eq_iff c.nearest_address.result c.args.address;
      fails = or_else (nat_lt (length c.args.known.now) (c.args.place + 6))
          (not (nat_eq c.nearest_address.result c.args.address))
          (le-ltb (length c.args.known.now) (c.args.place + 6) c.if-is_short.false)
          (lt_iff (length c.args.known.now) (c.args.place + 6))
          (not_iff (nat_eq c.nearest_address.result c.args.address) (eq_iff c.nearest_address.result c.args.address));
    })
