use Rattle.std.proofs.Common.{ap, sym, ◌∙◌, ◌++◌, map, Some}
use Rattle.ether_fields.specs.Fields.{field_view}
use Rattle.ether_make.specs.Objects.{is_among}
use Rattle.ether_make.proofs.KeyLemmas.{unknown_key, unknown-of_keys, key-known, key-unknown}
use Rattle.ether_make.proofs.objects.unknown_key.Goals as goal

pub loop-key-init : goal.loop-key-init
loop-key-init c =
    let known = map (λ r. r.name) (map field_view c.args.fields.now) ++ map (λ o. o.now) c.args.others.now in
    record {
      next = tt;
      finite = tt;
      so_far =
          unknown-of_keys known c.args.object.now.entries
          ∙ ap (unknown_key known) (sym (c.into_iter-key-iterator.ensures.into_iter_gives
          ∙ c.keys-key-items.ensures.rest));
    }

pub returns-then-not-is_known : goal.returns-then-not-is_known
returns-then-not-is_known c =
    let known = map (λ r. r.name) (map field_view c.args.fields.now) ++ map (λ o. o.now) c.args.others.now in
    ap Some c.as_str-then-not-is_known.ensures.value
    ∙ sym (c.loop-key.invariant.so_far
    ∙ key-unknown known c.in-Some.key.now _ _ c.in-Some.ensures.steps
    (sym (c.if-not-is_known.ensures ∙ ap (is_among known) c.as_str.ensures.value)))

pub loop-key-preserved : goal.loop-key-preserved
loop-key-preserved c =
    let known = map (λ r. r.name) (map field_view c.args.fields.now) ++ map (λ o. o.now) c.args.others.now in
    record {
      next = tt;
      finite = tt;
      so_far =
          c.loop-key.invariant.so_far
          ∙ key-known known c.in-Some.key.now _ _ c.in-Some.ensures.steps
          (sym (c.if-not-is_known.ensures ∙ ap (is_among known) c.as_str.ensures.value));
    }
