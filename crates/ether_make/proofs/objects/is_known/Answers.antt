use Rattle.std.proofs.Common.{sym, ◌∙◌, map}
use Rattle.ether_fields.specs.Fields.{field_view}
use Rattle.ether_make.specs.Objects.{is_among}
use Rattle.ether_make.proofs.KeyLemmas.{among-append, or-left, or-right}
use Rattle.ether_make.proofs.objects.is_known.Goals as goal

pub returns-then-is_field : goal.returns-then-is_field
returns-then-is_field c =
    let fields = map (λ r. r.name) (map field_view c.args.fields.now) in
    let others = map (λ o. o.now) c.args.others.now in
    or-left _ (is_among fields c.args.name.now) (is_among others c.args.name.now) c.is_field.ensures c.if-is_field.true
    ∙ sym (among-append fields others c.args.name.now)

pub returns-else-is_field : goal.returns-else-is_field
returns-else-is_field c =
    let fields = map (λ r. r.name) (map field_view c.args.fields.now) in
    let others = map (λ o. o.now) c.args.others.now in
    or-right _ (is_among fields c.args.name.now) (is_among others c.args.name.now) _ c.is_field.ensures
    c.if-is_field.false c.is_other.ensures
    ∙ sym (among-append fields others c.args.name.now)
