use Rattle.std.proofs.Common.{◌-◌, length, drop, ap, ◌∙◌, arith}
use Rattle.std.proofs.lemmas.List.{drop_min, length-drop, take_all}
use Rattle.ether_format.proofs.json_bytes.bytes_from.Goals as goal

pub returns : goal.returns
returns c =
    let bytes = c.args.bytes.now in
    let n = c.min.result in
    take_all (length bytes - n) (drop n bytes) (omega (arith, length-drop n bytes))
    ∙ ap (λ k. drop k bytes) c.min.ensures
    ∙ drop_min c.args.start bytes
