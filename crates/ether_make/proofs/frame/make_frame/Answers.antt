use Rattle.std.proofs.Common.{List, [], ◌∷◌, ◌++◌, codes, map, ap, sym, ◌∙◌}
use Rattle.serde_json.specs.View.{view}
use Rattle.ether_fields.specs.Rows.{Row}
use Rattle.ether_make.specs.Objects.{unknown_member}
use Rattle.ether_make.proofs.FrameLemmas.{frame-bytes_fault, frame-link_fault, frame-made, frame-time_fault}
use Rattle.ether_make.proofs.frame.make_frame.Goals as goal

pub returns-in-Err : goal.returns-in-Err
returns-in-Err c =
    frame-bytes_fault (view c.args.object.now) c.in-Err.fault
    (ap (λ (rows : List Row). unknown_member
    (map (λ r. r.name) rows ++ (codes "headers" ∷ codes "rest" ∷ codes "fault" ∷ []))
    (view c.args.object.now)) (sym c.fields.ensures.rows)
    ∙ sym c.in_default.ensures)
    c.in-Err.ensures

pub returns-in-Err-told_link : goal.returns-in-Err-told_link
returns-in-Err-told_link c =
    frame-link_fault (view c.args.object.now) c.in-Ok.bytes.items c.in-Err-told_link.fault
    (ap (λ (rows : List Row). unknown_member
    (map (λ r. r.name) rows ++ (codes "headers" ∷ codes "rest" ∷ codes "fault" ∷ []))
    (view c.args.object.now)) (sym c.fields.ensures.rows)
    ∙ sym c.in_default.ensures)
    c.in-Ok.ensures c.in-Err-told_link.ensures

pub returns-in-Err-told_time : goal.returns-in-Err-told_time
returns-in-Err-told_time c =
    frame-time_fault (view c.args.object.now) c.in-Ok.bytes.items c.in-Ok-told_link.link c.in-Err-told_time.fault
    (ap (λ (rows : List Row). unknown_member
    (map (λ r. r.name) rows ++ (codes "headers" ∷ codes "rest" ∷ codes "fault" ∷ []))
    (view c.args.object.now)) (sym c.fields.ensures.rows)
    ∙ sym c.in_default.ensures)
    c.in-Ok.ensures c.in-Ok-told_link.ensures c.in-Err-told_time.ensures

pub returns-in-Ok-told_time : goal.returns-in-Ok-told_time
returns-in-Ok-told_time c =
    frame-made (view c.args.object.now) c.in-Ok.bytes.items c.in-Ok-told_link.link c.in-Ok-told_time.time
    (ap (λ (rows : List Row). unknown_member
    (map (λ r. r.name) rows ++ (codes "headers" ∷ codes "rest" ∷ codes "fault" ∷ []))
    (view c.args.object.now)) (sym c.fields.ensures.rows)
    ∙ sym c.in_default.ensures)
    c.in-Ok.ensures c.in-Ok-told_link.ensures c.in-Ok-told_time.ensures
