use Rattle.std.proofs.Common.{◌≡◌, ℕ, ◌+◌, ◌++◌, List, [], ◌∷◌, get_or, length, ap, ◌∙◌, arith}
use Rattle.std.specs.Prelude.{slice_range}
use Rattle.etherparse.specs.Bytes.{overwritten}
use Rattle.etherparse.specs.Vlan.{vlan_view}
use Rattle.etherparse.proofs.Numbers.{spelled-high}
use Rattle.etherparse.proofs.SubLists.{length-part}
use Rattle.ether_packet.specs.Pushing.{pushed_bytes}
use Rattle.ether_packet.proofs.Pushed.{two_written, four_bytes}
use Rattle.ether_packet.proofs.pushing.put_in.Goals as goal

pub returns-clause-bytes : goal.returns-clause-bytes
returns-clause-bytes g c =
    let old = c.args.buffer.now in
    let n = g.row.N in
    let room = c.requires in
    let front = slice_range old 4 (4 + n) in
    let len : length front ≡ n = length-part old 4 (4 + n) (omega (arith, room)) ∙ omega arith in
    let p = c.to_be_bytes-tpid.result in
    let t = c.to_bytes-control.result in
    let last : List ℕ = get_or p 0 0 ∷ get_or p 1 0 ∷ get_or t 0 0 ∷ get_or t 1 0 ∷ [] in
    let four : last ≡ pushed_bytes c.args.tpid.0 (vlan_view c.args.tag) =
    four_bytes c.to_be_bytes-tpid.result c.to_bytes-control.result c.args.tpid.0 (vlan_view c.args.tag)
    (c.to_be_bytes-tpid.ensures ∙ spelled-high 2 c.args.tpid.0) c.to_bytes-control.ensures.value in
    c.put_at-2.ensures
    ∙ ap (λ (l : List ℕ). overwritten l n last) (c.put_at.ensures ∙ ap (overwritten old 0) c.chunk_at-front.ensures)
    ∙ two_written old front last n len (omega (arith, room))
    ∙ ap (λ (l : List ℕ). overwritten old 0 (front ++ l)) four
