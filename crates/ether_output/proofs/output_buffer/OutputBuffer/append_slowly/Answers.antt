use Rattle.std.proofs.Common.{◌≡◌, ℕ, ◌-◌, List, ◌++◌, length, take, drop, sym, ap, ◌∙◌, append_assoc, arith}
use Rattle.std.proofs.lemmas.List.{take-append-drop, take_all, length-take-le, length-drop}
use Rattle.ether_output.proofs.OutputBufferLemmas.{Grows-then}
use Rattle.ether_output.proofs.output_buffer.OutputBuffer.append_slowly.Goals as goal

pub slice_bounds-append_piece-end : goal.slice_bounds-append_piece-end
slice_bounds-append_piece-end g c =
    let long = c.loop-rest-test.true in
    let len = length-take-le 65536 c.loop-rest.rest.now (omega (arith, long)) in omega (arith, long, len)

pub append_piece-requires : goal.append_piece-requires
append_piece-requires g c =
    let long = c.loop-rest-test.true in
    let len = length-take-le 65536 c.loop-rest.rest.now (omega (arith, long)) in omega (arith, len)

pub loop-rest-preserved : goal.loop-rest-preserved
loop-rest-preserved g c =
    let (front, whole, taken) = c.loop-rest.invariant in
    let xs = c.loop-rest.rest.now in
    let piece : List ℕ = take 65536 xs in
    let after : take (length xs - 65536) (drop 65536 xs) ≡ drop 65536 xs =
    take_all (length xs - 65536) (drop 65536 xs) (let n = length-drop 65536 xs in omega (arith, n)) in
    let parts : xs ≡ piece ++ take (length xs - 65536) (drop 65536 xs) =
    sym (take-append-drop 65536 xs) ∙ ap (λ (l : List ℕ). piece ++ l) (sym after) in (
      front ++ piece,
      whole ∙ ap (λ (l : List ℕ). front ++ l) parts
          ∙ sym (append_assoc front piece (take (length xs - 65536) (drop 65536 xs))),
      Grows-then taken c.append_piece.ensures,
    )
