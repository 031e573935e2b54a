use Rattle.std.proofs.Common.{◌≡◌, Bool, true, false, IsTrue, rules, refl}
use Rattle.std.specs.Prelude.{◌&&◌}
use Rattle.derived_traits.proofs.filter.equality.Goals as goal

pub returns-clause-start : goal.returns-clause-start
returns-clause-start c = search rules

pub returns-clause-packet_times : goal.returns-clause-packet_times
returns-clause-packet_times c = search rules

left : (x y : Bool) → IsTrue (x && y) → IsTrue x
left true y t = refl
left false y t = absurd cc

right : (x y : Bool) → IsTrue (x && y) → IsTrue y
right true y t = t
right false y t = absurd cc

pub returns-clause-packet : goal.returns-clause-packet
returns-clause-packet c a b = (
  λ t.
      let start = (returns-clause-start c a.start b.start).0 (left _ _ t) in
      let starts = (Rattle.ether_peel.specs.contracts.start.StartPartialEq.TheImpl.ghosts).eq a.start b.start in
      let frames = (Rattle.std.specs.contracts.prelude.RefSlicePartialEq.TheImpl.ghosts denote.Builtin.u8
      Rattle.std.specs.contracts.prelude.U8PartialEq.TheImpl.ghosts
      Rattle.std.specs.contracts.prelude.U8PartialEq.TheImpl.dict).eq a.frame b.frame in
      let captures = (Rattle.std.specs.contracts.prelude.UsizePartialEq.TheImpl.ghosts).eq a.captured_len
      b.captured_len in
      let originals = (Rattle.std.specs.contracts.prelude.U32PartialEq.TheImpl.ghosts).eq a.original_len
      b.original_len in
      let time = (returns-clause-packet_times c a.time b.time).0
      (right originals _ (right captures _ (right frames _ (right starts _ t)))) in
      (start, search rules, search rules, search rules, time),
  search rules,
)
