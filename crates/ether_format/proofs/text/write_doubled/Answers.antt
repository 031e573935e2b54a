use Rattle.std.specs.Prelude.{ℕ, List, [], ◌∷◌, if◌then◌else◌, nat_eq}
use Rattle.ether_format.proofs.ListLemmas.{first_none, first_next, first_all}
use Rattle.ether_format.proofs.text.write_doubled.Goals as goal

abbrev doubled : ℕ → List ℕ
doubled b = if nat_eq b 34 then 34 ∷ 34 ∷ [] else b ∷ []

pub loop-byte-init : goal.loop-byte-init
loop-byte-init g c = first_none g.W.Sink.contents g.W.Sink.can_fail doubled c.args.text.now c.args.out.now

pub loop-byte-preserved : goal.loop-byte-preserved
loop-byte-preserved g c =
    first_next g.W.Sink.contents g.W.Sink.can_fail doubled c.args.text.now
    c.loop-byte.byte-index 0 c.args.out.now
    c.loop-byte.out
    c.write_csv_byte.new.out c.loop-byte-test.true c.loop-byte.invariant c.write_csv_byte.ensures

pub returns : goal.returns
returns g c =
    first_all g.W.Sink.contents g.W.Sink.can_fail doubled c.args.text.now
    c.loop-byte.byte-index c.args.out.now
    c.loop-byte.out
    c.loop-byte-test.false c.loop-byte.invariant
