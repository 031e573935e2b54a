use Rattle.std.proofs.Common.{◌++◌, rules}
use Rattle.ether_base.proofs.ArrayElements.{cells-all}
use Rattle.ether_pcap.proofs.word_bytes.four_words.Goals as goal

pub returns : goal.returns
returns c =
    let a = cells-all 4 c.args.a (search rules) in
    let b = cells-all 4 c.args.b (search rules) in
    let d = cells-all 4 c.args.c (search rules) in
    let e = cells-all 4 c.args.d (search rules) in
    λ i. a i ++ b i ++ d i ++ e i
