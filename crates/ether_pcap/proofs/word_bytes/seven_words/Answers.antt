use Rattle.std.proofs.Common.{◌++◌, rules}
use Rattle.ether_base.proofs.ArrayElements.{cells-all}
use Rattle.ether_pcap.proofs.word_bytes.seven_words.Goals as goal

pub returns : goal.returns
returns c =
    let a = cells-all 16 c.args.front (search rules) in
    let b = cells-all 4 c.args.e (search rules) in
    let d = cells-all 4 c.args.f (search rules) in
    let e = cells-all 4 c.args.g (search rules) in
    λ i. a i ++ b i ++ d i ++ e i
