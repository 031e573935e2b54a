use Rattle.std.proofs.Common.{sym, subst}
use Rattle.ether_packet.specs.Gathered.{HasEnded}
use Rattle.ether_packet.proofs.Gathering.{none_came, one_more, goes_on, ends_there, ends_within}
use Rattle.ether_packet.proofs.packet_walk.PacketWalk.read_all.Goals as goal
use Rattle.ether_packet.proofs.packet_walk.PacketWalk.read_all.Goals.{else-read_next-via-then-read_next+then-read_next-2+then-read_next-3+then-read_next-4+else-read_next-5, else-read_next-via-then-read_next+then-read_next-2+then-read_next-3+else-read_next-4, else-read_next-via-then-read_next+then-read_next-2+else-read_next-3, else-read_next-via-then-read_next+else-read_next-2, else-read_next-via-else-read_next}

pub read_next-requires-then-read_next : goal.read_next-requires-then-read_next
read_next-requires-then-read_next c =
    let one = one_more (none_came c.args.self.now) c.read_next.new.self c.if-read_next.true c.read_next.ensures in
    goes_on one c.requires.going

pub read_next-requires-then-read_next-2 : goal.read_next-requires-then-read_next-2
read_next-requires-then-read_next-2 c =
    let one = one_more (none_came c.args.self.now) c.read_next.new.self c.if-read_next.true c.read_next.ensures in
    let two =
    one_more one c.read_next-then-read_next.new.self c.if-read_next-2.true c.read_next-then-read_next.ensures in
    goes_on two c.requires.going

pub read_next-requires-then-read_next-3 : goal.read_next-requires-then-read_next-3
read_next-requires-then-read_next-3 c =
    let one = one_more (none_came c.args.self.now) c.read_next.new.self c.if-read_next.true c.read_next.ensures in
    let two =
    one_more one c.read_next-then-read_next.new.self c.if-read_next-2.true c.read_next-then-read_next.ensures in
    let three =
    one_more two c.read_next-then-read_next-2.new.self c.if-read_next-3.true c.read_next-then-read_next-2.ensures in
    goes_on three c.requires.going

pub read_next-requires-then-read_next-4 : goal.read_next-requires-then-read_next-4
read_next-requires-then-read_next-4 c =
    let one = one_more (none_came c.args.self.now) c.read_next.new.self c.if-read_next.true c.read_next.ensures in
    let two =
    one_more one c.read_next-then-read_next.new.self c.if-read_next-2.true c.read_next-then-read_next.ensures in
    let three =
    one_more two c.read_next-then-read_next-2.new.self c.if-read_next-3.true c.read_next-then-read_next-2.ensures in
    let four =
    one_more three c.read_next-then-read_next-3.new.self c.if-read_next-4.true c.read_next-then-read_next-3.ensures in
    goes_on four c.requires.going

pub read_next-requires-then-read_next-5 : goal.read_next-requires-then-read_next-5
read_next-requires-then-read_next-5 c =
    let one = one_more (none_came c.args.self.now) c.read_next.new.self c.if-read_next.true c.read_next.ensures in
    let two =
    one_more one c.read_next-then-read_next.new.self c.if-read_next-2.true c.read_next-then-read_next.ensures in
    let three =
    one_more two c.read_next-then-read_next-2.new.self c.if-read_next-3.true c.read_next-then-read_next-2.ensures in
    let four =
    one_more three c.read_next-then-read_next-3.new.self c.if-read_next-4.true c.read_next-then-read_next-3.ensures in
    let five =
    one_more four c.read_next-then-read_next-4.new.self c.if-read_next-5.true c.read_next-then-read_next-4.ensures in
    goes_on five c.requires.going

pub returns-then-read_next-5 : goal.returns-then-read_next-5
returns-then-read_next-5 c =
    let one = one_more (none_came c.args.self.now) c.read_next.new.self c.if-read_next.true c.read_next.ensures in
    let two =
    one_more one c.read_next-then-read_next.new.self c.if-read_next-2.true c.read_next-then-read_next.ensures in
    let three =
    one_more two c.read_next-then-read_next-2.new.self c.if-read_next-3.true c.read_next-then-read_next-2.ensures in
    let four =
    one_more three c.read_next-then-read_next-3.new.self c.if-read_next-4.true c.read_next-then-read_next-3.ensures in
    let five =
    one_more four c.read_next-then-read_next-4.new.self c.if-read_next-5.true c.read_next-then-read_next-4.ensures in
    ends_within five c.read_next-then-read_next-5.new.self c.read_next-then-read_next-5.result c.requires.few
    c.read_next-then-read_next-5.ensures

pub returns-else-read_next : goal.returns-else-read_next
returns-else-read_next c start list way =
    elim c.else-read_next.branch [
      | else-read_next-via-then-read_next+then-read_next-2+then-read_next-3+then-read_next-4+else-read_next-5 w ↦
          let one = one_more (none_came c.args.self.now) c.read_next.new.self w.if-read_next.true c.read_next.ensures in
          let two =
          one_more one w.read_next-then-read_next.new.self w.if-read_next-2.true w.read_next-then-read_next.ensures in
          let three = one_more two w.read_next-then-read_next-2.new.self w.if-read_next-3.true
          w.read_next-then-read_next-2.ensures in
          let four = one_more three w.read_next-then-read_next-3.new.self w.if-read_next-4.true
          w.read_next-then-read_next-3.ensures in
          subst (HasEnded start list) (sym w.self-is)
          (ends_there four w.read_next-then-read_next-4.new.self w.if-read_next-5.false
          w.read_next-then-read_next-4.ensures start list way)
      | else-read_next-via-then-read_next+then-read_next-2+then-read_next-3+else-read_next-4 w ↦
          let one = one_more (none_came c.args.self.now) c.read_next.new.self w.if-read_next.true c.read_next.ensures in
          let two =
          one_more one w.read_next-then-read_next.new.self w.if-read_next-2.true w.read_next-then-read_next.ensures in
          let three = one_more two w.read_next-then-read_next-2.new.self w.if-read_next-3.true
          w.read_next-then-read_next-2.ensures in
          subst (HasEnded start list) (sym w.self-is)
          (ends_there three w.read_next-then-read_next-3.new.self w.if-read_next-4.false
          w.read_next-then-read_next-3.ensures start list way)
      | else-read_next-via-then-read_next+then-read_next-2+else-read_next-3 w ↦
          let one = one_more (none_came c.args.self.now) c.read_next.new.self w.if-read_next.true c.read_next.ensures in
          let two =
          one_more one w.read_next-then-read_next.new.self w.if-read_next-2.true w.read_next-then-read_next.ensures in
          subst (HasEnded start list) (sym w.self-is)
          (ends_there two w.read_next-then-read_next-2.new.self w.if-read_next-3.false
          w.read_next-then-read_next-2.ensures start list way)
      | else-read_next-via-then-read_next+else-read_next-2 w ↦
          let one = one_more (none_came c.args.self.now) c.read_next.new.self w.if-read_next.true c.read_next.ensures in
          subst (HasEnded start list) (sym w.self-is)
          (ends_there one w.read_next-then-read_next.new.self w.if-read_next-2.false
          w.read_next-then-read_next.ensures start list way)
      | else-read_next-via-else-read_next w ↦
          subst (HasEnded start list) (sym w.self-is)
          (ends_there (none_came c.args.self.now) c.read_next.new.self w.if-read_next.false c.read_next.ensures start
          list way)
    ]
