-- A packet that was not cut is never undecided.
use Rattle.std.proofs.Common.{◌≡◌, length, arith, false}
use Rattle.std.proofs.lemmas.Bool.{ltb-false}
use Rattle.std.proofs.lemmas.List.{length-take}
use Rattle.ether_content.specs.Content.{is_cut, whole_len}
use Rattle.ether_content.specs.Selecting.{IsUndecided, missing_len}
use Rattle.ether_content.specs.Selecting as selecting
use Rattle.ether_filter.specs.Expressions.{Expression}
use Rattle.ether_pcap.specs.Capture.{PacketValue}

none_missing : (p : PacketValue) → is_cut p ≡ false → missing_len p ≡ 0
none_missing p uncut =
    let le = ltb-false (length p.packet) p.original_len uncut in
    let len = length-take (whole_len p) p.packet in
    omega (arith, le, len)

pub never_undecided : (x : Expression) (p : PacketValue) → is_cut p ≡ false → IsUndecided x p → ⊥
never_undecided x p uncut (selecting.walk lacks asked is more) =
    let some = lacks.lacks in
    let none = none_missing p uncut in
    omega (arith, some, none)
never_undecided x p uncut (selecting.header some is) =
    let none = none_missing p uncut in
    omega (arith, some, none)
never_undecided x p uncut (selecting.fcs some is) =
    let none = none_missing p uncut in
    omega (arith, some, none)
