-- The fields of a VLAN tag, read from the parts of a list.
use Rattle.std.proofs.Common.{◌≡◌, ℕ, ◌≤◌, List, length, sym, ap, ◌∙◌, arith}
use Rattle.std.specs.Prelude.{slice_range}
use Rattle.ether_base.specs.Bytes.{IsBytes, spelled}
use Rattle.ether_base.specs.Formats.Vlan.{VlanValue, IsVlan, vlan_bytes, vlan_of}
use Rattle.ether_base.specs.Formats.Header.{Means}
use Rattle.ether_base.specs.Formats.Header as headers
use Rattle.ether_base.proofs.Numbers.{spelled-is}
use Rattle.ether_base.proofs.SubLists.{part_all, number-part_below, number-part_join}

pub vlan_read : (bytes : List ℕ) → IsBytes bytes → 4 ≤ length bytes → IsVlan (slice_range bytes 0 4) (vlan_of bytes)
vlan_read bytes ok le =
    let a = number-part_join bytes 0 2 4 (omega arith) (omega arith) le in
    let c = number-part_below bytes 0 2 ok (omega arith) in
    let t = number-part_below bytes 2 4 ok le in
    record {
      sum = omega arith;
      fits = record { pcp = omega arith; dei = omega arith; vid = omega arith; ether_type = t };
    }

pub vlan_means : (bytes : List ℕ) → IsBytes bytes → 4 ≤ length bytes → Means bytes (headers.Vlan (vlan_of bytes))
vlan_means bytes ok le = record { whole = le; spells = vlan_read bytes ok le }

pub vlan_whole : (bytes : List ℕ) → IsBytes bytes → length bytes ≡ 4 → IsVlan bytes (vlan_of bytes)
vlan_whole bytes ok len = rw (part_all bytes 4 (omega arith)) at (vlan_read bytes ok (omega arith))

pub vlan_bytes-read : (bytes : List ℕ) (v : VlanValue) → IsBytes bytes → length bytes ≡ 4 → IsVlan bytes v
    → vlan_bytes v ≡ bytes
vlan_bytes-read bytes v ok len is = ap (spelled 4) (sym is.sum) ∙ spelled-is 4 bytes len ok
