-- A unit is within its bytes and not empty, and a required length is above theirs.
use Rattle.std.proofs.Common.{◌≡◌, ℕ, ◌<◌, ◌≤◌, List, length, refl, arith, Some, None, rules}
use Rattle.std.specs.Prelude.{Option}
use Rattle.ether_pcap.specs.Numbers.{Order}
use Rattle.ether_pcap.specs.FileHeader as file
use Rattle.ether_pcap.specs.Record as record_rows
use Rattle.ether_pcap.specs.Block as block_rows
use Rattle.ether_pcap.specs.Section as section_rows
use Rattle.ether_pcap.specs.Capture.{CaptureInterfaceValue, PacketValue, CaptureExpectation, BlockKind, CaptureRefusal, Section, Block, RefusesBody, interface, Begins, file_header, file_record, first_section, section, block, RefusesCapture, file_header_refused, file_record_refused, first_section_refused, section_refused, block_refused, body_refused, required_len}

pub unit_within : (bytes : List ℕ) (x y : CaptureExpectation) (len : ℕ) (p : Option PacketValue)
    → Begins bytes x len p y
    → len ≤ length bytes
unit_within bytes x y len p (file_header m h other is) = is.len
unit_within bytes x y len p (file_record h r is) = is.whole
unit_within bytes x y len p (first_section m order b is) = is.block.whole
unit_within bytes x y len p (section m order next interfaces b is) = is.block.whole
unit_within bytes x y len p (block m order interfaces after packet b other begins is) = begins.whole

pub unit_some : (bytes : List ℕ) (x y : CaptureExpectation) (len : ℕ) (p : Option PacketValue) → Begins bytes x len p y
    → 0 < len
unit_some bytes x y len p (file_header m h other is) = omega arith
unit_some bytes x y len p h = omega arith

above : (required n len : ℕ) → Some required ≡ Some n → len < required → len < n
above required n len e lt = let same : required ≡ n = cc in omega (arith, same, lt)

block_above : (order : Order) (bytes : List ℕ) (r : block_rows.BlockRefusal) (n : ℕ)
    → block_rows.RefusesBlock order bytes r → required_len (Block r) ≡ Some n → length bytes < n
block_above order bytes r n (block_rows.front lt) e = above 12 n (length bytes) e lt
block_above order bytes r n (block_rows.body m le is sound lt) e = above m n (length bytes) e lt
block_above order bytes r n h e = absurd cc

section_block_above : (order : Order) (bytes : List ℕ) (r : block_rows.BlockRefusal) (n : ℕ)
    → block_rows.RefusesBlock order bytes r → required_len (Section (section_rows.Block r)) ≡ Some n → length bytes < n
section_block_above order bytes r n (block_rows.front lt) e = above 12 n (length bytes) e lt
section_block_above order bytes r n (block_rows.body m le is sound lt) e = above m n (length bytes) e lt
section_block_above order bytes r n h e = absurd cc

section_above : (bytes : List ℕ) (r : section_rows.SectionRefusal) (n : ℕ) → section_rows.RefusesSection bytes r
    → required_len (Section r) ≡ Some n → length bytes < n
section_above bytes r n (section_rows.short lt) e = above 12 n (length bytes) e lt
section_above bytes r n (section_rows.block order s le t is refused) e = section_block_above order bytes s n refused e
section_above bytes r n h e = absurd cc

-- no body is refused because the bytes end
pub body_final : (most : ℕ) (order : Order) (before : List CaptureInterfaceValue) (body : List ℕ) (kind : BlockKind)
    (r : CaptureRefusal)
    → RefusesBody most order before body kind r → required_len r ≡ None
body_final most order before body kind r (interface s refused) = refl
body_final most order before body kind r h = refl

pub required_above : (bytes : List ℕ) (x : CaptureExpectation) (r : CaptureRefusal) (n : ℕ) → RefusesCapture bytes x r
    → required_len r ≡ Some n → length bytes < n
required_above bytes x r n (file_header_refused m s other (file.short lt)) e = above 24 n (length bytes) e lt
required_above bytes x r n (file_record_refused h s (record_rows.header lt)) e = above 16 n (length bytes) e lt
required_above bytes x r n (file_record_refused h s (record_rows.packet le small lt)) e = above _ n (length bytes) e lt
required_above bytes x r n (first_section_refused m s has refused) e = section_above bytes s n refused e
required_above bytes x r n (section_refused m order interfaces s has refused) e = section_above bytes s n refused e
required_above bytes x r n (block_refused m order interfaces s other refused) e = block_above order bytes s n refused e
required_above bytes x r n (body_refused m order interfaces b s other begins refused) e =
    let none = body_final m order interfaces b.body _ s refused in absurd cc
required_above bytes x r n h e = absurd (search rules)
