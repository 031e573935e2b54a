-- What some objects mean, with the bytes counted by hand from the standards.
use Rattle.std.proofs.Common.{◌≡◌, ℕ, [], ◌∷◌, Some, None, Ok, Err, codes, refl}
use Rattle.serde_json.specs.Data.{Data, number, unsigned, string, array, object, item, no_items, member, no_members}
use Rattle.ether_make.specs.declared.refusal.Reason.TheVariants.{TooBig}
use Rattle.ether_make.specs.Bits.{bits}
use Rattle.ether_make.specs.Frames.{frame_bytes}
use Rattle.ether_make.specs.Headers.{header_bytes}
use Rattle.ether_make.specs.Refusals.{refused}

-- a tag with this VLAN identifier, PCP 5 and DEI 1 (IEEE 802.1Q, 9.6)
abbrev pub tag : (vid : ℕ) → Data
tag vid =
    object (member (codes "dei") (number (unsigned 1)) (member (codes "header") (string (codes "vlan"))
    (member (codes "pcp") (number (unsigned 5)) (member (codes "vid") (number (unsigned vid)) no_members))))

pub a_tag : header_bytes 1 None (tag 0x123) ≡ Ok (0xB1 ∷ 0x23 ∷ 0 ∷ 0 ∷ [])
unfolding bits
a_tag = refl

pub a_tag_refused : header_bytes 1 None (tag 4096) ≡ Err (refused (Some 1) (codes "vid") TooBig)
unfolding bits
a_tag_refused = refl

-- a header with a name and an address alone (IEEE 802.3, 3.2)
abbrev pub link : Data
link =
    object (member (codes "dst") (string (codes "00:00:5e:00:01:FF"))
    (member (codes "header") (string (codes "eth")) no_members))

-- the ether type 0x8100 announces the tag, and nothing follows that one
pub a_frame : frame_bytes (object (member (codes "headers") (array (item link (item (tag 5) no_items))) no_members))
    ≡ Ok (0 ∷ 0 ∷ 0x5E ∷ 0 ∷ 1 ∷ 0xFF ∷ 0 ∷ 0 ∷ 0 ∷ 0 ∷ 0 ∷ 0 ∷ 0x81 ∷ 0 ∷ 0xB0 ∷ 5 ∷ 0 ∷ 0 ∷ [])
unfolding bits
a_frame = refl

-- a SecTag with AN 2, SL 42 and an SCI (IEEE 802.1AE, C.1), before IPv4
abbrev pub sectag : Data
sectag =
    object (member (codes "an") (number (unsigned 2)) (member (codes "header") (string (codes "macsec"))
    (member (codes "pn") (number (unsigned 0xB2C28465)) (member (codes "sci")
    (string (codes "12:15:35:24:c0:89:5e:81"))
    (member (codes "sl") (number (unsigned 42)) (member (codes "type") (number (unsigned 2048)) no_members))))))

pub a_sectag : header_bytes 1 None sectag
    ≡ Ok (0x22 ∷ 0x2A ∷ 0xB2 ∷ 0xC2 ∷ 0x84 ∷ 0x65 ∷ 0x12 ∷ 0x15 ∷ 0x35 ∷ 0x24 ∷ 0xC0 ∷ 0x89 ∷ 0x5E ∷ 0x81 ∷ 8 ∷ 0 ∷ [])
unfolding bits
a_sectag = refl
