-- The first two bytes of a tag, one by one, and together with its payload: what is accepted, and what is refused.
use Rattle.std.proofs.Common.{◌≡◌, ℕ, ◌+◌, ◌/◌, ◌^◌, ◌<◌, ◌≤◌, ◌∙◌, List, length, get_or, sym, ap, subst, arith}
use Rattle.std.specs.Prelude.{slice_range, Option, Some, None}
use Rattle.ether_base.specs.declared.len_source.LenSource.{LenSource}
use Rattle.ether_base.specs.declared.len_source.LenSource.TheVariants as sources
use Rattle.ether_base.specs.declared.err.layer.Layer.TheVariants as layers
use Rattle.ether_base.specs.Bytes.{IsBytes, number}
use Rattle.ether_base.specs.Formats.Macsec.{sec_tag_front_in, sec_tag_len, known_payload_len}
use Rattle.ether_base.specs.Formats.Kind as kinds
use Rattle.ether_base.specs.Formats.Refusal.{Length, Refuses, Accepts, AcceptsHeader}
use Rattle.ether_base.specs.Formats.Refusal as rows
use Rattle.ether_base.proofs.Rows.{sec_tag_front_read, accepts_packet, accepted_version}
use Rattle.ether_base.proofs.ArrayElements.{number-two}
use Rattle.ether_base.proofs.MacsecFields.{sec_tag_front_part}
use Rattle.ether_tags.specs.Macsec.{HoldsTyped, payload_end}
use Rattle.ether_tags.specs.declared.macsec_payload_slice.MacsecPayloadSlice.{MacsecPayloadSlice}

-- the first byte is the number of both without its lowest eight bits
pub first_byte : (bytes : List ℕ) → IsBytes bytes → 2 ≤ length bytes
    → number (slice_range bytes 0 2) / 2 ^ 8 ≡ get_or bytes 0 0
first_byte bytes ok le = let both = number-two 0 bytes le in let low = ok 1 in omega (arith, both, low)

-- ---- payloads

-- where a payload starts and ends in a list, and the length that its tag names
pub record Placed (bytes : List ℕ) (known : Option ℕ) (start finish : ℕ) : Type 0 where
  pub start_is : start ≡ sec_tag_len (sec_tag_front_in bytes)
  pub known_is : known ≡ known_payload_len (sec_tag_front_in bytes)
  pub finish_is : finish ≡ payload_end known (sec_tag_len (sec_tag_front_in bytes)) (length bytes)

-- as read from the bytes of the tag alone
pub placed : (bytes tag : List ℕ) (known : Option ℕ) (start finish : ℕ)
    → tag ≡ slice_range bytes 0 (sec_tag_len (sec_tag_front_in bytes)) → start ≡ sec_tag_len (sec_tag_front_in tag)
    → known ≡ known_payload_len (sec_tag_front_in tag)
    → finish ≡ payload_end known start (length bytes) → Placed bytes known start finish
placed bytes tag known start finish part s k f =
    let front : sec_tag_front_in tag ≡ sec_tag_front_in bytes =
    ap sec_tag_front_in part ∙ sec_tag_front_part bytes (sec_tag_len (sec_tag_front_in bytes)) (omega arith) in
    let start_is = s ∙ ap sec_tag_len front in
    record {
      start_is = start_is;
      known_is = k ∙ ap known_payload_len front;
      finish_is = f ∙ ap (λ (n : ℕ). payload_end known n (length bytes)) start_is;
    }

pub packet_refused : (bytes : List ℕ) (finish : ℕ) (known : Option ℕ) → IsBytes bytes
    → sec_tag_len (sec_tag_front_in bytes) ≤ length bytes → AcceptsHeader sources.Slice bytes kinds.Macsec
    → known_payload_len (sec_tag_front_in bytes) ≡ known
    → finish ≡ payload_end known (sec_tag_len (sec_tag_front_in bytes)) (length bytes) → length bytes < finish
    → Refuses sources.Slice bytes kinds.Macsec
    (Length finish (length bytes) sources.MacsecShortLength layers.MacsecPacket)
packet_refused bytes finish None ok whole header k e lt = absurd (omega arith)
packet_refused bytes finish (Some p) ok whole header k e lt =
    let begins = sec_tag_front_read bytes ok (omega arith) in
    let version = accepted_version sources.Slice bytes (sec_tag_front_in bytes) (omega arith) header begins in
    let row = rows.macsec_packet (sec_tag_front_in bytes) p begins version k whole (omega arith) in
    subst
    (λ (n : ℕ).
    Refuses sources.Slice bytes kinds.Macsec
    (Length n (length bytes) sources.MacsecShortLength layers.MacsecPacket))
    (sym e) row

fits : (bytes : List ℕ) (finish p : ℕ) (known : Option ℕ) → known_payload_len (sec_tag_front_in bytes) ≡ known
    → finish ≡ payload_end known (sec_tag_len (sec_tag_front_in bytes)) (length bytes) → finish ≤ length bytes
    → known_payload_len (sec_tag_front_in bytes) ≡ Some p → sec_tag_len (sec_tag_front_in bytes) + p ≤ length bytes
fits bytes finish p None k e le named = let f : None ≡ Some p = sym k ∙ named in absurd cc
fits bytes finish p (Some q) k e le named = let f : Some q ≡ Some p = sym k ∙ named in let g : q ≡ p = cc in omega arith

pub packet_accepted : (bytes : List ℕ) (finish : ℕ) (known : Option ℕ) → IsBytes bytes
    → sec_tag_len (sec_tag_front_in bytes) ≤ length bytes → AcceptsHeader sources.Slice bytes kinds.Macsec
    → known_payload_len (sec_tag_front_in bytes) ≡ known
    → finish ≡ payload_end known (sec_tag_len (sec_tag_front_in bytes)) (length bytes) → finish ≤ length bytes
    → Accepts sources.Slice bytes kinds.Macsec
packet_accepted bytes finish known ok whole header k e le =
    accepts_packet sources.Slice bytes (sec_tag_front_in bytes) header (sec_tag_front_read bytes ok (omega arith))
    (λ p named. fits bytes finish p known k e le named)

-- what a payload holds, told otherwise
pub holds_same : (p : MacsecPayloadSlice) (type other_type : Option ℕ) (source other_source : LenSource)
    (bytes other_bytes : List ℕ)
    → type ≡ other_type → source ≡ other_source → bytes ≡ other_bytes
    → HoldsTyped p type source bytes → HoldsTyped p other_type other_source other_bytes
holds_same p type other_type source other_source bytes other_bytes t s b h =
    subst (HoldsTyped p other_type other_source) b
    (subst (λ (k : LenSource). HoldsTyped p other_type k bytes) s
    (subst (λ (o : Option ℕ). HoldsTyped p o source bytes) t h))
