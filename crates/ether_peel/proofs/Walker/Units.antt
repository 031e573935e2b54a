-- SecTags with their payloads, and ARP packets, as the window of the payload has them.
use Rattle.std.proofs.Common.{◌≡◌, ℕ, zero, suc, ◌+◌, ◌*◌, ◌≤◌, List, length, Bool, true, false, refl, sym, ap, subst, ◌∙◌, arith}
use Rattle.std.specs.Prelude.{slice_range, Option, Some, None, ◌||◌}
use Rattle.std.specs.Option.{is_some}
use Rattle.etherparse.specs.Types.LenSource.{LenSource}
use Rattle.etherparse.specs.Types.MacsecSlice.{MacsecSlice}
use Rattle.etherparse.specs.Types.MacsecPayloadSlice.{MacsecPayloadSlice}
use Rattle.etherparse.specs.Types.MacsecPayloadSlice.TheVariants as kept
use Rattle.etherparse.specs.Bytes.{number}
use Rattle.etherparse.specs.Macsec.{PayloadType, SecTagFront, FitsSecTagFront, ether_type_len, sec_tag_len, known_payload_len, sec_tag_front_of, sec_tag_front_in, payload_type_for, sec_tag_of, readable_type, payload_end, payload_source, payload_in, tag_bytes, HoldsTyped, HoldsPayload, SecTagValue}
use Rattle.etherparse.specs.Macsec as payloads
use Rattle.etherparse.specs.Header.{header_len, payload_len}
use Rattle.etherparse.specs.Header as headers
use Rattle.etherparse.specs.Arp.{arp_len, arp_front_in, arp_of}
use Rattle.etherparse.proofs.SubLists.{length-part-is, part_of_front}
use Rattle.etherparse.proofs.Means.{same_front}
use Rattle.etherparse.proofs.MacsecFields.{sec_tag_front_part}
use Rattle.etherparse.proofs.Reading.{arp_front_of_part, arp_front_back}
use Rattle.ether_peel.proofs.Grammar.Windows.{payload_finish, payload_closed}
use Rattle.ether_peel.specs.Walker.Next.{ShowsMacsec}
use Rattle.ether_peel.specs.Grammar.Expectation.{EtherType, after_payload}
use Rattle.ether_peel.specs.Walker.Reading.{after_sec_tag, sec_tag_payload}

-- ---- SecTags

-- the front of a tag's value is the one that its bytes begin with, but for version and reserved bits
record HasFront (tag : List ℕ) : Type 0 where
  pub len : sec_tag_len (sec_tag_front_of 0 0 (sec_tag_of tag)) ≡ sec_tag_len (sec_tag_front_in tag)
  pub known : known_payload_len (sec_tag_front_of 0 0 (sec_tag_of tag)) ≡ known_payload_len (sec_tag_front_in tag)

has_front : (tag : List ℕ) → HasFront tag
has_front tag =
    let f = sec_tag_front_in tag in
    let old : SecTagFront = record f { version = 0 } in
    let fits : FitsSecTagFront old = record {
      version = omega arith;
      end_station = omega arith;
      sci_present = omega arith;
      single_copy_broadcast = omega arith;
      encrypted = omega arith;
      changed = omega arith;
      association_number = omega arith;
      reserved = omega arith;
      short_len = omega arith;
    } in
    let same = same_front tag old fits in
    record { len = ap sec_tag_len same; known = ap known_payload_len same }

type_taken : (bytes : List ℕ) (n at encrypted changed : ℕ) → n ≡ at + ether_type_len encrypted changed
    → payload_type_for encrypted changed (number (slice_range (slice_range bytes 0 n) at (at + 2)))
    ≡ payload_type_for encrypted changed (number (slice_range bytes at (at + 2)))
type_taken bytes n at zero zero e =
    ap (λ (l : List ℕ). payloads.Unmodified (number l)) (part_of_front bytes n at (at + 2) (omega arith) (omega arith))
type_taken bytes n at zero (suc changed) e = refl
type_taken bytes n at (suc encrypted) zero e = refl
type_taken bytes n at (suc encrypted) (suc changed) e = refl

-- a tag that was taken from the front of a list has the front and the payload type of the list
pub record IsTaken (bytes tag : List ℕ) : Type 0 where
  pub len : header_len (headers.Macsec (sec_tag_of tag)) ≡ sec_tag_len (sec_tag_front_in bytes)
  pub known : payload_len (headers.Macsec (sec_tag_of tag)) ≡ known_payload_len (sec_tag_front_in bytes)
  pub payload_type : (sec_tag_of tag).payload_type ≡ (sec_tag_of bytes).payload_type
  pub front : sec_tag_front_in tag ≡ sec_tag_front_in bytes

pub tag_taken : (bytes tag : List ℕ) → tag ≡ slice_range bytes 0 (sec_tag_len (sec_tag_front_in bytes))
    → IsTaken bytes tag
tag_taken bytes tag part =
    let f = sec_tag_front_in bytes in
    let n = sec_tag_len f in
    let at = 6 + 8 * f.sci_present in
    let front : sec_tag_front_in tag ≡ f = ap sec_tag_front_in part ∙ sec_tag_front_part bytes n (omega arith) in
    let own = has_front tag in
    let type_of : SecTagFront → PayloadType =
    λ g.
    payload_type_for g.encrypted g.changed
    (number (slice_range tag (6 + 8 * g.sci_present) (6 + 8 * g.sci_present + 2))) in
    record {
      len = own.len ∙ ap sec_tag_len front;
      known = own.known ∙ ap known_payload_len front;
      payload_type =
          ap type_of front
          ∙ ap (λ (l : List ℕ). payload_type_for f.encrypted f.changed (number (slice_range l at (at + 2)))) part
          ∙ type_taken bytes n at f.encrypted f.changed refl;
      front = front;
    }

pub after_typed : (type : PayloadType) (p : MacsecPayloadSlice) (source : LenSource) (bytes : List ℕ)
    → HoldsTyped p (readable_type type) source bytes → after_sec_tag p ≡ after_payload type
after_typed (payloads.Unmodified t) (kept.Unmodified p) source bytes h = ap EtherType h.0
after_typed (payloads.Unmodified t) (kept.Modified p) source bytes h = absurd h
after_typed payloads.Modified (kept.Unmodified p) source bytes h = absurd h
after_typed payloads.Modified (kept.Modified p) source bytes h = refl
after_typed payloads.EncryptedUnmodified (kept.Unmodified p) source bytes h = absurd h
after_typed payloads.EncryptedUnmodified (kept.Modified p) source bytes h = refl
after_typed payloads.Encrypted (kept.Unmodified p) source bytes h = absurd h
after_typed payloads.Encrypted (kept.Modified p) source bytes h = refl

pub payload_typed : (p : MacsecPayloadSlice) (type : Option ℕ) (source : LenSource) (bytes : List ℕ)
    → HoldsTyped p type source bytes → sec_tag_payload p ≡ bytes
payload_typed (kept.Unmodified p) (Some t) source bytes h = h.2
payload_typed (kept.Unmodified p) None source bytes h = absurd h
payload_typed (kept.Modified p) (Some t) source bytes h = absurd h
payload_typed (kept.Modified p) None source bytes h = h

pub payload_ends : (o : Option ℕ) (n whole : ℕ) → payload_end o n whole ≡ payload_finish n 0 whole o
payload_ends None n whole = omega arith
payload_ends (Some p) n whole = refl

-- a view of a tag and its payload, which was read in these bytes, with the length of the tag
pub record IsTagRead (bytes : List ℕ) (m : MacsecSlice) (n : ℕ) (t : SecTagValue) : Type 0 where
  pub len : n ≡ header_len (headers.Macsec t)
  pub rest : sec_tag_payload m.payload
      ≡ slice_range bytes (header_len (headers.Macsec t))
      (payload_finish (header_len (headers.Macsec t)) 0 (length bytes) (payload_len (headers.Macsec t)))
  pub shorter : n + length (sec_tag_payload m.payload) ≤ length bytes
  pub shows : ShowsMacsec bytes (sec_tag_payload m.payload) t m
  pub expected : after_sec_tag m.payload ≡ after_payload t.payload_type
  pub known : known_payload_len (sec_tag_front_in (tag_bytes m.header)) ≡ payload_len (headers.Macsec t)

pub tag_read : (bytes : List ℕ) (m : MacsecSlice) (n : ℕ)
    → tag_bytes m.header ≡ slice_range bytes 0 (sec_tag_len (sec_tag_front_in bytes))
    → HoldsPayload m.payload (sec_tag_front_in bytes) bytes
    → n ≡ sec_tag_len (sec_tag_front_in (tag_bytes m.header))
    → header_len (headers.Macsec (sec_tag_of (tag_bytes m.header))) ≤ length bytes
    → IsTagRead bytes m n (sec_tag_of (tag_bytes m.header))
tag_read bytes m n part payload len whole =
    let tag = tag_bytes m.header in
    let f = sec_tag_front_in bytes in
    let t = sec_tag_of tag in
    let h = headers.Macsec t in
    let taken = tag_taken bytes tag part in
    let rest : sec_tag_payload m.payload
    ≡ slice_range bytes (header_len h) (payload_finish (header_len h) 0 (length bytes) (payload_len h)) =
    payload_typed m.payload _ _ _ payload
    ∙ ap (slice_range bytes (sec_tag_len f)) (payload_ends (known_payload_len f) (sec_tag_len f) (length bytes))
    ∙ ap (λ (o : Option ℕ). slice_range bytes (sec_tag_len f) (payload_finish (sec_tag_len f) 0 (length bytes) o))
    (sym taken.known)
    ∙ ap (λ (k : ℕ). slice_range bytes k (payload_finish k 0 (length bytes) (payload_len h))) (sym taken.len) in
    let at : n ≡ header_len h = len ∙ ap sec_tag_len taken.front ∙ sym taken.len in
    let long =
    ap length rest
    ∙ length-part-is bytes (header_len h) (payload_finish (header_len h) 0 (length bytes) (payload_len h)) in
    let type =
    subst
    (λ (p : PayloadType).
    HoldsTyped m.payload (readable_type p) (payload_source (known_payload_len f)) (payload_in f bytes))
    (sym taken.payload_type) payload in
    record {
      len = at;
      rest = rest;
      shorter = omega arith;
      shows = record {
        header = part ∙ ap (slice_range bytes 0) (sym taken.len);
        payload =
            subst
            (λ (l : List ℕ). HoldsTyped m.payload (readable_type t.payload_type) (payload_source (payload_len h)) l)
            (sym (payload_typed m.payload _ _ _ payload))
            (subst
            (λ (o : Option ℕ).
            HoldsTyped m.payload (readable_type t.payload_type) (payload_source o) (payload_in f bytes))
            (sym taken.known) type);
      };
      expected = after_typed t.payload_type m.payload _ _ type;
      known = ap known_payload_len taken.front ∙ sym taken.known;
    }

-- the mark of the payload's window
pub marked : (closed : Bool) (o : Option ℕ) → (closed || is_some o) ≡ payload_closed closed o
marked true None = refl
marked true (Some n) = refl
marked false None = refl
marked false (Some n) = refl

-- ---- ARP packets

-- a packet that was taken from the front of a list is as long as its value says, and as the list's front says
pub record IsPacket (bytes packet : List ℕ) : Type 0 where
  pub len : header_len (headers.Arp (arp_of packet)) ≡ length packet
  pub front : length packet ≡ arp_len (arp_front_in bytes)

pub packet_taken : (bytes packet : List ℕ) → packet ≡ slice_range bytes 0 (arp_len (arp_front_in bytes))
    → length packet ≡ arp_len (arp_front_in packet) → IsPacket bytes packet
packet_taken bytes packet part len =
    let front : arp_front_in packet ≡ arp_front_in bytes =
    ap arp_front_in part ∙ arp_front_of_part bytes (arp_len (arp_front_in bytes)) (omega arith) in
    record {
      len = ap arp_len (arp_front_back packet (arp_front_in packet) (omega arith)) ∙ sym len;
      front = len ∙ ap arp_len front;
    }
