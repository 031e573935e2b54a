-- The identifier of the outermost VLAN tag, set in place.
use Rattle.std.proofs.Common.{◌≡◌, ◌≢◌, ℕ, zero, suc, ◌+◌, ◌-◌, ◌*◌, ◌/◌, ◌%◌, ◌^◌, ◌<◌, ◌≤◌, List, [], ◌∷◌, ◌++◌, length, take, drop, refl, sym, ap, subst, ◌∙◌, arith, append_assoc, Bool, true, rules}
use Rattle.std.specs.Prelude.{map, slice_get, slice_index, slice_range, Some, if◌then◌else◌}
use Rattle.std.specs.Option.{option_and_then}
use Rattle.std.proofs.Math.Seq.{get_or-append_seam}
use Rattle.std.proofs.lemmas.List.{get_or-append-add, drop-drop, length-append, length-take-le, take-append-drop}
use Rattle.std.proofs.lemmas.Option.{option_and_then_some}
use Rattle.etherparse.specs.Bytes.{IsBytes, spelled, overwritten}
use Rattle.etherparse.specs.Kind.{Kind}
use Rattle.etherparse.specs.Kind as kinds
use Rattle.etherparse.specs.Vlan.{VlanValue, FitsVlan, vlan_number, vlan_bytes, vlan_of}
use Rattle.etherparse.specs.Header.{Header, kind_of, header_len, header_bytes, Spells}
use Rattle.etherparse.specs.Header as headers
use Rattle.etherparse.proofs.Numbers.{length-spelled}
use Rattle.etherparse.proofs.SubLists.{IsBytes-part, length-part}
use Rattle.etherparse.proofs.VlanFields.{vlan_bytes-read}
use Rattle.ether_peel.specs.Grammar.Window.{Window, IsIn, payload}
use Rattle.ether_peel.specs.Grammar.Expectation.{Expectation, after, is_extension}
use Rattle.ether_peel.specs.Grammar.Places.{place}
use Rattle.ether_peel.specs.Grammar.Stack.{Ending, Stack, whole, Walk}
use Rattle.ether_peel.proofs.Grammar.Cleared.{whole_in}
use Rattle.ether_peel.proofs.Grammar.Windows.{payload_in}
use Rattle.ether_packet.specs.declared.tag_error.TagError.{TagError}
use Rattle.ether_packet.specs.PacketUnit.{PacketUnit}
use Rattle.ether_packet.specs.Views.{header_in, header_of, exts_of, vlan_in, vlan_of_unit}
use Rattle.ether_packet.specs.Getters.{vlan_ids_of, vlans_of}
use Rattle.ether_packet.specs.Replacing.{ext_count, IsExtAt}
use Rattle.ether_packet.specs.Setting.{SetsTag, RefusesTag, none, sec_tag}
use Rattle.ether_packet.specs.VlanIds.{IsOutermost, SetsVid}
use Rattle.ether_packet.proofs.Getting.{Untagged, vid_at, ids_of, vlans_found}
use Rattle.ether_packet.proofs.PacketExts.{ext_count-append, Split, split_at, ext_at}
use Rattle.ether_packet.proofs.Replaced.{front_is, header_inside}

-- ---- the extension at an index is one

-- what a header adds to their number
abbrev pub counted : Header → ℕ
counted h = if is_extension (kind_of h) then 1 else 0

same_count : (h k : Header) (n m : ℕ) → h ≡ k → counted h + n ≡ counted k + m → n ≡ m
same_count h k n m e counts = let same : counted h ≡ counted k = ap counted e in omega (arith, counts, same)

one_more : (h : Header) (n : ℕ) → is_extension (kind_of h) ≡ true → counted h + n ≡ 0 → ⊥
one_more h n is e = let one : counted h ≡ 1 = ap (λ (b : Bool). if b then 1 else 0) is in omega (arith, one, e)

same_ext : (front other_front : List Header) (h k : Header) (later other_later : List Header)
    → front ++ h ∷ later ≡ other_front ++ k ∷ other_later
    → is_extension (kind_of h) ≡ true → is_extension (kind_of k) ≡ true → ext_count front ≡ ext_count other_front
    → (front ≡ other_front) × (h ≡ k) × (later ≡ other_later)
same_ext [] [] h k later other_later e a b n = (refl, cc, cc)
same_ext (x ∷ xs) (y ∷ ys) h k later other_later e a b n =
    let first : x ≡ y = cc in
    let rest : xs ++ h ∷ later ≡ ys ++ k ∷ other_later = cc in
    let r = same_ext xs ys h k later other_later rest a b (same_count x y (ext_count xs) (ext_count ys) first n) in
    ((λ i. first i ∷ r.0 i), r.1, r.2)
same_ext d f h k later other_later e a b n = search rules

pub one_ext : (hs : List Header) (i : ℕ) (front other_front : List Header) (h k : Header)
    (later other_later : List Header)
    → IsExtAt hs i front h later → IsExtAt hs i other_front k other_later
    → (front ≡ other_front) × (h ≡ k) × (later ≡ other_later)
one_ext hs i front other_front h k later other_later f g = search (rules, same_ext)

pub same_vlan : (v w : VlanValue) → headers.Vlan v ≡ headers.Vlan w → v ≡ w
same_vlan v w e = cc

-- a VLAN tag there is not refused
pub never_refused : (hs : List Header) (i : ℕ) (front : List Header) (tag : VlanValue) (later : List Header)
    (e : TagError)
    → IsExtAt hs i front (headers.Vlan tag) later → RefusesTag hs i e → ⊥
never_refused hs i front tag later e found (none few) = search (rules, ext_count-append)
never_refused hs i front tag later e found (sec_tag other_front m other_later there) =
    let same = (one_ext hs i front other_front (headers.Vlan tag) (headers.Macsec m) later other_later found there).1 in
    absurd cc

-- ---- the outermost VLAN tag

no_ids_before : (us : List PacketUnit) (i : ℕ) (x : PacketUnit) (s : Split us i x) → Untagged (exts_of us) i
    → vlan_ids_of (map header_of s.front) ≡ []
no_ids_before us i x s untagged =
    ids_of s.front ∙ ap (map vid_at) (vlans_found s.front ∙ ap vlans_of s.before ∙ untagged)

tag_is : (k : Kind) (bytes tag : List ℕ) → vlan_in k bytes ≡ Some tag → header_in k bytes ≡ headers.Vlan (vlan_of tag)
tag_is kinds.Vlan bytes tag e = let same : bytes ≡ tag = cc in ap (λ (l : List ℕ). headers.Vlan (vlan_of l)) same
tag_is k bytes tag e = absurd cc

-- after extensions that are no VLAN tags
is_tag : (us : List PacketUnit) (i : ℕ) (x : PacketUnit) (bytes : List ℕ) (tag : VlanValue) → Untagged (exts_of us) i
    → slice_get (exts_of us) i ≡ Some x → vlan_of_unit x ≡ Some bytes → tag ≡ vlan_of bytes
    → IsOutermost (map header_of us) i tag
is_tag us i x bytes tag untagged at is value =
    let s = split_at us i x at in
    let header : header_of x ≡ headers.Vlan tag = tag_is x.kind x.bytes bytes is ∙ ap headers.Vlan (sym value) in
    record {
      front = map header_of s.front;
      later = map header_of s.later;
      found =
          subst (λ (h : Header). IsExtAt (map header_of us) i (map header_of s.front) h (map header_of s.later)) header
          (ext_at us i x at s);
      outermost = no_ids_before us i x s untagged;
    }

pub is_outermost : (us : List PacketUnit) (i : ℕ) (bytes : List ℕ) (tag : VlanValue) → Untagged (exts_of us) i
    → Some bytes ≡ option_and_then vlan_of_unit (slice_get (exts_of us) i) → tag ≡ vlan_of bytes
    → IsOutermost (map header_of us) i tag
is_outermost us i bytes tag untagged is value =
    option_and_then_some vlan_of_unit (slice_get (exts_of us) i) bytes (sym is)
    (λ x at here. is_tag us i x bytes tag untagged at here value)

-- ---- its bits

-- a header of a stack is meant by its own bytes
pub own_bytes : (list : List ℕ) (x : Expectation) (w : Window) (front : List Header) (h : Header) (later : List Header)
    (e : Ending)
    → IsIn list w → Stack list x w (front ++ h ∷ later) e
    → Spells (slice_range list (place w.start front) (place w.start front + header_len h)) h
own_bytes list x w [] h later e inside s = search (rules, length-part, front_is)
own_bytes list x w (k ∷ front) h later e inside s =
    own_bytes list (after x k) (payload w k) front h later e (payload_in list x w k inside s.0) s.1

two_changed : (front : List ℕ) (a b p q : ℕ) (tail : List ℕ) (i : ℕ) → i ≢ length front → i ≢ length front + 1
    → slice_index (front ++ a ∷ b ∷ tail) i ≡ slice_index (front ++ p ∷ q ∷ tail) i
two_changed [] a b p q tail zero h k = absurd (h refl)
two_changed [] a b p q tail (suc zero) h k = absurd (k refl)
two_changed (x ∷ front) a b p q tail (suc i) h k =
    two_changed front a b p q tail i (λ e. h (omega arith)) (λ e. k (omega arith))
two_changed front a b p q tail i h k = refl

two_set : (front tail : List ℕ) (a b p q vid : ℕ) → a / 16 ≡ p / 16 → a % 16 * 256 + b ≡ vid
    → SetsVid (front ++ p ∷ q ∷ tail) (length front) vid (front ++ a ∷ b ∷ tail)
two_set front tail a b p q vid upper set =
    search (rules, get_or-append_seam, get_or-append-add, length-append, two_changed)

vlan_spelled : (v : VlanValue)
    → vlan_bytes v
    ≡ vlan_number v / 256 ^ 3 % 256 ∷ vlan_number v / 256 ^ 2 % 256 ∷ vlan_number v / 256 % 256 ∷ vlan_number v
    % 256 ∷ []
unfolding spelled
vlan_spelled v = search rules

-- a tag with another identifier differs in 12 bits
tag_set : (front rest : List ℕ) (v : VlanValue) (vid : ℕ) → FitsVlan v → vid < 4096
    → SetsVid (front ++ vlan_bytes v ++ rest) (length front) vid (front ++ vlan_bytes (record v { vid = vid }) ++ rest)
tag_set front rest v vid fits lt =
    let n = vlan_number v in
    let w : VlanValue = record v { vid = vid } in
    let m = vlan_number w in
    let third : m / 256 % 256 ≡ n / 256 % 256 = omega arith in
    let fourth : m % 256 ≡ n % 256 = omega arith in
    let upper : m / 256 ^ 3 % 256 / 16 ≡ n / 256 ^ 3 % 256 / 16 = omega arith in
    let set : m / 256 ^ 3 % 256 % 16 * 256 + m / 256 ^ 2 % 256 ≡ vid = omega arith in
    let old = append_assoc front (vlan_bytes v) rest ∙ ap (λ (l : List ℕ). front ++ (l ++ rest)) (vlan_spelled v) in
    let new : front ++ vlan_bytes w ++ rest
    ≡ front ++ m / 256 ^ 3 % 256 ∷ m / 256 ^ 2 % 256 ∷ n / 256 % 256 ∷ n % 256 ∷ rest =
    append_assoc front (vlan_bytes w) rest ∙ ap (λ (l : List ℕ). front ++ (l ++ rest)) (vlan_spelled w)
    ∙ (λ i. front ++ m / 256 ^ 3 % 256 ∷ m / 256 ^ 2 % 256 ∷ third i ∷ fourth i ∷ rest) in
    let sets =
    two_set front (n / 256 % 256 ∷ n % 256 ∷ rest) (m / 256 ^ 3 % 256) (m / 256 ^ 2 % 256) (n / 256 ^ 3 % 256)
    (n / 256 ^ 2 % 256) vid upper set in
    subst (λ (l : List ℕ). SetsVid l (length front) vid (front ++ vlan_bytes w ++ rest)) (sym old)
    (subst (SetsVid _ (length front) vid) (sym new) sets)

-- the bytes of a part, written over it again
own_over : (list : List ℕ) (at n : ℕ) → take at list ++ slice_range list at (at + n) ++ drop (at + n) list ≡ list
own_over list at n =
    let sub : at + n - at ≡ n = omega arith in
    (λ i. take at list ++ take (sub i) (drop at list) ++ sym (drop-drop n at list) i)
    ∙ append_assoc (take at list) (take n (drop at list)) (drop n (drop at list))
    ∙ ap (λ (l : List ℕ). take at list ++ l) (take-append-drop n (drop at list)) ∙ take-append-drop at list

vid_set : (start : Expectation) (old new : List ℕ) (front : List Header) (v : VlanValue) (later : List Header)
    (e : Ending) (vid : ℕ)
    → IsBytes old → vid < 4096 → Walk start old (front ++ headers.Vlan v ∷ later) e
    → new ≡ overwritten old (place 0 front) (header_bytes (headers.Vlan (record v { vid = vid })))
    → SetsVid old (place 0 front) vid new
vid_set start old new front v later e vid ok lt walk bytes =
    let at = place 0 front in
    let w : VlanValue = record v { vid = vid } in
    let room : at + 4 ≤ length old = header_inside start old front (headers.Vlan v) later e walk in
    let part = slice_range old at (at + 4) in
    let spells = own_bytes old start (whole start old) front (headers.Vlan v) later e (whole_in start old) walk in
    let len : length part ≡ 4 = length-part old at (at + 4) room ∙ omega arith in
    let same : vlan_bytes v ≡ part = vlan_bytes-read part v (IsBytes-part at (at + 4) old ok) len spells in
    let old_is = ap (λ (l : List ℕ). take at old ++ l ++ drop (at + 4) old) same ∙ own_over old at 4 in
    let new_is : new ≡ take at old ++ vlan_bytes w ++ drop (at + 4) old =
    bytes ∙ ap (λ (n : ℕ). take at old ++ vlan_bytes w ++ drop (at + n) old) (length-spelled 4 (vlan_number w)) in
    let begins : length (take at old) ≡ at = length-take-le at old (omega arith) in
    let sets = tag_set (take at old) (drop (at + 4) old) v vid spells.fits lt in
    subst (SetsVid old at vid) (sym new_is)
    (subst (λ (n : ℕ). SetsVid old n vid (take at old ++ vlan_bytes w ++ drop (at + 4) old)) begins
    (subst (λ (l : List ℕ). SetsVid l (length (take at old)) vid (take at old ++ vlan_bytes w ++ drop (at + 4) old))
    old_is sets))

-- the identifier of the outermost VLAN tag is set
pub sets_outermost : (start : Expectation) (old new : List ℕ) (hs : List Header) (e : Ending) (i : ℕ) (tag : VlanValue)
    (vid : ℕ)
    → IsBytes old → (o : IsOutermost hs i tag) → Walk start old hs e
    → SetsTag start old hs e i (λ (v : VlanValue). record v { vid = vid }) new
    → Walk start new (o.front ++ headers.Vlan (record tag { vid = vid }) ∷ o.later) e
    × SetsVid old (place 0 o.front) vid new
sets_outermost start old new hs e i tag vid ok o walk r =
    let g = headers.Vlan (record tag { vid = vid }) in
    let same = one_ext hs i r.front o.front (headers.Vlan r.tag) (headers.Vlan tag) r.later o.later r.found o.found in
    let value : r.tag ≡ tag = same_vlan r.tag tag same.1 in
    let bytes = r.bytes ∙ (λ i. overwritten old (place 0 (same.0 i)) (vlan_bytes (record (value i) { vid = vid }))) in
    let found =
    subst (λ (l : List Header). Walk start new l e)
    (λ i. same.0 i ++ headers.Vlan (record (value i) { vid = vid }) ∷ same.2 i) r.walk in
    let fits = (own_bytes new start (whole start new) o.front g o.later e (whole_in start new) found).fits in (
      found,
      vid_set start old new o.front tag o.later e vid ok fits.vid
          (subst (λ (l : List Header). Walk start old l e) o.found.parts walk) bytes,
    )
