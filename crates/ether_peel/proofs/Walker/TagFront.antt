-- A SecTag whose first bytes are there: its lengths depend on the first two.
use Rattle.std.proofs.Common.{◌≡◌, ℕ, zero, suc, ◌+◌, ◌-◌, ◌*◌, ◌<◌, ◌≤◌, List, [], ◌∷◌, length, refl, sym, ap, subst, ◌∙◌, arith}
use Rattle.std.specs.Prelude.{slice_range, slice_index, Option, Some, None, unwrap_or, Bool, true, false, ◌||◌, nat_eq, nat_lt, if◌then◌else◌}
use Rattle.etherparse.specs.Types.LenSource.{LenSource}
use Rattle.etherparse.specs.Types.LenSource.TheVariants as sources
use Rattle.etherparse.specs.Types.Layer.TheVariants as layers
use Rattle.etherparse.specs.Types.MacsecHeaderError.{HeaderError as MacsecHeaderError}
use Rattle.etherparse.specs.HeaderSliceError.{HeaderSliceError}
use Rattle.etherparse.specs.Bytes.{IsBytes, number}
use Rattle.etherparse.specs.Macsec.{SecTagFront, BeginsSecTag, ether_type_len, sec_tag_len, known_payload_len, sec_tag_front_at, sec_tag_front_in, IsRefusedTag}
use Rattle.etherparse.specs.Kind.{Kind}
use Rattle.etherparse.specs.Kind as kinds
use Rattle.etherparse.specs.Refusal.{Length, Refuses, AcceptsHeader}
use Rattle.etherparse.specs.Refusal as rows
use Rattle.etherparse.proofs.ArrayElements.{number-two}
use Rattle.etherparse.proofs.Rows.{sec_tag_front_read, sec_tag_len_least, accepts_tag}
use Rattle.etherparse.proofs.MacsecFields.{sec_tag_front_part}
use Rattle.ether_peel.specs.Grammar.Completion.{type_place, Plan, IsShort}
use Rattle.ether_peel.specs.Grammar.Completion as plans

-- the first two bytes of a list, and fourteen more
abbrev pub two_of : List ℕ → List ℕ
two_of l = slice_index l 0 ∷ slice_index l 1 ∷ 0 ∷ 0 ∷ 0 ∷ 0 ∷ 0 ∷ 0 ∷ 0 ∷ 0 ∷ 0 ∷ 0 ∷ 0 ∷ 0 ∷ 0 ∷ 0 ∷ []

same_number : (l : List ℕ) → 2 ≤ length l → number (slice_range (two_of l) 0 2) ≡ number (slice_range l 0 2)
same_number l le = let two = number-two 0 l le in omega arith

same_front : (l : List ℕ) → 2 ≤ length l → sec_tag_front_in (two_of l) ≡ sec_tag_front_in l
same_front l le = ap sec_tag_front_at (same_number l le)

-- ---- they are no tag that is refused

type_len_most : (e c : ℕ) → ether_type_len e c ≤ 2
type_len_most zero zero = omega arith
type_len_most zero (suc c) = omega arith
type_len_most (suc e) c = omega arith

row_accepts : (bound : LenSource) (l : List ℕ) (kind : Kind) (required len : ℕ) (source : LenSource) → 6 ≤ length l
    → Refuses bound l kind (Length required len source layers.MacsecHeader)
    → AcceptsHeader sources.Slice (two_of l) kinds.Macsec
row_accepts bound l kind required len source six (rows.macsec lt) = absurd (omega arith)
row_accepts bound l kind required len source six (rows.macsec_header t le b v s lt) =
    let begins : BeginsSecTag (two_of l) t = record { sum = same_number l (omega arith) ∙ b.sum; fits = b.fits } in
    let present = b.fits.sci_present in
    let most = type_len_most t.encrypted t.changed in
    accepts_tag sources.Slice (two_of l) t (omega arith) begins v s (omega arith)

pub never_refused : (l : List ℕ) (e : HeaderSliceError MacsecHeaderError) → IsShort l layers.MacsecHeader → 6 ≤ length l
    → IsRefusedTag (two_of l) e → ⊥
never_refused l e short six refused =
    row_accepts short.0 l short.1 short.2 short.3 short.4 six short.5 refused.refusal refused.row

-- ---- the packet that they plan

some_most : (none : Bool) (n : ℕ) → unwrap_or (if none then None else Some n) 0 ≤ n
some_most true n = omega arith
some_most false n = omega arith

-- a tag and its payload have at most 79 bytes
pub tag_most : (t : SecTagFront) → t.sci_present < 2 → t.short_len < 64
    → sec_tag_len t + unwrap_or (known_payload_len t) 0 ≤ 79
tag_most t present short =
    let type = type_len_most t.encrypted t.changed in
    let n = ether_type_len t.encrypted t.changed in
    let payload = some_most (nat_eq t.short_len 0 || nat_lt t.short_len n) (t.short_len - n) in
    omega arith

no_type_place : (e c s : ℕ) → ((e ≡ 0) × (c ≡ 0) → ⊥) → type_place e c s ≡ None
no_type_place zero zero s none = absurd (none (refl, refl))
no_type_place zero (suc c) s none = refl
no_type_place (suc e) c s none = refl

-- the front of the tag that is read from them is that of the list
tag_front : (l bytes : List ℕ) → 2 ≤ length l
    → bytes ≡ slice_range (two_of l) 0 (sec_tag_len (sec_tag_front_in (two_of l)))
    → sec_tag_front_in bytes ≡ sec_tag_front_in l
tag_front l bytes le is =
    let least = sec_tag_len_least (sec_tag_front_in (two_of l)) in
    ap sec_tag_front_in is ∙ sec_tag_front_part (two_of l) (sec_tag_len (sec_tag_front_in (two_of l))) (omega arith)
    ∙ same_front l le

tag_plan : (l : List ℕ) (t : SecTagFront) (len total : ℕ) (place : Option ℕ) → IsBytes l → 6 ≤ length l
    → t ≡ sec_tag_front_in l → total ≡ sec_tag_len t + unwrap_or (known_payload_len t) 0
    → place ≡ type_place t.encrypted t.changed t.sci_present
    → Plan l layers.MacsecHeader total place
tag_plan l t len total place ok six same total_is place_is =
    let begins : BeginsSecTag l t = subst (BeginsSecTag l) (sym same) (sec_tag_front_read l ok six) in
    subst (λ (n : ℕ). Plan l layers.MacsecHeader n place) (sym total_is)
    (subst (Plan l layers.MacsecHeader (sec_tag_len t + unwrap_or (known_payload_len t) 0)) (sym place_is)
    (plans.Plan.macsec t begins))

-- of a tag with an ether type
pub plan_typed : (l bytes : List ℕ) (len payload_len : ℕ) → IsBytes l → 6 ≤ length l
    → bytes ≡ slice_range (two_of l) 0 (sec_tag_len (sec_tag_front_in (two_of l)))
    → len ≡ sec_tag_len (sec_tag_front_in bytes)
    → payload_len ≡ unwrap_or (known_payload_len (sec_tag_front_in bytes)) 0 → (sec_tag_front_in bytes).encrypted ≡ 0
    → (sec_tag_front_in bytes).changed ≡ 0 → Plan l layers.MacsecHeader (len + payload_len) (Some (len - 2))
plan_typed l bytes len payload_len ok six is len_is payload_is encrypted changed =
    let t = sec_tag_front_in bytes in
    let n : sec_tag_len t ≡ 6 + 8 * t.sci_present + 2 = rw (encrypted, changed) refl in
    let at : len - 2 ≡ 6 + 8 * t.sci_present = omega arith in
    let place =
    ap Some at
    ∙ sym
    (ap (λ (k : ℕ). type_place k t.changed t.sci_present) encrypted
    ∙ ap (λ (k : ℕ). type_place 0 k t.sci_present) changed) in
    tag_plan l t len (len + payload_len) (Some (len - 2)) ok six (tag_front l bytes (omega arith) is)
    (ap (λ (k : ℕ). k + payload_len) len_is ∙ ap (λ (k : ℕ). sec_tag_len t + k) payload_is) place

-- of one without
pub plan_sealed : (l bytes : List ℕ) (len payload_len : ℕ) → IsBytes l → 6 ≤ length l
    → bytes ≡ slice_range (two_of l) 0 (sec_tag_len (sec_tag_front_in (two_of l)))
    → len ≡ sec_tag_len (sec_tag_front_in bytes)
    → payload_len ≡ unwrap_or (known_payload_len (sec_tag_front_in bytes)) 0
    → (((sec_tag_front_in bytes).encrypted ≡ 0) × ((sec_tag_front_in bytes).changed ≡ 0) → ⊥)
    → Plan l layers.MacsecHeader (len + payload_len) None
plan_sealed l bytes len payload_len ok six is len_is payload_is sealed =
    let t = sec_tag_front_in bytes in
    tag_plan l t len (len + payload_len) None ok six (tag_front l bytes (omega arith) is)
    (ap (λ (k : ℕ). k + payload_len) len_is ∙ ap (λ (k : ℕ). sec_tag_len t + k) payload_is)
    (sym (no_type_place t.encrypted t.changed t.sci_present sealed))
