-- What units a window has, by its bytes.
use Rattle.std.proofs.Common.{◌≡◌, ℕ, ◌+◌, ◌≤◌, List, [], ◌∷◌, length, drop, refl, sym, ap, subst, ◌∙◌, arith, true}
use Rattle.std.specs.Prelude.{Some, None, is_some, slice_range}
use Rattle.etherparse.specs.Types.LenSource.{LenSource}
use Rattle.etherparse.specs.Bytes.{IsBytes}
use Rattle.etherparse.specs.Vlan.{vlan_of}
use Rattle.etherparse.specs.Ethernet2.{ethernet2_of}
use Rattle.etherparse.specs.Kind.{Kind}
use Rattle.etherparse.specs.Kind as kinds
use Rattle.etherparse.specs.Header.{Header, kind_of, header_len, payload_len, trailer_len, Means}
use Rattle.etherparse.specs.Header as headers
use Rattle.etherparse.specs.Refusal.{Refusal, Refuses}
use Rattle.etherparse.specs.Refusal as rows
use Rattle.etherparse.proofs.SubLists.{length-part, IsBytes-part, rest_of_part}
use Rattle.etherparse.proofs.Means.{one_header}
use Rattle.etherparse.specs.Macsec.{SecTagFront, BeginsSecTag, sec_tag_front_in, sec_tag_len, known_payload_len, sec_tag_of}
use Rattle.etherparse.specs.Refusal.{IsTooShort}
use Rattle.etherparse.proofs.Rows.{sec_tag_front_read, accepts_macsec}
use Rattle.etherparse.proofs.MacsecFields.{sec_tag_means}
use Rattle.ether_peel.specs.Grammar.Endings.{refusal_of}
use Rattle.etherparse.proofs.VlanFields.{vlan_means}
use Rattle.etherparse.proofs.Ethernet2Fields.{ethernet2_means}
use Rattle.ether_peel.specs.Grammar.Window.{Window, within, IsIn, payload}
use Rattle.ether_peel.specs.Grammar.Expectation.{Expectation, announced, after}
use Rattle.ether_peel.proofs.Grammar.Windows.{payload_from}
use Rattle.ether_peel.specs.Grammar.Stack.{Ending, Accepted, Fault, IsUnit, Stack}

-- a stack whose first header is this one
pub record Begins (list : List ℕ) (x : Expectation) (w : Window) (ts : List Header) (e : Ending)
    (h : Header) : Type 0 where
  pub later : List Header
  pub is : ts ≡ h ∷ later
  pub unit : IsUnit list x w h
  pub stack : Stack list (after x h) (payload w h) later e

-- an announced unit that is not refused is the first header
pub begins : (list : List ℕ) (x : Expectation) (w : Window) (ts : List Header) (e : Ending) (h : Header)
    → announced x ≡ Some (kind_of h) → ((r : Refusal) → Refuses w.bound (within list w) (kind_of h) r → ⊥)
    → Means (within list w) h → Stack list x w ts e → Begins list x w ts e h
begins list x w [] (Accepted v y) h is accepts means s =
    let no : None ≡ Some (kind_of h) = sym s.2 ∙ is in absurd cc
begins list x w [] (Fault v y r) h is accepts means s =
    let both : Some s.2 ≡ Some (kind_of h) = sym s.3 ∙ is in
    let same : s.2 ≡ kind_of h = cc in
    absurd (accepts r (subst (λ (k : Kind). Refuses w.bound (within list w) k r) same s.4))
begins list x w (k ∷ ts) e h is accepts means s =
    let both : Some (kind_of k) ≡ Some (kind_of h) = sym s.0.announced ∙ is in
    let kind : kind_of k ≡ kind_of h = cc in
    let same : k ≡ h = one_header (within list w) k h kind s.0.means means in
    subst (λ (g : Header). Begins list x w (k ∷ ts) e g) same
    (record { later = ts; is = refl; unit = s.0; stack = s.1 })

-- the bytes after a header without a length of its own and a trailer
pub rest_is : (list : List ℕ) (w : Window) (h : Header) → IsIn list w → payload_len h ≡ None → trailer_len h ≡ 0
    → header_len h ≤ length (within list w) → within list (payload w h) ≡ drop (header_len h) (within list w)
rest_is list w h at none no_trailer fits =
    let len = length-part list w.start w.finish at.inside in
    let n = header_len h in
    ap (λ o. within list (payload_from (w.start + n) (trailer_len h) o w)) none
    ∙ ap (λ k. within list (payload_from (w.start + n) k None w)) no_trailer
    ∙ ap (λ f. slice_range list (w.start + n) f) (omega arith)
    ∙ sym (rest_of_part list w.start w.finish n (let a = at.ordered in omega (arith, len, fits)))

-- ---- a VLAN tag

vlan_accepts : (bound : LenSource) (bytes : List ℕ) (r : Refusal) → 4 ≤ length bytes
    → Refuses bound bytes kinds.Vlan r → ⊥
vlan_accepts bound bytes r le (rows.vlan lt) = omega (arith, le, lt)

pub begins_tag : (list : List ℕ) (x : Expectation) (w : Window) (ts : List Header) (e : Ending)
    → IsBytes list → announced x ≡ Some kinds.Vlan → 4 ≤ length (within list w) → Stack list x w ts e
    → Begins list x w ts e (headers.Vlan (vlan_of (within list w)))
begins_tag list x w ts e ok is le s =
    let bytes = within list w in
    begins list x w ts e (headers.Vlan (vlan_of bytes)) is
    (λ r refuses. vlan_accepts w.bound bytes r le refuses)
    (vlan_means bytes (IsBytes-part w.start w.finish list ok) le) s

-- ---- an Ethernet II header

ethernet2_accepts : (bound : LenSource) (bytes : List ℕ) (r : Refusal) → 14 ≤ length bytes
    → Refuses bound bytes kinds.Ethernet2 r → ⊥
ethernet2_accepts bound bytes r le (rows.ethernet2 lt) = omega (arith, le, lt)

pub begins_ethernet2 : (list : List ℕ) (x : Expectation) (w : Window) (ts : List Header) (e : Ending)
    → IsBytes list → announced x ≡ Some kinds.Ethernet2 → 14 ≤ length (within list w) → Stack list x w ts e
    → Begins list x w ts e (headers.Ethernet2 (ethernet2_of (within list w)))
begins_ethernet2 list x w ts e ok is le s =
    let bytes = within list w in
    begins list x w ts e (headers.Ethernet2 (ethernet2_of bytes)) is
    (λ r refuses. ethernet2_accepts w.bound bytes r le refuses)
    (ethernet2_means bytes (IsBytes-part w.start w.finish list ok) le) s

-- ---- a SecTag

pub begins_sec_tag : (list : List ℕ) (x : Expectation) (w : Window) (ts : List Header) (e : Ending) (c : SecTagFront)
    → IsBytes list → announced x ≡ Some kinds.Macsec → sec_tag_front_in (within list w) ≡ c
    → 6 ≤ length (within list w) → c.version ≡ 0 → (IsTooShort c → ⊥) → sec_tag_len c ≤ length (within list w)
    → ((p : ℕ) → known_payload_len c ≡ Some p → sec_tag_len c + p ≤ length (within list w)) → Stack list x w ts e
    → Begins list x w ts e (headers.Macsec (sec_tag_of (within list w)))
begins_sec_tag list x w ts e c ok is front six version long whole fits s =
    let bytes = within list w in
    let good = IsBytes-part w.start w.finish list ok in
    let read = sec_tag_front_read bytes good six in
    begins list x w ts e (headers.Macsec (sec_tag_of bytes)) is
    (accepts_macsec w.bound bytes c six (subst (BeginsSecTag bytes) front read) version long whole fits)
    (sec_tag_means bytes good six (subst (λ (d : SecTagFront). sec_tag_len d ≤ length bytes) (sym front) whole)) s

-- a window that refuses the announced unit has no header, and its refusal
pub begins_nothing : (list : List ℕ) (x : Expectation) (w : Window) (ts : List Header) (e : Ending) (kind : Kind)
    → announced x ≡ Some kind → ((bound : LenSource) → (r : Refusal) × Refuses bound (within list w) kind r)
    → Stack list x w ts e → (ts ≡ []) × (is_some (refusal_of e) ≡ true)
begins_nothing list x w [] (Accepted v y) kind is refused s = let no : None ≡ Some kind = sym s.2 ∙ is in absurd cc
begins_nothing list x w [] (Fault v y r) kind is refused s = (refl, refl)
begins_nothing list x w (h ∷ ts) e kind is refused s =
    let both : Some kind ≡ Some (kind_of h) = sym is ∙ s.0.announced in
    let same : kind ≡ kind_of h = cc in
    let r = refused w.bound in
    absurd (s.0.accepted r.0 (subst (λ (k : Kind). Refuses w.bound (within list w) k r.0) same r.1))
