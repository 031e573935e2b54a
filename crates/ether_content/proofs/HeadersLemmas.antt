-- How many bytes of a captured packet its headers take.
use Rattle.std.proofs.Common.{◌≡◌, ℕ, ◌+◌, ◌-◌, ◌≤◌, List, length, Bool, true, false, refl, sym, ap, subst, ◌∙◌, inl, inr}
use Rattle.std.specs.Prelude.{Option, Some, None, max, slice_range, nat_eq, if◌then◌else◌}
use Rattle.etherparse.specs.Header.{Header}
use Rattle.ether_base.specs.Bytes.{IsBytes}
use Rattle.ether_base.proofs.SubLists.{IsBytes-take, IsBytes-part, length-part_min}
use Rattle.etherparse.specs.Kind as kinds
use Rattle.ether_base.specs.Formats.LinuxSll.{LinuxSllValue, linux_sll_of}
use Rattle.ether_base.specs.Formats.LinuxSllProtocolType.{told_ether_type}
use Rattle.ether_peel.specs.Grammar.Cuts.{reach}
use Rattle.ether_peel.specs.Grammar.Expectation.{Next, Start, EtherType, Expectation}
use Rattle.ether_peel.specs.Grammar.Stack.{Ending, Walk, whole}
use Rattle.ether_peel.proofs.Grammar.Stacks.{some_stack, one_stack}
use Rattle.ether_sll2.specs.LinuxSll2.{AcceptsLinuxSll2, protocol_of_header}
use Rattle.ether_sll2.proofs.LinuxSll2Laws.{rows_apart}
use Rattle.ether_pcap.specs.Capture.{PacketValue}
use Rattle.ether_content.specs.Content.{ContentValue, Frame, LinuxSll, LinuxSll2, IsWalked, content_of, cooked_content, fcs_len, has_fcs, has_other_hardware, without_fcs}
use Rattle.ether_content.specs.Content as content
use Rattle.ether_content.specs.Headers.{Reaches, HeadersTake, HeadersTakeOne}
use Rattle.ether_content.specs.Headers as takes
use Rattle.ether_content.proofs.ContentLemmas.{walked_once}

-- what is so of each walk is so of the one that there is
pub reaches : (next : Next) (frame : List ℕ) (n : ℕ) → IsBytes frame
    → ((hs : List Header) (e : Ending) → Walk (record { next = next; limit = None }) frame hs e → n ≡ reach 0 hs)
    → Reaches next frame n
reaches next frame n ok each =
    let start : Expectation = record { next = next; limit = None } in
    let some = some_stack frame start (whole start frame) ok in
    record { headers = some.0; ending = some.1; walk = some.2; is_reach = each some.0 some.1 some.2 }

reaches_one : (next : Next) (frame : List ℕ) (n m : ℕ) → Reaches next frame n → Reaches next frame m → n ≡ m
reaches_one next frame n m r s =
    let start : Expectation = record { next = next; limit = None } in
    let same = one_stack frame start (whole start frame) r.headers s.headers r.ending s.ending r.walk s.walk in
    r.is_reach ∙ ap (reach 0) same.0 ∙ sym s.is_reach

-- no ether type announces a payload that is walked
not_announced : (bytes frame : List ℕ) (next : Next) → IsWalked (LinuxSll2 bytes) next frame
    → told_ether_type (protocol_of_header bytes) ≡ None → ⊥
not_announced bytes frame next (content.payload _ n a e) none = let both : Some n ≡ None = sym e ∙ none in absurd cc

accepted : (bytes frame : List ℕ) (next : Next) → IsWalked (LinuxSll2 bytes) next frame → AcceptsLinuxSll2 bytes
accepted bytes frame next (content.payload _ n a e) = a

pub takes_one : (c : ContentValue) (n m : ℕ) → HeadersTake c n → HeadersTake c m → n ≡ m
takes_one c n m (takes.frame next bytes _ r) (takes.frame _ _ _ s) = reaches_one next bytes n m r s
takes_one c n m (takes.cooked s payload a r) (takes.cooked _ _ b t) =
    ap (λ k. 16 + k) (reaches_one (EtherType s.protocol) payload a b r t)
takes_one c n m (takes.payload next bytes frame a w r) (takes.payload other _ others b v s) =
    let same = walked_once (LinuxSll2 bytes) next other frame others w v in
    ap (λ k. 20 + k)
    (reaches_one other others a b
    (subst (λ (l : List ℕ). Reaches other l a) same.1 (subst (λ (x : Next). Reaches x frame a) same.0 r)) s)
takes_one c n m (takes.payload next bytes frame a w r) (takes.header _ b none) =
    absurd (not_announced bytes frame next w none)
takes_one c n m (takes.payload next bytes frame a w r) (takes.no_header _ not) = absurd
    (not (accepted bytes frame next w))
takes_one c n m (takes.header bytes a none) (takes.payload next _ frame b w r) =
    absurd (not_announced bytes frame next w none)
takes_one c n m (takes.header bytes a none) (takes.header _ b other) = refl
takes_one c n m (takes.header bytes a none) (takes.no_header _ not) = absurd (not a)
takes_one c n m (takes.no_header bytes not) (takes.payload next _ frame b w r) = absurd
    (not (accepted bytes frame next w))
takes_one c n m (takes.no_header bytes not) (takes.header _ a none) = absurd (not a)
takes_one c n m (takes.no_header bytes not) (takes.no_header _ other) = refl
takes_one c n m takes.unknown takes.unknown = refl

-- ---- there is a number

abbrev pub Takes : ContentValue → Type 0
Takes c = (n : ℕ) × HeadersTake c n

some_if : (b : Bool) (c d : ContentValue) → Takes c → Takes d → Takes (if b then c else d)
some_if true c d s t = s
some_if false c d s t = t

some_reach : (next : Next) (frame : List ℕ) → IsBytes frame → (n : ℕ) × Reaches next frame n
some_reach next frame ok =
    let start : Expectation = record { next = next; limit = None } in
    let some = some_stack frame start (whole start frame) ok in
    (reach 0 some.0, record { headers = some.0; ending = some.1; walk = some.2; is_reach = refl })

some_frame : (next : Next) (frame : List ℕ) → IsBytes frame → Takes (Frame next frame)
some_frame next frame ok = let r = some_reach next frame ok in (r.0, takes.frame next frame r.0 r.1)

some_cooked : (s : LinuxSllValue) (payload : List ℕ) → IsBytes payload → Takes (LinuxSll s payload)
some_cooked s payload ok =
    let r = some_reach (EtherType s.protocol) payload ok in
    (16 + r.0, takes.cooked s payload r.0 r.1)

some_linux_sll : (bytes : List ℕ) → IsBytes bytes → Takes (cooked_content bytes)
some_linux_sll bytes ok =
    some_if (has_other_hardware bytes) _ _
    (some_cooked (linux_sll_of bytes) (slice_range bytes 16 (length bytes)) (IsBytes-part 16 (length bytes) bytes ok))
    (some_frame (Start kinds.LinuxSll) bytes ok)

some_payload : (bytes : List ℕ) (o : Option ℕ) → IsBytes bytes → AcceptsLinuxSll2 bytes
    → told_ether_type (protocol_of_header bytes) ≡ o → Takes (LinuxSll2 bytes)
some_payload bytes None ok a e = (20, takes.header bytes a e)
some_payload bytes (Some n) ok a e =
    let frame = slice_range bytes 20 (length bytes) in
    let r = some_reach (EtherType n) frame (IsBytes-part 20 (length bytes) bytes ok) in
    (20 + r.0, takes.payload (EtherType n) bytes frame r.0 (content.payload bytes n a e) r.1)

some_linux_sll2 : (bytes : List ℕ) → IsBytes bytes → Takes (LinuxSll2 bytes)
some_linux_sll2 bytes ok =
    elim (rows_apart.decided bytes ok) [
      | inl (r, refused) ↦ (0, takes.no_header bytes (λ a. a r refused))
      | inr a ↦ some_payload bytes (told_ether_type (protocol_of_header bytes)) ok a refl
    ]

pub takes_some : (p : PacketValue) → IsBytes p.packet → Takes (content_of p)
takes_some p ok =
    let part = IsBytes-take (max p.original_len (length p.packet) - fcs_len p) p.packet ok in
    some_if (nat_eq p.link_type 1) _ _
    (some_if (has_fcs p) _ _ (some_frame (Start kinds.Ethernet2Fcs) p.packet ok)
    (some_frame (Start kinds.Ethernet2) (without_fcs p) part))
    (some_if (nat_eq p.link_type 113) _ _ (some_linux_sll (without_fcs p) part)
    (some_if (nat_eq p.link_type 276) _ _ (some_linux_sll2 (without_fcs p) part) (0, takes.unknown)))

-- ---- a payload of cooked capture v2

pub walked_len : (bytes frame : List ℕ) (next : Next) → IsWalked (LinuxSll2 bytes) next frame
    → length frame ≤ length bytes - 20
walked_len bytes frame next (content.payload _ n a e) = length-part_min bytes 20 (length bytes)

-- ---- the law

pub headers_one : HeadersTakeOne
headers_one = record { some = takes_some; one = λ p n m. takes_one (content_of p) n m }
