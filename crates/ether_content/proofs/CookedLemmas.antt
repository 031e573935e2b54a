-- A frame of cooked capture v1 has a hardware type whose protocol numbers have a meaning, if its walk has a header.
use Rattle.std.proofs.Common.{◌≡◌, ℕ, ◌+◌, List, [], ◌∷◌, ◌++◌, length, take, drop, Bool, true, false, refl, sym, subst}
use Rattle.std.specs.Prelude.{Some, slice_range, nat_le, not, ◌&&◌}
use Rattle.std.proofs.lemmas.Bool.{leb-true}
use Rattle.ether_base.specs.Bytes.{IsBytes}
use Rattle.ether_base.proofs.Numbers.{IsBytes-append}
use Rattle.ether_base.proofs.SubLists.{IsBytes-take, IsBytes-drop}
use Rattle.ether_base.specs.Formats.LinuxSll.{linux_sll_of, is_supported}
use Rattle.etherparse.specs.Bytes.{overwritten}
use Rattle.etherparse.specs.Types.LenSource.TheVariants as sources
use Rattle.etherparse.specs.Header.{Header, kind_of}
use Rattle.etherparse.specs.Kind.{Kind}
use Rattle.etherparse.specs.Kind as kinds
use Rattle.etherparse.specs.Refusal.{Accepts}
use Rattle.etherparse.specs.Refusal as rows
use Rattle.etherparse.proofs.LinuxSllFields.{linux_sll_begins}
use Rattle.ether_peel.specs.Grammar.Expectation.{Next, Start}
use Rattle.ether_peel.specs.Grammar.Stack.{Ending, Walk}
use Rattle.ether_packet.proofs.Gathering.{whole_part}
use Rattle.ether_content.specs.Content.{has_other_hardware}
use Rattle.ether_content.specs.Editing.{frame_start}

none_other : (a b c : Bool) → (a ≡ true → b ≡ true → c ≡ false → ⊥) → (a && b && not c) ≡ false
none_other false b c never = refl
none_other true false c never = refl
none_other true true true never = refl
none_other true true false never = absurd (never refl refl refl)

-- no row holds of a header of a supported hardware type
accepted_usual : (list : List ℕ) → IsBytes list → Accepts sources.Slice list kinds.LinuxSll → has_other_hardware list
    ≡ false
accepted_usual list ok accepted =
    let s = linux_sll_of list in
    none_other (nat_le 16 (length list)) (nat_le s.packet_type 7) (is_supported s.hardware_type)
    (λ len packet hardware.
    let least = leb-true 16 (length list) len in
    accepted (rows.UnsupportedHardwareType s.hardware_type)
    (rows.linux_sll_hardware_type s least (linux_sll_begins list ok least) (leb-true s.packet_type 7 packet) hardware))

pub walked_usual : (next : Next) (list : List ℕ) (h : Header) (hs : List Header) (e : Ending) → IsBytes list
    → Walk (frame_start next) list (h ∷ hs) e → Start kinds.LinuxSll ≡ next → has_other_hardware list ≡ false
walked_usual next list h hs e ok walk is =
    let unit = subst (λ (n : Next). Walk (frame_start n) list (h ∷ hs) e) (sym is) walk in
    let both : Some kinds.LinuxSll ≡ Some (kind_of h) = unit.0.announced in
    let kind : kind_of h ≡ kinds.LinuxSll = cc in
    accepted_usual list ok
    (subst (λ (l : List ℕ). Accepts sources.Slice l kinds.LinuxSll) (whole_part list)
    (subst (λ (k : Kind). Accepts sources.Slice (slice_range list 0 (length list)) k) kind unit.0.accepted))

-- .. some header is enough, after others
pub walked_usual_past : (next : Next) (list : List ℕ) (front : List Header) (h : Header) (hs : List Header) (e : Ending)
    → IsBytes list → Walk (frame_start next) list (front ++ h ∷ hs) e → Start kinds.LinuxSll ≡ next
    → has_other_hardware list ≡ false
walked_usual_past next list [] h hs e ok walk is = walked_usual next list h hs e ok walk is
walked_usual_past next list (g ∷ gs) h hs e ok walk is = walked_usual next list g (gs ++ h ∷ hs) e ok walk is

-- bytes that are written over others
pub written_bytes : (list new : List ℕ) (at : ℕ) → IsBytes list → IsBytes new → IsBytes (overwritten list at new)
written_bytes list new at ok written =
    IsBytes-append (take at list ++ new) (drop (at + length new) list)
    (IsBytes-append (take at list) new (IsBytes-take at list ok) written) (IsBytes-drop (at + length new) list ok)
