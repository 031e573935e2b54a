-- The extensions of a packet among its headers, and the header that replaces one of them.
use Rattle.std.proofs.Common.{◌≡◌, ℕ, zero, suc, ◌+◌, ◌≤◌, List, [], ◌∷◌, ◌++◌, length, take, refl, sym, ap, subst, ◌∙◌, arith, Bool, true, false, rules}
use Rattle.std.specs.Prelude.{map, slice_get, Some, if◌then◌else◌}
use Rattle.std.proofs.lemmas.List.{length-take-le, map-append}
use Rattle.std.proofs.lemmas.Option.{slice_get_within}
use Rattle.etherparse.specs.Types.LinkExtHeader.{LinkExtHeader}
use Rattle.etherparse.specs.Types.LinkExtHeader.TheVariants as values
use Rattle.etherparse.specs.LinkExt.{ext_header_view}
use Rattle.etherparse.specs.Bytes.{overwritten}
use Rattle.etherparse.specs.Kind.{Kind}
use Rattle.etherparse.specs.Kind as kinds
use Rattle.etherparse.specs.Header.{Header, kind_of, header_len, header_bytes, FitsHeader}
use Rattle.etherparse.proofs.ReadBack.{length-header_bytes}
use Rattle.ether_peel.specs.Grammar.Window.{Window, payload}
use Rattle.ether_peel.specs.Grammar.Expectation.{Expectation, is_extension}
use Rattle.ether_peel.specs.Grammar.Places.{place}
use Rattle.ether_peel.specs.Grammar.Stack.{Ending, Walk}
use Rattle.ether_packet.specs.declared.finding.PlacedExt.{PlacedExt}
use Rattle.ether_packet.specs.declared.difference.Difference.{Difference}
use Rattle.ether_packet.specs.declared.replace_error.ReplaceError.TheVariants as errors
use Rattle.ether_packet.specs.PacketUnit.{PacketUnit}
use Rattle.ether_packet.specs.Views.{header_in, header_of, exts_of}
use Rattle.ether_packet.specs.Packet.{AreUnitsAt}
use Rattle.ether_packet.specs.Replacing.{Agree, Differs, ext_count, IsExtAt, IsPlacedExt, TakesExt, ReplacesExt, RefusesExt, none, other}
use Rattle.ether_packet.proofs.Places.{is_ext}
use Rattle.ether_packet.proofs.Getting.{ext_kept, other_dropped}
use Rattle.ether_packet.proofs.Replaced.{IsSendable, same_len, length-overwritten, header_inside, replaced_walk}

-- ---- counting

pub ext_count-append : (hs ks : List Header) → ext_count (hs ++ ks) ≡ ext_count hs + ext_count ks
ext_count-append [] ks = omega arith
ext_count-append (h ∷ hs) ks = let more = ext_count-append hs ks in omega (arith, more)

pub kind_kept : (k : Kind) (bytes : List ℕ) → kind_of (header_in k bytes) ≡ k
kind_kept kinds.Ethernet2 bytes = refl
kind_kept k bytes = refl

pub ext_header : (u : PacketUnit) → is_extension (kind_of (header_of u)) ≡ is_ext u
ext_header u = ap is_extension (kind_kept u.kind u.bytes)

count_cons : (u : PacketUnit) (us : List PacketUnit) (b : Bool) → is_ext u ≡ b
    → ext_count (map header_of us) ≡ length (exts_of us)
    → ext_count (map header_of (u ∷ us)) ≡ length (exts_of (u ∷ us))
count_cons u us true e more =
    (λ i. (if (ext_header u ∙ e) i then 1 else 0) + more i) ∙ omega arith ∙ ap length (sym (ext_kept u us e))
count_cons u us false e more =
    (λ i. (if (ext_header u ∙ e) i then 1 else 0) + more i) ∙ omega arith ∙ ap length (sym (other_dropped u us e))

pub exts_count : (us : List PacketUnit) → ext_count (map header_of us) ≡ length (exts_of us)
exts_count [] = refl
exts_count (u ∷ us) = count_cons u us (is_ext u) refl (exts_count us)

-- ---- the extension at an index

-- the others before it and after it
pub record Split (us : List PacketUnit) (i : ℕ) (x : PacketUnit) : Type 0 where
  pub front : List PacketUnit
  pub later : List PacketUnit
  pub parts : us ≡ front ++ x ∷ later
  pub extension : is_ext x ≡ true
  pub before : exts_of front ≡ take i (exts_of us)

split_after : (u : PacketUnit) (us : List PacketUnit) (i j : ℕ) (x : PacketUnit) (s : Split us i x)
    → exts_of (u ∷ s.front) ≡ take j (exts_of (u ∷ us)) → Split (u ∷ us) j x
split_after u us i j x s before =
    record {
      front = u ∷ s.front;
      later = s.later;
      parts = ap (λ (l : List PacketUnit). u ∷ l) s.parts;
      extension = s.extension;
      before = before;
    }

split_other : (u : PacketUnit) (us : List PacketUnit) (i : ℕ) (x : PacketUnit) → is_ext u ≡ false → Split us i x
    → Split (u ∷ us) i x
split_other u us i x e s =
    split_after u us i i x s (other_dropped u s.front e ∙ s.before ∙ ap (take i) (sym (other_dropped u us e)))

split_next : (u : PacketUnit) (us : List PacketUnit) (i : ℕ) (x : PacketUnit) → is_ext u ≡ true → Split us i x
    → Split (u ∷ us) (suc i) x
split_next u us i x e s =
    split_after u us i (suc i) x s
    (ext_kept u s.front e ∙ ap (λ (l : List PacketUnit). u ∷ l) s.before ∙ ap (take (suc i)) (sym (ext_kept u us e)))

split_first : (u : PacketUnit) (us : List PacketUnit) (x : PacketUnit) → is_ext u ≡ true → u ≡ x → Split (u ∷ us) 0 x
split_first u us x e same =
    record {
      front = [];
      later = us;
      parts = ap (λ (v : PacketUnit). v ∷ us) same;
      extension = sym (ap is_ext same) ∙ e;
      before = refl;
    }

same_unit : (u x : PacketUnit) → Some u ≡ Some x → u ≡ x
same_unit u x e = cc

split_cons : (u : PacketUnit) (us : List PacketUnit) (i : ℕ) (x : PacketUnit) (b : Bool) → is_ext u ≡ b
    → ((j : ℕ) → slice_get (exts_of us) j ≡ Some x → Split us j x) → slice_get (exts_of (u ∷ us)) i ≡ Some x
    → Split (u ∷ us) i x
split_cons u us i x false e more at =
    split_other u us i x e (more i (ap (λ (l : List PacketUnit). slice_get l i) (sym (other_dropped u us e)) ∙ at))
split_cons u us zero x true e more at =
    split_first u us x e (same_unit u x (ap (λ (l : List PacketUnit). slice_get l 0) (sym (ext_kept u us e)) ∙ at))
split_cons u us (suc i) x true e more at =
    split_next u us i x e (more i (ap (λ (l : List PacketUnit). slice_get l (suc i)) (sym (ext_kept u us e)) ∙ at))

pub split_at : (us : List PacketUnit) (i : ℕ) (x : PacketUnit) → slice_get (exts_of us) i ≡ Some x → Split us i x
split_at [] i x at = let none = slice_get_within [] i x at in absurd (omega (arith, none))
split_at (u ∷ us) i x at = split_cons u us i x (is_ext u) refl (λ j. split_at us j x) at

pub ext_at : (us : List PacketUnit) (i : ℕ) (x : PacketUnit) → slice_get (exts_of us) i ≡ Some x → (s : Split us i x)
    → IsExtAt (map header_of us) i (map header_of s.front) (header_of x) (map header_of s.later)
ext_at us i x at s = search (rules, slice_get_within, map-append, ext_header, exts_count, length-take-le)

-- and its place in the list
unit_begins : (list : List ℕ) (w : Window) (front : List PacketUnit) (x : PacketUnit) (later : List PacketUnit)
    → AreUnitsAt list w (map header_of (front ++ x ∷ later)) (front ++ x ∷ later)
    → x.offset ≡ place w.start (map header_of front)
unit_begins list w [] x later are = are.0.offset
unit_begins list w (u ∷ front) x later are = unit_begins list (payload w (header_of u)) front x later are.1

-- ---- a header that replaces it

-- the extension that is found at an index
pub found_takes : (hs : List Header) (i : ℕ) (f : PlacedExt) (g : Header) → IsPlacedExt hs i f
    → Agree g (ext_header_view f.header) → TakesExt hs i g f.at
found_takes hs i f g p same = search rules

pub found_room : (g h : Header) (at n : ℕ) → Agree g h → at + header_len h ≤ n → at + header_len g ≤ n
found_room g h at n same room = let len = same_len g h same in omega (arith, len, room)

pub found_other : (hs : List Header) (i : ℕ) (f : PlacedExt) (g : Header) (d : Difference) → IsPlacedExt hs i f
    → Differs g (ext_header_view f.header) d → RefusesExt hs i g (errors.SaysOther d)
found_other hs i f g d p differs = other p.front (ext_header_view f.header) p.later d p.found differs

-- none is there
pub found_none : (hs : List Header) (i n : ℕ) (g : Header) → (n ≡ ext_count hs) × (n ≤ i)
    → RefusesExt hs i g (errors.NoLinkExt n)
found_none hs i n g past =
    subst (λ (k : ℕ). RefusesExt hs i g (errors.NoLinkExt k)) (sym past.0)
    (none (subst (λ (k : ℕ). k ≤ i) past.0 past.1))

pub sendable_ext : (ext : LinkExtHeader) → IsSendable (ext_header_view ext)
sendable_ext (values.Vlan h) = tt
sendable_ext (values.Macsec h) = tt

pub is_replaced : (start : Expectation) (old new : List ℕ) (hs : List Header) (e : Ending) (i at : ℕ) (g : Header)
    → TakesExt hs i g at → FitsHeader g → IsSendable g → new ≡ overwritten old at (header_bytes g) → Walk start old hs e
    → ReplacesExt start old hs e i g new
is_replaced start old new hs e i at g t fits sendable bytes walk =
    search (rules, header_inside, length-header_bytes, same_len, length-overwritten, replaced_walk)
