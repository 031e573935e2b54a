-- A packet with more bytes captured is open at the same unit, and its headers say the same.
use Rattle.std.proofs.Common.{◌≡◌, ℕ, ◌-◌, ◌≤◌, List, ◌++◌, length, take, append_assoc, refl, sym, ap, subst, ◌∙◌, arith, Bool, true, false, nat_eq, IsTrue}
use Rattle.std.specs.Prelude.{replicate}
use Rattle.std.specs.List.{list_any}
use Rattle.std.proofs.lemmas.List.{length-append, length-replicate, length-take, take_all}
use Rattle.std.proofs.Math.Seq.{take-append_seam}
use Rattle.etherparse.specs.Bytes.{IsBytes}
use Rattle.etherparse.specs.Kind.{Kind}
use Rattle.etherparse.specs.Header.{Header}
use Rattle.etherparse.proofs.Numbers.{IsBytes-append}
use Rattle.ether_peel.specs.Grammar.Window.{within, IsIn}
use Rattle.ether_peel.specs.Grammar.Stack.{Ending, Stack, Walk}
use Rattle.ether_peel.specs.Walker.Start.{start_of, next_of}
use Rattle.ether_peel.specs.declared.start.Start.{Start as PeelStart}
use Rattle.ether_filter.specs.declared.packet.Packet.{Packet}
use Rattle.ether_filter.specs.declared.possible.Told.{Told}
use Rattle.ether_filter.specs.declared.primitive.Primitive.{Primitive}
use Rattle.ether_filter.specs.declared.primitive.Primitive.TheVariants as primitives
use Rattle.ether_filter.specs.Deciding.{is_of_lengths}
use Rattle.ether_filter.specs.Needed.{HasMore, IsUndecided}
use Rattle.ether_filter.specs.Possible.{AreTold}
use Rattle.ether_filter.specs.Primitives.{ether_types, walked, Matches}
use Rattle.ether_filter.specs.Prospects.{IsCompletion, Continues, IsOpen}
use Rattle.ether_filter.proofs.OpenUnits.{rest_ok, taken_more}
use Rattle.ether_filter.proofs.Typed.{zeros_are_bytes}

-- ---- its completions

pub more_ok : (packet longer : Packet) (h : HasMore packet longer) → IsBytes h.captures.more
more_ok packet longer h = rest_ok packet.frame.now h.captures.more (subst IsBytes h.captures.frame h.are_bytes)

both_complete : (packet longer : Packet) (h : HasMore packet longer) (rest : List ℕ) → IsCompletion longer rest
    → IsCompletion packet (h.captures.more ++ rest)
both_complete packet longer h rest c = record {
  are_bytes = IsBytes-append h.captures.more rest (more_ok packet longer h) c.are_bytes;
  all = omega (arith, length-append h.captures.more rest, c.all, h.captures.captured, h.captures.original, h.within);
}

same_list : (packet longer : Packet) (h : HasMore packet longer) (rest : List ℕ)
    → longer.frame.now ++ rest ≡ packet.frame.now ++ (h.captures.more ++ rest)
same_list packet longer h rest =
    ap (λ (l : List ℕ). l ++ rest) h.captures.frame ∙ append_assoc packet.frame.now h.captures.more rest

-- ---- where it is open

pub open_more : (packet longer : Packet) (hs : List Header) (kind : Kind) (known : List ℕ) (room : ℕ)
    (h : HasMore packet longer) → IsOpen packet hs kind known room → length (known ++ h.captures.more) ≤ room
    → IsOpen longer hs kind (known ++ h.captures.more) room
open_more packet longer hs kind known room h o le = record {
  expected = o.expected;
  window = o.window;
  announces = o.announces;
  unlimited = o.unlimited;
  inside = λ rest c. subst (λ (l : List ℕ). IsIn l o.window) (sym (same_list packet longer h rest))
      (o.inside (h.captures.more ++ rest) (both_complete packet longer h rest c));
  leads = λ rest ts e c s.
      subst (λ (p : PeelStart). Walk (start_of p) (longer.frame.now ++ rest) (hs ++ ts) e) (sym h.captures.start)
      (subst (λ (l : List ℕ). Walk (start_of packet.start) l (hs ++ ts) e) (sym (same_list packet longer h rest))
      (o.leads (h.captures.more ++ rest) ts e (both_complete packet longer h rest c)
      (subst (λ (l : List ℕ). Stack l o.expected o.window ts e) (same_list packet longer h rest) s)));
  continues = λ rest c. goes_on rest c;
  filled = λ bytes on. fills bytes on;
  ends = λ rest c. end rest c;
}
  where
    end : (rest : List ℕ) → IsCompletion longer rest
        → within (longer.frame.now ++ rest) o.window ≡ take room ((known ++ h.captures.more) ++ rest)
    end rest c =
        ap (λ (l : List ℕ). within l o.window) (same_list packet longer h rest)
        ∙ o.ends (h.captures.more ++ rest) (both_complete packet longer h rest c)
        ∙ ap (take room) (sym (append_assoc known h.captures.more rest))

    goes_on : (rest : List ℕ) → IsCompletion longer rest
        → Continues (known ++ h.captures.more) room (within (longer.frame.now ++ rest) o.window)
    goes_on rest c =
        let all = known ++ h.captures.more in
        let before = o.continues (h.captures.more ++ rest) (both_complete packet longer h rest c) in
        record {
          more = take (room - length all) rest;
          is = end rest c ∙ taken_more room all rest
              ∙ ap (λ (l : List ℕ). l ++ take (room - length all) rest) (take_all room all le);
          len = ap (λ (l : List ℕ). length (within l o.window)) (same_list packet longer h rest) ∙ before.len;
          are_bytes = subst (λ (l : List ℕ). IsBytes (within l o.window)) (sym (same_list packet longer h rest))
              before.are_bytes;
        }

    fills : (bytes : List ℕ) → Continues (known ++ h.captures.more) room bytes
        → (rest : List ℕ) × IsCompletion longer rest × (within (longer.frame.now ++ rest) o.window ≡ bytes)
    fills bytes on =
        let lost = longer.original_len - longer.captured_len in
        let zeros = replicate lost 0 in
        let zeros_len = length-replicate {A = ℕ} lost 0 in
        let z : IsCompletion longer zeros = record { are_bytes = zeros_are_bytes lost; all = zeros_len } in
        let all = known ++ h.captures.more in
        let enough = sym (goes_on zeros z).len ∙ ap length (end zeros z) ∙ length-take room (all ++ zeros) in
        let on_len = ap length on.is ∙ length-append all on.more in
        let tail = replicate (lost - length on.more) 0 in
        let tail_len = length-replicate {A = ℕ} (lost - length on.more) 0 in
        let c : IsCompletion longer (on.more ++ tail) = record {
          are_bytes = IsBytes-append on.more tail (rest_ok all on.more (subst IsBytes on.is on.are_bytes))
              (zeros_are_bytes (lost - length on.more));
          all = omega (
            arith,
            length-append on.more tail,
            tail_len,
            enough,
            length-append all zeros,
            zeros_len,
            on_len,
            on.len,
          );
        } in (
          on.more ++ tail,
          c,
          end (on.more ++ tail) c ∙ ap (take room) (sym (append_assoc all on.more tail))
              ∙ ap (λ (l : List ℕ). take room (l ++ tail)) (sym on.is)
              ∙ ap (λ (n : ℕ). take n (bytes ++ tail)) (sym on.len) ∙ take-append_seam bytes tail,
        )

-- ---- what its headers say

same_matches : (q : Primitive) (packet longer : Packet) (hs : List Header) (e : Ending) → is_of_lengths q ≡ false
    → packet.start ≡ longer.start → Matches q (walked packet hs e) → Matches q (walked longer hs e)
same_matches (primitives.EtherType t) packet longer hs e free is m =
    subst (λ (s : PeelStart). IsTrue (list_any (nat_eq t) (ether_types (next_of s) hs))) is m
same_matches primitives.Cut packet longer hs e free is m = absurd cc
same_matches (primitives.Less n) packet longer hs e free is m = absurd cc
same_matches (primitives.Greater n) packet longer hs e free is m = absurd cc
same_matches (primitives.Frame t) packet longer hs e free is m = absurd cc
same_matches q packet longer hs e free is m = m

pub told_more : (packet longer : Packet) (hs : List Header) (q : Primitive) (told : Told) → HasMore packet longer
    → is_of_lengths q ≡ false → AreTold packet hs q told → AreTold longer hs q told
told_more packet longer hs q told h free a = record {
  is_match = λ e never. (
    λ t. same_matches q packet longer hs e free (sym h.captures.start) ((a.is_match e never).0 t),
    λ m. (a.is_match e never).1 (same_matches q longer packet hs e free h.captures.start m),
  );
  has_tag = a.has_tag;
}

-- the two lengths are known
lengths_decided : (q : Primitive) (packet : Packet) → is_of_lengths q ≡ true → IsUndecided packet q → ⊥
lengths_decided primitives.Cut packet is u = u.1.holds u.0.holds
lengths_decided (primitives.Less n) packet is u = u.1.holds u.0.holds
lengths_decided (primitives.Greater n) packet is u = u.1.holds u.0.holds
lengths_decided (primitives.Frame t) packet is u = u.1.holds u.0.holds
lengths_decided q packet is u = absurd cc

pub of_no_lengths : (q : Primitive) (packet : Packet) → IsUndecided packet q → is_of_lengths q ≡ false
of_no_lengths q packet u = by_test (is_of_lengths q) refl
  where
    by_test : (b : Bool) → is_of_lengths q ≡ b → is_of_lengths q ≡ false
    by_test true is = absurd (lengths_decided q packet is u)
    by_test false is = is
