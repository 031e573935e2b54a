-- Bytes that go on so that an ether type of one's choice is at a place.
use Rattle.std.proofs.Common.{◌≡◌, ℕ, zero, suc, ◌+◌, ◌-◌, ◌/◌, ◌%◌, ◌<◌, ◌≤◌, List, [], ◌∷◌, ◌++◌, length, take, drop, refl, sym, ap, ◌∙◌, arith, append_assoc}
use Rattle.std.specs.Prelude.{slice_range, get_or, replicate}
use Rattle.std.proofs.lemmas.List.{length-append, length-replicate, take_more, take_all, length-take-le}
use Rattle.std.proofs.Math.Seq.{drop-append_seam}
use Rattle.etherparse.specs.Bytes.{IsBytes, number}
use Rattle.etherparse.proofs.Numbers.{IsBytes-nil, IsBytes-cons, IsBytes-append}
use Rattle.etherparse.proofs.SubLists.{part_after_front}

pub zeros_are_bytes : (n : ℕ) → IsBytes (replicate n 0)
zeros_are_bytes zero = IsBytes-nil
zeros_are_bytes (suc n) = IsBytes-cons 0 (replicate n 0) (omega arith) (zeros_are_bytes n)

-- the two bytes of an ether type
abbrev pub two : ℕ → List ℕ
two t = t / 256 ∷ t % 256 ∷ []

two_are_bytes : (t : ℕ) → t < 65536 → IsBytes (two t)
two_are_bytes t lt =
    IsBytes-cons (t / 256) (t % 256 ∷ []) (omega arith) (IsBytes-cons (t % 256) [] (omega arith) IsBytes-nil)

-- known bytes go on so that an ether type is at a place, and then these bytes
pub record TypedAt (known : List ℕ) (place t : ℕ) (rest : List ℕ) : Type 0 where
  pub more : List ℕ
  pub front : List ℕ
  pub is : known ++ more ≡ front ++ (two t ++ rest)
  pub front_len : length front ≡ place
  pub bytes : IsBytes more

-- if not more of them are known than those before it
pub typed_early : (known : List ℕ) (place t : ℕ) (rest : List ℕ) → length known ≤ place → t < 65536 → IsBytes rest
    → TypedAt known place t rest
typed_early known place t rest le lt ok =
    let zeros = replicate (place - length known) 0 in
    record {
      more = zeros ++ (two t ++ rest);
      front = known ++ zeros;
      is = sym (append_assoc known zeros (two t ++ rest));
      front_len = omega (arith, length-append known zeros, length-replicate {A = ℕ} (place - length known) 0, le);
      bytes = IsBytes-append zeros (two t ++ rest) (zeros_are_bytes (place - length known))
          (IsBytes-append (two t) rest (two_are_bytes t lt) ok);
    }

-- or its first byte, too
pub typed_last : (known : List ℕ) (place t : ℕ) (rest : List ℕ) → length known ≡ place + 1
    → get_or known place 0 ≡ t / 256 → t < 65536 → IsBytes rest → TypedAt known place t rest
typed_last known place t rest len is lt ok =
    let front = take place known in
    let whole : known ≡ front ++ t / 256 ∷ [] =
    sym (take_all (place + 1) known (omega (arith, len))) ∙ take_more known place 0 (omega (arith, len))
    ∙ ap (λ (b : ℕ). front ++ b ∷ []) is in
    record {
      more = t % 256 ∷ rest;
      front = front;
      is = ap (λ (l : List ℕ). l ++ t % 256 ∷ rest) whole ∙ append_assoc front (t / 256 ∷ []) (t % 256 ∷ rest);
      front_len = length-take-le place known (omega (arith, len));
      bytes = IsBytes-cons (t % 256) rest (omega arith) ok;
    }

-- ---- what they have

pub typed_number : (known : List ℕ) (place t : ℕ) (rest : List ℕ) (a : TypedAt known place t rest)
    → number (slice_range (known ++ a.more) place (place + 2)) ≡ t
typed_number known place t rest a =
    ap number (ap (λ (l : List ℕ). slice_range l place (place + 2)) (a.is ∙ sym (append_assoc a.front (two t) rest))
    ∙ part_after_front a.front (two t) rest place (place + 2) a.front_len (omega arith))
    ∙ omega arith

pub typed_rest : (known : List ℕ) (place t : ℕ) (rest : List ℕ) (a : TypedAt known place t rest)
    → drop (place + 2) (known ++ a.more) ≡ rest
typed_rest known place t rest a =
    let front = a.front ++ two t in
    let len : place + 2 ≡ length front = omega (arith, length-append a.front (two t), a.front_len) in
    ap (drop (place + 2)) (a.is ∙ sym (append_assoc a.front (two t) rest))
    ∙ ap (λ (n : ℕ). drop n (front ++ rest)) len ∙ drop-append_seam front rest

pub typed_len : (known : List ℕ) (place t : ℕ) (rest : List ℕ) (a : TypedAt known place t rest)
    → length (known ++ a.more) ≡ place + 2 + length rest
typed_len known place t rest a =
    omega (arith, ap length a.is, length-append a.front (two t ++ rest), a.front_len)

-- the bytes after the type, before others
pub typed_part : (known : List ℕ) (place t : ℕ) (rest more : List ℕ) (n : ℕ) → n ≡ place + 2
    → (a : TypedAt known place t (rest ++ more)) → slice_range (known ++ a.more) n (n + length rest) ≡ rest
typed_part known place t rest more n is a =
    let front = a.front ++ two t in
    ap (λ (l : List ℕ). slice_range l n (n + length rest))
    (a.is ∙ sym (append_assoc a.front (two t) (rest ++ more)) ∙ sym (append_assoc front rest more))
    ∙ part_after_front front rest more n (n + length rest)
    (omega (arith, is, length-append a.front (two t), a.front_len))
    refl
