-- Headers that are written one after the other are found by the walk.
use Rattle.std.proofs.Common.{◌≡◌, ℕ, ◌+◌, ◌≤◌, List, [], ◌∷◌, ◌++◌, length, drop, refl, sym, ap, subst, ◌∙◌, arith, append_assoc, rules}
use Rattle.std.specs.Prelude.{slice_range, flat_map, Option, Some, None}
use Rattle.std.proofs.lemmas.List.{length-append}
use Rattle.std.proofs.Math.Seq.{drop-append_seam}
use Rattle.etherparse.specs.Types.LenSource.{LenSource}
use Rattle.etherparse.specs.Refusal.{Accepts}
use Rattle.etherparse.specs.Header.{Header, kind_of, header_len, payload_len, trailer_len, header_bytes, FitsHeader, Means}
use Rattle.etherparse.proofs.SubLists.{length-part, rest_of_part}
use Rattle.etherparse.proofs.ReadBack.{length-header_bytes, means-header_bytes}
use Rattle.ether_peel.specs.Grammar.Window.{Window, within, IsIn, payload}
use Rattle.ether_peel.specs.Grammar.Expectation.{Expectation, announced, after}
use Rattle.ether_peel.specs.Grammar.Places.{place}
use Rattle.ether_peel.specs.Grammar.Stack.{IsUnit}
use Rattle.ether_peel.proofs.Grammar.Windows.{payload_finish, payload_in}
use Rattle.ether_peel.proofs.Grammar.Carrying.{Leads}
use Rattle.ether_packet.specs.Building.{expected_after, window_after}

-- a header as it is written where x is expected, before n bytes
pub record Fitting (x : Expectation) (h : Header) (n : ℕ) : Type 0 where
  pub announced : announced x ≡ Some (kind_of h)
  pub fits : FitsHeader h
  pub accepted : (bound : LenSource) (more : List ℕ) → length more ≡ n
      → Accepts bound (header_bytes h ++ more) (kind_of h)
  pub named : (p : ℕ) → payload_len h ≡ Some p → p ≡ n
  pub no_trailer : trailer_len h ≡ 0

-- headers, each announced by the one before it, before n bytes
abbrev pub Fits : Expectation → List Header → ℕ → Type 0
Fits x [] n = Unit {0}
Fits x (h ∷ hs) n = Fitting x h (place n hs) × Fits (after x h) hs n

pub place-add : (at n : ℕ) (hs : List Header) → place (at + n) hs ≡ at + place n hs
place-add at n [] = refl
place-add at n (h ∷ hs) =
    let e : at + n + header_len h ≡ at + (n + header_len h) = omega arith in
    ap (λ (k : ℕ). place k hs) e ∙ place-add at (n + header_len h) hs

pub place-first : (n : ℕ) (h : Header) (hs : List Header) → place n (h ∷ hs) ≡ header_len h + place n hs
place-first n h hs =
    let e : n + header_len h ≡ header_len h + n = omega arith in
    ap (λ (k : ℕ). place k hs) e ∙ place-add (header_len h) n hs

-- what follows in a window after a header whose payload reaches to the window's end
finish_is : (o : Option ℕ) (start trailer finish n : ℕ) → trailer ≡ 0 → ((p : ℕ) → o ≡ Some p → p ≡ n)
    → start + n ≡ finish → payload_finish start trailer finish o ≡ finish
finish_is None start trailer finish n zero named e = omega arith
finish_is (Some p) start trailer finish n zero named e = let k = named p refl in omega arith

pub length-headers : (x : Expectation) (hs : List Header) (rest : List ℕ) → Fits x hs (length rest)
    → length (flat_map header_bytes hs ++ rest) ≡ place (length rest) hs
length-headers x [] rest fits = refl
length-headers x (h ∷ hs) rest (here, later) =
    let more = length-headers (after x h) hs rest later in
    search (rules, append_assoc, length-append, length-header_bytes, place-first)

-- from a window that holds them the headers lead to the one that holds the rest
pub record LeadsTo (list : List ℕ) (x : Expectation) (w : Window) (hs : List Header) (rest : List ℕ) : Type 0 where
  pub leads : Leads list x w hs (expected_after x hs) (window_after w hs)
  pub rest_is : within list (window_after w hs) ≡ rest
  pub finish : (window_after w hs).finish ≡ w.finish

pub written : (list : List ℕ) (x : Expectation) (w : Window) (hs : List Header) (rest : List ℕ) → IsIn list w
    → within list w ≡ flat_map header_bytes hs ++ rest → Fits x hs (length rest) → LeadsTo list x w hs rest
written list x w [] rest at e fits = record { leads = (refl, refl); rest_is = e; finish = refl }
written list x w (h ∷ hs) rest at e (here, later) =
    let front = header_bytes h in
    let tail = flat_map header_bytes hs ++ rest in
    let n = header_len h in
    let split : within list w ≡ front ++ tail = e ∙ append_assoc front (flat_map header_bytes hs) rest in
    let front_len : length front ≡ n = length-header_bytes h here.fits in
    let tail_len : length tail ≡ place (length rest) hs = length-headers (after x h) hs rest later in
    let whole : length (within list w) ≡ n + length tail =
    ap (λ (l : List ℕ). length l) split ∙ length-append front tail ∙ ap (λ (k : ℕ). k + length tail) front_len in
    let part = length-part list w.start w.finish at.inside in
    let ordered = at.ordered in
    let sum : w.start + n + length tail ≡ w.finish = omega arith in
    let unit : IsUnit list x w h = record {
      announced = here.announced;
      accepted =
          subst (λ (l : List ℕ). Accepts w.bound l (kind_of h)) (sym split) (here.accepted w.bound tail tail_len);
      means = subst (λ (l : List ℕ). Means l h) (sym split) (means-header_bytes h tail here.fits);
    } in
    let named : (p : ℕ) → payload_len h ≡ Some p → p ≡ length tail = λ p is. here.named p is ∙ sym tail_len in
    let finish : (payload w h).finish ≡ w.finish =
    finish_is (payload_len h) (w.start + n) (trailer_len h) w.finish (length tail) here.no_trailer named sum in
    let le : w.start + n ≤ w.finish = omega arith in
    let inner : within list (payload w h) ≡ tail =
    ap (λ (k : ℕ). slice_range list (w.start + n) k) finish
    ∙ sym (rest_of_part list w.start w.finish n le)
    ∙ ap (λ (l : List ℕ). drop n l) split
    ∙ ap (λ (k : ℕ). drop k (front ++ tail)) (sym front_len)
    ∙ drop-append_seam front tail in
    let next = written list (after x h) (payload w h) hs rest (payload_in list x w h at unit) inner later in
    record { leads = (unit, next.leads); rest_is = next.rest_is; finish = next.finish ∙ finish }
