-- A line that is read.
use Rattle.std.proofs.Common.{◌≡◌, ◌≢◌, ℕ, ◌+◌, ◌-◌, ◌<◌, List, [], ◌∷◌, ◌++◌, length, take, drop, get_or, Option, Some, None, IfSome, Bool, true, false, All, true≢false, eqb-true, ◌==◌, if◌then◌else◌, refl, sym, ap, subst, ◌∙◌, arith}
use Rattle.std.proofs.lemmas.List.{append-nil, take_all, take_more}
use Rattle.std.proofs.lemmas.List.Elements.{All-nil, All-head, All-tail, All-push}
use Rattle.std.specs.Io.{StopsAt, appended_bytes}
use Rattle.std.specs.Io.BufRead.{take_through, drop_through, DropsThrough}
use Rattle.std.specs.Io.KnownBytes.{Consumes, IsAtEnd}
use Rattle.ether_make.specs.Program.{ReadsLine, BreaksLine}

-- what is read after an empty buffer
read_all : (before after : Option (List ℕ)) (old new : List ℕ) → old ≡ []
    → Consumes before after (appended_bytes old new) → Consumes before after new
read_all before after old new e h =
    subst (λ (l : List ℕ). Consumes before after (drop (length l) new)) e h

stops_all : (old new : List ℕ) → old ≡ [] → StopsAt (appended_bytes old new) 10 → StopsAt new 10
stops_all old new e h = subst (λ (l : List ℕ). StopsAt (drop (length l) new) 10) e h

split_last : (read : List ℕ) → 0 < length read → get_or read (length read - 1) 0 ≡ 10
    → read ≡ take (length read - 1) read ++ 10 ∷ []
split_last read some last =
    sym (take_all (length read - 1 + 1) read (omega arith)) ∙ take_more read (length read - 1) 0 (omega arith)
    ∙ ap (λ y. take (length read - 1) read ++ y ∷ []) last

pub reads-ended : (before after : Option (List ℕ)) (old read line : List ℕ) → old ≡ []
    → Consumes before after (appended_bytes old read) → StopsAt (appended_bytes old read) 10 → 0 < length read
    → get_or read (length read - 1) 0 ≡ 10 → line ≡ take (length read - 1) read → ReadsLine before after line true
reads-ended before after old read line e consumes stops some last is = record {
  read =
      subst (λ (bs : List ℕ). Consumes before after bs)
      (split_last read some last ∙ ap (λ l. l ++ 10 ∷ []) (sym is)) (read_all before after old read e consumes);
  one_line = subst (λ (l : List ℕ). All (λ c. c ≢ 10) l) (sym is) (stops_all old read e stops);
  at_end = λ f. absurd (true≢false f);
}

after_one : (x : ℕ) (xs : List ℕ) (b : Bool) → (x == 10) ≡ b
    → (All (λ c. c ≢ 10) (take_through 10 xs) → drop_through 10 xs ≡ [])
    → All (λ c. c ≢ 10) (if b then x ∷ [] else x ∷ take_through 10 xs) → (if b then xs else drop_through 10 xs) ≡ []
after_one x xs true e later h = absurd (All-head (λ c. c ≢ 10) x [] h (eqb-true x 10 e))
after_one x xs false e later h = later (All-tail (λ c. c ≢ 10) x (take_through 10 xs) h)

-- nothing is left after bytes without a line feed
nothing_after : (xs : List ℕ) → All (λ c. c ≢ 10) (take_through 10 xs) → drop_through 10 xs ≡ []
nothing_after [] h = refl
nothing_after (x ∷ xs) h = after_one x xs (x == 10) refl (nothing_after xs) h

known_end : (before after : Option (List ℕ)) (old read : List ℕ) → old ≡ []
    → IfSome before (λ xs. read ≡ old ++ take_through 10 xs) → DropsThrough before after 10
    → All (λ c. c ≢ 10) read → IfSome before (λ xs. IsAtEnd after)
known_end None after old read e bytes rest one = tt
known_end (Some xs) after old read e bytes rest one =
    subst (λ (o : Option (List ℕ)). IsAtEnd o) (sym rest)
    (nothing_after xs (subst (λ (l : List ℕ). All (λ c. c ≢ 10) l)
    (bytes ∙ ap (λ l. l ++ take_through 10 xs) e) one))

no_feed : (read : List ℕ) (v : ℕ) → StopsAt read 10 → (0 < length read → v ≡ get_or read (length read - 1) v)
    → (0 < length read → v ≢ 10) → All (λ c. c ≢ 10) read
no_feed [] v stops is last = All-nil (λ c. c ≢ 10)
no_feed (x ∷ xs) v stops is last =
    let read = x ∷ xs in
    let n = length read - 1 in
    let all : read ≡ take n read ++ v ∷ [] =
    sym (take_all (n + 1) read (omega arith)) ∙ take_more read n v (omega arith)
    ∙ ap (λ y. take n read ++ y ∷ []) (sym (is (omega arith))) in
    subst (λ (l : List ℕ). All (λ c. c ≢ 10) l) (sym all)
    (All-push (λ c. c ≢ 10) (take n read) v stops (last (omega arith)))

pub reads-last : (before after : Option (List ℕ)) (old read : List ℕ) → old ≡ []
    → Consumes before after (appended_bytes old read) → StopsAt (appended_bytes old read) 10
    → IfSome before (λ xs. read ≡ old ++ take_through 10 xs) → DropsThrough before after 10
    → (v : ℕ) → (0 < length read → v ≡ get_or read (length read - 1) v) → (0 < length read → v ≢ 10)
    → ReadsLine before after read false
reads-last before after old read e consumes stops bytes rest v is last =
    let one = no_feed read v (stops_all old read e stops) is last in
    record {
      read =
          subst (λ (bs : List ℕ). Consumes before after bs) (sym (append-nil read))
          (read_all before after old read e consumes);
      one_line = one;
      at_end = λ f. known_end before after old read e bytes rest one;
    }

pub breaks : (before after : Option (List ℕ)) (old read : List ℕ) → old ≡ []
    → Consumes before after (appended_bytes old read) → StopsAt (appended_bytes old read) 10
    → BreaksLine before after read
breaks before after old read e consumes stops = record {
  read = read_all before after old read e consumes;
  one_line = stops_all old read e stops;
}
