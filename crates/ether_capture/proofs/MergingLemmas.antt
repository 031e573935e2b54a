-- Counts that are added up.
use Rattle.std.proofs.Common.{◌≡◌, ℕ, suc, ◌+◌, ◌-◌, ◌^◌, ◌≤◌, ◌<◌, List, [], ◌∷◌, ◌++◌, length, map, take, slice_index_or, true, false, refl, sym, ap, subst, ◌∙◌, arith, append_assoc, append-nil}
use Rattle.std.specs.Prelude.{◌==◌}
use Rattle.std.specs.Fmt.{decimal}
use Rattle.std.specs.List.{All, AllByRecursion, flat_map}
use Rattle.std.specs.Str.Parse.{AllDigits}
use Rattle.std.proofs.lemmas.Str.Parse.{IsNumeralModel, digit_from_value, numerals_by_fold, tells_digits}
use Rattle.std.proofs.lemmas.Bool.{eq-eqb, ne_eqb}
use Rattle.std.proofs.lemmas.Fmt.{decimal_nonempty, digits_decimal, digits_value-decimal}
use Rattle.std.proofs.lemmas.List.Elements.{All-append, All-cons, All-nil}
use Rattle.std.proofs.Math.Seq.{take-suc}
use Rattle.ether_capture.specs.KeyCounts.{Hit}
use Rattle.ether_capture.specs.RowFields.{decimal_value, last_piece, lines_of, pieces}
use Rattle.ether_capture.specs.Statistics.{StatisticsRow, fields_line}
use Rattle.ether_capture.specs.Merging.{AreCountLines, IsCountLine, IsDigit, IsNumber}
use Rattle.ether_capture.proofs.KeyCountLemmas.{Fits}
use Rattle.ether_capture.proofs.FieldLemmas.{last_after, last_none, pieces_after, pieces_none}
use Rattle.ether_capture.proofs.LackLemmas.{Lacks, both, lacks_all}

-- ---- numbers

spells : IsNumeralModel (AllDigits 10) (decimal_value 0)
spells =
    numerals_by_fold (AllDigits 10) tells_digits decimal_value
    (record { empty = λ n. refl; more = λ n c cs d. refl })

are_digits : (ds : List ℕ) → AllDigits 10 ds → All IsDigit ds
are_digits [] all = All-nil IsDigit
are_digits (d ∷ ds) all = All-cons IsDigit d ds (digit_from_value d all.0) (are_digits ds all.1)

-- a number that is written is read
written_number : (n : ℕ) → n ≤ 2 ^ 64 - 1 → IsNumber (decimal n) n
written_number n small =
    let below : n < 2 ^ 64 = omega (arith, small) in
    let value : decimal_value 0 (decimal n) ≡ n = digits_value-decimal spells n below in
    record {
      some = λ none. let long = decimal_nonempty n below in
          let zero : length (decimal n) ≡ 0 = ap length none in omega (arith, long, zero);
      all = are_digits (decimal n) (digits_decimal spells n below);
      value = sym value;
      fits = below;
    }

-- ---- a line is that of one count

digits_lack : (k : ℕ) (ds : List ℕ) → k < 48 → All IsDigit ds → Lacks k ds
digits_lack k [] lt all = tt
digits_lack k (d ∷ ds) lt all =
    let here = all 0 0 (omega arith) in
    (ne_eqb d k (omega (arith, here.0, lt)), digits_lack k ds lt (λ j e l. all (suc j) e (omega (arith, l))))

all_lack : (k : ℕ) (bs : List ℕ) → All (λ b. (b == k) ≡ false) bs → Lacks k bs
all_lack k [] none = tt
all_lack k (b ∷ bs) none = (none 0 0 (omega arith), all_lack k bs (λ j e lt. none (suc j) e (omega (arith, lt))))

-- what follows the last byte k
no_byte : (k : ℕ) (xs bs : List ℕ) → Lacks k (xs ++ k ∷ bs) → ⊥
no_byte k [] bs l = let e : true ≡ false = sym (eq-eqb k k refl) ∙ l.0 in absurd cc
no_byte k (x ∷ xs) bs l = no_byte k xs bs l.1

abbrev rest_of : List ℕ → List ℕ
rest_of [] = []
rest_of (x ∷ xs) = xs

abbrev head_of : List ℕ → ℕ
head_of [] = 0
head_of (x ∷ xs) = x

same_split : (k : ℕ) (xs ys bs cs : List ℕ) → Lacks k bs → Lacks k cs → xs ++ k ∷ bs ≡ ys ++ k ∷ cs
    → (xs ≡ ys) × (bs ≡ cs)
same_split k [] [] bs cs l m e = (refl, ap rest_of e)
same_split k [] (y ∷ ys) bs cs l m e = absurd (no_byte k ys cs (subst (Lacks k) (ap rest_of e) l))
same_split k (x ∷ xs) [] bs cs l m e = absurd (no_byte k xs bs (subst (Lacks k) (sym (ap rest_of e)) m))
same_split k (x ∷ xs) (y ∷ ys) bs cs l m e =
    let same = same_split k xs ys bs cs l m (ap rest_of e) in (λ i. head_of (e i) ∷ same.0 i, same.1)

same_number : (ds es : List ℕ) (m n : ℕ) → ds ≡ es → IsNumber ds m → IsNumber es n → m ≡ n
same_number ds es m n same a b = a.value ∙ ap (decimal_value 0) same ∙ sym b.value

one_hit : (line : List ℕ) (h k : Hit) → IsCountLine line h → IsCountLine line k → h ≡ k
one_hit line h k a b =
    let last = same_split 9 (h.key ++ 9 ∷ a.packets) (k.key ++ 9 ∷ b.packets) a.bytes b.bytes
    (digits_lack 9 a.bytes (omega arith) a.are_bytes.all) (digits_lack 9 b.bytes (omega arith) b.are_bytes.all)
    (append_assoc h.key (9 ∷ a.packets) (9 ∷ a.bytes) ∙ sym a.parts ∙ b.parts
    ∙ sym (append_assoc k.key (9 ∷ b.packets) (9 ∷ b.bytes))) in
    let first = same_split 9 h.key k.key a.packets b.packets
    (digits_lack 9 a.packets (omega arith) a.are_packets.all) (digits_lack 9 b.packets (omega arith) b.are_packets.all)
    last.0 in
    let packets = same_number a.packets b.packets h.count.packets k.count.packets first.1 a.are_packets b.are_packets in
    let bytes = same_number a.bytes b.bytes h.count.bytes k.count.bytes last.1 a.are_bytes b.are_bytes in
    λ i. record { key = first.0 i; count = record { packets = packets i; bytes = bytes i } }

pub one_list : (lines : List (List ℕ)) (hs ks : List Hit) → AreCountLines lines hs → AreCountLines lines ks → hs ≡ ks
one_list [] [] [] a b = refl
one_list [] [] (k ∷ ks) a b = absurd b
one_list [] (h ∷ hs) ks a b = absurd a
one_list (l ∷ ls) [] ks a b = absurd a
one_list (l ∷ ls) (h ∷ hs) [] a b = absurd b
one_list (l ∷ ls) (h ∷ hs) (k ∷ ks) a b =
    let first = one_hit l h k a.0 b.0 in
    let others = one_list ls hs ks a.1 b.1 in λ i. first i ∷ others i

-- ---- the lines of counts that are written

abbrev pub row_hit : StatisticsRow → Hit
row_hit r = record { key = r.key; count = r.count }

-- a line without its line feed
abbrev row_line : StatisticsRow → List ℕ
row_line r = r.key ++ (9 ∷ (decimal r.count.packets ++ (9 ∷ decimal r.count.bytes)))

row_is_line : (r : StatisticsRow) → Fits r.count → IsCountLine (row_line r) (row_hit r)
row_is_line r fits = record {
  packets = decimal r.count.packets;
  bytes = decimal r.count.bytes;
  parts = refl;
  are_packets = written_number r.count.packets fits.0;
  are_bytes = written_number r.count.bytes fits.1;
}

row_lacks : (r : StatisticsRow) → Lacks 10 r.key → Fits r.count → Lacks 10 (row_line r)
row_lacks r key fits =
    let packets = digits_lack 10 (decimal r.count.packets) (omega arith) (written_number r.count.packets fits.0).all in
    let bytes = digits_lack 10 (decimal r.count.bytes) (omega arith) (written_number r.count.bytes fits.1).all in
    both (λ b. (b == 10) ≡ false) r.key (9 ∷ (decimal r.count.packets ++ (9 ∷ decimal r.count.bytes))) key
    (refl, both (λ b. (b == 10) ≡ false) (decimal r.count.packets) (9 ∷ decimal r.count.bytes) packets (refl, bytes))

line_ended : (r : StatisticsRow) → fields_line r ≡ row_line r ++ 10 ∷ []
line_ended r =
    sym
    (append_assoc r.key (9 ∷ (decimal r.count.packets ++ (9 ∷ decimal r.count.bytes))) (10 ∷ [])
    ∙ ap (λ l. r.key ++ 9 ∷ l) (append_assoc (decimal r.count.packets) (9 ∷ decimal r.count.bytes) (10 ∷ [])))

-- a row whose line can be read again
abbrev pub IsRead : StatisticsRow → Type 0
IsRead r = Lacks 10 r.key × Fits r.count

first_piece : (line rest : List ℕ) → Lacks 10 line → lines_of ((line ++ 10 ∷ []) ++ rest) ≡ line ∷ lines_of rest
first_piece line rest lacks =
    let all = lacks_all 10 line lacks in
    ap lines_of (append_assoc line (10 ∷ []) rest) ∙ pieces_after 10 [] line (10 ∷ rest)
    ∙ (λ i. pieces_none 10 [] line all i ++ pieces 10 (last_none 10 [] line all i) (10 ∷ rest))

first_last : (line rest : List ℕ) → Lacks 10 line → last_piece 10 [] ((line ++ 10 ∷ []) ++ rest) ≡ last_piece 10 [] rest
first_last line rest lacks =
    let all = lacks_all 10 line lacks in
    ap (last_piece 10 []) (append_assoc line (10 ∷ []) rest) ∙ last_after 10 [] line (10 ∷ rest)
    ∙ (λ i. last_piece 10 (last_none 10 [] line all i) (10 ∷ rest))

abbrev rows_text : List StatisticsRow → List ℕ
rows_text = flat_map fields_line

rows_lines : (rows : List StatisticsRow) (rest : List ℕ) → AllByRecursion IsRead rows
    → lines_of (rows_text rows ++ rest) ≡ map row_line rows ++ lines_of rest
rows_lines [] rest read = refl
rows_lines (r ∷ rs) rest read =
    ap lines_of
    (append_assoc (fields_line r) (rows_text rs) rest ∙ ap (λ l. l ++ (rows_text rs ++ rest)) (line_ended r))
    ∙ first_piece (row_line r) (rows_text rs ++ rest) (row_lacks r read.0.0 read.0.1)
    ∙ ap (λ l. row_line r ∷ l) (rows_lines rs rest read.1)

rows_last : (rows : List StatisticsRow) (rest : List ℕ) → AllByRecursion IsRead rows
    → last_piece 10 [] (rows_text rows ++ rest) ≡ last_piece 10 [] rest
rows_last [] rest read = refl
rows_last (r ∷ rs) rest read =
    ap (last_piece 10 [])
    (append_assoc (fields_line r) (rows_text rs) rest ∙ ap (λ l. l ++ (rows_text rs ++ rest)) (line_ended r))
    ∙ first_last (row_line r) (rows_text rs ++ rest) (row_lacks r read.0.0 read.0.1) ∙ rows_last rs rest read.1

are_lines : (rows : List StatisticsRow) → AllByRecursion IsRead rows
    → AreCountLines (map row_line rows) (map row_hit rows)
are_lines [] read = tt
are_lines (r ∷ rs) read = (row_is_line r read.0.1, are_lines rs read.1)

pub lines_append : (ls ms : List (List ℕ)) (hs ks : List Hit) → AreCountLines ls hs → AreCountLines ms ks
    → AreCountLines (ls ++ ms) (hs ++ ks)
lines_append [] ms [] ks a b = b
lines_append [] ms (h ∷ hs) ks a b = absurd a
lines_append (l ∷ ls) ms [] ks a b = absurd a
lines_append (l ∷ ls) ms (h ∷ hs) ks a b = (a.0, lines_append ls ms hs ks a.1 b)

-- the lines of two summaries are those of their rows
pub both_lines : (rows others : List StatisticsRow) → AllByRecursion IsRead rows → AllByRecursion IsRead others
    → AreCountLines (lines_of (rows_text rows ++ rows_text others)) (map row_hit rows ++ map row_hit others)
both_lines rows others a b =
    let second : lines_of (rows_text others) ≡ map row_line others =
    ap lines_of (sym (append-nil (rows_text others))) ∙ rows_lines others [] b ∙ append-nil (map row_line others) in
    subst (λ l. AreCountLines l (map row_hit rows ++ map row_hit others))
    (sym (rows_lines rows (rows_text others) a ∙ ap (λ l. map row_line rows ++ l) second))
    (lines_append (map row_line rows) (map row_line others) (map row_hit rows) (map row_hit others) (are_lines rows a)
    (are_lines others b))

-- ---- a line is that of no count

-- no number follows a tab
abbrev pub NoNumber : (text : List ℕ) → Type 0
NoNumber text = (front digits : List ℕ) (number : ℕ) → text ≡ front ++ 9 ∷ digits → ¬ (IsNumber digits number)

pub without_tab : (text : List ℕ) → All (λ b. (b == 9) ≡ false) text → NoNumber text
without_tab text none front digits number is n = no_byte 9 front digits (subst (Lacks 9) is (all_lack 9 text none))

pub after_last_tab : (text before after : List ℕ) → text ≡ before ++ 9 ∷ after → All (λ b. (b == 9) ≡ false) after
    → ((number : ℕ) → ¬ (IsNumber after number)) → NoNumber text
after_last_tab text before after is none other front digits number parts n =
    let same = same_split 9 before front after digits (all_lack 9 after none) (digits_lack 9 digits (omega arith) n.all)
    (sym is ∙ parts) in other number (subst (λ l. IsNumber l number) (sym same.1) n)

pub no_count : (line : List ℕ) → NoNumber line → (h : Hit) → ¬ (IsCountLine line h)
no_count line none h c =
    none (h.key ++ 9 ∷ c.packets) c.bytes h.count.bytes
    (c.parts ∙ sym (append_assoc h.key (9 ∷ c.packets) (9 ∷ c.bytes))) c.are_bytes

pub no_count_before : (line front digits : List ℕ) (number : ℕ) → line ≡ front ++ 9 ∷ digits → IsNumber digits number
    → NoNumber front → (h : Hit) → ¬ (IsCountLine line h)
no_count_before line front digits number is n none h c =
    let same = same_split 9 front (h.key ++ 9 ∷ c.packets) digits c.bytes (digits_lack 9 digits (omega arith) n.all)
    (digits_lack 9 c.bytes (omega arith) c.are_bytes.all)
    (sym is ∙ c.parts ∙ sym (append_assoc h.key (9 ∷ c.packets) (9 ∷ c.bytes))) in
    none h.key c.packets h.count.packets same.0 c.are_packets

-- ---- digits one after the other

pub digits_more : (text : List ℕ) (i : ℕ) → i < length text → All IsDigit (take i text)
    → IsDigit (slice_index_or text i 0) → All IsDigit (take (i + 1) text)
digits_more text i lt all here =
    let one : i + 1 ≡ suc i = omega arith in
    subst (All IsDigit) (sym (ap (λ n. take n text) one ∙ take-suc text i 0 lt))
    (All-append IsDigit (take i text) (slice_index_or text i 0 ∷ []) all
    (All-cons IsDigit (slice_index_or text i 0) [] here (All-nil IsDigit)))
