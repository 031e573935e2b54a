-- The fields of keys as strings of JSON.
use Rattle.std.proofs.Common.{◌≡◌, zero, ◌<◌, ◌/◌, nat_lt, rules, length-append, ℕ, suc, ◌+◌, ◌≤◌, List, [], ◌∷◌, ◌++◌, codes, length, take, drop, Bool, true, false, Option, refl, sym, ap, ◌∙◌, append_assoc, append-nil, arith}
use Rattle.std.specs.Prelude.{◌==◌, if◌then◌else◌}
use Rattle.std.specs.List.{flat_map, join_by}
use Rattle.ether_output.specs.OutputBuffer.{Takes}
use Rattle.ether_output.specs.declared.output_buffer.OutputBuffer.{OutputBuffer}
use Rattle.ether_capture.specs.RowFields.{last_piece, pieces, row_fields}
use Rattle.std.proofs.lemmas.List.{length-drop, take_all}
use Rattle.ether_format.specs.Spelling.{json_text}
use Rattle.ether_format.specs.Values.{comma_if}
use Rattle.ether_capture.specs.KeyMembers.{texts_on}
use Rattle.ether_capture.specs.Statistics.{json_texts, key_members}
use Rattle.ether_output.proofs.OutputBufferLemmas.{Takes-then, Takes-same}

-- ---- the number of fields

few_pieces : (byte : ℕ) (before text : List ℕ) → length (pieces byte before text) ≤ length text
few_pieces byte before [] = omega arith
few_pieces byte before (b ∷ bs) = by (b == byte) (few_pieces byte [] bs) (few_pieces byte (before ++ b ∷ []) bs)
  where
    by : (c : Bool) → length (pieces byte [] bs) ≤ length bs → length (pieces byte (before ++ b ∷ []) bs) ≤ length bs
        → length (if c then before ∷ pieces byte [] bs else pieces byte (before ++ b ∷ []) bs) ≤ length (b ∷ bs)
    by true e f = omega (arith, e)
    by false e f = omega (arith, f)

-- ---- one after the other

-- the strings so far, and those that are left
pub record Writes {W : Type 0} (contents : W → Option (List ℕ)) (can_fail : Type 0) (old : OutputBuffer W)
    (is_first : Bool) (count left : ℕ) (all rest : List (List ℕ)) (new : OutputBuffer W) : Type 0 where
  pub done : List ℕ
  pub taken : Takes contents can_fail old (91 ∷ done) new
  pub parts : done ++ texts_on is_first (take left rest) ≡ texts_on true (take count all)
  pub same : drop left rest ≡ drop count all

pub begins : {W : Type 0} (contents : W → Option (List ℕ)) (can_fail : Type 0) (old new : OutputBuffer W) (count : ℕ)
    (all : List (List ℕ)) → Takes contents can_fail old (91 ∷ []) new
    → Writes contents can_fail old true count count all all new
begins contents can_fail old new count all t = record { done = []; taken = t; parts = refl; same = refl }

text_then : (b : Bool) (f : List ℕ) (fs : List (List ℕ))
    → texts_on b (f ∷ fs) ≡ (comma_if b ++ json_text f) ++ texts_on false fs
text_then b f fs = sym (append_assoc (comma_if b) (json_text f) (texts_on false fs))

pub next_text : {W : Type 0} (contents : W → Option (List ℕ)) (can_fail : Type 0) (old cur new : OutputBuffer W)
    (b : Bool) (count left n : ℕ) (all rest more : List (List ℕ)) (f : List ℕ) → left ≡ suc n → rest ≡ f ∷ more
    → Writes contents can_fail old b count left all rest cur
    → Takes contents can_fail cur (comma_if b ++ json_text f) new
    → Writes contents can_fail old false count n all more new
next_text contents can_fail old cur new b count left n all rest more f one is w t =
    let fields : take left rest ≡ f ∷ take n more = (λ i. take (one i) (is i)) in
    record {
      done = w.done ++ (comma_if b ++ json_text f);
      taken = Takes-then w.taken t;
      parts =
          append_assoc w.done (comma_if b ++ json_text f) (texts_on false (take n more))
          ∙ ap (λ l. w.done ++ l) (sym (text_then b f (take n more)))
          ∙ ap (λ l. w.done ++ texts_on b l) (sym fields) ∙ w.parts;
      same = (λ i. drop (sym one i) (sym is i)) ∙ w.same;
    }

-- ---- all of them

later : (fs : List (List ℕ)) → texts_on false fs ≡ flat_map (λ y. codes "," ++ json_text y) fs
later [] = refl
later (f ∷ fs) = ap (λ l. (44 ∷ json_text f) ++ l) (later fs)

joined : (fs : List (List ℕ)) → texts_on true fs ≡ join_by json_text (codes ",") fs
joined [] = refl
joined (f ∷ fs) = ap (λ l. json_text f ++ l) (later fs)

pub all_texts : {W : Type 0} (contents : W → Option (List ℕ)) (can_fail : Type 0) (old cur new : OutputBuffer W)
    (b : Bool) (count left : ℕ) (all rest : List (List ℕ)) → take left rest ≡ []
    → Writes contents can_fail old b count left all rest cur
    → Takes contents can_fail cur (codes "]") new
    → Takes contents can_fail old (json_texts (take count all)) new
all_texts contents can_fail old cur new b count left all rest none w t =
    let whole : w.done ≡ join_by json_text (codes ",") (take count all) =
    sym (append-nil w.done) ∙ ap (λ l. w.done ++ texts_on b l) (sym none) ∙ w.parts ∙ joined (take count all) in
    Takes-same (ap (λ l. 91 ∷ (l ++ codes "]")) whole) (Takes-then w.taken t)

pub none_left : (left : ℕ) (rest : List (List ℕ)) → left ≡ 0 → take left rest ≡ []
none_left left rest is = ap (λ n. take n rest) is

pub none_there : (left : ℕ) (rest : List (List ℕ)) → rest ≡ [] → take left rest ≡ []
none_there zero rest is = refl
none_there (suc n) rest is = ap (take (suc n)) is

pub fields_len : (text : List ℕ) → length (row_fields text) ≤ length text + 1
fields_len text = omega (arith, few_pieces 9 [] text, length-append (pieces 9 [] text) (last_piece 9 [] text ∷ []))

-- ---- of several columns

pub tuple_text : (fields values : List (List ℕ)) (n : ℕ) → n ≡ length fields → 2 < n → values ≡ drop (n / 2) fields
    → codes "\"columns\":" ++ (json_texts (take (n / 2) fields)
    ++ (codes ",\"values\":" ++ json_texts (take n values)))
    ≡ key_members fields
tuple_text fields values n count several rest =
    let short : length values ≤ n = omega (arith, ap length rest ∙ length-drop (n / 2) fields, count) in
    let all : take n values ≡ drop (length fields / 2) fields =
    take_all n values short ∙ rest ∙ ap (λ k. drop (k / 2) fields) count in
    let is : nat_lt 2 (length fields) ≡ true = search (rules, several, count) in
    rw is ((λ i. codes "\"columns\":" ++ (json_texts (take (count i / 2) fields)
    ++ (codes ",\"values\":" ++ json_texts (all i)))))
