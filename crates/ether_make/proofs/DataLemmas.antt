-- What is found in an object of members that were put in one after another.
use Rattle.std.proofs.Common.{◌≡◌, ℕ, Bool, true, false, cond, ◌&&◌, List, [], ◌∷◌, Option, Some, None, bytes_eq, refl, sym, ap, ◌∙◌}
use Rattle.std.proofs.lemmas.Bool.{and_parts, true≢false}
use Rattle.std.proofs.lemmas.Slice.Eq.{bytes_eq-Decides}
use Rattle.std.specs.Prelude.{if◌then◌else◌}
use Rattle.std.specs.Option.{option_and_then}
use Rattle.std.specs.Cmp.Lexicographic.{slice_cmp}
use Rattle.std.specs.Ordering.{nat_cmp, match_ordering}
use Rattle.std.proofs.Common.{Ordering, Less, Equal, Greater}
use Rattle.serde_json.specs.Data.{Data, Num, number, string, Members, no_members, member, put}
use Rattle.serde_json.specs.Find.{get, get_member}
use Rattle.serde_json.proofs.Views.{get_member-put, get_member-put_other}
use Rattle.ether_format.specs.Members.{Member, Value}
use Rattle.ether_format.specs.Members as values
use Rattle.ether_format.specs.Spelling.{has_date}
use Rattle.ether_make.specs.Objects.{first_of, is_among, not_null, unknown_in, unknown_member}
use Rattle.ether_make.specs.PacketData.{value_data, members_into, members_data}

-- the value of the last member with this name, if there is one
abbrev pub latest : (name : List ℕ) → List Member → Option Data → Option Data
latest name [] o = o
latest name (m ∷ ms) o = latest name ms (cond (bytes_eq name m.name) (Some (value_data m.value)) o)

pub put_found : (t : Bool) (name k : List ℕ) (d : Data) (found : Members) → bytes_eq name k ≡ t
    → get_member name (put k d found) ≡ cond t (Some d) (get_member name found)
put_found true name k d found e = let same = (bytes_eq-Decides name k).0 e in rw same (get_member-put k d found)
put_found false name k d found e =
    get_member-put_other name k d found (λ same. true≢false (sym ((bytes_eq-Decides name k).1 same) ∙ e))

pub get_into : (name : List ℕ) (ms : List Member) (found : Members)
    → get_member name (members_into ms found) ≡ latest name ms (get_member name found)
get_into name [] found = refl
get_into name (m ∷ ms) found =
    get_into name ms (put m.name (value_data m.value) found)
    ∙ ap (latest name ms) (put_found (bytes_eq name m.name) name m.name (value_data m.value) found refl)

pub get_data : (name : List ℕ) (ms : List Member) → get name (members_data ms) ≡ latest name ms None
get_data name ms = get_into name ms no_members

-- ---- names that are known

abbrev pub all_known : (known : List (List ℕ)) → List Member → Bool
all_known known [] = true
all_known known (m ∷ ms) = is_among known m.name && all_known known ms

none_known : (t : Bool) (l : List ℕ) (o : Option (List ℕ)) → cond t o (Some l) ≡ None → (t ≡ true) × (o ≡ None)
none_known true l o e = (refl, e)
none_known false l o e = absurd (cc)

by_order : (known : List (List ℕ)) (o : Ordering) (a b c : Members) → unknown_in known a ≡ None
    → unknown_in known b ≡ None
    → unknown_in known c ≡ None → unknown_in known (match_ordering o a b c) ≡ None
by_order known Less a b c h k l = h
by_order known Equal a b c h k l = k
by_order known Greater a b c h k l = l

pub put_known : (known : List (List ℕ)) (k : List ℕ) (d : Data) (found : Members) → is_among known k ≡ true
    → unknown_in known found ≡ None → unknown_in known (put k d found) ≡ None
put_known known k d no_members h none = rw h refl
put_known known k d (member l e ms) h none =
    let parts = none_known (is_among known l) l (unknown_in known ms) none in
    by_order known (slice_cmp nat_cmp k l) _ _ _ (rw h none) (rw parts.0 parts.1)
    (rw parts.0 (put_known known k d ms h parts.1))

pub into_known : (known : List (List ℕ)) (ms : List Member) (found : Members) → all_known known ms ≡ true
    → unknown_in known found ≡ None → unknown_in known (members_into ms found) ≡ None
into_known known [] found h none = none
into_known known (m ∷ ms) found h none =
    let p = and_parts (is_among known m.name) (all_known known ms) h in
    into_known known ms (put m.name (value_data m.value) found) p.1 (put_known known m.name _ found p.0 none)

pub data_known : (known : List (List ℕ)) (ms : List Member) → all_known known ms ≡ true
    → unknown_member known (members_data ms) ≡ None
data_known known ms h = into_known known ms no_members h refl

-- ---- values that are no ranges

abbrev pub IsPlain : Option Data → Type 0
IsPlain o = option_and_then first_of (not_null o) ≡ not_null o

text_or_number_plain : (b : Bool) (s : List ℕ) (n : Num) → IsPlain (Some (if b then string s else number n))
text_or_number_plain true s n = refl
text_or_number_plain false s n = refl

value_plain : (v : Value) → IsPlain (Some (value_data v))
value_plain values.Nothing = refl
value_plain (values.Number n) = refl
value_plain (values.Protocol n) = refl
value_plain (values.Flag b) = refl
value_plain (values.Bytes bytes) = refl
value_plain (values.Dotted bytes) = refl
value_plain (values.Word word) = refl
value_plain (values.Text bytes) = refl
value_plain (values.Time m) = text_or_number_plain (has_date m) _ _
value_plain (values.Within interval m) = refl

cond_plain : (b : Bool) (v : Value) (o : Option Data) → IsPlain o → IsPlain (cond b (Some (value_data v)) o)
cond_plain true v o h = value_plain v
cond_plain false v o h = h

pub latest_plain : (name : List ℕ) (ms : List Member) (o : Option Data) → IsPlain o → IsPlain (latest name ms o)
latest_plain name [] o h = h
latest_plain name (m ∷ ms) o h =
    latest_plain name ms (cond (bytes_eq name m.name) (Some (value_data m.value)) o)
    (cond_plain (bytes_eq name m.name) m.value o h)
