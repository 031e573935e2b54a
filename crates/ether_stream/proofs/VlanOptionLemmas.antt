-- Which edit of VLAN tags a kind and a text ask for.
use Rattle.std.proofs.Common.{◌≡◌, ℕ, ◌<◌, List, true, Some, None, refl, sym, ap, subst, ◌∙◌, rules}
use Rattle.std.specs.Prelude.{Option, unwrap_or, IfSome, IfNone}
use Rattle.ether_base.specs.Formats.Vlan.{is_vlan_ether_type}
use Rattle.ether_filter.specs.Numerals.{number_in}
use Rattle.ether_content.specs.Editing.{EditValue, CutToHeaders, PopVlan, PushVlan, SetVlan}
use Rattle.ether_stream.specs.VlanOptions.{IsPair, IsTagEdit, push, set}
use Rattle.ether_format.specs.Splits.{SplitsAt}
use Rattle.ether_format.proofs.SplitLemmas.{one_split}
use Rattle.ether_stream.specs.declared.vlan_options.TagEdit.{TagEdit}
use Rattle.ether_stream.specs.declared.vlan_options.TagEdit.TheVariants as tag_edits

pub same_number : (m n : ℕ) (o : Option (Option ℕ)) → o ≡ Some (Some m) → o ≡ Some (Some n) → m ≡ n
same_number m n o e f = ap (λ (z : Option (Option ℕ)). unwrap_or (unwrap_or z (Some m)) m) (sym e ∙ f)

pair_one : (text : List ℕ) (m n k l : ℕ) → IsPair text m n → IsPair text k l → (m ≡ k) × (n ≡ l)
pair_one text m n k l p q =
    let same = one_split 58 refl text p.before p.after q.before q.after p.split q.split in search (rules, same_number)

-- ---- an edit

-- what an edit says of its kind and its text
abbrev Says : (kind : TagEdit) → (text : List ℕ) → EditValue → Type 0
Says kind text (PushVlan m n) = (kind ≡ tag_edits.Push) × IsPair text m n × (is_vlan_ether_type m ≡ true) × (n < 4096)
Says kind text (SetVlan m n) = (kind ≡ tag_edits.Set) × IsPair text m n × (m < 4096) × (n < 4096)
Says kind text other = ⊥

said : (kind : TagEdit) (text : List ℕ) (e : EditValue) → IsTagEdit kind text e → Says kind text e
said kind text e (push _ m n pair announces lt) = (refl, pair, announces, lt)
said kind text e (set _ m n pair lt less) = (refl, pair, lt, less)

kinds_apart : (kind : TagEdit) → kind ≡ tag_edits.Push → kind ≡ tag_edits.Set → ⊥
kinds_apart kind is other = let same : tag_edits.Push ≡ tag_edits.Set = sym is ∙ other in absurd cc

pub is_push : (kind : TagEdit) (text : List ℕ) (m n : ℕ) (e : EditValue) → kind ≡ tag_edits.Push → IsPair text m n
    → (e ≡ PushVlan m n) × (is_vlan_ether_type m ≡ true) × (n < 4096) → IsTagEdit kind text e
is_push kind text m n e is pair says =
    subst (λ k. IsTagEdit k text e) (sym is)
    (subst (IsTagEdit tag_edits.Push text) (sym says.0) (push text m n pair says.1 says.2))

pub is_set : (kind : TagEdit) (text : List ℕ) (m n : ℕ) (e : EditValue) → kind ≡ tag_edits.Set → IsPair text m n
    → (e ≡ SetVlan m n) × (m < 4096) × (n < 4096) → IsTagEdit kind text e
is_set kind text m n e is pair says =
    subst (λ k. IsTagEdit k text e) (sym is)
    (subst (IsTagEdit tag_edits.Set text) (sym says.0) (set text m n pair says.1 says.2))

-- ---- no edit

-- numbers that are no tag
not_pushed : (text : List ℕ) (m n : ℕ) → IsPair text m n → (is_vlan_ether_type m ≡ true → n < 4096 → ⊥)
    → (e : EditValue) → IsTagEdit tag_edits.Push text e → ⊥
not_pushed text m n pair never e is = never_says e (said tag_edits.Push text e is)
  where
    never_says : (e : EditValue) → Says tag_edits.Push text e → ⊥
    never_says CutToHeaders says = says
    never_says PopVlan says = says
    never_says (PushVlan k l) says =
        let same = pair_one text k l m n says.1 pair in
        never (subst (λ (i : ℕ). is_vlan_ether_type i ≡ true) same.0 says.2)
        (subst (λ (i : ℕ). i < 4096) same.1 says.3)
    never_says (SetVlan k l) says = kinds_apart tag_edits.Push refl says.0

-- .. or no two identifiers
not_set : (text : List ℕ) (m n : ℕ) → IsPair text m n → (m < 4096 → n < 4096 → ⊥) → (e : EditValue)
    → IsTagEdit tag_edits.Set text e → ⊥
not_set text m n pair never e is = never_says e (said tag_edits.Set text e is)
  where
    never_says : (e : EditValue) → Says tag_edits.Set text e → ⊥
    never_says CutToHeaders says = says
    never_says PopVlan says = says
    never_says (PushVlan k l) says = kinds_apart tag_edits.Set says.0 refl
    never_says (SetVlan k l) says =
        let same = pair_one text k l m n says.1 pair in
        never (subst (λ (i : ℕ). i < 4096) same.0 says.2) (subst (λ (i : ℕ). i < 4096) same.1 says.3)

pub no_push : (kind : TagEdit) (text : List ℕ) (m n : ℕ) → kind ≡ tag_edits.Push → IsPair text m n
    → (is_vlan_ether_type m ≡ true → n < 4096 → ⊥) → (e : EditValue) → IsTagEdit kind text e → ⊥
no_push kind text m n is pair never e edit =
    not_pushed text m n pair never e (subst (λ k. IsTagEdit k text e) is edit)

pub no_set : (kind : TagEdit) (text : List ℕ) (m n : ℕ) → kind ≡ tag_edits.Set → IsPair text m n
    → (m < 4096 → n < 4096 → ⊥) → (e : EditValue) → IsTagEdit kind text e → ⊥
no_set kind text m n is pair never e edit =
    not_set text m n pair never e (subst (λ k. IsTagEdit k text e) is edit)

pub none_then : {A : Type 0} (o : Option A) (P Q : Type 0) → IfNone o P → (P → Q) → IfNone o Q
none_then None P Q is then = then is
none_then (Some a) P Q is then = tt

pub some_then : {A : Type 0} (o : Option A) (P Q : A → Type 0) → IfSome o P → ((a : A) → P a → Q a) → IfSome o Q
some_then None P Q is then = tt
some_then (Some a) P Q is then = then a is

pub no_pair : (kind : TagEdit) (text : List ℕ) → ((m n : ℕ) → IsPair text m n → ⊥) → (e : EditValue)
    → IsTagEdit kind text e → ⊥
no_pair kind text none e (push _ m n pair announces lt) = none m n pair
no_pair kind text none e (set _ m n pair lt less) = none m n pair

-- parts that are no numbers
pub no_numbers : (text before after : List ℕ) → SplitsAt 58 text before after
    → ((m n : ℕ) → number_in before ≡ Some (Some m) → number_in after ≡ Some (Some n) → ⊥)
    → (m n : ℕ) → IsPair text m n → ⊥
no_numbers text before after split none m n pair =
    let same = one_split 58 refl text pair.before pair.after before after pair.split split in
    none m n (ap number_in (sym same.0) ∙ pair.first) (ap number_in (sym same.1) ∙ pair.second)
