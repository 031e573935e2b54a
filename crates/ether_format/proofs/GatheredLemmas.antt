-- What is gathered of a packet for the columns of a row.
use Rattle.std.proofs.Common.{◌≡◌, ◌⊎◌, inl, inr, ℕ, List, [], ◌∷◌, ◌++◌, length, map, drop, ◌≤◌, Bool, true, false, Option, refl, sym, ap, subst, ◌∙◌, append_assoc, append-nil, arith}
use Rattle.std.specs.Prelude.{◌||◌, ◌&&◌, nat_eq}
use Rattle.std.proofs.lemmas.List.{drop_all, length-append, length-map, map-append}
use Rattle.std.proofs.lemmas.Bool.{eqb-true}
use Rattle.ether_pcap.specs.Capture.{PacketValue}
use Rattle.ether_content.specs.Content.{content_of}
use Rattle.ether_fields.specs.declared.section.Section.{Section}
use Rattle.ether_fields.specs.declared.section.Section.TheVariants as sections
use Rattle.ether_format.specs.declared.column.Column.{Column}
use Rattle.ether_format.specs.declared.end.End.{End}
use Rattle.ether_format.specs.declared.found.Found.{Found}
use Rattle.ether_format.specs.declared.gathered.Gatherer.{Gatherer}
use Rattle.ether_format.specs.declared.gathered.Sections.{Sections}
use Rattle.ether_format.specs.Columns.{column_view}
use Rattle.ether_format.specs.Found.{found_told}
use Rattle.ether_format.specs.Gathered.{Gathers, GathersIf, shown_values}
use Rattle.ether_format.specs.GatheredSections.{added_to, has_section, new_gatherer}
use Rattle.ether_format.specs.Told.{Tells, Told, told_section}
use Rattle.ether_format.specs.Members.{Value}
use Rattle.ether_format.specs.Values.{column_on, header_shown, still_first}
use Rattle.ether_format.specs.Visits.{Visited}
use Rattle.ether_format.proofs.ColumnLemmas.{in_none}
use Rattle.ether_format.proofs.ListLemmas.{flat_map-append}
use Rattle.ether_format.proofs.Names.{true_false}
use Rattle.ether_format.proofs.RowLemmas.{more}

-- ---- sections

or_right : (a b : Bool) → b ≡ true → (a || b) ≡ true
or_right true b is = refl
or_right false b is = is

kept_vlan : (l : Sections) (s : Section) → has_section l s ≡ true
    → has_section (record l { has_vlan = true }) s ≡ true
kept_vlan l sections.Frame is = is
kept_vlan l sections.Eth is = is
kept_vlan l sections.Sll is = is
kept_vlan l sections.Sll2 is = is
kept_vlan l sections.Vlan is = refl
kept_vlan l sections.Macsec is = is
kept_vlan l sections.Arp is = is
kept_vlan l sections.Headers is = refl
kept_vlan l sections.Rest is = is
kept_vlan l sections.Fault is = is

kept_macsec : (l : Sections) (s : Section) → has_section l s ≡ true
    → has_section (record l { has_macsec = true }) s ≡ true
kept_macsec l sections.Frame is = is
kept_macsec l sections.Eth is = is
kept_macsec l sections.Sll is = is
kept_macsec l sections.Sll2 is = is
kept_macsec l sections.Vlan is = is
kept_macsec l sections.Macsec is = refl
kept_macsec l sections.Arp is = is
kept_macsec l sections.Headers is = or_right l.has_vlan _ refl
kept_macsec l sections.Rest is = is
kept_macsec l sections.Fault is = is

kept_arp : (l : Sections) (s : Section) → has_section l s ≡ true
    → has_section (record l { has_arp = true }) s ≡ true
kept_arp l sections.Frame is = is
kept_arp l sections.Eth is = is
kept_arp l sections.Sll is = is
kept_arp l sections.Sll2 is = is
kept_arp l sections.Vlan is = is
kept_arp l sections.Macsec is = is
kept_arp l sections.Arp is = refl
kept_arp l sections.Headers is = or_right l.has_vlan _ (or_right l.has_macsec _ refl)
kept_arp l sections.Rest is = is
kept_arp l sections.Fault is = is

kept_others : (l : Sections) (s : Section) → has_section l s ≡ true
    → has_section (record l { has_others = true }) s ≡ true
kept_others l sections.Frame is = refl
kept_others l sections.Eth is = refl
kept_others l sections.Sll is = refl
kept_others l sections.Sll2 is = refl
kept_others l sections.Vlan is = is
kept_others l sections.Macsec is = is
kept_others l sections.Arp is = is
kept_others l sections.Headers is = or_right l.has_vlan _ (or_right l.has_macsec _ (or_right l.has_arp _ refl))
kept_others l sections.Rest is = refl
kept_others l sections.Fault is = refl

-- a section that is there remains there
still_there : (l : Sections) (t s : Section) → has_section l s ≡ true → has_section (added_to l t) s ≡ true
still_there l sections.Frame s is = kept_others l s is
still_there l sections.Eth s is = kept_others l s is
still_there l sections.Sll s is = kept_others l s is
still_there l sections.Sll2 s is = kept_others l s is
still_there l sections.Vlan s is = kept_vlan l s is
still_there l sections.Macsec s is = kept_macsec l s is
still_there l sections.Arp s is = kept_arp l s is
still_there l sections.Headers s is = kept_others l s is
still_there l sections.Rest s is = kept_others l s is
still_there l sections.Fault s is = kept_others l s is

-- .. and so is the one that is added
now_there : (l : Sections) (t : Section) → has_section (added_to l t) t ≡ true
now_there l sections.Frame = refl
now_there l sections.Eth = refl
now_there l sections.Sll = refl
now_there l sections.Sll2 = refl
now_there l sections.Vlan = refl
now_there l sections.Macsec = refl
now_there l sections.Arp = refl
now_there l sections.Headers = or_right l.has_vlan _ (or_right l.has_macsec _ (or_right l.has_arp _ refl))
now_there l sections.Rest = refl
now_there l sections.Fault = refl

-- a column of all headers has a value in each
all_there : (l : Sections) (t : Section) → has_section (added_to l t) sections.Headers ≡ true
all_there l sections.Frame = or_right l.has_vlan _ (or_right l.has_macsec _ (or_right l.has_arp _ refl))
all_there l sections.Eth = or_right l.has_vlan _ (or_right l.has_macsec _ (or_right l.has_arp _ refl))
all_there l sections.Sll = or_right l.has_vlan _ (or_right l.has_macsec _ (or_right l.has_arp _ refl))
all_there l sections.Sll2 = or_right l.has_vlan _ (or_right l.has_macsec _ (or_right l.has_arp _ refl))
all_there l sections.Vlan = refl
all_there l sections.Macsec = or_right l.has_vlan _ refl
all_there l sections.Arp = or_right l.has_vlan _ (or_right l.has_macsec _ refl)
all_there l sections.Headers = or_right l.has_vlan _ (or_right l.has_macsec _ (or_right l.has_arp _ refl))
all_there l sections.Rest = or_right l.has_vlan _ (or_right l.has_macsec _ (or_right l.has_arp _ refl))
all_there l sections.Fault = or_right l.has_vlan _ (or_right l.has_macsec _ (or_right l.has_arp _ refl))

-- ---- headers after the first four

-- all further headers are left out, and their sections are there
pub record LeftOut (g : Gatherer) (kept : List Found) (hs : List Told) (h : Gatherer) (new : List Found) : Type 0 where
  pub same : new ≡ kept
  pub apart : (s : Section) (i : ℕ) → has_section h.later s ≡ false
      → shown_values (column_view (record { section = s; index = i })) hs ≡ []
  pub there : (s : Section) → has_section g.later s ≡ true → has_section h.later s ≡ true
  pub none : h.has_later ≡ false → hs ≡ []
  pub some : g.has_later ≡ true → h.has_later ≡ true

pub left_out : (g : Gatherer) (kept : List Found) (hs : List Told) (h : Gatherer) (new : List Found) → length kept ≡ 4
    → Visited Gathers g kept hs h new → LeftOut g kept hs h new
left_out g kept [] h new full visited = record {
  same = visited.1;
  apart = λ s i other. refl;
  there = λ s is. ap (λ (k : Gatherer). has_section k.later s) visited.0 ∙ is;
  none = λ is. refl;
  some = λ is. ap (λ (k : Gatherer). k.has_later) visited.0 ∙ is;
}
left_out g kept (t ∷ hs) h new full visited =
    let x = visited.0 in
    let step = subst (λ (b : Bool). GathersIf b g kept t x visited.1) (ap (λ (n : ℕ). nat_eq n 4) full) visited.2 in
    let rest = left_out x visited.1 hs h new (ap length step.1 ∙ full) visited.3 in
    let added : x.later ≡ added_to g.later (told_section t) = ap (λ (k : Gatherer). k.later) step.0 in
    let there : (s : Section) → has_section (added_to g.later (told_section t)) s ≡ true
    → has_section h.later s ≡ true =
    λ s is. rest.there s (ap (λ (l : Sections). has_section l s) added ∙ is) in
    record {
      same = rest.same ∙ step.1;
      apart = λ s i other.
          let own : s ≡ told_section t → ⊥ = λ is. true_false
          (sym (there s (ap (has_section (added_to g.later (told_section t))) is ∙ now_there g.later (told_section t)))
          ∙ other) in
          let all : s ≡ sections.Headers → ⊥ = λ is. true_false
          (sym (there s (ap (has_section (added_to g.later (told_section t))) is ∙ all_there g.later (told_section t)))
          ∙ other) in
          λ k. in_none s i t own all k ++ rest.apart s i other k;
      there = λ s is. there s (still_there g.later (told_section t) s is);
      none = λ is. absurd (true_false (sym (rest.some (ap (λ (k : Gatherer). k.has_later) step.0)) ∙ is));
      some = λ is. rest.some (ap (λ (k : Gatherer). k.has_later) step.0);
    }

-- ---- all headers

-- those that are kept come first, and the others have no value in a column whose section is not there
pub record Kept (kept : List Found) (hs : List Told) (h : Gatherer) (new : List Found) : Type 0 where
  pub later : List Told
  pub whole : map found_told kept ++ hs ≡ map found_told new ++ later
  pub full : (later ≡ []) ⊎ (length new ≡ 4)
  pub apart : (s : Section) (i : ℕ) → has_section h.later s ≡ false
      → shown_values (column_view (record { section = s; index = i })) later ≡ []
  pub none : h.has_later ≡ false → later ≡ []

pub all_kept : (g : Gatherer) (kept : List Found) (hs : List Told) (h : Gatherer) (new : List Found)
    → Visited Gathers g kept hs h new → Kept kept hs h new
all_kept g kept [] h new visited = record {
  later = [];
  whole = ap (λ (l : List Found). map found_told l ++ []) (sym visited.1);
  full = inl refl;
  apart = λ s i other. refl;
  none = λ is. refl;
}
all_kept g kept (t ∷ hs) h new visited =
    by (nat_eq (length kept) 4) refl visited.2 (all_kept visited.0 visited.1 hs h new visited.3)
  where
    full_is : (n : ℕ) → nat_eq n 4 ≡ true → n ≡ 4
    full_is n is = eqb-true n 4 is

    by : (b : Bool) → nat_eq (length kept) 4 ≡ b → GathersIf b g kept t visited.0 visited.1
        → Kept visited.1 hs h new → Kept kept (t ∷ hs) h new
    by true is step rest =
        let full = full_is (length kept) is in
        let out = left_out g kept (t ∷ hs) h new full visited in
        record {
          later = t ∷ hs;
          whole = ap (λ (l : List Found). map found_told l ++ (t ∷ hs)) (sym out.same);
          full = inr (ap length out.same ∙ full);
          apart = out.apart;
          none = out.none;
        }
    by false is step rest =
        let f = step.1.0 in
        record {
          later = rest.later;
          whole =
              sym (append_assoc (map found_told kept) (t ∷ []) hs)
              ∙ ap (λ (k : Told). (map found_told kept ++ (k ∷ [])) ++ hs) (sym step.1.1)
              ∙ ap (λ (l : List Told). l ++ hs) (sym (map-append found_told kept (f ∷ [])))
              ∙ ap (λ (l : List Found). map found_told l ++ hs) (sym step.1.2) ∙ rest.whole;
          full = rest.full;
          apart = rest.apart;
          none = rest.none;
        }

-- the headers after the first four
drop_four : (l k : List Told) → length l ≡ 4 → drop 4 (l ++ k) ≡ k
drop_four [] k is = absurd (omega (arith, is))
drop_four (a ∷ []) k is = absurd (omega (arith, is))
drop_four (a ∷ b ∷ []) k is = absurd (omega (arith, is))
drop_four (a ∷ b ∷ c ∷ []) k is = absurd (omega (arith, is))
drop_four (a ∷ b ∷ c ∷ d ∷ []) k is = refl
drop_four (a ∷ b ∷ c ∷ d ∷ e ∷ l) k is = absurd (omega (arith, is))

pub later_four : (new : List Found) (later : List Told) → length new ≡ 4
    → drop 4 (map found_told new ++ later) ≡ later
later_four new later is = drop_four (map found_told new) later (length-map new found_told ∙ is)

-- ---- the values of a column in what was gathered

few : (g : Gatherer) (kept : List Found) (hs : List Told) (h : Gatherer) (new : List Found) → length kept ≤ 4
    → Visited Gathers g kept hs h new → length new ≤ 4
few g kept [] h new le visited = subst (λ (l : List Found). length l ≤ 4) (sym visited.1) le
few g kept (t ∷ hs) h new le visited = few visited.0 visited.1 hs h new (by (nat_eq (length kept) 4) refl visited.2)
    visited.3
  where
    by : (b : Bool) → nat_eq (length kept) 4 ≡ b → GathersIf b g kept t visited.0 visited.1 → length visited.1 ≤ 4
    by true is step = subst (λ (l : List Found). length l ≤ 4) (sym step.1) le
    by false is step =
        let f = step.1.0 in
        let len = ap length step.1.2 ∙ length-append kept (f ∷ []) in
        let other : length kept ≡ 4 → ⊥ = λ four. true_false (sym (ap (λ (n : ℕ). nat_eq n 4) four) ∙ is) in
        omega (arith, len, le, other)

after_few : (new : List Found) (later : List Told) → length new ≤ 4 → (later ≡ []) ⊎ (length new ≡ 4)
    → drop 4 (map found_told new ++ later) ≡ later
after_few new later le (inr four) = later_four new later four
after_few new later le (inl none) =
    let len = length-map new found_told in
    subst (λ (l : List Told). drop 4 (map found_told new ++ l) ≡ l) (sym none)
    (ap (drop 4) (append-nil (map found_told new)) ∙ drop_all 4 (map found_told new) (omega (arith, len, le)))

pub gathered_values : (c : Column) (found : List Found) (g : Gatherer) (told : List Told)
    → Visited Gathers new_gatherer [] told g found
    → column_on true (shown_values (column_view c) (map found_told found))
    ++ column_on (still_first true (shown_values (column_view c) (map found_told found)))
    (shown_values (column_view c) (drop 4 told))
    ≡ column_on true (shown_values (column_view c) told)
gathered_values c found g told visited =
    let all = all_kept new_gatherer [] told g found visited in
    let le = few new_gatherer [] told g found (omega arith) visited in
    let vs = shown_values (column_view c) (map found_told found) in
    let rest : drop 4 told ≡ all.later = ap (drop 4) all.whole ∙ after_few found all.later le all.full in
    ap (λ (l : List Told). column_on true vs ++ column_on (still_first true vs) (shown_values (column_view c) l)) rest
    ∙ sym (more true vs (shown_values (column_view c) all.later))
    ∙ ap (column_on true) (sym (flat_map-append (header_shown (column_view c)) (map found_told found) all.later))
    ∙ ap (λ (l : List Told). column_on true (shown_values (column_view c) l)) (sym all.whole)

-- .. if none of the others has one
pub all_values_kept : (c : Column) (found : List Found) (g : Gatherer) (told : List Told)
    → Visited Gathers new_gatherer [] told g found → (g.has_later && has_section g.later c.section) ≡ false
    → shown_values (column_view c) (map found_told found) ≡ shown_values (column_view c) told
all_values_kept c found g told visited none =
    let all = all_kept new_gatherer [] told g found visited in
    let vs = shown_values (column_view c) (map found_told found) in
    let apart : shown_values (column_view c) all.later ≡ [] = by g.has_later refl none all.none
    (all.apart c.section c.index) in
    sym (append-nil vs) ∙ ap (λ (l : List Value). vs ++ l) (sym apart)
    ∙ sym (flat_map-append (header_shown (column_view c)) (map found_told found) all.later)
    ∙ ap (λ (l : List Told). shown_values (column_view c) l) (sym all.whole)
  where
    by : {later : List Told} (b : Bool) → g.has_later ≡ b → (b && has_section g.later c.section) ≡ false
        → (g.has_later ≡ false → later ≡ [])
        → (has_section g.later c.section ≡ false → shown_values (column_view c) later ≡ [])
        → shown_values (column_view c) later ≡ []
    by true is none empty apart = apart none
    by false is none empty apart = ap (shown_values (column_view c)) (empty is)

pub later_values : (c : Column) (found : List Found) (g : Gatherer) (told : List Told)
    → Visited Gathers new_gatherer [] told g found → (g.has_later && has_section g.later c.section) ≡ false
    → column_on true (shown_values (column_view c) (map found_told found))
    ≡ column_on true (shown_values (column_view c) told)
later_values c found g told visited none = ap (column_on true) (all_values_kept c found g told visited none)

-- the headers in what holds a list of them
pub items_visited : {T : Type 0} (items : T → List Found) (g : Gatherer) (kept : T) (hs : List Told) (h : Gatherer)
    (new : T)
    → Visited (λ (x : Gatherer) (l : T) (t : Told) (y : Gatherer) (k : T). Gathers x (items l) t y (items k)) g kept
    hs h new
    → Visited Gathers g (items kept) hs h (items new)
items_visited items g kept [] h new visited = (visited.0, ap items visited.1)
items_visited items g kept (t ∷ hs) h new visited =
    (visited.0, items visited.1, visited.2, items_visited items visited.0 visited.1 hs h new visited.3)

-- the headers of a packet, gathered by a visit
pub walk_gathered : {T : Type 0} (items : T → List Found) (limit : Option ℕ) (p : PacketValue) (begun : Gatherer)
    (none : T) (told : List Told) (end : End) (accepted : Bool) (g : Gatherer) (new : T) (found : List Found)
    → begun ≡ new_gatherer → items none ≡ [] → items new ≡ found
    → Tells limit (length p.packet) (content_of p) told end accepted
    → Visited (λ (x : Gatherer) (l : T) (t : Told) (y : Gatherer) (k : T). Gathers x (items l) t y (items k)) begun none
    told g new
    → (hs : List Told) × (last : End) × (also : Bool) × Tells limit (length p.packet) (content_of p) hs last also
    × Visited Gathers new_gatherer [] hs g found
walk_gathered items limit p begun none told end accepted g new found is empty all tells visited = (
  told,
  end,
  accepted,
  tells,
  subst (λ (l : List Found). Visited Gathers new_gatherer [] told g l) all
      (subst (λ (l : List Found). Visited Gathers new_gatherer l told g (items new)) empty
      (subst (λ (k : Gatherer). Visited Gathers k (items none) told g (items new)) is
      (items_visited items begun none told g new visited))),
)
