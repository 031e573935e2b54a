-- What bytes of a VLAN tag make of a primitive about its identifier.
use Rattle.std.proofs.Common.{◌≡◌, ℕ, zero, suc, ◌+◌, ◌-◌, ◌*◌, ◌/◌, ◌%◌, ◌<◌, ◌≤◌, List, [], ◌∷◌, ◌++◌, length, take, drop, append_assoc, refl, sym, ap, subst, ◌∙◌, arith, inl, inr, ◌⊎◌, Bool, true, false, nat_eq}
use Rattle.std.specs.Prelude.{get_or, replicate}
use Rattle.std.proofs.lemmas.Bool.{cases_lt, eqb-true, eq-eqb}
use Rattle.std.proofs.lemmas.List.{length-append, length-replicate, length-take-le, take-append-drop, get_or-append_right}
use Rattle.etherparse.specs.Bytes.{IsBytes}
use Rattle.etherparse.specs.Vlan.{vlan_of}
use Rattle.etherparse.proofs.Numbers.{IsBytes-nil, IsBytes-cons, IsBytes-append}
use Rattle.etherparse.proofs.SubLists.{IsBytes-take}
use Rattle.ether_filter.specs.declared.can.Can.{Can}
use Rattle.ether_filter.specs.declared.primitive.Primitive.{Primitive}
use Rattle.ether_filter.specs.declared.primitive.Primitive.TheVariants as primitives
use Rattle.ether_filter.specs.OwnFields.{FitsId, FitsTag}
use Rattle.ether_filter.specs.Prospects.{Continues}
use Rattle.ether_filter.proofs.FieldChoices.{Says, id_among, kept, vid_is}
use Rattle.ether_filter.proofs.LeastTypes.{id_in}
use Rattle.ether_filter.proofs.OpenUnits.{rest_ok}
use Rattle.ether_filter.proofs.Prospects.{zeros_continue}
use Rattle.ether_filter.proofs.Typed.{zeros_are_bytes}

-- what is known of a field: nothing yet, or that it differs from the wanted value, or that it has it
abbrev pub either : Can
either = record { matches = true; fails = true }

abbrev pub missed : Can
missed = record { matches = false; fails = true }

abbrev pub met : Can
met = record { matches = true; fails = false }

-- bytes that go on from more go on from fewer
pub widen : (known more : List ℕ) (room : ℕ) (bytes : List ℕ) → Continues (known ++ more) room bytes
    → Continues known room bytes
widen known more room bytes c = record {
  more = more ++ c.more;
  is = c.is ∙ append_assoc known more c.more;
  len = c.len;
  are_bytes = c.are_bytes;
}

-- ---- an identifier whose two bytes are known

vid_in : (l : List ℕ) (room : ℕ) (bytes : List ℕ) → 2 ≤ length l → 4 ≤ room → Continues l room bytes
    → (vlan_of bytes).vid ≡ id_in l
vid_in l room bytes two long on =
    omega (
      arith,
      vid_is bytes (on.are_bytes 1) (omega (arith, on.len, long)),
      kept l room bytes 0 0 on (omega (arith, two)),
      kept l room bytes 1 0 on (omega (arith, two)),
    )

same_vid : (l : List ℕ) (room : ℕ) (a b : List ℕ) → 2 ≤ length l → 4 ≤ room → Continues l room a → Continues l room b
    → (vlan_of a).vid ≡ (vlan_of b).vid
same_vid l room a b two long x y = vid_in l room a two long x ∙ sym (vid_in l room b two long y)

met_fits : (l : List ℕ) (id : ℕ) → IsBytes l → 2 ≤ length l → length l < 4 → id_in l ≡ id → FitsId l id met
met_fits l id ok two few is room long = record {
  matches = (
    λ t. (let z = zeros_continue l room ok (omega (arith, few, long)) in
        (z.0, z.1, vid_in l room z.0 two long z.1 ∙ is)),
    λ some. refl,
  );
  fails = (λ t. absurd cc, λ (bytes, on, never). absurd (never (vid_in l room bytes two long on ∙ is)));
}

-- what is settled stays so
id_kept : (known more : List ℕ) (id : ℕ) (own : Can) → IsBytes (known ++ more) → length (known ++ more) < 4
    → (own.matches ≡ false) ⊎ (2 ≤ length known) → FitsId known id own → FitsId (known ++ more) id own
id_kept known more id own ok few settled fits room long =
    let a = fits room long in
    let z = zeros_continue (known ++ more) room ok (omega (arith, few, long)) in
    let from = widen known more room z.0 z.1 in
    record {
      matches = (
        λ t. elim settled [
          | inl none ↦ absurd (let clash : true ≡ false = sym t ∙ none in cc)
          | inr two ↦ (let x = a.matches.0 t in (z.0, z.1, same_vid known room z.0 x.0 two long from x.1 ∙ x.2))
        ],
        λ (bytes, on, same). a.matches.1 (bytes, widen known more room bytes on, same),
      );
      fails = (
        λ t. elim settled [
          | inl none ↦ (
            z.0,
            z.1,
            λ same. (let clash : true ≡ false = sym (a.matches.1 (z.0, from, same)) ∙ none in cc),
          )
          | inr two ↦
              (let x = a.fails.0 t in
              (z.0, z.1, λ same. x.2 (same_vid known room x.0 z.0 two long x.1 from ∙ same)))
        ],
        λ (bytes, on, never). a.fails.1 (bytes, widen known more room bytes on, never),
      );
    }

pub tag_kept : (q : Primitive) (known more : List ℕ) (own : Can) → IsBytes (known ++ more)
    → length (known ++ more) < 4 → (own.matches ≡ false) ⊎ (2 ≤ length known) → FitsTag q known own
    → FitsTag q (known ++ more) own
tag_kept (primitives.VlanId id) known more own ok few settled fits = id_kept known more id own ok few settled fits
tag_kept (primitives.OuterVlan id) known more own ok few settled fits = id_kept known more id own ok few settled fits
tag_kept (primitives.InnerVlan id) known more own ok few settled fits = id_kept known more id own ok few settled fits
tag_kept q known more own ok few settled fits = tt

-- ---- one of the three

abbrev pub HasOne : Primitive → List ℕ → Type 0
HasOne q l = FitsTag q l either ⊎ (FitsTag q l missed ⊎ ((2 ≤ length l) × FitsTag q l met))

id_one : (l : List ℕ) (id : ℕ) → IsBytes l → length l < 4
    → FitsId l id either ⊎ (FitsId l id missed ⊎ ((2 ≤ length l) × FitsId l id met))
id_one l id ok few = by_test (nat_eq nearest id) refl (cases_lt (length l) 2)
  where
    nearest : ℕ
    nearest = get_or l 0 (id / 256 % 256) % 16 * 256 + get_or l 1 (id % 256)

    among : (can : Can) → Says l 2 nearest id can → FitsId l id can
    among can says room long = id_among l id nearest room can ok few long refl says

    by_test : (b : Bool) → nat_eq nearest id ≡ b → (length l < 2) ⊎ (2 ≤ length l)
        → FitsId l id either ⊎ (FitsId l id missed ⊎ ((2 ≤ length l) × FitsId l id met))
    by_test true is (inl short) = inl (among either (record {
      matches = (λ t. eqb-true nearest id is, λ e. refl);
      fails = (λ t. inl short, λ why. refl);
    }))
    by_test true is (inr two) = inr (inr (
      two,
      among met (record {
        matches = (λ t. eqb-true nearest id is, λ e. refl);
        fails = (
          λ t. absurd cc,
          λ why. elim why [
            | inl short ↦ absurd (omega (arith, short, two))
            | inr never ↦ absurd (never (eqb-true nearest id is))
          ],
        );
      }),
    ))
    by_test false is which = inr (inl (among missed (record {
      matches = (λ t. absurd cc, λ e. absurd (let clash : false ≡ true = sym is ∙ eq-eqb nearest id e in cc));
      fails = (λ t. inr (λ e. (let clash : false ≡ true = sym is ∙ eq-eqb nearest id e in cc)), λ why. refl);
    })))

pub has_one : (q : Primitive) (l : List ℕ) → IsBytes l → length l < 4 → HasOne q l
has_one (primitives.VlanId id) l ok few = id_one l id ok few
has_one (primitives.OuterVlan id) l ok few = id_one l id ok few
has_one (primitives.InnerVlan id) l ok few = id_one l id ok few
has_one q l ok few = inl tt

-- ---- another identifier

-- a byte that differs from that of an identifier
wrong : (place id : ℕ) → ℕ
wrong zero id = (id / 256 + 1) % 16
wrong (suc place) id = (id + 1) % 256

wrong_small : (place id : ℕ) → wrong place id < 256
unfolding wrong
wrong_small zero id = omega arith
wrong_small (suc place) id = omega arith

wrong_differs : (place id : ℕ) (bytes : List ℕ) → place < 2 → IsBytes bytes → 2 ≤ length bytes
    → get_or bytes place 0 ≡ wrong place id → (vlan_of bytes).vid ≡ id → ⊥
unfolding wrong
wrong_differs zero id bytes lt ok le at same = omega (arith, vid_is bytes (ok 1) le, ok 1, at, same)
wrong_differs (suc zero) id bytes lt ok le at same = omega (arith, vid_is bytes (ok 1) le, ok 1, at, same)
wrong_differs (suc (suc place)) id bytes lt ok le at same = omega (arith, lt)

pub last_is : (known : List ℕ) (b room : ℕ) (bytes : List ℕ) → Continues (known ++ b ∷ []) room bytes
    → get_or bytes (length known) 0 ≡ b
last_is known b room bytes on =
    kept (known ++ b ∷ []) room bytes (length known) 0 on (omega (arith, length-append known (b ∷ [])))
    ∙ get_or-append_right known (b ∷ []) (length known) (length known) 0 refl (omega arith)
    ∙ ap (λ (i : ℕ). get_or (b ∷ []) i 0) (let none : length known - length known ≡ 0 = omega arith in none)

missed_id : (known : List ℕ) (id : ℕ) → IsBytes known → length known < 2
    → (b : ℕ) × (b < 256) × FitsId (known ++ b ∷ []) id missed
missed_id known id ok few =
    let b = wrong (length known) id in
    let all = known ++ b ∷ [] in
    let all_len = length-append known (b ∷ []) in
    let all_ok = IsBytes-append known (b ∷ []) ok (IsBytes-cons b [] (wrong_small (length known) id) IsBytes-nil) in
    let differs = λ (room : ℕ) (long : 4 ≤ room) (bytes : List ℕ) (on : Continues all room bytes).
    wrong_differs (length known) id bytes few on.are_bytes (omega (arith, on.len, long))
    (last_is known b room bytes on) in (
      b,
      wrong_small (length known) id,
      λ room long. record {
        matches = (λ t. absurd cc, λ (bytes, on, same). absurd (differs room long bytes on same));
        fails = (
          λ t. (let z = zeros_continue all room all_ok (omega (arith, all_len, few, long)) in
              (z.0, z.1, λ same. differs room long z.0 z.1 same)),
          λ some. refl,
        );
      },
    )

pub missed_tag : (q : Primitive) (known : List ℕ) → IsBytes known → length known < 2
    → (b : ℕ) × (b < 256) × FitsTag q (known ++ b ∷ []) missed
missed_tag (primitives.VlanId id) known ok few = missed_id known id ok few
missed_tag (primitives.OuterVlan id) known ok few = missed_id known id ok few
missed_tag (primitives.InnerVlan id) known ok few = missed_id known id ok few
missed_tag q known ok few = (0, omega arith, tt)

-- ---- the wanted identifier

-- one that is possible is not certain until both of its bytes are known
either_id : (known : List ℕ) (id : ℕ) (own : Can) → IsBytes known → length known < 2 → own.matches ≡ true
    → FitsId known id own → FitsId known id either
either_id known id own ok few possible fits room long =
    let a = fits room long in
    let w = missed_id known id ok few in
    let x = (w.2 room long).fails.0 refl in
    record {
      matches = (λ t. a.matches.0 possible, λ some. refl);
      fails = (λ t. (x.0, widen known (w.0 ∷ []) room x.0 x.1, x.2), λ some. refl);
    }

pub either_tag : (q : Primitive) (known : List ℕ) (own : Can) → IsBytes known → length known < 2
    → own.matches ≡ true → FitsTag q known own → FitsTag q known either
either_tag (primitives.VlanId id) known own ok few possible fits = either_id known id own ok few possible fits
either_tag (primitives.OuterVlan id) known own ok few possible fits = either_id known id own ok few possible fits
either_tag (primitives.InnerVlan id) known own ok few possible fits = either_id known id own ok few possible fits
either_tag q known own ok few possible fits = tt

-- both bytes are known, and the tag has the identifier
pub record Meets (q : Primitive) (known : List ℕ) : Type 0 where
  pub more : List ℕ
  pub are_bytes : IsBytes more
  pub len : length more ≡ 2 - length known
  pub fits : FitsTag q (known ++ more) met

met_id : (known : List ℕ) (id : ℕ) (own : Can) → IsBytes known → length known < 2 → own.matches ≡ true
    → FitsId known id own
    → (more : List ℕ) × IsBytes more × (length more ≡ 2 - length known) × FitsId (known ++ more) id met
met_id known id own ok few possible fits =
    let x = (fits 4 (omega arith)).matches.0 possible in
    let on = x.1 in
    let n = 2 - length known in
    let more = take n on.more in
    let len : length more ≡ n = length-take-le n on.more
    (omega (arith, few, on.len, ap length on.is, length-append known on.more)) in
    let more_ok = IsBytes-take n on.more (rest_ok known on.more (subst IsBytes on.is on.are_bytes)) in
    let all = known ++ more in
    let all_len : length all ≡ 2 = omega (arith, length-append known more, len, few) in
    let from : Continues all 4 x.0 = record {
      more = drop n on.more;
      is = on.is ∙ ap (λ (l : List ℕ). known ++ l) (sym (take-append-drop n on.more))
          ∙ sym (append_assoc known more (drop n on.more));
      len = on.len;
      are_bytes = on.are_bytes;
    } in (
      more,
      more_ok,
      len,
      met_fits all id (IsBytes-append known more ok more_ok) (omega (arith, all_len)) (omega (arith, all_len))
          (sym (vid_in all 4 x.0 (omega (arith, all_len)) (omega arith) from) ∙ x.2),
    )

meets_id : (q : Primitive) (known : List ℕ) (id : ℕ) → ((l : List ℕ) → FitsId l id met → FitsTag q l met)
    → (more : List ℕ) × IsBytes more × (length more ≡ 2 - length known) × FitsId (known ++ more) id met
    → Meets q known
meets_id q known id turn (more, ok, len, fits) =
    record { more = more; are_bytes = ok; len = len; fits = turn (known ++ more) fits }

pub met_tag : (q : Primitive) (known : List ℕ) (own : Can) → IsBytes known → length known < 2
    → own.matches ≡ true → FitsTag q known own → Meets q known
met_tag (primitives.VlanId id) known own ok few possible fits =
    meets_id (primitives.VlanId id) known id (λ l f. f) (met_id known id own ok few possible fits)
met_tag (primitives.OuterVlan id) known own ok few possible fits =
    meets_id (primitives.OuterVlan id) known id (λ l f. f) (met_id known id own ok few possible fits)
met_tag (primitives.InnerVlan id) known own ok few possible fits =
    meets_id (primitives.InnerVlan id) known id (λ l f. f) (met_id known id own ok few possible fits)
met_tag q known own ok few possible fits = record {
  more = replicate (2 - length known) 0;
  are_bytes = zeros_are_bytes (2 - length known);
  len = length-replicate {A = ℕ} (2 - length known) 0;
  fits = tt;
}
