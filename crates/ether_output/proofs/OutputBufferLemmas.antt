-- Text that a buffer takes in parts.
use Rattle.std.proofs.Common.{◌≡◌, ◌+◌, ◌≤◌, ℕ, List, [], ◌++◌, length, Option, Some, None, Bool, true, false, inl, inr, refl, sym, ap, ◌∙◌, subst, append_assoc, append-nil, length-append, arith}
use Rattle.std.specs.Io.KnownBytes.{Appends, append_known}
use Rattle.ether_output.specs.OutputBuffer.{contents_of, room, Marks, Grows, Waits, Takes}
use Rattle.ether_output.specs.declared.output_buffer.OutputBuffer.{OutputBuffer}
use Rattle.ether_output.proofs.KnownBytesLemmas.{Appends-none, Appends-then}

-- ---- the mark

pub Marks-none : {W : Type 0} (can_fail : Type 0) (out : OutputBuffer W) → Marks can_fail out out
Marks-none can_fail out = record { cause = λ set. inl set }

pub Marks-then : {W : Type 0} {can_fail : Type 0} (old mid new : OutputBuffer W) → Marks can_fail old mid
    → Marks can_fail mid new → Marks can_fail old new
Marks-then old mid new first second = record {
  cause = λ set. elim (second.cause set) [ inl before ↦ first.cause before | inr failed ↦ inr failed ];
}

-- ---- text that may be written out

pub Grows-none : {W : Type 0} (contents : W → Option (List ℕ)) (can_fail : Type 0) (out : OutputBuffer W)
    → Grows contents can_fail out [] out
Grows-none contents can_fail out = record {
  same_writer = refl;
  going = λ h. h;
  grown = λ h. Appends-none (contents_of contents out);
  marks = Marks-none can_fail out;
  untouched = λ h. refl;
}

failed_still : {W : Type 0} (old mid : OutputBuffer W) → (mid.has_failed ≡ false → old.has_failed ≡ false)
    → old.has_failed ≡ true → mid.has_failed ≡ true
failed_still old mid going set = by_cases mid.has_failed refl
  where
    by_cases : (b : Bool) → mid.has_failed ≡ b → mid.has_failed ≡ true
    by_cases true is = is
    by_cases false is = let e : true ≡ false = sym set ∙ going is in absurd (cc)

pub Grows-then : {W : Type 0} {contents : W → Option (List ℕ)} {can_fail : Type 0} {old mid new : OutputBuffer W}
    {xs ys : List ℕ}
    → Grows contents can_fail old xs mid → Grows contents can_fail mid ys new
    → Grows contents can_fail old (xs ++ ys) new
Grows-then {contents = contents} {old = old} {mid = mid} {new = new} {xs = xs} {ys = ys} first second = record {
  same_writer = second.same_writer ∙ first.same_writer;
  going = λ h. first.going (second.going h);
  grown =
      λ h.
      Appends-then (contents_of contents old) (contents_of contents mid) (contents_of contents new) xs ys
      (first.grown (second.going h)) (second.grown h);
  marks = Marks-then old mid new first.marks second.marks;
  untouched = λ h. second.untouched (failed_still old mid first.going h) ∙ first.untouched h;
}

-- ---- text that waits

waiting_more : (known : Option (List ℕ)) (waited bytes : List ℕ)
    → Appends (append_known known waited) (append_known known (waited ++ bytes)) bytes
waiting_more None waited bytes = tt
waiting_more (Some xs) waited bytes = sym (append_assoc xs waited bytes)

Waits-none : {W : Type 0} (out : OutputBuffer W) → Waits out [] out
Waits-none out = record { items = sym (append-nil out.waiting.items); same_writer = refl; same_mark = refl }

Waits-then : {W : Type 0} {old mid new : OutputBuffer W} {xs ys : List ℕ} → Waits old xs mid → Waits mid ys new
    → Waits old (xs ++ ys) new
Waits-then {old = old} {xs = xs} {ys = ys} first second = record {
  items = second.items ∙ ap (λ (l : List ℕ). l ++ ys) first.items ∙ append_assoc old.waiting.items xs ys;
  same_writer = second.same_writer ∙ first.same_writer;
  same_mark = second.same_mark ∙ first.same_mark;
}

-- ---- text that is taken

-- there is room for it
pub Takes-waits : {W : Type 0} (contents : W → Option (List ℕ)) (can_fail : Type 0) (old new : OutputBuffer W)
    (bytes : List ℕ)
    → Waits old bytes new → Takes contents can_fail old bytes new
Takes-waits contents can_fail old new bytes waits = record {
  grows = record {
    same_writer = ap (λ w. w.ghost_name) waits.same_writer;
    going = λ h. sym waits.same_mark ∙ h;
    grown = λ h.
        subst (λ (l : List ℕ). Appends (contents_of contents old) (append_known (contents new.writer.now) l) bytes)
        (sym waits.items)
        (subst
        (λ (known : Option (List ℕ)).
        Appends (contents_of contents old) (append_known known (old.waiting.items ++ bytes)) bytes)
        (ap (λ w. contents w.now) (sym waits.same_writer))
        (waiting_more (contents old.writer.now) old.waiting.items bytes));
    marks = record { cause = λ set. inl (sym waits.same_mark ∙ set) };
    untouched = λ h. waits.same_writer;
  };
  fitting = λ fits. waits;
}

-- there is none
pub Takes-grows : {W : Type 0} (contents : W → Option (List ℕ)) (can_fail : Type 0) (old new : OutputBuffer W)
    (bytes : List ℕ)
    → (length old.waiting.items + length bytes ≤ room → ⊥) → Grows contents can_fail old bytes new
    → Takes contents can_fail old bytes new
Takes-grows contents can_fail old new bytes full grows = record { grows = grows; fitting = λ fits. absurd (full fits) }

pub Takes-none : {W : Type 0} (contents : W → Option (List ℕ)) (can_fail : Type 0) (out : OutputBuffer W)
    → Takes contents can_fail out [] out
Takes-none contents can_fail out = record { grows = Grows-none contents can_fail out; fitting = λ fits. Waits-none out }

pub Takes-then : {W : Type 0} {contents : W → Option (List ℕ)} {can_fail : Type 0} {old mid new : OutputBuffer W}
    {xs ys : List ℕ}
    → Takes contents can_fail old xs mid → Takes contents can_fail mid ys new
    → Takes contents can_fail old (xs ++ ys) new
Takes-then {old = old} {mid = mid} {new = new} {xs = xs} {ys = ys} first second = record {
  grows = Grows-then first.grows second.grows;
  fitting = both;
}
  where
    both : length old.waiting.items + length (xs ++ ys) ≤ room → Waits old (xs ++ ys) new
    both fits =
        let n = length-append xs ys in
        let one = first.fitting (omega (arith, n, fits)) in
        let m = ap length one.items ∙ length-append old.waiting.items xs in
        Waits-then one (second.fitting (omega (arith, n, m, fits)))

-- the same bytes
pub Takes-same : {W : Type 0} {contents : W → Option (List ℕ)} {can_fail : Type 0} {old new : OutputBuffer W}
    {xs ys : List ℕ}
    → xs ≡ ys → Takes contents can_fail old xs new → Takes contents can_fail old ys new
Takes-same {contents = contents} {can_fail = can_fail} {old = old} {new = new} e h =
    subst (λ (l : List ℕ). Takes contents can_fail old l new) e h
