-- Times of frames.
use Rattle.std.proofs.Common.{◌≡◌, ℕ, ◌+◌, ◌*◌, ◌/◌, ◌%◌, ◌^◌, ◌<◌, ◌≤◌, zero, suc, ◌-◌, ◌&&◌, nat_lt, true≢false, Option, Some, None, Bool, true, false, refl, sym, ap, ap₂, ◌∙◌, arith}
use Rattle.ether_make.specs.declared.progress.Pace.{Pace}
use Rattle.ether_make.specs.declared.time_text.Time.{Time}
use Rattle.ether_make.specs.Lines.{is_timely_at, sent_before, time_at}
use Rattle.ether_make.specs.Templates.{in_capture, later}
use Rattle.std.proofs.lemmas.Nat.{div-add-mod'}
use Rattle.std.proofs.Math.Nat.{add-mul, div-lt_iff_lt-mul, div-zero, lt-div-mul-add, mul-add-div, mul_assoc, mul_comm}
use Rattle.std.proofs.lemmas.Bool.{lt-ltb, ltb-true}

-- the whole seconds and the nanoseconds of a number of parts of a second
pub parts-sum : (count rate unit : ℕ) → 0 < rate
    → count / rate * unit + count % rate * unit / rate ≡ count * unit / rate
parts-sum count rate unit some =
    let q = count / rate in
    let r = count % rate in
    let whole : q * rate * unit ≡ rate * (q * unit) =
    ap (λ m. m * unit) (mul_comm q rate) ∙ mul_assoc rate q unit in
    let all : count * unit ≡ rate * (q * unit) + r * unit =
    ap (λ m. m * unit) (sym (div-add-mod' count rate)) ∙ add-mul (q * rate) r unit
    ∙ ap (λ m. m + r * unit) whole in
    sym (ap (λ m. m / rate) all ∙ mul-add-div some (q * unit) (r * unit))

-- ---- one time after another

div-grows : (a b n : ℕ) → a ≤ b → a / n ≤ b / n
div-grows a b zero h = rw (div-zero a, div-zero b) (omega arith)
div-grows a b (suc n) h =
    let less : a / suc n < b / suc n + 1 =
    (div-lt_iff_lt-mul {k = suc n} {x = a} {y = b / suc n + 1} (omega arith)).1
    (omega (arith, lt-div-mul-add {a = b} {b = suc n} (omega arith), add-mul (b / suc n) 1 (suc n))) in
    omega arith

later-grows : (t : Time) (a b rate : ℕ) → a ≤ b → (later t a rate).seconds ≤ (later t b rate).seconds
later-grows t a b rate h =
    omega (arith, div-grows (a * 1000000000) (b * 1000000000) rate (omega arith))

both : (a b : Bool) → (a && b) ≡ true → (a ≡ true) × (b ≡ true)
both true true h = (refl, refl)
both true false h = absurd (true≢false (sym h))
both false b h = absurd (true≢false (sym h))

capture-before : (t : Time) (a b rate : ℕ) → a ≤ b → in_capture (later t b rate) ≡ true
    → in_capture (later t a rate) ≡ true
capture-before t a b rate h e =
    lt-ltb (later t a rate).seconds (2 ^ 32)
    (omega (arith, later-grows t a b rate h, ltb-true (later t b rate).seconds (2 ^ 32) e))

at-before : (rate : ℕ) (pace : Option Pace) (t : Time) (a b : ℕ) → a ≤ b
    → in_capture (time_at (Some rate) pace t b) ≡ true → in_capture (time_at (Some rate) pace t a) ≡ true
at-before rate None t a b h e = capture-before t a b rate h e
at-before rate (Some p) t a b h e = capture-before p.start (p.sent + a) (p.sent + b) rate (omega arith) e

-- fewer frames of a line are in time, too
pub timely-fewer : (rate : Option ℕ) (pace : Option Pace) (t : Time) (count index : ℕ)
    → is_timely_at rate pace t count ≡ true → index < count → is_timely_at rate pace t (index + 1) ≡ true
timely-fewer None pace t count index h inside = refl
timely-fewer (Some rate) pace t count index h inside =
    let parts = both (nat_lt (sent_before pace + count) (2 ^ 64))
    (in_capture (time_at (Some rate) pace t (count - 1))) h in
    ap₂ (λ (a b : Bool). a && b)
    (lt-ltb (sent_before pace + (index + 1)) (2 ^ 64)
    (omega (arith, ltb-true (sent_before pace + count) (2 ^ 64) parts.0)))
    (at-before rate pace t (index + 1 - 1) (count - 1) (omega arith) parts.1)
