-- Records: one for each list of bytes, or one refusal; and what a reader gives.
use Rattle.std.proofs.Common.{◌≡◌, ℕ, zero, suc, ◌+◌, ◌≤◌, List, [], ◌∷◌, length, drop, refl, sym, ap, subst, ◌∙◌, arith, inl, inr, Ok, Err, Some, None, true, false, length-drop, rules}
use Rattle.std.specs.Prelude.{◌≢◌, ◌-◌, ◌==◌, take, Bool, slice_range, Option}
use Rattle.std.proofs.lemmas.Grind.{common_steps}
use Rattle.std.proofs.lemmas.Bool.{cases_lt}
use Rattle.ether_pcap.specs.Numbers.{Order, field}
use Rattle.ether_pcap.specs.Record.{RecordValue, RecordRefusal, Short, TooLong, BeginsRecord, RefusesRecord, header, too_long, packet, HasRecords, record_len, max_captured_len}
use Rattle.ether_pcap.specs.Laws.{Contents}
use Rattle.ether_pcap.specs.Views.{order_of, record_view, record_refusal_view}
use Rattle.ether_pcap.specs.RecordReading.{RecordState, RecordGives, GivesNextRecord}
use Rattle.ether_pcap.specs.declared.classic.pcap_record.PcapRecord.{PcapRecord}
use Rattle.ether_pcap.specs.declared.classic.record_fault.RecordFault.{RecordFault}

pub record_one : (order : Order) (bytes : List ℕ) (r s : RecordValue) → BeginsRecord order bytes r
    → BeginsRecord order bytes s → r ≡ s
record_one order bytes r s h k = search rules

pub record_apart : (order : Order) (bytes : List ℕ) (r : RecordValue) (e : RecordRefusal) → BeginsRecord order bytes r
    → RefusesRecord order bytes e → ⊥
record_apart order bytes r e h (header lt) = omega (arith, h.whole, lt)
record_apart order bytes r e h (too_long le lt) = omega (arith, h.room, h.captured_len, lt)
record_apart order bytes r e h (packet le small lt) = omega (arith, h.whole, h.captured_len, lt)

pub refusal_one : (order : Order) (bytes : List ℕ) (e f : RecordRefusal) → RefusesRecord order bytes e
    → RefusesRecord order bytes f → e ≡ f
refusal_one order bytes e f (header lt) (too_long le m) = absurd (omega (arith, lt, le))
refusal_one order bytes e f (header lt) (packet le small m) = absurd (omega (arith, lt, le))
refusal_one order bytes e f (too_long le lt) (header m) = absurd (omega (arith, le, m))
refusal_one order bytes e f (too_long le lt) (packet le2 small m) = absurd (omega (arith, lt, small))
refusal_one order bytes e f (packet le small lt) (header m) = absurd (omega (arith, le, m))
refusal_one order bytes e f (packet le small lt) (too_long le2 m) = absurd (omega (arith, small, m))
refusal_one order bytes e f h k = refl

-- ---- what a reader gives

not_empty : (order : Order) (bytes : List ℕ) (r : RecordValue) → BeginsRecord order bytes r → bytes ≢ []
not_empty order bytes r h e = let l : length bytes ≡ 0 = ap length e in omega (arith, h.whole, l)

pub gives_record : (s : RecordState) (p : PcapRecord) → s.over ≡ false
    → BeginsRecord (order_of s.header.byte_order) s.rest (record_view p)
    → RecordGives s (Some (Ok p))
    (record s { rest = drop (record_len (record_view p)) s.rest; offset = s.offset + record_len (record_view p) })
gives_record s p more h = grind (arith)

next_fault : (order : Order) (s : RecordState) (f : RecordFault) (records : List RecordValue) (rest : List ℕ)
    (fault : Option RecordRefusal)
    → s.rest ≢ [] → f.offset ≡ s.offset → RefusesRecord order s.rest (record_refusal_view f.error)
    → HasRecords order s.rest records rest fault
    → GivesNextRecord records fault s (Some (Err f)) (record s { over = true })
next_fault order s f [] rest (Some refusal) some at h has =
    (f, refl, at, refusal_one order s.rest (record_refusal_view f.error) refusal h has.2, refl)
next_fault order s f k rest fault some at h has = absurd (search (rules, record_apart))

pub gives_fault : (s : RecordState) (f : RecordFault) → s.over ≡ false → s.rest ≢ [] → f.offset ≡ s.offset
    → RefusesRecord (order_of s.header.byte_order) s.rest (record_refusal_view f.error)
    → RecordGives s (Some (Err f)) (record s { over = true })
gives_fault s f more some at h = search (rules, next_fault)

-- ---- all records of a list

-- the record that enough bytes begin with
record_of : Order → List ℕ → RecordValue
record_of order bytes = record {
  seconds = field order bytes 0 4;
  fraction = field order bytes 4 8;
  original_len = field order bytes 12 16;
  packet = slice_range bytes 16 (16 + field order bytes 8 12);
}

begins : (order : Order) (bytes : List ℕ) → field order bytes 8 12 ≤ max_captured_len
    → 16 + field order bytes 8 12 ≤ length bytes → BeginsRecord order bytes (record_of order bytes)
unfolding record_of
begins order bytes room whole = search rules

goes_on : (order : Order) (bytes : List ℕ) (r : RecordValue) → BeginsRecord order bytes r
    → Contents order (drop (record_len r) bytes) → Contents order bytes
goes_on order bytes r h c = record { records = r ∷ c.records; rest = c.rest; fault = c.fault; has = (h, c.has) }

stops : (order : Order) (bytes : List ℕ) (e : RecordRefusal) → bytes ≢ [] → RefusesRecord order bytes e
    → Contents order bytes
stops order bytes e some h = record { records = []; rest = bytes; fault = Some e; has = (some, refl, h) }

none : (order : Order) → Contents order []
none order = record { records = []; rest = []; fault = None; has = (refl, refl) }

step : (order : Order) (bytes : List ℕ) → bytes ≢ []
    → ((r : RecordValue) → BeginsRecord order bytes r → Contents order (drop (record_len r) bytes))
    → Contents order bytes
step order bytes some more =
    let n = field order bytes 8 12 in
    elim (cases_lt (length bytes) 16) [
      | inl lt ↦ stops order bytes (Short 16 (length bytes)) some (header lt)
      | inr le ↦ elim (cases_lt max_captured_len n) [
        | inl lt ↦ stops order bytes (TooLong n) some (too_long le lt)
        | inr room ↦ elim (cases_lt (length bytes) (16 + n)) [
          | inl lt ↦ stops order bytes (Short (16 + n) (length bytes)) some (packet le room lt)
          | inr whole ↦ let h =
              begins order bytes room whole in goes_on order bytes (record_of order bytes) h
              (more (record_of order bytes) h)
        ]
      ]
    ]

within : (fuel : ℕ) (order : Order) (bytes : List ℕ) → length bytes ≤ fuel → Contents order bytes
within fuel order [] le = none order
within zero order (b ∷ bytes) le = absurd (omega arith)
within (suc fuel) order (b ∷ bytes) le =
    step order (b ∷ bytes) (λ e. absurd cc)
    (λ r h.
    within fuel order (drop (record_len r) (b ∷ bytes))
    (let l = length-drop (record_len r) (b ∷ bytes) in omega (arith, l, le, h.whole)))

pub some_contents : (order : Order) (bytes : List ℕ) → Contents order bytes
some_contents order bytes = within (length bytes) order bytes (omega arith)

same : (order : Order) (bytes : List ℕ) (records others : List RecordValue) (rest left : List ℕ)
    (fault other : Option RecordRefusal)
    → HasRecords order bytes records rest fault → HasRecords order bytes others left other
    → (records ≡ others) × (rest ≡ left) × (fault ≡ other)
same order bytes [] [] rest left None None h k = (refl, h.1 ∙ sym k.1, refl)
same order bytes [] [] rest left (Some e) (Some f) h k =
    (refl, h.1 ∙ sym k.1, ap Some (refusal_one order bytes e f h.2 k.2))
same order bytes (r ∷ records) (s ∷ others) rest left fault other h k =
    let e = record_one order bytes r s h.0 k.0 in
    let m : HasRecords order (drop (record_len r) bytes) others left other =
    subst (λ (v : RecordValue). HasRecords order (drop (record_len v) bytes) others left other) (sym e) k.1 in
    let t = same order (drop (record_len r) bytes) records others rest left fault other h.1 m in
    (let p = t.0 in λ i. e i ∷ p i, t.1, t.2)
same order bytes a b rest left fault other h k = absurd (search (rules, not_empty, record_apart))

pub one_contents : (order : Order) (bytes : List ℕ) (c d : Contents order bytes)
    → (c.records ≡ d.records) × (c.rest ≡ d.rest) × (c.fault ≡ d.fault)
one_contents order bytes c d = same order bytes c.records d.records c.rest d.rest c.fault d.fault c.has d.has

-- ---- lists

pub rest_after : (xs : List ℕ) (n : ℕ) → take (length xs - n) (drop n xs) ≡ drop n xs
rest_after xs n = let l = length-drop n xs in grind (arith, common_steps, l)

pub some_of : (xs : List ℕ) (b : Bool) → b ≡ (length xs == 0) → b ≡ false → xs ≢ []
some_of [] b p q e = let f : true ≡ false = sym p ∙ q in absurd cc
some_of (x ∷ xs) b p q e = absurd cc
