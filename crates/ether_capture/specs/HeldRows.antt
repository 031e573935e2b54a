-- The rows that are counted are those that a journal holds.
use Rattle.std.specs.Prelude.{ℕ, List, [], ◌∷◌, Bool, true, false, Option, Some, None, ⊤, refl}
use Rattle.std.specs.Coded.{Coded, Coded-set, code_by, coded_bool, coded_list, coded_option, coded_ℕ, coded×, Unit-prop, ×_prop, Π_prop}
use Rattle.ether_capture.specs.CountTable.{count_at}
use Rattle.ether_capture.specs.KeyCounts.{count_of}
use Rattle.ether_capture.specs.RowFields.{lines_hits, lines_of, total_of}
use Rattle.ether_capture.specs.Tabulating.{HasHeading, Tabulates}
use Rattle.ether_capture.specs.Waiting.{join, spreads, waiting}
use Rattle.ether_capture.specs.declared.count.Count.{Count}
use Rattle.ether_capture.specs.declared.rows.Rows.{Rows}

-- .. if it is known what that holds, unless they have failed
abbrev pub HoldsRows : (joint is_known has_failed : Bool) → (holds : Option (List ℕ)) → Rows → Type 0
HoldsRows joint false has_failed holds rows = ⊤
HoldsRows joint true true holds rows = ⊤
HoldsRows joint true false None rows = ⊥
HoldsRows joint true false (Some text) rows = Tabulates joint text rows

-- ---- in one way at most

count_code : Coded Count
count_code =
    code_by (ℕ × ℕ) (coded× coded_ℕ coded_ℕ) (λ c. (c.packets, c.bytes)) (λ p. record { packets = p.0; bytes = p.1 })
    (λ c. refl)

heading-prop : (lines : List (List ℕ)) (rows : Rows) → IsProp (HasHeading lines rows)
heading-prop [] rows = ×_prop (Coded-set coded_bool _ _) (Coded-set (coded_list coded_ℕ) _ _)
heading-prop (h ∷ hs) rows = ×_prop (Coded-set coded_bool _ _) (Coded-set (coded_list coded_ℕ) _ _)

pub HoldsRows-prop : (joint is_known has_failed : Bool) (holds : Option (List ℕ)) (rows : Rows)
    → IsProp (HoldsRows joint is_known has_failed holds rows)
HoldsRows-prop joint false has_failed holds rows = Unit-prop
HoldsRows-prop joint true true holds rows = Unit-prop
HoldsRows-prop joint true false None rows = λ x y. absurd x
HoldsRows-prop joint true false (Some text) rows =
    ×_prop
    (×_prop (heading-prop (lines_of text) rows)
    (×_prop (Π_prop (λ key. Coded-set (coded_option count_code)
    (join (count_at rows.counts key)
    (count_of (spreads joint rows.heading.bytes.items (waiting rows.slots.items)) key))
    (count_of (lines_hits joint (lines_of text)) key)))
    (Coded-set count_code rows.total (total_of (lines_of text)))))
    (Coded-set (coded_list coded_ℕ) _ _)
