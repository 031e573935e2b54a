-- Rows whose texts wait to be counted.
use Rattle.std.specs.Prelude.{◌≡◌, ℕ, List, [], ◌∷◌, Bool, Option, Some, None, map}
use Rattle.std.specs.List.{flat_map}
use Rattle.ether_capture.specs.KeyCounts.{Hit, count_of, plus}
use Rattle.ether_capture.specs.RowFields.{after_first, row_fields, row_keys}
use Rattle.ether_capture.specs.declared.count.Count.{Count}
use Rattle.ether_capture.specs.declared.row_slot.RowSlot.{RowSlot}

-- two counts together, where there are any
abbrev pub join : Option Count → Option Count → Option Count
join None b = b
join (Some a) None = Some a
join (Some a) (Some b) = Some (plus (Some a) b)

-- these packets were added to a table
abbrev pub Adds : List Hit → (old new : List ℕ → Option Count) → Type 0
Adds hits old new = (q : List ℕ) → new q ≡ join (old q) (count_of hits q)

-- the same packets under each key
abbrev pub hits_of : Count → (keys : List (List ℕ)) → List Hit
hits_of count keys = map (λ k. record { key = k; count = count }) keys

-- packets with these texts after their length, by the texts of columns
abbrev pub spread : (joint : Bool) → (heading : List ℕ) → Hit → List Hit
spread joint heading h = hits_of h.count (row_keys joint (after_first (row_fields heading)) (row_fields h.key))

abbrev pub spreads : (joint : Bool) → (heading : List ℕ) → List Hit → List Hit
spreads joint heading hits = flat_map (spread joint heading) hits

-- the packets whose texts wait in a slot
abbrev pub hits_if : (texts : List ℕ) → Option Count → List Hit
hits_if texts None = []
hits_if texts (Some count) = record { key = texts; count = count } ∷ []

abbrev pub slot_hits : RowSlot → List Hit
slot_hits slot = hits_if slot.texts.bytes.items slot.count

abbrev pub waiting : List RowSlot → List Hit
waiting slots = flat_map slot_hits slots

-- what was counted and what waits are together more by these packets
abbrev pub GrowsBy : (joint : Bool) → (heading : List ℕ) → Hit → (old new : List ℕ → Option Count)
    → (waited waits : List Hit) → Type 0
GrowsBy joint heading h old new waited waits =
    (q : List ℕ) → join (new q) (count_of (spreads joint heading waits) q)
    ≡ join (join (old q) (count_of (spreads joint heading waited) q)) (count_of (spread joint heading h) q)
