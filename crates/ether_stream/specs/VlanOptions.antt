-- The options that edit VLAN tags.
use Rattle.std.specs.Prelude.{◌≡◌, ◌<◌, ℕ, List, Some, true}
use Rattle.ether_base.specs.Formats.Vlan.{is_vlan_ether_type}
use Rattle.ether_filter.specs.Numerals.{number_in}
use Rattle.ether_format.specs.Splits.{SplitsAt}
use Rattle.ether_content.specs.Editing.{EditValue, PushVlan, SetVlan}
use Rattle.ether_stream.specs.declared.vlan_options.TagEdit.{TagEdit}
use Rattle.ether_stream.specs.declared.vlan_options.TagEdit.TheVariants as tag_edits

-- two numbers, each written as in a filter, and a colon (58) between them
pub record IsPair (text : List ℕ) (m n : ℕ) : Type 0 where
  pub before : List ℕ
  pub after : List ℕ
  pub split : SplitsAt 58 text before after
  pub first : number_in before ≡ Some (Some m)
  pub second : number_in after ≡ Some (Some n)

-- The edit that an option with two numbers asks for: a VLAN tag is pushed, with a TPID that announces one, or the
-- identifier of one is changed. Identifiers have 12 bits.
pub data IsTagEdit : TagEdit → (text : List ℕ) → EditValue → Type 0 where
  push : (text : List ℕ) (tpid id : ℕ) → IsPair text tpid id → is_vlan_ether_type tpid ≡ true → id < 4096
      → IsTagEdit tag_edits.Push text (PushVlan tpid id)
  set : (text : List ℕ) (old new : ℕ) → IsPair text old new → old < 4096 → new < 4096
      → IsTagEdit tag_edits.Set text (SetVlan old new)
