-- The text of the error of an edit.
use Rattle.std.specs.Prelude.{ℕ, List, codes}

abbrev pub no_room_text : List ℕ
no_room_text = codes "The buffer has no room for the packet and four bytes more."
