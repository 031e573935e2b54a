-- Who sent a packet of a cooked capture, and to whom.
use Rattle.std.specs.Prelude.{ℕ, List, [], ◌∷◌, codes}

-- the packet types of Linux cooked capture v1 (LINKTYPE_LINUX_SLL), and what they mean
abbrev pub packet_type_descriptions : List (ℕ × List ℕ)
packet_type_descriptions =
    (0, codes "Sent to us") ∷
    (1, codes "Sent to all") ∷
    (2, codes "Sent to group") ∷
    (3, codes "Sent to someone else") ∷
    (4, codes "Sent by us") ∷
    (5, codes "MC/BRD frame looped back") ∷
    (6, codes "Sent to user space") ∷
    (7, codes "Sent to kernel space") ∷
    []
