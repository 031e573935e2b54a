-- A copy of a copy: packets are selected twice.
use Rattle.std.specs.Prelude.{◌≡◌, ◌≢◌, ℕ, List, [], Option, Some, None}
use Rattle.ether_base.specs.Bytes.{IsBytes}
use Rattle.ether_filter.specs.Expressions.{Expression, Join}
use Rattle.ether_filter.specs.declared.node.Operator.TheVariants.{And}
use Rattle.ether_pcap.specs.CopiedUnits.{Changed}
use Rattle.ether_pcap.specs.Copies.{CopyFault}
use Rattle.ether_stream.specs.Copying.{IsCopy}

-- this is the copy of the packets that an expression selects, by their captured bytes
abbrev pub SelectsTo : Expression → (bytes copy rest : List ℕ) → Option CopyFault → Type 0
SelectsTo x = IsCopy (Changed 0) (Some (record { filter = x; undecided = None })) None

-- Packets that one expression selects from a capture, and another one from the copy, are those that both select; the
-- second copy ends where the first does, and what is left is what the first left. The first copy has a packet at least,
-- or the front of a capture: an empty list is none.
pub record RunsCompose : Type 0 where
  pub selected : (x y : Expression) (bytes between copy rest left : List ℕ) (fault other : Option CopyFault)
      → IsBytes bytes → IsBytes between → between ≢ []
      → SelectsTo x bytes between rest fault → SelectsTo y between copy left other
      → SelectsTo (Join And x y) bytes copy rest fault × (left ≡ []) × (other ≡ None)
  -- by one expression twice it is the first copy
  pub again : (x : Expression) (bytes between copy rest left : List ℕ) (fault other : Option CopyFault)
      → IsBytes bytes → IsBytes between → between ≢ []
      → SelectsTo x bytes between rest fault → SelectsTo x between copy left other → copy ≡ between
