-- The options of a unit of a capture file in the array that a caller in C passes.
use Rattle.std.specs.Prelude.{◌≡◌, ℕ, List, ◌++◌, length, take, drop}
use Rattle.ether_pcap.specs.Options.{OptionValue, HasOptions}
use Rattle.ether_pcap.specs.OptionReading.{HasOptionBytes}
use Rattle.ether_pcap.specs.Views.{order_of}
use Rattle.ether_pcap.specs.declared.byte_order.ByteOrder.{ByteOrder}
use Rattle.ether_pcap.specs.declared.capture.reader_state.ReaderState.{ReaderState}
use Rattle.ether_c.specs.declared.ether_option.EtherOption.{EtherOption}
use Rattle.ether_c.specs.Numbers.{done}
use Rattle.ether_c.specs.Puts.{AllMatched}

pub record HoldsOption (c : EtherOption) (o : OptionValue) : Type 0 where
  pub value : c.value.now ≡ o.value
  pub code : c.code ≡ o.code

-- The options are counted. The array holds them in the order of the unit, as many as it has room for, and then what it
-- held before.
pub record PutsAll (all : List OptionValue) (old new : List EtherOption) (count : ℕ) : Type 0 where
  pub given : List EtherOption
  pub are : AllMatched HoldsOption given all
  pub counted : count ≡ length all
  pub held : new ≡ take (length old) given ++ drop count old

-- The options of a unit are given; or the bytes do not begin with a unit of a pcapng file, and there are none.
pub data GivesOptions (unit : List ℕ) (state : ReaderState) (old new : List EtherOption) (count status : ℕ)
    : Type 0 where
  some : (order : ByteOrder) (bytes : List ℕ) → HasOptionBytes unit state order bytes
      → ((all : List OptionValue) → HasOptions (order_of order) bytes all → PutsAll all old new count) → status ≡ done
      → GivesOptions unit state old new count status
  none : ((order : ByteOrder) (bytes : List ℕ) → HasOptionBytes unit state order bytes → ⊥) → count ≡ 0 → new ≡ old
      → status ≡ done → GivesOptions unit state old new count status
