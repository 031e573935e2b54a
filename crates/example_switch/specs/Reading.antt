-- The packets that a switch reads.
use Rattle.std.specs.Prelude.{◌≡◌, ℕ, ◌+◌, ◌-◌, ◌^◌, List, Option, Some, None, unwrap_or, slice_get, min}
use Rattle.ether_pcap.specs.Capture.{PacketValue, TimeValue}
use Rattle.ether_content.specs.Content.{without_fcs}
use Rattle.example_switch.specs.declared.port.Port.{Port}
use Rattle.example_switch.specs.declared.reading.Arrival.{Arrival}

-- the seconds of a time, at most 2^32 - 1; 0 if there is no time
abbrev pub seconds_of : Option TimeValue → ℕ
seconds_of None = 0
seconds_of (Some t) = min t.seconds (2 ^ 32 - 1)

-- An Ethernet frame comes in by the port of its interface. Ports are numbered from 1 on, and interfaces from 0 on. All
-- packets of a classic file belong to the first interface.
pub record IsReceived (ports : List Port) (p : PacketValue) (a : Arrival) (bytes : List ℕ) : Type 0 where
  pub link : p.link_type ≡ 1
  pub time : a.time ≡ seconds_of p.time
  pub number : a.from ≡ unwrap_or p.interface 0 + 1
  pub port : slice_get ports (unwrap_or p.interface 0) ≡ Some a.port
  pub frame : bytes ≡ without_fcs p
