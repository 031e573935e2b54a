-- A packet of fourteen bytes, its line, and what that makes, by hand.
use Rattle.std.proofs.Common.{◌≡◌, ℕ, false, List, [], ◌∷◌, ◌++◌, codes, Some, None, Ok, refl}
use Rattle.std.specs.Fmt.{digits}
use Rattle.etherparse.specs.Bytes.{spelled}
use Rattle.etherparse.specs.Header as headers
use Rattle.ether_peel.specs.declared.rest_kind.RestKind.TheVariants as rests
use Rattle.ether_pcap.specs.Capture.{PacketValue}
use Rattle.ether_format.specs.Origins.{OriginValue}
use Rattle.ether_format.specs.declared.end.End.{End}
use Rattle.ether_format.specs.declared.end.End.TheVariants.{Rest}
use Rattle.ether_format.specs.declared.moment.Moment.{Moment}
use Rattle.ether_format.specs.Json.{json_line, json_object}
use Rattle.ether_format.specs.Spelling.{colon_text, dated_text, date_text, json_moment, nine_digits}
use Rattle.ether_format.specs.Told.{Told, Walked}
use Rattle.ether_make.specs.Bits.{bits}
use Rattle.ether_make.specs.Frames.{frame_bytes}
use Rattle.ether_make.specs.PacketData.{packet_data}

abbrev bytes : List ℕ
bytes = 0xFF ∷ 0xFF ∷ 0xFF ∷ 0xFF ∷ 0xFF ∷ 0xFF ∷ 2 ∷ 0 ∷ 0 ∷ 0 ∷ 0 ∷ 1 ∷ 0x08 ∷ 0x00 ∷ []

abbrev packet : PacketValue
packet = record {
  time = Some (record { seconds = 1700000000; nanoseconds = 1000 });
  interface = None;
  direction = None;
  comment = None;
  original_len = 60;
  link_type = 1;
  snap_len = 262144;
  fcs_len = None;
  packet = bytes;
}

abbrev origin : OriginValue
origin = record { file = None; number = 1 }

abbrev moment : Moment
moment = record {
  seconds = 1700000000;
  year = 2023;
  month = 11;
  day = 14;
  hour = 22;
  minute = 13;
  second = 20;
  nanoseconds = 1000;
}

abbrev told : List Told
told =
    Walked (record { start = 0; header_end = 14; payload_end = 14; closed = false })
    (headers.Ethernet2 (record { destination = 0xFFFFFFFFFFFF; source = 0x020000000001; ether_type = 0x0800 })) None ∷
    []

abbrev end : End
end = Rest 14 14 (rests.EtherType (record { 0 = 0x0800 }))

pub a_line : json_line origin packet (Some moment) told end
    ≡ codes "{\"number\":1,\"time\":\"2023-11-14T22:13:20.000001000Z\",\"link\":1,\"captured\":14,\"original\":60,"
    ++ codes "\"interface\":null,\"direction\":null,\"comment\":null,\"file\":null,\"headers\":["
    ++ codes "{\"header\":\"eth\",\"start\":0,\"end\":14,\"payload_end\":14,\"closed\":false,"
    ++ codes "\"dst\":\"ff:ff:ff:ff:ff:ff\",\"src\":\"02:00:00:00:00:01\",\"type\":2048,\"fcs\":null}],"
    ++ codes "\"rest\":{\"start\":14,\"end\":14,\"kind\":\"ether_type\",\"type\":2048}}\n"
unfolding digits spelled json_object colon_text dated_text date_text json_moment nine_digits
a_line = refl

pub a_frame : frame_bytes (packet_data origin packet (Some moment) told end) ≡ Ok bytes
unfolding digits spelled bits colon_text
a_frame = refl
