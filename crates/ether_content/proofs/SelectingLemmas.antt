-- Which packets a filter selects.
use Rattle.std.proofs.Common.{◌≡◌, ℕ, List, length, Bool, refl, subst, Bor}
use Rattle.std.specs.Prelude.{IsTrue, ◌↔◌, Option, Some, None}
use Rattle.std.specs.Option.{option_map}
use Rattle.etherparse.specs.Header.{Header}
use Rattle.ether_base.specs.Bytes.{IsBytes}
use Rattle.ether_peel.specs.Grammar.Expectation.{Next, Expectation}
use Rattle.ether_peel.specs.Grammar.Stack.{Ending, Walk, whole}
use Rattle.ether_peel.proofs.Grammar.Stacks.{some_stack}
use Rattle.ether_peel.specs.Walker.Start.{next_of, start_of}
use Rattle.ether_peel.specs.declared.start.Start.{Start}
use Rattle.ether_filter.specs.declared.packet.Packet.{Packet}
use Rattle.ether_filter.specs.Primitives.{walked, nanoseconds_of as nanoseconds_asked}
use Rattle.ether_filter.specs.Expressions.{Expression, Holds}
use Rattle.ether_pcap.specs.Capture.{PacketValue}
use Rattle.ether_pcap.specs.CaptureViews.{captured_packet_view, timestamp_view}
use Rattle.ether_pcap.specs.declared.capture.captured_packet.CapturedPacket.{CapturedPacket}
use Rattle.ether_pcap.specs.declared.capture.timestamp.Timestamp.{Timestamp}
use Rattle.ether_content.specs.Content.{IsWalked, content_of}
use Rattle.ether_content.specs.Selecting.{HoldsOf, Selects, asked_of, nanoseconds_of, packet_time, time_of, time_view}
use Rattle.ether_content.proofs.ContentLemmas.{walked_once}

pub holds_of : (x : Expression) (next : Next) (frame : List ℕ) (captured original : ℕ) (time : Option ℕ)
    (result : Bool) → IsBytes frame
    → ((hs : List Header) (e : Ending) → Walk (record { next = next; limit = None }) frame hs e
    → IsTrue result
    ↔ Holds x (record {
      start = next;
      headers = hs;
      ending = e;
      captured = captured;
      original = original;
      time = time;
    }))
    → IsTrue result ↔ HoldsOf x next frame captured original time
holds_of x next frame captured original time result ok matches = (
  λ true.
      let start : Expectation = record { next = next; limit = None } in
      let some = some_stack frame start (whole start frame) ok in
      record {
        headers = some.0;
        ending = some.1;
        walk = some.2;
        holds = (matches some.0 some.1 some.2).0 true;
      },
  λ is. (matches is.headers is.ending is.walk).1 is.holds,
)

-- an expression selects a packet exactly if it holds of the one frame that is walked
pub selected : (x : Expression) (p : PacketValue) (next : Next) (frame : List ℕ) (result : Bool)
    → IsWalked (content_of p) next frame
    → IsTrue result ↔ HoldsOf x next frame (length p.packet) p.original_len (time_of p) → IsTrue result ↔ Selects x p
selected x p next frame result walked holds = (
  λ true. record { next = next; frame = frame; walked = walked; holds = holds.0 true },
  λ selects.
      let one = walked_once (content_of p) selects.next next selects.frame frame selects.walked walked in
      holds.1 (subst (λ (n : Next). HoldsOf x n frame (length p.packet) p.original_len (time_of p)) one.0
      (subst (λ (f : List ℕ). HoldsOf x selects.next f (length p.packet) p.original_len (time_of p)) one.1
      selects.holds)),
)

-- ---- the time that a filter has

pub asked_time : (o : Option Timestamp) → option_map time_view (option_map packet_time o) ≡ option_map timestamp_view o
asked_time None = refl
asked_time (Some t) = refl

same_time : (o : Option Timestamp)
    → option_map nanoseconds_asked (option_map packet_time o) ≡ option_map nanoseconds_of (option_map timestamp_view o)
same_time None = refl
same_time (Some t) = refl

-- what a filter is applied to has the lengths and the time of the captured packet
pub asked_holds : (x : Expression) (start : Start) (frame : Bor (List ℕ)) (p : CapturedPacket) (asked : Packet)
    (result : Bool) → asked ≡ asked_of start frame p
    → ((hs : List Header) (e : Ending) → Walk (start_of asked.start) asked.frame.now hs e
    → IsTrue result ↔ Holds x (walked asked hs e))
    → (hs : List Header) (e : Ending) → Walk (record { next = next_of start; limit = None }) frame.now hs e
    → IsTrue result
    ↔ Holds x (record {
      start = next_of start;
      headers = hs;
      ending = e;
      captured = length p.packet.now;
      original = p.original_len;
      time = time_of (captured_packet_view p);
    })
asked_holds x start frame p asked result is matches hs e walk
    =
    let here = subst (λ (a : Packet). Walk (start_of a.start) a.frame.now hs e → IsTrue result ↔ Holds x (walked a hs
    e))
    is (matches hs e) walk in
    subst (λ (t : Option ℕ). IsTrue result ↔ Holds x (record {
      start = next_of start;
      headers = hs;
      ending = e;
      captured = length p.packet.now;
      original = p.original_len;
      time = t;
    })) (same_time p.time) here
