-- Where a packet is open, by the fault of its walk.
use Rattle.std.proofs.Common.{◌≡◌, ℕ, ◌+◌, ◌-◌, ◌<◌, ◌≤◌, List, length, refl, sym, ap, subst, ◌∙◌, arith, false}
use Rattle.std.specs.Prelude.{Some}
use Rattle.etherparse.specs.Types.LenError.{LenError}
use Rattle.etherparse.specs.Types.Layer.{Layer}
use Rattle.etherparse.specs.Header.{Header}
use Rattle.etherparse.specs.Refusal.{Refusal, Length, UnsupportedPacketType, UnsupportedHardwareType, UnexpectedVersion, InvalidShortLen, Refuses}
use Rattle.etherparse.proofs.SubLists.{length-part}
use Rattle.etherparse.proofs.Rows.{row_short}
use Rattle.ether_peel.specs.Grammar.Window.{Window, within}
use Rattle.ether_peel.specs.Grammar.Expectation.{Expectation, has_fcs}
use Rattle.ether_peel.specs.Grammar.Stack.{Ending, Accepted, Fault, whole, Walk}
use Rattle.ether_peel.specs.Grammar.Endings.{OpenRefusal, named_len}
use Rattle.ether_peel.specs.Walker.Start.{start_of}
use Rattle.ether_peel.specs.Walker.Fault.{fault_in, Misses}
use Rattle.ether_peel.specs.Walker.Summary.{fault_of, IsSummary}
use Rattle.ether_peel.specs.declared.peel_error.PeelError.TheVariants as errors
use Rattle.ether_peel.specs.declared.peel_fault.PeelFault.{PeelFault}
use Rattle.ether_peel.specs.declared.walk_summary.Summary.{Summary}
use Rattle.ether_peel.proofs.Grammar.Carrying.{leads}
use Rattle.ether_peel.proofs.Grammar.Extensions.{no_fcs, walk_open_to_end}
use Rattle.ether_filter.specs.declared.packet.Packet.{Packet}
use Rattle.ether_filter.specs.Deciding.{lost, IsOpenAt, refused, fcs}
use Rattle.ether_filter.specs.Evaluation.{IsRefusedUnit, IsOpening}
use Rattle.ether_filter.proofs.Completions.{one_required}

-- ---- the fault

pub fault_is : (start : Expectation) (list : List ℕ) (s : Summary) (hs : List Header) (e : Ending)
    → IsSummary start list s
    → Walk start list hs e → s.fault ≡ fault_of e
fault_is start list s hs e is walk =
    ap (λ (s : Summary). s.fault) is.is ∙ ap fault_of (sym (is.one hs e walk).1)

-- an open refusal is a fault with missing bytes
pub misses : (start : Expectation) (list : List ℕ) (hs : List Header) (e : Ending) (fault : PeelFault)
    → Walk start list hs e → fault_of e ≡ Some fault → (o : OpenRefusal e)
    → (n : ℕ) × Misses fault n
misses start list hs (Accepted v y) fault walk is o = absurd cc
misses start list hs (Fault v y r) fault walk is o =
    let refused = o.refused in
    let same : r ≡ Length o.required o.len o.source o.layer = cc in
    let l = (leads list start (whole start list) hs (Fault v y r) walk).1 in
    let short = row_short v.bound o.source (within list v) l.2 o.required o.len o.layer
    (subst (Refuses v.bound (within list v) l.2) same l.4) in
    let lt = short.1 in
    let fault_same : fault_in v (Length o.required o.len o.source o.layer) ≡ fault =
    ap (fault_in v) (sym same) ∙ (let some : Some (fault_in v r) ≡ Some fault = is in cc) in (
      o.required - o.len,
      subst (λ (f : PeelFault). Misses f (o.required - o.len)) fault_same (record {
        is_open = o.is_open;
        error = record {
          required_len = o.required;
          len = o.len;
          len_source = o.source;
          layer = o.layer;
          layer_start_offset = v.start;
        };
        of_length = refl;
        short = lt;
        missing = omega arith;
      }),
    )

-- a fault with missing bytes is an open refusal, and names the length at which they are there
pub record IsOpenFault (list : List ℕ) (e : Ending) (n : ℕ) (error : LenError) : Type 0 where
  pub refusal : OpenRefusal e
  pub names : named_len e refusal ≡ length list + n
  pub layer : refusal.layer ≡ error.layer

open_refusal : (e : Ending) (fault : PeelFault) (n : ℕ) (error : LenError) → fault_of e ≡ Some fault → Misses fault n
    → fault.error ≡ errors.Len error → OpenRefusal e
open_refusal (Accepted v y) fault n error is m of = absurd cc
open_refusal (Fault v y (Length required len source layer)) fault n error is m of =
    let same : fault_in v (Length required len source layer) ≡ fault = cc in
    record {
      required = required;
      len = len;
      source = source;
      layer = layer;
      refused = refl;
      is_open = ap (λ (f : PeelFault). f.closed) same ∙ m.is_open;
    }
open_refusal (Fault v y (UnsupportedPacketType p)) fault n error is m of = absurd cc
open_refusal (Fault v y (UnsupportedHardwareType p)) fault n error is m of = absurd cc
open_refusal (Fault v y UnexpectedVersion) fault n error is m of = absurd cc
open_refusal (Fault v y InvalidShortLen) fault n error is m of = absurd cc

open_fault : (start : Expectation) (list : List ℕ) (hs : List Header) (v : Window) (y : Expectation) (r : Refusal)
    (n : ℕ) (error : LenError)
    → has_fcs start ≡ false → Walk start list hs (Fault v y r) → Misses (fault_in v r) n → (fault_in v r).error
    ≡ errors.Len error
    → IsOpenFault list (Fault v y r) n error
open_fault start list hs v y (Length required len source layer) n error free walk m is =
    let e = Fault v y (Length required len source layer) in
    let o : OpenRefusal e =
    record { required = required; len = len; source = source; layer = layer; refused = refl; is_open = m.is_open } in
    let l = (leads list start (whole start list) hs e walk).1 in
    let short = row_short v.bound source (within list v) l.2 required len layer l.4 in
    let g = walk_open_to_end start list hs e free walk in
    let finish = g.ends m.is_open in
    let at = g.is_in.ordered in
    let part = length-part list v.start v.finish g.is_in.inside in
    let there = short.0 in
    let missing = m.missing in
    let of = m.of_length in
    let lens : m.error.len ≡ len = cc in
    let required_lens : m.error.required_len ≡ required = cc in
    record { refusal = o; names = omega arith; layer = cc }
open_fault start list hs v y (UnsupportedPacketType p) n error free walk m is = absurd cc
open_fault start list hs v y (UnsupportedHardwareType p) n error free walk m is = absurd cc
open_fault start list hs v y UnexpectedVersion n error free walk m is = absurd cc
open_fault start list hs v y InvalidShortLen n error free walk m is = absurd cc

pub is_open_fault : (start : Expectation) (list : List ℕ) (hs : List Header) (e : Ending) (fault : PeelFault) (n : ℕ)
    (error : LenError)
    → has_fcs start ≡ false → Walk start list hs e → fault_of e ≡ Some fault → Misses fault n → fault.error
    ≡ errors.Len error
    → IsOpenFault list e n error
is_open_fault start list hs (Accepted v y) fault n error free walk is m of = absurd cc
is_open_fault start list hs (Fault v y r) fault n error free walk is m of =
    let same : fault_in v r ≡ fault = cc in
    open_fault start list hs v y r n error free walk (subst (λ (f : PeelFault). Misses f n) (sym same) m)
    (ap (λ (f : PeelFault). f.error) same ∙ of)

-- of any walk
pub refused_is : (start : Expectation) (list : List ℕ) (hs : List Header) (e : Ending) (fault : PeelFault) (n : ℕ)
    (error : LenError) → Walk start list hs e → fault_of e ≡ Some fault → Misses fault n
    → fault.error ≡ errors.Len error → IsRefusedUnit list e (Some (n, error.layer))
refused_is start list hs e fault n error walk is m of =
    let f = is_open_fault start list hs e fault n error
    (no_fcs start list hs e walk (open_refusal e fault n error is m of)) walk is m of in
    (f.refusal, f.names, f.layer)

-- ---- the packet

-- it is not open, if no unit is refused
pub not_open : (packet : Packet) (e : Ending) → has_fcs (start_of packet.start) ≡ false
    → (OpenRefusal e → ⊥) → (n : ℕ) → IsOpenAt packet e n → ⊥
not_open packet e free never n (refused o cut names few) = never o
not_open packet e free never n (fcs has cut all) = cc

-- .. or if it had fewer bytes than that one needs
pub out_of_reach : (packet : Packet) (e : Ending) (m : ℕ) (layer : Layer) → has_fcs (start_of packet.start) ≡ false
    → IsRefusedUnit packet.frame.now e (Some (m, layer)) → lost packet < m → (n : ℕ) → IsOpenAt packet e n → ⊥
out_of_reach packet e m layer free unit lt n (refused p cut names few) =
    let same = one_required e unit.0 p in
    let there = unit.1 in
    omega arith
out_of_reach packet e m layer free unit lt n (fcs has cut all) = cc

pub in_reach : (packet : Packet) (e : Ending) (m : ℕ) (layer : Layer)
    → IsRefusedUnit packet.frame.now e (Some (m, layer)) → m ≤ lost packet → 0 < lost packet
    → IsOpening packet e (Some (record { needed = length packet.frame.now + m; layer = Some layer }))
in_reach packet e m layer unit le some =
    (refused unit.0 (omega arith) unit.1 (omega arith), (unit.0, unit.2))
