-- The bytes of a packet.
use Rattle.std.proofs.Common.{◌≡◌, ℕ, ◌/◌, ◌%◌, ◌^◌, ◌<◌, List, [], ◌∷◌, ◌++◌, Ok, Err, refl, sym, ap, ◌∙◌, arith}
use Rattle.std.specs.Prelude.{Result, IfOk, IfErr}
use Rattle.ether_base.specs.Formats.Arp.{ArpValue, ArpFront, FitsArp, arp_bytes, arp_front_number, arp_front_of}
use Rattle.ether_base.specs.Bytes.{IsBytes, number, spelled}
use Rattle.ether_base.specs.declared.err.len_error.LenError.{LenError}
use Rattle.ether_base.specs.declared.len_source.LenSource.{LenSource}
use Rattle.ether_base.specs.declared.len_source.LenSource.TheVariants as sources
use Rattle.ether_base.specs.Formats.Header as headers
use Rattle.ether_base.specs.Formats.Header.{Means}
use Rattle.ether_base.specs.Formats.Kind as kinds
use Rattle.ether_base.specs.Formats.Refusal.{Accepts}
use Rattle.ether_base.specs.Formats.RefusedLen.{IsRefusedLen}
use Rattle.ether_base.proofs.Numbers.{IsBytes-nil, IsBytes-cons, IsBytes-append, IsBytes-spelled, spelled-is}
use Rattle.ether_base.proofs.ArrayElements.{cells}
use Rattle.ether_base.proofs.ReadBack.{means-header_bytes}
use Rattle.ether_base.proofs.Means.{arp_begins, one_header}
use Rattle.ether_base.proofs.Rows.{accepts_arp}

pub arp_bytes_are_bytes : (a : ArpValue) → FitsArp a → IsBytes (arp_bytes a)
arp_bytes_are_bytes a f =
    let x = spelled 8 (arp_front_number (arp_front_of a)) in
    let okx =
    IsBytes-append x a.sender_hardware (IsBytes-spelled 8 (arp_front_number (arp_front_of a))) f.sender_hardware in
    let oky = IsBytes-append (x ++ a.sender_hardware) a.sender_protocol okx f.sender_protocol in
    let okz = IsBytes-append (x ++ a.sender_hardware ++ a.sender_protocol) a.target_hardware oky f.target_hardware in
    IsBytes-append (x ++ a.sender_hardware ++ a.sender_protocol ++ a.target_hardware) a.target_protocol okz
    f.target_protocol

-- a list that means a packet is accepted
pub meant_accepted : (bound : LenSource) (bytes : List ℕ) (a : ArpValue) → Means bytes (headers.Arp a)
    → Accepts bound bytes kinds.Arp
meant_accepted bound bytes a m =
    let w = m.whole in accepts_arp bound bytes (arp_front_of a) (omega arith) (arp_begins bytes a m) w

pub written_accepted : (bound : LenSource) (a : ArpValue) (more : List ℕ) → FitsArp a
    → Accepts bound (arp_bytes a ++ more) kinds.Arp
written_accepted bound a more f =
    meant_accepted bound (arp_bytes a ++ more) a (means-header_bytes (headers.Arp a) more f)

-- two numbers of two bytes, two of one and one of two, one after the other
pub front_written : (f : ArpFront) (bh bp bo : List ℕ) → f.hardware_type < 2 ^ 16 → f.protocol_type < 2 ^ 16
    → f.hardware_size < 256 → f.protocol_size < 256 → f.operation < 2 ^ 16
    → bh ≡ f.hardware_type / 256 % 256 ∷ f.hardware_type % 256 ∷ []
    → bp ≡ f.protocol_type / 256 % 256 ∷ f.protocol_type % 256 ∷ []
    → bo ≡ f.operation / 256 % 256 ∷ f.operation % 256 ∷ []
    → cells 0 2 bh ++ (cells 0 2 bp ++ f.hardware_size ∷ f.protocol_size ∷ cells 0 2 bo)
    ≡ spelled 8 (arp_front_number f)
front_written f bh bp bo lt lu lh lp lo is_h is_p is_o =
    let t = f.hardware_type in
    let u = f.protocol_type in
    let h = f.hardware_size in
    let p = f.protocol_size in
    let o = f.operation in
    let same : cells 0 2 bh ++ (cells 0 2 bp ++ h ∷ p ∷ cells 0 2 bo)
    ≡ t / 256 % 256 ∷ t % 256 ∷ u / 256 % 256 ∷ u % 256 ∷ h ∷ p ∷ o / 256 % 256 ∷ o % 256 ∷ [] =
    ap (λ (l : List ℕ). cells 0 2 l ++ (cells 0 2 bp ++ h ∷ p ∷ cells 0 2 bo)) is_h
    ∙ ap (λ (l : List ℕ). t / 256 % 256 ∷ t % 256 ∷ (cells 0 2 l ++ h ∷ p ∷ cells 0 2 bo)) is_p
    ∙ ap (λ (l : List ℕ). t / 256 % 256 ∷ t % 256 ∷ u / 256 % 256 ∷ u % 256 ∷ h ∷ p ∷ cells 0 2 l) is_o in
    let list = t / 256 % 256 ∷ t % 256 ∷ u / 256 % 256 ∷ u % 256 ∷ h ∷ p ∷ o / 256 % 256 ∷ o % 256 ∷ [] in
    let two =
    IsBytes-cons (o / 256 % 256) (o % 256 ∷ []) (omega arith)
    (IsBytes-cons (o % 256) [] (omega arith) IsBytes-nil) in
    let four =
    IsBytes-cons h (p ∷ o / 256 % 256 ∷ o % 256 ∷ []) lh (IsBytes-cons p (o / 256 % 256 ∷ o % 256 ∷ []) lp two) in
    let six =
    IsBytes-cons (u / 256 % 256) (u % 256 ∷ h ∷ p ∷ o / 256 % 256 ∷ o % 256 ∷ []) (omega arith)
    (IsBytes-cons (u % 256) (h ∷ p ∷ o / 256 % 256 ∷ o % 256 ∷ []) (omega arith) four) in
    let ok : IsBytes list =
    IsBytes-cons (t / 256 % 256) (t % 256 ∷ u / 256 % 256 ∷ u % 256 ∷ h ∷ p ∷ o / 256 % 256 ∷ o % 256 ∷ [])
    (omega arith)
    (IsBytes-cons (t % 256) (u / 256 % 256 ∷ u % 256 ∷ h ∷ p ∷ o / 256 % 256 ∷ o % 256 ∷ []) (omega arith)
    six) in
    let n : number list ≡ arp_front_number f = omega arith in
    same ∙ sym (spelled-is 8 list refl ok) ∙ ap (spelled 8) n

-- reading these bytes returns the packet
pub read_is : (bytes : List ℕ) (a : ArpValue) (r : Result ArpValue LenError) → Means bytes (headers.Arp a)
    → IfOk r (λ p. Means bytes (headers.Arp p)) → IfErr r (IsRefusedLen bytes kinds.Arp) → r ≡ Ok a
read_is bytes a (Ok p) m ok err =
    let e = one_header bytes (headers.Arp p) (headers.Arp a) refl ok m in let same : p ≡ a = cc in ap Ok same
read_is bytes a (Err e) m ok err = absurd (meant_accepted sources.Slice bytes a m _ err.row)
