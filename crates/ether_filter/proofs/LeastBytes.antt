-- While fewer bytes are captured a primitive stays undecided, and with chosen ones it is decided.
use Rattle.std.proofs.Common.{◌≡◌, ℕ, ◌+◌, ◌-◌, ◌<◌, ◌≤◌, List, ◌++◌, length, refl, sym, ap, ◌∙◌, arith, inl, inr, Bool, true, false, IsTrue}
use Rattle.std.specs.Prelude.{replicate}
use Rattle.std.proofs.lemmas.List.{length-append, length-replicate, length-take}
use Rattle.etherparse.specs.Bytes.{IsBytes}
use Rattle.etherparse.specs.Kind.{Kind}
use Rattle.etherparse.specs.Header.{Header}
use Rattle.etherparse.proofs.Numbers.{IsBytes-append}
use Rattle.ether_filter.specs.declared.can.Can.{Can}
use Rattle.ether_filter.specs.declared.packet.Packet.{Packet}
use Rattle.ether_filter.specs.declared.possible.Told.{Told}
use Rattle.ether_filter.specs.declared.primitive.Primitive.{Primitive}
use Rattle.ether_filter.specs.declared.prospect.OpenKind.{OpenKind}
use Rattle.ether_filter.specs.declared.prospect.Prospect.{Prospect}
use Rattle.ether_filter.specs.Later.{IsOpenAs}
use Rattle.ether_filter.specs.Needed.{HasMore, IsUndecided, IsDecided}
use Rattle.ether_filter.specs.Possible.{IsPossible, AreTold}
use Rattle.ether_filter.specs.Prospects.{IsCompletion, IsOpen, IsProspect, IsCut, kind_named}
use Rattle.ether_filter.proofs.MorePackets.{more_ok, open_more, told_more, of_no_lengths}
use Rattle.ether_filter.proofs.Typed.{zeros_are_bytes}

-- a packet is not both
pub never_decided : (q : Primitive) (packet : Packet) → IsDecided packet q → IsUndecided packet q → ⊥
never_decided q packet (inl every) u = every u.1
never_decided q packet (inr none) u = none u.0

pub open_undecided : (q : Primitive) (packet : Packet) (can : Can) → IsPossible packet q can → IsTrue can.matches
    → IsTrue can.fails → IsUndecided packet q
open_undecided q packet can p matches fails = (p.matches.0 matches, p.fails.0 fails)

pub closed_decided : (q : Primitive) (packet : Packet) (can : Can) → IsPossible packet q can
    → (IsTrue can.matches × IsTrue can.fails → ⊥) → IsDecided packet q
closed_decided q packet can p closed = by_test can.fails refl
  where
    by_test : (b : Bool) → can.fails ≡ b → IsDecided packet q
    by_test true is = inr (λ s. closed (p.matches.1 s, is))
    by_test false is = inl (λ s. (let clash : false ≡ true = sym is ∙ p.fails.1 s in cc))

-- each packet is undecided that is open at a unit with this prospect, and of whose known bytes this holds
abbrev pub AllUndecided : Primitive → Told → OpenKind → (List ℕ → Type 0) → Prospect → Type 0
AllUndecided q told kind Fits after =
    (packet : Packet) (hs : List Header) (known : List ℕ) (room : ℕ) → IsOpenAs packet hs kind known room after
    → Fits known → AreTold packet hs q told → IsUndecided packet q

-- a unit has them
pub record IsKept (kind : OpenKind) (Fits : List ℕ → Type 0) (after : Prospect) (known : List ℕ) (room : ℕ)
    : Type 0 where
  pub cut : IsCut kind known
  pub prospect : IsProspect (kind_named kind) known room after
  pub fits : Fits known

pub opens_kept : (kind : OpenKind) (Fits : List ℕ → Type 0) (after : Prospect) (known : List ℕ) (room : ℕ)
    (packet : Packet) (hs : List Header) → IsKept kind Fits after known room → IsBytes packet.frame.now
    → IsOpen packet hs (kind_named kind) known room → IsOpenAs packet hs kind known room after
opens_kept kind Fits after known room packet hs k ok o =
    record { bytes = ok; cut = k.cut; unit = o; prospect = k.prospect }

-- a packet with more bytes is undecided, too, if the unit keeps them
pub stays_by : (q : Primitive) (told : Told) (kind : OpenKind) (Fits : List ℕ → Type 0) (after : Prospect)
    (packet : Packet) (hs : List Header) (known : List ℕ) (room n : ℕ) → AllUndecided q told kind Fits after
    → IsOpen packet hs (kind_named kind) known room → AreTold packet hs q told
    → IsUndecided packet q → n ≤ room + 1 → length known < n
    → ((more : List ℕ) → IsBytes more → length (known ++ more) < n → IsKept kind Fits after (known ++ more) room)
    → (longer : Packet) → HasMore packet longer
    → length longer.frame.now < length packet.frame.now + (n - length known) → IsUndecided longer q
stays_by q told kind Fits after packet hs known room n all o a u le few keeps longer h lt =
    let more = h.captures.more in
    let short : length (known ++ more) < n = omega (
      arith,
      lt,
      few,
      length-append known more,
      ap length h.captures.frame,
      length-append packet.frame.now more,
    ) in
    let k = keeps more (more_ok packet longer h) short in
    let opens = open_more packet longer hs (kind_named kind) known room h o (omega (arith, short, le)) in
    all longer hs (known ++ more) room (opens_kept kind Fits after (known ++ more) room longer hs k h.are_bytes opens)
    k.fits (told_more packet longer hs q told h (of_no_lengths q packet u) a)

-- a packet with chosen bytes
pub decides_by : (q : Primitive) (packet : Packet) (hs : List Header) (kind : Kind) (known more : List ℕ) (room : ℕ)
    → IsBytes packet.frame.now → IsBytes more → IsOpen packet hs kind known room → 0 < length more
    → length (known ++ more) ≤ room
    → ((longer : Packet) → HasMore packet longer → IsBytes longer.frame.now
    → IsOpen longer hs kind (known ++ more) room → IsDecided longer q)
    → (longer : Packet) × HasMore packet longer
    × (length longer.frame.now ≡ length packet.frame.now + length more) × IsDecided longer q
decides_by q packet hs kind known more room ok more_are o some le decided =
    let lost = packet.original_len - packet.captured_len in
    let zeros = replicate lost 0 in
    let zeros_len = length-replicate {A = ℕ} lost 0 in
    let z : IsCompletion packet zeros = record { are_bytes = zeros_are_bytes lost; all = zeros_len } in
    let enough = sym (o.continues zeros z).len ∙ ap length (o.ends zeros z) ∙ length-take room (known ++ zeros) in
    let longer : Packet = record packet {
      frame = record packet.frame { now = packet.frame.now ++ more };
      captured_len = packet.captured_len + length more;
    } in
    let are = IsBytes-append packet.frame.now more ok more_are in
    let h : HasMore packet longer = record {
      captures =
          record { more = more; start = refl; frame = refl; captured = refl; original = refl; time = refl };
      are_bytes = are;
      within = omega (
        arith,
        enough,
        length-append known zeros,
        zeros_len,
        length-append known more,
        le,
        some,
      );
    } in (
      longer,
      h,
      length-append packet.frame.now more,
      decided longer h are (open_more packet longer hs kind known room h o le),
    )
