-- Where packets are open: at their first unit, and after a header that is certain.
use Rattle.std.proofs.Common.{◌≡◌, ℕ, ◌+◌, ◌-◌, ◌≤◌, List, [], ◌∷◌, ◌++◌, length, take, drop, append_assoc, refl, sym, ap, subst, ◌∙◌, arith, inl, inr}
use Rattle.std.specs.Prelude.{Option, Some, None, unwrap_or, option_map, slice_range, replicate}
use Rattle.std.proofs.lemmas.Bool.{cases_lt}
use Rattle.std.proofs.lemmas.List.{append-nil, length-append, length-replicate, length-drop, length-take, length-take-le, take_all, take-take, take-append-drop, take-append-le, drop-append-le}
use Rattle.std.proofs.Math.Seq.{drop-append_seam, take-append_seam, take-append-add}
use Rattle.etherparse.specs.Types.LenSource.TheVariants as sources
use Rattle.etherparse.specs.Bytes.{IsBytes}
use Rattle.etherparse.specs.Kind.{Kind}
use Rattle.etherparse.specs.Header.{Header, header_len, payload_len}
use Rattle.etherparse.specs.Refusal.{Accepts}
use Rattle.etherparse.proofs.Numbers.{IsBytes-append}
use Rattle.etherparse.proofs.SubLists.{part_all, IsBytes-drop, IsBytes-take}
use Rattle.ether_peel.specs.Grammar.Window.{Window, within, payload}
use Rattle.ether_peel.specs.Grammar.Expectation.{announced, after, has_fcs}
use Rattle.ether_peel.specs.Grammar.Stack.{IsUnit, Stack, Walk}
use Rattle.ether_peel.specs.Walker.Start.{start_of}
use Rattle.ether_peel.proofs.Grammar.Windows.{payload_in}
use Rattle.ether_filter.specs.declared.packet.Packet.{Packet}
use Rattle.ether_filter.specs.Prospects.{IsCompletion, Continues, payload_bytes, IsOpen}
use Rattle.ether_filter.specs.CutWalks.{frame_total}
use Rattle.ether_filter.specs.Behind.{IsCertain, room_behind, known_behind}
use Rattle.ether_filter.proofs.Follows.{unlimited_after}
use Rattle.ether_filter.proofs.Tails.{payload_within}
use Rattle.ether_filter.proofs.Typed.{zeros_are_bytes}

-- ---- the first unit

abbrev pub first_window : Packet → Window
first_window packet = record {
  start = 0;
  finish = frame_total packet;
  closed = has_fcs (start_of packet.start);
  bound = sources.Slice;
}

completed_len : (packet : Packet) (more : List ℕ) → IsCompletion packet more
    → length (packet.frame.now ++ more) ≡ frame_total packet
completed_len packet more c = omega (arith, length-append packet.frame.now more, c.all)

completed_within : (packet : Packet) (more : List ℕ) → IsCompletion packet more
    → within (packet.frame.now ++ more) (first_window packet) ≡ packet.frame.now ++ more
completed_within packet more c =
    part_all (packet.frame.now ++ more) (frame_total packet) (omega (arith, completed_len packet more c))

-- the bytes that go on
pub rest_ok : (known more : List ℕ) → IsBytes (known ++ more) → IsBytes more
rest_ok known more ok = subst IsBytes (drop-append_seam known more) (IsBytes-drop (length known) (known ++ more) ok)

pub open_first : (packet : Packet) (kind : Kind) → IsBytes packet.frame.now
    → announced (start_of packet.start) ≡ Some kind
    → IsOpen packet [] kind packet.frame.now (frame_total packet)
open_first packet kind ok is = record {
  expected = start_of packet.start;
  window = first_window packet;
  announces = is;
  unlimited = refl;
  inside = λ more c. record { ordered = omega arith; inside = omega (arith, completed_len packet more c) };
  leads = λ more ts e c s.
      subst (λ (n : ℕ). Stack (packet.frame.now ++ more) (start_of packet.start)
      (record { start = 0; finish = n; closed = has_fcs (start_of packet.start); bound = sources.Slice }) ts e)
      (sym (completed_len packet more c)) s;
  continues = λ more c. record {
    more = more;
    is = completed_within packet more c;
    len = ap length (completed_within packet more c) ∙ completed_len packet more c;
    are_bytes = subst IsBytes (sym (completed_within packet more c))
        (IsBytes-append packet.frame.now more ok c.are_bytes);
  };
  filled = λ bytes on.
      (let c : IsCompletion packet on.more = record {
        are_bytes = rest_ok packet.frame.now on.more (subst IsBytes on.is on.are_bytes);
        all = omega (arith, ap length on.is, on.len, length-append packet.frame.now on.more);
      } in
      (on.more, c, completed_within packet on.more c ∙ sym on.is));
  ends = λ more c. completed_within packet more c
      ∙ sym (take_all (frame_total packet) (packet.frame.now ++ more) (omega (arith, completed_len packet more c)));
}

-- ---- after a header that is certain

behind_fits : (n room : ℕ) (o : Option ℕ) → n ≤ room → n + unwrap_or o 0 ≤ room → n + unwrap_or o (room - n) ≤ room
behind_fits n room None le fits = omega (arith, le)
behind_fits n room (Some p) le fits = fits

payload_part : (n : ℕ) (bytes : List ℕ) (o : Option ℕ) → n ≤ length bytes
    → slice_range bytes n (unwrap_or (option_map (λ p. n + p) o) (length bytes))
    ≡ take (unwrap_or o (length bytes - n)) (drop n bytes)
payload_part n bytes None le = refl
payload_part n bytes (Some p) le =
    ap (λ (k : ℕ). take k (drop n bytes)) (let same : n + p - n ≡ p = omega arith in same)

payload_taken : (h : Header) (bytes : List ℕ) (room : ℕ) → header_len h ≤ room → length bytes ≡ room
    → payload_bytes h bytes ≡ take (room_behind h room) (drop (header_len h) bytes)
payload_taken h bytes room le len =
    payload_part (header_len h) bytes (payload_len h) (omega (arith, le, len))
    ∙ ap (λ (k : ℕ). take (unwrap_or (payload_len h) (k - header_len h)) (drop (header_len h) bytes)) len

-- the first of bytes that go on
pub taken_more : (n : ℕ) (front more : List ℕ) → take n (front ++ more) ≡ take n front ++ take (n - length front) more
taken_more n front more = elim (cases_lt (length front) n) [
  | inl lt ↦
      (let whole : length front + (n - length front) ≡ n = omega (arith, lt) in
      ap (λ (k : ℕ). take k (front ++ more)) (sym whole) ∙ take-append-add front more (n - length front)
      ∙ ap (λ (l : List ℕ). l ++ take (n - length front) more) (sym (take_all n front (omega (arith, lt)))))
  | inr le ↦
      (let none : n - length front ≡ 0 = omega (arith, le) in
      take-append-le n front more le ∙ sym (append-nil (take n front))
      ∙ ap (λ (k : ℕ). take n front ++ take k more) (sym none))
]

-- bytes of the payload, before others, go on from what is known after the header
pub record Refilled (after_header bytes : List ℕ) (len : ℕ) : Type 0 where
  pub rest : List ℕ
  pub tail : List ℕ
  pub is : after_header ++ rest ≡ bytes ++ tail
  pub ok : IsBytes rest
  pub all : length rest ≡ len

pub refill : (known bytes : List ℕ) (k room : ℕ) → k ≤ room → length known ≤ room → Continues (take k known) k bytes
    → Refilled known bytes (room - length known)
refill known bytes k room le inside on = elim (cases_lt k (length known)) [
  | inl past ↦
      (let zeros = replicate (room - length known) 0 in
      let more_none : on.more ≡ [] = empty on.more (omega (
        arith,
        on.len,
        ap length on.is,
        length-append (take k known) on.more,
        length-take-le k known (omega (arith, past)),
      )) in
      let same : bytes ≡ take k known =
      on.is ∙ ap (λ (l : List ℕ). take k known ++ l) more_none ∙ append-nil (take k known) in
      record {
        rest = zeros;
        tail = drop k known ++ zeros;
        is = ap (λ (l : List ℕ). l ++ zeros) (sym (take-append-drop k known))
            ∙ append_assoc (take k known) (drop k known) zeros
            ∙ ap (λ (l : List ℕ). l ++ (drop k known ++ zeros)) (sym same);
        ok = zeros_are_bytes (room - length known);
        all = length-replicate {A = ℕ} (room - length known) 0;
      })
  | inr within_it ↦
      (let zeros = replicate (room - k) 0 in
      let zeros_len = length-replicate {A = ℕ} (room - k) 0 in
      let same : bytes ≡ known ++ on.more = on.is ∙ ap (λ (l : List ℕ). l ++ on.more) (take_all k known within_it) in
      record {
        rest = on.more ++ zeros;
        tail = zeros;
        is = sym (append_assoc known on.more zeros) ∙ ap (λ (l : List ℕ). l ++ zeros) (sym same);
        ok = IsBytes-append on.more zeros (rest_ok known on.more (subst IsBytes same on.are_bytes))
            (zeros_are_bytes (room - k));
        all = omega (
          arith,
          length-append on.more zeros,
          zeros_len,
          on.len,
          ap length same,
          length-append known on.more,
          le,
          inside,
        );
      })
]
  where
    empty : (l : List ℕ) → length l ≡ 0 → l ≡ []
    empty [] none = refl
    empty (b ∷ l) none = absurd (omega (arith, none))

pub certain_unit : (packet : Packet) (hs : List Header) (kind : Kind) (known : List ℕ) (room : ℕ) (h : Header)
    (o : IsOpen packet hs kind known room) → IsCertain kind known room h → (more : List ℕ) → IsCompletion packet more
    → IsUnit (packet.frame.now ++ more) o.expected o.window h
certain_unit packet hs kind known room h o is more c =
    let bytes = within (packet.frame.now ++ more) o.window in
    let a = is.accepts bytes (o.continues more c) in
    record {
      announced = o.announces ∙ ap Some (sym is.of_kind);
      accepted = subst (Accepts o.window.bound bytes) (sym is.of_kind) (a.accepted o.window.bound);
      means = a.means;
    }

certain_payload : (packet : Packet) (hs : List Header) (kind : Kind) (known : List ℕ) (room : ℕ) (h : Header)
    (o : IsOpen packet hs kind known room) → IsCertain kind known room h → (more : List ℕ) → IsCompletion packet more
    → within (packet.frame.now ++ more) (payload o.window h)
    ≡ take (room_behind h room) (drop (header_len h) (within (packet.frame.now ++ more) o.window))
certain_payload packet hs kind known room h o is more c =
    let list = packet.frame.now ++ more in
    payload_within list o.expected o.window h (o.inside more c) is.no_trailer
    (certain_unit packet hs kind known room h o is more c)
    ∙ payload_taken h (within list o.window) room (omega (arith, is.whole, is.inside)) (o.continues more c).len

-- what comes after known bytes comes after those of them that are the payload
behind_end : (n len room : ℕ) (known more : List ℕ) → n ≤ length known → length known ≤ room → n + len ≤ room
    → take len (drop n (take room (known ++ more))) ≡ take len (take len (drop n known) ++ more)
behind_end n len room known more whole inside fits =
    let rest = drop n known in
    let rest_len = length-drop n known in
    let front : take room (known ++ more) ≡ known ++ take (room - length known) more =
    taken_more room known more ∙ ap (λ (l : List ℕ). l ++ take (room - length known) more)
    (take_all room known inside) in
    let part = take len rest in
    let part_len = length-take len rest in
    let same : len - length rest ≡ len - length part = omega (arith, part_len) in
    ap (λ (l : List ℕ). take len (drop n l)) front
    ∙ ap (take len) (drop-append-le n known (take (room - length known) more) whole)
    ∙ taken_more len rest (take (room - length known) more)
    ∙ ap (λ (l : List ℕ). part ++ l)
    (take-take (len - length rest) (room - length known) more (omega (arith, rest_len, whole, fits)))
    ∙ ap (λ (i : ℕ). part ++ take i more) same
    ∙ ap (λ (l : List ℕ). l ++ take (len - length part) more)
    (sym (take_all len part (omega (arith, part_len))))
    ∙ sym (taken_more len part more)

pub open_step : (packet : Packet) (hs : List Header) (kind next : Kind) (known : List ℕ) (room : ℕ) (h : Header)
    (o : IsOpen packet hs kind known room) → IsBytes known → IsCertain kind known room h
    → announced (after o.expected h) ≡ Some next
    → IsOpen packet (hs ++ h ∷ []) next (known_behind h known room) (room_behind h room)
open_step packet hs kind next known room h o ok is announces = record {
  expected = after o.expected h;
  window = payload o.window h;
  announces = announces;
  unlimited = unlimited_after o.expected h o.unlimited;
  inside = λ more c. payload_in (packet.frame.now ++ more) o.expected o.window h (o.inside more c)
      (certain_unit packet hs kind known room h o is more c);
  leads = λ more ts e c s.
      subst (λ (l : List Header). Walk (start_of packet.start) (packet.frame.now ++ more) l e)
      (sym (append_assoc hs (h ∷ []) ts))
      (o.leads more (h ∷ ts) e c (certain_unit packet hs kind known room h o is more c, s));
  continues = λ more c. goes_on more c;
  filled = λ bytes on. fills bytes on;
  ends = λ more c.
      certain_payload packet hs kind known room h o is more c
      ∙ ap (λ (l : List ℕ). take (room_behind h room) (drop (header_len h) l)) (o.ends more c)
      ∙ behind_end (header_len h) (room_behind h room) room known more is.whole is.inside fits;
}
  where
    fits : header_len h + room_behind h room ≤ room
    fits = behind_fits (header_len h) room (payload_len h) (omega (arith, is.whole, is.inside)) is.fits

    goes_on : (more : List ℕ) → IsCompletion packet more
        → Continues (known_behind h known room) (room_behind h room)
        (within (packet.frame.now ++ more) (payload o.window h))
    goes_on more c =
        let on = o.continues more c in
        let bytes = within (packet.frame.now ++ more) o.window in
        let same = certain_payload packet hs kind known room h o is more c in
        let rest = drop (header_len h) known in
        record {
          more = take (room_behind h room - length rest) on.more;
          is = same
              ∙ ap (λ (l : List ℕ). take (room_behind h room) (drop (header_len h) l)) on.is
              ∙ ap (take (room_behind h room)) (drop-append-le (header_len h) known on.more is.whole)
              ∙ taken_more (room_behind h room) rest on.more;
          len = ap length same ∙ length-take-le (room_behind h room) (drop (header_len h) bytes)
              (omega (arith, length-drop (header_len h) bytes, on.len, fits));
          are_bytes = subst IsBytes (sym same)
              (IsBytes-take (room_behind h room) (drop (header_len h) bytes)
              (IsBytes-drop (header_len h) bytes on.are_bytes));
        }

    fills : (bytes : List ℕ) → Continues (known_behind h known room) (room_behind h room) bytes
        → (more : List ℕ) × IsCompletion packet more
        × (within (packet.frame.now ++ more) (payload o.window h) ≡ bytes)
    fills bytes on =
        let rest = drop (header_len h) known in
        let rest_len = length-drop (header_len h) known in
        let r = refill rest bytes (room_behind h room) (room - header_len h) (omega (arith, fits))
        (omega (arith, rest_len, is.inside)) on in
        let all : Continues known room (known ++ r.rest) = record {
          more = r.rest;
          is = refl;
          len = omega (arith, length-append known r.rest, r.all, rest_len, is.whole, is.inside);
          are_bytes = IsBytes-append known r.rest ok r.ok;
        } in
        let found = o.filled (known ++ r.rest) all in (
          found.0,
          found.1,
          certain_payload packet hs kind known room h o is found.0 found.1
              ∙ ap (λ (l : List ℕ). take (room_behind h room) (drop (header_len h) l)) found.2
              ∙ ap (take (room_behind h room)) (drop-append-le (header_len h) known r.rest is.whole ∙ r.is)
              ∙ ap (λ (i : ℕ). take i (bytes ++ r.tail)) (sym on.len) ∙ take-append_seam bytes r.tail,
        )

-- what is expected there

pub open_first_next : (packet : Packet) (kind : Kind) (ok : IsBytes packet.frame.now)
    (is : announced (start_of packet.start) ≡ Some kind)
    → (open_first packet kind ok is).expected ≡ start_of packet.start
unfolding open_first
open_first_next packet kind ok is = refl

pub open_step_next : (packet : Packet) (hs : List Header) (kind next : Kind) (known : List ℕ) (room : ℕ) (h : Header)
    (o : IsOpen packet hs kind known room) (ok : IsBytes known) (is : IsCertain kind known room h)
    (announces : announced (after o.expected h) ≡ Some next)
    → (open_step packet hs kind next known room h o ok is announces).expected ≡ after o.expected h
unfolding open_step
open_step_next packet hs kind next known room h o ok is announces = refl
