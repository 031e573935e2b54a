-- One step of a walk.
use Rattle.std.proofs.Common.{◌≡◌, ℕ, ◌+◌, ◌-◌, ◌/◌, ◌<◌, ◌≤◌, List, [], ◌∷◌, length, Bool, true, false, refl, sym, ap, subst, ◌∙◌, arith}
use Rattle.std.specs.Prelude.{slice_range, Option, Some, None, Ok, Err, unwrap_or, if◌then◌else◌, ◌==◌}
use Rattle.std.specs.Iterator.{size}
use Rattle.etherparse.specs.Types.LenSource.{LenSource}
use Rattle.etherparse.specs.Types.LenSource.TheVariants as sources
use Rattle.etherparse.specs.Types.LenError.{LenError}
use Rattle.etherparse.specs.Types.LinuxSllHeaderError.{HeaderError as LinuxSllHeaderError}
use Rattle.etherparse.specs.Types.LinuxSllHeaderError.TheVariants as linux_sll
use Rattle.etherparse.specs.Types.MacsecHeaderError.{HeaderError as MacsecHeaderError}
use Rattle.etherparse.specs.Types.MacsecHeaderError.TheVariants as macsec
use Rattle.etherparse.specs.HeaderSliceError.{Len, Content}
use Rattle.etherparse.specs.Kind.{Kind}
use Rattle.etherparse.specs.Kind as kinds
use Rattle.etherparse.specs.Header.{Header, kind_of, header_len, payload_len, trailer_len, Means}
use Rattle.etherparse.specs.Refusal.{Length, UnsupportedPacketType, UnsupportedHardwareType, Refuses, Accepts}
use Rattle.etherparse.specs.RefusedLen.{IsRefusedLen}
use Rattle.etherparse.specs.LinuxSll.{IsRefusedContent}
use Rattle.etherparse.specs.LinuxNonstandardEtherType.{is_nonstandard}
use Rattle.etherparse.specs.LinuxSllProtocolType.{ethernet_protocol_type, link_protocol_of, protocol_of}
use Rattle.etherparse.specs.Types.LinuxSllProtocolType.TheVariants as protocols
use Rattle.etherparse.specs.Types.LinuxSllProtocolType.TheVariants.{NetlinkProtocolType, GenericRoutingEncapsulationProtocolType, Ignored, LinuxNonstandardEtherType}
use Rattle.etherparse.specs.Macsec.{IsRefusedPacket}
use Rattle.etherparse.proofs.SubLists.{length-part, part_of_part}
use Rattle.etherparse.proofs.Rows.{one_row}
use Rattle.etherparse.proofs.Means.{one_header, unit_fits}
use Rattle.ether_peel.specs.Grammar.Window.{Window, within, IsIn, payload}
use Rattle.ether_peel.proofs.Grammar.Windows.{payload_from, payload_finish, payload_closed, payload_bound}
use Rattle.ether_peel.specs.Grammar.Expectation.{Expectation, Next, EtherType, Sll, is_extension, announced, after_capture, next_after, lowered, after}
use Rattle.ether_peel.specs.Grammar.Stack.{Ending, Accepted, Fault, Stack}
use Rattle.ether_peel.specs.Walker.State.{State, expected_of}
use Rattle.ether_peel.specs.Walker.Fault.{error_at, fault_in}
use Rattle.ether_peel.specs.Walker.Reading.{IsRefusedBy, after_protocol, named_error}
use Rattle.ether_peel.proofs.Walker.Bounds.{named, bounded_row, accepts_bounded, named_at}
use Rattle.ether_peel.specs.Walker.Next.{Faces, ShowsUnit, GivesNext, Gives, items_left}
use Rattle.ether_peel.specs.declared.peel.Peel.TheInside.{Inside}
use Rattle.ether_peel.specs.declared.peel_unit.PeelUnit.{PeelUnit}
use Rattle.ether_peel.specs.declared.peel_error.PeelError.{PeelError}
use Rattle.ether_peel.specs.declared.peel_error.PeelError.TheVariants as errors
use Rattle.ether_peel.specs.declared.peel_fault.PeelFault.{PeelFault}

-- ---- what is expected after a cooked capture

after_link : (is_netlink is_gre : Bool) (n : ℕ) →
    after_protocol
    (if is_netlink then NetlinkProtocolType n
    else (if is_gre then GenericRoutingEncapsulationProtocolType n else Ignored n))
    ≡ Sll
    (if is_netlink then NetlinkProtocolType n
    else (if is_gre then GenericRoutingEncapsulationProtocolType n else Ignored n))
after_link true is_gre n = refl
after_link false true n = refl
after_link false false n = refl

after_ethernet : (is_nonstandard : Bool) (n : ℕ) →
    after_protocol (if is_nonstandard then LinuxNonstandardEtherType n else protocols.EtherType (record { 0 = n }))
    ≡ EtherType n
after_ethernet true n = refl
after_ethernet false n = refl

after_either : (is_ethernet : Bool) (hardware n : ℕ) →
    after_protocol (if is_ethernet then ethernet_protocol_type n else link_protocol_of hardware n)
    ≡ (if is_ethernet then EtherType n else Sll (link_protocol_of hardware n))
after_either true hardware n = after_ethernet (is_nonstandard n) n
after_either false hardware n = after_link (hardware == 824) (hardware == 778) n

pub after_capture_is : (hardware n : ℕ) → after_protocol (protocol_of hardware n) ≡ after_capture hardware n
after_capture_is hardware n = after_either (hardware == 1) hardware n

-- what the fields of a walker show
abbrev pub shown : Inside → State
shown a = record {
  rest = a.rest.now;
  offset = a.end - length a.rest.now;
  closed = a.is_closed;
  bound = a.bound;
  expected = record { next = expected_of a.first a.kind; limit = a.limit };
  over = a.is_over;
}

not_over : (b : Bool) → b ≡ false → b ≡ true → ⊥
not_over b e f = let g : false ≡ true = sym e ∙ f in cc

no_kind : (o : Option Kind) (k : Kind) → o ≡ None → o ≡ Some k → ⊥
no_kind o k e f = let g : None ≡ Some k = sym e ∙ f in cc

same_kind : (o : Option Kind) (k l : Kind) → o ≡ Some k → o ≡ Some l → k ≡ l
same_kind o k l e f = let g : Some k ≡ Some l = sym e ∙ f in cc

-- ---- nothing

-- the fault was given
pub gives_over : (s : State) → s.over ≡ true → Gives s None s
gives_over s over = record {
  over = λ _. (refl, refl);
  next = λ going list w hs e f. absurd (not_over s.over going over);
}

next_none : (list : List ℕ) (w : Window) (s : State) (hs : List Header) (e : Ending) → announced s.expected ≡ None
    → Faces list w s hs e → GivesNext list w hs e s None s
next_none list w s [] (Accepted v y) none f = (refl, refl)
next_none list w s [] (Fault v y r) none f = absurd (no_kind (announced s.expected) f.stack.2 none f.stack.3)
next_none list w s (h ∷ hs) e none f = absurd (no_kind (announced s.expected) (kind_of h) none f.stack.0.announced)

-- nothing is announced
pub gives_none : (s : State) → announced s.expected ≡ None → Gives s None s
gives_none s none = record {
  over = λ _. (refl, refl);
  next = λ going list w hs e f. next_none list w s hs e none f;
}

-- ---- the fault

-- the fault of an error at the window left to read, which names the window's bound
abbrev pub fault_at : State → PeelError → PeelFault
fault_at s error = record { offset = s.offset; error = named_error s.bound error; closed = s.closed }

abbrev pub ended : State → State
ended s = record s { over = true }

next_fault : (list : List ℕ) (w : Window) (s : State) (hs : List Header) (e : Ending) (error : PeelError)
    → IsRefusedBy s error → Faces list w s hs e
    → GivesNext list w hs e s (Some (Err (fault_at s error))) (ended s)
next_fault list w s [] (Accepted v y) error r f = absurd (no_kind (announced s.expected) r.kind f.stack.2 r.announced)
next_fault list w s [] (Fault v y q) error r f =
    let same = same_kind (announced s.expected) f.stack.2 r.kind f.stack.3 r.announced in
    let held = subst (λ (k : Kind). Refuses w.bound (within list w) k q) same f.stack.4 in
    let own =
    bounded_row w.bound (within list w) r.kind r.refusal
    (subst (λ (l : List ℕ). Refuses sources.Slice l r.kind r.refusal) f.rest r.refuses) in
    let is = one_row w.bound (within list w) r.kind q (named w.bound r.refusal) held own in
    let at = f.offset in
    let mark = f.closed in
    let shows : named_error s.bound error ≡ error_at w.start q =
    ap (named_error s.bound) r.shows ∙ named_at s.bound s.offset r.refusal
    ∙ ap (λ (o : LenSource). error_at s.offset (named o r.refusal)) f.bound
    ∙ ap (λ (n : ℕ). error_at n (named w.bound r.refusal)) at ∙ ap (error_at w.start) (sym is) in
    let fault : fault_at s error ≡ fault_in w q = λ i. record { offset = at i; error = shows i; closed = mark i } in
    (ap (λ (g : PeelFault). Some (Err g)) fault, refl)
next_fault list w s (h ∷ hs) e error r f =
    let same = same_kind (announced s.expected) r.kind (kind_of h) r.announced f.stack.0.announced in
    let own =
    bounded_row w.bound (within list w) r.kind r.refusal
    (subst (λ (l : List ℕ). Refuses sources.Slice l r.kind r.refusal) f.rest r.refuses) in
    absurd
    (f.stack.0.accepted _
    (subst (λ (k : Kind). Refuses w.bound (within list w) k (named w.bound r.refusal)) same own))

-- the unit is refused
pub gives_fault : (s : State) (error : PeelError) → IsRefusedBy s error
    → Gives s (Some (Err (fault_at s error))) (ended s)
gives_fault s error r = record {
  over = λ over. absurd (not_over s.over r.going over);
  next = λ going list w hs e f. next_fault list w s hs e error r f;
}

-- a length error, moved to the start of the unit
pub refused_len : (s : State) (kind : Kind) (bytes : List ℕ) (offset : ℕ) (e moved : LenError) → s.over ≡ false
    → announced s.expected ≡ Some kind → bytes ≡ s.rest → offset ≡ s.offset → IsRefusedLen bytes kind e
    → moved ≡ record e { layer_start_offset = e.layer_start_offset + offset } → IsRefusedBy s (errors.Len moved)
refused_len s kind bytes offset e moved going some rest at refused is =
    let zero : e.layer_start_offset + offset ≡ s.offset = let z = refused.start in omega arith in
    record {
      going = going;
      kind = kind;
      announced = some;
      refusal = Length e.required_len e.len e.len_source e.layer;
      refuses =
          subst (λ (l : List ℕ). Refuses sources.Slice l kind (Length e.required_len e.len e.len_source e.layer)) rest
          refused.row;
      shows = ap errors.Len (is ∙ (λ i. record e { layer_start_offset = zero i }));
    }

-- contents of a cooked capture
pub refused_linux_sll : (s : State) (bytes : List ℕ) (e : LinuxSllHeaderError) → s.over ≡ false
    → announced s.expected ≡ Some kinds.LinuxSll → bytes ≡ s.rest → IsRefusedContent bytes e
    → IsRefusedBy s (errors.LinuxSll e)
refused_linux_sll s bytes (linux_sll.UnsupportedPacketTypeField n) going some rest refused = record {
  going = going;
  kind = kinds.LinuxSll;
  announced = some;
  refusal = UnsupportedPacketType n;
  refuses = subst (λ (l : List ℕ). Refuses sources.Slice l kinds.LinuxSll (UnsupportedPacketType n)) rest refused;
  shows = refl;
}
refused_linux_sll s bytes (linux_sll.UnsupportedArpHardwareId h) going some rest refused = record {
  going = going;
  kind = kinds.LinuxSll;
  announced = some;
  refusal = UnsupportedHardwareType h.0;
  refuses = subst (λ (l : List ℕ). Refuses sources.Slice l kinds.LinuxSll (UnsupportedHardwareType h.0)) rest refused;
  shows = refl;
}

-- a SecTag and its payload: a length, or contents
pub refused_packet_len : (bytes : List ℕ) (e : LenError) → IsRefusedPacket bytes (Len e)
    → IsRefusedLen bytes kinds.Macsec e
refused_packet_len bytes e p = record {
  row = subst (Refuses sources.Slice bytes kinds.Macsec) p.is.0 p.row;
  start = p.is.1;
}

pub refused_macsec : (s : State) (bytes : List ℕ) (e : MacsecHeaderError) → s.over ≡ false
    → announced s.expected ≡ Some kinds.Macsec → bytes ≡ s.rest → IsRefusedPacket bytes (Content e)
    → IsRefusedBy s (errors.Macsec e)
refused_macsec s bytes macsec.UnexpectedVersion going some rest p = record {
  going = going;
  kind = kinds.Macsec;
  announced = some;
  refusal = p.refusal;
  refuses = subst (λ (l : List ℕ). Refuses sources.Slice l kinds.Macsec p.refusal) rest p.row;
  shows = ap (error_at s.offset) (sym p.is);
}
refused_macsec s bytes macsec.InvalidUnmodifiedShortLen going some rest p = record {
  going = going;
  kind = kinds.Macsec;
  announced = some;
  refusal = p.refusal;
  refuses = subst (λ (l : List ℕ). Refuses sources.Slice l kinds.Macsec p.refusal) rest p.row;
  shows = ap (error_at s.offset) (sym p.is);
}

-- ---- a unit

-- the window left to read, as all of its own bytes
abbrev pub own_window : State → Window
own_window s = record { start = 0; finish = length s.rest; closed = s.closed; bound = s.bound }

abbrev pub own_payload : State → Header → Window
own_payload s h = payload_from (header_len h) (trailer_len h) (payload_len h) (own_window s)

-- the unit that is announced was read, and t is the walk after it
pub record IsReadBy (s : State) (u : PeelUnit) (t : State) : Type 0 where
  pub going : s.over ≡ false
  -- the header that is announced, accepted and meant at the window's start, and the view that shows it
  pub header : Header
  pub announced : announced s.expected ≡ Some (kind_of header)
  pub accepted : Accepts sources.Slice s.rest (kind_of header)
  pub means : Means s.rest header
  pub shows : ShowsUnit s.rest t.rest header u
  -- the walker afterwards, field by field: the payload's window, what is expected there, and the limit
  pub rest : t.rest ≡ within s.rest (own_payload s header)
  pub offset : t.offset ≡ s.offset + header_len header
  pub closed : t.closed ≡ (own_payload s header).closed
  pub bound : t.bound ≡ (own_payload s header).bound
  pub next : t.expected.next ≡ next_after header
  pub limit : t.expected.limit ≡ lowered (is_extension (kind_of header)) s.expected.limit
  pub over : t.over ≡ false

expected_after : (s t : State) (u : PeelUnit) (r : IsReadBy s u t) → t.expected ≡ after s.expected r.header
expected_after s t u r =
    let next = r.next in
    let limit = r.limit in
    λ i. record { next = next i; limit = limit i }

record IsPart (list : List ℕ) (v : Window) (rest : List ℕ) (u : Window) : Type 0 where
  pub inside : IsIn list v
  pub bytes : within rest u ≡ within list v
  pub closed : u.closed ≡ v.closed
  pub bound : u.bound ≡ v.bound

-- a payload in the bytes of a window is the window's payload
payload_part : (list : List ℕ) (w : Window) (s : State) (n trailer : ℕ) (o : Option ℕ) → IsIn list w
    → s.rest ≡ within list w → s.closed ≡ w.closed → s.bound ≡ w.bound → n + unwrap_or o 0 + trailer ≤ length s.rest
    → IsPart list (payload_from (w.start + n) trailer o w) s.rest (payload_from n trailer o (own_window s))
payload_part list w s n trailer None i is mark bound fits =
    let ordered = i.ordered in
    let inside = i.inside in
    let long : length s.rest ≡ w.finish - w.start = ap length is ∙ length-part list w.start w.finish inside in
    let end : w.start + (length s.rest - trailer) ≡ w.finish - trailer = omega arith in
    record {
      inside = record { ordered = omega arith; inside = omega arith };
      bytes =
          ap (λ (l : List ℕ). slice_range l n (length s.rest - trailer)) is
          ∙ part_of_part list w.start w.finish n (length s.rest - trailer) (omega arith) (omega arith)
          ∙ ap (slice_range list (w.start + n)) end;
      closed = mark;
      bound = bound;
    }
payload_part list w s n trailer (Some p) i is mark bound fits =
    let ordered = i.ordered in
    let inside = i.inside in
    let long : length s.rest ≡ w.finish - w.start = ap length is ∙ length-part list w.start w.finish inside in
    let end : w.start + (n + p) ≡ w.start + n + p = omega arith in
    record {
      inside = record { ordered = omega arith; inside = omega arith };
      bytes =
          ap (λ (l : List ℕ). slice_range l n (n + p)) is
          ∙ part_of_part list w.start w.finish n (n + p) (omega arith) (omega arith)
          ∙ ap (slice_range list (w.start + n)) end;
      closed = refl;
      bound = refl;
    }

faces_after : (list : List ℕ) (w : Window) (s t : State) (u : PeelUnit) (hs : List Header) (e : Ending)
    (r : IsReadBy s u t)
    → Faces list w s (r.header ∷ hs) e → Faces list (payload w r.header) t hs e
faces_after list w s t u hs e r f =
    let h = r.header in
    let part =
    payload_part list w s (header_len h) (trailer_len h) (payload_len h) f.inside f.rest f.closed f.bound
    (unit_fits sources.Slice s.rest h r.accepted r.means) in
    record {
      inside = part.inside;
      rest = r.rest ∙ part.bytes;
      offset = r.offset ∙ ap (λ (n : ℕ). n + header_len h) f.offset;
      closed = r.closed ∙ part.closed;
      bound = r.bound ∙ part.bound;
      stack = subst (λ (x : Expectation). Stack list x (payload w h) hs e) (sym (expected_after s t u r)) f.stack.1;
    }

next_unit : (list : List ℕ) (w : Window) (s t : State) (u : PeelUnit) (hs : List Header) (e : Ending) → IsReadBy s u t
    → Faces list w s hs e → GivesNext list w hs e s (Some (Ok u)) t
next_unit list w s t u [] (Accepted v y) r f =
    absurd (no_kind (announced s.expected) (kind_of r.header) f.stack.2 r.announced)
next_unit list w s t u [] (Fault v y q) r f =
    let same = same_kind (announced s.expected) f.stack.2 (kind_of r.header) f.stack.3 r.announced in
    absurd
    (accepts_bounded w.bound s.rest (kind_of r.header) r.accepted q
    (subst (λ (l : List ℕ). Refuses w.bound l (kind_of r.header) q) (sym f.rest)
    (subst (λ (k : Kind). Refuses w.bound (within list w) k q) same f.stack.4)))
next_unit list w s t u (h ∷ hs) e r f =
    let same = same_kind (announced s.expected) (kind_of r.header) (kind_of h) r.announced f.stack.0.announced in
    let is =
    one_header s.rest r.header h same r.means (subst (λ (l : List ℕ). Means l h) (sym f.rest) f.stack.0.means) in
    let own = subst (λ (g : Header). Faces list w s (g ∷ hs) e) (sym is) f in
    subst (λ (g : Header). GivesNext list w (g ∷ hs) e s (Some (Ok u)) t) is
    (u, refl, r.shows, r.over, expected_after s t u r, faces_after list w s t u hs e r own)

-- the unit is there
pub gives_unit : (s t : State) (u : PeelUnit) → IsReadBy s u t → Gives s (Some (Ok u)) t
gives_unit s t u r = record {
  over = λ over. absurd (not_over s.over r.going over);
  next = λ going list w hs e f. next_unit list w s t u hs e r f;
}

-- a header that names no length was read at the start of these bytes, and what follows it is left
pub record IsReadPlain (bytes rest : List ℕ) (x : Expectation) (u : PeelUnit) (next : Next) (limit : Option ℕ)
    : Type 0 where
  pub header : Header
  pub no_len : payload_len header ≡ None
  pub no_trailer : trailer_len header ≡ 0
  pub announced : announced x ≡ Some (kind_of header)
  pub accepted : Accepts sources.Slice bytes (kind_of header)
  pub means : Means bytes header
  pub shows : ShowsUnit bytes rest header u
  pub rest_is : rest ≡ slice_range bytes (header_len header) (length bytes)
  pub next_is : next ≡ next_after header
  pub limit_is : limit ≡ lowered (is_extension (kind_of header)) x.limit

-- the walk goes on after it, in the same window
abbrev pub after_plain : Inside → List ℕ → Next → Option ℕ → State
after_plain a rest next limit = record {
  rest = rest;
  offset = a.end - length rest;
  closed = a.is_closed;
  bound = a.bound;
  expected = record { next = next; limit = limit };
  over = a.is_over;
}

-- where what is left begins, if it ends where the window does
pub begins_after : (list rest : List ℕ) (end n : ℕ) → length list ≤ end → n ≤ length list
    → rest ≡ slice_range list n (length list) → end - length rest ≡ end - length list + n
begins_after list rest end n ends within is =
    let len = ap length is ∙ length-part list n (length list) (omega arith) in
    omega arith

pub gives_plain : (a : Inside) (s : State) (rest : List ℕ) (u : PeelUnit) (next : Next) (limit : Option ℕ)
    → length a.rest.now ≤ a.end → shown a ≡ s → s.over ≡ false → IsReadPlain a.rest.now rest s.expected u next limit
    → Gives s (Some (Ok u)) (after_plain a rest next limit)
gives_plain a s rest u next limit ends is going r =
    let bytes = a.rest.now in
    let h = r.header in
    let over = ap (λ (z : State). z.over) is ∙ going in
    let fits = unit_fits sources.Slice bytes h r.accepted r.means in
    let all : length bytes - 0 ≡ length bytes = omega arith in
    let own : within bytes (own_payload (shown a) h) ≡ slice_range bytes (header_len h) (length bytes) =
    ap
    (λ (o : Option ℕ).
    slice_range bytes (header_len h) (payload_finish (header_len h) (trailer_len h) (length bytes) o))
    r.no_len
    ∙ ap (λ (k : ℕ). slice_range bytes (header_len h) (length bytes - k)) r.no_trailer
    ∙ ap (slice_range bytes (header_len h)) all in
    subst (λ (z : State). Gives z (Some (Ok u)) (after_plain a rest next limit)) is
    (gives_unit (shown a) (after_plain a rest next limit) u (record {
      going = over;
      header = h;
      announced = ap (λ (z : State). announced z.expected) is ∙ r.announced;
      accepted = r.accepted;
      means = r.means;
      shows = r.shows;
      rest = r.rest_is ∙ sym own;
      offset = begins_after bytes rest a.end (header_len h) ends (omega arith) r.rest_is;
      closed = ap (payload_closed a.is_closed) (sym r.no_len);
      bound = ap (payload_bound a.bound) (sym r.no_len);
      next = r.next_is;
      limit = r.limit_is ∙ ap (λ (z : State). lowered (is_extension (kind_of h)) z.expected.limit) (sym is);
      over = over;
    }))

fewer : (over after : Bool) (n k : ℕ) → over ≡ false → k + 4 ≤ n
    → (if after then 0 else k / 4 + 1) < (if over then 0 else n / 4 + 1)
fewer false true n k going le = omega arith
fewer false false n k going le = omega arith
fewer true after n k going le = absurd cc

-- at least four bytes fewer are left
pub nearer : (s old t : State) → s ≡ old → s.over ≡ false → length t.rest + 4 ≤ length s.rest
    → size (items_left t) < size (items_left old)
nearer s old t is going le =
    subst (λ (u : State). size (items_left t) < size (items_left u)) is
    (fewer s.over t.over (length s.rest) (length t.rest) going le)
