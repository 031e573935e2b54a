-- The walk through the headers that are certain in a packet that was cut short.
use Rattle.std.proofs.Common.{◌≡◌, ℕ, ◌-◌, ◌<◌, ◌≤◌, arith, List, [], ◌∷◌, ◌++◌, length, take, drop, refl, sym, ap, subst, ◌∙◌, Bool, true, false}
use Rattle.std.specs.Prelude.{Option, Some, None, slice_range, if◌then◌else◌, ◌==◌}
use Rattle.std.specs.Option.{option_map}
use Rattle.std.proofs.lemmas.List.{append-nil, length-take, length-drop, take_all}
use Rattle.etherparse.specs.LinuxSllProtocolType.{link_protocol_of}
use Rattle.etherparse.specs.Types.LinuxSllProtocolType.{LinuxSllProtocolType}
use Rattle.etherparse.specs.Macsec.{PayloadType}
use Rattle.etherparse.specs.Macsec as payloads
use Rattle.etherparse.specs.Bytes.{IsBytes}
use Rattle.etherparse.specs.Kind.{Kind}
use Rattle.etherparse.specs.Header.{Header, Means, kind_of, header_len}
use Rattle.etherparse.specs.Header as headers
use Rattle.ether_peel.specs.Grammar.Expectation.{Next, Expectation, EtherType, Sll, announced, announced_next, permitted, next_after, after_payload, after}
use Rattle.ether_peel.specs.Grammar.Window.{payload}
use Rattle.ether_peel.specs.Grammar.Stack.{Accepted, Fault, Walk, whole}
use Rattle.ether_peel.specs.Walker.Start.{start_of, next_of}
use Rattle.ether_peel.specs.declared.start.Start.{Start as PeelStart}
use Rattle.ether_peel.specs.declared.start.Start.TheVariants as starts
use Rattle.ether_peel.proofs.Grammar.Announced.{announced_is}
use Rattle.ether_peel.proofs.Grammar.Windows.{header_least}
use Rattle.ether_filter.specs.declared.behind.Behind.{Behind}
use Rattle.ether_filter.specs.declared.cut_walk.CutUnit.{CutUnit}
use Rattle.ether_filter.specs.declared.cut_walk.CutEnd.TheVariants as ends
use Rattle.ether_filter.specs.declared.fields.Fields.{Fields}
use Rattle.ether_filter.specs.declared.packet.Packet.{Packet}
use Rattle.ether_filter.specs.declared.prospect.OpenKind.{OpenKind}
use Rattle.ether_filter.specs.declared.seen.Seen.{Seen}
use Rattle.ether_filter.specs.Fields.{fields_of}
use Rattle.ether_filter.specs.Primitives.{ether_type_of, walked}
use Rattle.ether_filter.specs.TagMarks.{has_bit}
use Rattle.ether_filter.specs.Seen.{nothing, tag_id, AreMarked, IsTaken}
use Rattle.ether_filter.specs.Prospects.{Continues, AreRefused, IsOpen, kind_named}
use Rattle.ether_filter.specs.Behind.{IsCertain, IsBehind, room_behind, known_behind}
use Rattle.ether_filter.specs.CutWalks.{frame_total, kind_if, AreAll, ShowsHeaders, IsCutWalk}
use Rattle.ether_filter.proofs.Announced.{next_at, next_after_more}
use Rattle.ether_filter.proofs.Follows.{permitted_none, unlimited_after}
use Rattle.ether_filter.proofs.Looking.{keeps_nothing, shown}
use Rattle.ether_filter.proofs.OpenUnits.{open_first, open_first_next, open_step, open_step_next, certain_unit}
use Rattle.ether_filter.proofs.SeenLemmas.{Keeps, keeps_next}

-- ---- what is announced

capture_kind : (is_ethernet : Bool) (n : ℕ) (q : LinuxSllProtocolType)
    → announced_next (if is_ethernet then EtherType n else Sll q)
    ≡ kind_if (ether_type_of (if is_ethernet then EtherType n else Sll q))
capture_kind true n q = refl
capture_kind false n q = refl

payload_kind : (p : PayloadType) → announced_next (after_payload p) ≡ kind_if (ether_type_of (after_payload p))
payload_kind (payloads.Unmodified t) = refl
payload_kind payloads.Modified = refl
payload_kind payloads.EncryptedUnmodified = refl
payload_kind payloads.Encrypted = refl

next_kind : (h : Header) → announced_next (next_after h) ≡ kind_if (ether_type_of (next_after h))
next_kind (headers.Ethernet2 e) = refl
next_kind (headers.Ethernet2Fcs e) = refl
next_kind (headers.LinuxSll s) =
    capture_kind (s.hardware_type == 1) s.protocol (link_protocol_of s.hardware_type s.protocol)
next_kind (headers.Vlan v) = refl
next_kind (headers.Macsec t) = payload_kind t.payload_type
next_kind (headers.Arp a) = refl

-- without a limit
pub unlimited : (x : Expectation) → x.limit ≡ None → announced x ≡ announced_next x.next
unlimited x free = ap (λ l. permitted l (announced_next x.next)) free ∙ permitted_none (announced_next x.next)

-- ---- where all completed packets end alike

pub refused_all : (packet : Packet) (hs : List Header) (kind : Kind) (known : List ℕ) (room : ℕ)
    → IsOpen packet hs kind known room → ((bytes : List ℕ) → Continues known room bytes → AreRefused kind bytes)
    → AreAll packet hs true
refused_all packet hs kind known room o never more c =
    let r = never _ (o.continues more c) o.window.bound in
    let e = Fault o.window o.expected r.0 in
    let walk = o.leads more [] e c (refl, refl, kind, o.announces, r.1) in (
      e,
      subst (λ (l : List Header). Walk (start_of packet.start) (packet.frame.now ++ more) l e) (append-nil hs) walk,
      refl,
    )

pub accepted_all : (packet : Packet) (hs : List Header) (kind : Kind) (known : List ℕ) (room : ℕ) (h : Header)
    (o : IsOpen packet hs kind known room) → IsCertain kind known room h → announced (after o.expected h) ≡ None
    → AreAll packet (hs ++ h ∷ []) false
accepted_all packet hs kind known room h o is none more c =
    let e = Accepted (payload o.window h) (after o.expected h) in
    (e, o.leads more (h ∷ []) e c (certain_unit packet hs kind known room h o is more c, (refl, refl, none)), refl)

-- ---- under way

-- after these headers the packet is open at a unit of this kind, or all completed packets end
abbrev pub Here : Packet → List Header → Option OpenKind → (known : List ℕ) (room : ℕ) → Type 0
Here packet hs None known room = AreAll packet hs false
Here packet hs (Some kind) known room =
    (o : IsOpen packet hs (kind_named kind) known room) × (o.expected.next ≡ next_at (next_of packet.start) hs)

pub record Cuts (packet : Packet) (kind : Option OpenKind) (known : List ℕ) (room : ℕ) (type : Option ℕ)
    (s : Seen) (ids : List ℕ) : Type 0 where
  pub headers : List Header
  pub here : Here packet headers kind known room
  pub keeps : Keeps packet.start headers s ids
  pub type_is : type ≡ ether_type_of (next_at (next_of packet.start) headers)
  pub refused : s.is_refused ≡ false

here_first : (packet : Packet) (kind : Option OpenKind) → IsBytes packet.frame.now
    → option_map kind_named kind ≡ announced_next (next_of packet.start)
    → Here packet [] kind packet.frame.now (frame_total packet)
here_first packet None ok is = λ more c.
    let x = start_of packet.start in
    let v = whole x (packet.frame.now ++ more) in
    (Accepted v x, (refl, refl, unlimited x refl ∙ sym is), refl)
here_first packet (Some kind) ok is =
    let announces = unlimited (start_of packet.start) refl ∙ sym is in (
      open_first packet (kind_named kind) ok announces,
      ap (λ (x : Expectation). x.next) (open_first_next packet (kind_named kind) ok announces),
    )

pub cuts_first : (packet : Packet) (kind : Option OpenKind) (ids : List ℕ) → IsBytes packet.frame.now
    → option_map kind_named kind ≡ announced_next (next_of packet.start) → ((n : ℕ) → has_bit ids n ≡ false)
    → Cuts packet kind packet.frame.now (frame_total packet) (ether_type_of (next_of packet.start)) nothing ids
cuts_first packet kind ids ok is none = record {
  headers = [];
  here = here_first packet kind ok is;
  keeps = keeps_nothing packet.start ids none;
  type_is = refl;
  refused = refl;
}

pub here_next : (packet : Packet) (hs : List Header) (kind : OpenKind) (next : Option OpenKind) (known : List ℕ) (room
    : ℕ)
    (h : Header) (o : IsOpen packet hs (kind_named kind) known room) → IsBytes known
    → IsCertain (kind_named kind) known room h → option_map kind_named next ≡ kind_if (ether_type_of (next_after h))
    → Here packet (hs ++ h ∷ []) next (known_behind h known room) (room_behind h room)
here_next packet hs kind None known room h o ok is type =
    accepted_all packet hs (kind_named kind) known room h o is
    (unlimited (after o.expected h) (unlimited_after o.expected h o.unlimited) ∙ next_kind h ∙ sym type)
here_next packet hs kind (Some next) known room h o ok is type
    =
    let announces = unlimited (after o.expected h) (unlimited_after o.expected h o.unlimited) ∙ next_kind h ∙ sym type
    in (
      open_step packet hs (kind_named kind) (kind_named next) known room h o ok is announces,
      ap (λ (x : Expectation). x.next)
          (open_step_next packet hs (kind_named kind) (kind_named next) known room h o ok is announces)
          ∙ sym (next_after_more (next_of packet.start) hs h),
    )

pub cuts_next : (packet : Packet) (kind : OpenKind) (next : Option OpenKind) (known : List ℕ) (room : ℕ)
    (type : Option ℕ) (s t : Seen) (old new : List ℕ) (b : Behind) (fields : Fields) → IsBytes known
    → Cuts packet (Some kind) known room type s old → IsBehind (kind_named kind) known room (Some b)
    → ((h : Header) → kind_of h ≡ kind_named kind → Means known h → fields ≡ fields_of h)
    → IsTaken s fields type t → AreMarked old (tag_id fields) new → length new ≡ length old
    → option_map kind_named next ≡ kind_if b.ether_type
    → Cuts packet next (take b.room (drop b.header_len known)) b.room b.ether_type t new
cuts_next packet kind next known room type s t old new b fields ok a is field_is taken marked len next_is =
    let h = is.0 in
    let c = is.1 in
    let o = a.here.0 in
    let hs = a.headers in
    let same : fields ≡ fields_of h = field_is h c.of_kind c.means in
    let begin = next_at (next_of packet.start) hs in
    let announces = subst (λ (n : Next). announced_next n ≡ Some (kind_of h)) a.here.1
    (announced_is o.expected (kind_of h) (o.announces ∙ ap Some (sym c.of_kind))) in
    let taken_h = subst (λ (f : Fields). IsTaken s f (ether_type_of begin) t) same
    (subst (λ (n : Option ℕ). IsTaken s fields n t) a.type_is taken) in
    let marked_h = subst (λ (f : Fields). AreMarked old (tag_id f) new) same marked in
    let here = here_next packet hs kind next known room h o ok c (next_is ∙ ap kind_if (sym is.4)) in
    record {
      headers = hs ++ h ∷ [];
      here =
          subst (λ (n : ℕ). Here packet (hs ++ h ∷ []) next (take b.room (drop n known)) b.room) is.2
          (subst (λ (n : ℕ). Here packet (hs ++ h ∷ []) next (take n (drop (header_len h) known)) n) is.3 here);
      keeps = keeps_next packet.start hs known h s t old new c.means announces a.keeps taken_h marked_h len;
      type_is = sym is.4 ∙ ap ether_type_of (sym (next_after_more (next_of packet.start) hs h));
      refused = taken.refused ∙ a.refused;
    }

-- ---- at the end

shows : (packet : Packet) (hs : List Header) (s : Seen) (ids : List ℕ) (type : Option ℕ) (refused : Bool)
    → (s.has_more ≡ true → 64 ≤ length ids) → Keeps packet.start hs s ids
    → type ≡ ether_type_of (next_at (next_of packet.start) hs)
    → ShowsHeaders packet hs (record s { last = type; is_refused = refused }) ids
shows packet hs s ids type refused room k is e end =
    shown packet.start (walked packet hs e) s ids type refused room refl k is (sym end)

pub cuts_open : (packet : Packet) (kind : OpenKind) (u : CutUnit) (type : Option ℕ) (s : Seen) (ids : List ℕ)
    → u.kind ≡ kind → (s.has_more ≡ true → 64 ≤ length ids)
    → Cuts packet (Some kind) u.known.now u.room type s ids
    → IsCutWalk packet (record s { last = type }) ids (ends.Open u)
cuts_open packet kind u type s ids same room a = record {
  headers = a.headers;
  ends = subst (λ (k : OpenKind). IsOpen packet a.headers (kind_named k) u.known.now u.room) (sym same) a.here.0;
  refused = a.refused;
  shows = shows packet a.headers s ids type s.is_refused room a.keeps a.type_is;
}

pub cuts_refused : (packet : Packet) (kind : OpenKind) (known : List ℕ) (len : ℕ) (type : Option ℕ) (s : Seen)
    (ids : List ℕ) → (s.has_more ≡ true → 64 ≤ length ids) → Cuts packet (Some kind) known len type s ids
    → IsBehind (kind_named kind) known len None
    → IsCutWalk packet (record s { last = type; is_refused = true }) ids ends.Refused
cuts_refused packet kind known len type s ids room a never = record {
  headers = a.headers;
  ends = refused_all packet a.headers (kind_named kind) known len a.here.0 never;
  refused = refl;
  shows = shows packet a.headers s ids type true room a.keeps a.type_is;
}

pub cuts_accepted : (packet : Packet) (known : List ℕ) (len : ℕ) (type : Option ℕ) (s : Seen) (ids : List ℕ)
    → (s.has_more ≡ true → 64 ≤ length ids) → Cuts packet None known len type s ids
    → IsCutWalk packet (record s { last = type }) ids ends.Accepted
cuts_accepted packet known len type s ids room a = record {
  headers = a.headers;
  ends = a.here;
  refused = a.refused;
  shows = shows packet a.headers s ids type s.is_refused room a.keeps a.type_is;
}

-- without room for a header
pub cuts_roomless : (packet : Packet) (s : Seen) (ids : List ℕ) → packet.start ≡ starts.Ethernet2Fcs → s ≡ nothing
    → ((n : ℕ) → has_bit ids n ≡ false) → AreAll packet [] true
    → IsCutWalk packet (record s { is_refused = true }) ids ends.Refused
cuts_roomless packet s ids start is none all =
    subst (λ (t : Seen). IsCutWalk packet (record t { is_refused = true }) ids ends.Refused) (sym is) (record {
      headers = [];
      ends = all;
      refused = refl;
      shows = shows packet [] nothing ids None true (λ never. absurd cc) (keeps_nothing packet.start ids none)
          (ap (λ (p : PeelStart). ether_type_of (next_of p)) (sym start));
    })

-- ---- for the loop

pub cuts_begin : (packet : Packet) (start : PeelStart) (frame : List ℕ) (total : ℕ) (kind : Option OpenKind)
    (type : Option ℕ) (s : Seen) (ids : List ℕ) → IsBytes frame → packet.start ≡ start → packet.frame.now ≡ frame
    → frame_total packet ≡ total → option_map kind_named kind ≡ announced_next (next_of start)
    → type ≡ ether_type_of (next_of start) → s ≡ nothing → ((n : ℕ) → has_bit ids n ≡ false)
    → Cuts packet kind frame total type s ids
cuts_begin packet start frame total kind type s ids ok start_is frame_is total_is announces type_is s_is none =
    let first = cuts_first packet kind ids (subst IsBytes (sym frame_is) ok)
    (announces ∙ ap (λ (p : PeelStart). announced_next (next_of p)) (sym start_is)) none in
    subst (λ (l : List ℕ). Cuts packet kind l total type s ids) frame_is
    (subst (λ (n : ℕ). Cuts packet kind packet.frame.now n type s ids) total_is
    (subst (λ (t : Option ℕ). Cuts packet kind packet.frame.now (frame_total packet) t s ids)
    (ap (λ (p : PeelStart). ether_type_of (next_of p)) start_is ∙ sym type_is)
    (subst (λ (a : Seen). Cuts packet kind packet.frame.now (frame_total packet)
    (ether_type_of (next_of packet.start)) a ids) (sym s_is) first)))

pub rest_is : (room n : ℕ) (known rest : List ℕ) → rest ≡ take room (slice_range known n (length known))
    → rest ≡ take room (drop n known)
rest_is room n known rest is =
    is ∙ ap (take room) (take_all (length known - n) (drop n known) (omega (arith, length-drop n known)))

pub known_shorter : (kind : OpenKind) (known : List ℕ) (room : ℕ) (b : Behind) (rest : List ℕ)
    → IsBehind (kind_named kind) known room (Some b) → rest ≡ take b.room (drop b.header_len known)
    → length rest < length known
known_shorter kind known room b rest is rest_is =
    omega (
      arith,
      ap length rest_is,
      length-take b.room (drop b.header_len known),
      length-drop b.header_len known,
      header_least is.0,
      is.1.whole,
      is.2,
    )

pub known_inside : (room n : ℕ) (known rest : List ℕ) → rest ≡ take room (drop n known) → length rest ≤ room
known_inside room n known rest is = omega (arith, ap length is, length-take room (drop n known))
