-- What a packet can have after its headers that are certain.
use Rattle.std.proofs.Common.{◌≡◌, ℕ, ◌+◌, ◌-◌, ◌<◌, ◌≤◌, List, ◌∷◌, ◌++◌, length, sym, ap, subst, ◌∙◌, arith, inl, inr, ◌⊎◌, IsTrue}
use Rattle.std.specs.Prelude.{Some, None, slice_range, unwrap_or, option_map, Option}
use Rattle.etherparse.specs.Bytes.{IsBytes}
use Rattle.etherparse.specs.Kind.{Kind}
use Rattle.etherparse.specs.Kind as kinds
use Rattle.etherparse.specs.Header.{Header, kind_of, header_len, payload_len, trailer_len}
use Rattle.etherparse.specs.Refusal.{Refusal, Refuses}
use Rattle.etherparse.proofs.Numbers.{IsBytes-append}
use Rattle.etherparse.proofs.SubLists.{length-part, part_of_part}
use Rattle.etherparse.proofs.Means.{some_header, unit_fits}
use Rattle.etherparse.proofs.Rows.{decide}
use Rattle.etherparse.specs.Types.LenSource.{LenSource}
use Rattle.etherparse.specs.Types.LenSource.TheVariants as sources
use Rattle.etherparse.specs.Refusal as rows
use Rattle.ether_peel.proofs.Grammar.Windows.{payload_from, payload_in}
use Rattle.ether_peel.proofs.Grammar.Carrying.{no_trailer}
use Rattle.ether_peel.specs.Grammar.Window.{Window, within, IsIn, payload}
use Rattle.ether_peel.specs.Grammar.Expectation.{Expectation, EtherType, announced, after, next_after}
use Rattle.ether_peel.specs.Grammar.Stack.{Ending, IsUnit, Stack, whole, Walk}
use Rattle.ether_peel.specs.Walker.Start.{start_of}
use Rattle.ether_peel.proofs.Grammar.Stacks.{some_stack, one_stack}
use Rattle.ether_filter.specs.declared.packet.Packet.{Packet}
use Rattle.ether_filter.specs.declared.prospect.Prospect.{Prospect}
use Rattle.ether_filter.specs.Prospects.{IsCompletion, Continues, AreRefused, AreAccepted, payload_bytes, Offers, IsProspect, IsOpen}
use Rattle.ether_filter.proofs.Read.{Begins, begins}

-- A packet is open at a unit: any bytes that go on from the known ones can be the unit's; others may, too.
pub record Opens (packet : Packet) (hs : List Header) (kind : Kind) (known : List ℕ) (room : ℕ) : Type 0 where
  pub expected : Expectation
  pub window : Window
  pub announces : announced expected ≡ Some kind
  pub unlimited : expected.limit ≡ None
  pub inside : (more : List ℕ) → IsCompletion packet more → IsIn (packet.frame.now ++ more) window
  pub leads : (more : List ℕ) (ts : List Header) (e : Ending) → IsCompletion packet more
      → Stack (packet.frame.now ++ more) expected window ts e
      → Walk (start_of packet.start) (packet.frame.now ++ more) (hs ++ ts) e
  pub filled : (bytes : List ℕ) → Continues known room bytes
      → (more : List ℕ) × IsCompletion packet more × (within (packet.frame.now ++ more) window ≡ bytes)

abbrev pub opens : (packet : Packet) (hs : List Header) (kind : Kind) (known : List ℕ) (room : ℕ)
    → IsOpen packet hs kind known room → Opens packet hs kind known room
opens packet hs kind known room o = record {
  expected = o.expected;
  window = o.window;
  announces = o.announces;
  unlimited = o.unlimited;
  inside = o.inside;
  leads = o.leads;
  filled = o.filled;
}

-- with more bytes that one chooses
pub chosen : (packet : Packet) (hs : List Header) (kind : Kind) (known all : List ℕ) (room : ℕ)
    → ((bytes : List ℕ) → Continues all room bytes → Continues known room bytes)
    → Opens packet hs kind known room → Opens packet hs kind all room
chosen packet hs kind known all room from o = record {
  expected = o.expected;
  window = o.window;
  announces = o.announces;
  unlimited = o.unlimited;
  inside = o.inside;
  leads = o.leads;
  filled = λ bytes on. o.filled bytes (from bytes on);
}

-- the headers after those that are certain, of a completed packet
pub record Tail (packet : Packet) (hs : List Header) (kind : Kind) (known : List ℕ) (room : ℕ)
    (o : Opens packet hs kind known room) (more : List ℕ) (ks : List Header) (f : Ending) : Type 0 where
  pub later : List Header
  pub is : ks ≡ hs ++ later
  pub stack : Stack (packet.frame.now ++ more) o.expected o.window later f

pub tail : (packet : Packet) (hs : List Header) (kind : Kind) (known : List ℕ) (room : ℕ)
    (o : Opens packet hs kind known room) (more : List ℕ) (ks : List Header) (f : Ending)
    → IsBytes packet.frame.now → IsCompletion packet more
    → Walk (start_of packet.start) (packet.frame.now ++ more) ks f → Tail packet hs kind known room o more ks f
tail packet hs kind known room o more ks f ok c s =
    let list = packet.frame.now ++ more in
    let t = some_stack list o.expected o.window (IsBytes-append packet.frame.now more ok c.are_bytes) in
    let start = start_of packet.start in
    let one = one_stack list start (whole start list) ks (hs ++ t.0) f t.1 s (o.leads more t.0 t.1 c t.2) in
    record {
      later = t.0;
      is = one.0;
      stack = subst (λ (g : Ending). Stack list o.expected o.window t.0 g) (sym one.1) t.2;
    }

-- a packet is completed by bytes of that window, and has a walk
pub record Completed (packet : Packet) (hs : List Header) (kind : Kind) (known : List ℕ) (room : ℕ)
    (o : Opens packet hs kind known room) (bytes : List ℕ) : Type 0 where
  pub more : List ℕ
  pub completes : IsCompletion packet more
  pub later : List Header
  pub ending : Ending
  pub stack : Stack (packet.frame.now ++ more) o.expected o.window later ending
  pub walk : Walk (start_of packet.start) (packet.frame.now ++ more) (hs ++ later) ending
  pub window_is : within (packet.frame.now ++ more) o.window ≡ bytes
  pub list_ok : IsBytes (packet.frame.now ++ more)

pub complete : (packet : Packet) (hs : List Header) (kind : Kind) (known : List ℕ) (room : ℕ)
    (o : Opens packet hs kind known room) (bytes : List ℕ) → IsBytes packet.frame.now → Continues known room bytes
    → Completed packet hs kind known room o bytes
complete packet hs kind known room o bytes ok c =
    let m = o.filled bytes c in
    let list = packet.frame.now ++ m.0 in
    let good = IsBytes-append packet.frame.now m.0 ok m.1.are_bytes in
    let t = some_stack list o.expected o.window good in
    record {
      more = m.0;
      completes = m.1;
      later = t.0;
      ending = t.1;
      stack = t.2;
      walk = o.leads m.0 t.0 t.1 m.1 t.2;
      window_is = m.2;
      list_ok = good;
    }

-- ---- by the unit

-- it is accepted: it is the first header
pub accepted_tail : (list : List ℕ) (x : Expectation) (w : Window) (kind : Kind) (h : Header) (ts : List Header)
    (e : Ending) → announced x ≡ Some kind → AreAccepted kind (within list w) h → Stack list x w ts e
    → Begins list x w ts e h
accepted_tail list x w kind h ts e is a s =
    begins list x w ts e h (is ∙ ap Some (sym a.of_kind))
    (λ r refuses. a.accepted w.bound r (subst (λ (k : Kind). Refuses w.bound (within list w) k r) a.of_kind refuses))
    a.means s

-- ---- the window after it

payload_part : (list : List ℕ) (w : Window) (n : ℕ) (o : Option ℕ) → IsIn list w
    → n + unwrap_or o 0 ≤ length (within list w)
    → within list (payload_from (w.start + n) 0 o w)
    ≡ slice_range (within list w) n (unwrap_or (option_map (λ p. n + p) o) (length (within list w)))
payload_part list w n None at fits =
    let len = length-part list w.start w.finish at.inside in
    let end : w.finish - 0 ≡ w.start + length (within list w) = omega (arith, len, at.ordered) in
    ap (λ (f : ℕ). slice_range list (w.start + n) f) end
    ∙ sym (part_of_part list w.start w.finish n (length (within list w)) (omega (arith, fits))
    (omega (arith, len, at.ordered)))
payload_part list w n (Some p) at fits =
    let len = length-part list w.start w.finish at.inside in
    ap (λ (f : ℕ). slice_range list (w.start + n) f)
    (let same : w.start + n + p ≡ w.start + (n + p) = omega arith in same)
    ∙ sym (part_of_part list w.start w.finish n (n + p) (omega arith) (omega (arith, len, at.ordered, fits)))

pub payload_within : (list : List ℕ) (x : Expectation) (w : Window) (h : Header) → IsIn list w
    → trailer_len h ≡ 0 → IsUnit list x w h → within list (payload w h) ≡ payload_bytes h (within list w)
payload_within list x w h at none u =
    let fits = unit_fits w.bound (within list w) h u.accepted u.means in
    ap (λ (k : ℕ). within list (payload_from (w.start + header_len h) k (payload_len h) w)) none
    ∙ payload_part list w (header_len h) (payload_len h) at (omega (arith, fits))

-- ---- a unit that is accepted, and what is announced after it

pub record Followed (packet : Packet) (hs : List Header) (kind : Kind) (known : List ℕ) (room : ℕ)
    (o : Opens packet hs kind known room) (t : ℕ) (rest : List ℕ) : Type 0 where
  pub more : List ℕ
  pub completes : IsCompletion packet more
  pub list_ok : IsBytes (packet.frame.now ++ more)
  pub unit : Header
  pub of_kind : kind_of unit ≡ kind
  pub bytes : List ℕ
  pub on : Continues known room bytes
  pub accepts : AreAccepted kind bytes unit
  pub announced_is : next_after unit ≡ EtherType t
  pub later : List Header
  pub ending : Ending
  pub walk : Walk (start_of packet.start) (packet.frame.now ++ more) (hs ++ unit ∷ later) ending
  pub inside : IsIn (packet.frame.now ++ more) (payload o.window unit)
  pub window_is : within (packet.frame.now ++ more) (payload o.window unit) ≡ rest
  pub stack : Stack (packet.frame.now ++ more) (after o.expected unit) (payload o.window unit) later ending

pub no_fcs : (h : Header) (kind : Kind) → kind_of h ≡ kind → (kind ≡ kinds.Ethernet2Fcs → ⊥) → trailer_len h ≡ 0
no_fcs h kind is never = no_trailer h (λ fcs. never (sym is ∙ fcs))

pub follow : (packet : Packet) (hs : List Header) (kind : Kind) (known : List ℕ) (room : ℕ)
    (o : Opens packet hs kind known room) (p : Prospect) (t : ℕ) (rest : List ℕ) → IsBytes packet.frame.now
    → (kind ≡ kinds.Ethernet2Fcs → ⊥) → IsProspect kind known room p → IsTrue p.can_be_accepted → t < 65536
    → Offers p.next t → IsBytes rest → length rest ≡ p.room → Followed packet hs kind known room o t rest
follow packet hs kind known room o p t rest ok free is accepted lt offers are len =
    let found = is.offered accepted t rest lt offers are len in
    let bytes = found.0 in
    let h = found.1 in
    let c = complete packet hs kind known room o bytes ok found.2 in
    let list = packet.frame.now ++ c.more in
    let a = subst (λ (l : List ℕ). AreAccepted kind l h) (sym c.window_is) found.3 in
    let b = accepted_tail list o.expected o.window kind h c.later c.ending o.announces a c.stack in
    let at = o.inside c.more c.completes in
    record {
      more = c.more;
      completes = c.completes;
      list_ok = c.list_ok;
      unit = h;
      of_kind = found.3.of_kind;
      bytes = bytes;
      on = found.2;
      accepts = found.3;
      announced_is = found.4;
      later = b.later;
      ending = c.ending;
      walk = subst (λ (l : List Header). Walk (start_of packet.start) list (hs ++ l) c.ending) b.is c.walk;
      inside = payload_in list o.expected o.window h at b.unit;
      window_is =
          payload_within list o.expected o.window h at (no_fcs h kind found.3.of_kind free) b.unit
          ∙ ap (payload_bytes h) c.window_is ∙ found.5;
      stack = b.stack;
    }

-- ---- each completed packet has one of both

rebound : (a b : LenSource) (bytes : List ℕ) (kind : Kind) (r : Refusal) → Refuses a bytes kind r
    → (q : Refusal) × Refuses b bytes kind q
rebound a b bytes kind r (rows.ethernet2 lt) = (_, rows.ethernet2 lt)
rebound a b bytes kind r (rows.ethernet2_fcs lt) = (_, rows.ethernet2_fcs lt)
rebound a b bytes kind r (rows.linux_sll lt) = (_, rows.linux_sll lt)
rebound a b bytes kind r (rows.linux_sll_packet_type s le begins above) =
    (_, rows.linux_sll_packet_type s le begins above)
rebound a b bytes kind r (rows.linux_sll_hardware_type s le begins below other) =
    (_, rows.linux_sll_hardware_type s le begins below other)
rebound a b bytes kind r (rows.vlan lt) = (_, rows.vlan lt)
rebound a b bytes kind r (rows.macsec lt) = (_, rows.macsec lt)
rebound a b bytes kind r (rows.macsec_version t le begins v) = (_, rows.macsec_version t le begins v)
rebound a b bytes kind r (rows.macsec_short_len t le begins v s) = (_, rows.macsec_short_len t le begins v s)
rebound a b bytes kind r (rows.macsec_header t le begins v s lt) = (_, rows.macsec_header t le begins v s lt)
rebound a b bytes kind r (rows.macsec_packet t p begins v k le lt) = (_, rows.macsec_packet t p begins v k le lt)
rebound a b bytes kind r (rows.arp lt) = (_, rows.arp lt)
rebound a b bytes kind r (rows.arp_addresses f le begins lt) = (_, rows.arp_addresses f le begins lt)

pub either : (kind : Kind) (bytes : List ℕ) → IsBytes bytes
    → AreRefused kind bytes ⊎ ((h : Header) × AreAccepted kind bytes h)
either kind bytes ok = elim (decide sources.Slice bytes kind ok) [
  | inl r ↦ inl (λ bound. rebound sources.Slice bound bytes kind r.0 r.1)
  | inr accepted ↦
      let h = some_header sources.Slice bytes kind ok accepted in
      inr (
        h.0,
        record {
          of_kind = h.1;
          accepted = λ bound r row. (let q = rebound bound sources.Slice bytes kind r row in accepted q.0 q.1);
          means = h.2;
        },
      )
]
