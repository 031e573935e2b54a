-- Packets that are completed so that some headers follow.
use Rattle.std.proofs.Common.{◌≡◌, ℕ, ◌+◌, ◌-◌, ◌*◌, ◌/◌, ◌%◌, ◌<◌, ◌≤◌, List, [], ◌∷◌, ◌++◌, length, drop, refl, sym, ap, subst, ◌∙◌, arith, Bool, true, false, IsTrue, cond}
use Rattle.std.specs.Prelude.{Option, Some, None, is_some, slice_range, replicate, ◌&&◌}
use Rattle.std.proofs.lemmas.List.{length-replicate}
use Rattle.etherparse.specs.Bytes.{IsBytes, number}
use Rattle.etherparse.specs.Vlan.{VlanValue, vlan_of, is_vlan_ether_type}
use Rattle.std.specs.List.{list_any}
use Rattle.etherparse.specs.Macsec.{SecTagFront, sec_tag_front_in}
use Rattle.ether_filter.specs.Primitives.{is_sec_tag}
use Rattle.etherparse.specs.Kind.{Kind}
use Rattle.etherparse.specs.Kind as kinds
use Rattle.etherparse.specs.Header.{Header, kind_of}
use Rattle.etherparse.specs.Header as headers
use Rattle.etherparse.proofs.Numbers.{IsBytes-cons, IsBytes-append}
use Rattle.ether_peel.specs.Grammar.Window.{Window, within, IsIn, payload}
use Rattle.ether_peel.specs.Grammar.Expectation.{Expectation, EtherType, announced, announced_by, announced_next, after, next_after, permitted, lowered, is_extension}
use Rattle.ether_peel.specs.Grammar.Stack.{Ending, Accepted, Fault, Stack, Walk}
use Rattle.ether_peel.specs.Grammar.Endings.{refusal_of}
use Rattle.ether_peel.specs.Walker.Start.{start_of}
use Rattle.ether_peel.proofs.Grammar.Announced.{announced_is}
use Rattle.ether_filter.specs.declared.packet.Packet.{Packet}
use Rattle.ether_filter.specs.declared.prospect.Prospect.{Prospect}
use Rattle.ether_filter.specs.declared.prospect.Announced.{Announced}
use Rattle.ether_filter.specs.declared.prospect.Announced.TheVariants.{Nothing, Any, High}
use Rattle.ether_filter.specs.Prospects.{FitsAnnounced, IsCompletion, AreRefused, AreAccepted, Continues, Offers, IsProspect}
use Rattle.ether_filter.proofs.Read.{begins_tag, begins_sec_tag, begins_nothing, rest_is}
use Rattle.ether_filter.proofs.Typed.{zeros_are_bytes}
use Rattle.ether_filter.proofs.Tails.{Opens, follow, complete, accepted_tail}
use Rattle.ether_filter.proofs.Leads.{TagType, QuietType, quiet_type, quiet_after}

pub zeros_before : (n : ℕ) (bytes : List ℕ) → IsBytes bytes → IsBytes (replicate n 0 ++ bytes)
zeros_before n bytes ok = IsBytes-append (replicate n 0) bytes (zeros_are_bytes n) ok

-- a completed packet with these headers after those that are certain
pub record Has (packet : Packet) (hs ts : List Header) (refused : Bool) : Type 0 where
  pub more : List ℕ
  pub completes : IsCompletion packet more
  pub ending : Ending
  pub walk : Walk (start_of packet.start) (packet.frame.now ++ more) (hs ++ ts) ending
  pub refused_is : is_some (refusal_of ending) ≡ refused

-- nothing is found where nothing is announced
pub quiet : (list : List ℕ) (x : Expectation) (w : Window) (ts : List Header) (e : Ending)
    → announced_next x.next ≡ None
    → Stack list x w ts e → (ts ≡ []) × (is_some (refusal_of e) ≡ false)
quiet list x w [] (Accepted v y) none s = (refl, refl)
quiet list x w [] (Fault v y r) none s =
    let no : None ≡ Some s.2 = sym none ∙ announced_is x s.2 s.3 in absurd cc
quiet list x w (h ∷ ts) e none s =
    let no : None ≡ Some (kind_of h) = sym none ∙ announced_is x (kind_of h) s.0.announced in absurd cc

-- ---- nothing follows

-- a unit that was accepted, from bytes that go on from the known ones
pub record IsFrom (kind : Kind) (known : List ℕ) (room : ℕ) (unit : Header) : Type 0 where
  pub bytes : List ℕ
  pub on : Continues known room bytes
  pub accepts : AreAccepted kind bytes unit

-- it is the last one, and announces another ether type than one
pub record HasUnit (packet : Packet) (hs : List Header) (kind : Kind) (known : List ℕ) (room other : ℕ) : Type 0 where
  pub unit : Header
  pub from : IsFrom kind known room unit
  pub differs : next_after unit ≡ EtherType other → ⊥
  pub has : Has packet hs (unit ∷ []) false

has_alone : (packet : Packet) (hs : List Header) (kind : Kind) (known : List ℕ) (room other : ℕ) (more : List ℕ)
    (unit : Header) (later : List Header) (e : Ending) → IsFrom kind known room unit
    → (next_after unit ≡ EtherType other → ⊥) → IsCompletion packet more
    → Walk (start_of packet.start) (packet.frame.now ++ more) (hs ++ unit ∷ later) e
    → (later ≡ []) × (is_some (refusal_of e) ≡ false) → HasUnit packet hs kind known room other
has_alone packet hs kind known room other more unit later e from differs c walk alone = record {
  unit = unit;
  from = from;
  differs = differs;
  has = record {
    more = more;
    completes = c;
    ending = e;
    walk = subst (λ (l : List Header). Walk (start_of packet.start) (packet.frame.now ++ more) (hs ++ unit ∷ l) e)
        alone.0 walk;
    refused_is = alone.1;
  };
}

alone : (packet : Packet) (hs : List Header) (kind : Kind) (known : List ℕ) (room : ℕ)
    (o : Opens packet hs kind known room) (p : Prospect) (other : ℕ) → IsBytes packet.frame.now
    → IsProspect kind known room p → IsTrue p.can_be_accepted → p.next ≡ Nothing
    → HasUnit packet hs kind known room other
alone packet hs kind known room o p other ok is accepted none =
    let found = is.accepted.0 accepted in
    let c = complete packet hs kind known room o found.0 ok found.2 in
    let list = packet.frame.now ++ c.more in
    let h = found.1 in
    let a = subst (λ (l : List ℕ). AreAccepted kind l h) (sym c.window_is) found.3 in
    let b = accepted_tail list o.expected o.window kind h c.later c.ending o.announces a c.stack in
    let never = λ (t : ℕ) (then : next_after h ≡ EtherType t).
    subst (λ (n : Announced). Offers n t) none (is.followed found.0 h t found.2 found.3 then).0 in
    has_alone packet hs kind known room other c.more h b.later c.ending
    (record { bytes = found.0; on = found.2; accepts = found.3 }) (never other) c.completes
    (subst (λ (l : List Header). Walk (start_of packet.start) list (hs ++ l) c.ending) b.is c.walk)
    (quiet list (after o.expected h) (payload o.window h) b.later c.ending (quiet_after h never) b.stack)

quietly : (packet : Packet) (hs : List Header) (kind : Kind) (known : List ℕ) (room : ℕ)
    (o : Opens packet hs kind known room) (p : Prospect) (other : ℕ) → IsBytes packet.frame.now
    → (kind ≡ kinds.Ethernet2Fcs → ⊥) → IsProspect kind known room p → IsTrue p.can_be_accepted
    → QuietType p.next other → HasUnit packet hs kind known room other
quietly packet hs kind known room o p other ok free is accepted type =
    let zeros = replicate p.room 0 in
    let f = follow packet hs kind known room o p type.number zeros ok free is accepted type.fits type.offered
    (zeros_are_bytes p.room) (length-replicate {A = ℕ} p.room 0) in
    has_alone packet hs kind known room other f.more f.unit f.later f.ending
    (record { bytes = f.bytes; on = f.on; accepts = f.accepts })
    (λ then. type.differs (let both : EtherType type.number ≡ EtherType other = sym f.announced_is ∙ then in cc))
    f.completes f.walk
    (quiet (packet.frame.now ++ f.more) (after o.expected f.unit) (payload o.window f.unit) f.later f.ending
    (ap announced_next f.announced_is ∙ type.announces_nothing) f.stack)

-- a unit that can be accepted can be the last one
pub follow_nothing : (packet : Packet) (hs : List Header) (kind : Kind) (known : List ℕ) (room : ℕ)
    (o : Opens packet hs kind known room) (p : Prospect) (other : ℕ) → IsBytes packet.frame.now
    → (kind ≡ kinds.Ethernet2Fcs → ⊥) → IsProspect kind known room p → IsTrue p.can_be_accepted
    → HasUnit packet hs kind known room other
follow_nothing packet hs kind known room o p other ok free is accepted = by_next p.next refl
  where
    by_next : (n : Announced) → p.next ≡ n → HasUnit packet hs kind known room other
    by_next Nothing e = alone packet hs kind known room o p other ok is accepted e
    by_next Any e =
        quietly packet hs kind known room o p other ok free is accepted
        (rw e (quiet_type Any 0 other (omega arith) tt))
    by_next (High b) e =
        let low = subst FitsAnnounced e is.byte in
        quietly packet hs kind known room o p other ok free is accepted
        (rw e (quiet_type (High b) (b * 256) other (omega (arith, low)) (omega arith)))

-- a unit that can be refused
pub follow_refused : (packet : Packet) (hs : List Header) (kind : Kind) (known : List ℕ) (room : ℕ)
    (o : Opens packet hs kind known room) (p : Prospect) → IsBytes packet.frame.now → IsProspect kind known room p
    → IsTrue p.can_be_refused → Has packet hs [] true
follow_refused packet hs kind known room o p ok is refused =
    let found = is.refused.0 refused in
    let c = complete packet hs kind known room o found.0 ok found.1 in
    let list = packet.frame.now ++ c.more in
    let r = begins_nothing list o.expected o.window c.later c.ending kind o.announces
    (subst (AreRefused kind) (sym c.window_is) found.2) c.stack in
    record {
      more = c.more;
      completes = c.completes;
      ending = c.ending;
      walk = subst (λ (l : List Header). Walk (start_of packet.start) list (hs ++ l) c.ending) r.0 c.walk;
      refused_is = r.1;
    }

-- ---- a VLAN tag follows, and nothing after it

-- the bytes of a tag with an identifier, before zeros
abbrev tag_bytes : (id room : ℕ) → List ℕ
tag_bytes id room = id / 256 ∷ id % 256 ∷ 0 ∷ 0 ∷ replicate (room - 4) 0

tag_bytes_ok : (id room : ℕ) → id < 4096 → IsBytes (tag_bytes id room)
tag_bytes_ok id room lt =
    let zeros = replicate (room - 4) 0 in
    IsBytes-cons (id / 256) (id % 256 ∷ 0 ∷ 0 ∷ zeros) (omega arith)
    (IsBytes-cons (id % 256) (0 ∷ 0 ∷ zeros) (omega arith)
    (IsBytes-cons 0 (0 ∷ zeros) (omega arith) (IsBytes-cons 0 zeros (omega arith) (zeros_are_bytes (room - 4)))))

pub record HasTag (packet : Packet) (hs : List Header) (kind : Kind) (id : ℕ) : Type 0 where
  pub unit : Header
  pub of_kind : kind_of unit ≡ kind
  pub tag : VlanValue
  pub vid_is : tag.vid ≡ id
  pub has : Has packet hs (unit ∷ headers.Vlan tag ∷ []) false

unspent : (b : Bool) (k : Kind) → cond (b && false) None (Some k) ≡ Some k
unspent true k = refl
unspent false k = refl

pub permitted_none : (o : Option Kind) → permitted None o ≡ o
permitted_none None = refl
permitted_none (Some k) = unspent (is_extension k) k

lowered_none : (b : Bool) → lowered b None ≡ None
lowered_none true = refl
lowered_none false = refl

pub unlimited_after : (x : Expectation) (h : Header) → x.limit ≡ None → (after x h).limit ≡ None
unlimited_after x h free = ap (lowered (is_extension (kind_of h))) free ∙ lowered_none (is_extension (kind_of h))

-- what an ether type announces after a header
pub announced_after : (x : Expectation) (h : Header) (t : ℕ) → x.limit ≡ None → next_after h ≡ EtherType t
    → announced (after x h) ≡ announced_by t
announced_after x h t free is =
    ap (λ l. permitted l (announced_next (next_after h))) (unlimited_after x h free)
    ∙ permitted_none (announced_next (next_after h)) ∙ ap announced_next is

pub vlan_announced : (t : ℕ) → is_vlan_ether_type t ≡ true → announced_by t ≡ Some kinds.Vlan
vlan_announced t vlan = rw vlan refl

pub follow_tag : (packet : Packet) (hs : List Header) (kind : Kind) (known : List ℕ) (room : ℕ)
    (o : Opens packet hs kind known room) (p : Prospect) (id : ℕ) → IsBytes packet.frame.now
    → (kind ≡ kinds.Ethernet2Fcs → ⊥) → IsProspect kind known room p → IsTrue p.can_be_accepted → TagType p.next
    → 4 ≤ p.room → id < 4096 → HasTag packet hs kind id
follow_tag packet hs kind known room o p id ok free is accepted type long below =
    let bytes = tag_bytes id p.room in
    let len : length bytes ≡ p.room = omega (arith, length-replicate {A = ℕ} (p.room - 4) 0, long) in
    let f = follow packet hs kind known room o p type.number bytes ok free is accepted type.fits type.offered
    (tag_bytes_ok id p.room below) len in
    let list = packet.frame.now ++ f.more in
    let x = after o.expected f.unit in
    let w = payload o.window f.unit in
    let vlan : announced x ≡ Some kinds.Vlan =
    announced_after o.expected f.unit type.number o.unlimited f.announced_is
    ∙ vlan_announced type.number type.is_vlan in
    let four : 4 ≤ length (within list w) = omega (arith, ap length f.window_is, len, long) in
    let b = begins_tag list x w f.later f.ending f.list_ok vlan four f.stack in
    let tag = vlan_of (within list w) in
    let type_is : tag.ether_type ≡ 0 =
    ap (λ (l : List ℕ). number (slice_range l 2 4)) f.window_is ∙ omega arith in
    let end = quiet list (after x (headers.Vlan tag)) (payload w (headers.Vlan tag)) b.later f.ending
    (ap announced_by type_is) b.stack in
    record {
      unit = f.unit;
      of_kind = f.of_kind;
      tag = tag;
      vid_is = ap (λ (l : List ℕ). (vlan_of l).vid) f.window_is ∙ omega (arith, below);
      has = record {
        more = f.more;
        completes = f.completes;
        ending = f.ending;
        walk = subst (λ (l : List Header). Walk (start_of packet.start) list (hs ++ f.unit ∷ l) f.ending)
            (b.is ∙ ap (λ (l : List Header). headers.Vlan tag ∷ l) end.0) f.walk;
        refused_is = end.1;
      };
    }

-- ---- any bytes follow an ether type of one's choice

-- after a header that is accepted, a unit of this kind with these bytes
pub record HasNext (packet : Packet) (hs : List Header) (kind next : Kind) (bytes : List ℕ) : Type 0 where
  pub unit : Header
  pub of_kind : kind_of unit ≡ kind
  pub more : List ℕ
  pub completes : IsCompletion packet more
  pub list_ok : IsBytes (packet.frame.now ++ more)
  pub later : List Header
  pub ending : Ending
  pub walk : Walk (start_of packet.start) (packet.frame.now ++ more) (hs ++ unit ∷ later) ending
  pub expected : Expectation
  pub unlimited : expected.limit ≡ None
  pub announces : announced expected ≡ Some next
  pub window : Window
  pub inside : IsIn (packet.frame.now ++ more) window
  pub window_is : within (packet.frame.now ++ more) window ≡ bytes
  pub stack : Stack (packet.frame.now ++ more) expected window later ending

pub follow_next : (packet : Packet) (hs : List Header) (kind next : Kind) (known : List ℕ) (room : ℕ)
    (o : Opens packet hs kind known room) (p : Prospect) (t : ℕ) (bytes : List ℕ) → IsBytes packet.frame.now
    → (kind ≡ kinds.Ethernet2Fcs → ⊥) → IsProspect kind known room p → IsTrue p.can_be_accepted → t < 65536
    → Offers p.next t → announced_by t ≡ Some next → IsBytes bytes → length bytes ≡ p.room
    → HasNext packet hs kind next bytes
follow_next packet hs kind next known room o p t bytes ok free is accepted lt offers announces good len =
    let f = follow packet hs kind known room o p t bytes ok free is accepted lt offers good len in
    record {
      unit = f.unit;
      of_kind = f.of_kind;
      more = f.more;
      completes = f.completes;
      list_ok = f.list_ok;
      later = f.later;
      ending = f.ending;
      walk = f.walk;
      expected = after o.expected f.unit;
      unlimited = unlimited_after o.expected f.unit o.unlimited;
      announces = announced_after o.expected f.unit t o.unlimited f.announced_is ∙ announces;
      window = payload o.window f.unit;
      inside = f.inside;
      window_is = f.window_is;
      stack = f.stack;
    }

-- ---- two VLAN tags follow

abbrev two_tags_bytes : (id room : ℕ) → List ℕ
two_tags_bytes id room = 0 ∷ 0 ∷ 0x81 ∷ 0 ∷ id / 256 ∷ id % 256 ∷ 0 ∷ 0 ∷ replicate (room - 8) 0

two_tags_ok : (id room : ℕ) → id < 4096 → IsBytes (two_tags_bytes id room)
two_tags_ok id room lt =
    let zeros = replicate (room - 8) 0 in
    let last =
    IsBytes-cons (id / 256) (id % 256 ∷ 0 ∷ 0 ∷ zeros) (omega arith)
    (IsBytes-cons (id % 256) (0 ∷ 0 ∷ zeros) (omega arith)
    (IsBytes-cons 0 (0 ∷ zeros) (omega arith) (IsBytes-cons 0 zeros (omega arith) (zeros_are_bytes (room - 8))))) in
    let tail = id / 256 ∷ id % 256 ∷ 0 ∷ 0 ∷ zeros in
    IsBytes-cons 0 (0 ∷ 0x81 ∷ 0 ∷ tail) (omega arith)
    (IsBytes-cons 0 (0x81 ∷ 0 ∷ tail) (omega arith)
    (IsBytes-cons 0x81 (0 ∷ tail) (omega arith) (IsBytes-cons 0 tail (omega arith) last)))

pub record HasTwoTags (packet : Packet) (hs : List Header) (kind : Kind) (id : ℕ) : Type 0 where
  pub unit : Header
  pub of_kind : kind_of unit ≡ kind
  pub first : VlanValue
  pub second : VlanValue
  pub vid_is : second.vid ≡ id
  pub has : Has packet hs (unit ∷ headers.Vlan first ∷ headers.Vlan second ∷ []) false

pub follow_two_tags : (packet : Packet) (hs : List Header) (kind : Kind) (known : List ℕ) (room : ℕ)
    (o : Opens packet hs kind known room) (p : Prospect) (id : ℕ) → IsBytes packet.frame.now
    → (kind ≡ kinds.Ethernet2Fcs → ⊥) → IsProspect kind known room p → IsTrue p.can_be_accepted → TagType p.next
    → 8 ≤ p.room → id < 4096 → HasTwoTags packet hs kind id
follow_two_tags packet hs kind known room o p id ok free is accepted type long below =
    let bytes = two_tags_bytes id p.room in
    let len : length bytes ≡ p.room = omega (arith, length-replicate {A = ℕ} (p.room - 8) 0, long) in
    let f = follow_next packet hs kind kinds.Vlan known room o p type.number bytes ok free is accepted type.fits
    type.offered (vlan_announced type.number type.is_vlan) (two_tags_ok id p.room below) len in
    let list = packet.frame.now ++ f.more in
    let w = f.window in
    let eight : 8 ≤ length (within list w) = omega (arith, ap length f.window_is, len, long) in
    let a = begins_tag list f.expected w f.later f.ending f.list_ok f.announces (omega (arith, eight)) f.stack in
    let first = vlan_of (within list w) in
    let type_is : first.ether_type ≡ 0x8100 =
    ap (λ (l : List ℕ). number (slice_range l 2 4)) f.window_is ∙ omega arith in
    let x = after f.expected (headers.Vlan first) in
    let v = payload w (headers.Vlan first) in
    let vlan : announced x ≡ Some kinds.Vlan =
    announced_after f.expected (headers.Vlan first) first.ether_type f.unlimited refl ∙ ap announced_by type_is in
    let inner = rest_is list w (headers.Vlan first) f.inside refl refl (omega (arith, eight))
    ∙ ap (drop 4) f.window_is in
    let four : 4 ≤ length (within list v) = omega (arith, ap length inner, length-replicate {A = ℕ} (p.room - 8) 0) in
    let b = begins_tag list x v a.later f.ending f.list_ok vlan four a.stack in
    let second = vlan_of (within list v) in
    let last_type : second.ether_type ≡ 0 = ap (λ (l : List ℕ). number (slice_range l 2 4)) inner ∙ omega arith in
    let end = quiet list (after x (headers.Vlan second)) (payload v (headers.Vlan second)) b.later f.ending
    (ap announced_by last_type) b.stack in
    record {
      unit = f.unit;
      of_kind = f.of_kind;
      first = first;
      second = second;
      vid_is = ap (λ (l : List ℕ). (vlan_of l).vid) inner ∙ omega (arith, below);
      has = record {
        more = f.more;
        completes = f.completes;
        ending = f.ending;
        walk = subst (λ (l : List Header). Walk (start_of packet.start) list (hs ++ f.unit ∷ l) f.ending)
            (a.is ∙ ap (λ (l : List Header). headers.Vlan first ∷ l)
            (b.is ∙ ap (λ (l : List Header). headers.Vlan second ∷ l) end.0)) f.walk;
        refused_is = end.1;
      };
    }

-- ---- a SecTag follows

pub record HasSome (packet : Packet) (hs : List Header) (kind : Kind) (test : Header → Bool) : Type 0 where
  pub unit : Header
  pub of_kind : kind_of unit ≡ kind
  pub more : List ℕ
  pub completes : IsCompletion packet more
  pub later : List Header
  pub ending : Ending
  pub walk : Walk (start_of packet.start) (packet.frame.now ++ more) (hs ++ unit ∷ later) ending
  pub any : list_any test later ≡ true

-- a modified SecTag without a short length
abbrev sec_tag_bytes : (room : ℕ) → List ℕ
sec_tag_bytes room = 4 ∷ 0 ∷ 0 ∷ 0 ∷ 0 ∷ 0 ∷ replicate (room - 6) 0

abbrev modified : SecTagFront
modified = record {
  version = 0;
  end_station = 0;
  sci_present = 0;
  single_copy_broadcast = 0;
  encrypted = 0;
  changed = 1;
  association_number = 0;
  reserved = 0;
  short_len = 0;
}

sec_tag_bytes_ok : (room : ℕ) → IsBytes (sec_tag_bytes room)
sec_tag_bytes_ok room = IsBytes-cons 4 (0 ∷ 0 ∷ 0 ∷ 0 ∷ 0 ∷ replicate (room - 6) 0) (omega arith)
    (zeros_before 5 (replicate (room - 6) 0) (zeros_are_bytes (room - 6)))

modified_front : (rest : List ℕ) → sec_tag_front_in (4 ∷ 0 ∷ 0 ∷ 0 ∷ 0 ∷ 0 ∷ rest) ≡ modified
modified_front rest = refl

begins_modified : (list : List ℕ) (x : Expectation) (w : Window) (ts : List Header) (e : Ending) (rest : List ℕ)
    → IsBytes list → announced x ≡ Some kinds.Macsec → within list w ≡ 4 ∷ 0 ∷ 0 ∷ 0 ∷ 0 ∷ 0 ∷ rest
    → Stack list x w ts e → list_any is_sec_tag ts ≡ true
begins_modified list x w ts e rest ok is bytes s =
    let six : 6 ≤ length (within list w) = omega (arith, ap length bytes) in
    let b = begins_sec_tag list x w ts e modified ok is (ap sec_tag_front_in bytes ∙ modified_front rest) six refl
    (λ short. let never = short.changed in absurd cc) six (λ p known. absurd cc) s in
    ap (list_any is_sec_tag) b.is

-- where a SecTag can follow, by its ether type
pub follow_sec_tag : (packet : Packet) (hs : List Header) (kind : Kind) (known : List ℕ) (room : ℕ)
    (o : Opens packet hs kind known room) (p : Prospect) → IsBytes packet.frame.now
    → (kind ≡ kinds.Ethernet2Fcs → ⊥) → IsProspect kind known room p → IsTrue p.can_be_accepted → Offers p.next 0x88E5
    → 6 ≤ p.room → HasSome packet hs kind is_sec_tag
follow_sec_tag packet hs kind known room o p ok free is accepted offers long =
    let rest = replicate (p.room - 6) 0 in
    let len : length (sec_tag_bytes p.room) ≡ p.room = omega (arith, length-replicate {A = ℕ} (p.room - 6) 0, long) in
    let f = follow_next packet hs kind kinds.Macsec known room o p 0x88E5 (sec_tag_bytes p.room) ok free is accepted
    (omega arith) offers refl (sec_tag_bytes_ok p.room) len in
    record {
      unit = f.unit;
      of_kind = f.of_kind;
      more = f.more;
      completes = f.completes;
      later = f.later;
      ending = f.ending;
      walk = f.walk;
      any = begins_modified (packet.frame.now ++ f.more) f.expected f.window f.later f.ending rest f.list_ok
          f.announces f.window_is f.stack;
    }

-- ---- a VLAN tag follows, and after it any ether type and any bytes

pub record HasTagNext (packet : Packet) (hs : List Header) (kind : Kind) (t : ℕ) (bytes : List ℕ) : Type 0 where
  pub unit : Header
  pub of_kind : kind_of unit ≡ kind
  pub tag : VlanValue
  pub type_is : tag.ether_type ≡ t
  pub more : List ℕ
  pub completes : IsCompletion packet more
  pub list_ok : IsBytes (packet.frame.now ++ more)
  pub later : List Header
  pub ending : Ending
  pub walk : Walk (start_of packet.start) (packet.frame.now ++ more) (hs ++ unit ∷ headers.Vlan tag ∷ later) ending
  pub expected : Expectation
  pub announces : announced expected ≡ announced_by t
  pub window : Window
  pub window_is : within (packet.frame.now ++ more) window ≡ bytes
  pub stack : Stack (packet.frame.now ++ more) expected window later ending

pub follow_tag_next : (packet : Packet) (hs : List Header) (kind : Kind) (known : List ℕ) (room : ℕ)
    (o : Opens packet hs kind known room) (p : Prospect) (t : ℕ) (bytes : List ℕ) → IsBytes packet.frame.now
    → (kind ≡ kinds.Ethernet2Fcs → ⊥) → IsProspect kind known room p → IsTrue p.can_be_accepted → TagType p.next
    → t < 65536 → IsBytes bytes → length bytes + 4 ≡ p.room → HasTagNext packet hs kind t bytes
follow_tag_next packet hs kind known room o p t bytes ok free is accepted type lt good len =
    let all = 0 ∷ 0 ∷ t / 256 ∷ t % 256 ∷ bytes in
    let all_ok =
    IsBytes-cons 0 (0 ∷ t / 256 ∷ t % 256 ∷ bytes) (omega arith)
    (IsBytes-cons 0 (t / 256 ∷ t % 256 ∷ bytes) (omega arith)
    (IsBytes-cons (t / 256) (t % 256 ∷ bytes) (omega (arith, lt)) (IsBytes-cons (t % 256) bytes (omega arith) good))) in
    let f = follow_next packet hs kind kinds.Vlan known room o p type.number all ok free is accepted type.fits
    type.offered (vlan_announced type.number type.is_vlan) all_ok (omega (arith, len)) in
    let list = packet.frame.now ++ f.more in
    let four : 4 ≤ length (within list f.window) = omega (arith, ap length f.window_is) in
    let b = begins_tag list f.expected f.window f.later f.ending f.list_ok f.announces four f.stack in
    let tag = vlan_of (within list f.window) in
    let type_is : tag.ether_type ≡ t = ap (λ (l : List ℕ). number (slice_range l 2 4)) f.window_is ∙ omega arith in
    record {
      unit = f.unit;
      of_kind = f.of_kind;
      tag = tag;
      type_is = type_is;
      more = f.more;
      completes = f.completes;
      list_ok = f.list_ok;
      later = b.later;
      ending = f.ending;
      walk = subst (λ (l : List Header). Walk (start_of packet.start) list (hs ++ f.unit ∷ l) f.ending) b.is f.walk;
      expected = after f.expected (headers.Vlan tag);
      announces = announced_after f.expected (headers.Vlan tag) tag.ether_type f.unlimited refl
          ∙ ap announced_by type_is;
      window = payload f.window (headers.Vlan tag);
      window_is = rest_is list f.window (headers.Vlan tag) f.inside refl refl four ∙ ap (drop 4) f.window_is;
      stack = b.stack;
    }

-- a SecTag after that tag
pub follow_tagged_sec_tag : (packet : Packet) (hs : List Header) (kind : Kind) (known : List ℕ) (room : ℕ)
    (o : Opens packet hs kind known room) (p : Prospect) → IsBytes packet.frame.now
    → (kind ≡ kinds.Ethernet2Fcs → ⊥) → IsProspect kind known room p → IsTrue p.can_be_accepted → TagType p.next
    → 10 ≤ p.room → HasSome packet hs kind is_sec_tag
follow_tagged_sec_tag packet hs kind known room o p ok free is accepted type long =
    let n = p.room - 4 in
    let rest = replicate (n - 6) 0 in
    let len : length (sec_tag_bytes n) + 4 ≡ p.room = omega (arith, length-replicate {A = ℕ} (n - 6) 0, long) in
    let f = follow_tag_next packet hs kind known room o p 0x88E5 (sec_tag_bytes n) ok free is accepted type
    (omega arith)
    (sec_tag_bytes_ok n) len in
    record {
      unit = f.unit;
      of_kind = f.of_kind;
      more = f.more;
      completes = f.completes;
      later = headers.Vlan f.tag ∷ f.later;
      ending = f.ending;
      walk = f.walk;
      any = begins_modified (packet.frame.now ++ f.more) f.expected f.window f.later f.ending rest f.list_ok
          f.announces f.window_is f.stack;
    }
