-- What a primitive decides on completed packets, for proofs.
use Rattle.std.proofs.Common.{◌≡◌, ℕ, ◌-◌, ◌<◌, List, [], ◌∷◌, ◌++◌, refl, sym, ap, subst, ◌∙◌, Bool, true, false, IsTrue}
use Rattle.std.specs.Prelude.{is_some, replicate}
use Rattle.std.proofs.lemmas.List.{append-nil, length-replicate}
use Rattle.etherparse.specs.Header.{Header, kind_of}
use Rattle.etherparse.specs.Header as headers
use Rattle.etherparse.proofs.Numbers.{IsBytes-append}
use Rattle.ether_peel.specs.Grammar.Expectation.{EtherType, next_after}
use Rattle.ether_peel.specs.Grammar.Stack.{Ending, whole, Walk}
use Rattle.ether_peel.specs.Grammar.Endings.{refusal_of}
use Rattle.ether_peel.specs.Walker.Start.{start_of}
use Rattle.ether_peel.proofs.Grammar.Stacks.{some_stack}
use Rattle.ether_filter.specs.declared.can.Can.{Can}
use Rattle.ether_filter.specs.declared.packet.Packet.{Packet}
use Rattle.ether_filter.specs.declared.primitive.Primitive.{Primitive}
use Rattle.ether_filter.specs.declared.prospect.OpenKind.{OpenKind}
use Rattle.ether_filter.specs.declared.prospect.Prospect.{Prospect}
use Rattle.ether_filter.specs.Primitives.{is_tag, vlan_ids, Walked, walked, Matches}
use Rattle.ether_filter.specs.Seen.{matching}
use Rattle.ether_filter.specs.Prospects.{IsCompletion, kind_named}
use Rattle.ether_filter.specs.Later.{CanTag, SomeCompletion, IsOpenAs}
use Rattle.ether_filter.specs.Possible.{IsPossible}
use Rattle.ether_filter.proofs.Follows.{IsFrom, follow_nothing, follow_refused, follow_tag, follow_two_tags}
use Rattle.ether_filter.proofs.LaterLemmas.{IsAfter, Came, refused, accepted, came, tag_offered, never_fcs}
use Rattle.ether_filter.proofs.LaterCompletions.{opened, some_of}
use Rattle.ether_filter.proofs.Truth.{matching_is}
use Rattle.ether_filter.proofs.Typed.{zeros_are_bytes}

-- ---- a primitive as a test

-- what is decided on each completed packet
abbrev pub Every : Packet → (List Header → Ending → Type 0) → Type 0
Every packet Is =
    (more : List ℕ) (ks : List Header) (e : Ending) → IsCompletion packet more
    → Walk (start_of packet.start) (packet.frame.now ++ more) ks e → Is ks e

pub record IsOutcome (packet : Packet) (primitive : Primitive) (can : Can) : Type 0 where
  pub some_match : IsTrue can.matches → SomeCompletion packet (λ w. matching w primitive ≡ true)
  pub every_match : Every packet (λ ks e. matching (walked packet ks e) primitive ≡ true → IsTrue can.matches)
  pub some_fail : IsTrue can.fails → SomeCompletion packet (λ w. matching w primitive ≡ false)
  pub every_fail : Every packet (λ ks e. matching (walked packet ks e) primitive ≡ false → IsTrue can.fails)

turned : (packet : Packet) (Is Are : Walked → Type 0) → ((w : Walked) → Is w → Are w) → SomeCompletion packet Is
    → SomeCompletion packet Are
turned packet Is Are f s = record {
  more = s.more;
  headers = s.headers;
  ending = s.ending;
  completes = s.completes;
  walk = s.walk;
  holds = f (walked packet s.headers s.ending) s.holds;
}

pub false_or : (b : Bool) → (IsTrue b → ⊥) → b ≡ false
false_or true never = absurd (never refl)
false_or false never = refl

pub possible_by : (packet : Packet) (primitive : Primitive) (can : Can) → IsOutcome packet primitive can
    → IsPossible packet primitive can
possible_by packet primitive can o = record {
  matches = (
    λ t. turned packet (λ w. matching w primitive ≡ true) (Matches primitive)
        (λ w is. (matching_is w primitive).0 is) (o.some_match t),
    λ s. o.every_match s.more s.headers s.ending s.completes s.walk
        ((matching_is (walked packet s.headers s.ending) primitive).1 s.holds),
  );
  fails = (
    λ t. turned packet (λ w. matching w primitive ≡ false) (λ w. Matches primitive w → ⊥)
        (λ w is m. let gone : false ≡ true = sym is ∙ (matching_is w primitive).1 m in cc) (o.some_fail t),
    λ s. o.every_fail s.more s.headers s.ending s.completes s.walk
        (false_or (matching (walked packet s.headers s.ending) primitive)
        (λ is. s.holds ((matching_is (walked packet s.headers s.ending) primitive).0 is))),
  );
}

-- ---- every completed packet

pub every_by : (packet : Packet) (hs : List Header) (kind : OpenKind) (known : List ℕ) (room : ℕ) (p : Prospect)
    (Is : List Header → Ending → Type 0) → IsOpenAs packet hs kind known room p
    → (IsTrue p.can_be_refused → (e : Ending) → is_some (refusal_of e) ≡ true → Is hs e)
    → (IsTrue p.can_be_accepted → (unit : Header) (later : List Header) (e : Ending)
    → IsFrom (kind_named kind) known room unit → IsAfter p unit later e → Is (hs ++ unit ∷ later) e)
    → Every packet Is
every_by packet hs kind known room p Is o gone got more ks e c s = by_case
    (came packet hs kind known room p o more ks e c s)
  where
    by_case : Came (kind_named kind) known room p hs ks e → Is ks e
    by_case (refused can same some) = subst (λ (l : List Header). Is l e) (sym same) (gone can e some)
    by_case (accepted can unit later bytes on a same then) =
        subst (λ (l : List Header). Is l e) (sym same)
        (got can unit later e (record { bytes = bytes; on = on; accepts = a }) then)

-- ---- some completed packet

pub some_refused : (packet : Packet) (hs : List Header) (kind : OpenKind) (known : List ℕ) (room : ℕ) (p : Prospect)
    (Is : Walked → Type 0) → IsOpenAs packet hs kind known room p → IsTrue p.can_be_refused
    → ((e : Ending) → is_some (refusal_of e) ≡ true → Is (walked packet hs e)) → SomeCompletion packet Is
some_refused packet hs kind known room p Is o gone holds =
    let h = follow_refused packet hs (kind_named kind) known room (opened packet hs kind known room p o) p o.bytes
    o.prospect gone in
    some_of packet hs [] true Is h
    (λ e some. subst (λ (l : List Header). Is (walked packet l e)) (sym (append-nil hs)) (holds e some))

pub some_alone : (packet : Packet) (hs : List Header) (kind : OpenKind) (known : List ℕ) (room : ℕ) (p : Prospect)
    (other : ℕ) (Is : Walked → Type 0) → IsOpenAs packet hs kind known room p → IsTrue p.can_be_accepted
    → ((unit : Header) (e : Ending) → IsFrom (kind_named kind) known room unit
    → (next_after unit ≡ EtherType other → ⊥) → is_some (refusal_of e) ≡ false
    → Is (walked packet (hs ++ unit ∷ []) e)) → SomeCompletion packet Is
some_alone packet hs kind known room p other Is o got holds =
    let h = follow_nothing packet hs (kind_named kind) known room (opened packet hs kind known room p o) p other o.bytes
    (never_fcs kind) o.prospect got in
    some_of packet hs (h.unit ∷ []) false Is h.has (λ e none. holds h.unit e h.from h.differs none)

-- one of the two
pub some_end : (packet : Packet) (hs : List Header) (kind : OpenKind) (known : List ℕ) (room : ℕ) (p : Prospect)
    (other : ℕ) (Is : Walked → Type 0) → IsOpenAs packet hs kind known room p
    → (IsTrue p.can_be_refused → (e : Ending) → is_some (refusal_of e) ≡ true → Is (walked packet hs e))
    → (IsTrue p.can_be_accepted → (unit : Header) (e : Ending) → IsFrom (kind_named kind) known room unit
    → (next_after unit ≡ EtherType other → ⊥) → is_some (refusal_of e) ≡ false
    → Is (walked packet (hs ++ unit ∷ []) e)) → SomeCompletion packet Is
some_end packet hs kind known room p other Is o gone got = by_case
    (came packet hs kind known room p o zeros t.0 t.1 c t.2)
  where
    zeros : List ℕ
    zeros = replicate (packet.original_len - packet.captured_len) 0

    c : IsCompletion packet zeros
    c = record {
      are_bytes = zeros_are_bytes (packet.original_len - packet.captured_len);
      all = length-replicate {A = ℕ} (packet.original_len - packet.captured_len) 0;
    }

    t : (ks : List Header) × (e : Ending) × Walk (start_of packet.start) (packet.frame.now ++ zeros) ks e
    t = some_stack (packet.frame.now ++ zeros) (start_of packet.start)
        (whole (start_of packet.start) (packet.frame.now ++ zeros))
        (IsBytes-append packet.frame.now zeros o.bytes c.are_bytes)

    by_case : Came (kind_named kind) known room p hs t.0 t.1 → SomeCompletion packet Is
    by_case (refused can same some) = some_refused packet hs kind known room p Is o can (gone can)
    by_case (accepted can unit later bytes on a same then) =
        some_alone packet hs kind known room p other Is o can (got can)

pub some_tag : (packet : Packet) (hs : List Header) (kind : OpenKind) (known : List ℕ) (room : ℕ) (p : Prospect)
    (id : ℕ) (Is : Walked → Type 0) → IsOpenAs packet hs kind known room p → IsTrue p.can_be_accepted → CanTag p 4
    → id < 4096
    → ((unit tag : Header) (e : Ending) → kind_of unit ≡ kind_named kind → is_tag tag ≡ true
    → vlan_ids (tag ∷ []) ≡ id ∷ [] → Is (walked packet (hs ++ unit ∷ tag ∷ []) e)) → SomeCompletion packet Is
some_tag packet hs kind known room p id Is o got can lt holds =
    let h = follow_tag packet hs (kind_named kind) known room (opened packet hs kind known room p o) p id o.bytes
    (never_fcs kind) o.prospect got (tag_offered p.next can.0) can.1 lt in
    some_of packet hs (h.unit ∷ headers.Vlan h.tag ∷ []) false Is h.has
    (λ e none. holds h.unit (headers.Vlan h.tag) e h.of_kind refl (ap (λ (n : ℕ). n ∷ []) h.vid_is))

pub some_two_tags : (packet : Packet) (hs : List Header) (kind : OpenKind) (known : List ℕ) (room : ℕ) (p : Prospect)
    (id : ℕ) (Is : Walked → Type 0) → IsOpenAs packet hs kind known room p → IsTrue p.can_be_accepted → CanTag p 8
    → id < 4096
    → ((unit first second : Header) (n : ℕ) (e : Ending) → kind_of unit ≡ kind_named kind
    → vlan_ids (first ∷ second ∷ []) ≡ n ∷ id ∷ [] → Is (walked packet (hs ++ unit ∷ first ∷ second ∷ []) e))
    → SomeCompletion packet Is
some_two_tags packet hs kind known room p id Is o got can lt holds =
    let h = follow_two_tags packet hs (kind_named kind) known room (opened packet hs kind known room p o) p id o.bytes
    (never_fcs kind) o.prospect got (tag_offered p.next can.0) can.1 lt in
    some_of packet hs (h.unit ∷ headers.Vlan h.first ∷ headers.Vlan h.second ∷ []) false Is h.has
    (λ e none. holds h.unit (headers.Vlan h.first) (headers.Vlan h.second) h.first.vid e h.of_kind
    (ap (λ (n : ℕ). h.first.vid ∷ n ∷ []) h.vid_is))
