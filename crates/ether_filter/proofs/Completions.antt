-- What is known of tests of fields is so of the packet with any bytes that its frame may go on with.
use Rattle.std.proofs.Common.{◌≡◌, ℕ, ◌+◌, ◌<◌, ◌≤◌, List, [], ◌∷◌, ◌++◌, length, refl, sym, ap, subst, ◌∙◌, arith, Bool, true, false, inl, inr, ◌↔◌}
use Rattle.std.specs.Prelude.{Some, IsTrue, nat_le, min}
use Rattle.std.proofs.lemmas.Bool.{cases_lt, not-false, leb-true}
use Rattle.std.proofs.lemmas.List.{append-nil, length-append}
use Rattle.etherparse.specs.Types.LenSource.{LenSource}
use Rattle.etherparse.specs.Types.Layer.{Layer}
use Rattle.etherparse.specs.Types.Layer.TheVariants as layers
use Rattle.etherparse.specs.Bytes.{IsBytes}
use Rattle.etherparse.proofs.Numbers.{IsBytes-append}
use Rattle.etherparse.specs.Kind.{Kind}
use Rattle.etherparse.specs.Kind as kinds
use Rattle.etherparse.specs.Header.{Header}
use Rattle.etherparse.specs.Refusal.{Refusal, Length, UnsupportedPacketType, UnsupportedHardwareType, UnexpectedVersion, InvalidShortLen, Refuses}
use Rattle.etherparse.specs.Refusal as rows
use Rattle.ether_peel.specs.Grammar.Window.{Window, within}
use Rattle.ether_peel.specs.Grammar.Expectation.{Expectation, has_fcs}
use Rattle.ether_peel.specs.Grammar.Stack.{Ending, Accepted, Fault, last_window, last_expected, Stack, whole, Walk}
use Rattle.ether_peel.specs.Grammar.Endings.{IsContent, OpenRefusal, named_len}
use Rattle.ether_peel.specs.Walker.Start.{start_of}
use Rattle.ether_peel.proofs.Grammar.Stacks.{one_stack}
use Rattle.ether_peel.proofs.Grammar.Carrying.{leads}
use Rattle.ether_peel.proofs.Grammar.Extensions.{extensions_keep, fcs_is_closed, no_fcs, walk_open_to_end}
use Rattle.ether_peel.proofs.Grammar.Cuts.{common}
use Rattle.ether_filter.specs.declared.decision.Decision.{Decision}
use Rattle.ether_filter.specs.declared.decision.Decision.TheVariants as decisions
use Rattle.ether_filter.specs.declared.packet.Packet.{Packet}
use Rattle.ether_filter.specs.declared.field_test.FieldTest.{FieldTest}
use Rattle.ether_filter.specs.declared.node.Operator.{Operator}
use Rattle.ether_filter.specs.declared.node.Operator.TheVariants as operators
use Rattle.ether_filter.specs.declared.primitive.Primitive.{Primitive}
use Rattle.ether_filter.specs.declared.primitive.Primitive.TheVariants as primitives
use Rattle.ether_filter.specs.FieldTests.{field_holds}
use Rattle.ether_filter.specs.Expressions.{Expression, Test, Not, Join}
use Rattle.ether_filter.specs.Prospects.{IsCompletion}
use Rattle.ether_filter.specs.Needed.{IsLeast}
use Rattle.ether_filter.specs.Deciding.{Says, lost, IsOpenAt, refused, fcs, can_tell, IsFieldKnown, neutral, Knows, NeedsTest, NeedsLen}
use Rattle.ether_filter.specs.Deciding as deciding
use Rattle.ether_filter.proofs.Kleene.{FieldsAgree, exclusive, needs_unknown}
use Rattle.ether_filter.proofs.Longer.{told_same, link_same, NoLink, no_links}

-- ---- a packet that is not open

same_walk : (packet : Packet) (more : List ℕ) (hs ks : List Header) (e f : Ending) → length more ≡ 0
    → Walk (start_of packet.start) packet.frame.now hs e
    → Walk (start_of packet.start) (packet.frame.now ++ more) ks f → ks ≡ hs
same_walk packet [] hs ks e f none s t =
    let start = start_of packet.start in
    let frame = packet.frame.now in
    let t : Walk start frame ks f = subst (λ (l : List ℕ). Walk start l ks f) (append-nil frame) t in
    sym (one_stack frame start (whole start frame) hs ks e f s t).0
same_walk packet (b ∷ more) hs ks e f none s t = absurd cc

short_same : (packet : Packet) (more : List ℕ) (hs ks : List Header) (v : Window) (y : Expectation) (f : Ending)
    (required len : ℕ) (source : LenSource) (layer : Layer) (c : Bool) → v.closed ≡ c
    → packet.captured_len < packet.original_len → has_fcs (start_of packet.start) ≡ false → length more ≤ lost packet
    → Walk (start_of packet.start) packet.frame.now hs (Fault v y (Length required len source layer))
    → Walk (start_of packet.start) (packet.frame.now ++ more) ks f
    → ((n : ℕ) → IsOpenAt packet (Fault v y (Length required len source layer)) n → ⊥)
    → ks ≡ hs
short_same packet more hs ks v y f required len source layer true is cut free few s t never =
    let e = Fault v y (Length required len source layer) in
    let all = extensions_keep (start_of packet.start) packet.frame.now hs e free s more ks f t in
    let r = Length required len source layer in
    let k = all.settled r refl (inr is) in
    k.0.headers
short_same packet more hs ks v y f required len source layer false is cut free few s t never =
    let e = Fault v y (Length required len source layer) in
    let o : OpenRefusal e =
    record { required = required; len = len; source = source; layer = layer; refused = refl; is_open = is } in
    elim (cases_lt (length packet.frame.now + lost packet) (named_len e o)) [
      | inl lt ↦
          let all = extensions_keep (start_of packet.start) packet.frame.now hs e free s more ks f t in
          let k = all.waiting o (omega (arith, length-append packet.frame.now more)) in
          k.0.headers
      | inr le ↦ absurd (never (named_len e o) (refused o cut refl le))
    ]

settled_same : (packet : Packet) (more : List ℕ) (hs ks : List Header) (v : Window) (y : Expectation) (f : Ending)
    (r : Refusal) → has_fcs (start_of packet.start) ≡ false → Walk (start_of packet.start) packet.frame.now hs
    (Fault v y r)
    → Walk (start_of packet.start) (packet.frame.now ++ more) ks f → IsContent r → ks ≡ hs
settled_same packet more hs ks v y f r free s t content =
    let all = extensions_keep (start_of packet.start) packet.frame.now hs (Fault v y r) free s more ks f t in
    let k = all.settled r refl (inl content) in
    k.0.headers

content_same : (packet : Packet) (more : List ℕ) (hs ks : List Header) (v : Window) (y : Expectation) (f : Ending)
    (r : Refusal) → packet.captured_len < packet.original_len → has_fcs (start_of packet.start) ≡ false
    → length more ≤ lost packet → Walk (start_of packet.start) packet.frame.now hs (Fault v y r)
    → Walk (start_of packet.start) (packet.frame.now ++ more) ks f
    → ((n : ℕ) → IsOpenAt packet (Fault v y r) n → ⊥) → ks ≡ hs
content_same packet more hs ks v y f (Length required len source layer) cut free few s t never =
    short_same packet more hs ks v y f required len source layer v.closed refl cut free few s t never
content_same packet more hs ks v y f (UnsupportedPacketType p) cut free few s t never =
    settled_same packet more hs ks v y f (UnsupportedPacketType p) free s t tt
content_same packet more hs ks v y f (UnsupportedHardwareType p) cut free few s t never =
    settled_same packet more hs ks v y f (UnsupportedHardwareType p) free s t tt
content_same packet more hs ks v y f UnexpectedVersion cut free few s t never =
    settled_same packet more hs ks v y f UnexpectedVersion free s t tt
content_same packet more hs ks v y f InvalidShortLen cut free few s t never =
    settled_same packet more hs ks v y f InvalidShortLen free s t tt

cut_same : (packet : Packet) (more : List ℕ) (hs ks : List Header) (e f : Ending) (c : Bool)
    → has_fcs (start_of packet.start) ≡ c → packet.captured_len < packet.original_len → length more ≤ lost packet
    → Walk (start_of packet.start) packet.frame.now hs e
    → Walk (start_of packet.start) (packet.frame.now ++ more) ks f → ((n : ℕ) → IsOpenAt packet e n → ⊥)
    → ks ≡ hs
cut_same packet more hs ks e f true is cut few s t never =
    absurd (never (length packet.frame.now + lost packet) (fcs is cut refl))
cut_same packet more hs ks (Accepted v y) f false is cut few s t never =
    let all = extensions_keep (start_of packet.start) packet.frame.now hs (Accepted v y) is s more ks f t in
    (all.accepted refl).0.headers
cut_same packet more hs ks (Fault v y r) f false is cut few s t never =
    content_same packet more hs ks v y f r cut is few s t never

not_open_same : (packet : Packet) (more : List ℕ) (hs ks : List Header) (e f : Ending)
    → length more ≤ lost packet → Walk (start_of packet.start) packet.frame.now hs e
    → Walk (start_of packet.start) (packet.frame.now ++ more) ks f → ((n : ℕ) → IsOpenAt packet e n → ⊥)
    → ks ≡ hs
not_open_same packet more hs ks e f few s t never =
    elim (cases_lt packet.captured_len packet.original_len) [
      | inl lt ↦ cut_same packet more hs ks e f (has_fcs (start_of packet.start)) refl lt few s t never
      | inr le ↦ same_walk packet more hs ks e f (omega arith) s t
    ]

-- ---- a packet that is open

-- only the layer of an Ethernet II header is one of its kind
of_layer : (bound source : LenSource) (bytes : List ℕ) (kind : Kind) (required len : ℕ) (layer : Layer)
    → Refuses bound bytes kind (Length required len source layer) → kind ≡ kinds.Ethernet2
    → layer ≡ layers.Ethernet2Header
of_layer bound source bytes kind required len layer (rows.ethernet2 lt) is = refl
of_layer bound source bytes kind required len layer r is = cc

-- no Ethernet II header is announced where another unit is refused
awaits : (list : List ℕ) (e : Ending) (o : OpenRefusal e) → Stack list (last_expected e) (last_window e) [] e
    → (o.layer ≡ layers.Ethernet2Header → ⊥) → NoLink (last_expected e)
awaits list (Accepted v y) o s never k = let is = o.refused in absurd cc
awaits list (Fault v y r) o s never k =
    let is = o.refused in
    let same : r ≡ Length o.required o.len o.source o.layer = cc in
    let both : Some s.2 ≡ Some kinds.Ethernet2 = sym s.3 ∙ k in
    let kind : s.2 ≡ kinds.Ethernet2 = cc in
    never (of_layer v.bound o.source (within list v) s.2 o.required o.len o.layer
    (subst (Refuses v.bound (within list v) s.2) same s.4) kind)

-- a test that can't depend on what follows asks about an Ethernet II header
passed_link : (t : FieldTest) (layer : Layer) → can_tell layer t ≡ false
    → (t.field ≤ 3) × (layer ≡ layers.Ethernet2Header → ⊥)
passed_link t layers.Ethernet2Header never = absurd cc
passed_link t layer never = (leb-true t.field 3 (not-false (nat_le t.field 3) never), λ i. cc)

-- ---- what is known

-- of a completed packet
pub field_agrees : (packet : Packet) (more : List ℕ) (hs ks : List Header) (e f : Ending) (t : FieldTest)
    → IsBytes packet.frame.now → IsCompletion packet more → Walk (start_of packet.start) packet.frame.now hs e
    → Walk (start_of packet.start) (packet.frame.now ++ more) ks f → IsFieldKnown packet hs e t
    → IsTrue (field_holds t hs) ↔ IsTrue (field_holds t ks)
field_agrees packet more hs ks e f t ok c s w (deciding.whole never) =
    let same = not_open_same packet more hs ks e f (omega (arith, c.all)) s w never in
    subst (λ (l : List Header). IsTrue (field_holds t hs) ↔ IsTrue (field_holds t l)) (sym same) (λ m. m, λ m. m)
field_agrees packet more hs ks e f t ok c s w (deciding.told free is) =
    let m = common (start_of packet.start) packet.frame.now more ks hs f e
    (IsBytes-append packet.frame.now more ok c.are_bytes)
    free w s in
    subst (λ (l : List Header). IsTrue (field_holds t hs) ↔ IsTrue (field_holds t l)) (sym m.headers)
    (told_same t hs m.rest is)
field_agrees packet more hs ks e f t ok c s w (deciding.passed o never) =
    let start = start_of packet.start in
    let free = no_fcs start packet.frame.now hs e s o in
    let m = common start packet.frame.now more ks hs f e (IsBytes-append packet.frame.now more ok c.are_bytes) free w
    s in
    let last = (leads packet.frame.now start (whole start packet.frame.now) hs e s).1 in
    let g = walk_open_to_end start packet.frame.now hs e free s in
    let p = passed_link t o.layer never in
    subst (λ (l : List Header). IsTrue (field_holds t hs) ↔ IsTrue (field_holds t l)) (sym m.headers)
    (link_same t hs m.rest p.0
    (no_links (packet.frame.now ++ more) (last_expected e) m.last m.rest f (awaits packet.frame.now e o last p.1) g.free
    m.follows))

pub fields_agree : (packet : Packet) (hs : List Header) (e : Ending) → IsBytes packet.frame.now
    → Walk (start_of packet.start) packet.frame.now hs e → FieldsAgree packet hs e
fields_agree packet hs e ok s t true k more ks f c w = (field_agrees packet more hs ks e f t ok c s w k.0).0 k.1
fields_agree packet hs e ok s t false k more ks f c w =
    λ m. k.1 ((field_agrees packet more hs ks e f t ok c s w k.0).1 m)

-- ---- one length and one decision

pub one_required : (e : Ending) (o p : OpenRefusal e) → o.required ≡ p.required
one_required e o p =
    let a = o.refused in
    let b = p.refused in
    let both : Some (Length o.required o.len o.source o.layer) ≡ Some (Length p.required p.len p.source p.layer) =
    sym a ∙ b in
    cc

pub one_layer : (e : Ending) (o p : OpenRefusal e) → o.layer ≡ p.layer
one_layer e o p =
    let a = o.refused in
    let b = p.refused in
    let both : Some (Length o.required o.len o.source o.layer) ≡ Some (Length p.required p.len p.source p.layer) =
    sym a ∙ b in
    cc

one_length : (packet : Packet) (hs : List Header) (e : Ending) (n m : ℕ)
    → Walk (start_of packet.start) packet.frame.now hs e → IsOpenAt packet e n → IsOpenAt packet e m → n ≡ m
one_length packet hs e n m s (refused o cut is few) (refused p _ was _) =
    sym is ∙ ap (λ (r : ℕ). (last_window e).start + r) (one_required e o p) ∙ was
one_length packet hs e n m s (refused o cut is few) (fcs free _ whole) =
    absurd (fcs_is_closed (start_of packet.start) packet.frame.now hs e free s o)
one_length packet hs e n m s (fcs free _ whole) (refused o cut is few) =
    absurd (fcs_is_closed (start_of packet.start) packet.frame.now hs e free s o)
one_length packet hs e n m s (fcs _ _ is) (fcs _ _ was) = is ∙ sym was

-- ---- one decision

one_least : (packet : Packet) (p : Primitive) (n m : ℕ) → IsLeast packet p n → IsLeast packet p m → n < m → ⊥
one_least packet p n m a b lt =
    let w = a.decides in
    let len = w.2 in
    let u = b.stays w.0 w.1 (omega (arith, len)) in
    elim w.3 [ inl never ↦ never u.1 | inr never ↦ never u.0 ]

one_test : (packet : Packet) (hs : List Header) (e : Ending) (n m : ℕ) (p : Primitive)
    → Walk (start_of packet.start) packet.frame.now hs e → NeedsTest packet hs e n p → NeedsTest packet hs e m p
    → n ≡ m
one_test packet hs e n m (primitives.Field t) s a b = one_length packet hs e n m s a.1 b.1
one_test packet hs e n m p s a b = elim (cases_lt n m) [
  | inl lt ↦ absurd (one_least packet p n m a.1 b.1 lt)
  | inr le ↦ elim (cases_lt m n) [ inl lt ↦ absurd (one_least packet p m n b.1 a.1 lt) | inr ge ↦ omega arith ]
]

-- an operand can't leave the other's truth and be unknown
known_needs : (packet : Packet) (hs : List Header) (e : Ending) (n : ℕ) (operator : Operator) (x : Expression)
    → IsBytes packet.frame.now → Knows packet hs e (neutral operator) x → NeedsLen packet hs e n x → ⊥
known_needs packet hs e n operators.And x ok k u = (needs_unknown packet hs e n x ok u).not_true k
known_needs packet hs e n operators.Or x ok k u = (needs_unknown packet hs e n x ok u).not_false k

one_need : (packet : Packet) (hs : List Header) (e : Ending) (n m : ℕ) (x : Expression) → IsBytes packet.frame.now
    → Walk (start_of packet.start) packet.frame.now hs e → NeedsLen packet hs e n x → NeedsLen packet hs e m x → n ≡ m
one_need packet hs e n m (Test p) ok s a b = one_test packet hs e n m p s a b
one_need packet hs e n m (Not x) ok s a b = one_need packet hs e n m x ok s a b
one_need packet hs e n m (Join o x y) ok s (inl a) (inl b) = one_need packet hs e n m y ok s a.1 b.1
one_need packet hs e n m (Join o x y) ok s (inl a) (inr (inl b)) = absurd (known_needs packet hs e m o x ok a.0 b.0)
one_need packet hs e n m (Join o x y) ok s (inl a) (inr (inr b)) = absurd (known_needs packet hs e b.0 o x ok a.0 b.2)
one_need packet hs e n m (Join o x y) ok s (inr (inl a)) (inl b) = absurd (known_needs packet hs e n o x ok b.0 a.0)
one_need packet hs e n m (Join o x y) ok s (inr (inl a)) (inr (inl b)) = one_need packet hs e n m x ok s a.0 b.0
one_need packet hs e n m (Join o x y) ok s (inr (inl a)) (inr (inr b)) =
    absurd (known_needs packet hs e b.1 o y ok a.1 b.3)
one_need packet hs e n m (Join o x y) ok s (inr (inr a)) (inl b) = absurd (known_needs packet hs e a.0 o x ok b.0 a.2)
one_need packet hs e n m (Join o x y) ok s (inr (inr a)) (inr (inl b)) =
    absurd (known_needs packet hs e a.1 o y ok b.1 a.3)
one_need packet hs e n m (Join o x y) ok s (inr (inr a)) (inr (inr b)) =
    a.4 ∙ (λ i. min (one_need packet hs e a.0 b.0 x ok s a.2 b.2 i) (one_need packet hs e a.1 b.1 y ok s a.3 b.3 i))
    ∙ sym b.4

one_decision : (packet : Packet) (hs : List Header) (e : Ending) (x : Expression) (a b : Decision)
    → IsBytes packet.frame.now
    → Walk (start_of packet.start) packet.frame.now hs e → Says packet hs e x a → Says packet hs e x b → a ≡ b
one_decision packet hs e x decisions.Matches decisions.Matches ok s k l = refl
one_decision packet hs e x decisions.Matches decisions.Fails ok s k l = absurd (exclusive packet hs e x ok k l)
one_decision packet hs e x decisions.Matches (decisions.Needs n) ok s k l =
    absurd ((needs_unknown packet hs e n x ok l).not_true k)
one_decision packet hs e x decisions.Fails decisions.Matches ok s k l = absurd (exclusive packet hs e x ok l k)
one_decision packet hs e x decisions.Fails decisions.Fails ok s k l = refl
one_decision packet hs e x decisions.Fails (decisions.Needs n) ok s k l =
    absurd ((needs_unknown packet hs e n x ok l).not_false k)
one_decision packet hs e x (decisions.Needs n) decisions.Matches ok s k l =
    absurd ((needs_unknown packet hs e n x ok k).not_true l)
one_decision packet hs e x (decisions.Needs n) decisions.Fails ok s k l =
    absurd ((needs_unknown packet hs e n x ok k).not_false l)
one_decision packet hs e x (decisions.Needs n) (decisions.Needs m) ok s k l =
    ap decisions.Needs (one_need packet hs e n m x ok s k l)

pub says_one : (packet : Packet) (hs : List Header) (e : Ending) (x : Expression) (a d : Decision)
    → IsBytes packet.frame.now
    → Walk (start_of packet.start) packet.frame.now hs e → Says packet hs e x a → (a ≡ d) ↔ Says packet hs e x d
says_one packet hs e x a d ok s k = (
  λ is. subst (Says packet hs e x) is k,
  λ l. one_decision packet hs e x a d ok s k l,
)
