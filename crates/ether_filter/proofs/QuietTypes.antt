-- Units after which nothing follows, since they announce no header.
use Rattle.std.proofs.Common.{◌≡◌, ℕ, ◌+◌, ◌/◌, ◌%◌, ◌<◌, ◌≤◌, List, [], ◌∷◌, ◌++◌, refl, sym, ap, subst, ◌∙◌, arith, inl, inr, Bool, true, false, ◌||◌, nat_eq}
use Rattle.std.specs.Prelude.{Option, Some, None, is_some}
use Rattle.std.specs.List.{list_any}
use Rattle.std.proofs.lemmas.List.Folds.{list_any-append}
use Rattle.std.proofs.lemmas.Bool.{eqb-true}
use Rattle.etherparse.specs.Kind.{Kind}
use Rattle.etherparse.specs.Header.{Header}
use Rattle.etherparse.specs.Header as headers
use Rattle.ether_peel.specs.Grammar.Expectation.{announced_by, next_after}
use Rattle.ether_peel.specs.Grammar.Stack.{Ending, whole}
use Rattle.ether_peel.specs.Grammar.Endings.{refusal_of}
use Rattle.ether_peel.specs.Walker.Start.{start_of, next_of}
use Rattle.ether_peel.proofs.Grammar.Stacks.{one_stack}
use Rattle.ether_filter.specs.declared.packet.Packet.{Packet}
use Rattle.ether_filter.specs.declared.primitive.Primitive.{Primitive}
use Rattle.ether_filter.specs.declared.primitive.Primitive.TheVariants as primitives
use Rattle.ether_filter.specs.declared.prospect.Announced.{Announced}
use Rattle.ether_filter.specs.declared.prospect.Announced.TheVariants.{High}
use Rattle.ether_filter.specs.declared.prospect.OpenKind.{OpenKind}
use Rattle.ether_filter.specs.declared.prospect.Prospect.{Prospect}
use Rattle.ether_filter.specs.CutWalks.{AreAll}
use Rattle.ether_filter.specs.Deciding.{is_of_lengths, is_of_link, is_of_field}
use Rattle.ether_filter.specs.Later.{OffersTag, IsOpenAs}
use Rattle.ether_filter.specs.Needed.{IsDecided}
use Rattle.ether_filter.specs.Possible.{is_vlan, is_macsec}
use Rattle.ether_filter.specs.Primitives.{is_tag, is_sec_tag, vlan_ids, ether_types, walked}
use Rattle.ether_filter.specs.Prospects.{Offers, kind_named}
use Rattle.ether_filter.specs.Seen.{matching, first, last_other}
use Rattle.ether_filter.specs.TagMarks.{is_some_number}
use Rattle.ether_filter.proofs.Announced.{vlan_type, kinds_of_type}
use Rattle.ether_filter.proofs.Follows.{IsFrom}
use Rattle.ether_filter.proofs.LaterLemmas.{IsAfter}
use Rattle.ether_filter.proofs.Leads.{vlan_in}
use Rattle.ether_filter.proofs.Longer.{ids_append, types_after, types_append}
use Rattle.ether_filter.proofs.Outcomes.{Every, every_by, false_or}
use Rattle.ether_filter.proofs.PossibleLemmas.{tag_of_kind, sec_tag_of_kind}
use Rattle.ether_filter.proofs.PossibleTags.{no_ids}
use Rattle.ether_filter.proofs.ToldLemmas.{some_ending}
use Rattle.ether_filter.proofs.Truth.{matching_is}

-- ---- where all completed packets are alike

pub constant_decided : (packet : Packet) (q : Primitive) (b : Bool)
    → Every packet (λ ks e. matching (walked packet ks e) q ≡ b) → IsDecided packet q
constant_decided packet q true every = inl (λ s. s.holds
    ((matching_is (walked packet s.headers s.ending) q).0 (every s.more s.headers s.ending s.completes s.walk)))
constant_decided packet q false every = inr (λ s.
    (let clash : false ≡ true = sym (every s.more s.headers s.ending s.completes s.walk)
    ∙ (matching_is (walked packet s.headers s.ending) q).1 s.holds in cc))

-- the same headers, and the same of a refusal
all_value : Packet → List Header → Bool → Primitive → Bool
all_value packet hs b primitives.Refused = b
all_value packet hs b q = matching (walked packet hs (some_ending packet)) q

all_is : (packet : Packet) (hs : List Header) (b : Bool) (q : Primitive) (e : Ending) → is_some (refusal_of e) ≡ b
    → matching (walked packet hs e) q ≡ all_value packet hs b q
unfolding all_value
all_is packet hs b primitives.Refused e is = is
all_is packet hs b q e is = refl

pub all_decided : (packet : Packet) (hs : List Header) (q : Primitive) (b : Bool) → AreAll packet hs b
    → IsDecided packet q
all_decided packet hs q b all = constant_decided packet q (all_value packet hs b q)
    (λ more ks e c walk.
    (let a = all more c in
    let list = packet.frame.now ++ more in
    let x = start_of packet.start in
    let one = one_stack list x (whole x list) hs ks a.0 e a.1 walk in
    subst (λ (l : List Header). matching (walked packet l e) q ≡ all_value packet hs b q) one.0
    (subst (λ (f : Ending). matching (walked packet hs f) q ≡ all_value packet hs b q) one.1
    (all_is packet hs b q a.0 a.2))))

-- ---- an ether type that announces nothing

quiet_kind : (t : ℕ) (kind : Kind) → t % 256 ≡ 255 → announced_by t ≡ Some kind → ⊥
quiet_kind t kind last is = elim (kinds_of_type t kind is) [
  | inl vlan ↦ elim (vlan_in t vlan.0) [
    | inl a ↦ omega (arith, a, last)
    | inr (inl b) ↦ omega (arith, b, last)
    | inr (inr c) ↦ omega (arith, c, last)
  ]
  | inr (inl sec_tag) ↦ omega (arith, eqb-true t 0x88E5 sec_tag.0, last)
  | inr (inr arp) ↦ omega (arith, eqb-true t 0x0806 arp.0, last)
]

pub quiet_type : (t : ℕ) → t % 256 ≡ 255 → announced_by t ≡ None
quiet_type t last = by_kind (announced_by t) refl
  where
    by_kind : (o : Option Kind) → announced_by t ≡ o → announced_by t ≡ None
    by_kind None is = is
    by_kind (Some kind) is = absurd (quiet_kind t kind last is)

-- ---- the first byte of one

pub record IsQuiet (next : Announced) (q : Primitive) : Type 0 where
  pub tag : OffersTag next → ⊥
  pub sec_tag : Offers next 0x88E5 → ⊥
  pub arp : Offers next 0x0806 → ⊥
  pub type : (n : ℕ) → q ≡ primitives.EtherType n → Offers next n → ⊥

pub quiet_high : (q : Primitive) (b : ℕ) → b ≤ 1 → ((n : ℕ) → q ≡ primitives.EtherType n → n / 256 ≡ b → ⊥)
    → IsQuiet (High b) q
quiet_high q b small other = record {
  tag = λ (t, at, is). elim (vlan_in t (vlan_type t is)) [
    | inl a ↦ omega (arith, a, at, small)
    | inr (inl c) ↦ omega (arith, c, at, small)
    | inr (inr d) ↦ omega (arith, d, at, small)
  ];
  sec_tag = λ at. omega (arith, at, small);
  arp = λ at. omega (arith, at, small);
  type = other;
}

-- a byte that begins none of those, and not the one of a primitive
pub quiet_byte : Primitive → ℕ
quiet_byte (primitives.EtherType n) = (n / 256 + 1) % 2
quiet_byte q = 0

quiet_small : (q : Primitive) → quiet_byte q ≤ 1
unfolding quiet_byte
quiet_small (primitives.EtherType n) = omega arith
quiet_small q = omega arith

quiet_other : (q : Primitive) (n : ℕ) → q ≡ primitives.EtherType n → n / 256 ≡ quiet_byte q → ⊥
unfolding quiet_byte
quiet_other q n is at =
    let here : n / 256 ≡ (n / 256 + 1) % 2 = at ∙ ap quiet_byte is in omega (arith, here)

pub quiet_by_byte : (q : Primitive) → IsQuiet (High (quiet_byte q)) q
quiet_by_byte q = quiet_high q (quiet_byte q) (quiet_small q) (quiet_other q)

pub quiet_below : (q : Primitive) → quiet_byte q < 256
quiet_below q = let small = quiet_small q in omega (arith, small)

-- ---- all completed packets are alike, if such a byte is known

ids_end : (unit : Header) (later : List Header) → list_any is_tag later ≡ false
    → vlan_ids (unit ∷ later) ≡ vlan_ids (unit ∷ [])
ids_end (headers.Vlan v) later none = ap (λ (l : List ℕ). v.vid ∷ l) (no_ids later none)
ids_end (headers.Ethernet2 h) later none = no_ids later none
ids_end (headers.Ethernet2Fcs h) later none = no_ids later none
ids_end (headers.LinuxSll h) later none = no_ids later none
ids_end (headers.Macsec h) later none = no_ids later none
ids_end (headers.Arp h) later none = no_ids later none

-- the unit has these identifiers
quiet_value : Packet → List Header → OpenKind → List ℕ → Primitive → Bool
quiet_value packet hs kind ids primitives.Vlan = list_any is_tag hs || (is_vlan kind || false)
quiet_value packet hs kind ids (primitives.VlanId n) = list_any (nat_eq n) (vlan_ids hs ++ ids)
quiet_value packet hs kind ids (primitives.OuterVlan n) = is_some_number n (first (vlan_ids hs ++ ids))
quiet_value packet hs kind ids (primitives.InnerVlan n) = is_some_number n (last_other (vlan_ids hs ++ ids))
quiet_value packet hs kind ids primitives.Macsec = list_any is_sec_tag hs || (is_macsec kind || false)
quiet_value packet hs kind ids (primitives.EtherType n) =
    list_any (nat_eq n) (ether_types (next_of packet.start) hs) || false
quiet_value packet hs kind ids q = false

-- the tests of such a unit and of those after it
record IsQuietAfter (q : Primitive) (unit : Header) (later : List Header) (e : Ending) : Type 0 where
  tag : list_any is_tag later ≡ false
  sec_tag : list_any is_sec_tag later ≡ false
  type : (n : ℕ) → q ≡ primitives.EtherType n → list_any (nat_eq n) (ether_types (next_after unit) later) ≡ false
  refusal : is_some (refusal_of e) ≡ false

quiet_after : (p : Prospect) (q : Primitive) (unit : Header) (later : List Header) (e : Ending) → IsQuiet p.next q
    → IsAfter p unit later e → IsQuietAfter q unit later e
quiet_after p q unit later e quiet then = record {
  tag = false_or (list_any is_tag later) (λ t. quiet.tag (then.tag t).0);
  sec_tag = false_or (list_any is_sec_tag later) (λ t. elim (then.sec_tag t) [
    | inl here ↦ quiet.sec_tag here.0
    | inr tagged ↦ quiet.tag tagged.0
  ]);
  type = λ n is. false_or (list_any (nat_eq n) (ether_types (next_after unit) later)) (λ t. elim (then.type n t) [
    | inl here ↦ quiet.type n is here
    | inr tagged ↦ quiet.tag tagged.0
  ]);
  refusal = false_or (is_some (refusal_of e)) (λ t. elim (then.refusal t) [
    | inl tagged ↦ quiet.tag tagged
    | inr arp ↦ quiet.arp arp.0
  ]);
}

quiet_is : (packet : Packet) (hs : List Header) (kind : OpenKind) (ids : List ℕ) (q : Primitive) (unit : Header)
    (later : List Header) (e : Ending) → is_of_link q ≡ false → is_of_field q ≡ false → is_of_lengths q ≡ false
    → is_tag unit ≡ is_vlan kind → is_sec_tag unit ≡ is_macsec kind → vlan_ids (unit ∷ []) ≡ ids
    → IsQuietAfter q unit later e
    → matching (walked packet (hs ++ unit ∷ later) e) q ≡ quiet_value packet hs kind ids q
unfolding quiet_value
quiet_is packet hs kind ids primitives.Vlan unit later e link field len tag sec_tag own a =
    list_any-append is_tag hs (unit ∷ later)
    ∙ ap (λ (b : Bool). list_any is_tag hs || (b || list_any is_tag later)) tag
    ∙ ap (λ (b : Bool). list_any is_tag hs || (is_vlan kind || b)) a.tag
quiet_is packet hs kind ids (primitives.VlanId n) unit later e link field len tag sec_tag own a =
    ap (list_any (nat_eq n))
    (ids_append hs (unit ∷ later) ∙ ap (λ (l : List ℕ). vlan_ids hs ++ l) (ids_end unit later a.tag ∙ own))
quiet_is packet hs kind ids (primitives.OuterVlan n) unit later e link field len tag sec_tag own a =
    ap (λ (l : List ℕ). is_some_number n (first l))
    (ids_append hs (unit ∷ later) ∙ ap (λ (l : List ℕ). vlan_ids hs ++ l) (ids_end unit later a.tag ∙ own))
quiet_is packet hs kind ids (primitives.InnerVlan n) unit later e link field len tag sec_tag own a =
    ap (λ (l : List ℕ). is_some_number n (last_other l))
    (ids_append hs (unit ∷ later) ∙ ap (λ (l : List ℕ). vlan_ids hs ++ l) (ids_end unit later a.tag ∙ own))
quiet_is packet hs kind ids primitives.Macsec unit later e link field len tag sec_tag own a =
    list_any-append is_sec_tag hs (unit ∷ later)
    ∙ ap (λ (b : Bool). list_any is_sec_tag hs || (b || list_any is_sec_tag later)) sec_tag
    ∙ ap (λ (b : Bool). list_any is_sec_tag hs || (is_macsec kind || b)) a.sec_tag
quiet_is packet hs kind ids (primitives.EtherType n) unit later e link field len tag sec_tag own a =
    ap (list_any (nat_eq n)) (types_append (next_of packet.start) hs (unit ∷ later))
    ∙ list_any-append (nat_eq n) (ether_types (next_of packet.start) hs) (types_after (unit ∷ later))
    ∙ ap (λ (b : Bool). list_any (nat_eq n) (ether_types (next_of packet.start) hs) || b) (a.type n refl)
quiet_is packet hs kind ids primitives.Refused unit later e link field len tag sec_tag own a = a.refusal
quiet_is packet hs kind ids q unit later e link field len tag sec_tag own a = absurd cc

pub quiet_decided : (packet : Packet) (hs : List Header) (kind : OpenKind) (known : List ℕ) (room : ℕ) (p : Prospect)
    (q : Primitive) (ids : List ℕ) → IsOpenAs packet hs kind known room p → p.can_be_refused ≡ false
    → IsQuiet p.next q
    → ((unit : Header) → IsFrom (kind_named kind) known room unit → vlan_ids (unit ∷ []) ≡ ids)
    → is_of_link q ≡ false → is_of_field q ≡ false → is_of_lengths q ≡ false → IsDecided packet q
quiet_decided packet hs kind known room p q ids o never quiet own link field len =
    constant_decided packet q (quiet_value packet hs kind ids q)
    (every_by packet hs kind known room p
    (λ ks e. matching (walked packet ks e) q ≡ quiet_value packet hs kind ids q) o
    (λ gone e some. absurd (let clash : false ≡ true = sym never ∙ gone in cc))
    (λ got unit later e f then. quiet_is packet hs kind ids q unit later e link field len
    (tag_of_kind unit kind f.accepts.of_kind) (sec_tag_of_kind unit kind f.accepts.of_kind) (own unit f)
    (quiet_after p q unit later e quiet then)))
