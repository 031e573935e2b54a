-- The cases of what is possible for a primitive about VLAN tags or about an Ethernet II header.
use Rattle.std.proofs.Common.{◌≡◌, ℕ, ◌<◌, ◌≤◌, List, arith, refl, sym, ap, subst, ◌∙◌, inl, inr, ◌⊎◌, Bool, true, false, IsTrue, ◌↔◌}
use Rattle.std.specs.Prelude.{not}
use Rattle.std.specs.List.{list_any}
use Rattle.etherparse.specs.Ethernet2.{ethernet2_of}
use Rattle.etherparse.specs.Vlan.{vlan_of}
use Rattle.etherparse.specs.Header.{Header}
use Rattle.etherparse.specs.Header as headers
use Rattle.ether_filter.specs.declared.can.Can.{Can}
use Rattle.ether_filter.specs.declared.field_test.FieldTest.{FieldTest}
use Rattle.ether_filter.specs.declared.packet.Packet.{Packet}
use Rattle.ether_filter.specs.declared.possible.Told.{Told}
use Rattle.ether_filter.specs.declared.primitive.Primitive.{Primitive}
use Rattle.ether_filter.specs.declared.primitive.Primitive.TheVariants as primitives
use Rattle.ether_filter.specs.declared.prospect.OpenKind.{OpenKind}
use Rattle.ether_filter.specs.declared.prospect.OpenKind.TheVariants as open_kinds
use Rattle.ether_filter.specs.declared.prospect.Prospect.{Prospect}
use Rattle.ether_filter.specs.Deciding.{is_of_lengths, is_of_link, is_of_field, is_refused}
use Rattle.ether_filter.specs.Primitives.{is_tag, vlan_ids}
use Rattle.ether_filter.specs.Later.{CanTag, IsOpenAs}
use Rattle.ether_filter.specs.OwnFields.{link_test, IsAmong, FitsTag, FitsLink, FitsOwn}
use Rattle.ether_filter.specs.Possible.{is_vlan, is_ethernet2, IsPossible, AreTold}
use Rattle.ether_filter.proofs.Outcomes.{possible_by, false_or}
use Rattle.ether_filter.proofs.PossibleLemmas.{vlan_room}
use Rattle.ether_filter.proofs.PossibleTags.{id_by, outer_outcome}
use Rattle.ether_filter.proofs.PossibleInner.{is_inner, own_inner_outcome, inner_outcome}
use Rattle.ether_filter.proofs.PossibleLinks.{link_outcome, ethernet2_room}
use Rattle.ether_filter.proofs.ToldLemmas.{told_is, some_ending, open_possible}

-- the unit is a VLAN tag that is accepted
abbrev IsOwn : OpenKind → Prospect → Type 0
IsOwn kind p = (is_vlan kind ≡ true) × IsTrue p.can_be_accepted

-- a further tag can have an identifier
pub reached : (n : ℕ) (can follows : Bool) (p : Prospect) (least : ℕ) → IsTrue can ↔ ((n < 4096) × IsTrue follows)
    → IsTrue follows ↔ (IsTrue p.can_be_accepted × CanTag p least)
    → IsTrue can ↔ ((n < 4096) × IsTrue p.can_be_accepted × CanTag p least)
reached n can follows p least is some = (
  λ t. (let x = is.0 t in let y = some.0 x.1 in (x.0, y.0, y.1)),
  λ it. is.1 (it.0, some.1 (it.1, it.2)),
)

-- the fields of a unit of a kind
pub own_fits : (q : Primitive) (kind : OpenKind) (known : List ℕ) (own : Can) → is_vlan kind ≡ true
    → FitsOwn q kind known own → FitsTag q known own
own_fits q open_kinds.Vlan known own is fits = fits
own_fits q open_kinds.Ethernet2 known own is fits = absurd cc
own_fits q open_kinds.LinuxSll known own is fits = absurd cc
own_fits q open_kinds.Macsec known own is fits = absurd cc
own_fits q open_kinds.Arp known own is fits = absurd cc

pub link_fits : (q : Primitive) (kind : OpenKind) (known : List ℕ) (own : Can) → is_ethernet2 kind ≡ true
    → FitsOwn q kind known own → FitsLink q known own
link_fits q open_kinds.Ethernet2 known own is fits = fits
link_fits q open_kinds.Vlan known own is fits = absurd cc
link_fits q open_kinds.LinuxSll known own is fits = absurd cc
link_fits q open_kinds.Macsec known own is fits = absurd cc
link_fits q open_kinds.Arp known own is fits = absurd cc

-- ---- `vlan N`

pub own_id_case : (packet : Packet) (hs : List Header) (kind : OpenKind) (known : List ℕ) (room : ℕ) (p : Prospect)
    (n : ℕ) (told : Told)
    (own can : Can) (later : Bool) → IsOpenAs packet hs kind known room p → AreTold packet hs (primitives.VlanId n) told
    → told.is_match ≡ false → IsOwn kind p
    → ((r : ℕ) → 4 ≤ r → IsAmong known r (λ bytes. (vlan_of bytes).vid ≡ n) own)
    → IsTrue later ↔ ((n < 4096) × IsTrue p.can_be_accepted × CanTag p 4)
    → IsTrue can.matches ↔ (IsTrue own.matches ⊎ IsTrue later)
    → IsTrue can.fails ↔ (IsTrue own.fails ⊎ IsTrue false) → IsPossible packet (primitives.VlanId n) can
own_id_case packet hs kind known room p n told own can later o a is mine among after matches fails =
    let ids = among room (vlan_room packet hs kind known room p o mine.0 mine.1) in
    open_possible packet hs kind known room p (primitives.VlanId n) _ _ told can o
    (id_by packet hs kind known room p n o) a refl is (
      λ t. elim (matches.0 t) [
        | inl m ↦ (mine.1, inl (mine.0, ids.matches.0 m))
        | inr l ↦ (let x = after.0 l in (mine.1, inr (x.0, x.2)))
      ],
      λ it. matches.1 (elim it.1 [
        | inl x ↦ inl (ids.matches.1 x.1)
        | inr x ↦ inr (after.1 (x.0, it.0, x.1))
      ]),
    ) (
      λ t vlan accepts. elim (fails.0 t) [ inl f ↦ ids.fails.0 f | inr never ↦ absurd cc ],
      λ f. fails.1 (inl (ids.fails.1 (f mine.0 mine.1))),
    )

pub other_id_case : (packet : Packet) (hs : List Header) (kind : OpenKind) (known : List ℕ) (room : ℕ) (p : Prospect)
    (n : ℕ) (told : Told)
    (later : Bool) → IsOpenAs packet hs kind known room p → AreTold packet hs (primitives.VlanId n) told
    → told.is_match ≡ false
    → (IsOwn kind p → ⊥) → IsTrue later ↔ ((n < 4096) × IsTrue p.can_be_accepted × CanTag p 4)
    → IsPossible packet (primitives.VlanId n) (record { matches = later; fails = true })
other_id_case packet hs kind known room p n told later o a is never after =
    open_possible packet hs kind known room p (primitives.VlanId n) _ _ told
    (record { matches = later; fails = true }) o (id_by packet hs kind known room p n o) a refl is (
      λ t. (let x = after.0 t in (x.1, inr (x.0, x.2))),
      λ it. elim it.1 [ inl x ↦ absurd (never (x.0, it.0)) | inr x ↦ after.1 (x.0, it.0, x.1) ],
    ) (λ t vlan accepts. absurd (never (vlan, accepts)), λ f. refl)

-- ---- `outer vlan N`, if no header has a tag so far

pub own_outer_case : (packet : Packet) (hs : List Header) (kind : OpenKind) (known : List ℕ) (room : ℕ) (p : Prospect)
    (n : ℕ) (own : Can)
    → IsOpenAs packet hs kind known room p → list_any is_tag hs ≡ false → IsOwn kind p
    → ((r : ℕ) → 4 ≤ r → IsAmong known r (λ bytes. (vlan_of bytes).vid ≡ n) own)
    → IsPossible packet (primitives.OuterVlan n) own
own_outer_case packet hs kind known room p n own o none mine among =
    let ids = among room (vlan_room packet hs kind known room p o mine.0 mine.1) in
    possible_by packet (primitives.OuterVlan n) own (outer_outcome packet hs kind known room p n own o none (
      λ t. (mine.1, inl (mine.0, ids.matches.0 t)),
      λ it. elim it.1 [
        | inl x ↦ ids.matches.1 x.1
        | inr x ↦ absurd (let clash : true ≡ false = sym mine.0 ∙ x.0 in cc)
      ],
    ) (λ t vlan accepts. ids.fails.0 t, λ f. ids.fails.1 (f mine.0 mine.1)))

pub other_outer_case : (packet : Packet) (hs : List Header) (kind : OpenKind) (known : List ℕ) (room : ℕ)
    (p : Prospect) (n : ℕ)
    (later : Bool) → IsOpenAs packet hs kind known room p → list_any is_tag hs ≡ false → (IsOwn kind p → ⊥)
    → IsTrue later ↔ ((n < 4096) × IsTrue p.can_be_accepted × CanTag p 4)
    → IsPossible packet (primitives.OuterVlan n) (record { matches = later; fails = true })
other_outer_case packet hs kind known room p n later o none never after =
    possible_by packet (primitives.OuterVlan n) (record { matches = later; fails = true })
    (outer_outcome packet hs kind known room p n (record { matches = later; fails = true }) o none (
      λ t. (let x = after.0 t in (x.1, inr (other x.1, x.0, x.2))),
      λ it. elim it.1 [ inl x ↦ absurd (never (x.0, it.0)) | inr x ↦ after.1 (x.1, it.0, x.2) ],
    ) (λ t vlan accepts. absurd (never (vlan, accepts)), λ f. refl))
  where
    other : IsTrue p.can_be_accepted → is_vlan kind ≡ false
    other accepts = false_or (is_vlan kind) (λ vlan. never (vlan, accepts))

-- ---- `inner vlan N`

pub own_inner_case : (packet : Packet) (hs : List Header) (kind : OpenKind) (known : List ℕ) (room : ℕ) (p : Prospect)
    (n : ℕ)
    (own can : Can) (later follows : Bool) → IsOpenAs packet hs kind known room p → list_any is_tag hs ≡ true
    → IsOwn kind p
    → ((r : ℕ) → 4 ≤ r → IsAmong known r (λ bytes. (vlan_of bytes).vid ≡ n) own)
    → IsTrue later ↔ ((n < 4096) × IsTrue p.can_be_accepted × CanTag p 4)
    → IsTrue follows ↔ (IsTrue p.can_be_accepted × CanTag p 4)
    → IsTrue can.matches ↔ (IsTrue own.matches ⊎ IsTrue later) → IsTrue can.fails ↔ (IsTrue own.fails ⊎ IsTrue follows)
    → IsPossible packet (primitives.InnerVlan n) can
own_inner_case packet hs kind known room p n own can later follows o tagged mine among after some matches fails =
    let ids = among room (vlan_room packet hs kind known room p o mine.0 mine.1) in
    possible_by packet (primitives.InnerVlan n) can
    (own_inner_outcome packet hs kind known room p n can o mine.0 mine.1 (
      λ t. elim (matches.0 t) [
        | inl m ↦ inl (tagged, ids.matches.0 m)
        | inr l ↦ (let x = after.0 l in inr (x.0, x.2))
      ],
      λ it. matches.1 (elim it [
        | inl x ↦ inl (ids.matches.1 x.1)
        | inr x ↦ inr (after.1 (x.0, mine.1, x.1))
      ]),
    ) (
      λ t. elim (fails.0 t) [ inl f ↦ inr (inl (ids.fails.0 f)) | inr f ↦ inr (inr (some.0 f).1) ],
      λ it. fails.1 (elim it [
        | inl untagged ↦ absurd (let clash : true ≡ false = sym tagged ∙ untagged in cc)
        | inr (inl x) ↦ inl (ids.fails.1 x)
        | inr (inr x) ↦ inr (some.1 (mine.1, x))
      ]),
    ))

pub first_inner_case : (packet : Packet) (hs : List Header) (kind : OpenKind) (known : List ℕ) (room : ℕ)
    (p : Prospect) (n : ℕ)
    (later : Bool) → IsOpenAs packet hs kind known room p → list_any is_tag hs ≡ false → IsOwn kind p
    → IsTrue later ↔ ((n < 4096) × IsTrue p.can_be_accepted × CanTag p 4)
    → IsPossible packet (primitives.InnerVlan n) (record { matches = later; fails = true })
first_inner_case packet hs kind known room p n later o untagged mine after =
    possible_by packet (primitives.InnerVlan n) (record { matches = later; fails = true })
    (own_inner_outcome packet hs kind known room p n (record { matches = later; fails = true }) o mine.0 mine.1 (
      λ t. (let x = after.0 t in inr (x.0, x.2)),
      λ it. elim it [
        | inl x ↦ absurd (let clash : true ≡ false = sym x.0 ∙ untagged in cc)
        | inr x ↦ after.1 (x.0, mine.1, x.1)
      ],
    ) (λ t. inl untagged, λ it. refl))

inner_told : (packet : Packet) (hs : List Header) (n : ℕ) (told : Told)
    → AreTold packet hs (primitives.InnerVlan n) told → is_inner n (vlan_ids hs) ≡ told.is_match
inner_told packet hs n told a = told_is packet hs (primitives.InnerVlan n) told (some_ending packet) a refl

not_true : (b : Bool) → not b ≡ true → b ≡ false
not_true true is = absurd cc
not_true false is = refl

-- a unit that is no tag, after a tag or without one
pub other_inner_case : (packet : Packet) (hs : List Header) (kind : OpenKind) (known : List ℕ) (room : ℕ)
    (p : Prospect) (n : ℕ) (told : Told)
    (now can : Can) (later follows tagged : Bool) (least : ℕ) → IsOpenAs packet hs kind known room p
    → AreTold packet hs (primitives.InnerVlan n) told → (IsOwn kind p → ⊥)
    → ((tagged ≡ true) × (least ≡ 4)) ⊎ ((tagged ≡ false) × (least ≡ 8)) → list_any is_tag hs ≡ tagged
    → now.matches ≡ told.is_match → now.fails ≡ not told.is_match
    → IsTrue later ↔ ((n < 4096) × IsTrue p.can_be_accepted × CanTag p least)
    → IsTrue follows ↔ (IsTrue p.can_be_accepted × CanTag p 4)
    → IsTrue can.matches ↔ (IsTrue now.matches ⊎ IsTrue later) → IsTrue can.fails ↔ (IsTrue now.fails ⊎ IsTrue follows)
    → IsPossible packet (primitives.InnerVlan n) can
other_inner_case packet hs kind known room p n told now can later follows tagged least o a never which tags match_is
    fail_is after some matches fails =
    let told_now = inner_told packet hs n told a in
    possible_by packet (primitives.InnerVlan n) can (inner_outcome packet hs kind known room p n can o never (
      λ t. elim (matches.0 t) [
        | inl m ↦ inl (told_now ∙ sym match_is ∙ m)
        | inr l ↦ (let x = after.0 l in inr (x.1, x.0, enough which x.2))
      ],
      λ it. matches.1 (elim it [
        | inl m ↦ inl (match_is ∙ sym told_now ∙ m)
        | inr x ↦ inr (after.1 (x.1, x.0, least_of which x.2))
      ]),
    ) (
      λ t. elim (fails.0 t) [
        | inl f ↦ inl (told_now ∙ not_true told.is_match (sym fail_is ∙ f))
        | inr f ↦ inr (some.0 f)
      ],
      λ it. fails.1 (elim it [
        | inl f ↦ inl (fail_is ∙ ap not (sym told_now ∙ f))
        | inr f ↦ inr (some.1 f)
      ]),
    ))
  where
    enough : ((tagged ≡ true) × (least ≡ 4)) ⊎ ((tagged ≡ false) × (least ≡ 8)) → CanTag p least
        → ((list_any is_tag hs ≡ true) × CanTag p 4) ⊎ CanTag p 8
    enough (inl x) can_tag = inl (tags ∙ x.0, subst (CanTag p) x.1 can_tag)
    enough (inr x) can_tag = inr (subst (CanTag p) x.1 can_tag)

    least_of : ((tagged ≡ true) × (least ≡ 4)) ⊎ ((tagged ≡ false) × (least ≡ 8))
        → ((list_any is_tag hs ≡ true) × CanTag p 4) ⊎ CanTag p 8 → CanTag p least
    least_of (inl x) (inl can_tag) = subst (CanTag p) (sym x.1) can_tag.1
    least_of (inl x) (inr can_tag) =
        subst (CanTag p) (sym x.1) (can_tag.0, (let more = can_tag.1 in omega (arith, more)))
    least_of (inr x) (inl can_tag) = absurd (let clash : true ≡ false = sym can_tag.0 ∙ tags ∙ x.0 in cc)
    least_of (inr x) (inr can_tag) = subst (CanTag p) (sym x.1) can_tag

-- ---- an Ethernet II header

pub link_case : (packet : Packet) (hs : List Header) (kind : OpenKind) (known : List ℕ) (room : ℕ) (p : Prospect)
    (primitive : Primitive) (own : Can) → IsOpenAs packet hs kind known room p → is_of_link primitive ≡ true
    → is_of_field primitive ≡ false
    → (is_ethernet2 kind ≡ true) × IsTrue p.can_be_accepted
    → ((r : ℕ) → 14 ≤ r
    → IsAmong known r (λ bytes. IsTrue (link_test primitive (headers.Ethernet2 (ethernet2_of bytes)))) own)
    → IsPossible packet primitive own
link_case packet hs kind known room p primitive own o of free mine among =
    let is = among room (ethernet2_room packet hs kind known room p o mine.0 mine.1) in
    possible_by packet primitive own (link_outcome packet hs kind known room p primitive own o of free mine.0 mine.1
    is.matches (
      λ t. (let x = is.fails.0 t in
          (x.0, x.1, false_or (link_test primitive (headers.Ethernet2 (ethernet2_of x.0))) x.2)),
      λ (bytes, on, f). is.fails.1 (bytes, on, λ t. (let clash : false ≡ true = sym f ∙ t in cc)),
    ))

-- ---- which primitives are left

pub links_left : (q : Primitive) → (q ≡ primitives.Vlan → ⊥) → ((x : ℕ) → q ≡ primitives.VlanId x → ⊥)
    → ((x : ℕ) → q ≡ primitives.OuterVlan x → ⊥) → ((x : ℕ) → q ≡ primitives.InnerVlan x → ⊥)
    → (q ≡ primitives.Macsec → ⊥) → ((x : ℕ) → q ≡ primitives.EtherType x → ⊥) → (q ≡ primitives.Refused → ⊥)
    → (q ≡ primitives.Cut → ⊥) → ((x : ℕ) → q ≡ primitives.Less x → ⊥) → ((x : ℕ) → q ≡ primitives.Greater x → ⊥)
    → ((x : FieldTest) → q ≡ primitives.Frame x → ⊥) → ((x : FieldTest) → q ≡ primitives.Field x → ⊥)
    → is_of_link q ≡ true
links_left primitives.Vlan a b c d e f g h i j k l = absurd (a refl)
links_left (primitives.VlanId x) a b c d e f g h i j k l = absurd (b x refl)
links_left (primitives.OuterVlan x) a b c d e f g h i j k l = absurd (c x refl)
links_left (primitives.InnerVlan x) a b c d e f g h i j k l = absurd (d x refl)
links_left primitives.Macsec a b c d e f g h i j k l = absurd (e refl)
links_left (primitives.EtherType x) a b c d e f g h i j k l = absurd (f x refl)
links_left primitives.Refused a b c d e f g h i j k l = absurd (g refl)
links_left primitives.Cut a b c d e f g h i j k l = absurd (h refl)
links_left (primitives.Less x) a b c d e f g h i j k l = absurd (i x refl)
links_left (primitives.Greater x) a b c d e f g h i j k l = absurd (j x refl)
links_left (primitives.Frame x) a b c d e f g h i j k l = absurd (k x refl)
links_left (primitives.Field x) a b c d e f g h i j k l = absurd (l x refl)
links_left q a b c d e f g h i j k l = refl

pub not_refused : (q : Primitive) → is_of_link q ≡ true → is_refused q ≡ false
not_refused primitives.Refused of = absurd cc
not_refused q of = refl

pub lengths_left : (q : Primitive) → is_of_field q ≡ false
    → (q ≡ primitives.Cut) ⊎ (((x : ℕ) × (q ≡ primitives.Less x))
    ⊎ (((x : ℕ) × (q ≡ primitives.Greater x))
    ⊎ (((x : FieldTest) × (q ≡ primitives.Frame x)) ⊎ ((x : FieldTest) × (q ≡ primitives.Field x)))))
    → (is_of_lengths q ≡ true) × (is_refused q ≡ false)
lengths_left q free (inl is) = (ap is_of_lengths is, ap is_refused is)
lengths_left q free (inr (inl (x, is))) = (ap is_of_lengths is, ap is_refused is)
lengths_left q free (inr (inr (inl (x, is)))) = (ap is_of_lengths is, ap is_refused is)
lengths_left q free (inr (inr (inr (inl (x, is))))) = (ap is_of_lengths is, ap is_refused is)
lengths_left q free (inr (inr (inr (inr (x, is))))) =
    absurd (let clash : true ≡ false = sym (ap is_of_field is) ∙ free in cc)
