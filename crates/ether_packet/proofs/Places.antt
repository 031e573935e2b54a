-- The headers at the places that a packet keeps.
use Rattle.std.proofs.Common.{◌≡◌, ℕ, ◌≤◌, List, [], ◌∷◌, ◌++◌, length, refl, ap, subst, ◌∙◌, arith, append_assoc, Bool, true, false, rules}
use Rattle.std.specs.Prelude.{map, slice_get, Option, Some, None, get_or, if◌then◌else◌}
use Rattle.std.specs.List.{All, filter, filter_map, cons_option}
use Rattle.std.proofs.lemmas.List.{append-nil, map-append}
use Rattle.std.proofs.lemmas.List.Elements.{filter-append, filter_map-append, All-append, All-get_or, All-from_get_or}
use Rattle.std.proofs.lemmas.Option.{slice_get-map, slice_get_cases, slice_get_within, get_or_from_slice_get}
use Rattle.etherparse.specs.Ethernet2.{Ethernet2Value}
use Rattle.etherparse.specs.Kind.{Kind}
use Rattle.etherparse.specs.Kind as kinds
use Rattle.etherparse.specs.Header.{kind_of}
use Rattle.etherparse.specs.Header as headers
use Rattle.ether_peel.specs.Grammar.Expectation.{is_extension}
use Rattle.ether_packet.specs.declared.ext_places.FrameWindow.{FrameWindow}
use Rattle.ether_packet.specs.declared.ext_places.ExtKind.{ExtKind}
use Rattle.ether_packet.specs.declared.ext_places.ExtKind.TheVariants as tags
use Rattle.ether_packet.specs.declared.ext_places.ExtPlace.{ExtPlace}
use Rattle.ether_packet.specs.declared.packet_ext.PacketExt.{PacketExt}
use Rattle.ether_packet.specs.declared.packet_units.LinkKind.{LinkKind}
use Rattle.ether_packet.specs.declared.packet_units.LinkKind.TheVariants as places
use Rattle.ether_packet.specs.PacketUnit.{PacketUnit}
use Rattle.ether_packet.specs.Views.{link_of, exts_of, arp_in, arp_view, arp_start, arp_offset, ViewsExt, ViewsExtIf}
use Rattle.ether_packet.specs.Places.{unit_at, link_unit, link_units, ext_kind, ext_unit, arp_units, units_at, Reads, IsReadable, IsReadableLink, frame_link}

-- ---- among them

abbrev pub is_ext : PacketUnit → Bool
is_ext u = is_extension u.kind

abbrev pub arp_of_unit : PacketUnit → Option (List ℕ)
arp_of_unit u = arp_in u.kind u.bytes

link_is : (frame : List ℕ) (link : LinkKind)
    → (filter is_ext (link_units frame link) ≡ []) × (filter_map arp_of_unit (link_units frame link) ≡ [])
link_is frame places.Missing = (refl, refl)
link_is frame link = (refl, refl)

keep_first : (b : Bool) (u : PacketUnit) (us : List PacketUnit) → is_ext u ≡ true
    → filter is_ext (u ∷ us) ≡ u ∷ filter is_ext us
keep_first b u us e = rw e refl

exts_are : (xs : List ExtPlace)
    → (filter is_ext (map ext_unit xs) ≡ map ext_unit xs) × (filter_map arp_of_unit (map ext_unit xs) ≡ [])
exts_are [] = (refl, refl)
exts_are (x ∷ xs) =
    let u = ext_unit x in
    let more = exts_are xs in search (rules, keep_first)

arp_has : (arp : Option FrameWindow) → filter is_ext (arp_units arp) ≡ []
arp_has None = refl
arp_has (Some p) = refl

-- the extensions
pub exts_at : (frame : List ℕ) (link : LinkKind) (xs : List ExtPlace) (arp : Option FrameWindow)
    → exts_of (units_at frame link xs arp) ≡ map ext_unit xs
exts_at frame link xs arp =
    filter-append is_ext (link_units frame link ++ map ext_unit xs) (arp_units arp)
    ∙ ap (λ (l : List PacketUnit). l ++ filter is_ext (arp_units arp))
    (filter-append is_ext (link_units frame link) (map ext_unit xs))
    ∙ (λ i. (link_is frame link).0 i ++ (exts_are xs).0 i ++ arp_has arp i)
    ∙ append-nil _

-- the ARP packet
abbrev pub packet_at : Option FrameWindow → Option (List ℕ)
packet_at None = None
packet_at (Some p) = arp_in kinds.Arp p.bytes.now

only_arp : (arp : Option FrameWindow) → slice_get (filter_map arp_of_unit (arp_units arp)) 0 ≡ packet_at arp
only_arp None = refl
only_arp (Some p) = refl

-- what is found of the units is what is found of the ARP packet, if nothing is of the others
found_last : {A : Type 0} (f : PacketUnit → Option A) (frame : List ℕ) (link : LinkKind) (xs : List ExtPlace)
    (arp : Option FrameWindow) → filter_map f (link_units frame link) ≡ [] → filter_map f (map ext_unit xs) ≡ []
    → filter_map f (units_at frame link xs arp) ≡ filter_map f (arp_units arp)
found_last f frame link xs arp no_link no_ext = search (rules, filter_map-append, no_link)

pub arp_at : (frame : List ℕ) (link : LinkKind) (xs : List ExtPlace) (arp : Option FrameWindow)
    → arp_view (units_at frame link xs arp) ≡ packet_at arp
arp_at frame link xs arp =
    ap (λ l. slice_get l 0) (found_last arp_of_unit frame link xs arp (link_is frame link).1 (exts_are xs).1)
    ∙ only_arp arp

-- .. and where it starts
abbrev start_of_unit : PacketUnit → Option ℕ
start_of_unit u = arp_start u.kind u.offset

link_starts : (frame : List ℕ) (link : LinkKind) → filter_map start_of_unit (link_units frame link) ≡ []
link_starts frame places.Missing = refl
link_starts frame link = refl

ext_starts : (kind : ExtKind) (at : ℕ) → arp_start (ext_kind kind) at ≡ None
ext_starts tags.Vlan at = refl
ext_starts tags.Macsec at = refl

exts_start : (xs : List ExtPlace) → filter_map start_of_unit (map ext_unit xs) ≡ []
exts_start [] = refl
exts_start (x ∷ xs) =
    ap (λ (a : Option ℕ). cons_option a (filter_map start_of_unit (map ext_unit xs))) (ext_starts x.kind x.place.start)
    ∙ exts_start xs

abbrev pub start_at : Option FrameWindow → Option ℕ
start_at None = None
start_at (Some p) = Some p.start

only_start : (arp : Option FrameWindow) → slice_get (filter_map start_of_unit (arp_units arp)) 0 ≡ start_at arp
only_start None = refl
only_start (Some p) = refl

pub arp_offset_at : (frame : List ℕ) (link : LinkKind) (xs : List ExtPlace) (arp : Option FrameWindow)
    → arp_offset (units_at frame link xs arp) ≡ start_at arp
arp_offset_at frame link xs arp = search (rules, found_last, link_starts, exts_start, only_start)

pub no_packet : (arp : Option FrameWindow) → packet_at arp ≡ None → arp ≡ None
no_packet None e = refl
no_packet (Some p) e = absurd cc

-- the link's header
later_link : (kind : ExtKind) (at : ℕ) (bytes : List ℕ) (us : List PacketUnit)
    → link_of (record { kind = ext_kind kind; offset = at; bytes = bytes } ∷ us) ≡ None
later_link tags.Vlan at bytes us = refl
later_link tags.Macsec at bytes us = refl

pub no_link : (frame : List ℕ) (xs : List ExtPlace) (arp : Option FrameWindow)
    → link_of (units_at frame places.Missing xs arp) ≡ None
no_link frame [] None = refl
no_link frame [] (Some p) = refl
no_link frame (x ∷ xs) arp = later_link x.kind x.place.start x.place.bytes.now (map ext_unit xs ++ arp_units arp)

-- ---- one header more

-- nothing was read
pub nothing : (frame : List ℕ) (link : LinkKind) (xs : List ExtPlace) (arp : Option FrameWindow)
    → units_at frame link xs arp ≡ [] → (link ≡ places.Missing) × (xs ≡ []) × (arp ≡ None)
nothing frame places.Missing [] None e = (refl, refl, refl)
nothing frame _ _ _ e = absurd cc

first_is : (frame : List ℕ) (kind : Kind) (p : FrameWindow) → p.start ≡ 0 → p.bytes.now ≡ frame
    → unit_at kind p ≡ link_unit frame kind
first_is frame kind p start whole = λ i. record { kind = kind; offset = start i; bytes = whole i }

-- the link's header comes first
pub with_link : (frame : List ℕ) (old new : LinkKind) (xs : List ExtPlace) (arp : Option FrameWindow) (kind : Kind)
    (p : FrameWindow)
    → units_at frame old xs arp ≡ [] → p.start ≡ 0 → p.bytes.now ≡ frame
    → link_units frame new ≡ link_unit frame kind ∷ []
    → units_at frame new xs arp ≡ units_at frame old xs arp ++ unit_at kind p ∷ []
with_link frame old new xs arp kind p none start whole is = search rules

pub readable_whole : (frame : List ℕ) (kind : Kind) (p : FrameWindow) → p.bytes.now ≡ frame → IsReadable kind p
    → Reads frame kind
readable_whole frame kind p whole r = subst (λ (l : List ℕ). Reads l kind) whole r

pub readable_frame : (frame : List ℕ) (b : Bool) (e : Ethernet2Value)
    → Reads frame (kind_of (if b then headers.Ethernet2Fcs e else headers.Ethernet2 e))
    → IsReadableLink frame (frame_link b)
readable_frame frame true e r = r
readable_frame frame false e r = r

-- an extension after the others
pub with_ext : (frame : List ℕ) (link : LinkKind) (xs : List ExtPlace) (arp : Option FrameWindow) (x : ExtPlace)
    → arp ≡ None → units_at frame link (xs ++ x ∷ []) arp ≡ units_at frame link xs arp ++ ext_unit x ∷ []
with_ext frame link xs arp x none = search (rules, append-nil, map-append, append_assoc)

-- an ARP packet after all
pub with_arp : (frame : List ℕ) (link : LinkKind) (xs : List ExtPlace) (arp : Option FrameWindow) (p : FrameWindow)
    → arp ≡ None → units_at frame link xs (Some p) ≡ units_at frame link xs arp ++ unit_at kinds.Arp p ∷ []
with_arp frame link xs arp p none = search rules

pub all_with : {X : Type 0} (P : X → Type 0) (xs : List X) (x : X) → All P xs → P x → All P (xs ++ x ∷ [])
all_with P xs x all p =
    let one =
    All-from_get_or P (x ∷ []) x
    (λ i lt. let first : 0 ≡ i = omega (arith, lt) in subst (λ (k : ℕ). P (get_or (x ∷ []) k x)) first p) in
    All-append P xs (x ∷ []) all one

-- ---- the extension at an index

-- there is none past the end alone
pub missing_past : {X : Type 0} (xs : List X) (i : ℕ) → slice_get xs i ≡ None → length xs ≤ i
missing_past xs i none = search (rules, slice_get_cases)

pub all_get : {X : Type 0} (P : X → Type 0) (xs : List X) (i : ℕ) (x : X) → All P xs → slice_get xs i ≡ Some x → P x
all_get P xs i x all e =
    subst P (get_or_from_slice_get xs i x x e) (All-get_or P xs i x (slice_get_within xs i x e) all)

pub ext_got : (frame : List ℕ) (link : LinkKind) (xs : List ExtPlace) (arp : Option FrameWindow) (i : ℕ) (x : ExtPlace)
    (ext : PacketExt)
    → slice_get xs i ≡ Some x → ViewsExt (ext_unit x) ext
    → ViewsExtIf (slice_get (exts_of (units_at frame link xs arp)) i) (Some ext)
ext_got frame link xs arp i x ext got views = search (rules, exts_at, slice_get-map)

pub ext_missing : (frame : List ℕ) (link : LinkKind) (xs : List ExtPlace) (arp : Option FrameWindow) (i : ℕ)
    → slice_get xs i ≡ None → ViewsExtIf (slice_get (exts_of (units_at frame link xs arp)) i) None
ext_missing frame link xs arp i none = search (rules, exts_at, slice_get-map)
