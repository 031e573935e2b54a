-- What one walk shows for all primitives together.
use Rattle.std.specs.Prelude.{◌≡◌, ℕ, ◌-◌, ◌^◌, List, [], ◌∷◌, Option, Some, None, Bool, true, false, nat_eq, nat_lt, nat_le, is_some, ◌||◌, if◌then◌else◌}
use Rattle.std.specs.List.{list_any}
use Rattle.etherparse.specs.Bytes.{number}
use Rattle.etherparse.specs.Kind.{Kind}
use Rattle.etherparse.specs.Kind as kinds
use Rattle.ether_peel.specs.Grammar.Expectation.{announced_by}
use Rattle.ether_peel.specs.Grammar.Endings.{refusal_of}
use Rattle.ether_filter.specs.declared.fields.Fields.{Fields}
use Rattle.ether_filter.specs.declared.fields.Fields.TheVariants as fields
use Rattle.ether_filter.specs.declared.primitive.Primitive.{Primitive}
use Rattle.ether_filter.specs.declared.primitive.Primitive.TheVariants as primitives
use Rattle.ether_filter.specs.declared.seen.Addresses.{Addresses}
use Rattle.ether_filter.specs.declared.seen.Seen.{Seen}
use Rattle.ether_filter.specs.declared.tag_marks.TagTypes.{TagTypes}
use Rattle.ether_filter.specs.Deciding.{is_of_lengths, is_of_field}
use Rattle.ether_filter.specs.FieldTests.{field_holds, frame_holds}
use Rattle.ether_filter.specs.Fields.{shown_by_link}
use Rattle.ether_filter.specs.Primitives.{is_tag, is_sec_tag, is_from, is_to, is_to_group, vlan_ids, ether_types, Walked, frame_in}
use Rattle.ether_filter.specs.TagMarks.{is_some_number, has_bit, has_tag_type, SetsBit, SetsType}

-- ---- before the walk

abbrev pub nothing : Seen
nothing = record {
  is_refused = false;
  has_sec_tag = false;
  has_arp = false;
  has_more = false;
  types = record { customer = false; service = false; double = false };
  link = None;
  last = None;
  outer = None;
  inner = None;
}

-- ---- after a further header, with these fields

abbrev pub link_after : Option Addresses → Fields → Option Addresses
link_after link (fields.Link destination source) = Some (record { destination = destination; source = source })
link_after link _ = link

abbrev pub sec_tag_after : Bool → Fields → Bool
sec_tag_after found fields.SecTag = true
sec_tag_after found _ = found

abbrev pub arp_after : Bool → Fields → Bool
arp_after found fields.Arp = true
arp_after found _ = found

-- the identifier, if it is a VLAN tag
abbrev pub tag_id : Fields → Option ℕ
tag_id (fields.Tag id) = Some id
tag_id _ = None

-- the identifier of the first tag
abbrev pub outer_after : (outer tag : Option ℕ) → Option ℕ
outer_after None tag = tag
outer_after (Some first) tag = Some first

-- .. of the last one, if there are two or more
abbrev pub inner_after : (outer inner tag : Option ℕ) → Option ℕ
inner_after (Some first) inner (Some tag) = Some tag
inner_after outer inner tag = inner

-- whether there are three or more
abbrev pub more_after : Bool → (outer inner tag : Option ℕ) → Bool
more_after more (Some first) inner (Some tag) = more || is_some inner
more_after more outer inner tag = more

-- the ether types that announce tags, and this one if it announces this header
abbrev pub AreSet : TagTypes → Fields → Option ℕ → TagTypes → Type 0
AreSet old (fields.Tag id) announced new = SetsType announced old new
AreSet old _ announced new = new ≡ old

pub record IsTaken (s : Seen) (f : Fields) (announced : Option ℕ) (t : Seen) : Type 0 where
  pub refused : t.is_refused ≡ s.is_refused
  pub link : t.link ≡ link_after s.link f
  pub sec_tag : t.has_sec_tag ≡ sec_tag_after s.has_sec_tag f
  pub arp : t.has_arp ≡ arp_after s.has_arp f
  pub types : AreSet s.types f announced t.types
  pub outer : t.outer ≡ outer_after s.outer (tag_id f)
  pub inner : t.inner ≡ inner_after s.outer s.inner (tag_id f)
  pub more : t.has_more ≡ more_after s.has_more s.outer s.inner (tag_id f)

-- the identifiers that have a bit, and this one
abbrev pub AreMarked : List ℕ → Option ℕ → List ℕ → Type 0
AreMarked old None new = new ≡ old
AreMarked old (Some id) new = SetsBit id old new

-- ---- of a primitive

abbrev pub seen_in_link : Primitive → Option Addresses → Bool
seen_in_link primitive None = false
seen_in_link primitive (Some link) = shown_by_link primitive (number link.destination) (number link.source)

-- whether an ether type is announced before a header, by the kind of the header
abbrev pub announced_before : Option Kind → (tag sec_tag arp : Bool) → Bool
announced_before (Some kinds.Vlan) tag sec_tag arp = tag
announced_before (Some kinds.Macsec) tag sec_tag arp = sec_tag
announced_before (Some kinds.Arp) tag sec_tag arp = arp
announced_before _ tag sec_tag arp = false

-- .. of a packet
abbrev pub was_announced : ℕ → Seen → Bool
was_announced n s = announced_before (announced_by n) (has_tag_type s.types n) s.has_sec_tag s.has_arp

abbrev pub is_announced : ℕ → Seen → Bool
is_announced n s = is_some_number n s.last || was_announced n s

-- whether a VLAN tag has this identifier, where those of three tags or more have their bits
abbrev pub has_vlan_id : ℕ → Bool → (outer inner : Option ℕ) → List ℕ → Bool
has_vlan_id n more outer None ids = is_some_number n outer
has_vlan_id n true outer (Some last) ids = has_bit ids n
has_vlan_id n false outer (Some last) ids = is_some_number n outer || nat_eq n last

-- whether a primitive about headers matches
abbrev pub seen : Primitive → Seen → List ℕ → Bool
seen primitives.Vlan s ids = is_some s.outer
seen (primitives.VlanId n) s ids = has_vlan_id n s.has_more s.outer s.inner ids
seen (primitives.OuterVlan n) s ids = is_some_number n s.outer
seen (primitives.InnerVlan n) s ids = is_some_number n s.inner
seen primitives.Macsec s ids = s.has_sec_tag
seen (primitives.EtherType n) s ids = is_announced n s
seen primitives.Refused s ids = s.is_refused
seen primitives.Cut s ids = false
seen (primitives.Less n) s ids = false
seen (primitives.Greater n) s ids = false
seen (primitives.Field t) s ids = false
seen (primitives.Frame t) s ids = false
seen primitive s ids = seen_in_link primitive s.link

-- .. if there is a primitive, and it asks about headers and tests no field
abbrev pub seen_truth : Option Primitive → Seen → List ℕ → Option Bool
seen_truth None s ids = None
seen_truth (Some primitive) s ids =
    if is_of_lengths primitive || is_of_field primitive then None else Some (seen primitive s ids)

-- ---- of a packet

abbrev pub first : List ℕ → Option ℕ
first [] = None
first (n ∷ ns) = Some n

abbrev pub last_from : ℕ → List ℕ → ℕ
last_from n [] = n
last_from n (m ∷ ms) = last_from m ms

-- the last of two or more
abbrev pub last_other : List ℕ → Option ℕ
last_other (n ∷ m ∷ ms) = Some (last_from m ms)
last_other _ = None

-- whether a primitive matches
abbrev pub matching : Walked → Primitive → Bool
matching w primitives.Vlan = list_any is_tag w.headers
matching w (primitives.VlanId n) = list_any (nat_eq n) (vlan_ids w.headers)
matching w (primitives.OuterVlan n) = is_some_number n (first (vlan_ids w.headers))
matching w (primitives.InnerVlan n) = is_some_number n (last_other (vlan_ids w.headers))
matching w primitives.Macsec = list_any is_sec_tag w.headers
matching w (primitives.EtherType n) = list_any (nat_eq n) (ether_types w.start w.headers)
matching w (primitives.Source a) = list_any (is_from a) w.headers
matching w (primitives.Destination a) = list_any (is_to a) w.headers
matching w (primitives.Host a) = list_any (λ h. is_from a h || is_to a h) w.headers
matching w primitives.Broadcast = list_any (is_to (2 ^ 48 - 1)) w.headers
matching w primitives.Multicast = list_any is_to_group w.headers
matching w primitives.Refused = is_some (refusal_of w.ending)
matching w primitives.Cut = nat_lt w.captured w.original
matching w (primitives.Less n) = nat_le w.original n
matching w (primitives.Greater n) = nat_le n w.original
matching w (primitives.Field t) = field_holds t w.headers
matching w (primitives.Frame t) = frame_holds t (frame_in w)

-- .. if there is one, and it asks about the two lengths
abbrev pub length_truth : Option Primitive → (captured original : ℕ) → Option Bool
length_truth (Some primitives.Cut) captured original = Some (nat_lt captured original)
length_truth (Some (primitives.Less n)) captured original = Some (nat_le original n)
length_truth (Some (primitives.Greater n)) captured original = Some (nat_le n original)
length_truth _ captured original = None

-- what was seen matches each primitive about headers that tests no field exactly if the packet does
abbrev pub Shows : Walked → Seen → (ids : List ℕ) → Type 0
Shows w s ids =
    (p : Primitive) → is_of_lengths p ≡ false → is_of_field p ≡ false → seen p s ids ≡ matching w p
