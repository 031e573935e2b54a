-- The fill of a unit completes the list, and no fewer bytes do.
use Rattle.std.proofs.Common.{◌≡◌, ℕ, zero, suc, ◌+◌, ◌*◌, ◌<◌, ◌≤◌, List, [], ◌∷◌, ◌++◌, length, refl, sym, ap, subst, ◌∙◌, arith, inl, inr, Bool, false}
use Rattle.std.specs.Prelude.{slice_range, slice_index, Option, Some, None, unwrap_or}
use Rattle.std.proofs.lemmas.Bool.{cases_lt}
use Rattle.std.proofs.lemmas.List.{length-append, get_or_append_left, get_or_past}
use Rattle.etherparse.specs.Types.LenSource.{LenSource}
use Rattle.etherparse.specs.Types.Layer.{Layer}
use Rattle.etherparse.specs.Bytes.{IsBytes, number}
use Rattle.etherparse.specs.Ethernet2.{ethernet2_of}
use Rattle.etherparse.specs.Vlan.{vlan_of}
use Rattle.etherparse.specs.Macsec.{SecTagFront, BeginsSecTag, sec_tag_len, known_payload_len, payload_type_for, sec_tag_front_of, sec_tag_with}
use Rattle.etherparse.specs.Arp.{ArpFront, BeginsArp, arp_len, arp_front_in, arp_front_of, arp_of, BeginsWithArp}
use Rattle.etherparse.specs.Kind.{Kind}
use Rattle.etherparse.specs.Kind as kinds
use Rattle.etherparse.specs.Header.{Header, kind_of, unit_len, Means}
use Rattle.etherparse.specs.Header as headers
use Rattle.etherparse.specs.Refusal.{Refusal, Length, IsTooShort, Refuses, Accepts}
use Rattle.etherparse.specs.Refusal as rows
use Rattle.etherparse.proofs.Numbers.{IsBytes-append}
use Rattle.etherparse.proofs.SubLists.{IsBytes-part}
use Rattle.etherparse.proofs.Rows.{one_sec_tag_front, one_arp_front, accepts_ethernet2, accepts_vlan, accepts_macsec}
use Rattle.etherparse.proofs.Means.{tag_begins, tag_means, arp_begins, unit_fits}
use Rattle.etherparse.proofs.Ethernet2Fields.{ethernet2_means}
use Rattle.etherparse.proofs.VlanFields.{vlan_means}
use Rattle.etherparse.proofs.Reading.{arp_begins_read, arp_means, arp_accepted}
use Rattle.ether_peel.specs.Grammar.Window.{Window, within, payload}
use Rattle.ether_peel.specs.Grammar.Expectation.{Expectation, announced_by, announced_next, announced, permitted, after_payload, next_after, after, has_fcs}
use Rattle.ether_peel.specs.Grammar.Stack.{Ending, Accepted, Fault, last_window, last_expected, IsUnit, Stack, whole, Walk}
use Rattle.ether_peel.specs.Grammar.Endings.{refusal_of, OpenRefusal}
use Rattle.ether_peel.specs.Grammar.Completion.{CanBeCompleted, type_place, Plan, fill, Completes}
use Rattle.ether_peel.specs.Grammar.Completion as plans
use Rattle.ether_peel.proofs.Grammar.LongerBytes.{sec_tag_longer}
use Rattle.ether_peel.proofs.Grammar.Carrying.{Leads, leads, led, beyond, carry}
use Rattle.ether_peel.proofs.Grammar.Extensions.{no_fcs, no_fcs_start, carries_whole, walk_open_to_end}
use Rattle.ether_peel.proofs.Grammar.Cuts.{common}
use Rattle.ether_peel.proofs.Grammar.Fill.{length-fill, IsBytes-fill, same_byte, type_announces_nothing}

-- ---- the unit that is begun

-- the bytes that are there of a unit of a kind, the number that makes it whole, and the place of its ether type
data Begun (b : List ℕ) : Kind → ℕ → Option ℕ → Type 0 where
  ethernet2 : length b < 14 → Begun b kinds.Ethernet2 14 (Some 12)
  vlan : length b < 4 → Begun b kinds.Vlan 4 (Some 2)
  macsec : (t : SecTagFront) → 6 ≤ length b → BeginsSecTag b t → t.version ≡ 0 → (IsTooShort t → ⊥)
      → length b < sec_tag_len t
      → Begun b kinds.Macsec (sec_tag_len t + unwrap_or (known_payload_len t) 0)
      (type_place t.encrypted t.changed t.sci_present)
  arp : length b < 8 + 2 * slice_index b 4 + 2 * slice_index b 5
      → Begun b kinds.Arp (8 + 2 * slice_index b 4 + 2 * slice_index b 5) None

-- the two sizes are the fifth and the sixth byte
arp_sizes : (bytes : List ℕ) (a : ArpFront) → IsBytes bytes → 8 ≤ length bytes → BeginsArp bytes a
    → arp_len a ≡ 8 + 2 * slice_index bytes 4 + 2 * slice_index bytes 5
arp_sizes bytes a ok le begins =
    ap arp_len (one_arp_front bytes a (arp_front_in bytes) begins (arp_begins_read bytes ok le))

begun : (bound source : LenSource) (b : List ℕ) (kind : Kind) (required len : ℕ) (layer : Layer) (total : ℕ)
    (place : Option ℕ)
    → IsBytes b → (kind ≡ kinds.Ethernet2Fcs → ⊥)
    → Refuses bound b kind (Length required len source layer) → CanBeCompleted layer len → Plan b layer total place
    → Begun b kind total place
begun bound source b kinds.Ethernet2 required len layer total place ok free (rows.ethernet2 lt) can
    (plans.Plan.ethernet2) =
    ethernet2 lt
begun bound source b kinds.Ethernet2Fcs required len layer total place ok free (rows.ethernet2_fcs lt) can p =
    absurd (free refl)
begun bound source b kinds.LinuxSll required len layer total place ok free (rows.linux_sll lt) can p = elim can [ ]
begun bound source b kinds.Vlan required len layer total place ok free (rows.vlan lt) can (plans.Plan.vlan) = vlan lt
begun bound source b kinds.Macsec required len layer total place ok free (rows.macsec lt)
    (plans.CanBeCompleted.macsec n six) p =
    absurd (omega arith)
begun bound source b kinds.Macsec required len layer total place ok free (rows.macsec_header t six begins v s lt) can
    (plans.Plan.macsec u starts) =
    let same = one_sec_tag_front b u t starts begins in
    let n = ap sec_tag_len same in
    macsec u six starts (ap (λ (x : SecTagFront). x.version) same ∙ v) (λ k. s (subst IsTooShort same k)) (omega arith)
begun bound source b kinds.Macsec required len layer total place ok free (rows.macsec_packet t n begins v e le lt) can
    p =
    elim can [ ]
begun bound source b kinds.Arp required len layer total place ok free (rows.arp lt) can (plans.Plan.arp) =
    arp (omega arith)
begun bound source b kinds.Arp required len layer total place ok free (rows.arp_addresses a le begins lt) can
    (plans.Plan.arp) =
    arp (let e = arp_sizes b a ok le begins in omega arith)

begun_short : (b : List ℕ) (kind : Kind) (total : ℕ) (place : Option ℕ) → Begun b kind total place → length b < total
begun_short b kind total place (ethernet2 lt) = lt
begun_short b kind total place (vlan lt) = lt
begun_short b kind total place (macsec t six begins v s lt) = omega arith
begun_short b kind total place (arp lt) = lt

-- ---- no fewer bytes

more_counts : (b more : List ℕ) (i : ℕ) → slice_index b i ≤ slice_index (b ++ more) i
more_counts b more i =
    elim (cases_lt i (length b)) [
      | inl lt ↦ let e = get_or_append_left b more 0 i lt in omega arith
      | inr le ↦ let e = get_or_past b i 0 le in omega arith
    ]

-- the unit that is there once there are enough bytes has no fewer
unit_least : (b more : List ℕ) (kind : Kind) (total : ℕ) (place : Option ℕ) → IsBytes (b ++ more)
    → Begun b kind total place → (h : Header) → Means (b ++ more) h → kind ≡ kind_of h → total ≤ unit_len h
unit_least b more kind total place ok (ethernet2 lt) (headers.Ethernet2 e) m k = omega arith
unit_least b more kind total place ok (vlan lt) (headers.Vlan v) m k = omega arith
unit_least b more kind total place ok (macsec t six begins v s lt) (headers.Macsec u) m k =
    let a = tag_begins (b ++ more) u m in
    let same =
    one_sec_tag_front (b ++ more) t (sec_tag_front_of a.0 a.1 u) (sec_tag_longer b more t (omega arith) begins)
    a.2 in
    let e = ap (λ (x : SecTagFront). sec_tag_len x + unwrap_or (known_payload_len x) 0) same in
    omega arith
unit_least b more kind total place ok (arp lt) (headers.Arp u) m k =
    let whole = m.whole in
    let e = arp_sizes (b ++ more) (arp_front_of u) ok (omega arith) (arp_begins (b ++ more) u m) in
    let h = more_counts b more 4 in
    let p = more_counts b more 5 in
    omega arith
unit_least b more kind total place ok _ _ m k = absurd cc

-- ---- the whole unit

-- a list is a unit of a kind that announces nothing
record IsLast (bound : LenSource) (bytes : List ℕ) (kind : Kind) : Type 0 where
  pub unit : Header
  pub kind_is : kind_of unit ≡ kind
  pub accepted : Accepts bound bytes kind
  pub means : Means bytes unit
  pub announces : announced_next (next_after unit) ≡ None

-- if the ether type of a tag announces nothing, or it has none, the tag announces nothing
tag_announces : (e c n : ℕ) → (e ≡ 0 → c ≡ 0 → announced_by n ≡ None)
    → announced_next (after_payload (payload_type_for e c n)) ≡ None
tag_announces zero zero n k = k refl refl
tag_announces zero (suc c) n k = refl
tag_announces (suc e) zero n k = refl
tag_announces (suc e) (suc c) n k = refl

place_is : (e c s : ℕ) → e ≡ 0 → c ≡ 0 → type_place e c s ≡ Some (6 + 8 * s)
place_is e c s encrypted changed = ap (λ (k : ℕ). type_place k c s) encrypted ∙ ap (λ (k : ℕ). type_place 0 k s) changed

two_more : (t : SecTagFront) → t.encrypted ≡ 0 → t.changed ≡ 0 → sec_tag_len t ≡ 6 + 8 * t.sci_present + 2
two_more t encrypted changed = rw (encrypted, changed) refl

-- the fill makes it whole
filled : (bound : LenSource) (b : List ℕ) (kind : Kind) (total : ℕ) (place : Option ℕ)
    → IsBytes (b ++ fill b total place) → length (b ++ fill b total place) ≡ total → Begun b kind total place
    → IsLast bound (b ++ fill b total place) kind
filled bound b kind total place ok len (ethernet2 lt) =
    let l = b ++ fill b 14 (Some 12) in
    record {
      unit = headers.Ethernet2 (ethernet2_of l);
      kind_is = refl;
      accepted = accepts_ethernet2 bound l (omega arith);
      means = ethernet2_means l ok (omega arith);
      announces = type_announces_nothing b 14 12 lt (omega arith) lt;
    }
filled bound b kind total place ok len (vlan lt) =
    let l = b ++ fill b 4 (Some 2) in
    record {
      unit = headers.Vlan (vlan_of l);
      kind_is = refl;
      accepted = accepts_vlan bound l (omega arith);
      means = vlan_means l ok (omega arith);
      announces = type_announces_nothing b 4 2 lt (omega arith) lt;
    }
filled bound b kind total place ok len (macsec t six begins v s lt) =
    let n = sec_tag_len t + unwrap_or (known_payload_len t) 0 in
    let from = 6 + 8 * t.sci_present in
    let f = fill b n (type_place t.encrypted t.changed t.sci_present) in
    let front = sec_tag_longer b f t (omega arith) begins in
    let none : t.encrypted ≡ 0 → t.changed ≡ 0 → announced_by (number (slice_range (b ++ f) from (from + 2))) ≡ None =
    λ e c.
    let two = two_more t e c in
    ap (λ (o : Option ℕ). announced_by (number (slice_range (b ++ fill b n o) from (from + 2))))
    (place_is t.encrypted t.changed t.sci_present e c)
    ∙ type_announces_nothing b n from (omega arith) (omega arith) (omega arith) in
    record {
      unit = headers.Macsec (sec_tag_with t (b ++ f));
      kind_is = refl;
      accepted =
          accepts_macsec bound (b ++ f) t (omega arith) front v s (omega arith)
          (λ p e. let k : unwrap_or (known_payload_len t) 0 ≡ p =
          ap (λ (o : Option ℕ). unwrap_or o 0) e in omega arith);
      means = tag_means (b ++ f) t front (omega arith);
      announces = tag_announces t.encrypted t.changed (number (slice_range (b ++ f) from (from + 2))) none;
    }
filled bound b kind total place ok len (arp lt) =
    let n = 8 + 2 * slice_index b 4 + 2 * slice_index b 5 in
    let l = b ++ fill b n None in
    let h : slice_index l 4 ≡ slice_index b 4 = same_byte b n 4 in
    let p : slice_index l 5 ≡ slice_index b 5 = same_byte b n 5 in
    let whole : arp_len (arp_front_in l) ≤ length l = omega arith in
    let is : BeginsWithArp l = record { front = omega arith; whole = whole } in
    record {
      unit = headers.Arp (arp_of l);
      kind_is = refl;
      accepted = arp_accepted bound l ok is;
      means = arp_means l ok is;
      announces = refl;
    }

-- ---- the walk

-- the row with which it is refused
pub refused_row : (list : List ℕ) (e : Ending) (r : Refusal) → Stack list (last_expected e) (last_window e) [] e
    → refusal_of e ≡ Some r
    → (kind : Kind) × (announced (last_expected e) ≡ Some kind)
    × Refuses (last_window e).bound (within list (last_window e)) kind r
refused_row list (Accepted v y) r s k = absurd cc
refused_row list (Fault v y q) r s k =
    let e : q ≡ r = cc in (s.2, s.3, subst (Refuses v.bound (within list v) s.2) e s.4)

-- what is begun at its end
record EndsBegun (start : Expectation) (list : List ℕ) (hs : List Header) (e : Ending) (total : ℕ)
    (place : Option ℕ) : Type 0 where
  pub no_fcs : has_fcs start ≡ false
  pub leads : Leads list start (whole start list) hs (last_expected e) (last_window e)
  pub kind : Kind
  pub announced : announced (last_expected e) ≡ Some kind
  pub begun : Begun (within list (last_window e)) kind total place

ends_begun : (start : Expectation) (list : List ℕ) (hs : List Header) (e : Ending) (o : OpenRefusal e) (total : ℕ)
    (place : Option ℕ)
    → IsBytes list → Walk start list hs e → CanBeCompleted o.layer o.len
    → Plan (within list (last_window e)) o.layer total place → EndsBegun start list hs e total place
ends_begun start list hs e o total place ok s can plan =
    let l = leads list start (whole start list) hs e s in
    let v = last_window e in
    let free_start = no_fcs start list hs e s o in
    let row = refused_row list e (Length o.required o.len o.source o.layer) l.1 o.refused in
    let free = (walk_open_to_end start list hs e free_start s).free in
    record {
      no_fcs = free_start;
      leads = l.0;
      kind = row.0;
      announced = row.1;
      begun =
          begun v.bound o.source (within list v) row.0 o.required o.len o.layer total place
          (IsBytes-part v.start v.finish list ok) (λ k. free (row.1 ∙ ap Some k)) row.2 can plan;
    }

-- ---- the list followed by the fill

record WalksOn (start : Expectation) (list bytes : List ℕ) (hs : List Header) : Type 0 where
  pub unit : Header
  pub ending : Ending
  pub walk : Walk start (list ++ bytes) (hs ++ unit ∷ []) ending
  pub accepted : refusal_of ending ≡ None

walks_on : (start : Expectation) (list : List ℕ) (hs : List Header) (e : Ending) (total : ℕ) (place : Option ℕ)
    → IsBytes list → (last_window e).closed ≡ false → EndsBegun start list hs e total place
    → WalksOn start list (fill (within list (last_window e)) total place) hs
walks_on start list hs e total place ok is_open b =
    let v = last_window e in
    let y = last_expected e in
    let f = fill (within list v) total place in
    let other = list ++ f in
    let part = IsBytes-part v.start v.finish list ok in
    let len : length (within list v ++ f) ≡ total =
    length-append (within list v) f
    ∙ length-fill (within list v) total place (begun_short (within list v) b.kind total place b.begun) in
    let c =
    carry list other f start (whole start list) (whole start other) hs y v (carries_whole start list f b.no_fcs)
    (inr (no_fcs_start start b.no_fcs)) b.leads in
    let last =
    filled c.last.bound (within list v) b.kind total place
    (IsBytes-append (within list v) f part (IsBytes-fill (within list v) total place)) len b.begun in
    let there : within other c.last ≡ within list v ++ f =
    c.carries.bytes ∙ ap (λ (m : Bool). within list v ++ beyond m f) is_open in
    let u : IsUnit other y c.last last.unit = record {
      announced = b.announced ∙ ap Some (sym last.kind_is);
      accepted =
          subst (λ (l : List ℕ). Accepts c.last.bound l (kind_of last.unit)) (sym there)
          (subst (Accepts c.last.bound (within list v ++ f)) (sym last.kind_is) last.accepted);
      means = subst (λ (l : List ℕ). Means l last.unit) (sym there) last.means;
    } in
    let end = Accepted (payload c.last last.unit) (after y last.unit) in
    let rest : Stack other y c.last (last.unit ∷ []) end =
    (u, (refl, refl, ap (permitted (after y last.unit).limit) last.announces)) in
    record {
      unit = last.unit;
      ending = end;
      walk = led other start (whole start other) hs (last.unit ∷ []) y c.last end c.leads rest;
      accepted = refl;
    }

-- ---- fewer bytes

needs : (list more : List ℕ) (v last : Window) (y : Expectation) (kind : Kind) (total : ℕ) (place : Option ℕ)
    (rest : List Header) (f : Ending)
    → IsBytes (within list v ++ more) → announced y ≡ Some kind → Begun (within list v) kind total place
    → within (list ++ more) last ≡ within list v ++ more → Stack (list ++ more) y last rest f → refusal_of f ≡ None
    → total ≤ length (within list v) + length more
needs list more v last y kind total place [] (Accepted u z) ok e b there s k =
    let f : None ≡ Some kind = sym s.2 ∙ e in absurd cc
needs list more v last y kind total place [] (Fault u z r) ok e b there s k = absurd cc
needs list more v last y kind total place (h ∷ rest) f ok e b there s k =
    let kinds : Some kind ≡ Some (kind_of h) = sym e ∙ s.0.announced in
    let same : kind ≡ kind_of h = cc in
    let means : Means (within list v ++ more) h = subst (λ (l : List ℕ). Means l h) there s.0.means in
    let accepted : Accepts last.bound (within list v ++ more) (kind_of h) =
    subst (λ (l : List ℕ). Accepts last.bound l (kind_of h)) there s.0.accepted in
    let least = unit_least (within list v) more kind total place ok b h means same in
    let fits = unit_fits last.bound (within list v ++ more) h accepted means in
    omega (arith, length-append (within list v) more)

enough : (start : Expectation) (list more : List ℕ) (hs ks : List Header) (e f : Ending) (total : ℕ) (place : Option ℕ)
    → IsBytes list → IsBytes more → (last_window e).closed ≡ false → EndsBegun start list hs e total place
    → Walk start list hs e
    → Walk start (list ++ more) ks f → refusal_of f ≡ None → total ≤ length (within list (last_window e)) + length more
enough start list more hs ks e f total place ok all is_open b s t k =
    let v = last_window e in
    let c = common start list more ks hs f e (IsBytes-append list more ok all) b.no_fcs t s in
    let there : within (list ++ more) c.last ≡ within list v ++ more =
    c.carries.bytes ∙ ap (λ (m : Bool). within list v ++ beyond m more) is_open in
    needs list more v c.last (last_expected e) b.kind total place c.rest f
    (IsBytes-append (within list v) more (IsBytes-part v.start v.finish list ok) all) b.announced b.begun there
    c.follows k

-- ---- all together

-- there is something to fill
pub plan_short : (start : Expectation) (list : List ℕ) (hs : List Header) (e : Ending) (o : OpenRefusal e) (total : ℕ)
    (place : Option ℕ)
    → IsBytes list → Walk start list hs e → CanBeCompleted o.layer o.len
    → Plan (within list (last_window e)) o.layer total place → length (within list (last_window e)) < total
plan_short start list hs e o total place ok s can plan =
    let b = ends_begun start list hs e o total place ok s can plan in
    begun_short (within list (last_window e)) b.kind total place b.begun

pub completes : (start : Expectation) (list : List ℕ) (hs : List Header) (e : Ending) (o : OpenRefusal e) (total : ℕ)
    (place : Option ℕ)
    → IsBytes list → Walk start list hs e → CanBeCompleted o.layer o.len
    → Plan (within list (last_window e)) o.layer total place
    → Completes start list (fill (within list (last_window e)) total place)
completes start list hs e o total place ok s can plan =
    let b = ends_begun start list hs e o total place ok s can plan in
    let on = walks_on start list hs e total place ok o.is_open b in
    let len =
    length-fill (within list (last_window e)) total place
    (begun_short (within list (last_window e)) b.kind total place b.begun) in
    record {
      headers = hs;
      ending = e;
      walk = s;
      refusal = o;
      completable = can;
      total = total;
      place = place;
      plan = plan;
      whole = len;
      is = refl;
      unit = on.unit;
      accepted = on.ending;
      walk_on = on.walk;
      not_refused = on.accepted;
      least =
          λ more ks f all t k. let n =
          enough start list more hs ks e f total place ok all o.is_open b s t k in omega arith;
    }
