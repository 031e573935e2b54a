-- A packet that is cut to its headers has the same headers, and so is not cut again.
use Rattle.std.proofs.Common.{◌≡◌, ℕ, ◌+◌, ◌-◌, ◌<◌, ◌≤◌, List, [], ◌∷◌, ◌++◌, length, take, drop, Bool, true, false, Some, None, refl, sym, ap, subst, ◌∙◌, arith, inl, inr, ◌⊎◌, append-nil}
use Rattle.std.specs.Prelude.{slice_range, max, nat_lt, nat_le, nat_eq, not, ◌&&◌, ◌||◌, is_some, if◌then◌else◌}
use Rattle.std.proofs.lemmas.Bool.{cases_lt, eqb-true, lt-ltb, ltb-false, leb-true, le-leb}
use Rattle.std.proofs.lemmas.List.{length-take, length-take-le, take-take, take_all, take-append-drop}
use Rattle.std.proofs.lemmas.Slice.{between_from_start}
use Rattle.ether_base.specs.Bytes.{IsBytes}
use Rattle.ether_base.proofs.SubLists.{IsBytes-take, IsBytes-part, length-part, part_all, part_of_front}
use Rattle.ether_base.proofs.LinuxSllFields.{linux_sll_of_front}
use Rattle.ether_base.specs.Formats.Ethernet2.{Ethernet2Value}
use Rattle.ether_base.specs.Formats.LinuxSll.{linux_sll_of, is_supported}
use Rattle.ether_base.specs.Formats.LinuxSllProtocolType.{told_ether_type}
use Rattle.etherparse.specs.Types.LenSource.{LenSource}
use Rattle.etherparse.specs.Types.LenSource.TheVariants as sources
use Rattle.etherparse.specs.Types.Layer.{Layer}
use Rattle.etherparse.specs.Kind as kinds
use Rattle.etherparse.specs.Header.{Header, payload_len}
use Rattle.etherparse.specs.Header as headers
use Rattle.etherparse.specs.Refusal.{Refusal, Length, UnsupportedPacketType, UnsupportedHardwareType, UnexpectedVersion, InvalidShortLen}
use Rattle.etherparse.specs.Refusal as rows
use Rattle.ether_peel.specs.Grammar.Cuts.{reach}
use Rattle.ether_peel.specs.Grammar.Expectation.{Next, Start, EtherType, Expectation, after, has_fcs, next_has_fcs}
use Rattle.ether_peel.specs.Grammar.Stack.{Ending, Accepted, Fault, Stack, Walk, whole}
use Rattle.ether_peel.specs.Grammar.Window.{Window, within, payload}
use Rattle.ether_peel.proofs.Grammar.Carrying.{Carries, beyond}
use Rattle.ether_peel.proofs.Grammar.Cuts.{common, reach_least, wants_unit}
use Rattle.ether_peel.proofs.Grammar.Extensions.{kept, walk_open_to_end}
use Rattle.ether_peel.proofs.Grammar.Places.{is_local}
use Rattle.ether_peel.proofs.Grammar.Stacks.{some_stack}
use Rattle.ether_packet.proofs.TypedLinks.{means_whole_list, with_fcs}
use Rattle.ether_sll2.specs.LinuxSll2.{AcceptsLinuxSll2, Short, PacketType, linux_sll2_of, protocol_of_header, protocol_on}
use Rattle.ether_sll2.specs.LinuxSll2 as sll2
use Rattle.ether_sll2.proofs.LinuxSll2Fields.{linux_sll2_accepted, linux_sll2_begins, linux_sll2_of_front}
use Rattle.ether_pcap.specs.Capture.{PacketValue}
use Rattle.ether_pcap.specs.Editing.{EditedValue, edited_packet}
use Rattle.ether_content.specs.Content.{ContentValue, Frame, LinuxSll, LinuxSll2, Unknown, cooked_content, content_of, fcs_len, is_cut, has_other_hardware, without_fcs}
use Rattle.ether_content.specs.Content as content
use Rattle.ether_content.specs.Headers.{Reaches, HeadersTake}
use Rattle.ether_content.specs.Headers as takes
use Rattle.ether_content.specs.Editing.{CutToHeaders, Edits, CutOnce, IsWithinOriginal, cuts, not_cut}
use Rattle.ether_content.proofs.CookedLemmas.{walked_usual}
use Rattle.ether_content.proofs.EditingLemmas.{content_by}

-- ---- a list that is cut where its headers end

wanted : (start : Expectation) (cut more : List ℕ) (hs ks : List Header) (v : Window) (y : Expectation)
    (required len : ℕ) (source : LenSource) (layer : Layer) (rest : List Header) (last : Window) (e : Ending)
    → has_fcs start ≡ false → Walk start cut ks (Fault v y (Length required len source layer))
    → Carries cut (cut ++ more) more v last → hs ≡ ks ++ rest → Stack (cut ++ more) y last rest e
    → required ≤ length (within cut v) + length (beyond v.closed more) → reach 0 hs ≤ length cut → hs ≡ ks
wanted start cut more hs ks v y required len source layer [] last e h s c parts t enough le = parts ∙ append-nil ks
wanted start cut more hs ks v y required len source layer (unit ∷ later) last e h s c parts t enough le =
    let d =
    wants_unit start cut more hs ks v y required len source layer unit later last e h s c parts t enough in
    let past = d.past in
    let least = reach_least 0 ks d.later d.unit in
    let more_is : length cut < reach 0 hs =
    subst (λ (l : List Header). length cut < reach 0 l) (sym d.units) (omega (arith, past, least)) in
    absurd (omega (arith, more_is, le))

-- its walk has the same headers
headers_stay : (start : Expectation) (cut more : List ℕ) (hs ks : List Header) (e f : Ending)
    → IsBytes (cut ++ more) → has_fcs start ≡ false → Walk start (cut ++ more) hs e → Walk start cut ks f
    → reach 0 hs ≤ length cut → hs ≡ ks
headers_stay start cut more hs ks e (Accepted v y) ok h t s le =
    (kept start cut more ks hs (Accepted v y) e h s t tt).0.headers
headers_stay start cut more hs ks e (Fault v y (Length required len source layer)) ok h t s le =
    elim (cases_lt (length (within cut v) + length (beyond v.closed more)) required) [
      | inl lt ↦ (kept start cut more ks hs (Fault v y (Length required len source layer)) e h s t lt).0.headers
      | inr enough ↦
          let c = common start cut more hs ks e (Fault v y (Length required len source layer)) ok h t s in
          wanted start cut more hs ks v y required len source layer c.rest c.last e h s c.carries c.headers c.follows
          enough le
    ]
headers_stay start cut more hs ks e (Fault v y (UnsupportedPacketType n)) ok h t s le =
    (kept start cut more ks hs (Fault v y (UnsupportedPacketType n)) e h s t tt).0.headers
headers_stay start cut more hs ks e (Fault v y (UnsupportedHardwareType n)) ok h t s le =
    (kept start cut more ks hs (Fault v y (UnsupportedHardwareType n)) e h s t tt).0.headers
headers_stay start cut more hs ks e (Fault v y UnexpectedVersion) ok h t s le =
    (kept start cut more ks hs (Fault v y UnexpectedVersion) e h s t tt).0.headers
headers_stay start cut more hs ks e (Fault v y InvalidShortLen) ok h t s le =
    (kept start cut more ks hs (Fault v y InvalidShortLen) e h s t tt).0.headers

abbrev start_at : Next → Expectation
start_at next = record { next = next; limit = None }

reaches_inside : (next : Next) (list : List ℕ) (n : ℕ) → next_has_fcs next ≡ false → Reaches next list n
    → n ≤ length list
reaches_inside next list n h r =
    let inside = (walk_open_to_end (start_at next) list r.headers r.ending h r.walk).reaches in
    let is = r.is_reach in
    omega (arith, inside, is)

reaches_again : (next : Next) (list : List ℕ) (n : ℕ) → IsBytes list → next_has_fcs next ≡ false
    → Reaches next list n → Reaches next (take n list) n
reaches_again next list n ok h r =
    let start = start_at next in
    let cut = take n list in
    let join : list ≡ cut ++ drop n list = sym (take-append-drop n list) in
    let some = some_stack cut start (whole start cut) (IsBytes-take n list ok) in
    let len = length-take-le n list (reaches_inside next list n h r) in
    let is = r.is_reach in
    let same =
    headers_stay start cut (drop n list) r.headers some.0 r.ending some.1 (subst IsBytes join ok) h
    (subst (λ (l : List ℕ). Walk start l r.headers r.ending) join r.walk) some.2 (omega (arith, len, is)) in
    record { headers = some.0; ending = some.1; walk = some.2; is_reach = r.is_reach ∙ ap (reach 0) same }

-- what follows the header of a cooked capture
rest_of_cut : (bytes : List ℕ) (k m : ℕ) → k + m ≤ length bytes
    → slice_range (take (k + m) bytes) k (length (take (k + m) bytes)) ≡ take m (slice_range bytes k (length bytes))
rest_of_cut bytes k m le =
    let len = length-take-le (k + m) bytes le in
    let a : k + m - k ≡ m = omega arith in
    (λ i. slice_range (sym (between_from_start bytes (k + m)) i) k (len i))
    ∙ part_of_front bytes (k + m) k (k + m) (omega arith) (omega arith)
    ∙ ap (λ (j : ℕ). take j (drop k bytes)) a
    ∙ sym (take-take m (length bytes - k) (drop k bytes) (omega (arith, le)))

abbrev Again : (List ℕ → ContentValue) → List ℕ → ℕ → Type 0
Again content bytes n = (n ≤ length bytes) × HeadersTake (content (take n bytes)) n

-- ---- cooked capture, version 1

first_holds : (a b c : Bool) → (a && b && c) ≡ true → a ≡ true
first_holds true b c is = refl
first_holds false b c is = absurd cc

no_bytes : (list : List ℕ) → length list ≡ 0 → has_other_hardware list ≡ false
no_bytes [] is = refl
no_bytes (x ∷ list) is = absurd cc

cut_usual : (cut : List ℕ) (hs : List Header) (e : Ending) → IsBytes cut → length cut ≡ reach 0 hs
    → Walk (start_at (Start kinds.LinuxSll)) cut hs e → has_other_hardware cut ≡ false
cut_usual cut [] e ok is walk = no_bytes cut is
cut_usual cut (h ∷ hs) e ok is walk = walked_usual (Start kinds.LinuxSll) cut h hs e ok walk refl

abbrev cooked_by : Bool → List ℕ → ContentValue
cooked_by other bytes =
    if other then LinuxSll (linux_sll_of bytes) (slice_range bytes 16 (length bytes))
    else Frame (Start kinds.LinuxSll) bytes

cooked_again_by : (b : Bool) (bytes : List ℕ) (n : ℕ) → IsBytes bytes → has_other_hardware bytes ≡ b
    → HeadersTake (cooked_by b bytes) n → Again cooked_content bytes n
cooked_again_by true bytes n ok other (takes.cooked _ _ m r) =
    let s = linux_sll_of bytes in
    let left = slice_range bytes 16 (length bytes) in
    let cut = take (16 + m) bytes in
    let least =
    leb-true 16 (length bytes)
    (first_holds (nat_le 16 (length bytes)) (nat_le s.packet_type 7) (not (is_supported s.hardware_type)) other) in
    let inside = reaches_inside (EtherType s.protocol) left m refl r in
    let all : 16 + m ≤ length bytes = omega (arith, inside, least, length-part bytes 16 (length bytes) (omega arith)) in
    let len = length-take-le (16 + m) bytes all in
    let same : linux_sll_of cut ≡ s =
    ap linux_sll_of (sym (between_from_start bytes (16 + m))) ∙ linux_sll_of_front bytes (16 + m) (omega arith) in
    let long : nat_le 16 (length cut) ≡ nat_le 16 (length bytes) =
    le-leb 16 (length cut) (omega (arith, len)) ∙ sym (le-leb 16 (length bytes) least) in
    let still : has_other_hardware cut ≡ true =
    (λ i. long i && nat_le (same i).packet_type 7 && not (is_supported (same i).hardware_type)) ∙ other in
    let is : cooked_content cut ≡ LinuxSll s (take m left) =
    (λ i. if still i then LinuxSll (same i) (rest_of_cut bytes 16 m all i) else Frame (Start kinds.LinuxSll) cut) in (
      all,
      subst (λ (c : ContentValue). HeadersTake c (16 + m)) (sym is)
          (takes.cooked s (take m left) m
          (reaches_again (EtherType s.protocol) left m (IsBytes-part 16 (length bytes) bytes ok) refl r)),
    )
cooked_again_by false bytes n ok usual (takes.frame _ _ _ r) =
    let next = Start kinds.LinuxSll in
    let cut = take n bytes in
    let again = reaches_again next bytes n ok refl r in
    let inside = reaches_inside next bytes n refl r in
    let len = length-take-le n bytes inside in
    let still : has_other_hardware cut ≡ false =
    cut_usual cut again.headers again.ending (IsBytes-take n bytes ok) (len ∙ again.is_reach) again.walk in
    let is : cooked_content cut ≡ Frame next cut = ap (λ (b : Bool). cooked_by b cut) still in
    (inside, subst (λ (c : ContentValue). HeadersTake c n) (sym is) (takes.frame next cut n again))

-- ---- cooked capture, version 2

accepted_least : (bytes : List ℕ) → AcceptsLinuxSll2 bytes → 20 ≤ length bytes
accepted_least bytes a =
    elim (cases_lt (length bytes) 20) [
      | inl lt ↦ absurd (a (Short 20 (length bytes)) (sll2.short lt))
      | inr le ↦ le
    ]

same_front : (bytes : List ℕ) (n : ℕ) → 20 ≤ n → linux_sll2_of (take n bytes) ≡ linux_sll2_of bytes
same_front bytes n le = ap linux_sll2_of (sym (between_from_start bytes n)) ∙ linux_sll2_of_front bytes n le

accepted_again : (bytes : List ℕ) (n : ℕ) → IsBytes bytes → 20 ≤ n → n ≤ length bytes → AcceptsLinuxSll2 bytes
    → AcceptsLinuxSll2 (take n bytes)
accepted_again bytes n ok least le a =
    let s = linux_sll2_of bytes in
    let len = length-take-le n bytes le in
    let known : s.packet_type ≤ 7 =
    elim (cases_lt 7 s.packet_type) [
      | inl lt ↦ absurd
          (a (PacketType s.packet_type) (sll2.packet_type s (linux_sll2_begins bytes ok (accepted_least bytes a)) lt))
      | inr few ↦ few
    ] in
    linux_sll2_accepted (take n bytes) (IsBytes-take n bytes ok) (omega (arith, len, least))
    (subst (λ (v : sll2.LinuxSll2Value). v.packet_type ≤ 7) (sym (same_front bytes n least)) known)

same_protocol : (bytes : List ℕ) (n : ℕ) → 20 ≤ n → protocol_of_header (take n bytes) ≡ protocol_of_header bytes
same_protocol bytes n le =
    ap (λ (v : sll2.LinuxSll2Value). protocol_on v.hardware_type v.protocol) (same_front bytes n le)

cooked2_again : (bytes : List ℕ) (n : ℕ) → IsBytes bytes → HeadersTake (LinuxSll2 bytes) n → Again LinuxSll2 bytes n
cooked2_again bytes n ok (takes.payload _ _ _ m (content.payload _ t a e) r) =
    let left = slice_range bytes 20 (length bytes) in
    let cut = take (20 + m) bytes in
    let least = accepted_least bytes a in
    let inside = reaches_inside (EtherType t) left m refl r in
    let all : 20 + m ≤ length bytes = omega (arith, inside, least, length-part bytes 20 (length bytes) (omega arith)) in
    let again = reaches_again (EtherType t) left m (IsBytes-part 20 (length bytes) bytes ok) refl r in
    let told = ap told_ether_type (same_protocol bytes (20 + m) (omega arith)) ∙ e in (
      all,
      takes.payload (EtherType t) cut (slice_range cut 20 (length cut)) m
          (content.payload cut t (accepted_again bytes (20 + m) ok (omega arith) all a) told)
          (subst (λ (l : List ℕ). Reaches (EtherType t) l m) (sym (rest_of_cut bytes 20 m all)) again),
    )
cooked2_again bytes n ok (takes.header _ a none) =
    let least = accepted_least bytes a in (
      least,
      takes.header (take 20 bytes) (accepted_again bytes 20 ok (omega arith) least a)
          (ap told_ether_type (same_protocol bytes 20 (omega arith)) ∙ none),
    )
cooked2_again bytes n ok (takes.no_header _ not) =
    let cut = take 0 bytes in
    let len = length-take-le 0 bytes (omega arith) in
    (omega arith, takes.no_header cut (λ a. a (Short 20 (length cut)) (sll2.short (omega (arith, len)))))

-- ---- a frame check sequence

-- the mark of a window tells nothing of the headers in it
opened : (list : List ℕ) (x : Expectation) (s f : ℕ) (c d : Bool) (bound : LenSource) (hs : List Header) (e : Ending)
    → Stack list x (record { start = s; finish = f; closed = c; bound = bound }) hs e
    → (g : Ending) × Stack list x (record { start = s; finish = f; closed = d; bound = bound }) hs g
opened list x s f c d bound [] (Accepted v y) t =
    (Accepted (record { start = s; finish = f; closed = d; bound = bound }) y, (refl, t.1, t.2))
opened list x s f c d bound [] (Fault v y r) t =
    (Fault (record { start = s; finish = f; closed = d; bound = bound }) y r, (refl, t.1, t.2, t.3, t.4))
opened list x s f c d bound (h ∷ hs) e t =
    let w = payload (record { start = s; finish = f; closed = c; bound = bound }) h in
    let rest =
    opened list (after x h) w.start w.finish w.closed (is_some (payload_len h) || d) w.bound hs e t.1 in
    (rest.0, (record { announced = t.0.announced; accepted = t.0.accepted; means = t.0.means }, rest.1))

long_enough : (bound : LenSource) (bytes : List ℕ) (r : Refusal) → 14 ≤ length bytes
    → rows.Refuses bound bytes kinds.Ethernet2 r → ⊥
long_enough bound bytes r least (rows.ethernet2 lt) = absurd (omega (arith, least, lt))

-- without the sequence the frame has the same headers
without : (all : List ℕ) (v : Ethernet2Value) (hs : List Header) (e : Ending)
    → Walk (start_at (Start kinds.Ethernet2Fcs)) all (headers.Ethernet2Fcs v ∷ hs) e
    → (f : Ending) × Walk (start_at (Start kinds.Ethernet2)) (take (length all - 4) all) (headers.Ethernet2 v ∷ hs) f
without all v hs e walk =
    let x = start_at (Start kinds.Ethernet2Fcs) in
    let n = length all - 4 in
    let part = take n all in
    let least =
    with_fcs all
    (subst (λ (l : List ℕ). rows.Accepts sources.Slice l kinds.Ethernet2Fcs) (part_all all (length all) (omega arith))
    walk.0.accepted) in
    let len = length-take-le n all (omega arith) in
    let m = means_whole_list x all (headers.Ethernet2Fcs v) walk.0 in
    let y = after x (headers.Ethernet2Fcs v) in
    let bare = opened all y 14 n true false sources.Slice hs e walk.1 in
    let front : slice_range part 0 14 ≡ slice_range all 0 14 =
    ap (λ (l : List ℕ). slice_range l 0 14) (sym (between_from_start all n))
    ∙ part_of_front all n 0 14 (omega arith) (omega (arith, least)) in
    let end : length part - 0 ≡ n = omega (arith, len) in
    let rest : slice_range all 14 n ≡ slice_range part 14 (length part - 0) =
    sym ((λ i. slice_range (sym (between_from_start all n) i) 14 (end i))
    ∙ part_of_front all n 14 n (omega (arith, least)) (omega arith)) in
    let whole_is = part_all part (length part) (omega arith) in
    let moved =
    is_local all part y (record { start = 14; finish = n; closed = false; bound = sources.Slice })
    (record { start = 14; finish = length part - 0; closed = false; bound = sources.Slice }) hs bare.0
    (record { ordered = omega (arith, least); inside = omega arith })
    (record { ordered = omega (arith, len, least); inside = omega arith }) rest refl refl bare.1 in
    let accepted : rows.Accepts sources.Slice part kinds.Ethernet2 =
    λ r. long_enough sources.Slice part r (omega (arith, len, least)) in
    let means : headers.Means part (headers.Ethernet2 v) =
    record {
      whole = omega (arith, len, least);
      spells = subst (λ (l : List ℕ). headers.Spells l (headers.Ethernet2 v)) (sym front) m.spells;
    } in (
      _,
      (
        record {
          announced = refl;
          accepted = subst (λ (l : List ℕ). rows.Accepts sources.Slice l kinds.Ethernet2) (sym whole_is) accepted;
          means = subst (λ (l : List ℕ). headers.Means l (headers.Ethernet2 v)) (sym whole_is) means;
        },
        moved,
      ),
    )

fcs_by : (all : List ℕ) (n : ℕ) (hs : List Header) (e : Ending) → IsBytes all
    → Walk (start_at (Start kinds.Ethernet2Fcs)) all hs e → n ≡ reach 0 hs
    → Reaches (Start kinds.Ethernet2) (take (length all - 4) all) n ⊎ (n ≡ 0)
fcs_by all n [] e ok walk is = inr is
fcs_by all n (headers.Ethernet2Fcs v ∷ hs) e ok walk is =
    let w = without all v hs e walk in
    inl (record { headers = headers.Ethernet2 v ∷ hs; ending = w.0; walk = w.1; is_reach = is })
fcs_by all n (headers.Ethernet2 v ∷ hs) e ok walk is = let no : Some kinds.Ethernet2Fcs ≡ Some kinds.Ethernet2 =
    walk.0.announced in absurd cc
fcs_by all n (headers.LinuxSll v ∷ hs) e ok walk is = let no : Some kinds.Ethernet2Fcs ≡ Some kinds.LinuxSll =
    walk.0.announced in absurd cc
fcs_by all n (headers.Vlan v ∷ hs) e ok walk is = let no : Some kinds.Ethernet2Fcs ≡ Some kinds.Vlan =
    walk.0.announced in absurd cc
fcs_by all n (headers.Macsec v ∷ hs) e ok walk is = let no : Some kinds.Ethernet2Fcs ≡ Some kinds.Macsec =
    walk.0.announced in absurd cc
fcs_by all n (headers.Arp v ∷ hs) e ok walk is = let no : Some kinds.Ethernet2Fcs ≡ Some kinds.Arp =
    walk.0.announced in absurd cc

-- nothing is reached in no bytes
none_reached : (next : Next) (list : List ℕ) (n : ℕ) → IsBytes list → next_has_fcs next ≡ false → n ≡ 0
    → Reaches next (take n list) n
none_reached next list n ok h none =
    let start = start_at next in
    let cut = take n list in
    let some = some_stack cut start (whole start cut) (IsBytes-take n list ok) in
    let inside = (walk_open_to_end start cut some.0 some.1 h some.2).reaches in
    let len = length-take n list in
    record { headers = some.0; ending = some.1; walk = some.2; is_reach = omega (arith, inside, len, none) }

fcs_again : (all : List ℕ) (n : ℕ) → IsBytes all → Reaches (Start kinds.Ethernet2Fcs) all n
    → Again (λ l. Frame (Start kinds.Ethernet2) l) (take (length all - 4) all) n
fcs_again all n ok r =
    let next = Start kinds.Ethernet2 in
    let part = take (length all - 4) all in
    let bytes = IsBytes-take (length all - 4) all ok in
    elim (fcs_by all n r.headers r.ending ok r.walk r.is_reach) [
      | inl s ↦ (
        reaches_inside next part n refl s,
        takes.frame next (take n part) n
            (reaches_again next part n bytes refl s),
      )
      | inr none ↦ (omega (arith, none), takes.frame next (take n part) n (none_reached next part n bytes refl none))
    ]

-- ---- a packet

-- the bytes without a check sequence, of all and of those that are left
cut_of_cut : (all : List ℕ) (n t u : ℕ) → n ≤ length (take t all) → (n ≤ t → n ≤ u)
    → take n (take t all) ≡ take u (take n all)
cut_of_cut all n t u inside most =
    let short = length-take t all in
    let small = length-take n all in
    let le : n ≤ t = omega (arith, inside, short) in
    let far = most le in
    take-take n t all le ∙ sym (take_all u (take n all) (omega (arith, small, far)))

again_if : (content : List ℕ → ContentValue) (all : List ℕ) (n t u : ℕ) → (n ≤ t → n ≤ u)
    → Again content (take t all) n → HeadersTake (content (take u (take n all))) n
again_if content all n t u most again =
    subst (λ (l : List ℕ). HeadersTake (content l) n) (cut_of_cut all n t u again.0 most) again.1

again_by : (a b c d : Bool) (all : List ℕ) (n t u : ℕ) → IsBytes all → (d ≡ true → t ≡ length all - 4)
    → (n ≤ t → n ≤ u)
    → HeadersTake (content_by a b (has_other_hardware (take t all)) c d all (take t all)) n
    → HeadersTake
    (content_by a b (has_other_hardware (take u (take n all))) c false (take n all) (take u (take n all))) n
again_by true b c true all n t u ok whole_is most (takes.frame _ _ _ r) =
    let content = λ (l : List ℕ). Frame (Start kinds.Ethernet2) l in
    again_if content all n t u most
    (subst (λ (k : ℕ). Again content (take k all) n) (sym (whole_is refl)) (fcs_again all n ok r))
again_by true b c false all n t u ok whole_is most (takes.frame _ _ _ r) =
    let next = Start kinds.Ethernet2 in
    let part = take t all in
    again_if (λ (l : List ℕ). Frame next l) all n t u most (
      reaches_inside next part n refl r,
      takes.frame next (take n part) n (reaches_again next part n (IsBytes-take t all ok) refl r),
    )
again_by false true c d all n t u ok whole_is most takes =
    let part = take t all in
    again_if cooked_content all n t u most
    (cooked_again_by (has_other_hardware part) part n (IsBytes-take t all ok) refl takes)
again_by false false true d all n t u ok whole_is most takes =
    again_if LinuxSll2 all n t u most (cooked2_again (take t all) n (IsBytes-take t all ok) takes)
again_by false false false d all n t u ok whole_is most takes.unknown = takes.unknown

whole_sequence : (cut fcs : Bool) → (not cut && fcs) ≡ true → (cut ≡ false) × (fcs ≡ true)
whole_sequence true fcs is = absurd cc
whole_sequence false fcs is = (refl, is)

sequence_len : (p : PacketValue) → content.has_fcs p ≡ true
    → max p.original_len (length p.packet) - fcs_len p ≡ length p.packet - 4
sequence_len p is =
    let both = whole_sequence (is_cut p) (nat_eq (fcs_len p) 4) is in
    let four : fcs_len p ≡ 4 = eqb-true (fcs_len p) 4 both.1 in
    let short = ltb-false (length p.packet) p.original_len both.0 in
    omega (arith, four, short)

no_sequence : (p : PacketValue) (n : ℕ) → IsWithinOriginal p → n < length p.packet
    → (not (nat_lt n p.original_len) && nat_eq (fcs_len p) 4) ≡ false
no_sequence p n (inl le) lt =
    ap (λ (b : Bool). not b && nat_eq (fcs_len p) 4) (lt-ltb n p.original_len (omega (arith, le, lt)))
no_sequence p n (inr none) lt =
    ap (λ (k : ℕ). not (nat_lt n p.original_len) && nat_eq k 4) none ∙ neither (not (nat_lt n p.original_len))
  where
    neither : (b : Bool) → (b && false) ≡ false
    neither true = refl
    neither false = refl

-- the end of a frame without its check sequence, before and after the cut
still_there : (p : PacketValue) (n m : ℕ) → IsWithinOriginal p → n < length p.packet → m ≡ n
    → n ≤ max p.original_len (length p.packet) - fcs_len p → n ≤ max p.original_len m - fcs_len p
still_there p n m (inl within_it) lt len le = omega (arith, within_it, lt, len, le)
still_there p n m (inr none) lt len le = omega (arith, none, lt, len, le)

takes_again : (p : PacketValue) (n : ℕ) → IsBytes p.packet → IsWithinOriginal p → HeadersTake (content_of p) n
    → n < length p.packet
    → HeadersTake (content_of (edited_packet (record { original_len = p.original_len; packet = take n p.packet }) p)) n
takes_again p n ok within_it takes lt =
    let q = edited_packet (record { original_len = p.original_len; packet = take n p.packet }) p in
    let len = length-take-le n p.packet (omega (arith, lt)) in
    let ethernet = nat_eq p.link_type 1 in
    let cooked = nat_eq p.link_type 113 in
    let cooked2 = nat_eq p.link_type 276 in
    let fcs : content.has_fcs q ≡ false =
    ap (λ (k : ℕ). not (nat_lt k p.original_len) && nat_eq (fcs_len p) 4) len ∙ no_sequence p n within_it lt in
    subst (λ (b : Bool). HeadersTake
    (content_by ethernet cooked (has_other_hardware (without_fcs q)) cooked2 b q.packet (without_fcs q)) n) (sym fcs)
    (again_by ethernet cooked cooked2 (content.has_fcs p) p.packet n
    (max p.original_len (length p.packet) - fcs_len p) (max p.original_len (length q.packet) - fcs_len p) ok
    (sequence_len p) (still_there p n (length q.packet) within_it lt len) takes)

-- ---- the law

cut_of : (p : PacketValue) (e : EditedValue) → IsBytes p.packet → IsWithinOriginal p → Edits CutToHeaders p (Some e)
    → Edits CutToHeaders (edited_packet e p) None
cut_of p e ok within_it (cuts _ n takes lt) =
    let len = length-take n p.packet in
    not_cut (edited_packet (record { original_len = p.original_len; packet = take n p.packet }) p) n
    (takes_again p n ok within_it takes lt) (omega (arith, len))

pub cut_once : CutOnce
cut_once p e ok within_it is = cut_of p e ok within_it is
