-- How often the units of a walk can have asked for more bytes.
use Rattle.std.proofs.Common.{◌≡◌, ℕ, ◌+◌, ◌-◌, ◌<◌, ◌≤◌, min, List, [], ◌∷◌, ◌++◌, length, sym, ap, subst, ◌∙◌, arith, Bool, true, false}
use Rattle.std.specs.Prelude.{Some, None}
use Rattle.std.proofs.lemmas.List.{length-append}
use Rattle.etherparse.specs.Types.LenSource.{LenSource}
use Rattle.etherparse.specs.Types.Layer.{Layer}
use Rattle.etherparse.specs.Types.Layer.TheVariants as layers
use Rattle.etherparse.specs.Bytes.{IsBytes}
use Rattle.etherparse.specs.Macsec.{SecTagFront, sec_tag_len, known_payload_len}
use Rattle.etherparse.specs.Arp.{arp_len}
use Rattle.etherparse.specs.Kind.{Kind}
use Rattle.etherparse.specs.Kind as kinds
use Rattle.etherparse.specs.Header.{Header, kind_of, payload_len}
use Rattle.etherparse.specs.Refusal.{Refusal, Length, UnsupportedPacketType, UnsupportedHardwareType, UnexpectedVersion, InvalidShortLen, IsTooShort, Refuses}
use Rattle.etherparse.specs.Refusal as rows
use Rattle.etherparse.proofs.SubLists.{length-part}
use Rattle.etherparse.proofs.Rows.{one_sec_tag_front, one_arp_front}
use Rattle.ether_peel.specs.Grammar.Window.{Window, within, payload}
use Rattle.ether_peel.proofs.Grammar.Windows.{payload_closed}
use Rattle.ether_peel.specs.Grammar.Expectation.{Expectation, announced, after, has_fcs}
use Rattle.ether_peel.specs.Grammar.Stack.{Ending, Accepted, Fault, Stack, whole, Walk}
use Rattle.ether_peel.specs.Grammar.Endings.{OpenRefusal, named_len}
use Rattle.ether_peel.specs.Grammar.Demands.{cap, caps, announced_cap, last_cap}
use Rattle.ether_peel.proofs.Grammar.LongerBytes.{sec_tag_longer, arp_longer, known_long}
use Rattle.ether_peel.proofs.Grammar.Carrying.{Leads, leads, beyond}
use Rattle.ether_peel.proofs.Grammar.Extensions.{walk_open_to_end}
use Rattle.ether_peel.proofs.Grammar.Cuts.{common}

-- ---- how often a refused unit was given what it asked for

of_layer : ℕ → Layer → ℕ
of_layer len layers.MacsecHeader = min 1 (len - 5)
of_layer len layers.MacsecPacket = 2
of_layer len layers.Arp = min 1 (len - 7)
of_layer len _ = 0

given : Refusal → ℕ
given (Length required len source layer) = of_layer len layer
given (UnsupportedPacketType n) = 1
given (UnsupportedHardwareType n) = 1
given UnexpectedVersion = 1
given InvalidShortLen = 1

-- within its cap
given_within : (bound : LenSource) (bytes : List ℕ) (kind : Kind) (r : Refusal) → Refuses bound bytes kind r
    → given r ≤ cap false kind
unfolding given of_layer
given_within bound bytes kinds.Ethernet2 r (rows.ethernet2 lt) = omega arith
given_within bound bytes kinds.Ethernet2Fcs r (rows.ethernet2_fcs lt) = omega arith
given_within bound bytes kinds.Vlan r (rows.vlan lt) = omega arith
given_within bound bytes kinds.LinuxSll r (rows.linux_sll lt) = omega arith
given_within bound bytes kinds.LinuxSll r (rows.linux_sll_packet_type s le b p) = omega arith
given_within bound bytes kinds.LinuxSll r (rows.linux_sll_hardware_type s le b p e) = omega arith
given_within bound bytes kinds.Macsec r (rows.macsec lt) = omega arith
given_within bound bytes kinds.Macsec r (rows.macsec_version t six b v) = omega arith
given_within bound bytes kinds.Macsec r (rows.macsec_short_len t six b v s) = omega arith
given_within bound bytes kinds.Macsec r (rows.macsec_header t six b v s lt) = omega arith
given_within bound bytes kinds.Macsec r (rows.macsec_packet t p b v e le lt) = omega arith
given_within bound bytes kinds.Arp r (rows.arp lt) = omega arith
given_within bound bytes kinds.Arp r (rows.arp_addresses a le b lt) = omega arith

-- and below it, if it asks again
given_below : (bound source : LenSource) (bytes : List ℕ) (kind : Kind) (required len : ℕ) (layer : Layer)
    → Refuses bound bytes kind (Length required len source layer) → of_layer len layer < cap false kind
unfolding of_layer
given_below bound source bytes kinds.Ethernet2 required len layer (rows.ethernet2 lt) = omega arith
given_below bound source bytes kinds.Ethernet2Fcs required len layer (rows.ethernet2_fcs lt) = omega arith
given_below bound source bytes kinds.Vlan required len layer (rows.vlan lt) = omega arith
given_below bound source bytes kinds.LinuxSll required len layer (rows.linux_sll lt) = omega arith
given_below bound source bytes kinds.Macsec required len layer (rows.macsec lt) = omega arith
given_below bound source bytes kinds.Macsec required len layer (rows.macsec_header t six b v s lt) = omega arith
given_below bound source bytes kinds.Macsec required len layer (rows.macsec_packet t p b v e le lt) = omega arith
given_below bound source bytes kinds.Arp required len layer (rows.arp lt) = omega arith
given_below bound source bytes kinds.Arp required len layer (rows.arp_addresses a le b lt) = omega arith

some_is : (m n : ℕ) → Some m ≡ Some n → m ≡ n
some_is m n e = cc

-- once the required length is there it was given once more, if it is refused again
given_after : (bound source : LenSource) (bytes more : List ℕ) (kind : Kind) (required len : ℕ) (layer : Layer)
    (r : Refusal)
    → Refuses bound bytes kind (Length required len source layer) → required ≤ length (bytes ++ more)
    → Refuses bound (bytes ++ more) kind r → of_layer len layer < given r
unfolding given of_layer
given_after bound source bytes more kinds.Ethernet2 required len layer r (rows.ethernet2 lt) le (rows.ethernet2 again) =
    absurd (omega arith)
given_after bound source bytes more kinds.Ethernet2Fcs required len layer r (rows.ethernet2_fcs lt) le
    (rows.ethernet2_fcs again) =
    absurd (omega arith)
given_after bound source bytes more kinds.Vlan required len layer r (rows.vlan lt) le (rows.vlan again) =
    absurd (omega arith)
given_after bound source bytes more kinds.LinuxSll required len layer r (rows.linux_sll lt) le (rows.linux_sll again) =
    absurd (omega arith)
given_after bound source bytes more kinds.LinuxSll required len layer r (rows.linux_sll lt) le
    (rows.linux_sll_packet_type s k b p) =
    omega arith
given_after bound source bytes more kinds.LinuxSll required len layer r (rows.linux_sll lt) le
    (rows.linux_sll_hardware_type s k b p e) =
    omega arith
given_after bound source bytes more kinds.Macsec required len layer r (rows.macsec lt) le (rows.macsec again) =
    absurd (omega arith)
given_after bound source bytes more kinds.Macsec required len layer r (rows.macsec lt) le
    (rows.macsec_version u k b v) =
    omega arith
given_after bound source bytes more kinds.Macsec required len layer r (rows.macsec lt) le
    (rows.macsec_short_len u k b v s) =
    omega arith
given_after bound source bytes more kinds.Macsec required len layer r (rows.macsec lt) le
    (rows.macsec_header u k b v s again) =
    omega arith
given_after bound source bytes more kinds.Macsec required len layer r (rows.macsec lt) le
    (rows.macsec_packet u p b v e k again) =
    omega arith
given_after bound source bytes more kinds.Macsec required len layer r (rows.macsec_header t six b v s lt) le
    (rows.macsec again) =
    absurd (omega (arith, length-append bytes more))
given_after bound source bytes more kinds.Macsec required len layer r (rows.macsec_header t six b v s lt) le
    (rows.macsec_version u k c w) =
    let e =
    ap (λ (x : SecTagFront). x.version)
    (one_sec_tag_front (bytes ++ more) t u (sec_tag_longer bytes more t (omega arith) b) c) in
    absurd (omega arith)
given_after bound source bytes more kinds.Macsec required len layer r (rows.macsec_header t six b v s lt) le
    (rows.macsec_short_len u k c w z) =
    absurd
    (s (subst IsTooShort (one_sec_tag_front (bytes ++ more) u t c (sec_tag_longer bytes more t (omega arith) b)) z))
given_after bound source bytes more kinds.Macsec required len layer r (rows.macsec_header t six b v s lt) le
    (rows.macsec_header u k c w z again) =
    let e = ap sec_tag_len (one_sec_tag_front (bytes ++ more) t u (sec_tag_longer bytes more t (omega arith) b) c) in
    absurd (omega arith)
given_after bound source bytes more kinds.Macsec required len layer r (rows.macsec_header t six b v s lt) le
    (rows.macsec_packet u p c w e k again) = omega arith
given_after bound source bytes more kinds.Macsec required len layer r (rows.macsec_packet t p b v e k lt) le
    (rows.macsec again) =
    absurd (omega (arith, length-append bytes more))
given_after bound source bytes more kinds.Macsec required len layer r (rows.macsec_packet t p b v e k lt) le
    (rows.macsec_version u l c w) =
    let f =
    ap (λ (x : SecTagFront). x.version)
    (one_sec_tag_front (bytes ++ more) t u (sec_tag_longer bytes more t (omega arith) b) c) in
    absurd (omega arith)
given_after bound source bytes more kinds.Macsec required len layer r (rows.macsec_packet t p b v e k lt) le
    (rows.macsec_short_len u l c w z) =
    absurd
    (known_long t p e
    (subst IsTooShort (one_sec_tag_front (bytes ++ more) u t c (sec_tag_longer bytes more t (omega arith) b)) z))
given_after bound source bytes more kinds.Macsec required len layer r (rows.macsec_packet t p b v e k lt) le
    (rows.macsec_header u l c w z again) =
    let f = ap sec_tag_len (one_sec_tag_front (bytes ++ more) t u (sec_tag_longer bytes more t (omega arith) b) c) in
    absurd (omega arith)
given_after bound source bytes more kinds.Macsec required len layer r (rows.macsec_packet t p b v e k lt) le
    (rows.macsec_packet u q c w x l again) =
    let same = one_sec_tag_front (bytes ++ more) t u (sec_tag_longer bytes more t (omega arith) b) c in
    let f = ap sec_tag_len same in
    let g = some_is p q (sym e ∙ ap known_payload_len same ∙ x) in
    absurd (omega arith)
given_after bound source bytes more kinds.Arp required len layer r (rows.arp lt) le (rows.arp again) =
    absurd (omega arith)
given_after bound source bytes more kinds.Arp required len layer r (rows.arp lt) le (rows.arp_addresses a k b again) =
    omega arith
given_after bound source bytes more kinds.Arp required len layer r (rows.arp_addresses a k b lt) le (rows.arp again) =
    absurd (omega (arith, length-append bytes more))
given_after bound source bytes more kinds.Arp required len layer r (rows.arp_addresses a k b lt) le
    (rows.arp_addresses u l c again) =
    let e = ap arp_len (one_arp_front (bytes ++ more) a u (arp_longer bytes more a k b) c) in
    absurd (omega arith)

-- ---- how often the refused unit of a walk was

given_in : Bool → Refusal → ℕ
given_in true r = 0
given_in false r = given r

pub given_last : Ending → ℕ
given_last (Accepted v y) = 0
given_last (Fault v y r) = given_in v.closed r

given_capped_in : (bound : LenSource) (closed : Bool) (bytes : List ℕ) (kind : Kind) (r : Refusal)
    → Refuses bound bytes kind r → given_in closed r ≤ cap closed kind
unfolding given_in
given_capped_in bound true bytes kind r row = omega arith
given_capped_in bound false bytes kind r row = given_within bound bytes kind r row

pub given_capped : (list : List ℕ) (x : Expectation) (w : Window) (e : Ending) → Stack list x w [] e
    → given_last e ≤ last_cap e
unfolding given_last
given_capped list x w (Accepted v y) s = omega arith
given_capped list x w (Fault v y r) s =
    let kind : announced y ≡ Some s.2 = ap announced s.1 ∙ s.3 in
    let e : announced_cap v.closed (announced y) ≡ cap v.closed s.2 = ap (announced_cap v.closed) kind in
    let k = given_capped_in w.bound v.closed (within list w) s.2 r s.4 in
    omega arith

-- the mark of the window after these headers
closed_after : Bool → List Header → Bool
closed_after closed [] = closed
closed_after closed (h ∷ hs) = closed_after (payload_closed closed (payload_len h)) hs

mark_after : (list : List ℕ) (x : Expectation) (w : Window) (hs : List Header) (y : Expectation) (v : Window)
    → Leads list x w hs y v → v.closed ≡ closed_after w.closed hs
unfolding closed_after
mark_after list x w [] y v l = ap (λ (u : Window). u.closed) l.1
mark_after list x w (h ∷ hs) y v l = mark_after list (after x h) (payload w h) hs y v l.1

caps-append : (closed : Bool) (hs ks : List Header)
    → caps closed (hs ++ ks) ≡ caps closed hs + caps (closed_after closed hs) ks
unfolding closed_after
caps-append closed [] ks = omega arith
caps-append closed (h ∷ hs) ks = let e = caps-append (payload_closed closed (payload_len h)) hs ks in omega arith

given_is : (q : Refusal) (required len : ℕ) (source : LenSource) (layer : Layer) → q ≡ Length required len source layer
    → given q ≡ of_layer len layer
unfolding given
given_is q required len source layer e = ap given e

-- if the required length of an open window is there, the rest of the walk has more bytes
more_given : (list : List ℕ) (bound source : LenSource) (bytes more : List ℕ) (kind : Kind) (required len : ℕ)
    (layer : Layer) (y : Expectation) (last : Window) (rest : List Header) (f : Ending)
    → announced y ≡ Some kind → Refuses bound bytes kind (Length required len source layer)
    → within list last ≡ bytes ++ more → last.bound ≡ bound → last.closed ≡ false
    → required ≤ length (bytes ++ more) → Stack list y last rest f
    → of_layer len layer < caps false rest + given_last f
unfolding given_last given_in
more_given list bound source bytes more kind required len layer y last [] (Accepted u z) some row is same mark le t =
    let e : None ≡ Some kind = sym t.2 ∙ some in absurd cc
more_given list bound source bytes more kind required len layer y last [] (Fault u z r) some row is same mark le t =
    let kinds : Some kind ≡ Some t.2 = sym some ∙ t.3 in
    let k : t.2 ≡ kind = cc in
    let there : Refuses bound (bytes ++ more) kind r =
    subst (λ (s : LenSource). Refuses s (bytes ++ more) kind r) same
    (subst (λ (b : List ℕ). Refuses last.bound b kind r) is
    (subst (λ (j : Kind). Refuses last.bound (within list last) j r) k t.4)) in
    let later = given_after bound source bytes more kind required len layer r row le there in
    let unmarked : u.closed ≡ false = ap (λ (w : Window). w.closed) t.0 ∙ mark in
    let e : given_in u.closed r ≡ given r = ap (λ (c : Bool). given_in c r) unmarked in
    omega arith
more_given list bound source bytes more kind required len layer y last (h ∷ rest) f some row is same mark le t =
    let kinds : Some kind ≡ Some (kind_of h) = sym some ∙ t.0.announced in
    let k : kind ≡ kind_of h = cc in
    let below = given_below bound source bytes kind required len layer row in
    let e : cap false (kind_of h) ≡ cap false kind = ap (cap false) (sym k) in
    omega arith

-- the walk of a longer front, which has the required length, was given once more
pub given_once_more : (start : Expectation) (front more : List ℕ) (hs ks : List Header) (e f : Ending)
    (o : OpenRefusal e)
    → IsBytes (front ++ more) → has_fcs start ≡ false → Walk start front hs e → named_len e o ≤ length (front ++ more)
    → Walk start (front ++ more) ks f
    → caps false hs + given_last e < caps false ks + given_last f
unfolding given_last given_in
given_once_more start front more hs ks (Accepted v y) f o ok h s le t = let e = o.refused in absurd cc
given_once_more start front more hs ks (Fault v y q) f o ok h s le t =
    let list = front ++ more in
    let c = common start front more ks hs f (Fault v y q) ok h t s in
    let l = leads front start (whole start front) hs (Fault v y q) s in
    let g = walk_open_to_end start front hs (Fault v y q) h s in
    let is : q ≡ Length o.required o.len o.source o.layer = (let e = o.refused in cc) in
    let row = subst (λ (r : Refusal). Refuses v.bound (within front v) l.1.2 r) is l.1.4 in
    let few : beyond v.closed more ≡ more = ap (λ (b : Bool). beyond b more) o.is_open in
    let bytes : within list c.last ≡ within front v ++ more =
    c.carries.bytes ∙ ap (λ (b : List ℕ). within front v ++ b) few in
    let finish = g.ends o.is_open in
    let at = g.is_in.ordered in
    let part = length-part front v.start v.finish g.is_in.inside in
    let later =
    more_given list v.bound o.source (within front v) more l.1.2 o.required o.len o.layer y c.last c.rest f l.1.3
    row bytes c.carries.bound (c.carries.closed ∙ o.is_open)
    (omega (arith, length-append (within front v) more, length-append front more)) c.follows in
    let mark : false ≡ closed_after false hs =
    sym o.is_open ∙ mark_after front start (whole start front) hs y v l.0
    ∙ ap (λ (b : Bool). closed_after b hs) h in
    let split : caps false ks ≡ caps false hs + caps false c.rest =
    ap (caps false) c.headers ∙ caps-append false hs c.rest
    ∙ ap (λ (b : Bool). caps false hs + caps b c.rest) (sym mark) in
    let mine : given_in v.closed q ≡ of_layer o.len o.layer =
    ap (λ (b : Bool). given_in b q) o.is_open ∙ given_is q o.required o.len o.source o.layer is in
    omega arith
