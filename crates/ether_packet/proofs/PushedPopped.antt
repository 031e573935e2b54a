-- To put a tag in and to take it off undo each other.
use Rattle.std.proofs.Common.{◌≡◌, ℕ, ◌+◌, ◌-◌, ◌≤◌, List, [], ◌∷◌, ◌++◌, length, take, drop, sym, ap, subst, ◌∙◌, arith, append_assoc, rules}
use Rattle.std.specs.Prelude.{slice_range}
use Rattle.std.proofs.lemmas.List.{drop-drop, length-append, length-drop, length-take-le, take-append-drop}
use Rattle.std.proofs.lemmas.Slice.{between_from_start}
use Rattle.etherparse.specs.Bytes.{number, spelled, overwritten}
use Rattle.etherparse.specs.Vlan.{VlanValue, IsVlan, vlan_bytes, vlan_number}
use Rattle.etherparse.specs.Header.{Header, header_len}
use Rattle.etherparse.specs.Header as headers
use Rattle.etherparse.proofs.Numbers.{length-spelled, spelled-is}
use Rattle.etherparse.proofs.SubLists.{IsBytes-part, length-part, part_join, part_of_part}
use Rattle.etherparse.proofs.VlanFields.{vlan_bytes-read}
use Rattle.ether_peel.specs.Grammar.Stack.{Ending, whole, Walk}
use Rattle.ether_peel.specs.Walker.Start.{start_of}
use Rattle.ether_peel.specs.declared.start.Start.{Start}
use Rattle.ether_peel.proofs.Grammar.Cleared.{whole_in}
use Rattle.ether_peel.proofs.Grammar.Stacks.{one_stack}
use Rattle.ether_packet.specs.TypedLink.{type_of_link, with_type}
use Rattle.ether_packet.specs.Pushing.{pushed_bytes, IsPushed}
use Rattle.ether_packet.specs.Laws.{PoppedAfterPushed, PushedAfterPopped}
use Rattle.ether_packet.proofs.Replaced.{header_inside}
use Rattle.ether_packet.proofs.VlanIds.{own_bytes}
use Rattle.ether_packet.proofs.TypedLinks.{len_kept, link_least, link_type_read, means_whole_list}
use Rattle.ether_packet.proofs.Popped.{popped_list, front_kept, rest_kept}
use Rattle.ether_packet.proofs.Pushed.{IsInserted, is_inserted}

-- ---- what was put in

inserted : (start : Start) (old new : List ℕ) (hs : List Header) (e : Ending) (tag : VlanValue) (tpid : ℕ)
    → Walk (start_of start) (drop 4 old) hs e → (p : IsPushed (start_of start) old hs e tag tpid new)
    → IsInserted (drop 4 old) new (spelled 2 tpid) (slice_range (vlan_bytes tag) 0 2) (header_len p.link - 2)
inserted start old new hs e tag tpid walk p =
    let m = header_len p.link - 2 in
    let room =
    header_inside (start_of start) (drop 4 old) [] p.link p.later e
    (subst (λ (l : List Header). Walk (start_of start) (drop 4 old) l e) p.begins.parts walk) in
    let len = length-drop 4 old in
    let least = link_least p.link p.begins.is_link in
    let till : header_len p.link + 2 ≡ 4 + m = omega arith in
    let vlan_len : length (vlan_bytes tag) ≡ 4 = length-spelled 4 (vlan_number tag) in
    let control_len : length (slice_range (vlan_bytes tag) 0 2) ≡ 2 = length-part (vlan_bytes tag) 0 2 (omega arith) in
    is_inserted old new (spelled 2 tpid) (slice_range (vlan_bytes tag) 0 2) m (length-spelled 2 tpid) control_len
    (omega arith)
    (p.bytes ∙ ap (λ (k : ℕ). overwritten old 0 (slice_range old 4 k ++ pushed_bytes tpid tag)) till)

take_is : (list other : List ℕ) (m : ℕ) → slice_range list 0 m ≡ slice_range other 0 m → take m list ≡ take m other
take_is list other m same = sym (between_from_start list m) ∙ same ∙ between_from_start other m

first_two : (h k g i : Header) (t u : List Header) → h ∷ k ∷ t ≡ g ∷ i ∷ u → (h ≡ g) × (k ≡ i)
first_two h k g i t u e = (cc, cc)

first_one : (h g : Header) (t u : List Header) → h ∷ t ≡ g ∷ u → h ≡ g
first_one h g t u e = cc

same_vlan : (v w : VlanValue) → headers.Vlan v ≡ headers.Vlan w → v ≡ w
same_vlan v w e = cc

pub popped_after_pushed : PoppedAfterPushed
popped_after_pushed start old between new hs ks e f tag popped tpid walk pushed found p =
    let x = start_of start in
    let one =
    (one_stack between x (whole x between) ks
    (with_type pushed.link tpid ∷ headers.Vlan (record tag { ether_type = type_of_link pushed.link })
    ∷ pushed.later)
    f _ found pushed.walk).0 in
    let same =
    first_two p.link (headers.Vlan popped) (with_type pushed.link tpid)
    (headers.Vlan (record tag { ether_type = type_of_link pushed.link })) p.later pushed.later
    (sym p.begins.parts ∙ one) in
    let len = ap header_len same.0 ∙ len_kept pushed.link tpid pushed.begins.is_link in
    let m = header_len pushed.link - 2 in
    let m_is : header_len p.link - 2 ≡ m = omega arith in
    let is = inserted start old between hs e tag tpid walk pushed in
    let room =
    header_inside x between (p.link ∷ []) (headers.Vlan popped) p.later f
    (subst (λ (l : List Header). Walk x between l f) p.begins.parts found) in
    let least = link_least p.link p.begins.is_link in
    let bytes : drop 4 new ≡ take m between ++ drop (m + 4) between =
    ap (drop 4) (p.bytes ∙ ap (λ (k : ℕ). overwritten between 4 (take k between)) m_is)
    ∙ popped_list between m (omega arith) in
    let back : take m between ++ drop (m + 4) between ≡ drop 4 old =
    (λ i. take_is between (drop 4 old) m is.front i ++ is.rest i) ∙ take-append-drop m (drop 4 old) in
    (bytes ∙ back, same_vlan popped (record tag { ether_type = type_of_link pushed.link }) same.1)

-- the parts of a list before, between and after
joined : (list : List ℕ) (m : ℕ)
    → take m list ++ (slice_range list m (m + 2) ++ slice_range list (m + 2) (m + 4)) ++ drop (m + 4) list ≡ list
joined list m =
    let four : m + 4 - m ≡ 4 = omega arith in
    ap (λ (l : List ℕ). take m list ++ l ++ drop (m + 4) list)
    (part_join list m (m + 2) (m + 4) (omega arith) (omega arith) ∙ ap (λ (k : ℕ). take k (drop m list)) four)
    ∙ (λ i. take m list ++ take 4 (drop m list) ++ sym (drop-drop 4 m list) i)
    ∙ append_assoc (take m list) (take 4 (drop m list)) (drop 4 (drop m list))
    ∙ ap (λ (l : List ℕ). take m list ++ l) (take-append-drop 4 (drop m list))
    ∙ take-append-drop m list

pieces_len : (list : List ℕ) (m : ℕ) → m + 4 ≤ length list
    → length (take m list ++ (slice_range list m (m + 2) ++ slice_range list (m + 2) (m + 4))) ≡ m + 4
pieces_len list m le = search (rules, part_join, length-take-le, length-part, length-append)

pub pushed_after_popped : PushedAfterPopped
pushed_after_popped start old between new hs ks e f tag ok walk p found pushed =
    let x = start_of start in
    let one =
    (one_stack (drop 4 between) x (whole x (drop 4 between)) ks (with_type p.link tag.ether_type ∷ p.later) f _
    found p.walk).0 in
    let same =
    first_one pushed.link (with_type p.link tag.ether_type) pushed.later p.later (sym pushed.begins.parts ∙ one) in
    let len = ap header_len same ∙ len_kept p.link tag.ether_type p.begins.is_link in
    let n = header_len p.link in
    let m = n - 2 in
    let least = link_least p.link p.begins.is_link in
    let tpid = type_of_link p.link in
    let split = subst (λ (l : List Header). Walk x old l e) p.begins.parts walk in
    let room = header_inside x old (p.link ∷ []) (headers.Vlan tag) p.later e split in
    let list = ap (drop 4) p.bytes ∙ popped_list old m (omega arith) in
    let till : header_len pushed.link + 2 ≡ m + 4 = omega arith in
    let less : m + 4 - 4 ≡ m = omega arith in
    let four_more : 4 + m ≡ m + 4 = omega arith in
    let front : slice_range between 4 (m + 4) ≡ take m old =
    (λ i. take (less i) (list i))
    ∙ take_is (take m old ++ drop (m + 4) old) old m (front_kept old (drop (m + 4) old) m (omega arith)) in
    let n_is : n ≡ m + 2 = omega arith in
    let read : number (slice_range old m (m + 2)) ≡ tpid =
    subst (λ (k : ℕ). number (slice_range old m k) ≡ tpid) n_is
    (link_type_read old p.link ok p.begins.is_link (means_whole_list x old p.link split.0)) in
    let type_len : length (slice_range old m (m + 2)) ≡ 2 = length-part old m (m + 2) (omega arith) ∙ omega arith in
    let type : spelled 2 tpid ≡ slice_range old m (m + 2) =
    ap (spelled 2) (sym read) ∙ spelled-is 2 (slice_range old m (m + 2)) type_len (IsBytes-part m (m + 2) old ok) in
    let from : 0 + n ≡ m + 2 = omega arith in
    let to : 0 + n + 4 ≡ m + 6 = omega arith in
    let own : IsVlan (slice_range old (m + 2) (m + 6)) tag =
    subst (λ (l : List ℕ). IsVlan l tag) (λ i. slice_range old (from i) (to i))
    (own_bytes old x (whole x old) (p.link ∷ []) (headers.Vlan tag) p.later e (whole_in x old) split) in
    let own_len : length (slice_range old (m + 2) (m + 6)) ≡ 4 =
    length-part old (m + 2) (m + 6) (omega arith) ∙ omega arith in
    let four : vlan_bytes tag ≡ slice_range old (m + 2) (m + 6) =
    vlan_bytes-read (slice_range old (m + 2) (m + 6)) tag (IsBytes-part (m + 2) (m + 6) old ok) own_len own in
    let zero_more : m + 2 + 0 ≡ m + 2 = omega arith in
    let two_more : m + 2 + 2 ≡ m + 4 = omega arith in
    let control : slice_range (vlan_bytes tag) 0 2 ≡ slice_range old (m + 2) (m + 4) =
    ap (λ (l : List ℕ). slice_range l 0 2) four ∙ part_of_part old (m + 2) (m + 6) 0 2 (omega arith) (omega arith)
    ∙ (λ i. slice_range old (zero_more i) (two_more i)) in
    let piece : slice_range between 4 (header_len pushed.link + 2) ++ pushed_bytes tpid tag
    ≡ take m old ++ (slice_range old m (m + 2) ++ slice_range old (m + 2) (m + 4)) =
    ap (λ (k : ℕ). slice_range between 4 k ++ pushed_bytes tpid tag) till ∙ (λ i. front i ++ (type i ++ control i)) in
    let piece_len = ap length piece ∙ pieces_len old m (omega arith) in
    let end : 0 + length (slice_range between 4 (header_len pushed.link + 2) ++ pushed_bytes tpid tag) ≡ 4 + m =
    omega (arith, piece_len) in
    let tail : drop (0 + length (slice_range between 4 (header_len pushed.link + 2) ++ pushed_bytes tpid tag)) between
    ≡ drop (m + 4) old =
    ap (λ (k : ℕ). drop k between) end ∙ sym (drop-drop m 4 between) ∙ ap (drop m) list
    ∙ rest_kept old (drop (m + 4) old) m (omega arith) in
    pushed.bytes ∙ (λ i. piece i ++ tail i) ∙ joined old m
