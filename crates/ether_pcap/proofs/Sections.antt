-- Section headers: one for each list of bytes, or one refusal.
use Rattle.std.proofs.Common.{◌≡◌, ℕ, ◌<◌, ◌≤◌, List, [], ◌∷◌, length, refl, sym, ap, subst, ◌∙◌, arith, rules}
use Rattle.std.specs.Prelude.{slice_range}
use Rattle.ether_base.specs.Bytes.{IsBytes, number}
use Rattle.ether_base.proofs.SubLists.{length-part, IsBytes-part}
use Rattle.ether_pcap.specs.Numbers.{Order, BigEndian, LittleEndian, number_from_low, field}
use Rattle.ether_pcap.specs.Block.{BlockValue, BlockRefusal, BeginsBlock, RefusesBlock}
use Rattle.ether_pcap.specs.Section.{SectionRefusal, HasOrder, IsVersion, IsSection, RefusesSection, short, block_type, magic, block, body, version, Block, Body, Version, BlockType, Magic}
use Rattle.ether_pcap.proofs.Blocks.{block_one, block_apart, block_refusal_one}

-- no four bytes are the byte-order magic in both orders
ends : (l : List ℕ) → length l ≡ 4 → IsBytes l → number l ≡ 0x1A2B3C4D → number_from_low l ≡ 0x1A2B3C4D → ⊥
ends (a ∷ b ∷ c ∷ d ∷ []) len ok p q =
    let x = ok 0 in let y = ok 1 in let z = ok 2 in let w = ok 3 in omega (arith, x, y, z, w, p, q)
ends l len ok p q = omega arith

part : (bytes : List ℕ) → 12 ≤ length bytes → length (slice_range bytes 8 12) ≡ 4
part bytes le = length-part bytes 8 12 le ∙ omega arith

order_one : (bytes : List ℕ) (o p : Order) → IsBytes bytes → 12 ≤ length bytes → HasOrder bytes o → HasOrder bytes p
    → o ≡ p
order_one bytes BigEndian LittleEndian ok le h k =
    absurd (ends (slice_range bytes 8 12) (part bytes le) (IsBytes-part 8 12 bytes ok) h k)
order_one bytes LittleEndian BigEndian ok le h k =
    absurd (ends (slice_range bytes 8 12) (part bytes le) (IsBytes-part 8 12 bytes ok) k h)
order_one bytes o p ok le h k = refl

enough : (bytes : List ℕ) (o : Order) (b : BlockValue) → BeginsBlock o bytes b → 12 ≤ length bytes
enough bytes o b h = omega (arith, h.whole)

-- the block in the other of two orders that are one
moved : (bytes : List ℕ) (o p : Order) (c : BlockValue) → o ≡ p → BeginsBlock p bytes c → BeginsBlock o bytes c
moved bytes o p c e k = subst (λ (q : Order). BeginsBlock q bytes c) (sym e) k

pub section_one : (bytes : List ℕ) (o p : Order) (b c : BlockValue) → IsBytes bytes → IsSection bytes o b
    → IsSection bytes p c → (o ≡ p) × (b ≡ c)
section_one bytes o p b c ok h k = search (rules, order_one, enough, block_one, moved)

pub section_apart : (bytes : List ℕ) (o : Order) (b : BlockValue) (r : SectionRefusal) → IsBytes bytes
    → IsSection bytes o b → RefusesSection bytes r → ⊥
section_apart bytes o b r ok h (short lt) = omega (arith, h.block.whole, lt)
section_apart bytes o b r ok h (block_type n le is other) = other (sym is ∙ h.section)
section_apart bytes o b r ok h (magic n le t is none) = none o h.magic
section_apart bytes o b r ok h (block p s le t m refused) =
    let e = order_one bytes o p ok le h.magic m in
    block_apart o bytes b s h.block (subst (λ (q : Order). RefusesBlock q bytes s) (sym e) refused)
section_apart bytes o b r ok h (body p c t m begins lt) =
    let e = order_one bytes o p ok (enough bytes o b h.block) h.magic m in
    let s = block_one o bytes b c h.block (moved bytes o p c e begins) in
    let n = ap (λ (v : BlockValue). length v.body) s in
    omega (arith, h.len, n, lt)
section_apart bytes o b r ok h (version p c major minor t m begins le is are none) =
    let e = order_one bytes o p ok (enough bytes o b h.block) h.magic m in
    let i : field o bytes 12 14 ≡ major = ap (λ (q : Order). field q bytes 12 14) e ∙ is in
    let j : field o bytes 14 16 ≡ minor = ap (λ (q : Order). field q bytes 14 16) e ∙ are in
    none (subst (λ (y : ℕ). IsVersion major y) j (subst (λ (x : ℕ). IsVersion x (field o bytes 14 16)) i h.version))

-- ---- and one refusal

one_block : (bytes : List ℕ) (o p : Order) (b c : BlockValue) → IsBytes bytes → HasOrder bytes o → HasOrder bytes p
    → BeginsBlock o bytes b → BeginsBlock p bytes c → b ≡ c
one_block bytes o p b c ok m n h k =
    block_one o bytes b c h (moved bytes o p c (order_one bytes o p ok (enough bytes o b h) m n) k)

two_lengths : (bytes : List ℕ) (o p : Order) (b c : BlockValue) → IsBytes bytes → HasOrder bytes o → HasOrder bytes p
    → BeginsBlock o bytes b → BeginsBlock p bytes c → length b.body < 16 → 16 ≤ length c.body → ⊥
two_lengths bytes o p b c ok m n h k lt le =
    let e = ap (λ (v : BlockValue). length v.body) (one_block bytes o p b c ok m n h k) in omega (arith, e, lt, le)

refused_block : (bytes : List ℕ) (o p : Order) (r : BlockRefusal) (c : BlockValue) → IsBytes bytes → 12 ≤ length bytes
    → HasOrder bytes o → HasOrder bytes p → RefusesBlock o bytes r → BeginsBlock p bytes c → ⊥
refused_block bytes o p r c ok le m n h k =
    block_apart o bytes c r (moved bytes o p c (order_one bytes o p ok le m n) k) h

one_refusal : (bytes : List ℕ) (o p : Order) (r s : BlockRefusal) → IsBytes bytes → 12 ≤ length bytes → HasOrder bytes o
    → HasOrder bytes p → RefusesBlock o bytes r → RefusesBlock p bytes s → r ≡ s
one_refusal bytes o p r s ok le m n h k = search (rules, block_refusal_one, order_one)

one_version : (bytes : List ℕ) (o p : Order) (a b c d : ℕ) → IsBytes bytes → 12 ≤ length bytes → HasOrder bytes o
    → HasOrder bytes p
    → field o bytes 12 14 ≡ a → field o bytes 14 16 ≡ b → field p bytes 12 14 ≡ c → field p bytes 14 16 ≡ d
    → Version a b ≡ Version c d
one_version bytes o p a b c d ok le m n ea eb ec ed = search rules

pub section_refused : (bytes : List ℕ) (r s : SectionRefusal) → IsBytes bytes → RefusesSection bytes r
    → RefusesSection bytes s → r ≡ s
section_refused bytes r s ok (short lt) (short lt2) = refl
section_refused bytes r s ok (short lt) (block_type n2 le2 is2 other2) = absurd (omega (arith, lt, le2))
section_refused bytes r s ok (short lt) (magic n2 le2 t2 is2 none2) = absurd (omega (arith, lt, le2))
section_refused bytes r s ok (short lt) (block p2 x2 le2 t2 m2 refusal2) = absurd (omega (arith, lt, le2))
section_refused bytes r s ok (short lt) (body p2 c2 t2 m2 begins2 lt2) = absurd (omega (arith, lt, begins2.whole))
section_refused bytes r s ok (short lt) (version p2 c2 major2 minor2 t2 m2 begins2 le2 is2 are2 none2) =
    absurd (omega (arith, lt, begins2.whole))
section_refused bytes r s ok (block_type n le is other) (short lt2) = absurd (omega (arith, lt2, le))
section_refused bytes r s ok (block_type n le is other) (block_type n2 le2 is2 other2) = ap BlockType (sym is ∙ is2)
section_refused bytes r s ok (block_type n le is other) (magic n2 le2 t2 is2 none2) = absurd (other (sym is ∙ t2))
section_refused bytes r s ok (block_type n le is other) (block p2 x2 le2 t2 m2 refusal2) = absurd (other (sym is ∙ t2))
section_refused bytes r s ok (block_type n le is other) (body p2 c2 t2 m2 begins2 lt2) = absurd (other (sym is ∙ t2))
section_refused bytes r s ok (block_type n le is other) (version p2 c2 major2 minor2 t2 m2 begins2 le2 is2 are2 none2) =
    absurd (other (sym is ∙ t2))
section_refused bytes r s ok (magic n le t is none) (short lt2) = absurd (omega (arith, lt2, le))
section_refused bytes r s ok (magic n le t is none) (block_type n2 le2 is2 other2) = absurd (other2 (sym is2 ∙ t))
section_refused bytes r s ok (magic n le t is none) (magic n2 le2 t2 is2 none2) = ap Magic (sym is ∙ is2)
section_refused bytes r s ok (magic n le t is none) (block p2 x2 le2 t2 m2 refusal2) = absurd (none p2 m2)
section_refused bytes r s ok (magic n le t is none) (body p2 c2 t2 m2 begins2 lt2) = absurd (none p2 m2)
section_refused bytes r s ok (magic n le t is none) (version p2 c2 major2 minor2 t2 m2 begins2 le2 is2 are2 none2) =
    absurd (none p2 m2)
section_refused bytes r s ok (block p x le t m refusal) (short lt2) = absurd (omega (arith, lt2, le))
section_refused bytes r s ok (block p x le t m refusal) (block_type n2 le2 is2 other2) = absurd (other2 (sym is2 ∙ t))
section_refused bytes r s ok (block p x le t m refusal) (magic n2 le2 t2 is2 none2) = absurd (none2 p m)
section_refused bytes r s ok (block p x le t m refusal) (block p2 x2 le2 t2 m2 refusal2) =
    ap Block (one_refusal bytes p p2 x x2 ok le m m2 refusal refusal2)
section_refused bytes r s ok (block p x le t m refusal) (body p2 c2 t2 m2 begins2 lt2) =
    absurd (refused_block bytes p p2 x c2 ok le m m2 refusal begins2)
section_refused bytes r s ok (block p x le t m refusal) (version p2 c2 major2 minor2 t2 m2 begins2 le2 is2 are2 none2) =
    absurd (refused_block bytes p p2 x c2 ok le m m2 refusal begins2)
section_refused bytes r s ok (body p c t m begins lt) (short lt2) = absurd (omega (arith, lt2, begins.whole))
section_refused bytes r s ok (body p c t m begins lt) (block_type n2 le2 is2 other2) = absurd (other2 (sym is2 ∙ t))
section_refused bytes r s ok (body p c t m begins lt) (magic n2 le2 t2 is2 none2) = absurd (none2 p m)
section_refused bytes r s ok (body p c t m begins lt) (block p2 x2 le2 t2 m2 refusal2) =
    absurd (refused_block bytes p2 p x2 c ok le2 m2 m refusal2 begins)
section_refused bytes r s ok (body p c t m begins lt) (body p2 c2 t2 m2 begins2 lt2) =
    ap (λ (v : BlockValue). Body 16 (length v.body)) (one_block bytes p p2 c c2 ok m m2 begins begins2)
section_refused bytes r s ok (body p c t m begins lt) (version p2 c2 major2 minor2 t2 m2 begins2 le2 is2 are2 none2) =
    absurd (two_lengths bytes p p2 c c2 ok m m2 begins begins2 lt le2)
section_refused bytes r s ok (version p c major minor t m begins le is are none) (short lt2) =
    absurd (omega (arith, lt2, begins.whole))
section_refused bytes r s ok (version p c major minor t m begins le is are none) (block_type n2 le2 is2 other2) =
    absurd (other2 (sym is2 ∙ t))
section_refused bytes r s ok (version p c major minor t m begins le is are none) (magic n2 le2 t2 is2 none2) =
    absurd (none2 p m)
section_refused bytes r s ok (version p c major minor t m begins le is are none) (block p2 x2 le2 t2 m2 refusal2) =
    absurd (refused_block bytes p2 p x2 c ok le2 m2 m refusal2 begins)
section_refused bytes r s ok (version p c major minor t m begins le is are none) (body p2 c2 t2 m2 begins2 lt2) =
    absurd (two_lengths bytes p2 p c2 c ok m2 m begins2 begins lt2 le)
section_refused bytes r s ok (version p c major minor t m begins le is are none)
    (version p2 c2 major2 minor2 t2 m2 begins2 le2 is2 are2 none2) = one_version bytes p p2 major minor major2 minor2 ok
    (enough bytes p c begins) m m2 is are is2 are2
