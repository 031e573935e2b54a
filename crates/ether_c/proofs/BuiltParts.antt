-- Units that are none of a packet.
use Rattle.std.proofs.Common.{◌≡◌, ℕ, ◌+◌, ◌≤◌, List, [], ◌∷◌, ◌++◌, length, drop, take, sym, ap, subst, ◌∙◌, arith}
use Rattle.std.proofs.lemmas.List.{take-append-drop}
use Rattle.etherparse.specs.Types.LinkExtHeader.{LinkExtHeader}
use Rattle.etherparse.specs.Types.LinkHeader.{LinkHeader}
use Rattle.ether_c.specs.declared.ether_unit.EtherUnit.{EtherUnit}
use Rattle.ether_c.specs.Passed.{PassesLink, PassesNoArp}
use Rattle.ether_c.specs.Building.{AreExts, AreSplit, RefusesTags, PassesNoPacket, bad_tags, bad_arp}

pub tags_refused : (us inner outer : List EtherUnit) (first : EtherUnit) (link : LinkHeader) (n : ℕ) (bytes : List ℕ)
    (status index : ℕ) → us ≡ first ∷ inner → PassesLink first link → outer ≡ take n inner
    → AreSplit (take n inner) (drop n inner) → RefusesTags outer status index → PassesNoPacket us bytes status index
tags_refused us inner outer first link n bytes status index parts is front split refused =
    bad_tags first link (take n inner) (drop n inner) status index
    (parts ∙ ap (λ (l : List EtherUnit). first ∷ l) (sym (take-append-drop n inner))) is split
    (subst (λ (l : List EtherUnit). RefusesTags l status index) front refused)

pub arp_refused : (us inner outer last : List EtherUnit) (first : EtherUnit) (link : LinkHeader)
    (exts : List LinkExtHeader) (n : ℕ) (bytes : List ℕ) (status : ℕ) → us ≡ first ∷ inner → PassesLink first link
    → outer ≡ take n inner
    → last ≡ drop n inner → AreSplit (take n inner) (drop n inner) → AreExts outer exts → length outer ≤ 8
    → ((u : EtherUnit) × (last ≡ u ∷ []) × PassesNoArp u bytes status)
    → PassesNoPacket us bytes status (length outer + 1)
arp_refused us inner outer last first link exts n bytes status parts is front back split are few refused =
    let u = refused.0 in
    let rest : drop n inner ≡ u ∷ [] = sym back ∙ refused.1 in
    let index : 1 + length outer ≡ length outer + 1 = omega arith in
    let whole : us ≡ first ∷ outer ++ u ∷ [] = parts
    ∙ ap (λ (l : List EtherUnit). first ∷ l) (sym (take-append-drop n inner))
    ∙ (λ i. first ∷ (sym front i ++ rest i)) in
    subst (PassesNoPacket us bytes status) index
    (bad_arp first link outer exts u status whole is are few (subst (AreSplit (take n inner)) rest split) refused.2)
