-- The views of a walk mean its headers.
use Rattle.std.proofs.Common.{◌≡◌, ℕ, List, ◌∷◌, ap, subst, ◌∙◌}
use Rattle.etherparse.specs.Bytes.{IsBytes}
use Rattle.etherparse.specs.Macsec.{sec_tag_of}
use Rattle.etherparse.specs.Header.{Header, Means}
use Rattle.etherparse.specs.Header as headers
use Rattle.etherparse.proofs.SubLists.{IsBytes-part}
use Rattle.ether_peel.specs.Grammar.Window.{within}
use Rattle.ether_peel.specs.Walker.Next.{ShowsUnit}
use Rattle.ether_peel.specs.Walker.UnitHeader.{unit_header, UnitsMeanHeaders}
use Rattle.ether_peel.specs.declared.peel_unit.PeelUnit.{PeelUnit}
use Rattle.ether_peel.proofs.Walker.ViewValues.{ethernet2_shown, linux_sll_shown, vlan_shown, macsec_shown, arp_shown}

-- a view of a unit means the unit's header
pub unit_header-shown : (bytes rest : List ℕ) (h : Header) (u : PeelUnit) → IsBytes bytes → Means bytes h
    → ShowsUnit bytes rest h u → unit_header u ≡ h
unit_header-shown bytes rest (headers.Ethernet2 e) u ok m shows =
    ap unit_header shows ∙ ap headers.Ethernet2 (ethernet2_shown bytes e ok m)
unit_header-shown bytes rest (headers.Ethernet2Fcs e) u ok m shows =
    let plain : Means bytes (headers.Ethernet2 e) = record { whole = m.whole; spells = m.spells } in
    ap unit_header shows ∙ ap headers.Ethernet2Fcs (ethernet2_shown bytes e ok plain)
unit_header-shown bytes rest (headers.LinuxSll s) u ok m shows =
    ap unit_header shows ∙ ap headers.LinuxSll (linux_sll_shown bytes s ok m)
unit_header-shown bytes rest (headers.Vlan v) u ok m shows =
    ap unit_header shows ∙ ap headers.Vlan (vlan_shown bytes v ok m)
unit_header-shown bytes rest (headers.Macsec t) u ok m shows =
    ap unit_header shows.1 ∙ ap (λ (l : List ℕ). headers.Macsec (sec_tag_of l)) shows.2.header
    ∙ ap headers.Macsec (macsec_shown bytes t ok m)
unit_header-shown bytes rest (headers.Arp a) u ok m shows =
    ap unit_header shows ∙ ap headers.Arp (arp_shown bytes a ok m)

pub units_mean_headers : UnitsMeanHeaders
units_mean_headers list w h hs e s t u ok faces going gives =
    let g = gives.next going list w (h ∷ hs) e faces in
    let some = g.1 in
    let is : g.0 ≡ u = cc in
    let shows = subst (λ (l : List ℕ). ShowsUnit l t.rest h u) faces.rest (subst (ShowsUnit s.rest t.rest h) is g.2) in
    unit_header-shown (within list w) t.rest h u (IsBytes-part w.start w.finish list ok) faces.stack.0.means shows
