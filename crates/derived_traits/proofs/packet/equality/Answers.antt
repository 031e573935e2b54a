use Rattle.std.proofs.Common.{rules, ◌≡◌, ℕ, ◌&&◌, Bool, true, ap, ◌∙◌}
use Rattle.std.specs.Bool.{Decides}
use Rattle.std.specs.Cmp.{unsigned_Decides}
use Rattle.std.proofs.lemmas.Bool.{and_parts}
use Rattle.etherparse.specs.Types.LinkExtSlice.{LinkExtSlice}
use Rattle.etherparse.specs.Types.LinkExtSlice.TheVariants as exts
use Rattle.etherparse.specs.LinkExt.{SameExt}
use Rattle.ether_peel.specs.declared.peel_unit.PeelUnit.TheVariants as units
use Rattle.ether_peel.proofs.Walker.SameValues.{units_Decides}
use Rattle.ether_packet.specs.contracts.packet_ext.PacketExtPartialEq.TheImpl as packet_ext
use Rattle.derived_traits.proofs.packet.equality.Goals as goal

and_true : (x y : Bool) → x ≡ true → y ≡ true → x && y ≡ true
and_true x y h k = ap (λ (b : Bool). b && y) h ∙ k

both : {P Q : Type 0} (x y : Bool) → Decides x P → Decides y Q → Decides (x && y) (P × Q)
both x y p q = (λ h. let parts = and_parts x y h in (p.0 parts.0, q.0 parts.1), λ h. and_true x y (p.1 h.0) (q.1 h.1))

exts_Decides : (m n : ℕ) (a b : LinkExtSlice)
    → Decides ((packet_ext.ghosts).eq (record { offset = m; slice = a }) (record { offset = n; slice = b }))
    ((m ≡ n) × SameExt a b)
exts_Decides m n (exts.Vlan s) b = (search rules, search rules)
exts_Decides m n (exts.Macsec s) (exts.Macsec t) =
    both _ _ (unsigned_Decides m n) (units_Decides (units.Macsec s) (units.Macsec t))
exts_Decides m n (exts.Macsec s) b = (search rules, search rules)

pub returns-clause-packet_ext : goal.returns-clause-packet_ext
returns-clause-packet_ext c = λ a b. exts_Decides a.offset b.offset a.slice b.slice
