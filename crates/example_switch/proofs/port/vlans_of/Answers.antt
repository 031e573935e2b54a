use Rattle.std.proofs.Common.{rules, ◌≡◌, ◌++◌, [], ◌∷◌, ℕ, List, get_or, inl, inr, sym, subst, ap, ◌∙◌, arith}
use Rattle.std.proofs.lemmas.Bool.{cases_eq}
use Rattle.std.proofs.lemmas.List.{get_or_push, get_or_append_left}
use Rattle.ether_switch.specs.declared.vlan_config.VlanConfig.{VlanConfig}
use Rattle.ether_switch.specs.Vlans.{no_vlan}
use Rattle.example_switch.specs.Configured.{IsRow}
use Rattle.example_switch.proofs.port.vlans_of.Goals as goal

pub loop-vid-preserved : goal.loop-vid-preserved
loop-vid-preserved c =
    let ports = c.args.ports.now in
    let items = c.loop-vid.rows.items in
    let vid = c.loop-vid.vid in
    let row = c.vlan_of.result in
    let (len, rows) = c.loop-vid.invariant in
    let after : c.push.new.self.items ≡ items ++ row ∷ [] = search rules in
    let at : (v : ℕ) → get_or c.push.new.self.items v no_vlan ≡ get_or (items ++ row ∷ []) v no_vlan =
    λ v. ap (λ (l : List VlanConfig). get_or l v no_vlan) after in (
      search rules,
      (λ v least lt. elim (cases_eq v vid) [
        | inl e ↦
            subst (IsRow ports v) (sym (at v ∙ get_or_push items row no_vlan v (len ∙ sym e)))
            (subst (λ (n : ℕ). IsRow ports n row) (sym e) c.vlan_of.ensures)
        | inr ne ↦
            subst (IsRow ports v)
            (sym (at v ∙ get_or_append_left items (row ∷ []) no_vlan v (omega (arith, lt, ne, len))))
            (rows v least (omega (arith, lt, ne)))
      ]),
    )
