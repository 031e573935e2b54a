-- Where the evaluation goes on past primitives that ask for VLAN tags.
use Rattle.std.proofs.Common.{◌≡◌, ℕ, ◌<◌, ◌≤◌, List, length, set, subst, ap, sym, ◌∙◌, arith, true, inl, inr}
use Rattle.std.specs.Prelude.{get_or}
use Rattle.std.proofs.lemmas.Bool.{cases_eq}
use Rattle.std.proofs.lemmas.Grind.{get_or-set_at}
use Rattle.std.proofs.lemmas.List.{get_or-set_other, get_or_default}
use Rattle.ether_filter.specs.declared.jumps.Jump.{Jump}
use Rattle.ether_filter.specs.declared.node.Node.{Node}
use Rattle.ether_filter.specs.Jumps.{jump_at, asks_tags, Passes, last, more}

pub passes_more : (ns : List Node) (js : List Jump) (at next past : ℕ) (d : Node) → (jump_at js at).if_false ≡ next
    → next < length ns → asks_tags (get_or ns next d) ≡ true → Passes ns js next past → Passes ns js at past
passes_more ns js at next past d is inside asks on =
    more at past (rw is inside)
    (λ e. rw is (ap asks_tags (get_or_default ns next e d inside) ∙ asks)) (rw is on)

pub passes_last : (ns : List Node) (js : List Jump) (at next : ℕ) → (jump_at js at).if_false ≡ next
    → Passes ns js at next
passes_last ns js at next is = rw (sym is) (last at)

pub passed_set : (ns : List Node) (js : List Jump) (past : List ℕ) (at next : ℕ) → at < length past
    → Passes ns js at next → ((i : ℕ) → at < i → i < length ns → Passes ns js i (get_or past i 0))
    → (i : ℕ) → at ≤ i → i < length ns → Passes ns js i (get_or (set past at next) i 0)
passed_set ns js past at next inside on later i le lt = elim (cases_eq at i) [
  | inl same ↦ rw (get_or-set_at past at i next 0 (sym same) inside) (subst (λ k. Passes ns js k next) same on)
  | inr other ↦
      rw (get_or-set_other past at i next 0 (λ is. other (sym is))) (later i (omega (arith, le, other)) lt)
]
