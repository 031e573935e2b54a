use Rattle.std.proofs.Common.{rules, ◌≡◌, ◌-◌, ℕ, List, [], ◌∷◌, ◌++◌, length, take, replicate, ap, ◌∙◌, arith}
use Rattle.std.proofs.lemmas.List.{take-replicate}
use Rattle.ether_peel.specs.Grammar.Completion.{first_filled}
use Rattle.ether_peel.proofs.completing.fill.Goals as goal

pub returns : goal.returns
returns c =
    let n = c.args.plan.now.total - length c.args.begun.now - 1 in
    let same : n - 0 ≡ n = omega arith in
    let few = c.requires.fits in
    let all : c.try_extend_from_slice.new.self.items ≡ c.push.new.self.items ++ take (n - 0) (replicate 1027 0) =
    search rules in
    let first : c.push.new.self.items ≡ first_filled c.args.begun.now c.args.plan.now.ether_type_at ∷ [] =
    search rules in
    let zeros : take (n - 0) (replicate {A = ℕ} 1027 0) ≡ replicate n 0 =
    ap (λ (k : ℕ). take k (replicate {A = ℕ} 1027 0)) same ∙ take-replicate n 1027 0 (omega arith) in
    all ∙ ap (λ (l : List ℕ). l ++ take (n - 0) (replicate 1027 0)) first
    ∙ ap (λ (l : List ℕ). first_filled c.args.begun.now c.args.plan.now.ether_type_at ∷ l) zeros
