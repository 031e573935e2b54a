-- How a walk by hand makes a `Result`.
use Rattle.std.proofs.Common.{List, [], ◌∷◌, refl, Ok, Err}
use seplogic.Ra.Ura.{Ura}
use mir.Val.{Val, of_list}
use base.Logic.{ent}
use types.Logic.{Logic, sem}
use types.Kit.{‵, ◌$◌, ◌∵◌, !, qed, move, fjoin, fpack, feq_i, done}
use types.Match.{live}
use denote.RattleType.{RattleType, Valss, owns}
use denote.Steps.{nothing}
use denote.Enum.Row.{tagged_with}
use denote.Enum.Enum.{Enum, Enum-Lawful, form_of, in_a_row}
use denote.Struct.Recorded.{recorded_lawful}
use denote.Laws.{Lawful}
use denote.Slice.{MutSlice, mut_slice_Lawful}
use denote.Builtin.{u8}
use mir.Syntax.{Lifetime}
use base.Fml.{Lft}
use Rattle.ether_base.specs.contracts.err.slice_write_space_error.SliceWriteSpaceError as SE
use Rattle.ether_base.proofs.err.slice_write_space_error.SliceWriteSpaceError.TheLaws as SEL
use denote.Enum.Declared.{shape}
use Rattle.std.specs.contracts.result.Result as RS

abbrev pub row_of : RattleType → RattleType → RattleType
row_of R R' = RS.the_row R R'

module _ {M : Type 1} {𝓤 : Ura M} (𝓛 : Logic 𝓤) (R R' : RattleType) where
  pub ok_of : (x : R.Denot) (v : Val)
      → ent 𝓤 (sem 𝓛 (R.own_val x (v ∷ []))) (sem 𝓛 ((row_of R R').own_val (Ok x) (live 0 (of_list (v ∷ [])) ∷ [])))
  ok_of x v =
      qed 𝓛 (‵ (R.own_val x (v ∷ [])) ∷ []) ∵ nothing ! $ move ! (1 ∷ 0 ∷ []) $ fjoin ! $ feq_i ! (List Val) (v ∷ [])
      (v ∷ []) refl $ fjoin ! $
      fpack ! (Valss (R ∷ [])) (in_a_row (R ∷ []) (owns (R ∷ []) (x, tt)) (v ∷ [])) (v ∷ [], tt) $
      feq_i ! (List Val) (live 0 (of_list (v ∷ [])) ∷ []) (live 0 (of_list (v ∷ [])) ∷ []) refl $ fjoin ! $
      fpack ! (List Val)
      (tagged_with (form_of (shape (RS.the_type R R'))) (form_of (shape (RS.the_type R R'))).payload
      ((RS.the_type R R').to (Ok x)) (live 0 (of_list (v ∷ [])) ∷ []))
      (v ∷ []) $ done !

  pub err_of : (x : R'.Denot) (v : Val)
      → ent 𝓤 (sem 𝓛 (R'.own_val x (v ∷ []))) (sem 𝓛 ((row_of R R').own_val (Err x) (live 1 (of_list (v ∷ [])) ∷ [])))
  err_of x v =
      qed 𝓛 (‵ (R'.own_val x (v ∷ [])) ∷ []) ∵ nothing ! $ move ! (1 ∷ 0 ∷ []) $ fjoin ! $ feq_i ! (List Val) (v ∷ [])
      (v ∷ []) refl $ fjoin ! $
      fpack ! (Valss (R' ∷ [])) (in_a_row (R' ∷ []) (owns (R' ∷ []) (x, tt)) (v ∷ [])) (v ∷ [], tt) $
      feq_i ! (List Val) (live 1 (of_list (v ∷ [])) ∷ []) (live 1 (of_list (v ∷ [])) ∷ []) refl $ fjoin ! $
      fpack ! (List Val)
      (tagged_with (form_of (shape (RS.the_type R R'))) (form_of (shape (RS.the_type R R'))).payload
      ((RS.the_type R R').to (Err x)) (live 1 (of_list (v ∷ [])) ∷ []))
      (v ∷ []) $ done !

module _ {M : Type 1} {𝓤 : Ura M} (𝓛 : Logic 𝓤) where
  pub answer_Lawful : (ℓ : Lifetime) (κ : Lft) → Lawful 𝓛 (row_of (MutSlice ℓ κ u8) SE.the_row)
  answer_Lawful ℓ κ = let D = RS.the_type (MutSlice ℓ κ u8) SE.the_row in
      recorded_lawful (Enum (shape D)) D.D D.to D.to_one 𝓛
      (Enum-Lawful 𝓛 (shape D) tt ((mut_slice_Lawful 𝓛 ℓ κ u8, tt), ((SEL.the_row_laws.lawful 𝓛, tt), tt)))
