-- A header's `write_to_slice`: `put` writes the front and hands the whole slice back, and `rest_from` lends the rest.
-- One walk, at any header
-- type, any width and any layer.
use Rattle.std.proofs.Common.{◌≡◌, ℕ, ◌^◌, ◌<◌, ◌≤◌, List, [], ◌∷◌, ◌++◌, length, refl, ap, ltb→lt, T, ltb, w8, w64, MutBor}
use Rattle.std.specs.Prelude.{drop as drop_list, take, Result}
use Rattle.std.proofs.raw_atomic.Walks.{proved}
use seplogic.Ra.Ura.{Ura}
use mir.Syntax.{Ty, Fn, Body, Callee, erased, named, imm, mut, ty_int, ty_ref, local, value_local, field, deref, place, copy, int, assign, addr_of, aggregate, seq, call, return}
use mir.Val.{Val, vint, vnil, bits}
use base.Logic.{sep, emp, id⊢}
use base.Fml.{Lft, ftrue, flft}
use prog.Wp.{Closed}
use prog.Model.{Model}
use contract.Monad.{fact}
use contract.Running.{Running, MachineTables, tables}
use types.Logic.{Logic, sem}
use types.Kit.{‵, raw, ◌⊛◌, later, some, ◌$◌, ◌∵◌, !, qed, move, keep, drop, use1, use2, split, split3, join, fjoin, rewrite, await, pick, suffices, frame, done}
use types.Match.{live}
use types.Part.{whole, sub, agg}
use types.Run.{stop, fld, hop, from, addr, lit, and_then, no_more, returns, enter}
use types.ByLocal.{alloc_all, pass_all, free_all, look_at, look_in_at, get, get_in, sets, lands_as}
use denote.Builtin.{u8, usize}
use denote.Exit.{yes, no}
use denote.Enum.Laws.{makes}
use denote.Laws.{Is, shows}
use denote.Memory.{pointee}
use denote.Param.{layout}
use denote.Plain.{uint_Makes}
use denote.Ref.{shr_vals, shr_Tells}
use denote.RattleType.{RattleType}
use denote.Signature.{Signature, plain, shr_ref_to, mut_slice_of}
use denote.Slice.{MutSlice, slice_ty, mut_slice_vals, mut_slice_Tells}
use denote.Steps.{nothing, owned, only, heard, peeks}
use denote.Triple.Call.{calls_at}
use denote.Triple.Clauses.{Ended, Clauses, closing, lasts}
use denote.Triple.Spec.{Meets, triple_of}
use denote.Triple.Table.{framed}
use denote.Triple.Walked.{says as says_so, Stays, stay_dropped, walk_of, ends_at, Goes-dropped, Goes-spent_slice}
use Rattle.ether_base.proofs.WriteFrontResult.{row_of, answer_Lawful}
use Rattle.ether_base.proofs.WriteFront.{answers, fronts, lends}
use Rattle.ether_base.specs.WriteFront.{AnswersRest, LendsRest}
use Rattle.ether_base.specs.declared.err.layer.Layer.{Layer}
use Rattle.ether_base.specs.declared.err.slice_write_space_error.SliceWriteSpaceError.{SliceWriteSpaceError}
use Rattle.ether_base.specs.contracts.err.layer.Layer as layers
use Rattle.ether_base.proofs.err.layer.Layer.TheLaws as layer_laws
use Rattle.ether_base.specs.contracts.err.slice_write_space_error.SliceWriteSpaceError as SE
use Rattle.ether_base.specs.contracts.write_front.rest_from as g
use Rattle.ether_base.specs.contracts.write_front.rest_from.Key.{name as #rest_from}

abbrev pub Answer : Lft → RattleType
Answer κ = row_of (MutSlice (named 1) κ u8) SE.the_row

-- ---- the two contracts, at a header type R and its bytes
module _ (R : RattleType) where
  abbrev pub signature : Signature
  signature = record {
    lifetimes = 2;
    outlives = [];
    params = shr_ref_to (0 ∷ []) tt (plain (λ _. R)) ∷ mut_slice_of (1 ∷ []) tt (plain (λ _. u8)) ∷ [];
    result = plain (λ κs. Answer κs.1.0);
  }

  abbrev pub ended : Ended
  ended = record { signature = signature; kept = (yes, (no, tt)) }

  abbrev pub put_signature : Signature
  put_signature = record {
    lifetimes = 2;
    outlives = [];
    params = shr_ref_to (0 ∷ []) tt (plain (λ _. R)) ∷ mut_slice_of (1 ∷ []) tt (plain (λ _. u8)) ∷ [];
    result = mut_slice_of (1 ∷ []) tt (plain (λ _. u8));
  }

  abbrev pub put_ended : Ended
  put_ended = record { signature = put_signature; kept = (yes, (no, tt)) }

  abbrev pub stayed : Stays (signature).params (ended).kept
  stayed = (
    stay_dropped (shr_ref_to (0 ∷ []) tt (plain (λ _. R))) yes,
    (stay_dropped (mut_slice_of (1 ∷ []) tt (plain (λ _. u8))) no, tt),
  )

  module _ {M : Type 1} {𝓤 : Ura M} (𝓛 : Logic 𝓤) (bytes : R.Denot → List ℕ) (m : ℕ) (layer : Layer) where
    abbrev pub clauses : Clauses 𝓤 ended
    clauses κs a = record {
      ghost = Unit {0};
      requires = λ _. emp 𝓤;
      ensures = λ _ r _. sep 𝓤 (sem 𝓛 (LendsRest (bytes a.0.now) a.1.0 r)) (fact 𝓤 (AnswersRest m layer a.1.0.now r));
    }

    abbrev pub put_clauses : Clauses 𝓤 put_ended
    put_clauses κs a = record {
      ghost = Unit {0};
      requires = λ _. emp 𝓤;
      ensures =
          λ _ r _.
          sep 𝓤 (fact 𝓤 (r.ghost_name ≡ a.1.0.ghost_name))
          (sep 𝓤 (fact 𝓤 (m ≤ length a.1.0.now → r.now ≡ bytes a.0.now ++ drop_list m a.1.0.now))
          (sep 𝓤 (fact 𝓤 (length a.1.0.now < m → r.now ≡ a.1.0.now)) (fact 𝓤 (length (bytes a.0.now) ≡ m))));
    }

-- ---- the code that both compile to
abbrev byte : Ty
byte = ty_int w8

abbrev ref : Ty
ref = ty_ref erased mut byte

-- `from = &mut s[..]` at local s, by way of the locals p and d
abbrev relends : ℕ → ℕ → ℕ → Body → Body
relends s p d rest =
    seq (assign (place p []) (addr_of (place s (field 0 ∷ deref byte ∷ []))))
    (seq (assign (place d []) (aggregate (copy (place p []) ∷ copy (place s (field 1 ∷ [])) ∷ []))) rest)

abbrev pub function : Ty → Callee → Callee → ℕ → ℕ → Fn
function τ put rest m tag = record {
  lifetimes = 2;
  outlives = [];
  ty_params = [];
  givens = 0;
  params = 2;
  locals =
      local (layout (Answer [])) value_local ∷ local (ty_ref (named 0) imm τ) value_local ∷ local
      (slice_ty (ty_ref (named 1) mut byte)) value_local ∷ local (slice_ty ref) value_local
      ∷ local ref value_local ∷ local (slice_ty ref) value_local ∷ local ref value_local ∷ local (slice_ty ref)
      value_local ∷ local (layout layers.the_row) value_local ∷ [];
  body =
      relends 2 4 5
      (seq (call put (copy (place 1 []) ∷ copy (place 5 []) ∷ []) (place 3 []))
      (relends 3 6 7
      (seq (assign (place 8 []) (aggregate (int w8 tag ∷ [])))
      (seq (call rest (copy (place 7 []) ∷ int w64 m ∷ copy (place 8 []) ∷ []) (place 0 [])) return))));
}

module _ (R : RattleType) (#put : Callee) (m : ℕ) (small : T (ltb m (2 ^ bits w64))) (layer : Layer) (tag : ℕ)
    (byte_tag : T (ltb tag (2 ^ bits w8))) (is_layer : Is layers.the_row layer (live tag vnil ∷ [])) {M : Type 1}
    {𝓤 : Ura M} (𝓛 : Logic 𝓤) (𝓜 : Model 𝓤 𝓛.H) (𝓡 : Running 𝓤 𝓛.H 𝓜) (bytes : R.Denot → List ℕ) where
  open 𝓛 use {H}

  abbrev 𝓣 : MachineTables 𝓤 H 𝓜
  𝓣 = tables 𝓤 H 𝓜 𝓡 𝓡.env

  pub meets : (#self : Callee) → Closed 𝓤 H 𝓣.C 𝓣.Λ #self (function (pointee R.written) #put #rest_from m tag)
      → Meets 𝓛 (put_signature R) (𝓣.C #put) (closing 𝓛 (put_ended R) (put_clauses R 𝓛 bytes m layer))
      → Meets 𝓛 g.signature (𝓣.C #rest_from) (g.spec 𝓛 𝓜.mem 𝓡.returns)
      → Meets 𝓛 (signature R) (𝓣.C #self) (closing 𝓛 (ended R) (clauses R 𝓛 bytes m layer))
  meets #self closed met-put met-rest =
      let c = clauses R 𝓛 bytes m layer in let W = walk_of 𝓛 (ended R) (stayed R) c in
      proved 𝓛 (ended R) (stayed R) c 𝓜 𝓡 (
        Goes-dropped 𝓛 2 (shr_ref_to (0 ∷ []) tt (plain (λ _. R))) yes (λ κs x f. refl),
        (Goes-spent_slice 𝓛 2 (1 ∷ []) tt (plain (λ _. u8)), tt),
      )
      #self (function (pointee R.written) #put #rest_from m tag) closed
      (λ κs. (shr_vals, (mut_slice_vals, tt)))
      (λ κs. (shr_Tells (named 0) κs.0 R, (mut_slice_Tells (named 1) κs.1.0 u8, tt))) (λ κs qs bounds a _ are.
      let κ = κs.1.0 in
      let q = qs.1.0 in
      let self = a.0 in
      let out = a.1.0 in
      let old = out.now in
      let bs = bytes self.now in
      let n = length old in
      let Lent : RattleType = MutSlice (named 1) κ u8 in
      let typed = ((layer_laws.the_row_laws).lawful 𝓛).typed layer (live tag vnil ∷ []) is_layer in
      let fn : n < 2 ^ 64 = are.1.0.0.1.0 in let fm : m < 2 ^ 64 = ltb→lt m (2 ^ bits w64) small in
      let y : W.Ghost = ((κs, qs, bounds, a, (shr_vals self, (mut_slice_vals out, tt))), tt) in
      let P = triple_of 𝓛 (put_signature R) (closing 𝓛 (put_ended R) (put_clauses R 𝓛 bytes m layer)) in
      let z : P.Ghost = y in
      qed 𝓛 (raw (P.pre z) ∷ []) ∵ enter ! _ _ _ _ _ $
      alloc_all ! (λ l. pass_all ! refl ((tt, tt), ((tt, (tt, (record { fits = fn }, tt))), tt)) $
      sets ! (addr ! (from ! (fld ! refl (hop ! (look_in_at ! 2 (sub ! 0 refl (whole !))) (stop !))))) refl (tt, tt) $
      sets !
      (agg !
      (and_then ! (get ! refl)
      (and_then ! (get_in ! (fld ! refl (stop !)) (sub ! 1 refl (whole !))) (no_more !))))
      refl (tt, (tt, (record { fits = fn }, tt))) $
      calls_at ! (framed 𝓤 H 𝓜 𝓣) P met-put z (and_then ! (get ! refl) (and_then ! (get ! refl) (no_more !))) (λ v.
      let Same = λ (r : MutBor (List ℕ)). r.ghost_name ≡ out.ghost_name in
      let Wrote = λ (r : MutBor (List ℕ)). m ≤ n → r.now ≡ bs ++ drop_list m old in
      let Kept = λ (r : MutBor (List ℕ)). n < m → r.now ≡ old in
      use1 𝓛
      (later
      (some
      (λ (r : MutBor (List ℕ)).
      ((‵ (flft κs.0 qs.0) ⊛ ‵ (flft κ q) ⊛ ‵ ftrue) ⊛ ‵ (Lent.own_val r (v ∷ []))) ⊛
      some (λ (ws : Unit {0} × (Unit {0} × Unit {0})).
      ‵ (lasts (put_ended R) κs a ws) ⊛
      (raw (fact 𝓤 (Same r)) ⊛ raw (fact 𝓤 (Wrote r)) ⊛ raw (fact 𝓤 (Kept r)) ⊛ raw (fact 𝓤 (length bs ≡ m)))))))
      (id⊢ 𝓤 _) $
      await ! tt $ pick !
      (λ r.
      split ! $ split ! $ split3 ! $ move ! (4 ∷ []) $ pick !
      (λ ws.
      split ! $ drop ! $ split ! $ heard ! _
      (λ same. split ! $ heard ! _ (λ wrote. split ! $ heard ! _ (λ kept. heard ! _ (λ width.
      -- [two tokens; nothing; the whole slice]
      move ! (3 ∷ []) $ peeks ! Lent _ (shows 𝓛 Lent) r (v ∷ [])
      (λ is. rewrite ! 0 (λ (vs : List Val). ‵ (Lent.own_val r vs)) is.0.0 refl $
      lands_as ! (ap only is.0.0) refl (tt, (tt, (record { fits = is.0.1.0 }, tt))) $
      sets ! (addr ! (from ! (fld ! refl (hop ! (look_in_at ! 3 (sub ! 0 refl (whole !))) (stop !))))) refl (tt, tt) $
      sets !
      (agg !
      (and_then ! (get ! refl)
      (and_then ! (get_in ! (fld ! refl (stop !)) (sub ! 1 refl (whole !))) (no_more !))))
      refl (tt, (tt, (record { fits = is.0.1.0 }, tt))) $
      sets ! (agg ! (and_then ! (lit ! byte_tag) (no_more !))) refl typed.0 $
      let G = triple_of 𝓛 g.signature (g.spec 𝓛 𝓜.mem 𝓡.returns) in
      let z' : G.Ghost = (
        (
          (κ, tt),
          (q, tt),
          tt,
          (r, (m, (layer, tt))),
          (mut_slice_vals r, (vint w64 m ∷ [], (live tag vnil ∷ [], tt))),
        ),
        tt,
      ) in
      nothing ! $ owned ! layers.the_row _ (makes layers.the_type layer_laws.the_plain 𝓛) layer _ is_layer $ join ! $
      owned ! usize _ (uint_Makes 𝓛 w64) m _ (refl, fm) $ join ! $ move ! (1 ∷ 0 ∷ []) $ join ! $ nothing ! $ move !
      (3 ∷ 0 ∷ []) $ join ! $ join ! $
      nothing ! $ move ! (1 ∷ 0 ∷ []) $ use2 𝓛 (raw (G.pre z')) (id⊢ 𝓤 _) $
      calls_at ! (framed 𝓤 H 𝓜 𝓣) G met-rest z'
      (and_then ! (get ! refl) (and_then ! (lit ! small) (and_then ! (get ! refl) (no_more !)))) (λ v'.
      let Heard = λ (x : Result (MutBor (List ℕ)) SliceWriteSpaceError). AnswersRest m layer r.now x in
      use1 𝓛
      (later
      (some
      (λ (x : Result (MutBor (List ℕ)) SliceWriteSpaceError).
      ((‵ (flft κ q) ⊛ ‵ ftrue) ⊛ ‵ ((Answer κ).own_val x (v' ∷ []))) ⊛
      some (λ (us : Unit {0} × (Unit {0} × (Unit {0} × Unit {0}))).
      ‵ (lasts g.ended (κ, tt) (r, (m, (layer, tt))) us) ⊛
      (‵ (LendsRest (take m r.now) r x) ⊛ raw (fact 𝓤 (Heard x)))))))
      (id⊢ 𝓤 _) $
      await ! tt $ pick !
      (λ x. split ! $ split ! $ move ! (1 ∷ []) $ peeks ! (Answer κ) _ (shows 𝓛 (Answer κ)) x (v' ∷ []) (λ is'.
      lands_as ! refl refl ((answer_Lawful 𝓛 (named 1) κ).typed x (v' ∷ []) is').0 $
      move ! (2 ∷ []) $ pick ! (λ us. split ! $ drop ! $ split ! $ move ! (1 ∷ []) $ heard ! _ (λ said.
      use1 𝓛 (‵ (LendsRest bs out x)) (lends 𝓛 m r bs out x same (fronts m layer r.now bs old width wrote kept x said))
      $
      -- [the loan; the answer; the token of the slice; nothing; the other token]
      returns ! (look_at ! 0 refl) $ free_all ! refl $ keep ! (1 ∷ 3 ∷ 2 ∷ 0 ∷ []) $
      suffices ! _ (ends_at 𝓛 (ended R) (stayed R) c y v' x (tt, (tt, tt)) (tt, (tt, tt))) $
      nothing ! $ nothing ! $ fjoin ! $ nothing ! $ fjoin ! $ join ! $ move ! (1 ∷ 2 ∷ []) $ join ! $ join ! $ frame ! $
      says_so ! (answers m layer r.now bs old width wrote kept x said) $ done !)))))))))))))))
