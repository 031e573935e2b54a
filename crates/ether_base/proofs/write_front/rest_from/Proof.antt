-- `rest_from` lends the bytes from an index on, or refuses: a walk of its MIR by hand.
use Rattle.std.proofs.Common.{◌≡◌, ℕ, ◌+◌, ◌-◌, ◌*◌, ◌^◌, ◌<◌, ◌≤◌, List, [], ◌∷◌, length, refl, sym, arith, length-drop, take-append-drop, lit<, nltb→le, ltb→lt, w64, MutBor, Ok, Err, Bool, true, false, T}
use mathlib.Core.Bool.{◌&&◌}
use Rattle.std.specs.Prelude.{take, drop as drop_list}
use Rattle.std.proofs.raw_atomic.Walks.{proved}
use mir.Syntax.{named}
use mir.Val.{Val, vint, vstruct, vcons, vnil}
use base.Stored.{coded_list}
use base.Fml.{ftrue, flft, fobs, fres}
use contract.Running.{tables}
use types.Kit.{‵, ◌⊛◌, later, some, at_ret, ◌$◌, ◌∵◌, !, qed, move, keep, drop, use1, use2, split, split3, join, fsplit, fsplit3, fjoin, rewrite, await, pick, suffices, frame, done}
use types.Part.{whole, sub, agg}
use types.Match.{live}
use types.Run.{stop, fld, of_opd, lit, bin, addr, and_then, no_more, first, branches, skips, exec, returns, returns_within, enter}
use types.ByLocal.{alloc_all, pass_all, free_all, look_at, get, get_in, through, sets, env}
use denote.Builtin.{u8, usize}
use denote.Exit.{yes, no}
use denote.Follow.{follows_by}
use denote.FollowSlice.{heres_id}
use denote.Memory.{mem}
use denote.Plain.{uint_vals, uint_Tells}
use denote.RattleType.{RattleType, owns}
use denote.Signature.{plain, mut_slice_of}
use denote.Slice.{MutSlice, Room, slice_val, mut_slice_vals, mut_slice_Tells}
use denote.Steps.{nothing, owned}
use denote.Triple.Walked.{says, Stays, stay_dropped, walk_of, ends_at, Goes-dropped, Goes-spent_slice}
use borrow.Table.Elements.{at, at_mul, length-take-le}
use Rattle.ether_base.proofs.WriteFrontResult.{ok_of, err_of, row_of}
use Rattle.ether_base.proofs.WriteFrontLoan.{lends_tail, tail_lent}
use denote.Struct.Laws as structs
use Rattle.ether_base.specs.contracts.err.layer.Layer as layers
use Rattle.ether_base.proofs.err.layer.Layer.TheLaws as layer_laws
use Rattle.ether_base.specs.contracts.err.slice_write_space_error.SliceWriteSpaceError as SE
use Rattle.ether_base.proofs.err.slice_write_space_error.SliceWriteSpaceError.TheLaws as error_laws
use Rattle.ether_base.specs.contracts.write_front.rest_from as F
use Rattle.ether_base.proofs.write_front.rest_from.Statement.{statement}
use Rattle.ether_base.proofs.write_front.rest_from.Code as code

abbrev layer_vals : layers.the_row.Denot → List Val
layer_vals layer = layer_laws.the_told.val layer ∷ []

alone : (b : Bool) → T b → T (b && true)
alone true t = t
alone false t = absurd t

abbrev stayed : Stays F.ended.signature.params F.ended.kept
stayed = (
  stay_dropped (mut_slice_of (0 ∷ []) tt (plain (λ _. u8))) no,
  (stay_dropped (plain (λ _. usize)) yes, (stay_dropped (plain (λ _. layers.the_row)) yes, tt)),
)

pub rest_from_spec : {M : Type 1} → statement M
unfolding follows_by
rest_from_spec 𝓤 𝓛 𝓜 𝓡 wired =
    let c = F.clauses 𝓛 𝓜.mem 𝓡.returns in let W = walk_of 𝓛 F.ended stayed c in let 𝓣 = tables 𝓤 𝓛.H 𝓜 𝓡 𝓡.env in
    proved 𝓛 F.ended stayed c 𝓜 𝓡 (
      Goes-spent_slice 𝓛 1 (0 ∷ []) tt (plain (λ _. u8)),
      (
        Goes-dropped 𝓛 1 (plain (λ _. usize)) yes (λ κs x f. refl),
        (Goes-dropped 𝓛 1 (plain (λ _. layers.the_row)) yes (λ κs x f. refl), tt),
      ),
    )
    F.Key.name code.function (code.unfolded 𝓤 𝓛.H 𝓜 𝓡 wired)
    (λ κs. (mut_slice_vals, (uint_vals w64, (layer_vals, tt))))
    (λ κs. (mut_slice_Tells (named 0) κs.0 u8, (uint_Tells w64, (layer_laws.the_told.tells, tt))))
    (λ κs qs bounds a g are.
    let κ = κs.0 in
    let q = qs.0 in
    let b = a.0.ref_ptr.0 in
    let o = a.0.ref_ptr.1 in
    let γ = a.0.ghost_name in
    let all = a.0.now in
    let m = a.1.0 in
    let layer = a.1.1.0 in
    let n = length all in
    let Lent : RattleType = MutSlice (named 0) κ u8 in let Out : RattleType = row_of Lent SE.the_row in
    let y : W.Ghost = ((κs, qs, bounds, a, (mut_slice_vals a.0, (vint w64 m ∷ [], (layer_vals layer, tt)))), tt) in
    let fn : n < 2 ^ 64 = are.0.0.1.0 in
    let fm : m < 2 ^ 64 = are.1.0.1 in
    let typed = ((layer_laws.the_row_laws).lawful 𝓛).typed layer (layer_vals layer) are.1.1.0 in
    let room : n * 1 < 2 ^ 63 = are.0.0.1.1 in
    qed 𝓛 (((‵ (flft κ q) ⊛ ‵ ftrue) ⊛ ‵ (owns (Lent ∷ usize ∷ layers.the_row ∷ []) a y.0.4)) ∷ ‵ ftrue ∷ []) ∵
    split ! $ split ! $ move ! (2 ∷ []) $ fsplit ! $ keep ! (0 ∷ 2 ∷ []) $
    -- [the slice; the token]
    enter ! _ _ _ _ _ $ alloc_all !
    (λ l. pass_all ! refl ((tt, (tt, (record { fits = fn }, tt))), ((tt, record { fits = fm }), (typed.0, tt))) $
    sets ! (of_opd ! (get_in ! (fld ! refl (stop !)) (sub ! 1 refl (whole !)))) refl (tt, record { fits = fn }) $
    sets ! (bin ! (get ! refl) (get ! refl) tt) refl (tt, tt) $
    first ! $ branches ! (get ! refl)
    (λ short.
    let e : SE.the_row.Denot = record { required_len = m; len = n; layer = layer; layer_start_offset = 0 } in
    let lv : Val = layer_laws.the_told.val layer in
    let ev : Val = vstruct (vcons (vint w64 m) (vcons (vint w64 n) (vcons lv (vcons (vint w64 0) vnil)))) in
    let is_e =
    structs.owes SE.the_type error_laws.the_laws e ((refl, fm), ((refl, fn), (are.1.1.0, ((refl, lit< tt), tt)))) in
    let typed_e = ((error_laws.the_row_laws).lawful 𝓛).typed e (ev ∷ []) is_e in
    sets !
    (agg !
    (and_then ! (get ! refl)
    (and_then ! (get ! refl) (and_then ! (get ! refl) (and_then ! (lit ! tt) (no_more !))))))
    refl typed_e.0 $
    sets ! (agg ! (and_then ! (lit ! tt) (and_then ! (get ! refl) (no_more !)))) refl
    (alone _ typed_e.0.0, (record { fits = lit< tt }, (typed_e.0.1, tt))) $
    returns_within ! (W.post y) refl (look_at ! 0 refl) $ free_all ! refl $
    fsplit3 ! $ drop ! $ rewrite ! 0 (λ (zs : List ℕ). ‵ (fobs γ ((coded_list u8.coded).code zs))) (heres_id u8 all)
    refl $
    use1 𝓛 (‵ (fres γ ((coded_list u8.coded).code all))) (𝓛.names.obs-res γ ((coded_list u8.coded).code all)) $
    move ! (2 ∷ 0 ∷ []) $
    -- [the token; the whole's last list; its borrow]
    owned ! SE.the_row _ (structs.makes SE.the_type error_laws.the_plain 𝓛) e (ev ∷ []) is_e $
    use1 𝓛 (‵ (Out.own_val (Err e) (live 1 (vcons ev vnil) ∷ []))) (err_of 𝓛 Lent SE.the_row e ev) $
    keep ! (0 ∷ 1 ∷ 2 ∷ []) $
    suffices ! _
    (ends_at 𝓛 F.ended stayed c y (live 1 (vcons ev vnil)) (Err e) (tt, (tt, (tt, tt))) (tt, (tt, (tt, tt)))) $
    nothing ! $ nothing ! $ fjoin ! $ nothing ! $ fjoin ! $ nothing ! $ fjoin ! $ join ! $ nothing !
    $ move ! (2 ∷ 0 ∷ [])
    $ join ! $ join ! $ frame ! $ says ! (record { short = ltb→lt n m short; error = refl }) $ done !)
    (λ long. let le : m ≤ n = nltb→le n m long in
    let front : List ℕ = take m all in let back : List ℕ = drop_list m all in let p : ℕ = m + o in
    let lf : length front ≡ m = length-take-le m all le in let lb : length back ≡ n - m = length-drop m all in
    let fr : n - m < 2 ^ 64 = omega arith in
    let at_front : at o 1 (length front) ≡ length front * 1 + o = at_mul o 1 (length front) in
    let on : at o (mem u8).size (length front) ≡ p = omega arith in
    let rb : Room u8 (length back) = (omega arith, omega arith) in
    skips ! $ exec ! 𝓣.C 𝓣.Λ (env code.Mir.locals l) code.Mir.t-4 (at_ret _ (W.post y)) $
    sets ! (bin ! (get_in ! (fld ! refl (stop !)) (sub ! 0 refl (whole !))) (get ! refl) tt) refl (tt, tt) $
    sets ! (bin ! (get_in ! (fld ! refl (stop !)) (sub ! 1 refl (whole !))) (get ! refl) le) refl
    (tt, record { fits = fr }) $
    sets ! (addr ! (through ! refl (stop !))) refl (tt, tt) $
    sets ! (agg ! (and_then ! (get ! refl) (and_then ! (get ! refl) (no_more !)))) refl
    (tt, (tt, (record { fits = fr }, tt))) $
    sets ! (agg ! (and_then ! (lit ! tt) (and_then ! (get ! refl) (no_more !)))) refl
    (tt, (record { fits = lit< tt }, ((tt, (record { fits = fr }, tt)), tt))) $
    rewrite ! 0
    (λ (zs : List ℕ). ‵ (Lent.own_val (record { ref_ptr = (b, o); ghost_name = γ; now = zs }) (mut_slice_vals a.0)))
    (sym (take-append-drop m all)) refl $
    use2 𝓛 (later (some (tail_lent 𝓛 κ q b o γ front back p on)))
    (lends_tail 𝓛 κ q b o γ front back p on rb (mut_slice_vals a.0)) $ await ! tt $ pick ! (λ δ.
    returns ! (look_at ! 0 refl) $ free_all ! refl $ keep ! (0 ∷ []) $ split3 ! $
    let r : MutBor (List ℕ) = record { ref_ptr = (b, p); ghost_name = δ; now = back } in
    let v : Val = slice_val (b, p) (n - m) in
    rewrite ! 0 (λ (k : ℕ). ‵ (Lent.own_val r (slice_val (b, p) k ∷ []))) lb refl $
    use1 𝓛 (‵ (Out.own_val (Ok r) (live 0 (vcons v vnil) ∷ []))) (ok_of 𝓛 Lent SE.the_row r v) $
    suffices ! _ (ends_at 𝓛 F.ended stayed c y (live 0 (vcons v vnil)) (Ok r) (tt, (tt, (tt, tt))) (tt, (tt, (tt, tt))))
    $
    nothing ! $ nothing ! $ fjoin ! $ nothing ! $ fjoin ! $ nothing ! $ fjoin ! $ join ! $ nothing !
    $ move ! (2 ∷ 0 ∷ [])
    $ join ! $ join ! $ frame ! $ says ! (record { room = le; same = refl }) $ done !))))
