-- The fault of a summary, and the open refusal that it shows.
use Rattle.std.proofs.Common.{◌≡◌, ℕ, ◌<◌, ◌≤◌, List, length, refl, sym, ap, subst, ◌∙◌, arith, false}
use Rattle.std.specs.Prelude.{slice_range, Option, Some}
use Rattle.etherparse.specs.Types.LenError.{LenError}
use Rattle.etherparse.specs.Types.Layer.{Layer}
use Rattle.etherparse.specs.Bytes.{IsBytes}
use Rattle.etherparse.specs.Header.{Header}
use Rattle.etherparse.specs.Refusal.{Refusal, Length, UnsupportedPacketType, UnsupportedHardwareType, UnexpectedVersion, InvalidShortLen, Refuses}
use Rattle.etherparse.proofs.SubLists.{IsBytes-part}
use Rattle.etherparse.proofs.Rows.{row_short}
use Rattle.ether_peel.specs.Grammar.Window.{within}
use Rattle.ether_peel.specs.Grammar.Expectation.{Expectation}
use Rattle.ether_peel.specs.Grammar.Stack.{Ending, Accepted, Fault, last_window, whole, Walk}
use Rattle.ether_peel.specs.Grammar.Endings.{OpenRefusal}
use Rattle.ether_peel.specs.Grammar.Completion.{CanBeCompleted, Plan, IsShort, fill, Completes, NothingToComplete}
use Rattle.ether_peel.specs.Grammar.Completion as plans
use Rattle.ether_peel.specs.Walker.Summary.{IsSummary, fault_of}
use Rattle.ether_peel.specs.Walker.Fault.{error_at, fault_in}
use Rattle.ether_peel.specs.declared.peel_error.PeelError.TheVariants as errors
use Rattle.ether_peel.specs.declared.peel_fault.PeelFault.{PeelFault}
use Rattle.ether_peel.specs.declared.walk_summary.Summary.{Summary}
use Rattle.ether_peel.proofs.Grammar.Carrying.{leads}
use Rattle.ether_peel.proofs.Grammar.Extensions.{no_fcs, walk_open_to_end}
use Rattle.ether_peel.proofs.Grammar.Completed.{refused_row, plan_short, completes}
use Rattle.ether_peel.proofs.Walker.TagFront.{tag_most}

-- ---- a refusal is shown

abbrev pub shown_refusal : (e : Ending) → OpenRefusal e → PeelFault
shown_refusal e o = record {
  offset = (last_window e).start;
  error =
      errors.Len
      (record {
        required_len = o.required;
        len = o.len;
        len_source = o.source;
        layer = o.layer;
        layer_start_offset = (last_window e).start;
      });
  closed = false;
}

fault_shown : (e : Ending) (o : OpenRefusal e) → fault_of e ≡ Some (shown_refusal e o)
fault_shown (Accepted v y) o = let e = o.refused in absurd cc
fault_shown (Fault v y r) o =
    let refused = o.refused in
    let same : r ≡ Length o.required o.len o.source o.layer = cc in
    let is_open = o.is_open in
    λ i. Some (record { offset = v.start; error = error_at v.start (same i); closed = is_open i })

-- an open refusal of a list is the fault of its summary
pub refusal_shown : (start : Expectation) (list : List ℕ) (s : Summary) (hs : List Header) (e : Ending)
    → IsSummary start list s → Walk start list hs e → (o : OpenRefusal e) → s.fault ≡ Some (shown_refusal e o)
refusal_shown start list s hs e found walk o =
    ap (λ (u : Summary). u.fault) found.is ∙ ap fault_of (sym (found.one hs e walk).1) ∙ fault_shown e o

-- ---- what is shown is a refusal

error_of : (start : ℕ) (r : Refusal) (error : LenError) → error_at start r ≡ errors.Len error
    → r ≡ Length error.required_len error.len error.len_source error.layer
error_of start (Length required len source layer) error e =
    let same : record {
      required_len = required;
      len = len;
      len_source = source;
      layer = layer;
      layer_start_offset = start;
    }
    ≡ error =
    cc in
    ap (λ (x : LenError). Length x.required_len x.len x.len_source x.layer) same
error_of start (UnsupportedPacketType n) error e = absurd cc
error_of start (UnsupportedHardwareType n) error e = absurd cc
error_of start UnexpectedVersion error e = absurd cc
error_of start InvalidShortLen error e = absurd cc

record Shown (e : Ending) (f : PeelFault) (error : LenError) : Type 0 where
  pub refusal : OpenRefusal e
  pub layer : refusal.layer ≡ error.layer
  pub len : refusal.len ≡ error.len
  pub start : (last_window e).start ≡ f.offset

shown : (e : Ending) (f : PeelFault) (error : LenError) → fault_of e ≡ Some f → f.closed ≡ false
    → f.error ≡ errors.Len error → Shown e f error
shown (Accepted v y) f error e is_open is = absurd cc
shown (Fault v y r) f error e is_open is =
    let same : fault_in v r ≡ f = cc in
    let closed = ap (λ (x : PeelFault). x.closed) same ∙ is_open in
    record {
      refusal =
          record {
            required = error.required_len;
            len = error.len;
            source = error.len_source;
            layer = error.layer;
            refused = ap Some (error_of v.start r error (ap (λ (x : PeelFault). x.error) same ∙ is));
            is_open = closed;
          };
      layer = refl;
      len = refl;
      start = ap (λ (x : PeelFault). x.offset) same;
    }

-- ---- what is begun there

-- the fault of a length in an open window: the bytes from its offset on are the window in which the walk ends
pub record Found (start : Expectation) (list : List ℕ) (f : PeelFault) (error : LenError) : Type 0 where
  pub headers : List Header
  pub ending : Ending
  pub walk : Walk start list headers ending
  pub refusal : OpenRefusal ending
  pub layer : refusal.layer ≡ error.layer
  pub len : refusal.len ≡ length (slice_range list f.offset (length list))
  pub same_len : error.len ≡ refusal.len
  pub inside : f.offset ≤ length list
  pub begun : within list (last_window ending) ≡ slice_range list f.offset (length list)
  pub short : IsShort (slice_range list f.offset (length list)) error.layer

pub found : (start : Expectation) (list : List ℕ) (s : Summary) (f : PeelFault) (error : LenError)
    → IsSummary start list s → s.fault ≡ Some f → f.closed ≡ false → f.error ≡ errors.Len error
    → Found start list f error
found start list s f error is fault is_open of_length =
    let e = is.ending in
    let v = last_window e in
    let w = shown e f error (sym (ap (λ (u : Summary). u.fault) is.is) ∙ fault) is_open of_length in
    let o = w.refusal in
    let l = leads list start (whole start list) is.headers e is.walk in
    let ends = walk_open_to_end start list is.headers e (no_fcs start list is.headers e is.walk o) is.walk in
    let row = refused_row list e (Length o.required o.len o.source o.layer) l.1 o.refused in
    let short = row_short v.bound o.source (within list v) row.0 o.required o.len o.layer row.2 in
    let bytes : within list v ≡ slice_range list f.offset (length list) =
    ap (slice_range list v.start) (ends.ends o.is_open)
    ∙ ap (λ (n : ℕ). slice_range list n (length list)) w.start in
    let here : Refuses v.bound (slice_range list f.offset (length list)) row.0
    (Length o.required o.len o.source error.layer) =
    subst (λ (l : List ℕ). Refuses v.bound l row.0 (Length o.required o.len o.source error.layer)) bytes
    (subst (λ (x : Layer). Refuses v.bound (within list v) row.0 (Length o.required o.len o.source x)) w.layer
    row.2) in
    let at = w.start in
    let ordered = ends.is_in.ordered in
    let inside = ends.is_in.inside in
    record {
      headers = is.headers;
      ending = e;
      walk = is.walk;
      refusal = o;
      layer = w.layer;
      len = short.0 ∙ ap length bytes;
      same_len = sym w.len;
      inside = omega arith;
      begun = bytes;
      short = (v.bound, row.0, o.required, o.len, o.source, here);
    }

-- ---- what comes of it

-- a unit that cannot be completed
pub nothing : (start : Expectation) (list : List ℕ) (s : Summary) (f : PeelFault) (error : LenError)
    → IsSummary start list s → s.fault ≡ Some f → f.error ≡ errors.Len error → Found start list f error
    → (CanBeCompleted error.layer (length (slice_range list f.offset (length list))) → ⊥) → NothingToComplete start list
nothing start list s f error is fault of_length a never hs e walk o can =
    let same : f ≡ shown_refusal e o = cc (fault, refusal_shown start list s hs e is walk o) in
    let other : errors.Len error ≡ (shown_refusal e o).error = sym of_length ∙ ap (λ (x : PeelFault). x.error) same in
    let layer : o.layer ≡ error.layer = cc other in
    let len : o.len ≡ error.len = cc other in
    never
    (subst (CanBeCompleted error.layer) (len ∙ a.same_len ∙ a.len)
    (subst (λ (x : Layer). CanBeCompleted x o.len) layer can))

plan_most : (bytes : List ℕ) (layer : Layer) (total : ℕ) (place : Option ℕ) → IsBytes bytes
    → Plan bytes layer total place → total ≤ 1028
plan_most bytes layer total place ok plans.Plan.ethernet2 = omega arith
plan_most bytes layer total place ok plans.Plan.vlan = omega arith
plan_most bytes layer total place ok (plans.Plan.macsec t begins) =
    let most = tag_most t begins.fits.sci_present begins.fits.short_len in omega arith
plan_most bytes layer total place ok plans.Plan.arp = let h = ok 4 in let p = ok 5 in omega arith

-- one that can
pub record Filled (start : Expectation) (list begun : List ℕ) (total : ℕ) (place : Option ℕ) : Type 0 where
  pub short : length begun < total
  pub most : total ≤ 1028
  pub completes : Completes start list (fill begun total place)

pub filled : (start : Expectation) (list : List ℕ) (f : PeelFault) (error : LenError) (total : ℕ) (place : Option ℕ)
    → IsBytes list → Found start list f error → let begun = slice_range list f.offset (length list) in
    CanBeCompleted error.layer (length begun) → Plan begun error.layer total place → Filled start list begun total place
filled start list f error total place ok a can plan =
    let begun = slice_range list f.offset (length list) in
    let o = a.refusal in
    let here : Plan (within list (last_window a.ending)) o.layer total place =
    subst (λ (l : List ℕ). Plan l o.layer total place) (sym a.begun)
    (subst (λ (x : Layer). Plan begun x total place) (sym a.layer) plan) in
    let able : CanBeCompleted o.layer o.len =
    subst (CanBeCompleted o.layer) (sym a.len)
    (subst (λ (x : Layer). CanBeCompleted x (length begun)) (sym a.layer) can) in
    record {
      short =
          subst (λ (l : List ℕ). length l < total) a.begun
          (plan_short start list a.headers a.ending o total place ok a.walk able here);
      most = plan_most begun error.layer total place (IsBytes-part f.offset (length list) list ok) plan;
      completes =
          subst (λ (l : List ℕ). Completes start list (fill l total place)) a.begun
          (completes start list a.headers a.ending o total place ok a.walk able here);
    }
