-- The clauses of the main theorem, of the one walk that a list has.
use Rattle.std.proofs.Common.{◌≡◌, ℕ, List, ◌++◌, drop, take, ap, subst, ◌∙◌}
use Rattle.std.specs.Prelude.{Result, Ok, Err, IfOk, IfErr, flat_map}
use Rattle.etherparse.specs.Types.Layer.TheVariants as layers
use Rattle.etherparse.specs.Types.SliceWriteSpaceError.{SliceWriteSpaceError}
use Rattle.etherparse.specs.Bytes.{IsBytes}
use Rattle.etherparse.specs.WriteFront.{IsRefusedSpace}
use Rattle.etherparse.specs.Header.{Header, header_bytes}
use Rattle.ether_peel.specs.Grammar.Window.{within}
use Rattle.ether_peel.specs.Grammar.Expectation.{Expectation}
use Rattle.ether_peel.specs.Grammar.Stack.{Ending, last_window, whole, Walk}
use Rattle.ether_peel.specs.Grammar.Cleared.{cleared}
use Rattle.ether_peel.specs.Walker.Next.{Faces, FacesWalk, begun}
use Rattle.ether_peel.specs.Walker.Summary.{IsSummary}
use Rattle.ether_peel.specs.Walker.WriteBack.{WritesBack, RefusesBack}
use Rattle.ether_peel.specs.Walker.MainTheorem.{HoldsHeaders, MainTheorem}
use Rattle.ether_peel.specs.declared.laws.Findings.{Findings}
use Rattle.ether_peel.proofs.Grammar.Cuts.{cuts_keep}
use Rattle.ether_peel.proofs.Walker.Items.{items_are}

held : (start : Expectation) (list old new : List ℕ) (hs : List Header) (e : Ending)
    → ((ks : List Header) (f : Ending) → Walk start list ks f → (ks ≡ hs) × (f ≡ e))
    → (r : Result ℕ SliceWriteSpaceError)
    → IfOk r (λ end. WritesBack start list end old new)
    → IfErr r (RefusesBack start list old)
    → IfErr r (λ _. new ≡ old)
    → HoldsHeaders list hs e old new r
held start list old new hs e one (Ok end) w refused kept =
    let same = one w.found w.ending w.walk in (
      w.ends ∙ ap (λ f. (last_window f).finish) same.1,
      w.bytes ∙ ap (λ ks. flat_map header_bytes ks ++ within list (last_window w.ending) ++ drop end old) same.0
          ∙ ap (λ f. flat_map header_bytes hs ++ within list (last_window f) ++ drop end old) same.1,
      w.front ∙ ap (λ ks. take end (cleared list 0 ks) ++ drop end old) same.0,
    )
held start list old new hs e one (Err error) w refused kept =
    let same = one refused.found refused.ending refused.walk in
    (subst (λ f. IsRefusedSpace (last_window f).finish layers.EtherPayload old error) same.1 refused.refused, kept)

pub main_clauses : (start : Expectation) (list old new : List ℕ) (found : Findings) → IsBytes list
    → found.walk ≡ begun start list → FacesWalk start list found.walk → IsSummary start list found.summary
    → IfOk found.written (λ end. WritesBack start list end old new) → IfErr found.written (RefusesBack start list old)
    → IfErr found.written (λ _. new ≡ old) → MainTheorem start list old new found
main_clauses start list old new found ok begins faced sum wrote refused kept =
    let same = sum.one faced.headers faced.ending faced.walk in
    let faces =
    subst (λ hs. Faces list (whole start list) found.walk hs sum.ending) same.0
    (subst (λ e. Faces list (whole start list) found.walk faced.headers e) same.1 faced.faces) in
    record {
      headers = sum.headers;
      ending = sum.ending;
      walk = sum.walk;
      one = sum.one;
      begins = begins;
      walker = faces;
      items = λ items y.
          items_are list (whole start list) found.walk sum.headers sum.ending items (ap (λ s. s.over) begins) faces y;
      summary = sum.is;
      written = held start list old new sum.headers sum.ending sum.one found.written wrote refused kept;
      cuts = λ no_fcs. cuts_keep start list sum.headers sum.ending ok no_fcs sum.walk;
      extensions = sum.extensions;
    }
