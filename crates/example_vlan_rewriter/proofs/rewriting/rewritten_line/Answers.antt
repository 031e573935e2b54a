use Rattle.std.proofs.Common.{◌≡◌, ℕ, List, Option, Some, None, Result, Ok, Err, IfOk, sym, subst}
use Rattle.std.specs.Prelude.{IfSome, IfNone, string_bytes, String}
use Rattle.std.specs.declared.alloc.AllocError.{AllocError}
use Rattle.etherparse.specs.Header.{Header}
use Rattle.ether_peel.specs.Grammar.Stack.{Ending, Walk}
use Rattle.ether_peel.specs.Walker.Start.{start_of}
use Rattle.ether_peel.specs.declared.start.Start.{Start}
use Rattle.ether_packet.specs.Setting.{FindsVlan, LacksVlan, SetsTag}
use Rattle.example_vlan_rewriter.specs.Lines.{line_of, Rewrites, sets, stays, HasLine}
use Rattle.example_vlan_rewriter.proofs.rewriting.rewritten_line.Goals as goal

rewrites : (start : Start) (found : Option ℕ) (old new : List ℕ) (from to : ℕ)
    → IfSome found (λ i. (hs : List Header) (e : Ending) → Walk (start_of start) old hs e
    → FindsVlan hs from i × SetsTag (start_of start) old hs e i (λ tag. record tag { vid = to }) new)
    → IfNone found ((hs : List Header) (e : Ending) → Walk (start_of start) old hs e → LacksVlan hs from)
    → IfNone found (new ≡ old)
    → (hs : List Header) (e : Ending) → Walk (start_of start) old hs e → Rewrites start old hs e from to new
rewrites start (Some i) old new from to some none kept hs e walk =
    let s = some hs e walk in sets i new s.0 s.1
rewrites start None old new from to some none kept hs e walk =
    subst (Rewrites start old hs e from to) (sym kept) (stays (none hs e walk))

has_line : {A : Type 0} (start : Start) (r : Result (String A) AllocError) (old new : List ℕ) (from to : ℕ)
    → IfOk r (λ text. string_bytes text ≡ line_of new)
    → ((hs : List Header) (e : Ending) → Walk (start_of start) old hs e → Rewrites start old hs e from to new)
    → IfOk r (λ text. HasLine start old from to (string_bytes text))
has_line start (Ok text) old new from to is rewritten = record { new = new; rewritten = rewritten; written = is }
has_line start (Err e) old new from to is rewritten = tt

pub returns : goal.returns
returns c =
    let old = c.args.frame.now in
    let new = c.replace_vlan_id-index.new.frame in
    let r = c.replace_vlan_id-index.ensures in
    has_line c.args.start c.line.result old new c.args.from c.args.to c.line.ensures
    (rewrites c.args.start c.replace_vlan_id-index.result old new c.args.from c.args.to r.some r.none r.kept)
