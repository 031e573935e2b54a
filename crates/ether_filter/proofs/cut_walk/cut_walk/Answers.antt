use Rattle.std.proofs.Common.{ℕ, ◌≤◌, List, refl, sym, subst, arith}
use Rattle.std.specs.Prelude.{Option}
use Rattle.ether_filter.specs.declared.prospect.OpenKind.{OpenKind}
use Rattle.ether_filter.proofs.CutWalks.{Cuts, cuts_begin, cuts_next, cuts_open, cuts_refused, cuts_accepted, rest_is, known_shorter, known_inside}
use Rattle.ether_filter.proofs.cut_walk.cut_walk.Goals as goal

pub loop-next-init : goal.loop-next-init
loop-next-init c = (
  c.requires.inside,
  λ i. omega (arith, c.type_inv.frame i),
  λ free none marks packet start frame total.
      cuts_begin packet c.args.start c.args.frame.now c.args.total c.kind_of_start-next.result
      c.type_of_start-announced.result c.args.seen.now c.args.ids.now (λ i. omega (arith, c.type_inv.frame i)) start
      frame total (c.kind_of_start-next.ensures free) c.type_of_start-announced.ensures none marks,
)

pub returns-then-not-is_whole-clause-fits : goal.returns-then-not-is_whole-clause-fits
returns-then-not-is_whole-clause-fits c = (c.is_whole.ensures.cut c.if-not-is_whole.true, c.loop-next.invariant.0)

pub returns-then-not-is_whole-clause-walk : goal.returns-then-not-is_whole-clause-walk
returns-then-not-is_whole-clause-walk c free none marks room packet start frame total =
    let a = subst (λ (k : Option OpenKind). Cuts packet k c.loop-next.known.now c.loop-next.room c.loop-next.announced
    c.loop-next.seen c.loop-next.ids) c.in-Some.is
    (c.loop-next.invariant.2 free none marks packet start frame total) in
    cuts_open packet c.in-Some.kind _ c.loop-next.announced c.loop-next.seen c.loop-next.ids refl
    (λ more. subst (λ (n : ℕ). 64 ≤ n) (sym c.loop-next.auto.ids) (room more)) a

pub find_behind-requires-clause-inside : goal.find_behind-requires-clause-inside
find_behind-requires-clause-inside c = c.loop-next.invariant.0

pub returns-in_default-find_behind-clause-walk : goal.returns-in_default-find_behind-clause-walk
returns-in_default-find_behind-clause-walk c free none marks room packet start frame total =
    let a = subst (λ (k : Option OpenKind). Cuts packet k c.loop-next.known.now c.loop-next.room c.loop-next.announced
    c.loop-next.seen c.loop-next.ids) c.in-Some.is
    (c.loop-next.invariant.2 free none marks packet start frame total) in
    cuts_refused packet c.in-Some.kind c.loop-next.known.now c.loop-next.room c.loop-next.announced c.loop-next.seen
    c.loop-next.ids (λ more. subst (λ (n : ℕ). 64 ≤ n) (sym c.loop-next.auto.ids) (room more)) a
    (rw c.in_default-find_behind.is at c.find_behind.ensures)

pub loop-next-smaller : goal.loop-next-smaller
loop-next-smaller c =
    let is = rw c.in-Some-find_behind.is at c.find_behind.ensures in
    known_shorter c.in-Some.kind c.loop-next.known.now c.loop-next.room c.in-Some-find_behind.behind
    c.first_bytes-known.result.now is
    (rest_is c.in-Some-find_behind.behind.room c.in-Some-find_behind.behind.header_len c.loop-next.known.now
    c.first_bytes-known.result.now c.first_bytes-known.ensures)

pub loop-next-preserved : goal.loop-next-preserved
loop-next-preserved c =
    let is = rw c.in-Some-find_behind.is at c.find_behind.ensures in
    let b = c.in-Some-find_behind.behind in
    let known = c.loop-next.known.now in
    let rest = rest_is b.room b.header_len known c.first_bytes-known.result.now c.first_bytes-known.ensures in (
      known_inside b.room b.header_len known c.first_bytes-known.result.now rest,
      λ i. omega (arith, c.type_inv.known i),
      λ free none marks packet start frame total.
          let a = subst (λ (k : Option OpenKind). Cuts packet k known c.loop-next.room c.loop-next.announced
          c.loop-next.seen c.loop-next.ids) c.in-Some.is
          (c.loop-next.invariant.2 free none marks packet start frame total) in
          subst (λ (l : List ℕ). Cuts packet c.kind_announced-next.result l b.room b.ether_type c.take.new.seen
          c.take.new.ids) (sym rest)
          (cuts_next packet c.in-Some.kind c.kind_announced-next.result known c.loop-next.room c.loop-next.announced
          c.loop-next.seen c.take.new.seen c.loop-next.ids c.take.new.ids b c.fields_at.result
          c.loop-next.invariant.1 a is c.fields_at.ensures c.take.ensures.taken c.take.ensures.marked
          c.take.ensures.len c.kind_announced-next.ensures),
    )

pub returns-clause-walk : goal.returns-clause-walk
returns-clause-walk c free none marks room packet start frame total =
    let a = subst (λ (k : Option OpenKind). Cuts packet k c.loop-next.known.now c.loop-next.room c.loop-next.announced
    c.loop-next.seen c.loop-next.ids) c.in_default.is
    (c.loop-next.invariant.2 free none marks packet start frame total) in
    cuts_accepted packet c.loop-next.known.now c.loop-next.room c.loop-next.announced c.loop-next.seen
    c.loop-next.ids (λ more. subst (λ (n : ℕ). 64 ≤ n) (sym c.loop-next.auto.ids) (room more)) a
