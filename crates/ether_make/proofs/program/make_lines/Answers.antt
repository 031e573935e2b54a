use Rattle.std.proofs.Common.{◌≢◌, ℕ, List, [], Bool, subst}
use Rattle.std.proofs.lemmas.List.Elements.{All-nil}
use Rattle.std.proofs.KnownBytes.{Appends-nil, Consumes-nil}
use Rattle.ether_make.specs.Serial.{progress_view}
use Rattle.ether_make.specs.Program.{AfterTaking, ReadsLine, TakesLine}
use Rattle.ether_make.proofs.ProgramLemmas.{doing-begin, doing-broken, doing-fault, doing-kept, doing-last, doing-line, doing-unread}
use Rattle.ether_make.proofs.program.make_lines.Goals as goal

pub loop-number-init : goal.loop-number-init
loop-number-init g c =
    doing-begin c.args.settings.now (progress_view c.args.progress.now) (g.R.Read.remaining c.args.reader.now)
    (g.W.Write.contents c.args.writer.now)

pub loop-number-preserved : goal.loop-number-preserved
loop-number-preserved g c =
    doing-line c.args.settings.now (progress_view c.args.progress.now) _ _ _ _ _ _ c.loop-number.number
    c.next_line.new.line.items (progress_view c.loop-number.progress)
    (progress_view c.take_line.new.progress)
    (doing-kept c.args.settings.now (progress_view c.args.progress.now) _ _ _ _ _ c.loop-number.number
    (progress_view c.loop-number.progress) c.loop-number.invariant c.next_line.ensures.written)
    (subst (λ (b : Bool). ReadsLine (g.R.Read.remaining c.loop-number.reader)
    (g.R.Read.remaining c.next_line.new.reader) c.next_line.new.line.items b) c.if-not-is_ended.false
    c.in-Ok.ensures.line)
    (subst (λ (t : List ℕ). TakesLine c.args.settings.now t (g.W.Write.contents c.next_line.new.writer)
    (g.W.Write.contents c.take_line.new.writer) (progress_view c.loop-number.progress)
    (progress_view c.take_line.new.progress)) c.deref.ensures.value
    c.in_default.ensures.taken)

pub returns-then-not-is_ended-clause-made : goal.returns-then-not-is_ended-clause-made
returns-then-not-is_ended-clause-made g c =
    doing-last c.args.settings.now (progress_view c.args.progress.now) _ _ _ _ _ _ c.loop-number.number
    c.next_line.new.line.items (progress_view c.loop-number.progress)
    (progress_view c.take_line.new.progress)
    (doing-kept c.args.settings.now (progress_view c.args.progress.now) _ _ _ _ _ c.loop-number.number
    (progress_view c.loop-number.progress) c.loop-number.invariant c.next_line.ensures.written)
    (subst (λ (b : Bool). ReadsLine (g.R.Read.remaining c.loop-number.reader)
    (g.R.Read.remaining c.next_line.new.reader) c.next_line.new.line.items b) c.if-not-is_ended.true
    c.in-Ok.ensures.line)
    (subst (λ (t : List ℕ). TakesLine c.args.settings.now t (g.W.Write.contents c.next_line.new.writer)
    (g.W.Write.contents c.take_line.new.writer) (progress_view c.loop-number.progress)
    (progress_view c.take_line.new.progress)) c.deref.ensures.value
    c.in_default.ensures.taken)

pub returns-in-Err-clause-fault : goal.returns-in-Err-clause-fault
returns-in-Err-clause-fault g c =
    doing-unread c.args.settings.now (progress_view c.args.progress.now) _ _ _ _ _ _ c.loop-number.number
    (progress_view c.loop-number.progress) c.next_line.new.line.items c.in-Err.fault c.loop-number.invariant
    c.next_line.ensures.written c.in-Err.ensures.broken

pub returns-in-Err-take_line-clause-fault : goal.returns-in-Err-take_line-clause-fault
returns-in-Err-take_line-clause-fault g c =
    doing-fault c.args.settings.now (progress_view c.args.progress.now) _ _ _ _ _ _ c.loop-number.number
    (progress_view c.loop-number.progress)
    (progress_view c.take_line.new.progress)
    c.next_line.new.line.items c.in-Ok.is_ended c.in-Err-take_line.fault
    (doing-kept c.args.settings.now (progress_view c.args.progress.now) _ _ _ _ _ c.loop-number.number
    (progress_view c.loop-number.progress) c.loop-number.invariant c.next_line.ensures.written)
    c.in-Ok.ensures.line
    (subst (λ (t : List ℕ). AfterTaking c.args.settings.now c.loop-number.number t
    (g.W.Write.contents c.next_line.new.writer)
    (g.W.Write.contents c.take_line.new.writer) (progress_view c.loop-number.progress)
    (progress_view c.take_line.new.progress) c.in-Err-take_line.fault)
    c.deref.ensures.value c.in-Err-take_line.ensures.fault)

pub returns-clause-fault : goal.returns-clause-fault
returns-clause-fault g c =
    doing-broken c.args.settings.now (progress_view c.args.progress.now) _ _ _ _ _ _ c.loop-number.number
    (progress_view c.loop-number.progress) [] c.loop-number.invariant
    (Consumes-nil _) (All-nil (λ x. x ≢ 10)) (Appends-nil _)
