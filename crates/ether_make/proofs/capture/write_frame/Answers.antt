use Rattle.ether_make.specs.FrameViews.{frame_view}
use Rattle.ether_make.proofs.CaptureLemmas.{first-grows, later-grows}
use Rattle.ether_make.proofs.capture.write_frame.Goals as goal

pub returns-in_ok-write_record-in-None-clause-grows : goal.returns-in_ok-write_record-in-None-clause-grows
returns-in_ok-write_record-in-None-clause-grows g c =
    λ fit.
    first-grows _ (frame_view c.args.frame.now) _ _ _ c.in-None.is c.in_ok-write_header-in-None.ensures
    (c.in_ok-write_record-in-None.ensures fit)

pub returns-in_ok-write_record-in-Some-clause-grows : goal.returns-in_ok-write_record-in-Some-clause-grows
returns-in_ok-write_record-in-Some-clause-grows g c =
    λ fit.
    later-grows _ _ (frame_view c.args.frame.now) _ _ c.in-Some.is (c.in_ok-write_record-in-Some.ensures fit)
