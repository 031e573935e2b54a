-- Whether all frames of a run were accepted.
use Rattle.std.specs.Prelude.{Bool, true, false}
use Rattle.ether_text.specs.declared.verdict.Verdict.{Verdict}
use Rattle.ether_text.specs.declared.verdict.Verdict.TheVariants.{AllAccepted, SomeRefused}

-- the verdict on frames, by whether all of them are accepted
abbrev pub verdict_of : Bool → Verdict
verdict_of true = AllAccepted
verdict_of false = SomeRefused

-- the verdict with a further frame
abbrev pub verdict_with : Verdict → Bool → Verdict
verdict_with AllAccepted accepted = verdict_of accepted
verdict_with SomeRefused accepted = SomeRefused
