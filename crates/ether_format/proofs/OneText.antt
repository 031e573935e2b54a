-- A packet has one text.
use Rattle.std.proofs.Common.{◌≡◌, ℕ, List, ◌∷◌, length, Bool, Option, Some, None, false, refl, sym, ap, ◌∙◌}
use Rattle.ether_base.specs.Formats.LinuxSllProtocolType.{told_ether_type}
use Rattle.ether_peel.specs.Grammar.Expectation.{Expectation}
use Rattle.ether_peel.specs.Grammar.Stack.{whole}
use Rattle.ether_peel.proofs.Grammar.Stacks.{one_stack}
use Rattle.ether_pcap.specs.Capture.{PacketValue, TimeValue}
use Rattle.ether_content.specs.Content.{ContentValue, Frame, LinuxSll, LinuxSll2, Unknown, content_of}
use Rattle.ether_sll2.specs.LinuxSll2.{protocol_of_header}
use Rattle.ether_sll2.proofs.LinuxSll2Laws.{rows_apart}
use Rattle.ether_output.specs.Words.{is_accepted}
use Rattle.ether_format.specs.declared.format.Format.{Format}
use Rattle.ether_format.specs.declared.moment.Moment.{Moment}
use Rattle.ether_format.specs.declared.end.End.{End}
use Rattle.ether_format.specs.declared.end.End.TheVariants.{Fault}
use Rattle.ether_format.specs.Calendar.{AreMoments}
use Rattle.ether_format.specs.Causes.{cause_of_v2}
use Rattle.ether_format.specs.Told.{Told, Tells, TellsAfter, TellsCookedV2, TellsPayload, TellsWalk, read, refused, told_end, told_stack}
use Rattle.ether_format.specs.Texts.{HasText, format_text}
use Rattle.ether_format.specs.Laws.{TextsAreOne}
use Rattle.ether_format.proofs.OneMoment.{one_moment}
use Rattle.ether_format.specs.Origins.{OriginValue}

-- what two tell is the same
abbrev pub Same : (told other : List Told) (end last : End) (accepted also : Bool) → Type 0
Same told other end last accepted also = (told ≡ other) × (end ≡ last) × (accepted ≡ also)

pub one_walk : (at : ℕ) (x : Expectation) (frame : List ℕ) (told other : List Told) (end last : End)
    (accepted also : Bool)
    → TellsWalk at x frame told end accepted → TellsWalk at x frame other last also
    → Same told other end last accepted also
one_walk at x frame told other end last accepted also a b =
    let same = one_stack frame x (whole x frame) a.headers b.headers a.ending b.ending a.walk b.walk in (
      a.is_told ∙ ap (told_stack at frame (whole x frame)) same.0 ∙ sym b.is_told,
      a.is_end ∙ ap (told_end at) same.1 ∙ sym b.is_end,
      a.verdict ∙ ap is_accepted same.1 ∙ sym b.verdict,
    )

one_payload : (at : ℕ) (first : Told) (x : Expectation) (payload : List ℕ) (told other : List Told) (end last : End)
    (accepted also : Bool)
    → TellsPayload at first x payload told end accepted → TellsPayload at first x payload other last also
    → Same told other end last accepted also
one_payload at first x payload told other end last accepted also a b =
    let same = one_walk at x payload a.later b.later end last accepted also a.walk b.walk in
    (a.whole ∙ ap (λ l. first ∷ l) same.0 ∙ sym b.whole, same.1, same.2)

one_after : (limit ether_type : Option ℕ) (bytes : List ℕ) (told other : List Told) (end last : End)
    (accepted also : Bool)
    → TellsAfter limit ether_type bytes told end accepted → TellsAfter limit ether_type bytes other last also
    → Same told other end last accepted also
one_after limit (Some n) bytes told other end last accepted also a b =
    one_payload 20 _ _ _ told other end last accepted also a b
one_after limit None bytes told other end last accepted also a b = (a.0 ∙ sym b.0, a.1 ∙ sym b.1, a.2 ∙ sym b.2)

one_cooked : (limit : Option ℕ) (bytes : List ℕ) (told other : List Told) (end last : End) (accepted also : Bool)
    → TellsCookedV2 limit bytes told end accepted → TellsCookedV2 limit bytes other last also
    → Same told other end last accepted also
one_cooked limit bytes _ _ _ _ _ _ (read told end accepted fine after) (read other last also good later) =
    one_after limit (told_ether_type (protocol_of_header bytes)) bytes told other end last accepted also after later
one_cooked limit bytes _ _ _ _ _ _ (read told end accepted fine after) (refused r row) = absurd (fine r row)
one_cooked limit bytes _ _ _ _ _ _ (refused r row) (read told end accepted fine after) = absurd (fine r row)
one_cooked limit bytes _ _ _ _ _ _ (refused r row) (refused q also) =
    (refl, ap (λ k. Fault 0 false (cause_of_v2 k)) (rows_apart.one bytes r q row also), refl)

pub one_told : (limit : Option ℕ) (len : ℕ) (f : ContentValue) (told other : List Told) (end last : End)
    (accepted also : Bool)
    → Tells limit len f told end accepted → Tells limit len f other last also → Same told other end last accepted also
one_told limit len (Frame next bytes) told other end last accepted also a b =
    one_walk 0 _ bytes told other end last accepted also a b
one_told limit len (LinuxSll s payload) told other end last accepted also a b =
    one_payload 16 _ _ payload told other end last accepted also a b
one_told limit len (LinuxSll2 bytes) told other end last accepted also a b =
    one_cooked limit bytes told other end last accepted also a b
one_told limit len Unknown told other end last accepted also a b = (a.0 ∙ sym b.0, a.1 ∙ sym b.1, a.2 ∙ sym b.2)

pub one_time : (t : Option TimeValue) (m n : Option Moment) → AreMoments t m → AreMoments t n → m ≡ n
one_time None None None a b = refl
one_time None None (Some n) a b = absurd b
one_time None (Some m) n a b = absurd a
one_time (Some t) None n a b = absurd a
one_time (Some t) (Some m) None a b = absurd b
one_time (Some t) (Some m) (Some n) a b = ap Some (one_moment t m n a b)

one_text : (format : Format) (limit : Option ℕ) (origin : OriginValue) (p : PacketValue) (text other : List ℕ)
    (accepted also : Bool)
    → HasText format limit origin p text accepted → HasText format limit origin p other also
    → (text ≡ other) × (accepted ≡ also)
one_text format limit origin p text other accepted also a b =
    let same = one_told limit (length p.packet)
    (content_of p) a.headers b.headers a.end b.end accepted also a.tells b.tells in
    let time = one_time p.time a.moment b.moment a.is_moment b.is_moment in
    (a.is_text ∙ (λ i. format_text format origin p (time i) (same.0 i) (same.1 i)) ∙ sym b.is_text, same.2)

pub texts_are_one : TextsAreOne
texts_are_one = record { moment = one_moment; text = one_text }
