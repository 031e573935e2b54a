-- A packet's headers, shown to a visitor: for the contracts of private functions.
use Rattle.std.specs.Prelude.{◌≡◌, ℕ, List, [], ◌∷◌, length, Bool, Option}
use Rattle.etherparse.specs.LinuxSll.{LinuxSllValue}
use Rattle.ether_peel.specs.Grammar.Expectation.{Expectation}
use Rattle.ether_pcap.specs.Capture.{PacketValue}
use Rattle.ether_content.specs.Content.{content_of}
use Rattle.ether_content.specs.Content as contents
use Rattle.ether_format.specs.declared.end.End.{End}
use Rattle.ether_format.specs.Told.{Told, Tells, TellsCookedV2, TellsWalk, is_end_accepted}

-- a visitor and its target took these headers, one after the other
abbrev pub Visited : {V T : Type 0} → (takes : V → T → Told → V → T → Type 0) → V → T → List Told → V → T → Type 0
Visited takes v t [] w u = (w ≡ v) × (u ≡ t)
Visited {V = V} {T = T} takes v t (h ∷ hs) w u = (x : V) × (y : T) × takes v t h x y × Visited takes x y hs w u

-- .. those that are told, and the end is returned
abbrev pub VisitsTold : {V T : Type 0} → (takes : V → T → Told → V → T → Type 0)
    → (tells : List Told → End → Bool → Type 0) → V → T → End → V → T → Type 0
VisitsTold takes tells v t end w u =
    (told : List Told) × tells told end (is_end_accepted end) × Visited takes v t told w u

-- .. of a packet
abbrev pub Visits : {V T : Type 0} → (takes : V → T → Told → V → T → Type 0) → (limit : Option ℕ) → PacketValue → V → T
    → End → V → T → Type 0
Visits takes limit p v t end w u = VisitsTold takes (Tells limit (length p.packet) (content_of p)) v t end w u

abbrev pub VisitsCooked : {V T : Type 0} → (takes : V → T → Told → V → T → Type 0) → (limit : Option ℕ)
    → LinuxSllValue → (payload : List ℕ) → V → T → End → V → T → Type 0
VisitsCooked takes limit s payload v t end w u = VisitsTold takes (Tells limit 0 (contents.LinuxSll s payload)) v t end
    w u

abbrev pub VisitsCookedV2 : {V T : Type 0} → (takes : V → T → Told → V → T → Type 0) → (limit : Option ℕ)
    → (bytes : List ℕ) → V → T → End → V → T → Type 0
VisitsCookedV2 takes limit bytes v t end w u = VisitsTold takes (TellsCookedV2 limit bytes) v t end w u

abbrev pub VisitsWalk : {V T : Type 0} → (takes : V → T → Told → V → T → Type 0) → (at : ℕ) → Expectation
    → (bytes : List ℕ) → V → T → End → V → T → Type 0
VisitsWalk takes at x bytes v t end w u = VisitsTold takes (TellsWalk at x bytes) v t end w u
