-- Lists of objects.
use Rattle.std.proofs.Common.{◌≡◌, ℕ, List, [], ◌∷◌, map, codes, Some, None, Ok, Err, Vec, Global, refl, sym, ap, ◌∙◌}
use Rattle.serde_json.specs.Data.{Data}
use Rattle.serde_json.specs.Find.{as_array}
use Rattle.serde_json.specs.View.{view, items_of, items_view}
use Rattle.serde_json.specs.declared.value.Value.{Value}
use Rattle.ether_make.specs.Objects.{given, listed, unknown_member}
use Rattle.ether_make.specs.Frames.{front, front_in, front_of, first_header, frame_bytes, frame_link, frame_meaning, frame_names, framed}
use Rattle.ether_make.specs.FrameViews.{frame_view}
use Rattle.ether_make.specs.Headers.{told, unless_unknown}
use Rattle.ether_make.specs.Refusals.{Meaning, Tells}
use Rattle.ether_make.specs.Times.{time}
use Rattle.ether_make.specs.declared.time_text.Time.{Time}
use Rattle.ether_make.specs.declared.refusal.Fault.{Fault}
use Rattle.ether_make.specs.declared.refusal.Fault.TheVariants as faults

pub listed-items : (ds : List Data) → listed (items_of ds) ≡ ds
listed-items [] = refl
listed-items (d ∷ ds) = ap (λ more. d ∷ more) (listed-items ds)

-- an array of values means the headers of their objects
pub front-array : (d : Data) (vs : List Value) → Some (items_view vs) ≡ as_array d
    → front (Some d) ≡ front_of (map view vs)
front-array d vs e = ap front_in (sym e) ∙ ap front_of (listed-items (map view vs))

-- ---- bytes, a link type or a time that is refused

abbrev pub link_told : Data → Meaning ℕ
link_told d =
    told None (codes "link") (frame_link (first_header (given (codes "headers") d)) (given (codes "link") d))

abbrev pub time_told : Data → Meaning Time
time_told d = told None (codes "time") (time (given (codes "time") d))

pub frame-bytes_fault : (d : Data) (fault : Fault) → unknown_member frame_names d ≡ None
    → Tells (λ (v : Vec ℕ Global). v.items) (frame_bytes d) (Err fault)
    → Tells frame_view (frame_meaning d) (Err fault)
frame-bytes_fault d (faults.Refused r) known h =
    ap (λ u. unless_unknown None u (framed (frame_bytes d) (link_told d) (time_told d))) known
    ∙ ap (λ b. framed b (link_told d) (time_told d)) h
frame-bytes_fault d faults.Memory known h = tt

pub frame-link_fault : (d : Data) (bytes : List ℕ) (fault : Fault) → unknown_member frame_names d ≡ None
    → frame_bytes d ≡ Ok bytes → Tells (λ (link : ℕ). link) (link_told d) (Err fault)
    → Tells frame_view (frame_meaning d) (Err fault)
frame-link_fault d bytes (faults.Refused r) known made h =
    ap (λ u. unless_unknown None u (framed (frame_bytes d) (link_told d) (time_told d))) known
    ∙ ap (λ b. framed b (link_told d) (time_told d)) made ∙ ap (λ l. framed (Ok bytes) l (time_told d)) h
frame-link_fault d bytes faults.Memory known made h = tt

pub frame-time_fault : (d : Data) (bytes : List ℕ) (link : ℕ) (fault : Fault) → unknown_member frame_names d ≡ None
    → frame_bytes d ≡ Ok bytes → link_told d ≡ Ok link → Tells (λ (t : Time). t) (time_told d) (Err fault)
    → Tells frame_view (frame_meaning d) (Err fault)
frame-time_fault d bytes link (faults.Refused r) known made linked h =
    ap (λ u. unless_unknown None u (framed (frame_bytes d) (link_told d) (time_told d))) known
    ∙ ap (λ b. framed b (link_told d) (time_told d)) made ∙ ap (λ l. framed (Ok bytes) l (time_told d)) linked
    ∙ ap (λ t. framed (Ok bytes) (Ok link) t) h
frame-time_fault d bytes link faults.Memory known made linked h = tt

pub frame-made : (d : Data) (bytes : List ℕ) (link : ℕ) (t : Time) → unknown_member frame_names d ≡ None
    → frame_bytes d ≡ Ok bytes → link_told d ≡ Ok link → time_told d ≡ Ok t
    → frame_meaning d ≡ Ok (record { link = link; time = t; packet = bytes })
frame-made d bytes link t known made linked timed =
    ap (λ u. unless_unknown None u (framed (frame_bytes d) (link_told d) (time_told d))) known
    ∙ (λ i. framed (made i) (linked i) (timed i))
