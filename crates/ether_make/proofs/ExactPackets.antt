-- The line of a packet with each of its bytes makes the packet.
use Rattle.std.proofs.Common.{◌≡◌, ℕ, suc, ◌-◌, ◌^◌, ◌<◌, ◌≤◌, Bool, true, false, cond, nat_eq, List, [], ◌∷◌, ◌++◌, codes, length, get_or, take, drop, Option, Some, None, Ok, All, refl, sym, ap, ap₂, ◌∙◌, subst, arith, bytes_eq, take-append-drop}
use Rattle.std.proofs.lemmas.Bool.{eqb-true}
use Rattle.std.proofs.lemmas.List.{get_or-take, length-take, take-take, take_all}
use Rattle.std.specs.List.{flat_map}
use Rattle.std.specs.Option.{option_and_then}
use Rattle.std.specs.Prelude.{IfSome, slice_range}
use Rattle.serde_json.specs.Find.{as_array}
use Rattle.etherparse.specs.Bytes.{IsBytes}
use Rattle.etherparse.specs.Header.{Header}
use Rattle.etherparse.specs.Header as headers
use Rattle.etherparse.specs.Kind.{Kind}
use Rattle.etherparse.specs.Kind as kinds
use Rattle.etherparse.proofs.SubLists.{IsBytes-take}
use Rattle.ether_peel.specs.Grammar.Window.{Window, IsIn}
use Rattle.ether_peel.specs.Grammar.Expectation.{Expectation, Start}
use Rattle.ether_peel.specs.Grammar.Stack.{Stack, Ending, Accepted, whole, last_window}
use Rattle.ether_peel.specs.Grammar.Stack as endings
use Rattle.ether_pcap.specs.Capture.{PacketValue}
use Rattle.ether_content.specs.Content.{ContentValue, Frame, LinuxSll, LinuxSll2, Unknown, content_of, cooked_content, has_fcs, has_other_hardware, whole_len, without_fcs}
use Rattle.ether_base.specs.Formats.LinuxSll.{linux_sll_of}
use Rattle.ether_base.specs.Formats.LinuxSllProtocolType.{told_ether_type}
use Rattle.ether_sll2.specs.LinuxSll2.{protocol_of_header}
use Rattle.ether_fields.specs.Fields.{section_name}
use Rattle.ether_format.specs.Origins.{OriginValue}
use Rattle.ether_format.specs.declared.end.End.{End}
use Rattle.ether_format.specs.declared.end.End.TheVariants.{Rest, Skipped, Fault}
use Rattle.ether_format.specs.declared.moment.Moment.{Moment}
use Rattle.ether_format.specs.Calendar.{AreMoments}
use Rattle.ether_format.specs.JsonBytes.{exact_members, headers_end}
use Rattle.ether_format.specs.Told.{Told, Tells, TellsAfter, TellsCookedV2, TellsWalk, read, refused, end_section, told_end, told_stack}
use Rattle.ether_make.specs.FrameLaws.{InCapture, IsExact, MeansOne, time_or_1970}
use Rattle.ether_make.specs.Frames.{after_headers, first_header, framed, frame_bytes, frame_link, frame_meaning, frame_names, front}
use Rattle.ether_make.specs.Headers.{told, unless_unknown}
use Rattle.ether_make.specs.Objects.{given, is_among}
use Rattle.ether_make.specs.PacketData.{exact_data}
use Rattle.ether_make.specs.PacketJson.{FitsPacket}
use Rattle.ether_make.specs.Refusals.{Meaning, joined}
use Rattle.ether_make.specs.Times.{time}
use Rattle.ether_make.proofs.ExactBack.{BeginsEthernet, end_given, fault_back, front_back, headers_given, link_back, names_known, own_given, rest_back, skipped_back}
use Rattle.ether_make.proofs.ExactStacks.{FitsExact, all_fit, exact_bytes, one_exact}
use Rattle.ether_make.proofs.JsonFits.{Each}
use Rattle.ether_make.proofs.OneFrame.{means_one}
use Rattle.ether_make.proofs.StacksBack.{remade}
use Rattle.ether_make.proofs.TimesBack.{time_back}

abbrev starts : Kind → Option ℕ → Expectation
starts kind limit = record { next = Start kind; limit = limit }

headers_at : (e : Ending) → headers_end (told_end 0 e) ≡ (last_window e).start
headers_at (Accepted v y) = omega arith
headers_at (endings.Fault v y r) = omega arith

-- ---- the first header

module _ (limit : Option ℕ) (list : List ℕ) (packet : List ℕ) (ok : IsBytes packet) where
  first_plain : (hs : List Header) (e : Ending) (w : Window) → Stack list (starts kinds.Ethernet2 limit) w hs e
      → BeginsEthernet packet ok (told_stack 0 list w hs)
  first_plain [] e w s = tt
  first_plain (headers.Ethernet2 e ∷ hs) ending w s = tt
  first_plain (headers.Ethernet2Fcs e ∷ hs) ending w s = tt
  first_plain (headers.LinuxSll l ∷ hs) ending w s = let a = s.0.announced in absurd (cc)
  first_plain (headers.Vlan v ∷ hs) ending w s = let a = s.0.announced in absurd (cc)
  first_plain (headers.Macsec t ∷ hs) ending w s = let a = s.0.announced in absurd (cc)
  first_plain (headers.Arp a ∷ hs) ending w s = let b = s.0.announced in absurd (cc)

  first_fcs : (hs : List Header) (e : Ending) (w : Window) → Stack list (starts kinds.Ethernet2Fcs limit) w hs e
      → BeginsEthernet packet ok (told_stack 0 list w hs)
  first_fcs [] e w s = tt
  first_fcs (headers.Ethernet2 e ∷ hs) ending w s = tt
  first_fcs (headers.Ethernet2Fcs e ∷ hs) ending w s = tt
  first_fcs (headers.LinuxSll l ∷ hs) ending w s = let a = s.0.announced in absurd (cc)
  first_fcs (headers.Vlan v ∷ hs) ending w s = let a = s.0.announced in absurd (cc)
  first_fcs (headers.Macsec t ∷ hs) ending w s = let a = s.0.announced in absurd (cc)
  first_fcs (headers.Arp a ∷ hs) ending w s = let b = s.0.announced in absurd (cc)

  -- a walk of cooked capture v1 has no header that is exact
  none_cooked : (hs : List Header) (e : Ending) (w : Window) → Stack list (starts kinds.LinuxSll limit) w hs e
      → Each IsExact (told_stack 0 list w hs) → told_stack 0 list w hs ≡ []
  none_cooked [] e w s each = refl
  none_cooked (headers.LinuxSll l ∷ hs) ending w s each = absurd each.0
  none_cooked (headers.Ethernet2 e ∷ hs) ending w s each = let a = s.0.announced in absurd (cc)
  none_cooked (headers.Ethernet2Fcs e ∷ hs) ending w s each = let a = s.0.announced in absurd (cc)
  none_cooked (headers.Vlan v ∷ hs) ending w s each = let a = s.0.announced in absurd (cc)
  none_cooked (headers.Macsec t ∷ hs) ending w s each = let a = s.0.announced in absurd (cc)
  none_cooked (headers.Arp a ∷ hs) ending w s each = let b = s.0.announced in absurd (cc)

-- ---- the front of a packet

-- its headers are the bytes before those that follow them, and its link type is theirs
pub record HasFront (p : PacketValue) (ok : IsBytes p.packet) (hs : List Told) (end : End) : Type 0 where
  pub first : BeginsEthernet p.packet ok hs
  pub fits : Each FitsExact hs
  pub bytes : flat_map (exact_bytes p.packet) hs ≡ take (headers_end end) p.packet
  pub link : (h : Told) (r : List Told) → hs ≡ h ∷ r → p.link_type ≡ 1

no_front : (p : PacketValue) (ok : IsBytes p.packet) (hs : List Told) (end : End) → hs ≡ [] → headers_end end ≡ 0
    → HasFront p ok hs end
no_front p ok [] end none zero_end = record {
  first = tt;
  fits = tt;
  bytes = ap (λ n. take n p.packet) (sym zero_end);
  link = λ h r same. absurd (cc);
}
no_front p ok (h ∷ hs) end none zero_end = absurd (cc)

module _ (p : PacketValue) (ok : IsBytes p.packet) (limit : Option ℕ) (k : Kind) (n : ℕ) (hs : List Told) (end : End)
    (accepted : Bool) (each : Each IsExact hs)
    (t : TellsWalk 0 (starts k limit) (take n p.packet) hs end accepted) where
  abbrev list : List ℕ
  list = take n p.packet

  abbrev x : Expectation
  x = starts k limit

  abbrev w : Window
  w = whole x list

  few : IsBytes list
  few = IsBytes-take n p.packet ok

  same : (i : ℕ) → i < length list → get_or p.packet i 0 ≡ get_or list i 0
  same i lt = sym (get_or-take n p.packet i 0 (omega (arith, lt, length-take n p.packet)))

  walked : Each IsExact (told_stack 0 list w t.headers)
  walked = subst (Each IsExact) t.is_told each

  front_bytes : flat_map (exact_bytes p.packet) hs ≡ take (headers_end end) p.packet
  front_bytes =
      let inside : IsIn list w = record { ordered = omega arith; inside = omega arith } in
      let back = remade 0 list (exact_bytes p.packet) IsExact (one_exact p.packet list few same) x w t.headers t.ending
      inside walked t.walk in
      let at : headers_end end ≡ (last_window t.ending).start = ap headers_end t.is_end ∙ headers_at t.ending in
      let start = headers_end end in
      let none : start - 0 ≡ start = omega arith in
      let within : start ≤ n = omega (arith, at, back.inside, length-take n p.packet) in
      ap (flat_map (exact_bytes p.packet)) t.is_told ∙ back.bytes ∙ ap (slice_range list 0) (sym at)
      ∙ ap (λ m. take m list) none ∙ take-take start n p.packet within

  fit : Each FitsExact hs
  fit = subst (Each FitsExact) (sym t.is_told)
      (all_fit p.packet list few same x w t.headers t.ending walked t.walk)

  walk_front : BeginsEthernet p.packet ok (told_stack 0 list w t.headers) → p.link_type ≡ 1 → HasFront p ok hs end
  walk_front first one = record {
    first = subst (BeginsEthernet p.packet ok) (sym t.is_told) first;
    fits = fit;
    bytes = front_bytes;
    link = λ h r same. one;
  }

  empty_front : told_stack 0 list w t.headers ≡ [] → HasFront p ok hs end
  empty_front none =
      let empty = t.is_told ∙ none in
      record {
        first = subst (BeginsEthernet p.packet ok) (sym empty) tt;
        fits = fit;
        bytes = front_bytes;
        link = λ h r same. absurd (not_both h r (sym empty ∙ same));
      }
    where
      not_both : (h : Told) (r : List Told) → [] ≡ h ∷ r → ⊥
      not_both h r e = cc

-- ---- by the content

module _ (p : PacketValue) (ok : IsBytes p.packet) (limit : Option ℕ) (hs : List Told) (end : End)
    (accepted : Bool) (each : Each IsExact hs) where
  abbrev Shows : ContentValue → Type 0
  Shows content = Tells limit (length p.packet) content hs end accepted

  plain_front : p.link_type ≡ 1 → Shows (Frame (Start kinds.Ethernet2) (without_fcs p)) → HasFront p ok hs end
  plain_front one t =
      walk_front p ok limit kinds.Ethernet2 (whole_len p) hs end accepted each t
      (first_plain limit (without_fcs p) p.packet ok t.headers t.ending _ t.walk) one

  fcs_front : p.link_type ≡ 1 → Shows (Frame (Start kinds.Ethernet2Fcs) (take (length p.packet) p.packet))
      → HasFront p ok hs end
  fcs_front one t =
      walk_front p ok limit kinds.Ethernet2Fcs (length p.packet) hs end accepted each t
      (first_fcs limit (take (length p.packet) p.packet) p.packet ok t.headers t.ending _ t.walk) one

  ethernet_front : (b : Bool) → p.link_type ≡ 1
      → Shows (cond b (Frame (Start kinds.Ethernet2Fcs) p.packet) (Frame (Start kinds.Ethernet2) (without_fcs p)))
      → HasFront p ok hs end
  ethernet_front false one t = plain_front one t
  ethernet_front true one t =
      fcs_front one (subst (λ l. Shows (Frame (Start kinds.Ethernet2Fcs) l)) (sym (take_all (length p.packet) p.packet
      (omega arith))) t)

  cooked_front : (b : Bool)
      → Shows (cond b (LinuxSll (linux_sll_of (without_fcs p)) (slice_range (without_fcs p) 16
      (length (without_fcs p))))
      (Frame (Start kinds.LinuxSll) (without_fcs p))) → HasFront p ok hs end
  cooked_front true t = absurd (subst (Each IsExact) t.whole each).0
  cooked_front false t =
      let told_walk = subst (Each IsExact) t.is_told each in
      empty_front p ok limit kinds.LinuxSll (whole_len p) hs end accepted each t
      (none_cooked limit (without_fcs p) p.packet ok t.headers t.ending _ t.walk told_walk)

  after_front : (ether_type : Option ℕ) (bytes : List ℕ) → TellsAfter limit ether_type bytes hs end accepted
      → HasFront p ok hs end
  after_front (Some n) bytes t = absurd (subst (Each IsExact) t.whole each).0
  after_front None bytes t = absurd (subst (Each IsExact) t.0 each).0

module _ (p : PacketValue) (ok : IsBytes p.packet) (limit : Option ℕ) where
  second_front : (bytes : List ℕ) (hs : List Told) (end : End) (accepted : Bool) → Each IsExact hs
      → TellsCookedV2 limit bytes hs end accepted → HasFront p ok hs end
  second_front bytes _ _ _ each (read hs end accepted fine after) =
      after_front p ok limit hs end accepted each (told_ether_type (protocol_of_header bytes)) bytes after
  second_front bytes _ _ _ each (refused r row) = no_front p ok [] _ refl refl

  other_front : (a b : Bool) (hs : List Told) (end : End) (accepted : Bool) → Each IsExact hs
      → Tells limit (length p.packet) (cond a (cooked_content (without_fcs p)) (cond b (LinuxSll2 (without_fcs p))
      Unknown)) hs end accepted → HasFront p ok hs end
  other_front true b hs end accepted each t =
      cooked_front p ok limit hs end accepted each (has_other_hardware (without_fcs p)) t
  other_front false true hs end accepted each t = second_front (without_fcs p) hs end accepted each t
  other_front false false hs end accepted each t = no_front p ok hs end t.0 (ap headers_end t.1)

  any_front : (a : Bool) → nat_eq p.link_type 1 ≡ a → (hs : List Told) (end : End) (accepted : Bool)
      → Each IsExact hs
      → Tells limit (length p.packet) (cond a (cond (has_fcs p) (Frame (Start kinds.Ethernet2Fcs) p.packet)
      (Frame (Start kinds.Ethernet2) (without_fcs p))) (cond (nat_eq p.link_type 113) (cooked_content (without_fcs p))
      (cond (nat_eq p.link_type 276) (LinuxSll2 (without_fcs p)) Unknown))) hs end accepted → HasFront p ok hs end
  any_front true e hs end accepted each t =
      ethernet_front p ok limit hs end accepted each (has_fcs p) (eqb-true p.link_type 1 e) t
  any_front false e hs end accepted each t =
      other_front (nat_eq p.link_type 113) (nat_eq p.link_type 276) hs end accepted each t

-- ---- the object

not_headers : (end : End) → bytes_eq (codes "headers") (section_name (end_section end)) ≡ false
not_headers (Rest start finish kind) = refl
not_headers (Skipped len) = refl
not_headers (Fault start closed cause) = refl

not_link : (end : End) → bytes_eq (codes "link") (section_name (end_section end)) ≡ false
not_link (Rest start finish kind) = refl
not_link (Skipped len) = refl
not_link (Fault start closed cause) = refl

not_time : (end : End) → bytes_eq (codes "time") (section_name (end_section end)) ≡ false
not_time (Rest start finish kind) = refl
not_time (Skipped len) = refl
not_time (Fault start closed cause) = refl

known_end : (end : End) → is_among frame_names (section_name (end_section end)) ≡ true
known_end (Rest start finish kind) = refl
known_end (Skipped len) = refl
known_end (Fault start closed cause) = refl

module _ (origin : OriginValue) (p : PacketValue) (moment : Option Moment) (hs : List Told)
    (ok : IsBytes p.packet) where
  after_back : (end : End) → let d = exact_data origin p moment hs end in
      after_headers (given (codes "rest") d) (given (codes "fault") d) ≡ Ok (drop (headers_end end) p.packet)
  after_back (Rest start finish kind) =
      let end = Rest start finish kind in
      ap₂ (λ r f. after_headers r f) (end_given origin p moment hs end ok)
      (own_given origin p moment hs end ok (codes "fault") refl refl)
      ∙ rest_back p.packet ok start finish kind
  after_back (Skipped len) =
      let end = Skipped len in
      ap₂ (λ r f. after_headers r f) (end_given origin p moment hs end ok)
      (own_given origin p moment hs end ok (codes "fault") refl refl)
      ∙ skipped_back p.packet ok len
  after_back (Fault start closed cause) =
      let end = Fault start closed cause in
      ap₂ (λ r f. after_headers r f) (own_given origin p moment hs end ok (codes "rest") refl refl)
      (end_given origin p moment hs end ok)
      ∙ fault_back p.packet ok start closed cause

module _ (origin : OriginValue) (p : PacketValue) (moment : Option Moment) (hs : List Told) (end : End)
    (ok : IsBytes p.packet) (f : HasFront p ok hs end) where
  bytes_are : frame_bytes (exact_data origin p moment hs end) ≡ Ok p.packet
  bytes_are =
      ap₂ (λ (x y : Meaning (List ℕ)). joined x y)
      (ap front (headers_given origin p moment hs end ok (not_headers end)) ∙ front_back p.packet ok hs f.first f.fits)
      (after_back origin p moment hs ok end)
      ∙ ap (λ l. Ok (l ++ drop (headers_end end) p.packet)) f.bytes
      ∙ ap Ok (take-append-drop (headers_end end) p.packet)

  link_is : p.link_type < 2 ^ 16 → let d = exact_data origin p moment hs end in
      frame_link (first_header (given (codes "headers") d)) (given (codes "link") d) ≡ Ok p.link_type
  link_is small =
      ap₂ (λ h l. frame_link (first_header h) l) (headers_given origin p moment hs end ok (not_headers end))
      (own_given origin p moment hs end ok (codes "link") (not_link end) refl)
      ∙ link_back p.packet ok hs p.link_type f.first small f.link

  time_is : AreMoments p.time moment → IfSome p.time InCapture
      → time (given (codes "time") (exact_data origin p moment hs end)) ≡ Ok (time_or_1970 p.time)
  time_is is fits =
      ap time (own_given origin p moment hs end ok (codes "time") (not_time end) refl)
      ∙ time_back p.time moment is fits

  meaning_is : p.link_type < 2 ^ 16 → AreMoments p.time moment → IfSome p.time InCapture
      → frame_meaning (exact_data origin p moment hs end)
      ≡ Ok (record { link = p.link_type; time = time_or_1970 p.time; packet = p.packet })
  meaning_is small is fits =
      let d = exact_data origin p moment hs end in
      let all = framed (frame_bytes d)
      (told None (codes "link") (frame_link (first_header (given (codes "headers") d)) (given (codes "link") d)))
      (told None (codes "time") (time (given (codes "time") d))) in
      ap (λ u. unless_unknown None u all) (names_known origin p moment hs end ok (known_end end))
      ∙ (λ i. framed (bytes_are i) (told None (codes "link") (link_is small i))
      (told None (codes "time") (time_is is fits i)))

each_exact : (hs : List Told) → All IsExact hs → Each IsExact hs
each_exact [] h = tt
each_exact (x ∷ hs) h = (h 0 x (omega arith), each_exact hs (λ k d l. h (suc k) d (omega arith)))

pub frames_are_exact : (limit : Option ℕ) (origin : OriginValue) (p : PacketValue) (moment : Option Moment)
    (hs : List Told) (end : End) (accepted : Bool) → FitsPacket origin p → p.link_type < 2 ^ 16
    → AreMoments p.time moment
    → IfSome p.time InCapture → All IsExact hs → Tells limit (length p.packet) (content_of p) hs end accepted
    → frame_meaning (exact_data origin p moment hs end)
    ≡ Ok (record { link = p.link_type; time = time_or_1970 p.time; packet = p.packet })
frames_are_exact limit origin p moment hs end accepted fits small is in_capture exact t =
    let front = any_front p fits.bytes limit (nat_eq p.link_type 1) refl hs end accepted (each_exact hs exact) t in
    meaning_is origin p moment hs end fits.bytes front small is in_capture

-- .. and it is the one frame of the line
pub frames_are_one : (limit : Option ℕ) (origin : OriginValue) (p : PacketValue) (moment : Option Moment)
    (hs : List Told) (end : End) (accepted : Bool) → FitsPacket origin p → p.link_type < 2 ^ 16
    → AreMoments p.time moment
    → IfSome p.time InCapture → All IsExact hs → Tells limit (length p.packet) (content_of p) hs end accepted
    → MeansOne (exact_data origin p moment hs end)
    (record { link = p.link_type; time = time_or_1970 p.time; packet = p.packet })
frames_are_one limit origin p moment hs end accepted fits small is in_capture exact t =
    means_one (exact_data origin p moment hs end) (exact_members p.packet) hs _
    (ap (option_and_then as_array) (headers_given origin p moment hs end fits.bytes (not_headers end)))
    (frames_are_exact limit origin p moment hs end accepted fits small is in_capture exact t)
