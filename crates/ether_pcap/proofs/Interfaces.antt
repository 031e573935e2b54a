-- The interfaces of a changed copy.
use Rattle.std.proofs.Common.{◌≡◌, ℕ, ◌+◌, ◌≤◌, List, [], ◌∷◌, ◌++◌, length, take, drop, map, min, max, refl, sym, ap, subst, ◌∙◌, inl, inr, Some, None, rules}
use Rattle.std.specs.Prelude.{Option, All}
use Rattle.std.proofs.Math.Seq.{drop-length}
use Rattle.std.proofs.lemmas.List.{drop_at, drop-map, map-append, length-map}
use Rattle.std.proofs.lemmas.List.Elements.{All-nil, All-cons, All-head, All-tail}
use Rattle.ether_pcap.specs.Capture.{PacketValue, CaptureInterfaceValue, CaptureExpectation, Beginning, Records, Blocks, Begins}
use Rattle.ether_pcap.specs.Editing.{EditedValue}
use Rattle.ether_pcap.specs.CopiedUnits.{Changed, raised_len, raised_interface, expected_in, other_unit, packet_after}
use Rattle.ether_pcap.specs.Copies.{CopyFault, Copies, ended, refused, not_edited, keeps, leaves}
use Rattle.ether_pcap.specs.Copies as copies
use Rattle.ether_pcap.specs.Interfaces.{described_between, HasInterfaces, here, unit, adjusted_len, IsLike, AreAlike, KeepsInterfaces}
use Rattle.ether_pcap.proofs.CaptureLocality.{unit_local}
use Rattle.ether_pcap.proofs.CopiedUnits.{unit_in_copy}
use Rattle.ether_pcap.proofs.Copies.{other_taken, packet_copied}
use Rattle.ether_pcap.proofs.PacketUnits.{same_after}

-- ---- what libpcap asks of them

-- a raised snap length as libpcap adjusts it
adjusted_raised : (most raise n : ℕ) → 262144 ≤ most
    → adjusted_len most (raised_len raise n) ≡ max (adjusted_len most n) (min (adjusted_len most n + raise) 262144)
adjusted_raised most raise n le = search rules

module _ (most raise : ℕ) (le : 262144 ≤ most) where
  like_raised : (i j : CaptureInterfaceValue) → IsLike most i j
      → IsLike most (raised_interface raise i) (raised_interface raise j)
  like_raised i j is = record {
    link_type = is.link_type;
    snap_len =
        adjusted_raised most raise j.snap_len le
        ∙ ap (λ (n : ℕ). max n (min (n + raise) 262144)) is.snap_len
        ∙ sym (adjusted_raised most raise i.snap_len le);
  }

  all_raised : (i : CaptureInterfaceValue) (others : List CaptureInterfaceValue) → All (IsLike most i) others
      → All (IsLike most (raised_interface raise i)) (map (raised_interface raise) others)
  all_raised i [] all = All-nil (IsLike most (raised_interface raise i))
  all_raised i (j ∷ others) all =
      All-cons (IsLike most (raised_interface raise i)) (raised_interface raise j) (map (raised_interface raise) others)
      (like_raised i j (All-head (IsLike most i) j others all))
      (all_raised i others (All-tail (IsLike most i) j others all))

  pub alike_raised : (interfaces : List CaptureInterfaceValue) → AreAlike most interfaces
      → AreAlike most (map (raised_interface raise) interfaces)
  alike_raised [] all = tt
  alike_raised (i ∷ others) all = all_raised i others all

-- ---- the interfaces of the copy

none_between : (x : CaptureExpectation) → described_between x x ≡ []
none_between (Beginning m) = refl
none_between (Records h) = refl
none_between (Blocks m order interfaces) = drop-length interfaces

module _ (raise : ℕ) where
  abbrev changed : CaptureExpectation → CaptureExpectation
  changed x = expected_in (Changed raise) x

  abbrev raised : List CaptureInterfaceValue → List CaptureInterfaceValue
  raised interfaces = map (raised_interface raise) interfaces

  between_changed : (x y : CaptureExpectation)
      → described_between (changed x) (changed y) ≡ raised (described_between x y)
  between_changed (Blocks m order before) (Blocks n next all) =
      ap (λ (k : ℕ). drop k (raised all)) (length-map before (raised_interface raise))
      ∙ drop-map (raised_interface raise) (length before) all
  between_changed (Blocks m order before) (Beginning n) = refl
  between_changed (Blocks m order before) (Records h) = refl
  between_changed (Beginning m) (Blocks n next all) = refl
  between_changed (Beginning m) (Beginning n) = refl
  between_changed (Beginning m) (Records h) = refl
  between_changed (Records h) (Blocks n next all) = refl
  between_changed (Records h) (Beginning n) = refl
  between_changed (Records h) (Records g) = refl

  -- a unit that is left out describes no interface
  left_out : (x y : CaptureExpectation) (copy : List ℕ) (interfaces : List CaptureInterfaceValue) → y ≡ x
      → HasInterfaces (changed y) copy (raised interfaces) []
      → HasInterfaces (changed x) copy (raised (described_between x y ++ interfaces)) []
  left_out x y copy interfaces same has =
      subst (λ (z : CaptureExpectation). HasInterfaces (changed x) copy (raised (described_between x z ++ interfaces))
      [])
      (sym same)
      (subst (λ (l : List CaptureInterfaceValue). HasInterfaces (changed x) copy (raised (l ++ interfaces)) [])
      (sym (none_between x))
      (subst (λ (z : CaptureExpectation). HasInterfaces (changed z) copy (raised interfaces) []) same has))

  -- a unit of the copy, before others
  copied_unit : (x y : CaptureExpectation) (new others : List ℕ) (p : Option PacketValue)
      (interfaces : List CaptureInterfaceValue)
      → Begins (new ++ others) (changed x) (length new) p (changed y)
      → HasInterfaces (changed y) others (raised interfaces) []
      → HasInterfaces (changed x) (new ++ others) (raised (described_between x y ++ interfaces)) []
  copied_unit x y new others p interfaces begins has =
      subst (λ (l : List CaptureInterfaceValue). HasInterfaces (changed x) (new ++ others) l [])
      (ap (λ (l : List CaptureInterfaceValue). l ++ raised interfaces) (between_changed x y)
      ∙ sym (map-append (raised_interface raise) (described_between x y) interfaces))
      (unit (changed x) (changed y) (new ++ others) (length new) p (raised interfaces) [] begins
      (subst (λ (l : List ℕ). HasInterfaces (changed y) l (raised interfaces) [])
      (sym (drop_at new others (length new) refl)) has))

  abbrev Kept : CaptureExpectation → (bytes copy rest : List ℕ) → Type 0
  Kept x bytes copy rest =
      (interfaces : List CaptureInterfaceValue) × HasInterfaces x bytes interfaces rest
      × HasInterfaces (changed x) copy (raised interfaces) []

  module _ (Keeps : PacketValue → Type 0) (Edits : PacketValue → Option EditedValue → Type 0) where
    kept_interfaces : (x : CaptureExpectation) (bytes copy : List ℕ) (kept edited : List PacketValue) (rest : List ℕ)
        (fault : Option CopyFault) → Copies (Changed raise) Keeps Edits x bytes copy kept edited rest fault
        → Kept x bytes copy rest
    kept_interfaces x bytes copy kept edited rest fault (ended _ _ end) =
        ([], subst (HasInterfaces x bytes []) end.1 (here x bytes), here (changed x) [])
    kept_interfaces x bytes copy kept edited rest fault (refused _ _ r more is) =
        ([], here x bytes, here (changed x) [])
    kept_interfaces x bytes copy kept edited rest fault (not_edited _ y _ len p o begins is edits no_front) =
        ([], here x bytes, here (changed x) [])
    kept_interfaces x bytes copy kept edited rest fault (copies.unit _ y _ others len _ _ _ _ begins more) =
        let s = kept_interfaces y (drop len bytes) others kept edited rest fault more in
        let new = other_unit (Changed raise) y (take len bytes) in (
          described_between x y ++ s.0,
          unit x y bytes len None s.0 rest begins s.1,
          elim (unit_in_copy (Changed raise) (take len bytes) x y (other_taken bytes x y len begins)) [
            | inl left ↦
                subst (λ (l : List ℕ). HasInterfaces (changed x) (l ++ others) (raised (described_between x y ++ s.0))
                [])
                (sym left.0) (left_out x y others s.0 left.1 s.2)
            | inr is ↦
                copied_unit x y new others None s.0
                (unit_local new others (changed x) (changed y) (length new) None is) s.2
          ],
        )
    kept_interfaces x bytes copy kept edited rest fault
        (keeps _ y _ front others len p o ps qs _ _ begins is edits fits more) =
        let s = kept_interfaces y (drop len bytes) others ps qs rest fault more in (
          described_between x y ++ s.0,
          unit x y bytes len (Some p) s.0 rest begins s.1,
          copied_unit x y front others (Some (packet_after (Changed raise) p o)) s.0
              (packet_copied (Changed raise) bytes front others x y len p o begins fits) s.2,
        )
    kept_interfaces x bytes copy kept edited rest fault (leaves _ y _ _ len p _ _ _ _ begins not_kept more) =
        let s = kept_interfaces y (drop len bytes) copy kept edited rest fault more in (
          described_between x y ++ s.0,
          unit x y bytes len (Some p) s.0 rest begins s.1,
          left_out x y copy s.0 (same_after bytes x y len p begins) s.2,
        )

    pub copy_interfaces : (x : CaptureExpectation) (bytes copy : List ℕ) (kept edited : List PacketValue)
        (rest : List ℕ)
        (fault : Option CopyFault) → Copies (Changed raise) Keeps Edits x bytes copy kept edited rest fault
        → KeepsInterfaces raise x bytes copy rest
    copy_interfaces x bytes copy kept edited rest fault is =
        let s = kept_interfaces x bytes copy kept edited rest fault is in
        record {
          interfaces = s.0;
          has = s.1;
          copied = s.2;
          alike = λ most le all. alike_raised most raise le s.0 all;
        }
