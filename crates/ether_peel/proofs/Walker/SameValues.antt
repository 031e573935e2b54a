-- Derived equalities of units, faults, summaries and feeds, as conjunctions of what each field's equality decides.
use Rattle.std.proofs.Common.{rules, ◌≡◌, ◌==◌, ◌&&◌, Bool, true, ap, ◌∙◌}
use Rattle.std.specs.Bool.{Decides}
use Rattle.std.specs.Cmp.{unsigned_Decides, booleans_Decides}
use Rattle.std.proofs.lemmas.Bool.{and_parts}
use Rattle.std.proofs.lemmas.Slice.Eq.{bytes_eq-Decides}
use Rattle.etherparse.specs.Types.MacsecHeaderSlice.{MacsecHeaderSlice}
use Rattle.etherparse.specs.Types.MacsecPayloadSlice.{MacsecPayloadSlice}
use Rattle.etherparse.specs.Types.MacsecPayloadSlice.TheVariants as kept
use Rattle.ether_peel.specs.contracts.peel_unit.PeelUnitPartialEq.TheImpl as unit
use Rattle.ether_peel.specs.declared.peel_unit.PeelUnit.{PeelUnit}
use Rattle.ether_peel.specs.declared.peel_unit.PeelUnit.TheVariants as units
use Rattle.ether_peel.specs.Walker.SameUnit.{SameUnit}
use denote.Enum.Bare.{sameb, same_true, true_same}
use Rattle.etherparse.specs.contracts.LenSource as source
use Rattle.etherparse.specs.contracts.err.Layer as layer
use Rattle.etherparse.specs.Types.LenSource.{LenSource}
use Rattle.etherparse.specs.Types.Layer.{Layer}
use Rattle.etherparse.specs.Types.LenError.{LenError}
use Rattle.std.specs.Option.{option_eq}
use Rattle.std.specs.Prelude.{Option, Some, None}
use Rattle.ether_peel.specs.contracts.peel_error.PeelErrorPartialEq.TheImpl as error
use Rattle.ether_peel.specs.contracts.peel_fault.PeelFaultPartialEq.TheImpl as fault
use Rattle.ether_peel.specs.contracts.walk_feed.FeedPartialEq.TheImpl as feed
use Rattle.ether_peel.specs.contracts.rest_kind.RestKindPartialEq.TheImpl as kind
use Rattle.ether_peel.specs.contracts.walk_summary.SummaryPartialEq.TheImpl as summary
use Rattle.ether_peel.specs.declared.peel_error.PeelError.{PeelError}
use Rattle.ether_peel.specs.declared.peel_error.PeelError.TheVariants as errors
use Rattle.ether_peel.specs.declared.peel_fault.PeelFault.{PeelFault}
use Rattle.ether_peel.specs.declared.walk_feed.Feed.{Feed}
use Rattle.ether_peel.specs.declared.rest_kind.RestKind.{RestKind}
use Rattle.ether_peel.specs.declared.walk_summary.Summary.{Summary}
use Rattle.etherparse.specs.Types.EtherType.{EtherType}

and_true : (x y : Bool) → x ≡ true → y ≡ true → x && y ≡ true
and_true x y h k = ap (λ (b : Bool). b && y) h ∙ k

-- two tests decide both facts
both : {P Q : Type 0} (x y : Bool) → Decides x P → Decides y Q → Decides (x && y) (P × Q)
both x y p q = (λ h. let parts = and_parts x y h in (p.0 parts.0, q.0 parts.1), λ h. and_true x y (p.1 h.0) (q.1 h.1))

three : {P Q R : Type 0} (x y z : Bool) → Decides x P → Decides y Q → Decides z R → Decides (x && (y && z)) (P × Q × R)
three x y z p q r = (
  λ h. let a =
      and_parts x (y && z) h in let b =
      and_parts y z a.1 in (p.0 a.0, q.0 b.0, r.0 b.1),
  λ h. and_true x (y && z) (p.1 h.0) (and_true y z (q.1 h.1) (r.1 h.2)),
)

sources_Decides : (a b : LenSource) → Decides (sameb source.the_type a b) (a ≡ b)
sources_Decides a b = (same_true source.the_type (search rules) a b, true_same source.the_type a b)

ether_types_Decides : (a b : EtherType) → Decides (a.0 == b.0) (a ≡ b)
ether_types_Decides a b =
    let d = unsigned_Decides a.0 b.0 in
    (λ same. let e = d.0 same in λ i. record { 0 = e i }, λ e. d.1 (ap (λ (t : EtherType). t.0) e))

-- of SecTags with these headers and payloads
tagged_Decides : (h k : MacsecHeaderSlice) (a b : MacsecPayloadSlice)
    → Decides
    ((unit.ghosts).eq (units.Macsec (record { header = h; payload = a }))
    (units.Macsec (record { header = k; payload = b })))
    (SameUnit (units.Macsec (record { header = h; payload = a }))
    (units.Macsec (record { header = k; payload = b })))
tagged_Decides h k (kept.Unmodified p) (kept.Unmodified q) =
    let payload =
    three _ _ _ (ether_types_Decides p.ether_type q.ether_type) (sources_Decides p.len_source q.len_source)
    (bytes_eq-Decides p.payload.now q.payload.now) in
    both _ _ (bytes_eq-Decides h.slice.now k.slice.now) payload
tagged_Decides h k (kept.Unmodified p) (kept.Modified q) =
    both _ _ (bytes_eq-Decides h.slice.now k.slice.now) (search rules, search rules)
tagged_Decides h k (kept.Modified p) (kept.Unmodified q) =
    both _ _ (bytes_eq-Decides h.slice.now k.slice.now) (search rules, search rules)
tagged_Decides h k (kept.Modified p) (kept.Modified q) =
    both _ _ (bytes_eq-Decides h.slice.now k.slice.now) (bytes_eq-Decides p.now q.now)

pub units_Decides : (a b : PeelUnit) → Decides ((unit.ghosts).eq a b) (SameUnit a b)
units_Decides (units.Ethernet2 s) b = (search rules, search rules)
units_Decides (units.LinuxSll s) b = (search rules, search rules)
units_Decides (units.Vlan s) b = (search rules, search rules)
units_Decides (units.Macsec s) (units.Macsec t) = tagged_Decides s.header t.header s.payload t.payload
units_Decides (units.Macsec s) b = (search rules, search rules)
units_Decides (units.Arp s) b = (search rules, search rules)

-- ---- faults and summaries

layers_Decides : (a b : Layer) → Decides (sameb layer.the_type a b) (a ≡ b)
layers_Decides a b = (same_true layer.the_type (search rules) a b, true_same layer.the_type a b)

errors_Decides : (a b : PeelError) → Decides ((error.ghosts).eq a b) (a ≡ b)
errors_Decides (errors.Len a) (errors.Len b) =
    let layer =
    both _ _ (layers_Decides a.layer b.layer) (unsigned_Decides a.layer_start_offset b.layer_start_offset) in
    let source = both _ _ (sources_Decides a.len_source b.len_source) layer in
    let len = both _ _ (unsigned_Decides a.len b.len) source in
    let all = both _ _ (unsigned_Decides a.required_len b.required_len) len in (
      λ same. let e =
          all.0 same in λ i. errors.Len
          (record {
            required_len = e.0 i;
            len = e.1.0 i;
            len_source = e.1.1.0 i;
            layer = e.1.1.1.0 i;
            layer_start_offset = e.1.1.1.1 i;
          }),
      λ e. let f : a ≡ b =
          cc in all.1 (
            ap (λ (x : LenError). x.required_len) f,
            (
              ap (λ (x : LenError). x.len) f,
              (
                ap (λ (x : LenError). x.len_source) f,
                (ap (λ (x : LenError). x.layer) f, ap (λ (x : LenError). x.layer_start_offset) f),
              ),
            ),
          ),
    )
errors_Decides (errors.Len e) b = (search rules, search rules)
errors_Decides (errors.LinuxSll e) b = (search rules, search rules)
errors_Decides (errors.Macsec e) b = (search rules, search rules)

pub faults_Decides : (a b : PeelFault) → Decides ((fault.ghosts).eq a b) (a ≡ b)
faults_Decides a b =
    let rest = both _ _ (errors_Decides a.error b.error) (booleans_Decides a.closed b.closed) in
    let all = both _ _ (unsigned_Decides a.offset b.offset) rest in (
      λ same. let e = all.0 same in λ i. record { offset = e.0 i; error = e.1.0 i; closed = e.1.1 i },
      λ e.
          all.1
          (ap (λ (f : PeelFault). f.offset) e, (ap (λ (f : PeelFault). f.error) e, ap (λ (f : PeelFault). f.closed) e)),
    )

found_Decides : (a b : Option PeelFault) → Decides (option_eq (fault.ghosts).eq a b) (a ≡ b)
found_Decides None b = (search rules, search rules)
found_Decides (Some a) None = (search rules, search rules)
found_Decides (Some a) (Some b) = let d = faults_Decides a b in (λ same. ap Some (d.0 same), λ e. d.1 cc)

kinds_Decides : (a b : RestKind) → Decides ((kind.ghosts).eq a b) (a ≡ b)
kinds_Decides a b = (search rules, search rules)

pub summaries_Decides : (a b : Summary) → Decides ((summary.ghosts).eq a b) (a ≡ b)
summaries_Decides a b =
    let kind = both _ _ (kinds_Decides a.kind b.kind) (found_Decides a.fault b.fault) in
    let rest_end = both _ _ (unsigned_Decides a.rest_end b.rest_end) kind in
    let rest_start = both _ _ (unsigned_Decides a.rest_start b.rest_start) rest_end in
    let all = both _ _ (unsigned_Decides a.units b.units) rest_start in (
      λ same. let e =
          all.0 same
          in λ i. record {
            units = e.0 i;
            rest_start = e.1.0 i;
            rest_end = e.1.1.0 i;
            kind = e.1.1.1.0 i;
            fault = e.1.1.1.1 i;
          },
      λ e.
          all.1 (
            ap (λ (s : Summary). s.units) e,
            (
              ap (λ (s : Summary). s.rest_start) e,
              (
                ap (λ (s : Summary). s.rest_end) e,
                (ap (λ (s : Summary). s.kind) e, ap (λ (s : Summary). s.fault) e),
              ),
            ),
          ),
    )

pub feeds_Decides : (a b : Feed) → Decides ((feed.ghosts).eq a b) (a ≡ b)
feeds_Decides a b =
    let taken = both _ _ (unsigned_Decides a.taken b.taken) (found_Decides a.fault b.fault) in
    let all = both _ _ (unsigned_Decides a.refusals b.refusals) taken in (
      λ same. let e = all.0 same in λ i. record { refusals = e.0 i; taken = e.1.0 i; fault = e.1.1 i },
      λ e. all.1 (ap (λ (f : Feed). f.refusals) e, (ap (λ (f : Feed). f.taken) e, ap (λ (f : Feed). f.fault) e)),
    )
