-- The tag directly after the header of a link.
use Rattle.std.proofs.Common.{◌≡◌, ◌+◌, Bool, true, false, if◌then◌else◌, List, [], ◌∷◌, Option, Some, None, Result, Ok, Err, refl, ap, subst}
use Rattle.std.specs.Prelude.{IfErr, IfSome, MatchBool}
use Rattle.etherparse.specs.Kind.{Kind}
use Rattle.etherparse.specs.Kind as kinds
use Rattle.etherparse.specs.Header.{Header, kind_of}
use Rattle.etherparse.specs.Header as headers
use Rattle.ether_peel.specs.Grammar.Expectation.{is_extension}
use Rattle.ether_packet.specs.declared.tag_error.TagError.{TagError}
use Rattle.ether_packet.specs.Front.{first_tag, outer_tag}
use Rattle.ether_packet.specs.ReplacingLink.{is_link}
use Rattle.ether_packet.specs.Setting.{RefusesTag}
use Rattle.ether_packet.proofs.VlanIds.{never_refused}

pub same_ok : {T E : Type 0} (x y : T) (r : Result T E) → Ok x ≡ r → r ≡ Ok y → x ≡ y
same_ok x y r e f = cc

pub if_some : {T : Type 0} (o : Option T) (P Q : T → Type 0) → ((x : T) → P x → Q x) → IfSome o P → IfSome o Q
if_some (Some x) P Q f p = f x p
if_some None P Q f p = tt

pub if_err : {T E : Type 0} (r : Result T E) (P Q : E → Type 0) → ((x : E) → P x → Q x) → IfErr r P → IfErr r Q
if_err (Ok x) P Q f p = tt
if_err (Err e) P Q f p = f e p

no_extension : (k : Kind) → is_link k ≡ true → is_extension k ≡ false
no_extension kinds.Ethernet2 e = refl
no_extension kinds.Ethernet2Fcs e = refl
no_extension kinds.LinuxSll e = refl
no_extension kinds.Vlan e = absurd cc
no_extension kinds.Macsec e = absurd cc
no_extension kinds.Arp e = absurd cc

none_first : (link : Header) (hs : List Header) (error : TagError) → is_link (kind_of link) ≡ true
    → RefusesTag (link ∷ hs) 0 error → first_tag hs ≡ None
none_first link [] error is refused = refl
none_first link (headers.Vlan v ∷ later) error is refused =
    absurd (never_refused (link ∷ headers.Vlan v ∷ later) 0 (link ∷ []) v later error (record {
      parts = refl;
      extension = refl;
      before = ap (λ (b : Bool). (if b then 1 else 0) + 0) (no_extension (kind_of link) is);
    }) refused)
none_first link (headers.Ethernet2 h ∷ later) error is refused = refl
none_first link (headers.Ethernet2Fcs h ∷ later) error is refused = refl
none_first link (headers.LinuxSll h ∷ later) error is refused = refl
none_first link (headers.Macsec h ∷ later) error is refused = refl
none_first link (headers.Arp h ∷ later) error is refused = refl

none_by : (link : Header) (hs : List Header) (error : TagError) (b : Bool) → is_link (kind_of link) ≡ b
    → RefusesTag (link ∷ hs) 0 error → (if b then first_tag hs else None) ≡ None
none_by link hs error true is refused = none_first link hs error is refused
none_by link hs error false is refused = refl

-- there is none if the first tag of all is refused
pub no_tag : (hs : List Header) (error : TagError) → RefusesTag hs 0 error → outer_tag hs ≡ None
no_tag [] error refused = refl
no_tag (link ∷ hs) error refused = none_by link hs error (is_link (kind_of link)) refl refused

pub match_true : (b : Bool) (P Q : Type 0) → true ≡ b → P → MatchBool b P Q
match_true b P Q is p = subst (λ (x : Bool). MatchBool x P Q) is p

pub match_false : (b : Bool) (P Q : Type 0) → false ≡ b → Q → MatchBool b P Q
match_false b P Q is q = subst (λ (x : Bool). MatchBool x P Q) is q
