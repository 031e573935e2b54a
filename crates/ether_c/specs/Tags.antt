-- VLAN tags taken off, put in and changed in place, by calls from C.
use Rattle.std.specs.Prelude.{◌≡◌, ℕ, List, drop, Result, IfOk, IfErr}
use Rattle.ether_tags.specs.declared.single_vlan_header.SingleVlanHeader.{SingleVlanHeader}
use Rattle.etherparse.specs.Vlan.{VlanValue, vlan_view}
use Rattle.etherparse.specs.Header.{Header}
use Rattle.etherparse.specs.Header as headers
use Rattle.ether_peel.specs.Grammar.Expectation.{Expectation}
use Rattle.ether_peel.specs.Grammar.Stack.{Ending, Walk}
use Rattle.ether_packet.specs.declared.tag_error.TagError.{TagError}
use Rattle.ether_packet.specs.declared.tag_error.TagError.TheVariants as errors
use Rattle.ether_packet.specs.Popping.{IsPopped, RefusesPop}
use Rattle.ether_packet.specs.Pushing.{IsPushed, RefusesPush}
use Rattle.ether_packet.specs.Setting.{SetsTag, RefusesTag, SetsTpid, RefusesTpid}
use Rattle.ether_c.specs.declared.ether_unit.EtherVlan.{EtherVlan}
use Rattle.ether_c.specs.Numbers.{done, no_room}
use Rattle.ether_c.specs.Units.{c_vlan}

-- ---- what a call returns

abbrev pub bad_field : ℕ
bad_field = 11

-- the reasons why a tag is not taken off, put in or changed
abbrev pub tag_error_status : TagError → ℕ
tag_error_status errors.NoRoom = no_room
tag_error_status (errors.Tpid tpid) = 4
tag_error_status errors.NoLink = 5
tag_error_status (errors.HardwareType hardware) = 6
tag_error_status (errors.NoLinkExt count) = 7
tag_error_status errors.NoVlan = 8
tag_error_status errors.CutVlan = 9
tag_error_status errors.Unannounced = 10

-- ---- tags

-- the tag that was passed, whose numbers might not fit their fields
abbrev pub vlan_value : EtherVlan → VlanValue
vlan_value t = record { pcp = t.pcp; dei = t.dei; vid = t.vid; ether_type = t.ether_type }

-- a tag is taken off and returned; or nothing is written, for this reason
pub record GivesPop (start : Expectation) (old new : List ℕ) (tag_old tag_new : EtherVlan)
    (status : ℕ) : Type 0 where
  pub popped : Result SingleVlanHeader TagError
  pub ok : IfOk popped (λ tag. (hs : List Header) (e : Ending)
      → Walk start old hs e → IsPopped start old hs e (vlan_view tag) new)
  pub given : IfOk popped (λ tag. tag_new ≡ c_vlan (headers.Vlan (vlan_view tag)))
  pub refused : IfErr popped (λ error. (hs : List Header) (e : Ending)
      → Walk start old hs e → RefusesPop hs error)
  pub kept : IfErr popped (λ _. (new ≡ old) × (tag_new ≡ tag_old))
  pub status_done : IfOk popped (λ _. status ≡ done)
  pub status_error : IfErr popped (λ error. status ≡ tag_error_status error)

-- a tag is put in; or nothing is written, for this reason
pub record GivesPush (start : Expectation) (tag : VlanValue) (tpid : ℕ) (old new : List ℕ)
    (status : ℕ) : Type 0 where
  pub pushed : Result (Unit {0}) TagError
  pub ok : IfOk pushed (λ _. (hs : List Header) (e : Ending)
      → Walk start (drop 4 old) hs e → IsPushed start old hs e tag tpid new)
  pub refused : IfErr pushed (λ error. (hs : List Header) (e : Ending)
      → Walk start (drop 4 old) hs e → RefusesPush old hs tpid error)
  pub kept : IfErr pushed (λ _. new ≡ old)
  pub status_done : IfOk pushed (λ _. status ≡ done)
  pub status_error : IfErr pushed (λ error. status ≡ tag_error_status error)

-- a tag with another identifier, or with other tag control information
abbrev pub with_vid : (vid : ℕ) → VlanValue → VlanValue
with_vid vid tag = record tag { vid = vid }

abbrev pub with_control : (control tag : VlanValue) → VlanValue
with_control control tag = record tag { pcp = control.pcp; dei = control.dei; vid = control.vid }

-- a tag is changed; or nothing is written, for this reason
pub record GivesSet (start : Expectation) (index : ℕ) (change : VlanValue → VlanValue)
    (old new : List ℕ) (status : ℕ) : Type 0 where
  pub put : Result (Unit {0}) TagError
  pub ok : IfOk put (λ _. (hs : List Header) (e : Ending)
      → Walk start old hs e → SetsTag start old hs e index change new)
  pub refused : IfErr put (λ error. (hs : List Header) (e : Ending)
      → Walk start old hs e → RefusesTag hs index error)
  pub kept : IfErr put (λ _. new ≡ old)
  pub status_done : IfOk put (λ _. status ≡ done)
  pub status_error : IfErr put (λ error. status ≡ tag_error_status error)

-- the ether type that announces a tag is changed; or nothing is written, for this reason
pub record GivesSetTpid (start : Expectation) (index tpid : ℕ) (old new : List ℕ)
    (status : ℕ) : Type 0 where
  pub put : Result (Unit {0}) TagError
  pub ok : IfOk put (λ _. (hs : List Header) (e : Ending)
      → Walk start old hs e → SetsTpid start old hs e index tpid new)
  pub refused : IfErr put (λ error. (hs : List Header) (e : Ending)
      → Walk start old hs e → RefusesTpid hs index tpid error)
  pub kept : IfErr put (λ _. new ≡ old)
  pub status_done : IfOk put (λ _. status ≡ done)
  pub status_error : IfErr put (λ error. status ≡ tag_error_status error)
