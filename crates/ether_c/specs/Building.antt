-- Packets built by calls from C.
use Rattle.std.specs.Prelude.{◌≡◌, ℕ, ◌+◌, ◌≤◌, List, [], ◌∷◌, ◌++◌, length, Option, Some, None, Result, Ok, Err}
use Rattle.std.specs.Prelude.{IfOk, IfErr}
use Rattle.etherparse.specs.Types.LinkExtHeader.{LinkExtHeader}
use Rattle.etherparse.specs.Types.LinkHeader.{LinkHeader}
use Rattle.etherparse.specs.LinkExt.{ext_header_view}
use Rattle.etherparse.specs.Arp.{ArpValue}
use Rattle.etherparse.specs.Header.{Header}
use Rattle.ether_packet.specs.declared.build_error.BuildError.{BuildError}
use Rattle.ether_packet.specs.declared.build_error.BuildError.TheVariants as errors
use Rattle.ether_packet.specs.declared.packet_builder.PacketBuilder.{PacketBuilder}
use Rattle.ether_packet.specs.declared.packet_builder.PacketContent.{PacketContent}
use Rattle.ether_packet.specs.declared.packet_builder.PacketContent.TheVariants as contents
use Rattle.ether_packet.specs.Building.{IsChain}
use Rattle.ether_packet.specs.Builder.{inner_headers, IsEthernet, IsWritten, RefusesPacket, RefusesSpace}
use Rattle.ether_c.specs.declared.ether_unit.EtherUnit.{EtherUnit}
use Rattle.ether_c.specs.Numbers.{done, no_room}
use Rattle.ether_c.specs.Passed.{PassesLink, PassesNoLink, PassesExt, PassesNoExt, PassesArp, PassesNoArp, bad_kind}

-- ---- the units of a packet

abbrev pub too_many_tags : ℕ
too_many_tags = 19

-- each of these units has the tag at the same index
abbrev pub AreExts : List EtherUnit → List LinkExtHeader → Type 0
AreExts [] [] = Unit {0}
AreExts (u ∷ us) (x ∷ xs) = PassesExt u (ext_header_view x) × AreExts us xs
AreExts _ _ = ⊥

-- the units after the tags: one ARP packet, or none
abbrev pub ArePassedArp : List EtherUnit → (bytes : List ℕ) → Option ArpValue → Type 0
ArePassedArp [] bytes None = Unit {0}
ArePassedArp (u ∷ []) bytes (Some a) = PassesArp u bytes a
ArePassedArp _ bytes arp = ⊥

-- the link's header, at most eight tags, and what follows them
pub record PassesParts (us : List EtherUnit) (bytes : List ℕ) (link : LinkHeader) (exts : List LinkExtHeader)
    (arp : Option ArpValue) : Type 0 where
  pub first : EtherUnit
  pub tags : List EtherUnit
  pub last : List EtherUnit
  pub units : us ≡ first ∷ tags ++ last
  pub is_link : PassesLink first link
  pub are_exts : AreExts tags exts
  pub few : length tags ≤ 8
  pub are_arp : ArePassedArp last bytes arp

-- an ARP packet if there is one, else the bytes as a payload
abbrev pub HasContent : Option ArpValue → (ether_type : ℕ) (bytes : List ℕ) → PacketContent → Type 0
HasContent None t bytes (contents.Payload ether_type payload) = (ether_type.0 ≡ t) × (payload.now ≡ bytes)
HasContent (Some a) t bytes (contents.Arp packet) = packet.now ≡ a
HasContent _ t bytes content = ⊥

pub record PassesPacket (us : List EtherUnit) (ether_type : ℕ) (bytes : List ℕ) (p : PacketBuilder) : Type 0 where
  pub arp : Option ArpValue
  pub parts : PassesParts us bytes p.link p.link_exts.now arp
  pub content : HasContent arp ether_type bytes p.content

-- ---- units that are none of a packet: what a call returns, and the index of the first that is wrong

-- the last unit, if its kind is that of an ARP packet
abbrev pub AreSplit : (tags last : List EtherUnit) → Type 0
AreSplit tags [] = (front : List EtherUnit) (u : EtherUnit) → tags ≡ front ++ u ∷ [] → u.kind ≡ 5 → ⊥
AreSplit tags (u ∷ []) = u.kind ≡ 5
AreSplit tags _ = ⊥

-- the units after the link's header
pub data RefusesTags (us : List EtherUnit) : (status index : ℕ) → Type 0 where
  bad_tag : (front : List EtherUnit) (exts : List LinkExtHeader) (u : EtherUnit) (later : List EtherUnit) (status : ℕ)
      → us ≡ front ++ u ∷ later → AreExts front exts → length front ≤ 8 → PassesNoExt u status
      → RefusesTags us status (1 + length front)
  too_many : (front : List EtherUnit) (exts : List LinkExtHeader) (u : EtherUnit) (later : List EtherUnit) (h : Header)
      → us ≡ front ++ u ∷ later → AreExts front exts → length front ≡ 8 → PassesExt u h
      → RefusesTags us too_many_tags 9

pub data PassesNoPacket (us : List EtherUnit) (bytes : List ℕ) : (status index : ℕ) → Type 0 where
  no_unit : us ≡ [] → PassesNoPacket us bytes bad_kind 0
  bad_link : (first : EtherUnit) (later : List EtherUnit) (status : ℕ)
      → us ≡ first ∷ later → PassesNoLink first status → PassesNoPacket us bytes status 0
  bad_tags : (first : EtherUnit) (link : LinkHeader) (tags last : List EtherUnit) (status index : ℕ)
      → us ≡ first ∷ tags ++ last → PassesLink first link → AreSplit tags last → RefusesTags tags status index
      → PassesNoPacket us bytes status index
  bad_arp : (first : EtherUnit) (link : LinkHeader) (tags : List EtherUnit) (exts : List LinkExtHeader)
      (u : EtherUnit) (status : ℕ)
      → us ≡ first ∷ tags ++ u ∷ [] → PassesLink first link → AreExts tags exts → length tags ≤ 8
      → u.kind ≡ 5 → PassesNoArp u bytes status → PassesNoPacket us bytes status (1 + length tags)

-- ---- the call

abbrev pub build_error_status : BuildError → ℕ
build_error_status (errors.HardwareType hardware) = 6
build_error_status (errors.Sealed i) = 20
build_error_status (errors.Space e) = no_room

-- the length of the packet, or the length that the target needs, or the index of the unit, where the link's header has
-- the index 0
abbrev pub build_error_len : BuildError → ℕ
build_error_len (errors.HardwareType hardware) = 0
build_error_len (errors.Sealed i) = i + 1
build_error_len (errors.Space e) = e.required_len

abbrev pub built_status : Result ℕ BuildError → ℕ
built_status (Ok end) = done
built_status (Err e) = build_error_status e

abbrev pub built_len : Result ℕ BuildError → ℕ
built_len (Ok end) = end
built_len (Err e) = build_error_len e

-- a packet is written to the front of the target, or nothing is written
pub record GivesPacketBuilt (p : PacketBuilder) (old new : List ℕ) (len status : ℕ) : Type 0 where
  pub built : Result ℕ BuildError
  pub ok : IfOk built (λ end. IsWritten p old end new)
  pub refused : IfErr built (RefusesPacket p old)
  pub space : IsEthernet p.link → IsChain (inner_headers p) → IfErr built (RefusesSpace p old)
  pub kept : IfErr built (λ _. new ≡ old)
  pub len_is : len ≡ built_len built
  pub status_is : status ≡ built_status built

-- the units make a packet, or nothing is written
pub data GivesBuild (us : List EtherUnit) (ether_type : ℕ) (bytes old new : List ℕ) (len status : ℕ) : Type 0 where
  is_packet : (p : PacketBuilder) → PassesPacket us ether_type bytes p → GivesPacketBuilt p old new len status
      → GivesBuild us ether_type bytes old new len status
  no_packet : PassesNoPacket us bytes status len → new ≡ old → GivesBuild us ether_type bytes old new len status
