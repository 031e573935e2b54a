-- The laws of the formats.
use Rattle.std.specs.Prelude.{◌≡◌, ℕ, List, Option}
use Rattle.ether_base.specs.Bytes.{IsBytes}
use Rattle.ether_pcap.specs.Numbers.{Order}
use Rattle.ether_pcap.specs.FileHeader.{FileHeaderValue, IsFileHeader, FileRefusal, RefusesFile}
use Rattle.ether_pcap.specs.Block.{BlockValue, BlockRefusal, BeginsBlock, RefusesBlock}
use Rattle.ether_pcap.specs.Bodies.{BodyRefusal, InterfaceValue, IsInterface, RefusesInterface, EnhancedPacketValue, IsEnhancedPacket, RefusesEnhancedPacket, SimplePacketValue, IsSimplePacket, RefusesSimplePacket}
use Rattle.ether_pcap.specs.Section.{SectionRefusal, IsSection, RefusesSection}
use Rattle.ether_pcap.specs.Options.{OptionValue, HasOptions}
use Rattle.ether_pcap.specs.Record.{RecordValue, RecordRefusal, BeginsRecord, RefusesRecord, HasRecords}

-- bytes begin with at most one file header, and otherwise have at most one reason for refusal
pub record FileHeadersAreOne : Type 0 where
  pub one : (bytes : List ℕ) (h k : FileHeaderValue) → IsBytes bytes → IsFileHeader bytes h → IsFileHeader bytes k → h
      ≡ k
  pub apart : (bytes : List ℕ) (h : FileHeaderValue) (r : FileRefusal) → IsBytes bytes → IsFileHeader bytes h
      → RefusesFile bytes r → ⊥
  pub refused : (bytes : List ℕ) (r s : FileRefusal) → IsBytes bytes → RefusesFile bytes r → RefusesFile bytes s → r ≡ s

-- bytes begin with at most one record, and otherwise have at most one reason for refusal
pub record RecordsAreOne : Type 0 where
  pub one : (order : Order) (bytes : List ℕ) (r s : RecordValue) → BeginsRecord order bytes r
      → BeginsRecord order bytes s → r ≡ s
  pub apart : (order : Order) (bytes : List ℕ) (r : RecordValue) (e : RecordRefusal) → BeginsRecord order bytes r
      → RefusesRecord order bytes e → ⊥
  pub refused : (order : Order) (bytes : List ℕ) (e f : RecordRefusal) → RefusesRecord order bytes e
      → RefusesRecord order bytes f → e ≡ f

-- the records of bytes, the rest after them, and why it is refused
pub record Contents (order : Order) (bytes : List ℕ) : Type 0 where
  pub records : List RecordValue
  pub rest : List ℕ
  pub fault : Option RecordRefusal
  pub has : HasRecords order bytes records rest fault

-- any bytes have exactly one list of records, one rest and at most one refusal
pub record ContentsAreOne : Type 0 where
  pub some : (order : Order) (bytes : List ℕ) → Contents order bytes
  pub one : (order : Order) (bytes : List ℕ) (c d : Contents order bytes) → (c.records ≡ d.records) × (c.rest ≡ d.rest)
      × (c.fault ≡ d.fault)

-- bytes begin with at most one block of a pcapng file, and otherwise have at most one reason for refusal
pub record BlocksAreOne : Type 0 where
  pub one : (order : Order) (bytes : List ℕ) (b c : BlockValue) → BeginsBlock order bytes b → BeginsBlock order bytes c
      → b ≡ c
  pub apart : (order : Order) (bytes : List ℕ) (b : BlockValue) (r : BlockRefusal) → BeginsBlock order bytes b
      → RefusesBlock order bytes r → ⊥
  pub refused : (order : Order) (bytes : List ℕ) (r s : BlockRefusal) → RefusesBlock order bytes r
      → RefusesBlock order bytes s → r ≡ s

-- any bytes have exactly one list of options
pub record OptionsAreOne : Type 0 where
  pub some : (order : Order) (bytes : List ℕ) → (options : List OptionValue) × HasOptions order bytes options
  pub one : (order : Order) (bytes : List ℕ) (options others : List OptionValue) → HasOptions order bytes options
      → HasOptions order bytes others → options ≡ others

-- a body has at most one value, and otherwise at most one reason for refusal
pub record BodiesAreOne : Type 0 where
  pub interface : (order : Order) (body : List ℕ) (v w : InterfaceValue) → IsInterface order body v
      → IsInterface order body w → v ≡ w
  pub interface_apart : (order : Order) (body : List ℕ) (v : InterfaceValue) (r : BodyRefusal)
      → IsInterface order body v → RefusesInterface body r → ⊥
  pub interface_refused : (body : List ℕ) (r s : BodyRefusal) → RefusesInterface body r → RefusesInterface body s → r
      ≡ s
  pub enhanced : (n : ℕ) (order : Order) (body : List ℕ) (v w : EnhancedPacketValue) → IsEnhancedPacket n order body v
      → IsEnhancedPacket n order body w → v ≡ w
  pub enhanced_apart : (n : ℕ) (order : Order) (body : List ℕ) (v : EnhancedPacketValue) (r : BodyRefusal)
      → IsEnhancedPacket n order body v → RefusesEnhancedPacket order body r → ⊥
  pub enhanced_refused : (order : Order) (body : List ℕ) (r s : BodyRefusal) → RefusesEnhancedPacket order body r
      → RefusesEnhancedPacket order body s → r ≡ s
  pub simple : (order : Order) (snap_len : ℕ) (body : List ℕ) (v w : SimplePacketValue)
      → IsSimplePacket order snap_len body v → IsSimplePacket order snap_len body w → v ≡ w
  pub simple_apart : (order : Order) (snap_len : ℕ) (body : List ℕ) (v : SimplePacketValue) (r : BodyRefusal)
      → IsSimplePacket order snap_len body v → RefusesSimplePacket order snap_len body r → ⊥
  pub simple_refused : (order : Order) (snap_len : ℕ) (body : List ℕ) (r s : BodyRefusal)
      → RefusesSimplePacket order snap_len body r → RefusesSimplePacket order snap_len body s → r ≡ s

-- bytes begin with at most one section header, and otherwise have at most one reason for refusal
pub record SectionsAreOne : Type 0 where
  pub one : (bytes : List ℕ) (o p : Order) (b c : BlockValue) → IsBytes bytes → IsSection bytes o b
      → IsSection bytes p c → (o ≡ p) × (b ≡ c)
  pub apart : (bytes : List ℕ) (o : Order) (b : BlockValue) (r : SectionRefusal) → IsBytes bytes → IsSection bytes o b
      → RefusesSection bytes r → ⊥
  pub refused : (bytes : List ℕ) (r s : SectionRefusal) → IsBytes bytes → RefusesSection bytes r
      → RefusesSection bytes s → r ≡ s
