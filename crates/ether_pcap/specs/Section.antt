-- The section header block of a pcapng file (draft-ietf-opsawg-pcapng, section 4.1), which gives the byte order of all
-- numbers up to the next section header.
use Rattle.std.specs.Prelude.{◌≡◌, ◌≢◌, ◌⊎◌, ℕ, ◌<◌, ◌≤◌, List, length, slice_range}
use Rattle.ether_base.specs.Bytes.{number}
use Rattle.ether_pcap.specs.Numbers.{Order, field}
use Rattle.ether_pcap.specs.Block.{BlockValue, BlockRefusal, BeginsBlock, RefusesBlock}

-- the type, which is the same number in both byte orders
abbrev pub section_type : ℕ
section_type = 0x0A0D0D0A

-- the byte-order magic, the first number of the body
abbrev pub HasOrder : List ℕ → Order → Type 0
HasOrder bytes order = field order bytes 8 12 ≡ 0x1A2B3C4D

-- the versions that are read: 1.0, and 1.2, which some programs wrote for the same format
abbrev pub IsVersion : (major minor : ℕ) → Type 0
IsVersion major minor = (major ≡ 1) × ((minor ≡ 0) ⊎ (minor ≡ 2))

-- a list begins with the type
abbrev pub HasSectionType : List ℕ → Type 0
HasSectionType bytes = number (slice_range bytes 0 4) ≡ section_type

-- byte-order magic 4 bytes, version 2 bytes each, section length 8 bytes, which is not read, options
pub record IsSection (bytes : List ℕ) (order : Order) (b : BlockValue) : Type 0 where
  pub section : HasSectionType bytes
  pub magic : HasOrder bytes order
  pub block : BeginsBlock order bytes b
  pub len : 16 ≤ length b.body
  pub version : IsVersion (field order bytes 12 14) (field order bytes 14 16)

-- too few bytes for a type, a length and a byte-order magic; another type, and another magic, as big-endian numbers; a
-- refused block; a body that is too short; another version
pub data SectionRefusal : Type 0 where
  Short : (required len : ℕ) → SectionRefusal
  BlockType : ℕ → SectionRefusal
  Magic : ℕ → SectionRefusal
  Block : BlockRefusal → SectionRefusal
  Body : (required len : ℕ) → SectionRefusal
  Version : (major minor : ℕ) → SectionRefusal

pub data RefusesSection (bytes : List ℕ) : SectionRefusal → Type 0 where
  short : length bytes < 12 → RefusesSection bytes (Short 12 (length bytes))
  block_type : (n : ℕ) → 12 ≤ length bytes → number (slice_range bytes 0 4) ≡ n → n ≢ section_type
      → RefusesSection bytes (BlockType n)
  magic : (n : ℕ) → 12 ≤ length bytes → HasSectionType bytes → number (slice_range bytes 8 12) ≡ n
      → ((order : Order) → HasOrder bytes order → ⊥)
      → RefusesSection bytes (Magic n)
  block : (order : Order) (r : BlockRefusal) → 12 ≤ length bytes → HasSectionType bytes → HasOrder bytes order
      → RefusesBlock order bytes r
      → RefusesSection bytes (Block r)
  body : (order : Order) (b : BlockValue) → HasSectionType bytes → HasOrder bytes order → BeginsBlock order bytes b
      → length b.body < 16
      → RefusesSection bytes (Body 16 (length b.body))
  version : (order : Order) (b : BlockValue) (major minor : ℕ) → HasSectionType bytes → HasOrder bytes order
      → BeginsBlock order bytes b → 16 ≤ length b.body
      → field order bytes 12 14 ≡ major → field order bytes 14 16 ≡ minor → (IsVersion major minor → ⊥)
      → RefusesSection bytes (Version major minor)
