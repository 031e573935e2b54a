-- The blocks of a pcapng file (draft-ietf-opsawg-pcapng, section 3.1).
use Rattle.std.specs.Prelude.{◌≡◌, ◌≢◌, ℕ, ◌+◌, ◌-◌, ◌%◌, ◌<◌, ◌≤◌, List, length, slice_range}
use Rattle.ether_pcap.specs.Numbers.{Order, field}

-- the greatest length of a block that is read: libpcap's initial limit
abbrev pub max_block_len : ℕ
max_block_len = 16777216

-- the length of a whole block: the type and two lengths take 12 bytes, and the body is padded to a multiple of 4
pub record IsTotalLen (n : ℕ) : Type 0 where
  pub least : 12 ≤ n
  pub aligned : n % 4 ≡ 0
  pub most : n ≤ max_block_len

pub record BlockValue : Type 0 where
  pub block_type : ℕ
  pub body : List ℕ

-- type 4 bytes, total length 4 bytes, body, total length 4 bytes
pub record BeginsBlock (order : Order) (bytes : List ℕ) (b : BlockValue) : Type 0 where
  pub block_type : field order bytes 0 4 ≡ b.block_type
  pub total_len : field order bytes 4 8 ≡ 12 + length b.body
  pub sound : IsTotalLen (12 + length b.body)
  pub whole : 12 + length b.body ≤ length bytes
  pub body : slice_range bytes 8 (8 + length b.body) ≡ b.body
  pub trailer : field order bytes (8 + length b.body) (12 + length b.body) ≡ 12 + length b.body

-- too few bytes; a total length that a block can't have; a total length at the end that differs from that at the front
pub data BlockRefusal : Type 0 where
  Short : (required len : ℕ) → BlockRefusal
  TotalLen : ℕ → BlockRefusal
  Trailer : (total_len trailer : ℕ) → BlockRefusal

pub data RefusesBlock (order : Order) (bytes : List ℕ) : BlockRefusal → Type 0 where
  front : length bytes < 12 → RefusesBlock order bytes (Short 12 (length bytes))
  total_len : 12 ≤ length bytes → (IsTotalLen (field order bytes 4 8) → ⊥)
      → RefusesBlock order bytes (TotalLen (field order bytes 4 8))
  body : (n : ℕ) → 12 ≤ length bytes → field order bytes 4 8 ≡ n → IsTotalLen n → length bytes < n
      → RefusesBlock order bytes (Short n (length bytes))
  trailer : (n m : ℕ) → 12 ≤ length bytes → field order bytes 4 8 ≡ n → IsTotalLen n → n ≤ length bytes
      → field order bytes (n - 4) n ≡ m → m ≢ n
      → RefusesBlock order bytes (Trailer n m)
