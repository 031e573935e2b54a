-- SipHash-1-3 (Aumasson and Bernstein, "SipHash: a fast short-input PRF", 2012, sections 2.1 to 2.4).
use Rattle.std.specs.Prelude.{ℕ, ◌+◌, ◌%◌, ◌^◌, List, slice_index}
use Rattle.std.specs.Int.{rotate_left, w64}
use Rattle.std.specs.Int.Bits.{bit_xor}
use Rattle.ether_switch.specs.declared.sip_hash.State.{State}

-- the sum of two words
abbrev pub plus : ℕ → ℕ → ℕ
plus m n = (m + n) % 2 ^ 64

-- the state for a key of two words (2.2, step 1): the constants spell "somepseudorandomlygeneratedbytes"
abbrev pub initial : (key : List ℕ) → State
initial key = record {
  a = bit_xor (slice_index key 0) 0x736F6D6570736575;
  b = bit_xor (slice_index key 1) 0x646F72616E646F6D;
  c = bit_xor (slice_index key 0) 0x6C7967656E657261;
  d = bit_xor (slice_index key 1) 0x7465646279746573;
}

-- SipRound (2.2, figure 2.1), in two halves
abbrev pub half_round : State → State
half_round s =
    let a = plus s.a s.b in
    let c = plus s.c s.d in
    record {
      a = rotate_left w64 a 32;
      b = bit_xor (rotate_left w64 s.b 13) a;
      c = c;
      d = bit_xor (rotate_left w64 s.d 16) c;
    }

abbrev pub round : State → State
round s =
    let t = half_round s in
    let a = plus t.a t.d in
    let c = plus t.c t.b in
    record {
      a = a;
      b = bit_xor (rotate_left w64 t.b 17) c;
      c = rotate_left w64 c 32;
      d = bit_xor (rotate_left w64 t.d 21) a;
    }

-- one round with a word (2.2, step 2)
abbrev pub compressed : (word : ℕ) → State → State
compressed word s =
    let t = round (record s { d = bit_xor s.d word }) in
    record t { a = bit_xor t.a word }

-- three rounds at the end (2.2, step 3)
abbrev pub finished : State → ℕ
finished s =
    let t = round (round (round (record s { c = bit_xor s.c 0xFF }))) in
    bit_xor (bit_xor (bit_xor t.a t.b) t.c) t.d

-- the hash of a message of one word
abbrev pub sip_hash : (key : List ℕ) → (word : ℕ) → ℕ
sip_hash key word = finished (compressed word (initial key))
