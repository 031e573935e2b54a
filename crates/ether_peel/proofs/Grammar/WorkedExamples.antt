-- Worked examples: walks of short lists, what their headers reach and write back, and the bytes that complete them.
use Rattle.std.proofs.Common.{◌≡◌, ℕ, List, [], ◌∷◌, refl, arith, true, false}
use Rattle.std.specs.Prelude.{Some, None}
use Rattle.etherparse.specs.Types.LenSource.TheVariants as sources
use Rattle.etherparse.specs.Types.Layer.TheVariants as layers
use Rattle.etherparse.specs.Vlan.{VlanValue}
use Rattle.etherparse.specs.Macsec.{SecTagValue, Unmodified, FitsSecTagFront, BeginsSecTag, sec_tag_front_of}
use Rattle.etherparse.specs.Kind as kinds
use Rattle.etherparse.specs.Header as headers
use Rattle.etherparse.specs.Refusal.{Length}
use Rattle.etherparse.specs.Refusal as rows
use Rattle.etherparse.proofs.Rows.{accepts_macsec, accepts_vlan}
use Rattle.ether_peel.specs.Grammar.Expectation.{Expectation, EtherType}
use Rattle.ether_peel.specs.Grammar.Stack.{Ending, Accepted, Fault, Walk}
use Rattle.ether_peel.specs.Grammar.Cleared.{cleared}
use Rattle.ether_peel.specs.Grammar.Endings.{OpenRefusal, named_len}
use Rattle.ether_peel.specs.Grammar.Cuts.{reach}
use Rattle.ether_peel.specs.Grammar.Completion.{Plan, fill}
use Rattle.ether_peel.specs.Grammar.Completion as plans

some_is : (m n : ℕ) → Some m ≡ Some n → m ≡ n
some_is m n e = cc

-- what an ether type announces, without a limit
abbrev by_type : ℕ → Expectation
by_type t = record { next = EtherType t; limit = None }

-- ---- a SecTag with both reserved bits and a short length of 6, so a closed window of four bytes, and a VLAN tag in it

abbrev tag : ℕ → SecTagValue
tag short_len = record {
  payload_type = Unmodified 0x8100;
  end_station = 0;
  single_copy_broadcast = 0;
  association_number = 0;
  short_len = short_len;
  packet_number = 1;
  sci = None;
}

abbrev inner : VlanValue
inner = record { pcp = 5; dei = 0; vid = 0xABB; ether_type = 0xCCDD }

abbrev padded : List ℕ
padded = 0x00 ∷ 0xC6 ∷ 0 ∷ 0 ∷ 0 ∷ 1 ∷ 0x81 ∷ 0x00 ∷ 0xAA ∷ 0xBB ∷ 0xCC ∷ 0xDD ∷ 0xEE ∷ 0xEE ∷ []

padded_walk : Walk (by_type 0x88E5) padded (headers.Macsec (tag 6) ∷ headers.Vlan inner ∷ [])
    (Accepted (record { start = 12; finish = 12; closed = true; bound = sources.MacsecShortLength }) (by_type 0xCCDD))
padded_walk =
    let fits : FitsSecTagFront (sec_tag_front_of 0 3 (tag 6)) = omega arith in
    let begins : BeginsSecTag padded (sec_tag_front_of 0 3 (tag 6)) = record { sum = refl; fits = fits } in (
      record {
        announced = refl;
        accepted =
            accepts_macsec sources.Slice padded (sec_tag_front_of 0 3 (tag 6)) (omega arith) begins refl
            (λ s. let e = s.short_len in omega arith) (omega arith) (λ p e. let f = some_is 4 p e in omega arith);
        means =
            record {
              whole = omega arith;
              spells = record {
                version = 0;
                reserved = 3;
                front = record { sum = refl; fits = fits };
                packet_number = refl;
                sci = tt;
                ether_type = refl;
              };
            };
      },
      (
        record {
          announced = refl;
          accepted = accepts_vlan sources.MacsecShortLength (0xAA ∷ 0xBB ∷ 0xCC ∷ 0xDD ∷ []) (omega arith);
          means = record { whole = omega arith; spells = record { sum = refl; fits = omega arith } };
        },
        (refl, refl, refl),
      ),
    )

-- the last two bytes belong to no unit
padded_reach : reach 0 (headers.Macsec (tag 6) ∷ headers.Vlan inner ∷ []) ≡ 12
padded_reach = refl

-- the remainder of 0xC6 by 64
padded_cleared : cleared padded 0 (headers.Macsec (tag 6) ∷ headers.Vlan inner ∷ [])
    ≡ 0x00 ∷ 0x06 ∷ 0 ∷ 0 ∷ 0 ∷ 1 ∷ 0x81 ∷ 0x00 ∷ 0xAA ∷ 0xBB ∷ 0xCC ∷ 0xDD ∷ 0xEE ∷ 0xEE ∷ []
padded_cleared = refl

-- ---- with a short length of 4 the tag in it lacks two bytes, whatever follows the window

abbrev short : List ℕ
short = 0x00 ∷ 0x04 ∷ 0 ∷ 0 ∷ 0 ∷ 1 ∷ 0x81 ∷ 0x00 ∷ 0xAA ∷ 0xBB ∷ 0xCC ∷ 0xDD ∷ []

short_walk : Walk (by_type 0x88E5) short (headers.Macsec (tag 4) ∷ [])
    (Fault (record { start = 8; finish = 10; closed = true; bound = sources.MacsecShortLength }) (by_type 0x8100)
    (Length 4 2 sources.MacsecShortLength layers.VlanHeader))
short_walk =
    let fits : FitsSecTagFront (sec_tag_front_of 0 0 (tag 4)) = omega arith in
    let begins : BeginsSecTag short (sec_tag_front_of 0 0 (tag 4)) = record { sum = refl; fits = fits } in (
      record {
        announced = refl;
        accepted =
            accepts_macsec sources.Slice short (sec_tag_front_of 0 0 (tag 4)) (omega arith) begins refl
            (λ s. let e = s.short_len in omega arith) (omega arith) (λ p e. let f = some_is 2 p e in omega arith);
        means =
            record {
              whole = omega arith;
              spells = record {
                version = 0;
                reserved = 0;
                front = record { sum = refl; fits = fits };
                packet_number = refl;
                sci = tt;
                ether_type = refl;
              };
            };
      },
      (refl, refl, kinds.Vlan, refl, rows.vlan (omega arith)),
    )

-- ---- two bytes of a VLAN tag in a VLAN tag

abbrev outer : VlanValue
outer = record { pcp = 0; dei = 0; vid = 5; ether_type = 0x8100 }

abbrev begun : List ℕ
begun = 0x00 ∷ 0x05 ∷ 0x81 ∷ 0x00 ∷ 0xAA ∷ 0xBB ∷ []

abbrev begun_ending : Ending
begun_ending =
    Fault (record { start = 4; finish = 6; closed = false; bound = sources.Slice }) (by_type 0x8100)
    (Length 4 2 sources.Slice layers.VlanHeader)

begun_walk : Walk (by_type 0x8100) begun (headers.Vlan outer ∷ []) begun_ending
begun_walk = (
  record {
    announced = refl;
    accepted = accepts_vlan sources.Slice begun (omega arith);
    means = record { whole = omega arith; spells = record { sum = refl; fits = omega arith } };
  },
  (refl, refl, kinds.Vlan, refl, rows.vlan (omega arith)),
)

-- it wants a list of eight bytes
begun_named : (o : OpenRefusal begun_ending) → named_len begun_ending o ≡ 8
begun_named o = let e = o.refused in let f : 4 ≡ o.required = cc in omega arith

-- ---- a SecTag that names a payload of four bytes, as far as the first byte of its ether type

abbrev begun_tag : List ℕ
begun_tag = 0x00 ∷ 0x06 ∷ 0 ∷ 0 ∷ 0 ∷ 1 ∷ 0x81 ∷ []

begun_tag_plan : Plan begun_tag layers.MacsecHeader 12 (Some 6)
begun_tag_plan = plans.Plan.macsec (sec_tag_front_of 0 0 (tag 6)) (record { sum = refl; fits = omega arith })

-- its ether type becomes 0x8101
begun_tag_fill : fill begun_tag 12 (Some 6) ≡ 1 ∷ 0 ∷ 0 ∷ 0 ∷ 0 ∷ []
begun_tag_fill = refl

-- ---- an ARP packet as far as the first byte of its protocol type, which is no ether type

begun_arp_plan : Plan (0x00 ∷ 0x01 ∷ 0x81 ∷ []) layers.Arp 8 None
begun_arp_plan = plans.Plan.arp

begun_arp_fill : fill (0x00 ∷ 0x01 ∷ 0x81 ∷ []) 8 None ≡ 0 ∷ 0 ∷ 0 ∷ 0 ∷ 0 ∷ []
begun_arp_fill = refl

-- and as far as the size of its hardware addresses

sized_arp_plan : Plan (0x00 ∷ 0x01 ∷ 0x08 ∷ 0x00 ∷ 0x06 ∷ []) layers.Arp 20 None
sized_arp_plan = plans.Plan.arp
