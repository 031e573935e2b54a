-- The options of a unit, by what it begins with.
use Rattle.std.proofs.Common.{◌≡◌, ℕ, ◌+◌, List, [], ◌∷◌, length, drop, refl, sym, ap, subst, Some}
use Rattle.ether_base.specs.Bytes.{IsBytes}
use Rattle.ether_pcap.specs.Block.{BlockRefusal, RefusesBlock}
use Rattle.ether_pcap.specs.Section.{SectionRefusal, HasSectionType, RefusesSection}
use Rattle.ether_pcap.specs.Options.{OptionValue, BeginsOption, padded}
use Rattle.ether_pcap.specs.Views.{order_of}
use Rattle.ether_pcap.specs.PcapngViews.{option_view}
use Rattle.ether_pcap.specs.OptionReading.{HasOptionBytes, section, block, OptionsState, OptionGives}
use Rattle.ether_pcap.specs.declared.byte_order.ByteOrder.{ByteOrder}
use Rattle.ether_pcap.specs.declared.capture.reader_state.ReaderState.{ReaderState}
use Rattle.ether_pcap.specs.declared.capture.reader_state.ReaderState.TheVariants as states
use Rattle.ether_pcap.specs.declared.pcapng.pcapng_option.PcapngOption.{PcapngOption}
use Rattle.ether_pcap.proofs.Blocks.{block_apart}
use Rattle.ether_pcap.proofs.Sections.{section_apart}
use Rattle.ether_pcap.proofs.Options.{option_one}

-- ---- units without options

pub none_in_section : (bytes : List ℕ) (r : SectionRefusal) (state : ReaderState) (order : ByteOrder)
    (options : List ℕ) → IsBytes bytes → HasSectionType bytes → RefusesSection bytes r
    → HasOptionBytes bytes state order options → ⊥
none_in_section bytes r state order options are has refused (section s o b other is) =
    section_apart bytes (order_of o) b r are is refused
none_in_section bytes r state order options are has refused (block o b other begins) = other has

order_in : (o order : ByteOrder) → states.Section o ≡ states.Section order → o ≡ order
order_in o order e = cc

pub none_in_block : (bytes : List ℕ) (r : BlockRefusal) (order o : ByteOrder) (state : ReaderState)
    (options : List ℕ) → (HasSectionType bytes → ⊥) → RefusesBlock (order_of order) bytes r
    → state ≡ states.Section order → HasOptionBytes bytes state o options → ⊥
none_in_block bytes r order o state options other refused e (section s p b not is) = other is.section
none_in_block bytes r order o state options other refused e (block p b not begins) =
    block_apart (order_of p) bytes b r begins
    (subst (λ (q : ByteOrder). RefusesBlock (order_of q) bytes r) (sym (order_in p order e)) refused)

pub none_before : (bytes : List ℕ) (state : ReaderState) (order : ByteOrder) (options : List ℕ)
    → (HasSectionType bytes → ⊥) → state ≡ states.Nothing → HasOptionBytes bytes state order options → ⊥
none_before bytes state order options other e (section s o b not is) = other is.section
none_before bytes state order options other e (block o b not begins) = absurd cc

-- ---- an iterator

abbrev after : OptionsState → OptionValue → OptionsState
after s o = record s { rest = drop (4 + padded (length o.value)) s.rest }

pub gives_option : (s : OptionsState) (p : PcapngOption)
    → BeginsOption (order_of s.byte_order) s.rest (option_view p) → OptionGives s (Some p) (after s (option_view p))
gives_option s p begins [] none = absurd (none (option_view p) begins)
gives_option s p begins (o ∷ options) has =
    let e = option_one (order_of s.byte_order) s.rest (option_view p) o begins has.0 in
    (p, refl, e, ap (after s) e)
