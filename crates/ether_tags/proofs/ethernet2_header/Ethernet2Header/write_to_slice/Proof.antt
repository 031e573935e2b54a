-- The walk of `write_to_slice` at any header, at this one.
use Rattle.std.proofs.Common.{[], refl}
use Rattle.ether_base.specs.Formats.Ethernet2.{ethernet2_bytes}
use Rattle.ether_base.specs.declared.err.layer.Layer.TheVariants as layers
use Rattle.ether_base.proofs.WriteToSlice.{meets}
use Rattle.ether_base.proofs.write_front.rest_from.Met.{met as rest-met}
use Rattle.ether_tags.specs.Ethernet2.{ethernet2_view}
use Rattle.ether_tags.specs.contracts.ethernet2_header.Ethernet2Header.{the_row}
use Rattle.ether_tags.specs.contracts.ethernet2_header.Ethernet2Header.write_to_slice.Key.{name as #self}
use Rattle.ether_tags.specs.contracts.ethernet2_header.Ethernet2Header.put.Key.{name as #put}
use Rattle.ether_tags.proofs.ethernet2_header.Ethernet2Header.put.Met.{met as put-met}
use Rattle.ether_tags.proofs.ethernet2_header.Ethernet2Header.write_to_slice.Statement.{statement}
use Rattle.ether_tags.proofs.ethernet2_header.Ethernet2Header.write_to_slice.Code as code

pub write_to_slice_spec : {M : Type 1} → statement M
write_to_slice_spec 𝓤 𝓛 𝓜 𝓡 wired =
    meets the_row #put 14 tt layers.Ethernet2Header 1 tt ([], (refl, (tt, (refl, tt)))) 𝓛 𝓜 𝓡
    (λ h. ethernet2_bytes (ethernet2_view h)) #self (code.unfolded 𝓤 𝓛.H 𝓜 𝓡 wired)
    (put-met 𝓤 𝓛 𝓜 𝓡 (code.calls-ether_tags::ethernet2_header::Ethernet2Header::put 𝓡.env wired))
    (rest-met 𝓤 𝓛 𝓜 𝓡 (code.calls-ether_base::write_front::rest_from 𝓡.env wired))
