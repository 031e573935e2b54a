-- What the derived `Hash` of a type feeds a hasher: for an enumeration first the place of the variant, then the fields
-- in order; for bytes first their number, then each.
use Rattle.std.specs.Prelude.{◌++◌}
use Rattle.std.specs.Hash as fed
use Rattle.std.specs.Hash.{HashWrites}
use Rattle.ether_base.specs.Enumerations.Hashes.{len_source_fed, variant}
use Rattle.ether_tags.specs.declared.ether_payload_slice.EtherPayloadSlice.{EtherPayloadSlice}
use Rattle.ether_tags.specs.declared.macsec_p_type.MacsecPType.{MacsecPType}
use Rattle.ether_tags.specs.declared.macsec_p_type.MacsecPType.TheVariants.{Unmodified, Modified, Encrypted, EncryptedUnmodified}

abbrev pub ether_payload_slice_fed : EtherPayloadSlice → HashWrites
ether_payload_slice_fed p = fed.u16 p.ether_type.0 ++ len_source_fed p.len_source ++ fed.slice fed.u8 p.payload.now

abbrev pub macsec_p_type_fed : MacsecPType → HashWrites
macsec_p_type_fed (Unmodified ether_type) = variant 0 ++ fed.u16 ether_type.0
macsec_p_type_fed Modified = variant 1
macsec_p_type_fed Encrypted = variant 2
macsec_p_type_fed EncryptedUnmodified = variant 3
