-- SecTags of MACsec as values and as bytes, the payloads that they name, and their refusals.
pub use Rattle.ether_base.specs.Formats.Macsec.{SecTagFront, sec_tag_front_number, FitsSecTagFront, BeginsSecTag, ether_type_len, sec_tag_len, known_len, known_payload_len}
pub use Rattle.ether_base.specs.Formats.Macsec.{PayloadType, Unmodified, Modified, EncryptedUnmodified, Encrypted, SecTagValue, encrypted_of, changed_of, sci_present_of, sec_tag_front_of}
pub use Rattle.ether_base.specs.Formats.Macsec.{HasSci, HasEtherType, IsSecTag, sec_tag_front_at, sec_tag_front_in, payload_type_for, sci_for, sec_tag_with, sec_tag_of}
pub use Rattle.ether_base.specs.Formats.Macsec.{FitsSci, FitsPayloadType, FitsSecTag, sci_bytes, ether_type_bytes, sec_tag_bytes}
pub use Rattle.ether_tags.specs.Macsec.{payload_type_view, readable_type, sec_tag_view, header_front, number_of, short_len_for, tag_bytes, tag_front, tag_in, IsUnmodified, IsRow, IsRefusedTag, IsRefusedPacket}
pub use Rattle.ether_tags.specs.Macsec.{payload_end, payload_end_after, cut_payload, payload_source, payload_in, HoldsTyped, HoldsPayload, readable_payload, SamePayload, SameTagged}
