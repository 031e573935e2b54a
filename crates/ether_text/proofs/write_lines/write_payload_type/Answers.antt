use Rattle.std.proofs.Common.{sym, ap}
use Rattle.etherparse.specs.Macsec.{payload_type_view}
use Rattle.ether_text.specs.Lines.{payload_type_text}
use Rattle.ether_output.proofs.OutputBufferLemmas.{Takes-then, Takes-same}
use Rattle.ether_text.proofs.write_lines.write_payload_type.Goals as goal

pub returns-in-Unmodified : goal.returns-in-Unmodified
unfolding payload_type_text
returns-in-Unmodified g c =
    Takes-same (ap (λ p. payload_type_text (payload_type_view p)) (sym c.in-Unmodified.is))
    (Takes-then c.append.ensures (Takes-same c.hex_type.ensures c.append-in-Unmodified.ensures))

pub returns-in-Modified : goal.returns-in-Modified
unfolding payload_type_text
returns-in-Modified g c =
    Takes-same (ap (λ p. payload_type_text (payload_type_view p)) (sym c.in-Modified.is)) c.append-in-Modified.ensures

pub returns-in-Encrypted : goal.returns-in-Encrypted
unfolding payload_type_text
returns-in-Encrypted g c =
    Takes-same (ap (λ p. payload_type_text (payload_type_view p)) (sym c.in-Encrypted.is)) c.append-in-Encrypted.ensures

pub returns-in-EncryptedUnmodified : goal.returns-in-EncryptedUnmodified
unfolding payload_type_text
returns-in-EncryptedUnmodified g c =
    Takes-same (ap (λ p. payload_type_text (payload_type_view p)) (sym c.in-EncryptedUnmodified.is))
    c.append-in-EncryptedUnmodified.ensures
