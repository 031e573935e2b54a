-- The texts of the errors of the MACsec SecTag.
use Rattle.std.specs.Prelude.{ℕ, List, codes}
use Rattle.ether_base.specs.declared.err.macsec.header_error.HeaderError.{HeaderError}
use Rattle.ether_base.specs.declared.err.macsec.header_error.HeaderError.TheVariants.{UnexpectedVersion, InvalidUnmodifiedShortLen}

abbrev pub header_error_text : HeaderError → List ℕ
header_error_text UnexpectedVersion =
    codes "MACsec Header Error: Encountered '1' as MACsec version in the MACsec SecTag header (must be '0')."
header_error_text InvalidUnmodifiedShortLen =
    codes "MACsec Header Error: Encountered '1' as MACsec short len in an unmodified packet (must be '0' or '2' or greater)."
