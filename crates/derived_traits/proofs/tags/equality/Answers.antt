use Rattle.ether_tags.proofs.SameValues.{ext_headers_Decides, ext_slices_Decides, headers_Decides, slices_Decides}
use Rattle.derived_traits.proofs.tags.equality.Goals as goal

pub returns-clause-macsec_header : goal.returns-clause-macsec_header
returns-clause-macsec_header c = headers_Decides

pub returns-clause-link_ext_header : goal.returns-clause-link_ext_header
returns-clause-link_ext_header c = ext_headers_Decides

pub returns-clause-macsec_slice : goal.returns-clause-macsec_slice
returns-clause-macsec_slice c = slices_Decides

pub returns-clause-link_ext_slice : goal.returns-clause-link_ext_slice
returns-clause-link_ext_slice c = ext_slices_Decides
