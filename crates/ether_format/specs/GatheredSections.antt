-- Sections that some headers have: for the contracts of private functions.
use Rattle.std.specs.Prelude.{◌||◌, Bool, true, false}
use Rattle.ether_fields.specs.declared.section.Section.{Section}
use Rattle.ether_fields.specs.declared.section.Section.TheVariants as sections
use Rattle.ether_format.specs.declared.gathered.Gatherer.{Gatherer}
use Rattle.ether_format.specs.declared.gathered.Sections.{Sections}

abbrev pub no_sections : Sections
no_sections = record { has_vlan = false; has_macsec = false; has_arp = false; has_others = false }

abbrev pub added_to : Sections → Section → Sections
added_to s sections.Vlan = record s { has_vlan = true }
added_to s sections.Macsec = record s { has_macsec = true }
added_to s sections.Arp = record s { has_arp = true }
added_to s _ = record s { has_others = true }

-- a column of a section can have a value in a header of these sections
abbrev pub has_section : Sections → Section → Bool
has_section s sections.Vlan = s.has_vlan
has_section s sections.Macsec = s.has_macsec
has_section s sections.Arp = s.has_arp
has_section s sections.Headers = s.has_vlan || (s.has_macsec || (s.has_arp || s.has_others))
has_section s _ = s.has_others

abbrev pub new_gatherer : Gatherer
new_gatherer = record { has_later = false; later = no_sections }
