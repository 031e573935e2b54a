-- The kinds of units.

pub data Kind : Type 0 where
  Ethernet2 : Kind
  Ethernet2Fcs : Kind
  LinuxSll : Kind
  Vlan : Kind
  Macsec : Kind
  Arp : Kind
