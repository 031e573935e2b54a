use Rattle.std.proofs.Common.{◌++◌}
use Rattle.ether_base.specs.Enumerations.ArpHardwareId.{arp_hardware_description, assigned_descriptions, link_descriptions}
use Rattle.ether_base.proofs.NumberText.{description_in-append, option_copied-or}
use Rattle.ether_base.proofs.arp_hardware_id.ArpHardwareId.name.Goals as goal

pub returns : goal.returns
unfolding arp_hardware_description
returns c =
    rw (
      c.or-2.ensures,
      c.or.ensures,
      option_copied-or,
      option_copied-or,
      c.assigned_name.ensures,
      c.link_name.ensures,
      c.device_name.ensures,
      description_in-append (assigned_descriptions ++ link_descriptions),
      description_in-append assigned_descriptions,
    )
