use Rattle.std.proofs.Common.{◌≡◌, ◌∙◌, ap, subst, rules}
use Rattle.std.specs.Prelude.{Option}
use Rattle.etherparse.specs.Types.LinkSlice.{LinkSlice}
use Rattle.ether_c.specs.declared.ether_row.EtherRow.{EtherRow}
use Rattle.ether_c.specs.Rows.{HoldsAddresses, presence}
use Rattle.ether_c.proofs.RowsGiven.{tag_presence}
use Rattle.ether_c.proofs.ether_row.EtherRow.with_headers.Goals as goal

pub returns-clause-headers : goal.returns-clause-headers
returns-clause-headers c =
    let same = c.with_addresses.ensures.others in
    let told : c.from.result ≡ presence c.macsec.result = search rules in
    record {
      addresses = subst (λ (l : Option LinkSlice). HoldsAddresses l c.with_addresses.result) c.link.ensures
          c.with_addresses.ensures.addresses;
      ids = ap (λ (r : EtherRow). r.vlan_ids) same ∙ search rules;
      id_count = ap (λ (r : EtherRow). r.vlan_count) same ∙ search rules;
      macsec = ap (λ (r : EtherRow). r.has_macsec) same ∙ told ∙ tag_presence _ _ c.macsec.ensures;
      arp = ap (λ (r : EtherRow). r.has_arp) same ∙ search rules;
      ether_type = ap (λ (r : EtherRow). r.ether_type) same ∙ search rules;
      fault = ap (λ (r : EtherRow). r.fault) same ∙ search rules;
      fault_offset = ap (λ (r : EtherRow). r.fault_offset) same ∙ search rules;
    }
