use Rattle.std.proofs.Common.{◌≡◌, ◌+◌, ◌-◌, ◌*◌, ℕ, arith, sym, ap, ◌∙◌, true, false}
use Rattle.std.specs.Prelude.{Some, slice_range}
use Rattle.etherparse.specs.Bytes.{number}
use Rattle.ether_filter.specs.Prospects.{front_of}
use Rattle.ether_filter.proofs.SecTags.{type_len}
use Rattle.ether_filter.proofs.behind.type_behind_tag.Goals as goal

pub returns-else-is_modified : goal.returns-else-is_modified
returns-else-is_modified c second small =
    let f = front_of c.args.first second in
    record {
      unmodified_type = λ e g.
          (let place : c.tag_len.result - 2 ≡ 6 + 8 * f.sci_present =
          omega (arith, c.tag_len.ensures second small, type_len f e g) in
          ap Some (c.number_at.ensures ∙ ap (λ (i : ℕ). number (slice_range c.args.known.now i (i + 2))) place));
      modified_type = λ never.
          (let is = (c.is_modified.ensures second small).1 (λ both. never both.0 both.1) in
          let clash : false ≡ true = sym c.if-is_modified.false ∙ is in
          absurd cc);
    }
