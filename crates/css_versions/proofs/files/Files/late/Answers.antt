use Rattle.std.proofs.Common.{ℕ, List, ap, sym, ◌∙◌}
use lib.Pointwise.{bytes_decides}
use Rattle.css_versions.specs.Lists.{found_rows, late_of}
use Rattle.css_versions.proofs.Listing.{found_late}
use Rattle.css_versions.proofs.files.Files.late.Goals as goal

pub returns-then-eq : goal.returns-then-eq
returns-then-eq c =
    rw (← c.self.view_is)
    (ap (found_rows c.self.inside.rows.items)
    (c.as_slice.ensures.rows
    ∙ (c.self.invariant.1
    ∙ ap (λ (boot : List ℕ). late_of (record { boot = boot }) c.self.inside.rows.items) ((bytes_decides c.self.inside.lists.members.boot c.args.members.now.boot).0 (sym c.if-eq.ensures))))
    ∙ found_late c.args.members.now c.self.inside.rows.items c.self.invariant.0)
