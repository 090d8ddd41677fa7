use Rattle.std.proofs.Common.{◌≡◌, ◌∙◌, true, false, ⊎_elim, sym, arith}
use Rattle.std.proofs.lemmas.Bool.{cases_Bool, true≢false}
use Rattle.file_content.specs.Pages.{pages_of, is_under}
use Rattle.inode_pack.proofs.WrittenTables.{one_changed, none_changed, is_under_of, under_parts}
use Rattle.inode_pack.proofs.new_tables.changes_under.Goals as goal

pub returns-then-is_changed : goal.returns-then-is_changed
returns-then-is_changed g c =
    let w = (g.C.NewContent.working c.args.content.now) in
    let i = c.loop-i.i in
    let inside = c.requires.inside in
    sym (one_changed w c.args.table (pages_of w.size) i (omega arith) (sym c.is_changed.ensures.changed ∙ c.if-is_changed.true) (is_under_of c.args.table i (omega arith) (omega arith)))

pub returns : goal.returns
returns g c =
    let w = (g.C.NewContent.working c.args.content.now) in
    sym (none_changed w c.args.table (pages_of w.size) (λ i lt is. ⊎_elim
    (λ (under : is_under c.args.table i ≡ true).
    let row = c.requires.changed i lt is in
    let place = under_parts c.args.table i under in
    absurd (true≢false (sym is ∙ c.loop-i.invariant i row.0 place.0 (omega (arith, row.1, place.1)))))
    (λ (beside : is_under c.args.table i ≡ false). beside)
    (cases_Bool (is_under c.args.table i))))
