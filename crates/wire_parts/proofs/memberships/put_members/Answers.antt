use Rattle.std.proofs.Common.{ℕ, [], ◌∷◌, ◌++◌, length, sym, ap, ◌∙◌}
use Rattle.wire_fields.specs.Memberships.{entries, entries_of, spelled_entries}
use Rattle.wire_fields.proofs.Members.{entries_spelled}
use Rattle.wire_parts.proofs.Writing.{behind, respelled}
use Rattle.wire_parts.proofs.memberships.put_members.Goals as goal

pub returns : goal.returns
returns c =
    let es = entries_of c.args.list.now in
    respelled c.put_entries.result c.args.out.now c.put_entries.new.out (length es ∷ spelled_entries es) (entries.spell es) (sym (entries_spelled es))
    (behind c.put_entries.result c.args.out.now c.put_u8.new.out c.put_entries.new.out (length es ∷ []) (spelled_entries es) (c.in_ok-put_u8.ensures.ok ∙ ap (λ (n : ℕ). c.args.out.now ++ n ∷ []) c.count_of.ensures) c.put_entries.ensures)
