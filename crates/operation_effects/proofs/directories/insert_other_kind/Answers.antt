use Rattle.std.proofs.Common.{◌≡◌, ℕ, List, Bool, true, false, None, subst, sym, ◌∙◌, arith}
use Rattle.std.specs.List.{list_any}
use Rattle.role_steps.proofs.of_plain_facts.Tests.{not_false}
use Rattle.dir_format.specs.declared.entry.Entry.{Entry}
use Rattle.dir_format.specs.Entries.{is_pair, pair_in}
use Rattle.dir_format.proofs.Tests.{not_true}
use Rattle.operation_effects.proofs.Inserting.{stands_so, none_found, refused_other, no_other, new_entry}
use Rattle.operation_effects.proofs.directories.insert_other_kind.Goals as goal

pub returns-then-has_pair-clause-value : goal.returns-then-has_pair-clause-value
returns-then-has_pair-clause-value c content =
    stands_so c.args.name.now c.args.ino c.args.kind c.args.d.now content
    (subst (λ (ds : List Entry). list_any (is_pair c.args.name.now c.args.ino) ds ≡ true) c.as_slice.ensures.value (sym c.has_pair.ensures ∙ c.if-has_pair.true))

pub returns-then-branch-clause-value : goal.returns-then-branch-clause-value
returns-then-branch-clause-value c content =
    let new : pair_in c.args.name.now c.args.ino c.args.d.now ≡ None = none_found (is_pair c.args.name.now c.args.ino) c.args.d.now
    (subst (λ (ds : List Entry). list_any (is_pair c.args.name.now c.args.ino) ds ≡ false) c.as_slice.ensures.value (sym c.has_pair.ensures ∙ c.if-has_pair.false)) in
    no_other c.args.name.now c.args.ino c.args.kind c.args.d.now content (new_entry c.args.name.now c.args.ino c.args.kind c.requires.name (omega arith) (omega arith)) c.requires.kind new
    (not_true _ (sym c.in_ok-is_room_beside.ensures ∙ c.if-branch.true))

pub returns-clause-value : goal.returns-clause-value
returns-clause-value c content =
    let new : pair_in c.args.name.now c.args.ino c.args.d.now ≡ None = none_found (is_pair c.args.name.now c.args.ino) c.args.d.now
    (subst (λ (ds : List Entry). list_any (is_pair c.args.name.now c.args.ino) ds ≡ false) c.as_slice.ensures.value (sym c.has_pair.ensures ∙ c.if-has_pair.false)) in
    refused_other c.args.name.now c.args.ino c.args.kind c.args.d.now content c.as_slice.ensures.is_dir (new_entry c.args.name.now c.args.ino c.args.kind c.requires.name (omega arith) (omega arith)) new
    (not_false _ (sym c.in_ok-is_room_beside.ensures ∙ c.if-branch.false))
