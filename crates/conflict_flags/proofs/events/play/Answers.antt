use Rattle.std.proofs.Common.{◌≡◌, true, ◌↔◌, List, [], drop, ap, sym, ◌∙◌, subst, arith}
use Rattle.std.proofs.lemmas.List.{drop_all}
use Rattle.locus_ids.specs.declared.ids.Stamp.{Stamp}
use Rattle.version_vector.specs.Counters.{AllLe}
use Rattle.commit_graph.specs.Versions.{is_in, is_ancestor}
use Rattle.commit_graph.specs.Vectors.{vector_of}
use Rattle.conflict_flags.specs.declared.events.Event.{Event}
use Rattle.conflict_flags.specs.Table.{Table, run, start, the_file}
use Rattle.conflict_flags.proofs.events.play.Goals as goal

-- vectors tell ancestors in this table
abbrev Tells : Table → Type 0
Tells t = (a b : Stamp) → is_in t.history the_file a ≡ true → is_in t.history the_file b ≡ true → (is_ancestor t.history the_file a b ≡ true) ↔ AllLe (vector_of t.history the_file a) (vector_of t.history the_file b)

pub returns-clause-tell : goal.returns-clause-tell
returns-clause-tell c =
    let none : drop c.loop-event.event-index c.args.events.now ≡ [] = drop_all c.loop-event.event-index c.args.events.now (omega arith) in
    let whole : c.loop-event.table ≡ run c.args.events.now start = ap (λ (es : List Event). run es c.loop-event.table) (sym none) ∙ c.loop-event.invariant in
    subst Tells (sym whole) (c.vectors_tell_ancestors.ensures.tell c.args.events.now)
