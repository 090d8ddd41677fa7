-- What is committed is a new version of its file: no stamp is given twice, and the format's has no number.
use Rattle.std.proofs.Common.{◌≡◌, ℕ, ◌+◌, ◌-◌, Bool, true, cond, List, ◌∷◌, ◌⊎◌, inl, inr, sym, ◌∙◌, subst, arith}
use Rattle.std.proofs.lemmas.Bool.Decides.{nat_tests}
use Rattle.role_steps.proofs.of_plain_facts.Tests.{true_false}
use Rattle.locus_ids.specs.declared.config.Config.{Config}
use Rattle.locus_ids.specs.declared.ids.FileId.{FileId}
use Rattle.locus_ids.specs.declared.ids.Stamp.{Stamp}
use Rattle.version_vector.specs.Counters.{part}
use Rattle.version_vector.proofs.Counting.{part-raised_same}
use Rattle.commit_graph.specs.Versions.{is_in, same_file}
use Rattle.conflict_flags.specs.Written.{NoneTwice}
use Rattle.trace_book.specs.declared.record.Record.{Record}
use Rattle.trace_book.specs.declared.record.Record.TheVariants as says
use Rattle.role_steps.specs.Views.{Told, Shown}
use Rattle.the_run.specs.Worlds.{Line}
use Rattle.store_laws.specs.of_site_laws.Vectors.Written.{IsNumbered, NumberedTold, past_of}
use Rattle.store_laws.specs.of_site_laws.Vectors.HistoryCommits.{StampsAreOnce, commits_of, real_parents}
use Rattle.tree_model.specs.Histories.{history}
use Rattle.tree_laws.specs.Frames.{IsFresh}
use Rattle.tree_laws.specs.Printed.{entries}
use Rattle.store_laws.proofs.Holdings.Below.{in_commits}

numbered_some : (older : List Told) (f : FileId) (s : ℕ) (stamp : Stamp) (parents : List Stamp) → IsNumbered older f s stamp parents → stamp.n ≡ 0 → ⊥
numbered_some older f s stamp parents k e = never (part k.base (s - 1)) (sym e ∙ (k.number ∙ part-raised_same k.base (s - 1)))
  where
    never : (n : ℕ) → 0 ≡ n + 1 → ⊥
    never n q = omega (arith, q)

commit_fresh : (c : Config) (older : List Line) (f : FileId) (z : ℕ) (stamp : Stamp) (parents : List Stamp) (content : List ℕ) → (stamp.n ≡ 0 → ⊥) → StampsAreOnce (Shown (says.Commit f z stamp parents content) ∷ past_of older) → is_in (history c (entries older)) f stamp ≡ true → ⊥
commit_fresh c older f z stamp parents content some once stands = over (in_commits c older f stamp stands)
  where
    own : (g : FileId) → same_file g g ≡ true
    own g = grind (arith, nat_tests)

    twice : NoneTwice (record { file = f; site = z; stamp = stamp; parents = real_parents parents; content = content } ∷ commits_of f (past_of older))
    twice = subst (λ (b : Bool). NoneTwice (cond b (record { file = f; site = z; stamp = stamp; parents = real_parents parents; content = content } ∷ commits_of f (past_of older)) (commits_of f (past_of older)))) (own f) (once f)

    over : (is_in (commits_of f (past_of older)) f stamp ≡ true) ⊎ (stamp.n ≡ 0) → ⊥
    over (inl k) = true_false (sym k ∙ twice.0)
    over (inr k) = some k

fresh_record : (c : Config) (older : List Line) (r : Record) → NumberedTold (past_of older) (Shown r) → StampsAreOnce (Shown r ∷ past_of older) → IsFresh c older (Shown r)
fresh_record c older (says.Commit f z stamp parents content) k once = commit_fresh c older f z stamp parents content (numbered_some (past_of older) f z stamp parents k) once
fresh_record c older _ k once = tt

pub told_fresh : (c : Config) (older : List Line) (x : Told) → NumberedTold (past_of older) x → StampsAreOnce (x ∷ past_of older) → IsFresh c older x
told_fresh c older (Shown r) k once = fresh_record c older r k once
told_fresh c older _ k once = tt
