-- An operation that doesn't change its file never counts as a change of it.
use Rattle.std.proofs.Common.{◌≡◌, ℕ, ◌+◌, nat_lt, Bool, true, false, cond, ◌||◌, List, [], ◌∷◌, length, Option, Some, None, refl}
use Rattle.std.specs.List.{find}
use Rattle.role_steps.proofs.of_plain_facts.Tests.{false_true}
use Rattle.commit_graph.specs.Grants.{is_read}
use Rattle.locus_ids.specs.declared.ids.Mode.{Mode}
use Rattle.locus_ids.specs.declared.ids.Mode.TheVariants as mode
use Rattle.locus_ids.specs.declared.refusal.Refusal.TheVariants as refusal
use Rattle.locus_ids.specs.Sizes.{directory_bytes_max}
use Rattle.trace_book.specs.declared.operation.Op.{Op}
use Rattle.trace_book.specs.declared.operation.Op.TheVariants as op
use Rattle.trace_book.specs.declared.operation.Outcome.{Outcome as Result}
use Rattle.trace_book.specs.declared.operation.Outcome.TheVariants as result
use Rattle.role_steps.specs.of_dir_format.declared.entry.Entry.{Entry}
use Rattle.role_steps.specs.of_dir_format.declared.looking.LookResult.{LookResult}
use Rattle.role_steps.specs.of_dir_format.declared.looking.LookResult.TheVariants as look
use Rattle.role_steps.specs.of_dir_format.Contents.{entries_of, is_dir}
use Rattle.role_steps.specs.of_dir_format.Lookups.{has_name, lookup, shown_names}
use Rattle.role_steps.specs.of_dir_format.Effects.{DirEffect, dir_effect, answers, refuses, size_of, probe_beside, probe_effect, find_by, find_effect, empty_among}
use Rattle.role_steps.specs.of_file_effects.Effects.{Effect, is_refusal, is_worded, in_directory, on_directory}
use Rattle.role_steps.specs.of_file_effects.Works.{begins_owing, counted, carried_out, operated}
use Rattle.role_steps.specs.of_file_effects.declared.work.Work.{Work}
use Rattle.role_steps.specs.OperationEffects.{Mending, effect_of}
use Rattle.site_laws.specs.Locks.Writing.{changes}

-- an effect that doesn't count as a change
abbrev pub CountsNot : Option Effect → Type 0
CountsNot None = Unit {0}
CountsNot (Some e) = e.counts ≡ false

abbrev DirCountsNot : Option DirEffect → Type 0
DirCountsNot None = Unit {0}
DirCountsNot (Some d) = d.counts ≡ false

in_directory_not : (content : List ℕ) (d : Option DirEffect) → DirCountsNot d → CountsNot (in_directory content d)
in_directory_not content None h = tt
in_directory_not content (Some d) h = elim (is_dir d.entries) as (λ b. CountsNot (cond b (Some (on_directory content d)) None)) [ true ↦ h | false ↦ tt ]

worded_not : (o : Op) (e : Option Effect) → CountsNot e → CountsNot (cond (is_worded o) e None)
worded_not o e h = elim (is_worded o) as (λ b. CountsNot (cond b e None)) [ true ↦ h | false ↦ tt ]

probe_not : (name : List ℕ) (ds : List Entry) (d : Option Entry) → (probe_beside name ds d).counts ≡ false
probe_not name ds None = elim (nat_lt directory_bytes_max (size_of ds + (length name + 8))) as (λ b. (cond b (refuses refusal.TooLong ds) (answers result.Done ds)).counts ≡ false) [ true ↦ refl | false ↦ refl ]
probe_not name ds (Some d) = refl

find_not : (component : List ℕ) (ds : List Entry) (l : LookResult) → (find_by component ds l).counts ≡ false
find_not component ds (look.Found ino kind) = refl
find_not component ds look.Absent = refl
find_not component ds (look.Ambiguous a b) = refl

empty_not : (ds : List Entry) (shown : List (List ℕ)) → (empty_among ds shown).counts ≡ false
empty_not ds [] = refl
empty_not ds (x ∷ others) = refl

pub effect_not : (o : Op) (seen : List ℕ) (m : Mending) (content : List ℕ) → changes o ≡ false → CountsNot (effect_of o seen m content)
effect_not (op.Probe name) seen m content h = worded_not (op.Probe name) _ (in_directory_not content (Some (probe_effect name (entries_of content))) (probe_not name (entries_of content) (find (has_name name) (entries_of content))))
effect_not (op.Find component) seen m content h = worded_not (op.Find component) _ (in_directory_not content (Some (find_effect component (entries_of content))) (find_not component (entries_of content) (lookup (entries_of content) component)))
effect_not op.Empty seen m content h = worded_not op.Empty _ (in_directory_not content (dir_effect op.Empty seen (entries_of content)) (empty_not (entries_of content) (shown_names (entries_of content))))
effect_not (op.Read at len) seen m content h = refl
effect_not op.Commit seen m content h = tt
effect_not op.Abort seen m content h = tt
effect_not (op.Insert name ino kind) seen m content h = absurd (cc)
effect_not (op.Remove name ino) seen m content h = absurd (cc)
effect_not (op.Rename component name) seen m content h = absurd (cc)
effect_not (op.Write at bytes) seen m content h = absurd (cc)
effect_not (op.Cut len) seen m content h = absurd (cc)
effect_not op.Mend seen m content h = absurd (cc)

-- ---- what an instance owes after an operation ----

carried_owes : (a b : Bool) (R : Type 0) → (a ≡ true → R) → (b ≡ true → R) → (a || b) ≡ true → R
carried_owes true b R f g h = f refl
carried_owes false b R f g h = g h

-- what it owed before, or a change
pub operated_owes : (e : Effect) (r : Result) (w : Work) (R : Type 0) → (w.owes ≡ true → R) → (e.counts ≡ true → R) → (operated e r w).owes ≡ true → R
operated_owes e r w R f g =
    elim (is_refusal r) as (λ b. (cond b (counted w) (carried_out e w)).owes ≡ true → R) [
      | true ↦ λ h. f h
      | false ↦ λ h. carried_owes w.owes e.counts R f g h
    ]

-- what owes from its grant on isn't to read
pub begins_to_write : (m : Mode) → begins_owing m ≡ true → is_read m ≡ false
begins_to_write mode.Make h = refl
begins_to_write mode.Resolve h = refl
begins_to_write mode.Read h = absurd (false_true h)
begins_to_write mode.Write h = refl
begins_to_write mode.Mend h = refl
