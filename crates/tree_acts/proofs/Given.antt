-- What an act gives and leaves by the definition of the tree, against what was carried out.
use Rattle.std.proofs.Common.{◌≡◌, ◌<◌, ℕ, Bool, true, false, cond, List, [], ◌∷◌, length, Option, None, Some, refl, sym, ap, subst, ◌∙◌, arith}
use Rattle.std.specs.Prelude.{filter, map}
use Rattle.std.specs.List.{find}
use Rattle.locus_ids.specs.declared.ids.FileId.{FileId}
use Rattle.locus_ids.specs.declared.ids.Stamp.{Stamp}
use Rattle.commit_graph.specs.declared.history.Version.{Version}
use Rattle.commit_graph.specs.Versions.{content_of}
use Rattle.commit_graph.specs.Vectors.{vector_of}
use Rattle.trace_book.specs.declared.operation.Op.{Op}
use Rattle.trace_book.specs.declared.operation.Op.TheVariants as op
use Rattle.trace_book.specs.declared.operation.Outcome.{Outcome}
use Rattle.dir_format.specs.Contents.{entries_of}
use Rattle.dir_format.specs.Grammar.{dir_bytes}
use Rattle.dir_reconcile.specs.Joins.{joined_dirs}
use Rattle.dir_reconcile.specs.Rescues.{rescued}
use Rattle.file_effects.specs.Effects.{Effect, As, Removes, effect, mends}
use Rattle.file_effects.specs.Works.{commit_result, counted}
use Rattle.file_effects.specs.declared.work.Work.{Work}
use Rattle.role_steps.specs.OperationEffects.{Mending, has_several, joined_contents, mend_effect}
use Rattle.role_steps.specs.OperationEffects as role
use Rattle.operation_effects.proofs.Mended.{mended_so}
use Rattle.tree_model.specs.declared.instance.Instance.{Instance}
use Rattle.tree_model.specs.Same.{is_given}
use Rattle.tree_model.specs.State.{TreeState, kept_of}
use Rattle.tree_model.specs.Mending.{join_of_kept, joined_all, joined_content, kept_vectors}
use Rattle.tree_model.specs.Working.{are_several, effect_on, free_pages, in_room, is_target, operated_by, sees}
use Rattle.tree_steps.proofs.Spent.{never_spent}
use Rattle.tree_acts.specs.Acting.{IsPlain, given_work, has_number, work_by}
use Rattle.tree_acts.proofs.Numbered.{rescued_alike}

-- the result in the room that there is, and what becomes of the instance
by_effect : (free : ℕ) (result : Outcome) (w : Work) (e : Option Effect) → work_by free result w e ≡ cond (is_given (in_room free w.changed e) result) (Some (operated_by result e w)) None
by_effect free result w None = refl
by_effect free result w (Some e) = refl

module _ (h : List Version) (t : TreeState) (result : Outcome) (x : Instance) where
  with_effect : (e : Option Effect) → Option Work
  with_effect e = work_by (free_pages h t x.grant.ss) result x.work e

  pub plain_so : (o : Op) → IsPlain o → (seen : List ℕ) (m : Mending) → work_by (free_pages h t x.grant.ss) result x.work (role.effect_of o seen m x.work.content) ≡ given_work h t o result x
  plain_so (op.Probe name) p seen m = by_effect (free_pages h t x.grant.ss) result x.work (effect (As (op.Probe name)) x.work.content)
  plain_so (op.Find component) p seen m = by_effect (free_pages h t x.grant.ss) result x.work (effect (As (op.Find component)) x.work.content)
  plain_so (op.Insert name ino kind) p seen m = by_effect (free_pages h t x.grant.ss) result x.work (effect (As (op.Insert name ino kind)) x.work.content)
  plain_so (op.Remove name ino) p seen m = absurd p
  plain_so (op.Rename component name) p seen m = by_effect (free_pages h t x.grant.ss) result x.work (effect (As (op.Rename component name)) x.work.content)
  plain_so op.Empty p seen m = by_effect (free_pages h t x.grant.ss) result x.work (effect (As op.Empty) x.work.content)
  plain_so (op.Read at len) p seen m = by_effect (free_pages h t x.grant.ss) result x.work (effect (As (op.Read at len)) x.work.content)
  plain_so (op.Write at bytes) p seen m = by_effect (free_pages h t x.grant.ss) result x.work (effect (As (op.Write at bytes)) x.work.content)
  plain_so (op.Cut len) p seen m = by_effect (free_pages h t x.grant.ss) result x.work (effect (As (op.Cut len)) x.work.content)
  plain_so op.Commit p seen m = absurd p
  plain_so op.Abort p seen m = absurd p
  plain_so op.Mend p seen m = absurd p

  pub removes_with : (o : Op) (name : List ℕ) (ino : ℕ) (seen : List ℕ) (m : Mending) → o ≡ op.Remove name ino → sees h name ino (find (is_target x.grant.call ino) t.instances) ≡ Some (Removes name ino seen)
      → work_by (free_pages h t x.grant.ss) result x.work (role.effect_of o seen m x.work.content) ≡ given_work h t o result x
  removes_with o name ino seen m is e =
      subst (λ (p : Op). work_by (free_pages h t x.grant.ss) result x.work (role.effect_of p seen m x.work.content) ≡ given_work h t p result x) (sym is)
      (rw e (by_effect (free_pages h t x.grant.ss) result x.work (effect (Removes name ino seen) x.work.content)))

  -- a removal where the call has no instance of the inode, or one that stands on no version
  pub removes_nothing : (name : List ℕ) (ino : ℕ) → sees h name ino (find (is_target x.grant.call ino) t.instances) ≡ None → None ≡ given_work h t (op.Remove name ino) result x
  removes_nothing name ino e = rw e refl

-- what a removal sees where the call has an instance that stands on a version
pub sees_one : (h : List Version) (name : List ℕ) (ino : ℕ) (found : Option Instance) (x : Instance) (s : Stamp) (seen : List ℕ) → found ≡ Some x → x.work.last ≡ Some s → seen ≡ vector_of h x.grant.file s
    → sees h name ino found ≡ Some (Removes name ino seen)
sees_one h name ino found x s seen is stands vector = rw is (rw stands (ap (λ (v : List ℕ). Some (Removes name ino v)) (sym vector)))

-- Mends.

joins_alike : (h : List Version) (f : FileId) (kept : List Stamp) → joined_contents (map (content_of h f) kept) ≡ joined_all (map (λ s. entries_of (content_of h f s)) kept)
joins_alike h f [] = refl
joins_alike h f (s ∷ ss) = ap (joined_dirs (entries_of (content_of h f s))) (joins_alike h f ss)

several_alike : (h : List Version) (f : FileId) (kept : List Stamp) → has_several (map (content_of h f) kept) ≡ are_several kept
several_alike h f [] = refl
several_alike h f (a ∷ []) = refl
several_alike h f (a ∷ b ∷ ss) = grind arith

pub mends_so : (h : List Version) (t : TreeState) (result : Outcome) (x : Instance) (seen : List ℕ) (m : Mending)
    → m.contents ≡ map (content_of h x.grant.file) (kept_of h t x.grant.file) → m.kept ≡ filter has_number (kept_vectors h t)
    → work_by (free_pages h t x.grant.ss) result x.work (role.effect_of op.Mend seen m x.work.content) ≡ given_work h t op.Mend result x
mends_so h t result x seen m contents kept =
    let joined : joined_contents m.contents ≡ join_of_kept h t x.grant.file = ap joined_contents contents ∙ joins_alike h x.grant.file (kept_of h t x.grant.file) in
    let several : has_several m.contents ≡ are_several (kept_of h t x.grant.file) = ap (has_several {A = List ℕ}) contents ∙ several_alike h x.grant.file (kept_of h t x.grant.file) in
    let left : dir_bytes (rescued (joined_contents m.contents) m.kept) ≡ joined_content h t x.grant.file =
    ap (λ vs. dir_bytes (rescued (joined_contents m.contents) vs)) kept ∙ ap dir_bytes (rescued_alike m.contents (kept_vectors h t)) ∙ ap (λ ds. dir_bytes (rescued ds (kept_vectors h t))) joined in
    let same : mend_effect (joined_contents m.contents) m x.work.content ≡ effect_on h t op.Mend x =
    sym (mended_so x.work.content (joined_contents m.contents) m)
    ∙ ap (λ (b : Bool). Some (mends x.work.content b (dir_bytes (rescued (joined_contents m.contents) m.kept)))) several
    ∙ ap (λ (new : List ℕ). Some (mends x.work.content (are_several (kept_of h t x.grant.file)) new)) left in
    ap (work_by (free_pages h t x.grant.ss) result x.work) same ∙ by_effect (free_pages h t x.grant.ss) result x.work (effect_on h t op.Mend x)

pub mends_with : (h : List Version) (t : TreeState) (result : Outcome) (x : Instance) (o : Op) (seen : List ℕ) (m : Mending) → o ≡ op.Mend
    → m.contents ≡ map (content_of h x.grant.file) (kept_of h t x.grant.file) → m.kept ≡ filter has_number (kept_vectors h t)
    → work_by (free_pages h t x.grant.ss) result x.work (role.effect_of o seen m x.work.content) ≡ given_work h t op.Mend result x
mends_with h t result x o seen m is contents kept =
    subst (λ (p : Op). work_by (free_pages h t x.grant.ss) result x.work (role.effect_of p seen m x.work.content) ≡ given_work h t op.Mend result x) (sym is) (mends_so h t result x seen m contents kept)

-- Commits. A commit that is owed can be made, and comes first.

pub commits_so : (h : List Version) (t : TreeState) (result : Outcome) (x : Instance) → length h < 4294967295
    → cond (is_given (commit_result false x.work) result) (Some (counted x.work)) None ≡ given_work h t op.Commit result x
commits_so h t result x short = ap (λ (b : Bool). cond (is_given (commit_result b x.work) result) (Some (counted x.work)) None) (sym (never_spent h t x short))

pub by_answer : (b : Bool) (given : Bool) (w : Work) → b ≡ given → b ≡ true → Some w ≡ cond given (Some w) None
by_answer b given w e it = rw (sym e ∙ it) refl

pub by_no : (b : Bool) (given : Bool) (w : Work) → b ≡ given → b ≡ false → None ≡ cond given (Some w) None
by_no b given w e other = rw (sym e ∙ other) refl
