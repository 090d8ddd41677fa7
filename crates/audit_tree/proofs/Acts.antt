-- What an act gives and leaves by the definition of the tree, against what was carried out.
use Rattle.std.proofs.Common.{◌≡◌, ℕ, Bool, List, Option, None, Some, refl, sym, ap, ◌∙◌}
use Rattle.std.specs.List.{find}
use Rattle.locus_ids.specs.declared.ids.Stamp.{Stamp}
use Rattle.commit_graph.specs.Vectors.{vector_of}
use Rattle.trace_book.specs.declared.operation.Op.{Op}
use Rattle.trace_book.specs.declared.operation.Op.TheVariants as op
use Rattle.trace_book.specs.declared.operation.Outcome.{Outcome}
use Rattle.trace_book.specs.declared.operation.Outcome.TheVariants as outcome
use Rattle.file_effects.specs.Effects.{As, Deed, Effect, Mends, Removes, effect}
use Rattle.file_effects.specs.Works.{aborted, commit_result, counted}
use Rattle.file_effects.specs.declared.work.Work.{Work}
use Rattle.operation_effects.specs.Settling.{Worked, worked, worked_so}
use Rattle.tree_model.specs.Histories.{stamped_content}
use Rattle.tree_model.specs.Working.{are_several, effect_of, in_room, operated_by}
use Rattle.promises.specs.Past.{Epoch, Instance, Past, kept_in}
use Rattle.audit_copies.proofs.of_past_laws.Names.{none_some, some_same}
use Rattle.promises.specs.Tree.{result_on, work_after, effect_on, free_pages, is_spent, is_target, mended, removes}
use Rattle.audit_tree.specs.Adding.{acted_with, added_on, removes_with, seen_by}
use Rattle.audit_tree.specs.Acting.{IsPlain, acted_on, committed_so, given_so}

acts_by : (free : ℕ) (w : Work) (e : Option Effect) → worked free w e ≡ given_so (in_room free w.changed e) (λ result. operated_by result e w) w
acts_by free w None = refl
acts_by free w (Some e) = refl

module _ (p : Past) (t : Epoch) (x : Instance) where
  abbrev pub free : ℕ
  free = free_pages p t x.grant.file.group x.grant.ss

  pub plain_acts : (o : Op) → IsPlain o → worked free x.work (effect (As o) x.work.content) ≡ acted_on p t o x
  plain_acts (op.Probe name) h = acts_by free x.work (effect (As (op.Probe name)) x.work.content)
  plain_acts (op.Find component) h = acts_by free x.work (effect (As (op.Find component)) x.work.content)
  plain_acts (op.Insert name ino kind) h = acts_by free x.work (effect (As (op.Insert name ino kind)) x.work.content)
  plain_acts (op.Remove name ino) h = absurd h
  plain_acts (op.Rename component name) h = acts_by free x.work (effect (As (op.Rename component name)) x.work.content)
  plain_acts op.Empty h = acts_by free x.work (effect (As op.Empty) x.work.content)
  plain_acts (op.Read at len) h = acts_by free x.work (effect (As (op.Read at len)) x.work.content)
  plain_acts (op.Write at bytes) h = acts_by free x.work (effect (As (op.Write at bytes)) x.work.content)
  plain_acts (op.Cut len) h = acts_by free x.work (effect (As (op.Cut len)) x.work.content)
  plain_acts op.Commit h = absurd h
  plain_acts op.Abort h = absurd h
  plain_acts op.Mend h = absurd h

  removes_by : (name : List ℕ) (ino : ℕ) (d : Option Deed) → removes name ino p (find (is_target x ino) t.opened) ≡ d → worked free x.work (effect_of d x.work.content) ≡ acted_on p t (op.Remove name ino) x
  removes_by name ino d is = acts_by free x.work (effect_of d x.work.content) ∙ ap (λ v. given_so (in_room free x.work.changed (effect_of v x.work.content)) (λ result. operated_by result (effect_of v x.work.content) x.work) x.work) (sym is)

  -- a removal where the call has the inode open by an instance that stands on a version
  pub remove_acts : (name : List ℕ) (ino : ℕ) (y : Instance) (s : Stamp) → find (is_target x ino) t.opened ≡ Some y → y.work.last ≡ Some s
      → worked free x.work (effect (Removes name ino (vector_of p.history y.grant.file s)) x.work.content) ≡ acted_on p t (op.Remove name ino) x
  remove_acts name ino y s found stands = removes_by name ino (Some (Removes name ino (vector_of p.history y.grant.file s))) (rw found (rw stands refl))

  -- a removal where it has none, or one that stands on no version, isn't lawful
  pub remove_unopened : (name : List ℕ) (ino : ℕ) → find (is_target x ino) t.opened ≡ None → worked_so None x.work ≡ acted_on p t (op.Remove name ino) x
  remove_unopened name ino found = removes_by name ino None (rw found refl)

  pub remove_unmade : (name : List ℕ) (ino : ℕ) (y : Instance) → find (is_target x ino) t.opened ≡ Some y → y.work.last ≡ None → worked_so None x.work ≡ acted_on p t (op.Remove name ino) x
  remove_unmade name ino y found stands = removes_by name ino None (rw found (rw stands refl))

  pub mend_acts : (several : Bool) (joined : List ℕ) → several ≡ are_several (kept_in p t x.grant.file) → joined ≡ mended p t x.grant.file → worked free x.work (effect (Mends several joined) x.work.content) ≡ acted_on p t op.Mend x
  mend_acts several joined s j =
      ap (λ b. worked free x.work (effect (Mends b joined) x.work.content)) s
      ∙ ap (λ new. worked free x.work (effect (Mends (are_several (kept_in p t x.grant.file)) new) x.work.content)) j
      ∙ acts_by free x.work (effect_on p t op.Mend x)

  pub commit_acts : (spent : Bool) → spent ≡ is_spent p t x → committed_so (commit_result spent x.work) x.work ≡ acted_on p t op.Commit x
  commit_acts spent is = ap (λ b. committed_so (commit_result b x.work) x.work) is ∙ by (commit_result (is_spent p t x) x.work)
    where
      by : (o : Option Outcome) → committed_so o x.work ≡ given_so o (λ result. counted x.work) x.work
      by None = refl
      by (Some o) = refl

  pub abort_acts : (new : Work) (content : List ℕ) → content ≡ stamped_content p.history x.grant.file x.work.last → new ≡ aborted x.grant.mode content x.work → worked_so (Some outcome.Done) new ≡ acted_on p t op.Abort x
  abort_acts new content is left = ap (worked_so (Some outcome.Done)) (left ∙ ap (λ c. aborted x.grant.mode c x.work) is)

-- What an operation gives and leaves with what the tree adds is what the tree says.
pub acts_with : (p : Past) (t : Epoch) (o : Op) (x : Instance) → acted_with (added_on p t o x) o (free_pages p t x.grant.file.group x.grant.ss) x.grant.mode x.work ≡ acted_on p t o x
acts_with p t op.Commit x = commit_acts p t x (is_spent p t x) refl
acts_with p t op.Abort x = abort_acts p t x (aborted x.grant.mode (stamped_content p.history x.grant.file x.work.last) x.work) (stamped_content p.history x.grant.file x.work.last) refl refl
acts_with p t op.Mend x = mend_acts p t x (are_several (kept_in p t x.grant.file)) (mended p t x.grant.file) refl refl
acts_with p t (op.Remove name ino) x = by (find (is_target x ino) t.opened) refl
  where
    on_version : (y : Instance) (s : Option Stamp) → find (is_target x ino) t.opened ≡ Some y → y.work.last ≡ s → removes_with (seen_by p (Some y)) name ino (free_pages p t x.grant.file.group x.grant.ss) x.work ≡ acted_on p t (op.Remove name ino) x
    on_version y None found stands = rw stands (remove_unmade p t x name ino y found stands)
    on_version y (Some s) found stands = rw stands (remove_acts p t x name ino y s found stands)

    by : (o : Option Instance) → find (is_target x ino) t.opened ≡ o → removes_with (seen_by p o) name ino (free_pages p t x.grant.file.group x.grant.ss) x.work ≡ acted_on p t (op.Remove name ino) x
    by None found = remove_unopened p t x name ino found
    by (Some y) found = on_version y y.work.last found refl
acts_with p t (op.Probe name) x = plain_acts p t x (op.Probe name) tt
acts_with p t (op.Find component) x = plain_acts p t x (op.Find component) tt
acts_with p t (op.Insert name ino kind) x = plain_acts p t x (op.Insert name ino kind) tt
acts_with p t (op.Rename component name) x = plain_acts p t x (op.Rename component name) tt
acts_with p t op.Empty x = plain_acts p t x op.Empty tt
acts_with p t (op.Read at len) x = plain_acts p t x (op.Read at len) tt
acts_with p t (op.Write at bytes) x = plain_acts p t x (op.Write at bytes) tt
acts_with p t (op.Cut len) x = plain_acts p t x (op.Cut len) tt

-- Where an operation is given a result, it is one that is told, and what is left is what becomes of the instance by that.

given_is : (o : Option Outcome) (after : Outcome → Work) (w new : Work) (gave : Outcome) → worked_so (Some gave) new ≡ given_so o after w → (o ≡ Some gave) × (new ≡ after gave)
given_is None after w new gave e = absurd (none_some gave (sym (ap (λ (x : Worked). x.gave) e)))
given_is (Some r) after w new gave e = let is : gave ≡ r = some_same gave r (ap (λ (x : Worked). x.gave) e) in (ap (λ (z : Outcome). Some z) (sym is), ap (λ (x : Worked). x.work) e ∙ ap after (sym is))

none_given : (o : Option Outcome) (after : Outcome → Work) (w new : Work) → worked_so None new ≡ given_so o after w → o ≡ None
none_given None after w new e = refl
none_given (Some r) after w new e = absurd (none_some r (ap (λ (x : Worked). x.gave) e))

pub gave_so : (p : Past) (t : Epoch) (o : Op) (x : Instance) (new : Work) (gave : Outcome) → worked_so (Some gave) new ≡ acted_on p t o x → (result_on p t o x ≡ Some gave) × (new ≡ work_after p t o gave x)
gave_so p t o x new gave e = given_is (result_on p t o x) (λ result. work_after p t o result x) x.work new gave e

pub gave_none : (p : Past) (t : Epoch) (o : Op) (x : Instance) (new : Work) → worked_so None new ≡ acted_on p t o x → result_on p t o x ≡ None
gave_none p t o x new e = none_given (result_on p t o x) (λ result. work_after p t o result x) x.work new e
