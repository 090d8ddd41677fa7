-- What is told by the history and by what an epoch knows is what the whole past tells.
use Rattle.std.proofs.Common.{◌≡◌, [], refl}
use Rattle.locus_ids.specs.declared.ids.FileId.{FileId}
use Rattle.trace_book.specs.declared.operation.Op.{Op}
use Rattle.trace_book.specs.declared.operation.Op.TheVariants as op
use Rattle.promises.specs.Past.{Epoch, Instance, Past, kept_in}
use Rattle.promises.specs.Tree.{is_spent, mended, parents_of, wants_rescue}
use Rattle.audit_tree.specs.Adding.{added_on}
use Rattle.audit_acts.specs.Knowing.{knowing, of_history}

module _ (p : Past) (t : Epoch) where
  pub kept_so : (f : FileId) → kept_in (of_history p.history) (knowing t.known []) f ≡ kept_in p t f
  kept_so f = refl

  pub mended_told : (f : FileId) → mended (of_history p.history) (knowing t.known []) f ≡ mended p t f
  mended_told f = refl

  pub wanted_told : (f : FileId) → wants_rescue (of_history p.history) (knowing t.known []) f ≡ wants_rescue p t f
  wanted_told f = refl

  pub parents_told : (x : Instance) → parents_of (of_history p.history) (knowing t.known []) x ≡ parents_of p t x
  parents_told x = refl

  pub spent_told : (x : Instance) → is_spent (of_history p.history) (knowing t.known []) x ≡ is_spent p t x
  spent_told x = refl

  pub added_told : (o : Op) (x : Instance) → added_on (of_history p.history) (knowing t.known t.opened) o x ≡ added_on p t o x
  added_told (op.Probe name) x = refl
  added_told (op.Find component) x = refl
  added_told (op.Insert name ino kind) x = refl
  added_told (op.Remove name ino) x = refl
  added_told (op.Rename component name) x = refl
  added_told op.Empty x = refl
  added_told (op.Read at len) x = refl
  added_told (op.Write at bytes) x = refl
  added_told (op.Cut len) x = refl
  added_told op.Commit x = refl
  added_told op.Abort x = refl
  added_told op.Mend x = refl
