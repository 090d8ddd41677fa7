-- What became of the disk in a call whose step was remembered, or for which memory was wanting.
use Rattle.std.proofs.Common.{◌≡◌, ℕ, List, Option, Some, None, Result, Ok, Err, subst, sym}
use Rattle.std.specs.Prelude.{IfErr, IsErrAnd}
use Rattle.disk_model.specs.Disk.{Moment}
use Rattle.wire_messages.specs.Outboxes.{Outgoing}
use Rattle.role_steps.specs.Views.{DiskWrite}
use Rattle.role_steps.specs.declared.copies.Step.{Step}
use Rattle.store_instances.specs.of_site_packs.Packs.{PacksState}
use Rattle.store_instances.specs.declared.fault.StoreFault.{StoreFault}
use Rattle.store_instances.specs.declared.fault.StoreFault.TheVariants as fault
use Rattle.store_instances.specs.Writes.{HasSizeOf, Writes}

-- where nothing was cut off there is no size of it
no_size : (o : Option DiskWrite) (p : PacksState) (image : List ℕ) → HasSizeOf o p image fault.NoMemory
no_size None p image = tt
no_size (Some d) p image = tt

module _ {write : Option DiskWrite} {p : PacksState} {old new : Moment} {before after : Outgoing} (made : Option Step) where
  pub done_so : Writes write p old new before after (Ok made) → Writes {T = Unit {0}} write p old new before after (Ok tt)
  done_so w = record { stopped = λ e. absurd cc; leaves = w.leaves; unread = λ e. absurd cc; cause = w.cause; tells = w.tells; told = λ passed e is. absurd cc; cut = w.cut; size = tt; how = w.how }

  memory_so : Writes write p old new before after (Ok made) → Writes {T = Unit {0}} write p old new before after (Err fault.NoMemory)
  memory_so w = record { stopped = λ e. absurd cc; leaves = w.leaves; unread = λ e. absurd cc; cause = w.cause; tells = tt; told = λ passed e is. absurd cc; cut = w.cut; size = no_size write p old.seen; how = w.how }

  pub forgot_so : (r : Result (Unit {0}) StoreFault) → IsErrAnd r (λ f. f ≡ fault.NoMemory) → Writes write p old new before after (Ok made) → Writes write p old new before after r
  forgot_so (Ok x) h w = absurd h
  forgot_so (Err f) h w = subst (λ (g : StoreFault). Writes {T = Unit {0}} write p old new before after (Err g)) (sym h) (memory_so w)
