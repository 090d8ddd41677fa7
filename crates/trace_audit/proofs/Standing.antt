-- What the one instance and the one call of a record are, by what is true of a tidy past.
use Rattle.std.proofs.Common.{ℕ, ◌≡◌, ◌≤◌, List, [], ◌∷◌, length, filter, refl, arith}
use Rattle.locus_ids.specs.declared.config.Config.{Config}
use Rattle.locus_ids.specs.declared.ids.EpochId.{EpochId}
use Rattle.locus_ids.specs.declared.ids.FileId.{FileId}
use Rattle.locus_ids.specs.declared.ids.Serial.{Serial}
use Rattle.promises.specs.Past.{Past, epoch_at, is_named}
use Rattle.audit_laws.specs.Tidy.Tidy.{IsTidy}
use Rattle.audit_laws.specs.Tidy.Steps.{OneAct, OneCommit, OneEnd}
use Rattle.audit_rows.specs.of_audit_told_calls.of_audit_past.Writing.{IsActor, IsEnder, IsOpen, IsWritten}

alone : {X : Type 0} (xs : List X) (x : X) → xs ≡ x ∷ [] → length xs ≤ 1
alone xs x e = rw e (omega arith)

-- a commit has its writer
pub is_written : (p : Past) (f : FileId) (site : ℕ) → OneCommit p f site → IsWritten p f site
is_written p f site it = record { epoch = it.epoch; there = it.there; writer = it.instance; alone = it.writer; call = it.call; called = it.found }

-- an operation has its instance and its call
pub act_open : (c : Config) (p : Past) (e : EpochId) (i : Serial) (n : ℕ) → IsTidy c p → OneAct p e i n → IsOpen p e i
act_open c p e i n tidy it = record { epoch = epoch_at p e; once = tidy.epochs.once e; there = it.there; instance = it.instance; single = alone (filter (is_named i) (epoch_at p e).opened) it.instance it.only; named = it.named }

pub act_actor : (c : Config) (p : Past) (e : EpochId) (i : Serial) (n : ℕ) → IsTidy c p → (it : OneAct p e i n) → IsActor p e i n it.call.id
act_actor c p e i n tidy it = record { call = it.call; found = it.actor; alone = it.alone; own = refl; once = tidy.calls.once it.call.id }

-- and a release
pub end_open : (c : Config) (p : Past) (e : EpochId) (i : Serial) → IsTidy c p → OneEnd p e i → IsOpen p e i
end_open c p e i tidy it = record { epoch = epoch_at p e; once = tidy.epochs.once e; there = it.there; instance = it.instance; single = alone (filter (is_named i) (epoch_at p e).opened) it.instance it.only; named = it.named }

pub end_ender : (c : Config) (p : Past) (e : EpochId) (i : Serial) → IsTidy c p → (it : OneEnd p e i) → IsEnder p e i it.call.id
end_ender c p e i tidy it = record { call = it.call; found = it.ender; alone = it.alone; own = refl; once = tidy.calls.once it.call.id }
