-- Where calls on a steady descriptor begin.
use Rattle.std.proofs.Common.{◌≡◌, Bool, true, false, cond, Option, None, Some, refl, ap}
use Rattle.locus_ids.specs.declared.ids.EpochId.{EpochId}
use Rattle.locus_ids.specs.declared.ids.Serial.{Serial}
use Rattle.locus_ids.specs.declared.refusal.Refusal.{Refusal}
use Rattle.locus_ids.specs.declared.refusal.Refusal.TheVariants.{ReadOnly, Stale}
use Rattle.commit_graph.specs.Grants.{is_read}
use Rattle.trace_book.specs.declared.descriptor.Beginning.TheVariants.{Denied, Uses, Reopens, Frees}
use Rattle.trace_book.specs.declared.descriptor.Descriptor.{Descriptor}
use Rattle.trace_book.specs.declared.descriptor.OneVersion.{OneVersion}
use Rattle.call_rules.specs.Descriptors.{begins_again, begins_change, begins_close, begins_read, is_in, stale_or}

-- what changes the file is only read by it, in an epoch or in none
pub change_begins : (now : Option EpochId) (d : Descriptor) (v : OneVersion) → d.steady ≡ Some v → begins_change now (Some d) ≡ Denied ReadOnly
change_begins now d v e = over d.steady e
  where
    over : (o : Option OneVersion) → o ≡ Some v → begins_change now (Some (record d { steady = o })) ≡ Denied ReadOnly
    over None e = cc
    over (Some w) e = refl

-- a read is of what holds it, where that is the epoch of now, and else opens again in an epoch
pub read_begins : (e : EpochId) (d : Descriptor) (v : OneVersion) → d.steady ≡ Some v → begins_read (Some e) (Some d) ≡ cond (is_in (Some e) d.epoch) (Uses d.epoch d.inst) (Reopens v d.epoch)
read_begins e d v is = ap (λ (o : Option OneVersion). cond (is_in (Some e) d.epoch) (Uses d.epoch d.inst) (stale_or (begins_again (Some e) d.epoch) d.epoch o)) is

-- a close of what no instance holds asks nothing
pub close_begins : (now : Option EpochId) (d : Descriptor) (v : OneVersion) → d.steady ≡ Some v → begins_close now (Some d) ≡ cond (is_in now d.epoch) (Uses d.epoch d.inst) Frees
close_begins now d v is = ap (λ (o : Option OneVersion). cond (is_in now d.epoch) (Uses d.epoch d.inst) (stale_or (λ version. Frees) d.epoch o)) is

-- what changes a file works on the instance of a descriptor that isn't only read
pub change_writes : (now : Option EpochId) (d : Descriptor) (e : EpochId) (i : Serial) → begins_change now (Some d) ≡ Uses e i → (is_read d.mode ≡ false) × (d.epoch ≡ e) × (d.inst ≡ i)
change_writes now d e i h = over d.steady h
  where
    no : (why : Refusal) → Denied why ≡ Uses e i → ⊥
    no why k = cc

    epochs : Uses d.epoch d.inst ≡ Uses e i → d.epoch ≡ e
    epochs k = cc

    serials : Uses d.epoch d.inst ≡ Uses e i → d.inst ≡ i
    serials k = cc

    by : (b : Bool) → is_read d.mode ≡ b → cond b (Denied ReadOnly) (Uses d.epoch d.inst) ≡ Uses e i → (is_read d.mode ≡ false) × (d.epoch ≡ e) × (d.inst ≡ i)
    by true q k = absurd (no ReadOnly k)
    by false q k = (q, epochs k, serials k)

    within : (b : Bool) → cond b (cond (is_read d.mode) (Denied ReadOnly) (Uses d.epoch d.inst)) (Denied (Stale d.epoch)) ≡ Uses e i → (is_read d.mode ≡ false) × (d.epoch ≡ e) × (d.inst ≡ i)
    within true k = by (is_read d.mode) refl k
    within false k = absurd (no (Stale d.epoch) k)

    over : (o : Option OneVersion) → begins_change now (Some (record d { steady = o })) ≡ Uses e i → (is_read d.mode ≡ false) × (d.epoch ≡ e) × (d.inst ≡ i)
    over None k = within (is_in now d.epoch) k
    over (Some v) k = absurd (no ReadOnly k)
