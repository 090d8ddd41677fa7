-- Whether an open was named is decided by its trace.
use Rattle.std.proofs.Common.{◌≡◌, Bool, true, false, List, [], ◌∷◌, refl, sym, ◌∙◌, subst, ◌⊎◌, inl, inr}
use Rattle.tree_laws.proofs.of_plain_facts.Tests.{true_false}
use Rattle.locus_ids.specs.declared.ids.EpochId.{EpochId}
use Rattle.locus_ids.specs.declared.ids.Serial.{Serial}
use Rattle.trace_book.specs.Same.{same_epoch, same_serial}
use Rattle.trace_book.specs.declared.record.Record.{Record}
use Rattle.trace_book.specs.declared.record.Record.TheVariants as says
use Rattle.site_laws.specs.of_role_steps.Views.{Told, Shown}
use Rattle.tree_laws.specs.of_the_run.Worlds.{Line}
use Rattle.tree_laws.specs.Past.{NamesIt, NamingRecord, Printed, WasNamed}
use Rattle.tree_laws.proofs.Names.{same_epoch_eq, same_epoch_own, same_serial_eq, same_serial_own}

names_it : (e : EpochId) (i : Serial) (at : EpochId) (inst : Serial) → NamesIt e i at inst ⊎ (NamesIt e i at inst → ⊥)
names_it e i at inst = over (same_epoch at e) (same_serial inst i)
    (λ p q. record { epoch_is = same_epoch_eq at e p; serial_is = same_serial_eq inst i q })
    (λ p k. true_false (sym (subst (λ (z : EpochId). same_epoch at z ≡ true) k.epoch_is (same_epoch_own at)) ∙ p))
    (λ p k. true_false (sym (subst (λ (z : Serial). same_serial inst z ≡ true) k.serial_is (same_serial_own inst)) ∙ p))
  where
    over : (a b : Bool) → (a ≡ true → b ≡ true → NamesIt e i at inst) → (a ≡ false → NamesIt e i at inst → ⊥) → (b ≡ false → NamesIt e i at inst → ⊥) → NamesIt e i at inst ⊎ (NamesIt e i at inst → ⊥)
    over true true yes_both not_epoch not_serial = inl (yes_both refl refl)
    over true false yes_both not_epoch not_serial = inr (not_serial refl)
    over false b yes_both not_epoch not_serial = inr (not_epoch refl)

names_record : (e : EpochId) (i : Serial) (older : List Line) (r : Record) → NamingRecord e i older r ⊎ (NamingRecord e i older r → ⊥)
names_record e i older (says.Grant at call number inst m file on place) = names_it e i at inst
names_record e i older (says.Refuse at call number inst m file reason) = names_it e i at inst
names_record e i older r = inr (λ k. k)

names_told : (e : EpochId) (i : Serial) (older : List Line) (x : Told) → Printed (NamingRecord e i) older x ⊎ (Printed (NamingRecord e i) older x → ⊥)
names_told e i older (Shown r) = names_record e i older r
names_told e i older x = inr (λ k. k)

pub named_or_not : (trace : List Line) (e : EpochId) (i : Serial) → WasNamed trace e i ⊎ (WasNamed trace e i → ⊥)
named_or_not [] e i = inr (λ k. k)
named_or_not (x ∷ older) e i = over (names_told e i older x.told) (named_or_not older e i)
  where
    over : Printed (NamingRecord e i) older x.told ⊎ (Printed (NamingRecord e i) older x.told → ⊥) → WasNamed older e i ⊎ (WasNamed older e i → ⊥) → WasNamed (x ∷ older) e i ⊎ (WasNamed (x ∷ older) e i → ⊥)
    over (inl k) later = inl (inl k)
    over (inr k) (inl l) = inl (inr l)
    over (inr k) (inr l) = inr (λ w. either w)
      where
        either : WasNamed (x ∷ older) e i → ⊥
        either (inl w) = k w
        either (inr w) = l w
