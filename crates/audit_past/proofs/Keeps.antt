-- The versions that are kept in an epoch, by its row.
use Rattle.std.proofs.Common.{◌≡◌, List, [], Some, None, sym, ap, ◌∙◌}
use Rattle.std.specs.List.{find}
use Rattle.locus_ids.specs.declared.ids.EpochId.{EpochId}
use Rattle.locus_ids.specs.declared.ids.FileId.{FileId}
use Rattle.locus_ids.specs.declared.ids.Stamp.{Stamp}
use Rattle.promises.specs.Past.{Past, Epoch, epoch_at, kept_in, unformed}
use Rattle.promises.specs.After.{is_epoch}
use Rattle.past_laws.proofs.Changing.{first_found, first_none}
use Rattle.audit_acts.specs.Knowing.{knowing, of_history}

pub kept_found : (p q : Past) → p ≡ q → (e : EpochId) (f : FileId) (t : Epoch) (ks : List Stamp) → Some t ≡ find (is_epoch e) p.epochs → ks ≡ kept_in (of_history p.history) (knowing t.known []) f → ks ≡ kept_in q (epoch_at q e) f
kept_found p q same e f t ks there now = now ∙ (ap (λ (u : Epoch). kept_in p u f) (sym (first_found (unformed e) (is_epoch e) p.epochs t (sym there))) ∙ ap (λ v. kept_in v (epoch_at v e) f) same)

pub kept_lost : (p q : Past) → p ≡ q → (e : EpochId) (f : FileId) → None ≡ find (is_epoch e) p.epochs → [] ≡ kept_in q (epoch_at q e) f
kept_lost p q same e f lost = ap (λ (u : Epoch). kept_in p u f) (sym (first_none (unformed e) (is_epoch e) p.epochs (sym lost))) ∙ ap (λ v. kept_in v (epoch_at v e) f) same
