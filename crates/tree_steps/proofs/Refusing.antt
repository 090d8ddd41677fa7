-- An open is refused by an open instance first, and then by the kept versions.
use Rattle.std.proofs.Common.{◌≡◌, List, Option, None, Some, refl, sym, ap, ◌∙◌}
use Rattle.std.proofs.lemmas.Option.{none-some}
use Rattle.locus_ids.specs.declared.refusal.Refusal.{Refusal}
use Rattle.locus_ids.specs.declared.refusal.Refusal.TheVariants.{Busy}
use Rattle.locus_ids.specs.declared.ids.Mode.{Mode}
use Rattle.locus_ids.specs.declared.ids.Stamp.{Stamp}
use Rattle.commit_graph.specs.Grants.{Opener, excluder, kept_refusal, grant_refusal}
use Rattle.tree_steps.specs.Answers.{busy_by}

pub refused_busy : (mode : Mode) (os : List Opener) (kept : List Stamp) (why : Refusal) → Some why ≡ busy_by (excluder mode os) → Some why ≡ grant_refusal mode os kept
refused_busy mode os kept why = by_excluder (excluder mode os) refl
  where
    by_excluder : (o : Option Opener) → excluder mode os ≡ o → Some why ≡ busy_by (excluder mode os) → Some why ≡ grant_refusal mode os kept
    by_excluder None e h = absurd (none-some why (sym (ap busy_by e) ∙ sym h))
    by_excluder (Some o) e h = h ∙ rw e refl

pub refused_by_kept : (mode : Mode) (os : List Opener) (kept : List Stamp) → None ≡ busy_by (excluder mode os) → kept_refusal mode kept ≡ grant_refusal mode os kept
refused_by_kept mode os kept = by_excluder (excluder mode os) refl
  where
    by_excluder : (o : Option Opener) → excluder mode os ≡ o → None ≡ busy_by (excluder mode os) → kept_refusal mode kept ≡ grant_refusal mode os kept
    by_excluder None e h = rw e refl
    by_excluder (Some o) e h = absurd (none-some (Busy o.site o.process) (h ∙ ap busy_by e))
