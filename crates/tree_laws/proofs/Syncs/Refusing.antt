-- What refuses an open of a file that stands, by the instances that are open and the versions that are kept.
use Rattle.std.proofs.Common.{◌≡◌, ◌==◌, Bool, true, false, ◌&&◌, List, [], ◌∷◌, Option, Some, None, refl, sym, ◌∙◌, subst}
use Rattle.role_steps.proofs.of_plain_facts.Numbers.{equal_self}
use Rattle.role_steps.proofs.of_plain_facts.Options.{some_none}
use Rattle.role_steps.proofs.of_plain_facts.Tests.{and_true}
use Rattle.locus_ids.specs.declared.ids.Mode.{Mode}
use Rattle.locus_ids.specs.declared.ids.Mode.TheVariants as mode
use Rattle.locus_ids.specs.declared.ids.Stamp.{Stamp}
use Rattle.locus_ids.specs.declared.refusal.Refusal.{Refusal}
use Rattle.locus_ids.specs.declared.refusal.Refusal.TheVariants as refusal
use Rattle.commit_graph.specs.Grants.{Opener, excluder, grant_refusal, kept_refusal}
use Rattle.commit_graph.specs.Versions.{same_stamp}
use Rattle.tree_model.specs.Same.{same_refusal}
use Rattle.tree_laws.proofs.Syncs.Served.{stamp_own}

-- whom nothing excludes the kept versions refuse, if anything
by_kept_alone : (m : Mode) (os : List Opener) (ks : List Stamp) → excluder m os ≡ None → grant_refusal m os ks ≡ kept_refusal m ks
by_kept_alone m os ks e = rw e refl

by_one : (m : Mode) (os : List Opener) (ks : List Stamp) (o : Opener) → excluder m os ≡ Some o → grant_refusal m os ks ≡ Some (refusal.Busy o.site o.process)
by_one m os ks o e = rw e refl

-- where nothing refuses, none excludes, and the kept versions refuse nothing
pub unrefused : (m : Mode) (os : List Opener) (ks : List Stamp) → grant_refusal m os ks ≡ None → (excluder m os ≡ None) × (kept_refusal m ks ≡ None)
unrefused m os ks e = over (excluder m os) refl
  where
    over : (o : Option Opener) → excluder m os ≡ o → (excluder m os ≡ None) × (kept_refusal m ks ≡ None)
    over None k = (k, sym (by_kept_alone m os ks k) ∙ e)
    over (Some o) k = absurd (some_none (refusal.Busy o.site o.process) (sym (by_one m os ks o k) ∙ e))

-- ---- a reason is the same as itself ----

abbrev SameOwn : Option Refusal → Type 0
SameOwn None = Unit {0}
SameOwn (Some why) = same_refusal why why ≡ true

kept_own : (m : Mode) (ks : List Stamp) → SameOwn (kept_refusal m ks)
kept_own mode.Read [] = refl
kept_own mode.Read (a ∷ []) = tt
kept_own mode.Read (a ∷ b ∷ others) = and_true (same_stamp a a) (same_stamp b b) (stamp_own a) (stamp_own b)
kept_own mode.Write [] = refl
kept_own mode.Write (a ∷ []) = tt
kept_own mode.Write (a ∷ b ∷ others) = and_true (same_stamp a a) (same_stamp b b) (stamp_own a) (stamp_own b)
kept_own mode.Resolve [] = refl
kept_own mode.Resolve (a ∷ []) = refl
kept_own mode.Resolve (a ∷ b ∷ others) = tt
kept_own mode.Mend [] = refl
kept_own mode.Mend (a ∷ []) = tt
kept_own mode.Mend (a ∷ b ∷ others) = tt
kept_own mode.Make ks = tt

grant_own : (m : Mode) (os : List Opener) (ks : List Stamp) → SameOwn (grant_refusal m os ks)
grant_own m os ks = over (excluder m os) refl
  where
    over : (o : Option Opener) → excluder m os ≡ o → SameOwn (grant_refusal m os ks)
    over None e = subst SameOwn (sym (by_kept_alone m os ks e)) (kept_own m ks)
    over (Some o) e = subst SameOwn (sym (by_one m os ks o e)) (and_true (o.site == o.site) (o.process == o.process) (equal_self o.site) (equal_self o.process))

pub reason_own : (m : Mode) (os : List Opener) (ks : List Stamp) (why : Refusal) → grant_refusal m os ks ≡ Some why → same_refusal why why ≡ true
reason_own m os ks why e = subst SameOwn e (grant_own m os ks)
