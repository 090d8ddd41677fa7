-- Between the ticks of a round each site is as before them all, or as after them all: so is who has a file open at its synchronization site.
use Rattle.std.proofs.Common.{◌≡◌, ℕ, ◌⊎◌, List, [], ◌∷◌, ◌++◌, take, drop, refl, sym, ◌∙◌, subst, inl, inr}
use Rattle.std.proofs.lemmas.List.{take-append-drop}
use Rattle.locus_ids.specs.declared.config.Config.{Config}
use Rattle.locus_ids.specs.declared.ids.FileId.{FileId}
use Rattle.role_steps.specs.Views.{Ticks, all_sites}
use Rattle.role_steps.specs.declared.rounds.InEpoch.{InEpoch}
use Rattle.the_run.specs.Kept.{Among}
use Rattle.the_run.specs.Runs.{ticks_to}
use Rattle.the_run.specs.Worlds.{World, place_at, happens}
use Rattle.the_run.proofs.Boots.{at_each}
use Rattle.row_laws.specs.Orderly.Calm.{ticked}
use Rattle.row_laws.proofs.Orderly.Formed.{among_left}
use Rattle.calm_laws.proofs.Ticks.{AreApart, sites_apart}
use Rattle.calm_laws.specs.Convergence.Copies.{NobodyHasOpen}
use Rattle.calm_laws.proofs.Convergence.Repeating.{tick_touches, ticks_touch}

abbrev IsAsEither : ℕ → World → World → World → Type 0
IsAsEither s first last w = (place_at w s ≡ place_at first s) ⊎ (place_at w s ≡ place_at last s)

between : (c : Config) (n : ℕ) (xs ys : List ℕ) (s : ℕ) (w : World) → AreApart (xs ++ ys) → IsAsEither s w (ticks_to c n (xs ++ ys) w) (ticks_to c n xs w)
between c n [] ys s w apart = inl refl
between c n (x ∷ xs) ys s w apart = at_each x s (IsAsEither s w (ticks_to c n (xs ++ ys) u) (ticks_to c n xs u)) mine (λ ne. theirs ne (between c n xs ys s u apart.1))
  where
    u : World
    u = happens c n x Ticks w

    mine : x ≡ s → IsAsEither s w (ticks_to c n (xs ++ ys) u) (ticks_to c n xs u)
    mine eq = inr (ticks_touch c n xs s u (λ a. none (among_left s xs ys a)) ∙ sym (ticks_touch c n (xs ++ ys) s u none))
      where
        none : Among s (xs ++ ys) → ⊥
        none a = apart.0 (subst (λ (y : ℕ). Among y (xs ++ ys)) (sym eq) a)

    theirs : (x ≡ s → ⊥) → IsAsEither s u (ticks_to c n (xs ++ ys) u) (ticks_to c n xs u) → IsAsEither s w (ticks_to c n (xs ++ ys) u) (ticks_to c n xs u)
    theirs ne (inl p) = inl (p ∙ tick_touches c n x s w ne)
    theirs ne (inr p) = inr p

ticked_either : (c : Config) (n i s : ℕ) (w : World) → IsAsEither s w (ticks_to c n all_sites w) (ticked c n i w)
ticked_either c n i s w = subst (λ (ss : List ℕ). IsAsEither s w (ticks_to c n ss w) (ticked c n i w)) whole (between c n (take i all_sites) (drop i all_sites) s w (subst AreApart (sym whole) sites_apart))
  where
    whole : take i all_sites ++ drop i all_sites ≡ all_sites
    whole = take-append-drop i all_sites

-- whoever has a file open after some of the ticks had it open before them, or has it open after all
pub closed_between : (c : Config) (n i : ℕ) (e : InEpoch) (file : FileId) (w : World) → NobodyHasOpen c e (place_at w) file → NobodyHasOpen c e (place_at (ticks_to c n all_sites w)) file → NobodyHasOpen c e (place_at (ticked c n i w)) file
closed_between c n i e file w before later css v t r synced here found among same still = over (ticked_either c n i css w)
  where
    over : IsAsEither css w (ticks_to c n all_sites w) (ticked c n i w) → ⊥
    over (inl p) = before css v t r synced (sym p ∙ here) found among same still
    over (inr p) = later css v t r synced (sym p ∙ here) found among same still
