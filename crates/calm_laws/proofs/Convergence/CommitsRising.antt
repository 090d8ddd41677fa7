-- From one world of a run to a later one what a member has of a file only rises: what is above its later copy was above the one before.
use Rattle.std.proofs.Common.{Bool, List, None, Option, Some, [], ap, false, not, refl, subst, sym, true, ℕ, ◌&&◌, ◌++◌, ◌<◌, ◌∙◌, ◌∷◌, ◌≡◌}
use Rattle.std.specs.Option.{option_map}
use Rattle.calm_laws.specs.Carrying.{frame_of}
use Rattle.commit_graph.proofs.Names.{same_stamp_eq}
use Rattle.commit_graph.specs.Vectors.{vector_of}
use Rattle.commit_graph.specs.Versions.{is_ancestor, same_stamp}
use Rattle.calm_laws.specs.Convergence.Offers.{is_above}
use Rattle.locus_ids.specs.Sizes.{inode_span}
use Rattle.locus_ids.specs.declared.config.Config.{Config}
use Rattle.locus_ids.specs.declared.ids.EpochId.{EpochId}
use Rattle.locus_ids.specs.declared.ids.FileId.{FileId}
use Rattle.locus_ids.specs.declared.ids.Stamp.{Stamp}
use Rattle.store_laws.proofs.Holdings.Ancestors.{ancestor_own}
use Rattle.store_laws.proofs.Holdings.Below.{commits_new, packs_hold}
use Rattle.store_laws.proofs.Holdings.Holding.{sites_hold}
use Rattle.store_laws.proofs.Holdings.Made.{held_stand}
use Rattle.store_laws.proofs.Holdings.Rising.{held_rises}
use Rattle.store_laws.proofs.OneTree.Staying.{rest_below}
use Rattle.store_laws.proofs.OneTree.ToldVectorTelling.{vectors_tell_newer}
use Rattle.tree_laws.proofs.Syncs.Orderly.{below_through}
use Rattle.store_laws.specs.OneTree.Places.{InsideFact}
use Rattle.store_laws.specs.OneTree.Rest.{IsRest, Past}
use Rattle.role_steps.specs.Storage.{copy_of}
use Rattle.role_steps.specs.Versions.{is_below}
use Rattle.role_steps.specs.Views.{SiteView}
use Rattle.role_steps.specs.declared.copies.FileCopy.{FileCopy}
use Rattle.role_steps.specs.declared.rounds.InEpoch.{InEpoch}
use Rattle.the_run.specs.Worlds.{Line, World}
use Rattle.tree_laws.proofs.Histories.{stands_more, vector_same}
use Rattle.tree_laws.proofs.Rows.{followed_rows}
use Rattle.tree_laws.specs.Instances.{HasAtLeast, Stands, held_in}
use Rattle.tree_laws.specs.Printed.{entries}
use Rattle.tree_laws.specs.Stores.{copy_for}
use Rattle.tree_model.specs.Files.{version_of}
use Rattle.tree_model.specs.Histories.{held, history}

-- ---- by the trace ----

-- what the site had it has then, or a version above it; and the version is what it was
record Later (c : Config) (old new : List Line) (e : EpochId) (s : ℕ) (f : FileId) (stamp : Stamp) : Type 0 where
  has : HasAtLeast c new e s f stamp
  stands : Stands c new f stamp
  same : vector_of (history c (entries new)) f stamp ≡ vector_of (history c (entries old)) f stamp

later : (c : Config) (lines old : List Line) → Past c (lines ++ old) → (e : EpochId) (s : ℕ) (f : FileId) (stamp : Stamp) → Stands c old f stamp → HasAtLeast c old e s f stamp → Later c old (lines ++ old) e s f stamp
later c [] old past e s f stamp stands has = record { has = has; stands = stands; same = refl }
later c (x ∷ xs) old past e s f stamp stands has =
    let rest : IsRest c (xs ++ old) = record { each = past.rest.each.1; packs = past.rest.packs } in
    let k : Later c old (xs ++ old) e s f stamp = later c xs old (record { followed = past.followed.1; rest = rest }) e s f stamp stands has in
    record {
      has = held_rises c (xs ++ old) x.number x.told past.followed.1 past.followed.0 (packs_hold c (xs ++ old) (rest_below c (xs ++ old) rest).packed) (commits_new c (x ∷ xs ++ old) past.followed (rest_below c (x ∷ xs ++ old) past.rest).once) e s f stamp k.has;
      stands = stands_more c x.number x.told (xs ++ old) f stamp k.stands;
      same = vector_same c x.number x.told (xs ++ old) f stamp past.rest.each.0.fresh k.stands ∙ k.same;
    }

-- ---- copies ----

abbrev pub RisesTo : Option FileCopy → Option FileCopy → Type 0
RisesTo old new = (vector : List ℕ) → is_above vector new ≡ true → is_above vector old ≡ true

-- what a member has, by the trace
pub copy_held : (c : Config) (e : InEpoch) (s : ℕ) (v : SiteView) (f : FileId) (t : List Line) → Past c t → InsideFact c (frame_of c e s) t v → f.ino < inode_span → copy_of v.store f ≡ option_map (copy_for f) (option_map (version_of c (entries t) f) (held_in c (entries t) e.id s f))
copy_held c e s v f t past inside low = inside.store.copies.are f low ∙ ap (λ (o : Option Stamp). option_map (copy_for f) (option_map (version_of c (entries t) f) o)) (sym now)
  where
    now : held_in c (entries t) e.id s f ≡ held c (entries t) s f
    now = (sites_hold c (entries t) (packs_hold c t (rest_below c t past.rest).packed)).now e.id s f inside.frame.inside

pub copies_rise : (c : Config) (e : InEpoch) (w u : World) (lines : List Line) (s : ℕ) (v y : SiteView) (f : FileId) → Past c w.trace → Past c u.trace → u.trace ≡ lines ++ w.trace → InsideFact c (frame_of c e s) w.trace v → InsideFact c (frame_of c e s) u.trace y → f.ino < inode_span → RisesTo (copy_of v.store f) (copy_of y.store f)
copies_rise c e w u lines s v y f old past goes mine after low = by_held (held_in c (entries w.trace) e.id s f) refl
  where
    is_old : copy_of v.store f ≡ option_map (copy_for f) (option_map (version_of c (entries w.trace) f) (held_in c (entries w.trace) e.id s f))
    is_old = copy_held c e s v f w.trace old mine low

    is_new : copy_of y.store f ≡ option_map (copy_for f) (option_map (version_of c (entries u.trace) f) (held_in c (entries u.trace) e.id s f))
    is_new = copy_held c e s y f u.trace past after low

    by_held : (o : Option Stamp) → held_in c (entries w.trace) e.id s f ≡ o → RisesTo (copy_of v.store f) (copy_of y.store f)
    by_held None is vector h = ap (is_above vector) (is_old ∙ ap (λ (o : Option Stamp). option_map (copy_for f) (option_map (version_of c (entries w.trace) f) o)) is)
    by_held (Some stamp) is vector h = ap (is_above vector) (is_old ∙ ap (λ (o : Option Stamp). option_map (copy_for f) (option_map (version_of c (entries w.trace) f) o)) is) ∙ by_stamp (same_stamp stamp k.has.now) refl
      where
        stands : Stands c w.trace f stamp
        stands = held_stand c (entries w.trace) (followed_rows c w.trace old.followed) e.id f s stamp is

        k : Later c w.trace u.trace e.id s f stamp
        k = subst (λ (t : List Line). Later c w.trace t e.id s f stamp) (sym goes)
            (later c lines w.trace (subst (Past c) goes past) e.id s f stamp stands (record { now = stamp; held = is; above = ancestor_own (history c (entries w.trace)) f stamp }))

        then : is_below (vector_of (history c (entries u.trace)) f k.has.now) vector ≡ true
        then = sym (ap (is_above vector) (is_new ∙ ap (λ (o : Option Stamp). option_map (copy_for f) (option_map (version_of c (entries u.trace) f) o)) k.has.held)) ∙ h

        now_stands : Stands c u.trace f k.has.now
        now_stands = held_stand c (entries u.trace) (followed_rows c u.trace past.followed) e.id f s k.has.now k.has.held

        by_stamp : (b : Bool) → same_stamp stamp k.has.now ≡ b → is_below (vector_of (history c (entries w.trace)) f stamp) vector ≡ true
        by_stamp true e = ap (λ (l : List ℕ). is_below l vector) (sym k.same ∙ ap (λ (x : Stamp). vector_of (history c (entries u.trace)) f x) (same_stamp_eq stamp k.has.now e)) ∙ then
        by_stamp false e = ap (λ (l : List ℕ). is_below l vector) (sym k.same) ∙ below_through (vector_of (history c (entries u.trace)) f stamp) (vector_of (history c (entries u.trace)) f k.has.now) vector
            (sym (vectors_tell_newer c u.trace past f stamp k.has.now k.stands now_stands) ∙ (ap (λ (b : Bool). not b && is_ancestor (history c (entries u.trace)) f stamp k.has.now) e ∙ k.has.above)) then
