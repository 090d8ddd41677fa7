-- What a site has in an epoch rises with each line told, and a version that stands keeps its vector.
use Rattle.std.proofs.Common.{◌≡◌, ℕ, ◌⊎◌, true, List, [], ◌∷◌, ◌++◌, sym, ◌∙◌, refl, inl, inr}
use Rattle.locus_ids.specs.declared.config.Config.{Config}
use Rattle.locus_ids.specs.declared.ids.EpochId.{EpochId}
use Rattle.locus_ids.specs.declared.ids.FileId.{FileId}
use Rattle.locus_ids.specs.declared.ids.Stamp.{Stamp}
use Rattle.role_steps.specs.Versions.{is_below}
use Rattle.the_run.specs.Worlds.{Line}
use Rattle.tree_model.specs.Histories.{history}
use Rattle.tree_laws.specs.Instances.{HasAtLeast, Stands}
use Rattle.tree_laws.specs.Printed.{entries}
use Rattle.tree_laws.proofs.Histories.{stands_more, vector_same}
use Rattle.tree_laws.proofs.Rows.{followed_rows}
use Rattle.store_laws.proofs.Holdings.Ancestors.{ancestor_own}
use Rattle.store_laws.proofs.Holdings.Below.{commits_new, packs_hold}
use Rattle.store_laws.proofs.Holdings.Made.{held_stand}
use Rattle.store_laws.proofs.Holdings.Rising.{held_rises}
use Rattle.store_laws.specs.OneTree.Rest.{Past}
use Rattle.store_laws.proofs.OneTree.Staying.{rest_below}
use Rattle.calm_laws.specs.Pulls.Held.{HeldNeverFalls}
use Rattle.calm_laws.specs.Pulls.Known.{written}
use Rattle.calm_laws.proofs.Pulls.Under.{ancestor_under}

past_before : (c : Config) (x : Line) (older : List Line) → Past c (x ∷ older) → Past c older
past_before c x older p = record { followed = p.followed.1; rest = record { each = p.rest.each.1; packs = p.rest.packs } }

-- all that came before
pub past_earlier : (c : Config) (new old : List Line) → Past c (new ++ old) → Past c old
past_earlier c [] old p = p
past_earlier c (x ∷ xs) old p = past_earlier c xs old (past_before c x (xs ++ old) p)

pub has_later : (c : Config) (new old : List Line) → Past c (new ++ old) → (e : EpochId) (site : ℕ) (f : FileId) (v : Stamp) → HasAtLeast c old e site f v → HasAtLeast c (new ++ old) e site f v
has_later c [] old p e site f v k = k
has_later c (x ∷ xs) old p e site f v k =
    let b : Past c (xs ++ old) = past_before c x (xs ++ old) p in
    held_rises c (xs ++ old) x.number x.told b.followed p.followed.0 (packs_hold c (xs ++ old) (rest_below c (xs ++ old) b.rest).packed) (commits_new c (x ∷ (xs ++ old)) p.followed (rest_below c (x ∷ (xs ++ old)) p.rest).once) e site f v (has_later c xs old b e site f v k)

-- a version that stands stands later, with its vector
pub stands_later : (c : Config) (new old : List Line) (f : FileId) (v : Stamp) → Stands c old f v → Stands c (new ++ old) f v
stands_later c [] old f v k = k
stands_later c (x ∷ xs) old f v k = stands_more c x.number x.told (xs ++ old) f v (stands_later c xs old f v k)

pub written_later : (c : Config) (new old : List Line) → Past c (new ++ old) → (f : FileId) (v : Stamp) → Stands c old f v → written c (new ++ old) f v ≡ written c old f v
written_later c [] old p f v k = refl
written_later c (x ∷ xs) old p f v k = vector_same c x.number x.told (xs ++ old) f v p.rest.each.0.fresh (stands_later c xs old f v k) ∙ written_later c xs old (past_before c x (xs ++ old) p) f v k

pub never_falls : (c : Config) (new old : List Line) → HeldNeverFalls c new old
never_falls c new old p e site f before held = record {
  later = k.now;
  held = k.held;
  same = written_later c new old p f before stands;
  rises = over (ancestor_under c (new ++ old) p f before k.now (stands_later c new old f before stands) (held_stand c (entries (new ++ old)) (followed_rows c (new ++ old) p.followed) e f site k.now k.held) k.above);
}
  where
    k : HasAtLeast c (new ++ old) e site f before
    k = has_later c new old p e site f before (record { now = before; held = held; above = ancestor_own (history c (entries old)) f before })

    stands : Stands c old f before
    stands = held_stand c (entries old) (followed_rows c old (past_earlier c new old p).followed) e f site before held

    over : (before ≡ k.now) ⊎ (is_below (written c (new ++ old) f before) (written c (new ++ old) f k.now) ≡ true) → (k.now ≡ before) ⊎ (is_below (written c (new ++ old) f before) (written c (new ++ old) f k.now) ≡ true)
    over (inl q) = inl (sym q)
    over (inr q) = inr q
