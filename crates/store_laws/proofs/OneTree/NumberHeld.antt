-- What a site has of a file in an epoch it has some version of for good; and of each root it has one, where it has a pack.
use Rattle.std.proofs.Common.{◌≡◌, ℕ, ◌==◌, Bool, true, false, ◌&&◌, ◌||◌, cond, List, [], ◌∷◌, Some, refl, sym, ap, ◌∙◌}
use Rattle.role_steps.proofs.of_plain_facts.Tests.{and_first, and_second, true_false}
use Rattle.locus_ids.specs.declared.config.Config.{Config}
use Rattle.locus_ids.specs.declared.ids.EpochId.{EpochId}
use Rattle.locus_ids.specs.declared.ids.FileId.{FileId}
use Rattle.locus_ids.specs.declared.ids.Stamp.{Stamp}
use Rattle.locus_ids.specs.declared.sites.Members.{Members}
use Rattle.trace_book.specs.Same.{same_epoch}
use Rattle.trace_book.specs.declared.record.Record.{Record}
use Rattle.trace_book.specs.declared.record.Record.TheVariants as says
use Rattle.role_steps.specs.Views.{Told, Shown}
use Rattle.the_run.specs.Worlds.{Line}
use Rattle.tree_model.specs.Epochs.{epoch_of, has_joined}
use Rattle.tree_model.specs.Histories.{held, history}
use Rattle.tree_model.specs.Packs.{has_pack}
use Rattle.tree_laws.specs.Following.{IsFollowed}
use Rattle.tree_laws.specs.Instances.{HasAtLeast, held_in}
use Rattle.tree_laws.specs.Packets.{file_in}
use Rattle.tree_laws.specs.Printed.{entries, onto_entries}
use Rattle.tree_laws.proofs.Names.{same_epoch_eq}
use Rattle.store_laws.specs.Holdings.Below.{LawsBelow}
use Rattle.store_laws.proofs.Holdings.Ancestors.{ancestor_own}
use Rattle.store_laws.proofs.Holdings.Below.{commits_new, laws_before, packs_hold}
use Rattle.store_laws.proofs.Holdings.Holding.{sites_hold}
use Rattle.store_laws.proofs.Holdings.Rising.{held_rises}
use Rattle.store_laws.proofs.Ranges.{root_held}

-- the site has some version of the file in the epoch
abbrev pub HasSome : Config → List Line → EpochId → ℕ → FileId → Type 0
HasSome c trace e site f = (s : Stamp) × (held_in c (entries trace) e site f ≡ Some s)

pub some_stays : (c : Config) (x : Line) (older : List Line) → IsFollowed c (x ∷ older) → LawsBelow c (x ∷ older) → (e : EpochId) (site : ℕ) (f : FileId) → HasSome c older e site f → HasSome c (x ∷ older) e site f
some_stays c x older followed laws e site f k = (rises.now, rises.held)
  where
    rises : HasAtLeast c (x ∷ older) e site f k.0
    rises = held_rises c older x.number x.told followed.1 followed.0 (packs_hold c older laws.packed.1) (commits_new c (x ∷ older) followed laws.once) e site f k.0
        (record { now = k.0; held = k.1; above = ancestor_own (history c (entries older)) f k.0 })

-- who is in the epoch has it by its pack
root_inside : (c : Config) (trace : List Line) → LawsBelow c trace → (e : EpochId) (group site : ℕ) → has_pack c group site ≡ true → epoch_of (entries trace) site ≡ Some e → HasSome c trace e site (file_in group 1)
root_inside c trace laws e group site pack inside = (root.0, (sites_hold c (entries trace) (packs_hold c trace laws.packed)).now e site (file_in group 1) inside ∙ root.1)
  where
    root : (s : Stamp) × (held c (entries trace) site (file_in group 1) ≡ Some s)
    root = root_held c (entries trace) group site pack

-- who has been in the epoch has joined it, and has it since then
pub root_there : (c : Config) (trace : List Line) → IsFollowed c trace → LawsBelow c trace → (e : EpochId) (group site : ℕ) → has_pack c group site ≡ true → has_joined (entries trace) site e ≡ true → HasSome c trace e site (file_in group 1)
root_there c [] followed laws e group site pack there = absurd (true_false (sym there))
root_there c (x ∷ older) followed laws e group site pack there = over x.told there (root_inside c (x ∷ older) laws e group site pack) (λ k. some_stays c x older followed laws e site (file_in group 1) (root_there c older followed.1 (laws_before c x older laws) e group site pack k))
  where
    Root : Told → Type 0
    Root y = (s : Stamp) × (held_in c (onto_entries x.number y (entries older)) e site (file_in group 1) ≡ Some s)

    joins : (z : ℕ) (d : EpochId) (m : Members) (b : Bool) → (z == site) && same_epoch d e ≡ b → b || has_joined (entries older) site e ≡ true → (epoch_of (onto_entries x.number (Shown (says.Join z d m)) (entries older)) site ≡ Some e → Root (Shown (says.Join z d m))) → (has_joined (entries older) site e ≡ true → Root (Shown (says.Join z d m))) → Root (Shown (says.Join z d m))
    joins z d m false k there now later = later there
    joins z d m true k there now later = now (ap (λ (b : Bool). cond b (Some d) (epoch_of (entries older) site)) (and_first (z == site) (same_epoch d e) k) ∙ ap (λ (y : EpochId). Some y) (same_epoch_eq d e (and_second (z == site) (same_epoch d e) k)))

    told : (r : Record) → has_joined (onto_entries x.number (Shown r) (entries older)) site e ≡ true → (epoch_of (onto_entries x.number (Shown r) (entries older)) site ≡ Some e → Root (Shown r)) → (has_joined (entries older) site e ≡ true → Root (Shown r)) → Root (Shown r)
    told (says.Join z d m) there now later = joins z d m ((z == site) && same_epoch d e) refl there now later
    told r there now later = later there

    over : (y : Told) → has_joined (onto_entries x.number y (entries older)) site e ≡ true → (epoch_of (onto_entries x.number y (entries older)) site ≡ Some e → Root y) → (has_joined (entries older) site e ≡ true → Root y) → Root y
    over (Shown r) there now later = told r there now later
    over _ there now later = later there
