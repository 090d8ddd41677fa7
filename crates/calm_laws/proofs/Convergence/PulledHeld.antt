-- A file of one kept version that nobody has open, by the one tree: whoever has that version at least has it, and what a site pulls of it
-- then it pulled of it before.
use Rattle.std.proofs.Common.{List, Option, Some, [], ap, arith, inl, inr, length, refl, subst, suc, sym, true, ℕ, ◌++◌, ◌∙◌, ◌∷◌, ◌≡◌, ◌⊎◌}
use Rattle.std.proofs.lemmas.Bool.Decides.{nat_tests}
use Rattle.std.specs.Option.{option_map}
use Rattle.calm_laws.proofs.Facts.{RoundFacts, round_facts}
use Rattle.calm_laws.proofs.Packed.{sync_of}
use Rattle.rest_laws.proofs.EpochTreeMembers.{Joined, joined_as}
use Rattle.rest_laws.proofs.StoreStepKnown.{stands_narrow}
use Rattle.calm_laws.specs.Carrying.{IsMember, frame_of}
use Rattle.calm_laws.specs.Rounds.{IsInRound}
use Rattle.calm_laws.proofs.Convergence.CommitsRising.{copy_held}
use Rattle.calm_laws.proofs.Convergence.Midst.{Midst, midst_in, pull_in}
use Rattle.calm_laws.proofs.Convergence.Resting.{none_open}
use Rattle.calm_laws.proofs.Convergence.Shut.{member_in, shut_there}
use Rattle.calm_laws.proofs.Convergence.Vectors.{never_below}
use Rattle.calm_laws.specs.Convergence.Copies.{NobodyHasOpen}
use Rattle.calm_laws.specs.Convergence.Rounds.{IsShut}
use Rattle.locus_ids.specs.declared.config.Config.{Config}
use Rattle.locus_ids.specs.declared.ids.EpochId.{EpochId}
use Rattle.locus_ids.specs.declared.ids.FileId.{FileId}
use Rattle.locus_ids.specs.declared.ids.Stamp.{Stamp}
use Rattle.locus_ids.specs.declared.sites.Members.{Members}
use Rattle.row_laws.specs.Orderly.Calm.{AreTogether, IsInside}
use Rattle.calm_laws.proofs.Pulls.Falling.{past_earlier, written_later}
use Rattle.calm_laws.proofs.Pulls.Served.{started_packed}
use Rattle.calm_laws.proofs.Pulls.Under.{known_under}
use Rattle.store_laws.proofs.Holdings.Below.{packs_hold}
use Rattle.store_laws.proofs.Holdings.Holding.{sites_hold}
use Rattle.store_laws.proofs.Holdings.MendOnly.{only_had}
use Rattle.store_laws.proofs.Holdings.Rising.{known_stands}
use Rattle.store_laws.proofs.OneTree.Staying.{rest_below}
use Rattle.tree_laws.proofs.Syncs.Notices.{kept_is_known}
use Rattle.tree_laws.proofs.Syncs.Orderly.{below_through}
use Rattle.calm_laws.specs.Pulls.Known.{written}
use Rattle.store_laws.specs.OneTree.Places.{InsideFact}
use Rattle.store_laws.specs.OneTree.Rest.{Past}
use Rattle.role_steps.proofs.of_plain_facts.Options.{some_same}
use Rattle.role_steps.proofs.of_plain_facts.Tests.{true_false}
use Rattle.role_steps.specs.Storage.{copy_of}
use Rattle.role_steps.specs.Versions.{is_below}
use Rattle.role_steps.specs.Views.{SiteView, sync_site}
use Rattle.role_steps.specs.declared.pulls.Pull.{Pull}
use Rattle.role_steps.specs.declared.rounds.InEpoch.{InEpoch}
use Rattle.schedule_lines.specs.declared.line.ScheduleLine.{ScheduleLine}
use Rattle.the_run.specs.Kept.{Among}
use Rattle.the_run.specs.Worlds.{Line, Running, World, place_at}
use Rattle.tree_laws.proofs.Knowing.{known_stays}
use Rattle.tree_laws.proofs.Rows.{followed_rows}
use Rattle.tree_laws.specs.Instances.{HasAtLeast, IsKnown, Stands, held_in}
use Rattle.tree_laws.specs.Printed.{entries}
use Rattle.tree_laws.specs.Stores.{PullFact, copy_for}
use Rattle.tree_laws.specs.Tables.{IsAhead}
use Rattle.tree_model.specs.Files.{version_of}
use Rattle.tree_model.specs.Packs as tree
use Rattle.tree_model.specs.State.{has_stamp}
use Rattle.tree_model.specs.Tree.{kept_in}

-- ---- the file ----

-- in a world of a round the file has one kept version, and nobody has it open in the tree
pub record Settled (c : Config) (e : InEpoch) (w : World) (file : FileId) (stamp : Stamp) : Type 0 where
  pub facts : RoundFacts c w
  pub mid : Midst c e w
  pub together : AreTogether w e
  pub stands : Stands c w.trace file stamp
  pub kept_one : kept_in c (entries w.trace) e.id file ≡ stamp ∷ []
  pub shut : IsShut c e file w.trace

-- ---- who holds it ----

module _ (c : Config) (e : InEpoch) (w : World) (file : FileId) (stamp : Stamp) (k : Settled c e w file stamp) where
  abbrev t : List Line
  t = w.trace

  none_ahead : (site : ℕ) → IsAhead c t e.id site file → ⊥
  none_ahead site a = none_open c e file t k.mid.past.followed k.shut a.inst a.at a.open_at.found a.file_is

  has_it : (site : ℕ) → HasAtLeast c t e.id site file stamp → held_in c (entries t) e.id site file ≡ Some stamp
  has_it site a = over (only_had c t e.id file site stamp k.mid.past.followed (rest_below c t k.mid.past.rest) k.kept_one a)
    where
      over : (held_in c (entries t) e.id site file ≡ Some stamp) ⊎ IsAhead c t e.id site file → held_in c (entries t) e.id site file ≡ Some stamp
      over (inl q) = q
      over (inr q) = absurd (none_ahead site q)

  -- who has it in the epoch is a member
  pub holder_member : (some site : ℕ) → IsMember e some → HasAtLeast c t e.id site file stamp → IsMember e site
  holder_member some site m a = member_in e site (subst (λ (y : Members). tree.is_member y site ≡ true) (some_same j.members e.members (sym j.are ∙ inside.frame.members_are)) j.is_member)
    where
      j : Joined (entries t) site e.id
      j = joined_as c t k.mid.past.followed k.mid.past.rest.each site e.id ((sites_hold c (entries t) (packs_hold c t (rest_below c t k.mid.past.rest).packed)).joined e.id site file stamp (has_it site a))

      i : IsInside w e some
      i = k.together.inside some m

      inside : InsideFact c (frame_of c e some) t i.view
      inside = k.mid.site some i.view m i.here

  -- it has the version
  pub holder_copy : (site : ℕ) (y : SiteView) → IsMember e site → place_at w site ≡ Some (Running y) → HasAtLeast c t e.id site file stamp → copy_of y.store file ≡ Some (copy_for file (version_of c (entries t) file stamp))
  holder_copy site y m here a = copy_held c e site y file t k.mid.past (k.mid.site site y m here) (stands_narrow c t k.mid.past.rest.each file stamp k.stands) ∙ ap (λ (o : Option Stamp). option_map (copy_for file) (option_map (version_of c (entries t) file) o)) (has_it site a)

-- ---- which version was kept before ----

known_later : (c : Config) (new old : List Line) (e : EpochId) (f : FileId) (s : Stamp) → IsKnown c old e f s → IsKnown c (new ++ old) e f s
known_later c [] old e f s h = h
known_later c (x ∷ xs) old e f s h = known_stays c x.number x.told (xs ++ old) e f s (known_later c xs old e f s h)

-- of a file that had one kept version, and has this one, which was known, it was this one
kept_before : (c : Config) (new old : List Line) → Past c (new ++ old) → (e : EpochId) (f : FileId) (stamp : Stamp) → kept_in c (entries (new ++ old)) e f ≡ stamp ∷ [] → IsKnown c old e f stamp → length (kept_in c (entries old) e f) ≡ 1 → kept_in c (entries old) e f ≡ stamp ∷ []
kept_before c new old past e f stamp now known one = by_list (kept_in c (entries old) e f) refl one
  where
    before : Past c old
    before = past_earlier c new old past

    stands : (s : Stamp) → IsKnown c old e f s → Stands c old f s
    stands s h = known_stands c (entries old) (followed_rows c old before.followed) e f s h

    own : (s : Stamp) → has_stamp (s ∷ []) s ≡ true
    own s = grind (arith, nat_tests)

    apart : (s : Stamp) → kept_in c (entries old) e f ≡ s ∷ [] → (stamp ≡ s) ⊎ (is_below (written c old f stamp) (written c old f s) ≡ true) → stamp ≡ s
    apart s is (inl eq) = eq
    apart s is (inr below) = by_new (known_under c (new ++ old) past e f stamp s now (known_later c new old e f s its))
      where
        its : IsKnown c old e f s
        its = kept_is_known c old (record { config = c; me = 0; boot = 0; epoch = e; members = record { boot = [] } }) f s (ap (λ (ss : List Stamp). has_stamp ss s) is ∙ own s)

        later : is_below (written c (new ++ old) f stamp) (written c (new ++ old) f s) ≡ true
        later = ap (λ (l : List ℕ). is_below l (written c (new ++ old) f s)) (written_later c new old past f stamp (stands stamp known)) ∙ (ap (is_below (written c old f stamp)) (written_later c new old past f s (stands s its)) ∙ below)

        by_new : (s ≡ stamp) ⊎ (is_below (written c (new ++ old) f s) (written c (new ++ old) f stamp) ≡ true) → stamp ≡ s
        by_new (inl eq) = sym eq
        by_new (inr b) = absurd (true_false (sym (below_through (written c (new ++ old) f stamp) (written c (new ++ old) f s) (written c (new ++ old) f stamp) later b) ∙ never_below (written c (new ++ old) f stamp)))

    none_one : ◌≡◌ {A = ℕ} 0 1 → ⊥
    none_one q = omega (arith, q)

    more_one : (m : ℕ) → suc (suc m) ≡ 1 → ⊥
    more_one m q = omega (arith, q)

    by_list : (ss : List Stamp) → kept_in c (entries old) e f ≡ ss → length ss ≡ 1 → kept_in c (entries old) e f ≡ stamp ∷ []
    by_list [] is q = absurd (none_one q)
    by_list (s ∷ []) is q = is ∙ ap (λ (x : Stamp). x ∷ []) (sym (apart s is (known_under c old before e f s stamp is known)))
    by_list (s ∷ z ∷ zs) is q = absurd (more_one (length zs) q)

-- a version that a member pulls, and is the only kept one in a later world, is so already
pub settled_at : (c : Config) (lines : List ScheduleLine) (n : ℕ) (e : InEpoch) (w : World) (new now : List Line) (file : FileId) (s : ℕ) (y : SiteView) (p : Pull) → IsInRound c lines n w → AreTogether w e → NobodyHasOpen c e (place_at w) file → Past c now → now ≡ new ++ w.trace →
    IsMember e s → place_at w s ≡ Some (Running y) → Among p y.pulls → p.file ≡ file → kept_in c (entries now) e.id file ≡ p.stamp ∷ [] → Settled c e w file p.stamp
settled_at c lines n e w new now file s y p round together nobody past goes m here a is kept = record {
  facts = facts;
  mid = mid;
  together = together;
  stands = stands;
  kept_one = kept_before c new w.trace (subst (Past c) goes past) e.id file p.stamp (subst (λ (t : List Line). kept_in c (entries t) e.id file ≡ p.stamp ∷ []) goes kept)
      (subst (λ (f : FileId). IsKnown c w.trace e.id f p.stamp) is fact.known) (subst (λ (f : FileId). length (kept_in c (entries w.trace) e.id f) ≡ 1) is fact.single);
  shut = shut_there c e w file p.stamp css.0 facts round.groups together css.1 stands nobody;
}
  where
    facts : RoundFacts c w
    facts = round_facts c lines n w round

    mid : Midst c e w
    mid = midst_in c lines n e w round together

    fact : PullFact c w.trace e.id s p
    fact = pull_in c e w mid s y m here p a

    stands : Stands c w.trace file p.stamp
    stands = subst (λ (f : FileId). Stands c w.trace f p.stamp) is (subst (Stands c w.trace p.file) fact.stamp_is fact.is_version.stands)

    css : (css : ℕ) × (sync_site c e.members file.group ≡ Some css)
    css = subst (λ (f : FileId). (css : ℕ) × (sync_site c e.members f.group ≡ Some css)) is (sync_of c w.trace (frame_of c e s) p.file.group (mid.site s y m here).frame (started_packed c w.trace mid.past.followed e.id p.file.group fact.started))
