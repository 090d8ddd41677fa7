-- After three calm rounds that stand directly one after another no directory wants a rescue, but for refused mends and want of room: a
-- synchronization site that holds the only kept version mends it, and it holds it, as copies converge.
use Rattle.std.proofs.Common.{Bool, List, None, Option, Some, [], ap, arith, cond, false, inl, inr, refl, subst, sym, true, ℕ, ◌==◌, ◌∙◌, ◌∷◌, ◌≡◌, ◌⊎◌}
use Rattle.std.proofs.lemmas.Bool.Decides.{nat_tests}
use Rattle.std.specs.Option.{option_map}
use Rattle.calm_laws.proofs.Delivered.{inside_fact}
use Rattle.calm_laws.proofs.Facts.{RoundFacts, round_facts}
use Rattle.calm_laws.proofs.Members.{sync_is}
use Rattle.calm_laws.specs.Rounds.{CalmLeft, IsInRound, after}
use Rattle.commit_graph.proofs.Names.{same_stamp_eq}
use Rattle.commit_graph.specs.Versions.{same_stamp}
use Rattle.calm_laws.proofs.Convergence.CommitsRising.{copy_held}
use Rattle.calm_laws.proofs.Convergence.Convergence.{converge}
use Rattle.calm_laws.proofs.Convergence.DirectoriesUndisturbed.{undisturbed}
use Rattle.calm_laws.proofs.Convergence.DirectoriesUnflagged.{calm_world, refused}
use Rattle.calm_laws.proofs.Convergence.Knowing.{Known, knows, only_narrow}
use Rattle.calm_laws.proofs.Convergence.Late.{rests_begun}
use Rattle.calm_laws.proofs.Convergence.Midst.{past_of_round}
use Rattle.calm_laws.proofs.Convergence.Shut.{shut_itself}
use Rattle.calm_laws.proofs.Convergence.Starting.{second_begins}
use Rattle.calm_laws.specs.Convergence.Copies.{HoldsTheOnly, IsOnlyKept, Knows}
use Rattle.calm_laws.specs.Convergence.Directories.{NoRescueIsWanted, UndisturbedWantNoRescue, WantsRescue, WasRefused}
use Rattle.calm_laws.specs.Convergence.Rounds.{AreDirectRounds, IsShutFrom, IsUndisturbed, LackedRoom}
use Rattle.lawful_trace.specs.Places.{lines_before}
use Rattle.locus_ids.specs.Sites.{has}
use Rattle.locus_ids.specs.declared.config.Config.{Config}
use Rattle.locus_ids.specs.declared.ids.FileId.{FileId}
use Rattle.locus_ids.specs.declared.ids.Kind.TheVariants as kind
use Rattle.locus_ids.specs.declared.ids.Stamp.{Stamp}
use Rattle.locus_ids.specs.declared.sites.Sites.{Sites}
use Rattle.row_laws.proofs.Orderly.Places.{view_eq}
use Rattle.row_laws.specs.Orderly.Calm.{AreTogether}
use Rattle.role_steps.proofs.of_plain_facts.Options.{none_some, some_same}
use Rattle.role_steps.proofs.of_plain_facts.Tests.{true_false}
use Rattle.role_steps.specs.Mends.{is_dir, wants_mend_of, wants_rescue_in, wants_rescue_of}
use Rattle.role_steps.specs.Storage.{copy_of}
use Rattle.role_steps.specs.Views.{SiteView}
use Rattle.role_steps.specs.declared.copies.FileCopy.{FileCopy}
use Rattle.role_steps.specs.declared.rounds.InEpoch.{InEpoch}
use Rattle.role_steps.specs.declared.synchronizing.FileRow.{FileRow}
use Rattle.role_steps.specs.declared.synchronizing.VersionRow.{VersionRow}
use Rattle.schedule_lines.specs.declared.line.ScheduleLine.{ScheduleLine}
use Rattle.the_run.specs.Runs.{run_in}
use Rattle.the_run.specs.Worlds.{World, place_at}
use Rattle.trace_book.specs.declared.call.Call.{Call}
use Rattle.trace_book.specs.declared.call.Call.TheVariants as call
use Rattle.tree_laws.specs.Instances.{held_in}
use Rattle.tree_laws.specs.Packets.{file_in}
use Rattle.tree_laws.specs.Printed.{entries}
use Rattle.tree_laws.specs.Stores.{copy_for}
use Rattle.tree_model.specs.Files.{kind_made, making_words, version_of}
use Rattle.tree_model.specs.Opening.{sites_made}
use Rattle.tree_model.specs.Packs.{packs_of}

stamp_itself : (a : Stamp) → same_stamp a a ≡ true
stamp_itself a = grind (arith, nat_tests)

-- a directory is for all sites with a pack of its group
dir_set : (packs : Sites) (root : Bool) (words : Option Call) → is_dir (cond root kind.Dir (kind_made words)) ≡ true → cond root packs (sites_made packs words) ≡ packs
dir_set packs true words h = refl
dir_set packs false (Some (call.MakeDir path)) h = refl
dir_set packs false _ h = absurd (true_false (sym h))

-- where the directory is undisturbed in the last two rounds, unless its synchronization site holds the version
rescued_or_undisturbed : (c : Config) → CalmLeft c → (lines : List ScheduleLine) (n m : ℕ) (e : InEpoch) (k l : ℕ) (file : FileId) (r : FileRow) (v : VersionRow) → (rounds : AreDirectRounds c lines n m e k l) → (d : Knows c e (place_at (after c lines m l)) file r) → is_dir r.kind ≡ true → r.kept ≡ v ∷ [] →
    ((HoldsTheOnly (place_at (after c lines m l)) d.css file v → ⊥) → IsUndisturbed c lines n e k file × IsUndisturbed c lines m e l file) → WantsRescue c (after c lines m l) d.table file v → WasRefused d.view file ⊎ LackedRoom c lines m l d.css file v
rescued_or_undisturbed c calm lines n m e k l file r v rounds d dir only undisturbed wants = by_copy (copy_of d.view.store file) refl
  where
    w : World
    w = after c lines m l

    round : IsInRound c lines m w
    round = calm_world c lines m e l rounds.rounds.second

    together : AreTogether w e
    together = rounds.rounds.second.each l (omega arith)

    facts : RoundFacts c w
    facts = round_facts c lines m w round

    known : Known c e w d.css d.table file r
    known = knows c lines m e w round together file r d

    Result : Type 0
    Result = WasRefused d.view file ⊎ LackedRoom c lines m l d.css file v

    -- the copy is the version with its stamp
    content : (x : FileCopy) → copy_of d.view.store file ≡ Some x → x ≡ copy_for file (version_of c (entries w.trace) file x.stamp)
    content x is = by_held (held_in c (entries w.trace) e.id d.css file) (sym is ∙ copy_held c e d.css d.view file w.trace (past_of_round c w facts) (inside_fact c e w d.css d.view facts.fact together known.member d.here) (only_narrow c lines m e w round together file r v d only))
      where
        by_held : (h : Option Stamp) → Some x ≡ option_map (copy_for file) (option_map (version_of c (entries w.trace) file) h) → x ≡ copy_for file (version_of c (entries w.trace) file x.stamp)
        by_held None q = absurd (none_some x (sym q))
        by_held (Some stamp) q = (let eq : x ≡ copy_for file (version_of c (entries w.trace) file stamp) = some_same x (copy_for file (version_of c (entries w.trace) file stamp)) q in
            eq ∙ ap (λ (y : Stamp). copy_for file (version_of c (entries w.trace) file y)) (sym (ap (λ (y : FileCopy). y.stamp) eq)))

    held : (x : FileCopy) → copy_of d.view.store file ≡ Some x → x.stamp ≡ v.stamp → Result
    held x is same = inl (refused c calm lines m e l file r rounds.rounds.second d dir
        (ap (λ (vs : List VersionRow). wants_mend_of d.view d.table file vs) only ∙ (ap (wants_rescue_of d.table v.stamp) is ∙ by_test (same_stamp x.stamp v.stamp) (ap (λ (y : Stamp). same_stamp y v.stamp) same ∙ stamp_itself v.stamp))))
      where
        by_test : (b : Bool) → b ≡ true → ◌≡◌ {A = Bool} (elim b [ true ↦ wants_rescue_in d.table x.content | false ↦ false ]) true
        by_test true q = ap (λ (y : FileCopy). wants_rescue_in d.table y.content) (content x is) ∙ (ap (λ (y : Stamp). wants_rescue_in d.table (copy_for file (version_of c (entries w.trace) file y)).content) same ∙ wants)
        by_test false q = absurd (true_false (sym q))

    lacks : (HoldsTheOnly (place_at w) d.css file v → ⊥) → Result
    lacks none = by_end (converge c calm lines n m e k l file v r.set (record { rounds = rounds.rounds; undisturbed = record { in_first = apart.0; between = between; in_second = apart.1 }; kept = kept }) d.css known.member in_set)
      where
        apart : IsUndisturbed c lines n e k file × IsUndisturbed c lines m e l file
        apart = undisturbed none

        is_set : r.set ≡ packs_of c file.group
        is_set = known.file_fact.set_is ∙ dir_set (packs_of c file.group) (r.ino == 1) (making_words c (entries w.trace) (file_in file.group r.ino)) (ap is_dir (sym known.file_fact.kind_is) ∙ dir)

        in_set : has r.set d.css ≡ true
        in_set = ap (λ (y : Sites). has y d.css) is_set ∙ (sync_is c e file.group d.css d.synced).0

        kept : IsOnlyKept c e (place_at w) file v r.set
        kept = record { file_known = r; known = d; only = only; sites = refl }

        begun : World
        begun = run_in c (lines_before lines m)

        between : IsShutFrom c e file (after c lines n k).trace begun.trace
        between = subst (λ (u : World). IsShutFrom c e file u.trace begun.trace) (second_begins c lines n m e k l rounds) (shut_itself c e file begun.trace (rests_begun c calm lines n m e k l rounds.rounds file v r.set kept apart.1 d.css in_set).shut)

        by_end : HoldsTheOnly (place_at w) d.css file v ⊎ LackedRoom c lines m l d.css file v → Result
        by_end (inl h) = absurd (none h)
        by_end (inr h) = inr h

    by_copy : (x : Option FileCopy) → copy_of d.view.store file ≡ x → Result
    by_copy None is = lacks (λ h. none_some h.copy (sym is ∙ (ap (λ (y : SiteView). copy_of y.store file) (view_eq (place_at w d.css) d.view h.view d.here h.here) ∙ h.found)))
    by_copy (Some x) is = by_stamp (same_stamp x.stamp v.stamp) refl
      where
        by_stamp : (b : Bool) → same_stamp x.stamp v.stamp ≡ b → Result
        by_stamp true q = held x is (same_stamp_eq x.stamp v.stamp q)
        by_stamp false q = lacks (λ h. (let eq : x ≡ h.copy = some_same x h.copy (sym is ∙ (ap (λ (y : SiteView). copy_of y.store file) (view_eq (place_at w d.css) d.view h.view d.here h.here) ∙ h.found)) in
            true_false (sym (ap (λ (y : Stamp). same_stamp y v.stamp) (ap (λ (y : FileCopy). y.stamp) eq ∙ h.stamp) ∙ stamp_itself v.stamp) ∙ q)))

pub rescued : (c : Config) → CalmLeft c → UndisturbedWantNoRescue c
rescued c calm lines n m e k l file r v rounds first second d dir only wants = rescued_or_undisturbed c calm lines n m e k l file r v rounds d dir only (λ none. (first, second)) wants

pub rescued_in_three : (c : Config) → CalmLeft c → NoRescueIsWanted c
rescued_in_three c calm lines o n m e j k l file r v three d dir only wants = rescued_or_undisturbed c calm lines n m e k l file r v three.last d dir only (undisturbed c calm lines o n m e j k l file r v three d dir only) wants
