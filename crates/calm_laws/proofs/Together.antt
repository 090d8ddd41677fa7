-- Whom the records tell to be together is so in the world: up in the listed boots, in the epoch, and connected.
use Rattle.std.proofs.Common.{◌≡◌, ◌≢◌, ℕ, zero, suc, ◌==◌, Bool, true, false, not, ◌&&◌, ◌||◌, List, [], ◌∷◌, ◌++◌, Option, Some, None, refl, sym, ◌∙◌, ap, subst, inr, arith}
use Rattle.std.proofs.lemmas.Bool.Decides.{nat_tests}
use Rattle.locus_ids.specs.declared.config.Config.{Config}
use Rattle.locus_ids.specs.declared.ids.EpochId.{EpochId}
use Rattle.locus_ids.specs.declared.sites.Members.{Members}
use Rattle.schedule_lines.specs.declared.line.ScheduleLine.{ScheduleLine}
use Rattle.role_steps.specs.Own.{Every}
use Rattle.role_steps.specs.Views.{SiteView}
use Rattle.role_steps.specs.Views as views
use Rattle.role_steps.specs.declared.rounds.InEpoch.{InEpoch}
use Rattle.tree_model.specs.Epochs.{is_up, boot_of, epoch_of, members_of}
use Rattle.tree_model.specs.Packs.{boot_in, is_member}
use Rattle.lawful_trace.specs.Places.{reaches}
use Rattle.lawful_trace.specs.Places as lawful
use Rattle.lawful_trace.specs.Calm as told
use Rattle.the_run.specs.Joins.{Joined}
use Rattle.the_run.specs.Runs.{run_in}
use Rattle.the_run.specs.Steps.{epoch_id}
use Rattle.std.specs.List.{list_any}
use Rattle.role_steps.proofs.of_plain_facts.Options.{none_some, some_same}
use Rattle.role_steps.proofs.of_plain_facts.Tests.{false_true, true_false}
use Rattle.the_run.specs.Worlds.{World, Place, Running, Stopped, Line, CutCircuit, place_at, is_between}
use Rattle.the_run.proofs.Growing.{run_grows}
use Rattle.the_run.proofs.OneList.{one_list, epochs_joined}
use Rattle.run_laws.specs.Standing.{Standing, standing}
use Rattle.row_laws.specs.Shown.{trace_of}
use Rattle.row_laws.proofs.AskedRun.{run_courses}
use Rattle.row_laws.proofs.Causes.{epoch_standing}
use Rattle.row_laws.proofs.SitesGoOn.{listed_before}
use Rattle.row_laws.specs.Orderly.Calm.{IsInside, AreTogether}
use Rattle.row_laws.specs.OrderlyRows.Fits.{FitsCluster}
use Rattle.row_laws.proofs.OrderlyRows.Circuits.{cut_is}
use Rattle.row_laws.proofs.OrderlyRows.Reached.{running_boot}
use Rattle.calm_laws.specs.Carrying.{IsMember}
use Rattle.calm_laws.proofs.Placed.{Stands}
use Rattle.calm_laws.proofs.Twins.{Twin}

-- ---- the list of the epoch ----

joined_later : (t : ℕ) (id : EpochId) (m : Members) (new old : List Line) → Joined t id m old → Joined t id m (new ++ old)
joined_later t id m [] old h = h
joined_later t id m (x ∷ xs) old h = inr (joined_later t id m xs old h)

-- what the run of the lines has told as the list of the epoch is what a site has that is in it later
list_is : (c : Config) (lines more : List ScheduleLine) (id : EpochId) (members : Members) (s : ℕ) (v : SiteView) (d : InEpoch) → members_of (trace_of (run_in c lines)) id ≡ Some members → place_at (run_in c (lines ++ more)) s ≡ Some (Running v) → v.epoch ≡ Some d → d.id ≡ id → d.members ≡ members
list_is c lines more id members s v d listed here inside same =
    let j : (t : ℕ) × Joined t id members (run_in c lines).trace = listed_before id (run_in c lines).trace members listed in
    let now : Joined j.0 id members (run_in c (lines ++ more)).trace = subst (λ (xs : List Line). Joined j.0 id members xs) (sym (run_grows c lines more).trace) (joined_later j.0 id members (run_grows c lines more).lines (run_in c lines).trace j.1) in
    let own : Joined d.id.site d.id d.members (run_in c (lines ++ more)).trace = (epochs_joined c (lines ++ more)).joined s v d here inside in
    one_list c (lines ++ more) d.id.site j.0 id d.members members (subst (λ (i : EpochId). Joined d.id.site i d.members (run_in c (lines ++ more)).trace) same own) now

-- ---- a member ----

site_inside : (c : Config) (lines more : List ScheduleLine) (w : World) (id : EpochId) (members : Members) (s : ℕ) → Twin c lines more w → Stands w → members_of (trace_of (run_in c lines)) id ≡ Some members → is_up c (trace_of w) s ≡ true → boot_of (trace_of w) s ≡ boot_in members s → epoch_of (trace_of w) s ≡ Some id →
    IsInside w (record { id = id; members = members }) s
site_inside c lines more w id members s twin stands listed up boot inside = by_place (place_at w s) refl
  where
    stood : (standing s w.trace).epoch ≡ Some id
    stood = sym (epoch_standing c s w.trace up) ∙ inside

    by_epoch : (v : SiteView) → place_at w s ≡ Some (Running v) → (o : Option InEpoch) → v.epoch ≡ o → epoch_id o ≡ Some id → IsInside w (record { id = id; members = members }) s
    by_epoch v here None e h = absurd (none_some id h)
    by_epoch v here (Some d) e h =
        let there : place_at (run_in c (lines ++ more)) s ≡ Some (Running v) = twin.places s ∙ here in
        let same : d.id ≡ id = some_same d.id id h in
        let list : d.members ≡ members = list_is c lines more id members s v d listed there e same in
        record {
          view = v;
          here = here;
          boot = sym (running_boot c (lines ++ more) s v there) ∙ (twin.folds (λ t. boot_of t s) (λ n older. refl) ∙ boot);
          epoch = e ∙ (λ i. Some (record { id = same i; members = list i }));
        }

    by_place : (o : Option Place) → place_at w s ≡ o → IsInside w (record { id = id; members = members }) s
    by_place None h = absurd (none_some id (sym (stands.only s h) ∙ stood))
    by_place (Some (Stopped d)) h = absurd (false_true (sym ((run_courses c (lines ++ more)).course.places s (Stopped d) (twin.places s ∙ h)).0 ∙ (twin.folds (λ t. is_up c t s) (λ n older. refl) ∙ up)))
    by_place (Some (Running v)) h = by_epoch v h v.epoch refl (ap (λ (x : Standing). x.epoch) (sym (stands.good.stands s v h)) ∙ stood)

-- ---- all ----

uncut_by : (a b p q : Bool) → (a && b && (p || not q)) ≡ true → p ≡ false → q ≡ false
uncut_by true true false false h e = refl
uncut_by true true false true h e = absurd (false_true h)
uncut_by true true true q h e = absurd (true_false e)
uncut_by true false p q h e = absurd (false_true h)
uncut_by false b p q h e = absurd (false_true h)

member_is : (members : Members) (s : ℕ) → boot_in members s ≢ 0 → is_member members s ≡ true
member_is members s h = grind (arith, nat_tests)

-- by the records so far, as the run of the lines has cut circuits, and in a world with the same circuits
pub together_in : (c : Config) (lines more : List ScheduleLine) (w : World) (id : EpochId) (members : Members) → Every (FitsCluster c.sites) lines → Twin c lines more w → Stands w → w.circuits ≡ (run_in c lines).circuits → members_of (trace_of (run_in c lines)) id ≡ Some members → told.AreTogether c lines (trace_of w) id members →
    AreTogether w (record { id = id; members = members })
together_in c lines more w id members fits twin stands circuits listed h = record {
  inside = λ s m. site_inside c lines more w id members s twin stands listed (h.up s (is s m)) (h.boots s (is s m)) (h.inside s (is s m));
  connected = λ s t m k ne. ap (λ (xs : List CutCircuit). list_any (is_between s t) xs) circuits ∙ (cut_is c lines fits s t ∙ uncut_by (is_up c (trace_of w) s) (is_up c (trace_of w) t) (s == t) (lawful.is_cut lines s t) (h.reach s t (is s m) (is t k)) (differ s t ne));
}
  where
    is : (s : ℕ) → IsMember (record { id = id; members = members }) s → is_member members s ≡ true
    is s m = same (λ z. m (boots_same s ∙ z))
      where
        boots_same : (s : ℕ) → views.boot_in members.boot s ≡ boot_in members s
        boots_same zero = refl
        boots_same (suc p) = refl

        same : boot_in members s ≢ 0 → is_member members s ≡ true
        same k = member_is members s k

    differ : (a b : ℕ) → a ≢ b → (a == b) ≡ false
    differ a b h = grind (arith, nat_tests)
