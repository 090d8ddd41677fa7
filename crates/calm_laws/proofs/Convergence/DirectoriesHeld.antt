-- At the end of a calm round a directory's synchronization site that has at least each known version of it holds the only kept one: no writer
-- is ahead there, since nobody has a directory open.
use Rattle.std.proofs.Common.{List, Option, Some, [], ap, arith, inl, inr, refl, subst, sym, true, ℕ, ◌∙◌, ◌∷◌, ◌≡◌, ◌⊎◌}
use Rattle.std.proofs.lemmas.Bool.Decides.{nat_tests}
use Rattle.std.specs.Option.{option_map}
use Rattle.calm_laws.proofs.Delivered.{inside_fact}
use Rattle.calm_laws.proofs.Facts.{RoundFacts, round_facts}
use Rattle.calm_laws.specs.Carrying.{frame_of}
use Rattle.calm_laws.specs.Rounds.{CalmLeft, IsCalm, IsInRound, after}
use Rattle.calm_laws.proofs.Convergence.CommitsRising.{copy_held}
use Rattle.calm_laws.proofs.Convergence.DirectoriesClosed.{grants_over, is_directory}
use Rattle.calm_laws.proofs.Convergence.DirectoriesKept.{HasKnown}
use Rattle.calm_laws.proofs.Convergence.DirectoriesUnflagged.{calm_world}
use Rattle.calm_laws.proofs.Convergence.Knowing.{Known, kept_of_row, knows, only_fact, only_narrow}
use Rattle.calm_laws.proofs.Convergence.Midst.{past_of_round}
use Rattle.calm_laws.proofs.Convergence.Started.{all_started}
use Rattle.calm_laws.specs.Convergence.Copies.{HoldsTheOnly, Knows}
use Rattle.locus_ids.specs.declared.config.Config.{Config}
use Rattle.locus_ids.specs.declared.ids.FileId.{FileId}
use Rattle.locus_ids.specs.declared.ids.Serial.{Serial}
use Rattle.locus_ids.specs.declared.ids.Stamp.{Stamp}
use Rattle.row_laws.specs.Orderly.Calm.{AreTogether}
use Rattle.store_laws.proofs.Holdings.MendOnly.{only_had}
use Rattle.store_laws.proofs.Holdings.Released.{released_shut}
use Rattle.store_laws.proofs.OneTree.Staying.{rest_below}
use Rattle.store_laws.proofs.Places.{GrantedSo, instance_granted}
use Rattle.tree_laws.proofs.Syncs.Notices.{kept_is_known}
use Rattle.role_steps.specs.Mends.{is_dir}
use Rattle.role_steps.specs.declared.rounds.InEpoch.{InEpoch}
use Rattle.role_steps.specs.declared.synchronizing.FileRow.{FileRow}
use Rattle.role_steps.specs.declared.synchronizing.VersionRow.{VersionRow}
use Rattle.schedule_lines.specs.declared.line.ScheduleLine.{ScheduleLine}
use Rattle.the_run.specs.Worlds.{World, place_at}
use Rattle.tree_laws.specs.Instances.{IsKnown, held_in}
use Rattle.tree_laws.specs.Past.{WasGranted}
use Rattle.tree_laws.specs.Printed.{entries}
use Rattle.tree_laws.specs.Stores.{copy_for}
use Rattle.tree_laws.specs.Tables.{IsAhead, VersionFact}
use Rattle.tree_model.specs.Files.{HeldVersion, version_of}
use Rattle.tree_model.specs.State.{has_stamp}
use Rattle.tree_model.specs.Tree.{kept_in}
use Rattle.tree_model.specs.declared.instance.Instance.{Instance}

module _ (c : Config) (left : CalmLeft c) (lines : List ScheduleLine) (n : ℕ) (e : InEpoch) (k : ℕ) (h : IsCalm c lines n e k) (file : FileId) (r : FileRow) (d : Knows c e (place_at (after c lines n k)) file r) (dir : is_dir r.kind ≡ true) where
  abbrev w : World
  w = after c lines n k

  round : IsInRound c lines n w
  round = calm_world c lines n e k h

  together : AreTogether w e
  together = h.each k (omega arith)

  facts : RoundFacts c w
  facts = round_facts c lines n w round

  known : Known c e w d.css d.table file r
  known = knows c lines n e w round together file r d

  none_ahead : IsAhead c w.trace e.id d.css file → ⊥
  none_ahead a = grants_over c left lines n e k h d.css known.member file (is_directory c left lines n e k h file r d dir) x.grant.call g.0.request a.inst x.grant.mode g.0.stamp x.grant.ss was (λ over. released_shut c w.trace facts.fact.followed e.id a.inst x over a.open_at.found)
    where
      x : Instance
      x = a.at

      g : GrantedSo w.trace e.id x.grant × (x.grant.inst ≡ a.inst)
      g = instance_granted c w.trace e.id a.inst x a.open_at.found

      was : WasGranted w.trace e.id x.grant.call g.0.request a.inst x.grant.mode file g.0.stamp x.grant.ss
      was = subst (λ (y : Serial). WasGranted w.trace e.id x.grant.call g.0.request y x.grant.mode file g.0.stamp x.grant.ss) g.1 (subst (λ (f : FileId). WasGranted w.trace e.id x.grant.call g.0.request x.grant.inst x.grant.mode f g.0.stamp x.grant.ss) a.file_is g.0.was_granted)

  own : (s : Stamp) → has_stamp (s ∷ []) s ≡ true
  own s = grind (arith, nat_tests)

  pub holds_known : (v : VersionRow) → r.kept ≡ v ∷ [] → HasKnown c w.trace e.id file d.css → HoldsTheOnly (place_at w) d.css file v
  holds_known v only has = record {
    view = d.view;
    here = d.here;
    copy = copy_for file (version_of c (entries w.trace) file v.stamp);
    found = copy_held c e d.css d.view file w.trace (past_of_round c w facts) (inside_fact c e w d.css d.view facts.fact together known.member d.here) (only_narrow c lines n e w round together file r v d only) ∙ ap (λ (o : Option Stamp). option_map (copy_for file) (option_map (version_of c (entries w.trace) file) o)) held_now;
    stamp = refl;
    vector = ap (λ (s : Stamp). (version_of c (entries w.trace) file s).vector) stamp_is ∙ sym (ap (λ (y : VersionRow). y.vector) version.same ∙ ap (λ (y : HeldVersion). y.vector) version.is_version.same);
  }
    where
      version : VersionFact c w.trace file v
      version = only_fact c e w d.css d.table file r v known only

      stamp_is : v.stamp ≡ version.version.stamp
      stamp_is = ap (λ (y : VersionRow). y.stamp) version.same

      kept_one : kept_in c (entries w.trace) e.id file ≡ v.stamp ∷ []
      kept_one = kept_of_row c e w d.css d.table file r v known d.is_row only (all_started c lines n e k left h d.css file.group d.view d.table known.member d.here d.found)

      is_known : IsKnown c w.trace e.id file v.stamp
      is_known = kept_is_known c w.trace (frame_of c e d.css) file v.stamp (ap (λ (ss : List Stamp). has_stamp ss v.stamp) kept_one ∙ own v.stamp)

      held_now : held_in c (entries w.trace) e.id d.css file ≡ Some v.stamp
      held_now = over (only_had c w.trace e.id file d.css v.stamp facts.fact.followed (rest_below c w.trace facts.rest) kept_one (has v.stamp is_known))
        where
          over : (held_in c (entries w.trace) e.id d.css file ≡ Some v.stamp) ⊎ IsAhead c w.trace e.id d.css file → held_in c (entries w.trace) e.id d.css file ≡ Some v.stamp
          over (inl q) = q
          over (inr a) = absurd (none_ahead a)
