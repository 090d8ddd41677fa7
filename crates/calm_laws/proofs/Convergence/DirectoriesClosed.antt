-- After a calm round no directory is open: whatever is open then was opened by an open call, since no call waits.
use Rattle.std.proofs.Common.{◌≡◌, ℕ, ◌==◌, ◌≤◌, ◌⊎◌, Bool, true, false, ◌&&◌, ◌||◌, List, [], ◌∷◌, Option, Some, refl, sym, ◌∙◌, subst, inl, inr, arith}
use Rattle.std.specs.List.{list_any, find}
use Rattle.role_steps.proofs.of_plain_facts.Numbers.{equal_self}
use Rattle.role_steps.proofs.of_plain_facts.Tests.{both_true, true_false}
use Rattle.locus_ids.specs.declared.config.Config.{Config}
use Rattle.locus_ids.specs.declared.ids.CallId.{CallId}
use Rattle.locus_ids.specs.declared.ids.FileId.{FileId}
use Rattle.locus_ids.specs.declared.ids.Kind.{Kind}
use Rattle.locus_ids.specs.declared.ids.Kind.TheVariants as kind
use Rattle.locus_ids.specs.declared.ids.Mode.{Mode}
use Rattle.locus_ids.specs.declared.ids.Mode.TheVariants as mode
use Rattle.locus_ids.specs.declared.ids.Serial.{Serial}
use Rattle.locus_ids.specs.declared.ids.Stamp.{Stamp}
use Rattle.schedule_lines.specs.declared.line.ScheduleLine.{ScheduleLine}
use Rattle.commit_graph.specs.Versions.{same_file}
use Rattle.trace_book.specs.Same.{same_call}
use Rattle.role_steps.specs.Mends.{is_dir}
use Rattle.role_steps.specs.Opens.{is_open_on, is_open_stage}
use Rattle.role_steps.specs.Views.{boot_in}
use Rattle.role_steps.specs.declared.rounds.InEpoch.{InEpoch}
use Rattle.role_steps.specs.declared.synchronizing.FileRow.{FileRow}
use Rattle.role_steps.specs.declared.synchronizing.OpenRow.{OpenRow}
use Rattle.role_steps.specs.declared.synchronizing.OpenStage.{OpenStage}
use Rattle.role_steps.specs.declared.synchronizing.OpenStage.TheVariants as stage
use Rattle.role_steps.specs.declared.users.WaitingCall.{WaitingCall}
use Rattle.the_run.specs.Kept.{Among}
use Rattle.the_run.specs.Worlds.{World, Line, place_at}
use Rattle.tree_model.specs.declared.accepted.Waiting.{Waiting}
use Rattle.tree_model.specs.Calls.{waiting}
use Rattle.tree_model.specs.Epochs.{epoch_of}
use Rattle.tree_model.specs.Files.{kind_of_file}
use Rattle.lawful_trace.specs.CallRows.{is_this}
use Rattle.lawful_trace.specs.TreeRows.{IsCallIn}
use Rattle.tree_laws.specs.Past.{WasGranted, WasReleased}
use Rattle.tree_laws.specs.Printed.{entries}
use Rattle.tree_laws.specs.Tables.{AskedFact, IsGrantedNow, MakeAsked, RowFact, StageFact}
use Rattle.tree_laws.proofs.Alone.{asking}
use Rattle.tree_laws.proofs.Names.{same_call_own}
use Rattle.tree_laws.proofs.Waiting.{IsIt, accepted, asking_waits}
use Rattle.tree_laws.proofs.Orders.Standing.{same_file_eq}
use Rattle.tree_laws.proofs.Syncs.Members.{members_name_boots, table_boot}
use Rattle.store_laws.proofs.OneTree.RemoveSeen.{found_some}
use Rattle.rest_laws.proofs.Fits.EntryFacts.{IsPlain}
use Rattle.store_laws.specs.OneTree.Places.{InsideFact}
use Rattle.row_laws.specs.Orderly.Calm.{IsInside, AreTogether}
use Rattle.calm_laws.specs.Carrying.{IsMember, frame_of}
use Rattle.calm_laws.specs.Rounds.{after, IsInRound, IsCalm, CalmLeft}
use Rattle.calm_laws.proofs.Calm.{calm_in_round, calm_round}
use Rattle.calm_laws.proofs.Delivered.{inside_fact}
use Rattle.calm_laws.proofs.Facts.{RoundFacts, round_facts}
use Rattle.calm_laws.proofs.Lists.{every_among}
use Rattle.calm_laws.specs.Convergence.Copies.{Knows}
use Rattle.calm_laws.proofs.Convergence.DirectoriesOpeners.{booted, grantee, waits_or_plain}
use Rattle.calm_laws.proofs.Convergence.Knowing.{Known, knows}

none_any : {A : Type 0} (p : A → Bool) (xs : List A) → ((x : A) → Among x xs → p x ≡ true → ⊥) → list_any p xs ≡ false
none_any p [] h = refl
none_any p (x ∷ xs) h = over (p x) refl (none_any p xs (λ y a. h y (inr a)))
  where
    over : (b : Bool) → p x ≡ b → list_any p xs ≡ false → (b || list_any p xs) ≡ false
    over true q k = absurd (h x (inl refl) q)
    over false q k = k

dir_is : (k : Kind) → is_dir k ≡ true → k ≡ kind.Dir
dir_is kind.Dir h = refl
dir_is kind.File h = absurd (true_false (sym h))

dir_file : kind.Dir ≡ kind.File → ⊥
dir_file e = cc

both : (a b d : Bool) → a ≡ true → b ≡ true → d ≡ true → ((a && b) && d) ≡ true
both true true true p q r = refl
both false b d p q r = absurd (true_false (sym p))
both true false d p q r = absurd (true_false (sym q))
both true true false p q r = absurd (true_false (sym r))

no_one : (ws : List WaitingCall) (x : WaitingCall) → ws ≡ [] → Among x ws → ⊥
no_one [] x h a = a
no_one (w ∷ ws) x h a = absurd (not_empty h)
  where
    not_empty : w ∷ ws ≡ [] → ⊥
    not_empty e = cc

-- after a calm round nobody waits, of any member
module _ (c : Config) (left : CalmLeft c) (lines : List ScheduleLine) (n : ℕ) (e : InEpoch) (k : ℕ) (h : IsCalm c lines n e k) where
  abbrev w : World
  w = after c lines n k

  abbrev t : List Line
  t = w.trace

  round : IsInRound c lines n w
  round = calm_in_round c lines n e k k h (omega arith)

  facts : RoundFacts c w
  facts = round_facts c lines n w round

  together : AreTogether w e
  together = h.each k (omega arith)

  module _ (s : ℕ) (member : IsMember e s) where
    abbrev i : IsInside w e s
    i = together.inside s member

    mine : InsideFact c (frame_of c e s) t i.view
    mine = inside_fact c e w s i.view facts.fact together member i.here

    pub inside_now : epoch_of (entries t) s ≡ Some e.id
    inside_now = mine.frame.inside

    idle : (d : CallId) (caller : Waiting) → caller.site ≡ s → caller.call ≡ d → Among caller (waiting (entries t)) → ⊥
    idle d caller site_is call_is a = (let found : (y : Waiting) × (find (is_this s caller.process d) (waiting (entries t)) ≡ Some y) = found_some (is_this s caller.process d) caller (waiting (entries t)) a passes in
        no_one i.view.users.waiting (mine.users.inside.inside.all d caller.process found.0 found.1).0 (calm_round c left lines n e k h s i.view member i.here) (mine.users.inside.inside.all d caller.process found.0 found.1).1)
      where
        passes : is_this s caller.process d caller ≡ true
        passes = both (caller.site == s) (caller.process == caller.process) (same_call caller.call d) (subst (λ (j : ℕ). (caller.site == j) ≡ true) site_is (equal_self caller.site)) (equal_self caller.process) (subst (λ (j : CallId). same_call caller.call j ≡ true) call_is (same_call_own caller.call))

  -- a call of the epoch is of a member
  module _ (d : CallId) (q : IsCallIn (entries t) e.id d) (css : ℕ) (known : IsMember e css) where
    pub caller_member : IsMember e d.site
    caller_member z = low (booted c t facts.fact.followed d q.accepted q.named) (sym is_boot ∙ z)
      where
        its : InsideFact c (frame_of c e css) t (together.inside css known).view
        its = mine css known

        is_boot : boot_in e.members.boot d.site ≡ d.boot
        is_boot = table_boot e.members d.site ∙ members_name_boots c t facts.fact.followed e.id d e.members q its.frame.members_are

        low : 1 ≤ d.boot → d.boot ≡ 0 → ⊥
        low le eq = omega (arith, le, eq)

    pub waits_none : Among q.accepted (waiting (entries t)) → ⊥
    waits_none a = (let it : IsIt (entries t) d q.accepted = (accepted c t facts.fact.followed).named d q.accepted q.named in idle d.site caller_member d q.accepted it.site_is it.call_is a)

  -- ---- directories ----

  pub is_directory : (file : FileId) (r : FileRow) → Knows c e (place_at w) file r → is_dir r.kind ≡ true → kind_of_file c (entries t) file ≡ kind.Dir
  is_directory file r d dir = subst (λ (f : FileId). kind_of_file c (entries t) f ≡ kind.Dir) known.is_file (sym known.file_fact.kind_is ∙ dir_is r.kind dir)
    where
      known : Known c e w d.css d.table file r
      known = knows c lines n e w round together file r d

  -- whatever was granted of it is over
  pub grants_over : (css : ℕ) → IsMember e css → (f : FileId) → kind_of_file c (entries t) f ≡ kind.Dir → (d : CallId) (request : ℕ) (j : Serial) (m : Mode) (stamp : Option Stamp) (ss : ℕ) → WasGranted t e.id d request j m f stamp ss → (WasReleased t e.id j → ⊥) → ⊥
  grants_over css member f dir d request j m stamp ss was live = over (waits_or_plain c round.packs t facts.fact.followed e.id d request j m f stamp ss was live (inside_now d.site (caller_member d its css member)))
    where
      its : IsCallIn (entries t) e.id d
      its = grantee c round.packs t facts.fact.followed e.id d request j m f stamp ss was

      over : Among its.accepted (waiting (entries t)) ⊎ IsPlain c t f → ⊥
      over (inl x) = waits_none d its css member x
      over (inr p) = dir_file (sym dir ∙ p.kind_is)

  pub directory_closed : (file : FileId) (r : FileRow) → (d : Knows c e (place_at w) file r) → is_dir r.kind ≡ true → list_any (is_open_on file) d.table.opens ≡ false
  directory_closed file r d dir = none_any (is_open_on file) d.table.opens none
    where
      known : Known c e w d.css d.table file r
      known = knows c lines n e w round together file r d

      none : (q : OpenRow) → Among q d.table.opens → is_open_on file q ≡ true → ⊥
      none q a open_on = by_stage q.stage tests.1 row.stage
        where
          row : RowFact c t e.id d.table.group q
          row = every_among (RowFact c t e.id d.table.group) q d.table.opens a known.table_fact.opens

          tests : (same_file q.file file ≡ true) × (is_open_stage q.stage ≡ true)
          tests = both_true (same_file q.file file) (is_open_stage q.stage) open_on

          granted : IsGrantedNow t e.id q row.call → ⊥
          granted g = grants_over d.css known.member q.file (subst (λ (f : FileId). kind_of_file c (entries t) f ≡ kind.Dir) (sym (same_file_eq q.file file tests.0)) (is_directory file r d dir)) row.call q.request q.inst q.mode q.stamp q.ss g.was_granted g.unreleased

          makes : MakeAsked c t e.id q row.call → ⊥
          makes m = waits_none m.make.call m.make.asks.inside d.css known.member
              (asking_waits c t e.id m.make.call facts.fact.followed m.make.asks.inside (inside_now m.make.call.site (caller_member m.make.call m.make.asks.inside d.css known.member)) (asking c t m.make.call m.make.asks.wanted m.make.asks.asks))

          asked : (m : Mode) → AskedFact c t e.id q row.call m → ⊥
          asked mode.Make f = makes f
          asked mode.Read f = granted f.0
          asked mode.Write f = granted f.0
          asked mode.Resolve f = granted f.0
          asked mode.Mend f = granted f.0

          by_stage : (g : OpenStage) → is_open_stage g ≡ true → StageFact c t e.id q row.call g → ⊥
          by_stage stage.Asked o f = asked q.mode f
          by_stage stage.Granted o f = granted f.0
          by_stage (stage.Refused why) o f = true_false (sym o)
          by_stage stage.Ended o f = true_false (sym o)
