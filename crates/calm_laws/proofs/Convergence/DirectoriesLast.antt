-- Over two calm rounds that stand directly after a third: where somebody has a directory open in them its synchronization site has the only kept
-- version at their end, since it was opened to mend.
use Rattle.std.proofs.Common.{◌≡◌, ℕ, ◌⊎◌, true, List, ◌++◌, Some, sym, ◌∙◌, ap, subst, inl, inr, arith}
use Rattle.role_steps.proofs.of_plain_facts.Options.{some_same}
use Rattle.locus_ids.specs.declared.config.Config.{Config}
use Rattle.locus_ids.specs.declared.ids.CallId.{CallId}
use Rattle.locus_ids.specs.declared.ids.FileId.{FileId}
use Rattle.locus_ids.specs.declared.ids.Kind.TheVariants as kind
use Rattle.locus_ids.specs.declared.ids.Mode.{Mode}
use Rattle.locus_ids.specs.declared.ids.Mode.TheVariants as mode
use Rattle.schedule_lines.specs.declared.line.ScheduleLine.{ScheduleLine}
use Rattle.trace_book.specs.declared.call.OpenMode.{OpenMode}
use Rattle.trace_book.specs.declared.call.OpenMode.TheVariants as opens
use Rattle.call_rules.specs.declared.want.Want.{Want}
use Rattle.call_rules.specs.declared.want.Want.TheVariants as want
use Rattle.wire_messages.specs.declared.body.Opening.TheVariants as how
use Rattle.role_steps.specs.Adoption.{table_group}
use Rattle.role_steps.specs.Mends.{is_dir}
use Rattle.role_steps.specs.Requests.{opening_of}
use Rattle.role_steps.specs.declared.rounds.InEpoch.{InEpoch}
use Rattle.role_steps.specs.declared.synchronizing.FileRow.{FileRow}
use Rattle.role_steps.specs.declared.synchronizing.OpenRow.{OpenRow}
use Rattle.role_steps.specs.declared.synchronizing.OpenStage.{OpenStage}
use Rattle.role_steps.specs.declared.synchronizing.OpenStage.TheVariants as stage
use Rattle.the_run.specs.Kept.{Among}
use Rattle.the_run.specs.Worlds.{World, Line, place_at}
use Rattle.tree_model.specs.Calls.{call_named, waiting}
use Rattle.tree_model.specs.Epochs.{epoch_of, members_of}
use Rattle.tree_model.specs.Files.{kind_of_file}
use Rattle.tree_model.specs.Packs as tree
use Rattle.lawful_trace.specs.TreeRows.{IsCallIn}
use Rattle.tree_laws.specs.Instances.{IsStarted, IsOpening, Stands}
use Rattle.tree_laws.specs.Past.{WasGranted}
use Rattle.tree_laws.specs.Printed.{entries}
use Rattle.tree_laws.specs.Tables.{AskedFact, IsGrantedNow, MakeAsked, RowFact, StageFact, TableFact}
use Rattle.tree_laws.proofs.Mending.{mends_at_sync}
use Rattle.tree_laws.proofs.Rows.{followed_rows}
use Rattle.tree_laws.proofs.Orders.Standing.{same_file_eq}
use Rattle.tree_laws.proofs.Orders.ProcessSynchronizing.{sync_same}
use Rattle.rest_laws.proofs.Fits.EntryFacts.{IsPlain}
use Rattle.rest_laws.proofs.MendStepNumbered.{files_numbered}
use Rattle.rest_laws.proofs.MendStepPlaces.{mend_place}
use Rattle.store_laws.specs.OneTree.Places.{InsideFact}
use Rattle.store_laws.specs.OneTree.Rest.{Past}
use Rattle.row_laws.specs.Orderly.Calm.{AreTogether}
use Rattle.calm_laws.specs.Carrying.{IsMember, frame_of}
use Rattle.calm_laws.specs.Rounds.{after, IsInRound, IsCalm, CalmLeft}
use Rattle.calm_laws.proofs.Delivered.{inside_fact}
use Rattle.calm_laws.proofs.Facts.{RoundFacts, round_facts}
use Rattle.calm_laws.proofs.Lists.{every_among, row_key}
use Rattle.calm_laws.proofs.Members.{sync_is}
use Rattle.calm_laws.specs.Convergence.Copies.{Knows, IsOpenStill, NobodyHasOpen}
use Rattle.calm_laws.proofs.Convergence.DirectoriesBegun.{Since, MayHaveBegun, begun, known_later, moment, since_front}
use Rattle.calm_laws.proofs.Convergence.DirectoriesClosed.{caller_member, inside_now, is_directory, waits_none}
use Rattle.calm_laws.proofs.Convergence.DirectoriesKept.{HasKnown, OnlyMends}
use Rattle.calm_laws.proofs.Convergence.DirectoriesMode.{IsToMend, mend_mode}
use Rattle.calm_laws.proofs.Convergence.DirectoriesOpeners.{grantee, waits_or_plain}
use Rattle.calm_laws.proofs.Convergence.DirectoriesTold.{MendsSince}
use Rattle.calm_laws.proofs.Convergence.DirectoriesUnflagged.{calm_world}
use Rattle.calm_laws.proofs.Convergence.Knowing.{Known, knows}

dir_file : kind.Dir ≡ kind.File → ⊥
dir_file e = cc

-- a make is asked for a file that has no number yet
make_opening : (c : Config) (w : Want) (f : FileId) (set : _) (k : _) → IsOpening c w f (how.Make set k) → f.ino ≡ 0
make_opening c (want.Open file m) f set k h = absurd (other m h.1)
  where
    other : (m : OpenMode) → how.Make set k ≡ opening_of m → ⊥
    other opens.Read e = cc
    other opens.Write e = cc
    other (opens.Resolve site) e = cc
    other opens.Steady e = cc
make_opening c (want.OpenToMend file) f set k h = absurd (other h.1)
  where
    other : how.Make set k ≡ how.Mend → ⊥
    other e = cc
make_opening c (want.Make group kd sites) f set k h = h.1
make_opening c _ f set k h = absurd h

-- what is known of the end of the last round, and since the end of the first
module _ (c : Config) (left : CalmLeft c) (lines : List ScheduleLine) (o m : ℕ) (e : InEpoch) (j l : ℕ) (file : FileId) (r : FileRow) (calm_first : IsCalm c lines o e j) (calm_last : IsCalm c lines m e l) (d : Knows c e (place_at (after c lines m l)) file r) (dir : is_dir r.kind ≡ true) where
  abbrev first : World
  first = after c lines o j

  abbrev end : World
  end = after c lines m l

  round : IsInRound c lines m end
  round = calm_world c lines m e l calm_last

  together : AreTogether end e
  together = calm_last.each l (omega arith)

  facts : RoundFacts c end
  facts = round_facts c lines m end round

  known : Known c e end d.css d.table file r
  known = knows c lines m e end round together file r d

  inside : InsideFact c (frame_of c e d.css) end.trace d.view
  inside = inside_fact c e end d.css d.view facts.fact together known.member d.here

  sync_end : tree.sync_site c file.group (members_of (entries end.trace) e.id) ≡ Some d.css
  sync_end = ap (tree.sync_site c file.group) inside.frame.members_are ∙ (sym (sync_same c e.members file.group) ∙ d.synced)

  is_dir_now : kind_of_file c (entries end.trace) file ≡ kind.Dir
  is_dir_now = is_directory c left lines m e l calm_last file r d dir

  numbered : file.ino ≡ 0 → ⊥
  numbered = (files_numbered c (entries end.trace) (followed_rows c end.trace facts.fact.followed)).stand file known.file_fact.some (subst (λ (f : FileId). Stands c end.trace f known.file_fact.some) known.is_file known.file_fact.stands)

  pub since_first : IsStarted c first.trace e.id file.group → (g : MendsSince first end) → Since c first.trace e.id file d.css g.lines
  since_first started g = record {
    past = subst (Past c) g.trace (record { followed = facts.fact.followed; rest = facts.rest });
    mends = g.mends;
    started = started;
    idle = λ a q x. waits_none c left lines o e j calm_first a q d.css known.member x;
    inside = λ a q. subst (λ (t : List Line). epoch_of (entries t) a.site ≡ Some e.id) g.trace (inside_call a (subst (λ (t : List Line). IsCallIn (entries t) e.id a) (sym g.trace) q));
    no_plain = λ p. dir_file (sym is_dir_now ∙ (subst (λ (t : List Line). IsPlain c t file) (sym g.trace) p).kind_is);
    mend_site = λ a y named made words. some_same y.site d.css (sym (mends_at_sync c end.trace facts.fact.followed a y e.id file (subst (λ (t : List Line). call_named (entries t) a ≡ Some y) (sym g.trace) named) made words) ∙ sync_end);
    at_sync = λ a request i stamp ss was. some_same ss d.css (sym (mend_place c end.trace facts.fact.followed e.id a request i file stamp ss (subst (λ (t : List Line). WasGranted t e.id a request i mode.Mend file stamp ss) (sym g.trace) was)) ∙ sync_end);
  }
    where
      inside_call : (a : CallId) → IsCallIn (entries end.trace) e.id a → epoch_of (entries end.trace) a.site ≡ Some e.id
      inside_call a q = inside_now c left lines m e l calm_last a.site (caller_member c left lines m e l calm_last a q d.css known.member)

  -- ---- who has it open ----

  -- whoever has it open then opened it to mend, so that the site has at least what is known at the end
  module _ (w : World) (n : ℕ) (here : IsInRound c lines n w) (there : AreTogether w e) (g : MendsSince first w) (h : MendsSince w end) (since : Since c first.trace e.id file d.css (h.lines ++ g.lines)) (fit : MayHaveBegun c first.trace e.id file d.css) where
    now : OnlyMends c (g.lines ++ first.trace) e.id file d.css
    now = moment c first.trace e.id file d.css g.lines (since_front c first.trace e.id file d.css h.lines g.lines since)

    now_w : OnlyMends c w.trace e.id file d.css
    now_w = subst (λ (t : List Line). OnlyMends c t e.id file d.css) (sym g.trace) now

    granted_known : (q : OpenRow) (a : CallId) → q.file ≡ file → IsGrantedNow w.trace e.id q a → HasKnown c ((h.lines ++ g.lines) ++ first.trace) e.id file d.css
    granted_known q a is x = by_call (waits_or_plain c here.packs w.trace now_w.past.followed e.id a q.request q.inst q.mode file q.stamp q.ss was x.unreleased (now_w.inside a its))
      where
        was : WasGranted w.trace e.id a q.request q.inst q.mode file q.stamp q.ss
        was = subst (λ (f : FileId). WasGranted w.trace e.id a q.request q.inst q.mode f q.stamp q.ss) is x.was_granted

        its : IsCallIn (entries w.trace) e.id a
        its = grantee c here.packs w.trace now_w.past.followed e.id a q.request q.inst q.mode file q.stamp q.ss was

        by_call : Among its.accepted (waiting (entries w.trace)) ⊎ IsPlain c w.trace file → HasKnown c ((h.lines ++ g.lines) ++ first.trace) e.id file d.css
        by_call (inl z) = (let mends : IsToMend q.mode file its.accepted.words = mend_mode c here.packs w.trace now_w.past.followed e.id a q.request q.inst q.mode file q.stamp q.ss was its (now_w.waits a its z) in
            known_later c first.trace e.id file d.css h.lines g.lines since
            (begun c first.trace e.id file d.css g.lines (since_front c first.trace e.id file d.css h.lines g.lines since) fit its.accepted (subst (λ (t : List Line). Among its.accepted (waiting (entries t))) g.trace z) its.made_in mends.words_are))
        by_call (inr p) = absurd (now_w.no_plain p)

    pub open_known : (HasKnown c ((h.lines ++ g.lines) ++ first.trace) e.id file d.css → ⊥) → NobodyHasOpen c e (place_at w) file
    open_known none css view t q synced at found among same still = by_stage q.stage still row_fact.stage
      where
        member : IsMember e css
        member = (sync_is c e file.group css synced).1

        at_table : Among t view.tables × (t.group ≡ file.group)
        at_table = row_key table_group file.group view.tables t found

        table : TableFact c w.trace (frame_of c e css) t
        table = every_among (TableFact c w.trace (frame_of c e css)) t view.tables at_table.0 (inside_fact c e w css view (round_facts c lines n w here).fact there member at).tables

        row_fact : RowFact c w.trace e.id t.group q
        row_fact = every_among (RowFact c w.trace e.id t.group) q t.opens among table.opens

        is : q.file ≡ file
        is = same_file_eq q.file file same

        granted : IsGrantedNow w.trace e.id q row_fact.call → ⊥
        granted x = none (granted_known q row_fact.call is x)

        makes : MakeAsked c w.trace e.id q row_fact.call → ⊥
        makes x = numbered (sym (ap (λ (f : FileId). f.ino) (x.file_is ∙ is)) ∙ make_opening c x.make.asks.wanted x.make.file q.set q.kind x.make.asks.opening_is)

        asked : (b : Mode) → AskedFact c w.trace e.id q row_fact.call b → ⊥
        asked mode.Make f = makes f
        asked mode.Read f = granted f.0
        asked mode.Write f = granted f.0
        asked mode.Resolve f = granted f.0
        asked mode.Mend f = granted f.0

        by_stage : (s : OpenStage) → IsOpenStill s → StageFact c w.trace e.id q row_fact.call s → ⊥
        by_stage stage.Asked o f = asked q.mode f
        by_stage stage.Granted o f = granted f.0
        by_stage (stage.Refused why) o f = o
        by_stage stage.Ended o f = o
