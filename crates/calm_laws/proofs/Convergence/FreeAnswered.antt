-- An instance of a file that nobody has open, which its storage site is closing still, is over at the synchronization site of its group: a
-- Closed that comes there is answered.
use Rattle.std.proofs.Common.{List, None, Option, Some, ap, arith, false, map, refl, subst, sym, true, ℕ, ◌∙◌, ◌≡◌, ◌≤◌}
use Rattle.std.proofs.lemmas.Bool.Decides.{nat_tests}
use Rattle.std.specs.Option.{is_some}
use Rattle.calm_laws.proofs.Closed.{told}
use Rattle.calm_laws.proofs.Delivered.{inside_fact}
use Rattle.calm_laws.proofs.Facts.{RoundFacts, round_facts}
use Rattle.calm_laws.proofs.Lists.{every_among, row_key}
use Rattle.calm_laws.proofs.Members.{sync_is}
use Rattle.calm_laws.proofs.TableThere.{table_there}
use Rattle.calm_laws.proofs.UserParts.{Found, first_found}
use Rattle.rest_laws.proofs.AdoptionWants.{stores}
use Rattle.rest_laws.proofs.StoreStepResting.{store_rests}
use Rattle.rest_laws.proofs.TableShutting.{shut_file}
use Rattle.calm_laws.specs.Carrying.{IsMember, frame_of}
use Rattle.calm_laws.specs.Rounds.{IsInRound}
use Rattle.calm_laws.specs.Standing.{IsGrantedStage}
use Rattle.commit_graph.specs.Versions.{same_file}
use Rattle.calm_laws.proofs.Convergence.FreeGranted.{IsOnOneFile, any_row, any_there, row_file, shut_on}
use Rattle.calm_laws.proofs.Convergence.Midst.{past_of_round}
use Rattle.calm_laws.proofs.Convergence.TableRows.{rising_found}
use Rattle.calm_laws.specs.Convergence.Copies.{IsOpenStill, NobodyHasOpen}
use Rattle.locus_ids.specs.Sizes.{sites_max}
use Rattle.locus_ids.specs.declared.config.Config.{Config}
use Rattle.locus_ids.specs.declared.ids.CallId.{CallId}
use Rattle.locus_ids.specs.declared.ids.EpochId.{EpochId}
use Rattle.locus_ids.specs.declared.ids.FileId.{FileId}
use Rattle.locus_ids.specs.declared.ids.Mode.{Mode}
use Rattle.locus_ids.specs.declared.ids.Serial.{Serial}
use Rattle.locus_ids.specs.declared.ids.Stamp.{Stamp}
use Rattle.row_laws.specs.Orderly.Calm.{AreTogether}
use Rattle.store_laws.proofs.OneTree.Inside.{table_here}
use Rattle.store_laws.proofs.OneTree.Parts.{tables_rise}
use Rattle.store_laws.proofs.OneTree.Rising.{Rising}
use Rattle.store_laws.proofs.Numbers.{serial_key_eq}
use Rattle.tree_laws.proofs.Syncs.Answering.{one_answer}
use Rattle.store_laws.specs.OneTree.Places.{InsideFact}
use Rattle.store_laws.specs.OneTree.Rest.{Past}
use Rattle.role_steps.proofs.of_plain_facts.Options.{some_same}
use Rattle.role_steps.specs.Adoption.{table_group}
use Rattle.role_steps.specs.Opens.{open_key, open_row}
use Rattle.role_steps.specs.Reports.{closes_at, on_closed, on_closed_of}
use Rattle.role_steps.specs.Tables.{first_that, row}
use Rattle.role_steps.specs.Views.{Frame, Shown, SiteView, Told, boot_in, packet, serial_key, sync_site}
use Rattle.role_steps.specs.declared.instances.Instance.{Instance}
use Rattle.role_steps.specs.declared.instances.Stage.TheVariants as running
use Rattle.role_steps.specs.declared.rounds.InEpoch.{InEpoch}
use Rattle.role_steps.specs.declared.synchronizing.OpenRow.{OpenRow}
use Rattle.role_steps.specs.declared.synchronizing.OpenStage.{OpenStage}
use Rattle.role_steps.specs.declared.synchronizing.OpenStage.TheVariants as stage
use Rattle.role_steps.specs.declared.synchronizing.SyncTable.{SyncTable}
use Rattle.schedule_lines.specs.declared.line.ScheduleLine.{ScheduleLine}
use Rattle.the_run.specs.Kept.{Among}
use Rattle.the_run.specs.Steps.{at_table_of, is_opened_in, takes_inside}
use Rattle.the_run.specs.Worlds.{Line, Running, World, place_at}
use Rattle.trace_book.specs.declared.record.Record.TheVariants as says
use Rattle.tree_laws.proofs.CarriedOpens.{was_then}
use Rattle.tree_laws.specs.Past.{GrantRecord, NamesHere, Printed, WasGranted, WasNamedIn, WasRefused, WasShut}
use Rattle.tree_laws.specs.Stores as stores
use Rattle.tree_laws.specs.Stores.{InstanceFact}
use Rattle.tree_laws.specs.Tables.{RowFact, StageFact}
use Rattle.wire_messages.specs.declared.body.Body.TheVariants as body
use Rattle.wire_messages.specs.declared.body.CloseAnswer.{CloseAnswer}
use Rattle.wire_messages.specs.declared.body.MadeVersion.{MadeVersion}
use Rattle.wire_messages.specs.declared.body.OpenedAs.TheVariants as opened

-- what was granted was named in the group of its file
granted_here : (trace : List Line) (e : EpochId) (d : CallId) (request : ℕ) (i : Serial) (m : Mode) (f : FileId) (s : Option Stamp) (ss : ℕ) → WasGranted trace e d request i m f s ss → WasNamedIn trace e f.group i
granted_here trace e d request i m f s ss w = was_then (Printed (GrantRecord e d request i m f s ss)) (Printed (NamesHere e f.group i)) names trace w
  where
    names : (older : List Line) (z : Told) → Printed (GrantRecord e d request i m f s ss) older z → Printed (NamesHere e f.group i) older z
    names older (Shown (says.Grant at call number inst mode file on place)) p = (record { epoch_is = p.epoch_is; serial_is = p.serial_is }, ap (λ (x : FileId). x.group) p.file_is)
    names older _ p = absurd p

-- the open of the instance as a synchronization site has it: it is over
pub record IsOver (v : SiteView) (i : Serial) : Type 0 where
  pub table : SyncTable
  pub found : first_that (is_opened_in i) v.tables ≡ Some table
  pub opened : OpenRow
  pub is_row : open_row table i ≡ Some opened
  pub name : opened.inst ≡ i
  pub over : opened.stage ≡ stage.Ended

module _ (c : Config) (lines : List ScheduleLine) (n : ℕ) (e : InEpoch) (w : World) (round : IsInRound c lines n w) (together : AreTogether w e) (file : FileId) (css : ℕ) (synced : sync_site c e.members file.group ≡ Some css) (nobody : NobodyHasOpen c e (place_at w) file) where
  abbrev trace : List Line
  trace = w.trace

  facts : RoundFacts c w
  facts = round_facts c lines n w round

  past : Past c w.trace
  past = past_of_round c w facts

  is_css : IsMember e css
  is_css = (sync_is c e file.group css synced).1

  module _ (v : SiteView) (here : place_at w css ≡ Some (Running v)) (s : ℕ) (member : IsMember e s) (u : SiteView) (there : place_at w s ≡ Some (Running u)) (i : Instance) (among : Among i u.store.instances) (is_file : i.file ≡ file) (made : Option MadeVersion) (a : CloseAnswer) (closes : i.stage ≡ running.Closing made a) where
    mine : InsideFact c (frame_of c e css) w.trace v
    mine = inside_fact c e w css v facts.fact together is_css here

    fact : InstanceFact c w.trace (frame_of c e s) i
    fact = every_among (InstanceFact c w.trace (frame_of c e s)) i u.store.instances among (inside_fact c e w s u facts.fact together member there).store.instances.instances

    shut : WasShut w.trace s e.id i.inst
    shut = (subst (stores.StageFact c w.trace (frame_of c e s) i) closes fact.stage).2

    on : IsOnOneFile w.trace e.id i.inst
    on = shut_on c w.trace past.followed s e.id i.inst shut

    on_file : on.file ≡ file
    on_file = sym (shut_file c w.trace past.followed s s e.id i.inst on.call on.request on.how on.file i.file on.stamp on.place shut on.granted fact.begun) ∙ is_file

    table : (t : SyncTable) × (row table_group file.group v.tables ≡ Some t)
    table = table_there c w.trace e file.group css (boot_in e.members.boot css) v round.groups mine synced

    at_table : Among table.0 v.tables × (table.0.group ≡ file.group)
    at_table = row_key table_group file.group v.tables table.0 table.1

    row_fact : (t : SyncTable) (q : OpenRow) → Among t v.tables → Among q t.opens → RowFact c w.trace e.id t.group q
    row_fact t q m k = every_among (RowFact c w.trace e.id t.group) q t.opens k (table_here c w.trace (frame_of c e css) v mine t m).fact.opens

    found : (r : OpenRow) × (open_row table.0 i.inst ≡ Some r)
    found = there_is (open_row table.0 i.inst) ((table_here c w.trace (frame_of c e css) v mine table.0 at_table.0).fact.has i.inst
        (subst (λ (g : ℕ). WasNamedIn w.trace e.id g i.inst) (ap (λ (f : FileId). f.group) on_file ∙ sym at_table.1) (granted_here w.trace e.id on.call on.request i.inst on.how on.file on.stamp on.place on.granted)))
      where
        false_true : false ≡ true → ⊥
        false_true q = cc

        there_is : (o : Option OpenRow) → is_some o ≡ true → (r : OpenRow) × (o ≡ Some r)
        there_is None q = absurd (false_true q)
        there_is (Some r) q = (r, refl)

    r : OpenRow
    r = found.0

    at_row : Among found.0 table.0.opens × (open_key found.0 ≡ serial_key i.inst)
    at_row = row_key open_key (serial_key i.inst) table.0.opens found.0 found.1

    of_row : RowFact c w.trace e.id table.0.group found.0
    of_row = row_fact table.0 found.0 at_table.0 at_row.0

    name : found.0.inst ≡ i.inst
    name = serial_key_eq found.0.inst i.inst (subst (λ (z : ℕ). z ≤ sites_max) of_row.is_call.site_is ((store_rests c w.trace past).sites e.id of_row.call of_row.is_call.inside)) fact.user at_row.1

    of_file : (q : OpenRow) (d : CallId) (z : OpenStage) → q.inst ≡ i.inst → StageFact c w.trace e.id q d z → q.file ≡ on.file
    of_file q d z same k = row_file c w.trace past.followed e.id i.inst on.call on.request on.how on.file on.stamp on.place on.granted q d z same k

    open_still : IsOpenStill found.0.stage → ⊥
    open_still k = nobody css v table.0 found.0 synced here table.1 at_row.0 (subst (λ (f : FileId). same_file f file ≡ true) (sym (of_file found.0 of_row.call found.0.stage name of_row.stage ∙ on_file)) (own file)) k
      where
        own : (f : FileId) → same_file f f ≡ true
        own f = grind (arith, nat_tests)

    by_stage : (z : OpenStage) → found.0.stage ≡ z → StageFact c w.trace e.id found.0 of_row.call z → found.0.stage ≡ stage.Ended
    by_stage stage.Ended is k = is
    by_stage stage.Asked is k = absurd (open_still (subst IsOpenStill (sym is) tt))
    by_stage stage.Granted is k = absurd (open_still (subst IsOpenStill (sym is) tt))
    by_stage (stage.Refused why) is k = absurd (one_answer c e.id i.inst of_row.call on.call found.0.request on.request found.0.mode why on.how on.file on.stamp on.place w.trace past.followed (subst (λ (j : Serial). WasRefused w.trace e.id of_row.call found.0.request j found.0.mode why) name k) on.granted)

    first : Found (is_opened_in i.inst) v.tables
    first = first_found (is_opened_in i.inst) v.tables table.0 at_table.0 (any_there i.inst table.0.opens found.0 at_row.0 name)

    other : (q : OpenRow) × Among q first.it.opens × (q.inst ≡ i.inst)
    other = any_row i.inst first.it.opens first.passes

    of_other : RowFact c w.trace e.id first.it.group other.0
    of_other = row_fact first.it other.0 first.there other.1

    same_group : first.it.group ≡ table.0.group
    same_group = sym of_other.group_is ∙ (ap (λ (f : FileId). f.group) (of_file other.0 of_other.call other.0.stage other.2 of_other.stage ∙ sym (of_file found.0 of_row.call found.0.stage name of_row.stage)) ∙ of_row.group_is)

    rise : Rising (map table_group v.tables)
    rise = tables_rise (frame_of c e css) v.tables mine.groups

    one : first.it ≡ table.0
    one = some_same first.it table.0 (sym (rising_found v.tables first.it rise first.there) ∙ (ap (λ (g : ℕ). row table_group g v.tables) same_group ∙ rising_found v.tables table.0 rise at_table.0))

    pub is_over : IsOver v i.inst
    is_over = record {
      table = table.0;
      found = subst (λ (t : SyncTable). first_that (is_opened_in i.inst) v.tables ≡ Some t) one first.found;
      opened = found.0;
      is_row = found.1;
      name = name;
      over = by_stage found.0.stage refl of_row.stage;
    }

-- it is answered to whoever tells that
pub over_answers : (f : Frame) (from : ℕ) (i : Serial) (made : Option MadeVersion) (v : SiteView) → IsOver v i → Among (packet f from (body.ClosedOk i)) (takes_inside f from (body.Closed i made) v).sent
over_answers f from i made v h = subst (λ (o : Option SyncTable). Among (packet f from (body.ClosedOk i)) (at_table_of (on_closed f from i made) o v).sent) (sym h.found)
    (subst (λ (o : Option OpenRow). Among (packet f from (body.ClosedOk i)) (on_closed_of f from made o h.table).sent) (sym h.is_row)
    (subst (λ (j : Serial). Among (packet f from (body.ClosedOk j)) (closes_at f from h.opened made h.opened.stage h.table).sent) h.name (told f from h.opened made h.opened.stage h.table (subst IsGrantedStage (sym h.over) tt))))
