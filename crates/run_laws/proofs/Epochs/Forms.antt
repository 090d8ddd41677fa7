-- What a site does in its epoch forms none: a law by kinds.
use Rattle.std.proofs.Common.{ℕ, Option, Some, None, refl}
use Rattle.locus_ids.specs.declared.ids.EpochId.{EpochId}
use Rattle.locus_ids.specs.declared.config.Config.{Config}
use Rattle.trace_book.specs.declared.call.Call.{Call}
use Rattle.wire_messages.specs.declared.packet.Packet.{Packet}
use Rattle.wire_messages.specs.declared.body.Body.{Body}
use Rattle.wire_messages.specs.declared.body.Body.TheVariants as body
use Rattle.the_run.specs.of_role_steps.Own.{Every}
use Rattle.the_run.specs.of_role_steps.Views.{Frame, SiteView, Users, Outcome, quiet, to_some, to_sync, sync_site}
use Rattle.the_run.specs.of_role_steps.Using.{on_call}
use Rattle.the_run.specs.of_role_steps.Epochs.{frame_in}
use Rattle.the_run.specs.of_role_steps.declared.rounds.InEpoch.{InEpoch}
use Rattle.the_run.specs.Steps.{takes_framed, adopts_of, tries_at, starts_mends_of, repeats_inside}
use Rattle.the_run.specs.Joins.{NoJoin, NoWrite}
use Rattle.run_laws.specs.Walks.Kinds.{IsInside}
use Rattle.run_laws.specs.Walks.Laws.{Law, body_law, SiteKeeps, Stays}
use Rattle.run_laws.proofs.Walks.Premises.{plain_no_join, version_no_join, body_keeps, body_answers}
use Rattle.run_laws.proofs.Walks.RoleWalks.{on_call_walk}
use Rattle.run_laws.proofs.Walks.SiteWalks.{adopts_of_walk, tries_walk, mends_of_walk, framed_walk, repeats_inside_walk}
use Rattle.run_laws.specs.Epochs.Forming.{FormsNone, Formless, FormlessPart, TableFormless, FormlessSite}

-- ---- the law, kind by kind ----

forms_none : (b : Body) → IsInside b → FormsNone b
forms_none body.Poll h = h
forms_none (body.Promise reach) h = h
forms_none (body.Refuse theirs) h = h
forms_none (body.Install members) h = h
forms_none body.Joined h = h
forms_none _ h = tt

abbrev forming : Law
forming = body_law FormsNone NoJoin NoWrite

keeps : (f : Frame) → SiteKeeps forming f
keeps f = body_keeps FormsNone NoJoin NoWrite f forms_none plain_no_join version_no_join tt (λ d h. version_no_join d.says h)

-- ---- what is sent again, and what a call sends ----

pub sync_formless : (f : Frame) (group : ℕ) (b : Body) → FormsNone b → Every Formless (to_sync f group b)
sync_formless f group b h = some (sync_site f.config f.members group)
  where
    some : (o : Option ℕ) → Every Formless (to_some f b o)
    some None = tt
    some (Some to) = (h, tt)

pub inside_formless : (f : Frame) (e : InEpoch) (v : SiteView) → Every Formless (repeats_inside f e v)
inside_formless f e v = repeats_inside_walk forming f (keeps f) e v

pub on_call_forms : (f : Frame) (now : Option EpochId) (process : ℕ) (words : Call) (u : Users) → FormlessPart (on_call f now process words u)
on_call_forms f now process words u = on_call_walk forming f (keeps f).users now process words u (λ n. tt)

-- ---- the site ----

formless : (v : SiteView) (o : Outcome SiteView) → Stays forming v o → FormlessSite v o
formless v o h = record { boot = h.leaves.boot; round = h.leaves.round; promised = h.leaves.promised; epoch = h.leaves.epoch; tables = h.tables; still = h.part }

pub formless_quiet : (v : SiteView) → Every TableFormless v.tables → FormlessSite v (quiet v)
formless_quiet v h = record { boot = refl; round = refl; promised = refl; epoch = refl; tables = h; still = (tt, tt, tt) }

pub adopts_of_formless : (c : Config) (me : ℕ) (e : Option InEpoch) (v : SiteView) → Every TableFormless v.tables → FormlessSite v (adopts_of c me e v)
adopts_of_formless c me e v ok = formless v (adopts_of c me e v) (adopts_of_walk forming c me e v tt (λ x is. keeps (frame_in c me v.boot x)) ok)

pub tries_formless : (c : Config) (me : ℕ) (x : Body) (v : SiteView) → Every TableFormless v.tables → FormlessSite v (tries_at c me x v)
tries_formless c me x v ok = formless v (tries_at c me x v) (tries_walk forming c me x v tt (λ e is. keeps (frame_in c me v.boot e)) ok)

pub mends_of_formless : (c : Config) (me : ℕ) (e : Option InEpoch) (v : SiteView) → Every TableFormless v.tables → FormlessSite v (starts_mends_of c me e v)
mends_of_formless c me e v ok = formless v (starts_mends_of c me e v) (mends_of_walk forming c me e v tt (λ x is. keeps (frame_in c me v.boot x)) ok)

pub framed_formless : (c : Config) (me : ℕ) (p : Packet) (e : Option InEpoch) (v : SiteView) → Every TableFormless v.tables → FormlessSite v (takes_framed c me p e v)
framed_formless c me p e v ok =
    formless v (takes_framed c me p e v)
    (framed_walk forming c me p e v tt (λ x is. keeps (frame_in c me v.boot x)) (λ x is. (let f : Frame = frame_in c me v.boot x in body_answers forming f (λ to b h. forms_none b h) p.from)) ok)
