-- What synchronization sites keep to answer repeated looks with opens no mend, after each event: a law of tables.
use Rattle.std.proofs.Common.{ℕ, ◌≡◌, false, refl}
use Rattle.locus_ids.specs.declared.sites.Links.{Links}
use Rattle.locus_ids.specs.declared.config.Config.{Config}
use Rattle.wire_messages.specs.declared.body.Body.{Body}
use Rattle.wire_messages.specs.declared.body.Body.TheVariants as body
use Rattle.role_steps.specs.Own.{Every}
use Rattle.role_steps.specs.Views.{SiteView, Event}
use Rattle.the_run.specs.Steps.{step}
use Rattle.run_laws.specs.Walks.Kinds.{IsOfTable}
use Rattle.run_laws.specs.Walks.Laws.{EventsKeep, table_law}
use Rattle.run_laws.proofs.Walks.Premises.{table_events}
use Rattle.run_laws.proofs.Walks.TableWalks.{step_tables}
use Rattle.row_laws.specs.Bounds.Deliveries.{opens_mend, OpensNone, LooksOpenNone}

opens_none : (b : Body) → IsOfTable b → opens_mend b ≡ false
opens_none (body.OpenSs inst file mode set kind base vector parents) h = refl
opens_none (body.OpenDone serial answer) h = refl
opens_none (body.LookSs us call process request take file what serve) h = refl
opens_none (body.LookDone call request take answer) h = refl
opens_none (body.Notify file kind set size stamp vector holder) h = refl
opens_none _ h = absurd h

keeps : (c : Config) (me : ℕ) → EventsKeep (table_law OpensNone LooksOpenNone) c me
keeps c me = table_events OpensNone LooksOpenNone c me (λ l h. opens_none l.body h) (λ t h. h) (λ t u h e k. k) (tt, (tt, (tt, (tt, tt))))

abbrev pub TablesFine : SiteView → Type 0
TablesFine v = Every LooksOpenNone v.tables

pub step_keeps : (c : Config) (me : ℕ) (links : Links) (v : SiteView) (e : Event) → TablesFine v → TablesFine (step c me links v e).view
step_keeps c me links v e h = step_tables (table_law OpensNone LooksOpenNone) c me (keeps c me) links v e h
