-- The tables of a site are of groups that a cluster may have: a law of tables.
use Rattle.std.proofs.Common.{ℕ, inl, inr, refl, sym, subst}
use Rattle.locus_ids.specs.declared.sites.Links.{Links}
use Rattle.locus_ids.specs.declared.config.Config.{Config}
use Rattle.role_steps.specs.Own.{Every}
use Rattle.role_steps.specs.Views.{SiteView, Event, all_groups}
use Rattle.role_steps.specs.declared.synchronizing.LastLook.{LastLook}
use Rattle.role_steps.specs.declared.synchronizing.SyncTable.{SyncTable}
use Rattle.the_run.specs.Steps.{step}
use Rattle.run_laws.specs.Walks.Laws.{EventsKeep, table_law}
use Rattle.run_laws.proofs.Walks.Premises.{every_unit, table_events}
use Rattle.run_laws.proofs.Walks.TableWalks.{step_tables}
use Rattle.site_laws.specs.Makes.Made.{IsListed}
use Rattle.site_laws.proofs.Makes.SitesTell.{TablesAt}

abbrev AnyLook : LastLook → Type 0
AnyLook l = Unit {0}

abbrev ListedTable : SyncTable → Type 0
ListedTable t = IsListed t.group

all_listed : Every IsListed all_groups
all_listed = (inl refl, (inr (inl refl), (inr (inr (inl refl)), (inr (inr (inr (inl refl))), tt))))

keeps : (c : Config) (me : ℕ) → EventsKeep (table_law AnyLook ListedTable) c me
keeps c me = table_events AnyLook ListedTable c me (λ l h. tt) (λ t h. every_unit t.looks) (λ t u h e k. subst IsListed (sym e) h) all_listed

-- an event leaves the tables of a site of listed groups
pub step_keeps : (c : Config) (me : ℕ) (links : Links) (v : SiteView) (e : Event) → TablesAt IsListed v.tables → TablesAt IsListed (step c me links v e).view.tables
step_keeps c me links v e ts = step_tables (table_law AnyLook ListedTable) c me (keeps c me) links v e ts
