-- At which lines a step of a site writes: a version is written where packets are delivered, and an adopted one where a site ticks, too.
use Rattle.std.proofs.Common.{◌≡◌, ℕ, ◌+◌, Bool, true, false, List, [], ◌∷◌, Option, Some, None, refl, sym, subst}
use Rattle.locus_ids.specs.declared.config.Config.{Config}
use Rattle.locus_ids.specs.declared.sites.Links.{Links}
use Rattle.schedule_lines.specs.declared.line.Line.{Line as LineWords}
use Rattle.schedule_lines.specs.declared.line.Line.TheVariants as line
use Rattle.schedule_lines.specs.declared.line.ScheduleLine.TheVariants.{Event as EventLine}
use Rattle.trace_book.specs.declared.record.Record.{Record}
use Rattle.trace_book.specs.declared.record.Record.TheVariants as says
use Rattle.role_steps.specs.Adoption.{adopts_first, adopts_pull, is_ready, without_pull, fits_own}
use Rattle.role_steps.specs.Epochs.{frame_in, leaves, starts_merge, boots_where, merge_boot, starts_part}
use Rattle.role_steps.specs.Storage.{copy_of}
use Rattle.role_steps.specs.Views.{Frame, SiteView, DiskWrite, Outcome, Event, Calls, Receives, Ticks, Parts, Merges, GivesUp, quiet, first_written}
use Rattle.role_steps.specs.declared.pulls.Pull.{Pull}
use Rattle.role_steps.specs.declared.rounds.InEpoch.{InEpoch}
use Rattle.the_run.specs.Steps.{adopts_of, adopts_in, ends_event, whole, call_frame, epoch_id, takes_call, step}
use Rattle.the_run.specs.Worlds.{World}
use Rattle.run_laws.proofs.Telling.{on_call_talks}
use Rattle.site_laws.proofs.Vectors.SiteDisks.{ends_keeps}
use Rattle.lawful_trace.specs.Prompt.{stands_at}
use Rattle.row_laws.specs.ByLine.{Delivers, Gives}
use Rattle.row_laws.proofs.Versions.{VersionOf}
use Rattle.tree_laws.specs.Doing.{WrittenFact}
use Rattle.calm_laws.proofs.of_store_laws.OneTree.Cuts.{leaves_none, begins_none, part_none}

-- ---- what is written, part by part ----

pub none_fact : (W : DiskWrite → Type 0) (w : Option DiskWrite) → w ≡ None → WrittenFact W w
none_fact W w e = subst (WrittenFact W) (sym e) tt

pub first_fact : (W : DiskWrite → Type 0) (a b : Option DiskWrite) → WrittenFact W a → WrittenFact W b → WrittenFact W (first_written a b)
first_fact W None b h k = k
first_fact W (Some x) b h k = h

pub whole_fact : (W : DiskWrite → Type 0) (c : Config) (me : ℕ) (links : Links) (o : Outcome SiteView) (tries : SiteView → Outcome SiteView) → WrittenFact W o.written → WrittenFact W (tries o.view).written → WrittenFact W (whole c me links o tries).written
whole_fact W c me links o tries h k = first_fact W (tries o.view).written (first_written o.written (ends_event c me links (tries o.view).view).written) k (first_fact W o.written (ends_event c me links (tries o.view).view).written h (none_fact W (ends_event c me links (tries o.view).view).written (ends_keeps c me links (tries o.view).view).none))

pub still_fact : (W : DiskWrite → Type 0) (c : Config) (me : ℕ) (links : Links) (o : Outcome SiteView) → o.written ≡ None → WrittenFact W (whole c me links o quiet).written
still_fact W c me links o e = whole_fact W c me links o quiet (none_fact W o.written e) tt

-- ---- by the event ----

-- a site that ticks writes what it adopts, and one that receives a packet what it may; else nothing is written
abbrev pub WritesAt : Event → Record → Type 0
WritesAt (Receives p) r = Unit {0}
WritesAt Ticks (says.Adopt f site stamp) = Unit {0}
WritesAt _ r = ⊥

abbrev Placed : Event → Option DiskWrite → Type 0
Placed e w = WrittenFact (λ (d : DiskWrite). WritesAt e d.says) w

first_placed : (f : Frame) (ps : List Pull) (v : SiteView) → Placed Ticks (adopts_first f ps v).written
first_placed f [] v = tt
first_placed f (p ∷ ps) v = over (first_placed f ps (without_pull p v)) (first_placed f ps v) (is_ready v p) (fits_own p (copy_of v.store p.file))
  where
    over : Placed Ticks (adopts_first f ps (without_pull p v)).written → Placed Ticks (adopts_first f ps v).written → (b a : Bool) →
        Placed Ticks (elim b as (λ (x : Bool). Outcome SiteView) [ true ↦ elim a as (λ (x : Bool). Outcome SiteView) [ true ↦ adopts_pull f p v | false ↦ adopts_first f ps (without_pull p v) ] | false ↦ adopts_first f ps v ]).written
    over without later true true = tt
    over without later true false = without
    over without later false a = later

tries_placed : (c : Config) (me : ℕ) (v : SiteView) (e : Option InEpoch) → Placed Ticks (adopts_of c me e v).written
tries_placed c me v None = tt
tries_placed c me v (Some e) = first_placed (frame_in c me v.boot e) v.pulls v

any_placed : (e : Event) (w : Option DiskWrite) → ((r : Record) → WritesAt e r) → Placed e w
any_placed e None h = tt
any_placed e (Some d) h = h d.says

pub step_placed : (c : Config) (me : ℕ) (links : Links) (v : SiteView) (e : Event) → Placed e (step c me links v e).written
step_placed c me links v (Calls process words) = still_fact (λ (d : DiskWrite). WritesAt (Calls process words) d.says) c me links (takes_call c me process words v) (on_call_talks (call_frame c me v.boot v.epoch) (epoch_id v.epoch) process words v.users).1
step_placed c me links v (Receives p) = any_placed (Receives p) (step c me links v (Receives p)).written (λ r. tt)
step_placed c me links v Ticks = first_fact (λ (d : DiskWrite). WritesAt Ticks d.says) (adopts_in c me v).written (ends_event c me links (adopts_in c me v).view).written (tries_placed c me v v.epoch)
    (none_fact (λ (d : DiskWrite). WritesAt Ticks d.says) (ends_event c me links (adopts_in c me v).view).written (ends_keeps c me links (adopts_in c me v).view).none)
step_placed c me links v Parts = still_fact (λ (d : DiskWrite). WritesAt Parts d.says) c me links (starts_part me links v) (part_none me links v.epoch v)
step_placed c me links v Merges = still_fact (λ (d : DiskWrite). WritesAt Merges d.says) c me links (starts_merge me links v) (begins_none me links (v.promised.number + 1) (boots_where (merge_boot me links)) v)
step_placed c me links v GivesUp = still_fact (λ (d : DiskWrite). WritesAt GivesUp d.says) c me links (leaves me v) (leaves_none me v.epoch v)

-- ---- by the line ----

-- each version may stand where packets are delivered
pub stands_delivered : (l : LineWords) (s : ℕ) (r : Record) → Delivers l → VersionOf s r → stands_at (EventLine l) r ≡ true
stands_delivered (line.Deliver packet) s (says.Commit f t stamp parents content) h v = refl
stands_delivered (line.Deliver packet) s (says.Adopt f t stamp) h v = refl
stands_delivered (line.Deliver packet) s _ h v = absurd v
stands_delivered (line.Settle most) s (says.Commit f t stamp parents content) h v = refl
stands_delivered (line.Settle most) s (says.Adopt f t stamp) h v = refl
stands_delivered (line.Settle most) s _ h v = absurd v
stands_delivered _ s r h v = absurd h

ticks_stand : (w : World) (l : LineWords) (s : ℕ) (r : Record) → Gives w l s Ticks → WritesAt Ticks r → stands_at (EventLine l) r ≡ true
ticks_stand w (line.Tick site) s (says.Adopt f t stamp) g h = refl
ticks_stand w (line.Tick site) s _ g h = absurd h
ticks_stand w _ s r g h = absurd g

-- what a line has a site write may stand there
pub stands_given : (w : World) (l : LineWords) (s : ℕ) (e : Event) (r : Record) → Gives w l s e → WritesAt e r → stands_at (EventLine l) r ≡ true
stands_given w l s Ticks r g h = ticks_stand w l s r g h
stands_given w l s (Receives p) r g h = absurd (never l g)
  where
    never : (l : LineWords) → Gives w l s (Receives p) → ⊥
    never (line.Tick site) g = g
    never _ g = absurd g
stands_given w l s _ r g h = absurd h
