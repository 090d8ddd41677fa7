-- In every run the storage site that a grant names is the one that begins the instance, of makes too.
use Rattle.std.proofs.Common.{◌≡◌, ℕ, List, subst}
use Rattle.locus_ids.specs.declared.ids.EpochId.{EpochId}
use Rattle.locus_ids.specs.declared.config.Config.{Config}
use Rattle.schedule_lines.specs.declared.line.ScheduleLine.{ScheduleLine}
use Rattle.trace_book.specs.declared.record.Record.{Record}
use Rattle.trace_book.specs.declared.record.Record.TheVariants as says
use Rattle.role_steps.specs.Views.{Told, Shown}
use Rattle.the_run.specs.Kept.{Among}
use Rattle.the_run.specs.Worlds.{World}
use Rattle.the_run.specs.Runs.{run_in}
use Rattle.site_laws.specs.Vectors.Written.{past_of}
use Rattle.site_laws.specs.Packs.InstanceBook.{Book, Placed}
use Rattle.site_laws.specs.Packs.InstanceFacts.{WasPlaced, RecordFact, ToldFact, WorldFact, Booked}
use Rattle.site_laws.proofs.Packs.InstanceInstancesRun.{run_booked}
use Rattle.site_laws.proofs.Packs.WriterGranting.{told_found}
use Rattle.site_laws.proofs.Makes.RunningOneSite.{KeyPlaced, begun_placed, placed_once}
use Rattle.site_laws.specs.Makes.Naming.{GrantedAtRecord, GrantedAt, GrantsNameWhoBegins}

record_placed : (book : Book) (e : EpochId) (key ss : ℕ) (r : Record) → RecordFact book r → GrantedAtRecord e key ss r → KeyPlaced book e key ss
record_placed book e key ss (says.Grant at call request inst m file stamp there) h k =
    let p : WasPlaced book at inst there = h.1 in
    record { inst = inst; key_is = k.1; group = p.group; css = p.css; boot = p.boot; placed = subst (λ (n : ℕ). Among (Placed e inst p.group p.css p.boot n) book) k.2 (subst (λ (i : EpochId). Among (Placed i inst p.group p.css p.boot there) book) k.0 p.placed) }
record_placed book e key ss _ h k = absurd k

told_placed : (book : Book) (e : EpochId) (key ss : ℕ) (x : Told) → ToldFact book x → GrantedAt e key ss x → KeyPlaced book e key ss
told_placed book e key ss (Shown r) h k = record_placed book e key ss r h k
told_placed book e key ss _ h k = absurd k

pub run_names : (c : Config) (lines : List ScheduleLine) → GrantsNameWhoBegins (past_of (run_in c lines).trace)
run_names c lines e key s ss file begun granted =
    let w : World = run_in c lines in
    let g : Booked c w = run_booked c lines in
    let world : WorldFact c g.0 w = g.1 in
    let p : (x : Told) × ToldFact g.0 x × GrantedAt e key ss x = told_found (ToldFact g.0) (GrantedAt e key ss) (past_of w.trace) world.told granted in
    placed_once c w g e key s ss (begun_placed c w g e key s file begun) (told_placed g.0 e key ss p.0 p.1 p.2)
