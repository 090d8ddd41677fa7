-- In every run one storage site begins the instances of a key in an epoch.
use Rattle.std.proofs.Common.{◌≡◌, ℕ, List, sym, ◌∙◌, subst}
use Rattle.locus_ids.specs.declared.ids.EpochId.{EpochId}
use Rattle.locus_ids.specs.declared.ids.FileId.{FileId}
use Rattle.locus_ids.specs.declared.ids.Serial.{Serial}
use Rattle.locus_ids.specs.declared.config.Config.{Config}
use Rattle.schedule_lines.specs.declared.line.ScheduleLine.{ScheduleLine}
use Rattle.role_steps.specs.Views.{Told, Begins, serial_key}
use Rattle.the_run.specs.Worlds.{World}
use Rattle.the_run.specs.Runs.{run_in}
use Rattle.the_run.specs.Kept.{Among}
use Rattle.site_laws.specs.Vectors.Written.{past_of}
use Rattle.site_laws.specs.Packs.InstanceBook.{Began, Placed, Book, BeganFact}
use Rattle.site_laws.specs.Packs.InstanceFacts.{ToldFact, WorldFact, Booked}
use Rattle.site_laws.proofs.Packs.InstanceInstancesRun.{run_booked}
use Rattle.site_laws.specs.Locks.Going.{BegunAt, WasBegunAt}
use Rattle.site_laws.proofs.Packs.WriterGranting.{told_found}
use Rattle.site_laws.specs.Makes.RunningRunning.{BegunAtOneSite}

-- where an instance of a key was placed, by the book
pub record KeyPlaced (book : Book) (e : EpochId) (key ss : ℕ) : Type 0 where
  pub inst : Serial
  pub key_is : serial_key inst ≡ key
  pub group : ℕ
  pub css : ℕ
  pub boot : ℕ
  pub placed : Among (Placed e inst group css boot ss) book

begins_placed : (c : Config) (w : World) (g : Booked c w) (e : EpochId) (key s : ℕ) (file : FileId) (x : Told) → ToldFact g.0 x → BegunAt s e key file x → KeyPlaced g.0 e key s
begins_placed c w g e key s file (Begins t at inst of) h k =
    let world : WorldFact c g.0 w = g.1 in
    let b : BeganFact g.0 at inst t h.0 of = world.sound.notes (Began at inst t h.0 of) h.1 in
    record { inst = inst; key_is = k.2; group = b.file_asked.group; css = b.css; boot = b.css_boot; placed = subst (λ (n : ℕ). Among (Placed e inst b.file_asked.group b.css b.css_boot n) g.0) k.0 (subst (λ (i : EpochId). Among (Placed i inst b.file_asked.group b.css b.css_boot t) g.0) k.1 b.placed) }
begins_placed c w g e key s file _ h k = absurd k

-- what was begun was placed there
pub begun_placed : (c : Config) (w : World) (g : Booked c w) (e : EpochId) (key s : ℕ) (file : FileId) → WasBegunAt (past_of w.trace) s e key file → KeyPlaced g.0 e key s
begun_placed c w g e key s file h =
    let world : WorldFact c g.0 w = g.1 in
    let p : (x : Told) × ToldFact g.0 x × BegunAt s e key file x = told_found (ToldFact g.0) (BegunAt s e key file) (past_of w.trace) world.told h in
    begins_placed c w g e key s file p.0 p.1 p.2

pub placed_once : (c : Config) (w : World) (g : Booked c w) (e : EpochId) (key s t : ℕ) → KeyPlaced g.0 e key s → KeyPlaced g.0 e key t → s ≡ t
placed_once c w g e key s t p q =
    let world : WorldFact c g.0 w = g.1 in
    world.sound.once.placed e p.inst q.inst p.group p.css p.boot s q.group q.css q.boot t (p.key_is ∙ sym q.key_is) p.placed q.placed

pub run_one_site : (c : Config) (lines : List ScheduleLine) → BegunAtOneSite (past_of (run_in c lines).trace)
run_one_site c lines e key s t f h a b =
    let w : World = run_in c lines in
    let g : Booked c w = run_booked c lines in
    placed_once c w g e key s t (begun_placed c w g e key s f a) (begun_placed c w g e key t h b)
