-- In every run no plain grant of a begun instance is refused.
use Rattle.std.proofs.Common.{◌≡◌, ℕ, ◌≤◌, ◌⊎◌, List, sym, ◌∙◌, ap, subst, inl, inr, arith}
use Rattle.locus_ids.specs.declared.ids.EpochId.{EpochId}
use Rattle.locus_ids.specs.declared.ids.Serial.{Serial}
use Rattle.locus_ids.specs.declared.ids.Mode.{Mode}
use Rattle.locus_ids.specs.declared.ids.Mode.TheVariants as mode
use Rattle.locus_ids.specs.declared.sites.Members.{Members}
use Rattle.locus_ids.specs.declared.config.Config.{Config}
use Rattle.schedule_lines.specs.declared.line.ScheduleLine.{ScheduleLine}
use Rattle.trace_book.specs.declared.record.Record.{Record}
use Rattle.trace_book.specs.declared.record.Record.TheVariants as says
use Rattle.role_steps.specs.Opens.{mode_of}
use Rattle.role_steps.specs.Views.{Told, Shown, serial_key}
use Rattle.the_run.specs.Worlds.{World}
use Rattle.the_run.specs.Runs.{run_in}
use Rattle.site_laws.specs.Vectors.Written.{past_of}
use Rattle.site_laws.specs.Packs.InstanceBook.{Book, AskedBy}
use Rattle.site_laws.specs.Packs.InstanceFacts.{WasDenied, RefuseFact, GrantFact, RecordFact, ToldFact, WorldFact, Booked}
use Rattle.site_laws.proofs.Packs.InstanceBooks.{asked_once}
use Rattle.site_laws.proofs.Packs.InstanceInstancesRun.{run_booked}
use Rattle.site_laws.specs.Locks.Locks.{IsOfAFile}
use Rattle.site_laws.specs.Locks.Grants.{RefusedRecord, Refused}
use Rattle.site_laws.proofs.Packs.WriterGranting.{told_found, GrantNoted, grant_noted}
use Rattle.site_laws.specs.Makes.RunningRunning.{PlainGrantsStand}
use Rattle.site_laws.proofs.Makes.RunningOneSite.{KeyPlaced, begun_placed, placed_once}
use Rattle.site_laws.proofs.Makes.RunningRunTold.{run_sited}

-- what the book has of a refusal
record RefuseNoted (book : Book) (e : EpochId) (key : ℕ) : Type 0 where
  inst : Serial
  mode : Mode
  key_is : serial_key inst ≡ key
  fact : RefuseFact book e inst mode

record_noted : (book : Book) (e : EpochId) (key : ℕ) (r : Record) → RecordFact book r → RefusedRecord e key r → RefuseNoted book e key
record_noted book e key (says.Refuse at call request inst m file why) h k = record { inst = inst; mode = m; key_is = k.1; fact = subst (λ (i : EpochId). RefuseFact book i inst m) k.0 h }
record_noted book e key _ h k = absurd k

told_noted : (book : Book) (e : EpochId) (key : ℕ) (x : Told) → ToldFact book x → Refused e key x → RefuseNoted book e key
told_noted book e key (Shown r) h k = record_noted book e key r h k
told_noted book e key _ h k = absurd k

not_zero : (s : ℕ) → 1 ≤ s → 0 ≡ s → ⊥
not_zero s h e = omega (arith, h, e)

pub run_plain_grants : (c : Config) (lines : List ScheduleLine) → PlainGrantsStand (past_of (run_in c lines).trace)
run_plain_grants c lines e key s file begun m plain granted was_begun refused = by_denied fact.denied
  where
    w : World
    w = run_in c lines

    g : Booked c w
    g = run_booked c lines

    world : WorldFact c g.0 w
    world = g.1

    told : (x : Told) × ToldFact g.0 x × Refused e key x
    told = told_found (ToldFact g.0) (Refused e key) (past_of w.trace) world.told refused

    noted : RefuseNoted g.0 e key
    noted = told_noted g.0 e key told.0 told.1 told.2

    fact : RefuseFact g.0 e noted.inst noted.mode
    fact = noted.fact

    grant : GrantNoted g.0 e key file m
    grant = grant_noted c w g e key file m granted

    given : GrantFact g.0 e grant.inst m file
    given = grant.fact

    -- the refusal is of the open that was granted
    one : given.members ≡ fact.members
    one = world.sound.once.listed e given.members fact.members given.listed fact.listed

    alike : (given.file_asked ≡ fact.file_asked) × (given.how ≡ fact.how)
    alike = asked_once c g.0 fact.members grant.inst noted.inst given.file_asked fact.file_asked given.how fact.how world.sound (grant.key_is ∙ sym noted.key_is) (subst (λ (u : Members). AskedBy g.0 u grant.inst given.file_asked given.how) one given.asked) fact.asked

    modes : m ≡ noted.mode
    modes = sym given.mode_is ∙ (ap mode_of alike.1 ∙ fact.mode_is)

    by_denied : (noted.mode ≡ mode.Make) ⊎ WasDenied g.0 e noted.inst → ⊥
    by_denied (inl make) = subst IsOfAFile (modes ∙ make) plain
    by_denied (inr d) =
        let none : KeyPlaced g.0 e key 0 = record { inst = noted.inst; key_is = noted.key_is; group = d.group; css = d.css; boot = d.boot; placed = d.placed } in
        not_zero s (run_sited c lines s e key begun was_begun) (placed_once c w g e key 0 s none (begun_placed c w g e key s begun was_begun))
