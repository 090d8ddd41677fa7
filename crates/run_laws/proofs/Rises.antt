-- Of two joins of a site in one boot the later one is of a greater id; and packets name the epoch at hand.
use Rattle.std.proofs.Common.{◌≡◌, ℕ, ◌==◌, Bool, true, false, cond, List, [], ◌∷◌, ◌++◌, Option, Some, None, refl, sym, ◌∙◌, subst, ◌⊎◌, inl, inr, arith}
use Rattle.std.proofs.lemmas.Bool.Decides.{nat_tests}
use Rattle.the_run.proofs.of_plain_facts.Numbers.{equal, equal_self}
use Rattle.the_run.proofs.of_plain_facts.Tests.{true_false}
use Rattle.locus_ids.specs.declared.ids.EpochId.{EpochId}
use Rattle.locus_ids.specs.declared.config.Config.{Config}
use Rattle.schedule_lines.specs.declared.line.ScheduleLine.{ScheduleLine}
use Rattle.trace_book.specs.declared.record.Record.{Record}
use Rattle.trace_book.specs.declared.record.Record.TheVariants as says
use Rattle.the_run.specs.of_role_steps.Epochs.{is_epoch_below}
use Rattle.the_run.specs.of_role_steps.Views.{SiteView, Told, Shown, Promises, Event, Calls, Receives, Ticks, Parts, Merges, GivesUp}
use Rattle.the_run.specs.of_role_steps.declared.rounds.InEpoch.{InEpoch}
use Rattle.the_run.specs.Worlds.{World, Line}
use Rattle.the_run.specs.Runs.{run_in}
use Rattle.run_laws.specs.Standing.{Standing, nowhere, after_record, after_told, standing, MayPromise, MayJoin, GoesOn, EpochsGoOn, IsUp, StaysUp, joins_line, JoinsRise}
use Rattle.run_laws.specs.Naming.{Deeds, DeedsOf, PacketNames, PacketsNameTheirEpoch, IsEpochOf, StoodWith, MayCome, StepsNameTheirEpoch, ViewOk, Good}
use Rattle.run_laws.proofs.Steps.{EventNames, step_fine}
use Rattle.run_laws.proofs.Run.{run_good, was_sent}

-- ---- joins rise ----

-- the site has joined the id and promised no other since, or has promised a greater one
abbrev Above : EpochId → Standing → Type 0
Above id now = ((now.promised ≡ id) × (now.installed ≡ true)) ⊎ (is_epoch_below id now.promised ≡ true)

below_below : (a b c : EpochId) → is_epoch_below a b ≡ true → is_epoch_below b c ≡ true → is_epoch_below a c ≡ true
below_below a b c h g = grind (arith, nat_tests)

installs_above : (id : EpochId) (now : Standing) (epoch : Option EpochId) → Above id now → Above id (record { promised = now.promised; installed = true; epoch = epoch })
installs_above id now epoch (inl h) = inl (h.0, refl)
installs_above id now epoch (inr h) = inr h

leaves_above : (id : EpochId) (now : Standing) (epoch : Option EpochId) → Above id now → Above id (record { promised = now.promised; installed = now.installed; epoch = epoch })
leaves_above id now epoch (inl h) = inl h
leaves_above id now epoch (inr h) = inr h

case_above : (id : EpochId) (b : Bool) (x y : Standing) → Above id x → Above id y → Above id (cond b x y)
case_above id true x y h g = h
case_above id false x y h g = g

boot_above : (id : EpochId) (s t : ℕ) (now : Standing) → (t ≡ s → ⊥) → Above id now → Above id (cond (t == s) nowhere now)
boot_above id s t now up h = (elim (t == s) as (λ b. (t == s) ≡ b → Above id (cond b nowhere now)) [ true ↦ λ e. absurd (up (equal t s e)) | false ↦ λ e. h ]) refl

record_above : (id : EpochId) (s : ℕ) (r : Record) (now : Standing) → (IsUp s (Shown r) → ⊥) → Above id now → Above id (after_record s r now)
record_above id s (says.Up t boot) now up h = boot_above id s t now up h
record_above id s (says.Join t i m) now up h = case_above id (t == s) _ now (installs_above id now (Some i) h) h
record_above id s (says.Leave t i) now up h = case_above id (t == s) _ now (leaves_above id now None h) h
record_above id s _ now up h = h

promise_above : (id i : EpochId) (now : Standing) → MayPromise now i → Above id now → Above id (record { promised = i; installed = false; epoch = now.epoch })
promise_above id i now p (inl h) = inr (subst (λ (x : EpochId). is_epoch_below x i ≡ true) h.0 p.0)
promise_above id i now p (inr h) = inr (below_below id now.promised i h p.0)

own_promise : (id i : EpochId) (s t : ℕ) (trace : List Line) → MayPromise (standing t trace) i → Above id (standing s trace) → Above id (cond (t == s) (record { promised = i; installed = false; epoch = (standing s trace).epoch }) (standing s trace))
own_promise id i s t trace p h =
    (elim (t == s) as (λ b. (t == s) ≡ b → Above id (cond b (record { promised = i; installed = false; epoch = (standing s trace).epoch }) (standing s trace))) [
      | true ↦ λ e. promise_above id i (standing s trace) (subst (λ (x : ℕ). MayPromise (standing x trace) i) (equal t s e) p) h
      | false ↦ λ e. h
    ]) refl

told_above : (id : EpochId) (s : ℕ) (x : Told) (trace : List Line) → (IsUp s x → ⊥) → GoesOn x trace → Above id (standing s trace) → Above id (after_told s x (standing s trace))
told_above id s (Shown r) trace up g h = record_above id s r (standing s trace) up h
told_above id s (Promises t i reach) trace up g h = own_promise id i s t trace g h
told_above id s _ trace up g h = h

since : (id : EpochId) (s : ℕ) (between rest : List Line) → StaysUp s between → EpochsGoOn (between ++ rest) → Above id (standing s rest) → Above id (standing s (between ++ rest))
since id s [] rest up g h = h
since id s (x ∷ xs) rest up g h = told_above id s x.told (xs ++ rest) up.0 g.0 (since id s xs rest up.1 g.1 h)

suffix : (newer rest : List Line) → EpochsGoOn (newer ++ rest) → EpochsGoOn rest
suffix [] rest g = g
suffix (x ∷ xs) rest g = suffix xs rest g.1

join_above : (id : EpochId) (s : ℕ) (now : Standing) → MayJoin now id → Above id (cond (s == s) (record { promised = now.promised; installed = true; epoch = Some id }) now)
join_above id s now m = subst (λ (b : Bool). Above id (cond b (record { promised = now.promised; installed = true; epoch = Some id }) now)) (sym (equal_self s)) (inl (m.0, refl))

rises : (id later : EpochId) (now : Standing) → Above id now → MayJoin now later → is_epoch_below id later ≡ true
rises id later now (inl h) m = absurd (true_false (sym h.1 ∙ m.1))
rises id later now (inr h) m = subst (λ (x : EpochId). is_epoch_below id x ≡ true) m.0 h

go_on_rise : (trace : List Line) → EpochsGoOn trace → JoinsRise trace
go_on_rise trace g s j k later id members others newer between older e up =
    let first : List Line = joins_line j s id others ∷ older in
    let last : EpochsGoOn (joins_line k s later members ∷ (between ++ first)) = suffix newer (joins_line k s later members ∷ (between ++ first)) (subst EpochsGoOn e g) in
    let base : EpochsGoOn first = suffix between first last.1 in
    rises id later (standing s (between ++ first)) (since id s between first up last.1 (join_above id s (standing s older) base.0)) last.0

pub run_joins_rise : (c : Config) (lines : List ScheduleLine) → JoinsRise (run_in c lines).trace
run_joins_rise c lines = let g : Good (run_in c lines) = run_good c lines in go_on_rise (run_in c lines).trace g.law

pub run_goes_on : (c : Config) (lines : List ScheduleLine) → EpochsGoOn (run_in c lines).trace
run_goes_on c lines = let g : Good (run_in c lines) = run_good c lines in g.law

pub run_names : (c : Config) (lines : List ScheduleLine) → PacketsNameTheirEpoch (run_in c lines)
run_names c lines = let g : Good (run_in c lines) = run_good c lines in g.packets

-- ---- the epoch at hand ----

stood_in : (id : EpochId) (e : InEpoch) (o : Option InEpoch) → o ≡ Some e → e.id ≡ id → IsEpochOf id o
stood_in id e o here h = subst (IsEpochOf id) (sym here) h

stood_view : (K : Deeds) (v : SiteView) → ViewOk K v → ViewOk (StoodWith v) v
stood_view K v h = record {
  round_is = h.round_is;
  waits = λ e. ((h.waits e).0, inr refl);
  joined = λ e here. (stood_in e.id e v.epoch here refl, inl (stood_in e.id e v.epoch here refl));
  tables = h.tables;
}

come_names : (w : World) (e : Event) → Good w → MayCome w e → (J : Deeds) × EventNames J e
come_names w (Receives p) g m = (DeedsOf w.trace m.0.packet.from, subst (PacketNames (DeedsOf w.trace m.0.packet.from)) m.2 (was_sent w m.0 m.1 g))
come_names w (Calls process words) g m = (DeedsOf w.trace 0, tt)
come_names w Ticks g m = (DeedsOf w.trace 0, tt)
come_names w Parts g m = (DeedsOf w.trace 0, tt)
come_names w Merges g m = (DeedsOf w.trace 0, tt)
come_names w GivesUp g m = (DeedsOf w.trace 0, tt)

pub run_steps_name : (c : Config) (lines : List ScheduleLine) → StepsNameTheirEpoch c (run_in c lines)
run_steps_name c lines s links v e here m =
    let g : Good (run_in c lines) = run_good c lines in
    let k : (J : Deeds) × EventNames J e = come_names (run_in c lines) e g m in
    (step_fine (StoodWith v) s c links v e k.0 (stood_view (DeedsOf (run_in c lines).trace s) v (g.views s v here)) k.1).sent
